-- A block whose slots are made one after the other, and then its head. Assumes nothing.
use Prim.Native.Nat.{ℕ, zero, suc, ◌+◌, ◌*◌, ◌-◌, ◌≤◌, ◌<◌}
use mathlib.Core.Path.{◌≡◌, refl, ap, sym, ◌∙◌}
use mathlib.Core.Bool.{Bool, true, false, ◌&&◌}
use mathlib.Core.List.{List, [], ◌∷◌, ◌++◌, append_assoc}
use mathlib.Core.Logic.{⊎_elim}
use native.Mathlib.Omega.{arith}
use native.Mathlib.Nat.{zero-add}
use lib.Dec.{leb, ltb, eqb}
use lib.ListN.{length, get_or, take, drop, length-append, take-append-drop, length-drop}
use lib.Seq.{sets-eq, take-add, take_at, drop_at, drop-drop, take-append-le, drop-append-le}
use borrow.Author.Tests.{lt-ltb, le-ltb, eq-eqb, le-leb, eqb-true, leb-true}
use Rattle.fields.specs.Fields.{u8_at, bytes_of}
use Rattle.fields.specs.Lists.{pick, joined, part, put}
use Rattle.fields.proofs.Bools.{pick-elim, lt-or-le, and_left, and_right}
use Rattle.fields.proofs.Slices.{part_length, part-after, part-lent, lent_back, put-length}
use Rattle.fields.proofs.Joined.{joined_same, joined_length, part-joined, put-joined}
use Rattle.fields.proofs.Numbers.{bytes-length}
use Rattle.fields.proofs.Tests.{series-length}
use Rattle.report.specs.declared.Head.{Head}
use Rattle.report.specs.Report.{most_parts, head_of, parts_of, part_count_of, part_at}
use Rattle.rules.specs.declared.Row.{Row}
use Rattle.rules.specs.Block.{head_size, slot_size, slot_count, block_size, slot_at, is_slot}
use Rattle.rules.specs.Questions.{record_of, stamp_of}
use Rattle.rules.specs.After.{put_row}
use Rattle.rules.proofs.Slots.{slot-length}
use Rattle.rules.proofs.Holding.{zeros-length}
use Rattle.rules.proofs.Heads.{row-length}
use Rattle.rules.proofs.Afterwards.{slot-size}
use Rattle.after.specs.declared.Plan.{Plan}
use Rattle.after.specs.Plan.{slot_made, slot_planned, row_planned, head_made, slots_planned, plan_applied}

-- what is put in the first of two lists, or in the second
pub put_first : (xs ys vs : List ℕ) (at : ℕ) → at + length vs ≤ length xs → put (xs ++ ys) at vs ≡ put xs at vs ++ ys
unfolding put
put_first xs ys vs at h =
    let room : at + length vs ≤ length (xs ++ ys) = rw (length-append xs) (omega arith) in
    rw (
      sets-eq vs (xs ++ ys) at room,
      sets-eq vs xs at h,
      take-append-le at xs ys (omega arith),
      drop-append-le (at + length vs) xs ys h,
    )
    (sym (append_assoc (take at xs ++ vs) (drop (at + length vs) xs) ys))

pub put_second : (xs ys vs : List ℕ) (n at : ℕ) → length xs ≡ n → at + length vs ≤ length ys
    → put (xs ++ ys) (n + at) vs ≡ xs ++ put ys at vs
unfolding put
put_second xs ys vs n at e h =
    let room : n + at + length vs ≤ length (xs ++ ys) = rw (length-append xs) (omega arith) in
    let k : n + at + length vs ≡ n + (at + length vs) = omega arith in
    let d : drop (n + at + length vs) (xs ++ ys) ≡ drop (at + length vs) ys =
    ap (λ (j : ℕ). drop j (xs ++ ys)) k ∙ sym (drop-drop (at + length vs) n (xs ++ ys))
    ∙ ap (drop (at + length vs)) (drop_at xs ys n e) in
    let t : take (n + at) (xs ++ ys) ≡ xs ++ take at ys =
    take-add n at (xs ++ ys) ∙ rw (take_at xs ys n e, drop_at xs ys n e) in
    rw (sets-eq vs (xs ++ ys) (n + at) room, sets-eq vs ys at h, d, t, append_assoc xs (take at ys) vs)
    (append_assoc xs (take at ys ++ vs) (drop (at + length vs) ys))

-- a block's slots one after the other
slots-joined : (b : List ℕ) (i n : ℕ) → length b ≡ head_size + slot_size * (i + n)
    → joined (slot_at b) i n ≡ drop (head_size + slot_size * i) b
unfolding joined slot_at part
slots-joined b i zero e = sym (none (drop (head_size + slot_size * i) b) (rw (length-drop) (omega arith))) where
  none : (l : List ℕ) → length l ≡ 0 → l ≡ []
  none [] h = refl
  none (x ∷ l) h = absurd (omega arith)
slots-joined b i (suc n) e =
    let k : head_size + slot_size * (i + 1) ≡ head_size + slot_size * i + slot_size = omega arith in
    rw (slots-joined b (i + 1) n (omega arith), k, ← drop-drop slot_size (head_size + slot_size * i) b)
    (take-append-drop slot_size (drop (head_size + slot_size * i) b))

row_first : (H J : List ℕ) (row : Row) → length H ≡ head_size → put_row (H ++ J) row ≡ put_row H row ++ J
unfolding put_row
row_first H J row e =
    let n = bytes-length 4 row.since.0 in
    let l : length (put H 7 (row.state.0 ∷ row.qualification ∷ [])) ≡ head_size = put-length H 7 _ ∙ e in
    rw (put_first H J (row.state.0 ∷ row.qualification ∷ []) 7 (omega arith))
    (put_first (put H 7 (row.state.0 ∷ row.qualification ∷ [])) J (bytes_of 4 row.since.0) 12 (omega arith))

-- what is put in a block's head
pub head_first : (H J : List ℕ) (t : Bool) (row : Row) (v : ℕ) → length H ≡ head_size
    → head_made (H ++ J) t row v ≡ head_made H t row v ++ J
unfolding head_made pick
head_first H J true row v e =
    let n = bytes-length 4 v in
    let l = row-length H e row in
    rw (row_first H J row e) (put_first (put_row H row) J (bytes_of 4 v) 16 (omega arith))
head_first H J false row v e =
    let n = bytes-length 4 v in
    put_first H J (bytes_of 4 v) 16 (omega arith)

module _ (b s : List ℕ) (plan : Plan) where
  -- the slots below i as planned, the others as they were
  unfoldable pub mixed : ℕ → ℕ → List ℕ
  mixed i w = pick (ltb w i) (slot_planned b s plan w) (slot_at b w)

  unfoldable pub progress : ℕ → List ℕ
  progress i = part b 0 head_size ++ joined (mixed i) 0 slot_count

  mixed-below : (i w : ℕ) → w < i → mixed i w ≡ slot_planned b s plan w
  unfolding mixed pick
  mixed-below i w h = rw (lt-ltb w i h) refl

  mixed-above : (i w : ℕ) → i ≤ w → mixed i w ≡ slot_at b w
  unfolding mixed pick
  mixed-above i w h = rw (le-ltb w i h) refl

  pub progress-all : progress slot_count ≡ slots_planned b s plan
  unfolding progress slots_planned
  progress-all =
      ap (λ (l : List ℕ). part b 0 head_size ++ l)
      (joined_same (mixed slot_count) (slot_planned b s plan) 0 slot_count (λ v a c. mixed-below slot_count v (omega arith)))

  module _ (size : length b ≡ block_size) where
    pub progress-none : b ≡ progress 0
    unfolding progress part
    progress-none =
        sym (ap (λ (l : List ℕ). take head_size b ++ l)
        (joined_same (mixed 0) (slot_at b) 0 slot_count (λ v a c. mixed-above 0 v (omega arith)) ∙ slots-joined b 0 slot_count size)
        ∙ take-append-drop head_size b)

    head-size : length (part b 0 head_size) ≡ head_size
    head-size = part_length b 0 head_size (omega arith)

    module _ (few : part_count_of s ≤ most_parts) where
      made-length : (t u : Bool) (z : List ℕ) → length z ≡ slot_size → length (slot_made s t u z) ≡ slot_size
      unfolding slot_made
      made-length t u z l =
          let n : length (parts_of s) ≤ most_parts = omega (arith, series-length (part_at s) 0 (part_count_of s)) in
          pick-elim (λ (x : List ℕ). length x ≡ slot_size) t (λ e. slot-length (record_of s) (parts_of s) (u8_at s) 16 refl n)
          (λ e. pick-elim (λ (x : List ℕ). length x ≡ slot_size) u (λ q. zeros-length slot_size) (λ q. l))

      mixed-length : (i v : ℕ) → v < slot_count → length (mixed i v) ≡ slot_size
      unfolding mixed
      mixed-length i v h =
          pick-elim (λ (x : List ℕ). length x ≡ slot_size) (ltb v i) (λ e. made-length _ _ _ (slot-size b size v h))
          (λ e. slot-size b size v h)

      slot-yet : (i : ℕ) → i < slot_count → part (progress i) (head_size + slot_size * i) slot_size ≡ slot_at b i
      unfolding progress
      slot-yet i h =
          part-after (part b 0 head_size) _ head_size (slot_size * i) slot_size head-size
          ∙ part-joined slot_size (mixed i) 0 slot_count (λ v a c. mixed-length i v (omega arith)) i h
          ∙ ap (mixed i) (zero-add i) ∙ mixed-above i i (omega arith)

      pub progress-length : (i : ℕ) → length (progress i) ≡ block_size
      unfolding progress
      progress-length i =
          length-append (part b 0 head_size) _
          ∙ rw (head-size, joined_length slot_size (mixed i) 0 slot_count (λ v a c. mixed-length i v (omega arith))) refl

      slot-put-in : (i : ℕ) → i < slot_count → put (progress i) (head_size + slot_size * i) (slot_planned b s plan i) ≡ progress (i + 1)
      unfolding progress
      slot-put-in i h =
          let here : slot_planned b s plan i ≡ mixed (i + 1) (0 + i) = sym
          (ap (mixed (i + 1)) (zero-add i) ∙ mixed-below (i + 1) i (omega arith)) in
          let long : length (mixed (i + 1) (0 + i)) ≡ slot_size = mixed-length (i + 1) (0 + i) (omega arith) in
          let whole : length (joined (mixed i) 0 slot_count) ≡ 7104 = joined_length slot_size (mixed i) 0 slot_count
          (λ v a c. mixed-length i v (omega arith)) in
          rw here
          (put_second (part b 0 head_size) (joined (mixed i) 0 slot_count) (mixed (i + 1) (0 + i)) head_size
          (slot_size * i) head-size (omega arith)
          ∙ ap (λ (l : List ℕ). part b 0 head_size ++ l)
          (put-joined slot_size (mixed i) 0 slot_count (λ v a c. mixed-length i v (omega arith)) i h (mixed (i + 1)) long (same i)))
        where
          same : (j w : ℕ) → (w ≡ 0 + j → ⊥) → 0 ≤ w → w < 0 + slot_count → mixed j w ≡ mixed (j + 1) w
          same j w d l r = ⊎_elim (λ a. mixed-below j w a ∙ sym (mixed-below (j + 1) w (omega arith)))
              (λ a. mixed-above j w a ∙ sym (mixed-above (j + 1) w (omega arith))) (lt-or-le w j)

      -- one slot more
      pub progress-more : (c : List ℕ) (i : ℕ) → c ≡ progress i → i < slot_count
          → put c (head_size + slot_size * i)
          (slot_made s (is_slot plan.written i) (get_or plan.cleared i false)
          (part c (head_size + slot_size * i) slot_size)) ≡ progress (i + 1)
      progress-more c i e h =
          rw (e, slot-yet i h) (slot-put-in i h)

      -- what the loop's turn leaves, the slot lent and given back as vs
      pub slot-turned : (c vs : List ℕ) (i : ℕ) {t : Bool} → t ≡ is_slot plan.written i → c ≡ progress i → i < slot_count
          → length vs ≡ length (take (head_size + slot_size * i + slot_size - (head_size + slot_size * i))
          (drop (head_size + slot_size * i) c))
          → vs ≡ slot_made s t (get_or plan.cleared i false)
          (take (head_size + slot_size * i + slot_size - (head_size + slot_size * i)) (drop (head_size + slot_size * i) c))
          → take (head_size + slot_size * i) c ++
          (vs ++ drop (head_size + slot_size * i + slot_size - (head_size + slot_size * i))
          (drop (head_size + slot_size * i) c)) ≡ progress (i + 1)
      slot-turned c vs i {t} q e h l f =
          let n : length c ≡ block_size = ap length e ∙ progress-length i in
          lent_back (slot_made s t (get_or plan.cleared i false)) c (head_size + slot_size * i) slot_size vs
          (omega arith) l f
          ∙ rw q (progress-more c i e h)

-- the length of a part that is lent
pub lent_length : (s : List ℕ) (at n : ℕ) → at + n ≤ length s → length (take (at + n - at) (drop at s)) ≡ n
lent_length s at n h = ap length (part-lent s at n) ∙ part_length s at n h

-- the two ways out
pub applied : (b s : List ℕ) (plan : Plan) {c d : List ℕ} {row : Row} {stamp : ℕ} → length b ≡ block_size → part_count_of s ≤ most_parts
    → row ≡ row_planned b s → stamp ≡ stamp_of s → c ≡ slots_planned b s plan → d ≡ head_made c plan.changes row stamp
    → d ≡ plan_applied b s plan
unfolding plan_applied pick slots_planned
applied b s plan size few r t e f =
    f ∙ rw (e, r, t, eq-eqb (length b) block_size size, le-leb (part_count_of s) most_parts few)
    (head_first (part b 0 head_size) (joined (slot_planned b s plan) 0 slot_count) plan.changes (row_planned b s) (stamp_of s)
    (part_length b 0 head_size (omega arith)))

-- the test of the code, on the head that it read
test_read : (b s : List ℕ) {h : Head} → h ≡ head_of s
    → (eqb (length b) block_size && leb h.part_count most_parts) ≡ (eqb (length b) block_size && leb (part_count_of s) most_parts)
test_read b s e = ap (λ (h : Head). eqb (length b) block_size && leb h.part_count most_parts) e

pub tested : (b s : List ℕ) {h : Head} → h ≡ head_of s → (eqb (length b) block_size && leb h.part_count most_parts) ≡ true
    → (length b ≡ block_size) × (part_count_of s ≤ most_parts)
tested b s e t =
    let f : (eqb (length b) block_size && leb (part_count_of s) most_parts) ≡ true = sym (test_read b s e) ∙ t in (
      eqb-true _ _ (and_left (eqb (length b) block_size) (leb (part_count_of s) most_parts) f),
      leb-true _ _
          (and_right (eqb (length b) block_size) (leb (part_count_of s) most_parts) f),
    )

pub left_alone : (b s : List ℕ) (plan : Plan) {h : Head} → h ≡ head_of s
    → (eqb (length b) block_size && leb h.part_count most_parts) ≡ false → b ≡ plan_applied b s plan
unfolding plan_applied pick
left_alone b s plan e t = rw (sym (test_read b s e) ∙ t) refl
