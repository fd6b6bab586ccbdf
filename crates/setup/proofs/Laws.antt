-- Zeros written one by one, the fresh block, and one block after the other. Assumes nothing.
use Prim.Native.Nat.{ℕ, ◌+◌, ◌*◌, ◌-◌, ◌≤◌, ◌<◌}
use mathlib.Core.Path.{◌≡◌, refl, ap, sym, ◌∙◌}
use mathlib.Core.Bool.{Bool, true}
use mathlib.Core.List.{List, [], ◌++◌}
use native.Mathlib.Omega.{arith}
use native.Mathlib.Nat.{zero-add}
use lib.ListN.{length, get_or, take, drop, length-append, length-replicate, replicate-append-replicate, drop_of_length-le}
use lib.Seq.{sets-eq}
use mathlib.Core.List.{append-nil}
use Rattle.fields.specs.Fields.{bytes_of}
use Rattle.fields.specs.Lists.{pick, joined, put}
use Rattle.fields.proofs.Bools.{every_true, range-true}
use Rattle.fields.proofs.Slices.{put-nothing, put-append, put-length, part_length, part-lent, lent_back}
use Rattle.fields.proofs.Joined.{joined-cut, joined_length, joined_same}
use Rattle.rules.specs.declared.RosterEntry.{RosterEntry}
use Rattle.rules.specs.Roster.{most_units, entry_size, entry_of, roster_good, pieces_pass}
use Rattle.rules.specs.Block.{head_size, slot_size, slot_count, block_size, zeros, head_bytes, fresh_block}
use borrow.Author.Tests.{eq-eqb}
use Rattle.rules.specs.Desk.{units, entry_at, set_up, new_register}
use Rattle.rules.specs.declared.UnitHead.{UnitHead}
use Rattle.rules.specs.After.{put_row}
use Rattle.std.specs.Simd.{first_chunks}
use Rattle.fields.proofs.Chunks.{chunk-at}
use Rattle.block.specs.Codec.{put_unit, put_last_stamp, put_powers, put_unit_head}

zeros-head : (n m : ℕ) → zeros (n + m) ≡ zeros n ++ zeros m
unfolding zeros
zeros-head n m = sym (replicate-append-replicate n m 0)

-- the writes on zeros, as paper 01's list of bytes
written : (tail : List ℕ) (h : UnitHead) → put_unit_head (zeros head_size ++ tail) h ≡ head_bytes h ++ tail
unfolding put_unit_head put_powers put_last_stamp put_row put_unit head_bytes put bytes_of zeros
written tail h = refl

-- a block cleared, and its head written
pub fresh-written : (unit : ℕ) (e : RosterEntry) (first : List ℕ) {a b : List ℕ} {h : UnitHead} → length first ≡ block_size
    → a ≡ zeros (length first) → b ≡ put_unit_head a h → h ≡ record {
      unit = unit;
      owner = e.owner;
      kind = e.kind;
      row = e.row;
      last_stamp = e.row.since;
      powers = e.powers;
    } → b ≡ fresh_block unit e
unfolding fresh_block
fresh-written unit e first {a} {b} {h} long cleared headed same =
    let zero : a ≡ zeros head_size ++ zeros (slot_size * slot_count) =
    cleared ∙ ap zeros long ∙ zeros-head head_size (slot_size * slot_count) in
    rw (headed, zero, same) (written (zeros (slot_size * slot_count)) _)

fresh-length : (unit : ℕ) (e : RosterEntry) → length (fresh_block unit e) ≡ block_size
unfolding fresh_block head_bytes bytes_of zeros
fresh-length unit e =
    length-append (head_bytes (record {
      unit = unit;
      owner = e.owner;
      kind = e.kind;
      row = e.row;
      last_stamp = e.row.since;
      powers = e.powers;
    })) (zeros (slot_size * slot_count)) ∙ ap (λ (n : ℕ). head_size + n)
    (length-replicate {A = ℕ} (slot_size * slot_count) 0)

-- the block of a unit, by its entry
abbrev pub fresh : List (List ℕ) → ℕ → List ℕ
fresh entries unit = fresh_block unit (entry_of (get_or entries (unit - 1) []))

joined-on : (f : ℕ → List ℕ) (i : ℕ) → joined f 1 (i + 1) ≡ joined f 1 i ++ f (i + 1)
unfolding joined
joined-on f i =
    let e : 1 + i ≡ i + 1 = omega arith in
    joined-cut f 1 i 0 ∙ rw e (ap (λ (x : List ℕ). joined f 1 i ++ x) (append-nil (f (i + 1))))

-- a loop that writes one block after the other: none yet, one more, and all
pub blocks-none : (s : List ℕ) (f : ℕ → List ℕ) → s ≡ put s 0 (joined f 1 0)
unfolding joined
blocks-none s f = sym (put-nothing s 0)

block_more : (entries : List (List ℕ)) (first now : List ℕ) (i : ℕ) {e : RosterEntry} → e ≡ entry_of (get_or entries i [])
    → now ≡ put first 0 (joined (fresh entries) 1 i)
    → put now (block_size * i) (fresh_block (i + 1) e) ≡ put first 0 (joined (fresh entries) 1 (i + 1))
block_more entries first now i {e} decoded before =
    let k : i + 1 - 1 ≡ i = omega arith in
    let here : fresh_block (i + 1) e ≡ fresh entries (i + 1) = ap (fresh_block (i + 1)) (decoded ∙ rw k) in
    let long : 0 + length (joined (fresh entries) 1 i) ≡ block_size * i =
    zero-add _ ∙ joined_length block_size (fresh entries) 1 i (λ v a b. fresh-length v _) in
    rw (here, before, ← long)
    (sym (put-append (joined (fresh entries) 1 i) (fresh entries (i + 1)) first 0))
    ∙ ap (put first 0) (sym (joined-on (fresh entries) i))

pub block_room : (s : List ℕ) (at : ℕ) → at + block_size ≤ length s → length (take (at + block_size - at) (drop at s)) ≡ block_size
block_room s at h = ap length (part-lent s at block_size) ∙ part_length s at block_size h

-- the block of the turn was lent and came back as vs
pub block-lent : (entries : List (List ℕ)) (first now : List ℕ) (i : ℕ) {vs : List ℕ} {e : RosterEntry}
    → e ≡ entry_of (get_or entries i []) → length now ≡ length first → now ≡ put first 0 (joined (fresh entries) 1 i)
    → block_size * i + block_size ≤ length now
    → length vs ≡ length (take (block_size * i + block_size - block_size * i) (drop (block_size * i) now)) → vs ≡ fresh_block (i + 1) e
    → let after = take (block_size * i) now ++ (vs ++ drop (block_size * i + block_size - block_size * i)
    (drop (block_size * i) now)) in (length after ≡ length first) × (after ≡ put first 0 (joined (fresh entries) 1 (i + 1)))
block-lent entries first now i {vs} {e} decoded same before room kept left =
    let back = lent_back (λ b. fresh_block (i + 1) e) now (block_size * i) block_size vs room kept left in (
      ap length back ∙ put-length now (block_size * i) (fresh_block (i + 1) e) ∙ same,
      back ∙ block_more entries first now i decoded before,
    )

put_all : (s vs : List ℕ) → length vs ≡ length s → put s 0 vs ≡ vs
unfolding put
put_all s vs e =
    let past : length s ≤ 0 + length vs = omega arith in
    let rest : drop (0 + length vs) s ≡ [] = drop_of_length-le s past in
    sets-eq vs s 0 (omega arith) ∙ rw rest (append-nil vs)

pub blocks-all : (entries : List (List ℕ)) (first : List ℕ) (n : ℕ) → length first ≡ block_size * n
    → put first 0 (joined (fresh entries) 1 n) ≡ joined (fresh entries) 1 n
blocks-all entries first n l =
    put_all first _ (joined_length block_size (fresh entries) 1 n (λ v a b. fresh-length v _) ∙ sym l)

-- the entries of a roster, one after the other
blocks_of_roster : (roster : List ℕ) (entries : List (List ℕ)) → entries ≡ first_chunks entry_size (units roster) roster
    → joined (fresh entries) 1 (units roster) ≡ joined (λ u. fresh_block u (entry_of (entry_at roster u))) 1 (units roster)
blocks_of_roster roster entries e = joined_same (fresh entries) (λ u. fresh_block u (entry_of (entry_at roster u))) 1 (units roster) same where
  same : (u : ℕ) → 1 ≤ u → u < 1 + units roster → fresh entries u ≡ fresh_block u (entry_of (entry_at roster u))
  same u l r = ap (λ (x : List ℕ). fresh_block u (entry_of x))
      (ap (λ (x : List (List ℕ)). get_or x (u - 1) []) e ∙ chunk-at entry_size (units roster) (u - 1) roster (omega arith))

pub set_up-written : (roster register : List ℕ) {g : Bool} {r : List ℕ} (entries : List (List ℕ)) → g ≡ roster_good roster → g ≡ true
    → entries ≡ first_chunks entry_size (units roster) roster → length entries ≡ units roster
    → length register ≡ block_size * length entries → r ≡ joined (fresh entries) 1 (length entries) → r ≡ (set_up roster register).after
unfolding set_up new_register pick
set_up-written roster register entries asked good read n size e =
    let all : length register ≡ block_size * units roster = size ∙ ap (λ (k : ℕ). block_size * k) n in
    e ∙ rw (n, ← asked, good, eq-eqb (length register) (block_size * units roster) all) (blocks_of_roster roster entries read)

-- a good roster has few entries
pub roster_few : (roster : List ℕ) {g : Bool} → g ≡ roster_good roster → g ≡ true → units roster ≤ most_units
unfolding pieces_pass
roster_few roster asked e = (range-true 1 most_units (units roster) (every_true _ (sym asked ∙ e)).1.0).1
