-- The resolution's and the points' lines give the parts back, and the last line the text. Assumes nothing.
use Prim.Native.Nat.{ℕ, zero, suc, ◌+◌, ◌-◌, ◌*◌, ◌/◌, ◌%◌, ◌≤◌, ◌<◌}
use mathlib.Core.Path.{◌≡◌, refl, ap, sym, ◌∙◌}
use mathlib.Core.Bool.{Bool, true, false, not}
use mathlib.Core.List.{List, [], ◌∷◌, ◌++◌, append_assoc}
use mathlib.Core.Logic.{⊎_elim}
use native.Mathlib.Omega.{arith}
use native.Mathlib.Nat.{div-add-mod', div-le_self}
use lib.Dec.{eqb}
use lib.IntN.{ℤ}
use lib.ListN.{length, take, drop, length-append, length-drop}
use lib.Seq.{take_at}
use mir.Syntax.{w32}
use mir.Val.{to_z}
use borrow.Author.Tests.{eqb-true, ne_eqb}
use Rattle.fields.specs.Ascii.{ascii}
use Rattle.fields.specs.Fields.{u8_at}
use Rattle.fields.specs.Lists.{pick, part, all, series, seek}
use Rattle.fields.proofs.Bools.{and_right, chosen, passed_over, lt-or-le}
use Rattle.fields.proofs.Tests.{all-at, series-more, seek_hit, seek-miss, seek-end}
use Rattle.quantities.specs.declared.Minute.{Minute}
use Rattle.report.specs.declared.Head.{Head}
use Rattle.report.specs.declared.Part.{Part}
use Rattle.report.specs.Report.{most_parts, most_text}
use Rattle.texts.specs.Numerals.{decimal, space}
use Rattle.forms.specs.Values.{line, number_line, signed_decimal}
use Rattle.forms.specs.Form.{after_start, falls, all_fall, position, point_line, point_lines, part_lines}
use Rattle.form_reading.specs.declared.Numeral.{Numeral}
use Rattle.form_reading.specs.declared.Point.{Point}
use Rattle.form_reading.specs.declared.Grid.{Grid}
use Rattle.form_reading.specs.Reading.{is_point, point_in, point_at, point_count, start_in, end_in, part_in, parts_in, resolution_in, text_length_in}
use Rattle.form_reading.proofs.Values.{first, past, value_there, number-back, number-line, power-back}
use Rattle.form_reading.proofs.Covered.{Link}

-- the first byte of each kind of line
point-begins : (f : List ℕ) (at : ℕ) (value rest : List ℕ) → drop at f ≡ line (ascii "point=") value ++ rest → is_point f at ≡ true
unfolding line
point-begins f at value rest e = rw (first f at 112 _ e)

text-begins : (f : List ℕ) (at : ℕ) (value : List ℕ) → drop at f ≡ line (ascii "text=") value → u8_at f at ≡ 116
unfolding line
text-begins f at value e = first f at 116 _ e

resolution-begins : (f : List ℕ) (at : ℕ) (value rest : List ℕ) → drop at f ≡ line (ascii "resolution=") value ++ rest
    → u8_at f at ≡ 114
unfolding line
resolution-begins f at value rest e = first f at 114 _ e

-- a point's line: its position and its power, and what stands after it
pub record PointRead (read : Point) (n u : ℕ) (s rest : List ℕ) : Type 0 where
  pub position : read.position ≡ n
  pub power : read.power ≡ record { 0 = to_z w32 u }
  pub after : drop read.next s ≡ rest

pub point_read : (f : List ℕ) (at n u : ℕ) (rest : List ℕ) → n < 10000000000 → u < 4294967296
    → drop at f ≡ line (ascii "point=") (decimal n ++ (space ++ signed_decimal (to_z w32 u))) ++ rest
    → PointRead (point_in f at) n u f rest
unfolding point_in
point_read f at n u rest l h e =
    let kw = signed_decimal (to_z w32 u) in
    let digits = decimal n in
    let v : drop (at + 6) f ≡ digits ++ (32 ∷ (kw ++ (10 ∷ rest)))
    = value_there f at (ascii "point=") (digits ++ (32 ∷ kw)) rest e ∙ append_assoc digits (32 ∷ kw) (10 ∷ rest) in
    let m = number-back f (at + 6) n 32 (kw ++ (10 ∷ rest)) v refl l in
    let behind = past f (at + 6) digits (32 ∷ (kw ++ (10 ∷ rest))) v in
    let there = past f (at + 6 + length digits) (32 ∷ []) (kw ++ (10 ∷ rest)) behind in
    let power = power-back f (at + 6 + length digits + 1) u rest h there in
    record {
      position = ap (λ (x : Numeral). x.value) m;
      power = rw (m, power.value);
      after = rw m power.after;
    }

same_minute : {m n : Minute} → m.0 ≡ n.0 → m ≡ n
same_minute e =
    let made : ℕ → Minute = λ k. record { 0 = k } in
    ap made e

-- a position gives its minute back
position-back : (start m step : ℕ) → start ≤ m → m < 4294967296 → (m - start) % step ≡ 0
    → (start + ((m - start) / step + 1 - 1) * step) % 4294967296 ≡ m
position-back start m step a b e =
    let one : (m - start) / step + 1 - 1 ≡ (m - start) / step = omega arith in
    let d = div-add-mod' (m - start) step in
    rw one (omega (arith, d, e))

-- k parts that a head's period is cut into, whose starts fall on a step, in numbers of 32 bits
pub record Points (h : Head) (parts : ℕ → Part) (bits : ℕ → ℕ) (k step : ℕ) : Type 0 where
  pub few : k ≤ most_parts
  pub on : all_fall h (series parts 0 k) step ≡ true
  pub link : (j : ℕ) → j < k → Link parts k h.period j
  pub early : (j : ℕ) → j < k → (parts j).period.start.0 < 4294967296
  pub power : (j : ℕ) → j < k → (parts j).power.0 ≡ to_z w32 (bits j)
  pub small : (j : ℕ) → j < k → bits j < 4294967296

module _ (h : Head) (parts : ℕ → Part) (bits : ℕ → ℕ) (k step : ℕ) (points : Points h parts bits k step) where
  start-falls : (j : ℕ) → j < k → after_start h (parts j).period.start % step ≡ 0
  unfolding all_fall
  start-falls j l =
      let each = all (λ p. falls h step p.period.start) (series parts 0 k) in
      let on = and_right (falls h step h.period.end) each points.on in
      eqb-true _ _ (all-at (λ p. falls h step p.period.start) parts 0 k j on (omega arith) (omega arith))

  -- the lines of the parts from j on, and then the text
  abbrev lines_from : List ℕ → ℕ → List ℕ
  lines_from text j = point_lines h step (series parts j (k - j)) ++ line (ascii "text=") text

  module _ (f text : List ℕ) (at : ℕ) (there : drop at f ≡ point_lines h step (series parts 0 k) ++ line (ascii "text=") text) where
    line_there : (j : ℕ) → j < k → drop (point_at f at j) f ≡ lines_from text j
        → drop (point_at f at j) f ≡ point_line h step (parts j) ++ lines_from text (j + 1)
    unfolding point_lines
    line_there j l e =
        let more = point_lines h step (series parts (j + 1) (k - (j + 1))) in
        rw (series-more parts j k l) at e ∙ append_assoc (point_line h step (parts j)) more (line (ascii "text=") text)

    read_here : (j : ℕ) → j < k → drop (point_at f at j) f ≡ lines_from text j
        → PointRead (point_in f (point_at f at j)) (position h step (parts j)) (bits j) f (lines_from text (j + 1))
    read_here j l e =
        let d = div-le_self (after_start h (parts j).period.start) step in
        point_read f (point_at f at j) (position h step (parts j)) (bits j) (lines_from text (j + 1))
        (omega (arith, d, points.early j l)) (points.small j l) (rw (points.power j l) at (line_there j l e))

    places : (j : ℕ) → j ≤ k → drop (point_at f at j) f ≡ lines_from text j
    unfolding point_at
    places zero l =
        let z : k - 0 ≡ k = omega arith in
        rw z there
    places (suc j) l =
        let one : j + 1 ≡ suc j = omega arith in
        rw one at (read_here j (omega arith) (places j (omega arith))).after

    read_there : (j : ℕ) → j < k
        → PointRead (point_in f (point_at f at j)) (position h step (parts j)) (bits j) f (lines_from text (j + 1))
    read_there j l = read_here j l (places j (omega arith))

    has_point : (j : ℕ) → j < k → is_point f (point_at f at j) ≡ true
    has_point j l = point-begins f (point_at f at j) _ _ (line_there j l (places j (omega arith)))

    pub text_there : drop (point_at f at k) f ≡ line (ascii "text=") text
    unfolding point_lines series
    text_there =
        let z : k - k ≡ 0 = omega arith in
        rw z at (places k (omega arith))

    no_point : is_point f (point_at f at k) ≡ false
    no_point = rw (text-begins f (point_at f at k) text text_there)

    -- the points are counted up to the text
    abbrev no_point_at : ℕ → Bool
    no_point_at j = not (is_point f (point_at f at j))

    counted_from : (j : ℕ) → j ≤ k → point_count f at ≡ seek no_point_at j (most_parts - j)
    unfolding point_count
    counted_from zero l = refl
    counted_from (suc j) l =
        let one : j + 1 ≡ suc j = omega arith in
        let missed = seek-miss no_point_at j most_parts (omega (arith, points.few)) (rw (has_point j (omega arith))) in
        counted_from j (omega arith) ∙ rw one at missed

    pub counted : point_count f at ≡ k
    counted =
        counted_from k (omega arith)
        ∙ ⊎_elim (λ l. seek_hit no_point_at k most_parts l (rw no_point))
        (λ l.
        let all : k ≡ most_parts = omega (arith, points.few) in
        seek-end no_point_at k most_parts all ∙ sym all)
        (lt-or-le k most_parts)

    module _ (g : Grid) (same_period : g.period ≡ h.period) (same_step : 1 ≤ k → g.step ≡ step) where
      start_read : (j : ℕ) → j < k → start_in f g (point_at f at j) ≡ (parts j).period.start
      start_read j l =
          let start = (parts j).period.start in
          let back = position-back h.period.start.0 start.0 step (points.link j l).late (points.early j l) (start-falls j l) in
          rw ((read_there j l).position, same_period, same_step (omega arith)) (same_minute back)

      end-at : (j : ℕ) → end_in f g (point_at f at j)
          ≡ pick (is_point f (point_at f at (suc j))) (start_in f g (point_at f at (suc j))) g.period.end
      unfolding point_at
      end-at j = refl

      -- "the value holding until the next position given"
      end_read : (j : ℕ) → j < k → end_in f g (point_at f at j) ≡ (parts j).period.end
      end_read j l =
          let next = point_at f at (suc j) in
          let one : j + 1 ≡ suc j = omega arith in
          end-at j
          ∙ ⊎_elim
          (λ more.
          chosen (start_in f g next) g.period.end {q = is_point f next} refl (has_point (suc j) more) ∙ start_read (suc j) more
          ∙ same_minute (sym (rw one at (points.link j l).next (omega arith))))
          (λ none.
          let last : k ≡ suc j = omega arith in
          passed_over (start_in f g next) g.period.end {q = is_point f next} refl (rw last at no_point)
          ∙ rw same_period (same_minute (sym ((points.link j l).last (omega arith)))))
          (lt-or-le (suc j) k)

      part_read : (j : ℕ) → j < k → part_in f g (point_at f at j) ≡ parts j
      part_read j l =
          let power : (point_in f (point_at f at j)).power ≡ (parts j).power
          = (read_there j l).power ∙ ap (λ (z : ℤ). record { 0 = z }) (sym (points.power j l)) in
          rw (start_read j l, end_read j l, power)

      parts_from : (i n : ℕ) → i + n ≤ k → series (λ j. part_in f g (point_at f at j)) i n ≡ series parts i n
      unfolding series
      parts_from i zero l = refl
      parts_from i (suc n) l = rw (part_read i (omega arith), parts_from (i + 1) n (omega arith))

      pub parts_read : parts_in f g at k ≡ series parts 0 k
      parts_read = parts_from 0 k (omega arith)

-- the resolution's line, which is there where there are parts
pub record StepRead (read : Numeral) (ps : List Part) (step : ℕ) (s rest : List ℕ) : Type 0 where
  pub value : 1 ≤ length ps → read.value % 65536 ≡ step
  pub after : drop read.next s ≡ rest

pub step_read : (f text : List ℕ) (at step : ℕ) (h : Head) (ps : List Part) → step < 65536
    → drop at f ≡ part_lines h step ps ++ line (ascii "text=") text
    → StepRead (resolution_in f at) ps step f (point_lines h step ps ++ line (ascii "text=") text)
unfolding part_lines point_lines resolution_in pick
step_read f text at step h [] l e = rw (text-begins f at text e) record { value = λ m. absurd (omega arith); after = e }
step_read f text at step h (p ∷ ps) l e =
    let points = point_lines h step (p ∷ ps) in
    let last = line (ascii "text=") text in
    let some : eqb (suc (length ps)) 0 ≡ false = ne_eqb (suc (length ps)) 0 (λ q. omega arith) in
    let lines = rw some at e ∙ append_assoc (number_line (ascii "resolution=") step) points last in
    let m = number-line f at step (ascii "resolution=") (points ++ last) (omega arith) lines in
    rw (resolution-begins f at (decimal step) (points ++ last) lines) record { value = λ n. rw m.value (omega arith); after = m.after }

-- the text, and its length
module _ (f text : List ℕ) (at : ℕ) (short : length text ≤ most_text) (there : drop at f ≡ line (ascii "text=") text) where
  rest-length : length f - at ≡ 6 + length text
  unfolding line
  rest-length = sym (length-drop at f) ∙ ap length there ∙ rw (length-append text (10 ∷ [])) (omega arith)

  pub length_read : text_length_in f at ≡ length text
  length_read = omega (arith, rest-length, short)

  pub text_read : part f (at + 5) (length text) ≡ text
  unfolding part line
  text_read = ap (take (length text)) (past f at (ascii "text=") (text ++ (10 ∷ [])) there) ∙ take_at text (10 ∷ []) (length text) refl
