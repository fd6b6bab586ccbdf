-- The line of a point is told by its name, its position, a blank and its power; and the lines of points one after the other. Assumes nothing.
use Prim.Native.Nat.{ℕ, ◌+◌, ◌-◌, ◌*◌, ◌≤◌, ◌<◌}
use mathlib.Core.Path.{◌≡◌, refl, ap, sym, ◌∙◌}
use mathlib.Core.Bool.{Bool, true, false, ◌&&◌}
use mathlib.Core.List.{List, [], ◌∷◌, ◌++◌, append_assoc, append-nil}
use native.Mathlib.Omega.{arith}
use native.Mathlib.Nat.{div-le_self}
use lib.Dec.{eqb}
use mir.Syntax.{w32}
use mir.Val.{to_z}
use Rattle.fields.specs.Ascii.{ascii}
use Rattle.fields.specs.Fields.{u8_at}
use Rattle.fields.specs.Lists.{part, same_list, series}
use Rattle.fields.proofs.Slices.{series-snoc}
use Rattle.report.specs.declared.Head.{Head}
use Rattle.report.specs.declared.Part.{Part}
use Rattle.texts.specs.Numerals.{decimal, line_feed}
use Rattle.forms.specs.Values.{line, signed_decimal}
use Rattle.forms.specs.Form.{position, point_line, point_lines}
use Rattle.form_reading.specs.declared.Numeral.{Numeral}
use Rattle.form_reading.specs.declared.Point.{Point}
use Rattle.form_reading.specs.declared.Grid.{Grid}
use Rattle.form_reading.specs.Reading.{number_at, power_at, is_point, point_in, point_at, part_in, parts_in}
use Rattle.form_reader.specs.Spelled.{stands, is_plain, Told}
use Rattle.form_reader.specs.SpelledPoint.{is_position}
use Rattle.form_reader.proofs.Counted.{Counted, counted_none, counted_more}
use Rattle.form_reader.proofs.Standing.{name_told, told_then}
use Rattle.form_reader.proofs.SpelledDigits.{digits_told}
use Rattle.form_reader.proofs.SpelledPowers.{told_as}
use Rattle.form_reader.proofs.Positions.{position_told}

and-flat : (a b c d e : Bool) → (a && (b && c && d) && e) ≡ (a && b && c && d && e)
and-flat true b c d e = refl
and-flat false b c d e = refl

regroup : (name digits blank power feed : List ℕ)
    → name ++ (digits ++ blank) ++ (power ++ feed) ≡ name ++ (digits ++ (blank ++ power) ++ feed)
regroup name digits blank power feed = simp append_assoc

-- the line at `at`, of the part that is read there
module _ (s : List ℕ) (g : Grid) (at : ℕ) (h : Head) (same : h.period ≡ g.period) (early : g.period.start.0 < 4294967296) where
  abbrev n : Numeral
  n = number_at s (at + 6)

  abbrev q : ℕ
  q = position h g.step (part_in s g at)

  abbrev power : List ℕ
  power = signed_decimal (part_in s g at).power.0

  position-told : is_position g n.value ≡ eqb q n.value
  unfolding point_in
  position-told = rw same (position_told g.period.start.0 g.step n.value early)

  position-small : q < 10000000000
  position-small =
      omega (arith, div-le_self ((part_in s g at).period.start.0 - h.period.start.0) g.step)

  shape : ascii "point=" ++ (decimal q ++ (32 ∷ [])) ++ (power ++ line_feed) ≡ point_line h g.step (part_in s g at)
  unfolding line
  shape = regroup (ascii "point=") (decimal q) (32 ∷ []) power line_feed

  point-told : {kw : Bool} → Told (power ++ line_feed) s (n.next + 1) kw (point_in s at).next
      → Told (point_line h g.step (part_in s g at)) s at
      (stands (ascii "point=") s at && is_plain (u8_at s (at + 6)) (eqb n.next (at + 6 + 1)) && is_position g n.value && eqb (u8_at s n.next) 32 && kw)
      (point_in s at).next
  point-told {kw} behind =
      let a = stands (ascii "point=") s at in
      let p = is_plain (u8_at s (at + 6)) (eqb n.next (at + 6 + 1)) in
      let d = eqb (u8_at s n.next) 32 in
      let digits = digits_told s (at + 6) q 32 refl (omega arith) position-small in
      let all = told_then (told_then (name_told {x = ascii "point="} refl) digits) behind in
      let flat = and-flat a p (eqb q n.value) d kw ∙ ap (λ (t : Bool). a && p && t && d && kw) (sym position-told) in
      told_as shape flat all

-- the same, as code tells it
pub point_told : {s : List ℕ} {at c d : ℕ} {a p o kw : Bool} {m pw : Numeral} (g : Grid) → m ≡ number_at s (at + 6)
    → a ≡ stands (ascii "point=") s at → c ≡ u8_at s (at + 6) → p ≡ is_plain c (eqb m.next (at + 6 + 1)) → o ≡ is_position g m.value
    → g.period.start.0 < 4294967296 → d ≡ u8_at s m.next → pw ≡ power_at s (m.next + 1)
    → Told (signed_decimal (to_z w32 pw.value) ++ line_feed) s (m.next + 1) kw pw.next → (h : Head) → h.period ≡ g.period
    → Told (point_line h g.step (part_in s g at)) s at (a && p && o && eqb d 32 && kw) pw.next
unfolding point_in
point_told {s} {at} g read named here plain placed early stop kw behind h e =
    rw (stop, placed, plain, here, named, kw, read) (point-told s g at h e early (rw (kw, read) at behind))

-- j lines of points are told, and `next` is the next line
pub record PointsTold (s : List ℕ) (g : Grid) (at next j : ℕ) (spelled : Bool) : Type 0 where
  pub counted : Counted s at next j
  pub near : next ≤ at + 29 * j
  pub told : (h : Head) → h.period ≡ g.period → Told (point_lines h g.step (parts_in s g at j)) s at spelled next

pub points_none : (s : List ℕ) (g : Grid) (at : ℕ) → PointsTold s g at at 0 true
unfolding point_lines series part same_list
points_none s g at = record {
  counted = counted_none s at;
  near = omega arith;
  told = λ h e. record { told = refl; after = λ _. omega arith };
}

points-append : (h : Head) (step : ℕ) (ps qs : List Part) → point_lines h step (ps ++ qs) ≡ point_lines h step ps ++ point_lines h step qs
unfolding point_lines
points-append h step [] qs = refl
points-append h step (p ∷ ps) qs =
    rw (points-append h step ps qs) (sym (append_assoc (point_line h step p) (point_lines h step ps) (point_lines h step qs)))

points-snoc : (h : Head) (step : ℕ) (f : ℕ → Part) (j : ℕ)
    → point_lines h step (series f 0 j) ++ point_line h step (f j) ≡ point_lines h step (series f 0 (j + 1))
unfolding point_lines
points-snoc h step f j =
    let z : 0 + j ≡ j = omega arith in
    let one : point_lines h step (f j ∷ []) ≡ point_line h step (f j) = append-nil (point_line h step (f j)) in
    sym (ap (point_lines h step) (series-snoc f 0 j ∙ ap (λ (i : ℕ). series f 0 j ++ (f i ∷ [])) z)
    ∙ points-append h step (series f 0 j) (f j ∷ []) ∙ ap (λ (x : List ℕ). point_lines h step (series f 0 j) ++ x) one)

pub points_more : {s : List ℕ} {g : Grid} {at next j : ℕ} {ok more here : Bool} {point : Point} → PointsTold s g at next j ok → j < 100
    → more ≡ is_point s next → more ≡ true → point ≡ point_in s next → point.next ≤ next + 29
    → ((h : Head) → h.period ≡ g.period → Told (point_line h g.step (part_in s g next)) s next here point.next)
    → PointsTold s g at point.next (j + 1) (ok && here)
points_more {s} {g} {at} {next} {j} p few asked is read near told = record {
  counted = counted_more p.counted few asked is read;
  near = omega (arith, p.near, near);
  told = λ h e.
      let here = told_as (ap (λ (i : ℕ). point_line h g.step (part_in s g i)) p.counted.place) refl (told h e) in
      told_as (points-snoc h g.step (λ i. part_in s g (point_at s at i)) j) refl (told_then (p.told h e) here);
}
