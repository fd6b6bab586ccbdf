-- What comes after a head's lines is told: the resolution, the points and the text, up to the end. Assumes nothing.
use Prim.Native.Nat.{ℕ, suc, ◌+◌, ◌-◌, ◌≤◌, ◌<◌}
use mathlib.Core.Path.{◌≡◌, refl, sym, ◌∙◌}
use mathlib.Core.Bool.{Bool, true, false, not, ◌&&◌, false≢true}
use mathlib.Core.List.{List, [], ◌∷◌, ◌++◌}
use native.Mathlib.Omega.{arith}
use lib.Dec.{eqb}
use lib.ListN.{length}
use borrow.Author.Tests.{ne_eqb}
use Rattle.fields.specs.Ascii.{ascii}
use Rattle.fields.specs.Fields.{u8_at}
use Rattle.fields.specs.Lists.{pick, part, same_list}
use Rattle.fields.proofs.Slices.{part_length}
use Rattle.fields.proofs.Bools.{lt-or-le}
use Rattle.fields.proofs.Tests.{same-list-self}
use mathlib.Core.Logic.{⊎_elim}
use Rattle.report.specs.declared.Head.{Head}
use Rattle.report.specs.declared.Part.{Part}
use Rattle.forms.specs.Values.{line, number_line}
use Rattle.forms.specs.Form.{point_lines, part_lines}
use Rattle.form_reading.specs.Reading.{text_length_in}
use Rattle.form_reader.specs.Spelled.{stands, Told}
use Rattle.form_reading.proofs.Values.{first}
use Rattle.form_reader.proofs.Standing.{stands-there, told_then, line_told}
use Rattle.form_reader.proofs.SpelledPowers.{told_never}

-- no resolution stands where its name does not begin
pub no_resolution : {s : List ℕ} {at next : ℕ} {c : ℕ} (n : ℕ) → c ≡ u8_at s at → (c ≡ 114 → ⊥) → Told (number_line (ascii "resolution=") n) s at false next
unfolding line
no_resolution {s} {at} n here other =
    told_never (λ w. false≢true w)
    (λ w. other (here ∙ first s at 114 _ (stands-there (number_line (ascii "resolution=") n) s at w)))

-- the text's line does not begin as a resolution's
text-begins : (text s : List ℕ) (at : ℕ) → stands (line (ascii "text=") text) s at ≡ true → u8_at s at ≡ 116
unfolding line
text-begins text s at e = first s at 116 _ (stands-there (line (ascii "text=") text) s at e)

nothing-stands : (s : List ℕ) (at : ℕ) → stands [] s at ≡ true
unfolding same_list part
nothing-stands s at = refl

module _ (s text : List ℕ) (step : ℕ) (h : Head) {at mid last next : ℕ} {d e f there : Bool} (resolution : Told (number_line (ascii "resolution=") step) s at d mid)
    (behind : Told (line (ascii "text=") text) s last f next) (asked : there ≡ eqb (u8_at s at) 114) (stays : there ≡ false → mid ≡ at) where
  without : (t : Bool) → there ≡ t → Told [] s mid e last → Told (line (ascii "text=") text) s at (not t && f) next
  without true q none =
      told_never (λ w. false≢true w)
      (λ w. false≢true (sym (ne_eqb (u8_at s at) 114 (λ r. omega (arith, r, text-begins text s at w))) ∙ sym asked ∙ q))
  without false q none =
      let here : last ≡ at = none.after (none.told ∙ nothing-stands s mid) ∙ (omega (arith, stays q)) in
      rw here at behind

  pub rest_told : (ps : List Part) → Told (point_lines h step ps) s mid e last
      → Told (part_lines h step ps ++ line (ascii "text=") text) s at (pick (eqb (length ps) 0) (not there) (d && e) && f) next
  unfolding part_lines point_lines pick
  rest_told [] points = without there refl points
  rest_told (p ∷ ps) points =
      let some : eqb (suc (length ps)) 0 ≡ false = ne_eqb (suc (length ps)) 0 (λ q. omega arith) in
      rw some (told_then (told_then resolution points) behind)

-- the text, which ends before the last byte of the form
text-part : (s : List ℕ) (at t : ℕ) → t ≤ length s - at → length (part s at t) ≡ t
unfolding part
text-part s at t l =
    ⊎_elim
    (λ (none : t < 1). let z : t ≡ 0 = omega arith in rw z refl)
    (λ (some : 1 ≤ t). part_length s at t (omega (arith, l)))
    (lt-or-le t 1)

pub text_told : {a : Bool} {c t : ℕ} (s : List ℕ) (at : ℕ) → a ≡ stands (ascii "text=") s at → t ≡ text_length_in s at
    → c ≡ u8_at s (at + 5 + t) → Told (line (ascii "text=") (part s (at + 5) t)) s at (a && eqb c 10) (at + 6 + t)
text_told {t = t} s at named long stop =
    let text = part s (at + 5) t in
    let size : length text ≡ t = text-part s (at + 5) t (omega (arith, long)) in
    let value : Told text s (at + 5) true (at + 5 + t)
    = record { told = sym (rw size (same-list-self text)); after = λ _. omega (arith, size) } in
    let end : at + 5 + t + 1 ≡ at + 6 + t = omega arith in
    rw end at (line_told (ascii "text=") text s at named value stop)
