-- Reports are the same however their input is cut. Assumes nothing.
use Prim.Native.Nat.{ℕ, zero, suc, ◌+◌, ◌-◌, ◌≤◌, min}
use mathlib.Core.Path.{◌≡◌, refl, ap, sym, ◌∙◌}
use mathlib.Core.Bool.{Bool, true, false}
use mathlib.Core.List.{List, [], ◌∷◌, ◌++◌}
use native.Mathlib.Nat.{zero-add}
use native.Mathlib.Omega.{arith}
use Rattle.std.proofs.Math.Nat.{min-eq_left}
use Rattle.std.proofs.lemmas.List.{drop-take}
use lib.Dec.{leb}
use lib.ListN.{length, take, drop, length-take}
use lib.Seq.{drop-drop, take-take, length-take-le}
use borrow.Author.Tests.{le-leb, leb-true}
use Rattle.fields.specs.Fields.{u16_at}
use Rattle.fields.specs.Lists.{pick, part}
use Rattle.fields.proofs.Bools.{pick-elim}
use Rattle.fields.proofs.Numbers.{uint-same}
use Rattle.fields.proofs.Slices.{same-part}
use Rattle.rules.specs.Desk.{answer_to, register_after}
use Rattle.log_lines.specs.Run.{stated_length}
use Rattle.batch.specs.Batch.{report_here, first_length, first_report, ends_run, reports_here, bytes_in, run_ends, after_cut}

stated-least : (s : List ℕ) → 48 ≤ stated_length s
unfolding stated_length
stated-least s = pick-elim (λ (n : ℕ). 48 ≤ n) _ (λ t. omega arith) (λ t. omega arith)

-- the head of what is here is the input's
module _ (input : List ℕ) (w : ℕ) (long : 48 ≤ w) where
  field : (at : ℕ) → at + 2 ≤ 48 → u16_at (take w input) at ≡ u16_at input at
  unfolding part
  field at h = uint-same 2 (take w input) input at (same-part input w at (at + 2) (omega arith))

  same-stated : stated_length (take w input) ≡ stated_length input
  unfolding stated_length
  same-stated = rw (field 14 (omega arith), field 44 (omega arith))

-- what is known where the first report is here: it is the input's first, and what follows it is cut as well
pub record FirstHere (input : List ℕ) (w : ℕ) : Type 0 where
  pub size : first_length (take w input) ≡ first_length input
  pub report : first_report (take w input) ≡ first_report input
  pub left : drop (first_length input) (take w input) ≡ take (w - first_length input) (drop (first_length input) input)
  pub here : report_here input true ≡ true
  pub bytes : length (first_report input) ≡ first_length input

first-here : (input : List ℕ) (w : ℕ) → leb (stated_length (take w input)) (length (take w input)) ≡ true → FirstHere input w
unfolding report_here
first-here input w t =
    let most = leb-true (stated_length (take w input)) (length (take w input)) t in
    let short : length (take w input) ≡ min w (length input) = length-take w input in
    let least = stated-least (take w input) in
    let same : stated_length (take w input) ≡ stated_length input = same-stated input w (omega arith) in
    let all : leb (stated_length input) (length input) ≡ true = le-leb (stated_length input) (length input) (omega arith) in
    let here : first_length (take w input) ≡ stated_length input = min-eq_left most ∙ same in
    let whole : first_length input ≡ stated_length input = min-eq_left (omega arith) in
    let cut : stated_length input ≤ w = omega arith in
    let parts : stated_length input + (w - stated_length input) ≡ w = omega arith in
    let cut-after : drop (stated_length input) (take w input) ≡ take (w - stated_length input) (drop (stated_length input) input) =
    ap (λ (k : ℕ). drop (stated_length input) (take k input)) (sym parts) ∙ drop-take (stated_length input) (w - stated_length input) input in
    record {
      size = here ∙ sym whole;
      report = rw (here, whole) (take-take (stated_length input) w input cut);
      left = rw whole cut-after;
      here = rw all;
      bytes = rw whole (length-take-le (stated_length input) input (omega arith));
    }

-- one report more before a cut
module _ (more : ℕ) where
  abbrev Unchanged : ℕ → List ℕ → List ℕ → ℕ → Type 0
  Unchanged most register input w =
      reports_here (length (reports_here most register (take w input) false) + more) register input true
      ≡ reports_here most register (take w input) false
      ++ after_cut more register input (reports_here most register (take w input) false)

  none_here : (most : ℕ) (register input : List ℕ) (w : ℕ) → reports_here most register (take w input) false ≡ []
      → Unchanged most register input w
  unfolding run_ends bytes_in register_after pick
  none_here most register input w e = rw (e, zero-add more)

  ends-here : (most : ℕ) (register input : List ℕ) (w : ℕ) → FirstHere input w
      → reports_here most register (take w input) false ≡ first_report input ∷ [] → ends_run register (first_report input) ≡ true
      → Unchanged most register input w
  unfolding reports_here run_ends pick
  ends-here most register input w f e t =
      let k : 1 + more ≡ suc more = omega arith in
      rw (e, k, f.here, t)

  goes_on : (most : ℕ) (register input : List ℕ) (w : ℕ) (rest : List (List ℕ)) → FirstHere input w
      → reports_here most register (take w input) false ≡ first_report input ∷ rest → ends_run register (first_report input) ≡ false
      → reports_here (length rest + more) (answer_to register (first_report input)).after (drop (first_length input) input) true
      ≡ rest ++ after_cut more (answer_to register (first_report input)).after (drop (first_length input) input) rest
      → Unchanged most register input w
  unfolding reports_here run_ends bytes_in register_after pick
  goes_on most register input w rest f e t others =
      let k : suc (length rest) + more ≡ suc (length rest + more) = omega arith in
      rw (e, k, f.here, t, others, f.bytes, ← drop-drop (bytes_in rest) (first_length input) input)

pub cuts : (more most : ℕ) (register input : List ℕ) (w : ℕ) → Unchanged more most register input w
unfolding reports_here report_here pick
cuts more zero register input w = none_here more zero register input w refl
cuts more (suc most) register input w =
    by-case (leb (stated_length (take w input)) (length (take w input))) refl
    (λ n. cuts more most (answer_to register (first_report input)).after (drop n input) (w - n))
  where
    by-case : (t : Bool) → leb (stated_length (take w input)) (length (take w input)) ≡ t
        → ((n : ℕ) → Unchanged more most (answer_to register (first_report input)).after (drop n input) (w - n))
        → Unchanged more (suc most) register input w
    by-case false t others = none_here more (suc most) register input w (rw t)
    by-case true t others = by_end (ends_run register (first_report input)) refl where
      f : FirstHere input w
      f = first-here input w t

      by_end : (e : Bool) → ends_run register (first_report input) ≡ e → Unchanged more (suc most) register input w
      by_end true e = ends-here more (suc most) register input w f (rw (t, f.report, e)) e
      by_end false e =
          let n = first_length input in
          let rest = reports_here most (answer_to register (first_report input)).after (take (w - n) (drop n input)) false in
          goes_on more (suc most) register input w rest f (rw (t, f.report, e, f.size, f.left)) e (others n)
