-- Questions asked one after another give the first "no" by its number. Assumes nothing.
use Prim.Native.Nat.{ℕ, suc}
use mathlib.Core.Path.{◌≡◌, refl, ap, sym, ◌∙◌}
use mathlib.Core.Bool.{Bool, true, false, ◌&&◌, ◌||◌, and-true, and-false}
use mathlib.Core.List.{List, []}
use native.Mathlib.Omega.{arith}
use lib.Dec.{eqb}
use borrow.Author.Tests.{ne_eqb}
use Rattle.std.specs.Prelude.{Result, Ok, Err, is_ok, ⊤}
use Rattle.fields.specs.Lists.{pick, and_each, every, all}
use Rattle.report.specs.declared.Head.{Head}
use Rattle.report.specs.declared.Part.{Part}
use Rattle.report.specs.declared.Broken.{Broken}
use Rattle.rules.specs.declared.PowerRange.{PowerRange}
use Rattle.rules.specs.declared.Refusal.{Refusal}
use Rattle.rules.specs.declared.UnitHead.{UnitHead}
use Rattle.rules.specs.Records.{part_times, powers_in_range, fields_in_range, kind_allows}
use Rattle.rules.specs.Questions.{record_by, question4, question6, question7, question8, question16, range_of}
use Rattle.rules.specs.Judge.{skips, asked, must, validation_number}
use Rattle.validation.specs.declared.PartAnswers.{PartAnswers}
use Rattle.validation.specs.FirstNo.{◌then◌, outcome}
use Rattle.validation.specs.Parts.{answers_of, refused_by, cover_asked, validation_asked, validated_of}

pub then_assoc : {A : Type 0} (x y : Result ⊤ Refusal) (z : Result A Refusal) → ((x then y) then z) ≡ (x then (y then z))
then_assoc (Ok _) y z = refl
then_assoc (Err r) y z = refl

then-yes : (x : Result ⊤ Refusal) → (x then Ok tt) ≡ x
then-yes (Ok _) = refl
then-yes (Err r) = refl

-- the parts' times, the last test of one clause of several, may stand after all
pub fields_at : (h : Head) (ps : List Part) (t : Bool) → all part_times ps ≡ t → (question4 h [] && t) ≡ question4 h ps
unfolding question4 fields_in_range every and_each all
fields_at h ps true e = rw e (and-true _)
fields_at h ps false e = simp (e, and-false)

module _ (h : Head) (ps : List Part) where
  module _ {A : Type 0} (value : A) where
    abbrev goes-on : ℕ → Result A Refusal
    goes-on n = outcome h ps n value

    -- a question asked by number, and as code asks it; only 8 has a part beside it
    pub link : (n : ℕ) (yes-to : Bool) (next : ℕ) {r : Result A Refusal} → eqb (suc n) 8 ≡ false → goes-on next ≡ r
        → goes-on (asked h (suc n) yes-to next) ≡ (must h (suc n) yes-to then r)
    unfolding outcome pick
    link n yes-to next {r} no-part rest = by-case (skips h (suc n) || yes-to) refl where
      by-case : (t : Bool) → (skips h (suc n) || yes-to) ≡ t
          → goes-on (asked h (suc n) yes-to next) ≡ (must h (suc n) yes-to then r)
      by-case true e = rw e rest
      by-case false e = rw (e, ne_eqb (suc n) 0 (λ q. omega arith), no-part)

    link-8 : (next : ℕ) {r : Result A Refusal} → goes-on next ≡ r
        → goes-on (asked h 8 (is_ok (question8 h ps)) next) ≡ (cover_asked h ps then r)
    unfolding outcome pick
    link-8 next {r} rest = by-case (question8 h ps) refl where
      by-case : (c : Result ⊤ Broken) → question8 h ps ≡ c
          → goes-on (asked h 8 (is_ok (question8 h ps)) next) ≡ (cover_asked h ps then r)
      by-case (Ok _) e =
          let yes : is_ok (question8 h ps) ≡ true = ap is_ok e in
          let on : cover_asked h ps ≡ Ok tt = ap refused_by e in
          rw (yes, on) rest
      by-case (Err broken) e = rw e

    in-order : (kind next : ℕ) → goes-on (validation_number kind h ps next)
        ≡ (must h 4 (question4 h ps)
        then must h 5 (kind_allows kind (record_by h))
        then must h 6 (question6 h)
        then must h 7 (question7 h ps)
        then cover_asked h ps
        then must h 9 (powers_in_range ps)
        then goes-on next)
    unfolding validation_number
    in-order kind next =
        link 3 _ _ refl (link 4 _ _ refl (link 5 _ _ refl (link 6 _ _ refl (link-8 _ (link 8 _ _ refl refl)))))

  passed-in-order : (kind : ℕ) → outcome h ps (validation_number kind h ps 0) tt
      ≡ (must h 4 (question4 h ps)
      then must h 5 (kind_allows kind (record_by h))
      then must h 6 (question6 h)
      then must h 7 (question7 h ps)
      then cover_asked h ps
      then must h 9 (powers_in_range ps))
  unfolding outcome pick
  passed-in-order kind = in-order tt kind 0 ∙ rw (then-yes (must h 9 (powers_in_range ps)))

  asked-in-order : (kind : ℕ) (range : PowerRange) (type : ℕ)
      → validation_asked kind h ps (answers_of ps h.stamp range type) ≡ outcome h ps (validation_number kind h ps 0) tt
  unfolding validation_asked answers_of question7 every and_each
  asked-in-order kind range type = rw (fields_at h ps (all part_times ps) refl) (sym (passed-in-order kind))

  -- questions 4 to 9 are a stage of their own
  pub stage : {A : Type 0} (kind next : ℕ) (value : A) → outcome h ps (validation_number kind h ps next) value
      ≡ (outcome h ps (validation_number kind h ps 0) tt then outcome h ps next value)
  stage kind next value = in-order value kind next ∙ sym (rw (passed-in-order kind) (simp then_assoc))

pub validated_in_order : (unit : UnitHead) (h : Head) (ps : List Part) (range : PowerRange) (parts : PartAnswers) (passed : Result ⊤ Refusal)
    → range ≡ range_of unit.powers h.direction.0 → parts ≡ answers_of ps h.stamp range h.record_type.0
    → passed ≡ validation_asked unit.kind.0 h ps parts
    → record { passed = passed; deratings = parts.deratings } ≡ validated_of unit h ps
unfolding question16 answers_of
validated_in_order unit h ps range parts passed e f g = rw (g, f, e, asked-in-order h ps unit.kind.0 _ _)
