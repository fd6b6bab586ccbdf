-- The first of five resolutions on which all falls is the coarsest. Assumes nothing.
use Prim.Native.Nat.{ℕ, ◌%◌, ◌≤◌}
use mathlib.Core.Path.{◌≡◌, refl}
use mathlib.Core.Bool.{Bool, true}
use mathlib.Core.List.{List, [], ◌∷◌}
use native.Mathlib.Omega.{arith}
use lib.Dec.{eqb}
use borrow.Author.Tests.{eq-eqb}
use Rattle.fields.specs.Lists.{pick, all}
use Rattle.fields.proofs.Bools.{and_both, pick-elim}
use Rattle.report.specs.declared.Head.{Head}
use Rattle.report.specs.declared.Part.{Part}
use Rattle.forms.specs.Form.{after_start, falls, all_fall, resolution_of, Coarsest, is_resolution}

-- on one minute all falls
zero-left : (n : ℕ) → eqb (n % 1) 0 ≡ true
zero-left n = eq-eqb (n % 1) 0 (omega arith)

starts-fall : (h : Head) (ps : List Part) → all (λ p. falls h 1 p.period.start) ps ≡ true
unfolding all
starts-fall h [] = refl
starts-fall h (p ∷ ps) = and_both (zero-left (after_start h p.period.start)) (starts-fall h ps)

one-falls : (h : Head) (ps : List Part) → all_fall h ps 1 ≡ true
unfolding all_fall
one-falls h ps = and_both (zero-left (after_start h h.period.end)) (starts-fall h ps)

-- a choice of five
module _ (p : ℕ → Bool) where
  abbrev choice : ℕ
  choice = pick (p 1440) 1440 (pick (p 60) 60 (pick (p 15) 15 (pick (p 5) 5 1)))

  choice-holds : p 1 ≡ true → p choice ≡ true
  choice-holds one =
      pick-elim (λ (n : ℕ). p n ≡ true) (p 1440) (λ e. e)
      (λ e. pick-elim (λ (n : ℕ). p n ≡ true) (p 60) (λ e. e)
      (λ e. pick-elim (λ (n : ℕ). p n ≡ true) (p 15) (λ e. e)
      (λ e. pick-elim (λ (n : ℕ). p n ≡ true) (p 5) (λ e. e) (λ e. one))))

  choice-1440 : p 1440 ≡ true → 1440 ≤ choice
  unfolding pick
  choice-1440 e = rw e (omega arith)

  choice-60 : p 60 ≡ true → 60 ≤ choice
  unfolding pick
  choice-60 e = rw e (pick-elim (λ (n : ℕ). 60 ≤ n) (p 1440) (λ a. omega arith) (λ a. omega arith))

  choice-15 : p 15 ≡ true → 15 ≤ choice
  unfolding pick
  choice-15 e =
      rw e
      (pick-elim (λ (n : ℕ). 15 ≤ n) (p 1440) (λ a. omega arith)
      (λ a. pick-elim (λ (n : ℕ). 15 ≤ n) (p 60) (λ b. omega arith) (λ b. omega arith)))

  choice-5 : p 5 ≡ true → 5 ≤ choice
  unfolding pick
  choice-5 e =
      rw e
      (pick-elim (λ (n : ℕ). 5 ≤ n) (p 1440) (λ a. omega arith)
      (λ a. pick-elim (λ (n : ℕ). 5 ≤ n) (p 60) (λ b. omega arith)
      (λ b. pick-elim (λ (n : ℕ). 5 ≤ n) (p 15) (λ c. omega arith) (λ c. omega arith))))

  choice-one : is_resolution choice ≡ true
  choice-one =
      let P : ℕ → Type 0 = λ (n : ℕ). is_resolution n ≡ true in
      pick-elim P (p 1440) (λ e. refl)
      (λ e. pick-elim P (p 60) (λ e. refl)
      (λ e. pick-elim P (p 15) (λ e. refl)
      (λ e. pick-elim P (p 5) (λ e. refl) (λ e. refl))))

  -- no choice is below 1 or above 1,440
  choice-range : (1 ≤ choice) × (choice ≤ 1440)
  choice-range =
      let P : ℕ → Type 0 = λ (n : ℕ). (1 ≤ n) × (n ≤ 1440) in
      pick-elim P (p 1440) (λ e. (omega arith, omega arith))
      (λ e. pick-elim P (p 60) (λ e. (omega arith, omega arith))
      (λ e. pick-elim P (p 15) (λ e. (omega arith, omega arith))
      (λ e. pick-elim P (p 5) (λ e. (omega arith, omega arith)) (λ e. (omega arith, omega arith)))))

pub coarsest_of : (h : Head) (ps : List Part) → Coarsest h ps (resolution_of h ps)
unfolding resolution_of
coarsest_of h ps =
    record {
      one_of_five = choice-one (all_fall h ps);
      fits = choice-holds (all_fall h ps) (one-falls h ps);
      day = choice-1440 (all_fall h ps);
      hour = choice-60 (all_fall h ps);
      quarter = choice-15 (all_fall h ps);
      five = choice-5 (all_fall h ps);
    }

pub resolution-range : (h : Head) (ps : List Part) → (1 ≤ resolution_of h ps) × (resolution_of h ps ≤ 1440)
unfolding resolution_of
resolution-range h ps = choice-range (all_fall h ps)
