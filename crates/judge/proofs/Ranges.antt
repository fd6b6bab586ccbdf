-- A test of the numbers from i on, one after the other, as a test over a series. Assumes nothing.
use Prim.Native.Nat.{ℕ, zero, suc, ◌+◌}
use mathlib.Core.Path.{◌≡◌, refl, ap, ◌∙◌}
use mathlib.Core.Bool.{Bool, true, false, not, ◌&&◌, ◌||◌}
use Rattle.std.specs.List.{list_any, range_with_len}
use Rattle.fields.specs.Lists.{all, series}

module _ (test : ℕ → Bool) where
  or-not : (a x : Bool) → (a || not x) ≡ not (not a && x)
  or-not true x = refl
  or-not false x = refl

  pub range-any : (i n : ℕ) → list_any test (range_with_len i n) ≡ not (all (λ j. not (test j)) (series (λ j. j) i n))
  unfolding all series
  range-any i zero = refl
  range-any i (suc n) = ap (λ (t : Bool). test i || t) (range-any (i + 1) n) ∙ or-not (test i) _
