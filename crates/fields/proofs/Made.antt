-- An array made element by element. Assumes nothing.
use Prim.Native.Nat.{ℕ, zero, suc, ◌+◌, ◌≤◌, ◌<◌}
use native.Mathlib.Omega.{arith}
use native.Mathlib.Nat.{zero-add}
use mathlib.Core.Path.{◌≡◌, refl, ap, sym, subst, ◌∙◌}
use mathlib.Core.Bool.{Bool, true, false}
use mathlib.Core.List.{List}
use lib.ListN.{length, get_or}
use lib.Dec.{eqb}
use borrow.Author.Tests.{eqb-true, eqb-false}
use Rattle.std.specs.Array.{IsFromFnResult, IsFromFnResultFrom}
use Rattle.std.specs.Fn.{Mut, Called}
use Rattle.std.proofs.lemmas.List.{same_lists}
use Rattle.fields.specs.Lists.{series}
use Rattle.fields.proofs.Tests.{series-at, series-length}

-- what a call for each number makes, where calls leave the closure as it is
module _ {F B : Type 0} {g : Mut F (ℕ × Unit {0}) B} {f : F} (ys : List B) (k : ℕ → B) (n : ℕ)
    (calls : (i : ℕ) (y : B) (q : F) → i < n → Called g f (i, tt) y q → (q ≡ f) × (y ≡ k i)) where
  made-at : (i m : ℕ) → i + m ≤ n → IsFromFnResultFrom g f ys i m → (j : ℕ) (d : B) → i ≤ j → j < i + m → get_or ys j d ≡ k j
  made-at i zero most each j d a b = absurd (omega arith)
  made-at i (suc m) most each j d a b =
      let here = calls i each.1 each.0 (omega arith) each.3 in
      let rest = subst (λ (p : F). IsFromFnResultFrom g p ys (i + 1) m) here.0 each.4 in
      by-case (each.2.1 d ∙ here.1) (eqb i j) refl (λ l. made-at (i + 1) m (omega arith) rest j d l (omega arith)) where
        by-case : get_or ys i d ≡ k i → (t : Bool) → eqb i j ≡ t → (i + 1 ≤ j → get_or ys j d ≡ k j) → get_or ys j d ≡ k j
        by-case now true e more = subst (λ (m : ℕ). get_or ys m d ≡ k m) (eqb-true i j e) now
        by-case now false e more =
            let ne = eqb-false i j e in
            more (omega arith)

  pub made-series : IsFromFnResult g f ys n → ys ≡ series k 0 n
  made-series made =
      same_lists ys (series k 0 n) (made.long ∙ sym (series-length k 0 n))
      (λ i d l.
      let long : length ys ≡ n = made.long in
      made-at 0 n (omega arith) made.each i d (omega arith) (omega arith)
      ∙ sym (series-at k 0 n i d (omega arith) ∙ ap k (zero-add i)))
