-- Arrays that `==` compares, and a test at each of their places: one answer. Assumes nothing.
use Rattle.std.proofs.Common.{◌≡◌, ℕ, zero, suc, ◌+◌, ◌<◌, Bool, List, [], ◌∷◌, refl, ap, ◌∙◌, length, get_or, arith, add-zero, zero-add}
use Rattle.std.proofs.Math.ListN.{replicate}
use Rattle.std.proofs.lemmas.List.{length-replicate, get_or-replicate}
use lib.Dec.{eqb}
use lib.Pointwise.{pointwise}
use Rattle.fields.specs.Lists.{all, series}

from : (p : ℕ → Bool) (i n : ℕ) (xs ys : List ℕ) → length xs ≡ n → length ys ≡ n
    → ((j : ℕ) → j < n → p (i + j) ≡ eqb (get_or xs j 0) (get_or ys j 0)) → pointwise eqb xs ys ≡ all p (series (λ j. j) i n)
unfolding all series
from p i zero [] [] a b h = refl
from p i zero [] (y ∷ ys) a b h = absurd (omega arith)
from p i zero (x ∷ xs) ys a b h = absurd (omega arith)
from p i (suc n) [] ys a b h = absurd (omega arith)
from p i (suc n) (x ∷ xs) [] a b h = absurd (omega arith)
from p i (suc n) (x ∷ xs) (y ∷ ys) a b h =
    let here : p i ≡ eqb x y = rw add-zero at (h 0 (omega arith)) in
    rw (
      here,
      from p (i + 1) n xs ys (omega arith) (omega arith)
          (λ j l. ap p (let e : i + 1 + j ≡ i + suc j = omega arith in e) ∙ h (suc j) (omega arith)),
    )

pub compared : (n : ℕ) (xs ys : List ℕ) → length xs ≡ n → length ys ≡ n
    → pointwise eqb xs ys ≡ all (λ j. eqb (get_or xs j 0) (get_or ys j 0)) (series (λ j. j) 0 n)
compared n xs ys a b = from (λ j. eqb (get_or xs j 0) (get_or ys j 0)) 0 n xs ys a b (λ j l. rw zero-add)

pub compared-zero : (n : ℕ) (xs : List ℕ) → length xs ≡ n
    → pointwise eqb xs (replicate n 0) ≡ all (λ j. eqb (get_or xs j 0) 0) (series (λ j. j) 0 n)
compared-zero n xs a =
    from (λ j. eqb (get_or xs j 0) 0) 0 n xs (replicate n 0) a (length-replicate n 0) (λ j l. rw (zero-add, get_or-replicate {A = ℕ} n j 0 0 l))
