-- What the code joins is what the definitions join: each law takes what the callees ensure. Assumes nothing.
use Prim.Native.Nat.{ℕ, zero, suc, ◌+◌}
use mathlib.Core.Path.{◌≡◌, refl, sym, ◌∙◌}
use mathlib.Core.Bool.{Bool, true, false}
use mathlib.Core.List.{List, [], ◌∷◌}
use native.Mathlib.Omega.{arith}
use lib.ListN.{length}
use lib.Dec.{ltb}
use borrow.Author.Tests.{lt-ltb, le-ltb}
use Rattle.std.specs.Prelude.{Option, Some, None, map, find}
use Rattle.std.specs.List.{range_with_len}
use Rattle.std.specs.Option.{option_map}
use Rattle.std.specs.Array.{IsMapOf}
use Rattle.std.specs.Fn.{Mut, Called}
use Rattle.std.proofs.lemmas.List.{same_lists, length-map, get_or-map}
use Rattle.fields.specs.Lists.{pick, seek}
use Rattle.rules.specs.Block.{slot_count, slot_numbered}

-- what `find` gives over the slots' numbers
found-is : (test : ℕ → Bool) (i n : ℕ) → find test (range_with_len i n) ≡ pick (ltb (seek test i n) (i + n)) (Some (seek test i n)) None
unfolding seek pick
found-is test i zero = rw (le-ltb i (i + 0) (omega arith))
found-is test i (suc n) = by-case (test i) refl (found-is test (i + 1) n) where
  by-case : (t : Bool) → test i ≡ t
      → find test (range_with_len (i + 1) n) ≡ pick (ltb (seek test (i + 1) n) (i + 1 + n)) (Some (seek test (i + 1) n)) None
      → find test (range_with_len i (suc n)) ≡ pick (ltb (seek test i (suc n)) (i + suc n)) (Some (seek test i (suc n))) None
  by-case true e rest = rw (e, lt-ltb i (i + suc n) (omega arith))
  by-case false e rest =
      let k : i + suc n ≡ i + 1 + n = omega arith in
      rw (e, k) rest

as-is : {A : Type 0} (r : Option A) → r ≡ option_map (λ x. x) r
as-is None = refl
as-is (Some x) = refl

pub found-slot : (test : ℕ → Bool) {r : Option ℕ} → option_map (λ x. x) r ≡ find test (range_with_len 0 slot_count)
    → r ≡ slot_numbered (seek test 0 slot_count)
found-slot test {r} e = as-is r ∙ e ∙ found-is test 0 slot_count

-- what a call for each element makes
pub made-map : {F A B : Type 0} {g : Mut F (A × Unit {0}) B} {f : F} (xs : List A) {ys : List B} (k : A → B) (n : ℕ) → length xs ≡ n
    → IsMapOf g f xs ys n → ((p q : F) (x : A) (y : B) → Called g p (x, tt) y q → y ≡ k x) → ys ≡ map k xs
made-map [] {ys} k n long made same = same_lists ys [] (made.long ∙ sym long) (λ i d l. absurd (omega (arith, made.long)))
made-map (x ∷ xs) {ys} k n long made same =
    same_lists ys (map k (x ∷ xs)) (made.long ∙ sym long ∙ sym (length-map (x ∷ xs) k))
    (λ i d l.
    let at = made.at i x d (omega (arith, made.long)) in
    same at.0 at.1 _ _ at.2 ∙ sym (get_or-map k (x ∷ xs) i x d (omega (arith, made.long))))
