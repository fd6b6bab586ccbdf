-- Zeros read as one number of all their bits, free slots as one stretch of zeros, and slots that are apart. Assumes nothing.
use Prim.Native.Nat.{ℕ, zero, suc, ◌+◌, ◌≤◌, ◌<◌}
use mathlib.Core.Path.{◌≡◌, refl, ap, sym, ◌∙◌}
use mathlib.Core.Bool.{Bool, true, false, not, ◌&&◌, ◌||◌, and_assoc, and-true}
use mathlib.Core.List.{List, [], ◌∷◌, ◌++◌}
use Rattle.std.specs.List.{All, list_all, flat_map}
use Rattle.std.proofs.lemmas.List.Elements.{All-head, All-tail, All-drop}
use Rattle.std.proofs.lemmas.List.Folds.{list_all-append}
use native.Mathlib.Omega.{arith}
use lib.Bits.{bit_or, or_zero_l, or_add_and, and_le_r}
use lib.Dec.{eqb}
use native.Mathlib.Numerals.{add-one}
use lib.ListN.{length, take, drop, get_or, take-append-drop, drop_of_length-le}
use lib.Seq.{drop-cons}
use Rattle.std.proofs.lemmas.List.{take_more}
use borrow.Author.Tests.{eqb-true, eqb-false, ne_eqb}
use Rattle.fields.specs.Lists.{series}
use Rattle.fields.proofs.Tests.{all_append}
use Rattle.quantities.specs.declared.Minute.{Minute}
use Rattle.rules.specs.Block.{slot_size, zeros_at, used, record_in}
use Rattle.rules.specs.Whole.{records_apart, slot_whole, slots_apart}
use Rattle.block.specs.Slot.{FreeFrom, each_apart}
use Rattle.fields.proofs.Chunks.{all-elements}
use Rattle.block.proofs.Pairs.{free-slot}

-- two numbers have no bit together exactly if neither has one
pub no_bits : (a x : ℕ) → eqb (bit_or a x) 0 ≡ (eqb a 0 && eqb x 0)
no_bits a x = by-case (eqb a 0) (eqb x 0) refl refl where
  by-case : (p q : Bool) → eqb a 0 ≡ p → eqb x 0 ≡ q → eqb (bit_or a x) 0 ≡ (p && q)
  by-case true q e f = rw (eqb-true a 0 e, or_zero_l x) f
  by-case false q e f =
      ne_eqb (bit_or a x) 0 (λ n. eqb-false a 0 e (omega (arith, n, or_add_and a x, and_le_r a x)))

-- zeros, one stretch after the other
series-cut : (at n m : ℕ) → series (λ (j : ℕ). j) at (n + m) ≡ series (λ j. j) at n ++ series (λ j. j) (at + n) m
unfolding series
series-cut at zero m =
    let a : at + 0 ≡ at = omega arith in
    let k : 0 + m ≡ m = omega arith in
    rw (a, k)
series-cut at (suc n) m =
    let a : at + suc n ≡ at + 1 + n = omega arith in
    let k : suc n + m ≡ suc (n + m) = omega arith in
    rw (k, a, series-cut (at + 1) n m)

pub zeros-cut : (s : List ℕ) (at n m : ℕ) → zeros_at s at (n + m) ≡ (zeros_at s at n && zeros_at s (at + n) m)
unfolding zeros_at
zeros-cut s at n m = rw (series-cut at n m) (all_append _ (series (λ j. j) at n) (series (λ j. j) (at + n) m))

-- zeros, as a test of each byte
zeros-each : (z : List ℕ) → zeros_at z 0 (length z) ≡ list_all (λ v. eqb v 0) z
unfolding zeros_at
zeros-each z = all-elements (λ v. eqb v 0) 0 z

-- free slots one after the other
module _ (kind : ℕ) (last : Minute) where
  free-bytes : (zs : List (List ℕ)) → All (λ z. used z ≡ false) zs → All (λ z. length z ≡ slot_size) zs
      → list_all (λ v. eqb v 0) (flat_map (λ x. x) zs) ≡ list_all (slot_whole kind last) zs
  free-bytes [] free long = refl
  free-bytes (z ∷ zs) free long =
      let here : list_all (λ v. eqb v 0) z ≡ slot_whole kind last z =
      sym (free-slot kind last z refl (All-head (λ x. used x ≡ false) z zs free) (All-head (λ x. length x ≡ slot_size) z zs long) ∙ zeros-each z) in
      list_all-append (λ v. eqb v 0) z (flat_map (λ x. x) zs)
      ∙ rw (here, free-bytes zs (All-tail (λ x. used x ≡ false) z zs free) (All-tail (λ x. length x ≡ slot_size) z zs long))

  -- the first slots, and the bytes of the others
  pub slots-free : (zs : List (List ℕ)) (end : ℕ) → FreeFrom zs end → All (λ z. length z ≡ slot_size) zs
      → (list_all (slot_whole kind last) (take end zs) && zeros_at (flat_map (λ x. x) (drop end zs)) 0 (length (flat_map (λ x. x) (drop end zs))))
      ≡ list_all (slot_whole kind last) zs
  slots-free zs end w long =
      ap (λ (r : Bool). list_all (slot_whole kind last) (take end zs) && r)
      (zeros-each _ ∙ free-bytes (drop end zs) w.free (All-drop (λ z. length z ≡ slot_size) end zs long))
      ∙ sym (list_all-append (slot_whole kind last) (take end zs) (drop end zs))
      ∙ ap (list_all (slot_whole kind last)) (take-append-drop end zs)

-- a free slot is apart from every other one
pub apart_free : (y : List ℕ) (zs : List (List ℕ)) → used y ≡ false → list_all (slots_apart y) zs ≡ true
unfolding slots_apart
apart_free y [] e = refl
apart_free y (z ∷ zs) e = rw e (apart_free y zs e)

pub apart_used : (y : List ℕ) (zs : List (List ℕ)) → used y ≡ true
    → list_all (λ z. not (used z) || records_apart (record_in y) (record_in z)) zs ≡ list_all (slots_apart y) zs
unfolding slots_apart
apart_used y [] e = refl
apart_used y (z ∷ zs) e = rw (apart_used y zs e, e)

-- free slots at the end
apart-none : (below zs : List (List ℕ)) → All (λ z. used z ≡ false) zs → each_apart below zs ≡ true
unfolding each_apart
apart-none below [] free = refl
apart-none below (z ∷ zs) free =
    rw (apart_free z below (All-head (λ x. used x ≡ false) z zs free)) (apart-none (below ++ (z ∷ [])) zs (All-tail (λ x. used x ≡ false) z zs free))

apart-rest : (below zs free : List (List ℕ)) → All (λ z. used z ≡ false) free → each_apart below (zs ++ free) ≡ each_apart below zs
unfolding each_apart
apart-rest below [] free h = apart-none below free h
apart-rest below (z ∷ zs) free h = rw (apart-rest (below ++ (z ∷ [])) zs free h)

pub apart-taken : (zs : List (List ℕ)) (end : ℕ) → FreeFrom zs end → each_apart [] zs ≡ each_apart [] (take end zs)
apart-taken zs end w = ap (each_apart []) (sym (take-append-drop end zs)) ∙ apart-rest [] (take end zs) (drop end zs) w.free

-- what a loop over the slots keeps
pub record Apart (zs : List (List ℕ)) (ok : Bool) (i : ℕ) : Type 0 where
  pub so_far : each_apart [] zs ≡ (ok && each_apart (take i zs) (drop i zs))

pub apart_more : {zs : List (List ℕ)} {ok r : Bool} {i : ℕ} → Apart zs ok i → i < length zs
    → r ≡ list_all (slots_apart (get_or zs i [])) (take i zs) → Apart zs (ok && r) (i + 1)
unfolding each_apart
apart_more {zs} {ok} {i = i} t h q = record { so_far = t.so_far ∙ rw (drop-cons zs i [] h, ← q, ← take_more zs i [] h, add-one i) (sym (and_assoc ok _ _)) }

pub apart_all : {zs : List (List ℕ)} {ok : Bool} {i : ℕ} → Apart zs ok i → i ≡ length zs → ok ≡ each_apart [] zs
unfolding each_apart
apart_all {zs} {ok} {i} t h =
    let past : length zs ≤ i = omega arith in
    sym (t.so_far ∙ rw (drop_of_length-le zs past) (and-true ok))
