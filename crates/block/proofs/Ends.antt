-- The part ends of a slot in one pass of signed comparisons, and a bound of its powers. Assumes nothing.
use Prim.Native.Nat.{ℕ, ◌+◌, ◌≤◌, ◌<◌}
use mathlib.Core.Path.{◌≡◌, refl, ap, sym, ◌∙◌}
use mathlib.Core.Bool.{Bool, true, false, ◌&&◌, and_assoc, and-true, and-false}
use mathlib.Core.List.{List, [], ◌∷◌}
use native.Mathlib.Numerals.{add-one}
use lib.ListN.{length, take, drop, get_or, drop_of_length-le}
use lib.Seq.{drop-cons, take_all}
use Rattle.std.specs.List.{All}
use Rattle.std.proofs.lemmas.List.Elements.{All-more, All-weaker, All-head, All-tail}
use native.Mathlib.Omega.{arith}
use lib.Bits.{bit_or, or_add_and, and_le_l, and_le_r}
use lib.Dec.{ltb, eqb}
use lib.IntN.{ℤ}
use lib.Signed.{lt_z}
use mir.Syntax.{w32}
use mir.Val.{to_z, of_z}
use mir.ValLaws.{of_z-to_z}
use borrow.Author.Tests.{eqb-true, ltb-true, lt-ltb, le-leb}
use Rattle.fields.specs.Fields.{u32_at}
use Rattle.fields.proofs.Bools.{and_left, and_right}
use Rattle.fields.proofs.Signed.{signed-order}
use Rattle.quantities.specs.Quantities.{highest_power}
use Rattle.block.specs.Slot.{ends_rise, pairs_rise}

-- ends that rise to the last one do not pass it
ends-order : (ps : List (List ℕ)) (start end : ℕ) → ends_rise ps start end ≡ true → start ≤ end
unfolding ends_rise
ends-order [] start end e =
    let same = eqb-true start end e in
    omega arith
ends-order (p ∷ ps) start end e =
    let next = u32_at p 0 in
    let rest = ends-order ps next end (and_right (ltb start next) (ends_rise ps next end) e) in
    let here = ltb-true start next (and_left (ltb start next) (ends_rise ps next end) e) in
    omega arith

-- no power is above the bound
abbrev pub Within : ℕ → List (List ℕ) → Type 0
Within bound ps = All (λ p. u32_at p 4 ≤ bound) ps

-- what a loop over the ends keeps: the end before is a time as long as all is well
pub record EndsRisen (ps : List (List ℕ)) (first end : ℕ) (rise : Bool) (bound start i : ℕ) : Type 0 where
  pub early : rise ≡ true → start < 2147483648
  pub so_far : ends_rise ps first end ≡ (rise && ends_rise (drop i ps) start end)
  pub within : Within bound (take i ps)

-- the bits of a signed number that was read of them
pub bits_back : {x : ℤ} {n : ℕ} → n < 4294967296 → x ≡ to_z w32 n → of_z w32 x ≡ n
bits_back {x} {n} l e = ap (of_z w32) e ∙ of_z-to_z w32 n (record { fits = l })

-- and of one that a loop keeps by its bits
pub bits_kept : {x : ℤ} {n : ℕ} → n < 4294967296 → x ≡ to_z w32 n → of_z w32 (to_z w32 (of_z w32 x)) ≡ n
bits_kept {x} {n} l e = bits_back l (ap (to_z w32) (bits_back l e))

module _ {ps : List (List ℕ)} {first end : ℕ} where
  pub risen-none : {start : ℕ} → first < 2147483648 → start ≡ first → EndsRisen ps first end true 0 start 0
  risen-none {start} l e =
      record {
        early = λ t. omega arith;
        so_far = rw e;
        within = λ j d h. absurd (omega arith);
      }

  module _ {rise : Bool} {bound start next i power : ℕ} (late : end < 2147483648) (t : EndsRisen ps first end rise bound start i)
      (l : i < length ps) (fits : next < 4294967296) (read : next ≡ u32_at (get_or ps i []) 0)
      (loaded : power ≡ u32_at (get_or ps i []) 4) where
    abbrev rest : Bool
    rest = ends_rise (drop (i + 1) ps) next end

    -- an end past every time is followed by none that rise to the last
    no-time : (v : Bool) → rest ≡ v → v ≡ (ltb next 2147483648 && v)
    no-time false e = sym (and-false (ltb next 2147483648))
    no-time true e =
        let most = ends-order (drop (i + 1) ps) next end e in
        sym (rw (lt-ltb next 2147483648 (omega arith)))

    abbrev later : Bool
    later = lt_z (to_z w32 start) (to_z w32 next)

    step : (v : Bool) → (v ≡ true → start < 2147483648) → (v && (ltb start next && rest)) ≡ ((v && later) && rest)
    step false h = refl
    step true h =
        rw (signed-order start next (h refl) fits)
        (ap (λ (r : Bool). ltb start next && r) (no-time rest refl) ∙ sym (and_assoc (ltb start next) (ltb next 2147483648) rest))

    opened : ends_rise (drop i ps) start end ≡ (ltb start next && rest)
    unfolding ends_rise
    opened = rw (drop-cons ps i [] l, ← read, add-one i)

    below : Within bound (take i ps) → Within (bit_or bound power) (take (i + 1) ps)
    below w =
        All-more (λ p. u32_at p 4 ≤ bit_or bound power) ps i [] l
        (All-weaker (λ p. u32_at p 4 ≤ bound) (λ p. u32_at p 4 ≤ bit_or bound power) (λ p h. omega (arith, h, or_add_and bound power, and_le_r bound power)) (take i ps) w)
        (omega (arith, loaded, or_add_and bound power, and_le_l bound power))

    pub risen-more : EndsRisen ps first end (rise && later) (bit_or bound power) next (i + 1)
    risen-more = record {
      early = λ e. time (and_right rise later e) (t.early (and_left rise later e));
      so_far = t.so_far ∙ ap (λ (r : Bool). rise && r) opened ∙ step rise t.early;
      within = below t.within;
    } where
      time : later ≡ true → start < 2147483648 → next < 2147483648
      time e h =
          ltb-true next 2147483648
          (and_right (ltb start next) (ltb next 2147483648) (sym (signed-order start next h fits) ∙ e))

  pub risen-all : {rise : Bool} {bound start i last : ℕ} → EndsRisen ps first end rise bound start i → i ≡ length ps → last ≡ end
      → (rise && eqb start last) ≡ ends_rise ps first end
  unfolding ends_rise
  risen-all {rise} {bound} {start} {i} {last} t h e =
      let past : length ps ≤ i = omega arith in
      rw e (sym (t.so_far ∙ rw (drop_of_length-le ps past)))

  pub powers-found : {rise : Bool} {bound start i : ℕ} → EndsRisen ps first end rise bound start i → i ≡ length ps → Within bound ps
  powers-found {i = i} t h = rw (take_all i ps (omega arith)) at t.within

-- where the bound is a power, the ends are all that is left to ask
pub ends-enough : (ps : List (List ℕ)) (start end bound : ℕ) → Within bound ps → bound ≤ highest_power
    → ends_rise ps start end ≡ pairs_rise ps start end
unfolding ends_rise pairs_rise
ends-enough [] start end bound w h = refl
ends-enough (p ∷ ps) start end bound w h =
    let small : u32_at p 4 ≤ bound = All-head (λ x. u32_at x 4 ≤ bound) p ps w in
    rw (le-leb (u32_at p 4) highest_power (omega arith), and-true, ends-enough ps (u32_at p 0) end bound (All-tail (λ x. u32_at x 4 ≤ bound) p ps w) h)
