-- Zeros: all bytes as one number of their bits, and one stretch after the other. Assumes nothing.
use Rattle.std.proofs.Common.{◌≡◌, ℕ, zero, suc, ◌+◌, ◌*◌, ◌-◌, ◌/◌, ◌≤◌, ◌<◌, Bool, List, [], ap, sym, ◌∙◌, length, take, drop, get_or, length-drop, arith, add-one, zero-add}
use Rattle.std.proofs.Math.ListN.{drop_of_length-le}
use Rattle.std.proofs.Math.Seq.{drop-cons, take_all}
use Rattle.std.specs.List.{fold}
use Rattle.std.specs.Simd.{first_chunks}
use mathlib.Core.Bool.{◌&&◌, and_assoc, and-true}
use lib.Bits.{bit_or}
use lib.Dec.{eqb}
use Rattle.fields.specs.Lists.{all, series, part}
use Rattle.rules.specs.Block.{zeros_at}
use Rattle.block.specs.Slot.{stretch_size}
use Rattle.block.proofs.Cut.{zeros-part}
use Rattle.fields.proofs.Chunks.{chunk-at}
use Rattle.block.proofs.FreeSlots.{no_bits, zeros-cut}

bits-from : (s : List ℕ) (n at a : ℕ) → at + n ≡ length s → eqb (fold (λ bits b. bit_or bits b) a (drop at s)) 0 ≡ (eqb a 0 && zeros_at s at n)
unfolding zeros_at all series
bits-from s zero at a e = (let h : length s ≤ at = omega arith in rw (drop_of_length-le s h, and-true))
bits-from s (suc n) at a e =
    rw (drop-cons s at 0 (omega arith), ← add-one at, bits-from s n (at + 1) (bit_or a (get_or s at 0)) (omega arith), no_bits a (get_or s at 0))
    (and_assoc (eqb a 0) (eqb (get_or s at 0) 0) _)

pub bits-zero : (s : List ℕ) {bits : ℕ} → bits ≡ fold (λ bits b. bit_or bits b) 0 s → eqb bits 0 ≡ zeros_at s 0 (length s)
bits-zero s e = ap (λ (n : ℕ). eqb n 0) e ∙ bits-from s (length s) 0 0 (zero-add _)

-- one stretch more, and the rest after all
module _ (s : List ℕ) {chunks : List (List ℕ)} (front : chunks ≡ first_chunks stretch_size (length s / stretch_size) s) where
  pub stretch-more : (i : ℕ) {ok r : Bool} → ok ≡ zeros_at s 0 (stretch_size * i) → i < length s / stretch_size
      → r ≡ zeros_at (get_or chunks i []) 0 (length (get_or chunks i [])) → (ok && r) ≡ zeros_at s 0 (stretch_size * (i + 1))
  stretch-more i e h q =
      let k : stretch_size * (i + 1) ≡ stretch_size * i + stretch_size = omega arith in
      let z : get_or chunks i [] ≡ part s (stretch_size * i) stretch_size = rw front (chunk-at stretch_size (length s / stretch_size) i s h) in
      rw (e, q ∙ zeros-part s (stretch_size * i) stretch_size z, k) (sym (rw zero-add at (zeros-cut s 0 (stretch_size * i) stretch_size)))

  pub stretches-all : (i : ℕ) {rest : List ℕ} {ok r : Bool} → ok ≡ zeros_at s 0 (stretch_size * i) → i ≡ length s / stretch_size
      → rest ≡ drop (length s / stretch_size * stretch_size) s → r ≡ zeros_at rest 0 (length rest) → (ok && r) ≡ zeros_at s 0 (length s)
  unfolding part
  stretches-all i {rest} e j back q =
      let at : ℕ = stretch_size * i in
      let m : ℕ = length s - at in
      let turned : length s / stretch_size * stretch_size ≡ at = omega arith in
      let all : at + m ≡ length s = omega arith in
      let cut : rest ≡ take m (drop at s) = back ∙ rw turned (sym (take_all m (drop at s) (rw (length-drop at s) (omega arith)))) in
      rw (e, q ∙ zeros-part s at m cut) (sym (rw zero-add at (zeros-cut s 0 at m)) ∙ ap (zeros_at s 0) all)
