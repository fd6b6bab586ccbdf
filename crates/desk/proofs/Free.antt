-- The free slots of a block of a whole register are zeros. Assumes nothing.
use Prim.Native.Nat.{ℕ, ◌*◌, ◌-◌, ◌/◌, ◌<◌}
use mathlib.Core.Path.{◌≡◌, sym, ◌∙◌, subst}
use mathlib.Core.Bool.{Bool, true, false}
use mathlib.Core.List.{List}
use native.Mathlib.Omega.{arith}
use lib.Dec.{eqb}
use lib.ListN.{length, get_or-replicate}
use lib.Seq.{ext_get_or}
use borrow.Author.Tests.{eqb-true}
use Rattle.fields.specs.Fields.{u8_at}
use Rattle.fields.specs.Lists.{pick}
use Rattle.fields.proofs.Bools.{every_true}
use Rattle.fields.proofs.Slices.{part-lent}
use Rattle.fields.proofs.Tests.{all-at}
use Rattle.rules.specs.Block.{slot_size, slot_count, block_size, zeros, zeros_at, slot_at, used, unit_head}
use Rattle.rules.specs.Roster.{pieces_pass}
use Rattle.rules.specs.Whole.{slot_whole, block_whole, register_whole}
use Rattle.rules.specs.Desk.{block_at}
use Rattle.rules.proofs.BlockLaws.{ok-size}
use Rattle.rules.proofs.Holding.{zeros-length}
use Rattle.rules.proofs.Afterwards.{slot-size}
use Rattle.after.specs.Plan.{FreeSlots}
use Rattle.desk.proofs.Answers.{Inside, lent}

all-zeros : (z : List ℕ) (n : ℕ) → length z ≡ n → zeros_at z 0 n ≡ true → z ≡ zeros n
unfolding zeros zeros_at
all-zeros z n l e =
    ext_get_or 0 z (zeros n) (l ∙ sym (zeros-length n))
    (λ i h. eqb-true _ _ (all-at (λ j. eqb (u8_at z j) 0) (λ j. j) 0 n i e (omega arith) (omega arith))
    ∙ sym (get_or-replicate n i 0 0 (omega arith)))

unit-same : (unit : ℕ) (b : List ℕ) → block_whole unit b ≡ true → (unit_head b).unit ≡ unit
unfolding block_whole
unit-same unit b e = eqb-true (unit_head b).unit unit (every_true _ e).1.1.0

pub block-free : (unit : ℕ) (b : List ℕ) → block_whole unit b ≡ true → FreeSlots b
unfolding block_whole slot_whole pick
block-free unit b e = record
    { zero = λ i h f. all-zeros (slot_at b i) slot_size (slot-size b (ok-size unit b e) i h) (asked i h f) } where
      asked : (i : ℕ) → i < slot_count → used (slot_at b i) ≡ false → zeros_at (slot_at b i) 0 slot_size ≡ true
      asked i h f =
          let slots = (every_true _ e).1.1.1.1.1.1.0 in
          let here =
          all-at (λ i. slot_whole (unit_head b).kind.0 (unit_head b).last_stamp (slot_at b i)) (λ i. i) 0 slot_count i slots (omega arith)
          (omega arith) in
          rw f at here

block-whole : (reg : List ℕ) (unit : ℕ) → register_whole reg ≡ true → Inside reg unit → block_whole unit (block_at reg unit) ≡ true
unfolding pieces_pass
block-whole reg unit e k =
    let low = k.first in
    let high = k.last in
    all-at (λ u. block_whole u (block_at reg u)) (λ u. u) 1 (length reg / block_size) unit (every_true _ e).1.1.0 low (omega arith)

named : (unit : ℕ) (b : List ℕ) → block_whole unit b ≡ true → block_whole (unit_head b).unit b ≡ true
named unit b e = rw (unit-same unit b e) e

-- the unit's block as it is lent
pub lent-whole : (reg : List ℕ) {unit : ℕ} {x : Bool} → x ≡ register_whole reg → x ≡ true → Inside reg unit
    → block_whole (unit_head (lent reg unit)).unit (lent reg unit) ≡ true
lent-whole reg {unit} {x} e n k =
    subst (λ (b : List ℕ). block_whole (unit_head b).unit b ≡ true) (sym (part-lent reg (block_size * (unit - 1)) block_size))
    (named unit (block_at reg unit) (block-whole reg unit (sym e ∙ n) k))
