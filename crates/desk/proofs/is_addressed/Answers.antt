use native.Mathlib.Omega.{arith}
use Prim.Native.Nat.{◌/◌}
use lib.ListN.{length}
use Rattle.fields.proofs.Bools.{range-true}
use Rattle.rules.specs.Block.{block_size}
use Rattle.desk.proofs.Answers.{owner-asked, no-unit}
use Rattle.desk.proofs.is_addressed.Goals as goal

pub overflow_sub-unit : goal.overflow_sub-unit
overflow_sub-unit c = omega (
  arith,
  range-true 1 (length c.args.register.now / block_size)
      c.head_of-h.result.unit c.if-unit-register.true,
)

pub returns-then-unit-register : goal.returns-then-unit-register
returns-then-unit-register c = owner-asked _ _ c.head_of-h.ensures
    c.if-unit-register.true c.slice_at-b.ensures
    c.unit_head.ensures

pub returns-else-unit-register : goal.returns-else-unit-register
returns-else-unit-register c = no-unit _ _ c.head_of-h.ensures c.if-unit-register.false
