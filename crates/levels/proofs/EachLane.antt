-- A lane that has no level of a type in a period. Assumes nothing.
use Prim.Native.Nat.{ℕ}
use mathlib.Core.Path.{◌≡◌, refl, sym, ◌∙◌}
use mathlib.Core.Bool.{Bool, true, false, ◌&&◌, false≢true}
use native.Mathlib.Omega.{arith}
use lib.Dec.{leb, ltb, eqb}
use borrow.Author.Tests.{leb-true, lt-ltb, ltb-true}
use Rattle.fields.proofs.Bools.{and_left, and_right, and_both, pick-elim}
use Rattle.std.proofs.Common.{Option, Some, None}
use Rattle.quantities.specs.declared.Kilowatt.{Kilowatt}
use Rattle.quantities.specs.declared.Period.{Period}
use Rattle.quantities.specs.Quantities.{overlap}
use Rattle.levels.specs.declared.Lane.{Lane}
use Rattle.levels.specs.declared.Lanes.{Lanes}
use Rattle.levels.specs.Extremes.{LaneWithin}
use Rattle.levels.specs.Lanes.{lane_in, lane_level}

-- a lane of another type, or one that shares no minute with the period
module _ (ls : Lanes) (i type : ℕ) (period : Period) where
  pub lane-apart : {lane : Lane} {t : Bool} → lane_in ls i ≡ Some lane → t ≡ overlap lane.period period
      → (eqb lane.record_type.0 type && t) ≡ false → LaneWithin ls i type period None
  unfolding lane_level
  lane-apart {lane} {t} here q apart k x y =
      rw here
      (pick-elim (λ (v : Option Kilowatt). v ≡ None) _ (λ holds. absurd (false≢true (sym apart ∙ shared holds))) (λ _. refl))
    where
      shared : (eqb lane.record_type.0 type && leb lane.period.start.0 k && ltb k lane.period.end.0) ≡ true
          → (eqb lane.record_type.0 type && t) ≡ true
      shared holds =
          let same = eqb lane.record_type.0 type in
          let from = leb lane.period.start.0 k in
          let started = leb-true lane.period.start.0 k (and_right same from (and_left (same && from) _ holds)) in
          let ends = ltb-true k lane.period.end.0 (and_right (same && from) _ holds) in
          and_both (and_left same from (and_left (same && from) _ holds))
          (q ∙ and_both (lt-ltb lane.period.start.0 period.end.0 (omega arith)) (lt-ltb period.start.0
          lane.period.end.0 (omega arith)))
