-- What holds of all that is gathered of a type's lanes holds of its level in each minute of the period. Assumes nothing.
use Prim.Native.Nat.{ℕ, zero, suc, ◌+◌, ◌-◌, ◌≤◌, ◌<◌}
use mathlib.Core.Path.{◌≡◌, refl, sym, subst}
use mathlib.Core.List.{List, [], ◌∷◌}
use native.Mathlib.Omega.{arith}
use lib.Dec.{ltb, eqb}
use borrow.Author.Tests.{leb-true, ltb-true, ltb-false}
use Rattle.std.proofs.Common.{Option, Some, None}
use Rattle.std.specs.Option.{option_or, IfSome}
use Rattle.fields.specs.Lists.{series}
use Rattle.fields.proofs.Bools.{and_left, and_right, pick-elim}
use Rattle.fields.proofs.Tests.{series-more}
use Rattle.quantities.specs.declared.Kilowatt.{Kilowatt}
use Rattle.quantities.specs.declared.Minute.{Minute}
use Rattle.quantities.specs.declared.Period.{Period}
use Rattle.block.specs.declared.Pair.{Pair}
use Rattle.levels.specs.declared.Lane.{Lane}
use Rattle.levels.specs.declared.Lanes.{Lanes}
use Rattle.levels.specs.Pairs.{level_among_pairs}
use Rattle.levels.specs.Lanes.{lane_count, lane_in, lane_pair, lane_level, level_if_lane, level_among_lanes, type_level}
use Rattle.levels.specs.Extremes.{LaneWithin}
use Rattle.levels.specs.Gathered.{GathersPairs, GathersLane, GathersLanes}

-- says e k x: what e says of a power x in minute k. A step keeps what was said, and says it of its pair.
module _ {G : Type 0} (says : G → ℕ → Kilowatt → Type 0) {step : G → Minute → Pair → G → Type 0}
    (keeps : (e : G) (from : Minute) (p : Pair) (r : G) → step e from p r → (k : ℕ) (x : Kilowatt) → says e k x → says r k x)
    (adds : (e : G) (from : Minute) (p : Pair) (r : G) → step e from p r → (k : ℕ) → from.0 ≤ k → k < p.end.0 → says r k p.power)
  where
    pairs_keep : (ps : List Pair) (from : Minute) (e r : G) → GathersPairs step ps from e r → (k : ℕ) (x : Kilowatt) → says e k x → says r k x
    unfolding GathersPairs
    pairs_keep [] from e r g k x s = subst (λ (e : G). says e k x) (sym g) s
    pairs_keep (p ∷ ps) from e r g k x s = pairs_keep ps p.end g.0 r g.2 k x (keeps e from p g.0 g.1 k x s)

    pairs_add : (ps : List Pair) (from : Minute) (e r : G) → GathersPairs step ps from e r → (k : ℕ) → from.0 ≤ k
        → IfSome (level_among_pairs ps k) (says r k)
    unfolding GathersPairs level_among_pairs
    pairs_add [] from e r g k l = tt
    pairs_add (p ∷ ps) from e r g k l =
        pick-elim (λ (v : Option Kilowatt). IfSome v (says r k)) (ltb k p.end.0)
        (λ t. pairs_keep ps p.end g.0 r g.2 k p.power (adds e from p g.0 g.1 k l (ltb-true k p.end.0 t)))
        (λ t. pairs_add ps p.end g.0 r g.2 k (ltb-false k p.end.0 t))

    lane_keeps : (lane : Option Lane) (f : ℕ → Pair) (e r : G) → GathersLane step lane f e r → (k : ℕ) (x : Kilowatt) → says e k x → says r k x
    lane_keeps None f e r g k x s = subst (λ (e : G). says e k x) (sym g) s
    lane_keeps (Some lane) f e r g k x s = pairs_keep (series f 0 lane.count) lane.period.start e r g k x s

    module _ (ls : Lanes) (type : ℕ) (period : Period) where
      lanes_keep : (i n : ℕ) (e r : G) → GathersLanes step ls type period i n e r → (k : ℕ) (x : Kilowatt) → says e k x → says r k x
      unfolding GathersLanes
      lanes_keep i zero e r g k x s = subst (λ (e : G). says e k x) (sym g) s
      lanes_keep i (suc n) e r g k x s =
          lanes_keep (i + 1) n g.1 r g.4 k x (lane_keeps g.0 (lane_pair ls i) e g.1 g.3 k x s)

      later : (e r : G) (k : ℕ) → ((x : Kilowatt) → says e k x → says r k x) → (v : Option Kilowatt) → IfSome v (says e k) → IfSome v (says r k)
      later e r k f None s = tt
      later e r k f (Some x) s = f x s

      lane_adds : (i : ℕ) (lane : Option Lane) (e r : G) → LaneWithin ls i type period lane → GathersLane step lane (lane_pair ls i) e r
          → (k : ℕ) → period.start.0 ≤ k → k < period.end.0 → IfSome (level_if_lane (lane_in ls i) (lane_pair ls i) type k) (says r k)
      unfolding lane_level
      lane_adds i None e r here g k a o = subst (λ (v : Option Kilowatt). IfSome v (says r k)) (sym (here k a o)) tt
      lane_adds i (Some lane) e r here g k a o =
          subst (λ (l : Option Lane). IfSome (level_if_lane l (lane_pair ls i) type k) (says r k)) (sym here)
          (pick-elim (λ (v : Option Kilowatt). IfSome v (says r k)) _
          (λ t. pairs_add (series (lane_pair ls i) 0 lane.count) lane.period.start e r g k
          (leb-true lane.period.start.0 k (and_right (eqb lane.record_type.0 type) _ (and_left _ _ t))))
          (λ t. tt))

      or_else : (r : G) (k : ℕ) (v w : Option Kilowatt) → IfSome v (says r k) → IfSome w (says r k) → IfSome (option_or v w) (says r k)
      or_else r k None w p q = q
      or_else r k (Some x) w p q = p

      lanes_add : (i n : ℕ) (e r : G) → GathersLanes step ls type period i n e r → (k : ℕ) → period.start.0 ≤ k → k < period.end.0
          → IfSome (level_among_lanes (lane_in ls) (lane_pair ls) type i n k) (says r k)
      unfolding GathersLanes level_among_lanes
      lanes_add i zero e r g k a o = tt
      lanes_add i (suc n) e r g k a o =
          or_else r k _ _
          (later g.1 r k (λ x s. lanes_keep (i + 1) n g.1 r g.4 k x s) _ (lane_adds i g.0 e g.1 g.2 g.3 k a o))
          (lanes_add (i + 1) n g.1 r g.4 k a o)

      pub gathered : (e r : G) → GathersLanes step ls type period 0 lane_count e r → (k : ℕ) → period.start.0 ≤ k → k < period.end.0
          → IfSome (type_level ls type k) (says r k)
      gathered e r g = lanes_add 0 lane_count e r g

-- a loop over pairs: what those from j on make of what it has gathered is what all make
pub record PairsGathered {G : Type 0} (step : G → Minute → Pair → G → Type 0) (f : ℕ → Pair) (n : ℕ) (start : Minute) (seen : G)
    (j : ℕ) (from : Minute) (e : G) : Type 0 where
  pub most : j ≤ n
  pub rest : (r : G) → GathersPairs step (series f j (n - j)) from e r → GathersPairs step (series f 0 n) start seen r

module _ {G : Type 0} {step : G → Minute → Pair → G → Type 0} {f : ℕ → Pair} {n : ℕ} {start : Minute} {seen : G} where
  pub pairs-none : PairsGathered step f n start seen 0 start seen
  pairs-none = (let k : n - 0 ≡ n = omega arith in record { most = omega arith; rest = λ r g. rw (← k) g })

  pub pairs-more : {j : ℕ} {from : Minute} {e t : G} {p : Pair} → PairsGathered step f n start seen j from e → j < n → p ≡ f j
      → step e from p t → PairsGathered step f n start seen (j + 1) p.end t
  unfolding GathersPairs
  pairs-more {j} {from} {e} {t} {p} h l read s = record {
    most = omega arith;
    rest = λ r g. h.rest r (rw (series-more f j n l, ← read) (t, s, g));
  }

  pub pairs-all : {j : ℕ} {from : Minute} {e : G} → PairsGathered step f n start seen j from e → n ≤ j
      → GathersPairs step (series f 0 n) start seen e
  unfolding GathersPairs series
  pairs-all {j} {from} {e} h l = (let k : n - j ≡ 0 = omega arith in h.rest e (rw k refl))

-- the same over lanes
pub record LanesGathered {G : Type 0} (step : G → Minute → Pair → G → Type 0) (ls : Lanes) (type : ℕ) (period : Period) (seen : G)
    (i : ℕ) (e : G) : Type 0 where
  pub most : i ≤ lane_count
  pub rest : (r : G) → GathersLanes step ls type period i (lane_count - i) e r → GathersLanes step ls type period 0 lane_count seen r

module _ {G : Type 0} {step : G → Minute → Pair → G → Type 0} {ls : Lanes} {type : ℕ} {period : Period} {seen : G} where
  pub lanes-none : LanesGathered step ls type period seen 0 seen
  lanes-none = record { most = omega arith; rest = λ r g. g }

  lanes-next : {i : ℕ} {e t : G} (lane : Option Lane) → LanesGathered step ls type period seen i e → i < lane_count
      → LaneWithin ls i type period lane → GathersLane step lane (lane_pair ls i) e t → LanesGathered step ls type period seen (i + 1) t
  unfolding GathersLanes
  lanes-next {i} {e} {t} lane h l here g =
      let k : lane_count - i ≡ suc (lane_count - (i + 1)) = omega arith in
      record { most = omega arith; rest = λ r rest. h.rest r (rw k (lane, t, here, g, rest)) }

  pub lanes-past : {i : ℕ} {e : G} → LanesGathered step ls type period seen i e → i < lane_count → LaneWithin ls i type period None
      → LanesGathered step ls type period seen (i + 1) e
  lanes-past h l here = lanes-next None h l here refl

  pub lanes-more : {i : ℕ} {e t : G} {lane : Lane} {f : ℕ → Pair} → LanesGathered step ls type period seen i e → i < lane_count
      → LaneWithin ls i type period (Some lane) → f ≡ lane_pair ls i → GathersPairs step (series f 0 lane.count) lane.period.start e t
      → LanesGathered step ls type period seen (i + 1) t
  lanes-more {lane = lane} h l here read g = lanes-next (Some lane) h l here (rw read at g)

  pub lanes-all : {i : ℕ} {e : G} → LanesGathered step ls type period seen i e → lane_count ≤ i
      → GathersLanes step ls type period 0 lane_count seen e
  unfolding GathersLanes
  lanes-all {i} {e} h l = (let k : lane_count - i ≡ 0 = omega arith in h.rest e (rw k refl))
