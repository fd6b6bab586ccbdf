-- Outside the minutes to be asked every forced level fits beside the highest deratings. Assumes nothing.
use Prim.Native.Nat.{ℕ, ◌-◌, ◌≤◌, ◌<◌}
use mathlib.Core.Path.{◌≡◌, refl, ap, ◌∙◌, subst}
use mathlib.Core.Bool.{Bool, true, false}
use mathlib.Core.List.{List}
use mathlib.Core.Logic.{◌⊎◌, inl, inr, ⊎_elim}
use native.Mathlib.Omega.{arith}
use Rattle.std.proofs.Common.{Option, Some, None}
use Rattle.fields.specs.Lists.{pick}
use Rattle.fields.proofs.Bools.{both_ways}
use Rattle.fields.proofs.Tests.{all-intro, all-at}
use Rattle.quantities.specs.declared.Kilowatt.{Kilowatt}
use Rattle.quantities.specs.declared.Minute.{Minute}
use Rattle.quantities.specs.declared.Period.{Period}
use Rattle.rules.specs.declared.Levels.{Levels}
use Rattle.rules.specs.Codes.{forced_work}
use Rattle.rules.specs.Minutes.{FullRecord, fits_beside, levels_at, levels_fit, every_minute, levels_every}
use Rattle.block.specs.declared.Pair.{Pair}
use Rattle.levels.specs.declared.Extremes.{Extremes}
use Rattle.levels.specs.declared.Lanes.{Lanes}
use Rattle.levels.specs.declared.Limits.{Limits}
use Rattle.levels.specs.declared.SweepResult.{SweepResult}
use Rattle.levels.specs.Lanes.{lane_count, lane_levels}
use Rattle.levels.specs.Extremes.{CoversIfSome, CoversType, highest_of, common, joined_with, MinuteIn, Asks, AsksType}
use Rattle.levels.specs.Gathered.{GathersLanes}
use Rattle.levels.specs.Result.{found_in}
use Rattle.levels.proofs.Gathered.{gathered}
use Rattle.levels.proofs.Bounds.{fits-alone}
use Rattle.levels.proofs.Turns.{found-same}

-- a pair that passes, or whose minutes are asked
module _ (answers : Kilowatt → Bool → Type 0) (h r : Period) (from : Minute) (p : Pair) (t : Bool) (tested : answers p.power t)
    (joined : r ≡ pick t h (joined_with h from p.end))
  where
    wide : (k : ℕ) → MinuteIn h k → MinuteIn r k
    unfolding pick
    wide k i = by-case t refl where
      by-case : (x : Bool) → t ≡ x → MinuteIn r k
      by-case true e = let is : r ≡ h = joined ∙ rw e in rw is i
      by-case false e =
          let a = i.from in
          let o = i.to in
          let is : r ≡ joined_with h from p.end = joined ∙ rw e in
          rw is (record { from = omega arith; to = omega arith })

    own : (k : ℕ) → from.0 ≤ k → k < p.end.0 → answers p.power true ⊎ MinuteIn r k
    unfolding pick
    own k a o = by-case t refl where
      by-case : (x : Bool) → t ≡ x → answers p.power true ⊎ MinuteIn r k
      by-case true e = inl (rw e at tested)
      by-case false e =
          let is : r ≡ joined_with h from p.end = joined ∙ rw e in
          inr (rw is (record { from = omega arith; to = omega arith }))

-- the lanes of a type
module _ (ls : Lanes) (type : ℕ) (period : Period) (answers : Kilowatt → Bool → Type 0) {step : Period → Minute → Pair → Period → Type 0}
    (is : (h : Period) (from : Minute) (p : Pair) (r : Period) → step h from p r
    → (t : Bool) × answers p.power t × (r ≡ pick t h (joined_with h from p.end)))
  where
    pub lanes-asked : (h r : Period) → GathersLanes step ls type period 0 lane_count h r → AsksType ls type period (λ p. answers p true) r
    lanes-asked h r g = record {
      asks = gathered (λ h k x. answers x true ⊎ MinuteIn h k)
          (λ h from p r s k x q. let m = is h from p r s in ⊎_elim (λ q. inl q) (λ i. inr (wide answers h r from p m.0 m.1 m.2 k i)) q)
          (λ h from p r s k a o. let m = is h from p r s in own answers h r from p m.0 m.1 m.2 k a o) ls type period h r g;
    }

-- every minute of a period passes exactly if those do that are among h: the others pass
module _ (test : ℕ → Bool) (period h : Period) (passes : (m : ℕ) → period.start.0 ≤ m → m < period.end.0
    → (test m ≡ true) ⊎ MinuteIn h m) where
  abbrev part : Period
  part = common period h

  inner : every_minute period.start.0 period.end.0 test ≡ true → every_minute part.start.0 part.end.0 test ≡ true
  inner e =
      all-intro test (λ m. m) part.start.0 (part.end.0 - part.start.0)
      (λ m a b. all-at test (λ m. m) period.start.0 (period.end.0 - period.start.0) m e (omega arith) (omega arith))

  outer : every_minute part.start.0 part.end.0 test ≡ true → every_minute period.start.0 period.end.0 test ≡ true
  outer e =
      all-intro test (λ m. m) period.start.0 (period.end.0 - period.start.0)
      (λ m a b. ⊎_elim (λ t. t) (inside m a (omega arith)) (passes m a (omega arith)))
    where
      inside : (m : ℕ) → period.start.0 ≤ m → m < period.end.0 → MinuteIn h m → test m ≡ true
      inside m a o i =
          let l = i.from in
          let u = i.to in
          all-at test (λ m. m) part.start.0 (part.end.0 - part.start.0) m e (omega arith) (omega arith)

  pub narrowed : every_minute part.start.0 part.end.0 test ≡ every_minute period.start.0 period.end.0 test
  narrowed = both_ways _ _ outer inner

-- question 17: a level that fits beside the highest deratings fits beside those of its minute
module _ (ls : Lanes) (ws : List FullRecord) (direction : ℕ) (period : Period) (u : Limits)
    (same : (m : ℕ) → lane_levels ls m ≡ levels_at ws direction m) {p n : Option Extremes}
    (cp : CoversType ls 2 period p) (cn : CoversType ls 3 period n) {passes : Kilowatt → Type 0}
    (means : (k : Kilowatt) → passes k → fits_beside u.kind.0 u.range k.0 (highest_of p) (highest_of n) ≡ true) {h : Period}
    (asked : AsksType ls forced_work period passes h) where
  abbrev Fits : Levels → Type 0
  Fits l = levels_fit u.kind.0 u.range l ≡ true

  fit-or-asked : (m : ℕ) (f x y : Option Kilowatt) → CoversIfSome p x → CoversIfSome n y → Asks passes h m f
      → Fits (record { forced = f; positive = x; negative = y }) ⊎ MinuteIn h m
  fit-or-asked m None x y a b asks = inl (fits-alone u.range p n x y a b u.kind.0 None refl)
  fit-or-asked m (Some f) x y a b asks =
      ⊎_elim (λ q. inl (fits-alone u.range p n x y a b u.kind.0 (Some f) (means f q))) (λ q. inr q) asks

  at-minute : (m : ℕ) → period.start.0 ≤ m → m < period.end.0 → Fits (levels_at ws direction m) ⊎ MinuteIn h m
  unfolding lane_levels
  at-minute m a o =
      subst (λ (l : Levels). Fits l ⊎ MinuteIn h m) (same m)
      (fit-or-asked m _ _ _ (cp.covers m a o) (cn.covers m a o) (asked.asks m a o))

  pub asked-enough : {g : SweepResult} → g ≡ found_in (lane_levels ls) u (common period h).start.0 (common period h).end.0
      → g.fits ≡ levels_every (levels_fit u.kind.0 u.range) ws direction period.start.0 period.end.0
  unfolding levels_every found_in
  asked-enough e =
      ap (λ (g : SweepResult). g.fits) (e ∙ found-same u _ _ same)
      ∙ narrowed (λ m. levels_fit u.kind.0 u.range (levels_at ws direction m)) period h at-minute
