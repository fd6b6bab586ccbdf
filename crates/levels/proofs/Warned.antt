-- Warnings 2 and 4 need be sought only between levels that are beyond the limits. Assumes nothing.
use Prim.Native.Nat.{ℕ, ◌≤◌, ◌<◌}
use mathlib.Core.Path.{◌≡◌, refl, ap, ◌∙◌, subst}
use mathlib.Core.Logic.{◌⊎◌, inl, inr, ⊎_elim}
use mathlib.Core.Bool.{Bool, true, false, not}
use mathlib.Core.List.{List}
use Rattle.std.proofs.Common.{Option, Some, None}
use Rattle.quantities.specs.declared.Kilowatt.{Kilowatt}
use Rattle.quantities.specs.declared.Period.{Period}
use Rattle.rules.specs.declared.Levels.{Levels}
use Rattle.rules.specs.Codes.{forced_work}
use Rattle.rules.specs.Minutes.{FullRecord, levels_at, above_max, below_min, levels_some}
use Rattle.levels.specs.declared.Lanes.{Lanes}
use Rattle.levels.specs.declared.Limits.{Limits}
use Rattle.levels.specs.declared.SweepResult.{SweepResult}
use Rattle.levels.specs.Lanes.{lane_levels}
use Rattle.levels.specs.Extremes.{common, MinuteIn, Asks, AsksType}
use Rattle.levels.specs.Result.{found_in}
use Rattle.levels.specs.Within.{power_within, level_warnings}
use Rattle.levels.proofs.Turns.{found-same}
use Rattle.levels.proofs.Asked.{narrowed}
use Rattle.levels.proofs.Within.{Within, not-above, not-below}

module _ (ls : Lanes) (ws : List FullRecord) (direction : ℕ) (period : Period) (u : Limits)
    (same : (m : ℕ) → lane_levels ls m ≡ levels_at ws direction m) {passes : Kilowatt → Type 0}
    (means : (k : Kilowatt) → passes k → power_within u k.0 ≡ true) {h : Period} (asked : AsksType ls forced_work period passes h)
  where
    -- a level is within the limits, or its minute is asked
    within-or-asked : (m : ℕ) (l : Option Kilowatt) → Asks passes h m l → Within u l ⊎ MinuteIn h m
    within-or-asked m None a = inl refl
    within-or-asked m (Some k) a = ⊎_elim (λ q. inl (means k q)) (λ q. inr q) a

    quiet : (m : ℕ) → period.start.0 ≤ m → m < period.end.0 → Within u (levels_at ws direction m).forced ⊎ MinuteIn h m
    unfolding lane_levels
    quiet m a o =
        subst (λ (l : Levels). Within u l.forced ⊎ MinuteIn h m) (same m) (within-or-asked m _ (asked.asks m a o))

    same_some : (test : Levels → Bool) → ((l : Levels) → Within u l.forced → test l ≡ false)
        → levels_some test ws direction (common period h).start.0 (common period h).end.0
        ≡ levels_some test ws direction period.start.0 period.end.0
    unfolding levels_some
    same_some test none =
        ap not
        (narrowed (λ m. not (test (levels_at ws direction m))) period h
        (λ m a o. ⊎_elim (λ w. inl (ap not (none (levels_at ws direction m) w))) (λ i. inr i) (quiet m a o)))

    pub warn-narrowed : {g : SweepResult} → g ≡ found_in (lane_levels ls) u (common period h).start.0 (common period h).end.0
        → record { above = g.above; below = g.below } ≡ level_warnings u.kind.0 u.range ws direction period.start.0 period.end.0
    unfolding level_warnings levels_some found_in
    warn-narrowed {g} e =
        let found = e ∙ found-same u _ _ same in
        let above = ap (λ (g : SweepResult). g.above) found ∙ same_some (above_max u.kind.0 u.range) (not-above u) in
        let below = ap (λ (g : SweepResult). g.below) found ∙ same_some (below_min u.kind.0 u.range) (not-below u) in
        λ i. record { above = above i; below = below i }
