-- What one sweep finds: question 17 and warnings 2 and 4, in every minute of a period.
use Rattle.std.specs.Prelude.{ℕ, ◌<◌, ◌≤◌, ◌≡◌, ◌&&◌, ◌||◌}
use Rattle.rules.specs.declared.Levels.{Levels}
use Rattle.rules.specs.Minutes.{every_minute, some_minute, levels_fit, above_max, below_min}
use Rattle.levels.specs.declared.Limits.{Limits}
use Rattle.levels.specs.declared.Stretch.{Stretch}
use Rattle.levels.specs.declared.SweepResult.{SweepResult}

abbrev pub with_span : SweepResult → Limits → Levels → SweepResult
with_span g u l = record {
  fits = g.fits && levels_fit u.kind.0 u.range l;
  above = g.above || above_max u.kind.0 u.range l;
  below = g.below || below_min u.kind.0 u.range l;
}

-- of the levels that f gives for each minute
unfoldable pub found_in : (ℕ → Levels) → Limits → ℕ → ℕ → SweepResult
found_in f u start end = record {
  fits = every_minute start end (λ m. levels_fit u.kind.0 u.range (f m));
  above = some_minute start end (λ m. above_max u.kind.0 u.range (f m));
  below = some_minute start end (λ m. below_min u.kind.0 u.range (f m));
}

-- what two stretches of minutes hold together
abbrev pub both_found : SweepResult → SweepResult → SweepResult
both_found g h = record { fits = g.fits && h.fits; above = g.above || h.above; below = g.below || h.below }

-- a stretch of minutes from `start` on, not beyond `end`, was judged
pub record Ran (f : ℕ → Levels) (u : Limits) (start end : ℕ) (r : Stretch) : Type 0 where
  pub later : start < r.until.0
  pub most : r.until.0 ≤ end
  pub found : r.found ≡ found_in f u start r.until.0
