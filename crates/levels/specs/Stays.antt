-- What a step promises: a value in a minute, and that it stays up to a later one, which is free.
use Rattle.std.specs.Prelude.{ℕ, ◌<◌, ◌≤◌, ◌≡◌, Option}
use Rattle.quantities.specs.declared.Kilowatt.{Kilowatt}
use Rattle.levels.specs.declared.LevelSpan.{LevelSpan}

-- v is f's value at m, and at every minute from m up to n; n is later than m
pub record Holds {A : Type 0} (f : ℕ → A) (m : ℕ) (v : A) (n : ℕ) : Type 0 where
  pub later : m < n
  pub same : (k : ℕ) → m ≤ k → k < n → f k ≡ v

abbrev pub Stays : (ℕ → Option Kilowatt) → ℕ → LevelSpan → Type 0
Stays f m r = Holds f m r.level r.until.0
