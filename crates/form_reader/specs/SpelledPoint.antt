-- Whether a point's line is spelled as it is written.
use Rattle.std.specs.Prelude.{ℕ, ◌+◌, ◌-◌, ◌*◌, Bool, ◌&&◌, ◌||◌, leb, ltb, eqb}
use Rattle.form_reading.specs.declared.Grid.{Grid}

-- a position that its minute gives back: counted from 1, in a minute of 32 bits; without a step there is but one
abbrev pub is_position : Grid → ℕ → Bool
is_position g n = leb 1 n && (leb 1 g.step || eqb n 1) && ltb (g.period.start.0 + (n - 1) * g.step) 4294967296
