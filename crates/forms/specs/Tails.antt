-- A text whose end stands, and what is put before it.
use Rattle.std.specs.Prelude.{ℕ, ◌+◌, ◌≤◌, ◌≡◌, List, ◌++◌, length, drop}
use Rattle.forms.specs.declared.Tail.{Tail}

-- so many bytes can be put before the text
abbrev pub has_place : ℕ → Tail → Type 0
has_place n a = (n ≤ a.start) × (a.start ≤ length a.bytes.now)

-- b is a with x, of at most so many bytes, put before it
pub record Prepends (most : ℕ) (a : Tail) (x : List ℕ) (b : Tail) : Type 0 where
  pub same_reference : b.bytes.ghost_name ≡ a.bytes.ghost_name
  pub size : length b.bytes.now ≡ length a.bytes.now
  pub start : b.start + length x ≡ a.start
  pub text : drop b.start b.bytes.now ≡ x ++ drop a.start a.bytes.now
  pub upper_bound : length x ≤ most
