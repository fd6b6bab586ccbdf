-- Texts that are put piece by piece. What a buffer has no room for is left out, and still counts.
use Rattle.std.specs.Prelude.{◌≡◌, ℕ, ◌+◌, ◌≤◌, List, length, min}
use Rattle.fields.specs.Lists.{put}
use Rattle.texts.specs.declared.Text.{Text}

-- the last place that a number of 64 bits says, which no buffer reaches
abbrev pub last_place : ℕ
last_place = 18446744073709551615

-- b is a with x, of at most so many bytes, put at its end
pub record Writes (most : ℕ) (a : Text) (x : List ℕ) (b : Text) : Type 0 where
  pub same_reference : b.bytes.ghost_name ≡ a.bytes.ghost_name
  pub end : b.end ≡ min (a.end + length x) last_place
  pub bytes : b.bytes.now ≡ put a.bytes.now a.end x
  pub upper_bound : length x ≤ most
  pub in_reach : length a.bytes.now ≤ last_place

-- a buffer gets x, of n bytes and at most so many, at its start
pub record Puts (most : ℕ) (here x there : List ℕ) (n : ℕ) : Type 0 where
  pub upper_bound : n ≤ most
  pub value : n ≡ length x
  pub text_after : there ≡ put here 0 x
