-- One put after another as one put. Assumes nothing.
use Prim.Native.Nat.{ℕ, ◌+◌}
use mathlib.Core.Path.{◌≡◌, sym}
use mathlib.Core.List.{List, ◌++◌}
use lib.ListN.{length}
use Rattle.fields.specs.Lists.{put}
use Rattle.fields.proofs.Slices.{put-append}

-- what is put where the bytes put before it end
pub put_on : (s : List ℕ) (at : ℕ) (vs ws : List ℕ) {t : List ℕ} → t ≡ put s at vs → put t (at + length vs) ws ≡ put s at (vs ++ ws)
put_on s at vs ws e = rw e (sym (put-append vs ws s at))
