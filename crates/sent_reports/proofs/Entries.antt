-- The puts of roster A's fields as one put, and the register that is set up from it. Assumes nothing.
use Prim.Native.Nat.{ℕ, ◌+◌, ◌*◌}
use mathlib.Core.Path.{◌≡◌, refl}
use mathlib.Core.Bool.{true}
use mathlib.Core.List.{List, [], ◌∷◌, ◌++◌}
use lib.Dec.{eqb}
use lib.ListN.{replicate}
use Rattle.fields.specs.Fields.{bytes_of}
use Rattle.fields.specs.Lists.{pick, put}
use Rattle.rules.specs.Codes.{W1, Z1, P}
use Rattle.rules.specs.declared.PowerRange.{PowerRange}
use Rattle.rules.specs.declared.RosterEntry.{RosterEntry}
use Rattle.rules.specs.Roster.{entry_mark}
use Rattle.rules.specs.Samples.{powers_of, entry_for, entry_bytes}
use Rattle.rules.specs.Cases.{roster_a}
use Rattle.rules.specs.Block.{block_size}
use Rattle.rules.specs.Desk.{set_up, units, new_register}
use Rattle.rules.proofs.Computed.{computed}
use Rattle.rules.proofs.Worked.{good}
use Rattle.sent_reports.proofs.Puts.{put_on}

pub range_put : (s : List ℕ) (at : ℕ) (r : PowerRange)
    → put (put s at (bytes_of 4 r.max.0)) (at + 4) (bytes_of 4 r.min.0) ≡ put s at (bytes_of 4 r.max.0 ++ bytes_of 4 r.min.0)
unfolding bytes_of
range_put s at r = put_on s at (bytes_of 4 r.max.0) (bytes_of 4 r.min.0) refl

pub entry_put : (s : List ℕ) (at : ℕ) (e : RosterEntry)
    → put (put (put (put (put (put s at (bytes_of 2 entry_mark)) (at + 2) (bytes_of 2 e.owner)) (at + 4) (e.kind.0 ∷ e.row.state.0 ∷ e.row.qualification ∷ 0 ∷ []))
    (at + 8) (bytes_of 4 e.row.since.0)) (at + 12) (bytes_of 4 e.powers.generation.max.0 ++ bytes_of 4 e.powers.generation.min.0))
    (at + 20) (bytes_of 4 e.powers.consumption.max.0 ++ bytes_of 4 e.powers.consumption.min.0)
    ≡ put s at (entry_bytes e)
unfolding bytes_of entry_bytes
entry_put s at e =
    put_on s at _ _
    (put_on s at _ _
    (put_on s at _ _ (put_on s at _ (e.kind.0 ∷ e.row.state.0 ∷ e.row.qualification ∷ 0 ∷ []) (put_on s at (bytes_of 2 entry_mark) (bytes_of 2 e.owner) refl))))

pub roster_put : (s : List ℕ)
    → put (put s 0 (entry_bytes (entry_for 7 W1 P (powers_of 200000 80000 0 0)))) 28 (entry_bytes (entry_for 9 Z1 0 (powers_of 50000 0 0 0)))
    ≡ put s 0 roster_a
unfolding bytes_of entry_bytes roster_a
roster_put s = put_on s 0 (entry_bytes (entry_for 7 W1 P (powers_of 200000 80000 0 0))) _ refl

pub roster_alone : put (replicate 56 0) 0 roster_a ≡ roster_a
unfolding put bytes_of entry_bytes roster_a
roster_alone = refl

-- the array has room for the blocks of two units
two_blocks : eqb 14336 (block_size * units roster_a) ≡ true
unfolding computed roster_a
two_blocks = refl

pub fresh_after : (set_up roster_a (replicate 14336 0)).after ≡ new_register roster_a
unfolding set_up pick
fresh_after = rw (good, two_blocks) refl
