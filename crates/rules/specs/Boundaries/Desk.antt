-- Set-up (20, 21), questions 1 to 3 on a register, and where the block afterwards is put.
use Rattle.std.specs.Prelude.{ℕ, List, [], ◌∷◌, ◌++◌, Bool, not, ◌&&◌, eqb, length}
use Rattle.fields.specs.Lists.{part}
use Rattle.rules.specs.Block.{zeros}
use Rattle.rules.specs.Desk.{new_register, set_up, question3, with_block, answer_to}
use Rattle.rules.specs.Samples.{◌but◌, byte, half, unit, owner, entry_bytes}
use Rattle.rules.specs.Boundaries.Tests.{entry_w, entry_m, unit_w, unit_m, with_last_stamp, positive, same_bytes}

-- owner 7's W1 and owner 8's M1
abbrev pub two : List ℕ
two = entry_bytes entry_w ++ entry_bytes entry_m

abbrev pub sets_up : ℕ → List ℕ → List ℕ → List ℕ → Bool
sets_up n roster buffer after = eqb (set_up roster buffer).number n && same_bytes after (set_up roster buffer).after

-- "is the roster 1 to 64 good entries? No: 20. Is the buffer n × 7,168 bytes? No: 21; either refusal writes nothing."
abbrev pub set_ups : List Bool
set_ups =
    sets_up 0 (entry_bytes entry_w) (1 ∷ zeros 7167) (unit_w but with_last_stamp 0)
    ∷ eqb (length (set_up (entry_bytes entry_w) (zeros 7168)).after) 7168
    ∷ sets_up 21 (entry_bytes entry_w) (1 ∷ zeros 7166) (1 ∷ [])
    ∷ sets_up 21 (entry_bytes entry_w) (1 ∷ zeros 7168) (1 ∷ [])
    ∷ sets_up 21 two (1 ∷ zeros 7167) (1 ∷ [])
    ∷ sets_up 20 (entry_bytes entry_w but half 2 0) (1 ∷ zeros 7167) (1 ∷ [])
    ∷ sets_up 20 (entry_bytes entry_w but half 2 0) (1 ∷ []) (1 ∷ [])
    ∷ same_bytes (unit_w but with_last_stamp 0) (part (new_register two) 0 7168)
    ∷ same_bytes (unit_m but with_last_stamp 0 but half 2 2) (part (new_register two) 7168 7168)
    ∷ eqb (length (new_register two)) 14336
    ∷ []

abbrev pub register_of_two : List ℕ
register_of_two = new_register two

-- 3. "Is the unit 1 to n and the owner the one in its block?"
abbrev pub owners : List Bool
owners =
    question3 register_of_two (positive 20000)
    ∷ question3 register_of_two (positive 20000 but unit 2 but owner 8)
    ∷ not (question3 register_of_two (positive 20000 but owner 8))
    ∷ not (question3 register_of_two (positive 20000 but unit 2))
    ∷ not (question3 register_of_two (positive 20000 but unit 0))
    ∷ not (question3 register_of_two (positive 20000 but unit 3 but owner 0))
    ∷ not (question3 register_of_two (positive 20000 but unit 3 but owner 8))
    ∷ []

-- the register's answer
abbrev pub register_gives : ℕ → List ℕ → List ℕ → Bool
register_gives n register s = eqb (answer_to register s).answer.number n && eqb (answer_to register s).answer.part 0

abbrev pub register_of_one : List ℕ
register_of_one = new_register (entry_bytes entry_w)

-- 1 before 2 before 3, then the unit's page; all blocks are judged, whosever the report is
abbrev pub asked : List Bool
asked =
    register_gives 1 [] []
    ∷ register_gives 1 (register_of_one but byte 9 1) []
    ∷ register_gives 2 register_of_one []
    ∷ register_gives 2 register_of_one (positive 20000 but owner 8 but byte 46 1)
    ∷ register_gives 3 register_of_one (positive 20000 but owner 8)
    ∷ register_gives 16 register_of_two (positive 190001 but unit 2 but owner 8)
    ∷ register_gives 1 (register_of_two but half 7170 1) (positive 20000)
    ∷ same_bytes (zeros 7168 ++ (1 ∷ 2 ∷ [])) (with_block (zeros 14336) 2 (1 ∷ 2 ∷ []))
    ∷ same_bytes (1 ∷ 2 ∷ []) (with_block (zeros 14336) 1 (1 ∷ 2 ∷ []))
    ∷ []
