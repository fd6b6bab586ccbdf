-- The boundaries' units and tests. A case is a test that holds; one that does not is told by its number in its list.
use Rattle.std.specs.Prelude.{ℕ, ◌+◌, List, [], ◌∷◌, ◌++◌, Bool, true, false, ◌&&◌, eqb}
use Rattle.fields.specs.Lists.{all, put}
use Rattle.rules.specs.declared.RosterEntry.{RosterEntry}
use Rattle.rules.specs.Codes.{positive_derating, negative_derating, forced_work, off_grid, change, withdraw, executed, W1, M1, Z1, A, P}
use Rattle.rules.specs.Block.{head_bytes}
use Rattle.rules.specs.Judge.{judge}
use Rattle.rules.specs.Samples.{D, minute, ◌but◌, word, operation, mark, qualification, ordinal, identifier, stamp, created, levelled, slot_of, entry_bytes, powers_of, entry_for}

-- the numbers, from n, of the tests that fail
unfoldable pub failing : ℕ → List Bool → List ℕ
failing n [] = []
failing n (true ∷ ts) = failing (n + 1) ts
failing n (false ∷ ts) = n ∷ failing (n + 1) ts

-- roster B: all four kinds, both directions
abbrev pub entry_w : RosterEntry
entry_w = entry_for 7 W1 P (powers_of 200000 80000 0 0)

abbrev pub entry_m : RosterEntry
entry_m = entry_for 8 M1 0 (powers_of 190000 70000 150000 60000)

abbrev pub entry_z : RosterEntry
entry_z = entry_for 9 Z1 0 (powers_of 50000 10000 0 0)

abbrev pub entry_a : RosterEntry
entry_a = entry_for 7 A 0 (powers_of 30000 5000 20000 4000)

abbrev pub roster_b : List ℕ
roster_b = entry_bytes entry_w ++ entry_bytes entry_m ++ entry_bytes entry_z ++ entry_bytes entry_a

-- A unit's page: its head with last stamp D+10, then its slots. The free slots at the end are left out: a byte past the end is 0.
abbrev pub page_of : RosterEntry → List ℕ
page_of entry =
    head_bytes (record {
      unit = 1;
      owner = entry.owner;
      kind = entry.kind;
      row = entry.row;
      last_stamp = minute 10;
      powers = entry.powers;
    })

abbrev pub unit_w : List ℕ
unit_w = page_of entry_w

abbrev pub unit_m : List ℕ
unit_m = page_of entry_m

abbrev pub unit_z : List ℕ
unit_z = page_of entry_z

abbrev pub unit_a : List ℕ
unit_a = page_of entry_a

-- a head's row, and its last stamp
abbrev pub row : ℕ → ℕ → ℕ → List ℕ → List ℕ
row state q since b = word 12 (D + since) (put b 7 (state ∷ q ∷ []))

abbrev pub with_last_stamp : ℕ → List ℕ → List ℕ
with_last_stamp m b = word 16 (D + m) b

-- planned records from D+15 to D+30
abbrev pub positive : ℕ → List ℕ
positive power = levelled positive_derating 15 30 power

abbrev pub negative : ℕ → List ℕ
negative power = levelled negative_derating 15 30 power

abbrev pub forced : ℕ → List ℕ
forced power = levelled forced_work 15 30 power

-- a begun record of the one minute D+14, at D+14
abbrev pub brief : ℕ → ℕ → List ℕ
brief type power = levelled type 14 15 power but mark executed but stamp 14

abbrev pub off_grid_at : ℕ → ℕ → ℕ → List ℕ
off_grid_at q start end = created off_grid start end [] but mark executed but qualification q

-- the slot of another record: identifier bytes all 2
abbrev pub held : List ℕ → List ℕ
held s = slot_of (s but identifier 2)

abbrev pub changed : List ℕ → List ℕ
changed s = s but operation change but ordinal 2

abbrev pub withdrawn : ℕ → ℕ → ℕ → List ℕ
withdrawn type start end = created type start end [] but operation withdraw but ordinal 2

-- the bytes expected, and nothing but zeros after them
unfoldable pub same_bytes : List ℕ → List ℕ → Bool
same_bytes [] found = all (λ n. eqb n 0) found
same_bytes (e ∷ es) [] = false
same_bytes (e ∷ es) (f ∷ fs) = eqb e f && same_bytes es fs

-- the page answers the report with n, and no part is named; with 8, and this part is named; with 0 and these warnings
abbrev pub gives : ℕ → List ℕ → List ℕ → Bool
gives n page s = eqb (judge page s).answer.number n && eqb (judge page s).answer.part 0

abbrev pub names : ℕ → List ℕ → List ℕ → Bool
names part page s = eqb (judge page s).answer.number 8 && eqb (judge page s).answer.part part

abbrev pub warns : ℕ → List ℕ → List ℕ → Bool
warns n page s = eqb (judge page s).answer.number 0 && eqb (judge page s).answer.warnings n

-- the page accepts the report and becomes this one
abbrev pub becomes : List ℕ → List ℕ → List ℕ → Bool
becomes page s after = gives 0 page s && same_bytes after (judge page s).after
