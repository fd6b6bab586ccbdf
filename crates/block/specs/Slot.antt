-- Question 1 of a used slot, as one pass over its pairs asks it: proofs/Pairs.antt shows that it is what paper 01 asks.
use Rattle.std.specs.Prelude.{ℕ, ◌+◌, ◌≤◌, ◌≡◌, List, [], ◌∷◌, ◌++◌, Bool, true, false, not, ◌&&◌, ◌||◌, leb, ltb, eqb, length, drop}
use Rattle.std.specs.List.{list_all, All}
use Rattle.std.specs.Simd.{first_chunks}
use Rattle.fields.specs.Fields.{u16_at, u32_at}
use Rattle.fields.specs.Lists.{every, series}
use Rattle.quantities.specs.declared.Minute.{Minute}
use Rattle.quantities.specs.Quantities.{minute_at, kilowatt_at, highest_power}
use Rattle.rules.specs.declared.Record.{Record}
use Rattle.rules.specs.Codes.{between, stop, off_grid}
use Rattle.rules.specs.Records.{fields_in_range, kind_allows, begun}
use Rattle.rules.specs.Block.{pairs_start, pair_size, pair_start, slot_count, unit_mark, zeros_at, unit_head, slot_at, used}
use Rattle.rules.specs.Whole.{head_in_range, slots_apart}
use Rattle.block.specs.declared.Pair.{Pair}

-- the bytes that are tested for zeros at a time
abbrev pub stretch_size : ℕ
stretch_size = 1184

-- pair j of a slot
abbrev pub pair_at : List ℕ → ℕ → Pair
pair_at z j = record { end = minute_at z (pair_start j); power = kilowatt_at z (pair_start j + 4) }

-- the first k pairs of a slot, each by its bytes
abbrev pub pairs_of : List ℕ → ℕ → List (List ℕ)
pairs_of z k = first_chunks pair_size k (drop pairs_start z)

-- the part ends rise from start to end, and every power is in range
unfoldable pub pairs_rise : List (List ℕ) → ℕ → ℕ → Bool
pairs_rise [] start end = eqb start end
pairs_rise (p ∷ ps) start end = (ltb start (u32_at p 0) && leb (u32_at p 4) highest_power) && pairs_rise ps (u32_at p 0) end

-- the part ends alone
unfoldable pub ends_rise : List (List ℕ) → ℕ → ℕ → Bool
ends_rise [] start end = eqb start end
ends_rise (p ∷ ps) start end = ltb start (u32_at p 0) && ends_rise ps (u32_at p 0) end

-- what is asked of a record in a slot, but for its parts
unfoldable pub holds_alone : ℕ → Minute → Record → Bool
holds_alone kind last r =
    every
    (between stop off_grid r.record_type.0
    ∷ fields_in_range r []
    ∷ kind_allows kind r
    ∷ (not (eqb r.record_type.0 off_grid) || begun r)
    ∷ ltb r.period.start.0 r.period.end.0
    ∷ leb r.stamp.0 last.0
    ∷ (not (begun r) || leb r.period.start.0 r.stamp.0)
    ∷ [])

-- the slots of a block
abbrev pub slots_of : List ℕ → List (List ℕ)
slots_of b = series (slot_at b) 0 slot_count

-- from slot `end` on all are free
pub record FreeFrom (slots : List (List ℕ)) (end : ℕ) : Type 0 where
  pub most : end ≤ length slots
  pub free : All (λ z. used z ≡ false) (drop end slots)

-- each slot is apart from those below it, and from some below them all
unfoldable pub each_apart : List (List ℕ) → List (List ℕ) → Bool
each_apart below [] = true
each_apart below (z ∷ zs) = list_all (slots_apart z) below && each_apart (below ++ (z ∷ [])) zs

-- what is asked of a block's 64-byte head
unfoldable pub head_whole : ℕ → List ℕ → Bool
head_whole unit b =
    every
    (eqb (u16_at b 0) unit_mark
    ∷ eqb (unit_head b).unit unit
    ∷ zeros_at b 9 3
    ∷ zeros_at b 36 28
    ∷ head_in_range (unit_head b)
    ∷ [])
