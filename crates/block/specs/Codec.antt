-- What the writers of a block put, field by field, where its readers read it.
use Rattle.std.specs.Prelude.{ℕ, ◌<◌, ◌≡◌, true, List, [], ◌∷◌, ◌++◌, length}
use Rattle.fields.specs.Fields.{bytes_of, put_u16, put_u32}
use Rattle.fields.specs.Lists.{put}
use Rattle.rules.specs.declared.Powers.{Powers}
use Rattle.rules.specs.declared.Record.{Record}
use Rattle.rules.specs.declared.UnitHead.{UnitHead}
use Rattle.rules.specs.Block.{unit_mark, slot_mark, used, record_in, stored_count}
use Rattle.rules.specs.After.{put_row}
use Rattle.block.specs.declared.Pair.{Pair}

unfoldable pub put_unit : List ℕ → ℕ → ℕ → ℕ → List ℕ
put_unit b unit owner kind = put (put_u16 (put_u16 (put_u16 b 0 unit_mark) 2 unit) 4 owner) 6 (kind ∷ [])

unfoldable pub put_last_stamp : List ℕ → ℕ → List ℕ
put_last_stamp b stamp = put_u32 b 16 stamp

unfoldable pub put_powers : List ℕ → Powers → List ℕ
put_powers b p =
    put_u32
    (put_u32 (put_u32 (put_u32 b 20 p.generation.max.0) 24 p.generation.min.0) 28 p.consumption.max.0)
    32
    p.consumption.min.0

-- a unit's head
unfoldable pub put_unit_head : List ℕ → UnitHead → List ℕ
put_unit_head b h =
    put_powers (put_last_stamp (put_row (put_unit b h.unit h.owner h.kind.0) h.row) h.last_stamp.0) h.powers

-- bytes 0 to 7 of a slot, and 24 to 37
unfoldable pub codes_bytes : Record → List ℕ
codes_bytes r =
    bytes_of 2 slot_mark ++ (r.record_type.0 ∷ r.direction.0 ∷ r.qualification ∷ r.start_mark.0 ∷ []) ++ bytes_of 2 r.ordinal

unfoldable pub times_bytes : Record → ℕ → List ℕ
times_bytes r count =
    bytes_of 4 r.stamp.0 ++ bytes_of 4 r.period.start.0 ++ bytes_of 4 r.period.end.0 ++ bytes_of 2 count

-- a slot's fields
unfoldable pub put_record : List ℕ → Record → ℕ → List ℕ
put_record z r count = put (put (put z 0 (codes_bytes r)) 8 r.identifier) 24 (times_bytes r count)

unfoldable pub pair_bytes_of : Pair → List ℕ
pair_bytes_of p = bytes_of 4 p.end.0 ++ bytes_of 4 p.power.0

-- where the fields of a head end, and those of a slot
abbrev pub head_fields_end : ℕ
head_fields_end = 36

abbrev pub slot_fields_end : ℕ
slot_fields_end = 38

-- numbers that fit their bytes, and an identifier that fills its sixteen
pub record RecordFits (r : Record) : Type 0 where
  pub ordinal : r.ordinal < 65536
  pub identifier : length r.identifier ≡ 16
  pub stamp : r.stamp.0 < 4294967296
  pub start : r.period.start.0 < 4294967296
  pub end : r.period.end.0 < 4294967296

pub record PairFits (p : Pair) : Type 0 where
  pub end : p.end.0 < 4294967296
  pub power : p.power.0 < 4294967296

-- this record stands in the slot, with so many pairs
pub record HoldsRecord (z : List ℕ) (r : Record) (count : ℕ) : Type 0 where
  pub marked : used z ≡ true
  pub fields : record_in z ≡ r
  pub pairs : stored_count z ≡ count
