-- What the writers of a block put is what its readers read. Assumes nothing.
use Prim.Native.Nat.{ℕ, ◌+◌, ◌≤◌, ◌<◌}
use mathlib.Core.Path.{◌≡◌, refl, ap, sym, ◌∙◌}
use mathlib.Core.List.{List, ◌++◌}
use native.Mathlib.Omega.{arith}
use native.Mathlib.Nat.{zero-add}
use lib.ListN.{length, take, drop, take-append-drop}
use lib.Seq.{ext_get_or, get_or-take, length-take-le, take_all}
use Rattle.fields.specs.Fields.{u8_at, uint_at, bytes_of}
use Rattle.fields.specs.Lists.{series, put}
use Rattle.fields.proofs.Tests.{series-length, series-at}
use Rattle.fields.proofs.Numbers.{uint-found, uint-put, uint-same}
use Rattle.fields.proofs.Slices.{put-length, put-append, put-below}
use Rattle.rules.specs.declared.Record.{Record}
use Rattle.rules.specs.declared.UnitHead.{UnitHead}
use Rattle.rules.specs.Block.{pair_start, unit_head, HeadFits}
use Rattle.rules.specs.After.{put_row}
use Rattle.block.specs.declared.Pair.{Pair}
use Rattle.block.specs.Slot.{pair_at}
use Rattle.block.specs.Codec.{put_unit, put_last_stamp, put_powers, put_unit_head, codes_bytes, times_bytes, put_record, pair_bytes_of}
use Rattle.block.specs.Codec.{head_fields_end, slot_fields_end, RecordFits, HoldsRecord, PairFits}

-- the first n elements one by one, and a list of which they are the start
taken : (s : List ℕ) (n : ℕ) → n ≤ length s → take n s ≡ series (u8_at s) 0 n
taken s n h =
    let m = length-take-le n s h in
    ext_get_or 0 (take n s) (series (u8_at s) 0 n) (m ∙ sym (series-length (u8_at s) 0 n))
    (λ i l.
    let k : i < n = omega arith in
    get_or-take n s i 0 k ∙ sym (series-at (u8_at s) 0 n i 0 k ∙ ap (u8_at s) (zero-add i)))

opened : (s : List ℕ) (n : ℕ) → n ≤ length s → s ≡ series (u8_at s) 0 n ++ drop n s
opened s n h = sym (ap (λ (l : List ℕ). l ++ drop n s) (sym (taken s n h)) ∙ take-append-drop n s)

-- over a head's bytes up to its fields' end, given one by one, the puts compute
module _ (f : ℕ → ℕ) (rest : List ℕ) (h : UnitHead) (fits : HeadFits h) where
  unfoldable head-put : List ℕ
  head-put = put_unit_head (series f 0 head_fields_end ++ rest) h

  head_read : unit_head head-put ≡ h
  unfolding head-put put bytes_of series put_row put_unit put_last_stamp put_powers put_unit_head
  head_read =
      rw (
        uint-found 2 head-put 2 h.unit _ refl fits.unit,
        uint-found 2 head-put 4 h.owner _ refl fits.owner,
        uint-found 4 head-put 12 h.row.since.0 _ refl fits.since,
        uint-found 4 head-put 16 h.last_stamp.0 _ refl fits.stamp,
        uint-found 4 head-put 20 h.powers.generation.max.0 _ refl fits.generation_max,
        uint-found 4 head-put 24 h.powers.generation.min.0 _ refl fits.generation_min,
        uint-found 4 head-put 28 h.powers.consumption.max.0 _ refl fits.consumption_max,
        uint-found 4 head-put 32 h.powers.consumption.min.0 _ refl fits.consumption_min,
      )

pub head-back : (b : List ℕ) (h : UnitHead) → head_fields_end ≤ length b → HeadFits h → unit_head (put_unit_head b h) ≡ h
unfolding head-put
head-back b h long fits =
    ap (λ (x : List ℕ). unit_head (put_unit_head x h)) (opened b head_fields_end long)
    ∙ head_read (u8_at b) (drop head_fields_end b) h fits

-- the same over a slot's bytes and the identifier's
module _ (f g : ℕ → ℕ) (rest : List ℕ) (r : Record) (k : ℕ) (id : r.identifier ≡ series g 0 16) where
  unfoldable record-put : List ℕ
  record-put = codes_bytes r ++ series g 0 16 ++ times_bytes r k ++ rest

  record-whole : put_record (series f 0 slot_fields_end ++ rest) r k ≡ record-put
  unfolding record-put put bytes_of series codes_bytes times_bytes put_record
  record-whole = rw id

  record-rest : drop slot_fields_end record-put ≡ rest
  unfolding record-put bytes_of series codes_bytes times_bytes
  record-rest = refl

  record-held : RecordFits r → k < 65536 → HoldsRecord record-put r k
  unfolding record-put bytes_of uint_at series codes_bytes times_bytes
  record-held fits few =
      let identifier : series (u8_at record-put) 8 16 ≡ r.identifier = sym id in
      record {
        marked = refl;
        fields = rw (
          uint-found 2 record-put 6 r.ordinal _ refl fits.ordinal,
          identifier,
          uint-found 4 record-put 24 r.stamp.0 _ refl fits.stamp,
          uint-found 4 record-put 28 r.period.start.0 _ refl fits.start,
          uint-found 4 record-put 32 r.period.end.0 _ refl fits.end,
        );
        pairs = uint-found 2 record-put 36 k _ refl few;
      }

module _ (z : List ℕ) (r : Record) (k : ℕ) (long : slot_fields_end ≤ length z) (fits : RecordFits r) where
  id-opened : r.identifier ≡ series (u8_at r.identifier) 0 16
  id-opened =
      let all = fits.identifier in
      sym (take_all 16 r.identifier (omega arith)) ∙ taken r.identifier 16 (omega arith)

  written : put_record z r k ≡ record-put (u8_at z) (u8_at r.identifier) (drop slot_fields_end z) r k id-opened
  written =
      ap (λ (x : List ℕ). put_record x r k) (opened z slot_fields_end long)
      ∙ record-whole (u8_at z) (u8_at r.identifier) (drop slot_fields_end z) r k id-opened

  pub record-back : k < 65536 → HoldsRecord (put_record z r k) r k
  record-back few = rw written (record-held _ _ _ r k id-opened fits few)

  pub others-kept : drop slot_fields_end (put_record z r k) ≡ drop slot_fields_end z
  others-kept = rw written (record-rest _ _ _ r k id-opened)

-- two numbers side by side
module _ (z : List ℕ) (at v w : ℕ) (long : at + 8 ≤ length z) (small : v < 4294967296) (little : w < 4294967296) where
  both : put z at (bytes_of 4 v ++ bytes_of 4 w) ≡ put (put z at (bytes_of 4 v)) (at + 4) (bytes_of 4 w)
  unfolding bytes_of
  both = put-append (bytes_of 4 v) (bytes_of 4 w) z at

  first_back : uint_at 4 (put z at (bytes_of 4 v ++ bytes_of 4 w)) at ≡ v
  first_back =
      rw both
      (uint-same 4 _ (put z at (bytes_of 4 v)) at (put-below (bytes_of 4 w) _ (at + 4) at (at + 4) (omega arith))
      ∙ uint-put 4 z at v (omega arith) small)

  second_back : uint_at 4 (put z at (bytes_of 4 v ++ bytes_of 4 w)) (at + 4) ≡ w
  second_back =
      let n = put-length z at (bytes_of 4 v) in
      rw both (uint-put 4 (put z at (bytes_of 4 v)) (at + 4) w (omega arith) little)

pub pair-back : (z : List ℕ) (j : ℕ) (p : Pair) → pair_start (j + 1) ≤ length z → PairFits p
    → pair_at (put z (pair_start j) (pair_bytes_of p)) j ≡ p
unfolding pair_bytes_of
pair-back z j p long fits =
    let room : pair_start j + 8 ≤ length z = omega arith in
    rw (
      first_back z (pair_start j) _ _ room fits.end fits.power,
      second_back z (pair_start j) _ _ room fits.end fits.power,
    )
