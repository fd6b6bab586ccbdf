-- The lanes have the levels of the records that count. Assumes nothing.
use Prim.Native.Nat.{ℕ, zero, suc, ◌+◌, ◌-◌}
use mathlib.Core.Path.{◌≡◌, refl, ap, sym, ◌∙◌}
use mathlib.Core.Bool.{Bool, true, false, and-true, and-false}
use mathlib.Core.List.{List, ◌∷◌}
use native.Mathlib.Omega.{arith}
use native.Mathlib.Numerals.{add-one}
use lib.Dec.{eqb}
use lib.ListN.{get_or}
use native.Mathlib.Nat.{zero-add}
use Rattle.std.proofs.Common.{Option, None, ◌<◌}
use Rattle.std.specs.Option.{option_or}
use Rattle.fields.specs.Lists.{pick, series}
use Rattle.fields.proofs.Tests.{series-at}
use Rattle.quantities.specs.declared.Kilowatt.{Kilowatt}
use Rattle.quantities.specs.declared.Minute.{Minute}
use Rattle.report.specs.declared.Part.{Part}
use Rattle.report.specs.Report.{part_at, parts_of, part_count_of}
use Rattle.rules.specs.declared.Record.{Record}
use Rattle.rules.specs.Block.{pair_start, slot_at, stored_count, pairs_from, parts_in}
use Rattle.rules.specs.Questions.{record_of, record_at}
use Rattle.rules.specs.Minutes.{level_in, FullRecord, level_of, level_among, records_among, levels_at}
use Rattle.block.specs.declared.Pair.{Pair}
use Rattle.block.specs.Slot.{pair_at}
use Rattle.levels.specs.declared.Lane.{Lane}
use Rattle.levels.specs.declared.Lanes.{Lanes}
use Rattle.levels.specs.declared.Swept.{Swept}
use Rattle.levels.specs.Pairs.{report_pair, level_among_pairs}
use Rattle.levels.specs.Lanes.{lane_count, lane_of, report_lane, slot_lane, lane_at, lane_pairs, lane_pair, lane_in, lane_level, level_if_lane, level_among_lanes, type_level, lane_levels}
use Rattle.levels.specs.Counted.{swept_records}

-- the pairs of a report's parts, and of a slot
report-pairs : (s : List ℕ) (i n m : ℕ)
    → level_in (series (part_at s) i n) m ≡ level_among_pairs (series (report_pair s) i n) m
unfolding level_in level_among_pairs series pick
report-pairs s i zero m = refl
report-pairs s i (suc n) m = rw (report-pairs s (i + 1) n m)

slot-pairs : (z : List ℕ) (i n m : ℕ) (start : Minute)
    → level_in (pairs_from z (pair_start i) n start) m ≡ level_among_pairs (series (pair_at z) i n) m
unfolding level_in level_among_pairs series pairs_from pick
slot-pairs z i zero m start = refl
slot-pairs z i (suc n) m start =
    let a : pair_start i + 8 ≡ pair_start (i + 1) = omega arith in
    rw (a, slot-pairs z (i + 1) n m)

-- the lane of a record, where its direction is asked
lane-level : (r : Record) (ps : List Part) (f : ℕ → Pair) (k type direction m : ℕ)
    → level_in ps m ≡ level_among_pairs (series f 0 k) m
    → level_if_lane (lane_of r k direction) f type m ≡ level_of (record { fields = r; parts = ps }) type direction m
unfolding lane_level lane_of level_of pick
lane-level r ps f k type direction m p = by-case (eqb r.direction.0 direction) refl where
  by-case : (t : Bool) → eqb r.direction.0 direction ≡ t
      → level_if_lane (lane_of r k direction) f type m ≡ level_of (record { fields = r; parts = ps }) type direction m
  by-case true e = rw (e, and-true, p)
  by-case false e = rw (e, and-false)

module _ (b s : List ℕ) (swept : Swept) (type direction m : ℕ) where
  abbrev lane : ℕ → Option Lane
  lane = lane_at b s swept direction

  abbrev counts : ℕ → Bool
  counts i = get_or swept.counted i false

  lane-of-slot : (i : ℕ) → lane (i + 1) ≡ pick (counts i) (slot_lane b i direction) None
  unfolding lane_at
  lane-of-slot i = ap lane (add-one i)

  pairs-of-slot : (i : ℕ) → lane_pairs b s (i + 1) ≡ pair_at (slot_at b i)
  unfolding lane_pairs
  pairs-of-slot i = ap (lane_pairs b s) (add-one i)

  slots-lanes : (i n : ℕ) → level_among_lanes lane (lane_pairs b s) type (i + 1) n m ≡ level_among (records_among b counts i n) type direction m
  unfolding level_among_lanes level_among records_among pick
  slots-lanes i zero = refl
  slots-lanes i (suc n) = rw (lane-of-slot i, pairs-of-slot i, slots-lanes (i + 1) n) (by-case (counts i)) where
    rest : List FullRecord
    rest = records_among b counts (i + 1) n

    by-case : (t : Bool) → option_or (level_if_lane (pick t (slot_lane b i direction) None) (pair_at (slot_at b i)) type m)
        (level_among rest type direction m) ≡ level_among (pick t (record {
          fields = record_at b i;
          parts = parts_in
              (slot_at b i);
        } ∷ rest) rest) type direction m
    by-case true =
        ap (λ (v : Option Kilowatt). option_or v (level_among rest type direction m))
        (lane-level (record_at b i) (parts_in (slot_at b i)) _ (stored_count
        (slot_at b i)) type direction m
        (slot-pairs (slot_at b i) 0 (stored_count (slot_at b i)) m (record_at b i).period.start))
    by-case false = refl

  lanes-level : level_among_lanes lane (lane_pairs b s) type 0 lane_count m ≡ level_among (swept_records b s swept.counted
      swept.with_report) type direction m
  unfolding level_among_lanes level_among swept_records lane_at lane_pairs pick
  lanes-level = rw (slots-lanes 0 8) (by-case swept.with_report) where
    slots : List FullRecord
    slots = records_among b counts 0 8

    by-case : (t : Bool) → option_or (level_if_lane (pick t (report_lane s direction) None) (report_pair s) type m)
        (level_among slots type direction m) ≡ level_among (pick t (record
        { fields = record_of s; parts = parts_of s } ∷ slots) slots) type direction m
    by-case true =
        ap (λ (v : Option Kilowatt). option_or v (level_among slots type direction m))
        (lane-level (record_of s) (parts_of s) _ (part_count_of s) type direction m
        (report-pairs s 0 (part_count_of s) m))
    by-case false = refl

-- lanes that are alike have the same levels
levels-same : (x y : ℕ → Option Lane) (f : ℕ → ℕ → Pair) (type i n m : ℕ) → ((j : ℕ) → j < i + n → x j ≡ y j)
    → level_among_lanes x f type i n m ≡ level_among_lanes y f type i n m
unfolding level_among_lanes
levels-same x y f type i zero m h = refl
levels-same x y f type i (suc n) m h =
    rw (h i (omega arith), levels-same x y f type (i + 1) n m (λ j l. h j (omega arith)))

-- they are those of the records that count
pub records-levels : (ls : Lanes) (swept : Swept) (direction : ℕ)
    → ls.each ≡ series (lane_at ls.block.now ls.report.now swept direction) 0 lane_count → (m : ℕ)
    → lane_levels ls m ≡ levels_at (swept_records ls.block.now ls.report.now swept.counted swept.with_report) direction m
unfolding lane_levels levels_at
records-levels ls swept direction e m =
    let lane = lane_at ls.block.now ls.report.now swept direction in
    let same : (type : ℕ) → type_level ls type m ≡ level_among (swept_records ls.block.now ls.report.now swept.counted
    swept.with_report) type direction m = λ type.
    levels-same (lane_in ls) lane (lane_pair ls) type 0 lane_count m
    (λ j l. ap (λ (x : List (Option Lane)). get_or x j None) e ∙ series-at lane 0 lane_count j None (omega arith) ∙ ap
    lane (zero-add j))
    ∙ lanes-level ls.block.now ls.report.now swept type direction m in
    rw (same 4, same 2, same 3)

-- lane i as it is read
module _ (b s : List ℕ) (swept : Swept) (direction : ℕ) {i : ℕ} {l : Option Lane} where
  pub first_lane : i ≡ 0 → l ≡ pick swept.with_report (report_lane s direction) None → l ≡ lane_at b s swept direction i
  unfolding lane_at
  first_lane e q = q ∙ ap (lane_at b s swept direction) (sym e)

  pub next-lane : (i ≡ 0 → ⊥) → l ≡ pick (get_or swept.counted (i - 1) false) (slot_lane b (i - 1) direction) None
      → l ≡ lane_at b s swept direction i
  unfolding lane_at
  next-lane ne q =
      let e : suc (i - 1) ≡ i = omega arith in
      q ∙ ap (lane_at b s swept direction) e

-- its pairs
module _ (b s : List ℕ) {i : ℕ} where
  pub first_pairs : i ≡ 0 → report_pair s ≡ lane_pairs b s i
  unfolding lane_pairs
  first_pairs e = ap (lane_pairs b s) (sym e)

  pub next-pairs : {z : List ℕ} → (i ≡ 0 → ⊥) → z ≡ slot_at b (i - 1) → pair_at z ≡ lane_pairs b s i
  unfolding lane_pairs
  next-pairs ne q =
      let e : suc (i - 1) ≡ i = omega arith in
      rw q (ap (lane_pairs b s) e)
