-- The level of pairs and of a lane: how long it stays, and the place that is kept. Assumes nothing.
use Prim.Native.Nat.{ℕ, zero, suc, ◌+◌, ◌-◌, ◌≤◌, ◌<◌}
use mathlib.Core.Path.{◌≡◌, refl, ap, sym, ◌∙◌}
use mathlib.Core.Bool.{Bool, true, false, ◌&&◌, and-false, false≢true}
use native.Mathlib.Omega.{arith}
use borrow.Author.Tests.{lt-ltb, le-ltb, le-leb, lt-leb, eq-eqb, leb-true, ltb-true}
use mathlib.Core.Logic.{⊎_elim}
use native.Mathlib.Nat.{zero-add}
use Rattle.fields.proofs.Bools.{and_left, and_right, pick-elim, lt-or-le}
use lib.Dec.{leb, ltb, eqb}
use Rattle.fields.specs.Lists.{pick, series}
use Rattle.fields.proofs.Tests.{series-more}
use Rattle.std.proofs.Common.{min, Option, Some, None, is_some}
use Rattle.quantities.specs.declared.Kilowatt.{Kilowatt}
use Rattle.quantities.specs.declared.Minute.{Minute}
use Rattle.block.specs.declared.Pair.{Pair}
use Rattle.levels.specs.declared.Lane.{Lane}
use Rattle.levels.specs.declared.LaneSpan.{LaneSpan}
use Rattle.levels.specs.Pairs.{level_among_pairs, Passed}
use Rattle.levels.specs.Lanes.{lane_level, Stepped, Held}

none-there : {v : Option Kilowatt} → v ≡ None → is_some v ≡ true → ⊥
none-there e t = false≢true (sym (ap (λ (v : Option Kilowatt). is_some v) e) ∙ t)

pub passed_none : {f : ℕ → Pair} {n m : ℕ} → Passed f n 0 m
passed_none {f} {n} =
    let e : n - 0 ≡ n = omega arith in
    record { most = omega arith; rest = λ k l. rw e }

module _ {f : ℕ → Pair} {n j m : ℕ} (h : Passed f n j m) where
  pub passed_later : {k : ℕ} → m ≤ k → Passed f n j k
  passed_later l = record { most = h.most; rest = λ k a. h.rest k (omega arith) }

  pub passed-more : j < n → (f j).end.0 ≤ m → Passed f n (j + 1) m
  unfolding level_among_pairs pick
  passed-more l o = record {
    most = omega arith;
    rest = λ k a. h.rest k a ∙ rw (series-more f j n l, le-ltb k (f j).end.0 (omega arith));
  }

  pub stepped-hit : j < n → m < (f j).end.0 → Stepped f n m (level_among_pairs (series f 0 n)) (record {
    span = record { level = Some (f j).power; until = (f j).end };
    place = j;
  })
  unfolding level_among_pairs pick
  stepped-hit l o = record {
    stays = record { later = o; same = λ k a b. h.rest k a ∙ rw (series-more f j n l, lt-ltb k (f j).end.0 (omega arith)) };
    passed = h;
    ends = λ t. o;
  }

  pub stepped-all : {far : Minute} → j ≡ n → m < far.0
      → Stepped f n m (level_among_pairs (series f 0 n)) (record { span = record { level = None; until = far }; place = j })
  unfolding level_among_pairs series
  stepped-all e o =
      let t : n - j ≡ 0 = omega arith in
      record {
        stays = record { later = o; same = λ k a b. h.rest k a ∙ rw t };
        passed = h;
        ends = λ t. absurd (false≢true t);
      }

passed-all : {f : ℕ → Pair} {n m : ℕ} (j d : ℕ) → Passed f n j m → j + d ≤ n → ((k : ℕ) → j ≤ k → k < j + d → (f k).end.0 ≤ m)
    → Passed f n (j + d) m
passed-all j zero h o e = (let k : j + 0 ≡ j = omega arith in rw k h)
passed-all j (suc d) h o e =
    let i : j + suc d ≡ j + 1 + d = omega arith in
    rw i
    (passed-all (j + 1) d (passed-more h (omega arith) (e j (omega arith) (omega arith))) (omega arith) (λ k a b. e k (omega arith) (omega arith)))

pub passed-upto : {f : ℕ → Pair} {n j m : ℕ} → Passed f n j m → (i : ℕ) → j ≤ i → i ≤ n → ((k : ℕ) → j ≤ k → k < i → (f k).end.0 ≤ m)
    → Passed f n i m
passed-upto {j = j} h i a b e =
    let k : j + (i - j) ≡ i = omega arith in
    rw k at (passed-all j (i - j) h (omega arith) (λ k a b. e k a (omega arith)))

-- a lane: before its start, from its end on, and between
module _ (lane : Lane) (f : ℕ → Pair) {m place : ℕ} (h : Passed f lane.count place m) where
  pub before-start : m < lane.period.start.0 → Stepped f lane.count m (lane_level lane f lane.record_type.0)
      (record { span = record { level = None; until = lane.period.start }; place = place })
  unfolding lane_level pick
  before-start l = record {
    stays = record { later = l; same = λ k a b. rw (lt-leb lane.period.start.0 k (omega arith), and-false) };
    passed = h;
    ends = λ t. absurd (false≢true t);
  }

  pub past_end : {far : Minute} → lane.period.end.0 ≤ m → m < far.0 → Stepped f lane.count m (lane_level lane f lane.record_type.0)
      (record { span = record { level = None; until = far }; place = place })
  unfolding lane_level pick
  past_end {far} l o = record {
    stays = record { later = o; same = λ k a b. rw (le-ltb k lane.period.end.0 (omega arith), and-false) };
    passed = h;
    ends = λ t. absurd (false≢true t);
  }

pub within : (lane : Lane) (f : ℕ → Pair) {m : ℕ} {r : LaneSpan} {until : Minute} → lane.period.start.0 ≤ m
    → m < lane.period.end.0 → Stepped f lane.count m (level_among_pairs (series f 0 lane.count)) r
    → until.0 ≡ min r.span.until.0 lane.period.end.0
    → Stepped f lane.count m (lane_level lane f lane.record_type.0) (record {
      span = record { level = r.span.level; until = until };
      place = r.place;
    })
unfolding lane_level pick
within lane f {m} {r} {until} a b h s =
    let step = h.stays.later in
    record {
      stays = record {
        later = omega arith;
        same = λ k c d. rw (
          eq-eqb lane.record_type.0 lane.record_type.0 refl,
          le-leb lane.period.start.0 k (omega arith),
          lt-ltb k lane.period.end.0 (omega arith),
        ) (h.stays.same k c (omega arith));
      };
      passed = h.passed;
      ends = h.ends;
    }

-- the level of pairs before the last one's end
pub there-before : (f : ℕ → Pair) (i n k : ℕ) → k < (f (i + n)).end.0 → is_some (level_among_pairs (series f i (suc n)) k) ≡ true
unfolding level_among_pairs series pick
there-before f i zero k l =
    let e : i + 0 ≡ i = omega arith in
    rw (lt-ltb k (f i).end.0 (rw e at l))
there-before f i (suc n) k l =
    let e : i + suc n ≡ i + 1 + n = omega arith in
    pick-elim (λ (v : Option Kilowatt). is_some v ≡ true) (ltb k (f i).end.0)
    (λ _. refl)
    (λ _. there-before f (i + 1) n k (rw e at l))

-- where there is a level, the place is one of a pair
pub place-less : {f : ℕ → Pair} {n j m : ℕ} → Passed f n j m → is_some (level_among_pairs (series f 0 n) m) ≡ true → j < n
unfolding level_among_pairs series
place-less {f} {n} {j} {m} h t =
    ⊎_elim
    (λ l. l)
    (λ l.
    let e : n - j ≡ 0 = omega arith in
    let none : level_among_pairs (series f 0 n) m ≡ None = h.rest m (omega arith) ∙ rw e in
    absurd (none-there none t))
    (lt-or-le j n)

there-picked : (q : Bool) (v : Option Kilowatt) → is_some (pick q v None) ≡ true → q ≡ true
unfolding pick
there-picked true v t = refl
there-picked false v t = absurd (false≢true t)

-- a lane that has a level at a minute: how long it has one
module _ {f : ℕ → Pair} (lane : Lane) {m : ℕ} {step : LaneSpan} (t : is_some step.span.level ≡ true) (h : Stepped f
    lane.count m (lane_level lane f lane.record_type.0) step) where
  abbrev holds : ℕ → Bool
  holds k = eqb lane.record_type.0 lane.record_type.0 && leb lane.period.start.0 k && ltb k lane.period.end.0

  held-now : (k : ℕ) → m ≤ k → k < step.span.until.0 → holds k ≡ true
  unfolding lane_level
  held-now k a b = there-picked (holds k) _ (ap (λ (v : Option Kilowatt). is_some v) (h.stays.same k a b) ∙ t)

  held_same : (k : ℕ) → holds k ≡ true → lane_level lane f lane.record_type.0 k ≡ level_among_pairs (series f 0 lane.count) k
  unfolding lane_level pick
  held_same k e = rw e

  held-there : (k : ℕ) → m ≤ k → k < step.span.until.0 → is_some (level_among_pairs (series f 0 lane.count) k) ≡ true
  held-there k a b = ap (λ (v : Option Kilowatt). is_some v) (sym (held_same k (held-now k a b)) ∙ h.stays.same k a b) ∙ t

  pub held_place : step.place < lane.count
  held_place = place-less h.passed (held-there m (omega arith) h.stays.later)

  pub held-step : Held f lane m step.span.until.0
  held-step = record { later = h.stays.later; there = held-there; same = λ k a b. held_same k (held-now k a b) }

  pub held-last : {p : Pair} {until : Minute} → p ≡ f (lane.count - 1) → m < p.end.0
      → until.0 ≡ min p.end.0 lane.period.end.0 → Held f lane m until.0
  held-last {p} {until} e l q =
      let place = held_place in
      let now = held-now m (omega arith) h.stays.later in
      let same = eqb lane.record_type.0 lane.record_type.0 in
      let from = leb lane.period.start.0 m in
      let started = leb-true lane.period.start.0 m (and_right same from (and_left (same && from) _ now)) in
      let ends = ltb-true m lane.period.end.0 (and_right (same && from) _ now) in
      let n : lane.count ≡ suc (lane.count - 1) = omega arith in
      let last : p.end.0 ≡ (f (0 + (lane.count - 1))).end.0 = ap (λ (p : Pair). p.end.0) e ∙ ap (λ (j : ℕ). (f j).end.0)
      (sym (zero-add (lane.count - 1))) in
      record {
        later = omega arith;
        there = λ k a b. rw n (there-before f 0 (lane.count - 1) k (omega arith));
        same = λ k a b. held_same k (rw (
          eq-eqb lane.record_type.0 lane.record_type.0 refl,
          le-leb lane.period.start.0 k (omega arith),
          lt-ltb k lane.period.end.0 (omega arith),
        ));
      }
