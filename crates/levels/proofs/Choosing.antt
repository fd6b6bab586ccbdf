-- The lane that a sweep chooses for a type. Assumes nothing.
use Prim.Native.Nat.{ℕ, zero, suc, ◌+◌, ◌-◌, ◌≤◌, ◌<◌}
use mathlib.Core.Path.{◌≡◌, refl, ap, sym, ◌∙◌, subst}
use mathlib.Core.Bool.{Bool, true, false, false≢true}
use mathlib.Core.List.{List}
use native.Mathlib.Omega.{arith}
use native.Mathlib.Nat.{zero-add}
use lib.Dec.{eqb}
use lib.ListN.{length, get_or, set, take, replicate, length-set}
use lib.Seq.{get_or-set_same, get_or-set_other}
use borrow.Author.Tests.{eqb-true, eqb-false, ne_eqb}
use Rattle.std.proofs.Common.{Option, Some, None, is_some, min}
use Rattle.std.specs.Option.{option_or, IfSome}
use Rattle.fields.specs.Lists.{pick, series}
use Rattle.fields.proofs.Slices.{filled_more, filled-all}
use Rattle.quantities.specs.declared.Kilowatt.{Kilowatt}
use Rattle.quantities.specs.declared.Minute.{Minute}
use Rattle.block.specs.declared.Pair.{Pair}
use Rattle.levels.specs.declared.Lane.{Lane}
use Rattle.levels.specs.declared.Lanes.{Lanes}
use Rattle.levels.specs.declared.LevelSpan.{LevelSpan}
use Rattle.levels.specs.declared.Source.{Source}
use Rattle.levels.specs.Pairs.{pairs_of, level_among_pairs, Passed}
use Rattle.levels.specs.Lanes.{lane_count, lane_in, lane_pair, lane_level, level_if_lane, level_among_lanes, Placed, Held, Chosen}
use Rattle.levels.specs.Stays.{Stays}
use Rattle.levels.proofs.Parts.{passed_none, passed_later}

-- an element that was set, and the others
module _ {A : Type 0} (P : ℕ → A → Type 0) (xs : List A) (d : A) (i : ℕ) (v : A) (l : i < length xs) where
  pub set_keeps : P i v → ((j : ℕ) → (j ≡ i → ⊥) → P j (get_or xs j d)) → (j : ℕ) → P j (get_or (set xs i v) j d)
  set_keeps new old j = by-case (eqb j i) refl where
    by-case : (t : Bool) → eqb j i ≡ t → P j (get_or (set xs i v) j d)
    by-case true e =
        let k = eqb-true j i e in
        rw (k, get_or-set_same xs i v d l) new
    by-case false e =
        let k = eqb-false j i e in
        rw (get_or-set_other xs i j v d k) (old j k)

none_passed : (n i : ℕ) → get_or {A = ℕ} (replicate n 0) i 0 ≡ 0
none_passed zero i = refl
none_passed (suc n) zero = refl
none_passed (suc n) (suc i) = none_passed n i

none-of : (v : Option Kilowatt) → is_some v ≡ false → v ≡ None
none-of None t = refl
none-of (Some x) t = absurd (false≢true (sym t))

or-there : (v w : Option Kilowatt) → is_some v ≡ true → option_or v w ≡ v
or-there None w t = absurd (false≢true t)
or-there (Some x) w t = refl

module _ (ls : Lanes) where
  -- the pairs before a lane's place have ended, where it is a lane
  abbrev PassedIn : Option Lane → (ℕ → Pair) → ℕ → ℕ → Type 0
  PassedIn lane f place m = IfSome lane (λ lane. Passed f lane.count place m)

  passed-in-later : (lane : Option Lane) (f : ℕ → Pair) (place : ℕ) {m k : ℕ} → PassedIn lane f place m → m ≤ k → PassedIn lane f place k
  passed-in-later None f place h l = tt
  passed-in-later (Some lane) f place h l = passed_later h l

  passed-in-none : (lane : Option Lane) (f : ℕ → Pair) (m : ℕ) → PassedIn lane f 0 m
  passed-in-none None f m = tt
  passed-in-none (Some lane) f m = passed_none

  pub placed-none : {m : ℕ} → Placed ls (replicate lane_count 0) m
  placed-none {m} = record { size = refl; at = λ i l. rw (none_passed lane_count i) (passed-in-none (lane_in ls i) (lane_pair ls i) m) }

  pub placed-later : {places : List ℕ} {m k : ℕ} → Placed ls places m → m ≤ k → Placed ls places k
  placed-later {places} h l = record { size = h.size; at = λ i o. passed-in-later (lane_in ls i) (lane_pair ls i) (get_or places i 0) (h.at i o) l }

  -- lane i, whose pairs were read as f
  module _ {i : ℕ} (o : i < lane_count) {lane : Lane} (here : lane_in ls i ≡ Some lane) {f : ℕ → Pair} (read : f ≡ lane_pair ls i) where
    pub placed_at : {places : List ℕ} {m : ℕ} → Placed ls places m → Passed f lane.count (get_or places i 0) m
    placed_at {places} {m} h =
        subst (λ (f : ℕ → Pair). Passed f lane.count (get_or places i 0) m) (sym read)
        (subst (λ (l : Option Lane). PassedIn l (lane_pair ls i) (get_or places i 0) m) here (h.at i o))

    pub placed-set : {places : List ℕ} {m place : ℕ} → Placed ls places m → Passed f lane.count place m
        → Placed ls (set places i place) m
    placed-set {places} {m} {place} h p =
        let n = h.size in
        record {
          size = simp length-set (omega arith);
          at = set_keeps (λ j place. j < lane_count → PassedIn (lane_in ls j) (lane_pair ls j) place m) places 0 i place (omega arith)
              (λ _. subst (λ (l : Option Lane). PassedIn l (lane_pair ls i) place m) (sym here)
              (subst (λ (f : ℕ → Pair). Passed f lane.count place m) read p))
              (λ j ne. h.at j);
        }

  -- the lanes from i on
  module _ (type : ℕ) where
    abbrev level : ℕ → ℕ → Option Kilowatt
    level i k = level_among_lanes (lane_in ls) (lane_pair ls) type i (lane_count - i) k

    on : (i k : ℕ) → i < lane_count → level i k ≡ option_or (level_if_lane (lane_in ls i) (lane_pair ls i) type k) (level (i + 1) k)
    unfolding level_among_lanes
    on i k l =
        let e : lane_count - i ≡ suc (lane_count - (i + 1)) = omega arith in
        rw e

    -- what is sought, before lane i: up to `until` only the lanes from i on count
    pub record Looked (i m until : ℕ) : Type 0 where
      pub most : i ≤ lane_count
      pub later : m < until
      pub rest : (k : ℕ) → m ≤ k → k < until → level 0 k ≡ level i k

    module _ {i m until : ℕ} (h : Looked i m until) (l : i < lane_count) where
      pub looked-skipped : lane_in ls i ≡ None → Looked (i + 1) m until
      looked-skipped q = record {
        most = omega arith;
        later = h.later;
        rest = λ k a b. h.rest k a b ∙ on i k l ∙ rw q;
      }

      module _ {lane : Lane} (here : lane_in ls i ≡ Some lane) where
        pub looked-past : (lane.record_type.0 ≡ type → ⊥) → Looked (i + 1) m until
        unfolding lane_level pick
        looked-past ne = record {
          most = omega arith;
          later = h.later;
          rest = λ k a b. h.rest k a b ∙ on i k l ∙ rw (here, ne_eqb lane.record_type.0 type ne);
        }

        module _ {f : ℕ → Pair} (read : f ≡ lane_pair ls i) (own : lane.record_type.0 ≡ type) where
          of-type : {v : Option Kilowatt} (k : ℕ) → lane_level lane f lane.record_type.0 k ≡ v
              → level_if_lane (lane_in ls i) (lane_pair ls i) type k ≡ v
          of-type k e =
              ap (λ (l : Option Lane). level_if_lane l (lane_pair ls i) type k) here
              ∙ ap (λ (type : ℕ). lane_level lane (lane_pair ls i) type k) (sym own)
              ∙ ap (λ (f : ℕ → Pair). lane_level lane f lane.record_type.0 k) (sym read)
              ∙ e

          pub looked-miss : {span : LevelSpan} {next : ℕ} → Stays (lane_level lane f lane.record_type.0) m span
              → is_some span.level ≡ false → next ≡ min until span.until.0 → Looked (i + 1) m next
          looked-miss {span} {next} p t q =
              let before = h.later in
              let stays = p.later in
              record {
                most = omega arith;
                later = omega arith;
                rest = λ k x y. h.rest k x (omega arith) ∙ on i k l ∙ rw (of-type k (p.same k x (omega arith)), none-of span.level t);
              }

          pub looked-hit : {place : ℕ} {source : Source} {held next : Minute} → f ≡ pairs_of source → Held f lane m held.0
              → Passed f lane.count place m → m < (f place).end.0 → next.0 ≡ min until held.0
              → Chosen ls type m (record {
                at = Some (record { pairs = source; count = lane.count; place = place });
                until = next;
              })
          looked-hit {place} {source} {held} {next} is a p e q =
              let before = h.later in
              let after = a.later in
              record {
                stands = record {
                  later = omega arith;
                  begun = record {
                    ahead = record {
                      there = λ k x y. subst (λ (f : ℕ → Pair). is_some (level_among_pairs (series f 0 lane.count) k) ≡ true) is
                          (a.there k x (omega arith));
                      passed = subst (λ (f : ℕ → Pair). Passed f lane.count place m) is p;
                    };
                    ends = subst (λ (f : ℕ → Pair). m < (f place).end.0) is e;
                  };
                };
                same = λ k x y. h.rest k x (omega arith) ∙ on i k l
                    ∙ ap (λ (v : Option Kilowatt). option_or v (level (i + 1) k)) (of-type k (a.same k x (omega arith)))
                    ∙ or-there _ _ (a.there k x (omega arith))
                    ∙ ap (λ (f : ℕ → Pair). level_among_pairs (series f 0 lane.count) k) is;
              }

    pub looked-all : {i m : ℕ} {until : Minute} → Looked i m until.0 → lane_count ≤ i
        → Chosen ls type m (record { at = None; until = until })
    unfolding level_among_lanes
    looked-all {i} {m} h l =
        let none : lane_count - i ≡ 0 = omega arith in
        record {
          stands = record { later = h.later; begun = tt };
          same = λ k x y. h.rest k x y ∙ rw none;
        }

-- the lanes that a loop fills
pub record Filled (lane : ℕ → Option Lane) (lanes : List (Option Lane)) (i : ℕ) : Type 0 where
  pub most : i ≤ lane_count
  pub size : length lanes ≡ lane_count
  pub before : take i lanes ≡ series lane 0 i

module _ (lane : ℕ → Option Lane) where
  pub filled-start : {l : Option Lane} → Filled lane (replicate lane_count l) 0
  unfolding series
  filled-start = record { most = omega arith; size = refl; before = refl }

  pub filled_next : {lanes : List (Option Lane)} {i : ℕ} {l : Option Lane} → Filled lane lanes i → i < lane_count → l ≡ lane i
      → Filled lane (set lanes i l) (i + 1)
  filled_next {lanes} {i} h l e =
      let size = h.size in
      record {
        most = omega arith;
        size = simp length-set (omega arith);
        before = filled_more lane lanes 0 i h.before (omega arith) (e ∙ ap lane (sym (zero-add i)));
      }

  pub filled-end : {lanes : List (Option Lane)} {i : ℕ} → Filled lane lanes i → lane_count ≤ i → lanes ≡ series lane 0 lane_count
  filled-end {lanes} {i} h l =
      let most = h.most in
      let e : i ≡ lane_count = omega arith in
      filled-all lanes _ lane_count h.size (rw e at h.before)
