-- Along the lanes chosen: what a turn keeps, and what the choices of a minute say of the lanes' levels. Assumes nothing.
use Prim.Native.Nat.{ℕ, ◌≤◌, ◌<◌}
use mathlib.Core.Path.{◌≡◌, refl, ap, sym, ◌∙◌, subst}
use mathlib.Core.Bool.{true, false, false≢true}
use mathlib.Core.Logic.{⊎_elim}
use native.Mathlib.Omega.{arith}
use lib.Dec.{leb}
use borrow.Author.Tests.{leb-true}
use Rattle.std.proofs.Common.{Option, Some, None, is_some, min}
use Rattle.std.specs.Option.{IfSome}
use Rattle.fields.proofs.Bools.{lt-or-le, pick-elim}
use Rattle.quantities.specs.declared.Kilowatt.{Kilowatt}
use Rattle.quantities.specs.declared.Minute.{Minute}
use Rattle.rules.specs.declared.Levels.{Levels}
use Rattle.levels.specs.declared.Choice.{Choice}
use Rattle.levels.specs.declared.Choices.{Choices}
use Rattle.levels.specs.declared.Lanes.{Lanes}
use Rattle.levels.specs.declared.LevelSpan.{LevelSpan}
use Rattle.levels.specs.declared.Limits.{Limits}
use Rattle.levels.specs.declared.Place.{Place}
use Rattle.levels.specs.declared.Stretch.{Stretch}
use Rattle.levels.specs.declared.SweepResult.{SweepResult}
use Rattle.levels.specs.Pairs.{pairs_of, Passed}
use Rattle.levels.specs.Lanes.{lane_levels, place_level, chosen_levels, Ahead, Begun, Standing, Chosen, Ready, soonest, span_at, moved}
use Rattle.levels.specs.Result.{with_span, both_found, found_in, Ran}
use Rattle.levels.specs.Stays.{Holds, Stays}
use Rattle.levels.proofs.Spans.{holds-less, holds-two, holds_by}
use Rattle.levels.proofs.Parts.{passed_later, passed-more, stepped-hit, place-less}
use Rattle.levels.proofs.Turns.{Judged, judged-join, found_none, found_turn}

-- a place that has moved along its lane to minute m
pub record Walked (until : ℕ) (first at : Option Place) (m : ℕ) : Type 0 where
  pub same : (k : ℕ) → place_level at k ≡ place_level first k
  pub ahead : IfSome at (λ p. Ahead p m until)

-- at the start
walked-first : {m : ℕ} (c : Choice) {until : ℕ} → Standing m c → until ≤ c.until.0 → Walked until c.at c.at m
walked-first {m} c {until} s l = record { same = λ k. refl; ahead = ahead c.at s.begun } where
  ahead : (at : Option Place) → IfSome at (λ p. Begun p m c.until.0) → IfSome at (λ p. Ahead p m until)
  ahead None b = tt
  ahead (Some p) b = record { there = λ k x y. b.ahead.there k x (omega arith); passed = b.ahead.passed }

ends-first : {m : ℕ} (c : Choice) → Standing m c → m < 4294967295 → m < (span_at c.at).until.0
ends-first {m} c s o = ends c.at s.begun where
  ends : (at : Option Place) → IfSome at (λ p. Begun p m c.until.0) → m < (span_at at).until.0
  ends None b = o
  ends (Some p) b = b.ends

module _ {until : ℕ} {first : Option Place} where
  walked-stays : (at : Option Place) {m : ℕ} → Walked until first at m → m < until → m < (span_at at).until.0
      → Stays (place_level first) m (span_at at)
  walked-stays None w l o = record { later = o; same = λ k a b. sym (w.same k) }
  walked-stays (Some p) {m} w l o =
      holds_by (stepped-hit w.ahead.passed (place-less w.ahead.passed (w.ahead.there m (omega arith) l)) o).stays
      (λ k. sym (w.same k))

  on-pair : (at : Option Place) {m : ℕ} → Walked until first at m → m < until → IfSome at (λ p. p.place < p.count)
  on-pair None w l = tt
  on-pair (Some p) {m} w l = place-less w.ahead.passed (w.ahead.there m (omega arith) l)

  walked-on : (at : Option Place) {m n : ℕ} → Walked until first at m → m < until → m ≤ n
      → Walked until first (moved at (span_at at).until.0 n) n
  walked-on None w l o = record { same = w.same; ahead = tt }
  walked-on (Some p) {m} {n} w l o =
      let later = passed_later w.ahead.passed o in
      record {
        same = w.same;
        ahead = record {
          there = λ k a b. w.ahead.there k (omega arith) b;
          passed = pick-elim (λ (j : ℕ). Passed (pairs_of p.pairs) p.count j n) (leb (pairs_of p.pairs p.place).end.0 n)
              (λ t. passed-more later (place-less w.ahead.passed (w.ahead.there m (omega arith) l))
              (leb-true (pairs_of p.pairs p.place).end.0 n t))
              (λ t. later);
        };
      }

module _ (cs : Choices) (u : Limits) where
  -- the minutes before m are judged, and each place has moved up to it
  pub record Along (start end : ℕ) (f p n : Option Place) (m : ℕ) (g : SweepResult) : Type 0 where
    pub from : start ≤ m
    pub most : m ≤ end
    pub found : g ≡ found_in (chosen_levels cs) u start m
    pub forced : Walked end cs.forced.at f m
    pub positive : Walked end cs.positive.at p m
    pub negative : Walked end cs.negative.at n m
    pub first : m ≡ start → (f ≡ cs.forced.at) × (p ≡ cs.positive.at) × (n ≡ cs.negative.at)

  module _ {start : ℕ} {end last : Minute} (ready : Ready cs start) (o : start < last.0) (bound : last.0 ≤ 4294967295)
      (ends : end.0 ≡ soonest cs last) where
    pub start-less : start < end.0
    start-less =
        let a = ready.forced.later in
        let b = ready.positive.later in
        let c = ready.negative.later in
        omega arith

    pub along-none : {g : SweepResult} → g ≡ record { fits = true; above = false; below = false }
        → Along start end.0 cs.forced.at cs.positive.at cs.negative.at start g
    along-none e =
        let l = start-less in
        record {
          from = omega arith;
          most = omega arith;
          found = e ∙ found_none (chosen_levels cs) u start;
          forced = walked-first cs.forced ready.forced (omega arith);
          positive = walked-first cs.positive ready.positive (omega arith);
          negative = walked-first cs.negative ready.negative (omega arith);
          first = λ _. (refl, refl, refl);
        }

    module _ {f p n : Option Place} {m : Minute} {g : SweepResult} (w : Along start end.0 f p n m.0 g) where
      pub along-ends : end.0 ≤ m.0 → Ran (chosen_levels cs) u start (soonest cs last) (record { found = g; until = m })
      along-ends l =
          let most = w.most in
          let a = start-less in
          record { later = omega arith; most = omega arith; found = w.found }

      module _ (l : m.0 < end.0) where
        pub forced-place : IfSome f (λ p. p.place < p.count)
        forced-place = on-pair f w.forced l

        pub positive-place : IfSome p (λ p. p.place < p.count)
        positive-place = on-pair p w.positive l

        pub negative-place : IfSome n (λ p. p.place < p.count)
        negative-place = on-pair n w.negative l

        module _ {x y v : LevelSpan} {until : Minute} (qx : x ≡ span_at f) (qy : y ≡ span_at p) (qv : v ≡ span_at n)
            (qu : until.0 ≡ min (min (min x.until.0 y.until.0) v.until.0) end.0) where
          pub along-stops : until.0 ≤ m.0 → Ran (chosen_levels cs) u start (soonest cs last) (record { found = g; until = m })
          along-stops h =
              record {
                later = ⊎_elim (λ (b : start < m.0). b) again (lt-or-le start m.0);
                most = omega arith;
                found = w.found;
              }
            where
              end-first : {x : LevelSpan} {at : Option Place} (c : Choice) → x ≡ span_at at → at ≡ c.at → Standing start c → start < x.until.0
              end-first {x} {at} c q is s =
                  subst (λ (x : LevelSpan). start < x.until.0) (sym (q ∙ ap span_at is)) (ends-first c s (omega arith))

              again : m.0 ≤ start → start < m.0
              again b =
                  let from = w.from in
                  let same : m.0 ≡ start = omega arith in
                  let places = w.first same in
                  let a = end-first cs.forced qx places.0 ready.forced in
                  let d = end-first cs.positive qy places.1 ready.positive in
                  let e = end-first cs.negative qv places.2 ready.negative in
                  omega arith

          pub along-turn : {next : SweepResult} {f' p' n' : Option Place} → m.0 < until.0
              → next ≡ with_span g u (record { forced = x.level; positive = y.level; negative = v.level })
              → f' ≡ moved f x.until.0 until.0 → p' ≡ moved p y.until.0 until.0 → n' ≡ moved n v.until.0 until.0
              → Along start end.0 f' p' n' until.0 next
          along-turn {next} h e qf qp qn =
              let from = w.from in
              let as-levels : Option Kilowatt → Option Kilowatt → Option Kilowatt → Levels =
              λ x y z. record { forced = x; positive = y; negative = z } in
              let levels : Levels = record { forced = x.level; positive = y.level; negative = v.level } in
              let apply : (Option Kilowatt → Levels) → Option Kilowatt → Levels = λ f z. f z in
              let all-three = holds_by (holds-two apply (holds-two as-levels (stays w.forced qx (omega arith))
              (stays w.positive qy (omega arith))) (stays w.negative qv (omega arith))) (λ k. refl) in
              record {
                from = omega arith;
                most = omega arith;
                found = e ∙ ap (λ (g : SweepResult). with_span g u levels) w.found
                    ∙ sym (found_turn (chosen_levels cs) u start from (holds-less all-three h (omega arith)));
                forced = next-walked w.forced qx qf;
                positive = next-walked w.positive qy qp;
                negative = next-walked w.negative qv qn;
                first = λ q. absurd (omega arith);
              }
            where
              stays : {x : LevelSpan} {first at : Option Place} → Walked end.0 first at m.0 → x ≡ span_at at → m.0 < x.until.0
                  → Stays (place_level first) m.0 x
              stays {x} {first} {at} w q o =
                  subst (λ (x : LevelSpan). Stays (place_level first) m.0 x) (sym q)
                  (walked-stays at w l (subst (λ (x : LevelSpan). m.0 < x.until.0) q o))

              next-walked : {x : LevelSpan} {first at at' : Option Place} → Walked end.0 first at m.0 → x ≡ span_at at
                  → at' ≡ moved at x.until.0 until.0 → Walked end.0 first at' until.0
              next-walked {x} {first} {at} w q is =
                  subst (λ (at : Option Place). Walked end.0 first at until.0)
                  (sym (is ∙ ap (λ (x : LevelSpan). moved at x.until.0 until.0) q)) (walked-on at w l (omega arith))

-- what the lanes' levels are up to the soonest change of a choice
module _ (ls : Lanes) {m : ℕ} where
  chosen-lanes : {f p n : Choice} (end : Minute) → Chosen ls 4 m f → Chosen ls 2 m p → Chosen ls 3 m n
      → (k : ℕ) → m ≤ k → k < soonest (record { forced = f; positive = p; negative = n }) end
      → lane_levels ls k ≡ chosen_levels (record { forced = f; positive = p; negative = n }) k
  unfolding lane_levels
  chosen-lanes {f} {p} {n} end cf cp cn k l o =
      rw (cf.same k l (omega arith), cp.same k l (omega arith), cn.same k l (omega arith))

  pub chosen-judged : {f p n : Choice} {u : Limits} {start : ℕ} {end : Minute} {g next : SweepResult} {r : Stretch}
      → Judged (lane_levels ls) u start end.0 m g → Chosen ls 4 m f → Chosen ls 2 m p → Chosen ls 3 m n
      → Ran (chosen_levels (record { forced = f; positive = p; negative = n })) u m (soonest
      (record { forced = f; positive = p; negative = n }) end) r → next ≡ both_found g r.found
      → Judged (lane_levels ls) u start end.0 r.until.0 next
  chosen-judged {f} {p} {n} {u} {start} {end} w cf cp cn ran e =
      let most = ran.most in
      judged-join (lane_levels ls) u start w ran.later (omega arith)
      (λ k a b. chosen-lanes end cf cp cn k a (omega arith)) ran.found e

  pub chosen-quiet : {f : Choice} → Chosen ls 4 m f → is_some f.at ≡ false
      → Holds (λ k. (lane_levels ls k).forced) m None f.until.0
  unfolding lane_levels
  chosen-quiet {f} c t = record { later = c.stands.later; same = λ k x y. c.same k x y ∙ no-place f.at t k } where
    no-place : (at : Option Place) → is_some at ≡ false → (k : ℕ) → place_level at k ≡ None
    no-place None t k = refl
    no-place (Some p) t k = absurd (false≢true (sym t))
