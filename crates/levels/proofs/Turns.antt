-- The sweep: what was found up to a minute, and a turn. Assumes nothing.
use Prim.Native.Nat.{ℕ, ◌-◌, ◌≤◌, ◌<◌}
use mathlib.Core.Path.{◌≡◌, ap, sym, ◌∙◌}
use mathlib.Core.Bool.{Bool, true, false, and-true, and-false, or-false}
use mathlib.Core.Logic.{◌⊎◌, inl, inr, ⊎_elim}
use native.Mathlib.Omega.{arith}
use Rattle.std.proofs.Common.{min, None, is_none}
use Rattle.rules.specs.declared.Levels.{Levels}
use Rattle.rules.specs.Minutes.{every_minute, some_minute, levels_fit, above_max, below_min}
use Rattle.levels.specs.declared.Limits.{Limits}
use Rattle.levels.specs.declared.SweepResult.{SweepResult}
use Rattle.levels.specs.Result.{with_span, both_found, found_in}
use Rattle.levels.specs.Stays.{Holds}
use Rattle.levels.proofs.Spans.{holds_of, holds-less, every-none, every-turn, every-join, some-none, some_turn, some-join}

pub found-same : (u : Limits) (start end : ℕ) {f h : ℕ → Levels} → ((k : ℕ) → f k ≡ h k)
    → found_in f u start end ≡ found_in h u start end
found-same u start end same = λ i. found_in (λ k. same k i) u start end

module _ (f : ℕ → Levels) (u : Limits) (start : ℕ) where
  pub found_none : record { fits = true; above = false; below = false } ≡ found_in f u start start
  unfolding found_in
  found_none = rw (every-none, some-none, some-none)

  pub found_turn : {m n : ℕ} {l : Levels} → start ≤ m → Holds f m l n
      → found_in f u start n ≡ with_span (found_in f u start m) u l
  unfolding found_in
  found_turn {m} {n} {l} o h =
      λ i. record {
        fits = every-turn start o (holds_of h (levels_fit u.kind.0 u.range)) i;
        above = some_turn start o (holds_of h (above_max u.kind.0 u.range)) i;
        below = some_turn start o (holds_of h (below_min u.kind.0 u.range)) i;
      }

  found-join : {h : ℕ → Levels} {m n : ℕ} → start ≤ m → m ≤ n → ((k : ℕ) → m ≤ k → k < n → f k ≡ h k)
      → found_in f u start n ≡ both_found (found_in f u start m) (found_in h u m n)
  unfolding found_in
  found-join {h} {m} {n} a b same =
      let fit = levels_fit u.kind.0 u.range in
      let high = above_max u.kind.0 u.range in
      let low = below_min u.kind.0 u.range in
      λ i. record {
        fits = every-join start m n (λ k. fit (f k)) (λ k. fit (h k)) a b (λ k x y. ap fit (same k x y)) i;
        above = some-join start m n (λ k. high (f k)) (λ k. high (h k)) a b (λ k x y. ap high (same k x y)) i;
        below = some-join start m n (λ k. low (f k)) (λ k. low (h k)) a b (λ k x y. ap low (same k x y)) i;
      }

  -- minutes without forced work: nothing is found in them
  module _ {m n : ℕ} (from : start ≤ m) (h : Holds (λ k. (f k).forced) m None n) where
    quiet : (test : Levels → Bool) (t : Bool) → ((l : Levels) → l.forced ≡ None → test l ≡ t)
        → Holds (λ k. test (f k)) m t n
    quiet test t g = record { later = h.later; same = λ k a b. g (f k) (h.same k a b) }

    every-quiet : (test : Levels → Bool) → ((l : Levels) → l.forced ≡ None → test l ≡ true)
        → every_minute start n (λ k. test (f k)) ≡ every_minute start m (λ k. test (f k))
    every-quiet test g = every-turn start from (quiet test true g) ∙ and-true (every_minute start m (λ k. test (f k)))

    some-quiet : (test : Levels → Bool) → ((l : Levels) → l.forced ≡ None → test l ≡ false)
        → some_minute start n (λ k. test (f k)) ≡ some_minute start m (λ k. test (f k))
    some-quiet test g = some_turn start from (quiet test false g) ∙ or-false (some_minute start m (λ k. test (f k)))

    found-quiet : found_in f u start n ≡ found_in f u start m
    unfolding found_in levels_fit above_max below_min
    found-quiet =
        λ i. record {
          fits = every-quiet (levels_fit u.kind.0 u.range) (λ l e. rw e) i;
          above = some-quiet (above_max u.kind.0 u.range) (λ l e. rw e (and-false (is_none l.positive))) i;
          below = some-quiet (below_min u.kind.0 u.range) (λ l e. rw e (and-false (is_none l.negative))) i;
        }

  -- where no minute is left
  found-empty : {m end : ℕ} → m ≤ start → end ≤ start → found_in f u start m ≡ found_in f u start end
  unfolding found_in
  found-empty {m} {end} a b =
      let x : m - start ≡ 0 = omega arith in
      let y : end - start ≡ 0 = omega arith in
      rw (x, y)

  -- all minutes before m are judged
  pub record Judged (end m : ℕ) (g : SweepResult) : Type 0 where
    pub from : start ≤ m
    pub to : (m ≤ end) ⊎ (m ≤ start)
    pub found : g ≡ found_in f u start m

  pub judged-none : {end m : ℕ} {g : SweepResult} → g ≡ record { fits = true; above = false; below = false } → m ≡ start
      → Judged end m g
  judged-none {end} {m} e q =
      record { from = omega arith; to = inr (omega arith); found = e ∙ found_none ∙ ap (found_in f u start) (sym q) }

  pub judged-join : {h : ℕ → Levels} {end m n : ℕ} {g next more : SweepResult} → Judged end m g → m < n → n ≤ end → ((k : ℕ) → m ≤ k
      → k < n → f k ≡ h k) → more ≡ found_in h u m n → next ≡ both_found g more → Judged end n next
  judged-join {h} {end} {m} {n} {g} {next} {more} w l o same e q =
      let before = w.from in
      record {
        from = omega arith;
        to = inl o;
        found = q ∙ ap (both_found g) e ∙ ap (λ (g : SweepResult). both_found g (found_in h u m n)) w.found ∙ sym
            (found-join before (omega arith) same);
      }

  pub judged-quiet : {end m n until : ℕ} {g : SweepResult} → Judged end m g → m < end
      → Holds (λ k. (f k).forced) m None until → n ≡ min until end → Judged end n g
  judged-quiet {end} {m} {n} {until} {g} w o h e =
      let before = w.from in
      let later = h.later in
      record {
        from = omega arith;
        to = inl (omega arith);
        found = w.found ∙ sym (found-quiet w.from (holds-less h (omega arith) (omega arith)));
      }

  pub judged-all : {end m : ℕ} {g : SweepResult} → Judged end m g → end ≤ m → g ≡ found_in f u start end
  judged-all {end} {m} w o =
      w.found
      ∙ ⊎_elim
      (λ l. let e : m ≡ end = omega arith in ap (found_in f u start) e)
      (λ l. found-empty l (omega arith))
      w.to
