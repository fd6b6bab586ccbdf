-- What holds from a minute up to a later one: laws for any function of the minute. Assumes nothing.
use Prim.Native.Nat.{ℕ, zero, suc, ◌+◌, ◌-◌, ◌≤◌, ◌<◌}
use mathlib.Core.Path.{◌≡◌, refl, ap, sym, ◌∙◌}
use mathlib.Core.Bool.{Bool, true, false, not, ◌&&◌, ◌||◌, and_assoc, and_self, and-true}
use native.Mathlib.Omega.{arith}
use Rattle.std.proofs.Common.{rules, min, max, is_lt, is_le, nat_cmp}
use Rattle.std.specs.Ordering.{ord_min, ord_max}
use Rattle.fields.specs.Lists.{all, series}
use Rattle.quantities.specs.declared.Minute.{Minute}
use Rattle.quantities.specs.contracts.MinuteOrd.TheImpl as minutes
use Rattle.rules.specs.Minutes.{every_minute, some_minute}
use Rattle.levels.specs.Stays.{Holds}

-- the order of minutes and of powers, `min` and `max`
pub less : {t : Bool} (a b : ℕ) → t ≡ is_lt (nat_cmp a b) → t ≡ true → a < b
less a b e t = search (rules, arith)

pub not_less : {t : Bool} (a b : ℕ) → t ≡ is_lt (nat_cmp a b) → t ≡ false → b ≤ a
not_less a b e t = search (rules, arith)

pub at_most : {t : Bool} (a b : ℕ) → t ≡ is_le (nat_cmp a b) → t ≡ true → a ≤ b
at_most a b e t = search (rules, arith)

pub not_at_most : {t : Bool} (a b : ℕ) → t ≡ is_le (nat_cmp a b) → t ≡ false → b < a
not_at_most a b e t = search (rules, arith)

pub sooner : {r : Minute} (a b : Minute) → r ≡ ord_min minutes.cmp-value.it a b → r.0 ≡ min a.0 b.0
sooner a b e = search rules

pub soonest-of : {r s t : Minute} (a b c d : Minute) → r ≡ ord_min minutes.cmp-value.it a b → s ≡ ord_min minutes.cmp-value.it r c
    → t ≡ ord_min minutes.cmp-value.it s d → t.0 ≡ min (min (min a.0 b.0) c.0) d.0
soonest-of a b c d p q e =
    sooner _ d e ∙ ap (λ (k : ℕ). min k d.0) (sooner _ c q ∙ ap (λ (k : ℕ). min k c.0) (sooner a b p))

pub later : {r : Minute} (a b : Minute) → r ≡ ord_max minutes.cmp-value.it a b → r.0 ≡ max a.0 b.0
later a b e = search rules

module _ {A : Type 0} {f : ℕ → A} {m : ℕ} {v : A} {n : ℕ} (h : Holds f m v n) where
  pub holds-less : {p : ℕ} → m < p → p ≤ n → Holds f m v p
  holds-less l r = record { later = l; same = λ k a b. h.same k a (omega arith) }

  -- what is the same function, and what is computed of it
  pub holds_by : {g : ℕ → A} → ((k : ℕ) → g k ≡ f k) → Holds g m v n
  holds_by e = record { later = h.later; same = λ k a b. e k ∙ h.same k a b }

  pub holds_of : {B : Type 0} (g : A → B) → Holds (λ k. g (f k)) m (g v) n
  holds_of g = record { later = h.later; same = λ k a b. ap g (h.same k a b) }

-- two together, up to the sooner of their ends
pub holds-two : {A B C : Type 0} (g : A → B → C) {f₁ : ℕ → A} {f₂ : ℕ → B} {m n₁ n₂ : ℕ} {v₁ : A} {v₂ : B} → Holds f₁ m v₁ n₁
    → Holds f₂ m v₂ n₂ → Holds (λ k. g (f₁ k) (f₂ k)) m (g v₁ v₂) (min n₁ n₂)
holds-two g {f₁} {f₂} {m} {n₁} {n₂} {v₁} {v₂} p q =
    let a = p.later in
    let b = q.later in
    record {
      later = omega arith;
      same = λ k a b. ap (λ x. g x (f₂ k)) (p.same k a (omega arith)) ∙ ap (g v₁) (q.same k a (omega arith));
    }

-- a test that answers v in each of n minutes from m on
run-same : (test : ℕ → Bool) (v : Bool) (m n : ℕ) → ((k : ℕ) → m ≤ k → k < m + suc n → test k ≡ v)
    → all test (series (λ k. k) m (suc n)) ≡ v
unfolding all series
run-same test v m zero h = rw (h m (omega arith) (omega arith)) (and-true v)
run-same test v m (suc n) h =
    rw (h m (omega arith) (omega arith), run-same test v (m + 1) n (λ k a b. h k (omega arith) (omega arith))) (and_self v)

-- the minutes from start on, cut at m
run-cut : (test : ℕ → Bool) (start a n : ℕ)
    → all test (series (λ k. k) start (a + n)) ≡ (all test (series (λ k. k) start a) && all test (series (λ k. k) (start + a) n))
unfolding all series
run-cut test start zero n =
    let e : start + 0 ≡ start = omega arith in
    let z : 0 + n ≡ n = omega arith in
    rw (e, z)
run-cut test start (suc a) n =
    let e : suc a + n ≡ suc (a + n) = omega arith in
    let k : start + suc a ≡ start + 1 + a = omega arith in
    rw (e, k, run-cut test (start + 1) a n) (sym (and_assoc (test start) (all test (series (λ k. k) (start + 1) a)) _))

pub every-none : (start : ℕ) (test : ℕ → Bool) → every_minute start start test ≡ true
unfolding all series
every-none start test =
    let e : start - start ≡ 0 = omega arith in
    rw e

-- a turn of the sweep, from m to n
pub every-turn : (start : ℕ) {m n : ℕ} {test : ℕ → Bool} {v : Bool} → start ≤ m → Holds test m v n
    → every_minute start n test ≡ (every_minute start m test && v)
every-turn start {m} {n} {test} {v} l h =
    let later = h.later in
    let e : n - start ≡ (m - start) + suc (n - m - 1) = omega arith in
    let k : start + (m - start) ≡ m = omega arith in
    rw (e, run-cut test start (m - start) (suc (n - m - 1)), k, run-same test v m (n - m - 1) (λ j p q. h.same j p (omega arith)))

-- two stretches of minutes, of which the second is tested by a test that is the same there
all_same : (p q : ℕ → Bool) (i n : ℕ) → ((j : ℕ) → i ≤ j → j < i + n → p j ≡ q j)
    → all p (series (λ k. k) i n) ≡ all q (series (λ k. k) i n)
unfolding all series
all_same p q i zero h = refl
all_same p q i (suc n) h =
    rw (h i (omega arith) (omega arith), all_same p q (i + 1) n (λ j a b. h j (omega arith) (omega arith)))

pub every-join : (start m n : ℕ) (p q : ℕ → Bool) → start ≤ m → m ≤ n → ((k : ℕ) → m ≤ k → k < n → p k ≡ q k)
    → every_minute start n p ≡ (every_minute start m p && every_minute m n q)
every-join start m n p q a b h =
    let e : n - start ≡ (m - start) + (n - m) = omega arith in
    let k : start + (m - start) ≡ m = omega arith in
    rw (e, run-cut p start (m - start) (n - m), k, all_same p q m (n - m) (λ j x y. h j x (omega arith)))

not-both : (a b : Bool) → not (a && b) ≡ (not a || not b)
not-both true b = refl
not-both false b = refl

pub some-join : (start m n : ℕ) (p q : ℕ → Bool) → start ≤ m → m ≤ n → ((k : ℕ) → m ≤ k → k < n → p k ≡ q k)
    → some_minute start n p ≡ (some_minute start m p || some_minute m n q)
some-join start m n p q a b h =
    ap not (every-join start m n (λ k. not (p k)) (λ k. not (q k)) a b (λ k x y. ap not (h k x y)))
    ∙ not-both (every_minute start m (λ k. not (p k))) (every_minute m n (λ k. not (q k)))

not-and : (a b : Bool) → not (a && not b) ≡ (not a || b)
not-and true true = refl
not-and true false = refl
not-and false b = refl

pub some-none : (start : ℕ) (test : ℕ → Bool) → some_minute start start test ≡ false
some-none start test = ap not (every-none start (λ m. not (test m)))

pub some_turn : (start : ℕ) {m n : ℕ} {test : ℕ → Bool} {v : Bool} → start ≤ m → Holds test m v n
    → some_minute start n test ≡ (some_minute start m test || v)
some_turn start {m} {n} {test} {v} l h = ap not (every-turn start l (holds_of h not)) ∙ not-and (every_minute start m (λ k. not
    (test k))) v
