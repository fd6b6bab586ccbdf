-- Texts put one after the other, and numbers in decimal. Assumes nothing.
use Prim.Native.Nat.{ℕ, zero, suc, ◌+◌, ◌*◌, ◌/◌, ◌≤◌, ◌<◌}
use Rattle.std.proofs.Common.{ap, min, ◌⊎◌, inl, inr}
use Rattle.std.proofs.Math.Nat.{min-eq_left}
use mathlib.Core.Path.{◌≡◌, refl, sym, ◌∙◌}
use mathlib.Core.Bool.{Bool, true, false}
use mathlib.Core.List.{List, [], ◌∷◌, ◌++◌, append_assoc}
use native.Mathlib.Omega.{arith}
use lib.Dec.{ltb}
use lib.ListN.{length, length-append}
use borrow.Author.Tests.{lt-ltb, le-ltb}
use Rattle.fields.specs.Lists.{pick, put}
use Rattle.fields.proofs.Bools.{pick-elim, lt-or-le}
use Rattle.fields.proofs.Slices.{put-append, put-past, put-length}
use Rattle.calendar.specs.Calendar.{digit}
use Rattle.texts.specs.declared.Text.{Text}
use Rattle.texts.specs.Texts.{last_place, Writes, Puts}
use Rattle.texts.specs.Numerals.{decimal_before, decimal}

-- a place beyond the last one is as good as the last one
put-in_reach : (s y : List ℕ) (k m : ℕ) → length s ≤ m → put s (min k m) y ≡ put s k y
put-in_reach s y k m h = by-case (lt-or-le m k) where
  by-case : (m < k) ⊎ (k ≤ m) → put s (min k m) y ≡ put s k y
  by-case (inl l) = put-past y s (min k m) (omega (arith, h, l)) ∙ sym (put-past y s k (omega (arith, h, l)))
  by-case (inr l) = ap (λ (i : ℕ). put s i y) (min-eq_left l)

-- one text and then another
pub then : {m n : ℕ} {a b d : Text} {x y : List ℕ} → Writes m a x b → Writes n b y d → Writes (m + n) a (x ++ y) d
then {a = a} {x = x} {y = y} p q =
    let there = put a.bytes.now a.end x in
    let same : length there ≤ last_place = rw (put-length a.bytes.now a.end x) p.in_reach in
    record {
      same_reference = q.same_reference ∙ p.same_reference;
      end = q.end ∙ rw (p.end, length-append x y) (omega arith);
      bytes = q.bytes ∙ rw (p.bytes, p.end)
          (put-in_reach there y (a.end + length x) last_place same ∙ sym (put-append x y a.bytes.now a.end));
      upper_bound = rw (length-append x y) (omega (arith, p.upper_bound, q.upper_bound));
      in_reach = p.in_reach;
    }

-- a text that equals another, and may be longer
pub same_text : {m n : ℕ} {a b : Text} {x y : List ℕ} → x ≡ y → m ≤ n → Writes m a x b → Writes n a y b
same_text e h p = rw (← e) record {
  same_reference = p.same_reference;
  end = p.end;
  bytes = p.bytes;
  upper_bound = omega (arith, h, p.upper_bound);
  in_reach = p.in_reach;
}

-- a whole text, from the start of the buffer
pub all_put : {n : ℕ} {a b : Text} {x here there : List ℕ} (m : ℕ) → a.bytes.now ≡ here → a.end ≡ 0 → Writes m a x b
    → there ≡ b.bytes.now → m ≤ n → m ≤ last_place → Puts n here x there b.end
all_put {x = x} m at-first from-start p ends h less = record {
  upper_bound = rw (p.end, from-start) (omega (arith, p.upper_bound, h));
  value = p.end ∙ rw from-start (omega (arith, p.upper_bound, less));
  text_after = ends ∙ p.bytes ∙ rw (at-first, from-start);
}

-- the digits before a text are the digits, and then the text
pub decimal-before : (places n : ℕ) (text : List ℕ) → decimal_before places n text ≡ decimal_before places n [] ++ text
unfolding decimal_before pick
decimal-before zero n text = refl
decimal-before (suc places) n text =
    by-case (ltb n 10) (decimal-before places (n / 10) (digit n ∷ text)) (decimal-before places (n / 10) (digit n ∷ []))
  where
    by-case : (t : Bool) → decimal_before places (n / 10) (digit n ∷ text) ≡ decimal_before places (n / 10) [] ++ (digit n ∷ text)
        → decimal_before places (n / 10) (digit n ∷ []) ≡ decimal_before places (n / 10) [] ++ (digit n ∷ [])
        → pick t (digit n ∷ text) (decimal_before places (n / 10) (digit n ∷ text)) ≡ pick t (digit n ∷ [])
        (decimal_before places (n / 10) (digit n ∷ [])) ++ text
    by-case true e f = refl
    by-case false e f = e ∙ rw f (sym (append_assoc (decimal_before places (n / 10) []) (digit n ∷ []) text))

pub decimal-length : (places n : ℕ) (text : List ℕ) → length (decimal_before places n text) ≤ places + length text
unfolding decimal_before
decimal-length zero n text = omega arith
decimal-length (suc places) n text =
    pick-elim (λ (l : List ℕ). length l ≤ suc places + length text) (ltb n 10) (λ e. omega arith)
    (λ e. let h : length (decimal_before places (n / 10) (digit n ∷ text)) ≤ places + suc (length text) = decimal-length places
    (n / 10) (digit n ∷ text) in omega (arith, h))

-- places that are not needed change nothing
tens : ℕ → ℕ
tens zero = 1
tens (suc n) = 10 * tens n

decimal-enough : (places n : ℕ) (text : List ℕ) → n < tens (suc places)
    → decimal_before (suc (suc places)) n text ≡ decimal_before (suc places) n text
unfolding decimal_before pick tens
decimal-enough zero n text l = rw (lt-ltb n 10 (omega (arith, l)))
decimal-enough (suc places) n text l =
    rw (decimal-enough places (n / 10) (digit n ∷ text) (omega (arith, l)))

pub decimal-one : (n : ℕ) → n < 10 → decimal n ≡ digit n ∷ []
unfolding decimal_before pick
decimal-one n l = rw (lt-ltb n 10 l)

pub decimal-more : (n : ℕ) → 10 ≤ n → n ≤ last_place → decimal n ≡ decimal (n / 10) ++ (digit n ∷ [])
unfolding decimal_before pick tens
decimal-more n l h =
    let few : n / 10 < tens 19 = omega (arith, h) in
    step ∙ decimal-before 19 (n / 10) (digit n ∷ []) ∙ rw (decimal-enough 18 (n / 10) [] few)
  where
    step : decimal n ≡ decimal_before 19 (n / 10) (digit n ∷ [])
    step = rw (le-ltb n 10 l)

pub one_digit : (n v : ℕ) → n < 10 → v ≡ digit n → v ∷ [] ≡ decimal n
one_digit n v l e = rw (e, decimal-one n l)

pub all_digits : {a b : Text} (n : ℕ) {x : List ℕ} → x ≡ decimal n → Writes (length x) a x b → Writes 20 a (decimal n) b
all_digits n e p = same_text e (rw e (decimal-length 20 n [])) p
