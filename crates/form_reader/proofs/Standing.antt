-- A text that stands somewhere in a list, one text after another, and a whole list. Assumes nothing.
use Prim.Native.Nat.{ℕ, zero, suc, ◌+◌, ◌-◌, ◌≤◌, ◌<◌}
use mathlib.Core.Path.{◌≡◌, refl, ap, sym, ◌∙◌}
use mathlib.Core.Bool.{Bool, true, false, ◌&&◌, false≢true}
use mathlib.Core.Logic.{⊎_elim}
use native.Mathlib.Numerals.{add-one}
use lib.Seq.{drop-cons}
use Rattle.std.proofs.lemmas.List.{get_or_past}
use Rattle.fields.specs.Fields.{u8_at}
use mathlib.Core.List.{List, [], ◌∷◌, ◌++◌, append_assoc}
use native.Mathlib.Omega.{arith}
use lib.Dec.{eqb}
use lib.ListN.{length, take, drop, length-append, length-drop, take-append-drop}
use lib.Seq.{drop-drop, take_at, take_all}
use borrow.Author.Tests.{eqb-true, eq-eqb}
use Rattle.fields.specs.Lists.{part, same_list, series}
use Rattle.fields.proofs.Rests.{series-taken}
use Rattle.fields.proofs.Bools.{and_left, and_right, and_both, both_ways, lt-or-le}
use Rattle.fields.proofs.Slices.{part-before}
use Rattle.fields.proofs.Tests.{series-length, same-list-true, same-list-self}
use Rattle.forms.specs.Values.{line}
use Rattle.form_reader.specs.Spelled.{stands, Told}
use Rattle.form_reading.proofs.Values.{first, past}

-- what stands there, and what comes after it
pub stands-there : (x s : List ℕ) (at : ℕ) → stands x s at ≡ true → drop at s ≡ x ++ drop (at + length x) s
unfolding part
stands-there x s at e =
    let same = same-list-true x (part s at (length x)) e in
    let split = sym (take-append-drop (length x) (drop at s)) in
    split ∙ rw (← same, drop-drop (length x) at s)

pub there-stands : (x s rest : List ℕ) (at : ℕ) → drop at s ≡ x ++ rest → stands x s at ≡ true
unfolding part
there-stands x s rest at e = rw (e, take_at x rest (length x) refl) (same-list-self x)

-- one text and then another
pub stands-then : (x y s : List ℕ) (at : ℕ) → stands (x ++ y) s at ≡ (stands x s at && stands y s (at + length x))
stands-then x y s at =
    let a = stands x s at in
    let b = stands y s (at + length x) in
    both_ways (stands (x ++ y) s at) (a && b)
    (λ e.
    let rest = drop (at + length (x ++ y)) s in
    let there = stands-there (x ++ y) s at e ∙ append_assoc x y rest in
    and_both (there-stands x s (y ++ rest) at there) (there-stands y s rest (at + length x) (past s at x (y ++ rest) there)))
    (λ e.
    let rest = drop (at + length x + length y) s in
    let there = stands-there x s at (and_left a b e)
    ∙ ap (λ (l : List ℕ). x ++ l) (stands-there y s (at + length x) (and_right a b e)) in
    there-stands (x ++ y) s rest at (there ∙ sym (append_assoc x y rest)))

-- the whole list
pub same-all : (x s : List ℕ) → same_list x s ≡ (stands x s 0 && eqb (length x) (length s))
unfolding part
same-all x s =
    let a = stands x s 0 in
    let b = eqb (length x) (length s) in
    both_ways (same_list x s) (a && b)
    (λ e.
    let same = same-list-true x s e in
    and_both (rw (← same, take_all (length x) x (omega arith)) (same-list-self x)) (eq-eqb (length x) (length s) (ap length same)))
    (λ e.
    let long = eqb-true (length x) (length s) (and_right a b e) in
    rw (take_all (length x) s (omega (arith, long))) at (and_left a b e))

-- a byte that is not 0 is there
pub byte_there : (s : List ℕ) (at c : ℕ) → u8_at s at ≡ c → 1 ≤ c → drop at s ≡ c ∷ drop (at + 1) s
byte_there s at c e l =
    ⊎_elim (λ (inside : at < length s). rw (drop-cons s at 0 inside, e, add-one))
    (λ (out : length s ≤ at).
    let none = get_or_past s at 0 out in
    absurd (omega arith))
    (lt-or-le at (length s))

-- what is asked only where another test holds
pub and-same : (a p q : Bool) → (a ≡ true → p ≡ q) → (a && p) ≡ (a && q)
and-same true p q h = h refl
and-same false p q h = refl

-- two texts told one after the other
pub told_then : {x y s : List ℕ} {at mid next : ℕ} {a b : Bool} → Told x s at a mid → Told y s mid b next → Told (x ++ y) s at (a && b) next
told_then {x} {y} {s} {at} {mid} {next} {a} {b} p q =
    let second : a ≡ true → b ≡ stands y s (at + length x) = λ e. q.told ∙ ap (stands y s) (p.after e) in
    record {
      told = and-same a b (stands y s (at + length x)) second ∙ ap (λ (t : Bool). t && stands y s (at + length x)) p.told
          ∙ sym (stands-then x y s at);
      after = λ e. q.after (and_right a b e) ∙ rw (p.after (and_left a b e), length-append x y) (omega arith);
    }

-- what a chunk of bytes holds
pub chunk-there : (s : List ℕ) (at n : ℕ) → n ≤ length s - at → series (u8_at s) at n ≡ part s at n
unfolding series part
chunk-there s at zero l = refl
chunk-there s at (suc n) l = series-taken s at (suc n) (omega arith)

pub chunk_stands : {r : Bool} (x s chunk : List ℕ) (at n : ℕ) → length x ≡ n → chunk ≡ series (u8_at s) at n → n ≤ length s - at
    → r ≡ same_list x chunk → r ≡ stands x s at
chunk_stands x s chunk at n long same room e = e ∙ ap (same_list x) (same ∙ chunk-there s at n room) ∙ rw long refl

pub part_fetched : (s bytes : List ℕ) (at n : ℕ) → bytes ≡ series (u8_at s) at n → n ≤ length s - at → (i k : ℕ) → i + k ≤ n
    → part bytes i k ≡ part s (at + i) k
unfolding part
part_fetched s bytes at n fetched room i k few =
    let rest = drop n (drop at s) in
    let whole : bytes ≡ take n (drop at s) = fetched ∙ chunk-there s at n room in
    let long : length bytes ≡ n = ap length fetched ∙ series-length (u8_at s) at n in
    let split : drop at s ≡ bytes ++ rest = sym (take-append-drop n (drop at s)) ∙ ap (λ (l : List ℕ). l ++ rest) (sym whole) in
    sym (part-before bytes rest i k (omega (arith, few, long))) ∙ ap (λ (l : List ℕ). take k (drop i l)) (sym split)
    ∙ ap (take k) (drop-drop i at s)

pub stands_fetched : (x s bytes : List ℕ) (at n : ℕ) → bytes ≡ series (u8_at s) at n → n ≤ length s - at → length x ≤ n
    → stands x bytes 0 ≡ stands x s at
stands_fetched x s bytes at n fetched room few =
    let z : at + 0 ≡ at = omega arith in
    ap (same_list x) (rw z at (part_fetched s bytes at n fetched room 0 (length x) (omega arith)))

pub told_fetched : {b : Bool} (x s bytes : List ℕ) (at n : ℕ) → bytes ≡ series (u8_at s) at n → n ≤ length s - at → length x ≡ n
    → b ≡ stands x bytes 0 → Told x s at b (at + n)
told_fetched x s bytes at n fetched room long told =
    record { told = told ∙ stands_fetched x s bytes at n fetched room (omega (arith, long)); after = λ t. rw long refl }

pub chunk_missing : (x s : List ℕ) (at n : ℕ) → length x ≡ n → (n ≤ length s - at → ⊥) → false ≡ stands x s at
chunk_missing x s at n long out =
    both_ways false (stands x s at) (λ t. absurd (false≢true t))
    (λ t.
    let rest = drop (at + length x) s in
    let l = sym (length-drop at s) ∙ ap length (stands-there x s at t) ∙ length-append x rest in
    absurd (out (omega arith)))

-- a line is told by its name, its value and a line feed
pub name_told : {a : Bool} {x s : List ℕ} {at : ℕ} → a ≡ stands x s at → Told x s at a (at + length x)
name_told e = record { told = e; after = λ t. refl }

pub feed_told : {c : ℕ} (s : List ℕ) (at : ℕ) → c ≡ u8_at s at → Told (10 ∷ []) s at (eqb c 10) (at + 1)
feed_told {c} s at e = record {
  told = both_ways (eqb c 10) (stands (10 ∷ []) s at)
      (λ t. there-stands (10 ∷ []) s (drop (at + 1) s) at (byte_there s at 10 (sym e ∙ eqb-true c 10 t) (omega arith)))
      (λ t. eq-eqb c 10 (e ∙ first s at 10 (drop (at + 1) s) (stands-there (10 ∷ []) s at t)));
  after = λ t. refl;
}

pub line_told : {a b : Bool} {c next : ℕ} (name value s : List ℕ) (at : ℕ) → a ≡ stands name s at
    → Told value s (at + length name) b next → c ≡ u8_at s next → Told (line name value) s at (a && (b && eqb c 10)) (next + 1)
unfolding line
line_told {next = next} name value s at a v c = told_then (name_told a) (told_then v (feed_told s next c))
