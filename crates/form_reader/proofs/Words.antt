-- Lists of bytes compared as numbers: eight or four of them at a time, in two runs that may overlap. Assumes nothing.
use Rattle.std.proofs.Common.{◌≡◌, ℕ, ◌+◌, ◌-◌, ◌*◌, ◌≤◌, ◌<◌, Bool, true, ◌&&◌, List, ap, sym, ◌∙◌, length, get_or, eqb, arith, zero-add}
use mathlib.Core.Logic.{⊎_elim}
use borrow.Author.Tests.{eqb-true, eq-eqb}
use Rattle.std.proofs.lemmas.List.{get_or_past, ext_get_or}
use Rattle.fields.specs.Fields.{u8_at}
use Rattle.fields.specs.Lists.{series, same_list}
use Rattle.fields.proofs.Bools.{and_left, and_right, and_both, both_ways, lt-or-le}
use Rattle.fields.proofs.Tests.{series-at, series-length, same-list-true, same-list-self}

abbrev Bytes : List ℕ → Type 0
Bytes s = (i : ℕ) → get_or s i 0 < 256

series-bytes : (s : List ℕ) (at n : ℕ) → Bytes s → Bytes (series (u8_at s) at n)
series-bytes s at n b i =
    ⊎_elim (λ (l : i < n). rw (series-at (u8_at s) at n i 0 l) (b (at + i)))
    (λ (l : n ≤ i). rw (get_or_past (series (u8_at s) at n) i 0 (rw (series-length (u8_at s) at n) l)) (omega arith)) (lt-or-le i n)

-- n bytes are the same where their numbers are, as the bytes of a number are those that it is of
pub same_as : (n : ℕ) (number : List ℕ → ℕ) (written : ℕ → List ℕ)
    → ((x : List ℕ) (v : ℕ) → length x ≡ n → Bytes x → v ≡ number x → written v ≡ x) → (a b : List ℕ) (at : ℕ) → Bytes a → Bytes b
    → {v w : ℕ} {x y : List ℕ} → x ≡ series (u8_at a) at n → y ≡ series (u8_at b) at n → v ≡ number x → w ≡ number y
    → eqb v w ≡ same_list (series (u8_at a) at n) (series (u8_at b) at n)
same_as n number written back a b at a-bytes b-bytes {v} {w} e f g h =
    let x = series (u8_at a) at n in
    let y = series (u8_at b) at n in
    let from : v ≡ number x = rw e at g in
    let from2 : w ≡ number y = rw f at h in
    let first = back x v (series-length (u8_at a) at n) (series-bytes a at n a-bytes) from in
    let second = back y w (series-length (u8_at b) at n) (series-bytes b at n b-bytes) from2 in
    both_ways (eqb v w) (same_list x y)
    (λ t.
    let same : x ≡ y = sym first ∙ ap written (eqb-true v w t) ∙ second in
    rw same (same-list-self y))
    (λ t. eq-eqb v w (from ∙ ap number (same-list-true x y t) ∙ sym from2))

-- the first k and the last k are all
module _ (a b : List ℕ) (k : ℕ) where
  abbrev firsts : Bool
  firsts = same_list (series (u8_at a) 0 k) (series (u8_at b) 0 k)

  abbrev lasts : Bool
  lasts = same_list (series (u8_at a) (length a - k) k) (series (u8_at b) (length a - k) k)

  at-place : (from j : ℕ) → j < k → same_list (series (u8_at a) from k) (series (u8_at b) from k) ≡ true → u8_at a (from + j) ≡ u8_at b (from + j)
  at-place from j l t =
      let x = series (u8_at a) from k in
      let y = series (u8_at b) from k in
      sym (series-at (u8_at a) from k j 0 l) ∙ ap (λ (s : List ℕ). get_or s j 0) (same-list-true x y t) ∙ series-at (u8_at b) from k j 0 l

  pub two_runs : {r q : Bool} → length a ≡ length b → k ≤ length a → length a ≤ 2 * k → r ≡ firsts → q ≡ lasts → (r && q) ≡ same_list a b
  two_runs {r} {q} long few most first last =
      rw (first, last)
      (both_ways (firsts && lasts) (same_list a b)
      (λ t.
      let f = and_left firsts lasts t in
      let l = and_right firsts lasts t in
      let place : (i : ℕ) → i < length a → u8_at a i ≡ u8_at b i =
      λ i inside.
      ⊎_elim (λ (low : i < k). rw zero-add at (at-place 0 i low f))
      (λ (high : k ≤ i).
      let j : length a - k + (i - (length a - k)) ≡ i = omega arith in
      rw j at (at-place (length a - k) (i - (length a - k)) (omega arith) l))
      (lt-or-le i k) in
      let same : a ≡ b = ext_get_or 0 a b long place in
      rw same (same-list-self b))
      (λ t.
      let same = same-list-true a b t in
      rw same (and_both (same-list-self (series (u8_at b) 0 k)) (same-list-self (series (u8_at b) (length b - k) k)))))
