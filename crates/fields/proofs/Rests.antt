-- The elements of a list from a place on, read in what is there. Assumes nothing.
use Rattle.std.proofs.Common.{◌≡◌, ℕ, zero, suc, ◌+◌, ◌-◌, ◌≤◌, List, refl, sym, ◌∙◌, ap, length, take, drop, get_or, length-drop, arith, add-zero, add-one}
use Rattle.std.proofs.Math.Seq.{drop-cons, get_or-drop}
use Rattle.std.proofs.lemmas.List.{take_all}
use Rattle.std.specs.Array.{IsFirstChunk}
use Rattle.std.proofs.Common.{Option, Some, None, MatchOption, IfSome, Bor, ◌<◌}
use Rattle.fields.specs.Lists.{series}
use Rattle.fields.specs.Fields.{u8_at}

pub series-taken : (s : List ℕ) (at n : ℕ) → at + n ≤ length s → series (u8_at s) at n ≡ take n (drop at s)
unfolding series
series-taken s at zero h = refl
series-taken s at (suc n) h = rw (drop-cons s at 0 (omega arith), series-taken s (at + 1) n (omega arith), add-one)

module _ (s rest : List ℕ) (at : ℕ) (is-rest : rest ≡ drop at s) where
  pub from-chunk : (n : ℕ) (bytes : List ℕ) → n ≤ length rest → bytes ≡ take n rest → bytes ≡ series (u8_at s) at n
  unfolding series
  from-chunk zero bytes h e = e
  from-chunk (suc n) bytes h e =
      let l : length rest ≡ length s - at = ap length is-rest ∙ length-drop at s in
      let room : at + suc n ≤ length s = omega arith in
      e ∙ rw is-rest (sym (series-taken s at (suc n) room))

  rest-read : (i n : ℕ) → series (u8_at rest) i n ≡ series (u8_at s) (at + i) n
  unfolding series
  rest-read i zero = refl
  rest-read i (suc n) =
      let e : at + (i + 1) ≡ at + i + 1 = omega arith in
      let h : get_or rest i 0 ≡ get_or s (at + i) 0 = rw is-rest (get_or-drop at s i 0) in
      rw (h, rest-read (i + 1) n, e)

  pub from-padded : (n : ℕ) (bytes : List ℕ) → bytes ≡ series (u8_at rest) 0 n → bytes ≡ series (u8_at s) at n
  from-padded n bytes e = e ∙ rw add-zero at (rest-read 0 n)

-- what a first chunk is, where there is one
pub chunk-read : (s rest : List ℕ) (at n : ℕ) → rest ≡ drop at s → (o : Option (Bor (List ℕ)))
    → MatchOption o (length rest < n) (λ y. IsFirstChunk rest y.now n) → IfSome o (λ y. y.now ≡ series (u8_at s) at n)
chunk-read s rest at n e (Some y) h = from-chunk s rest at e n y.now h.enough h.same
chunk-read s rest at n e None h = tt

-- the same of bytes that begin at a place and are as many
pub chunk-within : (s bytes : List ℕ) (at n end : ℕ) → end ≡ at + n → end ≤ length s → bytes ≡ take (end - at) (drop at s) → length bytes + at ≡ end
    → (o : Option (Bor (List ℕ))) → MatchOption o (length bytes < n) (λ y. IsFirstChunk bytes y.now n) → IfSome o (λ y. y.now ≡ series (u8_at s) at n)
chunk-within s bytes at n end e room is-part as-long (Some y) h =
    let wide : end - at ≡ n = omega arith in
    let all : length bytes ≤ n = omega arith in
    h.same ∙ take_all n bytes all ∙ is-part ∙ rw wide (sym (series-taken s at n (omega arith)))
chunk-within s bytes at n end e room is-part as-long None h = tt
