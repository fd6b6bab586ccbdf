-- The parts as chunks of a report's bytes, and their marks. Assumes nothing.
use Rattle.std.proofs.Common.{◌≡◌, ℕ, ◌+◌, ◌*◌, ◌-◌, ◌/◌, ◌≤◌, ◌<◌, Bool, ◌&&◌, List, [], eqb, ap, ◌∙◌, length, take, drop, get_or, length-take, length-drop, arith, add-zero}
use Rattle.std.proofs.Math.Seq.{get_or-take, get_or-drop}
use Rattle.std.specs.Simd.{first_chunks}
use Rattle.fields.specs.Lists.{part}
use Rattle.fields.specs.Fields.{u16_at}
use Rattle.fields.proofs.Slices.{part-at}
use Rattle.fields.proofs.Numbers.{uint-moved}
use Rattle.fields.proofs.Chunks.{chunk-at}
use Rattle.report.specs.Report.{part_mark, parts_start, part_size, part_start, part_marked}

-- the slice from the parts' start to their end
pub lent-parts : (s : List ℕ) (k : ℕ)
    → take (parts_start + part_size * k - parts_start) (drop parts_start s) ≡ take (part_size * k) (drop parts_start s)
lent-parts s k = ap (λ (n : ℕ). take n (drop parts_start s)) (omega arith)

module _ (s : List ℕ) (k : ℕ) (room : part_start k ≤ length s) {lent : List ℕ} (is-lent : lent ≡ take (part_size * k) (drop parts_start s))
    {chunks : List (List ℕ)} (front : chunks ≡ first_chunks part_size (length lent / part_size) lent) where
  pub count : length lent / part_size ≡ k
  count = rw (is-lent, length-take, length-drop) (omega arith)

  module _ (i : ℕ) (there : i < k) where
    abbrev chunk : List ℕ
    chunk = get_or chunks i []

    byte : (j : ℕ) → j < part_size → get_or chunk j 0 ≡ get_or s (part_start i + j) 0
    byte j l =
        let cut : get_or chunks i [] ≡ part lent (part_size * i) part_size = rw (front, count) (chunk-at part_size k i lent there) in
        let at : parts_start + (part_size * i + j) ≡ part_start i + j = omega arith in
        ap (λ (x : List ℕ). get_or x j 0) cut ∙ part-at lent (part_size * i) part_size j l
        ∙ ap (λ (x : List ℕ). get_or x (part_size * i + j) 0) is-lent
        ∙ get_or-take (part_size * k) (drop parts_start s) (part_size * i + j) 0 (omega arith)
        ∙ get_or-drop parts_start s (part_size * i + j) 0 ∙ ap (λ (m : ℕ). get_or s m 0) at

    number : (m : ℕ) → m + 2 ≤ part_size → u16_at chunk m ≡ u16_at s (part_start i + m)
    number m l =
        uint-moved 2 chunk s m (part_start i + m)
        (λ j h.
        let at : part_start i + (m + j) ≡ part_start i + m + j = omega arith in
        byte (m + j) (omega arith) ∙ ap (λ (n : ℕ). get_or s n 0) at)

    pub marked-there : {r : Bool} → r ≡ (eqb (u16_at chunk 0) part_mark && eqb (u16_at chunk 2) 0) → r ≡ part_marked s i
    marked-there e = e ∙ rw (number 0 (omega arith), number 2 (omega arith), add-zero)
