-- The lines of points as a loop counts them: `next` is the line of point j. Assumes nothing.
use Rattle.std.proofs.Common.{◌≡◌, ℕ, suc, ◌+◌, ◌-◌, ◌<◌, Bool, true, false, not, List, refl, sym, ◌∙◌, arith}
use Rattle.fields.specs.Lists.{seek}
use Rattle.fields.proofs.Tests.{seek_hit, seek-miss, seek-end}
use Rattle.form_reading.specs.declared.Point.{Point}
use Rattle.form_reading.specs.Reading.{is_point, point_in, point_at, point_count}

pub record Counted (s : List ℕ) (at next j : ℕ) : Type 0 where
  pub place : next ≡ point_at s at j
  pub so_far : point_count s at ≡ seek (λ i. not (is_point s (point_at s at i))) j (100 - j)

pub counted_none : (s : List ℕ) (at : ℕ) → Counted s at at 0
unfolding point_at point_count
counted_none s at = record { place = refl; so_far = refl }

module _ {s : List ℕ} {at next j : ℕ} {r : Bool} (p : Counted s at next j) (more : j < 100) (asked : r ≡ is_point s next) where
  seen : (t : Bool) → r ≡ t → is_point s (point_at s at j) ≡ t
  seen t e = rw (← p.place) (sym asked ∙ e)

  pub counted_more : {point : Point} → r ≡ true → point ≡ point_in s next → Counted s at point.next (j + 1)
  unfolding point_at
  counted_more e q =
      let k : j + 1 ≡ suc j = omega arith in
      record {
        place = rw (q, k, p.place);
        so_far = p.so_far ∙ seek-miss _ j 100 more (rw (seen true e));
      }

  pub counted_all : r ≡ false → j ≡ point_count s at
  counted_all e = sym (p.so_far ∙ seek_hit _ j 100 more (rw (seen false e)))

pub counted_most : {s : List ℕ} {at next j : ℕ} → Counted s at next j → j ≡ 100 → (100 ≡ point_count s at) × (next ≡ point_at s at 100)
counted_most {s} {at} p e = (sym (p.so_far ∙ seek-end _ _ 100 e), rw e at p.place)
