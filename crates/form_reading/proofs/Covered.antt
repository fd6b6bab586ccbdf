-- Parts that cover a period: where each starts and ends. Assumes nothing.
use Prim.Native.Nat.{ℕ, zero, suc, ◌+◌, ◌-◌, ◌≤◌, ◌<◌}
use mathlib.Core.Path.{◌≡◌, refl, ap, sym, ◌∙◌}
use mathlib.Core.Bool.{true, ◌&&◌}
use native.Mathlib.Omega.{arith}
use lib.Dec.{leb, ltb, eqb}
use borrow.Author.Tests.{eqb-true, ne_eqb, ltb-true}
use Rattle.std.specs.Prelude.{is_ok}
use Rattle.fields.specs.Lists.{pick, all, series}
use Rattle.fields.proofs.Bools.{and_left, and_right}
use Rattle.fields.proofs.Tests.{all-at}
use Rattle.quantities.specs.declared.Minute.{Minute}
use Rattle.quantities.specs.declared.Period.{Period}
use Rattle.report.specs.declared.Part.{Part}
use Rattle.report.specs.Report.{most_parts}
use Rattle.report.specs.Cover.{cover_of, due_at, fits_at, all_fit}
use Rattle.report.proofs.Covering.{covered-exactly}

-- part j, from 0, of k
pub record Link (f : ℕ → Part) (k : ℕ) (q : Period) (j : ℕ) : Type 0 where
  pub late : q.start.0 ≤ (f j).period.start.0
  pub next : j + 1 < k → (f j).period.end.0 ≡ (f (j + 1)).period.start.0
  pub last : j + 1 ≡ k → (f j).period.end.0 ≡ q.end.0

module _ (f : ℕ → Part) (q : Period) where
  due-first : (due_at f q 0).0 ≡ q.start.0
  unfolding due_at pick
  due-first = refl

  due-next : (j : ℕ) → due_at f q (j + 1) ≡ (f j).period.end
  unfolding due_at pick
  due-next j =
      let back : j + 1 - 1 ≡ j = omega arith in
      rw (ne_eqb (j + 1) 0 (λ e. omega arith), back)

  module _ (k : ℕ) (fit : all_fit f k q ≡ true) where
    each : (j : ℕ) → j < k → fits_at f q j ≡ true
    unfolding all_fit
    each j l =
        let t = and_left (all (fits_at f q) (series (λ i. i) 0 k)) (eqb (due_at f q k).0 q.end.0) fit in
        all-at (fits_at f q) (λ i. i) 0 k j t (omega arith) (omega arith)

    due : (j : ℕ) → j < k → (f j).period.start.0 ≡ (due_at f q j).0
    due j l =
        let p = (f j).period in
        eqb-true _ _ (and_left (eqb p.start.0 (due_at f q j).0) (ltb p.start.0 p.end.0)
        (and_left (eqb p.start.0 (due_at f q j).0 && ltb p.start.0 p.end.0) (leb p.end.0 q.end.0) (each j l)))

    longer : (j : ℕ) → j < k → (f j).period.start.0 < (f j).period.end.0
    longer j l =
        let p = (f j).period in
        ltb-true _ _ (and_right (eqb p.start.0 (due_at f q j).0) (ltb p.start.0 p.end.0)
        (and_left (eqb p.start.0 (due_at f q j).0 && ltb p.start.0 p.end.0) (leb p.end.0 q.end.0) (each j l)))

    met : (j : ℕ) → j + 1 < k → (f j).period.end.0 ≡ (f (j + 1)).period.start.0
    met j l = sym (due (j + 1) l ∙ ap (λ (m : Minute). m.0) (due-next j))

    late : (j : ℕ) → j < k → q.start.0 ≤ (f j).period.start.0
    late zero l = omega (arith, due 0 l, due-first)
    late (suc j) l =
        let e : j + 1 ≡ suc j = omega arith in
        let m : (f j).period.end.0 ≡ (f (suc j)).period.start.0 = rw e at (met j (omega arith)) in
        omega (arith, m, late j (omega arith), longer j (omega arith))

    ended : (j : ℕ) → j + 1 ≡ k → (f j).period.end.0 ≡ q.end.0
    unfolding all_fit
    ended j e =
        let t = eqb-true _ _ (and_right (all (fits_at f q) (series (λ i. i) 0 k)) (eqb (due_at f q k).0 q.end.0) fit) in
        sym (ap (λ (m : Minute). m.0) (due-next j)) ∙ ap (λ (i : ℕ). (due_at f q i).0) e ∙ t

pub linked : (f : ℕ → Part) (k : ℕ) (q : Period) → is_ok (cover_of (series f 0 k) q) ≡ true → (j : ℕ) → j < k → Link f k q j
linked f k q e j l =
    let fit = and_right (leb 1 k && leb k most_parts) (all_fit f k q) (sym (covered-exactly f k q) ∙ e) in
    record { late = late f q k fit j l; next = met f q k fit j; last = ended f q k fit j }
