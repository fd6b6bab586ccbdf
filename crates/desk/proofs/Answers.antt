-- The answer on each way through the questions. Assumes nothing.
use Prim.Native.Nat.{ℕ, ◌+◌, ◌*◌, ◌-◌, ◌/◌, ◌≤◌}
use mathlib.Core.Path.{◌≡◌, refl, ap, sym, ◌∙◌}
use mathlib.Core.Bool.{Bool, true, false, ◌&&◌}
use mathlib.Core.List.{List, ◌++◌}
use native.Mathlib.Omega.{arith}
use lib.Dec.{leb, eqb}
use lib.ListN.{length, take, drop}
use borrow.Author.Tests.{eqb-true}
use Rattle.fields.specs.Lists.{pick, and_each, every, part}
use Rattle.fields.proofs.Bools.{passed_over, every_true, range-true}
use Rattle.fields.proofs.Slices.{part-lent, lent_back}
use Rattle.report.specs.declared.Head.{Head}
use Rattle.report.specs.Report.{most_parts, head_of, part_count_of, parts_of, whole}
use Rattle.rules.specs.After.{block_after, some_slot, warnings}
use Rattle.rules.specs.Questions.{leaves}
use Rattle.rules.specs.Judge.{Verdict, told, no_to, part_beside, refusal_number, judge}
use Rattle.rules.specs.declared.Refusal.{Refusal}
use Rattle.std.specs.Prelude.{Result, Ok, Err, is_ok, ⊤}
use Rattle.rules.specs.declared.UnitHead.{UnitHead}
use Rattle.rules.specs.Block.{block_size, unit_head}
use Rattle.rules.specs.Whole.{register_whole}
use Rattle.rules.specs.Desk.{block_at, with_block, question3, answer_to}
use Rattle.judge.specs.declared.Decision.{Decision}
use Rattle.judge.specs.Decided.{accepted_decision, decision_of}
use Rattle.judge.specs.Warned.{warnings_on}
use Rattle.judge.proofs.Warnings.{warnings-same}
use Rattle.after.specs.Plan.{FreeSlots, plan_applied}
use Rattle.after.proofs.Plans.{plan_after}

-- what is answered and what is left is a step
pub record Is (step : Verdict) (r : Result ℕ Refusal) (left : List ℕ) : Type 0 where
  pub value : told r ≡ step.answer
  pub accepted : is_ok r ≡ eqb step.answer.number 0
  pub after : left ≡ step.after

-- what `ask` says
pub ask-passed : (n : ℕ) (t : Bool) {r : Result ⊤ Refusal} {y : ⊤} → r ≡ pick t (Ok tt) (Err (no_to n)) → r ≡ Ok y → t ≡ true
unfolding pick
ask-passed n true e f = refl
ask-passed n false e f = grind arith

pub ask-stopped : (n : ℕ) (t : Bool) {r : Result ⊤ Refusal} {x : Refusal} → r ≡ pick t (Ok tt) (Err (no_to n)) → r ≡ Err x
    → (t ≡ false) × (x ≡ no_to n)
unfolding pick
ask-stopped n true e f = grind arith
ask-stopped n false e f = (refl, grind arith)

module _ (b s : List ℕ) {d : Result Decision Refusal} (decided : d ≡ decision_of b s) where
  first-refusal : Refusal
  first-refusal = record { number = refusal_number b s; part = part_beside (refusal_number b s) (head_of s) (parts_of s) }

  stopped : {x : Refusal} → d ≡ Err x → (eqb (refusal_number b s) 0 ≡ false) × (x ≡ first-refusal)
  unfolding decision_of pick first-refusal
  stopped {x} e = by-case (eqb (refusal_number b s) 0) refl (sym decided ∙ e) where
    by-case : (t : Bool) → eqb (refusal_number b s) 0 ≡ t → pick t (Ok (accepted_decision b s)) (Err first-refusal) ≡ Err x
        → (eqb (refusal_number b s) 0 ≡ false) × (x ≡ first-refusal)
    by-case true n p = grind arith
    by-case false n p = (n, grind arith)

  passed : {y : Decision} → d ≡ Ok y → (eqb (refusal_number b s) 0 ≡ true) × (y ≡ accepted_decision b s)
  unfolding decision_of pick first-refusal
  passed {y} e = by-case (eqb (refusal_number b s) 0) refl (sym decided ∙ e) where
    by-case : (t : Bool) → eqb (refusal_number b s) 0 ≡ t → pick t (Ok (accepted_decision b s)) (Err first-refusal) ≡ Ok y
        → (eqb (refusal_number b s) 0 ≡ true) × (y ≡ accepted_decision b s)
    by-case true n p = (n, grind arith)
    by-case false n p = grind arith

  pub refuses : {x : Refusal} → d ≡ Err x → Is (judge b s) (Err x) b
  unfolding judge first-refusal
  refuses {x} e =
      let no = stopped e in
      record {
        value = rw (passed_over _ _ refl no.0, no.1);
        accepted = rw (passed_over _ _ refl no.0, no.0);
        after = rw (passed_over _ _ refl no.0);
      }

  module _ (long : length b ≡ block_size) (free : FreeSlots b) (few : part_count_of s ≤ most_parts) {y : Decision} (e : d ≡ Ok y) where
    pub accepts : {left : List ℕ} {h : Head} {w : ℕ}
        → left ≡ plan_applied b s (record { cleared = y.cleared; written = y.written; changes = y.changes }) → h ≡ head_of s
        → w ≡ warnings_on left h y.left → Is (judge b s) (Ok w) left
    unfolding judge pick
    accepts {left} {h} {w} p head q =
        let yes = passed e in
        let zero : refusal_number b s ≡ 0 = eqb-true (refusal_number b s) 0 yes.0 in
        let same : left ≡ block_after b s =
        p ∙ plan_after b s _ long free few (ap (λ (d : Decision). d.cleared) yes.1)
        (ap (λ (d : Decision). d.written) yes.1) (ap (λ (d : Decision). d.changes) yes.1) zero in
        let moved : warnings_on left h y.left ≡ warnings_on (block_after b s) (head_of s) (some_slot (leaves b s)) = rw
        (same, head, ap (λ (d : Decision). d.left) yes.1) in
        let warned : w ≡ warnings b s = q ∙ moved ∙ warnings-same b s in
        record { value = rw (yes.0, warned); accepted = rw yes.0; after = same ∙ rw yes.0 }

-- questions 1 to 3, each after the one before
module _ (reg s : List ℕ) {x : Bool} (one : x ≡ register_whole reg) where
  pub no-1 : x ≡ false → Is (answer_to reg s) (Err (no_to 1)) reg
  unfolding answer_to pick
  no-1 q =
      let fails : register_whole reg ≡ false = sym one ∙ q in
      record { value = rw fails; accepted = rw fails; after = rw fails }

  module _ (q1 : x ≡ true) {y : Bool} (two : y ≡ whole s) where
    first : register_whole reg ≡ true
    first = sym one ∙ q1

    pub no-2 : y ≡ false → Is (answer_to reg s) (Err (no_to 2)) reg
    unfolding answer_to pick
    no-2 q =
        let fails : whole s ≡ false = sym two ∙ q in
        record { value = rw (first, fails); accepted = rw (first, fails); after = rw (first, fails) }

    module _ (q2 : y ≡ true) {z : Bool} (three : z ≡ question3 reg s) where
      second : whole s ≡ true
      second = sym two ∙ q2

      pub no-3 : z ≡ false → Is (answer_to reg s) (Err (no_to 3)) reg
      unfolding answer_to pick
      no-3 q =
          let fails : question3 reg s ≡ false = sym three ∙ q in
          record { value = rw (first, second, fails); accepted = rw (first, second, fails); after = rw (first, second, fails) }

      -- the unit's block is lent, judged and handed back
      pub judged-there : {r : Result ℕ Refusal} {left : List ℕ} → z ≡ true
          → told r ≡ (judge (block_at reg (head_of s).unit) s).answer
          → is_ok r ≡ eqb (judge (block_at reg (head_of s).unit) s).answer.number 0
          → left ≡ with_block reg (head_of s).unit (judge (block_at reg (head_of s).unit) s).after → Is (answer_to reg s) r left
      unfolding answer_to pick
      judged-there q e f g =
          let passes : question3 reg s ≡ true = sym three ∙ q in
          record {
            value = e ∙ rw (first, second, passes);
            accepted = f ∙ rw (first, second, passes);
            after = g ∙ rw (first, second, passes);
          }

-- question 3, where the unit is 1 to n and where it is not
module _ (reg s : List ℕ) {h : Head} (e : h ≡ head_of s) where
  unit-same : h.unit ≡ (head_of s).unit
  unit-same = ap (λ (h : Head). h.unit) e

  owner-same : h.owner ≡ (head_of s).owner
  owner-same = ap (λ (h : Head). h.owner) e

  pub owner-asked : {z : List ℕ} {u : UnitHead} → (leb 1 h.unit && leb h.unit (length reg / block_size)) ≡ true
      → z ≡ part reg (block_size * (h.unit - 1)) block_size → u ≡ unit_head z → eqb u.owner h.owner ≡ question3 reg s
  unfolding question3 every and_each
  owner-asked {z} {u} t p q =
      let inside : (leb 1 (head_of s).unit && leb (head_of s).unit (length reg / block_size)) ≡ true = rw unit-same at t in
      rw (inside, ap (λ (u : UnitHead). u.owner) q, p, unit-same, owner-same)

  pub no-unit : (leb 1 h.unit && leb h.unit (length reg / block_size)) ≡ false → false ≡ question3 reg s
  unfolding question3 every and_each
  no-unit t =
      let outside : (leb 1 (head_of s).unit && leb (head_of s).unit (length reg / block_size)) ≡ false = rw unit-same at t in
      rw outside

pub record Inside (reg : List ℕ) (unit : ℕ) : Type 0 where
  pub first : 1 ≤ unit
  pub last : block_size * unit ≤ length reg

pub inside : (reg s : List ℕ) {u : ℕ} {z : Bool} → u ≡ (head_of s).unit → z ≡ question3 reg s → z ≡ true → Inside reg u
unfolding question3
inside reg s {u} {z} e p q =
    let f = (every_true _ (sym p ∙ q)).0 in
    let r = range-true 1 (length reg / block_size) (head_of s).unit f in
    let low = r.0 in
    let high = r.1 in
    record { first = omega arith; last = omega arith }

-- the unit's block as the callee was lent it
abbrev pub lent : List ℕ → ℕ → List ℕ
lent reg unit = take (block_size * (unit - 1) + block_size - block_size * (unit - 1)) (drop (block_size * (unit - 1)) reg)

module _ (reg s : List ℕ) {unit : ℕ} (e : unit ≡ (head_of s).unit) where
  pub answered-there : {A : Type 0} (f : Verdict → A) {a : A} → a ≡ f (judge (lent reg unit) s) → a ≡ f (judge (block_at reg (head_of s).unit) s)
  answered-there f p =
      p
      ∙ ap (λ (b : List ℕ). f (judge b s)) (part-lent reg (block_size * (unit - 1)) block_size)
      ∙ ap (λ (u : ℕ). f (judge (block_at reg u) s)) e

  pub left_there : {vs : List ℕ} → Inside reg unit → length vs ≡ length (lent reg unit) → vs ≡ (judge (lent reg unit) s).after
      → take (block_size * (unit - 1)) reg ++ (vs ++ drop (block_size * (unit - 1) + block_size - block_size * (unit - 1)) (drop (block_size * (unit - 1)) reg))
      ≡ with_block reg (head_of s).unit (judge (block_at reg (head_of s).unit) s).after
  left_there {vs} k l p =
      let f = k.first in
      let t = k.last in
      lent_back (λ (b : List ℕ). (judge b s).after) reg (block_size * (unit - 1)) block_size vs (omega arith) l p
      ∙ ap (λ (u : ℕ). with_block reg u (judge (block_at reg u) s).after) e
