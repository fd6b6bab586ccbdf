-- The reports of an input, one after another, and their lines. Assumes nothing.
use Prim.Native.Nat.{ℕ, zero, suc, ◌+◌, ◌-◌, ◌≤◌, ◌<◌}
use mathlib.Core.Path.{◌≡◌, refl, ap, sym, ◌∙◌}
use mathlib.Core.Bool.{Bool, true, false, not, ◌&&◌, ◌||◌}
use mathlib.Core.List.{List, [], ◌∷◌, ◌++◌, append-nil}
use native.Mathlib.Nat.{zero-add}
use native.Mathlib.Omega.{arith}
use lib.ListN.{length, set, take, drop, length-drop, drop_of_length-le}
use lib.Seq.{sets, length-take-le, drop-drop}
use Rattle.std.proofs.Common.{add_assoc, add-zero}
use Rattle.std.proofs.Math.Bool.{or_assoc, or-false}
use Rattle.std.proofs.Math.Nat.{min-le_right, min-eq_left, min-eq_right}
use Rattle.std.proofs.Math.Seq.{take-length}
use borrow.Author.Tests.{le-leb, lt-leb}
use lib.Dec.{eqb}
use Rattle.std.proofs.lemmas.List.{take_rest}
use Rattle.fields.specs.Lists.{pick, put}
use Rattle.fields.proofs.Slices.{put-nothing, put-past, put-append}
use Rattle.rules.specs.Desk.{answer_to, register_after}
use Rattle.log_lines.specs.declared.Progress.{Progress}
use Rattle.log_lines.specs.declared.Logged.{Logged}
use Rattle.log_lines.specs.Run.{stated_length, next_line, logged_after}
use Rattle.batch.specs.declared.Batch.{Batch}
use Rattle.batch.specs.Batch.{report_here, first_length, first_report, reports_here, batch_lines, no_reports, before, batch_of}

module _ (input : List ℕ) (ended : Bool) {n : ℕ} (stated : n ≡ stated_length input) where
  pub first-whole : n ≤ length input → (report_here input ended ≡ true) × (take n input ≡ first_report input)
  unfolding report_here
  first-whole h =
      (rw (← stated, le-leb n (length input) h), rw (← stated) (ap (λ (k : ℕ). take k input) (sym (min-eq_left h))))

  module _ (h : length input < n) {empty : Bool} (e : empty ≡ eqb (length input) 0) where
    pub first-cut : (ended && not empty) ≡ true → (report_here input ended ≡ true) × (input ≡ first_report input)
    unfolding report_here
    first-cut f = (
      rw (← stated, lt-leb n (length input) h, ← e, f),
      sym (rw (← stated) (ap (λ (k : ℕ). take k input) (min-eq_right (omega arith)) ∙ take-length input)),
    )

    pub first-none : (ended && not empty) ≡ false → report_here input ended ≡ false
    unfolding report_here
    first-none f = rw (← stated, lt-leb n (length input) h, ← e, f)

first-size : (input : List ℕ) {s : List ℕ} → s ≡ first_report input → length s ≡ first_length input
first-size input e = ap length e ∙ length-take-le (first_length input) input (min-le_right (stated_length input) (length input))

pub first-inside : (input : List ℕ) {s : List ℕ} → s ≡ first_report input → length s ≤ length input
first-inside input e = rw (first-size input e) (min-le_right (stated_length input) (length input))

-- what is put from `at` on leaves what lies before it
pub put-dropped : (vs s : List ℕ) (at : ℕ) → take at s ++ put (drop at s) 0 vs ≡ put s at vs
unfolding put
put-dropped vs s zero = refl
put-dropped vs [] (suc at) = put-past vs [] 0 (omega arith) ∙ sym (put-past vs [] (suc at) (omega arith))
put-dropped vs (x ∷ s) (suc at) = ap (λ (l : List ℕ). x ∷ l) (put-dropped vs s at) ∙ sym (past_first vs s at)
  where
    past_first : (ws z : List ℕ) (k : ℕ) → sets (x ∷ z) (suc k) ws ≡ x ∷ sets z k ws
    past_first [] z k = refl
    past_first (w ∷ ws) z k = past_first ws (set z k w) (suc k)

-- what `&s[at..]` holds
abbrev pub lent : List ℕ → ℕ → List ℕ
lent s at = take (length s - at) (drop at s)

pub within-lent : (s : List ℕ) (at k : ℕ) → at ≤ length s → k ≤ length (lent s at) → at + k ≤ length s
within-lent s at k h l =
    let size : length (lent s at) ≡ length s - at = rw (take_rest s at) (length-drop at s) in
    let m = rw size at l in
    omega arith

-- what is put there is put from `at` on
pub put-lent : (s vs : List ℕ) (at : ℕ) {t : List ℕ} → t ≡ put (lent s at) 0 vs
    → take at s ++ (t ++ drop (length s - at) (drop at s)) ≡ put s at vs
put-lent s vs at {t} e =
    rw (drop_of_length-le (drop at s) {i = length s - at} (simp length-drop (omega arith)), append-nil t)
    (ap (λ (z : List ℕ). take at s ++ z) (rw (take_rest s at) at e) ∙ put-dropped vs s at)

-- a batch before the one after it
abbrev pub join : Batch → Batch → Batch
join b r = record {
  progress = r.progress;
  taken = b.taken + r.taken;
  length = b.length + r.length;
  accepted = b.accepted || r.accepted;
  ends = b.ends || r.ends;
}

-- a batch, and then a report of n bytes
abbrev pub with_report : Batch → ℕ → Logged → Batch
with_report b n l = record {
  progress = l.progress;
  taken = b.taken + n;
  length = b.length + l.length;
  accepted = b.accepted || l.accepted;
  ends = l.ends;
}

join-first : (p : _) (r : Batch) → join (no_reports p) r ≡ r
join-first p r = rw (zero-add r.taken, zero-add r.length)

join-last : (b : Batch) → join b (no_reports b.progress) ≡ b
join-last b = rw (add-zero b.taken, add-zero b.length, or-false b.accepted, or-false b.ends)

join-report : (b : Batch) (n : ℕ) (l : Logged) (r : Batch) → b.ends ≡ false → join (with_report b n l) r ≡ join b (before l n r)
join-report b n l r e = rw (e, add_assoc b.taken n r.taken, add_assoc b.length l.length r.length, or_assoc b.accepted l.accepted r.accepted)

-- what of an input is still to be judged after a batch, where at most `turns` reports may follow it
abbrev pub rest : List ℕ → Bool → Batch → List ℕ → ℕ → List (List ℕ)
rest input ended b register turns = pick b.ends [] (reports_here turns register (drop b.taken input) ended)

-- a batch, with the register and the text after it, and what is still to be judged give what the reports ss give
pub record Left (so_far : Progress) (register text : List ℕ) (ss : List (List ℕ)) (b : Batch) (register' text' : List ℕ)
    (others : List (List ℕ)) : Type 0 where
  pub result : batch_of so_far register ss ≡ join b (batch_of b.progress register' others)
  pub lines : put text 0 (batch_lines so_far register ss) ≡ put text' b.length (batch_lines b.progress register' others)
  pub left : register_after register ss ≡ register_after register' others

module _ (so_far : Progress) (register text : List ℕ) where
  pub none-judged : (input : List ℕ) (ended : Bool) (most : ℕ) →
      Left so_far register text (reports_here most register input ended) (no_reports so_far) register text
      (rest input ended (no_reports so_far) register most)
  unfolding pick
  none-judged input ended most = record {
    result = sym (join-first so_far (batch_of so_far register (reports_here most register input ended)));
    lines = refl;
    left = refl;
  }

  module _ (ss : List (List ℕ)) (b : Batch) (register' text' : List ℕ) where
    pub all-judged : {others : List (List ℕ)} → Left so_far register text ss b register' text' others → others ≡ []
        → (b ≡ batch_of so_far register ss) × (text' ≡ put text 0 (batch_lines so_far register ss))
        × (register' ≡ register_after register ss)
    unfolding batch_of batch_lines register_after
    all-judged w e =
        let d = rw e at w in (
          sym (d.result ∙ join-last b),
          sym (d.lines ∙ put-nothing text' b.length),
          sym d.left,
        )

    -- the next report was judged
    pub one-judged : (others : List (List ℕ)) (s : List ℕ) → b.ends ≡ false
        → Left so_far register text ss b register' text' (s ∷ others)
        → Left so_far register text ss (with_report b (length s) (logged_after b.progress register' s)) (answer_to register' s).after
        (put text' b.length (next_line b.progress register' s)) others
    unfolding batch_of batch_lines register_after
    one-judged others s e w =
        let l = logged_after b.progress register' s in
        let r = batch_of l.progress (answer_to register' s).after others in
        let ls = batch_lines l.progress (answer_to register' s).after others in
        record {
          result = w.result ∙ sym (join-report b (length s) l r e);
          lines = w.lines ∙ put-append (next_line b.progress register' s) ls text' b.length;
          left = w.left;
        }

none-twice : (s : Bool) → pick {A = List (List ℕ)} s [] [] ≡ []
unfolding pick
none-twice true = refl
none-twice false = refl

-- whether a report follows a batch, and which one it is
module _ (input : List ℕ) (ended : Bool) (b : Batch) (register : List ℕ) where
  pub no-turns-left : {turns : ℕ} → turns ≡ 0 → rest input ended b register turns ≡ []
  unfolding reports_here
  no-turns-left z = rw z (none-twice b.ends)

  pub none-after-end : (turns : ℕ) → b.ends ≡ true → rest input ended b register turns ≡ []
  unfolding pick
  none-after-end turns e = rw e

  pub none-left : (turns : ℕ) → report_here (lent input b.taken) ended ≡ false → rest input ended b register turns ≡ []
  unfolding reports_here pick
  none-left zero e = none-twice b.ends
  none-left (suc turns) e = rw (rw (take_rest input b.taken) at e) (none-twice b.ends)

  first-left : (turns : ℕ) (s : List ℕ) → b.ends ≡ false → report_here (drop b.taken input) ended ≡ true
      → s ≡ first_report (drop b.taken input)
      → rest input ended b register (suc turns)
      ≡ s ∷ rest input ended (with_report b (length s) (logged_after b.progress register s)) (answer_to register s).after turns
  unfolding reports_here pick
  first-left turns s e here is =
      rw (e, here, ← is, ← first-size (drop b.taken input) is, ← drop-drop (length s) b.taken input)

  pub next-judged : (so_far : Progress) (first-register text text' : List ℕ) (ss : List (List ℕ)) (turns : ℕ) {s : List ℕ}
      → b.ends ≡ false → report_here (lent input b.taken) ended ≡ true → s ≡ first_report (lent input b.taken)
      → Left so_far first-register text ss b register text' (rest input ended b register (suc turns))
      → {l : Logged} {new lines : List ℕ} → l ≡ logged_after b.progress register s → new ≡ (answer_to register s).after
      → lines ≡ put (lent text' b.length) 0 (next_line b.progress register s)
      → Left so_far first-register text ss (with_report b (length s) l) new
      (take b.length text' ++ (lines ++ drop (length text' - b.length) (drop b.length text')))
      (rest input ended (with_report b (length s) l) new turns)
  next-judged so_far first-register text text' ss turns {s} e here is w one after line =
      let all = take_rest input b.taken in
      let left = first-left turns s e (rw all at here) (rw all at is) in
      let others = rest input ended (with_report b (length s) (logged_after b.progress register s)) (answer_to register s).after turns in
      rw (one, after, put-lent text' (next_line b.progress register s) b.length line)
      (one-judged so_far first-register text ss b register text' others s e (rw (← left) w))
