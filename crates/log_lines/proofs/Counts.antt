-- The counts of a log's steps, and the log of a list of reports. Assumes nothing.
use Prim.Native.Nat.{ℕ, ◌+◌, ◌≤◌, ◌<◌, min}
use mathlib.Core.Path.{◌≡◌, sym, ◌∙◌}
use mathlib.Core.Bool.{Bool, true, false}
use mathlib.Core.List.{List, [], ◌∷◌, ◌++◌, append_assoc}
use native.Mathlib.Nat.{add-zero, zero-add}
use native.Mathlib.Omega.{arith}
use lib.Dec.{ltb}
use lib.ListN.{length}
use borrow.Author.Tests.{lt-ltb, ltb-true, ltb-false}
use Rattle.fields.specs.Lists.{pick, put}
use Rattle.fields.proofs.Bools.{pick-elim}
use Rattle.rules.specs.declared.Answer.{Answer}
use Rattle.rules.specs.Desk.{answer_to, answers}
use Rattle.log_lines.specs.declared.Totals.{Totals}
use Rattle.log_lines.specs.declared.Progress.{Progress}
use Rattle.log_lines.specs.declared.Logged.{Logged}
use Rattle.log_lines.specs.Log.{is_clean, is_warned, is_refused, count_of, totals_of, line_with, log_line, totals_line}
use Rattle.texts.specs.Texts.{Puts}
use Rattle.log_lines.specs.Run.{most_counted, one_more, count_answer, progress_after, at_start, logged_at, logged_with}
use Rattle.log_lines.specs.Run.{log_from, lines_of, log_of}

pub one_more-below : (n : ℕ) → n < most_counted → one_more n ≡ n + 1
unfolding pick
one_more-below n l = rw (lt-ltb n most_counted l)

-- the next count is what a saturating sum gives
pub saturated : (n : ℕ) → n ≤ most_counted → min (n + 1) most_counted ≡ one_more n
saturated n h =
    pick-elim (λ (k : ℕ). min (n + 1) most_counted ≡ k) (ltb n most_counted) (λ t. omega (arith, ltb-true n most_counted t, h))
    (λ t. omega (arith, ltb-false n most_counted t, h))

-- a count that one answer moves, and those after it
moved : (n later : ℕ) (t : Bool) → n < most_counted → pick t (one_more n) n + later ≡ n + (pick t 1 0 + later)
unfolding pick
moved n later true l = rw (one_more-below n l) (omega arith)
moved n later false l = omega arith

moved-most : (n most : ℕ) (t : Bool) → n < most_counted → n ≤ most → pick t (one_more n) n ≤ most + 1
unfolding pick
moved-most n most true l h = rw (one_more-below n l) (omega (arith, h))
moved-most n most false l h = omega (arith, h)

plus : Totals → Totals → Totals
plus t u = record { clean = t.clean + u.clean; warned = t.warned + u.warned; refused = t.refused + u.refused }

-- no count is above the lines
record Within (t : Totals) (lines : ℕ) : Type 0 where
  clean : t.clean ≤ lines
  warned : t.warned ≤ lines
  refused : t.refused ≤ lines

module _ (t : Totals) (a : Answer) (lines : ℕ) (within : Within t lines) (room : lines < most_counted) where
  stays_within : Within (count_answer t a) (lines + 1)
  unfolding count_answer
  stays_within = record {
    clean = moved-most t.clean lines (is_clean a) (omega (arith, within.clean, room)) within.clean;
    warned = moved-most t.warned lines (is_warned a) (omega (arith, within.warned, room)) within.warned;
    refused = moved-most t.refused lines (is_refused a) (omega (arith, within.refused, room)) within.refused;
  }

  counted-first : (later : List Answer) → plus (count_answer t a) (totals_of later) ≡ plus t (totals_of (a ∷ later))
  unfolding plus count_answer count_of
  counted-first later =
      rw (
        moved t.clean (count_of is_clean later) (is_clean a) (omega (arith, within.clean, room)),
        moved t.warned
            (count_of is_warned later) (is_warned a) (omega (arith, within.warned, room)),
        moved t.refused
            (count_of is_refused later) (is_refused a) (omega (arith, within.refused, room)),
      )

log-from : (ss : List (List ℕ)) (so_far : Progress) (register : List ℕ) → so_far.lines + length ss ≤ most_counted
    → Within so_far.totals so_far.lines
    → log_from so_far register ss ≡ lines_of (so_far.lines + 1) ss (answers register ss) ++ totals_line
    (plus so_far.totals (totals_of (answers register ss)))
unfolding log_from lines_of answers count_of plus
log-from [] so_far register room within =
    let same : plus so_far.totals (totals_of []) ≡ so_far.totals =
    rw (add-zero so_far.totals.clean, add-zero so_far.totals.warned, add-zero so_far.totals.refused) in
    rw same
log-from (s ∷ ss) so_far register room within =
    let a = (answer_to register s).answer in
    let after = (answer_to register s).after in
    let less : so_far.lines < most_counted = omega (arith, room) in
    let more : one_more so_far.lines ≡ so_far.lines + 1 = one_more-below so_far.lines less in
    let within_more : Within (count_answer so_far.totals a) (one_more so_far.lines) =
    rw more (stays_within so_far.totals a so_far.lines within less) in
    let rest = log-from ss (progress_after so_far a) after (rw more (omega (arith, room))) within_more in
    rw (rest, more, counted-first so_far.totals a so_far.lines within less (answers after ss))
    (sym (append_assoc (log_line (so_far.lines + 1) s a) (lines_of (so_far.lines + 1 + 1) ss (answers after ss)) _))

pub log-of-list : (register : List ℕ) (ss : List (List ℕ)) → length ss ≤ most_counted
    → log_from at_start register ss ≡ log_of register ss
unfolding plus
log-of-list register ss room =
    let as-answered = answers register ss in
    rw (zero-add (count_of is_clean as-answered), zero-add (count_of is_warned as-answered), zero-add (count_of is_refused as-answered))
    at (log-from ss at_start register (omega (arith, room))
    (record { clean = omega arith; warned = omega arith; refused = omega arith }))

-- a step of the log, whichever column its line has
pub logged : (column : List ℕ → List ℕ) (so_far : Progress) (s : List ℕ) {a given : Answer} {p : Progress} {m n : ℕ} (here there : List ℕ)
    → a ≡ given → p ≡ progress_after so_far a → Puts m here (line_with column p.lines s a) there n → {l : Logged} → l ≡ logged_at p a n
    → (l ≡ logged_with (line_with column (one_more so_far.lines) s given) so_far given) ×
    (there ≡ put here 0 (line_with column (one_more so_far.lines) s given))
logged column so_far s here there same next p all = rw (← same) (all ∙ rw (p.value, next), p.text_after ∙ rw next)
