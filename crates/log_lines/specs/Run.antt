-- Paper 01, "The shift log": how an input is read, what a report adds to the log, and the log of an input.
use Rattle.std.specs.Prelude.{ℕ, zero, suc, ◌+◌, ◌*◌, Bool, ◌&&◌, List, [], ◌∷◌, ◌++◌, leb, ltb, eqb, length, take, drop}
use Rattle.fields.specs.Fields.{u16_at}
use Rattle.fields.specs.Lists.{pick}
use Rattle.report.specs.Report.{most_parts, most_text, parts_start, text_after, head_of, whole}
use Rattle.rules.specs.declared.Answer.{Answer}
use Rattle.rules.specs.Block.{block_size, zeros}
use Rattle.rules.specs.Roster.{entry_mark, entry_size}
use Rattle.rules.specs.Desk.{answer_to, answers, set_up}
use Rattle.log_lines.specs.declared.Totals.{Totals}
use Rattle.log_lines.specs.declared.Progress.{Progress}
use Rattle.log_lines.specs.declared.Logged.{Logged}
use Rattle.log_lines.specs.Log.{is_clean, is_warned, is_refused, totals_of, log_header, line_with, log_line, totals_line, fault_line}
use Rattle.log_lines.specs.Remarks.{remark_line}

-- "reads roster entries while the mark, both bytes, is 4A 47, at most 8"
abbrev pub entry_begins : List ℕ → Bool
entry_begins input = eqb (u16_at input 0) entry_mark

unfoldable pub entries_read : ℕ → List ℕ → ℕ
entries_read zero input = 0
entries_read (suc most) input = pick (entry_begins input) (suc (entries_read most (drop entry_size input))) 0

-- an entry cut short leaves a roster that is not whole entries: 20
abbrev pub roster_read : List ℕ → List ℕ
roster_read input = take (entry_size * entries_read 8 input) input

-- a report's length by its own k and t; where one is too large, the head alone is judged, and fails question 2
unfoldable pub stated_length : List ℕ → ℕ
stated_length s =
    pick (leb (head_of s).part_count most_parts && leb (head_of s).text_length most_text)
    (text_after (head_of s).part_count + (head_of s).text_length) parts_start

abbrev pub report_read : List ℕ → List ℕ
report_read input = take (stated_length input) input

-- "a report that fails question 2 .., or an input cut short, gets a line with 2 and ends the run": at most `most` reports
unfoldable pub reports_read : ℕ → List ℕ → List (List ℕ)
reports_read zero input = []
reports_read (suc most) input =
    pick (eqb (length input) 0) []
    (report_read input ∷ pick (whole (report_read input)) (reports_read most (drop (stated_length input) input)) [])

-- a count with one more; it stays at the highest 64-bit number, which no log reaches
abbrev pub most_counted : ℕ
most_counted = 18446744073709551615

abbrev pub one_more : ℕ → ℕ
one_more n = pick (ltb n most_counted) (n + 1) n

unfoldable pub count_answer : Totals → Answer → Totals
count_answer t a = record {
  clean = pick (is_clean a) (one_more t.clean) t.clean;
  warned = pick (is_warned a) (one_more t.warned) t.warned;
  refused = pick (is_refused a) (one_more t.refused) t.refused;
}

-- the lines so far and the totals, after one more answer
abbrev pub progress_after : Progress → Answer → Progress
progress_after so_far a = record { lines = one_more so_far.lines; totals = count_answer so_far.totals a }

abbrev pub at_start : Progress
at_start = record { lines = 0; totals = record { clean = 0; warned = 0; refused = 0 } }

-- the line of a report that comes after others: alone, with its remark, and with one column more
abbrev pub next_line : Progress → List ℕ → List ℕ → List ℕ
next_line so_far register s = log_line (one_more so_far.lines) s (answer_to register s).answer

abbrev pub next_remark_line : Progress → List ℕ → List ℕ → List ℕ
next_remark_line so_far register s = remark_line (one_more so_far.lines) s (answer_to register s).answer

abbrev pub next_line_with : (List ℕ → List ℕ) → Progress → List ℕ → List ℕ → List ℕ
next_line_with column so_far register s = line_with column (one_more so_far.lines) s (answer_to register s).answer

-- the progress, the length of the line that was written, and whether the report was accepted, and ends the run
abbrev pub logged_at : Progress → Answer → ℕ → Logged
logged_at progress a n =
    record { progress = progress; length = n; accepted = eqb a.number 0; ends = eqb a.number 2 }

abbrev pub logged_with : List ℕ → Progress → Answer → Logged
logged_with line so_far a = logged_at (progress_after so_far a) a (length line)

abbrev pub logged_after : Progress → List ℕ → List ℕ → Logged
logged_after so_far register s = logged_with (next_line so_far register s) so_far (answer_to register s).answer

abbrev pub remark_logged : Progress → List ℕ → List ℕ → Logged
remark_logged so_far register s = logged_with (next_remark_line so_far register s) so_far (answer_to register s).answer

abbrev pub logged_after_with : (List ℕ → List ℕ) → Progress → List ℕ → List ℕ → Logged
logged_after_with column so_far register s =
    logged_with (next_line_with column so_far register s) so_far (answer_to register s).answer

-- the log step by step: each report's line, then the totals that the steps have counted
unfoldable pub log_from : Progress → List ℕ → List (List ℕ) → List ℕ
log_from so_far register [] = totals_line so_far.totals
log_from so_far register (s ∷ ss) =
    next_line so_far register s
    ++ log_from (progress_after so_far (answer_to register s).answer) (answer_to register s).after ss

-- the lines of a list of reports and of the answers to them
unfoldable pub lines_of : ℕ → List (List ℕ) → List Answer → List ℕ
lines_of line [] answered = []
lines_of line (s ∷ ss) [] = []
lines_of line (s ∷ ss) (a ∷ answered) = log_line line s a ++ lines_of (line + 1) ss answered

-- the log of a list of reports: a line to each, and the totals of the answers
abbrev pub log_of : List ℕ → List (List ℕ) → List ℕ
log_of register ss = lines_of 1 ss (answers register ss) ++ totals_line (totals_of (answers register ss))

-- the log of an input
unfoldable pub shift_log : List ℕ → List ℕ
shift_log input =
    pick (eqb (set_up (roster_read input) (zeros (block_size * entries_read 8 input))).number 0)
    (log_header
    ++ log_of (set_up (roster_read input) (zeros (block_size * entries_read 8 input))).after
    (reports_read (length input) (drop (entry_size * entries_read 8 input) input)))
    (fault_line (set_up (roster_read input) (zeros (block_size * entries_read 8 input))).number)
