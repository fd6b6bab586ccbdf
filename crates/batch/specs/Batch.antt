-- Reports that came together: which ones an input holds so far, their lines, and what is left to do after them.
use Rattle.std.specs.Prelude.{ℕ, zero, suc, ◌+◌, Bool, true, false, not, ◌&&◌, ◌||◌, List, [], ◌∷◌, ◌++◌, leb, eqb, min, length, take, drop}
use Rattle.fields.specs.Lists.{pick}
use Rattle.rules.specs.Desk.{answer_to, register_after}
use Rattle.log_lines.specs.declared.Progress.{Progress}
use Rattle.log_lines.specs.declared.Logged.{Logged}
use Rattle.log_lines.specs.Run.{stated_length, progress_after, next_line, logged_after}
use Rattle.batch.specs.declared.Batch.{Batch}

-- the first report is here whole, or the input has ended within it
unfoldable pub report_here : List ℕ → Bool → Bool
report_here input ended = leb (stated_length input) (length input) || ended && not (eqb (length input) 0)

abbrev pub first_length : List ℕ → ℕ
first_length input = min (stated_length input) (length input)

abbrev pub first_report : List ℕ → List ℕ
first_report input = take (first_length input) input

-- answer 2 ends the run
abbrev pub ends_run : List ℕ → List ℕ → Bool
ends_run register s = eqb (answer_to register s).answer.number 2

-- the reports that are here, up to one that ends the run: at most `most`
unfoldable pub reports_here : ℕ → List ℕ → List ℕ → Bool → List (List ℕ)
reports_here zero register input ended = []
reports_here (suc most) register input ended =
    pick (report_here input ended)
    (first_report input
    ∷ pick (ends_run register (first_report input)) []
    (reports_here most (answer_to register (first_report input)).after (drop (first_length input) input) ended))
    []

-- their lines, after others
unfoldable pub batch_lines : Progress → List ℕ → List (List ℕ) → List ℕ
batch_lines so_far register [] = []
batch_lines so_far register (s ∷ ss) =
    next_line so_far register s
    ++ batch_lines (progress_after so_far (answer_to register s).answer) (answer_to register s).after ss

abbrev pub no_reports : Progress → Batch
no_reports so_far = record { progress = so_far; taken = 0; length = 0; accepted = false; ends = false }

-- a report of n bytes before others
abbrev pub before : Logged → ℕ → Batch → Batch
before first n rest = record {
  progress = rest.progress;
  taken = n + rest.taken;
  length = first.length + rest.length;
  accepted = first.accepted || rest.accepted;
  ends = first.ends || rest.ends;
}

unfoldable pub batch_of : Progress → List ℕ → List (List ℕ) → Batch
batch_of so_far register [] = no_reports so_far
batch_of so_far register (s ∷ ss) =
    before (logged_after so_far register s) (length s)
    (batch_of (progress_after so_far (answer_to register s).answer) (answer_to register s).after ss)

-- the bytes of a list of reports, and whether one of them ends the run
unfoldable pub bytes_in : List (List ℕ) → ℕ
bytes_in [] = 0
bytes_in (s ∷ ss) = length s + bytes_in ss

unfoldable pub run_ends : List ℕ → List (List ℕ) → Bool
run_ends register [] = false
run_ends register (s ∷ ss) = ends_run register s || run_ends (answer_to register s).after ss

-- after the reports ss of an input: at most `most` more, unless the run has ended
abbrev pub after_cut : ℕ → List ℕ → List ℕ → List (List ℕ) → List (List ℕ)
after_cut most register input ss =
    pick (run_ends register ss) [] (reports_here most (register_after register ss) (drop (bytes_in ss) input) true)
