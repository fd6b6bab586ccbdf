-- Paper 01, "The shift log": roster A and its reports as one input, and the log that is printed there.
use Rattle.std.specs.Prelude.{List, [], ◌∷◌, ◌++◌, ℕ}
use Rattle.rules.specs.Cases.{roster_a, logged_reports}
use Rattle.fields.specs.Ascii.{ascii}

unfoldable pub one_after_other : List (List ℕ) → List ℕ
one_after_other [] = []
one_after_other (s ∷ ss) = s ++ one_after_other ss

unfoldable pub stream_a : List ℕ
stream_a = roster_a ++ one_after_other logged_reports

-- the log as paper 01 prints it, with 02's column "part"
abbrev pub log_a : List ℕ
log_a =
    ascii "no unit answer warn part stamp\n"
    ++ ascii "1 1 0 0 0 2026-03-01 00:10\n"
    ++ ascii "2 1 17 0 0 2026-03-01 00:11\n"
    ++ ascii "3 1 0 0 0 2026-03-01 00:11\n"
    ++ ascii "4 1 0 1 0 2026-03-01 00:25\n"
    ++ ascii "5 2 3 0 0 2026-03-01 00:26\n"
    ++ ascii "total 2 1 2\n"
