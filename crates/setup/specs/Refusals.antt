-- The paper's number of each refusal.
use Rattle.std.specs.Prelude.{ℕ, Result, Ok, Err}
use Rattle.setup.specs.declared.SetUpError.{SetUpError}
use Rattle.setup.specs.declared.SetUpError.TheVariants.{BadRoster, WrongSize}

-- "is the roster 1 to 64 good entries? No: 20. Is the buffer n × 7,168 bytes? No: 21"
abbrev pub number_of : SetUpError → ℕ
number_of BadRoster = 20
number_of WrongSize = 21

-- the number of an answer: 0, or its refusal's
abbrev pub answer_number : {A : Type 0} → Result A SetUpError → ℕ
answer_number (Ok a) = 0
answer_number (Err e) = number_of e
