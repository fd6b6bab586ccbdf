-- "Turned away": this paper's number of each refusal.
use Rattle.std.specs.Prelude.{ℕ, Result, Ok, Err}
use Rattle.calendar.specs.declared.DateError.{DateError}
use Rattle.calendar.specs.declared.DateError.TheVariants.{NoTime, NoPrint, NoRoom}

abbrev pub number_of : DateError → ℕ
number_of NoTime = 22
number_of NoPrint = 23
number_of NoRoom = 43

-- the number of an answer: 0, or its refusal's
abbrev pub answer_number : {A : Type 0} → Result A DateError → ℕ
answer_number (Ok a) = 0
answer_number (Err e) = number_of e
