-- An answer in one word, a remark's number and source, a date's number and minute, and a form's or report's number and length, as the C
-- interface gives them.
use Rattle.std.specs.Prelude.{ℕ, ◌+◌, ◌*◌, List, length, Option, Some, None, Result, Ok, Err}
use Rattle.quantities.specs.declared.Minute.{Minute}
use Rattle.calendar.specs.declared.DateError.{DateError}
use Rattle.calendar.specs.Refusals.{number_of}
use Rattle.forms.specs.declared.FormError.{FormError}
use Rattle.forms.specs.Refusals.{number_of as form_number_of}
use Rattle.report.specs.declared.RemarkPlace.{RemarkPlace}
use Rattle.report.specs.declared.RemarkPlace.TheVariants.{Standing, InReport}
use Rattle.rules.specs.declared.Answer.{Answer}

-- the number in the low byte, the warnings above it, the part above both
abbrev pub packed : Answer → ℕ
packed a = a.number + 256 * a.warnings + 65536 * a.part

-- the number in the low byte, 1 above it where the remark is the standing text
abbrev pub packed_remark : Option RemarkPlace → ℕ
packed_remark (Some Standing) = 256
packed_remark (Some (InReport start n)) = 0
packed_remark None = 2

-- where it begins in the text that it lies in, and its length; 0 and 0 where there is none
abbrev pub remark_start : Option RemarkPlace → ℕ
remark_start (Some Standing) = 0
remark_start (Some (InReport start n)) = start
remark_start None = 0

abbrev pub remark_length : Option RemarkPlace → List ℕ → ℕ
remark_length (Some Standing) standing = length standing
remark_length (Some (InReport start n)) standing = n
remark_length None standing = 0

-- the number in the low half, the minute in the high one; beside a refusal's number the minute is 0
abbrev pub packed_date : Result Minute DateError → ℕ
packed_date (Ok m) = 4294967296 * m.0
packed_date (Err e) = number_of e

-- the number in the low half, the length of what was written in the high one; beside a refusal's number the length is 0
abbrev pub packed_length : Result ℕ FormError → ℕ
packed_length (Ok n) = 4294967296 * n
packed_length (Err e) = form_number_of e
