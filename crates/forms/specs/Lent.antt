-- What a lent buffer is answered and holds, where some bytes are to go into it. The same for forms and for reports.
use Rattle.std.specs.Prelude.{ℕ, Bool, List, leb, length, Result, Ok, Err}
use Rattle.fields.specs.Lists.{pick, put}
use Rattle.forms.specs.declared.FormError.{FormError}
use Rattle.forms.specs.declared.FormError.TheVariants.{NotAForm, NoForm, NoRoom}
use Rattle.forms.specs.Form.{has_form, form_of}

abbrev pub has_room : List ℕ → List ℕ → Bool
has_room bytes buffer = leb (length bytes) (length buffer)

-- "then no room in the lent buffer is 43"; else the length is handed back
unfoldable pub length_given : Result (List ℕ) FormError → List ℕ → Result ℕ FormError
length_given (Ok bytes) buffer = pick (has_room bytes buffer) (Ok (length bytes)) (Err NoRoom)
length_given (Err e) buffer = Err e

-- "Nothing is then written; past an answer a lent buffer .. keeps its bytes"
unfoldable pub buffer_after : Result (List ℕ) FormError → List ℕ → List ℕ
buffer_after (Ok bytes) buffer = pick (has_room bytes buffer) (put buffer 0 bytes) buffer
buffer_after (Err e) buffer = buffer

-- "a report without a form is 25"
unfoldable pub form_written : List ℕ → Result (List ℕ) FormError
form_written report = pick (has_form report) (Ok (form_of report)) (Err NoForm)

-- "a form of no such report is 24"
abbrev pub no_report : Result (List ℕ) FormError
no_report = Err NotAForm
