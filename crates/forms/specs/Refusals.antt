-- Paper 02, A4, "Turned away": this paper's number of each refusal.
use Rattle.std.specs.Prelude.{ℕ}
use Rattle.forms.specs.declared.FormError.{FormError}
use Rattle.forms.specs.declared.FormError.TheVariants.{NotAForm, NoForm, NoRoom}

abbrev pub number_of : FormError → ℕ
number_of NotAForm = 24
number_of NoForm = 25
number_of NoRoom = 43
