-- Paper 02, A4: a form is lines, "one "name=value" each", and how each kind of value is written.
use Rattle.std.specs.Prelude.{ℕ, ◌/◌, ◌%◌, List, [], ◌∷◌, ◌++◌, ℤ, pos, nat_abs}
use Rattle.std.specs.Int.Signed.{le_z}
use Rattle.fields.specs.Lists.{pick}
use Rattle.quantities.specs.declared.Minute.{Minute}
use Rattle.calendar.specs.Reading.{print_of}
use Rattle.texts.specs.Numerals.{decimal, hex_digit, hyphen, line_feed}

-- a name with its "=", a value, and a line feed
unfoldable pub line : List ℕ → List ℕ → List ℕ
line name value = name ++ (value ++ line_feed)

abbrev pub number_line : List ℕ → ℕ → List ℕ
number_line name n = line name (decimal n)

-- the date as paper 01 prints it
abbrev pub date_line : List ℕ → Minute → List ℕ
date_line name m = line name (print_of m)

-- bytes as digits 0 to 9 and a to f, two to a byte, the high half first
unfoldable pub hex_text : List ℕ → List ℕ
hex_text [] = []
hex_text (b ∷ bs) = hex_digit (b / 16) ∷ hex_digit (b % 16) ∷ hex_text bs

-- kW: a number, or a hyphen and a number
unfoldable pub signed_decimal : ℤ → List ℕ
signed_decimal z = pick (le_z (pos 0) z) (decimal (nat_abs z)) (hyphen ++ decimal (nat_abs z))
