-- Numbers as ASCII, and the bytes that stand between them.
use Rattle.std.specs.Prelude.{ℕ, zero, suc, ◌+◌, ◌/◌, List, [], ◌∷◌, ltb}
use Rattle.fields.specs.Lists.{pick}
use Rattle.fields.specs.Ascii.{ascii}
use Rattle.calendar.specs.Calendar.{digit}

-- a number in decimal, without leading zeros, before a text: up to `places` digits
unfoldable pub decimal_before : ℕ → ℕ → List ℕ → List ℕ
decimal_before zero n text = text
decimal_before (suc places) n text =
    pick (ltb n 10) (digit n ∷ text) (decimal_before places (n / 10) (digit n ∷ text))

-- twenty digits hold every 64-bit number
abbrev pub decimal : ℕ → List ℕ
decimal n = decimal_before 20 n []

-- 0 to 15 as 0 to 9 and a to f
abbrev pub hex_digit : ℕ → ℕ
hex_digit n = pick (ltb n 10) (48 + n) (87 + n)

abbrev pub space : List ℕ
space = ascii " "

abbrev pub line_feed : List ℕ
line_feed = ascii "\n"

abbrev pub hyphen : List ℕ
hyphen = ascii "-"
