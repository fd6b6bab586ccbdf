-- The log with each report's remark beside its line, "shown beside the answer and no part of it".
use Rattle.std.specs.Prelude.{ℕ, ◌/◌, ◌%◌, ◌&&◌, List, [], ◌∷◌, ◌++◌, leb, eqb}
use Rattle.fields.specs.Lists.{pick}
use Rattle.report.specs.Remark.{remark_of}
use Rattle.rules.specs.declared.Answer.{Answer}
use Rattle.fields.specs.Ascii.{ascii}
use Rattle.texts.specs.Numerals.{hex_digit, line_feed}
use Rattle.log_lines.specs.Log.{header_text, line_text}

-- a backslash twice, 20 to 7E as they are, every other byte as \x and two hex digits
unfoldable pub shown_byte : ℕ → List ℕ
shown_byte b =
    pick (eqb b 92) (ascii "\\\\")
    (pick (leb 0x20 b && leb b 0x7E) (b ∷ []) (ascii "\\x" ++ (hex_digit (b / 16) ∷ hex_digit (b % 16) ∷ [])))

unfoldable pub shown : List ℕ → List ℕ
shown [] = []
shown (b ∷ bs) = shown_byte b ++ shown bs

abbrev pub standing_remark : List ℕ
standing_remark = ascii "no remark"

abbrev pub remark_column : List ℕ → List ℕ
remark_column s = ascii " | " ++ shown (remark_of s standing_remark)

abbrev pub remark_title : List ℕ
remark_title = ascii " | remark"

abbrev pub remark_line : ℕ → List ℕ → Answer → List ℕ
remark_line line s a = line_text line s a ++ remark_column s ++ line_feed

abbrev pub remarks_header : List ℕ
remarks_header = header_text ++ ascii " | remark" ++ line_feed
