use Rattle.std.proofs.Common.{◌≡◌, length, take}
use Rattle.fields.specs.Lists.{series}
use Rattle.form_reading.specs.Reading.{hex_byte}
use Rattle.form_reader.proofs.SpelledBytes.{BytesTold}
use Rattle.form_reader.proofs.spelled.hex_bytes.Given as goal

abbrev pub invariant-loop-j : goal.invariant-loop-j
invariant-loop-j l =
    (length l.bytes ≡ 16) × (take l.j l.bytes ≡ series (hex_byte l.digits 0) 0 l.j) × BytesTold l.digits 0 l.j l.spelled
