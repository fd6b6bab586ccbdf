use Rattle.std.proofs.Common.{arith, ◌≡◌, ◌+◌, ◌*◌, ◌∙◌, ap, zero-add, sym, refl, length-set}
use Rattle.fields.specs.Fields.{u8_at}
use Rattle.form_reading.specs.Reading.{hex_byte}
use Rattle.fields.proofs.Slices.{filled_none, filled_more, filled-all}
use Rattle.form_reader.proofs.SpelledBytes.{byte_told, bytes_none, bytes_more, bytes_all}
use Rattle.form_reader.proofs.spelled.hex_bytes.Goals as goal

pub loop-j-init : goal.loop-j-init
loop-j-init c = (refl, filled_none (hex_byte c.args.digits.now 0) 0, bytes_none c.args.digits.now 0)

pub loop-j-preserved : goal.loop-j-preserved
loop-j-preserved c =
    let s = c.args.digits.now in
    let f = hex_byte s 0 in
    let l = c.loop-j in
    let high : u8_at s (2 * l.j) ≡ u8_at s (0 + 2 * l.j) = ap (u8_at s) (omega arith) in
    let low : u8_at s (2 * l.j + 1) ≡ u8_at s (0 + 2 * l.j + 1) = ap (u8_at s) (omega arith) in
    let byte = c.two_digits-byte.ensures in
    let read : c.two_digits-byte.result.0 ≡ f l.j = rw (high, low) at byte.value in (
      length-set l.bytes l.j c.two_digits-byte.result.0 ∙ l.invariant.0,
      filled_more f l.bytes 0 l.j l.invariant.1 (omega arith) (read ∙ ap f (sym (zero-add l.j))),
      bytes_more l.invariant.2 read (byte_told s (0 + 2 * l.j) high low byte.value byte.spelled),
    )

pub returns-clause-read : goal.returns-clause-read
returns-clause-read c =
    let all : c.loop-j.j ≡ 16 = omega arith in
    filled-all _ _ 16 c.loop-j.invariant.0 (rw all at c.loop-j.invariant.1)

pub returns-clause-spelled : goal.returns-clause-spelled
returns-clause-spelled c =
    let all : c.loop-j.j ≡ 16 = omega arith in
    let read = filled-all _ _ 16 c.loop-j.invariant.0 (rw all at c.loop-j.invariant.1) in
    rw read (bytes_all c.loop-j.invariant.2 all)
