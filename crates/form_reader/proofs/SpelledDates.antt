-- A date that is read is the one that stands there, and where none is read none stands there. Assumes nothing.
use Prim.Native.Nat.{ℕ, ◌+◌, ◌-◌, ◌≤◌}
use mathlib.Core.Path.{◌≡◌, refl, ap, sym, ◌∙◌}
use mathlib.Core.Bool.{true, false, false≢true}
use mathlib.Core.List.{List, ◌++◌}
use lib.ListN.{length}
use native.Mathlib.Omega.{arith}
use Rattle.std.specs.Prelude.{Ok, Err}
use Rattle.fields.specs.Ascii.{ascii}
use Rattle.fields.specs.Fields.{u8_at}
use Rattle.fields.specs.Lists.{part, series}
use Rattle.fields.proofs.Bools.{both_ways}
use Rattle.fields.proofs.Tests.{same-list-true, same-list-self}
use Rattle.quantities.specs.declared.Minute.{Minute}
use Rattle.calendar.specs.declared.DateError.{DateError}
use Rattle.calendar.specs.Calendar.{date_of, date_text}
use Rattle.calendar.specs.Reading.{print_of, date_read}
use Rattle.calendar.proofs.Reading.{text-printed, minute-back}
use Rattle.forms.specs.Values.{line, date_line}
use Rattle.form_reading.specs.declared.DateLines.{DateLines}
use Rattle.form_reading.specs.Reading.{date_lines_in}
use Rattle.form_reader.proofs.Standing.{part_fetched}
use Rattle.form_reader.specs.Spelled.{stands, Told}
use Rattle.form_reading.proofs.Values.{date-length}

pub date_told : (s : List ℕ) (at : ℕ) (m : Minute) → date_read (part s at 16) ≡ Ok m → Told (print_of m) s at true (at + 16)
date_told s at m e =
    let p = text-printed (part s at 16) m e in
    let long = date-length (date_of m) in
    record { told = rw (long, ← p.printed_back) (sym (same-list-self (print_of m))); after = λ t. rw long }

pub none_told : {e : DateError} (s : List ℕ) (at : ℕ) → date_read (part s at 16) ≡ Err e
    → Told (print_of (record { 0 = 0 })) s at false (at + 16)
none_told {e} s at none =
    let m : Minute = record { 0 = 0 } in
    let long = date-length (date_of m) in
    record {
      told = both_ways false (stands (print_of m) s at) (λ t. absurd (false≢true t))
          (λ t.
          let same : print_of m ≡ part s at 16 = same-list-true (print_of m) (part s at 16) (rw long at t) in
          let read = sym none ∙ ap date_read (sym same) ∙ minute-back m (omega arith) in
          absurd (cc));
      after = λ t. absurd (false≢true t);
    }

-- the three lines among the bytes that were fetched
pub dates_length : (a b c : Minute) → length (date_line (ascii "stamp=") a ++ date_line (ascii "start=") b ++ date_line (ascii "end=") c) ≡ 67
unfolding line date_text
dates_length a b c = refl

pub dates_fetched : {m : DateLines} (s bytes : List ℕ) (at : ℕ) → bytes ≡ series (u8_at s) at 67 → 67 ≤ length s - at
    → m ≡ date_lines_in bytes 0 → record { stamp = m.stamp; period = m.period; next = at + 67 } ≡ date_lines_in s at
unfolding date_lines_in
dates_fetched s bytes at fetched room read =
    let there = part_fetched s bytes at 67 fetched room in
    rw (read, there 6 16 (omega arith), there 29 16 (omega arith), there 50 16 (omega arith)) refl
