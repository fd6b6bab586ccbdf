use Rattle.std.proofs.Common.{arith, refl, ◌∙◌}
use Rattle.std.proofs.lemmas.Bool.{false≢true}
use Rattle.form_reader.proofs.SpelledBytes.{bytes_fetched, fetched_told, cut_told}
use Rattle.form_reader.proofs.spelled.identifier.Goals as goal

pub returns-in-Some-clause-read : goal.returns-in-Some-clause-read
returns-in-Some-clause-read c = c.hex_bytes.ensures.read ∙ bytes_fetched c.args.s.now c.args.at 32 0 c.args.at c.in-Some.ensures.bytes (omega arith) 0 16 (omega arith)

pub returns-in-Some-clause-spelled : goal.returns-in-Some-clause-spelled
returns-in-Some-clause-spelled c =
    let found = c.in-Some.ensures in
    fetched_told found.bytes (found.there.0 refl) c.hex_bytes.ensures.read c.hex_bytes.ensures.spelled

pub returns-in-None-clause-spelled : goal.returns-in-None-clause-spelled
returns-in-None-clause-spelled c = cut_told (λ l. false≢true (c.in-None.ensures.there.1 l)) c.identifier_cut.ensures
