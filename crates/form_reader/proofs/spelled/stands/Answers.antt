use Rattle.std.proofs.Common.{refl}
use Rattle.std.proofs.lemmas.Bool.{false≢true}
use Rattle.form_reader.proofs.Standing.{chunk_stands, chunk_missing}
use Rattle.form_reader.proofs.spelled.stands.Goals as goal

pub returns-in-Some : goal.returns-in-Some
returns-in-Some g c =
    let found = c.in-Some.ensures in
    chunk_stands c.args.x.now c.args.s.now c.in-Some.chunk.now c.args.at g.row.N c.told-x found.bytes (found.there.0 refl) c.same.ensures

pub returns-in-None : goal.returns-in-None
returns-in-None g c = chunk_missing c.args.x.now c.args.s.now c.args.at g.row.N c.told-x (λ l. false≢true (c.in-None.ensures.there.1 l))
