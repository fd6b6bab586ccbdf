use Rattle.fields.proofs.Rests.{chunk-read, chunk-within}
use Rattle.fields.proofs.chunk_at.Goals as goal

pub returns-then-this-eq0-clause-bytes : goal.returns-then-this-eq0-clause-bytes
returns-then-this-eq0-clause-bytes g c = chunk-read _ _ _ _ c.rest_at.ensures _ c.first_chunk.ensures.cases

pub returns-clause-bytes : goal.returns-clause-bytes
returns-clause-bytes g c =
    let (there, _) = c.in_ok-get.ensures.lookup in
    let (_, room, bytes, as-long) = there in
    chunk-within _ _ _ _ _ c.in_ok-end.ensures.1 room bytes as-long _ c.first_chunk-2.ensures.cases
