use Rattle.fields.proofs.Rests.{from-padded}
use Rattle.fields.proofs.bytes_at.Goals as goal

pub returns-in-None : goal.returns-in-None
returns-in-None g c = from-padded _ _ _ c.rest_at.ensures _ _ c.padded.ensures
