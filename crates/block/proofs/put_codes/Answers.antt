use Rattle.block.proofs.Written.{codes-put}
use Rattle.block.proofs.put_codes.Goals as goal

pub returns : goal.returns
returns c = rw (← codes-put) (cc)
