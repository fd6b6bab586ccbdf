use Rattle.block.proofs.Written.{times-put}
use Rattle.block.proofs.put_times.Goals as goal

pub returns : goal.returns
returns c = rw (← times-put) (cc)
