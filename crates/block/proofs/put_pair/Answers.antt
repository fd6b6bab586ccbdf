use Rattle.block.proofs.Written.{pair-written}
use Rattle.block.proofs.put_pair.Goals as goal

pub returns : goal.returns
returns c = pair-written _ _ _ c.put_minute.ensures c.put_kilowatt.ensures
