use Rattle.block.proofs.Written.{row_written}
use Rattle.block.proofs.put_row.Goals as goal

pub returns : goal.returns
returns c = row_written _ _ c.put_u8.ensures c.put_u8-2.ensures c.put_minute.ensures
