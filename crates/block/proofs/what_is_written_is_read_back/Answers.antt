use Rattle.block.proofs.ReadBack.{head-back, record-back, others-kept, pair-back}
use Rattle.block.proofs.what_is_written_is_read_back.Goals as goal

pub returns : goal.returns
returns c = record {
  head = head-back;
  slot = record-back;
  others = others-kept;
  pair = pair-back;
}
