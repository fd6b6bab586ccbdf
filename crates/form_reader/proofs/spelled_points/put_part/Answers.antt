use Rattle.std.proofs.Common.{rules}
use Rattle.form_reader.proofs.PartsPut.{part_put}
use Rattle.form_reader.proofs.spelled_points.put_part.Goals as goal

pub returns : goal.returns
returns c = part_put c.args.p (search rules) c.put_pair.ensures c.put_pair-2.ensures
