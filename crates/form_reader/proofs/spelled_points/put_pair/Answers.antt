use Rattle.form_reader.proofs.PartsPut.{pair_put}
use Rattle.form_reader.proofs.spelled_points.put_pair.Goals as goal

pub returns : goal.returns
returns c = pair_put c.args.a c.args.b c.ranges.a.fits c.from.ensures c.from-2.ensures c.to_le_bytes.ensures c.put.ensures
