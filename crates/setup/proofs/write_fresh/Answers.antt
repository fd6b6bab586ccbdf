use mathlib.Core.Path.{refl}
use Rattle.setup.proofs.Laws.{fresh-written}
use Rattle.setup.proofs.write_fresh.Goals as goal

pub returns : goal.returns
returns c = fresh-written _ _ c.args.b.now c.requires c.clear.ensures c.put_unit_head.ensures refl
