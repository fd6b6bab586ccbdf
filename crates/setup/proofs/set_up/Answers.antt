use Rattle.setup.proofs.Laws.{set_up-written}
use Rattle.setup.proofs.set_up.Goals as goal

pub returns-clause-register_after : goal.returns-clause-register_after
returns-clause-register_after c =
    let d = c.as_chunks.ensures in
    set_up-written _ _ _ c.roster_good.ensures c.if-not-roster_good.false d.front d.front_len c.if-register-entries.false c.write_blocks.ensures
