use borrow.Author.Rules.{rules}
use Rattle.std.proofs.lemmas.Result.{err_from_is_err_and}
use Rattle.report.proofs.Covering.{after_none, after_more, after-stops}
use Rattle.report.proofs.+cover_after.Goals as goal

pub returns-then-remaining-eq0 : goal.returns-then-remaining-eq0
returns-then-remaining-eq0 t c = after_none _ _ _ _ _ (search rules) c.eq.ensures c.covered_or.ensures

pub returns-in_err-covered_or : goal.returns-in_err-covered_or
returns-in_err-covered_or t c =
    let up = err_from_is_err_and c.from_residual.result c.from_residual.ensures.1 in
    rw (up.1, up.2) (after-stops _ _ _ _ _ (search rules) c.part_at-p.ensures c.part_fits.ensures c.covered_or-2.ensures c.in_err-covered_or.was)

pub returns : goal.returns
returns t c =
    after_more _ _ _ _ _ (search rules) c.part_at-p.ensures c.part_fits.ensures c.covered_or-2.ensures c.in_ok-covered_or.was c.cover_after.ensures
