use Rattle.std.proofs.lemmas.Result.{err_from_is_err_and}
use Rattle.fields.proofs.Tests.{series-length}
use Rattle.report.specs.Cover.{cover_of}
use Rattle.report.proofs.Covering.{covered, broken}
use Rattle.fields.specs.Lists.{pick}
use Rattle.report.proofs.cover_of.Goals as goal

pub returns-in_err-covered_or : goal.returns-in_err-covered_or
unfolding cover_of pick
returns-in_err-covered_or c =
    let up = err_from_is_err_and c.from_residual.result c.from_residual.ensures.1 in
    let b = broken _ 0 c.covered_or.ensures c.in_err-covered_or.was in
    rw (up.1, up.2, series-length, ← c.u16_at-k.ensures, b.0) b.1

pub returns : goal.returns
unfolding cover_of pick
returns c = rw (series-length, ← c.u16_at-k.ensures, covered _ 0 c.covered_or.ensures c.in_ok-covered_or.was) c.cover_after.ensures
