use Rattle.rules.proofs.Worked.{bench_findings-right}
use Rattle.rules.proofs.bench_findings_are_ruled_out.Goals as goal

pub returns : goal.returns
returns c = bench_findings-right
