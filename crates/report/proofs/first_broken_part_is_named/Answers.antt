use Rattle.report.proofs.Covering.{covered-exactly, broken-first, completable, unnamed, none_named}
use Rattle.report.specs.Cover.{cover_of}
use Rattle.report.proofs.first_broken_part_is_named.Goals as goal

pub returns : goal.returns
returns c = record {
  covered = covered-exactly;
  broken = broken-first;
  completable = completable;
  unnamed = (λ ps q. unnamed (cover_of ps q), none_named);
}
