use Rattle.std.proofs.Common.{arith, refl, replicate, ℕ}
use Rattle.form_reader.proofs.PartsPut.{head_over}
use Rattle.form_reader.proofs.put_report.Goals as goal

pub returns-clause-report : goal.returns-clause-report
returns-clause-report c =
    head_over (replicate {A = ℕ} 48 0) c.args.form.now _ c.put_body_at-spelled.ensures.put (omega arith) refl c.head_bytes.ensures (omega arith) c.put_bytes.ensures
