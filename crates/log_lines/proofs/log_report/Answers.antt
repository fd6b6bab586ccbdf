use Rattle.std.proofs.Common.{◌∙◌}
use Rattle.log_lines.proofs.Counts.{logged}
use Rattle.log_lines.proofs.log_report.Goals as goal

pub returns : goal.returns
returns g c =
    let args = c.args in
    let said = c.answer_report.ensures in
    let step = logged g.L.Lines.column args.so_far args.report.now _ _ (c.told-a.ensures ∙ said.value) c.progress_after-progress.ensures
    c.put_line-length.ensures c.logged_at.ensures in
    record {
      length_bound = rw c.logged_at.ensures c.put_line-length.ensures.upper_bound;
      value = step.0;
      text_after = step.1;
      register_after = said.register_after;
    }
