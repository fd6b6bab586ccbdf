use native.Mathlib.Omega.{arith}
use mathlib.Core.Path.{ap, sym, ◌∙◌}
use lib.Dec.{eqb}
use Rattle.std.proofs.lemmas.Result.{err_from_is_err_and}
use Rattle.report.specs.declared.Head.{Head}
use Rattle.report.proofs.Sizes.{whole-sized}
use Rattle.desk.proofs.Answers.{ask-passed, ask-stopped, no-1, no-2, no-3, judged-there, inside, answered-there, left_there}
use Rattle.desk.proofs.Free.{lent-whole}
use Rattle.desk.proofs.answer_report.Goals as goal

pub returns-in_err-ask : goal.returns-in_err-ask
returns-in_err-ask c =
    let p = err_from_is_err_and c.from_residual.result c.from_residual.ensures.1 in
    let no = ask-stopped 1 _ c.ask.ensures c.in_err-ask.was in
    let said = no-1 _ _ c.register_whole.ensures no.0 in
    rw (p.1, p.2, no.1) (record { value = said.value; accepted = said.accepted; register_after = said.after })

pub returns-in_err-ask-2 : goal.returns-in_err-ask-2
returns-in_err-ask-2 c =
    let p = err_from_is_err_and c.from_residual-in_err-ask-2.result c.from_residual-in_err-ask-2.ensures.1 in
    let no = ask-stopped 2 _ c.ask-2.ensures c.in_err-ask-2.was in
    let said = no-2 _ _ c.register_whole.ensures (ask-passed 1 _ c.ask.ensures c.in_ok-ask.was) c.is_whole.ensures no.0 in
    rw (p.1, p.2, no.1) (record { value = said.value; accepted = said.accepted; register_after = said.after })

pub returns-in_err-ask-3 : goal.returns-in_err-ask-3
returns-in_err-ask-3 c =
    let p = err_from_is_err_and c.from_residual-in_err-ask-3.result c.from_residual-in_err-ask-3.ensures.1 in
    let no = ask-stopped 3 _ c.ask-3.ensures c.in_err-ask-3.was in
    let said = no-3 _ _ c.register_whole.ensures (ask-passed 1 _ c.ask.ensures c.in_ok-ask.was) c.is_whole.ensures
    (ask-passed 2 _ c.ask-2.ensures c.in_ok-ask-2.was) c.is_addressed.ensures no.0 in
    rw (p.1, p.2, no.1) (record { value = said.value; accepted = said.accepted; register_after = said.after })

pub overflow_sub-a : goal.overflow_sub-a
overflow_sub-a c =
    let k = inside _ _ (ap (λ (h : Head). h.unit) c.head_of-unit.ensures) c.is_addressed.ensures (ask-passed 3 _ c.ask-3.ensures c.in_ok-ask-3.was) in
    omega (arith, k.first)

pub slice_bounds-judge_block-end : goal.slice_bounds-judge_block-end
slice_bounds-judge_block-end c =
    let k = inside _ _ (ap (λ (h : Head). h.unit) c.head_of-unit.ensures) c.is_addressed.ensures (ask-passed 3 _ c.ask-3.ensures c.in_ok-ask-3.was) in
    omega (arith, k.first, k.last)

pub judge_block-requires : goal.judge_block-requires
judge_block-requires c =
    let k = inside _ _ (ap (λ (h : Head). h.unit) c.head_of-unit.ensures) c.is_addressed.ensures (ask-passed 3 _ c.ask-3.ensures c.in_ok-ask-3.was) in
    record {
      whole_block = lent-whole _ c.register_whole.ensures (ask-passed 1 _ c.ask.ensures c.in_ok-ask.was) k;
      few_parts = (whole-sized _ (sym c.is_whole.ensures ∙ ask-passed 2 _ c.ask-2.ensures c.in_ok-ask-2.was)).few;
    }

pub returns : goal.returns
returns c =
    let u = ap (λ (h : Head). h.unit) c.head_of-unit.ensures in
    let addressed = ask-passed 3 _ c.ask-3.ensures c.in_ok-ask-3.was in
    let k = inside _ _ u c.is_addressed.ensures addressed in
    let said = judged-there _ _ c.register_whole.ensures (ask-passed 1 _ c.ask.ensures c.in_ok-ask.was) c.is_whole.ensures
    (ask-passed 2 _ c.ask-2.ensures c.in_ok-ask-2.was) c.is_addressed.ensures addressed
    (answered-there _ _ u (λ v. v.answer) c.judge_block.ensures.value)
    (answered-there _ _ u (λ v. eqb v.answer.number 0) c.judge_block.ensures.accepted)
    (left_there _ _ u k c.judge_block.auto.b c.judge_block.ensures.b_after) in
    record { value = said.value; accepted = said.accepted; register_after = said.after }
