use Rattle.std.proofs.Common.{◌≡◌, ◌+◌, ◌-◌, ◌/◌, ◌≤◌, suc, length, ap, refl, ◌∙◌, arith}
use Rattle.fields.proofs.Slices.{put-length}
use Rattle.batch.proofs.Batches.{first-inside, lent, within-lent, put-lent, none-judged, no-turns-left, none-after-end, none-left, all-judged, next-judged}
use Rattle.batch.proofs.log_batch.Goals as goal

pub loop-init : goal.loop-init
loop-init c =
    let a = c.args in
    let all : length a.text.now / 128 - 0 ≡ length a.text.now / 128 = omega arith in
    rw (c.no_reports-batch.ensures, all) (
      omega arith,
      omega arith,
      refl,
      refl,
      none-judged a.so_far a.register.now a.text.now a.input.now a.ended (length a.text.now / 128),
    )

pub loop-preserved : goal.loop-preserved
loop-preserved c =
    let a = c.args in
    let i = c.loop.invariant in
    let b = c.loop.batch in
    let first = c.in-Some.ensures in
    let logged = c.log_report-logged.ensures in
    let turns : length a.text.now / 128 - c.loop.counter ≡ suc (length a.text.now / 128 - (c.loop.counter + 1)) = omega arith in
    let same = ap length (put-lent c.loop.text _ b.length logged.text_after) ∙ put-length c.loop.text b.length _ in (
      within-lent a.input.now b.taken _ i.0 (first-inside (lent a.input.now b.taken) first.1),
      rw same (omega arith),
      same ∙ i.2,
      refl,
      next-judged a.input.now a.ended b c.loop.register a.so_far a.register.now a.text.now c.loop.text _ _
          c.if-batch.false first.0 first.1 (rw turns at i.4) logged.value logged.register_after logged.text_after,
    )

pub returns-after-loop : goal.returns-after-loop
returns-after-loop c =
    let a = c.args in
    let i = c.loop.invariant in
    let fits : c.loop.batch.length ≤ length a.text.now = omega arith in
    let none = no-turns-left a.input.now a.ended c.loop.batch c.loop.register (omega arith) in
    let d = all-judged a.so_far a.register.now a.text.now _ c.loop.batch c.loop.register c.loop.text i.4 none in
    record { in_bounds = (i.0, fits); value = d.0; text_after = d.1; register_after = d.2 }

pub returns-then-batch : goal.returns-then-batch
returns-then-batch c =
    let a = c.args in
    let i = c.loop.invariant in
    let fits : c.loop.batch.length ≤ length a.text.now = omega arith in
    let none = none-after-end a.input.now a.ended c.loop.batch c.loop.register _ c.if-batch.true in
    let d = all-judged a.so_far a.register.now a.text.now _ c.loop.batch c.loop.register c.loop.text i.4 none in
    record { in_bounds = (i.0, fits); value = d.0; text_after = d.1; register_after = d.2 }

pub returns-in_default : goal.returns-in_default
returns-in_default c =
    let a = c.args in
    let i = c.loop.invariant in
    let fits : c.loop.batch.length ≤ length a.text.now = omega arith in
    let none = none-left a.input.now a.ended c.loop.batch c.loop.register _ c.in_default.ensures in
    let d = all-judged a.so_far a.register.now a.text.now _ c.loop.batch c.loop.register c.loop.text i.4 none in
    record { in_bounds = (i.0, fits); value = d.0; text_after = d.1; register_after = d.2 }
