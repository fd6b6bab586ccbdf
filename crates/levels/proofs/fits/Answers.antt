use mathlib.Core.Path.{sym}
use Rattle.levels.proofs.Unforced.{fits-apart}
use Rattle.levels.proofs.Bounds.{fits-unforced, fits-extremes}
use Rattle.levels.proofs.Asked.{asked-enough}
use Rattle.levels.proofs.fits.Goals as goal

pub returns-then-not-meet : goal.returns-then-not-meet
returns-then-not-meet c = fits-apart _ _ _ _ _ _ _ _ c.swept_types.ensures c.meet.ensures c.if-not-meet.true

pub returns-in_default : goal.returns-in_default
returns-in_default c =
    fits-unforced _ _ _ _ c.args.limits c.lanes_of-lanes.ensures c.in_default.ensures

pub returns-then-extremes_fit : goal.returns-then-extremes_fit
returns-then-extremes_fit c =
    fits-extremes _ _ _ _ c.args.limits c.lanes_of-lanes.ensures c.in-Some.ensures
    c.extremes_of-2.ensures c.extremes_of-3.ensures
    (rw (c.highest_of-positive.ensures, c.highest_of-negative.ensures) at c.extremes_fit.ensures) c.if-extremes_fit.true

pub returns : goal.returns
returns c =
    asked-enough _ _ _ _ c.args.limits c.lanes_of-lanes.ensures c.extremes_of-2.ensures c.extremes_of-3.ensures
    (λ k e. sym (rw (c.highest_of-positive.ensures, c.highest_of-negative.ensures) at e.1)) c.asked_of-asked.ensures (rw c.common.ensures at c.sweep_lanes.ensures)
