use Rattle.rules.proofs.Transitions.{listed-once, listed-leads, leads-listed}
use Rattle.rules.proofs.events_lead_as_listed.Goals as goal

pub returns : goal.returns
returns c = record {
  once = listed-once;
  listed = listed-leads;
  led = leads-listed;
}
