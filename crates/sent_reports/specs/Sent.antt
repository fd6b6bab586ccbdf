-- Paper 01, "Reports on fresh roster A": what the programs send.
use Rattle.std.specs.Prelude.{ℕ, ◌+◌, List, [], ◌∷◌, Option, Some, None, replicate}
use Rattle.std.specs.Int.{w32}
use Rattle.std.proofs.Common.{to_z}
use Rattle.fields.specs.Lists.{pick}
use Rattle.rules.specs.Samples.{D}
use Rattle.rules.specs.Codes.{stop, positive_derating, forced_work, event, is_levelled, planned, executed, create, generation}
use Rattle.report.specs.declared.Head.{Head}
use Rattle.report.specs.declared.Part.{Part}
use Rattle.report.specs.Report.{text_after}
use Rattle.report.specs.Encoded.{encode_report}
use Rattle.sent_reports.specs.declared.Sent.{Sent}
use Rattle.sent_reports.specs.declared.Step.{Step}

-- on unit 1, by owner 7, without a step
abbrev pub sent_as : ℕ → ℕ → ℕ → ℕ → ℕ → ℕ → ℕ → ℕ → Sent
sent_as type mark qualification place stamp start end power = record {
  unit = 1;
  owner = 7;
  record_type = record { 0 = type };
  start_mark = record { 0 = mark };
  qualification = qualification;
  place = place;
  stamp = stamp;
  start = start;
  end = end;
  power = power;
  step = None;
}

-- "20,000 in one part D+60 to D+120", stamp D+10
abbrev pub derating_over : ℕ → ℕ → ℕ → ℕ → Sent
derating_over place stamp start end = sent_as positive_derating planned 0 place stamp start end 20000

abbrev pub derating_sent : ℕ → Sent
derating_sent place = derating_over place (D + 10) (D + 60) (D + 120)

abbrev pub forced_sent : ℕ → ℕ → Sent
forced_sent place power = sent_as forced_work planned 0 place (D + 10) (D + 60) (D + 120) power

abbrev pub stop_sent : ℕ → ℕ → ℕ → Sent
stop_sent place qualification start = sent_as stop executed qualification place (D + 10) start (D + 180) 20000

abbrev pub event_sent : ℕ → Sent
event_sent code = sent_as event executed code 0 (D + 10) (D + 10) (D + 10) 20000

-- a levelled report has one part, or two where the power changes at a step
abbrev pub step_parts : Option Step → ℕ
step_parts None = 1
step_parts (Some step) = 2

abbrev pub parts_sent : Sent → ℕ
parts_sent s = pick (is_levelled s.record_type.0) (step_parts s.step) 0

abbrev pub length_sent : Sent → ℕ
length_sent s = text_after (parts_sent s)

abbrev pub part_sent : ℕ → ℕ → ℕ → Part
part_sent start end power = record {
  period = record { start = record { 0 = start }; end = record { 0 = end } };
  power = record { 0 = to_z w32 power };
}

-- its parts, if it is levelled
abbrev pub levels_sent : Sent → Option Step → List Part
levels_sent s None = part_sent s.start s.end s.power ∷ []
levels_sent s (Some step) = part_sent s.start step.at s.power ∷ part_sent step.at s.end step.power ∷ []

-- a creation, direction 1, planned end, ordinal 1, the identifier's bytes all the place, without text
abbrev pub head_sent : Sent → Head
head_sent s = record {
  unit = s.unit;
  owner = s.owner;
  record_type = s.record_type;
  operation = record { 0 = create };
  direction = record { 0 = generation };
  start_mark = s.start_mark;
  end_mark = record { 0 = planned };
  qualification = s.qualification;
  ordinal = 1;
  part_count = parts_sent s;
  identifier = replicate 16 s.place;
  stamp = record { 0 = s.stamp };
  period = record { start = record { 0 = s.start }; end = record { 0 = s.end } };
  text_length = 0;
}

unfoldable pub report_sent : Sent → List ℕ
report_sent s = encode_report (head_sent s) (pick (is_levelled s.record_type.0) (levels_sent s s.step) []) []
