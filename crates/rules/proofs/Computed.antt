-- Opens every definition that a worked case computes with. Assumes nothing.
use Rattle.fields.specs.Lists.{pick, and_each, every, all, series, seek, joined, part, put}
use Rattle.fields.specs.Fields.{uint_at, bytes_of}
use Rattle.report.specs.Report.{sized, marked, whole}
use Rattle.report.specs.Cover.{cover_after, cover_of}
use Rattle.report.specs.Encoded.{encode_head, encode_parts, encode_report}
use Rattle.rules.specs.Records.{qualification_in_range, fields_in_range, kind_allows, cover_by, powers_in_range, same_identifier, clashes, closes}
use Rattle.rules.specs.Roster.{row_in_range, powers_in_order, entry_good, pieces_pass}
use Rattle.rules.specs.Block.{zeros, zeros_at, head_bytes, fresh_block, slot_at, pairs_from}
use Rattle.rules.specs.Whole.{head_in_range, record_holds, slot_whole, records_apart, slots_apart, block_whole}
use Rattle.rules.specs.Transitions.{look_up, event_leads_to}
use Rattle.rules.specs.Questions.{identifier_zero, question4, question6, question7, question8, live, holder, other, question15, derating_fits, question16, changes_state, leads_to, qualification_after, leaves, stays, free_slot}
use Rattle.rules.specs.Minutes.{level_in, level_of, level_among, records_among, reported_records, block_records, levels_at, levels_fit, above_max, below_min, levels_every, levels_some, question17}
use Rattle.rules.specs.After.{put_row, head_after, pair_bytes, slot_bytes, slot_written, slot_after, block_after, some_slot, warns_overlap, warns_minute, warns_left, warnings}
use Rattle.rules.specs.Judge.{validation_number, held_number, limit_number, refusal_number, judge}
use Rattle.rules.specs.Desk.{new_register, set_up, question3, answer_to, answers, register_after}
use Rattle.rules.specs.Alone.{is_own, page_step, page_from, is_someones, answer_alone, answers_alone}
use Rattle.rules.specs.Samples.{entry_bytes}

unfoldable pub computed : Unit {0}
unfolding pick and_each every all series seek joined part put uint_at bytes_of sized marked whole cover_after cover_of encode_head encode_parts encode_report qualification_in_range fields_in_range kind_allows cover_by powers_in_range same_identifier clashes closes row_in_range powers_in_order entry_good pieces_pass zeros zeros_at head_bytes fresh_block slot_at pairs_from head_in_range record_holds slot_whole records_apart slots_apart block_whole identifier_zero question4 question6 question7 question8 live holder other question15 derating_fits question16 changes_state look_up event_leads_to leads_to qualification_after leaves stays free_slot level_in level_of level_among records_among reported_records block_records levels_at levels_fit above_max below_min levels_every levels_some question17 put_row head_after pair_bytes slot_bytes slot_written slot_after block_after some_slot warns_overlap warns_minute warns_left warnings validation_number held_number limit_number refusal_number judge new_register set_up question3 answer_to answers register_after is_own page_step page_from is_someones answer_alone answers_alone entry_bytes
computed = tt
