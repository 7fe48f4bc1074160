-- One name that opens all the calls, for examples that compute.
use Prim.Native.Nat.{ℕ}
use Rattle.numbers.specs.Numbers.{within, following}
use Rattle.digits.specs.Digits.{half, unpack, packed_byte, pack, half_allowed, is_packed, all_digits}
use Rattle.digits.specs.Lists.{same_bytes}
use Rattle.digits.specs.Numbers.{value, number_of}
use Rattle.field.specs.Table.{formats, indicators}
use Rattle.field.specs.Bitmap.{bit, names, listed_at, listed}
use Rattle.field.specs.Contents.{allowed, all_printable}
use Rattle.elements.specs.Elements.{tag_size, length_size, element_size, tags_after, has_tag, elements_after, elements_in_form, chip_in_form}
use Rattle.span.specs.Span.{contents_at, span_at, span, field_bytes}
use Rattle.message.specs.Message.{field_in}
use Rattle.reading.specs.Reading.{read_fields, read_message}
use Rattle.writing.specs.Writing.{named_bytes, fields_bytes, message_bytes}
use Rattle.digits.specs.Packed.{packed_number}
use Rattle.parts.specs.Parts.{matches, copies, number_in}
use Rattle.kinds.specs.Kinds.{is_kind, indicator_of, processing_of, condition_of, is_debit, is_credit, side_of, is_due, takes_original, original_kind, is_voidable}
use Rattle.kinds.specs.Totals.{booked}
use Rattle.kinds.specs.Sums.{together}
use Rattle.entry.specs.Entry.{decode, encode, all_zero}
use Rattle.entry.specs.Form.{card_in_form, in_form, keeps_voided, keeps_unmarked, keeps_resends, keeps_silent}
use Rattle.journal.specs.Journal.{sums_of, has_trace, is_original, due_with, next_due, absent, taken, put_entry, set_byte}
use Rattle.checks.specs.Checks.{first_broken}
use Rattle.state.specs.Calls.{judged}
use Rattle.rules.specs.Rules.{too_short, original_unvoided, request_kept, journal_kept, keeps_rule2}
use Rattle.state_rules.specs.StateRules.{settings_in_form, is_card, request_in_form, reversal_in_form, approval_in_form, answered_kept, consent_kept, chip_kept, sign_on_kept, state_in_form, past, sums_kept, balanced, totals_true, state_kept}
use Rattle.outgoing.specs.Outgoing.{request_message, reversal_message}
use Rattle.call_definitions.specs.Start.{original_of, start}
use Rattle.desk.specs.DeskRules.{desk_in_form}
use Rattle.call_definitions.specs.SignOn.{sign_on}
use Rattle.effect_definitions.specs.StateEffects.{adopts, on_sign_on, pending_or_unanswered, failed, on_reversal, on_settlement, on_end}
use Rattle.call_definitions.specs.SendReversal.{send_reversal}
use Rattle.answer_match.specs.Match.{repeats, matches_sent, approves_request, amount_holds, approval_holds, is_answer, batch_in, sign_on_holds, is_sign_on_answer, good_mac, ends_reversal, closes_batch}
use Rattle.approval.specs.Approval.{field_or, zero_filled, approval_of, approved_entry}
use Rattle.call_definitions.specs.Answer.{no_answer, card_agrees, card_declines, answer}
use Rattle.effect_definitions.specs.JournalEffects.{silent_mark, silent, unanswered, original_voided, approved, granted, on_request, agreed, on_item, answered, heard, resent}
use Rattle.call_definitions.specs.Settle.{settle}
use Rattle.batch_messages.specs.BatchMessages.{settlement_message, item_message, end_message, sign_on_message}
use Rattle.call_definitions.specs.SendNextUpload.{send_next_upload}

unfoldable pub machine : ℕ
unfolding half unpack packed_byte pack half_allowed is_packed all_digits value number_of formats indicators bit names listed_at listed allowed
    all_printable tag_size length_size element_size tags_after has_tag elements_after elements_in_form chip_in_form contents_at span_at span field_bytes
    field_in read_fields read_message named_bytes fields_bytes message_bytes packed_number same_bytes matches copies number_in is_kind indicator_of
    processing_of condition_of is_debit is_credit side_of is_due takes_original original_kind is_voidable booked decode encode all_zero within
    card_in_form in_form keeps_voided keeps_unmarked keeps_resends keeps_silent sums_of together has_trace is_original due_with next_due
    absent following taken put_entry set_byte first_broken judged too_short settings_in_form is_card request_in_form reversal_in_form approval_in_form
    answered_kept consent_kept chip_kept sign_on_kept state_in_form past sums_kept balanced totals_true original_unvoided request_kept state_kept
    journal_kept keeps_rule2 request_message reversal_message desk_in_form original_of start adopts sign_on on_sign_on send_reversal repeats
    matches_sent approves_request amount_holds approval_holds is_answer batch_in sign_on_holds is_sign_on_answer good_mac ends_reversal closes_batch
    field_or zero_filled approval_of approved_entry pending_or_unanswered failed silent_mark silent unanswered no_answer card_agrees card_declines
    original_voided approved granted on_request agreed on_reversal on_settlement on_item on_end answered heard answer settlement_message settle
    item_message end_message sign_on_message resent send_next_upload
machine = 0
