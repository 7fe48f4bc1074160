-- `call_start::start` meets its contract: a refusal, or a request that no rule refuses and that leaves.
use mathlib.Core.Path.{◌≡◌, refl}
use borrow.Author.Rules.{rules}
use lib.ListN.{length}
use Rattle.state.specs.Calls.{lend}
use Rattle.rules.proofs.Judged.{numbered_not_0}
use Rattle.call_start.proofs.Results.{is-refused, left-may, is-left}
use Rattle.call_start.proofs.start.Goals as goal

pub returns-in-Err : goal.returns-in-Err
returns-in-Err c =
    rw (c.refused.ensures, c.into.ensures)
    (is-refused c.args.d c.args.chip.now c.args.s (lend c.args.journal.now c.args.message.now)
    c.original_of-place.result c.entry_of-e.result _ c.original_of-place.ensures
    c.entry_of-e.ensures c.in-Err.ensures (numbered_not_0 _))

pub send-requires : goal.send-requires
send-requires c =
    let terminal : length c.args.s.settings.terminal ≡ 8 = search rules in
    let merchant : length c.args.s.settings.merchant ≡ 15 = search rules in
    let reference : length c.args.d.reference ≡ 12 = search rules in
    let authorisation : length c.args.d.authorisation ≡ 6 = search rules in
    left-may c.args.d c.args.chip.now c.args.s (lend c.args.journal.now c.args.message.now) c.original_of-place.result
    c.entry_of-e.result 0 c.original_of-place.ensures c.entry_of-e.ensures c.in_default.ensures
    terminal merchant reference authorisation refl c.take-trace.result _ _ _ c.chip_from.ensures
    c.request_of.ensures c.named_by.ensures

pub returns : goal.returns
returns c =
    is-left c.args.d c.args.chip.now c.args.s (lend c.args.journal.now c.args.message.now)
    c.original_of-place.result c.entry_of-e.result 0 c.original_of-place.ensures c.entry_of-e.ensures c.in_default.ensures
    refl c.take-trace.result _ _ _ _ _ c.take-trace.ensures c.chip_from.ensures
    c.request_of.ensures c.named_by.ensures c.send.ensures
