-- `rehearse::commands::act` meets its contract.
use Rattle.std.proofs.Common.{◌≡◌, refl, sym, length-take-le, Ok, Some, rules}
use Rattle.rehearse.proofs.Laws.{did, call-done, no_call-done}
use Rattle.state.specs.Calls.{lend}
use Rattle.rehearse.proofs.commands.act.Goals as goal

pub slice_bounds-make-end : goal.slice_bounds-make-end
slice_bounds-make-end c =
    sym (length-take-le _ _ c.bytes_into-n.ensures.0)

pub returns-in-Ok-Some : goal.returns-in-Ok-Some
returns-in-Ok-Some c =
    let q : c.asked_by-asked.result ≡ Ok (Some c.in-Ok-Some.c) = search rules in
    call-done c.args.number c.args.s.now c.args.r (lend c.args.journal.now c.args.message.now) _ c.parse-line.ensures
    c.last_message-sent.ensures c.left_as.ensures c.asked_by-asked.ensures q
    (c.bytes_into-n.ensures.1 refl) (did c.args.r c.make-step.result
    c.make-step.ensures c.told.ensures)

pub returns-in-Ok-None : goal.returns-in-Ok-None
returns-in-Ok-None c =
    no_call-done c.args.number c.args.s.now c.args.r (lend c.args.journal.now c.args.message.now) _
    c.parse-line.ensures c.last_message-sent.ensures c.left_as.ensures c.asked_by-asked.ensures _
    (rw (c.error_of-error.ensures, c.err.ensures.value) (search rules)) c.changed.ensures c.say.ensures
