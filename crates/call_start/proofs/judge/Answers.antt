-- `call_start::judge` meets its contract: the rules in five parts, one after another.
use mathlib.Core.Path.{refl, sym}
use Rattle.journal.specs.Journal.{entries_of}
use Rattle.state.specs.Calls.{lend}
use Rattle.rules.specs.Rules.{rules12}
use Rattle.rules.proofs.InOrder.{fit}
use Rattle.rules.proofs.Judged.{numbered_not_0, leaves_by, stops}
use Rattle.call_definitions.proofs.Refusals.{stops-chip, stops-rest, stops_desk, asks-journal}
use Rattle.call_start.proofs.judge.Goals as goal

pub returns-in_err-judge : goal.returns-in_err-judge
returns-in_err-judge c = stops (rules12 _ _) _ _ _ c.from_residual.ensures.1 c.in_err-judge.ensures

pub returns-in_err-judge_chip : goal.returns-in_err-judge_chip
returns-in_err-judge_chip c =
    leaves_by _ _ _ c.from_residual-in_err-judge_chip.ensures.1
    (stops-chip c.args.d c.args.chip.now c.args.s (entries_of c.args.s.entries c.args.journal.now) c.args.place c.args.e
    (lend c.args.journal.now c.args.message.now)
    0 _ c.in_ok-judge.ensures refl c.in_err-judge_chip.ensures (numbered_not_0 _))

pub returns-in_err-judge_rest : goal.returns-in_err-judge_rest
returns-in_err-judge_rest c =
    leaves_by _ _ _ c.from_residual-in_err-judge_rest.ensures.1
    (stops-rest c.args.d c.args.chip.now c.args.s (entries_of c.args.s.entries c.args.journal.now) c.args.place c.args.e
    (lend c.args.journal.now c.args.message.now)
    0 0 _ c.in_ok-judge.ensures refl c.in_ok-judge_chip.ensures refl c.in_err-judge_rest.ensures (numbered_not_0 _))

pub returns-in_err-judge_desk : goal.returns-in_err-judge_desk
returns-in_err-judge_desk c =
    leaves_by _ _ _ c.from_residual-in_err-judge_desk.ensures.1
    (stops_desk c.args.d c.args.chip.now c.args.s (entries_of c.args.s.entries c.args.journal.now) c.args.place c.args.e
    (lend c.args.journal.now c.args.message.now)
    0 0 0 _ c.in_ok-judge.ensures refl c.in_ok-judge_chip.ensures refl c.in_ok-judge_rest.ensures refl c.in_err-judge_desk.ensures (numbered_not_0 _))

pub returns : goal.returns
returns c =
    let held = fit c.args.s (lend c.args.journal.now c.args.message.now) (sym c.in_ok-judge.ensures) in
    asks-journal c.args.d c.args.chip.now c.args.s (entries_of c.args.s.entries c.args.journal.now) c.args.place c.args.e
    (lend c.args.journal.now c.args.message.now)
    0 0 0 0 _ _ held.order.state.totals c.requires c.in_ok-judge.ensures refl c.in_ok-judge_chip.ensures refl c.in_ok-judge_rest.ensures refl
    c.in_ok-judge_desk.ensures refl c.judge_journal.ensures
