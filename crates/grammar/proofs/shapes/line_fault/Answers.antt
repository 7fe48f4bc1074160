-- `grammar::shapes::line_fault` meets its contract.
use Rattle.std.proofs.Common.{rules, ◌≡◌, Err}
use Rattle.grammar.proofs.Faults.{fine_one, wrong_one, none_left}
use Rattle.grammar.proofs.shapes.line_fault.Goals as goal

pub returns-in_err-judged : goal.returns-in_err-judged
returns-in_err-judged c =
    let q : c.from_residual.result ≡ Err c.in_err-judged.field-0.0 = search rules in
    rw q (wrong_one c.loop-i.invariant c.loop-i-test.true c.judged.ensures c.shape_at.ensures c.word.ensures c.word-in-loop-i.ensures
    c.in_err-judged.was)

pub loop-i-preserved : goal.loop-i-preserved
loop-i-preserved c =
    fine_one c.loop-i.invariant c.loop-i-test.true c.judged.ensures c.shape_at.ensures c.word.ensures c.word-in-loop-i.ensures c.in_ok-judged.was

pub returns : goal.returns
returns c = none_left c.loop-i.invariant c.loop-i-test.false
