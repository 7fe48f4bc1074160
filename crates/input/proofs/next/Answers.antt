-- `input::next` meets its contract.
use Rattle.std.proofs.Common.{refl, ◌∙◌, arith, rules}
use Rattle.input.proofs.Feeds.{takes_none, takes_all, takes-again, when_whole, when_ended}
use Rattle.input.proofs.next.Goals as goal
use Rattle.input.proofs.next.Goals.{then-at-via-then-at, then-at-via-else-at+then-at-2}

pub loop-init : goal.loop-init
loop-init c = record { file_is = refl; number_is = refl; nothing_left = λ h. absurd (omega (arith, h)); takes_more = λ r c l t. t }

pub returns-then-at : goal.returns-then-at
returns-then-at c =
    record {
      number_is = c.more-at.ensures.1 ∙ c.loop.invariant.number_is;
      file_is = c.more-at.ensures.0 ∙ c.loop.invariant.file_is ∙ search rules;
      ended_is =
          elim c.then-at.branch [
            | then-at-via-then-at w ↦ when_whole c.more-at.result.whole c.more-at.result.ended w.if-at.true c.more-at.ensures.2
            | then-at-via-else-at+then-at-2 w ↦ when_ended c.more-at.result.whole c.more-at.result.ended w.if-at-2.true c.more-at.ensures.2
          ];
      takes = c.loop.invariant.takes_more _ _ _ c.more-at.ensures.3;
    }

pub loop-preserved : goal.loop-preserved
loop-preserved c = record {
  file_is = c.more-at.ensures.0 ∙ c.loop.invariant.file_is;
  number_is = c.more-at.ensures.1 ∙ c.loop.invariant.number_is;
  nothing_left = λ h. takes_all c.more-at.ensures.3 c.if-at.false;
  takes_more = λ r k l t. c.loop.invariant.takes_more r k l (takes-again c.more-at.ensures.3 c.if-at.false t);
}

pub returns : goal.returns
returns c =
    record {
      number_is = c.at_end.ensures.1 ∙ c.loop.invariant.number_is;
      file_is = c.at_end.ensures.0 ∙ c.loop.invariant.file_is ∙ search rules;
      ended_is = rw (c.at_end.ensures.4, c.at_end.ensures.3);
      takes =
          c.loop.invariant.takes_more _ _ _ (takes_none c.at_end.result _ (c.loop.invariant.nothing_left (omega arith)) c.at_end.ensures.2 c.at_end.ensures.3 c.at_end.ensures.5 c.at_end.ensures.6);
    }
