-- `rehearse::rehearse_lines` meets its contract.
use Rattle.std.proofs.Common.{◌≡◌, refl, sym, length, length-take-le, rules, arith}
use Rattle.texts.proofs.Texts.{within}
use Rattle.rehearse.proofs.Scripts.{going, goes_on, ends, turned}
use Rattle.rehearse.proofs.rehearse_lines.Goals as goal

pub loop-init : goal.loop-init
loop-init c = (going _ _ _, λ h. absurd (omega (arith, h)), search rules, refl, refl, refl, refl)

pub slice_bounds-text-end : goal.slice_bounds-text-end
slice_bounds-text-end c = within c.answer-acted.ensures.text_is

pub slice_bounds-write_all-end : goal.slice_bounds-write_all-end
slice_bounds-write_all-end c = sym (length-take-le _ _ (within c.answer-acted.ensures.text_is))

pub loop-preserved : goal.loop-preserved
loop-preserved c =
    let k : length c.next-at.new.line ≡ 4098 = search rules in (
      goes_on c.loop.invariant.0 c.next-at.ensures k c.answer-acted.ensures c.if-at.false,
      λ h. c.if-at.false,
      k,
      search rules,
      search rules,
      search rules,
      search rules,
    )

pub returns-after-loop : goal.returns-after-loop
returns-after-loop c =
    turned c.loop.invariant.0 (omega (arith, c.loop-test.false, c.loop.auto.counter-end)) (c.loop.invariant.1 (omega (arith, c.loop-test.false)))

pub returns-then-at : goal.returns-then-at
returns-then-at c =
    let k : length c.next-at.new.line ≡ 4098 = search rules in
    ends c.loop.invariant.0 c.next-at.ensures k c.answer-acted.ensures c.if-at.true
