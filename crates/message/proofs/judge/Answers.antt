-- `message::judge` meets its contract.
use mathlib.Core.Path.{sym, ◌∙◌}
use Rattle.message.proofs.Late.{late_is}
use Rattle.message.proofs.judge.Goals as goal

pub returns-then-not-chip_kept : goal.returns-then-not-chip_kept
returns-then-not-chip_kept c = sym (late_is c.args.m.now ∙ rw (sym c.chip_kept.ensures ∙ c.if-not-chip_kept.true))

pub returns-then-not-keys_kept : goal.returns-then-not-keys_kept
returns-then-not-keys_kept c =
    sym (late_is c.args.m.now
    ∙ rw (
      sym c.chip_kept.ensures ∙ c.if-not-chip_kept.false,
      sym c.keys_kept.ensures ∙ c.if-not-keys_kept.true,
    ))

pub returns : goal.returns
returns c =
    sym (late_is c.args.m.now
    ∙ rw (
      sym c.chip_kept.ensures ∙ c.if-not-chip_kept.false,
      sym c.keys_kept.ensures ∙ c.if-not-keys_kept.false,
    ))
