-- `lines::asks::bytes_into` meets its contract.
use Rattle.lines.proofs.Laws.{hex_fits, hex_bytes, no_bytes, put_fits, put_front}
use native.Mathlib.Omega.{arith}
use Rattle.lines.proofs.asks.bytes_into.Goals as goal

pub returns-in-Call : goal.returns-in-Call
returns-in-Call c =
    rw c.in-Call.is (
      hex_fits c.word.result.now c.args.out.now c.hex_into.ensures.0 c.hex_into.ensures.1 c.unwrap_or.ensures,
      λ room. rw c.word.ensures at
          (hex_bytes c.word.result.now c.args.out.now c.hex_into.ensures.0 c.hex_into.ensures.1
          c.unwrap_or.ensures room),
    )

pub returns-in-Reply : goal.returns-in-Reply
returns-in-Reply c =
    rw c.in-Reply.is (
      put_fits c.reply.result c.args.out.now c.write_outgoing.ensures,
      λ room. rw c.reply.ensures at (put_front c.reply.result c.args.out.now c.write_outgoing.ensures room),
    )

pub returns-in-Reconcile : goal.returns-in-Reconcile
returns-in-Reconcile c =
    rw c.in-Reconcile.is (
      put_fits c.reconciliation.result c.args.out.now c.write_outgoing-in-Reconcile.ensures,
      λ room. rw c.reconciliation.ensures at
          (put_front c.reconciliation.result c.args.out.now
          c.write_outgoing-in-Reconcile.ensures room),
    )

pub returns-in_default : goal.returns-in_default
returns-in_default c =
    (omega arith, λ room. no_bytes _ _ _ _ _ c.in_default.not-Call c.in_default.not-Reply c.in_default.not-Reconcile)
