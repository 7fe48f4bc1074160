-- `lines::asks::asked_by` meets its contract.
use Rattle.std.proofs.Common.{◌≡◌, Err, rules}
use Rattle.lines.proofs.Laws.{asks_error, asks_call, away, there}
use Rattle.lines.proofs.asks.asked_by.Goals as goal

pub returns-in_err-needs_terminal-in-Call : goal.returns-in_err-needs_terminal-in-Call
returns-in_err-needs_terminal-in-Call c =
    let q : c.from_residual-in_err-needs_terminal-in-Call.result ≡ Err c.in_err-needs_terminal-in-Call.field-0.0 = search rules in
    rw (q, c.in-Call.is) (asks_error _ _ c.in_err-needs_terminal-in-Call.ensures)

pub returns-in_err-needs_terminal-in-Reply : goal.returns-in_err-needs_terminal-in-Reply
returns-in_err-needs_terminal-in-Reply c =
    let q : c.from_residual-in_err-needs_terminal-in-Reply.result ≡ Err c.in_err-needs_terminal-in-Reply.field-0.0 = search rules in
    rw (q, c.in-Reply.is) (asks_error _ _ (away _ _ _ c.in_err-needs_terminal-in-Reply.ensures))

pub returns-in_err-reply_error-in-Reply : goal.returns-in_err-reply_error-in-Reply
returns-in_err-reply_error-in-Reply c =
    let q : c.from_residual-in_err-reply_error-in-Reply.result ≡ Err c.in_err-reply_error-in-Reply.field-0.0 = search rules in
    rw (q, c.in-Reply.is) (asks_error _ _ (there _ _ c.in_ok-needs_terminal-in-Reply.ensures c.in_err-reply_error-in-Reply.ensures))

pub returns-in_err-needs_terminal-in-Reconcile : goal.returns-in_err-needs_terminal-in-Reconcile
returns-in_err-needs_terminal-in-Reconcile c =
    let q : c.from_residual-in_err-needs_terminal-in-Reconcile.result ≡ Err c.in_err-needs_terminal-in-Reconcile.field-0.0 = search rules in
    rw (q, c.in-Reconcile.is) (asks_error _ _ (away _ _ _ c.in_err-needs_terminal-in-Reconcile.ensures))

pub returns-in_err-reconcile_error-in-Reconcile : goal.returns-in_err-reconcile_error-in-Reconcile
returns-in_err-reconcile_error-in-Reconcile c =
    let q : c.from_residual-in_err-reconcile_error-in-Reconcile.result ≡ Err c.in_err-reconcile_error-in-Reconcile.field-0.0 = search rules in
    rw (q, c.in-Reconcile.is) (asks_error _ _ (there _ _ c.in_ok-needs_terminal-in-Reconcile.ensures c.in_err-reconcile_error-in-Reconcile.ensures))

pub returns-in_ok-needs_terminal-in-Call : goal.returns-in_ok-needs_terminal-in-Call
returns-in_ok-needs_terminal-in-Call c = rw c.in-Call.is (asks_call _ c.in_ok-needs_terminal-in-Call.ensures)

pub returns-in_ok-reply_error-in-Reply : goal.returns-in_ok-reply_error-in-Reply
returns-in_ok-reply_error-in-Reply c =
    rw c.in-Reply.is (asks_call _ (there _ _ c.in_ok-needs_terminal-in-Reply.ensures c.in_ok-reply_error-in-Reply.ensures))

pub returns-in_ok-reconcile_error-in-Reconcile : goal.returns-in_ok-reconcile_error-in-Reconcile
returns-in_ok-reconcile_error-in-Reconcile c =
    rw c.in-Reconcile.is (asks_call _ (there _ _ c.in_ok-needs_terminal-in-Reconcile.ensures c.in_ok-reconcile_error-in-Reconcile.ensures))
