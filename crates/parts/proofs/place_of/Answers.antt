-- `parts::place_of` meets its contract.
use Rattle.parts.proofs.place_of.Goals as goal

pub returns-in-Amount : goal.returns-in-Amount
returns-in-Amount c = rw c.in-Amount.is c.at.ensures

pub returns-in-Trace : goal.returns-in-Trace
returns-in-Trace c = rw c.in-Trace.is c.at-in-Trace.ensures

pub returns-in-DebitAmount : goal.returns-in-DebitAmount
returns-in-DebitAmount c = rw c.in-DebitAmount.is c.at-in-DebitAmount.ensures

pub returns-in-DebitCount : goal.returns-in-DebitCount
returns-in-DebitCount c = rw c.in-DebitCount.is c.at-in-DebitCount.ensures

pub returns-in-CreditAmount : goal.returns-in-CreditAmount
returns-in-CreditAmount c = rw c.in-CreditAmount.is c.at-in-CreditAmount.ensures

pub returns-in-CreditCount : goal.returns-in-CreditCount
returns-in-CreditCount c = rw c.in-CreditCount.is c.at-in-CreditCount.ensures

pub returns-in-Reconciliation : goal.returns-in-Reconciliation
returns-in-Reconciliation c = rw c.in-Reconciliation.is c.at-in-Reconciliation.ensures

pub returns-in-Kind : goal.returns-in-Kind
returns-in-Kind c = rw c.in-Kind.is c.at-in-Kind.ensures

pub returns-in-Batch : goal.returns-in-Batch
returns-in-Batch c = rw c.in-Batch.is c.at-in-Batch.ensures

pub returns-in-Management : goal.returns-in-Management
returns-in-Management c = rw c.in-Management.is c.at-in-Management.ensures

pub returns-in-OriginalBatch : goal.returns-in-OriginalBatch
returns-in-OriginalBatch c = rw c.in-OriginalBatch.is c.at-in-OriginalBatch.ensures

pub returns-in-OriginalTrace : goal.returns-in-OriginalTrace
returns-in-OriginalTrace c = rw c.in-OriginalTrace.is c.at-in-OriginalTrace.ensures

pub returns-in-OriginalDate : goal.returns-in-OriginalDate
returns-in-OriginalDate c = rw c.in-OriginalDate.is c.at-in-OriginalDate.ensures
