-- `lines::asks::changed` meets its contract.
use Rattle.std.proofs.Common.{refl}
use Rattle.lines.proofs.Laws.{stays, changes, changes_nothing}
use Rattle.lines.proofs.asks.changed.Goals as goal

pub returns-then-error-ne0 : goal.returns-then-error-ne0
returns-then-error-ne0 c = stays _ _ _ _ c.if-error-ne0.true

pub returns-in-Terminal : goal.returns-in-Terminal
returns-in-Terminal c = changes _ _ _ _ c.if-error-ne0.false c.in-Terminal.is c.begun.ensures

pub returns-in-Date : goal.returns-in-Date
returns-in-Date c = changes _ _ _ _ c.if-error-ne0.false c.in-Date.is c.dated.ensures

pub returns-in-CentreBatch : goal.returns-in-CentreBatch
returns-in-CentreBatch c = changes _ _ _ _ c.if-error-ne0.false c.in-CentreBatch.is c.numbered.ensures

pub returns-in-Echo : goal.returns-in-Echo
returns-in-Echo c = changes _ _ _ _ c.if-error-ne0.false c.in-Echo.is c.echoing.ensures

pub returns-in_default : goal.returns-in_default
returns-in_default c =
    changes _ _ _ _ c.if-error-ne0.false refl
    (changes_nothing _ _ _ c.in_default.not-Terminal c.in_default.not-Date c.in_default.not-CentreBatch c.in_default.not-Echo)
