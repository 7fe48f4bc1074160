-- The facts of specs/Facts.antt. They assume nothing.
use Rattle.call_theorems.specs.Facts.{RefusedChangesNothing, QuietLeavesMessage, SentReads, GivenUpAfterL}
use Rattle.call_theorems.proofs.Calls.{call-told}
use Rattle.call_theorems.proofs.Giving.{given_up}

pub refused_changes_nothing : RefusedChangesNothing
refused_changes_nothing e s lent n h = (call-told e s lent).when_refused n h

pub quiet-leaves-message : QuietLeavesMessage
quiet-leaves-message e s lent h = (call-told e s lent).when_quiet h

pub sent-reads : SentReads
sent-reads e s lent k x y h = (call-told e s lent).when_sent (x, y) k h

pub given_up-after_l : GivenUpAfterL
given_up-after_l = given_up
