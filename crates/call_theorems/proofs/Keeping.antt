-- Each call keeps rules 1 and 2.
use Rattle.state.specs.declared.State.{State}
use Rattle.state.specs.Calls.{Lent, Result}
use Rattle.call_definitions.specs.SignOn.{sign_on}
use Rattle.call_definitions.specs.Start.{start}
use Rattle.call_definitions.specs.SendReversal.{send_reversal}
use Rattle.call_definitions.specs.Settle.{settle}
use Rattle.call_definitions.specs.SendNextUpload.{send_next_upload}
use Rattle.call_definitions.specs.Answer.{answer, no_answer, power_returned, card_agrees, card_declines}
use Rattle.call_definitions.specs.Events.{sign_on_event, starts, answers, no_answer_event, power_returned_event, card_agrees_event, card_declines_event, send_reversal_event, settles, send_next_upload_event}
use Rattle.call_theorems.specs.Ready.{Ready, StaysReady, Keeping}
use Rattle.rules.proofs.InOrder.{Fit}
use Rattle.call_theorems.proofs.Back.{ready-fits, fit_ready}
use Rattle.call_theorems.proofs.Refusing.{Fits}
use Rattle.call_theorems.proofs.Signing.{sign_on-fits, send_reversal-fits}
use Rattle.call_theorems.proofs.Starting.{start_fits}
use Rattle.call_theorems.proofs.Events.{answer-fits, no_answer-fits, power_returned-fits, card_agrees-fits, card_declines-fits}
use Rattle.call_theorems.proofs.Settling.{settle-fits}
use Rattle.call_theorems.proofs.Uploading.{upload-fits}

-- a call that fits leaves the terminal ready
stays : (s : State) (lent : Lent) (r : Result) → Ready s lent → (Fit s lent → Fits r) → StaysReady r
stays s lent r h f = fit_ready r.state r.lent (f (ready-fits s lent h))

pub keeping : Keeping
keeping sign_on_event s lent h = stays s lent (sign_on s lent) h (sign_on-fits s lent)
keeping (starts d b) s lent h = stays s lent (start d b s lent) h (start_fits d b s lent)
keeping (answers b good) s lent h = stays s lent (answer b good s lent) h (answer-fits b good s lent)
keeping no_answer_event s lent h = stays s lent (no_answer s lent) h (no_answer-fits s lent)
keeping power_returned_event s lent h = stays s lent (power_returned s lent) h (power_returned-fits s lent)
keeping card_agrees_event s lent h = stays s lent (card_agrees s lent) h (card_agrees-fits s lent)
keeping card_declines_event s lent h = stays s lent (card_declines s lent) h (card_declines-fits s lent)
keeping send_reversal_event s lent h = stays s lent (send_reversal s lent) h (send_reversal-fits s lent)
keeping settles s lent h = stays s lent (settle s lent) h (settle-fits s lent)
keeping send_next_upload_event s lent h = stays s lent (send_next_upload s lent) h (upload-fits s lent)
