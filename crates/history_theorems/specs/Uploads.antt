-- The upload, from the history: for each approved debit or credit request of the batch, in order, its item leaves; after that pass each
-- silent one, in the same order, up to L times again; then the end.
use Rattle.std.specs.Prelude.{◌≡◌, List, [], ◌∷◌, ◌++◌, Bool, true, false, cond, not, ◌&&◌, ◌||◌, ℕ, zero, suc, ◌+◌, ◌≤◌, leb}
use Rattle.message.specs.declared.Message.{Message}
use Rattle.reading.specs.Reading.{read_message}
use Rattle.outgoing_theorems.specs.Theorems.{Reads}
use Rattle.state.specs.declared.Settings.{Settings}
use Rattle.call_definitions.specs.Events.{Event, sign_on_event, starts, answers, no_answer_event, power_returned_event, card_agrees_event, card_declines_event, send_reversal_event, settles, send_next_upload_event}
use Rattle.call_definitions.specs.Shapes.{SettingsShaped}
use Rattle.history.specs.Words.{message_in, carries_chip, is_request, approves_request, mac_good, is_end, closes_batch, is_debit, is_credit}
use Rattle.history.specs.History.{Given, sent, quiet, refused, History}
use Rattle.history.specs.Demand.{Invocation, runs, begun, InvocationsShaped, Each}
use Rattle.history_theorems.specs.Standing.{Standing, trace_in, standing}
use Rattle.history_theorems.specs.Judged.{is_upload}
use Rattle.history_theorems.specs.Approvals.{Approval, approvals, AtPlace}
use Rattle.history_theorems.specs.Fields.{upload_items, end_items}

-- what the upload has made of an approved request: not sent; silent, after so many resends; accepted, rejected or given up
pub data Progress : Type 0 where
  unsent : Progress
  silent : ℕ → Progress
  ended : Progress

abbrev pub is_unsent : Progress → Bool
is_unsent unsent = true
is_unsent (silent n) = false
is_unsent ended = false

abbrev pub is_silent : Progress → Bool
is_silent unsent = false
is_silent (silent n) = true
is_silent ended = false

-- a debit or credit request
unfoldable pub is_due : Message → Bool
is_due m = is_debit m || is_credit m

-- the place of the first approval that passes a test
pub data Place : Type 0 where
  none : Place
  at : ℕ → Place

abbrev pub first_at : (Approval → Progress → Bool) → ℕ → List Approval → List Progress → Place
first_at q i [] ps = none
first_at q i (x ∷ xs) [] = none
first_at q i (x ∷ xs) (p ∷ ps) = cond (q x p) (at i) (first_at q (suc i) xs ps)

abbrev pub or_else : Place → Place → Place
or_else none q = q
or_else (at i) q = at i

-- the item to send next: the first not sent or, where all are, the first silent one
unfoldable pub next_item : List Approval → List Progress → Place
next_item xs ps =
    or_else (first_at (λ x p. is_due x.request && is_unsent p) 0 xs ps) (first_at (λ x p. is_due x.request && is_silent p) 0 xs ps)

-- as an item leaves, as it is silent at L resends, and as it is answered
abbrev pub leaves : Progress → Progress
leaves unsent = unsent
leaves (silent n) = silent (n + 1)
leaves ended = ended

abbrev pub falls_silent : ℕ → Progress → Progress
falls_silent l unsent = silent 0
falls_silent l (silent n) = cond (leb l n) ended (silent n)
falls_silent l ended = ended

abbrev pub is_answered : Progress → Progress
is_answered p = ended

abbrev pub change_at : ℕ → (Progress → Progress) → List Progress → List Progress
change_at i f [] = []
change_at zero f (p ∷ ps) = f p ∷ ps
change_at (suc i) f (p ∷ ps) = p ∷ change_at i f ps

-- the progress of each approval, and the place of the item that left last
pub record Upload : Type 0 where
  pub progress : List Progress
  pub item : ℕ

abbrev pub with_item : Place → Upload → Upload
with_item none u = u
with_item (at i) u = record { progress = change_at i leaves u.progress; item = i }

abbrev pub when_sent : Event → List Approval → Upload → Upload
when_sent sign_on_event xs u = u
when_sent (starts d b) xs u = u
when_sent (answers b good) xs u = u
when_sent no_answer_event xs u = u
when_sent power_returned_event xs u = u
when_sent card_agrees_event xs u = u
when_sent card_declines_event xs u = u
when_sent send_reversal_event xs u = u
when_sent settles xs u = u
when_sent send_next_upload_event xs u = with_item (next_item xs u.progress) u

-- the message sent last is an upload item
unfoldable pub is_item : Message → Bool
is_item m = is_upload m && not (is_end m)

abbrev pub changed : (Progress → Progress) → Upload → Upload
changed f u = record { progress = change_at u.item f u.progress; item = u.item }

unfoldable pub when_silent : ℕ → Standing → Upload → Upload
when_silent l x u = cond (x.awaited && is_item x.message) (changed (falls_silent l) u) u

-- a closing empties the list, an approval adds to it
unfoldable pub when_heard : Bool → Message → Standing → Upload → Upload
when_heard good a x u =
    cond (closes_batch x.message a) (record { progress = []; item = u.item })
    (cond (is_request x.message && (not (carries_chip x.message) && (approves_request x.message a && mac_good good a))) (record { progress = u.progress ++ (unsent ∷ []); item = u.item })
    (cond (is_item x.message) (changed is_answered u) u))

abbrev pub when_quiet : ℕ → Event → Standing → Upload → Upload
when_quiet l sign_on_event x u = u
when_quiet l (starts d b) x u = u
when_quiet l (answers b good) x u = cond x.awaited (when_heard good (message_in b) x u) u
when_quiet l no_answer_event x u = when_silent l x u
when_quiet l power_returned_event x u = when_silent l x u
when_quiet l card_agrees_event x u = record { progress = u.progress ++ (unsent ∷ []); item = u.item }
when_quiet l card_declines_event x u = u
when_quiet l send_reversal_event x u = u
when_quiet l settles x u = u
when_quiet l send_next_upload_event x u = u

abbrev pub when_given : ℕ → Given → Event → Standing → List Approval → Upload → Upload
when_given l (sent b) e x xs u = when_sent e xs u
when_given l quiet e x xs u = when_quiet l e x u
when_given l (refused n) e x xs u = u

-- at L sendings
abbrev pub upload : ℕ → History → Upload
upload l [] = record { progress = []; item = 0 }
upload l (c ∷ h) = when_given l c.given c.event (standing h) (approvals h) (upload l h)

-- the item that is due leaves, field by field, and the end only where none is
abbrev pub SendsNext : Settings → ℕ → Place → List Approval → List ℕ → Type 0
SendsNext x batch none vs b = Reads 0x0320 (end_items x batch (trace_in (message_in b))) (read_message b)
SendsNext x batch (at i) vs b = AtPlace i (λ v. Reads 0x0320 (upload_items x batch v) (read_message b)) vs

-- an item has been sent again at most L times
abbrev pub Few : ℕ → Progress → Type 0
Few l unsent = Unit {0}
Few l (silent n) = n ≤ l
Few l ended = Unit {0}

abbrev pub EachFew : ℕ → List Progress → Type 0
EachFew l [] = Unit {0}
EachFew l (p ∷ ps) = Few l p × EachFew l ps

-- every message of an upload, in every list of calls from a fresh terminal of any settings
abbrev pub UploadsInOrder : Type 0
UploadsInOrder = (x : Settings) (j : List ℕ) (ts : List Invocation) → SettingsShaped x → InvocationsShaped ts
    → Each
    (λ c h. (b : List ℕ) → c.event ≡ send_next_upload_event → c.given ≡ sent b
    → SendsNext x (standing h).batch (next_item (approvals h) (upload x.sendings h).progress) (approvals h) b)
    (runs ts (begun x j)).history

-- no item leaves more than 1 + L times
abbrev pub FewResends : Type 0
FewResends = (x : Settings) (j : List ℕ) (ts : List Invocation) → SettingsShaped x → InvocationsShaped ts
    → Each (λ c h. EachFew x.sendings (upload x.sendings (c ∷ h)).progress) (runs ts (begun x j)).history
