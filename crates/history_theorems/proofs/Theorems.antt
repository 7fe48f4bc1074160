-- Every call of every list is judged as the history says, and what leaves reads.
use mathlib.Core.Path.{◌≡◌, refl, sym, ◌∙◌}
use mathlib.Core.List.{List, [], ◌∷◌}
use mathlib.Core.Bool.{true, true≢false}
use Prim.Native.Nat.{ℕ}
use native.Mathlib.Omega.{arith}
use lib.ListN.{take, drop}
use lib.Seq.{take_at}
use Rattle.reading.specs.Reading.{read_message, Read}
use Rattle.state.specs.declared.Outcome.{Outcome}
use Rattle.state.specs.declared.Outcome.TheVariants.{Send, Quiet, Refused}
use Rattle.state.specs.declared.Settings.{Settings}
use Rattle.state.specs.declared.State.{State}
use Rattle.state.specs.Calls.{Lent, lend}
use Rattle.call_theorems.specs.Facts.{Leaves}
use Rattle.call_theorems.proofs.Facts.{sent-reads}
use Rattle.call_theorems.proofs.Steady.{settings_stay}
use Rattle.outgoing_theorems.specs.Theorems as outgoing
use Rattle.call_definitions.specs.Events.{Event, sign_on_event, starts, answers, no_answer_event, power_returned_event, card_agrees_event, card_declines_event, send_reversal_event, settles, send_next_upload_event, call}
use Rattle.desk.specs.declared.Desk.{Desk}
use Rattle.call_definitions.specs.Shapes.{SettingsShaped, EventShaped}
use Rattle.history.specs.Words.{message_in, is_request}
use Rattle.history.specs.History as history
use Rattle.history.specs.History.{Call, Account, account, batch_of}
use Rattle.history.specs.Demand.{Invocation, Run, given_by, recorded, runs, begun, InvocationsShaped, Each}
use Rattle.history.proofs.Books.{no_books}
use Rattle.history.proofs.Tied.{Tied}
use Rattle.history.proofs.Events.{Signing, call-after, signing-after}
use Rattle.history_theorems.specs.Standing.{Standing, SignOn, trace_in, is_new, next, standing, sign_on}
use Rattle.history_theorems.specs.Judged.{reversal_pending, number_of, JudgedBy, CallsJudged, SentAlwaysReads}
use Rattle.entry.specs.declared.Entry.{Entry}
use Rattle.journal.specs.Journal.{entries_of}
use Rattle.history_theorems.specs.Approvals.{approvals, JournalIsApprovals, Approval, AreEntries}
use Rattle.history_theorems.specs.Summing.{SumsByKind}
use Rattle.history_theorems.specs.Prepaid.{EachPaid, EntriesPaid}
use Rattle.history_theorems.specs.Fields.{settlement_items, sign_on_items}
use Rattle.history_theorems.specs.Settlements.{SettlementsRead, SignOnsRead}
use Rattle.history_theorems.specs.Requests.{StartJudged, StartsJudged}
use Rattle.history_theorems.specs.Traces.{IsTaken, TracesTaken}
use Rattle.history_theorems.specs.Uploads.{next_item, upload, SendsNext, EachFew, UploadsInOrder, FewResends}
use Rattle.history_theorems.proofs.Stands.{Stands}
use Rattle.history_theorems.proofs.Signs.{Signs, call-signs}
use Rattle.history_theorems.proofs.Said.{Said}
use Rattle.history_theorems.proofs.Quiet.{answer-said, silence_said, power_said, agrees_said, declines_said}
use Rattle.history_theorems.proofs.Sends.{sign_on-said, reversal-said, settle-said, upload-said}
use Rattle.history_theorems.proofs.Starts.{start-said}
use Rattle.history_theorems.proofs.Summing.{five_sums}
use Rattle.history_theorems.proofs.Booked.{Booked, call-booked}
use Rattle.history_theorems.proofs.Repaid.{Repaying, call-repaying}
use Rattle.history_theorems.proofs.Copies.{Exactly, call-exactly}
use Rattle.history_theorems.proofs.Traced.{call-traced}
use Rattle.history_theorems.proofs.Started.{call-started}
use Rattle.history_theorems.proofs.Uploaded.{Uploads}
use Rattle.history_theorems.proofs.Items.{call_uploaded, given-few}
use Rattle.history_theorems.proofs.Settled.{call_settled, call-signed-on}

module _ (l : ℕ) (s : State) (lent : Lent) (a : Account) (y : Standing) (w : SignOn) (t : Tied l s a) (h : Stands s lent.journal y) (g : Signs s w) where
  call-said : (e : Event) → EventShaped e → Said e y (number_of e w y (reversal_pending a.requests)) (call e s lent)
  call-said sign_on_event k = sign_on-said l s lent a y w t h g
  call-said (starts d b) k = start-said l s lent a y t h d b k.0 k.1 w g
  call-said (answers b good) k = answer-said l s lent a y w t h g b good
  call-said no_answer_event k = silence_said l s lent a y w t h g
  call-said power_returned_event k = power_said l s lent a y w t h g
  call-said card_agrees_event k = agrees_said l s lent a y w t h g
  call-said card_declines_event k = declines_said l s lent a y w t h g
  call-said send_reversal_event k = reversal-said l s lent a y w t h g
  call-said settles k = settle-said l s lent a y w t h g
  call-said send_next_upload_event k = upload-said l s lent a y w t h g

-- what is said of a call, with the history up to then
abbrev IsJudged : ℕ → Call → history.History → Type 0
IsJudged l c h = (c.given ≡ history.refused 1 → ⊥) → (c.given ≡ history.refused 2 → ⊥)
    → JudgedBy (number_of c.event (sign_on h) (standing h) (reversal_pending (batch_of l h))) c.event (standing h) c.given

-- what leaves reads
abbrev Reads : Call → Type 0
Reads c = (b : List ℕ) → c.given ≡ history.sent b → (read_message b).outcome ≡ Read

sent-reads_as : (o : Outcome) (left m : List ℕ) → ((k : ℕ) → o ≡ Send k → Leaves k left m)
    → (b : List ℕ) → given_by o left ≡ history.sent b → (read_message b).outcome ≡ Read
sent-reads_as (Send k) left m f b e =
    let w = f k refl in
    let front : take k left ≡ w.bytes = rw w.rest (take_at w.bytes (drop k m) k w.count) in
    let same : take k left ≡ b = cc in
    rw (sym same ∙ front) w.reads
sent-reads_as Quiet left m f b e = let z : ◌≡◌ {A = ℕ} 0 1 = cc in absurd (omega arith)
sent-reads_as (Refused n) left m f b e = let z : ◌≡◌ {A = ℕ} 0 1 = cc in absurd (omega arith)

-- a new message takes its trace
abbrev TracedCall : Call → history.History → Type 0
TracedCall c h = (b : List ℕ) → c.given ≡ history.sent b → is_new (message_in b) ≡ true → IsTaken (approvals h) (standing h).taken (trace_in (message_in b))

-- an upload sends what is due next
abbrev SendsInOrder : Settings → ℕ → Call → history.History → Type 0
SendsInOrder x l c h = (b : List ℕ) → c.event ≡ send_next_upload_event → c.given ≡ history.sent b
    → SendsNext x (standing h).batch (next_item (approvals h) (upload l h).progress) (approvals h) b

-- what settle sends
abbrev SettledCall : Settings → ℕ → Call → history.History → Type 0
SettledCall x l c h = (b : List ℕ) → c.event ≡ settles → c.given ≡ history.sent b
    → outgoing.Reads 0x0500 (settlement_items x (standing h).batch (trace_in (message_in b)) (batch_of l h)) (read_message b)

-- what sign on sends
abbrev SignOnCall : Settings → Call → history.History → Type 0
SignOnCall x c h = (b : List ℕ) → c.event ≡ sign_on_event → c.given ≡ history.sent b
    → outgoing.Reads 0x0800 (sign_on_items x (standing h).batch (trace_in (message_in b))) (read_message b)

-- a start is refused by its number, or sends its message
abbrev StartedCall : Settings → ℕ → Call → history.History → Type 0
StartedCall x l c h = (d : Desk) (chip : List ℕ) → c.event ≡ starts d chip → (c.given ≡ history.refused 1 → ⊥) → (c.given ≡ history.refused 2 → ⊥)
    → number_of c.event (sign_on h) (standing h) (reversal_pending (batch_of l h)) ≡ 0 → StartJudged x (standing h) (approvals h) d chip c.given

started_with : (l : ℕ) (c : Call) (h : history.History) {z x : Settings} → z ≡ x → StartedCall z l c h → StartedCall x l c h
started_with l c h e s = rw e at s

record Holds (l : ℕ) (x : Settings) (r : Run) : Type 0 where
  settings_are : r.state.settings ≡ x
  tied : Tied l r.state (account l r.history)
  stands : Stands r.state r.journal (standing r.history)
  signing : Signing r.state (account l r.history)
  signs : Signs r.state (sign_on r.history)
  each : Each (IsJudged l) r.history
  reads : Each (λ c h. Reads c) r.history
  repaying : Repaying r.state r.journal
  booked : Booked r.state r.journal (approvals r.history)
  exactly : Exactly (standing r.history) (approvals r.history)
  traced : Each TracedCall r.history
  started : Each (StartedCall x l) r.history
  uploads : Uploads r.state r.journal (upload l r.history)
  in_order : Each (SendsInOrder x l) r.history
  settled : Each (SettledCall x l) r.history
  signed : Each (SignOnCall x) r.history
  few : EachFew l (upload l r.history).progress
  each_few : Each (λ c h. EachFew l (upload l (c ∷ h)).progress) r.history

fresh-next : ◌≡◌ {A = ℕ} 1 (next 0)
unfolding next
fresh-next = refl

begun-holds : (x : Settings) (j : List ℕ) → SettingsShaped x → Holds x.sendings x (begun x j)
unfolding is_request
begun-holds x j w =
    record {
      settings_are = refl;
      tied = record { kept = record { sendings_set = refl; shaped = w; books = no_books }; shape = tt };
      stands = record { members = (refl, refl, refl, fresh-next, refl); phase_is = record { awaits_is = refl; stage_is = refl }; details = tt };
      signing = λ e. absurd (true≢false (sym e));
      signs = record { awaited_is = refl; says = λ e. absurd (true≢false (sym e)) };
      each = tt;
      reads = tt;
      repaying = tt;
      booked = tt;
      exactly = record { last = λ e. absurd (true≢false (sym e)); granted = λ e. absurd (true≢false (sym e)); each = tt };
      traced = tt;
      started = tt;
      uploads = record { marks = tt; item_is = tt };
      in_order = tt;
      settled = tt;
      signed = tt;
      few = tt;
      each_few = tt;
    }

all_hold : (ts : List Invocation) (l : ℕ) {x : Settings} (r : Run) → InvocationsShaped ts → Holds l x r → Holds l x (runs ts r)
all_hold [] l r w h = h
all_hold (t ∷ ts) l r w h =
    let a = account l r.history in
    let k = call-after t.event l r.state (lend r.journal t.message) a w.0 h.tied h.signing in
    let d = call-said l r.state (lend r.journal t.message) a (standing r.history) (sign_on r.history) h.tied h.stands h.signs t.event w.0 in
    let q = call t.event r.state (lend r.journal t.message) in
    let n = call_uploaded l r.state (lend r.journal t.message) a (standing r.history) (approvals r.history) (upload l r.history) h.tied
    h.stands h.booked h.exactly.each h.uploads t.event in
    let same = settings_stay t.event r.state (lend r.journal t.message) ∙ h.settings_are in
    let few = given-few l (given_by q.outcome q.lent.message) t.event (standing r.history) (approvals r.history) (upload l r.history)
    n.may_leave h.few in
    all_hold ts l (recorded t r q) w.1
    (record {
      settings_are = same;
      tied = k.tied;
      stands = d.stands;
      signing = signing-after t.event l r.state (lend r.journal t.message) a h.tied h.signing;
      signs = call-signs r.state (lend r.journal t.message) (sign_on r.history) h.signs t.event l a h.tied;
      each = (d.is_judged, h.each);
      reads = (
        sent-reads_as q.outcome q.lent.message t.message
            (λ n e. sent-reads t.event r.state (lend r.journal t.message) n h.tied.kept.shaped w.0 e),
        h.reads,
      );
      repaying = call-repaying t.event r.state (lend r.journal t.message) h.repaying;
      booked =
          call-booked t.event r.state (lend r.journal t.message) (standing r.history) (approvals r.history) h.stands
          h.repaying h.booked;
      exactly =
          call-exactly (standing r.history) (sign_on r.history) (approvals r.history) (reversal_pending a.requests) h.exactly t.event
          (given_by q.outcome q.lent.message) q.state q.lent.journal d.stands d.is_judged;
      traced = (
        call-traced t.event l r.state (lend r.journal t.message) a (standing r.history) (approvals r.history) w.0 h.tied
            h.stands h.booked _ d,
        h.traced,
      );
      started = (
        started_with l _ r.history h.settings_are (call-started l r.state (lend r.journal t.message) a (standing r.history) (approvals r.history) (sign_on r.history) h.tied
            h.stands h.signs h.booked h.exactly.each t.event w.0),
        h.started,
      );
      uploads = n.uploads;
      in_order = (rw same at n.sends_next, h.in_order);
      settled = (
        call_settled l r.state (lend r.journal t.message) a (standing r.history) h.tied h.stands t.event _ h.settings_are,
        h.settled,
      );
      signed = (
        call-signed-on l r.state (lend r.journal t.message) a (standing r.history) h.tied h.stands t.event _ h.settings_are,
        h.signed,
      );
      few = few;
      each_few = (few, h.each_few);
    })

pub calls_judged : CallsJudged
calls_judged x j ts w v = (all_hold ts x.sendings (begun x j) v (begun-holds x j w)).each

pub sent-reads_always : SentAlwaysReads
sent-reads_always x j ts w v = (all_hold ts x.sendings (begun x j) v (begun-holds x j w)).reads

pub journal_is-approvals : JournalIsApprovals
journal_is-approvals x j ts w v = (all_hold ts x.sendings (begun x j) v (begun-holds x j w)).booked

each_paid : (es : List Entry) (xs : List Approval) → AreEntries es xs → EachPaid es xs
each_paid [] [] h = tt
each_paid [] (x ∷ xs) h = absurd h
each_paid (e ∷ es) [] h = absurd h
each_paid (e ∷ es) (x ∷ xs) h = ((h.0.amount_most, h.0.repaid_is), each_paid es xs h.1)

pub entries_paid : EntriesPaid
entries_paid x j ts w v =
    let r = runs ts (begun x j) in
    each_paid (entries_of r.state.entries r.journal) (approvals r.history) (journal_is-approvals x j ts w v)

pub sums_by_kind : SumsByKind
sums_by_kind x j ts w v =
    let r = runs ts (begun x j) in
    five_sums (entries_of r.state.entries r.journal) (approvals r.history) (journal_is-approvals x j ts w v)

pub traces_taken : TracesTaken
traces_taken x j ts w v = (all_hold ts x.sendings (begun x j) v (begun-holds x j w)).traced

pub starts-judged : StartsJudged
starts-judged x j ts w v = (all_hold ts x.sendings (begun x j) v (begun-holds x j w)).started

pub uploads-in_order : UploadsInOrder
uploads-in_order x j ts w v = (all_hold ts x.sendings (begun x j) v (begun-holds x j w)).in_order

pub settlements-read : SettlementsRead
settlements-read x j ts w v = (all_hold ts x.sendings (begun x j) v (begun-holds x j w)).settled

pub sign_ons_read : SignOnsRead
sign_ons_read x j ts w v = (all_hold ts x.sendings (begun x j) v (begun-holds x j w)).signed

pub few-resends : FewResends
few-resends x j ts w v = (all_hold ts x.sendings (begun x j) v (begun-holds x j w)).each_few
