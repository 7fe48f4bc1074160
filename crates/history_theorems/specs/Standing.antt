-- Where a terminal stands after some calls, in the history's words: signed on or off, the last message sent and whether its answer or,
-- after an approval with a chip, the card's word is awaited,
-- how far the batch is in closing, its number, how many card requests have left in it, the last of them, the reason of its reversal
-- should it be reversed, and the last trace taken.
use Rattle.std.specs.Prelude.{List, [], ◌∷◌, Bool, true, false, cond, not, ◌&&◌, ◌||◌, ℕ, ◌+◌, ltb, eqb}
use Rattle.digits.specs.Packed.{numeral}
use Rattle.message.specs.Message.{empty}
use Rattle.message.specs.declared.Message.{Message}
use Rattle.parts.specs.Parts.{part_of}
use Rattle.parts.specs.declared.Part.TheVariants as part
use Rattle.call_definitions.specs.Events.{Event, sign_on_event, starts, answers, no_answer_event, power_returned_event, card_agrees_event, card_declines_event, send_reversal_event, settles, send_next_upload_event}
use Rattle.history.specs.Words.{message_in, carries_chip, is_request, is_settlement, is_end, is_sign_on, batch_in, is_approval, approves_request, mac_good, closes_batch}
use Rattle.history.specs.History.{Given, sent, quiet, refused, History}

-- the batch is running, its settlement has been sent, or it is being uploaded
pub data Stage : Type 0 where
  running settling uploading : Stage

pub record Standing : Type 0 where
  -- it is signed on
  pub signed : Bool
  -- the last message sent but for sign-ons, and whether it is awaited
  pub message : Message
  pub awaited : Bool
  -- the card's word is awaited; the last answer accepted
  pub card : Bool
  pub answer : Message
  pub stage : Stage
  -- the batch number, the card requests that have left in this batch, and the last of them
  pub batch : ℕ
  pub requests : ℕ
  pub request : Message
  -- the reason of that request's reversal, should it be reversed
  pub reason : List ℕ
  -- the last trace taken
  pub taken : ℕ

-- the trace of a message
unfoldable pub trace_in : Message → ℕ
trace_in m = numeral (part_of m part.Trace)

-- card requests, settlements, the upload's end and sign-ons are new messages; reversals and upload items reuse the original's trace
unfoldable pub is_new : Message → Bool
is_new m = is_request m || is_settlement m || is_end m || is_sign_on m

-- after 999999 comes 1
unfoldable pub next : ℕ → ℕ
next x = cond (ltb x 999999) (x + 1) 1

-- a message sent is awaited; a settlement begins the closing
abbrev pub when_sent : Message → Standing → Standing
when_sent m x =
    record {
      signed = x.signed;
      message = m;
      awaited = true;
      card = false;
      answer = x.answer;
      stage = cond (is_settlement m) settling x.stage;
      batch = x.batch;
      requests = cond (is_request m) (x.requests + 1) x.requests;
      request = cond (is_request m) m x.request;
      reason = x.reason;
      taken = cond (is_new m) (trace_in m) x.taken;
    }

-- a sign-on takes a trace, and changes nothing else of this; what else was sent last stays (document 02, request 3)
abbrev pub when_asked : Message → Standing → Standing
when_asked m x =
    record {
      signed = x.signed;
      message = x.message;
      awaited = x.awaited;
      card = x.card;
      answer = x.answer;
      stage = x.stage;
      batch = x.batch;
      requests = x.requests;
      request = x.request;
      reason = x.reason;
      taken = trace_in m;
    }

abbrev pub sent_at : Event → Message → Standing → Standing
sent_at sign_on_event m x = when_asked m x
sent_at (starts d b) m x = when_sent m x
sent_at (answers b good) m x = when_sent m x
sent_at no_answer_event m x = when_sent m x
sent_at power_returned_event m x = when_sent m x
sent_at card_agrees_event m x = when_sent m x
sent_at card_declines_event m x = when_sent m x
sent_at send_reversal_event m x = when_sent m x
sent_at settles m x = when_sent m x
sent_at send_next_upload_event m x = when_sent m x

-- an accepted answer closes the batch, which signs off and adds 1 to the batch number
unfoldable pub when_closed : Standing → Standing
when_closed x =
    record {
      signed = false;
      message = x.message;
      awaited = false;
      card = false;
      answer = x.answer;
      stage = running;
      batch = next x.batch;
      requests = 0;
      request = x.request;
      reason = x.reason;
      taken = x.taken;
    }

-- a good approval of a request with a chip: the card's word is awaited
unfoldable pub grants : Bool → Message → Message → Bool
grants good a m = is_request m && (carries_chip m && (approves_request m a && mac_good good a))

-- any other to a settlement starts the upload; a card request that an answer makes doubtful is reversed for its MAC, A0
unfoldable pub when_decided : Bool → Message → Standing → Standing
when_decided good a x =
    record {
      signed = x.signed;
      message = x.message;
      awaited = grants good a x.message;
      card = grants good a x.message;
      answer = a;
      stage = cond (is_settlement x.message) uploading x.stage;
      batch = x.batch;
      requests = x.requests;
      request = x.request;
      reason = cond (is_request x.message) (0x41 ∷ 0x30 ∷ []) x.reason;
      taken = x.taken;
    }

unfoldable pub when_heard : Bool → Message → Standing → Standing
when_heard good a x = cond (closes_batch x.message a) (when_closed x) (when_decided good a x)

-- the card agrees
unfoldable pub when_agreed : Standing → Standing
when_agreed x =
    record {
      signed = x.signed;
      message = x.message;
      awaited = false;
      card = false;
      answer = x.answer;
      stage = x.stage;
      batch = x.batch;
      requests = x.requests;
      request = x.request;
      reason = x.reason;
      taken = x.taken;
    }

-- silence, with power or without; one that makes an awaited card request doubtful is the reason 98, or 06 where the card's word is awaited
abbrev pub when_silent : Bool → Standing → Standing
when_silent power x =
    record {
      signed = power && x.signed;
      message = x.message;
      awaited = false;
      card = false;
      answer = x.answer;
      stage = x.stage;
      batch = x.batch;
      requests = x.requests;
      request = x.request;
      reason = cond x.card (0x30 ∷ 0x36 ∷ []) (cond (x.awaited && is_request x.message) (0x39 ∷ 0x38 ∷ []) x.reason);
      taken = x.taken;
    }

-- the batch number is adopted only if no card request has left in this batch, nothing but the sign-on is awaited and the batch is not
-- closing; a reversal that is to be sent is one of a card request that left
abbrev pub runs : Stage → Bool
runs running = true
runs settling = false
runs uploading = false

unfoldable pub adopts : Standing → Bool
adopts x = eqb x.requests 0 && not x.awaited && runs x.stage

-- signed on
abbrev pub when_signed : ℕ → Standing → Standing
when_signed n x =
    record {
      signed = true;
      message = x.message;
      awaited = x.awaited;
      card = x.card;
      answer = x.answer;
      stage = x.stage;
      batch = cond (adopts x) n x.batch;
      requests = x.requests;
      request = x.request;
      reason = x.reason;
      taken = x.taken;
    }

-- an accepted answer to a sign-on: only 00 signs on, and no other answer signs off
abbrev pub when_told : Message → Standing → Standing
when_told a x = cond (is_approval a) (when_signed (batch_in a) x) x

-- a quiet change, by what was handed in
abbrev pub when_quiet : Event → Standing → Standing
when_quiet sign_on_event x = x
when_quiet (starts d b) x = x
when_quiet (answers b good) x = cond x.awaited (when_heard good (message_in b) x) (when_told (message_in b) x)
when_quiet no_answer_event x = when_silent true x
when_quiet power_returned_event x = when_silent false x
when_quiet card_agrees_event x = when_agreed x
when_quiet card_declines_event x = when_silent true x
when_quiet send_reversal_event x = x
when_quiet settles x = x
when_quiet send_next_upload_event x = x

abbrev pub when_given : Given → Event → Standing → Standing
when_given (sent b) e x = sent_at e (message_in b) x
when_given quiet e x = when_quiet e x
when_given (refused n) e x = x

-- a fresh terminal is signed off, in batch 1, and has sent nothing
abbrev pub standing : History → Standing
standing [] =
    record {
      signed = false;
      message = empty;
      awaited = false;
      card = false;
      answer = empty;
      stage = running;
      batch = 1;
      requests = 0;
      request = empty;
      reason = [];
      taken = 0;
    }
standing (c ∷ h) = when_given c.given c.event (standing h)

-- the sign-on that was sent last, and whether its answer is awaited
pub record SignOn : Type 0 where
  pub awaited : Bool
  pub message : Message

abbrev pub sign_on_ended : SignOn → SignOn
sign_on_ended w = record { awaited = false; message = w.message }

abbrev pub sign_on_sent : Event → Message → SignOn → SignOn
sign_on_sent sign_on_event m w = record { awaited = true; message = m }
sign_on_sent (starts d b) m w = w
sign_on_sent (answers b good) m w = w
sign_on_sent no_answer_event m w = w
sign_on_sent power_returned_event m w = w
sign_on_sent card_agrees_event m w = w
sign_on_sent card_declines_event m w = w
sign_on_sent send_reversal_event m w = w
sign_on_sent settles m w = w
sign_on_sent send_next_upload_event m w = w

-- an answer, silence or the return of power ends it
abbrev pub sign_on_quiet : Event → SignOn → SignOn
sign_on_quiet sign_on_event w = w
sign_on_quiet (starts d b) w = w
sign_on_quiet (answers b good) w = sign_on_ended w
sign_on_quiet no_answer_event w = sign_on_ended w
sign_on_quiet power_returned_event w = sign_on_ended w
sign_on_quiet card_agrees_event w = w
sign_on_quiet card_declines_event w = w
sign_on_quiet send_reversal_event w = w
sign_on_quiet settles w = w
sign_on_quiet send_next_upload_event w = w

abbrev pub sign_on_given : Given → Event → SignOn → SignOn
sign_on_given (sent b) e w = sign_on_sent e (message_in b) w
sign_on_given quiet e w = sign_on_quiet e w
sign_on_given (refused n) e w = w

abbrev pub sign_on : History → SignOn
sign_on [] = record { awaited = false; message = empty }
sign_on (c ∷ h) = sign_on_given c.given c.event (sign_on h)
