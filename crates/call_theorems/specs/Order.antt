-- Document 01, "Why a call is turned down": checked upward. The rules of each call stand in the one order of all rules.
use Rattle.std.specs.Prelude.{◌≡◌, List, true, ℕ}
use Rattle.checks.specs.Checks.{in_check_order}
use Rattle.message.specs.declared.Message.{Message}
use Rattle.entry.specs.declared.Entry.{Entry}
use Rattle.state.specs.declared.State.{State}
use Rattle.state.specs.Calls.{Lent}
use Rattle.rules.specs.Rules.{rules12}
use Rattle.call_definitions.specs.SignOn.{sign_on_rules}
use Rattle.call_definitions.specs.Start.{start_rules}
use Rattle.desk.specs.declared.Desk.{Desk}
use Rattle.call_definitions.specs.Answer.{answer_rules, no_answer_rules, card_rules}
use Rattle.call_definitions.specs.SendReversal.{send_reversal_rules}
use Rattle.call_definitions.specs.Settle.{settle_rules}
use Rattle.call_definitions.specs.SendNextUpload.{send_next_upload_rules}

pub record ListsInOrder : Type 0 where
  pub sign_on : (s : State) (lent : Lent) → in_check_order (sign_on_rules s lent) ≡ true
  pub start : (d : Desk) (b : List ℕ) (s : State) (es : List Entry) (e : Entry) (lent : Lent) → in_check_order (start_rules d b s es e lent) ≡ true
  -- 1 and 2, then the reading's own numbers, then these
  pub answer : (a : Message) (s : State) (j : List ℕ) → in_check_order (answer_rules a s j) ≡ true
  pub no_answer : (s : State) (lent : Lent) → in_check_order (no_answer_rules s lent) ≡ true
  pub power_returned : (s : State) (lent : Lent) → in_check_order (rules12 s lent) ≡ true
  -- card agrees and card declines
  pub card : (s : State) (lent : Lent) → in_check_order (card_rules s lent) ≡ true
  pub send_reversal : (s : State) (lent : Lent) → in_check_order (send_reversal_rules s lent) ≡ true
  pub settle : (s : State) (lent : Lent) → in_check_order (settle_rules s lent) ≡ true
  pub send_next_upload : (s : State) (lent : Lent) → in_check_order (send_next_upload_rules s lent) ≡ true
