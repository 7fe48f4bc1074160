-- Effects on the state that write no entry: it has no more entries after them.
use mathlib.Core.Bool.{Bool, true, false, cond}
use Prim.Native.Nat.{◌≤◌}
use native.Mathlib.Omega.{arith}
use lib.Dec.{leb}
use Rattle.kinds.specs.Kinds.{is_never_reversed}
use Rattle.message.specs.declared.Message.{Message}
use Rattle.state.specs.declared.Reason.{Reason}
use Rattle.state.specs.declared.Request.{Request}
use Rattle.state.specs.declared.Reversal.{Reversal}
use Rattle.state.specs.declared.State.{State}
use Rattle.answer_match.specs.Match.{approves, ends_reversal, closes_batch}
use Rattle.effect_definitions.specs.StateEffects.{pending_or_unanswered, failed, on_reversal, on_settlement, on_end, on_sign_on}

pub record Few (s t : State) : Type 0 where
  pub few : t.entries ≤ s.entries

module _ (s : State) where
  either : (b : Bool) {x y : State} → Few s x → Few s y → Few s (cond b x y)
  either true h k = h
  either false h k = k

  pub pending-few : (r : Reason) (q : Request) → Few s (pending_or_unanswered r q s)
  unfolding pending_or_unanswered
  pending-few r q = either (is_never_reversed q.kind) (record { few = omega arith }) (record { few = omega arith })

  pub failed-few : (v : Reversal) → Few s (failed v s)
  unfolding failed
  failed-few v = either (leb s.settings.sendings v.sendings) (record { few = omega arith }) (record { few = omega arith })

  pub reversal-few : (good : Bool) (a : Message) (v : Reversal) → Few s (on_reversal good a v s)
  unfolding on_reversal
  reversal-few good a v = either (ends_reversal good a) (record { few = omega arith }) (failed-few v)

  pub settlement_few : (a : Message) → Few s (on_settlement a s)
  unfolding on_settlement
  settlement_few a = either (closes_batch a) (record { few = omega arith }) (record { few = omega arith })

  pub sign_on-few : (a : Message) → Few s (on_sign_on a s)
  unfolding on_sign_on
  sign_on-few a = either (approves a) (record { few = omega arith }) (record { few = omega arith })

  pub end_few : (a : Message) → Few s (on_end a s)
  unfolding on_end
  end_few a = either (approves a) (record { few = omega arith }) (record { few = omega arith })
