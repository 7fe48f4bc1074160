-- A good approval, and the entries with its own.
use Rattle.std.specs.Prelude.{Some, None, Option}
use mathlib.Core.Path.{◌≡◌, refl}
use mathlib.Core.List.{List, [], ◌∷◌, ◌++◌}
use mathlib.Core.Bool.{Bool, true, false, cond, and-eq-true_iff}
use Prim.Native.Nat.{ℕ, ◌+◌, ◌*◌, ◌≤◌, ◌<◌}
use native.Mathlib.Numerals.{add-one}
use native.Mathlib.Omega.{arith}
use lib.ListN.{length}
use borrow.Author.Tests.{ltb-true}
use Rattle.kinds.specs.Kinds.{takes_original, original_kind}
use Rattle.entry.specs.Entry.{entry_size}
use Rattle.entry.specs.Form.{in_form}
use Rattle.entry.specs.declared.Entry.{Entry}
use Rattle.journal.specs.Journal.{entries_of, first_of, is_original}
use Rattle.journal.proofs.Entries.{put_appends, length-set_byte}
use Rattle.state.specs.declared.Approval.{Approval}
use Rattle.state.specs.declared.Request.{Request}
use Rattle.state.specs.declared.Awaited.TheVariants as awaited
use Rattle.state.specs.declared.Phase.TheVariants.{Waiting}
use Rattle.state.specs.declared.State.{State}
use Rattle.state.specs.State.{in_phase}
use Rattle.state.specs.Calls.{Lent}
use Rattle.rules.specs.Rules.{request_kept}
use Rattle.state_rules.specs.StateRules.{request_in_form}
use Rattle.rules.proofs.InOrder.{Fit}
use Rattle.state_rules.proofs.Holds.{MayApprove, request-holds}
use Rattle.approval.specs.Approval.{approved_entry}
use Rattle.approval.proofs.Approval.{shaped, in_form_lem}
use Rattle.effect_definitions.specs.JournalEffects.{voided_at, original_voided, approved}

-- the journal in which an original is voided is as long
length-voided : (q : Request) (es : List Entry) (j : List ℕ) → length (original_voided q es j) ≡ length j
unfolding original_voided
length-voided q es j = go (takes_original q.kind) (first_of (is_original (original_kind q.kind) q.original.0) 0 es)
  where
    go : (b : Bool) (f : Option ℕ) → length (cond b (voided_at f j) j) ≡ length j
    go true (Some i) = length-set_byte i 1 1 j
    go true None = refl
    go false f = refl

-- an awaited request has a place
place-left : (limit n : ℕ) (es : List Entry) (q : Request) → request_kept limit n es q ≡ true → n < limit
unfolding request_kept
place-left limit n es q h = let t = simp and-eq-true_iff at h in ltb-true n limit t.0.0.0

-- the entry of a request in form and such an approval is in form
entry-in_form : (q : Request) (v : Approval) → request_in_form q ≡ true → MayApprove q v → in_form (approved_entry q v) ≡ true
entry-in_form q v f h =
    let w = request-holds q f in
    in_form_lem q v w.kind_listed w.trace_least w.trace_most (h.1.least w.amount_least) (omega (arith, h.1.most, w.amount_most)) w.card_least
    w.card_most h.0

-- the entries with that of an approval
module _ (q : Request) (v : Approval) (s : State) (lent : Lent) (h : Fit (in_phase (Waiting (awaited.Request q)) s) lent) (g : MayApprove q v) where
  pub approved-entries : entries_of (s.entries + 1) (approved q (approved_entry q v) s lent.journal).journal
      ≡ entries_of s.entries (original_voided q (entries_of s.entries lent.journal) lent.journal) ++ (approved_entry q v ∷ [])
  unfolding approved
  approved-entries =
      let c = s.entries in
      let j = lent.journal in
      let k = original_voided q (entries_of c j) j in
      let p = place-left s.settings.limit c (entries_of c j) q h.order.phase_kept in
      let room : entry_size * c + entry_size ≤ length k = rw (length-voided q (entries_of c j) j) (omega (arith, h.journal_room, p)) in
      rw (add-one c) (put_appends c (approved_entry q v) k (shaped q v g.0) (entry-in_form q v h.order.state.phase_form g) room)

-- it has the request's kind and the approved amount
pub approved-kind : (q : Request) (v : Approval) → (approved_entry q v).kind ≡ q.kind
unfolding approved_entry
approved-kind q v = refl

pub approved_amount : (q : Request) (v : Approval) → (approved_entry q v).amount ≡ v.amount
unfolding approved_entry
approved_amount q v = refl
