-- What start gives: refused, or left and awaited.
use Rattle.std.specs.Prelude.{Option, Ok}
use mathlib.Core.Path.{◌≡◌, sym, ap, ◌∙◌}
use mathlib.Core.List.{List, [], ◌++◌}
use Prim.Native.Nat.{ℕ}
use lib.ListN.{length, drop}
use Rattle.numbers.specs.declared.Trace.{Trace}
use Rattle.message.specs.Build.{message_of}
use Rattle.message.specs.declared.Message.{Message}
use Rattle.writing.specs.Writing.{write_message, written}
use Rattle.kinds.specs.Kinds.{indicator_of}
use Rattle.entry.specs.declared.Entry.{Entry}
use Rattle.journal.specs.Journal.{entries_of, taken}
use Rattle.state.specs.declared.Called.{Called}
use Rattle.state.specs.declared.Chip.{Chip}
use Rattle.state.specs.declared.Outcome.TheVariants.{Send}
use Rattle.state.specs.declared.Request.{Request}
use Rattle.state.specs.declared.State.{State}
use Rattle.checks.specs.Checks.{first_broken}
use Rattle.state.specs.Calls.{Lent, with_message, refused, result_of}
use Rattle.state.proofs.Judged.{refuses, goes}
use Rattle.compose.specs.Compose.{with_all}
use Rattle.outgoing.specs.Outgoing.{request_fields, request_message, length_of}
use Rattle.outgoing.specs.declared.Original.{Original}
use Rattle.outgoing.proofs.Leaving.{request-held, request-is, request-listed, written_is}
use Rattle.desk.specs.declared.Desk.{Desk}
use Rattle.call_definitions.specs.Start.{original_of, entry_of, named_by, start_rules, start}
use Rattle.desk.specs.DeskRules.{chip_from, request_of, chip_rules}
use Rattle.effect_definitions.specs.StateEffects.{requested}
use Rattle.call_definitions.specs.Sending.{MaySend, request_bytes, HasSent}
use Rattle.call_definitions.proofs.Refusals.{Unbroken, unbroken}
use Rattle.call_definitions.proofs.Held.{may_send}

-- what is written, where the request may send
module _ (s : State) (c : Chip) (q : Request) (o : Original) (m : List ℕ) (h : MaySend s c q o m) where
  written-request : write_message (request_message s.settings s.batch c q o) m
      ≡ written (Ok (length (request_bytes s c q o))) (request_bytes s c q o ++ drop (length (request_bytes s c q o)) m)
  unfolding request_message request_bytes
  written-request =
      written_is (indicator_of q.kind) (request_fields s.settings s.batch c q o) m (request-listed q.kind)
      (request-held s.settings s.batch c q o h.card h.original) h.room

  pub leaves : (w : Message) (n : ℕ) (after : List ℕ) (t : State)
      → w ≡ with_all (request_fields s.settings s.batch c q o) (message_of (indicator_of q.kind) [])
      → n ≡ length_of (write_message w m).outcome → after ≡ (write_message w m).buffer → t ≡ requested s c q
      → HasSent s c q o m (record { outcome = Send n; state = t }) after
  leaves w n after t a b g e =
      let i : w ≡ request_message s.settings s.batch c q o = a ∙ request-is s.settings s.batch c q o h.card h.original in
      let r : write_message w m ≡ written (Ok (length (request_bytes s c q o))) (request_bytes s c q o ++ drop (length (request_bytes s c q o)) m) = ap (λ (x : Message). write_message x m) i ∙ written-request in
      record { called = rw (e, b, r); buffer = g ∙ rw r }

module _ (d : Desk) (x : List ℕ) (s : State) (lent : Lent) (place : Option ℕ) (e : Entry) (k : ℕ)
    (p : place ≡ original_of d (entries_of s.entries lent.journal)) (g : e ≡ entry_of place (entries_of s.entries lent.journal))
    (b : k ≡ first_broken (start_rules d x s (entries_of s.entries lent.journal) e lent)) where
  first : k ≡ first_broken (start_rules d x s (entries_of s.entries lent.journal)
      (entry_of (original_of d (entries_of s.entries lent.journal)) (entries_of s.entries lent.journal)) lent)
  first = rw (g, p) at b

  passes : k ≡ 0 → Unbroken d x s (entries_of s.entries lent.journal) lent
  passes z = unbroken d x s (entry_of (original_of d (entries_of s.entries lent.journal)) (entries_of s.entries lent.journal)) lent (sym first ∙ z)

  pub is-refused : (k ≡ 0 → ⊥) → refused k s lent ≡ start d x s lent
  unfolding start
  is-refused h = refuses k _ s lent _ first h

  pub left-may : length s.settings.terminal ≡ 8 → length s.settings.merchant ≡ 15 → length d.reference ≡ 12 → length d.authorisation ≡ 6
      → k ≡ 0 → (t : Trace) (c : Chip) (q : Request) (o : Original) → (first_broken (chip_rules d x) ≡ 0 → c ≡ chip_from d x) → q ≡ request_of d e t.0
      → o ≡ named_by d s.batch e → MaySend s c q o lent.message
  left-may f h r a z t c q o v w y =
      rw (v (passes z).chip, w, y, g, p) (may_send d x s lent f h r a t.0 (passes z))

  pub is-left : k ≡ 0 → (t : Trace) (c : Chip) (q : Request) (o : Original) (r : Called) (after : List ℕ)
      → t ≡ record { 0 = taken (entries_of s.entries lent.journal) s.next.0 } → (first_broken (chip_rules d x) ≡ 0 → c ≡ chip_from d x)
      → q ≡ request_of d e t.0 → o ≡ named_by d s.batch e
      → HasSent s c q o lent.message r after → result_of r (with_message after lent) ≡ start d x s lent
  unfolding start request_bytes
  is-left z t c q o r after a v w y l =
      goes k _ s lent (result_of r (with_message after lent)) _ first z (rw (l.called, l.buffer, v (passes z).chip, y, w, a, g, p))
