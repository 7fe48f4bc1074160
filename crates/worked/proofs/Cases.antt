-- The starred cases but *i: each side computes to the same value.
use Rattle.std.specs.Prelude.{Some, Ok}
use mathlib.Core.Path.{◌≡◌, refl, ap}
use mathlib.Core.List.{List, [], ◌∷◌}
use Prim.Native.Nat.{ℕ}
use lib.ListN.{take, drop, replicate}
use Rattle.field.specs.Table.{formats}
use Rattle.message.specs.Message.{largest}
use Rattle.message.specs.Build.{message_of}
use Rattle.writing.specs.Writing.{field_fault, fields_fault, message_fault, write_message}
use Rattle.parts.specs.Parts.{part_of}
use Rattle.parts.specs.declared.Part.TheVariants as part
use Rattle.state.specs.declared.Outcome.TheVariants.{Send, Refused}
use Rattle.state.specs.declared.Phase.TheVariants.{Resting, Pending}
use Rattle.state.specs.declared.Reason.TheVariants.{Silence}
use Rattle.call_definitions.specs.Events.{run, settles}
use Rattle.worked.specs.Desk.{opened, keyed, approval, totals}
use Rattle.worked.specs.Worked.{counts_f, fields_named, first_sent, sent, sale_on_wire, fullest, after_f, after_g, after_h, after_k, first_sale, settlement_of}
use Rattle.worked.proofs.Machine.{machine}

pub sent_bytes : sent ≡ sale_on_wire
unfolding machine
sent_bytes = refl

-- n bytes of it from place k on
pub sent_at : (k n : ℕ) → take n (drop k sent) ≡ take n (drop k sale_on_wire)
sent_at k n = ap (λ (s : List ℕ). take n (drop k s)) sent_bytes

pub d_fields : fields_named (take 8 (drop 2 sent)) 1 64 ≡ 2 ∷ 3 ∷ 4 ∷ 11 ∷ 22 ∷ 25 ∷ 41 ∷ 42 ∷ 49 ∷ 60 ∷ 64 ∷ []
unfolding machine
d_fields = ap (λ (s : List ℕ). fields_named s 1 64) (sent_at 2 8)

pub e : first_sent.outcome ≡ Send 77
unfolding machine
e = refl

pub longest : (write_message (message_of 0x0510 (fullest formats)) (replicate largest 0)).outcome ≡ Ok largest
unfolding machine field_fault fields_fault message_fault write_message
longest = refl

pub f : totals after_f ≡ record { debit = 12000; debits = 1; credit = 12000; credits = 1 }
unfolding machine
f = refl

pub f_counts : after_f.state.counts ≡ counts_f
unfolding machine
f_counts = refl

pub f_settles : (run (settles ∷ []) after_f).outcome ≡ Send 80
unfolding machine
f_settles = refl

pub f_debit : part_of (settlement_of after_f) part.DebitAmount ≡ Some 12000
unfolding machine
f_debit = refl

pub f_debits : part_of (settlement_of after_f) part.DebitCount ≡ Some 1
unfolding machine
f_debits = refl

pub f_credit : part_of (settlement_of after_f) part.CreditAmount ≡ Some 12000
unfolding machine
f_credit = refl

pub f_credits : part_of (settlement_of after_f) part.CreditCount ≡ Some 1
unfolding machine
f_credits = refl

pub g : after_g.state.counts.given_up ≡ 1
unfolding machine
g = refl

pub g_free : after_g.state.phase ≡ Resting
unfolding machine
g_free = refl

pub h : after_h.state.phase ≡ Pending (record { request = first_sale 8000; reason = Silence; sendings = 1 })
unfolding machine
h = refl

pub j : (run (keyed 25 100000 0 ∷ []) (opened 1)).outcome ≡ Send 98
unfolding machine
j = refl

pub j_refused : (run (keyed 25 100001 0 ∷ []) (opened 1)).outcome ≡ Refused 17
unfolding machine
j_refused = refl

pub k_rest : after_k.state.phase ≡ Resting
unfolding machine
k_rest = refl

pub k : (run (approval 22 12000 2 ∷ []) after_k).outcome ≡ Refused 14
unfolding machine
k = refl
