-- Laws of a terminal in order whose phase, chip and counts change, its journal not.
use mathlib.Core.Path.{◌≡◌, refl, ◌∙◌}
use mathlib.Core.List.{List}
use mathlib.Core.Bool.{Bool, true, false, cond, or-true}
use Prim.Native.Nat.{ℕ, ◌+◌, ◌≤◌, ◌<◌}
use native.Mathlib.Omega.{arith}
use lib.Dec.{leb}
use borrow.Author.Tests.{leb-false, lt-ltb, ltb-true}
use Rattle.numbers.specs.Limits.{last_number}
use Rattle.kinds.specs.Kinds.{is_due, is_never_reversed}
use Rattle.kinds.specs.Sums.{together}
use Rattle.entry.specs.Form.{keeps_unmarked, due_entry}
use Rattle.entry.specs.declared.Entry.{Entry}
use Rattle.journal.specs.Journal.{entries_of, sums_of}
use Rattle.journal.proofs.Searches.{every_implies}
use Rattle.traces.proofs.Free.{following_range}
use Rattle.numbers.specs.declared.Trace.{Trace}
use Rattle.numbers.specs.declared.Batch.{Batch}
use Rattle.state.specs.declared.Reason.{Reason}
use Rattle.state.specs.declared.Request.{Request}
use Rattle.state.specs.declared.Reversal.{Reversal}
use Rattle.state.specs.declared.Awaited.{Awaited}
use Rattle.state.specs.declared.Awaited.TheVariants as awaited
use Rattle.state.specs.declared.Approval.{Approval}
use Rattle.state.specs.declared.Chip.{Chip}
use Rattle.state.specs.declared.Phase.{Phase}
use Rattle.state.specs.declared.Phase.TheVariants.{Resting, Waiting, Pending, Settling, Uploading}
use Rattle.state.specs.declared.Counts.{Counts}
use Rattle.state.specs.declared.State.{State}
use Rattle.state.specs.declared.Count.TheVariants.{Declined, Reversed, GivenUp, Unanswered}
use Rattle.state.specs.State.{no_chip, has_chip, as_sent, approved_by, ended_in, plus, in_phase, with_chip, with_counts, with_sign_on, with_next, in_batch, signed, closed, waits}
use Rattle.state.specs.Calls.{Lent}
use Rattle.rules.specs.Rules.{in_upload, awaited_item, phase_kept, due}
use Rattle.state_rules.specs.StateRules.{request_in_form, reversal_in_form, phase_in_form, kind_in, request_awaited, sign_on_kept, waiting}
use Rattle.state_rules.proofs.Holds.{request-holds, MayApprove, approval_back, answered_back, ChipHolds, no_chip_lem, chip-reversed, chip_stays, no_sign_on_lem, none_over_wait}
use Rattle.rules.proofs.InOrder.{JournalHolds, Fit}
use Rattle.effect_definitions.specs.StateEffects.{ended, again, pending_or_unanswered, failed}
use Rattle.numbers.proofs.Bounds.{within_yes}

-- what a new phase, a new chip and new counts must keep
pub record Moves (p : Phase) (k : Chip) (c : Counts) (s : State) (es : List Entry) : Type 0 where
  pub sent_same : c.sent ≡ s.counts.sent
  pub approved_same : c.approved ≡ s.counts.approved
  pub phase_form : phase_in_form p ≡ true
  pub chip : ChipHolds p k
  pub balance : c.sent ≡ ended_in c + waiting p
  pub journal : JournalHolds s.settings.sendings (due p) (in_upload p) (awaited_item p) es
  pub phase_kept : phase_kept s.settings s.entries es p ≡ true
  pub alone : s.sign_on.0 ≡ 0

-- over a wait no sign-on is awaited
pub over_wait : (s : State) (lent : Lent) (a : Awaited) → Fit (in_phase (Waiting a) s) lent → s.sign_on.0 ≡ 0
over_wait s lent a h = none_over_wait (Waiting a) s.sign_on refl h.order.state.sign_on

pub moved : (p : Phase) (k : Chip) (c : Counts) (s : State) (lent : Lent) → Fit s lent → Moves p k c s (entries_of s.entries lent.journal)
    → Fit (in_phase p (with_chip k (with_counts c s))) lent
moved p k c s lent f w =
    let h = f.order.state in
    record {
      message_room = f.message_room;
      journal_room = f.journal_room;
      order =
          record {
            state =
                record {
                  settings = h.settings;
                  batch_least = h.batch_least;
                  batch_most = h.batch_most;
                  next_least = h.next_least;
                  next_most = h.next_most;
                  sent_most = omega arith;
                  phase_form = w.phase_form;
                  chip = w.chip;
                  sign_on = no_sign_on_lem p s.sign_on w.alone;
                  few = h.few;
                  balance = w.balance;
                  approvals = w.approved_same ∙ h.approvals;
                  totals = h.totals;
                };
            journal = w.journal;
            phase_kept = w.phase_kept;
          };
    }

-- no mark stands as the upload begins
upload-begins : (e : Entry) → keeps_unmarked due_entry false e ≡ true → keeps_unmarked due_entry true e ≡ true
unfolding keeps_unmarked
upload-begins e h = rw h (or-true (is_due e.kind))

-- a request that is no refund makes a reversal in form, whatever its reason and sendings
reversal-form : (q : Request) (r : Reason) (n : ℕ) → request_in_form q ≡ true → is_never_reversed q.kind ≡ false
    → reversal_in_form (record { request = q; reason = r; sendings = n }) ≡ true
unfolding reversal_in_form
reversal-form q r n f e = rw (f, e)

again-form : (v : Reversal) → reversal_in_form v ≡ true → reversal_in_form (again v) ≡ true
unfolding reversal_in_form
again-form v f = f

module _ (s : State) (lent : Lent) where
  -- a request without a decision
  pub pending_or_unanswered_fit : (r : Reason) (q : Request) → Fit (in_phase (Waiting (awaited.Request q)) s) lent → Fit (pending_or_unanswered r q s) lent
  unfolding pending_or_unanswered
  pending_or_unanswered_fit r q h = go (is_never_reversed q.kind) refl
    where
      go : (b : Bool) → is_never_reversed q.kind ≡ b
          → Fit (cond b (ended Unanswered s)
          (in_phase (Pending (record { request = q; reason = r; sendings = 0 })) (with_chip (as_sent s.chip) s))) lent
      go true e =
          moved Resting no_chip (plus Unanswered s.counts) (in_phase (Waiting (awaited.Request q)) s) lent h
          (record {
            sent_same = refl;
            approved_same = refl;
            phase_form = refl;
            chip = no_chip_lem Resting;
            journal = h.order.journal;
            balance = omega arith;
            phase_kept = refl;
            alone = over_wait s lent (awaited.Request q) h;
          })
      go false e =
          moved (Pending (record { request = q; reason = r; sendings = 0 })) (as_sent s.chip) s.counts (in_phase (Waiting (awaited.Request q)) s) lent h
          (record {
            sent_same = refl;
            approved_same = refl;
            phase_form = reversal-form q r 0 h.order.state.phase_form e;
            chip = chip-reversed (Waiting (awaited.Request q)) (Pending (record { request = q; reason = r; sendings = 0 })) s.chip refl h.order.state.chip;
            journal = h.order.journal;
            balance = h.order.state.balance;
            phase_kept = lt-ltb 0 s.settings.sendings h.order.state.settings.sendings_least;
            alone = over_wait s lent (awaited.Request q) h;
          })

  pub declined_fit : (q : Request) → Fit (in_phase (Waiting (awaited.Request q)) s) lent → Fit (ended Declined s) lent
  declined_fit q h =
      moved Resting no_chip (plus Declined s.counts) (in_phase (Waiting (awaited.Request q)) s) lent h
      (record {
        sent_same = refl;
        approved_same = refl;
        phase_form = refl;
        chip = no_chip_lem Resting;
        journal = h.order.journal;
        balance = omega arith;
        phase_kept = refl;
        alone = over_wait s lent (awaited.Request q) h;
      })

  -- a good approval of a request with a chip: the card's word is awaited
  pub consent_fit : (q : Request) (a : Approval) → Fit (in_phase (Waiting (awaited.Request q)) s) lent → has_chip s.chip ≡ true
      → MayApprove q a → Fit (in_phase (Waiting (awaited.Request q)) (with_chip (approved_by a s.chip) s)) lent
  consent_fit q a h c w =
      moved (Waiting (awaited.Request q)) (approved_by a s.chip) s.counts (in_phase (Waiting (awaited.Request q)) s) lent h
      (record {
        sent_same = refl;
        approved_same = refl;
        phase_form = h.order.state.phase_form;
        chip =
            record {
              sent = h.order.state.chip.sent;
              awaited = λ y. rw (c, approval_back a w.0)
                  (answered_back (Waiting (awaited.Request q)) a.amount (request-holds q h.order.state.phase_form).amount_least w.1);
            };
        journal = h.order.journal;
        balance = h.order.state.balance;
        phase_kept = h.order.phase_kept;
        alone = over_wait s lent (awaited.Request q) h;
      })

  -- a reversal's sending failed
  pub failed_fit : (v : Reversal) → Fit (in_phase (Waiting (awaited.Reversal v)) s) lent → Fit (failed v s) lent
  unfolding failed
  failed_fit v h = go (leb s.settings.sendings v.sendings) refl
    where
      go : (b : Bool) → leb s.settings.sendings v.sendings ≡ b
          → Fit (cond b (ended GivenUp s) (in_phase (Pending v) s)) lent
      go true e =
          moved Resting no_chip (plus GivenUp s.counts) (in_phase (Waiting (awaited.Reversal v)) s) lent h
          (record {
            sent_same = refl;
            approved_same = refl;
            phase_form = refl;
            chip = no_chip_lem Resting;
            journal = h.order.journal;
            balance = omega arith;
            phase_kept = refl;
            alone = over_wait s lent (awaited.Reversal v) h;
          })
      go false e =
          moved (Pending v) s.chip s.counts (in_phase (Waiting (awaited.Reversal v)) s) lent h
          (record {
            sent_same = refl;
            approved_same = refl;
            phase_form = h.order.state.phase_form;
            chip = chip_stays (Waiting (awaited.Reversal v)) (Pending v) s.chip refl refl h.order.state.chip;
            journal = h.order.journal;
            balance = h.order.state.balance;
            phase_kept = lt-ltb v.sendings s.settings.sendings (leb-false _ _ e);
            alone = over_wait s lent (awaited.Reversal v) h;
          })

  pub reversed_fit : (v : Reversal) → Fit (in_phase (Waiting (awaited.Reversal v)) s) lent → Fit (ended Reversed s) lent
  reversed_fit v h =
      moved Resting no_chip (plus Reversed s.counts) (in_phase (Waiting (awaited.Reversal v)) s) lent h
      (record {
        sent_same = refl;
        approved_same = refl;
        phase_form = refl;
        chip = no_chip_lem Resting;
        journal = h.order.journal;
        balance = omega arith;
        phase_kept = refl;
        alone = over_wait s lent (awaited.Reversal v) h;
      })

  -- a pending reversal leaves again
  pub again_fit : (v : Reversal) → s.sign_on.0 ≡ 0 → Fit (in_phase (Pending v) s) lent → Fit (in_phase (Waiting (awaited.Reversal (again v))) s) lent
  again_fit v z h =
      let l : v.sendings < s.settings.sendings = ltb-true v.sendings s.settings.sendings h.order.phase_kept in
      moved (Waiting (awaited.Reversal (again v))) s.chip s.counts (in_phase (Pending v) s) lent h
      (record {
        sent_same = refl;
        approved_same = refl;
        phase_form = again-form v h.order.state.phase_form;
        chip = chip_stays (Pending v) (Waiting (awaited.Reversal (again v))) s.chip refl refl h.order.state.chip;
        journal = h.order.journal;
        balance = h.order.state.balance;
        phase_kept = within_yes 1 (v.sendings + 1) s.settings.sendings (omega arith) (omega arith);
        alone = z;
      })

  -- a settlement unanswered, or answered by an upload; the upload's end, not closed
  pub settling_fit : (x : Trace) → Fit (in_phase (Waiting (awaited.Settlement x)) s) lent → Fit (in_phase Settling s) lent
  settling_fit x h =
      moved Settling s.chip s.counts (in_phase (Waiting (awaited.Settlement x)) s) lent h
      (record {
        sent_same = refl;
        approved_same = refl;
        phase_form = refl;
        chip = chip_stays (Waiting (awaited.Settlement x)) Settling s.chip refl refl h.order.state.chip;
        journal = h.order.journal;
        balance = h.order.state.balance;
        phase_kept = refl;
        alone = over_wait s lent (awaited.Settlement x) h;
      })

  pub uploading_fit : (x : Trace) → Fit (in_phase (Waiting (awaited.Settlement x)) s) lent → Fit (in_phase Uploading s) lent
  uploading_fit x h =
      moved Uploading s.chip s.counts (in_phase (Waiting (awaited.Settlement x)) s) lent h
      (record {
        sent_same = refl;
        approved_same = refl;
        phase_form = refl;
        chip = chip_stays (Waiting (awaited.Settlement x)) Uploading s.chip refl refl h.order.state.chip;
        journal =
            record {
              form = h.order.journal.form;
              apart = h.order.journal.apart;
              voided = h.order.journal.voided;
              debit_most = h.order.journal.debit_most;
              credit_most = h.order.journal.credit_most;
              unmarked =
                  every_implies (λ i e. keeps_unmarked due_entry false e) (λ i e. keeps_unmarked due_entry true e) (λ i e. upload-begins e)
                  0 (entries_of s.entries lent.journal) h.order.journal.unmarked;
              resends = h.order.journal.resends;
              silent = h.order.journal.silent;
            };
        balance = h.order.state.balance;
        phase_kept = refl;
        alone = over_wait s lent (awaited.Settlement x) h;
      })

  pub ending_fit : (x : Trace) → Fit (in_phase (Waiting (awaited.End x)) s) lent → Fit (in_phase Uploading s) lent
  ending_fit x h =
      moved Uploading s.chip s.counts (in_phase (Waiting (awaited.End x)) s) lent h
      (record {
        sent_same = refl;
        approved_same = refl;
        phase_form = refl;
        chip = chip_stays (Waiting (awaited.End x)) Uploading s.chip refl refl h.order.state.chip;
        journal = h.order.journal;
        balance = h.order.state.balance;
        phase_kept = refl;
        alone = over_wait s lent (awaited.End x) h;
      })

  -- a closed batch
  pub closed_fit : kind_in s.phase ≡ 0 → request_awaited s.phase ≡ false → waits s.phase ≡ true → Fit s lent → Fit (closed s) lent
  unfolding sums_of together
  closed_fit k w u h =
      let f = following_range s.batch.0 in
      record {
        message_room = h.message_room;
        journal_room = h.journal_room;
        order =
            record {
              state =
                  record {
                    settings = h.order.state.settings;
                    batch_least = f.0;
                    batch_most = f.1;
                    next_least = h.order.state.next_least;
                    next_most = h.order.state.next_most;
                    sent_most = omega arith;
                    phase_form = refl;
                    chip = chip_stays s.phase Resting s.chip k w h.order.state.chip;
                    sign_on = no_sign_on_lem Resting s.sign_on (none_over_wait s.phase s.sign_on u h.order.state.sign_on);
                    few = omega arith;
                    balance = refl;
                    approvals = refl;
                    totals = refl;
                  };
              journal =
                  record {
                    form = refl;
                    apart = refl;
                    voided = refl;
                    debit_most = omega arith;
                    credit_most = omega arith;
                    unmarked = refl;
                    resends = refl;
                    silent = refl;
                  };
              phase_kept = refl;
            };
      }

  -- another trace is next
  pub next_fit : (x : Trace) → 1 ≤ x.0 → x.0 ≤ last_number → Fit s lent → Fit (with_next x s) lent
  next_fit x a b f =
      let h = f.order.state in
      record {
        message_room = f.message_room;
        journal_room = f.journal_room;
        order =
            record {
              state =
                  record {
                    settings = h.settings;
                    batch_least = h.batch_least;
                    batch_most = h.batch_most;
                    next_least = a;
                    next_most = b;
                    sent_most = h.sent_most;
                    phase_form = h.phase_form;
                    chip = h.chip;
                    sign_on = h.sign_on;
                    few = h.few;
                    balance = h.balance;
                    approvals = h.approvals;
                    totals = h.totals;
                  };
              journal = f.order.journal;
              phase_kept = f.order.phase_kept;
            };
      }

  -- a sign-on is awaited, or ends
  pub sign_on_fit : (x : Trace) → sign_on_kept s.phase x ≡ true → Fit s lent → Fit (with_sign_on x s) lent
  sign_on_fit x k f =
      let h = f.order.state in
      record {
        message_room = f.message_room;
        journal_room = f.journal_room;
        order =
            record {
              state =
                  record {
                    settings = h.settings;
                    batch_least = h.batch_least;
                    batch_most = h.batch_most;
                    next_least = h.next_least;
                    next_most = h.next_most;
                    sent_most = h.sent_most;
                    phase_form = h.phase_form;
                    chip = h.chip;
                    sign_on = k;
                    few = h.few;
                    balance = h.balance;
                    approvals = h.approvals;
                    totals = h.totals;
                  };
              journal = f.order.journal;
              phase_kept = f.order.phase_kept;
            };
      }

  -- signing on or off, perhaps in another batch
  pub signed_fit : (on : Bool) (batch : Batch) → 1 ≤ batch.0 → batch.0 ≤ last_number → Fit s lent
      → Fit (signed on (in_batch batch s)) lent
  signed_fit on batch a b f =
      let h = f.order.state in
      record {
        message_room = f.message_room;
        journal_room = f.journal_room;
        order =
            record {
              state =
                  record {
                    settings = h.settings;
                    batch_least = a;
                    batch_most = b;
                    next_least = h.next_least;
                    next_most = h.next_most;
                    sent_most = h.sent_most;
                    phase_form = h.phase_form;
                    chip = h.chip;
                    sign_on = h.sign_on;
                    few = h.few;
                    balance = h.balance;
                    approvals = h.approvals;
                    totals = h.totals;
                  };
              journal = f.order.journal;
              phase_kept = f.order.phase_kept;
            };
      }

  pub off_fit : Fit s lent → Fit (signed false s) lent
  off_fit h = signed_fit false s.batch h.order.state.batch_least h.order.state.batch_most h
