-- Document 01, "Calls": start (kind and desk data): the request leaves. Document 02, request 1: with the desk's field 55.
use Rattle.std.specs.Prelude.{List, ◌++◌, cond, ℕ, ◌+◌, ◌*◌, Some, None, Option}
use Rattle.digits.specs.Packed.{packed_number}
use Rattle.writing.specs.Writing.{message_bytes}
use Rattle.numbers.specs.declared.Batch.{Batch}
use Rattle.kinds.specs.Kinds.{takes_original}
use Rattle.entry.specs.Entry.{blank}
use Rattle.entry.specs.declared.Entry.{Entry}
use Rattle.journal.specs.Journal.{entries_of, entry_at, original_for, totals_of, taken}
use Rattle.state.specs.declared.State.{State}
use Rattle.checks.specs.Checks.{Rule, first_broken}
use Rattle.state.specs.Calls.{Lent, Result, judged, sends}
use Rattle.rules.specs.Rules.{rules12}
use Rattle.outgoing.specs.Outgoing.{request_message}
use Rattle.outgoing.specs.declared.Original.{Original}
use Rattle.desk.specs.declared.Desk.{Desk}
use Rattle.desk.specs.DeskRules.{chip_from, request_of, chip_rules, rest_rules, desk_rules, journal_rules}
use Rattle.effect_definitions.specs.StateEffects.{requested}

-- the entry that a void is for, by the trace that the desk gives; no other kind has one
unfoldable pub original_of : Desk → List Entry → Option ℕ
original_of d es = cond (takes_original d.kind) (original_for d.kind d.original.0 es) None

abbrev pub entry_of : Option ℕ → List Entry → Entry
entry_of (Some i) es = entry_at es i
entry_of None es = blank

-- 21 and 23 name their original; the others have batch and trace zero and the desk's date
abbrev pub named_by : Desk → Batch → Entry → Original
named_by d batch e =
    cond (takes_original d.kind)
    (record {
      batch = batch;
      trace = e.trace;
      date = packed_number 4 e.date;
      authorisation = e.authorisation;
      reference = e.reference;
    })
    (record {
      batch = record { 0 = 0 };
      trace = record { 0 = 0 };
      date = d.month * 100 + d.day;
      authorisation = d.authorisation;
      reference = d.reference;
    })

-- the rules of start, in their order
abbrev pub start_rules : Desk → List ℕ → State → List Entry → Entry → Lent → List Rule
start_rules d b s es e lent =
    rules12 s lent ++ (chip_rules d b ++ (rest_rules s ++ (desk_rules d s.settings.refund ++ journal_rules d s (totals_of es) (original_of d es) e)))

abbrev started : Desk → List ℕ → State → List Entry → Entry → Lent → Result
started d b s es e lent =
    judged (first_broken (start_rules d b s es e lent)) s lent
    (sends
    (message_bytes
    (request_message s.settings s.batch (chip_from d b) (request_of d e (taken es s.next.0)) (named_by d s.batch e)))
    (requested s (chip_from d b) (request_of d e (taken es s.next.0))) lent)

unfoldable pub start : Desk → List ℕ → State → Lent → Result
start d b s lent =
    started d b s (entries_of s.entries lent.journal)
    (entry_of (original_of d (entries_of s.entries lent.journal)) (entries_of s.entries lent.journal)) lent
