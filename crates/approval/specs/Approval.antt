-- Document 01, "State and journal" and "Calls": the entry of an approval.
use Rattle.std.specs.Prelude.{List, ◌++◌, cond, ℕ, take, replicate}
use Rattle.digits.specs.Digits.{pack}
use Rattle.digits.specs.Numbers.{digits_of}
use Rattle.digits.specs.Packed.{numeral}
use Rattle.message.specs.Message.{field_of}
use Rattle.message.specs.declared.Message.{Message}
use Rattle.parts.specs.Parts.{copies, part_of}
use Rattle.parts.specs.declared.Part.TheVariants.{Amount}
use Rattle.entry.specs.declared.Entry.{Entry}
use Rattle.state.specs.declared.Approval.{Approval}
use Rattle.state.specs.declared.Card.{Card}
use Rattle.state.specs.declared.Request.{Request}

-- field n of k bytes, or these where the message does not hold it
unfoldable pub field_or : ℕ → ℕ → List ℕ → Message → List ℕ
field_or n k b m = cond (copies m n k) (field_of m n).bytes b

-- a card's digits, zero filled to ten bytes
unfoldable pub zero_filled : Card → List ℕ
zero_filled c = pack (take 20 (digits_of c.length c.number ++ replicate 20 0))

-- its amount the answer's field 4 (document 02, request 4), its date field 13; without field 38 it gives six spaces
unfoldable pub approval_of : Message → Approval
approval_of m =
    record {
      amount = numeral (part_of m Amount);
      date = field_or 13 2 (replicate 2 0) m;
      authorisation = field_or 38 6 (replicate 6 0x20) m;
      reference = field_or 37 12 (replicate 12 0) m;
    }

-- the entry of a request that is approved, for the answered amount
unfoldable pub approved_entry : Request → Approval → Entry
approved_entry q a =
    record {
      kind = q.kind;
      voided = 0;
      mark = 0;
      resends = 0;
      trace = q.trace;
      amount = a.amount;
      digits = q.card.length;
      card = zero_filled q.card;
      date = a.date;
      authorisation = a.authorisation;
      reference = a.reference;
      reserved = replicate 4 0;
    }
