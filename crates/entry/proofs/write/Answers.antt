-- `write` meets its contract: the values are written one after the other.
use Rattle.std.proofs.Common.{◌≡◌, length, rules}
use Rattle.digits.proofs.Copies.{copied_whole}
use Rattle.entry.specs.Entry.{entry_size}
use Rattle.entry.proofs.Bytes.{written}
use Rattle.entry.proofs.write.Goals as goal

pub returns : goal.returns
returns c =
    let l : length c.args.b.now ≡ entry_size = search rules in
    written c.args.e c.args.b.now l
    (record {
      card_length = search rules;
      date_length = search rules;
      authorisation_length = search rules;
      reference_length = search rules;
      reserved_length = search rules;
    })
    c.from.ensures c.put_number.ensures c.put_number-2.ensures
    (copied_whole _ _ c.copy.ensures (search rules)) (copied_whole _ _ c.copy-2.ensures (search rules))
    (copied_whole _ _ c.copy-3.ensures (search rules)) (copied_whole _ _ c.copy-4.ensures (search rules)) (copied_whole _ _ c.copy-5.ensures (search rules))
