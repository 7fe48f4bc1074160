-- What is proved of an entry's bytes and its values.
use Rattle.std.specs.Prelude.{◌≡◌, List, true, ℕ, ◌<◌, length, get_or}
use Rattle.entry.specs.Entry.{entry_size, decode, encode}
use Rattle.entry.specs.Form.{in_form}
use Rattle.entry.specs.declared.Entry.{Entry}

-- what every value of the type satisfies: its arrays have their lengths
pub record Shaped (e : Entry) : Type 0 where
  pub card_length : length e.card ≡ 10
  pub date_length : length e.date ≡ 2
  pub authorisation_length : length e.authorisation ≡ 6
  pub reference_length : length e.reference ≡ 12
  pub reserved_length : length e.reserved ≡ 4

-- an entry in form, written and read, has its values
abbrev pub WrittenReadsBack : Type 0
WrittenReadsBack = (e : Entry) → Shaped e → in_form e ≡ true → decode (encode e) ≡ e

-- bytes that are an entry in form, read and written, are the same bytes
abbrev pub ReadWritesBack : Type 0
ReadWritesBack = (b : List ℕ) → length b ≡ entry_size → ((i : ℕ) → get_or b i 0 < 256) → in_form (decode b) ≡ true → encode (decode b) ≡ b
