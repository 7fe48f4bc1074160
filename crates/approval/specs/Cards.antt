-- The card of an entry: the number that its digits say, and how many they are.
use Rattle.digits.specs.Packed.{packed_number}
use Rattle.entry.specs.declared.Entry.{Entry}
use Rattle.state.specs.declared.Card.{Card}

abbrev pub card_of : Entry → Card
card_of e = record { number = packed_number e.digits e.card; length = e.digits }
