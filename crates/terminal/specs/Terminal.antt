-- What a method gives back, with what it leaves in what was lent; the constants of the terminal.
use Rattle.numbers.specs.Limits.{largest_amount, most_entries, most_sendings}
use Rattle.message.specs.Message.{largest}
use Rattle.entry.specs.Entry.{entry_size}
use Rattle.state.specs.Calls.{Lent, Result}
use Rattle.state.specs.declared.Called.{Called}
use Rattle.terminal.specs.declared.Limits.{Limits}
use Rattle.terminal.specs.declared.Step.{Step}

-- the bytes of a message buffer and of an entry, and the largest settings
abbrev pub limits : Limits
limits = record { message = largest; entry = entry_size; entries = most_entries; sendings = most_sendings; refund = largest_amount }

abbrev pub step_result : Step → Lent → Result
step_result r lent = record { outcome = r.outcome; state = r.terminal.state; lent = lent }

-- the outcome and the state of a call as a step of the terminal
abbrev pub step_of : Called → Step
step_of c = record { outcome = c.outcome; terminal = record { state = c.state } }
