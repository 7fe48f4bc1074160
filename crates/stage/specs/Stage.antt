-- Where a rehearsal stands.
use Rattle.std.specs.Prelude.{Bool, true, ℕ}
use Rattle.state.specs.declared.Outcome.{Outcome}
use Rattle.state.specs.declared.Outcome.TheVariants.{Send, Quiet, Refused}
use Rattle.state.specs.declared.Settings.{Settings}
use Rattle.state.specs.declared.State.{State}
use Rattle.state.specs.State.{fresh}
use Rattle.stage.specs.declared.Rehearsal.{Rehearsal}

-- no batch number of the centre's own: it brings to a sign-on the number that the request carried
abbrev pub as_sent : ℕ
as_sent = 1000000

-- terminal: a fresh terminal and an empty journal; it forgets the last message and the centre's batch number, and keeps the date and the echo
abbrev pub begun : Settings → Rehearsal → Rehearsal
begun x r = record { begun = true; state = fresh x; date = r.date; batch = as_sent; length = 0; echo = r.echo }

abbrev pub dated : ℕ → Rehearsal → Rehearsal
dated d r = record { begun = r.begun; state = r.state; date = d; batch = r.batch; length = r.length; echo = r.echo }

abbrev pub numbered : ℕ → Rehearsal → Rehearsal
numbered n r = record { begun = r.begun; state = r.state; date = r.date; batch = n; length = r.length; echo = r.echo }

abbrev pub echoing : Bool → Rehearsal → Rehearsal
echoing on r = record { begun = r.begun; state = r.state; date = r.date; batch = r.batch; length = r.length; echo = on }

-- a call: what left is the last message
abbrev pub length_after : Outcome → ℕ → ℕ
length_after (Send n) old = n
length_after Quiet old = old
length_after (Refused n) old = old

abbrev pub after_call : Outcome → State → Rehearsal → Rehearsal
after_call o s r =
    record { begun = true; state = s; date = r.date; batch = r.batch; length = length_after o r.length; echo = r.echo }
