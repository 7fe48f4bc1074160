-- What each row of the table of commands names.
use Rattle.std.specs.Prelude.{List, [], ◌∷◌}
use Rattle.calls.specs.declared.Call.TheVariants as call
use Rattle.script.specs.declared.Show.TheVariants as show
use Rattle.script.specs.declared.Name.{Name}
use Rattle.script.specs.declared.Name.TheVariants as name

abbrev pub names : List Name
names =
    name.Terminal
    ∷ name.Call call.SignOn
    ∷ name.Request 22
    ∷ name.Request 10
    ∷ name.Void 23
    ∷ name.Void 21
    ∷ name.Authorised 11
    ∷ name.Authorised 20
    ∷ name.Refund
    ∷ name.Start
    ∷ name.Answer
    ∷ name.Reply
    ∷ name.Reconcile
    ∷ name.Date
    ∷ name.CentreBatch
    ∷ name.Echo
    ∷ name.Call call.NoAnswer
    ∷ name.Call call.PowerReturned
    ∷ name.Call call.CardAgrees
    ∷ name.Call call.CardDeclines
    ∷ name.Call call.SendReversal
    ∷ name.Call call.Settle
    ∷ name.Call call.SendNextUpload
    ∷ name.Show show.Counts
    ∷ name.Show show.Totals
    ∷ name.Show show.State
    ∷ name.Show show.Journal
    ∷ name.Show show.Message
    ∷ name.Show show.Fields
    ∷ name.Unknown
    ∷ []
