-- `message::keys_in_form` meets its contract.
use Rattle.std.proofs.Common.{sym, ◌∙◌}
use Rattle.message.proofs.Late.{keys-within, keys-count, keys_missing}
use Rattle.message.proofs.keys_in_form.Goals as goal

pub bounds-m-at : goal.bounds-m-at
bounds-m-at c = keys-within c.args.m.now (sym c.locate.ensures ∙ c.in-Some.is)

pub returns-in-Some : goal.returns-in-Some
returns-in-Some c =
    rw (← keys-count c.args.m.now (sym c.locate.ensures ∙ c.in-Some.is), ← c.from.ensures) c.is_key_length.ensures

pub returns-in-None : goal.returns-in-None
returns-in-None c = sym (keys_missing c.args.m.now (sym c.locate.ensures ∙ c.in-None.is))
