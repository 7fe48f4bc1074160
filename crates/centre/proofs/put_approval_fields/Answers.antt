-- `centre::put_approval_fields` meets its contract.
use Rattle.compose.proofs.Composed.{all_append}
use Rattle.centre.specs.Centre.{authorisation_field, mac_field}
use Rattle.centre.proofs.put_approval_fields.Goals as goal

pub returns : goal.returns
returns c =
    rw (
      c.put_mac.ensures,
      c.put_authorisation.ensures,
      c.put_trace_figures.ensures,
      c.put_number-2.ensures,
      c.from.ensures,
      c.put_number.ensures,
      c.answered_amount.ensures,
      all_append (authorisation_field c.args.sent.now c.args.code c.args.amount) mac_field,
    )
