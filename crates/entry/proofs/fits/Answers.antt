-- `fits` meets its contract.
use Rattle.entry.specs.Entry.{decode}
use Rattle.entry.specs.Form.{fits, keeps_voided, keeps_unmarked, keeps_resends, keeps_silent}
use Rattle.entry.proofs.fits.Goals as goal

pub returns : goal.returns
unfolding decode fits keeps_voided keeps_unmarked keeps_resends keeps_silent
returns c =
    rw (c.is_in_form.ensures, c.is_voidable.ensures, c.is_due.ensures)
