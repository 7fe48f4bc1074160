-- `call_upload::send_next_upload` meets its contract.
use mathlib.Core.Path.{sym}
use Rattle.call_upload.proofs.Sending.{turned_down, no_upload, goes_out}
use Rattle.call_upload.proofs.send_next_upload.Goals as goal

pub returns-in-Err : goal.returns-in-Err
returns-in-Err c = rw (c.refused.ensures, c.into.ensures) (turned_down c.args.s _ _ c.in-Err.ensures)

pub returns-in_default-phase : goal.returns-in_default-phase
returns-in_default-phase c =
    rw (c.refused-in_default-phase.ensures, c.into-in_default-phase.ensures)
    (no_upload c.args.s _ c.in_default.ensures c.in_default-phase.not-Uploading)

pub send_next-requires : goal.send_next-requires
send_next-requires c = sym c.in_default.ensures

pub returns : goal.returns
returns c = goes_out c.args.s _ c.in_default.ensures _ _ c.in-Uploading.is c.send_next.ensures
