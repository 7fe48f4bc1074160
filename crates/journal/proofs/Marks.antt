-- Laws of an entry whose voided flag, upload mark or number of resends is changed.
use mathlib.Core.Path.{◌≡◌, refl}
use mathlib.Core.Bool.{true}
use Prim.Native.Nat.{ℕ, ◌≤◌}
use borrow.Author.Tests.{le-leb}
use Rattle.entry.specs.Form.{in_form}
use Rattle.entry.specs.declared.Entry.{Entry}
use Rattle.entry.proofs.Form.{in_form_lem}
use Rattle.journal.specs.Journal.{with_voided, with_mark, with_resends}

module _ (x : ℕ) (e : Entry) where
  pub voided-form : x ≤ 1 → in_form e ≡ true → in_form (with_voided x e) ≡ true
  unfolding with_voided in_form
  voided-form h f = rw (le-leb x 1 h) (rw (le-leb e.voided 1 (in_form_lem e f).voided_most) at f)

  pub mark_form : x ≤ 4 → in_form e ≡ true → in_form (with_mark x e) ≡ true
  unfolding with_mark in_form
  mark_form h f = rw (le-leb x 4 h) (rw (le-leb e.mark 4 (in_form_lem e f).mark_most) at f)

  pub resends-form : in_form (with_resends x e) ≡ in_form e
  unfolding with_resends in_form
  resends-form = refl
