-- `whistlaurel::put_image` meets its contract.
use borrow.Author.Rules.{rules}
use mathlib.Core.Path.{◌∙◌}
use Rattle.digits.proofs.Copies.{copied_whole}
use Rattle.whistlaurel.proofs.put_image.Goals as goal

pub returns : goal.returns
returns c = copied_whole _ _ c.copy.ensures (search rules) ∙ c.image_of-b.ensures
