-- The rules of each call stand in the one order of all rules: computed.
use mathlib.Core.Path.{refl}
use Rattle.checks.specs.Checks.{check_order}
use Rattle.call_theorems.specs.Order.{ListsInOrder}

pub lists_in_order : ListsInOrder
unfolding check_order
lists_in_order =
    record {
      sign_on = λ s lent. refl;
      start = λ d b s es e lent. refl;
      answer = λ a s j. refl;
      no_answer = λ s lent. refl;
      power_returned = λ s lent. refl;
      card = λ s lent. refl;
      send_reversal = λ s lent. refl;
      settle = λ s lent. refl;
      send_next_upload = λ s lent. refl;
    }
