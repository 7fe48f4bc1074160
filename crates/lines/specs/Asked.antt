-- What a line asks for, by numbers: a call, or none; it may not be obeyed for an error, and 0 is none.
use Rattle.std.specs.Prelude.{ℕ, Option, Some, None, Result, Ok, Err}
use Rattle.calls.specs.declared.Call as calls
use Rattle.lines.specs.declared.asks.Unobeyed.{Unobeyed}
use Rattle.lines.specs.declared.asks.Unobeyed.TheVariants.{NoTerminal, NothingLeft, SettlementLeft, NoSettlement, NoCardRequest}

pub data Asked : Type 0 where
  Call : calls.Call → Asked
  Error : ℕ → Asked

abbrev pub number_of : Unobeyed → ℕ
number_of NoTerminal = 1
number_of NothingLeft = 2
number_of SettlementLeft = 3
number_of NoSettlement = 4
number_of NoCardRequest = 5

-- the number of why a line is not obeyed, 0 where it is
abbrev pub number_in : Option Unobeyed → ℕ
number_in None = 0
number_in (Some e) = number_of e

abbrev pub unobeyed_by : {A : Type 0} → Result A Unobeyed → ℕ
unobeyed_by (Ok x) = 0
unobeyed_by (Err e) = number_of e

abbrev pub asked_as : Result (Option calls.Call) Unobeyed → Asked
asked_as (Ok (Some c)) = Call c
asked_as (Ok None) = Error 0
asked_as (Err e) = Error (number_of e)
