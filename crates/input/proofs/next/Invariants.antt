-- `input::next` meets its contract.
use Rattle.std.proofs.Common.{◌≡◌, ◌<◌, List, [], ℕ}
use Rattle.input.specs.declared.Input.{Input}
use Rattle.input.specs.Input.{left_in, Takes}
use Rattle.input.proofs.next.Given as goal

abbrev pub invariant-loop : goal.invariant-loop
invariant-loop l = record {
  file_is : l.at.file ≡ l.initial.at.file;
  number_is : l.at.number ≡ l.initial.at.number;
  nothing_left : 0 < l.counter → left_in l.at.left l.chunk ≡ [];
  takes_more : (r : Input) (c grown : List ℕ) → Takes l.at.left l.chunk l.at.len l.line r c grown
      → Takes l.initial.at.left l.initial.chunk l.initial.at.len l.initial.line r c grown;
}
