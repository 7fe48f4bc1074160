-- The number that is taken is a trace number, and free.
use Rattle.traces.specs.Theorems.{TakenIsFree}
use Rattle.traces.proofs.Free.{taken_free, taken_range}

pub taken-is-free : TakenIsFree
taken-is-free es x a b c =
    let r = taken_range es x a b in
    record { least = r.0; most = r.1; free = taken_free es x a b c }
