-- `image::read` meets its contract: the numbers are compared with those of the state that they say.
use Rattle.std.proofs.Common.{sym, ◌∙◌, arith, rules}
use mathlib.Core.Bool.{true≢false}
use lib.Pointwise.{bytes_decides}
use Rattle.digits.proofs.Lists.{tail_part}
use Rattle.image_definitions.specs.Layout.{region_offset}
use Rattle.image_definitions.specs.Sized.{Bytes}
use Rattle.image_definitions.proofs.Found.{read_length, read_same, read_other}
use Rattle.image.proofs.read.Goals as goal

pub returns-then-b-ne-SIZE : goal.returns-then-b-ne-SIZE
returns-then-b-ne-SIZE c = read_length c.args.b.now c.if-b-ne-SIZE.true

pub returns-then-eq : goal.returns-then-eq
returns-then-eq c =
    let bytes : Bytes c.args.b.now = λ i. omega (arith, c.type_inv.b i) in
    read_same c.args.b.now (search rules) bytes (c.state_of-state.ensures ∙ rw (c.numbers_in-numbers.ensures, tail_part region_offset c.args.b.now))
    c.values_of.ensures
    (sym c.numbers_in-numbers.ensures ∙ (bytes_decides _ _).0 (sym c.eq.ensures ∙ c.if-eq.true))

pub returns-else-eq : goal.returns-else-eq
returns-else-eq c =
    let bytes : Bytes c.args.b.now = λ i. omega (arith, c.type_inv.b i) in
    read_other c.args.b.now (search rules) bytes (c.state_of-state.ensures ∙ rw (c.numbers_in-numbers.ensures, tail_part region_offset c.args.b.now))
    c.values_of.ensures
    (λ e. true≢false (sym ((bytes_decides _ _).1 (c.numbers_in-numbers.ensures ∙ e)) ∙ sym c.eq.ensures ∙ c.if-eq.false))
