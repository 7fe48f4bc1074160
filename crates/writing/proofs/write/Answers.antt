-- `writing::write` meets its contract.
use Rattle.std.proofs.Common.{rules, arith, ◌≡◌, length, length-take, Err, sym}
use borrow.Author.Tests.{lt-ltb}
use Rattle.writing.specs.Writing.{write_message}
use Rattle.writing.proofs.Putting.{contents_fit, message-refused, message-written}
use Rattle.writing.proofs.write.Goals as goal

pub returns-then-buf-lt-LARGEST : goal.returns-then-buf-lt-LARGEST
unfolding write_message
returns-then-buf-lt-LARGEST c = rw (lt-ltb _ _ c.if-buf-lt-LARGEST.true)

pub returns-in_err-n : goal.returns-in_err-n
returns-in_err-n c =
    let e = c.in_err-n.field-0.0 in
    let q : c.from_residual.result ≡ Err e = search rules in
    rw q (message-refused c.args.m.now c.args.buf.now _ e c.if-buf-lt-LARGEST.false c.put_contents.ensures c.in_err-n.was)

pub put_message-requires : goal.put_message-requires
put_message-requires c =
    let fit = contents_fit c.args.m.now c.put_contents.ensures c.in_ok-n.was in
    rw length-take (omega (arith, c.if-buf-lt-LARGEST.false))

pub returns : goal.returns
returns c =
    message-written c.args.m.now c.args.buf.now c.put_contents.new.out c.if-buf-lt-LARGEST.false c.put_contents.ensures c.in_ok-n.was c.put_message.ensures
