-- `word_values::text_into` meets its contract.
use Rattle.std.proofs.Common.{◌≡◌, is_ok, sym, ◌∙◌, rules}
use Rattle.word_values.proofs.Values.{bytes_told}
use Rattle.word_values.proofs.text_into.Goals as goal

pub returns-then-w-out : goal.returns-then-w-out
returns-then-w-out c =
    let e : c.is_ok.result ≡ is_ok c.hex_into.result = search rules in
    rw e (bytes_told _ _ (sym c.says_bytes.ensures ∙ c.if-says_bytes.true) c.if-w-out.true _ c.hex_into.ensures.0 c.hex_into.ensures.1)
