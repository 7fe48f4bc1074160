-- Fields 54 and 60 of a message that was read.
use mathlib.Core.Path.{◌≡◌, refl, ◌∙◌}
use mathlib.Core.Bool.{true, ◌&&◌, and-eq-true_iff}
use Prim.Native.Nat.{ℕ}
use native.Mathlib.Omega.{arith}
use lib.Dec.{leb}
use Rattle.field.specs.Table.{among, variable, codes, formats}
use Rattle.field.specs.Contents.{code_lengths, allowed}
use Rattle.field.specs.declared.Class.TheVariants.{Printable}
use Rattle.field.specs.declared.Prefix.TheVariants.{Two}
use Rattle.field.proofs.Contents.{allowed-bounds}
use Rattle.message.specs.Message.{field_of}
use Rattle.message.specs.Located.{located, format_of}
use Rattle.reading.specs.Reading.{read_message}
use Rattle.message_theorems.specs.Readable.{Keeps}
use Rattle.message_theorems.specs.Partial.{CodesRead, BalanceRead}
use Rattle.message_theorems.proofs.Readable.{read_keeps_formats, printable-bytes}

-- what the format of field 60 allows
codes-allowed : (n : ℕ) → allowed (codes 60) n ≡ true → among n code_lengths ≡ true
unfolding allowed
codes-allowed n e = ((and-eq-true_iff (leb 11 n && leb n 14) (among n code_lengths)).0 e).1

pub codes-read : CodesRead
unfolding located formats
codes-read s q e = codes-allowed (field_of (read_message s).message 60).count (read_keeps_formats s q 60 e).allows

balance_format : format_of 54 ≡ variable 54 Printable Two 20 20
unfolding located formats
balance_format = refl

pub balance-read : BalanceRead
balance-read s q e =
    let r : Keeps (variable 54 Printable Two 20 20) (field_of (read_message s).message 54) = rw balance_format at (read_keeps_formats s q 54 e) in
    let b = allowed-bounds (variable 54 Printable Two 20 20) _ r.allows in
    (r.size_is ∙ omega arith, printable-bytes (field_of (read_message s).message 54).count _ r.no_fault)
