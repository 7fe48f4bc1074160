-- What hexadecimal text gives, and what a buffer then holds.
use Rattle.std.specs.Prelude.{List, ◌++◌, cond, ℕ, ◌/◌, leb, length, drop, Ok, Err, Result}
use Rattle.hexadecimal.specs.Hexadecimal.{is_hex, from_hex}
use Rattle.hexadecimal.specs.declared.HexError.{HexError}
use Rattle.hexadecimal.specs.declared.HexError.TheVariants.{NotHexadecimal, TooLong}

unfoldable pub hex_outcome : List ℕ → ℕ → Result ℕ HexError
hex_outcome s room = cond (is_hex s) (cond (leb (length s / 2) room) (Ok (length s / 2)) (Err TooLong)) (Err NotHexadecimal)

-- a buffer o after text s gave this outcome: the bytes at its front, or o unchanged
abbrev pub hex_stored : Result ℕ HexError → List ℕ → List ℕ → List ℕ
hex_stored (Ok n) s o = from_hex s ++ drop (length (from_hex s)) o
hex_stored (Err e) s o = o
