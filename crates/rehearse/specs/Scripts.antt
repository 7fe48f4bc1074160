-- What the lines of a script do to a rehearsal, one after the other.
use Rattle.std.specs.Prelude.{◌≡◌, List, [], ◌++◌, true, false, cond, not, ◌||◌, ℕ, zero, suc, ◌+◌, ◌*◌, ◌%◌, ◌^◌, ltb, eqb, length, replicate}
use Rattle.message.specs.Message.{largest}
use Rattle.entry.specs.Entry.{entry_size}
use Rattle.texts.specs.Text.{text}
use Rattle.words.specs.Lines.{trimmed}
use Rattle.echo.specs.Echo.{echo_line}
use Rattle.input.specs.declared.Input.{Input}
use Rattle.input.specs.Input.{words_in, left_in, first_line, behind_feed}
use Rattle.screen.specs.Outcomes.{error_line}
use Rattle.stage.specs.declared.Rehearsal.{Rehearsal}
use Rattle.state.specs.Calls.{Lent, lend}
use Rattle.rehearse.specs.declared.Stopped.{Stopped}
use Rattle.rehearse.specs.Rehearsal.{Done, writes}
use Rattle.rehearse.specs.Commands.{done}

-- what is written before the answer of a line of bytes s, without the line end: the line, where echo was on when it was read; a blank line is not
-- echoed, nor is one that is too long
unfoldable pub echoed : List ℕ → Rehearsal → List ℕ
echoed s r = cond (not r.echo || ltb 4096 (length s) || eqb (length (trimmed s)) 0) [] (echo_line (trimmed s))

-- line number, of bytes s without the line end; one without words does nothing
unfoldable pub answered : ℕ → List ℕ → Rehearsal → Lent → Done
answered number s r lent =
    cond (ltb 4096 (length s)) (writes (error_line number (text "longer than 4096 bytes")) r lent)
    (cond (eqb (length (words_in s)) 0) (writes [] r lent) (done number (words_in s) r lent))

-- where a script stands between two lines: the bytes to come, the number of the last line, the rehearsal and what is lent to it
pub record ScriptAt : Type 0 where
  pub bytes : List ℕ
  pub number : ℕ
  pub rehearsal : Rehearsal
  pub lent : Lent

abbrev pub script_at : List ℕ → ℕ → Rehearsal → Lent → ScriptAt
script_at s number r lent = record { bytes = s; number = number; rehearsal = r; lent = lent }

-- the first line of the bytes to come is answered
abbrev pub behind : List ℕ → ℕ → Done → ScriptAt
behind s number d = script_at (behind_feed s) number d.rehearsal d.lent

abbrev pub after_line : ScriptAt → ScriptAt
after_line q =
    behind q.bytes ((q.number + 1) % 2 ^ 64)
    (answered ((q.number + 1) % 2 ^ 64) (first_line q.bytes) q.rehearsal q.lent)

unfoldable pub after_lines : ℕ → ScriptAt → ScriptAt
after_lines zero q = q
after_lines (suc n) q = after_line (after_lines n q)

-- what is lent at first: a journal with room for 1,000 entries, and a message buffer
abbrev pub blank : Lent
blank = lend (replicate (1000 * entry_size) 0) (replicate largest 0)

-- a rehearsal of the bytes that were left of a chunk and of those that reads of the same file brought: it has stopped after some lines, each answered
-- in its turn, where the input has ended and no byte is left, or else after 2^64 - 1 lines
pub record Rehearses (r : Rehearsal) (input : Input) (chunk : List ℕ) (s : Stopped) (changed : List ℕ) : Type 0 where
  pub brought : List ℕ
  pub lines : ℕ
  pub lent : Lent
  pub file_is : s.input.file ≡ input.file
  pub stands : after_lines lines (script_at (left_in input.left chunk ++ brought) input.number r blank)
      ≡ script_at (left_in s.input.left changed) s.input.number s.rehearsal lent
  pub all : s.input.ended ≡ true → left_in s.input.left changed ≡ []
  pub stops : s.input.ended ≡ false → lines ≡ 18446744073709551615
