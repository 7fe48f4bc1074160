-- Laws of a line that makes no call, and of the bytes of a call.
use Rattle.std.specs.Prelude.{Ok, Err, Result}
use Rattle.std.specs.Result.{result_unwrap_or}
use mathlib.Core.Path.{◌≡◌, refl, sym, ap, subst, ◌∙◌}
use mathlib.Core.List.{List, [], ◌++◌, append_assoc}
use mathlib.Core.Bool.{Bool, true, false, cond, ◌&&◌, true≢false}
use Prim.Native.Nat.{ℕ, ◌/◌, ◌≤◌}
use native.Mathlib.Omega.{arith}
use lib.Dec.{leb, ltb, eqb}
use lib.ListN.{length, take, drop, replicate, length-append}
use lib.Seq.{take_at}
use borrow.Author.Tests.{eq-eqb, ne_eqb}
use Rattle.checks.specs.declared.Refusal.{Refusal}
use Rattle.reading.specs.Reading.{read_message, reading_of}
use Rattle.message.specs.Message.{largest, empty}
use Rattle.message.specs.declared.Message.{Message}
use Rattle.writing.specs.Writing.{WriteResult as Writes, message_bytes, message_fault, written, write_message}
use Rattle.outgoing.specs.Outgoing.{length_of}
use Rattle.state.specs.declared.Settings.{Settings}
use Rattle.state.specs.Calls.{Lent}
use Rattle.hexadecimal.specs.Hexadecimal.{is_hex, from_hex}
use Rattle.hexadecimal.specs.Outcome.{hex_outcome, hex_stored}
use Rattle.hexadecimal.specs.declared.HexError.{HexError}
use Rattle.hexadecimal.specs.declared.HexError.TheVariants.{NotHexadecimal, TooLong}
use Rattle.hexadecimal.proofs.Hexadecimal.{length-from_hex}
use Rattle.dump.specs.Shown.{message_text}
use Rattle.texts.specs.Decimal.{decimal}
use Rattle.texts.specs.Text.{Text, text, space, feed}
use Rattle.texts.proofs.Texts.{start}
use Rattle.words.specs.Rows.{row}
use Rattle.grammar.specs.Shapes.{is_bytes}
use Rattle.grammar.specs.declared.Fault.{Fault}
use Rattle.grammar.specs.declared.Fault.TheVariants.{Word}
use Rattle.script.specs.declared.Command.{Command}
use Rattle.script.specs.declared.Command.TheVariants.{Terminal, Call as Calls, Reply, Reconcile, Date, CentreBatch, Echo, Show as Shows, Wrong}
use Rattle.script.specs.declared.Show.{Show}
use Rattle.screen.specs.Outcomes.{error_line}
use Rattle.stage.specs.declared.Rehearsal.{Rehearsal}
use Rattle.calls.specs.declared.Call.{Call}
use Rattle.lines.specs.declared.asks.Unobeyed.{Unobeyed}
use Rattle.lines.specs.declared.asks.Unobeyed.TheVariants.{NoTerminal, NothingLeft, SettlementLeft, NoSettlement, NoCardRequest}
use Rattle.lines.specs.Asked.{number_of}
use Rattle.lines.specs.Asked as asked
use Rattle.lines.specs.Asks.{error_after, call_or, changed_after, bytes_of, bytes_in, changed_by, call_bytes}
use Rattle.lines.specs.Shows.{message_in, fields_text, fault_text, errors, said_by, said}

-- the message of a reading, or else the empty one
pub message_read : (b : List ℕ) (x : Result Message Refusal) {d : Message} → d ≡ empty → reading_of x ≡ read_message b
    → result_unwrap_or x d ≡ message_in b
message_read b (Ok m) z e = ap (λ r. r.message) e
message_read b (Err k) z e = z ∙ ap (λ r. r.message) e

-- the last message that left is q
module _ (b : List ℕ) {q l : List ℕ} {n : ℕ} (e : q ≡ b) where
  pub no_fields : eqb (length q) 0 ≡ true → Text (text "message none\n") n l → Text (fields_text b) n l
  unfolding fields_text
  no_fields z t = rw (← e, z) t

  pub some-fields : {s : Message} → eqb (length q) 0 ≡ false → s ≡ message_in b → Text (message_text s (length q)) n l → Text (fields_text b) n l
  unfolding fields_text
  some-fields z h p = rw (← h, ← e, z) p

-- text w in hexadecimal gave h, and n bytes in a buffer that was o
module _ (w o : List ℕ) {h : Result ℕ HexError} {b : List ℕ} {n : ℕ}
    (e : h ≡ hex_outcome w (length o)) (s : b ≡ hex_stored h w o) (l : n ≡ result_unwrap_or h 0) where
  pub hex_fits : n ≤ length b
  unfolding hex_outcome
  hex_fits = rw (l, s, e) (go (is_hex w) (leb (length w / 2) (length o)))
    where
      go : (t u : Bool) → result_unwrap_or (cond t (cond u (Ok (length w / 2)) (Err TooLong)) (Err NotHexadecimal)) 0
          ≤ length (hex_stored (cond t (cond u (Ok (length w / 2)) (Err TooLong)) (Err NotHexadecimal)) w o)
      go true true = rw length-append (omega (arith, length-from_hex w))
      go true false = omega arith
      go false u = omega arith

  pub hex_bytes : length o ≡ 2048 → take n b ≡ bytes_in w
  unfolding hex_outcome bytes_in is_bytes
  hex_bytes z = rw (l, s, e, z) (go (is_hex w) (leb (length w / 2) 2048))
    where
      go : (t u : Bool) → take (result_unwrap_or (cond t (cond u (Ok (length w / 2)) (Err TooLong)) (Err NotHexadecimal)) 0)
          (hex_stored (cond t (cond u (Ok (length w / 2)) (Err TooLong)) (Err NotHexadecimal)) w o) ≡ cond (t && u) (from_hex w) []
      go true true = take_at (from_hex w) _ _ (length-from_hex w)
      go true false = refl
      go false u = refl

-- no number of an error is 0
apart : (e : Unobeyed) → eqb (number_of e) 0 ≡ false
apart NoTerminal = refl
apart NothingLeft = refl
apart SettlementLeft = refl
apart NoSettlement = refl
apart NoCardRequest = refl

-- what is asked for, by the number of an error
module _ (c : Call) {n : ℕ} where
  pub asks_error : (e : Unobeyed) → number_of e ≡ n → asked.Error (number_of e) ≡ call_or n c
  unfolding call_or
  asks_error e q = rw (← q, apart e) refl

  pub asks_call : 0 ≡ n → asked.Call c ≡ call_or n c
  unfolding call_or
  asks_call q = rw (← q) refl

-- the error of a line before the first terminal, and after it
pub away : (b : Bool) (e : Unobeyed) (n : ℕ) → number_of e ≡ error_after b 0 → number_of e ≡ error_after b n
unfolding error_after
away true e n q = absurd (true≢false (sym (ap (λ x. eqb x 0) q) ∙ apart e))
away false e n q = q

pub there : {x : ℕ} (b : Bool) (n : ℕ) → 0 ≡ error_after b 0 → x ≡ n → x ≡ error_after b n
unfolding error_after
there true n z q = q
there false n z q = omega (arith, z)

-- a line that is obeyed, and one that is not, change a rehearsal
module _ (error : ℕ) (k : Command) (x : Settings) (r : Rehearsal) where
  pub stays : (error ≡ 0 → ⊥) → r ≡ changed_after error k x r
  unfolding changed_after
  stays z = rw (ne_eqb error 0 z) refl

  pub changes : {y : Command} {q : Rehearsal} → error ≡ 0 → k ≡ y → q ≡ changed_by y x r → q ≡ changed_after error k x r
  unfolding changed_after
  changes z e p = rw (eq-eqb error 0 z) (p ∙ ap (λ (y : Command). changed_by y x r) (sym e))

-- what a command is where no pattern has matched it
pub changes_nothing : (k : Command) (x : Settings) (r : Rehearsal) → (k ≡ Terminal → ⊥) → ((d : ℕ) → k ≡ Date d → ⊥)
    → ((n : ℕ) → k ≡ CentreBatch n → ⊥) → ((on : Bool) → k ≡ Echo on → ⊥) → r ≡ changed_by k x r
changes_nothing Terminal x r a b c d = absurd (a refl)
changes_nothing (Calls e w) x r a b c d = refl
changes_nothing (Reply f g amount good) x r a b c d = refl
changes_nothing (Reconcile digit) x r a b c d = refl
changes_nothing (Date e) x r a b c d = absurd (b e refl)
changes_nothing (CentreBatch n) x r a b c d = absurd (c n refl)
changes_nothing (Echo on) x r a b c d = absurd (d on refl)
changes_nothing (Shows y) x r a b c d = refl
changes_nothing (Wrong f) x r a b c d = refl

pub no_bytes : (k : Command) (s : List ℕ) (m : Message) (date batch : ℕ) → ((c : Call) (w : ℕ) → k ≡ Calls c w → ⊥)
    → ((a b amount : ℕ) (good : Bool) → k ≡ Reply a b amount good → ⊥) → ((digit : ℕ) → k ≡ Reconcile digit → ⊥)
    → [] ≡ call_bytes k s m date batch
no_bytes Terminal s m date batch x y z = refl
no_bytes (Calls c w) s m date batch x y z = absurd (x c w refl)
no_bytes (Reply a b amount good) s m date batch x y z = absurd (y a b amount good refl)
no_bytes (Reconcile digit) s m date batch x y z = absurd (z digit refl)
no_bytes (Date d) s m date batch x y z = refl
no_bytes (CentreBatch n) s m date batch x y z = refl
no_bytes (Echo on) s m date batch x y z = refl
no_bytes (Shows y) s m date batch p q z = refl
no_bytes (Wrong f) s m date batch x y z = refl

says_nothing : (k : Command) (number : ℕ) (r : Rehearsal) (lent : Lent) → ((x : Show) → k ≡ Shows x → ⊥) → ((f : Fault) → k ≡ Wrong f → ⊥)
    → said_by k number r lent ≡ []
says_nothing Terminal number r lent a b = refl
says_nothing (Calls c w) number r lent a b = refl
says_nothing (Reply x y amount good) number r lent a b = refl
says_nothing (Reconcile digit) number r lent a b = refl
says_nothing (Date d) number r lent a b = refl
says_nothing (CentreBatch x) number r lent a b = refl
says_nothing (Echo on) number r lent a b = refl
says_nothing (Shows y) number r lent a b = absurd (a y refl)
says_nothing (Wrong f) number r lent a b = absurd (b f refl)

-- what is said of an error, of a command y, and of one that says nothing
module _ (error number : ℕ) (k : Command) (r : Rehearsal) (lent : Lent) {n : ℕ} {o : List ℕ} where
  pub says_error : (error ≡ 0 → ⊥) → Text (error_line number (row error errors)) n o → Text (said error number k r lent) n o
  unfolding said
  says_error z t = rw (ne_eqb error 0 z) t

  pub says : {y : Command} → error ≡ 0 → k ≡ y → Text (said_by y number r lent) n o → Text (said error number k r lent) n o
  unfolding said
  says z e t = rw (eq-eqb error 0 z) (subst (λ (x : Command). Text (said_by x number r lent) n o) (sym e) t)

pub keeps_silent : (error number : ℕ) (k : Command) (r : Rehearsal) (lent : Lent) (o : List ℕ) → error ≡ 0
    → ((x : Show) → k ≡ Shows x → ⊥) → ((f : Fault) → k ≡ Wrong f → ⊥) → Text (said error number k r lent) 0 o
unfolding said
keeps_silent error number k r lent o z a b =
    rw (eq-eqb error 0 z) (subst (λ (w : List ℕ). Text w 0 o) (sym (says_nothing k number r lent a b)) (start o))

-- word k is wrong, in three pieces after `error line` and the number
pub word_line : (p d : List ℕ)
    → p ++ (text " word " ++ d) ++ text " not understood\n" ≡ p ++ space ++ (text "word " ++ d ++ text " not understood") ++ feed
word_line p d =
    append_assoc p (text " word " ++ d) (text " not understood\n")
    ∙ ap (λ (x : List ℕ). p ++ (text " word " ++ x)) (sym (append_assoc d (text " not understood") feed))
    ∙ sym (append_assoc p space (text "word " ++ d ++ text " not understood" ++ feed))
    ∙ sym (append_assoc (p ++ space) (text "word " ++ d ++ text " not understood") feed)

pub word_fault : (number k : ℕ) {n : ℕ} {o : List ℕ}
    → Text (text "error line " ++ decimal number ++ (text " word " ++ decimal k) ++ text " not understood\n") n o
    → Text (error_line number (fault_text (Word k))) n o
unfolding error_line
word_fault number k {n} {o} t = subst (λ (w : List ℕ). Text w n o) (word_line (text "error line " ++ decimal number) (decimal k)) t

-- a message that is written, or not, into a buffer that has room for any
abbrev put_in : Message → Bool → List ℕ → Writes
put_in a c o =
    cond c (written (Ok (length (message_bytes a))) (message_bytes a ++ drop (length (message_bytes a)) o))
    (written (Err (message_fault a)) o)

-- a message was written into a buffer that was o, and gave n bytes
module _ (a : Message) (o : List ℕ) {b : List ℕ} {n : ℕ} (e : (n ≡ length_of (write_message a o).outcome) × (b ≡ (write_message a o).buffer)) where
  pub put_fits : n ≤ length b
  unfolding write_message
  put_fits = rw (e.0, e.1) (go (ltb (length o) largest) (eqb (message_fault a) 0))
    where
      go : (t c : Bool) → length_of (cond t (written (Err 1) o) (put_in a c o)).outcome ≤ length (cond t (written (Err 1) o) (put_in a c o)).buffer
      go true c = omega arith
      go false true = rw length-append (omega arith)
      go false false = omega arith

  pub put_front : length o ≡ 2048 → take n b ≡ bytes_of a
  unfolding write_message bytes_of
  put_front z = rw (e.0, e.1, z) (go (eqb (message_fault a) 0))
    where
      go : (c : Bool) → take (length_of (put_in a c o).outcome) (put_in a c o).buffer
          ≡ take (length_of (put_in a c (replicate largest 0)).outcome) (put_in a c (replicate largest 0)).buffer
      go true = take_at (message_bytes a) _ _ refl ∙ sym (take_at (message_bytes a) _ _ refl)
      go false = refl
