-- Document 01, "Message bytes": fields of an answer that the terminal doesn't use.
use Rattle.std.specs.Prelude.{◌≡◌, List, [], ◌∷◌, Bool, false, ℕ}
use Rattle.field.specs.Bitmap.{names}
use Rattle.field.specs.Table.{among}
use Rattle.message.specs.Message.{field_of}
use Rattle.message.specs.declared.Message.{Message}
use Rattle.reading.specs.Reading.{read_message, Read}
use Rattle.state.specs.declared.State.{State}
use Rattle.state.specs.Calls.{Lent}
use Rattle.call_definitions.specs.Events.{call, answers}

-- answers carry 32, 44 and 63, and the terminal doesn't use them; nor does it use 54 (document 02, request 4)
abbrev pub unused : ℕ → Bool
unused n = among n (32 ∷ 44 ∷ 54 ∷ 63 ∷ [])

-- document 02, request 3: of key material, field 62, only that it is there
abbrev pub unread : ℕ → Bool
unread n = among n (32 ∷ 44 ∷ 54 ∷ 62 ∷ 63 ∷ [])

-- two messages of one type that name the same fields but for the unused, and hold the same in them but for the bytes of 62
pub record AlikeButUnused (a b : Message) : Type 0 where
  pub indicator : a.indicator ≡ b.indicator
  pub named : (n : ℕ) → unused n ≡ false → names a.bitmap n ≡ names b.bitmap n
  pub fields : (n : ℕ) → unread n ≡ false → field_of a n ≡ field_of b n

-- two messages that are alike but for the bytes of field 62
pub record AlikeButKeys (a b : Message) : Type 0 where
  pub indicator : a.indicator ≡ b.indicator
  pub bitmap : a.bitmap ≡ b.bitmap
  pub fields : (n : ℕ) → (n ≡ 62 → ⊥) → field_of a n ≡ field_of b n

abbrev pub UnusedFieldsChangeNothing : Type 0
UnusedFieldsChangeNothing = (a b : List ℕ) (good : Bool) (s : State) (lent : Lent)
    → (read_message a).outcome ≡ Read → (read_message b).outcome ≡ Read → AlikeButUnused (read_message a).message (read_message b).message
    → call (answers a good) s lent ≡ call (answers b good) s lent

-- nothing about key material is kept: outcome, state, journal and message buffer do not depend on the bytes of 62
abbrev pub KeysChangeNothing : Type 0
KeysChangeNothing = (a b : List ℕ) (good : Bool) (s : State) (lent : Lent)
    → (read_message a).outcome ≡ Read → (read_message b).outcome ≡ Read → AlikeButKeys (read_message a).message (read_message b).message
    → call (answers a good) s lent ≡ call (answers b good) s lent
