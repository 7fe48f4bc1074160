-- One field on the wire: document 01, "Why a call is turned down", "length before contents, 3, 6, 7, 8 at the first fault".
use Rattle.std.specs.Prelude.{List, ◌++◌, cond, ℕ, ◌+◌, ◌*◌, ltb, eqb, length, take, drop, Err, Result, Ok}
use Rattle.digits.specs.Digits.{pack, unpack, is_packed}
use Rattle.digits.specs.Numbers.{value, digits_of}
use Rattle.field.specs.Bitmap.{names}
use Rattle.field.specs.Contents.{size, skip, allowed, late, fault}
use Rattle.field.specs.declared.Prefix.{Prefix}
use Rattle.field.specs.declared.Prefix.TheVariants.{Absent, One, Two}
use Rattle.field.specs.declared.Format.{Format}
use Rattle.span.specs.declared.Span.{Span}

-- a field's count, the bytes before its contents and the bytes of its contents
abbrev pub spans : ℕ → ℕ → ℕ → Result Span ℕ
spans n p z = Ok (record { count = n; skip = p; size = z })

-- the count that the length bytes h say; with no length the field has only one count
abbrev pub count_in : Prefix → ℕ → List ℕ → ℕ
count_in Absent high h = high
count_in One high h = value (unpack 2 h)
count_in Two high h = value (unpack 4 h)

-- contents of n digits or bytes where that many are not allowed: 7; document 02, request 3: key material is walked past, whatever its
-- length, and nothing of it is held, so that the message is refused by 24 once it is read
unfoldable pub passed_at : Format → ℕ → List ℕ → Result Span ℕ
passed_at f n s = cond (late f) (cond (ltb (length s) n) (Err 3) (spans 0 (skip f.prefix + n) 0)) (Err 7)

-- the contents of n digits or bytes at the front of s
unfoldable pub contents_at : Format → ℕ → List ℕ → Result Span ℕ
contents_at f n s =
    cond (allowed f n)
    (cond (ltb (length s) (size f.class n)) (Err 3)
    (cond (eqb (fault f.class n (take (size f.class n) s)) 0)
    (spans n (skip f.prefix) (size f.class n))
    (Err (fault f.class n (take (size f.class n) s)))))
    (passed_at f n s)

-- the field at the front of s, length before contents: 3, 6, 7, then 3, 6, 8
unfoldable pub span_at : Format → List ℕ → Result Span ℕ
span_at f s =
    cond (ltb (length s) (skip f.prefix)) (Err 3)
    (cond (is_packed (2 * skip f.prefix) (take (skip f.prefix) s))
    (contents_at f (count_in f.prefix f.high (take (skip f.prefix) s)) (drop (skip f.prefix) s))
    (Err 6))

-- a field that the bitmap does not name takes no bytes
unfoldable pub span : Format → List ℕ → List ℕ → Result Span ℕ
span f bm s = cond (names bm f.number) (span_at f s) (spans 0 0 0)

-- where the contents of n digits or bytes at the front of s stand, whatever they hold
unfoldable pub sized_at : Format → ℕ → List ℕ → Result Span ℕ
sized_at f n s =
    cond (allowed f n)
    (cond (ltb (length s) (size f.class n)) (Err 3) (spans n (skip f.prefix) (size f.class n)))
    (passed_at f n s)

-- the field at the front of s, whatever its contents hold
unfoldable pub frame_at : Format → List ℕ → Result Span ℕ
frame_at f s =
    cond (ltb (length s) (skip f.prefix)) (Err 3)
    (cond (is_packed (2 * skip f.prefix) (take (skip f.prefix) s))
    (sized_at f (count_in f.prefix f.high (take (skip f.prefix) s)) (drop (skip f.prefix) s))
    (Err 6))

-- a field's bytes: its count, packed to the right, then its contents
unfoldable pub field_bytes : Format → ℕ → List ℕ → List ℕ
field_bytes f n b = pack (digits_of (2 * skip f.prefix) n) ++ b
