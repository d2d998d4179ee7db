-- The letters of field values.
use Rattle.std.specs.Prelude.{ℕ, Option, ◌==◌}
use Rattle.std.specs.List.{find}
use Rattle.lapin_tokens.specs.declared.letters.TheConstants.{LETTERS}
use Rattle.lapin_tokens.specs.declared.letters.Letter.{Letter}
use Rattle.lapin_tokens.specs.declared.letters.Letter.TheVariants as letter

-- the byte that says in a text of which kind a field value is
abbrev pub letter_byte : Letter → ℕ
letter_byte letter.Boolean = 116  -- t
letter_byte letter.ShortShortInt = 98  -- b
letter_byte letter.ShortShortUInt = 66  -- B
letter_byte letter.ShortInt = 115  -- s
letter_byte letter.ShortUInt = 117  -- u
letter_byte letter.LongInt = 73  -- I
letter_byte letter.LongUInt = 105  -- i
letter_byte letter.LongLongInt = 108  -- l
letter_byte letter.Timestamp = 84  -- T
letter_byte letter.LongString = 83  -- S
letter_byte letter.ByteArray = 121  -- y
letter_byte letter.FieldArray = 65  -- A
letter_byte letter.FieldTable = 70  -- F
letter_byte letter.Void = 86  -- V

-- the kind that a byte is the letter of
unfoldable pub letter_at : ℕ → Option Letter
letter_at byte = find (λ l. letter_byte l == byte) LETTERS
