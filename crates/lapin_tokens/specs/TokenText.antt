-- The text of a token to be written.
use Rattle.std.specs.Prelude.{ℕ, List, [], ◌∷◌, ◌++◌}
use Rattle.lapin_tokens.specs.declared.token.Token.{Token}
use Rattle.lapin_tokens.specs.declared.token.Token.TheVariants as a_token
use Rattle.lapin_tokens.specs.Fields.{token, wide_number}
use Rattle.lapin_tokens.specs.Fields.Field.{text, bytes, table, props, flag}

-- the text of a token: a word as it is, and a value as the token of its kind of field, a number as one of 64 bits
abbrev pub text_of : Token → List ℕ
text_of (a_token.Word word) = word.now
text_of (a_token.Text s) = token text s.now
text_of (a_token.Hex b) = token bytes b.now
text_of (a_token.Number n) = token wide_number n
text_of (a_token.Flag b) = token flag b
text_of (a_token.Table ps) = token table ps.now
text_of (a_token.Properties v) = token props v.now

-- each token behind a space, at the end of a text
abbrev pub onto : List ℕ → List (List ℕ) → List ℕ
onto line [] = line
onto line (t ∷ ts) = onto (line ++ 32 ∷ t) ts
