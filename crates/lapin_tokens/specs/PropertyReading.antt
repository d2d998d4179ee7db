-- Reading properties from left to right.
use Rattle.std.specs.Prelude.{◌≡◌, ℕ, ◌^◌, Bool, Result, Ok, Err, true, false, List, [], ◌∷◌, ◌++◌, Option, Some, None, if◌then◌else◌}
use Rattle.lapin_values.specs.Properties.{Properties, no_properties}
use Rattle.lapin_scalars.specs.Scalars.Scalar.{text as a_text, number as a_number}
use Rattle.lapin_scalars.specs.Reading.{Fails, scalar_of}
use Rattle.lapin_scalars.specs.declared.fault.ReadError.{ReadError}
use Rattle.lapin_tokens.specs.declared.names.Property.{Property}
use Rattle.lapin_tokens.specs.declared.names.Property.TheVariants as property
use Rattle.lapin_tokens.specs.declared.names.TheConstants.{PROPERTIES}
use Rattle.lapin_tokens.specs.Cursor.{◌>>=◌, after_mark, after_text, word_of, after_word}
use Rattle.lapin_tokens.specs.ValueReading.{table_at}
use Rattle.lapin_tokens.specs.Properties.{Kind, KindValue, short, headers, octet, moment, name}

-- a value of a kind
unfoldable pub kind_at : (k : Kind) → List ℕ → Option (KindValue k × List ℕ)
kind_at short text = scalar_of a_text (word_of text) >>= λ x. Some (x, after_word text)
kind_at headers text = table_at 8 text
kind_at octet text = scalar_of (a_number (2 ^ 8)) (word_of text) >>= λ x. Some (x, after_word text)
kind_at moment text = scalar_of (a_number (2 ^ 64)) (word_of text) >>= λ x. Some (x, after_word text)

-- the properties with a short text for one more; as they are for a property of another kind
abbrev pub put_text : Property → List ℕ → Properties → Properties
put_text property.ContentType x v = record v { content_type = Some x }
put_text property.ContentEncoding x v = record v { content_encoding = Some x }
put_text property.CorrelationId x v = record v { correlation_id = Some x }
put_text property.ReplyTo x v = record v { reply_to = Some x }
put_text property.Expiration x v = record v { expiration = Some x }
put_text property.MessageId x v = record v { message_id = Some x }
put_text property.Kind x v = record v { kind = Some x }
put_text property.UserId x v = record v { user_id = Some x }
put_text property.AppId x v = record v { app_id = Some x }
put_text property.ClusterId x v = record v { cluster_id = Some x }
put_text _ x v = v

-- the properties with the short text that stands next for one more, and the bytes behind it
abbrev pub text_at : Property → Properties → List ℕ → Option (Properties × List ℕ)
text_at p v text = kind_at short text >>= λ x. Some (put_text p x.0 v, x.1)

-- the properties with the value of one more, which stands next
abbrev pub set_at : Property → Properties → List ℕ → Option (Properties × List ℕ)
set_at property.ContentType v text = text_at property.ContentType v text
set_at property.ContentEncoding v text = text_at property.ContentEncoding v text
set_at property.Headers v text = kind_at headers text >>= λ x. Some (record v { headers = Some x.0 }, x.1)
set_at property.DeliveryMode v text = kind_at octet text >>= λ x. Some (record v { delivery_mode = Some x.0 }, x.1)
set_at property.Priority v text = kind_at octet text >>= λ x. Some (record v { priority = Some x.0 }, x.1)
set_at property.CorrelationId v text = text_at property.CorrelationId v text
set_at property.ReplyTo v text = text_at property.ReplyTo v text
set_at property.Expiration v text = text_at property.Expiration v text
set_at property.MessageId v text = text_at property.MessageId v text
set_at property.Timestamp v text = kind_at moment text >>= λ x. Some (record v { timestamp = Some x.0 }, x.1)
set_at property.Kind v text = text_at property.Kind v text
set_at property.UserId v text = text_at property.UserId v text
set_at property.AppId v text = text_at property.AppId v text
set_at property.ClusterId v text = text_at property.ClusterId v text

-- the mark before a property: the bracket before the first that is given, and a comma before another
abbrev pub mark : Bool → ℕ
mark first = if first then 91 else 44

-- the property where the bytes begin with its mark and its name, and else nothing
abbrev pub value_behind : (p : Property) → Option (List ℕ) → Properties → Bool → List ℕ → Option (Properties × Bool × List ℕ)
value_behind p None v first text = Some (v, first, text)
value_behind p (Some rest) v first text = set_at p v rest >>= λ x. Some (x.0, false, x.1)

unfoldable pub part_at : Property → Properties → Bool → List ℕ → Option (Properties × Bool × List ℕ)
part_at p v first text = value_behind p (after_text (mark first ∷ name p ++ 61 ∷ []) text) v first text

-- the properties with those of the listed ones that stand next, in the order of the list, whether none was given yet,
-- and the bytes behind them
abbrev pub parts_at : List Property → Properties → Bool → List ℕ → Option (Properties × Bool × List ℕ)
parts_at [] v first text = Some (v, first, text)
parts_at (p ∷ ps) v first text = part_at p v first text >>= λ x. parts_at ps x.0 x.1 x.2

-- What a function returned, and what it left, are what reading gives, unless memory ran out.
abbrev pub GivesPart : Result Properties ReadError → Bool → List ℕ → Option (Properties × Bool × List ℕ) → Type 0
GivesPart (Ok v) first rest read = read ≡ Some (v, first, rest)
GivesPart (Err e) first rest read = Fails e read

-- the closing bracket, behind an opening one where no property was given
abbrev pub closed : Bool → List ℕ → Option (List ℕ)
closed true text = after_mark 91 text >>= λ rest. after_mark 93 rest
closed false text = after_mark 93 text

-- the properties that the bytes begin with
unfoldable pub properties_at : List ℕ → Option (Properties × List ℕ)
properties_at text = parts_at PROPERTIES no_properties true text >>= λ x. closed x.1 x.2 >>= λ rest. Some (x.0, rest)
