-- The text of a message's properties.
use Rattle.std.specs.Prelude.{ℕ, ◌^◌, Bool, true, ◌&&◌, List, [], ◌∷◌, ◌++◌, codes, Option, Some, None}
use Rattle.lapin_values.specs.Data.{Data}
use Rattle.lapin_values.specs.Properties.{Properties}
use Rattle.lapin_scalars.specs.Scalars.{scalar_text, scalar_fits}
use Rattle.lapin_scalars.specs.Scalars.Scalar.{text as a_text, number as a_number}
use Rattle.lapin_tokens.specs.declared.names.Property.{Property}
use Rattle.lapin_tokens.specs.declared.names.Property.TheVariants as property
use Rattle.lapin_tokens.specs.declared.names.TheConstants.{PROPERTIES}
use Rattle.lapin_tokens.specs.Values.{bracketed, table_text, table_fits}

-- the kinds of values that properties have: a short text, a table, a number of 8 and one of 64 bits
pub data Kind : Type 0 where
  short : Kind
  headers : Kind
  octet : Kind
  moment : Kind

-- what a value of each kind is
abbrev pub KindValue : Kind → Type 0
KindValue short = List ℕ
KindValue headers = List (List ℕ × Data)
KindValue octet = ℕ
KindValue moment = ℕ

-- the text of a value of a kind
abbrev pub kind_text : (k : Kind) → KindValue k → List ℕ
kind_text short s = scalar_text a_text s
kind_text headers ps = table_text ps
kind_text octet n = scalar_text (a_number (2 ^ 8)) n
kind_text moment n = scalar_text (a_number (2 ^ 64)) n

-- a table nests at most 8 levels
abbrev pub kind_fits : (k : Kind) → KindValue k → Bool
kind_fits short s = scalar_fits a_text s
kind_fits headers ps = table_fits 8 ps
kind_fits octet n = scalar_fits (a_number (2 ^ 8)) n
kind_fits moment n = scalar_fits (a_number (2 ^ 64)) n

-- the name of a property in the text
abbrev pub name : Property → List ℕ
name property.ContentType = codes "content_type"
name property.ContentEncoding = codes "content_encoding"
name property.Headers = codes "headers"
name property.DeliveryMode = codes "delivery_mode"
name property.Priority = codes "priority"
name property.CorrelationId = codes "correlation_id"
name property.ReplyTo = codes "reply_to"
name property.Expiration = codes "expiration"
name property.MessageId = codes "message_id"
name property.Timestamp = codes "timestamp"
name property.Kind = codes "kind"
name property.UserId = codes "user_id"
name property.AppId = codes "app_id"
name property.ClusterId = codes "cluster_id"

-- the kind of value that a property has
abbrev pub kind : Property → Kind
kind property.ContentType = short
kind property.ContentEncoding = short
kind property.Headers = headers
kind property.DeliveryMode = octet
kind property.Priority = octet
kind property.CorrelationId = short
kind property.ReplyTo = short
kind property.Expiration = short
kind property.MessageId = short
kind property.Timestamp = moment
kind property.Kind = short
kind property.UserId = short
kind property.AppId = short
kind property.ClusterId = short

-- the value of a property, where it is given
abbrev pub given : (p : Property) → Properties → Option (KindValue (kind p))
given property.ContentType v = v.content_type
given property.ContentEncoding v = v.content_encoding
given property.Headers v = v.headers
given property.DeliveryMode v = v.delivery_mode
given property.Priority v = v.priority
given property.CorrelationId v = v.correlation_id
given property.ReplyTo v = v.reply_to
given property.Expiration v = v.expiration
given property.MessageId v = v.message_id
given property.Timestamp v = v.timestamp
given property.Kind v = v.kind
given property.UserId v = v.user_id
given property.AppId v = v.app_id
given property.ClusterId v = v.cluster_id

-- NAME=VALUE for what is given
abbrev pub part_text : (p : Property) → KindValue (kind p) → List ℕ
part_text p x = name p ++ 61 ∷ kind_text (kind p) x

-- the texts behind that of one more property, where its value is given, and else as they are
abbrev pub with_part : (p : Property) → Option (KindValue (kind p)) → List (List ℕ) → List (List ℕ)
with_part p None texts = texts
with_part p (Some x) texts = part_text p x ∷ texts

-- the texts NAME=VALUE of those of the listed properties that are given, in the order of the list
abbrev pub part_texts : List Property → Properties → List (List ℕ)
part_texts [] v = []
part_texts (p ∷ ps) v = with_part p (given p v) (part_texts ps v)

-- what is given, in the order of `PROPERTIES`, in square brackets
abbrev pub properties_text : Properties → List ℕ
properties_text v = bracketed 91 93 (part_texts PROPERTIES v)

-- whether a property's value has a text, where one is given; true where none is
abbrev pub part_fits : (p : Property) → Option (KindValue (kind p)) → Bool
part_fits p None = true
part_fits p (Some x) = kind_fits (kind p) x

-- whether all that is given of the listed properties has a text
abbrev pub parts_fit : List Property → Properties → Bool
parts_fit [] v = true
parts_fit (p ∷ ps) v = part_fits p (given p v) && parts_fit ps v

-- the properties that have a text: each value that is given has one
abbrev pub properties_fit : Properties → Bool
properties_fit v = parts_fit PROPERTIES v
