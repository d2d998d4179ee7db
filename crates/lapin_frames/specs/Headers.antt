-- Content headers: the class, two octets that are 0, the size of the content, and the list of properties: a flag for each that is given, from the
-- highest bit, and these properties in order; or, of properties that carry a list, its octets.
use Rattle.std.specs.Prelude.{ℕ, false, List, [], ◌∷◌, ◌++◌, Option, Some, None, is_some, if◌then◌else◌, nat_eq}
use Rattle.std.specs.Cmp.Lexicographic.{pointwise}
use Rattle.lapin_values.specs.Properties.{Properties}
use Rattle.lapin_methods.specs.declared.frame.ContentHeader.{ContentHeader}
use Rattle.lapin_fields.specs.Fields.{octet, short, wide, text, flags}
use Rattle.lapin_fields.specs.Opaque.{carried}
use Rattle.lapin_fields.specs.Reading.{◌>>=◌}
use Rattle.lapin_fields.specs.Values.{table_bytes}

-- a property where it is given
abbrev pub given : {A : Type 0} → (A → List ℕ) → Option A → List ℕ
given bytes None = []
given bytes (Some x) = bytes x

-- the property flags: one of the first property in the highest bit of the first octet and so on, and two bits that are 0
abbrev pub property_flags : Properties → List ℕ
property_flags p =
    flags (is_some p.expiration ∷ is_some p.reply_to ∷ is_some p.correlation_id ∷ is_some p.priority ∷ is_some p.delivery_mode ∷ is_some p.headers ∷ is_some p.content_encoding ∷ is_some p.content_type ∷ [])
    ++ flags (false ∷ false ∷ is_some p.cluster_id ∷ is_some p.app_id ∷ is_some p.user_id ∷ is_some p.kind ∷ is_some p.timestamp ∷ is_some p.message_id ∷ [])

-- the properties to the delivery mode
abbrev pub first_properties : Properties → List ℕ
first_properties p = given text p.content_type ++ given text p.content_encoding ++ given table_bytes p.headers ++ given octet p.delivery_mode

-- the properties from the priority to the expiration
abbrev pub next_properties : Properties → List ℕ
next_properties p = given octet p.priority ++ given text p.correlation_id ++ given text p.reply_to ++ given text p.expiration

-- the properties from the message id on
abbrev pub last_properties : Properties → List ℕ
last_properties p = given text p.message_id ++ given wide p.timestamp ++ given text p.kind ++ given text p.user_id ++ given text p.app_id ++ given text p.cluster_id

-- the properties one by one, behind their flags
abbrev pub listed_bytes : Properties → List ℕ
listed_bytes p = property_flags p ++ first_properties p ++ next_properties p ++ last_properties p

-- the list that properties carry, if they do: of all properties the headers alone are given, as their flags say, and carry it
abbrev pub carried_list : Properties → Option (List ℕ)
carried_list p = if pointwise nat_eq (property_flags p) (32 ∷ 0 ∷ []) then (p.headers >>= carried) else None

-- a list that is carried, and else the properties one by one
abbrev pub list_by : Option (List ℕ) → Properties → List ℕ
list_by (Some list) p = list
list_by None p = listed_bytes p

-- the property list: the one that the properties carry, or theirs one by one
abbrev pub properties_bytes : Properties → List ℕ
properties_bytes p = list_by (carried_list p) p

-- a content header without its properties
abbrev pub header_front : ContentHeader → List ℕ
header_front h = short h.class_id ++ short 0 ++ wide h.body_size

-- a content header
abbrev pub header_bytes : ContentHeader → List ℕ
header_bytes h = header_front h ++ properties_bytes h.properties
