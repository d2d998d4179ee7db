-- How a peer says who it is: which mechanism is said for which wish and list, and what it says then (AMQP 0-9-1, section 4.2.2 and connection.start).
use Rattle.std.specs.Prelude.{ℕ, List, [], ◌∷◌, ◌++◌, Option, Some, None, if◌then◌else◌}
use Rattle.lapin_fields.specs.Fields.{text, counted}
use Rattle.lapin_handshake.specs.declared.mechanism.Mechanism.{Mechanism}
use Rattle.lapin_handshake.specs.declared.mechanism.Mechanism.TheVariants as mechanism
use Rattle.lapin_handshake.specs.declared.mechanism.Offers.{Offers}
use Rattle.lapin_handshake.specs.Words.{lists}

-- the names of the mechanisms: PLAIN, AMQPLAIN and EXTERNAL
abbrev pub word_of : Mechanism → List ℕ
word_of mechanism.Plain = 80 ∷ 76 ∷ 65 ∷ 73 ∷ 78 ∷ []
word_of mechanism.AmqPlain = 65 ∷ 77 ∷ 81 ∷ 80 ∷ 76 ∷ 65 ∷ 73 ∷ 78 ∷ []
word_of mechanism.External = 69 ∷ 88 ∷ 84 ∷ 69 ∷ 82 ∷ 78 ∷ 65 ∷ 76 ∷ []

-- which of them a list has
abbrev pub offers_of : List ℕ → Offers
offers_of list = record {
  plain = lists list (word_of mechanism.Plain);
  amqplain = lists list (word_of mechanism.AmqPlain);
  external = lists list (word_of mechanism.External);
}

-- What is said for a wish: the mechanism itself where it is offered; in the place of PLAIN also AMQPLAIN, which tells the same. Nothing is
-- said in the place of EXTERNAL.
abbrev pub chosen : Mechanism → Offers → Option Mechanism
chosen mechanism.Plain o = if o.plain then Some mechanism.Plain else if o.amqplain then Some mechanism.AmqPlain else None
chosen mechanism.AmqPlain o = if o.amqplain then Some mechanism.AmqPlain else None
chosen mechanism.External o = if o.external then Some mechanism.External else None

-- PLAIN: the user and the password, each behind a 0
abbrev pub plain_response : List ℕ → List ℕ → List ℕ
plain_response user password = 0 ∷ user ++ 0 ∷ password

-- a pair of a table whose value is a long text
unfoldable pub long_pair : List ℕ → List ℕ → List ℕ
long_pair name value = text name ++ 83 ∷ counted value

-- AMQPLAIN: the pairs LOGIN and PASSWORD of a table
abbrev pub amqplain_response : List ℕ → List ℕ → List ℕ
amqplain_response user password =
    long_pair (76 ∷ 79 ∷ 71 ∷ 73 ∷ 78 ∷ []) user ++ long_pair (80 ∷ 65 ∷ 83 ∷ 83 ∷ 87 ∷ 79 ∷ 82 ∷ 68 ∷ []) password

-- what a mechanism says: by EXTERNAL nothing, since the broker knows the caller from elsewhere
unfoldable pub response_of : Mechanism → List ℕ → List ℕ → List ℕ
response_of mechanism.Plain user password = plain_response user password
response_of mechanism.AmqPlain user password = amqplain_response user password
response_of mechanism.External user password = []
