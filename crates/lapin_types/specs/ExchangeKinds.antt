-- The names of the kinds of exchanges (AMQP 0-9-1, section 3.1.3).
use Rattle.std.specs.Prelude.{ℕ, List, codes}
use Rattle.lapin_types.specs.declared.exchange_kind.ExchangeKind.{ExchangeKind}
use Rattle.lapin_types.specs.declared.exchange_kind.ExchangeKind.TheVariants as kind

-- the bytes of a kind's name: a custom kind's own text, else the standard's word
abbrev pub kind_text : ExchangeKind → List ℕ
kind_text (kind.Custom text) = text
kind_text kind.Direct = codes "direct"
kind_text kind.Fanout = codes "fanout"
kind_text kind.Headers = codes "headers"
kind_text kind.Topic = codes "topic"
