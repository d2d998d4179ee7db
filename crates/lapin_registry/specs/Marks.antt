-- What a channel completed with its broker (AMQP 0-9-1, classes exchange and queue). A history gives a list of these, oldest first.
use Rattle.std.specs.Prelude.{ℕ, List}
use Rattle.lapin_values.specs.Data.{Data}
use Rattle.lapin_methods.specs.declared.options.ExchangeDeclareOptions.{ExchangeDeclareOptions}
use Rattle.lapin_methods.specs.declared.options.QueueDeclareOptions.{QueueDeclareOptions}
use Rattle.lapin_types.specs.declared.exchange_kind.ExchangeKind.{ExchangeKind}

-- the arguments of a declare or a bind: pairs of a name and a value
abbrev pub Arguments : Type 0
Arguments = List (List ℕ × Data)

-- one completed declare, delete, bind or unbind of a channel: of an exchange or of a queue, by name
pub data RegistryMark : Type 0 where
  ExchangeDeclared : (name : List ℕ) (kind : ExchangeKind) (options : ExchangeDeclareOptions) (arguments : Arguments) → RegistryMark
  ExchangeDeleted : (name : List ℕ) → RegistryMark
  -- messages of the source that fit are routed to the destination, an exchange too
  ExchangeBound : (destination source routing_key : List ℕ) (arguments : Arguments) → RegistryMark
  ExchangeUnbound : (destination source routing_key : List ℕ) (arguments : Arguments) → RegistryMark
  QueueDeclared : (name : List ℕ) (options : QueueDeclareOptions) (arguments : Arguments) → RegistryMark
  QueueDeleted : (name : List ℕ) → RegistryMark
  QueueBound : (queue source routing_key : List ℕ) (arguments : Arguments) → RegistryMark
  QueueUnbound : (queue source routing_key : List ℕ) (arguments : Arguments) → RegistryMark

-- the name that a mark is about
abbrev pub name_in : RegistryMark → List ℕ
name_in (ExchangeDeclared n k o a) = n
name_in (ExchangeDeleted n) = n
name_in (ExchangeBound n s k a) = n
name_in (ExchangeUnbound n s k a) = n
name_in (QueueDeclared n o a) = n
name_in (QueueDeleted n) = n
name_in (QueueBound n s k a) = n
name_in (QueueUnbound n s k a) = n
