-- What the completed declares, binds, unbinds and deletes of a channel add up to.
use Rattle.std.specs.Prelude.{ℕ, Bool, true, false, ◌&&◌, not, List, [], ◌∷◌, ◌++◌, Option, Some, None, nat_eq}
use Rattle.std.specs.Cmp.Lexicographic.{pointwise}
use Rattle.std.specs.List.{filter}
use Rattle.lapin_values.specs.Same.{same_by}
use Rattle.lapin_values.specs.DataCode.{table_code}
use Rattle.lapin_methods.specs.declared.options.ExchangeDeclareOptions.{ExchangeDeclareOptions}
use Rattle.lapin_methods.specs.declared.options.QueueDeclareOptions.{QueueDeclareOptions}
use Rattle.lapin_types.specs.declared.exchange_kind.ExchangeKind.{ExchangeKind}
use Rattle.lapin_registry.specs.declared.bindings.BindingDefinition.{BindingDefinition}
use Rattle.lapin_registry.specs.declared.exchanges.ExchangeDefinition.{ExchangeDefinition}
use Rattle.lapin_registry.specs.declared.exchanges.ExchangeEdit.{ExchangeEdit}
use Rattle.lapin_registry.specs.declared.exchanges.ExchangeEdit.TheVariants as exchange_edit
use Rattle.lapin_registry.specs.declared.queues.QueueDefinition.{QueueDefinition}
use Rattle.lapin_registry.specs.declared.queues.QueueEdit.{QueueEdit}
use Rattle.lapin_registry.specs.declared.queues.QueueEdit.TheVariants as queue_edit
use Rattle.lapin_registry.specs.declared.registry.ChannelDefinition.{ChannelDefinition}
use Rattle.lapin_registry.specs.ByName.{named, amended, changed, without}
use Rattle.lapin_registry.specs.Marks.{Arguments, RegistryMark}
use Rattle.lapin_registry.specs.Marks as mark

-- ---- bindings

-- the binding of a source, a routing key and arguments, as its destination keeps it
abbrev pub binding : List ℕ → List ℕ → Arguments → BindingDefinition
binding source key arguments = record { source = source; routing_key = key; arguments = arguments }

-- it has this source, key and arguments
abbrev pub is_binding : List ℕ → List ℕ → Arguments → BindingDefinition → Bool
is_binding source key arguments b = pointwise nat_eq b.source source && pointwise nat_eq b.routing_key key && same_by table_code b.arguments arguments

-- its source, its key or its arguments are others
abbrev pub isnt_binding : List ℕ → List ℕ → Arguments → BindingDefinition → Bool
isnt_binding source key arguments b = not (is_binding source key arguments b)

-- all but those
abbrev pub without_binding : List ℕ → List ℕ → Arguments → List BindingDefinition → List BindingDefinition
without_binding source key arguments bs = filter (isnt_binding source key arguments) bs

-- ---- exchanges

-- the name under which an exchange is recorded
abbrev pub exchange_name : ExchangeDefinition → List ℕ
exchange_name x = x.name

-- one that was bound and not declared
abbrev pub undeclared_exchange : List ℕ → ExchangeDefinition
undeclared_exchange name = record { name = name; kind = None; options = None; arguments = None; bindings = []; is_declared = false }

-- a declare keeps the bindings
abbrev pub declared_exchange : ExchangeKind → ExchangeDeclareOptions → Arguments → ExchangeDefinition → ExchangeDefinition
declared_exchange kind options arguments x = record x { kind = Some kind; options = Some options; arguments = Some arguments; is_declared = true }

-- an exchange with one more binding behind the others, also where an equal one is there
abbrev pub bound_exchange : BindingDefinition → ExchangeDefinition → ExchangeDefinition
bound_exchange b x = record x { bindings = x.bindings ++ b ∷ [] }

-- an exchange without any binding of this source, key and arguments
abbrev pub unbound_exchange : List ℕ → List ℕ → Arguments → ExchangeDefinition → ExchangeDefinition
unbound_exchange source key arguments x = record x { bindings = without_binding source key arguments x.bindings }

-- what an edit makes of an exchange
abbrev pub edited_exchange : ExchangeEdit → ExchangeDefinition → ExchangeDefinition
edited_exchange (exchange_edit.Declare kind options arguments) = declared_exchange kind options arguments
edited_exchange (exchange_edit.Bind binding) = bound_exchange binding

-- ---- queues

-- the name under which a queue is recorded
abbrev pub queue_name : QueueDefinition → List ℕ
queue_name q = q.name

-- one that was bound and not declared
abbrev pub undeclared_queue : List ℕ → QueueDefinition
undeclared_queue name = record { name = name; options = None; arguments = None; bindings = []; is_declared = false }

-- a declare keeps the bindings
abbrev pub declared_queue : QueueDeclareOptions → Arguments → QueueDefinition → QueueDefinition
declared_queue options arguments q = record q { options = Some options; arguments = Some arguments; is_declared = true }

-- a queue with one more binding behind the others, also where an equal one is there
abbrev pub bound_queue : BindingDefinition → QueueDefinition → QueueDefinition
bound_queue b q = record q { bindings = q.bindings ++ b ∷ [] }

-- a queue without any binding of this source, key and arguments
abbrev pub unbound_queue : List ℕ → List ℕ → Arguments → QueueDefinition → QueueDefinition
unbound_queue source key arguments q = record q { bindings = without_binding source key arguments q.bindings }

-- what an edit makes of a queue
abbrev pub edited_queue : QueueEdit → QueueDefinition → QueueDefinition
edited_queue (queue_edit.Declare options arguments) = declared_queue options arguments
edited_queue (queue_edit.Bind binding) = bound_queue binding

-- ---- a channel

-- as its opening begins
abbrev pub empty_definition : ChannelDefinition
empty_definition = record { exchanges = []; queues = [] }

-- The exchanges after a mark. A declare and a bind are of the exchange of the name, which is made where it is absent; an unbind and a
-- delete of one that is absent change nothing.
abbrev pub exchanges_after : RegistryMark → List ExchangeDefinition → List ExchangeDefinition
exchanges_after (mark.ExchangeDeclared n k o a) xs = amended exchange_name n (undeclared_exchange n) (declared_exchange k o a) xs
exchanges_after (mark.ExchangeDeleted n) xs = without exchange_name n xs
exchanges_after (mark.ExchangeBound n s k a) xs = amended exchange_name n (undeclared_exchange n) (bound_exchange (binding s k a)) xs
exchanges_after (mark.ExchangeUnbound n s k a) xs = changed exchange_name n (unbound_exchange s k a) xs
exchanges_after _ xs = xs

-- the queues after a mark, alike
abbrev pub queues_after : RegistryMark → List QueueDefinition → List QueueDefinition
queues_after (mark.QueueDeclared n o a) qs = amended queue_name n (undeclared_queue n) (declared_queue o a) qs
queues_after (mark.QueueDeleted n) qs = without queue_name n qs
queues_after (mark.QueueBound n s k a) qs = amended queue_name n (undeclared_queue n) (bound_queue (binding s k a)) qs
queues_after (mark.QueueUnbound n s k a) qs = changed queue_name n (unbound_queue s k a) qs
queues_after _ qs = qs

-- the registry of a channel after a mark: its exchanges and its queues
abbrev pub after_mark : ChannelDefinition → RegistryMark → ChannelDefinition
after_mark d m = record { exchanges = exchanges_after m d.exchanges; queues = queues_after m d.queues }

-- what a channel's marks since its last opening add up to
abbrev pub after_marks : ChannelDefinition → List RegistryMark → ChannelDefinition
after_marks d [] = d
after_marks d (m ∷ ms) = after_marks (after_mark d m) ms

-- the registry of a channel that completed these since its last opening began, oldest first
abbrev pub topology : List RegistryMark → ChannelDefinition
topology ms = after_marks empty_definition ms

-- ---- what is recorded under a name

-- the bindings of an exchange; none where no exchange is recorded
abbrev pub bindings_of_exchange : Option ExchangeDefinition → List BindingDefinition
bindings_of_exchange None = []
bindings_of_exchange (Some x) = x.bindings

-- the bindings that are recorded for the exchange of the name, in the order of their binds
abbrev pub exchange_bindings : List ℕ → ChannelDefinition → List BindingDefinition
exchange_bindings n d = bindings_of_exchange (named exchange_name n d.exchanges)

-- the bindings of a queue; none where no queue is recorded
abbrev pub bindings_of_queue : Option QueueDefinition → List BindingDefinition
bindings_of_queue None = []
bindings_of_queue (Some q) = q.bindings

-- the bindings that are recorded for the queue of the name, in the order of their binds
abbrev pub queue_bindings : List ℕ → ChannelDefinition → List BindingDefinition
queue_bindings n d = bindings_of_queue (named queue_name n d.queues)
