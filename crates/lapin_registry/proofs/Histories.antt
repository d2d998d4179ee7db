-- What the marks of a history keep and what they change under a name.
use Rattle.std.proofs.Common.{◌≡◌, ℕ, true, List, [], ◌∷◌, ◌++◌, Option, Some, None, option_map, refl, ap, ◌∙◌}
use Rattle.lapin_methods.specs.declared.options.ExchangeDeclareOptions.{ExchangeDeclareOptions}
use Rattle.lapin_methods.specs.declared.options.QueueDeclareOptions.{QueueDeclareOptions}
use Rattle.lapin_types.specs.declared.exchange_kind.ExchangeKind.{ExchangeKind}
use Rattle.lapin_registry.specs.declared.bindings.BindingDefinition.{BindingDefinition}
use Rattle.lapin_registry.specs.declared.exchanges.ExchangeDefinition.{ExchangeDefinition}
use Rattle.lapin_registry.specs.declared.queues.QueueDefinition.{QueueDefinition}
use Rattle.lapin_registry.specs.declared.registry.ChannelDefinition.{ChannelDefinition}
use Rattle.lapin_registry.specs.ByName.{rises, named}
use Rattle.lapin_registry.specs.Marks.{Arguments, RegistryMark}
use Rattle.lapin_registry.specs.Marks as mark
use Rattle.lapin_registry.specs.Topology.{exchange_name, undeclared_exchange, declared_exchange, bound_exchange, unbound_exchange, queue_name, undeclared_queue, declared_queue, bound_queue, unbound_queue, binding, without_binding, bindings_of_exchange, bindings_of_queue, exchanges_after, queues_after, after_mark, after_marks, exchange_bindings, queue_bindings}
use Rattle.lapin_registry.proofs.Rising.{rises_amended, rises_changed, rises_without}
use Rattle.lapin_registry.proofs.Named.{or_fresh, named_amended, named_changed}

exchanges_rise : (m : RegistryMark) (xs : List ExchangeDefinition) → rises exchange_name xs ≡ true → rises exchange_name (exchanges_after m xs) ≡ true
exchanges_rise (mark.ExchangeDeclared n k o a) xs h = rises_amended exchange_name n (undeclared_exchange n) (declared_exchange k o a) refl (λ x. refl) xs h
exchanges_rise (mark.ExchangeDeleted n) xs h = rises_without exchange_name n xs h
exchanges_rise (mark.ExchangeBound n s k a) xs h = rises_amended exchange_name n (undeclared_exchange n) (bound_exchange (binding s k a)) refl (λ x. refl) xs h
exchanges_rise (mark.ExchangeUnbound n s k a) xs h = rises_changed exchange_name n (unbound_exchange s k a) (λ x. refl) xs ∙ h
exchanges_rise (mark.QueueDeclared n o a) xs h = h
exchanges_rise (mark.QueueDeleted n) xs h = h
exchanges_rise (mark.QueueBound n s k a) xs h = h
exchanges_rise (mark.QueueUnbound n s k a) xs h = h

queues_rise : (m : RegistryMark) (qs : List QueueDefinition) → rises queue_name qs ≡ true → rises queue_name (queues_after m qs) ≡ true
queues_rise (mark.QueueDeclared n o a) qs h = rises_amended queue_name n (undeclared_queue n) (declared_queue o a) refl (λ x. refl) qs h
queues_rise (mark.QueueDeleted n) qs h = rises_without queue_name n qs h
queues_rise (mark.QueueBound n s k a) qs h = rises_amended queue_name n (undeclared_queue n) (bound_queue (binding s k a)) refl (λ x. refl) qs h
queues_rise (mark.QueueUnbound n s k a) qs h = rises_changed queue_name n (unbound_queue s k a) (λ x. refl) qs ∙ h
queues_rise (mark.ExchangeDeclared n k o a) qs h = h
queues_rise (mark.ExchangeDeleted n) qs h = h
queues_rise (mark.ExchangeBound n s k a) qs h = h
queues_rise (mark.ExchangeUnbound n s k a) qs h = h

pub all_exchanges_rise : (d : ChannelDefinition) (ms : List RegistryMark) → rises exchange_name d.exchanges ≡ true → rises exchange_name (after_marks d ms).exchanges ≡ true
all_exchanges_rise d [] h = h
all_exchanges_rise d (m ∷ ms) h = all_exchanges_rise (after_mark d m) ms (exchanges_rise m d.exchanges h)

pub all_queues_rise : (d : ChannelDefinition) (ms : List RegistryMark) → rises queue_name d.queues ≡ true → rises queue_name (after_marks d ms).queues ≡ true
all_queues_rise d [] h = h
all_queues_rise d (m ∷ ms) h = all_queues_rise (after_mark d m) ms (queues_rise m d.queues h)

-- ---- bindings under a name, where the one of the name may be missing

exchange_declared : (n : List ℕ) (k : ExchangeKind) (o : ExchangeDeclareOptions) (a : Arguments) (x : Option ExchangeDefinition)
    → bindings_of_exchange (Some (declared_exchange k o a (or_fresh (undeclared_exchange n) x))) ≡ bindings_of_exchange x
exchange_declared n k o a None = refl
exchange_declared n k o a (Some x) = refl

pub exchange_keeps : (d : ChannelDefinition) (n : List ℕ) (k : ExchangeKind) (o : ExchangeDeclareOptions) (a : Arguments) → rises exchange_name d.exchanges ≡ true
    → exchange_bindings n (after_mark d (mark.ExchangeDeclared n k o a)) ≡ exchange_bindings n d
exchange_keeps d n k o a h =
    ap bindings_of_exchange (named_amended exchange_name n (undeclared_exchange n) (declared_exchange k o a) refl (λ x. refl) d.exchanges h)
    ∙ exchange_declared n k o a (named exchange_name n d.exchanges)

queue_declared : (n : List ℕ) (o : QueueDeclareOptions) (a : Arguments) (q : Option QueueDefinition) → bindings_of_queue (Some (declared_queue o a (or_fresh (undeclared_queue n) q))) ≡ bindings_of_queue q
queue_declared n o a None = refl
queue_declared n o a (Some q) = refl

pub queue_keeps : (d : ChannelDefinition) (n : List ℕ) (o : QueueDeclareOptions) (a : Arguments) → rises queue_name d.queues ≡ true
    → queue_bindings n (after_mark d (mark.QueueDeclared n o a)) ≡ queue_bindings n d
queue_keeps d n o a h =
    ap bindings_of_queue (named_amended queue_name n (undeclared_queue n) (declared_queue o a) refl (λ x. refl) d.queues h)
    ∙ queue_declared n o a (named queue_name n d.queues)

exchange_bound : (n : List ℕ) (b : BindingDefinition) (x : Option ExchangeDefinition) → bindings_of_exchange (Some (bound_exchange b (or_fresh (undeclared_exchange n) x))) ≡ bindings_of_exchange x ++ b ∷ []
exchange_bound n b None = refl
exchange_bound n b (Some x) = refl

pub exchange_adds : (d : ChannelDefinition) (n s k : List ℕ) (a : Arguments) → rises exchange_name d.exchanges ≡ true
    → exchange_bindings n (after_mark d (mark.ExchangeBound n s k a)) ≡ exchange_bindings n d ++ binding s k a ∷ []
exchange_adds d n s k a h =
    ap bindings_of_exchange (named_amended exchange_name n (undeclared_exchange n) (bound_exchange (binding s k a)) refl (λ x. refl) d.exchanges h)
    ∙ exchange_bound n (binding s k a) (named exchange_name n d.exchanges)

queue_bound : (n : List ℕ) (b : BindingDefinition) (q : Option QueueDefinition) → bindings_of_queue (Some (bound_queue b (or_fresh (undeclared_queue n) q))) ≡ bindings_of_queue q ++ b ∷ []
queue_bound n b None = refl
queue_bound n b (Some q) = refl

pub queue_adds : (d : ChannelDefinition) (n s k : List ℕ) (a : Arguments) → rises queue_name d.queues ≡ true
    → queue_bindings n (after_mark d (mark.QueueBound n s k a)) ≡ queue_bindings n d ++ binding s k a ∷ []
queue_adds d n s k a h =
    ap bindings_of_queue (named_amended queue_name n (undeclared_queue n) (bound_queue (binding s k a)) refl (λ x. refl) d.queues h)
    ∙ queue_bound n (binding s k a) (named queue_name n d.queues)

exchange_unbound : (s k : List ℕ) (a : Arguments) (x : Option ExchangeDefinition) → bindings_of_exchange (option_map (unbound_exchange s k a) x) ≡ without_binding s k a (bindings_of_exchange x)
exchange_unbound s k a None = refl
exchange_unbound s k a (Some x) = refl

pub exchange_loses : (d : ChannelDefinition) (n s k : List ℕ) (a : Arguments) → exchange_bindings n (after_mark d (mark.ExchangeUnbound n s k a)) ≡ without_binding s k a (exchange_bindings n d)
exchange_loses d n s k a =
    ap bindings_of_exchange (named_changed exchange_name n (unbound_exchange s k a) (λ x. refl) d.exchanges)
    ∙ exchange_unbound s k a (named exchange_name n d.exchanges)

queue_unbound : (s k : List ℕ) (a : Arguments) (q : Option QueueDefinition) → bindings_of_queue (option_map (unbound_queue s k a) q) ≡ without_binding s k a (bindings_of_queue q)
queue_unbound s k a None = refl
queue_unbound s k a (Some q) = refl

pub queue_loses : (d : ChannelDefinition) (n s k : List ℕ) (a : Arguments) → queue_bindings n (after_mark d (mark.QueueUnbound n s k a)) ≡ without_binding s k a (queue_bindings n d)
queue_loses d n s k a =
    ap bindings_of_queue (named_changed queue_name n (unbound_queue s k a) (λ q. refl) d.queues)
    ∙ queue_unbound s k a (named queue_name n d.queues)
