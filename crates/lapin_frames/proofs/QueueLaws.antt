-- What was written is read: methods of the classes exchange and queue, with their tables carried.
use Rattle.std.proofs.Common.{◌≡◌, ℕ, List, [], ◌∷◌, ◌++◌, Some, refl, ap, ◌∙◌}
use Rattle.lapin_fields.specs.Fields.{short, long, text, flags}
use Rattle.lapin_fields.specs.Opaque.{opaque, table_octets, arguments_bytes}
use Rattle.lapin_fields.proofs.FlagLaws.{flag_1, flag_2, flag_4, flag_8, flag_16}
use Rattle.lapin_fields.proofs.ReadingLaws.{then_on, text_back}
use Rattle.std.proofs.lemmas.Nat.{from_be_bytes-to_be_bytes_4}
use Rattle.lapin_fields.proofs.OpaqueLaws.{arguments_back}
use Rattle.lapin_methods.specs.declared.exchange.ExchangeMethod.{ExchangeMethod}
use Rattle.lapin_methods.specs.declared.exchange.ExchangeMethod.TheVariants as exchange_method
use Rattle.lapin_methods.specs.declared.queue.QueueMethod.{QueueMethod}
use Rattle.lapin_methods.specs.declared.queue.QueueMethod.TheVariants as queue_method
use Rattle.lapin_frames.specs.Carried.{exchange_again, queue_again}
use Rattle.lapin_frames.specs.FrameFits.{ExchangeFits, QueueFits}
use Rattle.lapin_frames.specs.Methods.{exchange_bytes, queue_bytes}
use Rattle.lapin_frames.specs.MethodReading.{exchange_at, queue_at}
use Rattle.lapin_frames.proofs.Joined.{numbered, joined_2, joined_4, joined_5, joined_6, joined_7}

-- a method of the class exchange, from its number on
pub exchange_back : (m : ExchangeMethod) (rest : List ℕ) → ExchangeFits m → numbered exchange_at (exchange_bytes m ++ rest) ≡ Some (exchange_again m, rest)
exchange_back (exchange_method.Declare exchange kind passive durable auto_delete internal nowait arguments) rest fit = ap (numbered exchange_at) (joined_6 (short 10) (short 0) (text exchange) (text kind) (flags (passive ∷ durable ∷ auto_delete ∷ internal ∷ nowait ∷ [])) (arguments_bytes arguments) rest) ∙ (then_on _ _ _ _ (text_back exchange (text kind ++ (flags (passive ∷ durable ∷ auto_delete ∷ internal ∷ nowait ∷ []) ++ (arguments_bytes arguments ++ rest))) fit.0) (then_on _ _ _ _ (text_back kind (flags (passive ∷ durable ∷ auto_delete ∷ internal ∷ nowait ∷ []) ++ (arguments_bytes arguments ++ rest)) fit.1) (then_on _ _ _ _ (arguments_back arguments rest fit.2) (λ i. Some (exchange_method.Declare exchange kind (flag_1 passive (durable ∷ auto_delete ∷ internal ∷ nowait ∷ []) i) (flag_2 passive durable (auto_delete ∷ internal ∷ nowait ∷ []) i) (flag_4 passive durable auto_delete (internal ∷ nowait ∷ []) i) (flag_8 passive durable auto_delete internal (nowait ∷ []) i) (flag_16 passive durable auto_delete internal nowait [] i) (opaque (table_octets arguments)), rest)))))
exchange_back exchange_method.DeclareOk rest fit = refl
exchange_back (exchange_method.Delete exchange if_unused nowait) rest fit = ap (numbered exchange_at) (joined_4 (short 20) (short 0) (text exchange) (flags (if_unused ∷ nowait ∷ [])) rest) ∙ (then_on _ _ _ _ (text_back exchange (flags (if_unused ∷ nowait ∷ []) ++ rest) fit) (λ i. Some (exchange_method.Delete exchange (flag_1 if_unused (nowait ∷ []) i) (flag_2 if_unused nowait [] i), rest)))
exchange_back exchange_method.DeleteOk rest fit = refl
exchange_back (exchange_method.Bind destination source routing_key nowait arguments) rest fit = ap (numbered exchange_at) (joined_7 (short 30) (short 0) (text destination) (text source) (text routing_key) (flags (nowait ∷ [])) (arguments_bytes arguments) rest) ∙ (then_on _ _ _ _ (text_back destination (text source ++ (text routing_key ++ (flags (nowait ∷ []) ++ (arguments_bytes arguments ++ rest)))) fit.0) (then_on _ _ _ _ (text_back source (text routing_key ++ (flags (nowait ∷ []) ++ (arguments_bytes arguments ++ rest))) fit.1) (then_on _ _ _ _ (text_back routing_key (flags (nowait ∷ []) ++ (arguments_bytes arguments ++ rest)) fit.2) (then_on _ _ _ _ (arguments_back arguments rest fit.3) (λ i. Some (exchange_method.Bind destination source routing_key (flag_1 nowait [] i) (opaque (table_octets arguments)), rest))))))
exchange_back exchange_method.BindOk rest fit = refl
exchange_back (exchange_method.Unbind destination source routing_key nowait arguments) rest fit = ap (numbered exchange_at) (joined_7 (short 40) (short 0) (text destination) (text source) (text routing_key) (flags (nowait ∷ [])) (arguments_bytes arguments) rest) ∙ (then_on _ _ _ _ (text_back destination (text source ++ (text routing_key ++ (flags (nowait ∷ []) ++ (arguments_bytes arguments ++ rest)))) fit.0) (then_on _ _ _ _ (text_back source (text routing_key ++ (flags (nowait ∷ []) ++ (arguments_bytes arguments ++ rest))) fit.1) (then_on _ _ _ _ (text_back routing_key (flags (nowait ∷ []) ++ (arguments_bytes arguments ++ rest)) fit.2) (then_on _ _ _ _ (arguments_back arguments rest fit.3) (λ i. Some (exchange_method.Unbind destination source routing_key (flag_1 nowait [] i) (opaque (table_octets arguments)), rest))))))
exchange_back exchange_method.UnbindOk rest fit = refl

-- a method of the class queue, from its number on
pub queue_back : (m : QueueMethod) (rest : List ℕ) → QueueFits m → numbered queue_at (queue_bytes m ++ rest) ≡ Some (queue_again m, rest)
queue_back (queue_method.Declare queue passive durable exclusive auto_delete nowait arguments) rest fit = ap (numbered queue_at) (joined_5 (short 10) (short 0) (text queue) (flags (passive ∷ durable ∷ exclusive ∷ auto_delete ∷ nowait ∷ [])) (arguments_bytes arguments) rest) ∙ (then_on _ _ _ _ (text_back queue (flags (passive ∷ durable ∷ exclusive ∷ auto_delete ∷ nowait ∷ []) ++ (arguments_bytes arguments ++ rest)) fit.0) (then_on _ _ _ _ (arguments_back arguments rest fit.1) (λ i. Some (queue_method.Declare queue (flag_1 passive (durable ∷ exclusive ∷ auto_delete ∷ nowait ∷ []) i) (flag_2 passive durable (exclusive ∷ auto_delete ∷ nowait ∷ []) i) (flag_4 passive durable exclusive (auto_delete ∷ nowait ∷ []) i) (flag_8 passive durable exclusive auto_delete (nowait ∷ []) i) (flag_16 passive durable exclusive auto_delete nowait [] i) (opaque (table_octets arguments)), rest))))
queue_back (queue_method.DeclareOk queue message_count consumer_count) rest fit = ap (numbered queue_at) (joined_4 (short 11) (text queue) (long message_count) (long consumer_count) rest) ∙ (then_on _ _ _ _ (text_back queue (long message_count ++ (long consumer_count ++ rest)) fit.0) (rw (from_be_bytes-to_be_bytes_4 message_count fit.1) (rw (from_be_bytes-to_be_bytes_4 consumer_count fit.2) refl)))
queue_back (queue_method.Bind queue exchange routing_key nowait arguments) rest fit = ap (numbered queue_at) (joined_7 (short 20) (short 0) (text queue) (text exchange) (text routing_key) (flags (nowait ∷ [])) (arguments_bytes arguments) rest) ∙ (then_on _ _ _ _ (text_back queue (text exchange ++ (text routing_key ++ (flags (nowait ∷ []) ++ (arguments_bytes arguments ++ rest)))) fit.0) (then_on _ _ _ _ (text_back exchange (text routing_key ++ (flags (nowait ∷ []) ++ (arguments_bytes arguments ++ rest))) fit.1) (then_on _ _ _ _ (text_back routing_key (flags (nowait ∷ []) ++ (arguments_bytes arguments ++ rest)) fit.2) (then_on _ _ _ _ (arguments_back arguments rest fit.3) (λ i. Some (queue_method.Bind queue exchange routing_key (flag_1 nowait [] i) (opaque (table_octets arguments)), rest))))))
queue_back queue_method.BindOk rest fit = refl
queue_back (queue_method.Purge queue nowait) rest fit = ap (numbered queue_at) (joined_4 (short 30) (short 0) (text queue) (flags (nowait ∷ [])) rest) ∙ (then_on _ _ _ _ (text_back queue (flags (nowait ∷ []) ++ rest) fit) (λ i. Some (queue_method.Purge queue (flag_1 nowait [] i), rest)))
queue_back (queue_method.PurgeOk message_count) rest fit = ap (numbered queue_at) (joined_2 (short 31) (long message_count) rest) ∙ (rw (from_be_bytes-to_be_bytes_4 message_count fit) refl)
queue_back (queue_method.Delete queue if_unused if_empty nowait) rest fit = ap (numbered queue_at) (joined_4 (short 40) (short 0) (text queue) (flags (if_unused ∷ if_empty ∷ nowait ∷ [])) rest) ∙ (then_on _ _ _ _ (text_back queue (flags (if_unused ∷ if_empty ∷ nowait ∷ []) ++ rest) fit) (λ i. Some (queue_method.Delete queue (flag_1 if_unused (if_empty ∷ nowait ∷ []) i) (flag_2 if_unused if_empty (nowait ∷ []) i) (flag_4 if_unused if_empty nowait [] i), rest)))
queue_back (queue_method.DeleteOk message_count) rest fit = ap (numbered queue_at) (joined_2 (short 41) (long message_count) rest) ∙ (rw (from_be_bytes-to_be_bytes_4 message_count fit) refl)
queue_back (queue_method.Unbind queue exchange routing_key arguments) rest fit = ap (numbered queue_at) (joined_6 (short 50) (short 0) (text queue) (text exchange) (text routing_key) (arguments_bytes arguments) rest) ∙ (then_on _ _ _ _ (text_back queue (text exchange ++ (text routing_key ++ (arguments_bytes arguments ++ rest))) fit.0) (then_on _ _ _ _ (text_back exchange (text routing_key ++ (arguments_bytes arguments ++ rest)) fit.1) (then_on _ _ _ _ (text_back routing_key (arguments_bytes arguments ++ rest) fit.2) (then_on _ _ _ _ (arguments_back arguments rest fit.3) refl))))
queue_back queue_method.UnbindOk rest fit = refl
