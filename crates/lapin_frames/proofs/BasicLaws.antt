-- What was written is read: methods of the class basic, with the table carried.
use Rattle.std.proofs.Common.{◌≡◌, ℕ, List, [], ◌∷◌, ◌++◌, Some, refl, ap, ◌∙◌}
use Rattle.lapin_fields.specs.Fields.{short, long, wide, text, flags}
use Rattle.lapin_fields.specs.Opaque.{opaque, table_octets, arguments_bytes}
use Rattle.lapin_fields.proofs.FlagLaws.{flag_1, flag_2, flag_4, flag_8}
use Rattle.lapin_fields.proofs.ReadingLaws.{then_on, text_back, reply_back, string_back}
use Rattle.std.proofs.lemmas.Nat.{from_be_bytes-to_be_bytes_2, from_be_bytes-to_be_bytes_4, from_be_bytes-to_be_bytes_8}
use Rattle.lapin_fields.proofs.OpaqueLaws.{arguments_back}
use Rattle.lapin_methods.specs.declared.basic.BasicMethod.{BasicMethod}
use Rattle.lapin_methods.specs.declared.basic.BasicMethod.TheVariants as basic_method
use Rattle.lapin_frames.specs.Carried.{basic_again}
use Rattle.lapin_frames.specs.FrameFits.{BasicFits}
use Rattle.lapin_frames.specs.Methods.{basic_bytes}
use Rattle.lapin_frames.specs.MethodReading.{basic_at}
use Rattle.lapin_frames.proofs.Joined.{numbered, joined_2, joined_3, joined_4, joined_5, joined_6}

-- a method of the class basic, from its number on
pub basic_back : (m : BasicMethod) (rest : List ℕ) → BasicFits m → numbered basic_at (basic_bytes m ++ rest) ≡ Some (basic_again m, rest)
basic_back (basic_method.Qos prefetch_count global) rest fit = ap (numbered basic_at) (joined_4 (short 10) (long 0) (short prefetch_count) (flags (global ∷ [])) rest) ∙ (rw (from_be_bytes-to_be_bytes_2 prefetch_count fit) (λ i. Some (basic_method.Qos prefetch_count (flag_1 global [] i), rest)))
basic_back basic_method.QosOk rest fit = refl
basic_back (basic_method.Consume queue consumer_tag no_local no_ack exclusive nowait arguments) rest fit = ap (numbered basic_at) (joined_6 (short 20) (short 0) (text queue) (text consumer_tag) (flags (no_local ∷ no_ack ∷ exclusive ∷ nowait ∷ [])) (arguments_bytes arguments) rest) ∙ (then_on _ _ _ _ (text_back queue (text consumer_tag ++ (flags (no_local ∷ no_ack ∷ exclusive ∷ nowait ∷ []) ++ (arguments_bytes arguments ++ rest))) fit.0) (then_on _ _ _ _ (text_back consumer_tag (flags (no_local ∷ no_ack ∷ exclusive ∷ nowait ∷ []) ++ (arguments_bytes arguments ++ rest)) fit.1) (then_on _ _ _ _ (arguments_back arguments rest fit.2) (λ i. Some (basic_method.Consume queue consumer_tag (flag_1 no_local (no_ack ∷ exclusive ∷ nowait ∷ []) i) (flag_2 no_local no_ack (exclusive ∷ nowait ∷ []) i) (flag_4 no_local no_ack exclusive (nowait ∷ []) i) (flag_8 no_local no_ack exclusive nowait [] i) (opaque (table_octets arguments)), rest)))))
basic_back (basic_method.ConsumeOk consumer_tag) rest fit = ap (numbered basic_at) (joined_2 (short 21) (text consumer_tag) rest) ∙ (then_on _ _ _ _ (text_back consumer_tag rest fit) refl)
basic_back (basic_method.Cancel consumer_tag nowait) rest fit = ap (numbered basic_at) (joined_3 (short 30) (text consumer_tag) (flags (nowait ∷ [])) rest) ∙ (then_on _ _ _ _ (text_back consumer_tag (flags (nowait ∷ []) ++ rest) fit) (λ i. Some (basic_method.Cancel consumer_tag (flag_1 nowait [] i), rest)))
basic_back (basic_method.CancelOk consumer_tag) rest fit = ap (numbered basic_at) (joined_2 (short 31) (text consumer_tag) rest) ∙ (then_on _ _ _ _ (text_back consumer_tag rest fit) refl)
basic_back (basic_method.Publish exchange routing_key mandatory immediate) rest fit = ap (numbered basic_at) (joined_5 (short 40) (short 0) (text exchange) (text routing_key) (flags (mandatory ∷ immediate ∷ [])) rest) ∙ (then_on _ _ _ _ (text_back exchange (text routing_key ++ (flags (mandatory ∷ immediate ∷ []) ++ rest)) fit.0) (then_on _ _ _ _ (text_back routing_key (flags (mandatory ∷ immediate ∷ []) ++ rest) fit.1) (λ i. Some (basic_method.Publish exchange routing_key (flag_1 mandatory (immediate ∷ []) i) (flag_2 mandatory immediate [] i), rest))))
basic_back (basic_method.Return reply_code reply_text exchange routing_key) rest fit = ap (numbered basic_at) (joined_5 (short 50) (short reply_code) (text reply_text) (text exchange) (text routing_key) rest) ∙ (rw (from_be_bytes-to_be_bytes_2 reply_code fit.0) (then_on _ _ _ _ (reply_back reply_text (text exchange ++ (text routing_key ++ rest)) fit.1) (then_on _ _ _ _ (reply_back exchange (text routing_key ++ rest) fit.2) (then_on _ _ _ _ (reply_back routing_key rest fit.3) refl))))
basic_back (basic_method.Deliver consumer_tag delivery_tag redelivered exchange routing_key) rest fit = ap (numbered basic_at) (joined_6 (short 60) (text consumer_tag) (wide delivery_tag) (flags (redelivered ∷ [])) (text exchange) (text routing_key) rest) ∙ (then_on _ _ _ _ (text_back consumer_tag (wide delivery_tag ++ (flags (redelivered ∷ []) ++ (text exchange ++ (text routing_key ++ rest)))) fit.0) (rw (from_be_bytes-to_be_bytes_8 delivery_tag fit.1) (then_on _ _ _ _ (reply_back exchange (text routing_key ++ rest) fit.2) (then_on _ _ _ _ (reply_back routing_key rest fit.3) (λ i. Some (basic_method.Deliver consumer_tag delivery_tag (flag_1 redelivered [] i) exchange routing_key, rest))))))
basic_back (basic_method.Get queue no_ack) rest fit = ap (numbered basic_at) (joined_4 (short 70) (short 0) (text queue) (flags (no_ack ∷ [])) rest) ∙ (then_on _ _ _ _ (text_back queue (flags (no_ack ∷ []) ++ rest) fit) (λ i. Some (basic_method.Get queue (flag_1 no_ack [] i), rest)))
basic_back (basic_method.GetOk delivery_tag redelivered exchange routing_key message_count) rest fit = ap (numbered basic_at) (joined_6 (short 71) (wide delivery_tag) (flags (redelivered ∷ [])) (text exchange) (text routing_key) (long message_count) rest) ∙ (rw (from_be_bytes-to_be_bytes_8 delivery_tag fit.0) (then_on _ _ _ _ (reply_back exchange (text routing_key ++ (long message_count ++ rest)) fit.1) (then_on _ _ _ _ (reply_back routing_key (long message_count ++ rest) fit.2) (rw (from_be_bytes-to_be_bytes_4 message_count fit.3) (λ i. Some (basic_method.GetOk delivery_tag (flag_1 redelivered [] i) exchange routing_key message_count, rest))))))
basic_back basic_method.GetEmpty rest fit = ap (numbered basic_at) (joined_2 (short 72) (text []) rest) ∙ (then_on _ _ _ _ (string_back [] rest) refl)
basic_back (basic_method.Ack delivery_tag multiple) rest fit = ap (numbered basic_at) (joined_3 (short 80) (wide delivery_tag) (flags (multiple ∷ [])) rest) ∙ (rw (from_be_bytes-to_be_bytes_8 delivery_tag fit) (λ i. Some (basic_method.Ack delivery_tag (flag_1 multiple [] i), rest)))
basic_back (basic_method.Reject delivery_tag requeue) rest fit = ap (numbered basic_at) (joined_3 (short 90) (wide delivery_tag) (flags (requeue ∷ [])) rest) ∙ (rw (from_be_bytes-to_be_bytes_8 delivery_tag fit) (λ i. Some (basic_method.Reject delivery_tag (flag_1 requeue [] i), rest)))
basic_back (basic_method.RecoverAsync requeue) rest fit = ap (numbered basic_at) (joined_2 (short 100) (flags (requeue ∷ [])) rest) ∙ (λ i. Some (basic_method.RecoverAsync (flag_1 requeue [] i), rest))
basic_back (basic_method.Recover requeue) rest fit = ap (numbered basic_at) (joined_2 (short 110) (flags (requeue ∷ [])) rest) ∙ (λ i. Some (basic_method.Recover (flag_1 requeue [] i), rest))
basic_back basic_method.RecoverOk rest fit = refl
basic_back (basic_method.Nack delivery_tag multiple requeue) rest fit = ap (numbered basic_at) (joined_3 (short 120) (wide delivery_tag) (flags (multiple ∷ requeue ∷ [])) rest) ∙ (rw (from_be_bytes-to_be_bytes_8 delivery_tag fit) (λ i. Some (basic_method.Nack delivery_tag (flag_1 multiple (requeue ∷ []) i) (flag_2 multiple requeue [] i), rest)))
