-- A part of a content comes on a channel: it begins one, or is a piece of the one that is being sent.
use Rattle.std.proofs.Common.{◌≡◌, ◌∙◌, ℕ, suc, ◌≤◌, ◌==◌, Bool, true, false, cond, ◌&&◌, List, [], ◌∷◌, ◌++◌, Option, Some, None, inl, inr, refl, sym, ap, subst, append-nil, slice_get, eq-eqb}
use Rattle.std.specs.List.{filter, list_any}
use Rattle.std.proofs.lemmas.Bool.Decides.{eqb_tells}
use Rattle.std.proofs.lemmas.List.Elements.{filter-append}
use Rattle.lapin_types.specs.Types.{Frame}
use Rattle.lapin_types.specs.declared.message.Delivery.{Delivery}
use Rattle.lapin_content.specs.declared.start.Start.{Start as Begin}
use Rattle.lapin_content.specs.declared.start.Start.TheVariants as begin
use Rattle.lapin_content.specs.declared.start.Whole.{Whole as Message}
use Rattle.lapin_content.specs.Contents.{Expected, expected}
use Rattle.lapin_consumer.specs.Readings.{Story}
use Rattle.lapin_rules.specs.Content.{delivered_message}
use Rattle.lapin_delivery.specs.Deliveries.{consumer_marks}
use Rattle.lapin_delivery.specs.Marks.{DeliveryMark}
use Rattle.lapin_delivery.specs.Marks as deliveries
use Rattle.lapin_verdicts.specs.Messages.{Start, Deliver, Get, Return, Sending, Nothing, Started, Headed, Sent_, sent_after, is_to_start, is_to, messages, delivery_from, AreThese}
use Rattle.lapin_messages.proofs.Channel.{many_known, IsKnown, Sends, Channel, these-push, sends_mark, exact_mark, answered_more}
use Rattle.lapin_messages.proofs.Logs.{At}
use Rattle.lapin_messages.proofs.Sendings.{coming, coming-push, is_sending_to, AreTo, after_to, StartIs, Matches, consumer_of, IsSent, AreSent, Goes}
use Rattle.lapin_messages.proofs.Stories.{Becomes, brought_by}
use Rattle.lapin_messages.proofs.Tags.{answers_consume, delivers_to}

-- ---- a content begins, where none is expected

module _ (c : ℕ) (ms : List DeliveryMark) (came : List Frame) (f : Frame) (st : Start) (b : Begin) (next : sent_after (coming came) f ≡ record { wholes = (coming came).wholes; sending = Started st }) (is : StartIs st b) where
  idle : (s : Sending) → Matches s [] → s ≡ Nothing
  idle Nothing m = refl
  idle (Started s) m = absurd m
  idle (Headed size w) m = absurd m

  pub begin_channel : ((t : List ℕ) → delivers_to t f ≡ true → IsKnown c ms t) → ((t : List ℕ) → answers_consume t f ≡ true → IsKnown c ms t) → ((t : List ℕ) (p : ℕ) (s : Story) → is_to_start t st ≡ true → At ms p s → s.registered ≡ true → s.channel ≡ c → s.tag ≡ t → consumer_of b ≡ Some (suc p)) → ((k : ℕ) → consumer_of b ≡ Some k → (p : ℕ) × (s : Story) × (k ≡ suc p) × At ms p s × (s.channel ≡ c) × (is_to_start s.tag st ≡ true)) → Channel c ms [] came → Channel c ms (expected 60 b ∷ []) (came ++ f ∷ [])
  begin_channel known answers finds whose h =
      let e : coming (came ++ f ∷ []) ≡ record { wholes = (coming came).wholes; sending = Started st } = coming-push came f ∙ next in
      record {
        sends = record {
          matches = subst (λ y. Matches y.sending (expected 60 b ∷ [])) (sym e) (refl, refl, is);
          to = subst (AreTo (IsKnown c ms)) (sym (coming-push came f)) (after_to (IsKnown c ms) f (coming came) h.sends.to known);
          answered = answered_more c ms came f h.sends.answered answers;
          consumer = λ t p s sends at r on tag few. finds t p s (sym (ap (λ y. is_sending_to t y.sending) e) ∙ sends) at r on tag;
          its = λ k g. (let w = whose k g in (w.0, w.1, w.2, w.3, w.4, ap (λ y. is_sending_to w.1.tag y.sending) e ∙ w.5));
        };
        exact = λ p s at r on few. subst (λ y. AreThese (messages s.log) (filter (is_to s.tag) y.wholes)) (sym e) (h.exact p s at r on few);
      }

-- ---- a header or a body

-- the message that a delivery hands is what the broker sent
message_is : (st : Start) (w : Message) (c n k tag : ℕ) (exchange key : List ℕ) (redelivered : Bool) (p : _) (bytes : List ℕ) → StartIs st w.start → p ≡ w.properties → bytes ≡ w.payload → w.start ≡ begin.Deliver (Some k) tag exchange key redelivered → delivered_message c n tag exchange key redelivered w ≡ delivery_from (record { channel_id = c; delivery_tag = tag; number = n; used = false }) st p bytes
message_is (Deliver consumer tag' redelivered' exchange' key') w c n k tag exchange key redelivered p bytes is props pay e =
    let same : begin.Deliver is.0 tag' exchange' key' redelivered' ≡ begin.Deliver (Some k) tag exchange key redelivered = sym is.1 ∙ e in
    let a : tag' ≡ tag = cc in
    let x : exchange' ≡ exchange = cc in
    let y : key' ≡ key = cc in
    let z : redelivered' ≡ redelivered = cc in
    rw (a, x, y, z, props, pay) refl
message_is (Get tag' redelivered' exchange' key' count) w c n k tag exchange key redelivered p bytes is props pay e = absurd (subst (StartIs (Get tag' redelivered' exchange' key' count)) e is)
message_is (Return code text exchange' key') w c n k tag exchange key redelivered p bytes is props pay e = absurd (subst (StartIs (Return code text exchange' key')) e is)

module _ (c : ℕ) (ms : List DeliveryMark) (es es' : List Expected) (came : List Frame) (f : Frame) (o : Option Message) (h : Channel c ms es came) (g : Goes o (coming came) (sent_after (coming came) f) es es') (known : (t : List ℕ) → delivers_to t f ≡ true → IsKnown c ms t) (answers : (t : List ℕ) → answers_consume t f ≡ true → IsKnown c ms t) where
  abbrev pub after : Sent_
  after = sent_after (coming came) f

  -- what is expected and sent goes on
  pub piece_sends : Sends c ms es' (came ++ f ∷ [])
  piece_sends =
      let e : coming (came ++ f ∷ []) ≡ after = coming-push came f in
      record {
        matches = subst (λ y. Matches y.sending es') (sym e) g.matches;
        to = subst (AreTo (IsKnown c ms)) (sym e) (after_to (IsKnown c ms) f (coming came) h.sends.to known);
        answered = answered_more c ms came f h.sends.answered answers;
        consumer = λ t p s sends at r on tag few. (let w = g.to t (sym (ap (λ y. is_sending_to t y.sending) e) ∙ sends) in w.1 ∙ h.sends.consumer t p s w.0 at r on tag few);
        its = λ k front.
            let w = g.consumer k front in
            let x = h.sends.its k w.0 in
            (x.0, x.1, x.2, x.3, x.4, ap (λ y. is_sending_to x.1.tag y.sending) e ∙ w.1 x.1.tag x.5);
      }

  -- nothing became whole
  pub none_whole : o ≡ None → Channel c ms es' (came ++ f ∷ [])
  none_whole n =
      let same : after.wholes ≡ (coming came).wholes = subst (λ v. AreSent v (coming came) es after.wholes) n g.sent in
      let all : (coming (came ++ f ∷ [])).wholes ≡ (coming came).wholes = ap (λ (y : Sent_). y.wholes) (coming-push came f) ∙ same in
      record { sends = piece_sends; exact = λ p s at r on few. subst (λ ws. AreThese (messages s.log) (filter (is_to s.tag) ws)) (sym all) (h.exact p s at r on few) }

  -- one became whole
  module _ (w : Message) (is : o ≡ Some w) where
    abbrev pub sent : IsSent w (coming came) es after.wholes
    sent = subst (λ v. AreSent v (coming came) es after.wholes) is g.sent

    all : (coming (came ++ f ∷ [])).wholes ≡ (coming came).wholes ++ sent.whole ∷ []
    all = ap (λ (y : Sent_). y.wholes) (coming-push came f) ∙ sent.all

    -- what went to a tag then
    went : (t : List ℕ) → filter (is_to t) (coming (came ++ f ∷ [])).wholes ≡ filter (is_to t) (coming came).wholes ++ cond (is_to t sent.whole) (sent.whole ∷ []) []
    went t = ap (filter (is_to t)) all ∙ filter-append (is_to t) (coming came).wholes (sent.whole ∷ [])

    pub wholes_known : (t : List ℕ) → list_any (is_to t) (coming (came ++ f ∷ [])).wholes ≡ true → IsKnown c ms t
    wholes_known = piece_sends.to.wholes

    -- it goes to a registered consumer's tag where that is its consumer
    is_its : (p : ℕ) (s : Story) → At ms p s → s.registered ≡ true → s.channel ≡ c → many_known c s.tag ms ≤ 1 → is_to s.tag sent.whole ≡ true → consumer_of w.start ≡ Some (suc p)
    is_its p s at r on few to = sent.consumer ∙ h.sends.consumer s.tag p s (sym (sent.to s.tag) ∙ to) at r on refl few

    pub whose : (k : ℕ) → consumer_of w.start ≡ Some k → (p : ℕ) × (s : Story) × (k ≡ suc p) × At ms p s × (s.channel ≡ c) × (is_to s.tag sent.whole ≡ true)
    whose k e = let x = h.sends.its k (sym sent.consumer ∙ e) in (x.0, x.1, x.2, x.3, x.4, sent.to x.1.tag ∙ x.5)

    -- it went to nobody who is registered
    pub to_nobody : ((p : ℕ) (s : Story) → At ms p s → s.registered ≡ true → consumer_of w.start ≡ Some (suc p) → ⊥) → Channel c ms es' (came ++ f ∷ [])
    to_nobody none = record {
      sends = piece_sends;
      exact = λ p s at r on few.
          let off : is_to s.tag sent.whole ≡ false = elim (is_to s.tag sent.whole) as (λ v. is_to s.tag sent.whole ≡ v → v ≡ false) [ true ↦ λ e. absurd (none p s at r (is_its p s at r on few e)) | false ↦ λ e. refl ] refl in
          subst (AreThese (messages s.log)) (sym (went s.tag ∙ (ap (λ v. filter (is_to s.tag) (coming came).wholes ++ cond v (sent.whole ∷ []) []) off ∙ append-nil _))) (h.exact p s at r on few);
    }

    -- it is handed to its consumer
    module _ (k n tag : ℕ) (exchange key : List ℕ) (redelivered : Bool) (start : w.start ≡ begin.Deliver (Some k) tag exchange key redelivered) where
      abbrev pub delivery : Delivery
      delivery = delivered_message c n tag exchange key redelivered w

      abbrev pub handing : DeliveryMark
      handing = deliveries.Delivered k delivery

      mine : (p : ℕ) → consumer_of w.start ≡ Some (suc p) → (suc p == k) ≡ true
      mine p e = let z : k ≡ suc p = (let v : Some k ≡ Some (suc p) = sym (ap consumer_of start) ∙ e in cc) in eq-eqb (suc p) k (sym z)

      -- what becomes of a consumer that is registered
      pub old_exact : (p : ℕ) (s s' : Story) → At ms p s → Becomes handing p s s' → s.registered ≡ true → s.channel ≡ c → many_known c s.tag ms ≤ 1 → AreThese (messages s'.log) (filter (is_to s.tag) (coming (came ++ f ∷ [])).wholes)
      old_exact p s s' at b r on few = elim (is_to s.tag sent.whole) as (λ v. is_to s.tag sent.whole ≡ v → AreThese (messages s'.log) (filter (is_to s.tag) (coming (came ++ f ∷ [])).wholes)) [
        | true ↦ λ e.
            let got : messages s'.log ≡ messages s.log ++ delivery ∷ [] = b.messages ∙ ap (λ v. messages s.log ++ v) (rw (mine p (is_its p s at r on few e), r) refl) in
            let is_sent : delivery ≡ delivery_from delivery.acker sent.whole.start sent.whole.properties sent.whole.payload = message_is sent.whole.start w c n k tag exchange key redelivered sent.whole.properties sent.whole.payload sent.start sent.properties sent.payload start in
            subst (λ v. AreThese v (filter (is_to s.tag) (coming (came ++ f ∷ [])).wholes)) (sym got) (subst (AreThese (messages s.log ++ delivery ∷ [])) (sym (went s.tag ∙ ap (λ v. filter (is_to s.tag) (coming came).wholes ++ cond v (sent.whole ∷ []) []) e)) (these-push (messages s.log) (filter (is_to s.tag) (coming came).wholes) delivery sent.whole (h.exact p s at r on few) is_sent))
        | false ↦ λ e.
            let none : brought_by (consumer_marks handing) p s ≡ [] = elim (suc p == k) as (λ v. (suc p == k) ≡ v → cond (v && s.registered) (delivery ∷ []) [] ≡ []) [
              | true ↦ λ q. absurd (other p s at e q)
              | false ↦ λ q. refl
            ] refl in
            subst (λ v. AreThese v (filter (is_to s.tag) (coming (came ++ f ∷ [])).wholes)) (sym (b.messages ∙ (ap (λ v. messages s.log ++ v) none ∙ append-nil (messages s.log)))) (subst (AreThese (messages s.log)) (sym (went s.tag ∙ (ap (λ v. filter (is_to s.tag) (coming came).wholes ++ cond v (sent.whole ∷ []) []) e ∙ append-nil _))) (h.exact p s at r on few))
      ] refl
        where
          other : (p : ℕ) (s : Story) → At ms p s → is_to s.tag sent.whole ≡ false → (suc p == k) ≡ true → ⊥
          other p s at e q =
              let x = whose k (ap consumer_of start) in
              let place : p ≡ x.0 = (let z : suc p ≡ k = elim (eqb_tells (suc p) k) [ inl y ↦ y.1 | inr m ↦ (let v : true ≡ false = sym q ∙ m.0 in absurd cc) ] in let v : suc p ≡ suc x.0 = z ∙ x.2 in cc) in
              let one : s ≡ x.1 = (let v : Some s ≡ Some x.1 = sym at ∙ (ap (slice_get _) place ∙ x.3) in cc) in
              let z : true ≡ false = sym x.5 ∙ (ap (λ (y : Story). is_to y.tag sent.whole) (sym one) ∙ e) in
              cc

      pub to_its_consumer : Channel c (ms ++ handing ∷ []) es' (came ++ f ∷ [])
      to_its_consumer = record { sends = sends_mark c ms handing refl es' (came ++ f ∷ []) piece_sends; exact = exact_mark c ms handing refl (coming (came ++ f ∷ [])).wholes wholes_known old_exact }
