-- A header or a body comes: what becomes of its channel, of the other channels, and of the logs.
use Rattle.std.proofs.Common.{◌≡◌, ◌∙◌, ℕ, suc, ◌≤◌, ◌<◌, ◌==◌, Bool, true, false, cond, ◌&&◌, List, [], ◌∷◌, ◌++◌, Option, Some, None, inl, inr, refl, sym, ap, subst, append-nil, slice_get, eq-eqb}
use Rattle.std.specs.List.{filter}
use Rattle.std.proofs.lemmas.Bool.Decides.{eqb_tells}
use Rattle.std.proofs.lemmas.List.Elements.{filter-append}
use Rattle.lapin_types.specs.Types.{Frame}
use Rattle.lapin_types.specs.declared.message.Delivery.{Delivery}
use Rattle.lapin_content.specs.declared.start.Start.{Start as Begin}
use Rattle.lapin_content.specs.declared.start.Start.TheVariants as begin
use Rattle.lapin_content.specs.declared.start.Whole.{Whole as Message}
use Rattle.lapin_content.specs.Contents.{Expected}
use Rattle.lapin_consumer.specs.Readings.{Story}
use Rattle.lapin_consumer.specs.Subscriptions.{is_registered}
use Rattle.lapin_rules.specs.Content.{next_acker, delivered_message, start_deliveries, whole_deliveries}
use Rattle.lapin_rules.specs.Words.{many}
use Rattle.lapin_delivery.specs.Deliveries.{Deliveries, consumer_marks}
use Rattle.lapin_delivery.specs.Marks.{DeliveryMark}
use Rattle.lapin_delivery.specs.Marks as deliveries
use Rattle.lapin_verdicts.specs.Deeds.{Deed, opening, sents}
use Rattle.lapin_verdicts.specs.Messages.{sent_after, sendings, is_to, messages, AreThese, ArePrefix}
use Rattle.lapin_messages.specs.Openings.{begins, registers_as, in_opening, registrations}
use Rattle.lapin_messages.proofs.Channel.{many_known, IsKnown, Channel, channel_mark}
use Rattle.lapin_messages.proofs.Lists.{Longer, last_part, between_last}
use Rattle.lapin_messages.proofs.Logs.{At, Logs, its_opening, logs-push}
use Rattle.lapin_messages.proofs.Parts.{none_whole, whose, to_nobody, old_exact, to_its_consumer}
use Rattle.lapin_messages.proofs.Subscriptions.{Shows, registered-is}
use Rattle.lapin_messages.proofs.Sendings.{coming, consumer_of, Goes, sendings_grow}
use Rattle.lapin_messages.proofs.Stories.{Becomes, brought_by}
use Rattle.lapin_messages.proofs.Tags.{answers_consume, delivers_to}
use Rattle.std.proofs.lemmas.Bool.{both_ways}

-- what a whole content leaves of logs and channels
pub record Brings (c : ℕ) (ms X : List DeliveryMark) (ds : List Deed) (es' : List Expected) (came' : List Frame) : Type 0 where
  pub logs : Logs (ms ++ X) ds
  pub here : Channel c (ms ++ X) es' came'
  pub away : (a : ℕ) → (c == a) ≡ false → (es : List Expected) (came : List Frame) → Channel a ms es came → Channel a (ms ++ X) es came
  -- it registers nobody and begins nothing
  pub quiet : (a : ℕ) → many (begins a) X ≡ 0

some_place : {p q : ℕ} → Some (suc p) ≡ Some (suc q) → p ≡ q
some_place {p = p} {q = q} e = let z : suc p ≡ suc q = cc in cc

module _ (c : ℕ) (ms : List DeliveryMark) (ds : List Deed) (i : Deliveries) (es es' : List Expected) (came : List Frame) (f : Frame) (o : Option Message) (l : Logs ms ds) (shows : Shows ms i.subscriptions) (h : Channel c ms es came) (g : Goes o (coming came) (sent_after (coming came) f) es es') (known : (t : List ℕ) → delivers_to t f ≡ true → IsKnown c ms t) (answers : (t : List ℕ) → answers_consume t f ≡ true → IsKnown c ms t) (sent : Longer (came ++ f ∷ []) (sents (opening c (many (begins c) ms) ds))) where
  -- nothing happens to consumers
  nothing : Channel c ms es' (came ++ f ∷ []) → Brings c ms [] ds es' (came ++ f ∷ [])
  nothing k = record {
    logs = subst (λ v. Logs v ds) (sym (append-nil ms)) l;
    here = subst (λ v. Channel c v es' (came ++ f ∷ [])) (sym (append-nil ms)) k;
    away = λ a off xs cs x. subst (λ v. Channel a v xs cs) (sym (append-nil ms)) x;
    quiet = λ a. refl;
  }

  -- the message of a get takes an acker
  taken : (tag : ℕ) → Channel c ms es' (came ++ f ∷ []) → Brings c ms (deliveries.Got c tag ∷ []) ds es' (came ++ f ∷ [])
  taken tag k = record {
    logs = logs-push ms ds (deliveries.Got c tag) l (λ d p s b. absurd cc) (λ d t q e. absurd cc) (λ p s s' at b n. absurd (n refl));
    here = channel_mark c ms (deliveries.Got c tag) refl es' (came ++ f ∷ []) (λ p s at on. refl) k;
    away = λ a off xs cs x. channel_mark a ms (deliveries.Got c tag) refl xs cs (λ p s at on. refl) x;
    quiet = λ a. refl;
  }

  module _ (w : Message) (is : o ≡ Some w) where
    -- it goes to nobody who is registered
    nobody : ((p : ℕ) (s : Story) → At ms p s → s.registered ≡ true → consumer_of w.start ≡ Some (suc p) → ⊥) → Channel c ms es' (came ++ f ∷ [])
    nobody none = to_nobody c ms es es' came f o h g known answers w is none

    -- it is handed to its consumer
    module _ (k tag : ℕ) (exchange key : List ℕ) (redelivered : Bool) (start : w.start ≡ begin.Deliver (Some k) tag exchange key redelivered) where
      abbrev message : Delivery
      message = delivered_message c (next_acker i) tag exchange key redelivered w

      abbrev mark : DeliveryMark
      mark = deliveries.Delivered k message

      -- the consumer whose number it is, on the channel
      its_channel : (p : ℕ) (s : Story) → At ms p s → (suc p == k) ≡ true → s.channel ≡ c
      its_channel p s at q =
          let x = whose c ms es es' came f o h g known answers w is k (ap consumer_of start) in
          let z : suc p ≡ k = elim (eqb_tells (suc p) k) [ inl y ↦ y.1 | inr m ↦ absurd (both_ways _ m.0 q) ] in
          let place : p ≡ x.0 = some_place (ap Some (z ∙ x.2)) in
          let one : s ≡ x.1 = (let v : Some s ≡ Some x.1 = sym at ∙ (ap (slice_get _) place ∙ x.3) in cc) in
          ap (λ (y : Story). y.channel) one ∙ x.4

      none_else : (a : ℕ) → (c == a) ≡ false → (p : ℕ) (s : Story) → At ms p s → s.channel ≡ a → brought_by (consumer_marks mark) p s ≡ []
      none_else a off p s at on = elim (suc p == k) as (λ v. (suc p == k) ≡ v → cond (v && s.registered) (message ∷ []) [] ≡ []) [
        | true ↦ λ q. absurd (both_ways (c == a) off (eq-eqb c a (sym (its_channel p s at q) ∙ on)))
        | false ↦ λ q. refl
      ] refl

      handed : (p : ℕ) (s s' : Story) → At ms p s → Becomes mark p s s' → (brought_by (consumer_marks mark) p s ≡ [] → ⊥) → registrations s.channel (its_opening p s ms) s.tag ms ≤ 1 → ArePrefix s'.log s.tag (opening s.channel (its_opening p s ms) ds)
      handed p s s' at b n few =
          let both : ((suc p == k) ≡ true) × (s.registered ≡ true) = by (suc p == k) s.registered refl refl n in
          let on : s.channel ≡ c = its_channel p s at both.0 in
          let now = (l.of p s at).present both.1 in
          let P : ℕ → Type 0 = λ d. (its_opening p s ms ≡ many (begins d) ms) × (0 < many (begins d) ms) in
          let now' : P c = subst P on now in
          let place : in_opening s.channel (its_opening p s ms) ms ≡ last_part (begins c) ms = ap (λ d. in_opening d (its_opening p s ms) ms) on ∙ (ap (λ m. in_opening c m ms) now'.0 ∙ between_last (begins c) (many (begins c) ms) ms now'.1 refl) in
          let few' : many_known c s.tag ms ≤ 1 = subst (λ m. m ≤ 1) (ap (λ d. many (registers_as d s.tag) (in_opening s.channel (its_opening p s ms) ms)) on ∙ ap (many (registers_as c s.tag)) place) few in
          let these : AreThese (messages s'.log) (filter (is_to s.tag) (coming (came ++ f ∷ [])).wholes) = old_exact c ms es es' came f o h g known answers w is k (next_acker i) tag exchange key redelivered start p s s' at b both.1 on few' in
          let there : opening s.channel (its_opening p s ms) ds ≡ opening c (many (begins c) ms) ds = ap (λ d. opening d (its_opening p s ms) ds) on ∙ ap (λ m. opening c m ds) now'.0 in
          let more = sendings_grow (came ++ f ∷ []) sent.0 in
          let all : sendings (sents (opening s.channel (its_opening p s ms) ds)) ≡ sendings (came ++ f ∷ []) ++ more.0 = ap (λ v. sendings (sents v)) there ∙ (ap sendings sent.1 ∙ more.1) in
          record {
            first = filter (is_to s.tag) (sendings (came ++ f ∷ []));
            more = filter (is_to s.tag) more.0;
            all = ap (filter (is_to s.tag)) all ∙ filter-append (is_to s.tag) (sendings (came ++ f ∷ [])) more.0;
            are = these;
          }
        where
          by : (u v : Bool) → (suc p == k) ≡ u → s.registered ≡ v → (cond ((suc p == k) && s.registered) (message ∷ []) [] ≡ [] → ⊥) → ((suc p == k) ≡ true) × (s.registered ≡ true)
          by true true e r n = (e, r)
          by true false e r n = absurd (n (rw (e, r) refl))
          by false v e r n = absurd (n (rw e refl))

      given : Brings c ms (mark ∷ []) ds es' (came ++ f ∷ [])
      given = record {
        logs = logs-push ms ds mark l (λ d p s b. absurd cc) (λ d t q e. absurd cc) handed;
        here = to_its_consumer c ms es es' came f o h g known answers w is k (next_acker i) tag exchange key redelivered start;
        away = λ a off xs cs x. channel_mark a ms mark refl xs cs (none_else a off) x;
        quiet = λ a. refl;
      }

    by_start : (b : Begin) → w.start ≡ b → Brings c ms (start_deliveries c i b w) ds es' (came ++ f ∷ [])
    by_start (begin.Deliver (Some k) tag exchange key redelivered) e = elim (is_registered k i.subscriptions) as (λ v. is_registered k i.subscriptions ≡ v → Brings c ms (cond v (deliveries.Delivered k (delivered_message c (next_acker i) tag exchange key redelivered w) ∷ []) []) ds es' (came ++ f ∷ [])) [
      | true ↦ λ r. given k tag exchange key redelivered e
      | false ↦ λ r. nothing (nobody (λ p s at reg q.
          let z : Some k ≡ Some (suc p) = sym (ap consumer_of e) ∙ q in
          let n : k ≡ suc p = cc in
          both_ways _ (sym (registered-is ms ds i.subscriptions l shows p s at) ∙ (ap (λ v. is_registered v i.subscriptions) (sym n) ∙ r)) reg))
    ] refl
    by_start (begin.Deliver None tag exchange key redelivered) e = nothing (nobody (λ p s at reg q. (let z : None ≡ Some (suc p) = sym (ap consumer_of e) ∙ q in cc)))
    by_start (begin.Get ticket tag exchange key redelivered count) e = taken tag (nobody (λ p s at reg q. (let z : None ≡ Some (suc p) = sym (ap consumer_of e) ∙ q in cc)))
    by_start (begin.Return code text exchange key) e = nothing (nobody (λ p s at reg q. (let z : None ≡ Some (suc p) = sym (ap consumer_of e) ∙ q in cc)))

  pub piece_brings : Brings c ms (whole_deliveries c i o) ds es' (came ++ f ∷ [])
  piece_brings = by o refl
    where
      by : (v : Option Message) → o ≡ v → Brings c ms (whole_deliveries c i v) ds es' (came ++ f ∷ [])
      by None e = nothing (none_whole c ms es es' came f o h g known answers e)
      by (Some w) e = by_start w e w.start refl
