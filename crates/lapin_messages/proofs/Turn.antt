-- An event that brings no part of a content keeps all that goes with a run; and so does one that brings a part.
use Rattle.std.proofs.Common.{◌≡◌, ◌∙◌, ℕ, ◌<◌, true, false, List, [], ◌∷◌, ◌++◌, refl, sym, ap, subst, arith}
use Rattle.std.specs.List.{list_any}
use Rattle.std.proofs.lemmas.Bool.{and_parts, both_ways}
use Rattle.lapin_types.specs.declared.event.Event.{Event}
use Rattle.lapin_types.specs.declared.leaving.Left.{Left}
use Rattle.lapin_types.specs.declared.record.Record.{Record}
use Rattle.lapin_types.specs.Types.{Frame}
use Rattle.lapin_content.specs.Channels.{expected_on}
use Rattle.lapin_consumer.specs.Readings.{Story}
use Rattle.lapin_rules.specs.ConfirmMarks.{ConfirmMark}
use Rattle.lapin_rules.specs.Events.{after_event, delivery_marks, confirm_marks}
use Rattle.lapin_rules.specs.Phases.{is_up, is_live}
use Rattle.lapin_rules.specs.Words.{many}
use Rattle.lapin_rules.specs.Wire.{Wire, phase_of}
use Rattle.lapin_delivery.specs.Marks.{DeliveryMark}
use Rattle.lapin_delivery.specs.Marks as deliveries
use Rattle.lapin_verdicts.specs.Deeds.{Deed}
use Rattle.lapin_types.specs.declared.leaving.Publish.{Publish}
use Rattle.lapin_effects.specs.Effects.{is_next}
use Rattle.lapin_effects.specs.Effects.{live, hears, Effect}
use Rattle.lapin_verdicts.proofs.Unread.{is_unread}
use Rattle.lapin_messages.specs.Openings.{begins}
use Rattle.lapin_messages.proofs.Backward.{Back, Before, Now, back, logs_event, channel_event}
use Rattle.lapin_messages.proofs.Channel.{Channel}
use Rattle.lapin_messages.proofs.Contents.{contents_same, contents_gone}
use Rattle.lapin_messages.proofs.Deals.{Deals, ends_on}
use Rattle.lapin_messages.proofs.Dealing.{brings, event_deals}
use Rattle.lapin_messages.proofs.Effect.{began}
use Rattle.lapin_messages.proofs.Logs.{At, Logs}
use Rattle.lapin_messages.proofs.State.{IsFresh, Ways, Channels, hears_live, unbegun, unended, same_unread, begun_fresh, none_event, ways_event}

pub live_up : (c : ℕ) (b : Wire) → live c b ≡ true → is_up b.link ≡ true
live_up c b h = (and_parts (is_up b.link) (is_live (phase_of c b)) h).0

module _ (b : Wire) (cs : List ConfirmMark) (ms : List DeliveryMark) (up : List Left) (down : List Frame) (ds : List Deed) (handed : List Frame) (e : Event) (r : Record) (new : List Publish) (apart : is_next e ≡ false) (E : Effect b (after_event b e r) (confirm_marks b e r) new) (back_up : is_up (after_event b e r).link ≡ true → is_up b.link ≡ true) (hearing : (c : ℕ) (t q : List ℕ) → delivery_marks b e r ≡ deliveries.Consumed c t q ∷ [] → hears c b ≡ true) (read : (c : ℕ) → hears c b ≡ true → is_unread c b up ≡ false) where
  abbrev b' : Wire
  b' = after_event b e r

  abbrev xs : List ConfirmMark
  xs = confirm_marks b e r

  abbrev X : List DeliveryMark
  X = delivery_marks b e r

  deals : Deals (brings e) b b' xs X
  deals = event_deals b e r apart

  -- nobody is registered on a channel whose opening is unread
  deaf : (c : ℕ) → is_unread c b up ≡ true → (d : ℕ) (t q : List ℕ) → X ≡ deliveries.Consumed d t q ∷ [] → d ≡ c → ⊥
  deaf c u d t q e on = both_ways _ (subst (λ v. is_unread v b up ≡ false) on (read d (hearing d t q e))) u

  -- nobody is registered as an opening begins
  begun_none : (c : ℕ) → live c b ≡ false → Ways b cs ms handed → (p : ℕ) (s' : Story) → At (ms ++ X) p s' → s'.registered ≡ true → s'.channel ≡ c → ⊥
  begun_none c dead w p s' at r on = by (back (brings e) X deals.shape ms p s' at)
    where
      by : Back ms X p s' → ⊥
      by (Before k) = both_ways _ dead (subst (λ v. live v b ≡ true) (sym k.channel ∙ on) (w.lives p k.story k.there (k.registered r)))
      by (Now d t q is it) = both_ways _ dead (subst (λ v. live v b ≡ true) (ap (λ (y : Story). y.channel) (sym it) ∙ on) (hears_live d b (hearing d t q is)).0)

  pub opens_quietly : Ways b cs ms handed → (c p : ℕ) (s : Story) → 0 < many (begins c) X → At ms p s → s.registered ≡ true → s.channel ≡ c → ⊥
  opens_quietly w c p s z at r on = both_ways _ (began E c (let d = deals.begun c in omega (arith, z, d))) (subst (λ v. live v b ≡ true) on (w.lives p s at r))

  pub registers_in : Ways b cs ms handed → (c : ℕ) (t q : List ℕ) → X ≡ deliveries.Consumed c t q ∷ [] → 0 < many (begins c) ms
  registers_in w c t q e = w.positive c (hears_live c b (hearing c t q e)).0

  -- ---- one that brings no part of a content

  module _ (plain : brings e ≡ false) where
    pub plain_logs : Ways b cs ms handed → Logs ms ds → Logs (ms ++ X) ds
    plain_logs w l = logs_event (brings e) X deals.shape plain ms ds (opens_quietly w) (registers_in w) l

    same : (c : ℕ) → live c b' ≡ true → expected_on c b'.contents ≡ expected_on c b.contents
    same c l = contents_same c b e r apart plain (live_up c b' l) (unended (brings e) b b' xs cs X ms new E deals c l)

    pub plain_ways : Ways b cs ms handed → Ways b' (cs ++ xs) (ms ++ X) handed
    plain_ways w = ways_event (brings e) b b' xs cs X ms new E deals handed hearing back_up
        (λ c u l empty. elim (list_any (ends_on c) xs) as (λ v. list_any (ends_on c) xs ≡ v → expected_on c b'.contents ≡ []) [
          | true ↦ λ h. contents_gone c b e r apart plain u h
          | false ↦ λ h. contents_same c b e r apart plain u h ∙ empty
        ] refl)
        (λ c u h. contents_gone c b e r apart plain u h)
        w

    pub plain_channels : Ways b cs ms handed → Channels b ms up down ds → Channels b' (ms ++ X) up down ds
    plain_channels w h = record {
      fresh = λ c z l u. elim (live c b) as (λ v. live c b ≡ v → IsFresh c b' (ms ++ X)) [
        | true ↦ λ was.
            let unread : is_unread c b up ≡ true = sym (same_unread (brings e) b b' xs cs X ms new E deals c up was l) ∙ u in
            let f = h.fresh c z was unread in
            record { expected = same c l ∙ f.expected; none = none_event (brings e) b b' xs cs X ms new E deals c (deaf c unread) f.none }
        | false ↦ λ was. record { expected = same c l ∙ w.empty c (back_up (live_up c b' l)) was; none = begun_none c was w }
      ] refl;
      channel = λ c z l u came way. elim (live c b) as (λ v. live c b ≡ v → Channel c (ms ++ X) (expected_on c b'.contents) came) [
        | true ↦ λ was.
            let unread : is_unread c b up ≡ false = sym (same_unread (brings e) b b' xs cs X ms new E deals c up was l) ∙ u in
            subst (λ es. Channel c (ms ++ X) es came) (sym (same c l)) (channel_event c (brings e) X deals.shape plain (unbegun (brings e) b b' xs cs X ms new E deals c was) ms (expected_on c b.contents) came (h.channel c z was unread came way))
        | false ↦ λ was. absurd (both_ways _ u (begun_fresh (brings e) b b' xs cs X ms new E deals c up was l))
      ] refl;
    }
