-- What goes with a joined run beside its logs, and that an event which brings no part of a content keeps it.
use Rattle.std.proofs.Common.{◌≡◌, ◌∙◌, ℕ, ◌+◌, ◌<◌, ◌==◌, Bool, true, false, cond, ◌&&◌, ◌||◌, List, [], ◌∷◌, ◌++◌, inl, inr, refl, sym, ap, subst, arith}
use Rattle.std.specs.List.{filter, fold, list_any}
use Rattle.std.proofs.lemmas.Bool.{and_parts, both_ways}
use Rattle.std.proofs.lemmas.Bool.Decides.{eqb_tells}
use Rattle.lapin_types.specs.declared.leaving.Left.{Left}
use Rattle.lapin_types.specs.Types.{Frame}
use Rattle.lapin_content.specs.Channels.{expected_on}
use Rattle.lapin_consumer.specs.Readings.{Story}
use Rattle.lapin_rules.specs.ConfirmMarks.{ConfirmMark}
use Rattle.lapin_rules.specs.ConfirmReadings as confirms
use Rattle.lapin_rules.specs.Phases.{is_up, is_live, channel_state}
use Rattle.lapin_rules.specs.declared.phases.ChannelPhase.{ChannelPhase}
use Rattle.lapin_rules.specs.declared.phases.ChannelPhase.TheVariants as phase
use Rattle.lapin_rules.specs.Words.{many}
use Rattle.lapin_rules.specs.Wire.{Wire, phase_of, receives_on}
use Rattle.lapin_types.specs.Types.channel_state as state
use Rattle.lapin_delivery.specs.Marks.{DeliveryMark}
use Rattle.lapin_delivery.specs.Marks as deliveries
use Rattle.lapin_broker.specs.Frames.{channel_of}
use Rattle.lapin_verdicts.specs.Deeds.{Deed, sents, last_opening, is_open}
use Rattle.lapin_verdicts.specs.InStep.{is_frame_on, is_open_on, is_open_waiting}
use Rattle.lapin_types.specs.declared.leaving.Publish.{Publish}
use Rattle.lapin_effects.specs.Effects.{live, hears, Effect}
use Rattle.lapin_verdicts.proofs.Marks.{many-append}
use Rattle.lapin_verdicts.proofs.Opens.{unsent}
use Rattle.lapin_verdicts.proofs.Unread.{is_unread}
use Rattle.lapin_messages.specs.Openings.{begins, registers_as}
use Rattle.lapin_messages.proofs.Backward.{known-append, known-more, Back, Before, Now, back}
use Rattle.lapin_messages.proofs.Channel.{IsKnown, Channel}
use Rattle.lapin_messages.proofs.Deals.{Deals, ArePlain, is_plain, Shape, Plain, Registers, Delivers, Opens, ends_on, is_end, waits_on}
use Rattle.lapin_messages.proofs.Effect.{died, ended_dead, lived, began, still_waits}
use Rattle.lapin_messages.proofs.Logs.{At}
use Rattle.lapin_messages.proofs.Tags.{consumes}
use Rattle.lapin_rules.proofs.ListLaws.{many-none}
use Rattle.lapin_tables.proofs.Bools.{or_true}

-- ---- what goes with a run

-- the frames of a channel since the last `channel.open` among these
abbrev pub next_asked : ℕ → List Frame → Frame → List Frame
next_asked c o f = cond (channel_of f == c) (cond (is_open f) [] (o ++ f ∷ [])) o

abbrev pub asked_on : ℕ → List Frame → List Frame
asked_on c fs = fold (next_asked c) [] fs

-- no consumer of the channel is registered, and no content is expected on it
pub record IsFresh (c : ℕ) (b : Wire) (ms : List DeliveryMark) : Type 0 where
  pub expected : expected_on c b.contents ≡ []
  pub none : (p : ℕ) (s : Story) → At ms p s → s.registered ≡ true → s.channel ≡ c → ⊥

-- of openings and of the consumes on their way
pub record Ways (b : Wire) (cs : List ConfirmMark) (ms : List DeliveryMark) (handed : List Frame) : Type 0 where
  pub counts : (c : ℕ) → many (begins c) ms ≡ many (confirms.begins c) cs
  pub positive : (c : ℕ) → live c b ≡ true → 0 < many (begins c) ms
  pub lives : (p : ℕ) (s : Story) → At ms p s → s.registered ≡ true → live s.channel b ≡ true
  pub empty : (c : ℕ) → is_up b.link ≡ true → live c b ≡ false → expected_on c b.contents ≡ []
  pub waits : (c : ℕ) (t : List ℕ) → is_up b.link ≡ true → waits_on c t b.methods ≡ true → (live c b ≡ true) × IsKnown c ms t
  pub asked : (c : ℕ) (t : List ℕ) → live c b ≡ true → unsent c b ≡ 0 → list_any (consumes t) (asked_on c handed) ≡ true → IsKnown c ms t

-- of the channels that have their opening: what is known once the broker read it, and before
pub record Channels (b : Wire) (ms : List DeliveryMark) (up : List Left) (down : List Frame) (ds : List Deed) : Type 0 where
  pub fresh : (c : ℕ) → (c == 0) ≡ false → live c b ≡ true → is_unread c b up ≡ true → IsFresh c b ms
  pub channel : (c : ℕ) → (c == 0) ≡ false → live c b ≡ true → is_unread c b up ≡ false → (came : List Frame) → sents (last_opening c ds) ≡ came ++ filter (is_frame_on c) down → Channel c ms (expected_on c b.contents) came

-- ---- a channel that is heard lives

pub hears_live : (c : ℕ) (b : Wire) → hears c b ≡ true → (live c b ≡ true) × ((c == 0) ≡ false) × (is_up b.link ≡ true)
hears_live c b h = by (is_up b.link) (c == 0) (phase_of c b) h
  where
    phases : (p : ChannelPhase) → receives_on (channel_state p) ≡ true → is_live p ≡ true
    phases (phase.Open paused) e = refl
    phases (phase.Closing who sent) e = refl
    phases phase.Closed e = absurd cc
    phases phase.Opening e = absurd cc
    phases phase.Crossed e = absurd cc

    by : (u z : Bool) (p : ChannelPhase) → receives_on (cond u (cond z state.Base (channel_state p)) state.Down) ≡ true → ((u && is_live p) ≡ true) × (z ≡ false) × (u ≡ true)
    by true true p e = absurd cc
    by true false p e = (phases p e, refl, refl)
    by false z p e = absurd cc

-- ---- as many pass, so does one

pub any_many : {X : Type 0} (p : X → Bool) (xs : List X) → list_any p xs ≡ true → 0 < many p xs
any_many p [] h = absurd cc
any_many p (x ∷ xs) h = elim (p x) as (λ b. (b || list_any p xs) ≡ true → 0 < cond b (many p xs + 1) (many p xs)) [ true ↦ λ e. omega arith | false ↦ λ e. any_many p xs e ] h

pub many_any : {X : Type 0} (p : X → Bool) (xs : List X) → 0 < many p xs → list_any p xs ≡ true
many_any p [] h = let w : ⊥ = omega (arith, h) in absurd w
many_any p (x ∷ xs) h = elim (p x) as (λ b. 0 < cond b (many p xs + 1) (many p xs) → (b || list_any p xs) ≡ true) [ true ↦ λ e. refl | false ↦ λ e. many_any p xs e ] h

pub same_any : {X : Type 0} (p : X → Bool) (xs ys : List X) → many p xs ≡ many p ys → list_any p xs ≡ list_any p ys
same_any p xs ys e = by (list_any p xs) (list_any p ys) refl refl
  where
    by : (u v : Bool) → list_any p xs ≡ u → list_any p ys ≡ v → u ≡ v
    by true true h k = refl
    by false false h k = refl
    by true false h k = absurd (both_ways _ k (many_any p ys (let z = any_many p xs h in omega (arith, z, e))))
    by false true h k = absurd (both_ways _ h (many_any p xs (let z = any_many p ys k in omega (arith, z, e))))

plain_registers : (c : ℕ) (t : List ℕ) (X : List DeliveryMark) → ArePlain X → list_any (registers_as c t) X ≡ false
plain_registers c t [] p = refl
plain_registers c t (x ∷ X) p = rw (one x p.0) (plain_registers c t X p.1)
  where
    one : (x : DeliveryMark) → is_plain x ≡ true → registers_as c t x ≡ false
    one (deliveries.Consumed d u q) h = absurd cc
    one x h = refl

-- ---- an event

module _ (v : Bool) (b b' : Wire) (xs cs : List ConfirmMark) (X ms : List DeliveryMark) (new : List Publish) (E : Effect b b' xs new) (D : Deals v b b' xs X) where
  -- no opening of a channel that lived and lives begins
  pub unbegun : (c : ℕ) → live c b ≡ true → many (begins c) X ≡ 0
  unbegun c l = elim (list_any (begins c) X) as (λ w. list_any (begins c) X ≡ w → many (begins c) X ≡ 0) [
    | true ↦ λ h. absurd (both_ways _ (began E c (let z = any_many (begins c) X h in let e = D.begun c in omega (arith, z, e))) l)
    | false ↦ λ h. many-none (begins c) X h
  ] refl

  -- one that lives now and lived, or began
  pub unended : (c : ℕ) → live c b' ≡ true → list_any (ends_on c) xs ≡ false
  unended c l = elim (list_any (ends_on c) xs) as (λ w. list_any (ends_on c) xs ≡ w → w ≡ false) [ true ↦ λ h. absurd (ended_dead E c h l) | false ↦ λ h. refl ] refl

  -- one that lived lives on, where its end isn't told to consumers
  pub live_on : (c : ℕ) → live c b ≡ true → (list_any (is_end c) X ≡ true → ⊥) → live c b' ≡ true
  live_on c l n = elim (live c b') as (λ w. live c b' ≡ w → w ≡ true) [ true ↦ λ h. refl | false ↦ λ h. absurd (n (D.ended c (died E c l h))) ] refl

  module _ (hearing : (c : ℕ) (t q : List ℕ) → X ≡ deliveries.Consumed c t q ∷ [] → hears c b ≡ true) where
    -- the consumer that is registered now is of a channel that lives on
    new_lives : (c : ℕ) (t q : List ℕ) → X ≡ deliveries.Consumed c t q ∷ [] → live c b' ≡ true
    new_lives c t q e = live_on c (hears_live c b (hearing c t q e)).0 (λ h. both_ways (list_any (is_end c) (deliveries.Consumed c t q ∷ [])) refl (subst (λ Y. list_any (is_end c) Y ≡ true) e h))

    pub lives_event : ((p : ℕ) (s : Story) → At ms p s → s.registered ≡ true → live s.channel b ≡ true) → (p : ℕ) (s' : Story) → At (ms ++ X) p s' → s'.registered ≡ true → live s'.channel b' ≡ true
    lives_event lives p s' at r = by (back v X D.shape ms p s' at)
      where
        by : Back ms X p s' → live s'.channel b' ≡ true
        by (Before w) = subst (λ c. live c b' ≡ true) (sym w.channel) (live_on w.story.channel (lives p w.story w.there (w.registered r)) (λ h. w.left h r))
        by (Now c t q is it) = subst (λ (y : Story). live y.channel b' ≡ true) (sym it) (new_lives c t q is)

    waits_event : is_up b.link ≡ true → ((c : ℕ) (t : List ℕ) → waits_on c t b.methods ≡ true → (live c b ≡ true) × IsKnown c ms t) → (c : ℕ) (t : List ℕ) → is_up b'.link ≡ true → waits_on c t b'.methods ≡ true → (live c b' ≡ true) × IsKnown c (ms ++ X) t
    waits_event u0 waits c t u h = elim (D.waits.of c t h) as (λ _. (live c b' ≡ true) × IsKnown c (ms ++ X) t) [
      | inl y ↦
          let was = waits c t y in
          let on : live c b' ≡ true = elim (live c b') as (λ w. live c b' ≡ w → w ≡ true) [ true ↦ λ k. refl | false ↦ λ k. absurd (D.dropped c t (died E c was.0 k) u h) ] refl in
          (on, known-more c t ms X (unbegun c was.0) was.1)
      | inr y ↦ newly D.shape y
    ]
      where
        -- its consumer is registered now
        newly : Shape v X → list_any (registers_as c t) X ≡ true → (live c b' ≡ true) × IsKnown c (ms ++ X) t
        newly (Registers d u q is) y = elim (eqb_tells d c) [
          | inl z ↦
              let same : X ≡ deliveries.Consumed c u q ∷ [] = is ∙ ap (λ k. deliveries.Consumed k u q ∷ []) z.1 in
              let was = (hears_live c b (hearing c u q same)).0 in
              let e = known-append c t ms X (unbegun c was) in
              let one = any_many (registers_as c t) X y in
              (new_lives c u q same, omega (arith, e, one))
          | inr z ↦ absurd (both_ways (list_any (registers_as c t) (deliveries.Consumed d u q ∷ [])) (rw (z.0) refl) (subst (λ Y. list_any (registers_as c t) Y ≡ true) is y))
        ]
        newly (Plain pl) y = absurd (both_ways _ (plain_registers c t X pl) y)
        newly (Delivers k d is by) y = absurd (both_ways (list_any (registers_as c t) (deliveries.Delivered k d ∷ [])) refl (subst (λ Y. list_any (registers_as c t) Y ≡ true) is y))
        newly (Opens d is) y = absurd (both_ways (list_any (registers_as c t) (deliveries.Opened d ∷ [])) refl (subst (λ Y. list_any (registers_as c t) Y ≡ true) is y))

  -- so is what is known of openings and consumes
  pub ways_event : (handed : List Frame) → ((c : ℕ) (t q : List ℕ) → X ≡ deliveries.Consumed c t q ∷ [] → hears c b ≡ true) → (is_up b'.link ≡ true → is_up b.link ≡ true) → ((c : ℕ) → is_up b'.link ≡ true → live c b' ≡ false → expected_on c b.contents ≡ [] → expected_on c b'.contents ≡ []) → ((c : ℕ) → is_up b'.link ≡ true → list_any (ends_on c) xs ≡ true → expected_on c b'.contents ≡ []) → Ways b cs ms handed → Ways b' (cs ++ xs) (ms ++ X) handed
  ways_event handed hearing back_up keeps gone w = record {
    counts = λ c. (let a = many-append (begins c) ms X in let e = many-append (confirms.begins c) cs xs in let k = w.counts c in let d = D.begun c in omega (arith, a, e, k, d));
    positive = λ c l. (let a = many-append (begins c) ms X in elim (lived E c l) as (λ _. 0 < many (begins c) (ms ++ X)) [
      | inl y ↦ (let z = w.positive c y in omega (arith, a, z))
      | inr y ↦ (let d = D.begun c in omega (arith, a, y, d))
    ]);
    lives = lives_event hearing w.lives;
    empty = λ c u l. elim (live c b) as (λ q. live c b ≡ q → expected_on c b'.contents ≡ []) [
      | true ↦ λ h. gone c u (died E c h l)
      | false ↦ λ h. keeps c u l (w.empty c (back_up u) h)
    ] refl;
    waits = λ c t u. waits_event hearing (back_up u) (λ d r. w.waits d r (back_up u)) c t u;
    asked = λ c t l z h. elim (lived E c l) as (λ _. IsKnown c (ms ++ X) t) [
      | inl y ↦
          let more = still_waits E c l (and_parts (is_up b'.link) (is_live (phase_of c b')) l).0 in
          let was : unsent c b ≡ 0 = omega (arith, more, z) in
          known-more c t ms X (unbegun c y) (w.asked c t y was h)
      | inr y ↦ (let more = still_waits E c l (and_parts (is_up b'.link) (is_live (phase_of c b')) l).0 in let e : ⊥ = omega (arith, more, z, y) in absurd e)
    ];
  }

  -- an open that waits or is on its way up does so still
  pub same_unread : (c : ℕ) (up : List Left) → live c b ≡ true → live c b' ≡ true → is_unread c b' up ≡ is_unread c b up
  same_unread c up l l' =
      let more = still_waits E c l' (and_parts (is_up b'.link) (is_live (phase_of c b')) l').0 in
      let none = unbegun c l in
      let d = D.begun c in
      ap (λ w. list_any (is_open_on c) up || w) (same_any (is_open_waiting c) b'.methods b.methods (omega (arith, more, none, d)))

  -- an opening that begins is unread, and its channel is fresh
  pub begun_fresh : (c : ℕ) (up : List Left) → live c b ≡ false → live c b' ≡ true → is_unread c b' up ≡ true
  begun_fresh c up l l' = elim (lived E c l') as (λ _. is_unread c b' up ≡ true) [
    | inl y ↦ absurd (both_ways _ l y)
    | inr y ↦
        let more = still_waits E c l' (and_parts (is_up b'.link) (is_live (phase_of c b')) l').0 in
        let some : list_any (is_open_waiting c) b'.methods ≡ true = many_any (is_open_waiting c) b'.methods (omega (arith, more, y)) in
        ap (λ w. list_any (is_open_on c) up || w) some ∙ or_true (list_any (is_open_on c) up)
  ]

  -- nobody is registered on a channel that nobody hears
  pub none_event : (c : ℕ) → ((d : ℕ) (t q : List ℕ) → X ≡ deliveries.Consumed d t q ∷ [] → d ≡ c → ⊥) → ((p : ℕ) (s : Story) → At ms p s → s.registered ≡ true → s.channel ≡ c → ⊥) → (p : ℕ) (s' : Story) → At (ms ++ X) p s' → s'.registered ≡ true → s'.channel ≡ c → ⊥
  none_event c deaf none p s' at r on = by (back v X D.shape ms p s' at)
    where
      by : Back ms X p s' → ⊥
      by (Before w) = none p w.story w.there (w.registered r) (sym w.channel ∙ on)
      by (Now d t q is it) = deaf d t q is (ap (λ (y : Story). y.channel) (sym it) ∙ on)
