-- A frame request keeps what goes with a run: a method that leaves is on its way then.
use Rattle.std.proofs.Common.{◌≡◌, ◌∙◌, ℕ, ◌+◌, ◌<◌, ◌==◌, Bool, true, false, cond, ◌&&◌, ◌||◌, List, [], ◌∷◌, ◌++◌, Option, Some, None, inl, inr, refl, sym, ap, subst, append-nil, arith, eq-eqb}
use Rattle.std.specs.List.{find, list_any}
use Rattle.std.specs.Option.{option_map}
use Rattle.std.proofs.lemmas.Bool.{and_parts, both_ways}
use Rattle.std.proofs.lemmas.Bool.Decides.{eqb_tells}
use Rattle.std.proofs.lemmas.List.Folds.{list_any-append}
use Rattle.std.proofs.lemmas.List.Sums.{fold-append}
use Rattle.lapin_types.specs.declared.leaving.Left.{Left}
use Rattle.lapin_types.specs.declared.leaving.Publish.{Publish}
use Rattle.lapin_types.specs.Types.{Frame}
use Rattle.lapin_types.specs.Types.frame
use Rattle.lapin_types.specs.Types.method
use Rattle.lapin_types.specs.Types.channel
use Rattle.lapin_tables.specs.ByChannel.{at_channel, on_channel}
use Rattle.lapin_tables.proofs.Channels.{at-on_same, at-on_other}
use Rattle.lapin_content.specs.Channels.{expected_on}
use Rattle.lapin_rules.specs.ConfirmMarks.{ConfirmMark}
use Rattle.lapin_rules.specs.ConfirmReadings as confirms
use Rattle.lapin_rules.specs.ChannelClose.{close_sent, phases_sent}
use Rattle.lapin_rules.specs.Frames.{MethodEntry, RestEntry, left_publish}
use Rattle.lapin_rules.specs.Handing.{handed_out, sent, after_handing, left_marks}
use Rattle.lapin_rules.specs.Leaving.{may_begin, handed_of, left_of, left_lists}
use Rattle.lapin_rules.specs.Phases.{is_up, is_live, phase_in}
use Rattle.lapin_rules.specs.Words.{many}
use Rattle.lapin_rules.specs.Wire.{Wire, phase_of, lists_of, with_lists}
use Rattle.lapin_rules.specs.declared.phases.ChannelPhase.{ChannelPhase}
use Rattle.lapin_delivery.specs.Marks.{DeliveryMark}
use Rattle.lapin_broker.specs.Frames.{channel_of}
use Rattle.lapin_joint.specs.Joint.{left_alone}
use Rattle.lapin_verdicts.specs.Deeds.{Deed, is_open}
use Rattle.lapin_verdicts.specs.InStep.{is_open_on, is_open_waiting}
use Rattle.lapin_verdicts.specs.Session.{frames_of}
use Rattle.lapin_effects.specs.Effects.{live}
use Rattle.lapin_verdicts.proofs.Marks.{many-append}
use Rattle.lapin_verdicts.proofs.Numbering.{is_content, AreRest}
use Rattle.lapin_verdicts.proofs.Opens.{unsent, next_waits, left_begins, sent_methods}
use Rattle.lapin_verdicts.proofs.Unread.{is_unread}
use Rattle.lapin_messages.proofs.Channel.{IsKnown, Channel}
use Rattle.lapin_messages.proofs.Deals.{is_waiting, waits_on}
use Rattle.lapin_messages.proofs.State.{next_asked, asked_on, Ways, Channels, any_many}
use Rattle.lapin_messages.proofs.Tags.{consumes, names_consume}
use Rattle.lapin_rules.proofs.ListLaws.{many-none}
use Rattle.lapin_tables.proofs.Bools.{only_first}
use Rattle.lapin_laws.proofs.Alive.{live-close_sent}
use Rattle.lapin_machine.proofs.Keeping.{live-mapped}

-- ---- the states

closed_live : (c d : ℕ) (ps : List (ℕ × ChannelPhase)) → is_live (phase_in (at_channel d (on_channel c close_sent ps))) ≡ is_live (phase_in (at_channel d ps))
closed_live c d ps = elim (eqb_tells c d) [
  | inl y ↦ subst (λ k. is_live (phase_in (at_channel k (on_channel c close_sent ps))) ≡ is_live (phase_in (at_channel k ps))) y.1 (ap (λ o. is_live (phase_in o)) (at-on_same c close_sent ps) ∙ live-mapped (at_channel c ps))
  | inr n ↦ ap (λ o. is_live (phase_in o)) (at-on_other c d close_sent ps (λ e. both_ways (c == d) n.0 (eq-eqb c d e)))
]

frame_live : (f : Frame) (d : ℕ) (ps : List (ℕ × ChannelPhase)) → is_live (phase_in (at_channel d (phases_sent f ps))) ≡ is_live (phase_in (at_channel d ps))
frame_live (frame.Method c (method.Channel (channel.Close code text class number))) d ps = closed_live c d ps
frame_live _ d ps = refl

sent_phases : (o : Option Left) (b : Wire) (d : ℕ) → is_live (phase_of d (sent o b)) ≡ is_live (phase_of d b)
sent_phases None b d = refl
sent_phases (Some l) b d = frame_live l.frame d b.phases

pub sent_contents : (o : Option Left) (b : Wire) → (sent o b).contents ≡ b.contents
sent_contents None b = refl
sent_contents (Some l) b = refl

-- ---- the frame that leaves

content_none : (t : List ℕ) (f : Frame) → is_content f ≡ true → consumes t f ≡ false
content_none t (frame.Method c m) h = absurd cc
content_none t (frame.Header c h) e = refl
content_none t (frame.Body c bytes) e = refl

-- fewer methods wait
left_fewer : (c m d : ℕ) (u : List ℕ) (t : ℕ → Bool) (rs : List RestEntry) (es : List MethodEntry) (ps : List Publish) → waits_on c u (left_of m t rs es ps).methods ≡ true → waits_on c u es ≡ true
left_fewer c m d u t (f ∷ rs) es ps h = h
left_fewer c m d u t [] (x ∷ es) ps h = elim (is_waiting c u x) as (λ v. (v || waits_on c u es) ≡ true) [ true ↦ refl | false ↦ h ]
left_fewer c m d u t [] [] ps h = h

-- a consume that leaves waited
left_waited : (c d : ℕ) (u : List ℕ) (t : ℕ → Bool) (rs : List RestEntry) (es : List MethodEntry) (ps : List Publish) (l : Left) → AreRest d rs → handed_of t rs es ps ≡ Some l → (channel_of l.frame == c) ≡ true → consumes u l.frame ≡ true → waits_on c u es ≡ true
left_waited c d u t (f ∷ rs) es ps l a e on h = absurd (both_ways _ (let same : f.frame ≡ l.frame = cc in ap (consumes u) (sym same) ∙ content_none u f.frame a.1) h)
left_waited c d u t [] (x ∷ es) ps l a e on h =
    let same : frame.Method x.channel x.method ≡ l.frame = cc in
    let here : (x.channel == c) ≡ true = ap (λ v. channel_of v == c) same ∙ on in
    let named : names_consume u x.method ≡ true = ap (consumes u) same ∙ h in
    rw (here, named) refl
left_waited c d u t [] [] ps l a e on h = by (find (may_begin t) ps) e
  where
    by : (o : Option Publish) → option_map left_publish o ≡ Some l → waits_on c u [] ≡ true
    by None g = absurd cc
    by (Some q) g = absurd (both_ways _ (let same : (left_publish q).frame ≡ l.frame = cc in ap (consumes u) (sym same)) h)

-- ---- counts of both places of an open

unread_count : (c : ℕ) (b : Wire) (up : List Left) → is_unread c b up ≡ true → 0 < many (is_open_on c) up + unsent c b
unread_count c b up h = by (list_any (is_open_on c) up) refl h
  where
    by : (v : Bool) → list_any (is_open_on c) up ≡ v → (v || list_any (is_open_waiting c) b.methods) ≡ true → 0 < many (is_open_on c) up + unsent c b
    by true e g = let z = any_many (is_open_on c) up e in omega (arith, z)
    by false e g = let z = any_many (is_open_waiting c) b.methods g in omega (arith, z)

count_unread : (c : ℕ) (b : Wire) (up : List Left) → 0 < many (is_open_on c) up + unsent c b → is_unread c b up ≡ true
count_unread c b up h = by (list_any (is_open_on c) up) (list_any (is_open_waiting c) b.methods) refl refl
  where
    by : (u v : Bool) → list_any (is_open_on c) up ≡ u → list_any (is_open_waiting c) b.methods ≡ v → (u || v) ≡ true
    by true v e g = refl
    by false true e g = refl
    by false false e g = absurd (let x = many-none (is_open_on c) up e in let y = many-none (is_open_waiting c) b.methods g in let w : ⊥ = omega (arith, x, y, h) in w)

pub same_count : (c : ℕ) (b b' : Wire) (up up' : List Left) → many (is_open_on c) up' + unsent c b' ≡ many (is_open_on c) up + unsent c b → is_unread c b' up' ≡ is_unread c b up
same_count c b b' up up' e = by (is_unread c b' up') (is_unread c b up) refl refl
  where
    by : (u v : Bool) → is_unread c b' up' ≡ u → is_unread c b up ≡ v → u ≡ v
    by true true h k = refl
    by false false h k = refl
    by true false h k = absurd (both_ways _ k (count_unread c b up (let z = unread_count c b' up' h in omega (arith, z, e))))
    by false true h k = absurd (both_ways _ h (count_unread c b' up' (let z = unread_count c b up k in omega (arith, z, e))))

-- ---- what goes with a run

module _ (t : ℕ → Bool) (b : Wire) (d : ℕ) (a : AreRest d b.rest) where
  abbrev after : Wire
  after = after_handing t b

  abbrev leaves : Option Left
  leaves = handed_out t b

  same_live : (c : ℕ) → live c after ≡ live c b
  same_live c = ap (λ v. v && is_live (phase_of c after)) (next_waits c d t b a).0 ∙ ap (λ v. is_up b.link && v) (sent_phases (handed_out t b) (with_lists (left_lists b.frame_max t (lists_of b)) b) c)

  same_contents : after.contents ≡ b.contents
  same_contents = sent_contents (handed_out t b) (with_lists (left_lists b.frame_max t (lists_of b)) b)

  waited : (c : ℕ) (u : List ℕ) → waits_on c u after.methods ≡ true → waits_on c u b.methods ≡ true
  waited c u h = left_fewer c b.frame_max d u t b.rest b.methods b.publishes (ap (waits_on c u) (sym (sent_methods (handed_out t b) (with_lists (left_lists b.frame_max t (lists_of b)) b))) ∙ h)

  asked_more : (c : ℕ) (fs : List Frame) (l : Left) → asked_on c (fs ++ l.frame ∷ []) ≡ next_asked c (asked_on c fs) l.frame
  asked_more c fs l = fold-append (next_asked c) [] fs (l.frame ∷ [])

  pub ways_request : (cs : List ConfirmMark) (ms : List DeliveryMark) (handed : List Frame) → Ways b cs ms handed → Ways after (cs ++ left_marks leaves) ms (handed ++ frames_of (left_alone leaves))
  ways_request cs ms handed w = record {
    counts = λ c. (let k = w.counts c in let e = many-append (confirms.begins c) cs (left_marks leaves) in let n = left_begins c leaves in omega (arith, k, e, n));
    positive = λ c l. w.positive c (sym (same_live c) ∙ l);
    lives = λ p s at r. same_live s.channel ∙ w.lives p s at r;
    empty = λ c u l. ap (expected_on c) same_contents ∙ w.empty c (sym (next_waits c d t b a).0 ∙ u) (sym (same_live c) ∙ l);
    waits = λ c u v h. (let k = w.waits c u (sym (next_waits c d t b a).0 ∙ v) (waited c u h) in (same_live c ∙ k.0, k.1));
    asked = λ c u l z h. by c u (sym (same_live c) ∙ l) z leaves refl h;
  }
    where
      by : (c : ℕ) (u : List ℕ) → live c b ≡ true → unsent c after ≡ 0 → (o : Option Left) → leaves ≡ o → list_any (consumes u) (asked_on c (handed ++ frames_of (left_alone o))) ≡ true → IsKnown c ms u
      by c u l z None e h =
          let n = (next_waits c d t b a).1 in
          let none : many (is_open_on c) (left_alone leaves) ≡ 0 = ap (λ v. many (is_open_on c) (left_alone v)) e in
          w.asked c u l (omega (arith, n, z, none)) (ap (λ v. list_any (consumes u) (asked_on c v)) (sym (append-nil handed)) ∙ h)
      by c u l z (Some x) e h = on (channel_of x.frame == c) (is_open x.frame) refl refl
        where
          count : ◌≡◌ {A = ℕ} (many (is_open_on c) (left_alone leaves)) (cond ((channel_of x.frame == c) && is_open x.frame) 1 0)
          count = ap (λ v. many (is_open_on c) (left_alone v)) e

          now : list_any (consumes u) (next_asked c (asked_on c handed) x.frame) ≡ true
          now = ap (list_any (consumes u)) (sym (asked_more c handed x)) ∙ h

          before : ◌≡◌ {A = ℕ} (cond ((channel_of x.frame == c) && is_open x.frame) 1 0) 0 → list_any (consumes u) (asked_on c handed) ≡ true → IsKnown c ms u
          before none g = let n = (next_waits c d t b a).1 in let k = count in w.asked c u l (omega (arith, n, z, k, none)) g

          on : (v q : Bool) → (channel_of x.frame == c) ≡ v → is_open x.frame ≡ q → IsKnown c ms u
          on false q f g = before (rw f refl) (ap (λ v. list_any (consumes u) (cond v (cond (is_open x.frame) [] (asked_on c handed ++ x.frame ∷ [])) (asked_on c handed))) (sym f) ∙ now)
          on true true f g = absurd (let none : list_any (consumes u) (cond (channel_of x.frame == c) (cond (is_open x.frame) [] (asked_on c handed ++ x.frame ∷ [])) (asked_on c handed)) ≡ false = rw (f, g) refl in both_ways _ none now)
          on true false f g = both (list_any (consumes u) (asked_on c handed)) refl
              (sym (list_any-append (consumes u) (asked_on c handed) (x.frame ∷ [])) ∙ (ap (λ v. list_any (consumes u) (cond v (asked_on c handed ++ x.frame ∷ []) (asked_on c handed))) (sym f) ∙ (ap (λ q. list_any (consumes u) (cond (channel_of x.frame == c) (cond q [] (asked_on c handed ++ x.frame ∷ [])) (asked_on c handed))) (sym g) ∙ now)))
            where
              both : (q : Bool) → list_any (consumes u) (asked_on c handed) ≡ q → (list_any (consumes u) (asked_on c handed) || (consumes u x.frame || false)) ≡ true → IsKnown c ms u
              both true k m = before (rw (f, g) refl) k
              both false k m = (w.waits c u (and_parts (is_up b.link) (is_live (phase_of c b)) l).0 (left_waited c d u t b.rest b.methods b.publishes x a e f (only_first (consumes u x.frame) (rw k at m)))).1

  pub channels_request : (ms : List DeliveryMark) (up : List Left) (down : List Frame) (ds : List Deed) → Channels b ms up down ds → Channels after ms (up ++ left_alone leaves) down ds
  channels_request ms up down ds h = record {
    fresh = λ c z l u. (let f = h.fresh c z (sym (same_live c) ∙ l) (sym (unread c) ∙ u) in record { expected = ap (expected_on c) same_contents ∙ f.expected; none = f.none });
    channel = λ c z l u came e. subst (λ v. Channel c ms (expected_on c v) came) (sym same_contents) (h.channel c z (sym (same_live c) ∙ l) (sym (unread c) ∙ u) came e);
  }
    where
      unread : (c : ℕ) → is_unread c after (up ++ left_alone leaves) ≡ is_unread c b up
      unread c = same_count c b after up (up ++ left_alone leaves) (let n = (next_waits c d t b a).1 in let m = many-append (is_open_on c) up (left_alone leaves) in omega (arith, n, m))
