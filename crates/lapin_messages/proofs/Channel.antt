-- What is known of a channel that has its opening: what it expects and what its consumers were handed are what came, of what the broker
-- sent in its last opening.
use Rattle.std.proofs.Common.{◌≡◌, ◌∙◌, ℕ, zero, suc, ◌+◌, ◌≤◌, ◌<◌, Bool, true, false, cond, ◌||◌, List, [], ◌∷◌, ◌++◌, length, Some, refl, sym, ap, subst, append-nil, arith, slice_get, eq-eqb}
use Rattle.std.specs.List.{filter, list_any}
use Rattle.std.proofs.lemmas.List.Folds.{list_any-append}
use Rattle.lapin_types.specs.Types.{Frame}
use Rattle.lapin_types.specs.declared.message.Delivery.{Delivery}
use Rattle.lapin_content.specs.Contents.{Expected}
use Rattle.lapin_consumer.specs.Readings.{Story, newcomer_story}
use Rattle.lapin_rules.specs.Words.{many}
use Rattle.lapin_delivery.specs.Deliveries.{consumer_marks}
use Rattle.lapin_delivery.specs.Marks.{DeliveryMark}
use Rattle.lapin_delivery.specs.Marks as deliveries
use Rattle.lapin_verdicts.specs.Messages.{Whole, sent_after, is_to, messages, delivery_from, AreThese}
use Rattle.lapin_verdicts.proofs.Marks.{many-append}
use Rattle.lapin_messages.specs.Openings.{begins, registers, registers_as}
use Rattle.lapin_messages.proofs.Lists.{last_part, last-push}
use Rattle.lapin_messages.proofs.Logs.{At, text-same}
use Rattle.lapin_messages.proofs.Sendings.{coming, coming-push, is_sending_to, AreTo, none_to, Matches, front_consumer}
use Rattle.lapin_messages.proofs.Stories.{Becomes, stories_of, From, Old, Fresh, from, length-stories, brought_by}
use Rattle.lapin_messages.proofs.Tags.{answers_consume}
use Rattle.lapin_tables.proofs.Bools.{only_first}
use Rattle.std.proofs.lemmas.Option.{slice_get_within}

-- ---- which tags were registered in the last opening

abbrev pub many_known : ℕ → List ℕ → List DeliveryMark → ℕ
many_known c t ms = many (registers_as c t) (last_part (begins c) ms)

abbrev pub IsKnown : ℕ → List DeliveryMark → List ℕ → Type 0
IsKnown c ms t = 0 < many_known c t ms

pub known-push : (c : ℕ) (t : List ℕ) (ms : List DeliveryMark) (x : DeliveryMark) → begins c x ≡ false → many_known c t (ms ++ x ∷ []) ≡ many_known c t ms + many (registers_as c t) (x ∷ [])
known-push c t ms x e =
    ap (many (registers_as c t)) (last-push (begins c) ms x ∙ ap (λ v. cond v [] (last_part (begins c) ms ++ x ∷ [])) e)
    ∙ many-append (registers_as c t) (last_part (begins c) ms) (x ∷ [])

-- ---- consumers, one mark later

-- the consumer at a place is there after the mark too
pub onward : (ms : List DeliveryMark) (x : DeliveryMark) (p : ℕ) (s : Story) → At ms p s → (s' : Story) × At (ms ++ x ∷ []) p s' × Becomes x p s s'
onward ms x p s at =
    let within : p < length (stories_of (ms ++ x ∷ [])) = (let w = slice_get_within (stories_of ms) p s at in let n = length-stories ms x in more (registers x) (length (stories_of ms)) (length (stories_of (ms ++ x ∷ []))) p w n) in
    let g = there (stories_of (ms ++ x ∷ [])) p within in
    (g.0, g.1, same g.0 (from ms x p g.0 g.1))
  where
    more : (v : Bool) (n k p : ℕ) → p < n → k ≡ cond v (n + 1) n → p < k
    more true n k p w e = omega (arith, w, e)
    more false n k p w e = omega (arith, w, e)

    there : (ss : List Story) (p : ℕ) → p < length ss → (s : Story) × (slice_get ss p ≡ Some s)
    there [] p h = let w : ⊥ = omega (arith, h) in absurd w
    there (s ∷ ss) zero h = (s, refl)
    there (s ∷ ss) (suc p) h = there_next ss p h
      where
        there_next : (ss : List Story) (p : ℕ) → suc p < length (s ∷ ss) → (u : Story) × (slice_get ss p ≡ Some u)
        there_next [] p h = let w : ⊥ = omega (arith, h) in absurd w
        there_next (u ∷ us) zero h = (u, refl)
        there_next (u ∷ us) (suc p) h = there_next us p (omega (arith, h))

    same : (s' : Story) → From ms x p s' → Becomes x p s s'
    same s' (Old u at' b) = (let e : u ≡ s = (let z : Some u ≡ Some s = sym at' ∙ at in cc) in subst (λ v. Becomes x p v s') e b)
    same s' (Fresh c t q is last it) = absurd (let w = slice_get_within (stories_of ms) p s at in let v : ⊥ = omega (arith, w, last) in v)

-- ---- messages and contents, one for one

pub these-push : (ds : List Delivery) (ws : List Whole) (d : Delivery) (w : Whole) → AreThese ds ws → d ≡ delivery_from d.acker w.start w.properties w.payload → AreThese (ds ++ d ∷ []) (ws ++ w ∷ [])
these-push [] ws d w a e = subst (λ v. AreThese (d ∷ []) (v ++ w ∷ [])) (sym a) (e, refl)
these-push (x ∷ ds) [] d w a e = absurd a
these-push (x ∷ ds) (y ∷ ws) d w a e = (a.0, these-push ds ws d w a.1 e)

none_filtered : (t : List ℕ) (ws : List Whole) → list_any (is_to t) ws ≡ false → filter (is_to t) ws ≡ []
none_filtered t [] h = refl
none_filtered t (w ∷ ws) h = elim (is_to t w) as (λ b. (b || list_any (is_to t) ws) ≡ false → cond b (w ∷ filter (is_to t) ws) (filter (is_to t) ws) ≡ []) [ true ↦ λ e. absurd cc | false ↦ λ e. none_filtered t ws e ] h

-- ---- the channel

-- what is expected and what is being sent on it
pub record Sends (c : ℕ) (ms : List DeliveryMark) (es : List Expected) (came : List Frame) : Type 0 where
  -- what is expected is what is being sent
  pub matches : Matches (coming came).sending es
  -- what went to a tag went to one that was registered in the opening, and so did consume-ok
  pub to : AreTo (IsKnown c ms) (coming came)
  pub answered : (t : List ℕ) → list_any (answers_consume t) came ≡ true → IsKnown c ms t
  -- what is being sent goes to the consumer that is registered under its tag, if that was registered once
  pub consumer : (t : List ℕ) (p : ℕ) (s : Story) → is_sending_to t (coming came).sending ≡ true → At ms p s → s.registered ≡ true → s.channel ≡ c → s.tag ≡ t → many_known c t ms ≤ 1 → front_consumer es ≡ Some (suc p)
  pub its : (k : ℕ) → front_consumer es ≡ Some k → (p : ℕ) × (s : Story) × (k ≡ suc p) × At ms p s × (s.channel ≡ c) × (is_sending_to s.tag (coming came).sending ≡ true)

-- a registered consumer was handed what went to its tag, if that was registered once
abbrev pub Exact : ℕ → List DeliveryMark → List Whole → Type 0
Exact c ms ws = (p : ℕ) (s : Story) → At ms p s → s.registered ≡ true → s.channel ≡ c → many_known c s.tag ms ≤ 1 → AreThese (messages s.log) (filter (is_to s.tag) ws)

pub record Channel (c : ℕ) (ms : List DeliveryMark) (es : List Expected) (came : List Frame) : Type 0 where
  pub sends : Sends c ms es came
  pub exact : Exact c ms (coming came).wholes

-- ---- a mark that begins no opening of the channel

module _ (c : ℕ) (ms : List DeliveryMark) (x : DeliveryMark) (off : begins c x ≡ false) where
  known_more : (t : List ℕ) → IsKnown c ms t → IsKnown c (ms ++ x ∷ []) t
  known_more t k = let e = known-push c t ms x off in omega (arith, k, e)

  pub fewer : (t : List ℕ) → many_known c t (ms ++ x ∷ []) ≤ 1 → many_known c t ms ≤ 1
  fewer t k = let e = known-push c t ms x off in omega (arith, k, e)

  -- one that is registered now under a tag that was known makes two
  twice : (d : ℕ) (t u q : List ℕ) → x ≡ deliveries.Consumed d u q → d ≡ c → u ≡ t → IsKnown c ms t → many_known c t (ms ++ x ∷ []) ≤ 1 → ⊥
  twice d t u q e on tag k few =
      let one : many (registers_as c t) (x ∷ []) ≡ 1 = ap (λ y. many (registers_as c t) (y ∷ [])) e ∙ rw (eq-eqb d c on, text-same u t tag) refl in
      let n = known-push c t ms x off in
      omega (arith, k, few, one, n)

  pub sends_mark : (es : List Expected) (came : List Frame) → Sends c ms es came → Sends c (ms ++ x ∷ []) es came
  sends_mark es came h = record {
    matches = h.matches;
    to = record { wholes = λ t e. known_more t (h.to.wholes t e); sending = λ t e. known_more t (h.to.sending t e) };
    answered = λ t e. known_more t (h.answered t e);
    consumer = λ t p s' sends at r on tag few. elim (from ms x p s' at) as (λ _. front_consumer es ≡ Some (suc p)) [
      | Old s there b ↦ h.consumer t p s sends there (b.registered r) (sym b.channel ∙ on) (sym b.tag ∙ tag) (fewer t few)
      | Fresh d u q e last it ↦ absurd (twice d t u q e (ap (λ (y : Story). y.channel) (sym it) ∙ on) (ap (λ (y : Story). y.tag) (sym it) ∙ tag) (h.to.sending t sends) few)
    ];
    its = λ k e.
        let w = h.its k e in
        let o = onward ms x w.0 w.1 w.3 in
        (w.0, o.0, w.2, o.1, o.2.channel ∙ w.4, ap (λ t. is_sending_to t (coming came).sending) o.2.tag ∙ w.5);
  }

  -- one that is registered now was handed nothing, and nothing went to its tag
  pub newly : (ws : List Whole) → ((t : List ℕ) → list_any (is_to t) ws ≡ true → IsKnown c ms t) → (d : ℕ) (u q : List ℕ) (s' : Story) → x ≡ deliveries.Consumed d u q → s' ≡ newcomer_story d u q → s'.channel ≡ c → many_known c s'.tag (ms ++ x ∷ []) ≤ 1 → AreThese (messages s'.log) (filter (is_to s'.tag) ws)
  newly ws known d u q s' e it on few =
      let on' : d ≡ c = ap (λ (y : Story). y.channel) (sym it) ∙ on in
      let few' : many_known c u (ms ++ x ∷ []) ≤ 1 = subst (λ (y : Story). many_known c y.tag (ms ++ x ∷ []) ≤ 1) it few in
      let none : list_any (is_to u) ws ≡ false = elim (list_any (is_to u) ws) as (λ v. list_any (is_to u) ws ≡ v → v ≡ false) [
        | true ↦ λ w. absurd (twice d u u q e on' refl (known u w) few')
        | false ↦ λ w. refl
      ] refl in
      subst (λ (y : Story). AreThese (messages y.log) (filter (is_to y.tag) ws)) (sym it) (subst (λ vs. AreThese [] vs) (sym (none_filtered u ws none)) refl)

  -- of those that were there it is enough to know what becomes of each
  pub exact_mark : (ws : List Whole) → ((t : List ℕ) → list_any (is_to t) ws ≡ true → IsKnown c ms t) → ((p : ℕ) (s s' : Story) → At ms p s → Becomes x p s s' → s.registered ≡ true → s.channel ≡ c → many_known c s.tag ms ≤ 1 → AreThese (messages s'.log) (filter (is_to s.tag) ws)) → Exact c (ms ++ x ∷ []) ws
  exact_mark ws known olds p s' at r on few = elim (from ms x p s' at) as (λ _. AreThese (messages s'.log) (filter (is_to s'.tag) ws)) [
    | Old s there b ↦
        let few' : many_known c s.tag (ms ++ x ∷ []) ≤ 1 = subst (λ t. many_known c t (ms ++ x ∷ []) ≤ 1) b.tag few in
        subst (λ t. AreThese (messages s'.log) (filter (is_to t) ws)) (sym b.tag) (olds p s s' there b (b.registered r) (sym b.channel ∙ on) (fewer s.tag few'))
    | Fresh d u q e last it ↦ newly ws known d u q s' e it on few
  ]

  -- a mark that hands nothing to the channel's consumers
  pub channel_mark : (es : List Expected) (came : List Frame) → ((p : ℕ) (s : Story) → At ms p s → s.channel ≡ c → brought_by (consumer_marks x) p s ≡ []) → Channel c ms es came → Channel c (ms ++ x ∷ []) es came
  channel_mark es came quiet h = record {
    sends = sends_mark es came h.sends;
    exact = exact_mark (coming came).wholes h.sends.to.wholes (λ p s s' at b r on few. subst (λ v. AreThese v (filter (is_to s.tag) (coming came).wholes)) (sym (b.messages ∙ (ap (λ v. messages s.log ++ v) (quiet p s at on) ∙ append-nil (messages s.log)))) (h.exact p s at r on few));
  }

-- ---- a frame that is no part of a content

-- consume-ok came before, or comes now
pub answered_more : (c : ℕ) (ms : List DeliveryMark) (came : List Frame) (f : Frame) → ((t : List ℕ) → list_any (answers_consume t) came ≡ true → IsKnown c ms t) → ((t : List ℕ) → answers_consume t f ≡ true → IsKnown c ms t) → (t : List ℕ) → list_any (answers_consume t) (came ++ f ∷ []) ≡ true → IsKnown c ms t
answered_more c ms came f was known t a = elim (list_any (answers_consume t) came) as (λ v. list_any (answers_consume t) came ≡ v → (v || (answers_consume t f || false)) ≡ true → IsKnown c ms t) [
  | true ↦ λ e _. was t e
  | false ↦ λ _ g. known t (only_first (answers_consume t f) g)
] refl (sym (list_any-append (answers_consume t) came (f ∷ [])) ∙ a)

pub channel_frame : (c : ℕ) (ms : List DeliveryMark) (es : List Expected) (came : List Frame) (f : Frame) → sent_after (coming came) f ≡ coming came → ((t : List ℕ) → answers_consume t f ≡ true → IsKnown c ms t) → Channel c ms es came → Channel c ms es (came ++ f ∷ [])
channel_frame c ms es came f same known h =
    let e : coming (came ++ f ∷ []) ≡ coming came = coming-push came f ∙ same in
    record {
      sends = record {
        matches = subst (λ y. Matches y.sending es) (sym e) h.sends.matches;
        to = subst (AreTo (IsKnown c ms)) (sym e) h.sends.to;
        answered = answered_more c ms came f h.sends.answered known;
        consumer = λ t p s sends. h.sends.consumer t p s (sym (ap (λ y. is_sending_to t y.sending) e) ∙ sends);
        its = λ k g. (let w = h.sends.its k g in (w.0, w.1, w.2, w.3, w.4, ap (λ y. is_sending_to w.1.tag y.sending) e ∙ w.5));
      };
      exact = λ p s at r on few. subst (λ y. AreThese (messages s.log) (filter (is_to s.tag) y.wholes)) (sym e) (h.exact p s at r on few);
    }

-- a channel whose opening was read, and on which nothing came yet
pub fresh_channel : (c : ℕ) (ms : List DeliveryMark) → ((p : ℕ) (s : Story) → At ms p s → s.registered ≡ true → s.channel ≡ c → ⊥) → Channel c ms [] []
fresh_channel c ms none = record {
  sends = record {
    matches = tt;
    to = none_to (IsKnown c ms);
    answered = λ t e. absurd cc;
    consumer = λ t p s sends. absurd cc;
    its = λ k e. absurd cc;
  };
  exact = λ p s at r on. absurd (none p s at r on);
}
