-- What is known of the log of each consumer, and that a mark of the history keeps it.
use Rattle.std.proofs.Common.{◌≡◌, ◌∙◌, ℕ, suc, ◌+◌, ◌≤◌, ◌<◌, ◌==◌, true, false, cond, List, [], ◌∷◌, ◌++◌, length, Some, inl, inr, refl, sym, ap, subst, append-nil, append_assoc, arith, slice_get, eq-eqb}
use Rattle.std.specs.List.{filter, list_any}
use Rattle.std.proofs.lemmas.Bool.{and_parts}
use Rattle.std.proofs.lemmas.Bool.Decides.{eqb_tells}
use Rattle.std.proofs.lemmas.List.Elements.{filter-append}
use Rattle.std.proofs.lemmas.List.Folds.{list_any-append}
use Rattle.std.specs.Cmp.Lexicographic.{same_text as same_is}
use Rattle.lapin_types.specs.declared.message.Delivery.{Delivery}
use Rattle.lapin_broker.specs.Tags.{same_text}
use Rattle.lapin_consumer.specs.Readings.{Entry, Waiting, Given, MadeJob, Void, Story, arrivals, newcomer_story}
use Rattle.lapin_rules.specs.Words.{many, after_nth}
use Rattle.lapin_delivery.specs.Deliveries.{consumer_marks}
use Rattle.lapin_delivery.specs.Marks.{DeliveryMark}
use Rattle.lapin_delivery.specs.Marks as deliveries
use Rattle.lapin_verdicts.specs.Deeds.{Deed, opening, opens, on_channel, is_on as is_deed_on, sents, until}
use Rattle.lapin_verdicts.specs.Messages.{sent_to, sendings, is_to, messages, AreThese, ArePrefix}
use Rattle.lapin_verdicts.proofs.TagCounts.{sents-append}
use Rattle.lapin_verdicts.proofs.Marks.{many-append}
use Rattle.lapin_messages.specs.Carried.{is_void, carried}
use Rattle.lapin_messages.specs.Openings.{begins, registers, registers_as, discards, registered_in, in_opening, registrations}
use Rattle.lapin_messages.proofs.Lists.{Longer, between_longer, between_last, last_part, last-push, before_more, before_next, many_longer, any_longer}
use Rattle.lapin_messages.proofs.Sendings.{sendings_grow}
use Rattle.lapin_messages.proofs.Stories.{Becomes, stories_of, From, Old, Fresh, from, length-stories, brought_by, leaves_by, voids_by}
use Rattle.lapin_tables.proofs.Bools.{or_true}
use Rattle.std.proofs.lemmas.Option.{slice_get_within}

-- ---- texts

pub text-refl : (t : List ℕ) → same_text t t ≡ true
text-refl [] = refl
text-refl (x ∷ xs) = rw (eq-eqb x x refl) (text-refl xs)

pub text-is : (t u : List ℕ) → same_text t u ≡ true → t ≡ u
text-is t u h = same_is t u (sym h)

pub text-same : (t u : List ℕ) → t ≡ u → same_text t u ≡ true
text-same t u e = subst (λ v. same_text t v ≡ true) e (text-refl t)

-- ---- what is known

-- the opening of the consumer at this place
abbrev pub its_opening : ℕ → Story → List DeliveryMark → ℕ
its_opening p s ms = registered_in s.channel (suc p) ms

pub record LogOf (ms : List DeliveryMark) (ds : List Deed) (p : ℕ) (s : Story) : Type 0 where
  -- where its tag was registered once at most, its messages are a prefix of those sent to the tag in its opening
  pub prefix : registrations s.channel (its_opening p s ms) s.tag ms ≤ 1 → ArePrefix s.log s.tag (opening s.channel (its_opening p s ms) ds)
  -- where nothing was discarded in its opening, nothing of it is void
  pub kept : list_any (discards s.channel) (in_opening s.channel (its_opening p s ms) ms) ≡ false → list_any is_void s.log ≡ false
  -- while it is registered its opening is the last
  pub present : s.registered ≡ true → (its_opening p s ms ≡ many (begins s.channel) ms) × (0 < many (begins s.channel) ms)

abbrev pub At : List DeliveryMark → ℕ → Story → Type 0
At ms p s = slice_get (stories_of ms) p ≡ Some s

pub record Logs (ms : List DeliveryMark) (ds : List Deed) : Type 0 where
  pub of : (p : ℕ) (s : Story) → At ms p s → LogOf ms ds p s
  pub count : length (stories_of ms) ≡ many registers ms
  -- no two are registered on one channel under one tag
  pub alone : (p q : ℕ) (s u : Story) → At ms p s → At ms q u → s.registered ≡ true → u.registered ≡ true → s.channel ≡ u.channel → s.tag ≡ u.tag → p ≡ q

pub no_logs : Logs [] []
no_logs = record { of = λ p s at. absurd (none p s at); count = refl; alone = λ p q s u at. absurd (none p s at) }
  where
    none : (p : ℕ) (s : Story) → slice_get [] p ≡ Some s → ⊥
    none p s h = cc

-- ---- a mark more

opening_same : (c p : ℕ) (ms : List DeliveryMark) (x : DeliveryMark) → p < many registers ms → registered_in c (suc p) (ms ++ x ∷ []) ≡ registered_in c (suc p) ms
opening_same c p ms x h = ap (many (begins c)) (before_more registers p ms (x ∷ []) h)

between_grown : (c k : ℕ) (ms : List DeliveryMark) (x : DeliveryMark) → Longer (in_opening c k ms) (in_opening c k (ms ++ x ∷ []))
between_grown c k ms x = between_longer (begins c) k ms (x ∷ [])

-- the mark is of the last opening, unless it begins one
in_last : (c : ℕ) (ms : List DeliveryMark) (x : DeliveryMark) → begins c x ≡ false → 0 < many (begins c) ms → in_opening c (many (begins c) ms) (ms ++ x ∷ []) ≡ last_part (begins c) ms ++ x ∷ []
in_last c ms x e z =
    let a = many-append (begins c) ms (x ∷ []) in
    let one : many (begins c) (x ∷ []) ≡ 0 = rw e refl in
    between_last (begins c) (many (begins c) ms) (ms ++ x ∷ []) z (omega (arith, a, one)) ∙ (last-push (begins c) ms x ∙ ap (λ v. cond v [] (last_part (begins c) ms ++ x ∷ [])) e)

-- the consumer's log with nothing more than what came before
same_messages : (log log' : List Entry) (t : List ℕ) (o : List Deed) → messages log' ≡ messages log → ArePrefix log t o → ArePrefix log' t o
same_messages log log' t o e a = record { first = a.first; more = a.more; all = a.all; are = subst (λ v. AreThese v a.first) (sym e) a.are }

-- what voids it is a discard on its channel while it is registered
voided : (x : DeliveryMark) (s : Story) → voids_by (consumer_marks x) s ≡ true → (s.registered ≡ true) × (discards s.channel x ≡ true) × (begins s.channel x ≡ false)
voided (deliveries.Discarded c) s h = (let both = and_parts s.registered (s.channel == c) h in (both.0, flip s.channel c both.1, refl))
  where
    flip : (a b : ℕ) → (a == b) ≡ true → (b == a) ≡ true
    flip a b e = elim (eqb_tells a b) [ inl y ↦ eq-eqb b a (sym y.1) | inr n ↦ (let z : true ≡ false = sym e ∙ n.0 in absurd cc) ]
voided (deliveries.Consumed c t q) s h = absurd cc
voided _ s h = absurd cc

module _ (ms : List DeliveryMark) (ds : List Deed) (x : DeliveryMark) (l : Logs ms ds) where
  -- an opening begins where no consumer of its channel is registered
  abbrev pub Quiet : Type 0
  Quiet = (c p : ℕ) (s : Story) → begins c x ≡ true → At ms p s → s.registered ≡ true → s.channel ≡ c → ⊥

  -- a consumer is registered in an opening
  abbrev pub Begun : Type 0
  Begun = (c : ℕ) (t q : List ℕ) → x ≡ deliveries.Consumed c t q → 0 < many (begins c) ms

  -- a message that is handed is the next of those that were sent
  abbrev pub Handed : Type 0
  Handed = (p : ℕ) (s s' : Story) → At ms p s → Becomes x p s s' → (brought_by (consumer_marks x) p s ≡ [] → ⊥) → registrations s.channel (its_opening p s ms) s.tag ms ≤ 1 → ArePrefix s'.log s.tag (opening s.channel (its_opening p s ms) ds)

  module _ (quiet : Quiet) (begun : Begun) (handed : Handed) where
    by_brought : (p : ℕ) (s s' : Story) → At ms p s → Becomes x p s s' → registrations s.channel (its_opening p s ms) s.tag ms ≤ 1 → (new : List Delivery) → brought_by (consumer_marks x) p s ≡ new → ArePrefix s'.log s.tag (opening s.channel (its_opening p s ms) ds)
    by_brought p s s' at b once [] e = same_messages s.log s'.log s.tag _ (b.messages ∙ (ap (λ v. messages s.log ++ v) e ∙ append-nil (messages s.log))) ((l.of p s at).prefix once)
    by_brought p s s' at b once (d ∷ new) e = handed p s s' at b (λ z. (let w : d ∷ new ≡ [] = sym e ∙ z in cc)) once

    -- no opening of its channel begins while it is registered
    still : (p : ℕ) (s : Story) → At ms p s → s.registered ≡ true → begins s.channel x ≡ false
    still p s at r = elim (begins s.channel x) as (λ v. begins s.channel x ≡ v → v ≡ false) [ true ↦ λ e. absurd (quiet s.channel p s e at r refl) | false ↦ λ e. refl ] refl

    same_count : (c : ℕ) → begins c x ≡ false → many (begins c) (ms ++ x ∷ []) ≡ many (begins c) ms
    same_count c e = let a = many-append (begins c) ms (x ∷ []) in let z : many (begins c) (x ∷ []) ≡ 0 = rw e refl in omega (arith, a, z)

    -- what is void now was void, or a discard is of its opening
    none_void : (p : ℕ) (s s' : Story) → At ms p s → Becomes x p s s' → list_any (discards s.channel) (in_opening s.channel (its_opening p s ms) (ms ++ x ∷ [])) ≡ false → list_any is_void s'.log ≡ true → ⊥
    none_void p s s' at b now e = elim (b.void e) [
      | inl y ↦ (let was : list_any is_void s.log ≡ false = (l.of p s at).kept (any_longer (discards s.channel) _ _ (between_grown s.channel (its_opening p s ms) ms x) now) in let z : true ≡ false = sym y ∙ was in cc)
      | inr y ↦
          let v = voided x s y in
          let here = (l.of p s at).present v.0 in
          let part : in_opening s.channel (its_opening p s ms) (ms ++ x ∷ []) ≡ last_part (begins s.channel) ms ++ x ∷ [] = ap (λ k. in_opening s.channel k (ms ++ x ∷ [])) here.0 ∙ in_last s.channel ms x v.2 here.1 in
          let some : list_any (discards s.channel) (last_part (begins s.channel) ms ++ x ∷ []) ≡ true = list_any-append (discards s.channel) (last_part (begins s.channel) ms) (x ∷ []) ∙ rw v.1 (or_true (list_any (discards s.channel) (last_part (begins s.channel) ms))) in
          (let z : true ≡ false = sym some ∙ (sym (ap (list_any (discards s.channel)) part) ∙ now) in cc)
    ]

    is_old : (p : ℕ) (s s' : Story) → At ms p s → Becomes x p s s' → LogOf (ms ++ x ∷ []) ds p s'
    is_old p s s' at b =
        let within : p < many registers ms = (let w = slice_get_within (stories_of ms) p s at in let e = l.count in omega (arith, w, e)) in
        let c : ℕ = s.channel in
        let k : ℕ = its_opening p s ms in
        let here : its_opening p s' (ms ++ x ∷ []) ≡ k = ap (λ d. registered_in d (suc p) (ms ++ x ∷ [])) b.channel ∙ opening_same c p ms x within in
        let P : ℕ → ℕ → List ℕ → Type 0 = λ d i t. registrations d i t (ms ++ x ∷ []) ≤ 1 → ArePrefix s'.log t (opening d i ds) in
        let Q : ℕ → ℕ → Type 0 = λ d i. list_any (discards d) (in_opening d i (ms ++ x ∷ [])) ≡ false → list_any is_void s'.log ≡ false in
        let prefixed : P c k s.tag = λ h. by_brought p s s' at b (let less = many_longer (registers_as c s.tag) (in_opening c k ms) (in_opening c k (ms ++ x ∷ [])) (between_grown c k ms x) in omega (arith, h, less)) (brought_by (consumer_marks x) p s) refl in
        let unvoided : Q c k = λ h. elim (list_any is_void s'.log) as (λ v. list_any is_void s'.log ≡ v → v ≡ false) [ true ↦ λ e. absurd (none_void p s s' at b h e) | false ↦ λ e. refl ] refl in
        record {
          prefix = subst (λ t. P s'.channel (its_opening p s' (ms ++ x ∷ [])) t) (sym b.tag) (subst (λ d. P d (its_opening p s' (ms ++ x ∷ [])) s.tag) (sym b.channel) (subst (λ i. P c i s.tag) (sym here) prefixed));
          kept = subst (λ d. Q d (its_opening p s' (ms ++ x ∷ []))) (sym b.channel) (subst (Q c) (sym here) unvoided);
          present = λ r.
              let was = (l.of p s at).present (b.registered r) in
              let same = same_count c (still p s at (b.registered r)) in
              subst (λ d. (its_opening p s' (ms ++ x ∷ []) ≡ many (begins d) (ms ++ x ∷ [])) × (0 < many (begins d) (ms ++ x ∷ []))) (sym b.channel) (here ∙ (was.0 ∙ sym same), (let z = was.1 in omega (arith, z, same)));
        }

    is_new : (p c : ℕ) (t q : List ℕ) → x ≡ deliveries.Consumed c t q → p ≡ length (stories_of ms) → LogOf (ms ++ x ∷ []) ds p (newcomer_story c t q)
    is_new p c t q e last =
        let now : registers x ≡ true = ap registers e in
        let quiet_ : begins c x ≡ false = ap (begins c) e in
        let here : registered_in c (suc p) (ms ++ x ∷ []) ≡ many (begins c) ms = ap (many (begins c)) (before_next registers p ms x (sym l.count ∙ sym last) now) in
        let same = same_count c quiet_ in
        record {
          prefix = λ h. record { first = []; more = _; all = refl; are = refl };
          kept = λ h. refl;
          present = λ r. (here ∙ sym same, (let z = begun c t q e in omega (arith, z, same)));
        }

    two_old : (p q : ℕ) (s s' u u' : Story) → At ms p s → At ms q u → Becomes x p s s' → Becomes x q u u' → s'.registered ≡ true → u'.registered ≡ true → s'.channel ≡ u'.channel → s'.tag ≡ u'.tag → p ≡ q
    two_old p q s s' u u' at at' b b' r r' c t = l.alone p q s u at at' (b.registered r) (b'.registered r') (sym b.channel ∙ (c ∙ b'.channel)) (sym b.tag ∙ (t ∙ b'.tag))

    -- one that is registered now takes the tag from an older one
    one_new : (p c : ℕ) (t q : List ℕ) (s s' : Story) → x ≡ deliveries.Consumed c t q → Becomes x p s s' → s'.registered ≡ true → s'.channel ≡ c → s'.tag ≡ t → ⊥
    one_new p c t q s s' e b r on tag =
        let was : s.registered ≡ true = b.registered r in
        let here : (s.channel == c) ≡ true = eq-eqb s.channel c (sym b.channel ∙ on) in
        let text : same_text s.tag t ≡ true = text-same s.tag t (sym b.tag ∙ tag) in
        let gone : leaves_by (consumer_marks x) s ≡ true = ap (λ y. leaves_by (consumer_marks y) s) e ∙ rw (was, here, text) refl in
        let z : true ≡ false = sym r ∙ b.left gone in
        cc

    pub logs-push : Logs (ms ++ x ∷ []) ds
    logs-push = record {
      of = λ p s' at. elim (from ms x p s' at) as (λ _. LogOf (ms ++ x ∷ []) ds p s') [
        | Old s there b ↦ is_old p s s' there b
        | Fresh c t q e last it ↦ subst (LogOf (ms ++ x ∷ []) ds p) (sym it) (is_new p c t q e last)
      ];
      count = length-stories ms x ∙ (let a = many-append registers ms (x ∷ []) in let e = l.count in elim (registers x) as (λ v. registers x ≡ v → cond v (length (stories_of ms) + 1) (length (stories_of ms)) ≡ many registers (ms ++ x ∷ [])) [
        | true ↦ λ f. (let z : many registers (x ∷ []) ≡ 1 = rw f refl in omega (arith, a, e, z))
        | false ↦ λ f. (let z : many registers (x ∷ []) ≡ 0 = rw f refl in omega (arith, a, e, z))
      ] refl);
      alone = λ p q s' u' at at' r r' c t. both p q s' u' (from ms x p s' at) (from ms x q u' at') r r' c t;
    }
      where
        both : (p q : ℕ) (s' u' : Story) → From ms x p s' → From ms x q u' → s'.registered ≡ true → u'.registered ≡ true → s'.channel ≡ u'.channel → s'.tag ≡ u'.tag → p ≡ q
        both p q s' u' (Old s there b) (Old u there' b') r r' c t = two_old p q s s' u u' there there' b b' r r' c t
        both p q s' u' (Old s there b) (Fresh d v w e last it) r r' c t = absurd (one_new p d v w s s' e b r (c ∙ ap (λ (y : Story). y.channel) it) (t ∙ ap (λ (y : Story). y.tag) it))
        both p q s' u' (Fresh d v w e last it) (Old u there' b') r r' c t = absurd (one_new q d v w u u' e b' r' (sym c ∙ ap (λ (y : Story). y.channel) it) (sym t ∙ ap (λ (y : Story). y.tag) it))
        both p q s' u' (Fresh d v w e last it) (Fresh d' v' w' e' last' it') r r' c t = last ∙ sym last'

-- ---- the deeds go on

these_prefix : (log : List Entry) (t : List ℕ) (o o' : List Deed) → Longer (sent_to t o) (sent_to t o') → ArePrefix log t o → ArePrefix log t o'
these_prefix log t o o' l a = record { first = a.first; more = a.more ++ l.0; all = l.1 ∙ (ap (λ v. v ++ l.0) a.all ∙ append_assoc a.first a.more l.0); are = a.are }

-- more deeds of an opening are more that was sent in it
sent_grows : (t : List ℕ) (o o' : List Deed) → Longer o o' → Longer (sent_to t o) (sent_to t o')
sent_grows t o o' l =
    let s = sendings_grow (sents o) (sents l.0) in
    let all : sendings (sents o') ≡ sendings (sents o) ++ s.0 = ap (λ v. sendings (sents v)) l.1 ∙ (ap sendings (sents-append o l.0) ∙ s.1) in
    (filter (is_to t) s.0, ap (filter (is_to t)) all ∙ filter-append (is_to t) (sendings (sents o)) s.0)

opening_grows : (c k : ℕ) (ds more : List Deed) → Longer (opening c k ds) (opening c k (ds ++ more))
opening_grows c k ds more = subst (λ v. Longer (opening c k ds) (until opens (after_nth opens k v))) (sym (filter-append (is_deed_on c) ds more)) (between_longer opens k (on_channel c ds) (on_channel c more))

pub logs-more : (ms : List DeliveryMark) (ds more : List Deed) → Logs ms ds → Logs ms (ds ++ more)
logs-more ms ds more l = record {
  of = λ p s at.
      let was = l.of p s at in
      let c : ℕ = s.channel in
      let k : ℕ = its_opening p s ms in
      record { prefix = λ h. these_prefix s.log s.tag (opening c k ds) (opening c k (ds ++ more)) (sent_grows s.tag _ _ (opening_grows c k ds more)) (was.prefix h); kept = was.kept; present = was.present };
  count = l.count;
  alone = l.alone;
}

-- ---- what isn't void is carried

pub all_carried : (es : List Entry) → list_any is_void es ≡ false → carried es ≡ arrivals es
all_carried [] h = refl
all_carried (Waiting y ∷ es) h = ap (λ v. y ∷ v) (all_carried es h)
all_carried (Given y ∷ es) h = ap (λ v. y ∷ v) (all_carried es h)
all_carried (MadeJob y ∷ es) h = ap (λ v. y ∷ v) (all_carried es h)
all_carried (Void y ∷ es) h = absurd cc
