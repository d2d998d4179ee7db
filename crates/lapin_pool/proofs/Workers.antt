-- All turns of a working caller with its end.
use Rattle.std.proofs.Common.{◌≡◌, ◌∙◌, ℕ, ◌+◌, ◌-◌, ◌<◌, ◌≤◌, ◌++◌, ◌⊎◌, inl, inr, Bool, true, false, List, [], ◌∷◌, refl, sym, ap, subst, arith, Option, Some, None, append-nil, append_assoc}
use Rattle.std.specs.Prelude.{slice_get, zero, suc, if◌then◌else◌, option_to_list}
use Rattle.std.specs.List.{Contains}
use Rattle.std.proofs.lemmas.List.Elements.{Contains-append_right, Contains-push}
use Rattle.lapin_types.specs.declared.event.Event.TheVariants as event
use Rattle.lapin_types.specs.declared.message.Delivery.{Delivery}
use Rattle.lapin_types.specs.declared.record.Record.{Record}
use Rattle.lapin_types.specs.declared.record.Record.TheVariants as record_
use Rattle.lapin_acker.specs.declared.verdict.Verdict.{Verdict}
use Rattle.lapin_locked.specs.declared.entry.Entry.{Entry}
use Rattle.lapin_locked.specs.declared.entry.Told.{Told}
use Rattle.lapin_locked.specs.Known.{told}
use Rattle.lapin_shared.specs.Grown.{Seen, Grew, Rise}
use Rattle.lapin_shared.specs.Checked.{IsAt}
use Rattle.lapin_pool.specs.declared.card.Card.{Card}
use Rattle.lapin_pool.specs.declared.card.Sent.TheVariants as sent
use Rattle.lapin_pool.specs.declared.turn.Turn.TheVariants as turn
use Rattle.lapin_pool.specs.Cards.{delivery_told}
use Rattle.lapin_pool.specs.Turns.{Standing, IsTurn, FoundNone, LeftUnread, job_step, tells_job}
use Rattle.lapin_pool.specs.Ran.{Ran, Ended}
use Rattle.lapin_pool.specs.Unread.{at_place, blank_card, card_in, unread_cards}
use Rattle.lapin_pool.specs.Pool.{Stint, after_of, IsGrown, StandsAt, TookDelivery, tells_in, jobs, IsCard, TookNothing, EndsThere, HasDone}
use Rattle.lapin_pool.proofs.Members.{no_member, member_first, rise_apart, rise_front, Apart}
use Rattle.lapin_pool.proofs.Stints.{Stand, same_entry, Done, done_append, done_bare, done_card, grown_none, grown_one, grown_on, took_grown, told_there, taken_so, no_delivery, Made, stand_front, made}

-- ---- how a log grows

pub ran_grown : (may : Delivery → Verdict → Type 0) (k : ℕ) (a c : Standing) → Ran may k a c → IsGrown a.seen c.seen
ran_grown may zero a c e = grown_none a.seen c.seen (ap (λ (s : Standing). s.seen) e)
ran_grown may (suc k) a c (b, ran, turn) = grown_on a.seen b.seen c.seen (ran_grown may k a b ran) (took_grown may b c turn)

over_grown : (may : Delivery → Verdict → Type 0) (b c : Standing) → IsTurn may b turn.Over c → IsGrown b.seen c.seen
over_grown may b c (inl (p, r, job, grew, cards, unread)) = grown_one b.seen c.seen (job_step p (Some r)) grew
over_grown may b c (inr (p, grew, cards, unread)) = grown_one b.seen c.seen (job_step p None) grew

pub ended_grown : (may : Delivery → Verdict → Type 0) (turns : ℕ) (a : Standing) (k : ℕ) (short : Bool) (c : Standing) → Ended may turns a k short c → IsGrown a.seen c.seen
ended_grown may turns a k false c (inl (ran, is)) = ran_grown may k a c ran
ended_grown may turns a k false c (inr (b, fewer, ran, over)) = grown_on a.seen b.seen c.seen (ran_grown may k a b ran) (over_grown may b c over)
ended_grown may turns a k true c (b, ran, same) = grown_on a.seen b.seen c.seen (ran_grown may k a b ran) (grown_none b.seen c.seen (ap (λ (s : Standing). s.seen) same))

-- ---- one caller

-- what a job step tells that tells no job: that there is none
abbrev pub TellsNone : List Entry → Type 0
TellsNone h = (p : ℕ) (x : Entry) → StandsAt h p x → x.event ≡ event.NextJob → tells_job x.answer ≡ false → x.answer ≡ record_.NoJob

-- the cards of a caller, that of its unread step too
abbrev pub own_cards : List Entry → Standing → List Card
own_cards h c = c.cards ++ unread_cards h (option_to_list c.unread)

-- what a working caller did that had no card before
pub record Worked (may : Delivery → Verdict → Type 0) (h : List Entry) (turns : ℕ) (a c : Standing) : Type 0 where
  pub stint : Stint
  pub before : stint.before ≡ a.seen
  pub after : after_of stint ≡ c.seen
  pub each : (k : Card) → Contains (own_cards h c) k → IsCard may h a.seen.number stint.steps k
  pub done : HasDone h turns a.seen.number (own_cards h c) stint.steps
  pub apart : Apart (own_cards h c)

seen_is : (s : Seen) (n : ℕ) (l : List Told) → n ≡ s.number → l ≡ s.log → record { number = n; log = l } ≡ s
seen_is s n l e f = ap (λ m. record { number = m; log = l }) e ∙ ap (λ z. record { number = s.number; log = z }) f

worked_of : (may : Delivery → Verdict → Type 0) (h : List Entry) (turns : ℕ) (a c : Standing) (steps : List Told) (count : ℕ) → c.seen.number ≡ a.seen.number → c.seen.log ≡ a.seen.log ++ steps
    → Done may h a.seen.number steps (own_cards h c) count → count ≤ turns → (count ≡ turns) ⊎ EndsThere h (own_cards h c) steps → Worked may h turns a c
worked_of may h turns a c steps count number log done most ended = record {
  stint = record { before = a.seen; steps = steps };
  before = refl;
  after = seen_is c.seen a.seen.number (a.seen.log ++ steps) (sym number) (sym log);
  each = done.each;
  done = record {
    all = done.all;
    others = done.others;
    at_most = omega (arith, done.taken, most);
    ended = elim ended as (λ _. (jobs h steps ≡ turns) ⊎ EndsThere h (own_cards h c) steps) [
      | inl is ↦ inl (done.taken ∙ is)
      | inr there ↦ inr there
    ];
  };
  apart = done.apart;
}

own_read : (h : List Entry) (c : Standing) → c.unread ≡ None → own_cards h c ≡ c.cards
own_read h c e = ap (λ u. c.cards ++ unread_cards h (option_to_list u)) e ∙ append-nil c.cards

-- what is no job is no delivery
jobless : (r : Record) (d : Delivery) → tells_job r ≡ false → delivery_told r ≡ Some d → ⊥
jobless (record_.Job j) d e f = absurd cc
jobless _ d e f = no_delivery d f

none_found : (may : Delivery → Verdict → Type 0) (h : List Entry) (turns k : ℕ) (a b c : Standing) → TellsNone h → k < turns → a.unread ≡ None → Stand h a.seen.number c.seen.log → Rise 0 c.seen.log
    → Made may h a.seen.number a b k → FoundNone b c → Worked may h turns a c
none_found may h turns k a b c tells fewer none stand rise m (p, r, job, grew, cards, unread) =
    let t : Told = job_step p (Some r) in
    let n = a.seen.number in
    let at : IsAt h n t = stand t (subst (λ l. Contains l t) (sym grew.1) (Contains-push b.seen.log t)) in
    let zero_jobs : jobs h (t ∷ []) ≡ 0 = ap (λ v. (if v then 1 else 0) + 0) (told_there h n p r at ∙ job) in
    let bare : Done may h n (t ∷ []) [] 0 = subst (λ j. Done may h n (t ∷ []) [] j) zero_jobs (done_bare may h n t refl (λ d took. jobless r d job (taken_so h n p r d at took))) in
    let both : Done may h n (m.steps ++ t ∷ []) (b.cards ++ []) (k + 0) = done_append may h n m.steps (t ∷ []) b.cards [] k 0 m.done bare m.read
    (λ u v i j. rise_apart 0 b.seen.log (t ∷ []) u v (subst (λ l. Rise 0 l) grew.1 rise) (subst (λ l. Contains l u) (sym m.log) (Contains-append_right a.seen.log m.steps u i)) j) in
    let own : b.cards ++ [] ≡ own_cards h c = append-nil b.cards ∙ sym cards ∙ sym (own_read h c (unread ∙ m.unread ∙ none)) in
    worked_of may h turns a c (m.steps ++ t ∷ []) (k + 0) (grew.0 ∙ m.number) (grew.1 ∙ ap (λ l. l ++ t ∷ []) m.log ∙ append_assoc a.seen.log m.steps (t ∷ []))
    (subst (λ l. Done may h n (m.steps ++ t ∷ []) l (k + 0)) own both) (omega arith)
    (inr (m.steps, t, at.entry, refl, refl, (at.place, at.stands), inl (tells p at.entry (at.place, at.stands) at.event (ap tells_job at.answer ∙ job))))

at_most_one : (v : Bool) → (if v then 1 else 0) + 0 ≤ 1
at_most_one true = omega arith
at_most_one false = omega arith

-- the card of an unread step, and what the step came to
record Left (may : Delivery → Verdict → Type 0) (h : List Entry) (n p : ℕ) (cards : List Card) : Type 0 where
  done : Done may h n (job_step p None ∷ []) cards (jobs h (job_step p None ∷ []))
  nothing : (x : Entry) → StandsAt h p x → TookNothing cards p x.answer

left_bare : (may : Delivery → Verdict → Type 0) (h : List Entry) (n p : ℕ) → TellsNone h → (at : IsAt h n (job_step p None)) → delivery_told at.entry.answer ≡ None → Left may h n p []
left_bare may h n p tells at is = record {
  done = done_bare may h n (job_step p None) refl (λ d took.
      let e = same_entry h p took.0 at.entry took.1 (at.place, at.stands) in
      no_delivery d (sym is ∙ ap (λ (y : Entry). delivery_told y.answer) (sym e) ∙ took.3));
  nothing = λ x stands.
      let e = same_entry h p at.entry x (at.place, at.stands) stands in
      by x stands (ap (λ (y : Entry). y.event) (sym e) ∙ at.event) (ap (λ (y : Entry). delivery_told y.answer) (sym e) ∙ is) (tells_job x.answer) refl;
} where
  by : (x : Entry) → StandsAt h p x → x.event ≡ event.NextJob → delivery_told x.answer ≡ None → (v : Bool) → tells_job x.answer ≡ v → TookNothing [] p x.answer
  by x stands is none true e = inr (inl (e, none))
  by x stands is none false e = inl (tells p x stands is e)

left_card : (may : Delivery → Verdict → Type 0) (h : List Entry) (n p : ℕ) (d : Delivery) (at : IsAt h n (job_step p None)) → delivery_told at.entry.answer ≡ Some d
    → Left may h n p (record { caller = at.entry.caller; place = p; acker = d.acker.number; verdict = None; sent = sent.Unsent } ∷ [])
left_card may h n p d at tells =
    let t : Told = job_step p None in
    let k : Card = record { caller = at.entry.caller; place = p; acker = d.acker.number; verdict = None; sent = sent.Unsent } in
    let card : IsCard may h n (t ∷ []) k = record {
      step = t;
      made = member_first t [];
      place = refl;
      entry = at.entry;
      stands = (at.place, at.stands);
      own = at.caller;
      job = at.event;
      delivery = d;
      tells = tells;
      caller = at.caller;
      acker = refl;
      outcome = (refl, ([], t, refl, refl));
    } in
    record {
      done = done_card may h n t [] k refl card refl (λ u m. absurd (no_member u m));
      nothing = λ x stands. inr (inr (k, member_first k [], refl, refl));
    }

pub there : (h : List Entry) (p : ℕ) (x : Entry) → 0 < p → slice_get h (p - 1) ≡ Some x → at_place h p ≡ Some x
there h zero x some e = absurd (omega arith)
there h (suc k) x some e = let same : k ≡ suc k - 1 = omega arith in ap (slice_get h) same ∙ e

left_so : (may : Delivery → Verdict → Type 0) (h : List Entry) (n p : ℕ) → TellsNone h → IsAt h n (job_step p None) → Left may h n p (unread_cards h (p ∷ []))
left_so may h n p tells at =
    let e : unread_cards h (p ∷ []) ≡ option_to_list (blank_card at.entry.caller p (delivery_told at.entry.answer)) =
    append-nil (option_to_list (card_in p (at_place h p))) ∙ ap (λ o. option_to_list (card_in p o)) (there h p at.entry at.place at.stands) in
    subst (λ l. Left may h n p l) (sym e) (by (delivery_told at.entry.answer) refl) where
      by : (o : Option Delivery) → delivery_told at.entry.answer ≡ o → Left may h n p (option_to_list (blank_card at.entry.caller p o))
      by None e = left_bare may h n p tells at e
      by (Some d) e = left_card may h n p d at e

left_unread : (may : Delivery → Verdict → Type 0) (h : List Entry) (turns k : ℕ) (a b c : Standing) → TellsNone h → k < turns → Stand h a.seen.number c.seen.log → Rise 0 c.seen.log
    → Made may h a.seen.number a b k → LeftUnread b c → Worked may h turns a c
left_unread may h turns k a b c tells fewer stand rise m (p, grew, cards, unread) =
    let t : Told = job_step p None in
    let n = a.seen.number in
    let at : IsAt h n t = stand t (subst (λ l. Contains l t) (sym grew.1) (Contains-push b.seen.log t)) in
    let left = left_so may h n p tells at in
    let took = jobs h (t ∷ []) in
    let both : Done may h n (m.steps ++ t ∷ []) (b.cards ++ unread_cards h (p ∷ [])) (k + took) = done_append may h n m.steps (t ∷ []) b.cards (unread_cards h (p ∷ [])) k took m.done left.done m.read
    (λ u v i j. rise_apart 0 b.seen.log (t ∷ []) u v (subst (λ l. Rise 0 l) grew.1 rise) (subst (λ l. Contains l u) (sym m.log) (Contains-append_right a.seen.log m.steps u i)) j) in
    let own : b.cards ++ unread_cards h (p ∷ []) ≡ own_cards h c =
    ap (λ l. l ++ unread_cards h (p ∷ [])) (sym cards) ∙ ap (λ u. c.cards ++ unread_cards h (option_to_list u)) (sym unread) in
    let few : took ≤ 1 = at_most_one (tells_in (slice_get h (p - 1))) in
    worked_of may h turns a c (m.steps ++ t ∷ []) (k + took) (grew.0 ∙ m.number) (grew.1 ∙ ap (λ l. l ++ t ∷ []) m.log ∙ append_assoc a.seen.log m.steps (t ∷ []))
    (subst (λ l. Done may h n (m.steps ++ t ∷ []) l (k + took)) own both) (omega arith)
    (inr (m.steps, t, at.entry, refl, refl, (at.place, at.stands), in_own own at.entry.answer (left.nothing at.entry (at.place, at.stands)))) where
      in_own : b.cards ++ unread_cards h (p ∷ []) ≡ own_cards h c → (r : Record) → TookNothing (unread_cards h (p ∷ [])) p r → TookNothing (own_cards h c) p r
      in_own e r (inl none) = inl none
      in_own e r (inr (inl other)) = inr (inl other)
      in_own e r (inr (inr (k, member, place, verdict))) =
          inr (inr (k, subst (λ l. Contains l k) e (Contains-append_right b.cards (unread_cards h (p ∷ [])) k member), place, verdict))

-- what a caller did that ended for no want of memory
pub worked : (may : Delivery → Verdict → Type 0) (h : List Entry) (turns k : ℕ) (a c : Standing) → TellsNone h → a.cards ≡ [] → a.unread ≡ None → Stand h c.seen.number c.seen.log → Rise 0 c.seen.log
    → Ended may turns a k false c → Worked may h turns a c
worked may h turns k a c tells no_cards none stand rise ended =
    by (subst (λ n. Stand h n c.seen.log) (ended_grown may turns a k false c ended).number stand) ended where
      over : (b : Standing) → k < turns → Made may h a.seen.number a b k → Stand h a.seen.number c.seen.log → IsTurn may b turn.Over c → Worked may h turns a c
      over b fewer m stood (inl found) = none_found may h turns k a b c tells fewer none stood rise m found
      over b fewer m stood (inr left) = left_unread may h turns k a b c tells fewer stood rise m left

      by : Stand h a.seen.number c.seen.log → Ended may turns a k false c → Worked may h turns a c
      by stood (inl (ran, is)) =
          let m = made may h a.seen.number k a c refl no_cards stood rise ran in
          worked_of may h turns a c m.steps k m.number m.log (subst (λ l. Done may h a.seen.number m.steps l k) (sym (own_read h c (m.unread ∙ none))) m.done) (omega (arith, is)) (inl is)
      by stood (inr (b, fewer, ran, ends)) =
          let grown = over_grown may b c ends in
          let m = made may h a.seen.number k a b refl no_cards (stand_front h a.seen.number b.seen.log grown.more c.seen.log grown.log stood)
          (rise_front 0 b.seen.log grown.more (subst (λ l. Rise 0 l) grown.log rise)) ran in
          over b fewer m stood ends
