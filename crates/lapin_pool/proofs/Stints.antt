-- What a working caller did, said of the history: turn by turn, from its log, whose entries stand there.
use Rattle.std.proofs.Common.{◌≡◌, ◌∙◌, ℕ, ◌+◌, ◌-◌, ◌<◌, ◌≤◌, ◌++◌, ◌⊎◌, inl, inr, Bool, true, false, List, [], ◌∷◌, map, refl, sym, ap, subst, arith, Option, Some, None, append_assoc, append-nil, add-one}
use Rattle.std.specs.Prelude.{slice_get, zero, suc, if◌then◌else◌, option_to_list}
use Rattle.std.specs.List.{Contains}
use Rattle.std.proofs.lemmas.List.Elements.{Contains-append_left, Contains-append_right, Contains-append_cases, Contains-push}
use Rattle.lapin_types.specs.declared.acker_call.AckerCall.{AckerCall}
use Rattle.lapin_types.specs.declared.event.Event.{Event}
use Rattle.lapin_types.specs.declared.event.Event.TheVariants as event
use Rattle.lapin_types.specs.declared.message.Delivery.{Delivery}
use Rattle.lapin_types.specs.declared.record.Record.{Record}
use Rattle.lapin_types.specs.declared.record.Record.TheVariants as record_
use Rattle.lapin_acker.specs.declared.verdict.Verdict.{Verdict}
use Rattle.lapin_acker.specs.Verdicts.{call_of}
use Rattle.lapin_locked.specs.declared.entry.Entry.{Entry}
use Rattle.lapin_locked.specs.declared.entry.Told.{Told}
use Rattle.lapin_locked.specs.Known.{told}
use Rattle.lapin_shared.specs.Grown.{Seen, Grew, Rise}
use Rattle.lapin_shared.specs.Checked.{IsAt}
use Rattle.lapin_pool.specs.declared.card.Card.{Card}
use Rattle.lapin_pool.specs.declared.card.Sent.{Sent}
use Rattle.lapin_pool.specs.declared.card.Sent.TheVariants as sent
use Rattle.lapin_pool.specs.Verdicts.{last_verdict}
use Rattle.lapin_pool.specs.Cards.{IsSent, delivery_told}
use Rattle.lapin_pool.specs.Turns.{Standing, IsJudged, IsTreated, TookJob, with_card, job_step, tells_job}
use Rattle.lapin_pool.specs.Ran.{Ran}
use Rattle.lapin_pool.specs.Pool.{IsGrown, StandsAt, TookDelivery, tells_in, jobs, Adjoin, WasSent, IsOutcome, IsCard, IsJobOrSent}
use Rattle.lapin_pool.proofs.Members.{no_member, the_one, member_cases, member_first, member_later, rise_apart, rise_front, Apart, apart_append}

-- steps that stand in the history
abbrev pub Stand : List Entry → ℕ → List Told → Type 0
Stand h n ts = (t : Told) → Contains ts t → IsAt h n t

-- an entry of a log is one entry of the history
pub same_entry : (h : List Entry) (p : ℕ) (x y : Entry) → StandsAt h p x → StandsAt h p y → x ≡ y
same_entry h p x y a b = let e : Some x ≡ Some y = sym a.1 ∙ b.1 in cc

-- what steps came to: their cards, which have different places, and how many jobs they took
pub record Done (may : Delivery → Verdict → Type 0) (h : List Entry) (n : ℕ) (steps : List Told) (cards : List Card) (count : ℕ) : Type 0 where
  pub each : (c : Card) → Contains cards c → IsCard may h n steps c
  pub all : (t : Told) (d : Delivery) → Contains steps t → TookDelivery h t d → (c : Card) × Contains cards c × (c.place ≡ t.place)
  pub others : (t : Told) → Contains steps t → IsJobOrSent n cards t
  pub apart : Apart cards
  pub taken : jobs h steps ≡ count

-- ---- among more steps

adjoin_left : (xs ys : List Told) (p q : ℕ) → Adjoin xs p q → Adjoin (xs ++ ys) p q
adjoin_left xs ys p q (front, t, u, back, e, l, r) = (front, t, u, back ++ ys, ap (λ z. z ++ ys) e ∙ append_assoc front (t ∷ u ∷ back) ys, l, r)

adjoin_right : (xs ys : List Told) (p q : ℕ) → Adjoin ys p q → Adjoin (xs ++ ys) p q
adjoin_right xs ys p q (front, t, u, back, e, l, r) = (xs ++ front, t, u, back, ap (λ z. xs ++ z) e ∙ sym (append_assoc xs front (t ∷ u ∷ back)), l, r)

sent_left : (h : List Entry) (n : ℕ) (xs ys : List Told) (p a : ℕ) (o : Option AckerCall) (s : Sent) → WasSent h n xs p a o s → WasSent h n (xs ++ ys) p a o s
sent_left h n xs ys p a None s w = w
sent_left h n xs ys p a (Some k) (sent.Placed q) w = (w.0, w.1, adjoin_left xs ys p q w.2)
sent_left h n xs ys p a (Some k) sent.Unsent w = tt
sent_left h n xs ys p a (Some k) sent.Silent w = absurd w

sent_right : (h : List Entry) (n : ℕ) (xs ys : List Told) (p a : ℕ) (o : Option AckerCall) (s : Sent) → WasSent h n ys p a o s → WasSent h n (xs ++ ys) p a o s
sent_right h n xs ys p a None s w = w
sent_right h n xs ys p a (Some k) (sent.Placed q) w = (w.0, w.1, adjoin_right xs ys p q w.2)
sent_right h n xs ys p a (Some k) sent.Unsent w = tt
sent_right h n xs ys p a (Some k) sent.Silent w = absurd w

outcome_left : (may : Delivery → Verdict → Type 0) (h : List Entry) (n : ℕ) (xs ys : List Told) (d : Delivery) (p : ℕ) (v : Option Verdict) (s : Sent)
    → (v ≡ None → ⊥) → IsOutcome may h n xs d p v s → IsOutcome may h n (xs ++ ys) d p v s
outcome_left may h n xs ys d p None s some o = absurd (some refl)
outcome_left may h n xs ys d p (Some v) s some o = (o.0, sent_left h n xs ys p d.acker.number (call_of v) s o.1)

outcome_right : (may : Delivery → Verdict → Type 0) (h : List Entry) (n : ℕ) (xs ys : List Told) (d : Delivery) (p : ℕ) (v : Option Verdict) (s : Sent)
    → IsOutcome may h n ys d p v s → IsOutcome may h n (xs ++ ys) d p v s
outcome_right may h n xs ys d p None s (is, (front, t, e, l)) = (is, (xs ++ front, t, ap (λ z. xs ++ z) e ∙ sym (append_assoc xs front (t ∷ [])), l))
outcome_right may h n xs ys d p (Some v) s o = (o.0, sent_right h n xs ys p d.acker.number (call_of v) s o.1)

card_left : (may : Delivery → Verdict → Type 0) (h : List Entry) (n : ℕ) (xs ys : List Told) (c : Card) → (c.verdict ≡ None → ⊥) → IsCard may h n xs c → IsCard may h n (xs ++ ys) c
card_left may h n xs ys c some k = record {
  step = k.step;
  made = Contains-append_left xs ys k.step k.made;
  place = k.place;
  entry = k.entry;
  stands = k.stands;
  own = k.own;
  job = k.job;
  delivery = k.delivery;
  tells = k.tells;
  caller = k.caller;
  acker = k.acker;
  outcome = outcome_left may h n xs ys k.delivery c.place c.verdict c.sent some k.outcome;
}

card_right : (may : Delivery → Verdict → Type 0) (h : List Entry) (n : ℕ) (xs ys : List Told) (c : Card) → IsCard may h n ys c → IsCard may h n (xs ++ ys) c
card_right may h n xs ys c k = record {
  step = k.step;
  made = Contains-append_right xs ys k.step k.made;
  place = k.place;
  entry = k.entry;
  stands = k.stands;
  own = k.own;
  job = k.job;
  delivery = k.delivery;
  tells = k.tells;
  caller = k.caller;
  acker = k.acker;
  outcome = outcome_right may h n xs ys k.delivery c.place c.verdict c.sent k.outcome;
}

-- a step that a card names, among more cards
pub among : (n : ℕ) (cs ds : List Card) (t : Told) → ((c : Card) → Contains cs c → Contains ds c) → IsJobOrSent n cs t → IsJobOrSent n ds t
among n cs ds t more (inl is) = inl is
among n cs ds t more (inr (c, m, own, placed)) = inr (c, more c m, own, placed)

pub jobs_append : (h : List Entry) (xs ys : List Told) → jobs h (xs ++ ys) ≡ jobs h xs + jobs h ys
jobs_append h [] ys = omega arith
jobs_append h (x ∷ xs) ys = omega (arith, jobs_append h xs ys)

-- steps behind others, in a log that rises
pub done_append : (may : Delivery → Verdict → Type 0) (h : List Entry) (n : ℕ) (xs ys : List Told) (cs ds : List Card) (j k : ℕ) → Done may h n xs cs j → Done may h n ys ds k
    → ((c : Card) → Contains cs c → c.verdict ≡ None → ⊥) → ((t u : Told) → Contains xs t → Contains ys u → t.place < u.place) → Done may h n (xs ++ ys) (cs ++ ds) (j + k)
done_append may h n xs ys cs ds j k a b some rise = record {
  each = λ c m. elim (Contains-append_cases cs ds c m) as (λ _. IsCard may h n (xs ++ ys) c) [
    | inl first ↦ card_left may h n xs ys c (some c first) (a.each c first)
    | inr later ↦ card_right may h n xs ys c (b.each c later)
  ];
  all = λ t d m took. elim (Contains-append_cases xs ys t m) as (λ _. (c : Card) × Contains (cs ++ ds) c × (c.place ≡ t.place)) [
    | inl first ↦ let f = a.all t d first took in (f.0, Contains-append_left cs ds f.0 f.1, f.2)
    | inr later ↦ let f = b.all t d later took in (f.0, Contains-append_right cs ds f.0 f.1, f.2)
  ];
  others = λ t m. elim (Contains-append_cases xs ys t m) as (λ _. IsJobOrSent n (cs ++ ds) t) [
    | inl first ↦ among n cs (cs ++ ds) t (λ c i. Contains-append_left cs ds c i) (a.others t first)
    | inr later ↦ among n ds (cs ++ ds) t (λ c i. Contains-append_right cs ds c i) (b.others t later)
  ];
  apart = apart_append cs ds a.apart b.apart (λ c d m i e.
      let first = a.each c m in
      let later = b.each d i in omega (arith, rise first.step later.step first.made later.made, first.place, later.place, e));
  taken = omega (arith, jobs_append h xs ys, a.taken, b.taken);
}

pub done_none : (may : Delivery → Verdict → Type 0) (h : List Entry) (n : ℕ) → Done may h n [] [] 0
done_none may h n = record {
  each = λ c m. absurd (no_member c m);
  all = λ t d m took. absurd (no_member t m);
  others = λ t m. absurd (no_member t m);
  apart = tt;
  taken = refl;
}

-- a job step that took no delivery
pub done_bare : (may : Delivery → Verdict → Type 0) (h : List Entry) (n : ℕ) (t : Told) → t.event ≡ event.NextJob → ((d : Delivery) → TookDelivery h t d → ⊥)
    → Done may h n (t ∷ []) [] (jobs h (t ∷ []))
done_bare may h n t is none = record {
  each = λ c m. absurd (no_member c m);
  all = λ u d m took. absurd (none d (subst (λ v. TookDelivery h v d) (sym (the_one t u m)) took));
  others = λ u m. inl (subst (λ (v : Told). v.event ≡ event.NextJob) (the_one t u m) is);
  apart = tt;
  taken = refl;
}

-- a job step that took a delivery, with its card and the steps behind it
pub done_card : (may : Delivery → Verdict → Type 0) (h : List Entry) (n : ℕ) (t : Told) (rest : List Told) (k : Card) → t.event ≡ event.NextJob → IsCard may h n (t ∷ rest) k
    → k.place ≡ t.place → ((u : Told) → Contains rest u → (u.event ≡ event.NextJob → ⊥) × (k.sent ≡ sent.Placed u.place)) → Done may h n (t ∷ rest) (k ∷ []) (jobs h (t ∷ rest))
done_card may h n t rest k is card place behind = record {
  each = λ c m. subst (λ v. IsCard may h n (t ∷ rest) v) (the_one k c m) card;
  all = λ u d m took. elim (member_cases t rest u m) as (λ _. (c : Card) × Contains (k ∷ []) c × (c.place ≡ u.place)) [
    | inl e ↦ (k, member_first k [], place ∙ ap (λ (v : Told). v.place) e)
    | inr later ↦ absurd ((behind u later).0 took.2)
  ];
  others = λ u m. elim (member_cases t rest u m) as (λ _. IsJobOrSent n (k ∷ []) u) [
    | inl e ↦ inl (subst (λ (v : Told). v.event ≡ event.NextJob) e is)
    | inr later ↦ inr (k, member_first k [], card.caller, (behind u later).1)
  ];
  apart = (λ d m. absurd (no_member d m), tt);
  taken = refl;
}

-- ---- a turn

-- how a log grows
pub grown_none : (old new : Seen) → new ≡ old → IsGrown old new
grown_none old new e = record { more = []; number = ap (λ (s : Seen). s.number) e; log = ap (λ (s : Seen). s.log) e ∙ sym (append-nil old.log) }

pub grown_one : (old new : Seen) (t : Told) → Grew old new t → IsGrown old new
grown_one old new t g = record { more = t ∷ []; number = g.0; log = g.1 }

pub grown_on : (a b c : Seen) → IsGrown a b → IsGrown b c → IsGrown a c
grown_on a b c f g = record { more = f.more ++ g.more; number = g.number ∙ f.number; log = g.log ∙ ap (λ l. l ++ g.more) f.log ∙ append_assoc a.log f.more g.more }

sent_grown : (mid new : Seen) (a : ℕ) (o : Option AckerCall) (s : Sent) → IsSent mid a o s new → IsGrown mid new
sent_grown mid new a None s h = grown_none mid new h.1
sent_grown mid new a (Some k) (sent.Placed p) h = grown_one mid new (told p (event.Acker a k) h.0) h.1
sent_grown mid new a (Some k) sent.Unsent h = grown_none mid new h
sent_grown mid new a (Some k) sent.Silent h = absurd h

treated_grown : (may : Delivery → Verdict → Type 0) (mid new : Seen) (p : ℕ) (d : Option Delivery) (o : Option Card) → IsTreated may mid p d o new → IsGrown mid new
treated_grown may mid new p None None h = grown_none mid new h
treated_grown may mid new p None (Some c) h = absurd h
treated_grown may mid new p (Some d) None h = absurd h
treated_grown may mid new p (Some d) (Some c) h = sent_grown mid new d.acker.number (call_of (last_verdict h.answered d.redelivered)) c.sent h.sent

pub took_grown : (may : Delivery → Verdict → Type 0) (b c : Standing) → TookJob may b c → IsGrown b.seen c.seen
took_grown may b c (p, r, mid, o, job, grew, treated, more, same) =
    grown_on b.seen mid c.seen (grown_one b.seen mid (job_step p (Some r)) grew) (treated_grown may mid c.seen p (delivery_told r) o treated)

-- the steps behind a job step that was judged, and what became of its verdict by the history
record Behind (h : List Entry) (n : ℕ) (mid new : Seen) (t : Told) (a : ℕ) (o : Option AckerCall) (s : Sent) : Type 0 where
  rest : List Told
  number : new.number ≡ mid.number
  log : new.log ≡ mid.log ++ rest
  was : WasSent h n (t ∷ rest) t.place a o s
  others : (u : Told) → Contains rest u → (u.event ≡ event.NextJob → ⊥) × (s ≡ sent.Placed u.place)
  none : jobs h rest ≡ 0

behind_none : (h : List Entry) (n : ℕ) (mid new : Seen) (t : Told) (a : ℕ) (o : Option AckerCall) (s : Sent) → new ≡ mid → WasSent h n (t ∷ []) t.place a o s → Behind h n mid new t a o s
behind_none h n mid new t a o s e w = record {
  rest = [];
  number = ap (λ (x : Seen). x.number) e;
  log = ap (λ (x : Seen). x.log) e ∙ sym (append-nil mid.log);
  was = w;
  others = λ u m. absurd (no_member u m);
  none = refl;
}

no_job : (a : ℕ) (k : AckerCall) → event.Acker a k ≡ event.NextJob → ⊥
no_job a k e = cc

behind : (h : List Entry) (n : ℕ) (mid new : Seen) (t : Told) (a : ℕ) (o : Option AckerCall) (s : Sent) → Contains mid.log t → Stand h n new.log → Rise 0 new.log → IsSent mid a o s new
    → Behind h n mid new t a o s
behind h n mid new t a None s m stand rise i = behind_none h n mid new t a None s i.1 i.0
behind h n mid new t a (Some k) sent.Unsent m stand rise i = behind_none h n mid new t a (Some k) sent.Unsent i tt
behind h n mid new t a (Some k) sent.Silent m stand rise i = absurd i
behind h n mid new t a (Some k) (sent.Placed q) m stand rise (r, g) =
    let u : Told = told q (event.Acker a k) r in
    let at = stand u (subst (λ l. Contains l u) (sym g.1) (Contains-push mid.log u)) in
    record {
      rest = u ∷ [];
      number = g.0;
      log = g.1;
      was = (rise_apart 0 mid.log (u ∷ []) t u (subst (λ l. Rise 0 l) g.1 rise) m (member_first u []), (at.entry, (at.place, at.stands), at.caller, at.event), ([], t, u, [], refl, refl, refl));
      others = λ v c. let e = the_one u v c in
          (λ is. no_job a k (subst (λ (w : Told). w.event ≡ event.NextJob) (sym e) is), ap (λ (w : Told). sent.Placed w.place) e);
      none = refl;
    }

-- what one turn adds
pub record Adds (may : Delivery → Verdict → Type 0) (h : List Entry) (n : ℕ) (b c : Standing) : Type 0 where
  pub more : List Told
  pub log : c.seen.log ≡ b.seen.log ++ more
  pub given : List Card
  pub cards : c.cards ≡ b.cards ++ given
  pub done : Done may h n more given 1
  pub read : (k : Card) → Contains given k → k.verdict ≡ None → ⊥

-- the record of a job step that was read is that of the history
pub told_there : (h : List Entry) (n p : ℕ) (r : Record) → IsAt h n (job_step p (Some r)) → tells_in (slice_get h (p - 1)) ≡ tells_job r
told_there h n p r at = ap tells_in at.stands ∙ ap tells_job at.answer

counted : (h : List Entry) (n p : ℕ) (r : Record) (rest : List Told) → IsAt h n (job_step p (Some r)) → tells_job r ≡ true → jobs h rest ≡ 0 → jobs h (job_step p (Some r) ∷ rest) ≡ 1
counted h n p r rest at job none = let e = told_there h n p r at ∙ job in ap (λ b. (if b then 1 else 0) + jobs h rest) e ∙ ap (λ k. 1 + k) none

-- another delivery than that of the record can't have been taken there
pub taken_so : (h : List Entry) (n p : ℕ) (r : Record) (d : Delivery) → IsAt h n (job_step p (Some r)) → TookDelivery h (job_step p (Some r)) d → delivery_told r ≡ Some d
taken_so h n p r d at (x, stands, is, tells) =
    let e : x ≡ at.entry = same_entry h p x at.entry stands (at.place, at.stands) in
    ap delivery_told (sym at.answer ∙ ap (λ (y : Entry). y.answer) (sym e)) ∙ tells

pub no_delivery : (d : Delivery) → None ≡ Some d → ⊥
no_delivery d e = cc

no_verdict : (v : Verdict) → Some v ≡ None → ⊥
no_verdict v e = cc

-- the card of a turn's delivery
judged_card : (may : Delivery → Verdict → Type 0) (h : List Entry) (n p : ℕ) (r : Record) (d : Delivery) (mid new : Seen) (k : Card) (rest : List Told) → IsAt h n (job_step p (Some r)) → mid.number ≡ n
    → delivery_told r ≡ Some d → (j : IsJudged may mid p d k new) → WasSent h n (job_step p (Some r) ∷ rest) p d.acker.number (call_of (last_verdict j.answered d.redelivered)) k.sent
    → IsCard may h n (job_step p (Some r) ∷ rest) k
judged_card may h n p r d mid new k rest at number tells j was =
    let steps = job_step p (Some r) ∷ rest in
    let so : IsOutcome may h n steps d p k.verdict k.sent =
    subst (λ v. IsOutcome may h n steps d p v k.sent) (sym j.verdict) ((j.answered, j.may_be, refl), was) in
    record {
      step = job_step p (Some r);
      made = member_first (job_step p (Some r)) rest;
      place = sym j.place;
      entry = at.entry;
      stands = subst (λ q. StandsAt h q at.entry) (sym j.place) (at.place, at.stands);
      own = at.caller;
      job = at.event;
      delivery = d;
      tells = ap delivery_told at.answer ∙ tells;
      caller = j.caller ∙ number;
      acker = j.acker;
      outcome = subst (λ q. IsOutcome may h n steps d q k.verdict k.sent) (sym j.place) so;
    }

pub turn_adds : (may : Delivery → Verdict → Type 0) (h : List Entry) (n : ℕ) (b c : Standing) → b.seen.number ≡ n → Stand h n c.seen.log → Rise 0 c.seen.log → TookJob may b c → Adds may h n b c
turn_adds may h n b c number stand rise (p, r, mid, o, job, grew, treated, more, same) = by (delivery_told r) o refl more treated where
  t : Told
  t = job_step p (Some r)

  own : mid.number ≡ n
  own = grew.0 ∙ number

  member : Contains mid.log t
  member = subst (λ l. Contains l t) (sym grew.1) (Contains-push b.seen.log t)

  by : (d : Option Delivery) (u : Option Card) → delivery_told r ≡ d → c.cards ≡ with_card b.cards u → IsTreated may mid p d u c.seen → Adds may h n b c
  by None (Some k) e w i = absurd i
  by (Some d) None e w i = absurd i
  by None None e w i =
      let log : c.seen.log ≡ mid.log = ap (λ (s : Seen). s.log) i in
      let at : IsAt h n t = stand t (subst (λ l. Contains l t) (sym log) member) in
      let bare : Done may h n (t ∷ []) [] (jobs h (t ∷ [])) = done_bare may h n t refl (λ d took. no_delivery d (sym e ∙ taken_so h n p r d at took)) in
      record {
        more = t ∷ [];
        log = log ∙ grew.1;
        given = [];
        cards = w ∙ sym (append-nil b.cards);
        done = subst (λ k. Done may h n (t ∷ []) [] k) (counted h n p r [] at job refl) bare;
        read = λ k m. absurd (no_member k m);
      }
  by (Some d) (Some k) e w i =
      let call = call_of (last_verdict i.answered d.redelivered) in
      let behind_it : Behind h n mid c.seen t d.acker.number call k.sent = behind h n mid c.seen t d.acker.number call k.sent member stand rise i.sent in
      let at : IsAt h n t = stand t (subst (λ l. Contains l t) (sym behind_it.log) (Contains-append_left mid.log behind_it.rest t member)) in
      let card : IsCard may h n (t ∷ behind_it.rest) k = judged_card may h n p r d mid c.seen k behind_it.rest at own e i behind_it.was in
      let done : Done may h n (t ∷ behind_it.rest) (k ∷ []) (jobs h (t ∷ behind_it.rest)) = done_card may h n t behind_it.rest k refl card i.place behind_it.others in
      record {
        more = t ∷ behind_it.rest;
        log = behind_it.log ∙ ap (λ l. l ++ behind_it.rest) grew.1 ∙ append_assoc b.seen.log (t ∷ []) behind_it.rest;
        given = k ∷ [];
        cards = w;
        done = subst (λ j. Done may h n (t ∷ behind_it.rest) (k ∷ []) j) (counted h n p r behind_it.rest at job behind_it.none) done;
        read = λ x m none. no_verdict (last_verdict i.answered d.redelivered) (sym i.verdict ∙ ap (λ (y : Card). y.verdict) (the_one k x m) ∙ none);
      }

-- ---- all turns

-- what turns that each took a job came to
pub record Made (may : Delivery → Verdict → Type 0) (h : List Entry) (n : ℕ) (a c : Standing) (count : ℕ) : Type 0 where
  pub steps : List Told
  pub number : c.seen.number ≡ n
  pub log : c.seen.log ≡ a.seen.log ++ steps
  pub unread : c.unread ≡ a.unread
  pub done : Done may h n steps c.cards count
  pub read : (k : Card) → Contains c.cards k → k.verdict ≡ None → ⊥

took_unread : (may : Delivery → Verdict → Type 0) (b c : Standing) → TookJob may b c → c.unread ≡ b.unread
took_unread may b c (p, r, mid, o, job, grew, treated, more, same) = same

pub stand_front : (h : List Entry) (n : ℕ) (xs ys log : List Told) → log ≡ xs ++ ys → Stand h n log → Stand h n xs
stand_front h n xs ys log e stand = λ t m. stand t (subst (λ l. Contains l t) (sym e) (Contains-append_left xs ys t m))

pub made : (may : Delivery → Verdict → Type 0) (h : List Entry) (n k : ℕ) (a c : Standing) → a.seen.number ≡ n → a.cards ≡ [] → Stand h n c.seen.log → Rise 0 c.seen.log → Ran may k a c
    → Made may h n a c k
made may h n zero a c number none stand rise e =
    let empty : c.cards ≡ [] = ap (λ (s : Standing). s.cards) e ∙ none in
    record {
      steps = [];
      number = ap (λ (s : Standing). s.seen.number) e ∙ number;
      log = ap (λ (s : Standing). s.seen.log) e ∙ sym (append-nil a.seen.log);
      unread = ap (λ (s : Standing). s.unread) e;
      done = subst (λ l. Done may h n [] l 0) (sym empty) (done_none may h n);
      read = λ k m. absurd (no_member k (subst (λ l. Contains l k) empty m));
    }
made may h n (suc k) a c number none stand rise (b, ran, turn) =
    let grown = took_grown may b c turn in
    let before = made may h n k a b number none (stand_front h n b.seen.log grown.more c.seen.log grown.log stand) (rise_front 0 b.seen.log grown.more (subst (λ l. Rise 0 l) grown.log rise)) ran in
    let adds = turn_adds may h n b c before.number stand rise turn in
    let both : Done may h n (before.steps ++ adds.more) (b.cards ++ adds.given) (k + 1) =
    done_append may h n before.steps adds.more b.cards adds.given k 1 before.done adds.done before.read
    (λ t u m i. rise_apart 0 b.seen.log adds.more t u (subst (λ l. Rise 0 l) adds.log rise)
    (subst (λ l. Contains l t) (sym before.log) (Contains-append_right a.seen.log before.steps t m)) i) in
    let one : Done may h n (before.steps ++ adds.more) c.cards (k + 1) = subst (λ l. Done may h n (before.steps ++ adds.more) l (k + 1)) (sym adds.cards) both in
    let more : k + 1 ≡ suc k = omega arith in
    record {
      steps = before.steps ++ adds.more;
      number = grown.number ∙ before.number;
      log = adds.log ∙ ap (λ l. l ++ adds.more) before.log ∙ append_assoc a.seen.log before.steps adds.more;
      unread = took_unread may b c turn ∙ before.unread;
      done = subst (λ m. Done may h n (before.steps ++ adds.more) c.cards m) more one;
      read = λ x m none. elim (Contains-append_cases b.cards adds.given x (subst (λ l. Contains l x) adds.cards m)) as (λ _. ⊥) [
        | inl first ↦ before.read x first none
        | inr later ↦ adds.read x later none
      ];
    }
