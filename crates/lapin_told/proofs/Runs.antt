-- Every run of a session keeps a history that fits.
use Rattle.std.proofs.Common.{◌≡◌, ℕ, zero, suc, ◌+◌, ◌-◌, ◌^◌, ◌<◌, ◌≤◌, Bool, true, false, cond, List, [], ◌∷◌, ◌++◌, zip, length, length-append, append_assoc, append-nil, Option, Some, None, Ok, Err, Result, refl, sym, ap, subst, ◌∙◌, inl, inr, arith}
use Rattle.std.specs.List.{AllByRecursion as Each}
use Rattle.std.proofs.lemmas.Bool.{cases_lt}
use Rattle.std.proofs.lemmas.List.Elements.{recursion_from_All}
use Rattle.lapin_types.specs.Types.{Error}
use Rattle.lapin_types.specs.declared.answer.Answer.{Answer}
use Rattle.lapin_types.specs.declared.event.Event.{Event}
use Rattle.lapin_types.specs.declared.record.Record.{Record}
use Rattle.lapin_types.specs.declared.request.ReplyKind.{ReplyKind}
use Rattle.lapin_types.specs.Requests.{kind_of}
use Rattle.lapin_content.specs.declared.start.Start.{Start}
use Rattle.lapin_content.specs.declared.start.Start.TheVariants as start
use Rattle.lapin_rules.specs.ConfirmReadings.{added}
use Rattle.lapin_rules.specs.Events.{confirm_marks, ticket_marks}
use Rattle.lapin_rules.specs.History.{History, Past, longer, past, rec, record_after, run, run_from}
use Rattle.lapin_rules.specs.Machine.{has_ticket, is_known_call}
use Rattle.lapin_rules.specs.TicketReadings.{TicketMark, given, gives, leaving_in, leaving_of}
use Rattle.lapin_rules.specs.TicketReadings as ticket
use Rattle.lapin_rules.specs.Wire.{Wire}
use Rattle.lapin_rules.specs.Words.{many, one_after}
use Rattle.lapin_lines.specs.KeptLines.{MayTell}
use Rattle.lapin_machine.specs.Returned.{given_back}
use Rattle.lapin_machine.specs.Stands.{Stands}
use Rattle.lapin_machine.specs.World.{World, new_world, next}
use Rattle.lapin_machine.proofs.Back.{given_none, still_none}
use Rattle.lapin_machine.proofs.Standing.{past-push, stands-next}
use Rattle.lapin_laws.specs.Limits.{history_of, told_behind}
use Rattle.lapin_laws.specs.Runs.{world_after}
use Rattle.lapin_laws.proofs.Traces.{stands_after, stands_new, stands_told}
use Rattle.lapin_told.specs.Told.{MayCome, MayComeThen}
use Rattle.lapin_told.proofs.Each.{each_append, each_weaker, many_append, one_beyond, one_missing, one_within}
use Rattle.lapin_told.proofs.Fitting.{Awaits, ConfirmFits, ExpectedFits, LeavingFits, RequestFits, ResultFits, StartFits, TicketFits, Unknown, Wide, WireFits, counts}
use Rattle.lapin_told.proofs.Called.{KnownAs}
use Rattle.lapin_told.proofs.Going.{Leaves, leaves}
use Rattle.lapin_told.proofs.Outcomes.{added_least}
use Rattle.lapin_told.proofs.Sizes.{wide}
use Rattle.lapin_told.proofs.Telling.{Keeps, Roomy, known_in, tells}
use Rattle.lapin_told.proofs.Ticketing.{Numbered}

-- ---- fewer tickets are known

module _ (K J : ℕ → Bool) (fewer : (n : ℕ) → J n ≡ true → K n ≡ true) where
  awaits_still : (t : Option ℕ) (k : ReplyKind) → Awaits K t k → Awaits J t k
  awaits_still None k h = tt
  awaits_still (Some n) k h = λ x. h (fewer n x)

  unknown_still : (t : Option ℕ) → Unknown K t → Unknown J t
  unknown_still None h = tt
  unknown_still (Some n) h = λ x. h (fewer n x)

  start_still : (s : Start) → StartFits K s → StartFits J s
  start_still (start.Deliver consumer tag exchange key redelivered) h = h
  start_still (start.Get t tag exchange key redelivered count) h = (h.0, unknown_still t h.1)
  start_still (start.Return code reason exchange key) h = h

  result_still : (a : Result Answer Error) (n : ℕ) → ResultFits K a n → ResultFits J a n
  result_still (Ok a) n h = λ x. h (fewer n x)
  result_still (Err e) n h = h

  mark_still : (m : TicketMark) → TicketFits K m → TicketFits J m
  mark_still (ticket.Answered n a) h = result_still a n h
  mark_still _ h = h

  wire_still : (b : Wire) → WireFits K b → WireFits J b
  wire_still b h = record {
    rest_fits = h.rest_fits;
    methods_fit = h.methods_fit;
    publishes_fit = h.publishes_fit;
    requests_fit = each_weaker (λ x. Each (RequestFits K) x.1) (λ x. Each (RequestFits J) x.1) (λ x f. each_weaker (RequestFits K) (RequestFits J) (λ r g. awaits_still r.ticket (kind_of r.reply) g) x.1 f) b.requests h.requests_fit;
    contents_fit = each_weaker (λ x. Each (ExpectedFits K) x.1) (λ x. Each (ExpectedFits J) x.1) (λ x f. each_weaker (ExpectedFits K) (ExpectedFits J) (λ e g. (start_still e.start g.0, g.1)) x.1 f) b.contents h.contents_fit;
    deliveries_fit = h.deliveries_fit;
  }

-- ---- one more event

module _ (h : History) (x : Event × Record) where
  abbrev more : History
  more = h ++ x ∷ []

  known_before : (n : ℕ) → known_in more n ≡ true → known_in h n ≡ true
  known_before zero known = refl
  known_before (suc k) known = elim (cases_lt k (many has_ticket h)) [
    | inl lt ↦ rw (sym (one_within has_ticket k h (x ∷ []) lt)) known
    | inr le ↦ rw (one_missing has_ticket k h le) refl
  ]

  -- the ticket that the event gets
  known_now : (n : ℕ) → has_ticket x ≡ true → n ≡ many has_ticket h → known_in more (suc n) ≡ is_known_call x.0
  known_now n one is = rw (one_beyond has_ticket 0 n h (x ∷ []) (omega (arith, is)), one) refl

  module _ (ms news : List TicketMark) (same : many has_ticket h ≡ given ms) (new : Numbered (known_in more) x news) (old : (n : ℕ) → known_in h n ≡ true → LeavingFits (leaving_of n ms)) where
    behind : (j k : ℕ) (t : Bool) → has_ticket x ≡ t → k ≡ given ms + j → known_in more (suc k) ≡ true → LeavingFits (leaving_in (one_after gives j news))
    behind j k false none is known = let c : many gives news ≡ 0 = new.count ∙ ap (λ t. cond t 1 0) none in rw (one_missing gives j news (omega (arith, c))) tt
    behind zero k true one is known = new.leaving (sym (known_now k one (omega (arith, is, same))) ∙ known)
    behind (suc j) k true one is known = let c : many gives news ≡ 1 = new.count ∙ ap (λ t. cond t 1 0) one in rw (one_missing gives (suc j) news (omega (arith, c))) tt

    leaving_more : (n : ℕ) → known_in more n ≡ true → LeavingFits (leaving_of n (ms ++ news))
    leaving_more zero known = tt
    leaving_more (suc k) known = elim (cases_lt k (given ms)) [
      | inl lt ↦ rw (one_within gives k ms news lt) (old (suc k) (known_before (suc k) known))
      | inr le ↦ let is : k ≡ given ms + (k - given ms) = omega (arith, le) in rw (one_beyond gives (k - given ms) k ms news is) (behind (k - given ms) k (has_ticket x) refl is known)
    ]

pub keeps_more : (h : History) (p : Past) (e : Event) → MayCome e → Keeps h p → Roomy h p → Keeps (h ++ (e, record_after p e) ∷ []) (longer p e (record_after p e))
keeps_more h p e m k s =
    let r : Record = record_after p e in
    let x : Event × Record = (e, r) in
    let J : ℕ → Bool = known_in (h ++ x ∷ []) in
    let few = s.fewer in
    let published : Wide (p.wire.published + 1) = let b = s.published in wide (p.wire.published + 1) (omega (arith, few, b)) in
    let wire : WireFits J p.wire = wire_still (known_in h) J (known_before h x) p.wire k.wire in
    let as_told : KnownAs J p.wire wire published e r = λ one. let t = s.tickets in let n : p.wire.tickets + 1 ≡ suc p.wire.tickets = omega arith in rw n (known_now h x p.wire.tickets one t) in
    let left : Leaves J p wire published e r = leaves J p wire published h e m (tells h p k s e m) as_told in
    record {
      wire = left.0;
      confirms = each_append ConfirmFits p.confirms (confirm_marks p.wire e r) k.confirms left.2.marks;
      tickets = each_append (TicketFits J) p.tickets (ticket_marks p.wire e r) (each_weaker (TicketFits (known_in h)) (TicketFits J) (mark_still (known_in h) J (known_before h x)) p.tickets k.tickets) left.1.marks;
      leaving = leaving_more h x p.tickets (ticket_marks p.wire e r) k.same left.1 k.leaving;
      count = let a = many_append counts p.confirms (confirm_marks p.wire e r) in let b = k.count in let c = left.2.count in let l = length-append h (x ∷ []) in omega (arith, a, b, c, l);
      same = let a = many_append has_ticket h (x ∷ []) in let b = many_append gives p.tickets (ticket_marks p.wire e r) in let c = left.1.count in let d = k.same in
          a ∙ (ap (λ n. n + cond (has_ticket x) (0 + 1) 0) d ∙ sym (b ∙ ap (λ n. given p.tickets + n) c));
    }

-- ---- whole runs

roomy : (n : ℕ) (h : History) (w : World) → Stands n h w → Keeps h (past n h) → length h + 1 < 2 ^ 64 → Roomy h (past n h)
roomy n h w s k few =
    let t : (past n h).wire.tickets ≡ given (past n h).tickets = ap (λ (b : Wire). b.tickets) (sym s.wire) ∙ s.tickets.given in
    let p : (past n h).wire.published ≡ added (past n h).confirms = ap (λ (b : Wire). b.published) (sym s.wire) ∙ s.confirms.published in
    record { fewer = few; tickets = t ∙ sym k.same; published = let a = added_least (past n h).confirms in let c = k.count in omega (arith, p, a, c) }

keeps_from : (n : ℕ) (h : History) (w : World) (es : List Event) → w.returned ≡ None → Stands n h w → Each MayCome es → length h + length es < 2 ^ 64 → Keeps h (past n h) → Keeps (h ++ zip es (run_from n h es)) (past n (h ++ zip es (run_from n h es)))
keeps_from n h w [] none s m few k = subst (λ g. Keeps g (past n g)) (sym (append-nil h)) k
keeps_from n h w (e ∷ es) none s m few k =
    let r : Record = rec n h e in
    let g : History = h ++ (e, r) ∷ [] in
    let step : given_back w.returned e ≡ None = given_none w.returned e none in
    let stands : Stands n g (next w e) = (stands-next n h w (next w e) e r step s (sym (stands_told n h w e step s)) refl).1 in
    let long : past n g ≡ longer (past n h) e r = past-push _ h e r in
    let kept : Keeps g (past n g) = subst (λ p. Keeps g p) (sym long) (keeps_more h (past n h) e m.0 k (roomy n h w s k (omega (arith, few)))) in
    let l = length-append h ((e, r) ∷ []) in
    let all = keeps_from n g (next w e) es (still_none w e none) stands m.1 (omega (arith, few, l)) kept in
    subst (λ f. Keeps f (past n f)) (append_assoc h ((e, r) ∷ []) (zip es (run_from n g es))) all

none_leaves : (n : ℕ) → LeavingFits (leaving_of n [])
none_leaves zero = tt
none_leaves (suc k) = tt

keeps_none : (n : ℕ) → Keeps [] (past n [])
keeps_none n = record {
  wire = record { rest_fits = tt; methods_fit = tt; publishes_fit = tt; requests_fit = tt; contents_fit = tt; deliveries_fit = (tt, tt) };
  confirms = tt;
  tickets = tt;
  leaving = λ m known. none_leaves m;
  count = omega arith;
  same = refl;
}

zip_short : (es : List Event) (rs : List Record) → length (zip es rs) ≤ length es
zip_short [] rs = omega arith
zip_short (e ∷ es) [] = omega arith
zip_short (e ∷ es) (r ∷ rs) = let h = zip_short es rs in omega (arith, h)

pub told_fits : (n : ℕ) (es : List Event) (e : Event) → MayComeThen es e → MayTell (history_of n es) e (told_behind n es e)
told_fits n es e m =
    let h : History = history_of n es in
    let few = m.fewer in
    let short = zip_short es (run n es) in
    let k : Keeps h (past n h) = keeps_from n [] (new_world n) es refl (stands_new n) (recursion_from_All MayCome es m.before) (omega (arith, few)) (keeps_none n) in
    tells h (past n h) k (roomy n h (world_after n es) (stands_after n es) k (omega (arith, few, short))) e m.last
