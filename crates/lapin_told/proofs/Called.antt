-- What a call, of the application or of an acker, tells and leaves.
use Rattle.std.proofs.Common.{◌≡◌, ℕ, ◌+◌, ◌^◌, ◌<◌, Bool, true, false, cond, [], length, Option, Some, None, refl, sym, ◌∙◌}
use Rattle.lapin_types.specs.Types.error
use Rattle.lapin_types.specs.declared.acker_call.AckerCall.{AckerCall}
use Rattle.lapin_types.specs.declared.call.Call.{Call}
use Rattle.lapin_types.specs.declared.event.Event.{Event}
use Rattle.lapin_types.specs.declared.event.Event.TheVariants as event
use Rattle.lapin_types.specs.declared.record.Record.{Record}
use Rattle.lapin_types.specs.declared.record.Record.TheVariants as record_
use Rattle.lapin_text.specs.CallText.{CallFits}
use Rattle.lapin_rules.specs.declared.calls.Answered.{Answered}
use Rattle.lapin_rules.specs.declared.calls.Answered.TheVariants as answered
use Rattle.lapin_rules.specs.declared.calls.Asked.{Asked}
use Rattle.lapin_rules.specs.declared.calls.Asked.TheVariants as ask
use Rattle.lapin_rules.specs.Ackers.{acked_record, acked_tickets, acker_asked, acker_told, acker_tickets, after_acker, usable_at}
use Rattle.lapin_rules.specs.Asking.{accepted_record, after_asking, asked_by, asking_marks, asking_tickets, call_record, call_tickets, call_told, closing_tickets, is_allowed, is_held, leaving_answer, made_answer, made_marks}
use Rattle.lapin_rules.specs.Calls.{asked, leaving_by}
use Rattle.lapin_rules.specs.Machine.{is_known_call, is_ticket}
use Rattle.lapin_rules.specs.Readings.{Readings}
use Rattle.lapin_rules.specs.Wire.{Wire, state_of}
use Rattle.lapin_told.specs.Told.{published_by}
use Rattle.lapin_lines.specs.KeptLines.{OfCall}
use Rattle.lapin_told.proofs.Each.{chosen}
use Rattle.lapin_told.proofs.Fitting.{LeavingFits, Short, Wide, WireFits, impossible}
use Rattle.lapin_told.proofs.Calls.{AnsweredFits, AskedFits, acker_fits, call_fits}
use Rattle.lapin_told.proofs.Calling.{AckFits, AllowedFits, UsableFits, acker_wire, asking_fits, usable}
use Rattle.lapin_told.proofs.Confirming.{Counted, asking_counted}
use Rattle.lapin_laws.proofs.Rows.{told_as}
use Rattle.lapin_told.proofs.Ticketing.{Numbered, closing_quiet, given_numbered, made_quiet, quiet_numbered}

-- ---- what a call tells

ticket_told : (k : Asked) (b : Wire) → is_ticket (accepted_record k b) ≡ true
ticket_told (ask.Publish exchange key o payload properties) b = refl
ticket_told _ b = refl

allowed_told : (c : ℕ) (k : Asked) (b : Wire) → is_allowed k (state_of c b) ≡ true → is_ticket (call_record c k b) ≡ true
allowed_told c k b e = rw e (ticket_told k b)

module _ (b : Wire) (t : Wide (b.tickets + 1)) (p : Wide (b.published + 1)) where
  accepted_fits : (k : Asked) → OfCall (accepted_record k b)
  accepted_fits (ask.Publish exchange key o payload properties) = (t, p)
  accepted_fits _ = t

  pub told_of_call : (c : ℕ) (k : Call) (readings : Readings) → Wide (readings.limit c) → OfCall (call_told c k b readings)
  told_of_call c k readings limit =
      let s = state_of c b in
      chosen OfCall (is_held c k b readings) (record_.Refused (error.ConfirmsOutstanding (readings.limit c))) (call_record c (asked k) b) limit
      (chosen OfCall (is_allowed (asked k) s) (accepted_record (asked k) b) (record_.Refused (error.InvalidChannelState s)) (accepted_fits (asked k)) tt)

-- ---- what it leaves

module _ (K : ℕ → Bool) (b : Wire) (h : WireFits K b) (p : Wide (b.published + 1)) where
  -- a ticket that the event gets is known exactly where the event says so
  abbrev pub KnownAs : Event → Record → Type 0
  KnownAs e r = is_ticket r ≡ true → K (b.tickets + 1) ≡ is_known_call e

  line_leaves : (x : Answered) → AnsweredFits K (b.tickets + 1) x → LeavingFits (leaving_by x)
  line_leaves (answered.ByReply r) f = tt
  line_leaves (answered.AtOnce r a) f = tt
  line_leaves (answered.AsItLeaves l) f = f

  leaves : (k : Asked) → AskedFits K (b.tickets + 1) k → K (b.tickets + 1) ≡ true → LeavingFits (leaving_answer k b)
  leaves (ask.Publish exchange key o payload properties) f known = p
  leaves (ask.Method row) f known = line_leaves row.answered (f.1 known)
  leaves _ f known = tt

  asked_numbered : (e : Event) (c : ℕ) (k : Asked) → AllowedFits K c k b → KnownAs e (call_record c k b) → Numbered K (e, call_record c k b) (asking_tickets c k b)
  asked_numbered e c k f q =
      let no : Record = record_.Refused (error.InvalidChannelState (state_of c b)) in
      elim (is_allowed k (state_of c b)) as (λ v. is_allowed k (state_of c b) ≡ v → Numbered K (e, cond v (accepted_record k b) no) (cond v (call_tickets c k b) [])) [
        | true ↦ λ y. given_numbered K (e, accepted_record k b) (closing_tickets c k b) c (leaving_answer k b) (made_marks (b.tickets + 1) (made_answer k b)) (ticket_told k b) (closing_quiet K c k b) (made_quiet K k b (f y)) (λ known. leaves k (f y) (q (allowed_told c k b y) ∙ known))
        | false ↦ λ y. quiet_numbered K (e, no) [] refl tt
      ] refl

  -- all that a call leaves, which asks for this and tells this
  abbrev Goes : Event → ℕ → Asked → Record → Type 0
  Goes e c a r = KnownAs e r → WireFits K (after_asking c a b) × Numbered K (e, r) (asking_tickets c a b) × Counted (asking_marks c a b)

  pub call_goes : (c : ℕ) (k : Call) (readings : Readings) → Short c → CallFits k → length (published_by (event.Call c k)) < 2 ^ 64 → Goes (event.Call c k) c (asked_by k (call_told c k b readings)) (call_told c k b readings)
  call_goes c k readings short fit n =
      let e : Event = event.Call c k in
      let free : Goes e c (asked k) (call_record c (asked k) b) = λ q.
      let f : AllowedFits K c (asked k) b = λ y. call_fits K (b.tickets + 1) k fit n (λ x. sym (q (allowed_told c (asked k) b y)) ∙ x) in
      (asking_fits K c (asked k) b short f h, asked_numbered e c (asked k) f q, asking_counted K c (asked k) b f) in
      let held : Goes e c ask.Nothing (record_.Refused (error.ConfirmsOutstanding (readings.limit c))) = λ q. (asking_fits K c ask.Nothing b short (λ y. tt) h, quiet_numbered K (e, record_.Refused (error.ConfirmsOutstanding (readings.limit c))) [] refl tt, asking_counted K c ask.Nothing b (λ y. tt)) in
      told_as c k b readings (Goes e c) held free

  -- ---- a call of an acker

  ack_goes : (e : Event) (o : Option (ℕ × ℕ)) (k : AckerCall) → is_known_call e ≡ false → UsableFits K o → KnownAs e (acked_record o k b) → AckFits K o k b × Numbered K (e, acked_record o k b) (acked_tickets o k b)
  ack_goes e None k never u q = (tt, quiet_numbered K (e, record_.No) [] refl tt)
  ack_goes e (Some x) k never u q =
      let a : Asked = acker_asked k x.1 in
      let f : AllowedFits K x.0 a b = λ y. acker_fits K (b.tickets + 1) k x.1 u.1 (λ z. impossible (sym (sym z ∙ (q (allowed_told x.0 a b y) ∙ never)))) in
      ((u.0, f), asked_numbered e x.0 a f q)

  pub acker_goes : (n : ℕ) (k : AckerCall) → KnownAs (event.Acker n k) (acker_told n k b) → WireFits K (after_acker n k b) × Numbered K (event.Acker n k, acker_told n k b) (acker_tickets n k b)
  acker_goes n k q =
      let g = ack_goes (event.Acker n k) (usable_at n b) k refl (usable K n b h) q in
      (acker_wire K n k b g.0 h, g.1)
