-- What an event does to tickets fits: it gives one exactly where its record is a ticket, and a known one only gets plain answers.
use Rattle.std.proofs.Common.{◌≡◌, ℕ, ◌+◌, Bool, true, false, cond, List, [], ◌∷◌, ◌++◌, Option, Some, None, Ok, refl, ◌∙◌, arith}
use Rattle.std.specs.List.{AllByRecursion as Each, filter}
use Rattle.lapin_tables.specs.ByChannel.{at_channel}
use Rattle.lapin_types.specs.Types.{Error}
use Rattle.lapin_types.specs.Types.error
use Rattle.lapin_types.specs.declared.answer.Answer.{Answer}
use Rattle.lapin_types.specs.declared.answer.Answer.TheVariants as answer
use Rattle.lapin_types.specs.declared.event.Event.{Event}
use Rattle.lapin_types.specs.declared.leaving.Left.{Left}
use Rattle.lapin_types.specs.declared.record.Record.{Record}
use Rattle.lapin_types.specs.declared.record.Record.TheVariants as record_
use Rattle.lapin_types.specs.declared.request.Request.{Request}
use Rattle.lapin_types.specs.declared.request.ReplyKind.{ReplyKind}
use Rattle.lapin_types.specs.declared.request.ReplyKind.TheVariants as reply_kind
use Rattle.lapin_content.specs.declared.start.Start.{Start}
use Rattle.lapin_content.specs.declared.start.Start.TheVariants as start
use Rattle.lapin_content.specs.declared.start.Whole.{Whole}
use Rattle.lapin_rules.specs.declared.broker_frames.ConsumerPart.{ConsumerPart}
use Rattle.lapin_rules.specs.declared.broker_frames.ConsumerPart.TheVariants as consumer
use Rattle.lapin_rules.specs.declared.broker_frames.Incoming.{Incoming}
use Rattle.lapin_rules.specs.declared.broker_frames.Incoming.TheVariants as incoming
use Rattle.lapin_rules.specs.declared.calls.Answered.{Answered}
use Rattle.lapin_rules.specs.declared.calls.Answered.TheVariants as answered
use Rattle.lapin_rules.specs.declared.calls.Asked.{Asked}
use Rattle.lapin_rules.specs.declared.calls.Asked.TheVariants as ask
use Rattle.lapin_rules.specs.declared.marks.AtLeaving.{AtLeaving}
use Rattle.lapin_rules.specs.declared.phases.Closer.TheVariants as closer
use Rattle.lapin_rules.specs.declared.phases.ChannelPhase.{ChannelPhase}
use Rattle.lapin_rules.specs.declared.phases.ChannelPhase.TheVariants as phase
use Rattle.lapin_rules.specs.declared.phases.ConnectionPhase.{ConnectionPhase}
use Rattle.lapin_rules.specs.declared.phases.ConnectionPhase.TheVariants as link
use Rattle.lapin_rules.specs.declared.phases.CloseStage.TheVariants as stage
use Rattle.lapin_rules.specs.Asking.{closing_tickets, made_answer, made_marks}
use Rattle.lapin_rules.specs.Calls.{made_by}
use Rattle.lapin_rules.specs.ChannelClose.{close_tickets, close_ticket, close_ok_end, failed_at_close_ok, kept_ticket}
use Rattle.lapin_rules.specs.ConnectionClose.{connection_close_tickets, failed_at_connection_close}
use Rattle.lapin_rules.specs.Consumers.{consumer_tickets, next_consumer}
use Rattle.lapin_rules.specs.Content.{next_acker, got_message, start_tickets, whole_on, whole_tickets}
use Rattle.lapin_rules.specs.Ends.{all_failed, cancels_at, cancels_done, cancels_on, done_with, end_tickets, live_channels}
use Rattle.lapin_rules.specs.Handing.{begun_ticket, last_ticket, left_tickets}
use Rattle.lapin_rules.specs.Loss.{lost_tickets}
use Rattle.lapin_rules.specs.Machine.{has_ticket, is_known_call}
use Rattle.lapin_rules.specs.Phases.{is_lost}
use Rattle.lapin_rules.specs.Receiving.{failed_tickets, incoming_tickets, received_tickets, refused_tickets}
use Rattle.lapin_rules.specs.Reply.{reply_tickets}
use Rattle.lapin_rules.specs.Requests.{first_request, is_kind, requests_in, resolved_with, ticket_of}
use Rattle.lapin_rules.specs.TicketReadings.{TicketMark, gives, leaving_in}
use Rattle.lapin_rules.specs.TicketReadings as ticket
use Rattle.lapin_rules.specs.Unexpected.{failed_at_unexpected}
use Rattle.lapin_rules.specs.Wire.{Wire, is_open, phase_of, requests_of, state_of}
use Rattle.lapin_rules.specs.Words.{many, one_after}
use Rattle.lapin_lines.specs.KeptLines.{ErrorFits}
use Rattle.lapin_told.proofs.Each.{Of, chosen, each_append, each_weaker, many_append, one_beyond, one_missing}
use Rattle.lapin_told.proofs.Fitting.{AnswerFits, Awaits, LeavingFits, StartFits, TicketFits, Unknown, WholeFits, WireFits, is_plain}
use Rattle.lapin_told.proofs.Calls.{AnsweredFits, AskedFits}
use Rattle.lapin_told.proofs.Hearing.{IncomingFits, found_awaits}
use Rattle.lapin_told.proofs.Receiving.{whole_at}
use Rattle.lapin_told.proofs.Wires.{requests_at}

module _ (K : ℕ → Bool) where
  -- a mark that gives no ticket
  abbrev pub Quiet : TicketMark → Type 0
  Quiet (ticket.Given c l) = ⊥
  Quiet m = TicketFits K m

  quiet_fits : (m : TicketMark) → Quiet m → TicketFits K m
  quiet_fits (ticket.Given c l) h = absurd h
  quiet_fits _ h = h

  quiet_gives : (m : TicketMark) → Quiet m → gives m ≡ false
  quiet_gives (ticket.Given c l) h = absurd h
  quiet_gives _ h = refl

  none_given : (ms : List TicketMark) → Each Quiet ms → many gives ms ≡ 0
  none_given [] h = refl
  none_given (m ∷ ms) h = rw (quiet_gives m h.0) (none_given ms h.1)

  -- ---- replies and cancels

  pub replied : (a : Answer) (k : ReplyKind) (t : Option ℕ) → (is_plain k ≡ true → AnswerFits a) → Awaits K t k → Each Quiet (resolved_with (Ok a) t)
  replied a k None f h = tt
  replied a k (Some t) f h = ((λ x. f (h x)), tt)

  pub reply_quiet : (c : ℕ) (k : ReplyKind) (a : Answer) (b : Wire) → (is_plain k ≡ true → AnswerFits a) → WireFits K b → Each Quiet (reply_tickets c k a b)
  reply_quiet c k a b f h = replied a k (ticket_of (first_request k (requests_of c b))) f (found_awaits K k (requests_of c b) (requests_at K c b.requests h.requests_fit))

  done : (t : Option ℕ) → Each Quiet (resolved_with (Ok answer.Done) t)
  done None = tt
  done (Some t) = ((λ _. tt), tt)

  dones : (rs : List Request) → Each Quiet (done_with rs)
  dones [] = tt
  dones (r ∷ rs) = each_append Quiet (resolved_with (Ok answer.Done) r.ticket) (done_with rs) (done r.ticket) (dones rs)

  cancels : (c : ℕ) (all : List (ℕ × List Request)) → Each Quiet (cancels_at c all)
  cancels c all = dones (filter (is_kind reply_kind.BasicCancelOk) (requests_in (at_channel c all)))

  cancels_all : (cs : List ℕ) (all : List (ℕ × List Request)) → Each Quiet (cancels_on cs all)
  cancels_all [] all = tt
  cancels_all (c ∷ cs) all = each_append Quiet (cancels_at c all) (cancels_on cs all) (cancels c all) (cancels_all cs all)

  pub all_fail : (e : Error) (b : Wire) → ErrorFits e → Each Quiet (all_failed e b)
  all_fail e b f = each_append Quiet (cancels_on (live_channels b.phases) b.requests) (ticket.AllFailed e ∷ []) (cancels_all (live_channels b.phases) b.requests) (f, tt)

  pub fails : (c : ℕ) (spared : Option ℕ) (e : Error) (b : Wire) → ErrorFits e → Each Quiet (cancels_done c b ++ ticket.OpeningFailed c spared e ∷ [])
  fails c spared e b f = each_append Quiet (cancels_done c b) (ticket.OpeningFailed c spared e ∷ []) (cancels c b.requests) (f, tt)

  pub lost_quiet : (b : Wire) → Each Quiet (lost_tickets b)
  lost_quiet b = chosen (Each Quiet) (is_lost b.link) [] (all_failed error.ConnectionLost b) tt (all_fail error.ConnectionLost b tt)

  -- ---- frames that leave

  begun_quiet : (first : Bool) (t p : Option ℕ) → Each Quiet (begun_ticket first t p)
  begun_quiet true (Some t) (Some n) = (tt, tt)
  begun_quiet true (Some t) None = tt
  begun_quiet true None p = tt
  begun_quiet false t p = tt

  last_quiet : (last : Bool) (t : Option ℕ) → Each Quiet (last_ticket last t)
  last_quiet true (Some t) = (tt, tt)
  last_quiet true None = tt
  last_quiet false t = tt

  pub left_quiet : (o : Option Left) → Each Quiet (left_tickets o)
  left_quiet None = tt
  left_quiet (Some l) = each_append Quiet (begun_ticket l.first l.ticket l.publish) (last_ticket l.last l.ticket) (begun_quiet l.first l.ticket l.publish) (last_quiet l.last l.ticket)

  -- ---- frames of the broker

  got_quiet : (t : Option ℕ) (a : Answer) → Unknown K t → Each Quiet (resolved_with (Ok a) t)
  got_quiet None a h = tt
  got_quiet (Some t) a h = ((λ x. absurd (h x)), tt)

  start_quiet : (c n : ℕ) (s : Start) (w : Whole) → StartFits K s → Each Quiet (start_tickets c n s w)
  start_quiet c n (start.Get t tag exchange key redelivered count) w h = got_quiet t (answer.Got (Some (got_message c n tag exchange key redelivered count w))) h.1
  start_quiet c n (start.Return code reason exchange key) w h = tt
  start_quiet c n (start.Deliver k tag exchange key redelivered) w h = tt

  whole_quiet : (c n : ℕ) (o : Option Whole) → Of (WholeFits K) o → Each Quiet (whole_tickets c n o)
  whole_quiet c n None h = tt
  whole_quiet c n (Some w) h = start_quiet c n w.start w h.0

  consumer_quiet : (c : ℕ) (p : ConsumerPart) (b : Wire) → WireFits K b → Each Quiet (consumer_tickets c p b)
  consumer_quiet c (consumer.ConsumeOk tag) b h = reply_quiet c reply_kind.BasicConsumeOk (answer.Consumer (next_consumer b.deliveries)) b (λ x. absurd cc) h
  consumer_quiet c (consumer.CancelOk tag) b h = reply_quiet c reply_kind.BasicCancelOk answer.Done b (λ _. tt) h
  consumer_quiet c consumer.RecoverOk b h = reply_quiet c reply_kind.BasicRecoverOk answer.Done b (λ _. tt) h
  consumer_quiet c (consumer.Cancel tag nowait) b h = tt

  end_quiet : (c : ℕ) (p : ChannelPhase) (b : Wire) → Each Quiet (end_tickets c (close_ok_end p) b)
  end_quiet c (phase.Closing closer.Application sent) b = fails c None (failed_at_close_ok closer.Application) b tt
  end_quiet c (phase.Closing closer.Session sent) b = fails c None (failed_at_close_ok closer.Session) b refl
  end_quiet c _ b = tt

  connection_quiet : (l : ConnectionPhase) (code : ℕ) (b : Wire) → ErrorFits (error.ProtocolError code) → Each Quiet (connection_close_tickets l code b)
  connection_quiet (link.Closing stage.Sent) code b f = tt
  connection_quiet (link.Closing stage.Crossed) code b f = tt
  connection_quiet _ code b f = all_fail (error.ProtocolError code) b f

  received_quiet : (i : Incoming) (b : Wire) → IncomingFits K i → WireFits K b → Each Quiet (received_tickets i b)
  received_quiet (incoming.Reply c k a) b f h = reply_quiet c k a b f h
  received_quiet (incoming.Content c p) b f h = whole_quiet c (next_acker b.deliveries) (whole_on c p b) (whole_at K c p b f.1 h)
  received_quiet (incoming.Consumer c p) b f h = consumer_quiet c p b h
  received_quiet (incoming.ChannelClose c code) b f h = fails c (kept_ticket c (phase_of c b) b) (error.ProtocolError code) b f.1
  received_quiet (incoming.ChannelCloseOk c) b f h = each_append Quiet (resolved_with (Ok answer.Done) (close_ticket c b)) (end_tickets c (close_ok_end (phase_of c b)) b) (done (close_ticket c b)) (end_quiet c (phase_of c b) b)
  received_quiet (incoming.ConnectionClose code) b f h = connection_quiet b.link code b f
  received_quiet incoming.ConnectionCloseOk b f h = done (ticket_of (first_request reply_kind.ConnectionCloseOk (requests_of 0 b)))
  received_quiet _ b f h = tt

  failed_quiet : (i : Incoming) (b : Wire) → Each Quiet (failed_tickets i b)
  failed_quiet (incoming.Settlement c s) b = chosen (Each Quiet) (is_open (state_of c b)) (close_tickets c closer.Session) [] (refl, tt) tt
  failed_quiet _ b = tt

  refused_quiet : (i : Incoming) (e : Error) (b : Wire) → Each Quiet (refused_tickets i e b)
  refused_quiet i (error.UnexpectedFrame class number) b = all_fail failed_at_unexpected b refl
  refused_quiet i (error.PreconditionFailed tag current) b = failed_quiet i b
  refused_quiet i _ b = tt

  pub incoming_quiet : (i : Incoming) (r : Record) (b : Wire) → IncomingFits K i → WireFits K b → Each Quiet (incoming_tickets i r b)
  incoming_quiet i (record_.Refused e) b f h = refused_quiet i e b
  incoming_quiet i record_.Received b f h = received_quiet i b f h
  incoming_quiet i _ b f h = tt

  -- ---- calls

  pub closing_quiet : (c : ℕ) (k : Asked) (b : Wire) → Each Quiet (closing_tickets c k b)
  closing_quiet c (ask.CloseChannel code reason) b = (tt, tt)
  closing_quiet c (ask.CloseConnection code reason) b = all_fail failed_at_connection_close b tt
  closing_quiet c _ b = tt

  made_line : (t : ℕ) (x : Answered) → (K t ≡ true → AnsweredFits K t x) → Each Quiet (made_marks t (made_by x))
  made_line t (answered.AtOnce r a) f = (f, tt)
  made_line t (answered.ByReply r) f = tt
  made_line t (answered.AsItLeaves l) f = tt

  pub made_quiet : (k : Asked) (b : Wire) → AskedFits K (b.tickets + 1) k → Each Quiet (made_marks (b.tickets + 1) (made_answer k b))
  made_quiet (ask.Method row) b f = made_line (b.tickets + 1) row.answered f.1
  made_quiet (ask.Consume m tag queue o) b f = ((λ x. absurd (f.2 x)), tt)
  made_quiet (ask.Limit limit) b f = ((λ _. tt), tt)
  made_quiet _ b f = tt

  -- ---- both

  -- the marks fit, and give a ticket exactly where the record is one: a known one is then answered plainly as it leaves
  pub record Numbered (x : Event × Record) (ms : List TicketMark) : Type 0 where
    pub marks : Each (TicketFits K) ms
    pub count : many gives ms ≡ cond (has_ticket x) 1 0
    pub leaving : is_known_call x.0 ≡ true → LeavingFits (leaving_in (one_after gives 0 ms))

  pub quiet_numbered : (x : Event × Record) (ms : List TicketMark) → has_ticket x ≡ false → Each Quiet ms → Numbered x ms
  quiet_numbered x ms none h = record {
    marks = each_weaker Quiet (TicketFits K) quiet_fits ms h;
    count = rw none (none_given ms h);
    leaving = λ known. let e : one_after gives 0 ms ≡ None = one_missing gives 0 ms (let z = none_given ms h in omega (arith, z)) in rw e tt;
  }

  pub given_numbered : (x : Event × Record) (xs : List TicketMark) (c : ℕ) (l : AtLeaving) (bs : List TicketMark) → has_ticket x ≡ true → Each Quiet xs → Each Quiet bs → (is_known_call x.0 ≡ true → LeavingFits l) → Numbered x (xs ++ (ticket.Given c l ∷ bs))
  given_numbered x xs c l bs one f g h = record {
    marks = each_append (TicketFits K) xs (ticket.Given c l ∷ bs) (each_weaker Quiet (TicketFits K) quiet_fits xs f) (tt, each_weaker Quiet (TicketFits K) quiet_fits bs g);
    count = rw one (many_append gives xs (ticket.Given c l ∷ bs) ∙ (let y = none_given xs f in let z = none_given bs g in omega (arith, y, z)));
    leaving = λ known. let e : one_after gives 0 (xs ++ (ticket.Given c l ∷ bs)) ≡ Some (ticket.Given c l) = one_beyond gives 0 0 xs (ticket.Given c l ∷ bs) (let y = none_given xs f in omega (arith, y)) in rw e (h known);
  }
