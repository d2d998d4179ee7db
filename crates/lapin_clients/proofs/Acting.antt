-- Each call of a client as steps of a joined run.
use Rattle.std.proofs.Common.{◌≡◌, ℕ, suc, ◌<◌, Bool, true, false, List, [], ◌∷◌, ◌++◌, map, Option, Some, None, Result, Ok, Err, refl, sym, ap, subst, ◌∙◌, arith, inl, inr, ◌⊎◌}
use Rattle.std.proofs.lemmas.List.{append_assoc, append-nil, map-append}
use Rattle.lapin_methods.specs.declared.options.BasicPublishOptions.{BasicPublishOptions}
use Rattle.lapin_types.specs.declared.acker_call.AckerCall.{AckerCall}
use Rattle.lapin_types.specs.declared.event.Event.{Event}
use Rattle.lapin_types.specs.declared.event.Event.TheVariants as event
use Rattle.lapin_types.specs.declared.leaving.Left.{Left}
use Rattle.lapin_types.specs.Types.{Frame}
use Rattle.lapin_joint.specs.Joint.{Joint, run}
use Rattle.lapin_machine.specs.Way.{by_machine}
use Rattle.lapin_machine.specs.World.{World, full_in, next, told_by}
use Rattle.lapin_rules.specs.Handing.{handed}
use Rattle.lapin_joint.specs.Joint.{left_alone}
use Rattle.lapin_types.specs.declared.record.Record.TheVariants as record_
use Rattle.lapin_client.specs.declared.client.Client.{Client}
use Rattle.lapin_client.specs.declared.status.Status.TheVariants as status
use Rattle.lapin_client.specs.declared.message.Message.{Message}
use Rattle.lapin_client.specs.declared.replies.Fields.{Fields}
use Rattle.lapin_client.specs.declared.returns.Returned.{Returned}
use Rattle.lapin_client.specs.declared.status.Status.{Status}
use Rattle.lapin_client.specs.Asking.{CalledBy, Called, IsUndone, Limited, Unasked, limiting}
use Rattle.lapin_client.specs.Closes.{TellsClose}
use Rattle.lapin_client.specs.declared.closes.CloseReason.{CloseReason}
use Rattle.lapin_client.specs.Calls.{Published, PublishedBy, OutcomeTold, Settled, Forgotten, fate_call, publishing}
use Rattle.lapin_client.specs.Replies.{Delivered, Replied}
use Rattle.lapin_client.specs.Returns.{ReturnTold, ConfirmTold, UnclaimedTold}
use Rattle.lapin_client.specs.Sending.{Finishes, Pulls, Sends as SendsOut, HandsOut, HeldFits, Holds, SameElse, Stops, Waits, AllWithin, AllFit as AllFitOut, after_requests, bytes_handed, held_bytes, to_leave}
use Rattle.lapin_clients.specs.Calls.{Call, Ask, Limit, Reply, ForgetCall, Publish, Outcome, Confirmed, Unclaimed, ReturnAt, Delivery, Settle, Forget, ReadyConsumer, ReadyReply, Why, StatesNow, Send, Finish, LastClose, IsCall}
use Rattle.lapin_clients.specs.Joined.{AreSent, IsJoined, as_dealt, hearing, held_frames}
use Rattle.lapin_clients.specs.Nets.{Net}
use Rattle.lapin_clients.specs.Pieces.{Piece, ArePieces, octets_in, octets_of, frames_in, frames_left, Fits, AllFit}
use Rattle.lapin_clients.proofs.Strays.{coming_so}
use Rattle.lapin_clients.proofs.Requests.{asks, asks_less, asks_run, asks_quiet, lefts_of, with_asked, pieces_left, octets_both, frames_both, fit_both, left_frames, handed_octets, handed_fit, told_handed, held_octets, held_in, held_fits, shown_frame}
use Rattle.lapin_clients.proofs.Fewer.{stops_less}
use Rattle.lapin_clients.proofs.Going.{dead, GoesOn, goes_both, is_inner, sent_so, SameNet, still_none, no_move, no_step, one_step, two_steps}

pub with_piece : (most : ℕ) (octets : List ℕ) (fs : List Frame) (p : Piece) → ArePieces most octets fs → Fits most p → ArePieces most (octets ++ octets_in p) (fs ++ frames_in (p ∷ []))
with_piece most octets fs p a fit = record {
  pieces = a.pieces ++ p ∷ [];
  are = ap (λ os. os ++ octets_in p) a.are ∙ (ap (λ os. octets_of a.pieces ++ os) (sym (append-nil (octets_in p))) ∙ sym (octets_both a.pieces (p ∷ [])));
  frames_are = frames_both a.pieces (p ∷ []) ∙ ap (λ fs. fs ++ frames_in (p ∷ [])) a.frames_are;
  fit = fit_both most a.pieces (p ∷ []) a.fit (fit, tt);
}

-- what k requests hand out stands behind what was to be sent and the frame that was held
module _ (n k : ℕ) (flow : Bool) (x : Net) (j : Joint World) (none : j.session.returned ≡ None) (is : IsJoined n x j) where
  abbrev more : List Piece
  more = pieces_left (left_alone x.client.unsent) ++ pieces_left (lefts_of k flow j.session)

  abbrev all_pieces : List Piece
  all_pieces = is.up.written.pieces ++ more

  octets_more : octets_of more ≡ held_bytes x.client.unsent ++ bytes_handed k flow x.client.session
  octets_more =
      octets_both (pieces_left (left_alone x.client.unsent)) (pieces_left (lefts_of k flow j.session))
      ∙ (ap (λ os. os ++ octets_of (pieces_left (lefts_of k flow j.session))) (sym (held_octets x.client.unsent))
      ∙ ap (λ os. held_bytes x.client.unsent ++ os) (sym (ap (bytes_handed k flow) is.session ∙ handed_octets flow j.session none k)))

  frames_more : frames_in all_pieces ≡ is.up.on_way ++ (held_frames x.client.unsent ++ frames_left (lefts_of k flow j.session))
  frames_more =
      frames_both is.up.written.pieces more
      ∙ (ap (λ fs. fs ++ frames_in more) is.up.written.frames_are
      ∙ ap (λ fs. is.up.on_way ++ fs) (frames_both (pieces_left (left_alone x.client.unsent)) (pieces_left (lefts_of k flow j.session))
      ∙ (ap (λ fs. fs ++ frames_in (pieces_left (lefts_of k flow j.session))) (held_in x.client.unsent) ∙ ap (λ fs. held_frames x.client.unsent ++ fs) (left_frames (lefts_of k flow j.session)))))

  pub sent_on : (leaving : List ℕ) → leaving ≡ to_leave x.client ++ bytes_handed k flow x.client.session → AllWithin x.client.frame_max k flow x.client.session → AllFitOut k flow x.client.session → HeldFits x.client.frame_max x.client.unsent →
      AreSent n (x.up ++ leaving) None (frames_left (j.up ++ lefts_of k flow j.session))
  sent_on leaving is_left within fits held =
      let fit : AllFit n (pieces_left (lefts_of k flow j.session)) = handed_fit flow j.session none n k (subst (AllFitOut k flow) is.session fits)
      (subst (λ v. AllWithin n k flow v) is.session (subst (λ most. AllWithin most k flow x.client.session) is.most within)) in
      let fit_held : AllFit n (pieces_left (left_alone x.client.unsent)) = held_fits n x.client.unsent (subst (λ most. HeldFits most x.client.unsent) is.most held) in
      record {
        on_way = frames_in all_pieces;
        written = record {
          pieces = all_pieces;
          are = ap (λ l. x.up ++ l) (is_left ∙ (append_assoc x.client.leaving.items (held_bytes x.client.unsent) (bytes_handed k flow x.client.session) ∙ ap (λ os. x.client.leaving.items ++ os) (sym octets_more)))
              ∙ (sym (append_assoc x.up x.client.leaving.items (octets_of more)) ∙ (ap (λ os. os ++ octets_of more) is.up.written.are ∙ sym (octets_both is.up.written.pieces more)));
          frames_are = refl;
          fit = fit_both n is.up.written.pieces more is.up.written.fit (fit_both n (pieces_left (left_alone x.client.unsent)) (pieces_left (lefts_of k flow j.session)) fit_held fit);
        };
        all = map-append (λ (l : Left). l.frame) j.up (lefts_of k flow j.session)
            ∙ (ap (λ fs. fs ++ frames_left (lefts_of k flow j.session)) is.up.all
            ∙ (append_assoc is.up.on_way (held_frames x.client.unsent) (frames_left (lefts_of k flow j.session)) ∙ (sym frames_more ∙ sym (append-nil (frames_in all_pieces)))));
      }

  -- one more, which is held
  pub held_on : (octets : List ℕ) (l : Left) → told_by (after_requests k flow j.session) (event.Next flow) ≡ record_.Frame l.frame → AreSent n octets None (frames_left (j.up ++ lefts_of k flow j.session)) → AreSent n octets (Some l) (frames_left (j.up ++ lefts_of (suc k) flow j.session))
  held_on octets l told a =
      let o : Option Left = handed flow (full_in (after_requests k flow j.session).confirm_state) (after_requests k flow j.session).wire in
      let one : frames_left (left_alone o) ≡ l.frame ∷ [] = shown_frame o l (sym (told_handed flow j.session none k) ∙ told) in
      record {
        on_way = a.on_way;
        written = a.written;
        all = ap frames_left (sym (append_assoc j.up (lefts_of k flow j.session) (left_alone o)))
            ∙ (map-append (λ (m : Left). m.frame) (j.up ++ lefts_of k flow j.session) (left_alone o)
            ∙ (ap (λ fs. frames_left (j.up ++ lefts_of k flow j.session) ++ fs) one ∙ ap (λ fs. fs ++ l.frame ∷ []) (a.all ∙ append-nil a.on_way)));
      }

-- k requests, after which this is to be sent
module _ (n k : ℕ) (flow : Bool) (x y : Net) (j : Joint World) (is : IsJoined n x j) (same : SameNet x y) where
  pub asked : y.client.session ≡ after_requests k flow x.client.session → SameElse x.client y.client → AreSent n (x.up ++ y.client.leaving.items) y.client.unsent (frames_left (j.up ++ lefts_of k flow j.session)) → GoesOn n [] y j
  asked session else_ sent =
      let down : y.client.came ++ y.down ≡ x.client.came ++ x.down = ap (λ c. c ++ y.down) else_.1 ∙ ap (λ d. x.client.came ++ d) same.down in
      let here : IsJoined n y (with_asked k flow j) = record {
        most = else_.2 ∙ is.most;
        session = session ∙ ap (after_requests k flow) is.session;
        broker = same.broker ∙ is.broker;
        up = sent_so n (frames_left (j.up ++ lefts_of k flow j.session)) (ap (λ u. u ++ y.client.leaving.items) same.up) refl sent;
        down = coming_so n (x.client.came ++ x.down) (y.client.came ++ y.down) (hearing j.session) (hearing (after_requests k flow j.session)) x.besides y.besides j.down down same.besides (asks_less k flow j.session) is.down;
      } in
      record { steps = asks k flow; joined = subst (IsJoined n y) (sym (asks_run k flow j)) here; dealt_is = ap (map as_dealt) (asks_quiet k flow j) }

alive_behind : (s : Status) (b d : Client) → Stops s false b d → 0 < d.left → 0 < b.left
alive_behind s b d h alive = let less = stops_less b d s false h in omega (arith, less, alive)

-- of the second stretch of two all else is the same, if it is of the first and of both
else_between : (c b d : Client) → SameElse c b → SameElse c d → SameElse b d
else_between c b d h k = (k.0 ∙ sym h.0, k.1 ∙ sym h.1, k.2 ∙ sym h.2, k.3 ∙ sym h.3, k.4 ∙ sym h.4, k.5 ∙ sym h.5, k.6 ∙ sym h.6)

module _ (n : ℕ) (x y : Net) (j : Joint World) (none : j.session.returned ≡ None) (is : IsJoined n x j) (same : SameNet x y) (alive : 0 < y.client.left) where
  over : y.client.left ≡ 0 → GoesOn n [] y j
  over e = absurd (dead y.client.left alive e)

  ended : y.client ≡ x.client → GoesOn n [] y j
  ended e = no_move n x y j is same (record { leaving = ap (λ (c : Client). c.leaving.items) e; came = ap (λ (c : Client). c.came) e; most = ap (λ (c : Client). c.frame_max) e; unsent = ap (λ (c : Client). c.unsent) e }) (ap (λ (c : Client). c.session) e)

  requests_go : (k : ℕ) (flow : Bool) → HandsOut k flow x.client y.client → SameElse x.client y.client → GoesOn n [] y j
  requests_go k flow h else_ = asked n k flow x y j is same h.0 else_ (sent_so n (frames_left (j.up ++ lefts_of k flow j.session)) refl h.1.4 (sent_on n k flow x j none is y.client.leaving.items h.1.0 h.1.1 h.1.3 h.1.5))

  holds_go : (k : ℕ) (flow : Bool) (b : Client) → HandsOut k flow x.client b → Holds flow b y.client → SameElse x.client y.client → GoesOn n [] y j
  holds_go k flow b h held else_ =
      let told : told_by (after_requests k flow j.session) (event.Next flow) ≡ record_.Frame held.0.frame = ap (λ w. told_by w (event.Next flow)) (sym (h.0 ∙ ap (after_requests k flow) is.session)) ∙ held.1 in
      let sent : AreSent n (x.up ++ y.client.leaving.items) None (frames_left (j.up ++ lefts_of k flow j.session)) = sent_on n k flow x j none is y.client.leaving.items (held.3 ∙ h.1.0) h.1.1 h.1.3 h.1.5 in
      asked n (suc k) flow x y j is same (held.2 ∙ ap (λ w. next w (event.Next flow)) h.0) else_ (sent_so n (frames_left (j.up ++ lefts_of (suc k) flow j.session)) refl held.5 (held_on n k flow x j none is (x.up ++ y.client.leaving.items) held.0 told sent))

  waits_go : Waits x.client y.client → SameElse x.client y.client → GoesOn n [] y j
  waits_go h else_ = no_move n x y j is same (record { leaving = h.1; came = else_.1; most = else_.2; unsent = h.3 }) h.0

  -- where requests came to no end
  pub stops_go : (s : Status) (flow : Bool) → Stops s flow x.client y.client → SameElse x.client y.client → GoesOn n [] y j
  stops_go status.NoMemory flow (inl (inl h)) else_ = waits_go h else_
  stops_go status.NoMemory flow (inl (inr h)) else_ = requests_go h.0 flow h.1 else_
  stops_go status.NoMemory flow (inr h) else_ = holds_go h.0 flow h.1 h.2 h.3 else_
  stops_go status.TooLong flow (inl h) else_ = over h.3
  stops_go status.TooLong flow (inr h) else_ = over h.4.3
  stops_go status.Ended flow h else_ = over h.1
  stops_go _ flow h else_ = absurd h

  closes_go : (channel : ℕ) (r : Result CloseReason Status) → TellsClose r channel x.client y.client → GoesOn n [] y j
  closes_go channel (Ok r) h = no_step n x y j is same h.3 h.1
  closes_go channel (Err status.Pending) h = ended h.1
  closes_go channel (Err status.NoMemory) h = no_step n x y j is same h.3 h.1
  closes_go channel (Err _) h = absurd h

  undone_goes : IsUndone x.client y.client → GoesOn n [] y j
  undone_goes h = no_step n x y j is same h.2 h.0

  -- a call that isn't a publish, by its event
  called_by_goes : (e : Event) → is_inner e ≡ true → (r : Result ℕ Status) → CalledBy r e x.client y.client → GoesOn n [] y j
  called_by_goes e own (Ok ticket) h = one_step n x y j is same e own h.3 h.1
  called_by_goes e own (Err s) h = no_step n x y j is same h.2 h.1

  asked_goes : (channel : ℕ) (octets : List ℕ) (r : Result ℕ Status) → Called r channel octets x.client y.client → GoesOn n [] y j
  asked_goes channel octets (Ok ticket) h = called_by_goes (event.Call channel h.1.0) refl (Ok ticket) h.1.2
  asked_goes channel octets (Err status.TooLong) h = undone_goes h.1
  asked_goes channel octets (Err status.NotInGrammar) h = undone_goes h.1
  asked_goes channel octets (Err status.NoMemory) h = undone_goes h
  asked_goes channel octets (Err status.Ended) h = undone_goes h.1
  asked_goes channel octets (Err _) h = no_step n x y j is same h.1.2.2 h.1.2.1

  limited_goes : (channel limit : ℕ) (r : Result ℕ Status) → Limited r channel limit x.client y.client → GoesOn n [] y j
  limited_goes channel limit (Ok ticket) h = called_by_goes (limiting channel limit) refl (Ok ticket) h
  limited_goes channel limit (Err status.Ended) h = undone_goes h.1
  limited_goes channel limit (Err _) h = no_step n x y j is same h.2 h.1

  replied_goes : (ticket : ℕ) (r : Result Fields Status) → Replied r ticket x.client y.client → GoesOn n [] y j
  replied_goes ticket (Ok f) h = one_step n x y j is same (event.PollTicket ticket) refl h.3 h.2
  replied_goes ticket (Err status.Pending) h = one_step n x y j is same (event.PollTicket ticket) refl h.3 h.2
  replied_goes ticket (Err status.Refused) h = one_step n x y j is same (event.PollTicket ticket) refl h.2 h.1
  replied_goes ticket (Err status.NoMemory) h = over h.1
  replied_goes ticket (Err status.Ended) h = ended h.1
  replied_goes ticket (Err _) h = absurd h

  unasked_goes : (ticket : ℕ) (s : Status) → Unasked s ticket x.client y.client → GoesOn n [] y j
  unasked_goes ticket status.Done h = one_step n x y j is same (event.AsideTicket ticket) refl h.3 h.1
  unasked_goes ticket status.Gone h = undone_goes h.1
  unasked_goes ticket status.Ended h = ended h.1
  unasked_goes ticket _ h = absurd h

  published_by_goes : (channel : ℕ) (exchange key : List ℕ) (options : BasicPublishOptions) (payload properties : List ℕ) (r : Result ℕ Status) → PublishedBy r (publishing channel exchange key options payload properties) x.client y.client → GoesOn n [] y j
  published_by_goes channel exchange key options payload properties (Ok confirm) h = two_steps n x y j is same (publishing channel exchange key options payload properties) (event.AsideTicket h.0.0) refl refl h.2 h.0.2
  published_by_goes channel exchange key options payload properties (Err s) h = no_step n x y j is same h.2 h.1

  publish_goes : (channel : ℕ) (exchange key : List ℕ) (options : BasicPublishOptions) (payload properties : List ℕ) (r : Result ℕ Status) → Published r channel exchange key options payload properties x.client y.client → GoesOn n [] y j
  publish_goes channel exchange key options payload properties (Ok confirm) h = published_by_goes channel exchange key options payload properties (Ok confirm) h.1
  publish_goes channel exchange key options payload properties (Err status.TooLong) h = undone_goes h.1
  publish_goes channel exchange key options payload properties (Err status.NotInGrammar) h = undone_goes h.1
  publish_goes channel exchange key options payload properties (Err status.NoMemory) h = undone_goes h
  publish_goes channel exchange key options payload properties (Err status.Ended) h = undone_goes h.1
  publish_goes channel exchange key options payload properties (Err _) h = no_step n x y j is same h.1.2 h.1.1

  outcome_goes : (confirm code : ℕ) → OutcomeTold code confirm x.client y.client → GoesOn n [] y j
  outcome_goes confirm code h = elim h.0 [
    | inl z ↦ no_step n x y j is same h.1 z.2
    | inr told ↦ one_step n x y j is same (event.PollConfirm confirm) refl h.1 told.2
  ]

  confirm_goes : (confirm : ℕ) (r : Result ℕ Status) → ConfirmTold r confirm x.client y.client → GoesOn n [] y j
  confirm_goes confirm (Ok code) h = one_step n x y j is same (event.PollConfirm confirm) refl h.2 h.1
  confirm_goes confirm (Err status.Pending) h = one_step n x y j is same (event.PollConfirm confirm) refl h.3 h.2
  confirm_goes confirm (Err status.Refused) h = one_step n x y j is same (event.PollConfirm confirm) refl h.2 h.1
  confirm_goes confirm (Err status.Ended) h = ended h.1
  confirm_goes confirm (Err _) h = absurd h

  wait_goes : (channel : ℕ) (r : Result ℕ Status) → UnclaimedTold r channel x.client y.client → GoesOn n [] y j
  wait_goes channel (Ok count) h = one_step n x y j is same (event.PollWait channel) refl h.4 h.3
  wait_goes channel (Err status.Pending) h = one_step n x y j is same (event.PollWait channel) refl h.3 h.2
  wait_goes channel (Err status.NoMemory) h = undone_goes h
  wait_goes channel (Err status.Ended) h = ended h.1
  wait_goes channel (Err _) h = absurd h

  back_goes : (place : ℕ) (r : Result Returned Status) → ReturnTold r place x.client y.client → GoesOn n [] y j
  back_goes place (Ok m) h = no_step n x y j is same h.5 h.3
  back_goes place (Err status.Pending) h = ended h.1
  back_goes place (Err status.NoMemory) h = ended h
  back_goes place (Err _) h = absurd h

  delivery_goes : (consumer : ℕ) (r : Result Message Status) → Delivered r consumer x.client y.client → GoesOn n [] y j
  delivery_goes consumer (Ok m) h = one_step n x y j is same (event.PollConsumer consumer) refl h.3 h.2
  delivery_goes consumer (Err status.Pending) h = one_step n x y j is same (event.PollConsumer consumer) refl h.3 h.2
  delivery_goes consumer (Err status.Gone) h = one_step n x y j is same (event.PollConsumer consumer) refl h.3 h.2
  delivery_goes consumer (Err status.Refused) h = one_step n x y j is same (event.PollConsumer consumer) refl h.2 h.1
  delivery_goes consumer (Err status.NoMemory) h = over h.1
  delivery_goes consumer (Err status.Ended) h = ended h.1
  delivery_goes consumer (Err _) h = absurd h

  settle_goes : (acker : ℕ) (k : AckerCall) (s : Status) → Settled s acker k x.client y.client → GoesOn n [] y j
  settle_goes acker k status.Done h = two_steps n x y j is same (event.Acker acker k) (event.AsideTicket h.0.0) refl refl h.2 h.0.2
  settle_goes acker k status.Gone h = one_step n x y j is same (event.Acker acker k) refl h.3 h.1
  settle_goes acker k status.Refused h = one_step n x y j is same (event.Acker acker k) refl h.2 h.1
  settle_goes acker k status.NoMemory h = undone_goes h
  settle_goes acker k status.Ended h = undone_goes h.1
  settle_goes acker k _ h = absurd h

  forget_goes : (confirm : ℕ) (s : Status) → Forgotten s confirm x.client y.client → GoesOn n [] y j
  forget_goes confirm status.Done h = one_step n x y j is same (event.AsideConfirm confirm) refl h.3 h.1
  forget_goes confirm status.Gone h = undone_goes h.1
  forget_goes confirm status.NoMemory h = undone_goes h
  forget_goes confirm status.Ended h = undone_goes h.1
  forget_goes confirm _ h = absurd h

  finish_goes : (s : Status) → Finishes s x.client y.client → GoesOn n [] y j
  finish_goes status.Done h = requests_go (suc h.0.0) false h.0.1 h.1
  finish_goes status.NoMemory h = stops_go status.NoMemory false h.0 h.1
  finish_goes status.TooLong h = stops_go status.TooLong false h.0 h.1
  finish_goes status.Ended h = stops_go status.Ended false h.0 h.1
  finish_goes _ h = absurd h.0

module _ (n : ℕ) (x y : Net) (j : Joint World) (none : j.session.returned ≡ None) (is : IsJoined n x j) (same : SameNet x y) (alive : 0 < y.client.left) where
  -- a first stretch of requests, and what is behind it
  module _ (flow : Bool) (b : Client) (k : ℕ) (hands : HandsOut k flow x.client b) (else_ : SameElse x.client b) (more : 0 < b.left) where
    abbrev between : Net
    between = record { client = b; broker = x.broker; up = x.up; down = x.down; besides = x.besides }

    first : GoesOn n [] between j
    first = requests_go n x between j none is (record { broker = refl; up = refl; down = refl; besides = refl }) more k flow hands else_

    still : (run by_machine first.steps j).session.returned ≡ None
    still = still_none first.steps j none

    then_finish : Finishes status.Done b y.client → GoesOn n [] y j
    then_finish h = goes_both n [] [] between y j first (finish_goes n between y (run by_machine first.steps j) still first.joined (record { broker = same.broker; up = same.up; down = same.down; besides = same.besides }) alive status.Done h)

    then_stop : (s : Status) → Stops s false b y.client → SameElse b y.client → GoesOn n [] y j
    then_stop s h e = goes_both n [] [] between y j first (stops_go n between y (run by_machine first.steps j) still first.joined (record { broker = same.broker; up = same.up; down = same.down; besides = same.besides }) alive s false h e)

  stopped : (s : Status) (flow : Bool) (enough : ℕ) → Stops s flow x.client y.client ⊎ ((b : Client) × Pulls status.Done enough flow x.client b × Stops s false b y.client) → SameElse x.client y.client → GoesOn n [] y j
  stopped s flow enough (inl h) e = stops_go n x y j none is same alive s flow h e
  stopped s flow enough (inr h) e = then_stop flow h.0 h.1.0.0 h.1.0.1 h.1.1 (alive_behind s h.0 y.client h.2 alive) s h.2 (else_between x.client h.0 y.client h.1.1 e)

  sends_go : (flow : Bool) (enough : ℕ) (s : Status) → SendsOut s flow enough x.client y.client → GoesOn n [] y j
  sends_go flow enough status.Done h =
      let count = h.1.1.0.1.1.2 in
      then_finish flow h.0 h.1.0.0.0 h.1.0.0.1 h.1.0.1 (omega (arith, count, alive)) h.1.1
  sends_go flow enough status.NoMemory h = stopped status.NoMemory flow enough h.0 h.1
  sends_go flow enough status.TooLong h = stopped status.TooLong flow enough h.0 h.1
  sends_go flow enough status.Ended h = stopped status.Ended flow enough h.0 h.1
  sends_go flow enough status.Refused h = stopped status.Refused flow enough h.0 h.1
  sends_go flow enough status.NotInGrammar h = stopped status.NotInGrammar flow enough h.0 h.1
  sends_go flow enough status.Malformed h = stopped status.Malformed flow enough h.0 h.1
  sends_go flow enough status.Closed h = stopped status.Closed flow enough h.0 h.1
  sends_go flow enough status.Pending h = stopped status.Pending flow enough h.0 h.1
  sends_go flow enough status.Gone h = stopped status.Gone flow enough h.0 h.1
  sends_go flow enough status.Kept h = stopped status.Kept flow enough h.0 h.1

  pub call_goes : (k : Call) → IsCall k x.client y.client → GoesOn n [] y j
  call_goes (Ask channel method r) h = asked_goes n x y j none is same alive channel method r h.0
  call_goes (Limit channel limit r) h = limited_goes n x y j none is same alive channel limit r h.0
  call_goes (Reply ticket r octets) h = replied_goes n x y j none is same alive ticket r h.0
  call_goes (ForgetCall ticket s) h = unasked_goes n x y j none is same alive ticket s h.0
  call_goes (Publish channel exchange key options payload properties r) h = publish_goes n x y j none is same alive channel exchange key options payload properties r h.0
  call_goes (Outcome confirm code) h = outcome_goes n x y j none is same alive confirm code h.0
  call_goes (Confirmed confirm r) h = confirm_goes n x y j none is same alive confirm r h.0
  call_goes (Unclaimed channel r) h = wait_goes n x y j none is same alive channel r h.0
  call_goes (ReturnAt place r octets) h = back_goes n x y j none is same alive place r h.0
  call_goes (Delivery consumer r octets) h = delivery_goes n x y j none is same alive consumer r h.0
  call_goes (Settle acker fate multiple requeue s) h = settle_goes n x y j none is same alive acker (fate_call fate multiple requeue) s h.0
  call_goes (Forget confirm s) h = forget_goes n x y j none is same alive confirm s h.0
  call_goes (ReadyConsumer consumers from r) h = ended n x y j none is same alive h.1
  call_goes (ReadyReply tickets from r) h = ended n x y j none is same alive h.1
  call_goes (Why r) h = ended n x y j none is same alive h.1
  call_goes (StatesNow channel s) h = ended n x y j none is same alive h.1
  call_goes (Send flow enough s) h = sends_go flow enough s h
  call_goes (Finish s) h = finish_goes n x y j none is same alive s h
  call_goes (LastClose channel r octets) h = closes_go n x y j none is same alive channel r h.0
