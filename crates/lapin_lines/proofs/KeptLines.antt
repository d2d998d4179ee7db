-- What the wire machine keeps of a record is read from the record's line again.
use Rattle.std.proofs.Common.{◌≡◌, ℕ, ◌<◌, Bool, true, false, cond, List, [], ◌∷◌, ◌++◌, length, Option, Some, None, Ok, Err, codes, refl, sym, ap, ◌∙◌, eqb, arith}
use Rattle.std.specs.Str.{bytes_eq}
use Rattle.std.specs.List.{slice_split, flat_map}
use Rattle.std.proofs.lemmas.List.{append-nil}
use Rattle.lapin_types.specs.Types.{Error, Frame, ChannelState}
use Rattle.lapin_types.specs.Types.error
use Rattle.lapin_types.specs.Types.channel_state
use Rattle.lapin_types.specs.Types.connection_state
use Rattle.lapin_types.specs.declared.answer.Answer.TheVariants as answer
use Rattle.lapin_types.specs.declared.confirmation.Confirmation.TheVariants as confirmation
use Rattle.lapin_types.specs.declared.event.Event.{Event}
use Rattle.lapin_types.specs.declared.event.Event.TheVariants as event
use Rattle.lapin_types.specs.declared.message.BasicReturnMessage.{BasicReturnMessage}
use Rattle.lapin_types.specs.declared.record.Record.{Record}
use Rattle.lapin_types.specs.declared.record.Record.TheVariants as record_
use Rattle.lapin_tokens.specs.Fields.{token, short_number, wide_number}
use Rattle.lapin_tokens.specs.Fields.Field.{text}
use Rattle.lapin_tokens.specs.Reading.{◌>>=◌, fields_at}
use Rattle.lapin_tokens.proofs.FieldLaws.{fields_again}
use Rattle.lapin_tokens.proofs.Plain.{AllPlain, plain_append, split_join}
use Rattle.lapin_tokens.proofs.PlainFields.{plain_token, plain_tokens}
use Rattle.lapin_text.specs.Frames.{frame_tokens, FrameFits}
use Rattle.lapin_text.specs.LineReading.{frame_at}
use Rattle.lapin_text.specs.Records.{state_name, error_tokens, delivery_tokens, message_tokens, held_tokens, record_tokens, record_line}
use Rattle.lapin_text.proofs.LineLaws.{frame_again, plain_event}
use Rattle.lapin_rules.specs.History.{History}
use Rattle.lapin_rules.specs.Machine.{kept, without_message, given_by, is_known_in}
use Rattle.lapin_lines.specs.KeptLines.{ErrorFits, delivery_fields, delivery_values, MessageFits, HeldFits, MessagesFit, OfCall, OfNext, OfReceive, OfTicket, OfConfirm, OfWait, OfAside, OfKnownAside, OfState, OfLost, MayTell}

-- what is read from the front of pieces, and the pieces behind it
abbrev Found : Type 0 → Type 0
Found A = Option (A × List (List ℕ))

-- ---- states

abbrev state_in : {A : Type 0} → (ChannelState → A) → List (List ℕ) → Found A
state_in k [] = None
state_in k (w ∷ ts) =
    cond (bytes_eq (codes "closed") w) (Some (k channel_state.Closed, ts))
    (cond (bytes_eq (codes "opening") w) (Some (k channel_state.Opening, ts))
    (cond (bytes_eq (codes "open") w) (Some (k channel_state.Open, ts))
    (cond (bytes_eq (codes "closing") w) (Some (k channel_state.Closing, ts))
    (cond (bytes_eq (codes "crossed") w) (Some (k channel_state.Crossed, ts))
    (cond (bytes_eq (codes "base") w) (Some (k channel_state.Base, ts)) (Some (k channel_state.Down, ts)))))))

state_again : {A : Type 0} (k : ChannelState → A) (s : ChannelState) → state_in k (state_name s ∷ []) ≡ Some (k s, [])
state_again k channel_state.Closed = refl
state_again k channel_state.Opening = refl
state_again k channel_state.Open = refl
state_again k channel_state.Closing = refl
state_again k channel_state.Crossed = refl
state_again k channel_state.Base = refl
state_again k channel_state.Down = refl

plain_state : (s : ChannelState) → AllPlain (state_name s ∷ [])
plain_state channel_state.Closed = (refl, tt)
plain_state channel_state.Opening = (refl, tt)
plain_state channel_state.Open = (refl, tt)
plain_state channel_state.Closing = (refl, tt)
plain_state channel_state.Crossed = (refl, tt)
plain_state channel_state.Base = (refl, tt)
plain_state channel_state.Down = (refl, tt)

abbrev states_in : List (List ℕ) → Found Record
states_in [] = None
states_in (w ∷ ts) =
    cond (bytes_eq (codes "open") w) (state_in (record_.State connection_state.Open) ts)
    (cond (bytes_eq (codes "closing") w) (state_in (record_.State connection_state.Closing) ts)
    (cond (bytes_eq (codes "closed") w) (state_in (record_.State connection_state.Closed) ts) (state_in (record_.State connection_state.Lost) ts)))

-- ---- errors

abbrev error_in : {A : Type 0} → (Error → A) → List (List ℕ) → Found A
error_in k [] = None
error_in k (w ∷ ts) =
    cond (bytes_eq (codes "NoMemory") w) (Some (k error.NoMemory, ts))
    (cond (bytes_eq (codes "NumbersUsedUp") w) (Some (k error.NumbersUsedUp, ts))
    (cond (bytes_eq (codes "InvalidChannelState") w) (state_in (λ s. k (error.InvalidChannelState s)) ts)
    (cond (bytes_eq (codes "ProtocolError") w) (fields_at (short_number ∷ []) (λ v. k (error.ProtocolError v.0)) ts)
    (cond (bytes_eq (codes "ConnectionLost") w) (Some (k error.ConnectionLost, ts))
    (cond (bytes_eq (codes "UnexpectedFrame") w) (fields_at (short_number ∷ short_number ∷ []) (λ v. k (error.UnexpectedFrame v.0 v.1.0)) ts)
    (cond (bytes_eq (codes "PreconditionFailed") w) (fields_at (wide_number ∷ wide_number ∷ []) (λ v. k (error.PreconditionFailed v.0 v.1.0)) ts)
    (cond (bytes_eq (codes "AlreadyTaken") w) (Some (k error.AlreadyTaken, ts))
    (cond (bytes_eq (codes "UnknownTicket") w) (Some (k error.UnknownTicket, ts)) (fields_at (wide_number ∷ []) (λ v. k (error.ConfirmsOutstanding v.0)) ts)))))))))

error_again : {A : Type 0} (k : Error → A) (e : Error) → ErrorFits e → error_in k (error_tokens e) ≡ Some (k e, [])
error_again k error.NoMemory h = refl
error_again k error.NumbersUsedUp h = refl
error_again k (error.InvalidChannelState s) h = state_again (λ x. k (error.InvalidChannelState x)) s
error_again k (error.ProtocolError code) h = fields_again (short_number ∷ []) (λ v. k (error.ProtocolError v.0)) (code, tt) [] (h, tt)
error_again k error.ConnectionLost h = refl
error_again k (error.UnexpectedFrame class method) h = fields_again (short_number ∷ short_number ∷ []) (λ v. k (error.UnexpectedFrame v.0 v.1.0)) (class, (method, tt)) [] (h.0, (h.1, tt))
error_again k (error.PreconditionFailed tag current) h = fields_again (wide_number ∷ wide_number ∷ []) (λ v. k (error.PreconditionFailed v.0 v.1.0)) (tag, (current, tt)) [] (h.0, (h.1, tt))
error_again k error.AlreadyTaken h = refl
error_again k error.UnknownTicket h = refl
error_again k (error.ConfirmsOutstanding limit) h = fields_again (wide_number ∷ []) (λ v. k (error.ConfirmsOutstanding v.0)) (limit, tt) [] (h, tt)

plain_error : (e : Error) → ErrorFits e → AllPlain (error_tokens e)
plain_error error.NoMemory h = (refl, tt)
plain_error error.NumbersUsedUp h = (refl, tt)
plain_error (error.InvalidChannelState s) h = (refl, plain_state s)
plain_error (error.ProtocolError code) h = (refl, (plain_token short_number code h, tt))
plain_error error.ConnectionLost h = (refl, tt)
plain_error (error.UnexpectedFrame class method) h = (refl, (plain_token short_number class h.0, (plain_token short_number method h.1, tt)))
plain_error (error.PreconditionFailed tag current) h = (refl, (plain_token wide_number tag h.0, (plain_token wide_number current h.1, tt)))
plain_error error.AlreadyTaken h = (refl, tt)
plain_error error.UnknownTicket h = (refl, tt)
plain_error (error.ConfirmsOutstanding limit) h = (refl, (plain_token wide_number limit h, tt))

-- ---- messages

plain_message : (m : BasicReturnMessage) → MessageFits m → AllPlain (message_tokens m)
plain_message m h =
    let rest : AllPlain (token short_number m.reply_code ∷ token text m.reply_text ∷ []) = (plain_token short_number m.reply_code h.1, (plain_token text m.reply_text h.2, tt)) in
    plain_append (delivery_tokens m.delivery) (token short_number m.reply_code ∷ token text m.reply_text ∷ []) (plain_tokens delivery_fields (delivery_values m.delivery) h.0) rest

plain_held : (m : Option BasicReturnMessage) → HeldFits m → AllPlain (held_tokens m)
plain_held None h = (refl, tt)
plain_held (Some m) h = plain_message m h

plain_messages : (ms : List BasicReturnMessage) → MessagesFit ms → AllPlain (flat_map message_tokens ms)
plain_messages [] h = tt
plain_messages (m ∷ ms) h = plain_append (message_tokens m) (flat_map message_tokens ms) (plain_message m h.0) (plain_messages ms h.1)

-- ---- records: an error is that of a ticket or of a confirm

abbrev answer_in : List (List ℕ) → Found Record
answer_in [] = None
answer_in (w ∷ ts) =
    cond (bytes_eq (codes "done") w) (Some (record_.Answer (Ok answer.Done), ts))
    (cond (bytes_eq (codes "channel") w) (fields_at (short_number ∷ []) (λ v. record_.Answer (Ok (answer.Channel v.0))) ts)
    (cond (bytes_eq (codes "confirm") w) (fields_at (wide_number ∷ []) (λ v. record_.Answer (Ok (answer.Confirm v.0))) ts) None))

abbrev confirmed_in : List (List ℕ) → Found Record
confirmed_in [] = None
confirmed_in (w ∷ ts) =
    cond (bytes_eq (codes "ack") w) (Some (record_.Confirmed (Ok (confirmation.Ack None)), []))
    (cond (bytes_eq (codes "nack") w) (Some (record_.Confirmed (Ok (confirmation.Nack None)), [])) (Some (record_.Confirmed (Ok confirmation.NotRequested), [])))

abbrev failed : Bool → Error → Record
failed true e = record_.Answer (Err e)
failed false e = record_.Confirmed (Err e)

abbrev record_in : Bool → List (List ℕ) → Found Record
record_in t [] = None
record_in t (w ∷ ts) =
    cond (bytes_eq (codes "ticket") w) (fields_at (wide_number ∷ []) (λ v. record_.Ticket v.0) ts)
    (cond (bytes_eq (codes "publish") w) (fields_at (wide_number ∷ wide_number ∷ []) (λ v. record_.Publish v.0 v.1.0) ts)
    (cond (bytes_eq (codes "refused") w) (error_in record_.Refused ts)
    (cond (bytes_eq (codes "frame") w) (frame_at ts >>= λ x. Some (record_.Frame x.0, x.1))
    (cond (bytes_eq (codes "noframe") w) (Some (record_.NoFrame, ts))
    (cond (bytes_eq (codes "received") w) (Some (record_.Received, ts))
    (cond (bytes_eq (codes "passed") w) (Some (record_.Passed, ts))
    (cond (bytes_eq (codes "pending") w) (Some (record_.Pending, ts))
    (cond (bytes_eq (codes "answer") w) (answer_in ts)
    (cond (bytes_eq (codes "error") w) (error_in (failed t) ts)
    (cond (bytes_eq (codes "confirmed") w) (confirmed_in ts)
    (cond (bytes_eq (codes "returned") w) (Some (record_.Returned [], []))
    (cond (bytes_eq (codes "aside") w) (Some (record_.Aside, ts))
    (cond (bytes_eq (codes "state") w) (states_in ts)
    (cond (bytes_eq (codes "lost") w) (Some (record_.Lost, ts)) None))))))))))))))

-- the record is read from its line again, but for its messages; it has a first piece, and no piece has a space
record IsRead (t : Bool) (r : Record) : Type 0 where
  pub again : record_in t (record_tokens r) ≡ Some (without_message r, [])
  pub plain : AllPlain (record_tokens r)
  pub some : 0 < length (record_tokens r)

-- it is read again whole
abbrev IsReadWhole : Record → Type 0
IsReadWhole r = IsRead true r × (without_message r ≡ r)

refused_read : (t : Bool) (e : Error) → ErrorFits e → IsRead t (record_.Refused e)
refused_read t e h = record { again = error_again record_.Refused e h; plain = (refl, plain_error e h); some = omega arith }

call_read : (r : Record) → OfCall r → IsReadWhole r
call_read (record_.Ticket n) h = (record { again = fields_again (wide_number ∷ []) (λ v. record_.Ticket v.0) (n, tt) [] (h, tt); plain = (refl, (plain_token wide_number n h, tt)); some = omega arith }, refl)
call_read (record_.Publish t n) h = (record { again = fields_again (wide_number ∷ wide_number ∷ []) (λ v. record_.Publish v.0 v.1.0) (t, (n, tt)) [] (h.0, (h.1, tt)); plain = (refl, (plain_token wide_number t h.0, (plain_token wide_number n h.1, tt))); some = omega arith }, refl)
call_read (record_.Refused e) h = (refused_read true e h, refl)
call_read _ h = absurd h

frame_read : (f : Frame) → FrameFits f → record_in true (record_tokens (record_.Frame f)) ≡ Some (record_.Frame f, [])
frame_read f h =
    let back : frame_at (frame_tokens f ++ []) ≡ Some (f, []) = frame_again f [] h in
    let bare : frame_at (frame_tokens f) ≡ Some (f, []) = ap frame_at (sym (append-nil (frame_tokens f))) ∙ back in
    ap (λ o. o >>= λ x. Some (record_.Frame x.0, x.1)) bare

next_read : (r : Record) → OfNext r → IsReadWhole r
next_read (record_.Frame f) h = (record { again = frame_read f h; plain = (refl, (plain_event (event.Receive f) h).1); some = omega arith }, refl)
next_read record_.NoFrame h = (record { again = refl; plain = (refl, tt); some = omega arith }, refl)
next_read _ h = absurd h

receive_read : (r : Record) → OfReceive r → IsReadWhole r
receive_read record_.Received h = (record { again = refl; plain = (refl, tt); some = omega arith }, refl)
receive_read record_.Passed h = (record { again = refl; plain = (refl, tt); some = omega arith }, refl)
receive_read (record_.Refused e) h = (refused_read true e h, refl)
receive_read _ h = absurd h

ticket_read : (r : Record) → OfTicket true r → IsReadWhole r
ticket_read record_.Pending h = (record { again = refl; plain = (refl, tt); some = omega arith }, refl)
ticket_read (record_.Answer (Ok answer.Done)) h = (record { again = refl; plain = (refl, (refl, tt)); some = omega arith }, refl)
ticket_read (record_.Answer (Ok (answer.Channel c))) h = (record { again = fields_again (short_number ∷ []) (λ v. record_.Answer (Ok (answer.Channel v.0))) (c, tt) [] (h, tt); plain = (refl, (refl, (plain_token short_number c h, tt))); some = omega arith }, refl)
ticket_read (record_.Answer (Ok (answer.Confirm n))) h = (record { again = fields_again (wide_number ∷ []) (λ v. record_.Answer (Ok (answer.Confirm v.0))) (n, tt) [] (h, tt); plain = (refl, (refl, (plain_token wide_number n h, tt))); some = omega arith }, refl)
ticket_read (record_.Answer (Err e)) h = (record { again = error_again (failed true) e h; plain = (refl, plain_error e h); some = omega arith }, refl)
ticket_read (record_.Refused e) h = (refused_read true e h, refl)
ticket_read _ h = absurd h

confirm_read : (r : Record) → OfConfirm r → IsRead false r
confirm_read record_.Pending h = record { again = refl; plain = (refl, tt); some = omega arith }
confirm_read (record_.Confirmed (Ok (confirmation.Ack m))) h = record { again = refl; plain = (refl, (refl, plain_held m h)); some = omega arith }
confirm_read (record_.Confirmed (Ok (confirmation.Nack m))) h = record { again = refl; plain = (refl, (refl, plain_held m h)); some = omega arith }
confirm_read (record_.Confirmed (Ok confirmation.NotRequested)) h = record { again = refl; plain = (refl, (refl, tt)); some = omega arith }
confirm_read (record_.Confirmed (Err e)) h = record { again = error_again (failed false) e h; plain = (refl, plain_error e h); some = omega arith }
confirm_read (record_.Refused e) h = refused_read false e h
confirm_read _ h = absurd h

wait_read : (r : Record) → OfWait r → IsRead false r
wait_read record_.Pending h = record { again = refl; plain = (refl, tt); some = omega arith }
wait_read (record_.Returned ms) h = record { again = refl; plain = (refl, (plain_token wide_number (length ms) h.0, plain_messages ms h.1)); some = omega arith }
wait_read _ h = absurd h

aside_read : (r : Record) → OfAside r → IsReadWhole r
aside_read record_.Aside h = (record { again = refl; plain = (refl, tt); some = omega arith }, refl)
aside_read (record_.Refused e) h = (refused_read true e h, refl)
aside_read _ h = absurd h

state_read : (r : Record) → OfState r → IsReadWhole r
state_read (record_.State connection_state.Open s) h = (record { again = state_again (record_.State connection_state.Open) s; plain = (refl, (refl, plain_state s)); some = omega arith }, refl)
state_read (record_.State connection_state.Closing s) h = (record { again = state_again (record_.State connection_state.Closing) s; plain = (refl, (refl, plain_state s)); some = omega arith }, refl)
state_read (record_.State connection_state.Closed s) h = (record { again = state_again (record_.State connection_state.Closed) s; plain = (refl, (refl, plain_state s)); some = omega arith }, refl)
state_read (record_.State connection_state.Lost s) h = (record { again = state_again (record_.State connection_state.Lost) s; plain = (refl, (refl, plain_state s)); some = omega arith }, refl)
state_read _ h = absurd h

lost_read : (r : Record) → OfLost r → IsReadWhole r
lost_read record_.Lost h = (record { again = refl; plain = (refl, tt); some = omega arith }, refl)
lost_read _ h = absurd h

-- ---- two records with one line

pieces_of : (t : Bool) (r : Record) → IsRead t r → slice_split (λ b. eqb b 32) (record_line r) ≡ record_tokens r
pieces_of t r h = split_join (record_tokens r) h.some h.plain

-- the record that was read, where one was
abbrev first_of : Found Record → Record
first_of None = record_.NoFrame
first_of (Some x) = x.0

same_kept : (t : Bool) (r s : Record) → IsRead t r → IsRead t s → record_line r ≡ record_line s → without_message r ≡ without_message s
same_kept t r s a b e =
    let pieces : record_tokens r ≡ record_tokens s = sym (pieces_of t r a) ∙ ap (slice_split (λ c. eqb c 32)) e ∙ pieces_of t s b in
    ap first_of (sym a.again ∙ ap (record_in t) pieces ∙ b.again)

same_whole : (r s : Record) → IsReadWhole r → IsReadWhole s → record_line r ≡ record_line s → r ≡ s
same_whole r s a b e = sym a.1 ∙ same_kept true r s a.0 b.0 e ∙ b.1

of_ticket : (k : Bool) (r s : Record) → OfTicket k r → OfTicket k s → record_line r ≡ record_line s → cond k (Some r) None ≡ cond k (Some s) None
of_ticket true r s a b e = ap Some (same_whole r s (ticket_read r a) (ticket_read s b) e)
of_ticket false r s a b e = refl

of_aside : (k : Bool) (r s : Record) → OfKnownAside k r → OfKnownAside k s → record_line r ≡ record_line s → cond k (Some r) None ≡ cond k (Some s) None
of_aside true r s a b e = ap Some (same_whole r s (aside_read r a) (aside_read s b) e)
of_aside false r s a b e = refl

pub line_fixes : (h : History) (e : Event) (r s : Record) → MayTell h e r → MayTell h e s → record_line r ≡ record_line s → kept h e r ≡ kept h e s
line_fixes h (event.Call c k) r s a b e = ap Some (same_whole r s (call_read r a) (call_read s b) e)
line_fixes h (event.Next flow) r s a b e = ap Some (same_whole r s (next_read r a) (next_read s b) e)
line_fixes h (event.Receive f) r s a b e = ap Some (same_whole r s (receive_read r a) (receive_read s b) e)
line_fixes h (event.PollTicket n) r s a b e = of_ticket (is_known_in (given_by n h)) r s a b e
line_fixes h (event.PollConfirm n) r s a b e = ap Some (same_kept false r s (confirm_read r a) (confirm_read s b) e)
line_fixes h (event.PollWait c) r s a b e = ap Some (same_kept false r s (wait_read r a) (wait_read s b) e)
line_fixes h (event.AsideTicket n) r s a b e = of_aside (is_known_in (given_by n h)) r s a b e
line_fixes h (event.AsideConfirm n) r s a b e = ap Some (same_whole r s (aside_read r a) (aside_read s b) e)
line_fixes h (event.State c) r s a b e = ap Some (same_whole r s (state_read r a) (state_read s b) e)
line_fixes h event.Lost r s a b e = ap Some (same_whole r s (lost_read r a) (lost_read s b) e)
line_fixes h _ r s a b e = refl
