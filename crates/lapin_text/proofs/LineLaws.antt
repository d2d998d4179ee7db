-- Frames, events and lines: what was written is read, and what was read is spelled so.
use Rattle.std.proofs.Common.{◌≡◌, ℕ, ◌<◌, ◌^◌, List, [], ◌∷◌, ◌++◌, length, Option, Some, None, Bool, true, refl, sym, ap, subst, ◌∙◌, eqb, ltb, arith}
use Rattle.std.specs.Prelude.{codes, decimal, ◌&&◌}
use Rattle.std.proofs.lemmas.Bool.{lt-ltb, and_from}
use Rattle.std.specs.Str.{bytes_eq}
use Rattle.std.specs.List.{join_with_byte, slice_split}
use Rattle.std.proofs.lemmas.List.{append-nil}
use Rattle.std.proofs.lemmas.List.Splits.{join_with_byte-slice_split}
use Rattle.std.proofs.lemmas.Slice.Eq.{bytes_eq-Decides}
use Rattle.lapin_types.specs.Types.{Frame}
use Rattle.lapin_types.specs.Types.frame
use Rattle.lapin_types.specs.Types.method
use Rattle.lapin_types.specs.Types.basic
use Rattle.lapin_types.specs.declared.event.Event.{Event}
use Rattle.lapin_types.specs.declared.event.Event.TheVariants as event
use Rattle.lapin_types.specs.declared.acker_call.AckerCall.{AckerCall}
use Rattle.lapin_types.specs.declared.acker_call.AckerCall.TheVariants as acker_call
use Rattle.lapin_text.specs.declared.words.TheConstants.{WORDS}
use Rattle.lapin_text.specs.declared.words.Word.{Word}
use Rattle.lapin_text.specs.declared.words.Word.TheVariants as word
use Rattle.lapin_tokens.specs.Fields.{Field, Value, Values, token, fits, short_number, wide_number}
use Rattle.lapin_tokens.specs.Fields.Field.{flag}
use Rattle.lapin_tokens.specs.Reading.{◌>>=◌, field_at, fields_at}
use Rattle.lapin_tokens.proofs.FieldLaws.{bind_some, some_is, field_again, field_found, fields_again, fields_found, find_found}
use Rattle.lapin_tokens.proofs.Plain.{AllPlain, split_join}
use Rattle.lapin_tokens.proofs.PlainFields.{plain_token, plain_tokens}
use Rattle.lapin_method_text.specs.Methods.{method_tokens}
use Rattle.lapin_method_text.specs.MethodReading.{method_at}
use Rattle.lapin_method_text.proofs.MethodLaws.{plain_method, method_again, method_found}
use Rattle.lapin_text.specs.Frames.{header_fields, body_fields, frame_tokens, FrameFits, frame_text}
use Rattle.lapin_text.specs.CallText.{call_tokens, call_at}
use Rattle.lapin_text.specs.Events.{acker_call_tokens, event_tokens, HasLine, line_of}
use Rattle.lapin_text.proofs.CallLaws.{call_again, call_found, plain_call}
use Rattle.lapin_text.specs.LineReading.{word_at, word_text, frame_of_word, frame_at, acker_call_of_word, acker_call_at, event_of_word, event_at, whole, frame_text_at, line_at}

-- ---- words

word_found : (piece : List ℕ) (w : Word) → word_at piece ≡ Some w → piece ≡ word_text w
unfolding word_at
word_found piece w e = sym ((bytes_eq-Decides (word_text w) piece).0 (find_found (λ v. bytes_eq (word_text v) piece) WORDS w e))

word_again : (w : Word) → word_at (word_text w) ≡ Some w
unfolding word_at
word_again word.Method = refl
word_again _ = refl

-- pieces that begin with a word are what the word and the pieces behind it make
pub event_said : (w : Word) (pieces rest : List (List ℕ)) → pieces ≡ word_text w ∷ rest → event_at pieces ≡ event_of_word w rest
unfolding event_at
event_said w pieces rest is = rw is (rw (word_again w) refl)

pub frame_said : (w : Word) (pieces rest : List (List ℕ)) → pieces ≡ word_text w ∷ rest → frame_at pieces ≡ frame_of_word w rest
unfolding frame_at
frame_said w pieces rest is = rw is (rw (word_again w) refl)

-- ---- frames

abbrev header_made : Values header_fields → Frame
header_made v = frame.Header v.0 (record { class_id = v.1.0; body_size = v.1.1.0; properties = v.1.1.1.0 })

abbrev body_made : Values body_fields → Frame
body_made v = frame.Body v.0 v.1.0

pub frame_again : (f : Frame) (rest : List (List ℕ)) → FrameFits f → frame_at (frame_tokens f ++ rest) ≡ Some (f, rest)
unfolding frame_at
frame_again (frame.Method c m) rest h = rw (word_again word.Method, field_again short_number c (method_tokens m ++ rest) h.0, method_again m rest h.1) refl
frame_again (frame.Header c header) rest h = rw (word_again word.Header) (fields_again header_fields header_made (c, (header.class_id, (header.body_size, (header.properties, tt)))) rest h)
frame_again (frame.Body c bytes) rest h = rw (word_again word.Body) (fields_again body_fields body_made (c, (bytes, tt)) rest h)

-- pieces that acknowledge a tag are the frame of that
pub acked_said : (channel tag : ℕ) (multiple : Bool) (pieces more after rest : List (List ℕ)) → pieces ≡ decimal channel ∷ more → more ≡ codes "basic.ack" ∷ decimal tag ∷ after → after ≡ token flag multiple ∷ rest → channel < 2 ^ 16 → tag < 2 ^ 64 → frame_of_word word.Method pieces ≡ Some (frame.Method channel (method.Basic (basic.Ack tag multiple)), rest)
acked_said channel tag multiple pieces more after rest one two three short wide =
    let fit_channel : (ltb channel (2 ^ 16) && ltb channel (2 ^ 64)) ≡ true = and_from (ltb channel (2 ^ 16)) (ltb channel (2 ^ 64)) (lt-ltb _ _ short) (lt-ltb _ _ (omega arith)) in
    let fit_tag : (ltb tag (2 ^ 64) && ltb tag (2 ^ 64)) ≡ true = and_from (ltb tag (2 ^ 64)) (ltb tag (2 ^ 64)) (lt-ltb _ _ wide) (lt-ltb _ _ wide) in
    let is : pieces ≡ token short_number channel ∷ (method_tokens (method.Basic (basic.Ack tag multiple)) ++ rest) = one ∙ ap (λ (ps : List (List ℕ)). decimal channel ∷ ps) (two ∙ ap (λ (ps : List (List ℕ)). codes "basic.ack" ∷ decimal tag ∷ ps) three) in
    rw (is, field_again short_number channel (method_tokens (method.Basic (basic.Ack tag multiple)) ++ rest) fit_channel, method_again (method.Basic (basic.Ack tag multiple)) rest (fit_tag, (refl, tt))) refl

-- the pieces are the tokens of a frame that has a text, and others
abbrev IsFrame : List (List ℕ) → Frame × List (List ℕ) → Type 0
IsFrame pieces x = (pieces ≡ frame_tokens x.0 ++ x.1) × FrameFits x.0

of_word_found : (w : Word) (rest : List (List ℕ)) (x : Frame × List (List ℕ)) → frame_of_word w rest ≡ Some x → IsFrame (word_text w ∷ rest) x
of_word_found word.Method rest x e =
    let a = bind_some (field_at short_number rest) (λ c. method_at c.1 >>= λ m. Some (frame.Method c.0 m.0, m.1)) x e in
    let b = bind_some (method_at a.0.1) (λ m. Some (frame.Method a.0.0 m.0, m.1)) x a.2 in
    let f = field_found short_number rest a.0 a.1 in
    let m = method_found a.0.1 b.0 b.1 in
    subst (λ (y : Frame × List (List ℕ)). IsFrame (word_text word.Method ∷ rest) y) (some_is (frame.Method a.0.0 b.0.0, b.0.1) x b.2)
    (ap (λ (t : List (List ℕ)). word_text word.Method ∷ t) (f.0 ∙ ap (λ (t : List (List ℕ)). token short_number a.0.0 ∷ t) m.0), (f.1, m.1))
of_word_found word.Header rest x e =
    let r = fields_found header_fields header_made rest x e in
    subst (λ (f : Frame). IsFrame (word_text word.Header ∷ rest) (f, x.1)) (sym r.is) (ap (λ (t : List (List ℕ)). word_text word.Header ∷ t) r.spelled, r.fit)
of_word_found word.Body rest x e =
    let r = fields_found body_fields body_made rest x e in
    subst (λ (f : Frame). IsFrame (word_text word.Body ∷ rest) (f, x.1)) (sym r.is) (ap (λ (t : List (List ℕ)). word_text word.Body ∷ t) r.spelled, r.fit)
of_word_found _ rest x e = absurd cc

pub frame_found : (pieces : List (List ℕ)) (x : Frame × List (List ℕ)) → frame_at pieces ≡ Some x → IsFrame pieces x
unfolding frame_at
frame_found [] x e = absurd cc
frame_found (piece ∷ rest) x e =
    let a = bind_some (word_at piece) (λ w. frame_of_word w rest) x e in
    let f = of_word_found a.0 rest x a.2 in
    (ap (λ (p : List ℕ). p ∷ rest) (word_found piece a.0 a.1) ∙ f.0, f.1)

-- ---- calls of an acker

abbrev ack_made : Values (flag ∷ []) → AckerCall
ack_made v = acker_call.Ack (record { multiple = v.0 })

abbrev nack_made : Values (flag ∷ flag ∷ []) → AckerCall
nack_made v = acker_call.Nack (record { multiple = v.0; requeue = v.1.0 })

abbrev reject_made : Values (flag ∷ []) → AckerCall
reject_made v = acker_call.Reject (record { requeue = v.0 })

acker_call_again : (c : AckerCall) (rest : List (List ℕ)) → acker_call_at (acker_call_tokens c ++ rest) ≡ Some (c, rest)
unfolding acker_call_at
acker_call_again (acker_call.Ack options) rest = rw (word_again word.Ack) (fields_again (flag ∷ []) ack_made (options.multiple, tt) rest (refl, tt))
acker_call_again (acker_call.Nack options) rest = rw (word_again word.Nack) (fields_again (flag ∷ flag ∷ []) nack_made (options.multiple, (options.requeue, tt)) rest (refl, (refl, tt)))
acker_call_again (acker_call.Reject options) rest = rw (word_again word.Reject) (fields_again (flag ∷ []) reject_made (options.requeue, tt) rest (refl, tt))

-- the pieces are the tokens of an acker's call, and others
abbrev IsAckerCall : List (List ℕ) → AckerCall × List (List ℕ) → Type 0
IsAckerCall pieces x = pieces ≡ acker_call_tokens x.0 ++ x.1

acker_call_of_word_found : (w : Word) (rest : List (List ℕ)) (x : AckerCall × List (List ℕ)) → acker_call_of_word w rest ≡ Some x → IsAckerCall (word_text w ∷ rest) x
acker_call_of_word_found word.Ack rest x e =
    let r = fields_found (flag ∷ []) ack_made rest x e in
    subst (λ (c : AckerCall). IsAckerCall (word_text word.Ack ∷ rest) (c, x.1)) (sym r.is) (ap (λ (t : List (List ℕ)). word_text word.Ack ∷ t) r.spelled)
acker_call_of_word_found word.Nack rest x e =
    let r = fields_found (flag ∷ flag ∷ []) nack_made rest x e in
    subst (λ (c : AckerCall). IsAckerCall (word_text word.Nack ∷ rest) (c, x.1)) (sym r.is) (ap (λ (t : List (List ℕ)). word_text word.Nack ∷ t) r.spelled)
acker_call_of_word_found word.Reject rest x e =
    let r = fields_found (flag ∷ []) reject_made rest x e in
    subst (λ (c : AckerCall). IsAckerCall (word_text word.Reject ∷ rest) (c, x.1)) (sym r.is) (ap (λ (t : List (List ℕ)). word_text word.Reject ∷ t) r.spelled)
acker_call_of_word_found _ rest x e = absurd cc

acker_call_found : (pieces : List (List ℕ)) (x : AckerCall × List (List ℕ)) → acker_call_at pieces ≡ Some x → IsAckerCall pieces x
unfolding acker_call_at
acker_call_found [] x e = absurd cc
acker_call_found (piece ∷ rest) x e =
    let a = bind_some (word_at piece) (λ w. acker_call_of_word w rest) x e in
    ap (λ (p : List ℕ). p ∷ rest) (word_found piece a.0 a.1) ∙ acker_call_of_word_found a.0 rest x a.2

-- ---- events

pub event_again : (e : Event) (rest : List (List ℕ)) → HasLine e → event_at (event_tokens e ++ rest) ≡ Some (e, rest)
unfolding event_at
event_again (event.Call c made) rest h = rw (word_again word.Call, field_again short_number c (call_tokens made ++ rest) h.0, call_again made rest h.1) refl
event_again (event.Next flow) rest h = rw (word_again word.Next) (fields_again (flag ∷ []) (λ v. event.Next v.0) (flow, tt) rest (h, tt))
event_again (event.Receive f) rest h = rw (word_again word.Recv, frame_again f rest h) refl
event_again (event.PollTicket n) rest h = rw (word_again word.Ticket) (fields_again (wide_number ∷ []) (λ v. event.PollTicket v.0) (n, tt) rest (h, tt))
event_again (event.PollConfirm n) rest h = rw (word_again word.Confirm) (fields_again (wide_number ∷ []) (λ v. event.PollConfirm v.0) (n, tt) rest (h, tt))
event_again (event.PollConsumer n) rest h = rw (word_again word.Consumer) (fields_again (wide_number ∷ []) (λ v. event.PollConsumer v.0) (n, tt) rest (h, tt))
event_again (event.PollWait c) rest h = rw (word_again word.Wait) (fields_again (short_number ∷ []) (λ v. event.PollWait v.0) (c, tt) rest (h, tt))
event_again (event.AsideTicket n) rest h = rw (word_again word.AsideTicket) (fields_again (wide_number ∷ []) (λ v. event.AsideTicket v.0) (n, tt) rest (h, tt))
event_again (event.AsideConfirm n) rest h = rw (word_again word.AsideConfirm) (fields_again (wide_number ∷ []) (λ v. event.AsideConfirm v.0) (n, tt) rest (h, tt))
event_again (event.Acker n made) rest h = rw (word_again word.Acker, field_again wide_number n (acker_call_tokens made ++ rest) h, acker_call_again made rest) refl
event_again (event.Delegate n) rest h = rw (word_again word.Delegate) (fields_again (wide_number ∷ []) (λ v. event.Delegate v.0) (n, tt) rest (h, tt))
event_again (event.DropConsumer n) rest h = rw (word_again word.Drop) (fields_again (wide_number ∷ []) (λ v. event.DropConsumer v.0) (n, tt) rest (h, tt))
event_again event.NextJob rest h = rw (word_again word.Job) refl
event_again (event.State c) rest h = rw (word_again word.State) (fields_again (short_number ∷ []) (λ v. event.State v.0) (c, tt) rest (h, tt))
event_again event.Lost rest h = rw (word_again word.Lost) refl

-- the pieces are the tokens of an event that has a line, and others
abbrev IsEvent : List (List ℕ) → Event × List (List ℕ) → Type 0
IsEvent pieces x = (pieces ≡ event_tokens x.0 ++ x.1) × HasLine x.0

-- the event of a word and one field
one_found : (w : Word) (f : Field) (made : Value f → Event) (rest : List (List ℕ)) (x : Event × List (List ℕ)) → ((v : Value f) → event_tokens (made v) ≡ word_text w ∷ token f v ∷ []) → ((v : Value f) → fits f v ≡ true → HasLine (made v)) → fields_at (f ∷ []) (λ v. made v.0) rest ≡ Some x → IsEvent (word_text w ∷ rest) x
one_found w f made rest x spelled fit e =
    let r = fields_found (f ∷ []) (λ v. made v.0) rest x e in
    subst (λ (y : Event). IsEvent (word_text w ∷ rest) (y, x.1)) (sym r.is) (ap (λ (t : List (List ℕ)). word_text w ∷ t) r.spelled ∙ ap (λ (t : List (List ℕ)). t ++ x.1) (sym (spelled r.vs.0)), fit r.vs.0 r.fit.0)

event_of_word_found : (w : Word) (rest : List (List ℕ)) (x : Event × List (List ℕ)) → event_of_word w rest ≡ Some x → IsEvent (word_text w ∷ rest) x
event_of_word_found word.Call rest x e =
    let a = bind_some (field_at short_number rest) (λ c. call_at c.1 >>= λ m. Some (event.Call c.0 m.0, m.1)) x e in
    let b = bind_some (call_at a.0.1) (λ m. Some (event.Call a.0.0 m.0, m.1)) x a.2 in
    let f = field_found short_number rest a.0 a.1 in
    let m = call_found a.0.1 b.0 b.1 in
    subst (λ (y : Event × List (List ℕ)). IsEvent (word_text word.Call ∷ rest) y) (some_is (event.Call a.0.0 b.0.0, b.0.1) x b.2)
    (ap (λ (t : List (List ℕ)). word_text word.Call ∷ t) (f.0 ∙ ap (λ (t : List (List ℕ)). token short_number a.0.0 ∷ t) m.0), (f.1, m.1))
event_of_word_found word.Next rest x e = one_found word.Next flag event.Next rest x (λ v. refl) (λ v h. h) e
event_of_word_found word.Recv rest x e =
    let a = bind_some (frame_at rest) (λ f. Some (event.Receive f.0, f.1)) x e in
    let f = frame_found rest a.0 a.1 in
    subst (λ (y : Event × List (List ℕ)). IsEvent (word_text word.Recv ∷ rest) y) (some_is (event.Receive a.0.0, a.0.1) x a.2) (ap (λ (t : List (List ℕ)). word_text word.Recv ∷ t) f.0, f.1)
event_of_word_found word.Ticket rest x e = one_found word.Ticket wide_number event.PollTicket rest x (λ v. refl) (λ v h. h) e
event_of_word_found word.Confirm rest x e = one_found word.Confirm wide_number event.PollConfirm rest x (λ v. refl) (λ v h. h) e
event_of_word_found word.Consumer rest x e = one_found word.Consumer wide_number event.PollConsumer rest x (λ v. refl) (λ v h. h) e
event_of_word_found word.Wait rest x e = one_found word.Wait short_number event.PollWait rest x (λ v. refl) (λ v h. h) e
event_of_word_found word.AsideTicket rest x e = one_found word.AsideTicket wide_number event.AsideTicket rest x (λ v. refl) (λ v h. h) e
event_of_word_found word.AsideConfirm rest x e = one_found word.AsideConfirm wide_number event.AsideConfirm rest x (λ v. refl) (λ v h. h) e
event_of_word_found word.Acker rest x e =
    let a = bind_some (field_at wide_number rest) (λ n. acker_call_at n.1 >>= λ m. Some (event.Acker n.0 m.0, m.1)) x e in
    let b = bind_some (acker_call_at a.0.1) (λ m. Some (event.Acker a.0.0 m.0, m.1)) x a.2 in
    let f = field_found wide_number rest a.0 a.1 in
    subst (λ (y : Event × List (List ℕ)). IsEvent (word_text word.Acker ∷ rest) y) (some_is (event.Acker a.0.0 b.0.0, b.0.1) x b.2)
    (ap (λ (t : List (List ℕ)). word_text word.Acker ∷ t) (f.0 ∙ ap (λ (t : List (List ℕ)). token wide_number a.0.0 ∷ t) (acker_call_found a.0.1 b.0 b.1)), f.1)
event_of_word_found word.Delegate rest x e = one_found word.Delegate wide_number event.Delegate rest x (λ v. refl) (λ v h. h) e
event_of_word_found word.Drop rest x e = one_found word.Drop wide_number event.DropConsumer rest x (λ v. refl) (λ v h. h) e
event_of_word_found word.Job rest x e =
    subst (λ (y : Event × List (List ℕ)). IsEvent (word_text word.Job ∷ rest) y) (some_is (event.NextJob, rest) x e) (refl, tt)
event_of_word_found word.State rest x e = one_found word.State short_number event.State rest x (λ v. refl) (λ v h. h) e
event_of_word_found word.Lost rest x e =
    subst (λ (y : Event × List (List ℕ)). IsEvent (word_text word.Lost ∷ rest) y) (some_is (event.Lost, rest) x e) (refl, tt)
event_of_word_found _ rest x e = absurd cc

pub event_found : (pieces : List (List ℕ)) (x : Event × List (List ℕ)) → event_at pieces ≡ Some x → IsEvent pieces x
unfolding event_at
event_found [] x e = absurd cc
event_found (piece ∷ rest) x e =
    let a = bind_some (word_at piece) (λ w. event_of_word w rest) x e in
    let f = event_of_word_found a.0 rest x a.2 in
    (ap (λ (p : List ℕ). p ∷ rest) (word_found piece a.0 a.1) ∙ f.0, f.1)

-- ---- no token has a space

plain_frame : (f : Frame) → FrameFits f → AllPlain (frame_tokens f)
plain_frame (frame.Method c m) h = (refl, (plain_token short_number c h.0, plain_method m h.1))
plain_frame (frame.Header c header) h = (refl, plain_tokens header_fields (c, (header.class_id, (header.body_size, (header.properties, tt)))) h)
plain_frame (frame.Body c bytes) h = (refl, plain_tokens body_fields (c, (bytes, tt)) h)

plain_acker_call : (c : AckerCall) → AllPlain (acker_call_tokens c)
plain_acker_call (acker_call.Ack options) = (refl, plain_tokens (flag ∷ []) (options.multiple, tt) (refl, tt))
plain_acker_call (acker_call.Nack options) = (refl, plain_tokens (flag ∷ flag ∷ []) (options.multiple, (options.requeue, tt)) (refl, (refl, tt)))
plain_acker_call (acker_call.Reject options) = (refl, plain_tokens (flag ∷ []) (options.requeue, tt) (refl, tt))

pub plain_event : (e : Event) → HasLine e → AllPlain (event_tokens e)
plain_event (event.Call c made) h = (refl, (plain_token short_number c h.0, plain_call made h.1))
plain_event (event.Next flow) h = (refl, (plain_token flag flow h, tt))
plain_event (event.Receive f) h = (refl, plain_frame f h)
plain_event (event.PollTicket n) h = (refl, (plain_token wide_number n h, tt))
plain_event (event.PollConfirm n) h = (refl, (plain_token wide_number n h, tt))
plain_event (event.PollConsumer n) h = (refl, (plain_token wide_number n h, tt))
plain_event (event.PollWait c) h = (refl, (plain_token short_number c h, tt))
plain_event (event.AsideTicket n) h = (refl, (plain_token wide_number n h, tt))
plain_event (event.AsideConfirm n) h = (refl, (plain_token wide_number n h, tt))
plain_event (event.Acker n made) h = (refl, (plain_token wide_number n h, plain_acker_call made))
plain_event (event.Delegate n) h = (refl, (plain_token wide_number n h, tt))
plain_event (event.DropConsumer n) h = (refl, (plain_token wide_number n h, tt))
plain_event event.NextJob h = (refl, tt)
plain_event (event.State c) h = (refl, (plain_token short_number c h, tt))
plain_event event.Lost h = (refl, tt)

pub some_frame_tokens : (f : Frame) → 0 < length (frame_tokens f)
some_frame_tokens (frame.Method c m) = omega arith
some_frame_tokens _ = omega arith

pub some_tokens : (e : Event) → 0 < length (event_tokens e)
some_tokens event.Lost = omega arith
some_tokens _ = omega arith

-- ---- whole texts

pub whole_found : {A : Type 0} (r : Option (A × List (List ℕ))) (e : A) → whole r ≡ Some e → r ≡ Some (e, [])
whole_found None e h = absurd cc
whole_found {A = A} (Some (x, [])) e h = ap (λ (y : A). Some (y, [])) (some_is x e h)
whole_found (Some (x, t ∷ ts)) e h = absurd cc

text_again : (f : Frame) → FrameFits f → frame_text_at (frame_text f) ≡ Some f
unfolding frame_text_at
text_again f h =
    let pieces : slice_split (λ b. eqb b 32) (frame_text f) ≡ frame_tokens f ++ [] = split_join (frame_tokens f) (some_frame_tokens f) (plain_frame f h) ∙ sym (append-nil (frame_tokens f)) in
    rw (pieces, frame_again f [] h) refl

pub line_again : (e : Event) → HasLine e → line_at (line_of e) ≡ Some e
unfolding line_at
line_again e h =
    let pieces : slice_split (λ b. eqb b 32) (line_of e) ≡ event_tokens e ++ [] = split_join (event_tokens e) (some_tokens e) (plain_event e h) ∙ sym (append-nil (event_tokens e)) in
    rw (pieces, event_again e [] h) refl

pub text_found : (piece : List ℕ) (f : Frame) → frame_text_at piece ≡ Some f → (piece ≡ frame_text f) × FrameFits f
unfolding frame_text_at
text_found piece f h =
    let r = frame_found (slice_split (λ b. eqb b 32) piece) (f, []) (whole_found (frame_at (slice_split (λ b. eqb b 32) piece)) f h) in
    (sym (join_with_byte-slice_split 32 piece) ∙ ap (join_with_byte 32) (r.0 ∙ append-nil (frame_tokens f)), r.1)

pub line_found : (line : List ℕ) (e : Event) → line_at line ≡ Some e → (line ≡ line_of e) × HasLine e
unfolding line_at
line_found line e h =
    let f = event_found (slice_split (λ b. eqb b 32) line) (e, []) (whole_found (event_at (slice_split (λ b. eqb b 32) line)) e h) in
    (sym (join_with_byte-slice_split 32 line) ∙ ap (join_with_byte 32) (f.0 ∙ append-nil (event_tokens e)), f.1)

pub text_refused : (piece : List ℕ) (f : Frame) → FrameFits f → piece ≡ frame_text f → frame_text_at piece ≡ None → ⊥
text_refused piece f fit is none = let again = ap frame_text_at is ∙ text_again f fit in cc

pub refused : (line : List ℕ) (e : Event) → HasLine e → line ≡ line_of e → line_at line ≡ None → ⊥
refused line e fit is none = let again = ap line_at is ∙ line_again e fit in cc

-- no two frames have one text
pub same_text : (a b : Frame) → FrameFits a → FrameFits b → frame_text a ≡ frame_text b → a ≡ b
same_text a b fa fb e = let same = sym (text_again a fa) ∙ ap frame_text_at e ∙ text_again b fb in cc

-- no two events have one line
pub same_line : (a b : Event) → HasLine a → HasLine b → line_of a ≡ line_of b → a ≡ b
same_line a b fa fb e = let same = sym (line_again a fa) ∙ ap line_at e ∙ line_again b fb in cc
