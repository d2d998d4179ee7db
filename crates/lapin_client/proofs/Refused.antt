-- What an error of the session leaves, and what it is told as.
use Rattle.std.proofs.Common.{◌≡◌, ◌≤◌, ℕ, ◌+◌, true, false, List, Option, Some, None, Result, Ok, Err, inl, inr, refl, sym, ap, ◌∙◌, subst, arith}
use Rattle.lapin_client.specs.declared.message.Message.{Message}
use Rattle.lapin_client.specs.declared.client.Client.{Client}
use Rattle.lapin_client.specs.declared.replies.Fields.{Fields}
use Rattle.lapin_client.specs.declared.status.Status.{Status}
use Rattle.lapin_client.specs.declared.status.Status.TheVariants as status
use Rattle.lapin_client.specs.Answers.{Shown}
use Rattle.lapin_client.specs.Asking.{Called, CalledBy, CalledOf, IsUndone, Limited, NotMet, call_or_close, called_in, frame_length, limiting}
use Rattle.lapin_client.specs.Calls.{IsSendable, NoText, OutcomeShown, PublishedBy, publishing, Published, Settled, Forgotten, forget_fault}
use Rattle.lapin_client.specs.Clients.{SameBytes, SameTold}
use Rattle.lapin_client.specs.Counts.{PollCounts, SettleCounts, ShowCounts}
use Rattle.lapin_client.specs.Refusals.{IsTold, Keeps, is_refusal}
use Rattle.lapin_client.specs.Replies.{Delivered, IsAnswered, Replied}
use Rattle.lapin_fields.specs.Reading.{◌>>=◌}
use Rattle.lapin_frames.specs.Carried.{carrying}
use Rattle.lapin_frames.specs.FrameReading.{whole}
use Rattle.lapin_frames.specs.MethodReading.{method_at}
use Rattle.lapin_machine.specs.declared.channel.Ticket.{Ticket}
use Rattle.lapin_machine.specs.Numbers.{AckCause, AckUsedUp, CallCause, HasNumbers}
use Rattle.lapin_machine.specs.Told.{IsRefusal}
use Rattle.lapin_machine.specs.World.{next, told_by}
use Rattle.lapin_rules.specs.Ackers.{usable_at}
use Rattle.lapin_rules.specs.Wire.{Wire}
use Rattle.lapin_types.specs.declared.answer.Answer.{Answer}
use Rattle.lapin_types.specs.declared.message.BasicGetMessage.{BasicGetMessage}
use Rattle.lapin_methods.specs.declared.options.BasicPublishOptions.{BasicPublishOptions}
use Rattle.lapin_types.specs.Types.{Error, Method}
use Rattle.lapin_types.specs.declared.answer.Answer.TheVariants as answer
use Rattle.lapin_types.specs.Types.error
use Rattle.lapin_types.specs.declared.acker_call.AckerCall.{AckerCall}
use Rattle.lapin_types.specs.declared.call.Call.{Call}
use Rattle.lapin_types.specs.declared.call.Call.TheVariants as call
use Rattle.lapin_types.specs.declared.event.Event.{Event}
use Rattle.lapin_types.specs.declared.event.Event.TheVariants as event
use Rattle.lapin_types.specs.declared.message.Delivery.{Delivery}
use Rattle.lapin_types.specs.declared.outcome.Outcome.{Outcome}
use Rattle.lapin_types.specs.declared.outcome.Outcome.TheVariants as outcome
use Rattle.lapin_types.specs.declared.record.Record.{Record}
use Rattle.lapin_types.specs.declared.record.Record.TheVariants as record_
use Rattle.lapin_values.specs.Properties.{Properties}

pub refused_record : (e : Error) (r : Record) → is_refusal e ≡ true → IsRefusal e r → r ≡ record_.Refused e
refused_record error.NoMemory r is told = grind (is, arith)
refused_record error.NumbersUsedUp r is told = grind (is, arith)
refused_record (error.InvalidChannelState s) r is told = told
refused_record (error.ProtocolError x) r is told = told
refused_record error.ConnectionLost r is told = told
refused_record (error.UnexpectedFrame x y) r is told = told
refused_record (error.PreconditionFailed x y) r is told = told
refused_record error.AlreadyTaken r is told = told
refused_record error.UnknownTicket r is told = told
refused_record (error.ConfirmsOutstanding x) r is told = told

pub not_met : (T : Type 0) (s : Status) (e : Error) (channel : ℕ) (k : Call) (c d : Client) → IsRefusal e (told_by c.session (event.Call channel k)) → CallCause {T = T} (Err e) channel k c.session.wire → IsTold s e c d → NotMet s (event.Call channel k) c d
not_met T status.Done e channel k c d told cause t = absurd t
not_met T status.Refused e channel k c d told cause t = (e, refused_record e (told_by c.session (event.Call channel k)) t.0 told, t.1)
not_met T status.NotInGrammar e channel k c d told cause t = absurd t
not_met T status.NoMemory e channel k c d told cause t = t.1
not_met T status.Ended e channel k c d told cause t = (subst (λ (x : Error). CallCause {T = T} (Err x) channel k c.session.wire) t.0 cause, t.1)
not_met T status.Malformed e channel k c d told cause t = absurd t
not_met T status.TooLong e channel k c d told cause t = absurd t
not_met T status.Closed e channel k c d told cause t = absurd t
not_met T status.Pending e channel k c d told cause t = absurd t
not_met T status.Gone e channel k c d told cause t = absurd t
not_met T status.Kept e channel k c d told cause t = absurd t

-- what is told stays as the session changes
pub told_from : (s : Status) (e : Error) (c p d : Client) → SameTold c p → IsTold s e p d → IsTold s e c d
told_from status.Refused e c p d same t = (t.0, (t.1.0, (t.1.1.0 ∙ same.0, t.1.1.1 ∙ same.1)))
told_from status.NoMemory e c p d same t = (t.0, (t.1.0 ∙ same.0, t.1.1 ∙ same.1, t.1.2 ∙ same.2))
told_from status.Ended e c p d same t = (t.0, (t.1.0 ∙ same.0, t.1.1 ∙ same.1, t.1.2 ∙ same.2))
told_from status.Done e c p d same t = absurd t
told_from status.NotInGrammar e c p d same t = absurd t
told_from status.Malformed e c p d same t = absurd t
told_from status.TooLong e c p d same t = absurd t
told_from status.Closed e c p d same t = absurd t
told_from status.Pending e c p d same t = absurd t
told_from status.Gone e c p d same t = absurd t
told_from status.Kept e c p d same t = absurd t

pub outcome_from : (o : Outcome) (code : ℕ) (c p d : Client) → SameTold c p → OutcomeShown code o p d → OutcomeShown code o c d
outcome_from outcome.Ack code c p d same h = (h.0, (h.1.0 ∙ same.0, h.1.1 ∙ same.1, h.1.2 ∙ same.2))
outcome_from outcome.Nack code c p d same h = (h.0, (h.1.0 ∙ same.0, h.1.1 ∙ same.1, h.1.2 ∙ same.2))
outcome_from outcome.NotRequested code c p d same h = (h.0, (h.1.0 ∙ same.0, h.1.1 ∙ same.1, h.1.2 ∙ same.2))
outcome_from (outcome.Failed e) code c p d same h = (h.0, (h.1.0, (h.1.1.0 ∙ same.0, h.1.1.1 ∙ same.1)))

-- ---- calls by their octets

-- the call that octets are
called_by : (r : Result ℕ Status) (o : Option Call) (channel : ℕ) (octets : List ℕ) (c d : Client) → called_in octets ≡ o → frame_length octets ≤ c.frame_max → CalledOf r channel o c d → Called r channel octets c d
called_by (Ok t) (Some k) channel octets c d is fits h = (fits, (k, is, h))
called_by (Ok t) None channel octets c d is fits h = absurd h
called_by (Err status.Refused) (Some k) channel octets c d is fits h = (fits, (k, is, h))
called_by (Err status.Refused) None channel octets c d is fits h = absurd h
called_by (Err status.NotInGrammar) (Some k) channel octets c d is fits h = absurd h.0
called_by (Err status.NotInGrammar) None channel octets c d is fits h = ((fits, is), h)
called_by (Err status.NoMemory) (Some k) channel octets c d is fits h = (h.1, h.0, h.2)
called_by (Err status.NoMemory) None channel octets c d is fits h = absurd h
called_by (Err status.Ended) (Some k) channel octets c d is fits h = (inr (fits, k, is, h.0.0), (h.1, h.0.1, h.2))
called_by (Err status.Ended) None channel octets c d is fits h = absurd h
called_by (Err status.Done) (Some k) channel octets c d is fits h = absurd h.0
called_by (Err status.Done) None channel octets c d is fits h = absurd h
called_by (Err status.Malformed) (Some k) channel octets c d is fits h = absurd h.0
called_by (Err status.Malformed) None channel octets c d is fits h = absurd h
called_by (Err status.TooLong) (Some k) channel octets c d is fits h = absurd h.0
called_by (Err status.TooLong) None channel octets c d is fits h = absurd h
called_by (Err status.Closed) (Some k) channel octets c d is fits h = absurd h.0
called_by (Err status.Closed) None channel octets c d is fits h = absurd h
called_by (Err status.Pending) (Some k) channel octets c d is fits h = absurd h.0
called_by (Err status.Pending) None channel octets c d is fits h = absurd h
called_by (Err status.Gone) (Some k) channel octets c d is fits h = absurd h.0
called_by (Err status.Gone) None channel octets c d is fits h = absurd h
called_by (Err status.Kept) (Some k) channel octets c d is fits h = absurd h.0
called_by (Err status.Kept) None channel octets c d is fits h = absurd h

pub called_with : (r : Result ℕ Status) (m : Method) (channel : ℕ) (octets : List ℕ) (c d : Client) → whole (method_at octets) ≡ Some m → frame_length octets ≤ c.frame_max → CalledOf r channel (call_or_close m) c d → Called r channel octets c d
called_with r m channel octets c d is fits h = called_by r (call_or_close m) channel octets c d (ap (λ (o : Option Method). o >>= λ x. call_or_close x) is) fits h

-- octets that are no method
pub uncalled : (channel : ℕ) (octets : List ℕ) (c : Client) → whole (method_at octets) ≡ None → frame_length octets ≤ c.frame_max → Called (Err status.NotInGrammar) channel octets c c
uncalled channel octets c none fits = ((fits, ap (λ (o : Option Method). o >>= λ x. call_or_close x) none), (refl, (refl, refl, refl), (refl, refl, refl, refl, refl, refl)))

pub limited_by : (r : Result ℕ Status) (channel limit : ℕ) (c d : Client) → CalledBy r (limiting channel limit) c d → Limited r channel limit c d
limited_by (Ok t) channel limit c d h = h
limited_by (Err status.Ended) channel limit c d h = (inr h.0.0, (h.1, h.0.1, h.2))
limited_by (Err status.Done) channel limit c d h = absurd h.0
limited_by (Err status.Refused) channel limit c d h = h
limited_by (Err status.NotInGrammar) channel limit c d h = absurd h.0
limited_by (Err status.NoMemory) channel limit c d h = h
limited_by (Err status.Malformed) channel limit c d h = absurd h.0
limited_by (Err status.TooLong) channel limit c d h = absurd h.0
limited_by (Err status.Closed) channel limit c d h = absurd h.0
limited_by (Err status.Pending) channel limit c d h = absurd h.0
limited_by (Err status.Gone) channel limit c d h = absurd h.0
limited_by (Err status.Kept) channel limit c d h = absurd h.0

-- ---- a publish

published_of : (r : Result ℕ Status) (channel : ℕ) (exchange key : List ℕ) (options : BasicPublishOptions) (payload properties : List ℕ) (c d : Client) →
    IsSendable exchange key properties c.frame_max → PublishedBy r (publishing channel exchange key options payload properties) c d → Published r channel exchange key options payload properties c d
published_of (Ok n) channel exchange key options payload properties c d fits h = (fits, h)
published_of (Err status.Refused) channel exchange key options payload properties c d fits h = (fits, h)
published_of (Err status.NoMemory) channel exchange key options payload properties c d fits h = (h.1, h.0, h.2)
published_of (Err status.Ended) channel exchange key options payload properties c d fits h = (inr h.0.0, (h.1, h.0.1, h.2))
published_of (Err status.Done) channel exchange key options payload properties c d fits h = absurd h.0
published_of (Err status.NotInGrammar) channel exchange key options payload properties c d fits h = absurd h.0
published_of (Err status.Malformed) channel exchange key options payload properties c d fits h = absurd h.0
published_of (Err status.TooLong) channel exchange key options payload properties c d fits h = absurd h.0
published_of (Err status.Closed) channel exchange key options payload properties c d fits h = absurd h.0
published_of (Err status.Pending) channel exchange key options payload properties c d fits h = absurd h.0
published_of (Err status.Gone) channel exchange key options payload properties c d fits h = absurd h.0
published_of (Err status.Kept) channel exchange key options payload properties c d fits h = absurd h.0

pub published_with : (r : Result ℕ Status) (channel : ℕ) (exchange key x k : List ℕ) (options : BasicPublishOptions) (payload properties p : List ℕ) (y : Properties) (c d : Client) →
    x ≡ exchange → k ≡ key → p ≡ payload → y ≡ carrying properties → IsSendable exchange key properties c.frame_max →
    PublishedBy r (event.Call channel (call.BasicPublish x k options p y)) c d → Published r channel exchange key options payload properties c d
published_with r channel exchange key x k options payload properties p y c d ex ky pay prop fits h =
    let same : event.Call channel (call.BasicPublish x k options p y) ≡ publishing channel exchange key options payload properties =
    ap (λ (a : List ℕ). event.Call channel (call.BasicPublish a k options p y)) ex ∙ ap (λ (a : List ℕ). event.Call channel (call.BasicPublish exchange a options p y)) ky
    ∙ ap (λ (a : List ℕ). event.Call channel (call.BasicPublish exchange key options a y)) pay ∙ ap (λ (a : Properties). event.Call channel (call.BasicPublish exchange key options payload a)) prop in
    published_of r channel exchange key options payload properties c d fits (subst (λ (e : Event). PublishedBy r e c d) same h)

-- an argument that is no short text
pub no_exchange : (s : Status) (channel : ℕ) (exchange key : List ℕ) (options : BasicPublishOptions) (payload properties : List ℕ) (c : Client) → NoText s exchange → Published (Err s) channel exchange key options payload properties c c
no_exchange status.NotInGrammar channel exchange key options payload properties c why = (inl why, (refl, (refl, refl, refl), (refl, refl, refl, refl, refl, refl)))
no_exchange status.NoMemory channel exchange key options payload properties c why = (refl, (refl, refl, refl), (refl, refl, refl, refl, refl, refl))
no_exchange status.Done channel exchange key options payload properties c why = absurd why
no_exchange status.Refused channel exchange key options payload properties c why = absurd why
no_exchange status.Ended channel exchange key options payload properties c why = absurd why
no_exchange status.Malformed channel exchange key options payload properties c why = absurd why
no_exchange status.TooLong channel exchange key options payload properties c why = absurd why
no_exchange status.Closed channel exchange key options payload properties c why = absurd why
no_exchange status.Pending channel exchange key options payload properties c why = absurd why
no_exchange status.Gone channel exchange key options payload properties c why = absurd why
no_exchange status.Kept channel exchange key options payload properties c why = absurd why

pub no_key : (s : Status) (channel : ℕ) (exchange key : List ℕ) (options : BasicPublishOptions) (payload properties : List ℕ) (c : Client) → NoText s key → Published (Err s) channel exchange key options payload properties c c
no_key status.NotInGrammar channel exchange key options payload properties c why = (inr (inl why), (refl, (refl, refl, refl), (refl, refl, refl, refl, refl, refl)))
no_key status.NoMemory channel exchange key options payload properties c why = (refl, (refl, refl, refl), (refl, refl, refl, refl, refl, refl))
no_key status.Done channel exchange key options payload properties c why = absurd why
no_key status.Refused channel exchange key options payload properties c why = absurd why
no_key status.Ended channel exchange key options payload properties c why = absurd why
no_key status.Malformed channel exchange key options payload properties c why = absurd why
no_key status.TooLong channel exchange key options payload properties c why = absurd why
no_key status.Closed channel exchange key options payload properties c why = absurd why
no_key status.Pending channel exchange key options payload properties c why = absurd why
no_key status.Gone channel exchange key options payload properties c why = absurd why
no_key status.Kept channel exchange key options payload properties c why = absurd why

-- ---- messages and replies

same_bytes : (c p d : Client) → SameBytes c p → SameBytes p d → SameBytes c d
same_bytes c p d x y = (y.0 ∙ x.0, y.1 ∙ x.1, y.2 ∙ x.2, y.3 ∙ x.3, y.4 ∙ x.4, y.5 ∙ x.5)

-- a poll of a consumer that gives a message
pub delivered_shown : (r : Result Message Status) (x : Delivery) (consumer : ℕ) (c p d : Client) → told_by c.session (event.PollConsumer consumer) ≡ record_.Item (Ok (Some x)) → p.session ≡ next c.session (event.PollConsumer consumer) →
    p.refused ≡ c.refused → SameBytes c p → Shown r x p d → Delivered r consumer c d
delivered_shown (Ok m) x consumer c p d told ses ref same h = ((x, told, h.0, h.1), h.2 ∙ ref, h.3 ∙ ses, same_bytes c p d same h.4)
delivered_shown (Err status.NoMemory) x consumer c p d told ses ref same h = ((x, told, h.0), h.1, h.2 ∙ ref, h.3 ∙ ses, same_bytes c p d same h.4)
delivered_shown (Err status.Done) x consumer c p d told ses ref same h = absurd h
delivered_shown (Err status.Refused) x consumer c p d told ses ref same h = absurd h
delivered_shown (Err status.NotInGrammar) x consumer c p d told ses ref same h = absurd h
delivered_shown (Err status.Ended) x consumer c p d told ses ref same h = absurd h
delivered_shown (Err status.Malformed) x consumer c p d told ses ref same h = absurd h
delivered_shown (Err status.TooLong) x consumer c p d told ses ref same h = absurd h
delivered_shown (Err status.Closed) x consumer c p d told ses ref same h = absurd h
delivered_shown (Err status.Pending) x consumer c p d told ses ref same h = absurd h
delivered_shown (Err status.Gone) x consumer c p d told ses ref same h = absurd h
delivered_shown (Err status.Kept) x consumer c p d told ses ref same h = absurd h

-- a poll of a ticket that gives an answer
pub replied_with : (r : Result Fields Status) (a : Answer) (ticket : ℕ) (c p d : Client) → told_by c.session (event.PollTicket ticket) ≡ record_.Answer (Ok a) → p.session ≡ next c.session (event.PollTicket ticket) →
    p.refused ≡ c.refused → SameBytes c p → IsAnswered r a p d → Replied r ticket c d
replied_with (Ok f) a ticket c p d told ses ref same h = ((a, told, h.0, h.1), h.2 ∙ ref, h.3 ∙ ses, same_bytes c p d same h.4)
replied_with (Err status.NoMemory) a ticket c p d told ses ref same h = ((a, told, h.0), h.1, h.2 ∙ ref, h.3 ∙ ses, same_bytes c p d same h.4)
replied_with (Err status.Done) a ticket c p d told ses ref same h = absurd h
replied_with (Err status.Refused) a ticket c p d told ses ref same h = absurd h
replied_with (Err status.NotInGrammar) a ticket c p d told ses ref same h = absurd h
replied_with (Err status.Ended) a ticket c p d told ses ref same h = absurd h
replied_with (Err status.Malformed) a ticket c p d told ses ref same h = absurd h
replied_with (Err status.TooLong) a ticket c p d told ses ref same h = absurd h
replied_with (Err status.Closed) a ticket c p d told ses ref same h = absurd h
replied_with (Err status.Pending) a ticket c p d told ses ref same h = absurd h
replied_with (Err status.Gone) a ticket c p d told ses ref same h = absurd h
replied_with (Err status.Kept) a ticket c p d told ses ref same h = absurd h

pub delivered_counted : (r : Result Message Status) (x : Delivery) (c p d : Client) → Shown r x p d → ShowCounts r p d → p.left + 1 ≡ c.left → PollCounts r c d
delivered_counted (Ok m) x c p d h k one = ap (λ (n : ℕ). n + 1) k ∙ one
delivered_counted (Err status.NoMemory) x c p d h k one = k
delivered_counted (Err status.Done) x c p d h k one = absurd h
delivered_counted (Err status.Refused) x c p d h k one = absurd h
delivered_counted (Err status.NotInGrammar) x c p d h k one = absurd h
delivered_counted (Err status.Ended) x c p d h k one = absurd h
delivered_counted (Err status.Malformed) x c p d h k one = absurd h
delivered_counted (Err status.TooLong) x c p d h k one = absurd h
delivered_counted (Err status.Closed) x c p d h k one = absurd h
delivered_counted (Err status.Pending) x c p d h k one = absurd h
delivered_counted (Err status.Gone) x c p d h k one = absurd h
delivered_counted (Err status.Kept) x c p d h k one = absurd h

pub replied_counted : (r : Result Fields Status) (a : Answer) (c p d : Client) → IsAnswered r a p d → ShowCounts r p d → p.left + 1 ≡ c.left → PollCounts r c d
replied_counted (Ok f) a c p d h k one = ap (λ (n : ℕ). n + 1) k ∙ one
replied_counted (Err status.NoMemory) a c p d h k one = k
replied_counted (Err status.Done) a c p d h k one = absurd h
replied_counted (Err status.Refused) a c p d h k one = absurd h
replied_counted (Err status.NotInGrammar) a c p d h k one = absurd h
replied_counted (Err status.Ended) a c p d h k one = absurd h
replied_counted (Err status.Malformed) a c p d h k one = absurd h
replied_counted (Err status.TooLong) a c p d h k one = absurd h
replied_counted (Err status.Closed) a c p d h k one = absurd h
replied_counted (Err status.Pending) a c p d h k one = absurd h
replied_counted (Err status.Gone) a c p d h k one = absurd h
replied_counted (Err status.Kept) a c p d h k one = absurd h

-- the message of a get, where it isn't told
pub got_not : (s : Status) (x : BasicGetMessage) (c d : Client) → Shown (Err s) x.delivery c d → IsAnswered (Err s) (answer.Got (Some x)) c d
got_not status.NoMemory x c d h = h
got_not status.Done x c d h = absurd h
got_not status.Refused x c d h = absurd h
got_not status.NotInGrammar x c d h = absurd h
got_not status.Ended x c d h = absurd h
got_not status.Malformed x c d h = absurd h
got_not status.TooLong x c d h = absurd h
got_not status.Closed x c d h = absurd h
got_not status.Pending x c d h = absurd h
got_not status.Gone x c d h = absurd h
got_not status.Kept x c d h = absurd h

-- ---- the call of an acker

used_up : (o : Option (ℕ × ℕ)) (k : AckerCall) (b : Wire) → AckCause {T = Option Ticket} (Err error.NumbersUsedUp) o k b → AckUsedUp o k b
used_up None k b h = absurd h
used_up (Some x) k b h = h

no_refusal : (e : Error) → is_refusal e ≡ false → is_refusal e ≡ true → ⊥
no_refusal e not is = grind (sym not ∙ is, arith)

pub settled_refused : (e : Error) (acker : ℕ) (k : AckerCall) (c d : Client) → is_refusal e ≡ true → IsRefusal e (told_by c.session (event.Acker acker k)) → Keeps e c d →
    d.session ≡ next c.session (event.Acker acker k) → SameBytes c d → Settled status.Refused acker k c d
settled_refused e acker k c d is told keeps ses same = ((e, refused_record e (told_by c.session (event.Acker acker k)) is told, keeps), ses, same)

pub settled_not : (s : Status) (e : Error) (acker : ℕ) (k : AckerCall) (c d : Client) → is_refusal e ≡ false → AckCause {T = Option Ticket} (Err e) (usable_at acker c.session.wire) k c.session.wire →
    IsTold s e c d → d.session ≡ c.session → SameBytes c d → Settled s acker k c d
settled_not status.Done e acker k c d is cause t ses same = absurd t
settled_not status.Refused e acker k c d is cause t ses same = absurd (no_refusal e is t.0)
settled_not status.NotInGrammar e acker k c d is cause t ses same = absurd t
settled_not status.NoMemory e acker k c d is cause t ses same = (ses, t.1, same)
settled_not status.Ended e acker k c d is cause t ses same = (inr (used_up (usable_at acker c.session.wire) k c.session.wire (subst (λ (x : Error). AckCause {T = Option Ticket} (Err x) (usable_at acker c.session.wire) k c.session.wire) t.0 cause)), (ses, t.1, same))
settled_not status.Malformed e acker k c d is cause t ses same = absurd t
settled_not status.TooLong e acker k c d is cause t ses same = absurd t
settled_not status.Closed e acker k c d is cause t ses same = absurd t
settled_not status.Pending e acker k c d is cause t ses same = absurd t
settled_not status.Gone e acker k c d is cause t ses same = absurd t
settled_not status.Kept e acker k c d is cause t ses same = absurd t

pub settle_counted : (s : Status) (e : Error) (c d : Client) → is_refusal e ≡ false → IsTold s e c d → d.left ≡ c.left → SettleCounts s c d
settle_counted status.Done e c d is t k = absurd t
settle_counted status.Refused e c d is t k = absurd (no_refusal e is t.0)
settle_counted status.NotInGrammar e c d is t k = k
settle_counted status.NoMemory e c d is t k = k
settle_counted status.Ended e c d is t k = k
settle_counted status.Malformed e c d is t k = k
settle_counted status.TooLong e c d is t k = k
settle_counted status.Closed e c d is t k = k
settle_counted status.Pending e c d is t k = k
settle_counted status.Gone e c d is t k = k
settle_counted status.Kept e c d is t k = k

-- a confirm that is not set aside
pub forgotten_not : (e : Error) (confirm : ℕ) (c d : Client) → HasNumbers {T = Unit {0}} (Err e) → IsRefusal e (told_by c.session (event.AsideConfirm confirm)) → IsUndone c d → Forgotten (forget_fault e) confirm c d
forgotten_not error.NoMemory confirm c d has told same = same
forgotten_not error.NumbersUsedUp confirm c d has told same = absurd has
forgotten_not (error.InvalidChannelState s) confirm c d has told same = (((error.InvalidChannelState s), told), same)
forgotten_not (error.ProtocolError x) confirm c d has told same = (((error.ProtocolError x), told), same)
forgotten_not error.ConnectionLost confirm c d has told same = ((error.ConnectionLost, told), same)
forgotten_not (error.UnexpectedFrame x y) confirm c d has told same = (((error.UnexpectedFrame x y), told), same)
forgotten_not (error.PreconditionFailed x y) confirm c d has told same = (((error.PreconditionFailed x y), told), same)
forgotten_not error.AlreadyTaken confirm c d has told same = ((error.AlreadyTaken, told), same)
forgotten_not error.UnknownTicket confirm c d has told same = ((error.UnknownTicket, told), same)
forgotten_not (error.ConfirmsOutstanding x) confirm c d has told same = (((error.ConfirmsOutstanding x), told), same)
