-- What each call of the table asks for fits where the call has a line, and a call that the machine knows awaits a plain answer.
use Rattle.std.proofs.Common.{◌≡◌, ℕ, ◌^◌, ◌<◌, Bool, true, cond, ◌&&◌, length, refl}
use Rattle.lapin_types.specs.declared.acker_call.AckerCall.{AckerCall}
use Rattle.lapin_types.specs.declared.acker_call.AckerCall.TheVariants as acker_call
use Rattle.lapin_types.specs.declared.call.Call.{Call}
use Rattle.lapin_types.specs.declared.call.Call.TheVariants as call
use Rattle.lapin_types.specs.declared.event.Event.TheVariants as event
use Rattle.lapin_types.specs.declared.record.Record.{Record}
use Rattle.lapin_types.specs.Requests.{kind_of}
use Rattle.lapin_tokens.specs.Fields.{fits}
use Rattle.lapin_tokens.specs.Fields.Field.{bytes, props}
use Rattle.lapin_method_text.specs.Methods.{MethodFits}
use Rattle.lapin_text.specs.CallText.{CallFits}
use Rattle.lapin_rules.specs.declared.calls.Answered.{Answered}
use Rattle.lapin_rules.specs.declared.calls.Answered.TheVariants as answered
use Rattle.lapin_rules.specs.declared.calls.Asked.{Asked}
use Rattle.lapin_rules.specs.declared.calls.Asked.TheVariants as ask
use Rattle.lapin_rules.specs.Ackers.{acker_asked}
use Rattle.lapin_rules.specs.Asking.{asked_by, is_outstanding}
use Rattle.lapin_rules.specs.Calls.{asked, is_try}
use Rattle.lapin_rules.specs.Machine.{is_known}
use Rattle.lapin_told.specs.Told.{published_by}
use Rattle.lapin_told.proofs.Each.{chosen}
use Rattle.lapin_told.proofs.Fitting.{Short, Wide, Text, AnswerFits, LeavingFits, is_plain, impossible}

module _ (K : ℕ → Bool) (t : ℕ) where
  -- how the ticket of a known call is answered
  abbrev pub AnsweredFits : Answered → Type 0
  AnsweredFits (answered.ByReply r) = is_plain (kind_of r) ≡ true
  AnsweredFits (answered.AtOnce r a) = AnswerFits a
  AnsweredFits (answered.AsItLeaves l) = LeavingFits l

  -- what is asked for under ticket t
  abbrev pub AskedFits : Asked → Type 0
  AskedFits ask.Open = Unit {0}
  AskedFits (ask.CloseChannel code reason) = Short code × Text reason
  AskedFits (ask.CloseConnection code reason) = Short code × Text reason
  AskedFits (ask.Publish exchange key o payload properties) = Text exchange × Text key × (fits bytes payload ≡ true) × (length payload < 2 ^ 64) × (fits props properties ≡ true)
  AskedFits (ask.Method row) = MethodFits row.method × (K t ≡ true → AnsweredFits row.answered)
  AskedFits (ask.Consume m tag queue o) = MethodFits m × Text tag × (K t ≡ true → ⊥)
  AskedFits (ask.Limit limit) = Wide limit
  AskedFits ask.Nothing = Unit {0}

  either : (b : Bool) (x y : Asked) → AskedFits x → AskedFits y → AskedFits (cond b x y)
  either b x y h k = chosen AskedFits b x y h k

  pub call_fits : (k : Call) → CallFits k → length (published_by (event.Call 0 k)) < 2 ^ 64 → (K t ≡ true → is_known k ≡ true) → AskedFits (asked k)
  call_fits call.OpenChannel h n k = tt
  call_fits (call.ChannelClose code reason) h n k = (h.0, h.1.0)
  call_fits (call.ConnectionClose code reason) h n k = (h.0, h.1.0)
  call_fits (call.BasicPublish exchange key o payload properties) h n k = (h.0.0, h.0.1.0, h.1.0, n, h.1.1.0)
  call_fits (call.TryBasicPublish exchange key o payload properties) h n k = (h.0, h.1.0, h.1.1.1.1.0, n, h.1.1.1.1.1.0)
  call_fits (call.ConfirmLimit limit) h n k = h.0
  call_fits (call.ChannelFlow o) h n k = (h, λ x. impossible (k x))
  call_fits (call.AccessRequest realm o) h n k = (h, λ x. impossible (k x))
  call_fits (call.ExchangeDeclare name kind o more) h n k = either o.nowait _ _ (h.0, λ x. impossible (k x)) (h.0, λ x. impossible (k x))
  call_fits (call.ExchangeDelete name o) h n k = either o.nowait _ _ (h, λ x. impossible (k x)) (h, λ x. impossible (k x))
  call_fits (call.ExchangeBind to from key o more) h n k = either o.nowait _ _ (h, λ x. impossible (k x)) (h, λ x. impossible (k x))
  call_fits (call.ExchangeUnbind to from key o more) h n k = either o.nowait _ _ (h, λ x. impossible (k x)) (h, λ x. impossible (k x))
  call_fits (call.QueueDeclare name o more) h n k = either o.nowait _ _ (h, λ x. impossible (k x)) (h, λ x. impossible (k x))
  call_fits (call.QueueBind name from key o more) h n k = either o.nowait _ _ (h, λ x. impossible (k x)) (h, λ x. impossible (k x))
  call_fits (call.QueuePurge name o) h n k = either o.nowait _ _ (h, λ x. impossible (k x)) (h, λ x. impossible (k x))
  call_fits (call.QueueDelete name o) h n k = either o.nowait _ _ (h, λ x. impossible (k x)) (h, λ x. impossible (k x))
  call_fits (call.QueueUnbind name from key more) h n k = (h, λ x. impossible (k x))
  call_fits (call.BasicQos most o) h n k = (h, λ x. impossible (k x))
  call_fits (call.BasicConsume name tag o more) h n k = either o.nowait _ _ (h, h.1.0, λ x. impossible (k x)) (h, λ x. impossible (k x))
  call_fits (call.BasicCancel tag o) h n k = either o.nowait _ _ (h, λ x. impossible (k x)) (h, λ x. impossible (k x))
  call_fits (call.BasicGet queue o) h n k = (h, λ x. impossible (k x))
  call_fits (call.BasicAck tag o) h n k = (h, λ x. impossible (k x))
  call_fits (call.BasicNack tag o) h n k = (h, λ x. impossible (k x))
  call_fits (call.BasicReject tag o) h n k = (h, λ x. impossible (k x))
  call_fits (call.BasicRecoverAsync o) h n k = (h, λ x. impossible (k x))
  call_fits (call.BasicRecover o) h n k = (h, λ x. impossible (k x))
  call_fits (call.ConfirmSelect o) h n k = either o.nowait _ _ (h, λ x. tt) (h, λ x. refl)
  call_fits call.TxSelect h n k = (h, λ x. impossible (k x))
  call_fits call.TxCommit h n k = (h, λ x. impossible (k x))
  call_fits call.TxRollback h n k = (h, λ x. impossible (k x))

  -- nothing, where it is refused by its channel's limit
  pub told_fits : (k : Call) (r : Record) → CallFits k → length (published_by (event.Call 0 k)) < 2 ^ 64 → (K t ≡ true → is_known k ≡ true) → AskedFits (asked_by k r)
  told_fits k r h n known = chosen AskedFits (is_try k && is_outstanding r) ask.Nothing (asked k) tt (call_fits k h n known)

  pub acker_fits : (k : AckerCall) (tag : ℕ) → Wide tag → (K t ≡ true → ⊥) → AskedFits (acker_asked k tag)
  acker_fits (acker_call.Ack o) tag h never = ((h, (refl, tt)), λ x. absurd (never x))
  acker_fits (acker_call.Nack o) tag h never = ((h, (refl, (refl, tt))), λ x. absurd (never x))
  acker_fits (acker_call.Reject o) tag h never = ((h, (refl, tt)), λ x. absurd (never x))
