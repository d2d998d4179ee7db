-- A call of a client with what it answered, as the contracts of `lapin_client` say it of the client before and behind it.
use Rattle.std.specs.Prelude.{◌≡◌, ℕ, Bool, List, Option, Result, option_map}
use Rattle.lapin_methods.specs.declared.options.BasicPublishOptions.{BasicPublishOptions}
use Rattle.lapin_types.specs.declared.event.Event.TheVariants as event
use Rattle.lapin_client.specs.declared.client.Client.{Client}
use Rattle.lapin_client.specs.declared.calls.Fate.{Fate}
use Rattle.lapin_client.specs.declared.message.Message.{Message}
use Rattle.lapin_client.specs.declared.refusals.Refusal.{Refusal}
use Rattle.lapin_client.specs.declared.replies.Fields.{Fields}
use Rattle.lapin_client.specs.declared.returns.Returned.{Returned}
use Rattle.lapin_client.specs.declared.states.States.{States}
use Rattle.lapin_client.specs.declared.status.Status.{Status}
use Rattle.lapin_client.specs.declared.closes.CloseReason.{CloseReason}
use Rattle.lapin_client.specs.Answers.{answer_of}
use Rattle.lapin_client.specs.Asking.{Called, Limited, Unasked}
use Rattle.lapin_client.specs.Closes.{TellsClose}
use Rattle.lapin_client.specs.Calls.{Published, OutcomeTold, Settled, Forgotten, fate_call}
use Rattle.lapin_client.specs.Counts.{CallCounts, OneWhereDone, PublishCounts, OutcomeCounts, PollCounts, SettleCounts, UnclaimedCounts}
use Rattle.lapin_client.specs.Ready.{IsFirstReady}
use Rattle.lapin_client.specs.Refusals.{refusal_of}
use Rattle.lapin_client.specs.Replies.{Delivered, Replied}
use Rattle.lapin_client.specs.Returns.{ReturnTold, ConfirmTold, UnclaimedTold}
use Rattle.lapin_client.specs.Sending.{Sends, Finishes}
use Rattle.lapin_client.specs.States.{states_of}

-- a call and its answer; of a reply, a delivery, a message that came back and a close with the octets of the answer
pub data Call : Type 0 where
  -- a call by the octets of its method
  Ask : (channel : ℕ) (method : List ℕ) (answer : Result ℕ Status) → Call
  Limit : (channel limit : ℕ) (answer : Result ℕ Status) → Call
  Reply : (ticket : ℕ) (answer : Result Fields Status) (octets : List ℕ) → Call
  ForgetCall : (ticket : ℕ) (answer : Status) → Call
  Publish : (channel : ℕ) (exchange key : List ℕ) (options : BasicPublishOptions) (payload properties : List ℕ) (answer : Result ℕ Status) → Call
  Outcome : (confirm code : ℕ) → Call
  Confirmed : (confirm : ℕ) (answer : Result ℕ Status) → Call
  Unclaimed : (channel : ℕ) (answer : Result ℕ Status) → Call
  ReturnAt : (place : ℕ) (answer : Result Returned Status) (octets : List ℕ) → Call
  Delivery : (consumer : ℕ) (answer : Result Message Status) (octets : List ℕ) → Call
  Settle : (acker : ℕ) (fate : Fate) (multiple requeue : Bool) (answer : Status) → Call
  Forget : (confirm : ℕ) (answer : Status) → Call
  ReadyConsumer : (consumers : List ℕ) (from : ℕ) (answer : Option ℕ) → Call
  ReadyReply : (tickets : List ℕ) (from : ℕ) (answer : Option ℕ) → Call
  Why : (answer : Option Refusal) → Call
  StatesNow : (channel : ℕ) (answer : States) → Call
  Send : (flow : Bool) (enough : ℕ) (answer : Status) → Call
  Finish : (answer : Status) → Call
  LastClose : (channel : ℕ) (answer : Result CloseReason Status) (octets : List ℕ) → Call

-- What the contract of the call says. A run is up to the loss.
abbrev pub IsCall : Call → Client → Client → Type 0
IsCall (Ask channel method r) c d = Called r channel method c d × CallCounts r c d
IsCall (Limit channel limit r) c d = Limited r channel limit c d × CallCounts r c d
IsCall (Reply ticket r octets) c d = Replied r ticket c d × PollCounts r c d × (octets ≡ answer_of d)
IsCall (ForgetCall ticket s) c d = Unasked s ticket c d × OneWhereDone s c d
IsCall (Publish channel exchange key options payload properties r) c d = Published r channel exchange key options payload properties c d × PublishCounts r c d
IsCall (Outcome confirm code) c d = OutcomeTold code confirm c d × OutcomeCounts code c d
IsCall (Confirmed confirm r) c d = ConfirmTold r confirm c d × PollCounts r c d
IsCall (Unclaimed channel r) c d = UnclaimedTold r channel c d × UnclaimedCounts r c d
IsCall (ReturnAt place r octets) c d = ReturnTold r place c d × (octets ≡ answer_of d)
IsCall (Delivery consumer r octets) c d = Delivered r consumer c d × PollCounts r c d × (octets ≡ answer_of d)
IsCall (Settle acker fate multiple requeue s) c d = Settled s acker (fate_call fate multiple requeue) c d × SettleCounts s c d
IsCall (Forget confirm s) c d = Forgotten s confirm c d × OneWhereDone s c d
IsCall (ReadyConsumer consumers from r) c d = IsFirstReady r (λ n. event.PollConsumer n) from consumers c.session × (d ≡ c)
IsCall (ReadyReply tickets from r) c d = IsFirstReady r (λ n. event.PollTicket n) from tickets c.session × (d ≡ c)
IsCall (Why r) c d = (r ≡ option_map (λ e. refusal_of e) c.refused) × (d ≡ c)
IsCall (StatesNow channel s) c d = (s ≡ states_of channel c.session.wire) × (d ≡ c)
IsCall (Send flow enough s) c d = Sends s flow enough c d
IsCall (Finish s) c d = Finishes s c d
IsCall (LastClose channel r octets) c d = TellsClose r channel c d × (octets ≡ answer_of d)
