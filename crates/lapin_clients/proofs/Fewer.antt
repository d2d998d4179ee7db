-- No act gives a client steps back: so one that takes further steps took some at every time before.
use Rattle.std.proofs.Common.{◌≡◌, ℕ, zero, suc, ◌+◌, ◌≤◌, ◌<◌, Bool, false, List, [], ◌∷◌, Option, Some, None, Result, Ok, Err, ap, inl, inr, arith, ◌⊎◌}
use Rattle.lapin_types.specs.Types.{Frame}
use Rattle.lapin_client.specs.declared.client.Client.{Client}
use Rattle.lapin_client.specs.declared.status.Status.{Status}
use Rattle.lapin_client.specs.declared.status.Status.TheVariants as status
use Rattle.lapin_client.specs.Counts.{CallCounts, OneWhereDone, PublishCounts, OutcomeCounts, PollCounts, SettleCounts, UnclaimedCounts}
use Rattle.lapin_client.specs.declared.returns.Returned.{Returned}
use Rattle.lapin_client.specs.Returns.{ReturnTold}
use Rattle.lapin_client.specs.Receiving.{Comes as ComeAll, IsLonger, IsTurnOf, Receives, Runs, TurnLeaves, Turns}
use Rattle.lapin_client.specs.Sending.{Finishes, Pulls, Sends as SendsOut, Stops}
use Rattle.lapin_client.specs.Closes.{TellsClose}
use Rattle.lapin_client.specs.declared.closes.CloseReason.{CloseReason}
use Rattle.lapin_clients.specs.Calls.{Call, Ask, Limit, Reply, ForgetCall, Publish, Outcome, Confirmed, Unclaimed, ReturnAt, Delivery, Settle, Forget, ReadyConsumer, ReadyReply, Why, StatesNow, Send, Finish, LastClose, IsCall}
use Rattle.lapin_clients.specs.Nets.{Net, Act, Calls, Leaves, Beats, Comes, Reads, Sends, Strays, Does, Leads}

-- ---- numbers

same : (m n : ℕ) → m ≡ n → m ≤ n
same m n e = omega (arith, e)

none : (m n : ℕ) → m ≡ 0 → m ≤ n
none m n e = omega (arith, e)

used : (m n k : ℕ) → m + k ≡ n → m ≤ n
used m n k e = omega (arith, e)

pub at_most : (k m n : ℕ) → k ≤ m → m ≤ n → k ≤ n
at_most k m n a b = omega (arith, a, b)

-- ---- calls

module _ (c d : Client) where
  abbrev Less : Type 0
  Less = d.left ≤ c.left

  unchanged : d ≡ c → Less
  unchanged e = same d.left c.left (ap (λ (b : Client). b.left) e)

  asked_less : (r : Result ℕ Status) → CallCounts r c d → Less
  asked_less (Ok n) k = used d.left c.left 1 k
  asked_less (Err s) k = same d.left c.left k

  publish_less : (r : Result ℕ Status) → PublishCounts r c d → Less
  publish_less (Ok n) k = used d.left c.left 2 k
  publish_less (Err s) k = same d.left c.left k

  outcome_less : (code : ℕ) → OutcomeCounts code c d → Less
  outcome_less code (inl k) = same d.left c.left k.1
  outcome_less code (inr k) = used d.left c.left 1 k

  poll_less : {A : Type 0} (r : Result A Status) → PollCounts r c d → Less
  poll_less (Ok m) k = used d.left c.left 1 k
  poll_less (Err status.NoMemory) k = none d.left c.left k
  poll_less (Err status.Ended) k = same d.left c.left k
  poll_less (Err _) k = used d.left c.left 1 k

  wait_less : (r : Result ℕ Status) → UnclaimedCounts r c d → Less
  wait_less (Ok n) k = used d.left c.left 1 k
  wait_less (Err status.NoMemory) k = same d.left c.left k
  wait_less (Err status.Ended) k = same d.left c.left k
  wait_less (Err _) k = used d.left c.left 1 k

  back_less : (place : ℕ) (r : Result Returned Status) → ReturnTold r place c d → Less
  back_less place (Ok m) h = same d.left c.left h.4
  back_less place (Err status.Pending) h = unchanged h.1
  back_less place (Err status.NoMemory) h = unchanged h
  back_less place (Err _) h = absurd h

  settle_less : (s : Status) → SettleCounts s c d → Less
  settle_less status.Done k = used d.left c.left 2 k
  settle_less status.Refused k = used d.left c.left 1 k
  settle_less _ k = same d.left c.left k

  one_less : (s : Status) → OneWhereDone s c d → Less
  one_less status.Done k = used d.left c.left 1 k
  one_less _ k = same d.left c.left k

  -- requests that came to no end
  pub stops_less : (s : Status) (flow : Bool) → Stops s flow c d → Less
  stops_less status.NoMemory flow (inl (inl h)) = same d.left c.left h.2
  stops_less status.NoMemory flow (inl (inr h)) = used d.left c.left h.0 h.1.1.2
  stops_less status.NoMemory flow (inr h) = at_most d.left h.1.left c.left (used d.left h.1.left 1 h.3.4) (used h.1.left c.left h.0 h.2.1.2)
  stops_less status.TooLong flow (inl h) = none d.left c.left h.3
  stops_less status.TooLong flow (inr h) = none d.left c.left h.4.3
  stops_less status.Ended flow h = none d.left c.left h.1
  stops_less _ flow h = absurd h

  closes_less : (channel : ℕ) (r : Result CloseReason Status) → TellsClose r channel c d → Less
  closes_less channel (Ok r) h = same d.left c.left h.2
  closes_less channel (Err status.Pending) h = unchanged h.1
  closes_less channel (Err status.NoMemory) h = same d.left c.left h.2
  closes_less channel (Err _) h = absurd h

  finish_less : (s : Status) → Finishes s c d → Less
  finish_less status.Done h = used d.left c.left (suc h.0.0) h.0.1.1.2
  finish_less status.NoMemory h = stops_less status.NoMemory false h.0
  finish_less status.TooLong h = stops_less status.TooLong false h.0
  finish_less status.Ended h = stops_less status.Ended false h.0
  finish_less _ h = absurd h.0

  -- ---- octets that come

  leaves_less : (o : Option Frame) → TurnLeaves o c d → Less
  leaves_less None h = same d.left c.left h.2
  leaves_less (Some f) h = used d.left c.left _ h.4

  turn_less : (o : Option Frame) → IsTurnOf o c d → Less
  turn_less o t = leaves_less o t.4

  last_less : (s : Status) → Turns s c d → Less
  last_less status.Done h = turn_less h.0 h.1
  last_less status.Refused h = turn_less (Some h.0) h.1
  last_less status.Pending h = unchanged h.2
  last_less status.Malformed h = unchanged h.2
  last_less status.TooLong (inl h) = unchanged h.1
  last_less status.TooLong (inr h) = stops_less status.TooLong false h.0
  last_less status.Kept h = stops_less status.NoMemory false h.0
  last_less status.Ended h = stops_less status.Ended false h.0
  last_less _ h = absurd h

stopped_less : (s : Status) (flow : Bool) (enough : ℕ) (c d : Client) → Stops s flow c d ⊎ ((b : Client) × Pulls status.Done enough flow c b × Stops s false b d) → d.left ≤ c.left
stopped_less s flow enough c d (inl h) = stops_less c d s flow h
stopped_less s flow enough c d (inr h) = at_most d.left h.0.left c.left (stops_less h.0 d s false h.2) (used h.0.left c.left h.1.0.0 h.1.0.1.1.2)

send_less : (flow : Bool) (enough : ℕ) (s : Status) (c d : Client) → SendsOut s flow enough c d → d.left ≤ c.left
send_less flow enough status.Done c d h = at_most d.left h.0.left c.left (finish_less h.0 d status.Done h.1.1) (used h.0.left c.left h.1.0.0.0 h.1.0.0.1.1.2)
send_less flow enough status.NoMemory c d h = stopped_less status.NoMemory flow enough c d h.0
send_less flow enough status.TooLong c d h = stopped_less status.TooLong flow enough c d h.0
send_less flow enough status.Ended c d h = stopped_less status.Ended flow enough c d h.0
send_less flow enough status.Refused c d h = stopped_less status.Refused flow enough c d h.0
send_less flow enough status.NotInGrammar c d h = stopped_less status.NotInGrammar flow enough c d h.0
send_less flow enough status.Malformed c d h = stopped_less status.Malformed flow enough c d h.0
send_less flow enough status.Closed c d h = stopped_less status.Closed flow enough c d h.0
send_less flow enough status.Pending c d h = stopped_less status.Pending flow enough c d h.0
send_less flow enough status.Gone c d h = stopped_less status.Gone flow enough c d h.0
send_less flow enough status.Kept c d h = stopped_less status.Kept flow enough c d h.0

call_less : (k : Call) (c d : Client) → IsCall k c d → d.left ≤ c.left
call_less (Ask channel method r) c d h = asked_less c d r h.1
call_less (Limit channel limit r) c d h = asked_less c d r h.1
call_less (Reply ticket r octets) c d h = poll_less c d r h.1
call_less (ForgetCall ticket s) c d h = one_less c d s h.1
call_less (Publish channel exchange key options payload properties r) c d h = publish_less c d r h.1
call_less (Outcome confirm code) c d h = outcome_less c d code h.1
call_less (Confirmed confirm r) c d h = poll_less c d r h.1
call_less (Unclaimed channel r) c d h = wait_less c d r h.1
call_less (ReturnAt place r octets) c d h = back_less c d place r h.0
call_less (Delivery consumer r octets) c d h = poll_less c d r h.1
call_less (Settle acker fate multiple requeue s) c d h = settle_less c d s h.1
call_less (Forget confirm s) c d h = one_less c d s h.1
call_less (ReadyConsumer consumers from r) c d h = unchanged c d h.1
call_less (ReadyReply tickets from r) c d h = unchanged c d h.1
call_less (Why r) c d h = unchanged c d h.1
call_less (StatesNow channel s) c d h = unchanged c d h.1
call_less (Send flow enough s) c d h = send_less flow enough s c d h
call_less (Finish s) c d h = finish_less c d s h
call_less (LastClose channel r octets) c d h = closes_less c d channel r h.0

pub turns_less : (k : ℕ) (c d : Client) → ComeAll k c d → d.left ≤ c.left
unfolding ComeAll
turns_less zero c d h = unchanged c d h
turns_less (suc k) c d h = at_most d.left h.0.left c.left (turn_less h.0 d h.2.0 h.2.1) (turns_less k c h.0 h.1)

cut_less : (s : Status) (c d : Client) → (k : ℕ) × ((e : Client) × (ComeAll k c e × Turns s e d)) → d.left ≤ c.left
cut_less s c d h = at_most d.left h.1.0.left c.left (last_less h.1.0 d s h.1.1.1) (turns_less h.0 c h.1.0 h.1.1.0)

runs_less : (s : Status) (c d : Client) → Runs s c d → d.left ≤ c.left
runs_less status.Done c d h = turns_less h.0 c d h.1.0
runs_less status.Refused c d h = cut_less status.Refused c d h
runs_less status.NotInGrammar c d h = cut_less status.NotInGrammar c d h
runs_less status.NoMemory c d h = cut_less status.NoMemory c d h
runs_less status.Ended c d h = cut_less status.Ended c d h
runs_less status.Malformed c d h = cut_less status.Malformed c d h
runs_less status.TooLong c d h = cut_less status.TooLong c d h
runs_less status.Closed c d h = cut_less status.Closed c d h
runs_less status.Pending c d h = cut_less status.Pending c d h
runs_less status.Gone c d h = cut_less status.Gone c d h
runs_less status.Kept c d h = cut_less status.Kept c d h

kept_less : (s : Status) (octets : List ℕ) (c d : Client) → (b : Client) × (IsLonger octets c b × Runs s b d) → d.left ≤ c.left
kept_less s octets c d h = at_most d.left h.0.left c.left (runs_less s h.0 d h.1.1) (same h.0.left c.left h.1.0.0)

receives_less : (s : Status) (octets : List ℕ) (c d : Client) → Receives s octets c d → d.left ≤ c.left
receives_less status.NoMemory octets c d h = same d.left c.left h.1
receives_less status.Done octets c d h = kept_less status.Done octets c d h
receives_less status.Refused octets c d h = kept_less status.Refused octets c d h
receives_less status.NotInGrammar octets c d h = kept_less status.NotInGrammar octets c d h
receives_less status.Ended octets c d h = kept_less status.Ended octets c d h
receives_less status.Malformed octets c d h = kept_less status.Malformed octets c d h
receives_less status.TooLong octets c d h = kept_less status.TooLong octets c d h
receives_less status.Closed octets c d h = kept_less status.Closed octets c d h
receives_less status.Pending octets c d h = kept_less status.Pending octets c d h
receives_less status.Gone octets c d h = kept_less status.Gone octets c d h
receives_less status.Kept octets c d h = kept_less status.Kept octets c d h

-- ---- acts

act_less : (a : Act) (x y : Net) → Does a x y → y.client.left ≤ x.client.left
act_less (Calls k) x y h = call_less k x.client y.client h.0
act_less Leaves x y h = same y.client.left x.client.left h.0.6
act_less Beats x y h = unchanged x.client y.client h.1
act_less (Comes octets s) x y h = receives_less s octets x.client y.client h.0
act_less (Reads p) x y h = unchanged x.client y.client h.1
act_less (Sends p) x y h = unchanged x.client y.client h.1
act_less (Strays f) x y h = unchanged x.client y.client h.1

pub never_more : (as_ : List Act) (x z : Net) → Leads as_ x z → z.client.left ≤ x.client.left
unfolding Leads
never_more [] x z h = unchanged x.client z.client (ap (λ (y : Net). y.client) h)
never_more (a ∷ more) x z h = at_most z.client.left h.0.client.left x.client.left (never_more more h.0 z h.1.1) (act_less a x h.0 h.1.0)

pub alive_before : (as_ : List Act) (x z : Net) → Leads as_ x z → 0 < z.client.left → 0 < x.client.left
alive_before as_ x z h alive = let less = never_more as_ x z h in omega (arith, less, alive)
