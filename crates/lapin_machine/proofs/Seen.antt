-- A session's value by its parts, and when two are the same: what each answer of a call is compared with.
use Rattle.std.proofs.Common.{◌≡◌, ℕ, List, length, Option, None, refl}
use Rattle.lapin_types.specs.declared.leaving.Publish.{Publish}
use Rattle.lapin_types.specs.declared.request.Request.{Request}
use Rattle.lapin_types.specs.declared.leaving.Left.{Left}
use Rattle.lapin_rules.specs.declared.phases.ChannelPhase.{ChannelPhase}
use Rattle.lapin_rules.specs.declared.phases.ConnectionPhase.{ConnectionPhase}
use Rattle.lapin_rules.specs.Frames.{MethodEntry, RestEntry}
use Rattle.lapin_rules.specs.Drops.{without_publishes_of}
use Rattle.lapin_delivery.specs.Deliveries.{Deliveries}
use Rattle.lapin_rules.specs.Wire.{Wire}
use Rattle.lapin_outbox.specs.Outgoing.{OutboxState, with_method, with_publish, with_lists}
use Rattle.lapin_outbox.specs.Poison.{poison_on, publish_pushed}
use Rattle.lapin_ticket.specs.declared.Slot.{Slot}
use Rattle.lapin_content.specs.Channels.{Channels}
use Rattle.lapin_confirm.specs.ConfirmState.{ConfirmState}
use Rattle.lapin_machine.specs.World.{World}

-- ---- by its fields

pub base_is : (b d : Wire) → b.frame_max ≡ d.frame_max → b.link ≡ d.link → b.phases ≡ d.phases → b.rest ≡ d.rest → b.methods ≡ d.methods → b.publishes ≡ d.publishes → b.requests ≡ d.requests → b.contents ≡ d.contents → b.tickets ≡ d.tickets → b.published ≡ d.published → b.deliveries ≡ d.deliveries → b ≡ d
base_is b d e1 e2 e3 e4 e5 e6 e7 e8 e9 e10 e11 =
    let same : base_of b.frame_max b.link b.phases b.rest b.methods b.publishes b.requests b.contents b.tickets b.published b.deliveries ≡ base_of d.frame_max d.link d.phases d.rest d.methods d.publishes d.requests d.contents d.tickets d.published d.deliveries = rw (e1, e2, e3, e4, e5, e6, e7, e8, e9, e10, e11) refl in
    same
  where
    base_of : ℕ → ConnectionPhase → List (ℕ × ChannelPhase) → List RestEntry → List MethodEntry → List Publish → List (ℕ × List Request) → Channels → ℕ → ℕ → Deliveries → Wire
    base_of m l p r ms ps rs cs t n i = record { frame_max = m; link = l; phases = p; rest = r; methods = ms; publishes = ps; requests = rs; contents = cs; tickets = t; published = n; deliveries = i }

pub world_is : (w v : World) → w.wire ≡ v.wire → w.confirm_state ≡ v.confirm_state → w.slots ≡ v.slots → w.returned ≡ v.returned → w ≡ v
world_is w v e1 e2 e3 e4 =
    let same : world_of w.wire w.confirm_state w.slots w.returned ≡ world_of v.wire v.confirm_state v.slots v.returned = rw (e1, e2, e3, e4) refl in
    same
  where
    world_of : Wire → ConfirmState → List (Option Slot) → Option Left → World
    world_of b k s r = record { wire = b; confirm_state = k; slots = s; returned = r }

-- ---- the value of a session by its parts: where connection and channels stand, what waits, requests, contents, consumers
-- and ackers, tickets and confirms

abbrev pub seen : ConnectionPhase → List (ℕ × ChannelPhase) → OutboxState → List (ℕ × List Request) → Channels → Deliveries → List (Option Slot) → ConfirmState → World
seen l p o rs cs i s b = record {
  wire = record { frame_max = o.frame_max; link = l; phases = p; rest = o.lists.rest; methods = o.lists.methods; publishes = o.lists.publishes; requests = rs; contents = cs; tickets = length s; published = length b.publish_states.cells; deliveries = i };
  confirm_state = b;
  slots = s;
  returned = o.returned;
}

pub seen_is : (l l2 : ConnectionPhase) (p p2 : List (ℕ × ChannelPhase)) (o o2 : OutboxState) (rs rs2 : List (ℕ × List Request)) (cs cs2 : Channels) (i i2 : Deliveries) (s s2 : List (Option Slot)) (b b2 : ConfirmState) → l ≡ l2 → p ≡ p2 → o ≡ o2 → rs ≡ rs2 → cs ≡ cs2 → i ≡ i2 → s ≡ s2 → b ≡ b2 → seen l p o rs cs i s b ≡ seen l2 p2 o2 rs2 cs2 i2 s2 b2
seen_is l l2 p p2 o o2 rs rs2 cs cs2 i i2 s s2 b b2 e1 e2 e3 e4 e5 e6 e7 e8 = rw (e1, e2, e3, e4, e5, e6, e7, e8) refl

-- ---- what is queued, and what a close of this side takes out

abbrev pub with_entry : MethodEntry → OutboxState → OutboxState
with_entry m o = with_lists (with_method m o.lists) o

abbrev pub without_unbegun : ℕ → OutboxState → OutboxState
without_unbegun c o = with_lists (without_publishes_of c o.lists) o

-- a publish joins an outbox that is not poisoned
pub publish_queued : (p : Publish) (o : OutboxState) → poison_on p.channel o ≡ None → publish_pushed p o ≡ with_lists (with_publish p o.lists) o
publish_queued p o clean = rw clean refl
