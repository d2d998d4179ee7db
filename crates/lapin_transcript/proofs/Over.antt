-- After a loss nothing is seen any more: the session hands nothing out, nothing is on the way up, and the broker may send nothing.
use Rattle.std.proofs.Common.{◌≡◌, ◌∙◌, ℕ, Bool, true, false, ◌&&◌, cond, None, List, [], ◌∷◌, ◌++◌, refl, sym, ap, subst}
use Rattle.std.specs.List.{fold}
use Rattle.lapin_types.specs.declared.event.Event.{Event}
use Rattle.lapin_types.specs.declared.event.Event.TheVariants as event
use Rattle.lapin_types.specs.declared.leaving.Left.{Left}
use Rattle.lapin_types.specs.Types.{Frame}
use Rattle.lapin_rules.specs.Drops.{no_lists}
use Rattle.lapin_rules.specs.History.{History}
use Rattle.lapin_rules.specs.Leaving.{Lists, handed_of}
use Rattle.lapin_rules.specs.Flow.{begins_on}
use Rattle.lapin_rules.specs.declared.phases.ConnectionPhase.TheVariants as link
use Rattle.lapin_rules.specs.Phases.{is_lost}
use Rattle.lapin_rules.specs.Ends.{down}
use Rattle.lapin_rules.specs.Wire.{lists_of}
use Rattle.lapin_machine.specs.World.{World, new_world, next}
use Rattle.lapin_machine.specs.Way.{by_history, by_machine}
use Rattle.lapin_laws.specs.Runs.{world_after}
use Rattle.lapin_broker.specs.declared.frames.BrokerFrame.{BrokerFrame}
use Rattle.lapin_broker.specs.declared.peer.Connection.{Connection}
use Rattle.lapin_broker.specs.declared.peer.Connection.TheVariants as connection
use Rattle.lapin_broker.specs.Frames.{channel_of, broker_frame, tag_of}
use Rattle.lapin_broker.specs.Sends as sends
use Rattle.lapin_broker.specs.Sends.{may, may_sorted}
use Rattle.lapin_broker.specs.States.{Broker, is_up, owes_connection, connection_after_loss, channel_at, after_loss}
use Rattle.lapin_joint.specs.declared.step.Step.{Step}
use Rattle.lapin_joint.specs.declared.step.Step.TheVariants as step
use Rattle.lapin_joint.specs.Joint.{Joint, new_joint, client, send_down, read_first, deliver_first, is_lawful, left_alone, handed_by, after, run, joined_to}
use Rattle.lapin_joint.specs.JoinedRun.{AreAlike}
use Rattle.lapin_joint.specs.Order.{along}
use Rattle.lapin_joint.proofs.Alike.{alike-next, unreturned-next, new_alike}
use Rattle.lapin_check.specs.declared.seen.Seen.{Seen}
use Rattle.lapin_check.specs.declared.seen.Seen.TheVariants as seen
use Rattle.lapin_transcript.specs.Transcript.{first_up, seen_in}
use Rattle.lapin_transcript.proofs.Alike.{along_same}

-- ---- the broker is silent

silent_sorted : (c : ℕ) (t : List ℕ) (d : BrokerFrame) (b : Broker) → is_up b.connection ≡ false → owes_connection b.connection ≡ false → may_sorted c t d b ≡ false
silent_sorted c t d b down owes =
    elim (sends.is_connection_close d) as (λ x. cond x (is_up b.connection) (cond (sends.is_connection_close_ok d) (owes_connection b.connection) (is_up b.connection && sends.may_in (channel_at b c).peer (channel_at b c) t d)) ≡ false) [
      | true ↦ down
      | false ↦
          elim (sends.is_connection_close_ok d) as (λ x. cond x (owes_connection b.connection) (is_up b.connection && sends.may_in (channel_at b c).peer (channel_at b c) t d) ≡ false) [
            | true ↦ owes
            | false ↦ ap (λ (x : Bool). x && sends.may_in (channel_at b c).peer (channel_at b c) t d) down
          ]
    ]

lost_down : (k : Connection) → is_up (connection_after_loss k) ≡ false
lost_down connection.Broken = refl
lost_down _ = refl

lost_owes : (k : Connection) → owes_connection (connection_after_loss k) ≡ false
lost_owes connection.Broken = refl
lost_owes _ = refl

silent_after : (b : Broker) (f : Frame) → may (after_loss b) f ≡ false
silent_after b f = silent_sorted (channel_of f) (tag_of f) (broker_frame f) (after_loss b) (lost_down b.connection) (lost_owes b.connection)

-- ---- the machine's session comes of events

fold-push : (w : World) (es : List Event) (e : Event) → fold next w (es ++ e ∷ []) ≡ next (fold next w es) e
fold-push w [] e = refl
fold-push w (x ∷ es) e = fold-push (next w x) es e

-- the session is what these events leave of a new one
abbrev Comes : ℕ → Joint World → Type 0
Comes n k = (es : List Event) × (k.session ≡ world_after n es)

comes_event : (n : ℕ) (w : World) (e : Event) → (es : List Event) × (w ≡ world_after n es) → (es : List Event) × (next w e ≡ world_after n es)
comes_event n w e c = (c.0 ++ e ∷ [], ap (λ (x : World). next x e) c.1 ∙ sym (fold-push (new_world n) c.0 e))

comes_chosen : (n : ℕ) (b : Bool) (j k : Joint World) → Comes n j → Comes n k → Comes n (cond b j k)
comes_chosen n true j k one other = one
comes_chosen n false j k one other = other

comes_read : (n : ℕ) (ls : List Left) (k : Joint World) → Comes n k → Comes n (read_first ls k)
comes_read n [] k c = c
comes_read n (l ∷ ls) k c = c

comes_delivered : (n : ℕ) (fs : List Frame) (k : Joint World) → Comes n k → Comes n (deliver_first by_machine fs k)
comes_delivered n [] k c = c
comes_delivered n (f ∷ fs) k c = comes_event n k.session (event.Receive f) c

comes_step : (n : ℕ) (s : Step) (k : Joint World) → Comes n k → Comes n (after by_machine s k)
comes_step n (step.Client e) k c = comes_chosen n (is_lawful e) _ k (comes_event n k.session e c) c
comes_step n step.Read k c = comes_read n k.up k c
comes_step n (step.Send f) k c = comes_chosen n (may k.broker f) _ k c c
comes_step n step.Deliver k c = comes_delivered n k.down k c
comes_step n step.Lose k c = comes_event n k.session event.Lost c

comes_run : (n : ℕ) (ss : List Step) (k : Joint World) → Comes n k → Comes n (run by_machine ss k)
comes_run n [] k c = c
comes_run n (s ∷ ss) k c = comes_run n ss (after by_machine s k) (comes_step n s k c)

-- ---- what the laws of a loss say

-- it is for good
abbrev pub IsForGood : Type 0
IsForGood = (n : ℕ) (es more : List Event) → is_lost (world_after n es).wire.link ≡ true → is_lost (fold next (world_after n es) more).wire.link ≡ true

-- nothing waits after it
abbrev pub LeavesNothing : Type 0
LeavesNothing = (n : ℕ) (es : List Event) → is_lost (world_after n es).wire.link ≡ true → lists_of (world_after n es).wire ≡ no_lists

module _ (stays : IsForGood) (nothing : LeavesNothing) (n : ℕ) where
  -- nothing is to come
  record IsOver (k : Joint World) : Type 0 where
    pub comes : Comes n k
    pub lost : is_lost k.session.wire.link ≡ true
    pub up : k.up ≡ []
    pub silent : (f : Frame) → may k.broker f ≡ false

  lost_next : (w : World) (e : Event) → (es : List Event) × (w ≡ world_after n es) → is_lost w.wire.link ≡ true → is_lost (next w e).wire.link ≡ true
  lost_next w e c lost =
      let now : is_lost (world_after n c.0).wire.link ≡ true = ap (λ (x : World). is_lost x.wire.link) (sym c.1) ∙ lost in
      ap (λ (x : World). is_lost (next x e).wire.link) c.1 ∙ stays n c.0 (e ∷ []) now

  none_handed : (w : World) (e : Event) → (es : List Event) × (w ≡ world_after n es) → is_lost w.wire.link ≡ true → handed_by by_machine e w ≡ []
  none_handed w (event.Next flow) c lost =
      let now : is_lost (world_after n c.0).wire.link ≡ true = ap (λ (x : World). is_lost x.wire.link) (sym c.1) ∙ lost in
      let lists : lists_of w.wire ≡ no_lists = ap (λ (x : World). lists_of x.wire) c.1 ∙ nothing n c.0 now in
      ap (λ (l : Lists). left_alone (handed_of (begins_on flow (by_machine.full w) w.wire) l.rest l.methods l.publishes)) lists
  none_handed w _ c lost = refl

  over_client : (e : Event) (b : Bool) (k : Joint World) → IsOver k → IsOver (cond b (client by_machine e k) k)
  over_client e true k o = record {
    comes = comes_event n k.session e o.comes;
    lost = lost_next k.session e o.comes o.lost;
    up = ap (λ (ls : List Left). ls ++ handed_by by_machine e k.session) o.up ∙ none_handed k.session e o.comes o.lost;
    silent = o.silent;
  }
  over_client e false k o = o

  over_delivered : (fs : List Frame) (k : Joint World) → IsOver k → IsOver (deliver_first by_machine fs k)
  over_delivered [] k o = o
  over_delivered (f ∷ fs) k o = record { comes = comes_event n k.session (event.Receive f) o.comes; lost = lost_next k.session (event.Receive f) o.comes o.lost; up = o.up; silent = o.silent }

  over_step : (s : Step) (k : Joint World) → IsOver k → IsOver (after by_machine s k)
  over_step (step.Client e) k o = over_client e (is_lawful e) k o
  over_step step.Read k o = subst (λ (ls : List Left). IsOver (read_first ls k)) (sym o.up) o
  over_step (step.Send f) k o = subst (λ (b : Bool). IsOver (cond b (send_down f k) k)) (sym (o.silent f)) o
  over_step step.Deliver k o = over_delivered k.down k o
  over_step step.Lose k o = record { comes = comes_event n k.session event.Lost o.comes; lost = lost_next k.session event.Lost o.comes o.lost; up = refl; silent = silent_after k.broker }

  none_seen : (s : Step) (k : Joint World) → IsOver k → seen_in s k ≡ []
  none_seen (step.Client e) k o = refl
  none_seen step.Read k o = ap first_up o.up
  none_seen (step.Send f) k o = ap (λ (b : Bool). cond b (seen.Down f ∷ []) []) (o.silent f)
  none_seen step.Deliver k o = refl
  none_seen step.Lose k o = refl

  none_along : (ss : List Step) (k : Joint World) → IsOver k → along by_machine seen_in ss k ≡ []
  none_along [] k o = refl
  none_along (s ∷ ss) k o = ap (λ (xs : List Seen). xs ++ along by_machine seen_in ss (after by_machine s k)) (none_seen s k o) ∙ none_along ss (after by_machine s k) (over_step s k o)

  -- ---- the same of a run by its history

  alike_run : (ss : List Step) (j : Joint History) (k : Joint World) → k.session.returned ≡ None → AreAlike n j k → AreAlike n (run (by_history n) ss j) (run by_machine ss k) × ((run by_machine ss k).session.returned ≡ None)
  alike_run [] j k none h = (h, none)
  alike_run (s ∷ ss) j k none h = alike_run ss (after (by_history n) s j) (after by_machine s k) (unreturned-next s k none) (alike-next n s j k none h).1

  lost_now : (w : World) → is_lost (next w event.Lost).wire.link ≡ true
  lost_now w = at_link (is_lost w.wire.link) refl
    where
      at_link : (b : Bool) → is_lost w.wire.link ≡ b → is_lost (cond b w.wire (down link.Lost w.wire)).link ≡ true
      at_link true e = e
      at_link false e = refl

  -- what is seen after a loss
  pub none_after_loss : (made ss : List Step) → along (by_history n) seen_in ss (after (by_history n) step.Lose (joined_to n made)) ≡ []
  none_after_loss made ss =
      let j : Joint History = joined_to n made in
      let k : Joint World = run by_machine made (new_joint (new_world n) n) in
      let alike = alike_run made (new_joint [] n) (new_joint (new_world n) n) refl (new_alike n) in
      let comes : Comes n k = comes_run n made (new_joint (new_world n) n) ([], refl) in
      let over : IsOver (after by_machine step.Lose k) = record { comes = comes_event n k.session event.Lost comes; lost = lost_now k.session; up = refl; silent = silent_after k.broker } in
      sym (along_same n ss (after (by_history n) step.Lose j) (after by_machine step.Lose k) (unreturned-next step.Lose k alike.1) (alike-next n step.Lose j k alike.1 alike.0).1)
      ∙ none_along ss (after by_machine step.Lose k) over
