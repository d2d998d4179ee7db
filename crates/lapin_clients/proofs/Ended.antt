-- On a channel that isn't open to the broker, or while the connection isn't, a session hears no contents once all that is on its way came.
use Rattle.std.proofs.Common.{◌≡◌, ℕ, ◌==◌, Bool, true, false, cond, not, ◌&&◌, ◌||◌, List, [], ◌∷◌, ◌++◌, map, Option, Some, None, refl, sym, ap, subst, ◌∙◌, inl, inr, eq-eqb}
use Rattle.std.specs.List.{list_any}
use Rattle.std.specs.Option.{option_map}
use Rattle.std.proofs.lemmas.Bool.{and_parts, both_ways}
use Rattle.std.proofs.lemmas.Bool.Decides.{eqb_tells}
use Rattle.lapin_types.specs.declared.event.Event.{Event}
use Rattle.lapin_types.specs.declared.event.Event.TheVariants as event
use Rattle.lapin_types.specs.declared.leaving.Left.{Left}
use Rattle.lapin_types.specs.Types.{Frame}
use Rattle.lapin_types.specs.Types.channel_state as state
use Rattle.lapin_rules.specs.Phases.{is_up as is_open_link}
use Rattle.lapin_rules.specs.Wire.{receives_on}
use Rattle.lapin_rules.specs.declared.phases.ConnectionPhase.{ConnectionPhase}
use Rattle.lapin_rules.specs.declared.phases.ConnectionPhase.TheVariants as link
use Rattle.lapin_tables.specs.ByChannel.{at_channel, on_channel}
use Rattle.lapin_tables.proofs.Bools.{and_false}
use Rattle.lapin_tables.proofs.Channels.{at-on_same, at-on_other}
use Rattle.lapin_broker.specs.declared.frames.ClientFrame.{ClientFrame}
use Rattle.lapin_broker.specs.declared.frames.ClientFrame.TheVariants as client
use Rattle.lapin_broker.specs.declared.frames.BrokerFrame.{BrokerFrame}
use Rattle.lapin_broker.specs.declared.frames.BrokerFrame.TheVariants as broker
use Rattle.lapin_broker.specs.declared.peer.Connection.{Connection}
use Rattle.lapin_broker.specs.declared.peer.Connection.TheVariants as connection
use Rattle.lapin_broker.specs.declared.peer.Peer.{Peer}
use Rattle.lapin_broker.specs.declared.peer.Peer.TheVariants as peer
use Rattle.lapin_broker.specs.Frames.{channel_of, broker_frame, client_frame, tag_of}
use Rattle.lapin_broker.specs.Reads.{read, read_in, read_open, with_next_number}
use Rattle.lapin_broker.specs.Sends.{after_send, is_connection_close, may, may_in, may_sorted, send_sorted}
use Rattle.lapin_broker.specs.States.{Broker, Channel, channel_at, channel_in, is_up, with_channel}
use Rattle.lapin_broker.proofs.SoundLaw.{at_with}
use Rattle.lapin_check.proofs.Numbering.{read_each}
use Rattle.lapin_pairs.specs.Every.{conn_d, conn_u}
use Rattle.lapin_pairs.specs.Machine as pair
use Rattle.lapin_pairs.proofs.Pairs.{ToClose, accepts, not_dead, reads, shape_of, tight}
use Rattle.lapin_concord.specs.Frames.{down_frame, down_kind}
use Rattle.lapin_concord.specs.Peers.{connection_as}
use Rattle.lapin_concord.specs.Sound.{pair_of}
use Rattle.lapin_concord.specs.Wires.{link_as}
use Rattle.lapin_concord.proofs.Running.{Sound}
use Rattle.lapin_concord.proofs.Sides.{at_away}
use Rattle.lapin_joint.specs.declared.step.Step.{Step}
use Rattle.lapin_joint.specs.declared.step.Step.TheVariants as step
use Rattle.lapin_joint.specs.Joint.{Joint, after, client as client_step, deliver_first, is_lawful, new_joint, read_first, run, send_down}
use Rattle.lapin_machine.specs.Way.{by_machine}
use Rattle.lapin_machine.specs.World.{World, new_world, next, told_by}
use Rattle.lapin_verdicts.proofs.Together.{lost_down}
use Rattle.lapin_answers.proofs.Turns.{hears_down}
use Rattle.lapin_clients.specs.Joined.{hearing}
use Rattle.lapin_clients.specs.Strays.{Hearing, hear_behind, heard_from, hears_on, is_open, is_open_to}
use Rattle.lapin_clients.proofs.Deaf.{event_less, frame_less}
use Rattle.lapin_clients.proofs.Strays.{end_less, end_more, hear_at_end}

-- of the channels alone
abbrev pub IsQuiet : Joint World → Type 0
IsQuiet j = (c : ℕ) → is_open (channel_at j.broker c).peer ≡ false → (hear_at_end j.down (hearing j.session)).on c ≡ false

-- ---- the broker reads: what is open to it stays so

open_read : (f : Frame) (x : Channel) (u : ClientFrame) → x.peer ≡ peer.Open → is_open (read_open f x u).peer ≡ true
open_read f x client.Close e = refl
open_read f x (client.Select true) e = ap is_open e
open_read f x (client.Select false) e = ap is_open e
open_read f x _ e = ap is_open e

in_read : (p : Peer) (f : Frame) (x : Channel) (u : ClientFrame) → x.peer ≡ p → is_open (read_in p f x u).peer ≡ false → is_open p ≡ false
in_read peer.Free f x u e h = refl
in_read peer.Asked f x u e h = refl
in_read peer.Stopping f x u e h = refl
in_read peer.StoppingOwes f x u e h = refl
in_read peer.StoppingAnswered f x u e h = refl
in_read peer.Open f x u e h = absurd (both_ways _ h (open_read f x u e))
in_read peer.Leaving f x u e h = absurd (both_ways _ h (ap is_open e))

number_peer : (x : Channel) → (with_next_number x).peer ≡ x.peer
number_peer x = by x.selected
  where
    by : (v : Bool) → (cond v (record x { numbers = x.numbers ++ Some tt ∷ [] }) x).peer ≡ x.peer
    by true = refl
    by false = refl

-- of a list of channels: one that isn't open there wasn't open before
abbrev WasShut : ℕ → Broker → List (ℕ × Channel) → Type 0
WasShut c b es = is_open (channel_in (at_channel c es)).peer ≡ false → is_open (channel_at b c).peer ≡ false

numbered_shut : (c d : ℕ) (b : Broker) → WasShut c b (on_channel d with_next_number b.channels)
numbered_shut c d b = elim (eqb_tells d c) [
  | inl y ↦ subst (λ v. WasShut c b (on_channel v with_next_number b.channels)) (sym y.1) (subst (λ o. is_open (channel_in o).peer ≡ false → is_open (channel_at b c).peer ≡ false) (sym (at-on_same c with_next_number b.channels)) (by (at_channel c b.channels)))
  | inr n ↦ λ h. sym (ap (λ o. is_open (channel_in o).peer) (at-on_other d c with_next_number b.channels (λ e. both_ways (d == c) n.0 (eq-eqb d c e)))) ∙ h
]
  where
    by : (o : Option Channel) → is_open (channel_in (option_map with_next_number o)).peer ≡ false → is_open (channel_in o).peer ≡ false
    by None h = h
    by (Some x) h = sym (ap is_open (number_peer x)) ∙ h

read_shut : (c d : ℕ) (f : Frame) (u : ClientFrame) (b : Broker) → WasShut c b (with_channel d (read_in (channel_at b d).peer f (channel_at b d) u) b.channels)
read_shut c d f u b = elim (eqb_tells d c) [
  | inl y ↦ subst (λ v. WasShut c b (with_channel v (read_in (channel_at b v).peer f (channel_at b v) u) b.channels)) (sym y.1) (λ h. in_read (channel_at b c).peer f (channel_at b c) u refl (sym (ap (λ o. is_open (channel_in o).peer) (at_with c (read_in (channel_at b c).peer f (channel_at b c) u) b.channels)) ∙ h))
  | inr n ↦ λ h. sym (ap (λ o. is_open (channel_in o).peer) (at_away d c (read_in (channel_at b d).peer f (channel_at b d) u) b.channels n.0)) ∙ h
]

reads_shut : (c : ℕ) (b : Broker) (f : Frame) → is_open (channel_at (read b f) c).peer ≡ false → is_open (channel_at b c).peer ≡ false
reads_shut c b f = read_each f b (WasShut c b) (λ h. h) (numbered_shut c (channel_of f) b) (λ up. read_shut c (channel_of f) f (client_frame f) b)

-- ---- the broker sends: what isn't open to it then wasn't, or its close or close-ok is the last on the way

sends_shut : (t : List ℕ) (d : BrokerFrame) (x : Channel) (was : Bool) → may_in x.peer x t d ≡ true → (is_open x.peer ≡ false → was ≡ false) → is_open (after_send t d x).peer ≡ false → heard_from d was ≡ false
sends_shut t broker.OpenOk x was m k h = absurd cc
sends_shut t broker.Close x was m k h = refl
sends_shut t broker.CloseOk x was m k h = refl
sends_shut t _ x was m k h = k h

-- in a list of channels one that isn't open there is heard no more, behind the frame
abbrev NowShut : ℕ → ℕ → BrokerFrame → Bool → List (ℕ × Channel) → Type 0
NowShut c d k was es = is_open (channel_in (at_channel c es)).peer ≡ false → cond (d == c) (heard_from k was) was ≡ false

channel_shut : (c d : ℕ) (t : List ℕ) (k : BrokerFrame) (b : Broker) (was : Bool) → may_in (channel_at b d).peer (channel_at b d) t k ≡ true → (is_open (channel_at b c).peer ≡ false → was ≡ false) → NowShut c d k was (on_channel d (after_send t k) b.channels)
channel_shut c d t k b was m q = elim (eqb_tells d c) [
  | inl y ↦ λ h.
      let m' : may_in (channel_at b c).peer (channel_at b c) t k ≡ true = subst (λ v. may_in (channel_at b v).peer (channel_at b v) t k ≡ true) y.1 m in
      let h' : is_open (channel_in (option_map (after_send t k) (at_channel c b.channels))).peer ≡ false = sym (ap (λ o. is_open (channel_in o).peer) (at-on_same c (after_send t k) b.channels)) ∙ subst (λ v. is_open (channel_in (at_channel c (on_channel v (after_send t k) b.channels))).peer ≡ false) y.1 h in
      ap (λ v. cond v (heard_from k was) was) y.0 ∙ by (at_channel c b.channels) m' q h'
  | inr n ↦ λ h. ap (λ v. cond v (heard_from k was) was) n.0 ∙ q (sym (ap (λ o. is_open (channel_in o).peer) (at-on_other d c (after_send t k) b.channels (λ e. both_ways (d == c) n.0 (eq-eqb d c e)))) ∙ h)
]
  where
    by : (o : Option Channel) → may_in (channel_in o).peer (channel_in o) t k ≡ true → (is_open (channel_in o).peer ≡ false → was ≡ false) → is_open (channel_in (option_map (after_send t k) o)).peer ≡ false → heard_from k was ≡ false
    by None m q h = absurd cc
    by (Some x) m q h = sends_shut t k x was m q h

either_way : (v was : Bool) → was ≡ false → cond v was was ≡ false
either_way true was h = h
either_way false was h = h

sent_shut : (c d : ℕ) (t : List ℕ) (k : BrokerFrame) (b : Broker) (was : Bool) → may_sorted d t k b ≡ true → (is_open (channel_at b c).peer ≡ false → was ≡ false) → NowShut c d k was (send_sorted d t k b).channels
sent_shut c d t broker.ConnectionClose b was m q = λ h. either_way (d == c) was (q h)
sent_shut c d t broker.ConnectionCloseOk b was m q = λ h. either_way (d == c) was (q h)
sent_shut c d t broker.OpenOk b was m q = channel_shut c d t broker.OpenOk b was (and_parts (is_up b.connection) _ m).1 q
sent_shut c d t broker.Close b was m q = channel_shut c d t broker.Close b was (and_parts (is_up b.connection) _ m).1 q
sent_shut c d t broker.CloseOk b was m q = channel_shut c d t broker.CloseOk b was (and_parts (is_up b.connection) _ m).1 q
sent_shut c d t (broker.Reply k) b was m q = channel_shut c d t (broker.Reply k) b was (and_parts (is_up b.connection) _ m).1 q
sent_shut c d t broker.ConsumeOk b was m q = channel_shut c d t broker.ConsumeOk b was (and_parts (is_up b.connection) _ m).1 q
sent_shut c d t broker.CancelOk b was m q = channel_shut c d t broker.CancelOk b was (and_parts (is_up b.connection) _ m).1 q
sent_shut c d t broker.GetOk b was m q = channel_shut c d t broker.GetOk b was (and_parts (is_up b.connection) _ m).1 q
sent_shut c d t (broker.Settle n multiple) b was m q = channel_shut c d t (broker.Settle n multiple) b was (and_parts (is_up b.connection) _ m).1 q
sent_shut c d t broker.Deliver b was m q = channel_shut c d t broker.Deliver b was (and_parts (is_up b.connection) _ m).1 q
sent_shut c d t broker.Return b was m q = channel_shut c d t broker.Return b was (and_parts (is_up b.connection) _ m).1 q
sent_shut c d t broker.Cancel b was m q = channel_shut c d t broker.Cancel b was (and_parts (is_up b.connection) _ m).1 q
sent_shut c d t broker.Flow b was m q = channel_shut c d t broker.Flow b was (and_parts (is_up b.connection) _ m).1 q
sent_shut c d t (broker.Header class size) b was m q = channel_shut c d t (broker.Header class size) b was (and_parts (is_up b.connection) _ m).1 q
sent_shut c d t (broker.Body n) b was m q = channel_shut c d t (broker.Body n) b was (and_parts (is_up b.connection) _ m).1 q
sent_shut c d t broker.Other b was m q = channel_shut c d t broker.Other b was (and_parts (is_up b.connection) _ m).1 q

-- ---- every joined run

module _ (j : Joint World) (q : IsQuiet j) where
  client_quiet : (e : Event) → is_lawful e ≡ true → IsQuiet (client_step by_machine e j)
  client_quiet e l c shut = (end_less j.down (hearing j.session) (hearing (next j.session e)) (event_less j.session e l)).on c (q c shut)

  reads_quiet : (ls : List Left) → IsQuiet (read_first ls j)
  reads_quiet [] = q
  reads_quiet (l ∷ ls) = λ c shut. q c (reads_shut c j.broker l.frame shut)

  sends_quiet : (f : Frame) → may j.broker f ≡ true → IsQuiet (send_down f j)
  sends_quiet f m c shut = ap (λ (h : Hearing). h.on c) (end_more j.down f (hearing j.session)) ∙ sent_shut c (channel_of f) (tag_of f) (broker_frame f) j.broker ((hear_at_end j.down (hearing j.session)).on c) m (q c) shut

  delivers_quiet : (fs : List Frame) → j.down ≡ fs → IsQuiet (deliver_first by_machine fs j)
  delivers_quiet [] e = q
  delivers_quiet (f ∷ fs) e = λ c shut.
      let was : (hear_at_end fs (hear_behind f (hearing j.session))).on c ≡ false = subst (λ v. (hear_at_end v (hearing j.session)).on c ≡ false) e (q c shut) in
      (end_less fs (hear_behind f (hearing j.session)) (hearing (next j.session (event.Receive f))) (frame_less j.session f)).on c was

  pub step_quiet : (s : Step) → IsQuiet (after by_machine s j)
  step_quiet (step.Client e) = elim (is_lawful e) as (λ v. is_lawful e ≡ v → IsQuiet (cond v (client_step by_machine e j) j)) [ true ↦ client_quiet e | false ↦ λ l. q ] refl
  step_quiet step.Read = reads_quiet j.up
  step_quiet (step.Send f) = elim (may j.broker f) as (λ v. may j.broker f ≡ v → IsQuiet (cond v (send_down f j) j)) [ true ↦ sends_quiet f | false ↦ λ m. q ] refl
  step_quiet step.Deliver = delivers_quiet j.down refl
  step_quiet step.Lose = λ c shut. hears_down c (next j.session event.Lost).wire (lost_down j.session.wire (told_by j.session event.Lost))

pub run_quiet : (ss : List Step) (j : Joint World) → IsQuiet j → IsQuiet (run by_machine ss j)
run_quiet [] j q = q
run_quiet (s ∷ ss) j q = run_quiet ss (after by_machine s j) (step_quiet j q s)

pub new_quiet : (n : ℕ) → IsQuiet (new_joint (new_world n) n)
new_quiet n c shut = by (c == 0)
  where
    by : (z : Bool) → receives_on (cond z state.Base state.Closed) ≡ false
    by true = refl
    by false = refl

-- ---- the connection: where it isn't open to the broker, the session's isn't, or its close is on the way

abbrev is_open_peer : pair.Peer → Bool
is_open_peer pair.Open = true
is_open_peer _ = false

tight_open : (p : pair.Peer) (u : pair.Up) → is_open_peer (tight p u) ≡ true → is_open_peer p ≡ true
tight_open pair.Open u h = refl
tight_open pair.Free pair.UOpen h = absurd cc
tight_open pair.Free _ h = absurd cc
tight_open pair.Stopping pair.UOther h = absurd cc
tight_open pair.Stopping pair.UClose h = absurd cc
tight_open pair.Stopping pair.UCloseOk h = absurd cc
tight_open pair.Stopping _ h = absurd cc
tight_open pair.StoppingOwes pair.UCloseOk h = absurd cc
tight_open pair.StoppingOwes _ h = absurd cc
tight_open _ _ h = absurd cc

reads_open : (p : pair.Peer) (us : List pair.Up) → is_open_peer (reads p us) ≡ true → is_open_peer p ≡ true
reads_open p [] h = h
reads_open p (u ∷ us) h = tight_open p u (reads_open (tight p u) us h)

abbrev is_end : pair.Down → Bool
is_end pair.DClose = true
is_end _ = false

end_comes : (ds : List pair.Down) → accepts ToClose ds ≡ true → list_any is_end ds ≡ true
end_comes [] h = absurd cc
end_comes (pair.DClose ∷ ds) h = refl
end_comes (pair.DOther ∷ ds) h = end_comes ds h
end_comes (pair.DOpenOk ∷ ds) h = absurd (not_dead ds h)
end_comes (pair.DCloseOk ∷ ds) h = absurd (not_dead ds h)

open_ends : (p : pair.Peer) (ds : List pair.Down) → is_open_peer p ≡ false → accepts (shape_of pair.Opened p) ds ≡ true → list_any is_end ds ≡ true
open_ends pair.Open ds n h = absurd cc
open_ends pair.Stopping ds n h = end_comes ds h
open_ends pair.Free ds n h = absurd (not_dead ds h)
open_ends pair.Asked ds n h = absurd (not_dead ds h)
open_ends pair.Leaving ds n h = absurd (not_dead ds h)
open_ends pair.StoppingOwes ds n h = absurd (not_dead ds h)
open_ends pair.StoppingAnswered ds n h = absurd (not_dead ds h)
open_ends pair.Broken ds n h = absurd (not_dead ds h)

shut_peer : (k : Connection) → is_up k ≡ false → is_open_peer (connection_as k) ≡ false
shut_peer connection.Up h = absurd cc
shut_peer connection.Leaving h = refl
shut_peer connection.Stopped h = refl
shut_peer connection.StoppedOwes h = refl
shut_peer connection.LeavingStopped h = refl
shut_peer connection.Done h = refl
shut_peer connection.Broken h = refl

-- behind its close nothing is heard
end_up : (fs : List Frame) (hear : Hearing) → hear.up ≡ false → (hear_at_end fs hear).up ≡ false
end_up [] hear h = h
end_up (f ∷ fs) hear h = end_up fs (hear_behind f hear) (ap (λ v. v && not (is_connection_close (broker_frame f))) h)

close_up : (d : BrokerFrame) (c : ℕ) (up : Bool) → is_end (conn_d (down_kind c d)) ≡ true → (up && not (is_connection_close d)) ≡ false
close_up broker.ConnectionClose c up h = and_false up
close_up _ c up h = absurd cc

end_or : (v : Bool) (f : Frame) (fs : List Frame) (hear : Hearing) → (list_any is_end (map conn_d (map down_frame fs)) ≡ true → (hear_at_end fs (hear_behind f hear)).up ≡ false) →
    is_end (conn_d (down_frame f)) ≡ v → (v || list_any is_end (map conn_d (map down_frame fs))) ≡ true → (hear_at_end fs (hear_behind f hear)).up ≡ false
end_or true f fs hear later e h = end_up fs (hear_behind f hear) (close_up (broker_frame f) (channel_of f) hear.up e)
end_or false f fs hear later e h = later h

end_hears : (fs : List Frame) (hear : Hearing) → list_any is_end (map conn_d (map down_frame fs)) ≡ true → (hear_at_end fs hear).up ≡ false
end_hears [] hear h = absurd cc
end_hears (f ∷ fs) hear h = end_or (is_end (conn_d (down_frame f))) f fs hear (λ k. end_hears fs (hear_behind f hear) k) refl h

connection_quiet : (j : Joint World) → Sound j → is_up j.broker.connection ≡ false → (hear_at_end j.down (hearing j.session)).up ≡ false
connection_quiet j sound down = by j.session.wire.link refl
  where
    ended : (l : ConnectionPhase) → j.session.wire.link ≡ l → is_open_link l ≡ false → (hear_at_end j.down (hearing j.session)).up ≡ false
    ended l e n = end_up j.down (hearing j.session) (ap is_open_link e ∙ n)

    by : (l : ConnectionPhase) → j.session.wire.link ≡ l → (hear_at_end j.down (hearing j.session)).up ≡ false
    by link.Open e =
        let us : List pair.Up = map conn_u (pair_of j).up ++ map conn_u (pair_of j).unsent in
        let p : pair.Peer = connection_as j.broker.connection in
        let pair_is : accepts (shape_of (link_as link.Open) (reads p us)) (map conn_d (map down_frame j.down)) ≡ true = subst (λ l. accepts (shape_of (link_as l) (reads p us)) (map conn_d (map down_frame j.down)) ≡ true) e sound.joint.conn.pair in
        end_hears j.down (hearing j.session) (open_ends (reads p us) (map conn_d (map down_frame j.down)) (still_shut p us (shut_peer j.broker.connection down)) pair_is)
      where
        still_shut : (p : pair.Peer) (us : List pair.Up) → is_open_peer p ≡ false → is_open_peer (reads p us) ≡ false
        still_shut p us n = at (is_open_peer (reads p us)) refl
          where
            at : (v : Bool) → is_open_peer (reads p us) ≡ v → is_open_peer (reads p us) ≡ false
            at false h = h
            at true h = absurd (both_ways _ n (reads_open p us h))
    by (link.Closing s) e = ended (link.Closing s) e refl
    by link.Closed e = ended link.Closed e refl
    by link.Lost e = ended link.Lost e refl

-- ---- both

pub quiet_both : (j : Joint World) → Sound j → IsQuiet j → (c : ℕ) → is_open_to j.broker c ≡ false → hears_on (hear_at_end j.down (hearing j.session)) c ≡ false
quiet_both j sound quiet c shut = by (is_up j.broker.connection) refl
  where
    by : (u : Bool) → is_up j.broker.connection ≡ u → hears_on (hear_at_end j.down (hearing j.session)) c ≡ false
    by false u = ap (λ v. v && (hear_at_end j.down (hearing j.session)).on c) (connection_quiet j sound u)
    by true u =
        let peer_shut : is_open (channel_at j.broker c).peer ≡ false = sym (ap (λ v. v && is_open (channel_at j.broker c).peer) u) ∙ shut in
        ap (λ v. (hear_at_end j.down (hearing j.session)).up && v) (quiet c peer_shut) ∙ and_false (hear_at_end j.down (hearing j.session)).up
