-- No frame of an honest broker is refused.
use Rattle.std.proofs.Common.{◌≡◌, ℕ, suc, ◌<◌, Bool, true, false, List, [], ◌∷◌, ◌++◌, Some, refl, sym, ap, subst, ◌∙◌, arith, inl, inr}
use Rattle.lapin_types.specs.declared.event.Event.TheVariants as event
use Rattle.lapin_types.specs.declared.record.Record.TheVariants as record_
use Rattle.lapin_types.specs.Types.{Error, Frame}
use Rattle.lapin_broker.specs.Frames.{channel_of}
use Rattle.lapin_joint.specs.Joint.{Joint, new_joint, run}
use Rattle.lapin_machine.specs.Way.{by_machine}
use Rattle.lapin_machine.specs.World.{World, new_world, told_by}
use Rattle.lapin_client.specs.declared.client.Client.{Client}
use Rattle.lapin_client.specs.declared.status.Status.{Status}
use Rattle.lapin_client.specs.declared.status.Status.TheVariants as status
use Rattle.lapin_client.specs.Receiving.{Comes as ComeAll, IsLonger, IsTurnOf, Receives, is_stray}
use Rattle.lapin_client.specs.Sending.{after_requests}
use Rattle.lapin_concord.specs.Refusals.{is_refusal}
use Rattle.lapin_concord.proofs.Running.{Sound, new_sound, sound_run}
use Rattle.lapin_clients.specs.Joined.{IsJoined, hearing, machine_to}
use Rattle.lapin_clients.specs.Nets.{Net, Act, IsNewNet, Leads, kept_by}
use Rattle.lapin_clients.specs.Pieces.{frames_in}
use Rattle.lapin_clients.specs.Truth.{is_refused, FramesAreHeard}
use Rattle.lapin_clients.specs.Strays.{AreWithStrays, hears_on}
use Rattle.lapin_clients.proofs.Deaf.{part_unrefused}
use Rattle.lapin_clients.proofs.Fewer.{turns_less}
use Rattle.lapin_clients.proofs.Going.{GoesOn}
use Rattle.lapin_clients.proofs.Published.{run_is}
use Rattle.lapin_clients.proofs.Requests.{asks, asks_less, asks_run, with_asked}
use Rattle.lapin_clients.proofs.Runs.{came_first, longer_joined, turns_go, with_client}
use Rattle.lapin_clients.proofs.Stray.{delivered_fine}
use Rattle.lapin_clients.proofs.Strays.{less_on}

module _ (n : ℕ) (acts : List Act) (x y : Net) (new : IsNewNet n x) (leads : Leads acts x y) (octets down : List ℕ) (is_down : y.down ≡ octets ++ down) (b e d : Client) (longer : IsLonger octets y.client b) (k : ℕ) (comes : ComeAll k b e) (f : Frame) (t : IsTurnOf (Some f) e d) where
  -- the client took the frame, so it had steps
  alive : 0 < y.client.left
  alive =
      let count = t.4.4 in
      let some : 0 < e.left = omega (arith, count) in
      let less = turns_less k b e comes in
      let same = longer.0 in
      omega (arith, some, less, same)

  refused_never : (m : ℕ) (error : Error) → is_stray f (after_requests (suc m) false e.session) ≡ false → told_by (after_requests (suc m) false e.session) (event.Receive f) ≡ record_.Refused error → ⊥
  refused_never m error stray told =
      let g = run_is n acts x y new leads alive in
      let j : Joint World = machine_to n g.0 in
      let sound : Sound j = sound_run g.0 (new_joint (new_world n) n) (new_sound n new.large) in
      let between : Net = record { client = b; broker = y.broker; up = y.up; down = down; besides = y.besides } in
      let here : IsJoined n between j = longer_joined n y y j sound g.1.joined octets b down longer is_down in
      let first : GoesOn n [] (with_client e between) j = turns_go n k between j sound here e comes in
      let at : Joint World = run by_machine first.steps j in
      let sound_at : Sound at = sound_run first.steps j sound in
      let head = came_first n (with_client e between) at first.joined f t.0 t.1.0 in
      let list : f ∷ frames_in head.0 ≡ first.joined.down.way = sym (ap frames_in head.1) ∙ first.joined.down.written.frames_are in
      let strays : AreWithStrays (hearing at.session) (f ∷ frames_in head.0) at.down = subst (λ v. AreWithStrays (hearing at.session) v at.down) (sym list) first.joined.down.strays in
      elim strays [
        | inl s ↦
            let deaf : hears_on (hearing (after_requests (suc m) false e.session)) (channel_of f) ≡ false = less_on (hearing e.session) (hearing (after_requests (suc m) false e.session)) (channel_of f) (asks_less (suc m) false e.session) (ap (λ w. hears_on (hearing w) (channel_of f)) first.joined.session ∙ s.1) in
            part_unrefused f (after_requests (suc m) false e.session) error s.0 deaf stray told
        | inr s ↦
            let asked : Joint World = with_asked (suc m) false at in
            let sound_asked : Sound asked = subst Sound (asks_run (suc m) false at) (sound_run (asks (suc m) false) at sound_at) in
            let fine : is_refusal (told_by asked.session (event.Receive f)) ≡ false = delivered_fine asked f s.0 s.1 sound_asked in
            let told_here : told_by asked.session (event.Receive f) ≡ record_.Refused error = ap (λ w. told_by (after_requests (suc m) false w) (event.Receive f)) (sym first.joined.session) ∙ told in
            let bad : ◌≡◌ {A = Bool} true false = sym (ap is_refusal told_here) ∙ fine in
            absurd cc
      ]

pub all_heard : (n : ℕ) (acts : List Act) → FramesAreHeard n acts
all_heard n acts x y z octets s new leads does = by s does.0 does.3
  where
    by : (s : Status) → Receives s octets y.client z.client → y.down ≡ kept_by s octets ++ z.down → is_refused s ≡ false
    by status.Refused h down =
        let last = h.1.1.1.1.1 in
        absurd (refused_never n acts x y new leads octets z.down down h.0 h.1.1.1.0 z.client h.1.0 h.1.1.0 h.1.1.1.1.0 last.0 last.1 last.2.0 last.2.2.1.0 last.2.2.0 last.2.2.1.1)
    by _ h down = refl
