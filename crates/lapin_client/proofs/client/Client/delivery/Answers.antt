use Rattle.std.proofs.Common.{◌≡◌, ◌<◌, ◌-◌, Option, Some, Result, Ok, Err, inl, inr, refl, sym, ap, ◌∙◌, arith}
use Rattle.lapin_machine.specs.Told.{next_record}
use Rattle.lapin_types.specs.Types.{Error}
use Rattle.lapin_types.specs.declared.message.Delivery.{Delivery}
use Rattle.lapin_types.specs.declared.poll.Poll.{Poll}
use Rattle.lapin_types.specs.declared.poll.Poll.TheVariants as poll
use Rattle.lapin_client.proofs.Refused.{delivered_counted, delivered_shown}
use Rattle.lapin_types.specs.declared.event.Event.TheVariants as event
use Rattle.lapin_client.proofs.Room.{sound_next}
use Rattle.lapin_client.proofs.client.Client.delivery.Goals as goal

pub show-requires : goal.show-requires
show-requires c = sound_next c.args.self.now.left c.args.self.now.frame_max c.args.self.now.session c.poll_next.new.self (event.PollConsumer c.args.consumer) c.requires c.poll_next.ensures.ok

pub returns-in-Ok-Pending-clause-sound : goal.returns-in-Ok-Pending-clause-sound
returns-in-Ok-Pending-clause-sound c = sound_next c.args.self.now.left c.args.self.now.frame_max c.args.self.now.session c.poll_next.new.self (event.PollConsumer c.args.consumer) c.requires c.poll_next.ensures.ok

pub returns-in-Ok-Ready-Ok-None-clause-sound : goal.returns-in-Ok-Ready-Ok-None-clause-sound
returns-in-Ok-Ready-Ok-None-clause-sound c = sound_next c.args.self.now.left c.args.self.now.frame_max c.args.self.now.session c.poll_next.new.self (event.PollConsumer c.args.consumer) c.requires c.poll_next.ensures.ok

pub keep-requires : goal.keep-requires
keep-requires c = sound_next c.args.self.now.left c.args.self.now.frame_max c.args.self.now.session c.poll_next.new.self (event.PollConsumer c.args.consumer) c.requires c.poll_next.ensures.ok

pub keep-requires-in-Err : goal.keep-requires-in-Err
keep-requires-in-Err c = sound_next c.args.self.now.left c.args.self.now.frame_max c.args.self.now.session c.poll_next.new.self (event.PollConsumer c.args.consumer) c.requires c.poll_next.ensures.ok

-- a message is handed on
pub returns-in-Ok-Ready-Ok-Some-clause-told : goal.returns-in-Ok-Ready-Ok-Some-clause-told
returns-in-Ok-Ready-Ok-Some-clause-told c =
    let a = c.in-Ok-Ready-Ok-Some in let is : a.field-0 ≡ poll.Ready (Ok (Some a.delivery)) = cc in
    delivered_shown c.show.result a.delivery c.args.consumer c.args.self.now (record c.args.self.now { left = c.args.self.now.left - 1; session = c.poll_next.new.self }) c.show.new.self
    (sym a.ensures.told ∙ ap (λ (y : Poll (Result (Option Delivery) Error)). next_record (Ok y)) is) c.poll_next.ensures.ok refl (refl, refl, refl, refl, refl, refl) c.show.ensures.told

pub returns-in-Ok-Ready-Ok-Some-clause-count : goal.returns-in-Ok-Ready-Ok-Some-clause-count
returns-in-Ok-Ready-Ok-Some-clause-count c =
    let a = c.in-Ok-Ready-Ok-Some in let some : 0 < c.args.self.now.left = grind (c.if-self-eq0.false, arith) in
    delivered_counted c.show.result a.delivery c.args.self.now (record c.args.self.now { left = c.args.self.now.left - 1; session = c.poll_next.new.self }) c.show.new.self c.show.ensures.told c.show.ensures.count (omega (some, arith))

-- an error is told
pub returns-in-Ok-Ready-Err-clause-told : goal.returns-in-Ok-Ready-Err-clause-told
returns-in-Ok-Ready-Err-clause-told c =
    let a = c.in-Ok-Ready-Err in let is : a.field-0 ≡ poll.Ready (Err a.error) = cc in
    ((a.error, inr (sym a.ensures.told ∙ ap (λ (y : Poll (Result (Option Delivery) Error)). next_record (Ok y)) is), c.keep.ensures.kept), c.keep.ensures.session ∙ c.poll_next.ensures.ok, c.keep.ensures.same)

pub returns-in-Err-clause-told : goal.returns-in-Err-clause-told
returns-in-Err-clause-told c =
    ((c.in-Err.error, inl (sym c.in-Err.ensures.told), c.keep-in-Err.ensures.kept), c.keep-in-Err.ensures.session ∙ c.poll_next.ensures.ok, c.keep-in-Err.ensures.same)
