use Rattle.std.proofs.Common.{◌≡◌, ◌<◌, ◌-◌, Result, Ok, Err, inl, inr, refl, sym, ap, ◌∙◌, arith}
use Rattle.lapin_machine.specs.Told.{ticket_record}
use Rattle.lapin_types.specs.declared.answer.Answer.{Answer}
use Rattle.lapin_types.specs.Types.{Error}
use Rattle.lapin_types.specs.declared.poll.Poll.{Poll}
use Rattle.lapin_types.specs.declared.poll.Poll.TheVariants as poll
use Rattle.lapin_client.proofs.Refused.{replied_counted, replied_with}
use Rattle.lapin_types.specs.declared.event.Event.TheVariants as event
use Rattle.lapin_client.proofs.Room.{sound_next}
use Rattle.lapin_client.proofs.client.Client.reply.Goals as goal

pub answered-requires : goal.answered-requires
answered-requires c = sound_next c.args.self.now.left c.args.self.now.frame_max c.args.self.now.session c.poll_ticket.new.self (event.PollTicket c.args.ticket) c.requires c.poll_ticket.ensures.ok

pub returns-in-Ok-Pending-clause-sound : goal.returns-in-Ok-Pending-clause-sound
returns-in-Ok-Pending-clause-sound c = sound_next c.args.self.now.left c.args.self.now.frame_max c.args.self.now.session c.poll_ticket.new.self (event.PollTicket c.args.ticket) c.requires c.poll_ticket.ensures.ok

pub keep-requires : goal.keep-requires
keep-requires c = sound_next c.args.self.now.left c.args.self.now.frame_max c.args.self.now.session c.poll_ticket.new.self (event.PollTicket c.args.ticket) c.requires c.poll_ticket.ensures.ok

pub keep-requires-in-Err : goal.keep-requires-in-Err
keep-requires-in-Err c = sound_next c.args.self.now.left c.args.self.now.frame_max c.args.self.now.session c.poll_ticket.new.self (event.PollTicket c.args.ticket) c.requires c.poll_ticket.ensures.ok

-- an answer is told
pub returns-in-Ok-Ready-Ok-clause-told : goal.returns-in-Ok-Ready-Ok-clause-told
returns-in-Ok-Ready-Ok-clause-told c =
    let a = c.in-Ok-Ready-Ok in let is : a.field-0 ≡ poll.Ready (Ok a.answer) = cc in
    replied_with c.answered.result a.answer c.args.ticket c.args.self.now (record c.args.self.now { left = c.args.self.now.left - 1; session = c.poll_ticket.new.self }) c.answered.new.self
    (sym a.ensures.told ∙ ap (λ (y : Poll (Result Answer Error)). ticket_record (Ok y)) is) c.poll_ticket.ensures.ok refl (refl, refl, refl, refl, refl, refl) c.answered.ensures.told

pub returns-in-Ok-Ready-Ok-clause-count : goal.returns-in-Ok-Ready-Ok-clause-count
returns-in-Ok-Ready-Ok-clause-count c =
    let a = c.in-Ok-Ready-Ok in let some : 0 < c.args.self.now.left = grind (c.if-self-eq0.false, arith) in
    replied_counted c.answered.result a.answer c.args.self.now (record c.args.self.now { left = c.args.self.now.left - 1; session = c.poll_ticket.new.self }) c.answered.new.self c.answered.ensures.told c.answered.ensures.count (omega (some, arith))

-- an error is told
pub returns-in-Ok-Ready-Err-clause-told : goal.returns-in-Ok-Ready-Err-clause-told
returns-in-Ok-Ready-Err-clause-told c =
    let a = c.in-Ok-Ready-Err in let is : a.field-0 ≡ poll.Ready (Err a.error) = cc in
    ((a.error, inl (sym a.ensures.told ∙ ap (λ (y : Poll (Result Answer Error)). ticket_record (Ok y)) is), c.keep.ensures.kept), c.keep.ensures.session ∙ c.poll_ticket.ensures.ok, c.keep.ensures.same)

pub returns-in-Err-clause-told : goal.returns-in-Err-clause-told
returns-in-Err-clause-told c =
    ((c.in-Err.error, inr (sym c.in-Err.ensures.told), c.keep-in-Err.ensures.kept), c.keep-in-Err.ensures.session ∙ c.poll_ticket.ensures.ok, c.keep-in-Err.ensures.same)
