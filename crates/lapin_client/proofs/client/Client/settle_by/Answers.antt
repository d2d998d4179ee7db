use Rattle.std.proofs.Common.{refl, sym, ◌∙◌, arith}
use Rattle.lapin_client.proofs.Refused.{settle_counted, settled_refused, settled_not, told_from}
use Rattle.lapin_types.specs.declared.event.Event.TheVariants as event
use Rattle.lapin_client.proofs.Room.{sound_next, sound_same, made_next, made_none}
use Rattle.lapin_client.proofs.client.Client.settle_by.Goals as goal

pub aside_ticket-requires-clause-sound : goal.aside_ticket-requires-clause-sound
aside_ticket-requires-clause-sound c = sound_next c.args.self.now.left c.args.self.now.frame_max c.args.self.now.session c.acker_call.new.self (event.Acker c.args.acker c.args.call) c.requires.sound c.in-Ok-Some.ensures.ok

pub keep-requires : goal.keep-requires
keep-requires c =
    sound_next c.args.self.now.left c.args.self.now.frame_max c.args.self.now.session c.acker_call.new.self (event.Acker c.args.acker c.args.call) c.requires.sound
    (made_next c.in-Err.error c.args.self.now.session c.acker_call.new.self (event.Acker c.args.acker c.args.call) c.in-Err.ensures.ok (sym c.refuses.ensures ∙ c.if-refuses.true))

pub refuse-requires : goal.refuse-requires
refuse-requires c =
    sound_same c.args.self.now.left c.args.self.now.left c.args.self.now.frame_max c.args.self.now.frame_max c.args.self.now.session c.acker_call.new.self refl refl
    (made_none c.in-Err.error c.args.self.now.session c.acker_call.new.self (event.Acker c.args.acker c.args.call) c.in-Err.ensures.ok (sym c.refuses.ensures ∙ c.if-refuses.false)) c.requires.sound

pub returns-then-refuses-clause-told : goal.returns-then-refuses-clause-told
returns-then-refuses-clause-told c =
    let is = sym c.refuses.ensures ∙ c.if-refuses.true in let r = c.keep in
    settled_refused c.in-Err.error c.args.acker c.args.call c.args.self.now r.new.self is c.in-Err.ensures.told r.ensures.kept
    (r.ensures.session ∙ made_next c.in-Err.error c.args.self.now.session c.acker_call.new.self (event.Acker c.args.acker c.args.call) c.in-Err.ensures.ok is) r.ensures.same

pub returns-else-refuses-clause-told : goal.returns-else-refuses-clause-told
returns-else-refuses-clause-told c =
    let is = sym c.refuses.ensures ∙ c.if-refuses.false in let r = c.refuse in
    settled_not r.result c.in-Err.error c.args.acker c.args.call c.args.self.now r.new.self is c.in-Err.ensures.cause (told_from r.result c.in-Err.error c.args.self.now (record c.args.self.now { session = c.acker_call.new.self }) r.new.self (refl, refl, refl) r.ensures.told)
    (r.ensures.session ∙ made_none c.in-Err.error c.args.self.now.session c.acker_call.new.self (event.Acker c.args.acker c.args.call) c.in-Err.ensures.ok is) r.ensures.same

pub returns-else-refuses-clause-count : goal.returns-else-refuses-clause-count
returns-else-refuses-clause-count c =
    let is = sym c.refuses.ensures ∙ c.if-refuses.false in let r = c.refuse in
    settle_counted r.result c.in-Err.error c.args.self.now r.new.self is (told_from r.result c.in-Err.error c.args.self.now (record c.args.self.now { session = c.acker_call.new.self }) r.new.self (refl, refl, refl) r.ensures.told) r.ensures.count

pub returns-then-refuses-clause-count : goal.returns-then-refuses-clause-count
returns-then-refuses-clause-count c = let r = c.keep in omega (r.ensures.count, c.requires.enough, arith)
