use Rattle.std.proofs.Common.{◌≡◌, ◌<◌, inr, refl, sym, ◌∙◌, arith}
use Rattle.lapin_types.specs.declared.event.Event.TheVariants as event
use Rattle.lapin_machine.specs.World.{next, told_by}
use Rattle.lapin_client.proofs.Heard.{did, did_not, heard_so}
use Rattle.lapin_client.proofs.Refused.{refused_record}
use Rattle.lapin_client.proofs.Room.{sound_next, sound_same}
use Rattle.lapin_client.proofs.client.Client.hear.Goals as goal

pub returns-in-Ok-clause-sound : goal.returns-in-Ok-clause-sound
returns-in-Ok-clause-sound c = sound_next c.args.self.now.left c.args.self.now.frame_max c.args.self.now.session c.receive.new.self (event.Receive c.args.frame) c.requires c.in-Ok.ensures.ok

pub returns-in-Ok-clause-told : goal.returns-in-Ok-clause-told
returns-in-Ok-clause-told c = ((inr (heard_so c.in-Ok.heard (told_by c.args.self.now.session (event.Receive c.args.frame)) c.in-Ok.ensures.told), (refl, refl, refl)), c.in-Ok.ensures.ok, (refl, refl, refl, refl, refl), refl)

pub keep-requires : goal.keep-requires
keep-requires c =
    sound_next c.args.self.now.left c.args.self.now.frame_max c.args.self.now.session c.receive.new.self (event.Receive c.args.frame) c.requires
    (did c.in-Err.error (c.receive.new.self ≡ next c.args.self.now.session (event.Receive c.args.frame)) (c.receive.new.self ≡ c.args.self.now.session) c.in-Err.ensures.ok (sym c.refuses.ensures ∙ c.if-refuses.true))

pub returns-then-refuses-clause-told : goal.returns-then-refuses-clause-told
returns-then-refuses-clause-told c =
    let is = sym c.refuses.ensures ∙ c.if-refuses.true in let r = c.keep in (
      (c.in-Err.error, refused_record c.in-Err.error (told_by c.args.self.now.session (event.Receive c.args.frame)) is c.in-Err.ensures.told, r.ensures.kept),
      r.ensures.session ∙ did c.in-Err.error (c.receive.new.self ≡ next c.args.self.now.session (event.Receive c.args.frame)) (c.receive.new.self ≡ c.args.self.now.session) c.in-Err.ensures.ok is,
      (r.ensures.same.0, r.ensures.same.1, r.ensures.same.2, r.ensures.same.3, r.ensures.same.5),
      r.ensures.same.4,
    )

pub returns-then-refuses-clause-count : goal.returns-then-refuses-clause-count
returns-then-refuses-clause-count c =
    let r = c.keep in let some : 0 < c.args.self.now.left = grind (c.if-self-eq0.false, arith) in
    omega (r.ensures.count, some, arith)

pub returns-else-refuses-clause-sound : goal.returns-else-refuses-clause-sound
returns-else-refuses-clause-sound c =
    sound_same c.args.self.now.left c.args.self.now.left c.args.self.now.frame_max c.args.self.now.frame_max c.args.self.now.session c.receive.new.self refl refl
    (did_not c.in-Err.error (c.receive.new.self ≡ next c.args.self.now.session (event.Receive c.args.frame)) (c.receive.new.self ≡ c.args.self.now.session) c.in-Err.ensures.ok (sym c.refuses.ensures ∙ c.if-refuses.false)) c.requires

pub returns-else-refuses-clause-told : goal.returns-else-refuses-clause-told
returns-else-refuses-clause-told c = (
  (did_not c.in-Err.error (c.receive.new.self ≡ next c.args.self.now.session (event.Receive c.args.frame)) (c.receive.new.self ≡ c.args.self.now.session) c.in-Err.ensures.ok (sym c.refuses.ensures ∙ c.if-refuses.false), refl, refl, refl),
  (refl, refl, refl, refl, refl, refl, refl),
)
