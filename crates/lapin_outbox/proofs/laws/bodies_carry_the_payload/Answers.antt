use Rattle.std.proofs.Common.{◌∷◌, ◌-◌, ◌<◌, arith, ap, sym, ◌∙◌, map}
use Rattle.lapin_types.specs.Types.frame
use Rattle.lapin_rules.specs.Frames.{cut, room_for_body, content_header}
use Rattle.lapin_outbox.proofs.Cuts.{cut-is, body_payloads-bodies}
use Rattle.lapin_outbox.proofs.laws.bodies_carry_the_payload.Goals as goal

pub returns-clause-cut : goal.returns-clause-cut
returns-clause-cut c =
    let room : 0 < c.args.frame_max - 8 = omega arith in
    rw (body_payloads-bodies c.args.publish.now.channel (cut (room_for_body c.args.frame_max) c.args.publish.now.payload)) (cut-is _ _ room)

pub returns-clause-none : goal.returns-clause-none
returns-clause-none c = λ none. body_payloads-bodies c.args.publish.now.channel (cut (room_for_body c.args.frame_max) c.args.publish.now.payload) ∙ ap (cut (room_for_body c.args.frame_max)) none

pub returns-clause-alone : goal.returns-clause-alone
returns-clause-alone c =
    ap (λ pieces. content_header c.args.publish.now ∷ map (frame.Body c.args.publish.now.channel) pieces) (sym (body_payloads-bodies c.args.publish.now.channel (cut (room_for_body c.args.frame_max) c.args.publish.now.payload)))
