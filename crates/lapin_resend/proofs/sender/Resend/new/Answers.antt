use Rattle.std.proofs.Common.{◌∙◌, [], false, map, refl, ap}
use Rattle.lapin_joint.specs.JoinedRun.{JoinedRun}
use Rattle.lapin_resend.specs.declared.publisher.Publisher as code
use Rattle.lapin_resend.specs.Follows.{standing, place}
use Rattle.lapin_resend.specs.Publisher.{tended}
use Rattle.lapin_resend.specs.Resend.{no_publisher}
use Rattle.lapin_resend.specs.Keeping.{FollowsBut}
use Rattle.lapin_resend.proofs.StepLaws.{tended_but}
use Rattle.lapin_resend.proofs.Sending.{none_known, known_first}
use Rattle.lapin_resend.proofs.sender.Resend.new.Goals as goal

pub returns : goal.returns
returns c =
    let first : code.Publisher = record { joined = c.in_ok-new.field-0; messages = c.new-2.result; selects = false } in
    let begins : FollowsBut c.args.frame_max [] no_publisher first = record {
      follows = record {
        joined = c.in_ok-new.ensures.stands;
        running = ap (λ (k : JoinedRun). k.stopped) c.in_ok-new.ensures.made;
        messages = ap (map standing) c.new-2.ensures.items;
        selects = refl;
      };
      places = ap (map place) c.new-2.ensures.items;
      settled = tt;
    } in
    let stands : FollowsBut c.args.frame_max [] (tended c.args.frame_max no_publisher) c.tend.new.self = tended_but c.args.frame_max [] no_publisher first c.tend.new.self c.in_ok-tend.ensures.goes c.in_ok-tend.ensures.places begins in
    record {
      max = refl;
      count = refl;
      known = c.new-3.ensures.items ∙ none_known c.args.frame_max;
      follows = λ _. known_first c.args.frame_max c.tend.new.self c.new-3.result.items c.new-3.ensures.items stands;
    }
