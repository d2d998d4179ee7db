use Rattle.std.proofs.Common.{refl}
use Rattle.lapin_handshake.specs.Starting.{Fields}
use Rattle.lapin_handshake.proofs.Places.{properties_stand}
use Rattle.lapin_handshake.proofs.start.properties_place.Goals as goal

pub returns : goal.returns
returns c =
    let s = c.in_ok-start.start in
    let f : Fields = (s.major, s.minor, s.properties.now, s.mechanisms.now, s.locales.now) in
    (f, c.in_ok-start.ensures, properties_stand c.args.bytes.now f c.in_ok-start.ensures, refl)
