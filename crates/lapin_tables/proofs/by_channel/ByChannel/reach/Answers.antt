use Rattle.std.proofs.Common.{◌≤◌, arith, length}
use Rattle.std.proofs.lemmas.Option.{slice_get_past}
use Rattle.lapin_tables.proofs.Channels.{absent}
use Rattle.lapin_tables.proofs.Index.{no-place}
use Rattle.lapin_tables.proofs.by_channel.ByChannel.reach.Goals as goal

pub returns : goal.returns
returns g c n h =
    let past : length c.self.inside.places.items ≤ n = omega (arith, c.len.ensures, h) in
    rw (← c.self.view_is) (absent n c.self.inside.entries.items (no-place n _ _ c.self.invariant.0 (slice_get_past c.self.inside.places.items n past)))
