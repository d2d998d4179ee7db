-- Which ackers name one delivery.
use Rattle.std.specs.Prelude.{Bool, ◌==◌, ◌&&◌}
use Rattle.lapin_types.specs.declared.acker.Acker.{Acker}

-- two ackers of one channel with one delivery tag
abbrev pub same_delivery : Acker → Acker → Bool
same_delivery a b = (a.channel_id == b.channel_id) && (a.delivery_tag == b.delivery_tag)
