use Rattle.std.proofs.Common.{◌∙◌, length, ap, sym, arith}
use Rattle.lapin_confirm.proofs.Asides.{forget-kept, length-marked}
use Rattle.lapin_confirm.proofs.confirms.Confirms.set_aside.Goals as goal

pub invariant_of-self : goal.invariant_of-self
invariant_of-self c = record {
  tied = c.self.invariant.tied;
  room = record { cells = c.self.invariant.room.cells; tags = c.self.invariant.room.tags; messages = c.put_by.ensures.room c.self.inside.rooms.entries c.self.invariant.room.messages };
  origins = c.self.invariant.origins;
  early = c.self.invariant.early;
  full = c.self.invariant.full;
}

pub invariant_of-self-then-resolved : goal.invariant_of-self-then-resolved
invariant_of-self-then-resolved c =
    forget-kept c.args.number _ _ _ _ _ _ _ _ (sym c.if-resolved.ensures) c.take.ensures.slots c.take.ensures.kept c.take-then-resolved.ensures.slots c.take-then-resolved.ensures.kept (c.put_by.ensures.room c.self.inside.rooms.entries) c.self.invariant

pub invariant_of-self-2 : goal.invariant_of-self-2
invariant_of-self-2 c = record {
  tied = c.self.invariant.tied;
  room = record { cells = c.self.invariant.room.cells; tags = c.self.invariant.room.tags; messages = c.put_by.ensures.room c.self.inside.rooms.entries c.self.invariant.room.messages };
  origins = record {
    count = ap length c.mark_aside.ensures.slots ∙ length-marked c.args.number _ c.self.inside.origins.slots ∙ c.self.invariant.origins.count;
    room = omega (arith, c.self.invariant.origins.room, c.mark_aside.ensures.spare);
  };
  early = c.self.invariant.early;
  full = c.self.invariant.full;
}
