use Rattle.lapin_delivery.proofs.Cancelling.{asked-room}
use Rattle.lapin_delivery.proofs.deliveries.Deliveries.ask_and_cancel.Goals as goal

pub unwrap-requires : goal.unwrap-requires
unwrap-requires c = c.deregister.ensures.succeeds (asked-room c.args.channel c.args.tag.now c.args.self.now.consumers c.start_cancel_one.new.self c.start_cancel_one.ensures.change c.start_cancel_one.ensures.kept c.requires)
