use Rattle.std.proofs.Common.{None, sym, ◌∙◌, ap}
use Rattle.std.specs.Option.{option_copied_mut}
use Rattle.lapin_tables.proofs.Channels.{on-absent}
use Rattle.lapin_outbox.proofs.outbox.clear_error.Goals as goal

pub returns-in_default : goal.returns-in_default
returns-in_default c = sym (on-absent c.args.channel (λ _. None) c.args.errors.now.entries (sym c.get_mut.ensures.value ∙ ap option_copied_mut c.in_default.is))
