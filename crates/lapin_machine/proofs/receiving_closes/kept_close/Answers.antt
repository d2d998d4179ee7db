use Rattle.std.proofs.Common.{◌∙◌, ap}
use Rattle.lapin_types.specs.declared.request.ReplyKind.TheVariants as reply_kind
use Rattle.lapin_tables.specs.ByChannel.{on_channel}
use Rattle.lapin_rules.specs.Requests.{without_kind, no_requests}
use Rattle.lapin_outstanding.proofs.Channels.{on_twice}
use Rattle.lapin_machine.proofs.receiving_closes.kept_close.Goals as goal

pub returns-clause-emptied : goal.returns-clause-emptied
returns-clause-emptied c =
    ap (on_channel c.args.channel no_requests) c.take_close.ensures.waiting
    ∙ on_twice c.args.channel (without_kind reply_kind.ChannelCloseOk) no_requests c.args.replies.now.what
