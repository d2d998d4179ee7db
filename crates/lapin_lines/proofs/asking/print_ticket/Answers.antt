use Rattle.lapin_lines.proofs.Refused.{refused_met}
use Rattle.lapin_lines.proofs.asking.print_ticket.Goals as goal

pub returns-in-Err : goal.returns-in-Err
returns-in-Err c = refused_met c.put_refusal.result c.in-Err.error c.args.session.now c.make_call.new.session c.args.channel c.args.call c.args.text.now.items c.put_refusal.new.text.items c.requires.numbers c.requires.plain c.in-Err.ensures.err c.in-Err.ensures.cause c.in-Err.ensures.told c.put_refusal.ensures.memory c.put_refusal.ensures.text
