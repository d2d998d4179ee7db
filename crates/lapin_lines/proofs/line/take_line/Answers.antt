use Rattle.std.proofs.Common.{◌∙◌, ap, Some}
use Rattle.lapin_text.specs.declared.words.Word.TheVariants as word
use Rattle.lapin_lines.proofs.Taking.{by_word}
use Rattle.lapin_lines.proofs.line.take_line.Goals as goal

pub returns-in-Some-Next : goal.returns-in-Some-Next
returns-in-Some-Next c =
    by_word c.args.line.now c.new-tokens.result c.first_word.result word.Next c.first_word.new.tokens c.take_next.result c.args.session.now c.take_next.new.session c.args.text.now.items c.take_next.new.text.items
    c.new-tokens.ensures c.first_word.ensures.event (c.in-Some-Next.is ∙ ap Some c.in-Some-Next.field-0-is) c.take_next.ensures

pub returns-in-Some-Confirm : goal.returns-in-Some-Confirm
returns-in-Some-Confirm c =
    by_word c.args.line.now c.new-tokens.result c.first_word.result word.Confirm c.first_word.new.tokens c.take_confirm.result c.args.session.now c.take_confirm.new.session c.args.text.now.items c.take_confirm.new.text.items
    c.new-tokens.ensures c.first_word.ensures.event (c.in-Some-Confirm.is ∙ ap Some c.in-Some-Confirm.field-0-is) c.take_confirm.ensures

pub returns-in-Some-Recv : goal.returns-in-Some-Recv
returns-in-Some-Recv c =
    by_word c.args.line.now c.new-tokens.result c.first_word.result word.Recv c.first_word.new.tokens c.take_frame.result c.args.session.now c.take_frame.new.session c.args.text.now.items c.take_frame.new.text.items
    c.new-tokens.ensures c.first_word.ensures.event (c.in-Some-Recv.is ∙ ap Some c.in-Some-Recv.field-0-is) c.take_frame.ensures

pub returns-in-Some-Call : goal.returns-in-Some-Call
returns-in-Some-Call c =
    by_word c.args.line.now c.new-tokens.result c.first_word.result word.Call c.first_word.new.tokens c.take_call.result c.args.session.now c.take_call.new.session c.args.text.now.items c.take_call.new.text.items
    c.new-tokens.ensures c.first_word.ensures.event (c.in-Some-Call.is ∙ ap Some c.in-Some-Call.field-0-is) c.take_call.ensures

pub returns-in-Some-Ticket : goal.returns-in-Some-Ticket
returns-in-Some-Ticket c =
    by_word c.args.line.now c.new-tokens.result c.first_word.result word.Ticket c.first_word.new.tokens c.take_ticket.result c.args.session.now c.take_ticket.new.session c.args.text.now.items c.take_ticket.new.text.items
    c.new-tokens.ensures c.first_word.ensures.event (c.in-Some-Ticket.is ∙ ap Some c.in-Some-Ticket.field-0-is) c.take_ticket.ensures

pub returns-in-Some-Consumer : goal.returns-in-Some-Consumer
returns-in-Some-Consumer c =
    by_word c.args.line.now c.new-tokens.result c.first_word.result word.Consumer c.first_word.new.tokens c.take_consumer.result c.args.session.now c.take_consumer.new.session c.args.text.now.items c.take_consumer.new.text.items
    c.new-tokens.ensures c.first_word.ensures.event (c.in-Some-Consumer.is ∙ ap Some c.in-Some-Consumer.field-0-is) c.take_consumer.ensures

pub returns-in-Some-Acker : goal.returns-in-Some-Acker
returns-in-Some-Acker c =
    by_word c.args.line.now c.new-tokens.result c.first_word.result word.Acker c.first_word.new.tokens c.take_acker.result c.args.session.now c.take_acker.new.session c.args.text.now.items c.take_acker.new.text.items
    c.new-tokens.ensures c.first_word.ensures.event (c.in-Some-Acker.is ∙ ap Some c.in-Some-Acker.field-0-is) c.take_acker.ensures
