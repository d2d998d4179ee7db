use Rattle.std.proofs.Common.{sym, ◌∙◌}
use Rattle.lapin_types.specs.declared.event.Event.TheVariants as event
use Rattle.lapin_tokens.specs.Fields.Field.{flag}
use Rattle.lapin_tokens.specs.Reading.{field_at}
use Rattle.lapin_text.specs.LineReading.{whole, event_of_word}
use Rattle.lapin_text.specs.declared.words.Word.TheVariants as word
use Rattle.lapin_lines.proofs.Taking.{taken, last_said}
use Rattle.lapin_lines.proofs.requests.take_next.Goals as goal

pub returns-in_ok-print_next-in-Some : goal.returns-in_ok-print_next-in-Some
returns-in_ok-print_next-in-Some c =
    let read = field_at flag c.args.tokens.now in
    let said = last_said event.Next read c.in-Some.flow (sym (c.in_ok-flow.ensures read c.flag-flow.ensures) ∙ c.in-Some.is) in
    taken (whole (event_of_word word.Next c.args.tokens.now)) (event.Next c.in-Some.flow) c.args.session.now c.print_next.new.session c.args.text.now.items c.print_next.new.text.items said c.in_ok-print_next-in-Some.ensures
