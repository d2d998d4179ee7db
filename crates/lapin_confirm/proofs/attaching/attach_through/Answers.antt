use Rattle.std.proofs.Common.{refl, ◌∙◌, ◌+◌, ◌-◌, List, ℕ, ap, sym, arith}
use Rattle.lapin_rules.specs.ReturnLists.{attached_to_all}
use Rattle.lapin_confirm.specs.ReturnedMessages.{pending_from}
use Rattle.lapin_confirm.proofs.Spans.{first_given}
use Rattle.lapin_confirm.proofs.Attachments.{attach-next, attach-nothing, attach-start, attach-none}
use Rattle.lapin_confirm.proofs.attaching.attach_through.Goals as goal

pub returns-in_default-clause-return_lists : goal.returns-in_default-clause-return_lists
returns-in_default-clause-return_lists c = sym (ap (λ (ns : List ℕ). attached_to_all ns c.args.returned_messages.now.return_lists) (attach-none c.args.limit c.args.tags.now.slots (sym c.in_default.ensures)))

pub returns-then-has_none_waiting-clause-return_lists : goal.returns-then-has_none_waiting-clause-return_lists
returns-then-has_none_waiting-clause-return_lists c = sym (attach-nothing (pending_from (c.loop-tag.tag + 1) (c.args.limit - c.loop-tag.tag) c.args.tags.now.slots) c.loop-tag.returned_messages.return_lists (c.if-has_none_waiting.ensures.0 refl)) ∙ c.loop-tag.invariant.same

pub overflow_sub-tag : goal.overflow_sub-tag
overflow_sub-tag c = (first_given c.in-Some.first c.args.tags.now.slots (sym c.in-Some.ensures)).0

pub loop-tag-init : goal.loop-tag-init
loop-tag-init c = record {
  same = ap (λ (ns : List ℕ). attached_to_all ns c.args.returned_messages.now.return_lists) (attach-start c.in-Some.first c.args.limit c.args.tags.now.slots (sym c.in-Some.ensures) (first_given c.in-Some.first c.args.tags.now.slots (sym c.in-Some.ensures)).0);
  room = λ has. has;
}

pub loop-tag-preserved : goal.loop-tag-preserved
loop-tag-preserved c = record {
  same = attach-next c.loop-tag.tag c.args.limit c.args.tags.now.slots c.loop-tag.returned_messages.return_lists c.attach_tag.new.returned_messages.return_lists (omega arith) c.attach_tag.ensures.return_lists ∙ c.loop-tag.invariant.same;
  room = λ has. c.attach_tag.ensures.room (c.loop-tag.invariant.room has);
}
