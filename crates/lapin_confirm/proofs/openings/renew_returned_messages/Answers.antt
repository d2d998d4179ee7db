use Rattle.std.proofs.Common.{Some, None, refl, sym}
use Rattle.lapin_confirm.proofs.ReturnedByChannel.{returned_messages-at, no-returned_messages, returned_by_channel-new, returned_by_channel-again}
use Rattle.lapin_confirm.proofs.Roomy.{messages-kept, messages-begun}
use Rattle.lapin_confirm.proofs.openings.renew_returned_messages.Goals as goal

pub returns-in_err-returned_messages-clause-succeeds : goal.returns-in_err-returned_messages-clause-succeeds
returns-in_err-returned_messages-clause-succeeds c = λ has. absurd (no-returned_messages c.args.channel c.args.returned_by_channel.now.entries (sym c.in_default.ensures.value) has)

pub returns-in_err-reserve-clause-succeeds : goal.returns-in_err-reserve-clause-succeeds
returns-in_err-reserve-clause-succeeds c = λ has. absurd (no-returned_messages c.args.channel c.args.returned_by_channel.now.entries (sym c.in_default.ensures.value) has)

pub returns-in_err-take_early-clause-succeeds : goal.returns-in_err-take_early-clause-succeeds
returns-in_err-take_early-clause-succeeds c = λ has. absurd (no-returned_messages c.args.channel c.args.returned_by_channel.now.entries (sym c.in_default.ensures.value) has)

pub returns-in_default-clause-ok : goal.returns-in_default-clause-ok
returns-in_default-clause-ok c = rw (c.insert_reserved.ensures.entries, c.reserve.ensures.same) (returned_by_channel-new c.args.channel c.in_ok-returned_messages.returned_messages c.args.returned_by_channel.now.entries (sym c.in_default.ensures.value) c.in_ok-returned_messages.ensures.made.0)

pub returns-in_default-clause-messages : goal.returns-in_default-clause-messages
returns-in_default-clause-messages c = λ rooms is fit. rw (c.insert_reserved.ensures.entries, c.reserve.ensures.same) (messages-begun c.args.channel c.args.promised c.in_ok-returned_messages.returned_messages rooms c.args.returned_by_channel.now.entries (sym c.in_default.ensures.value) fit is c.in_ok-returned_messages.ensures.made.1)

pub returns-clause-ok : goal.returns-clause-ok
returns-clause-ok c = returned_by_channel-again c.args.channel c.in-Some.returned_messages.now c.renew.new.self c.args.returned_by_channel.now.entries (sym c.in-Some.ensures.value) c.renew.ensures.return_lists

pub returns-clause-messages : goal.returns-clause-messages
returns-clause-messages c = λ rooms is fit. messages-kept c.args.channel c.in-Some.returned_messages.now c.renew.new.self rooms c.args.returned_by_channel.now.entries (sym c.in-Some.ensures.value) fit c.renew.ensures.place

pub returns-in_default-clause-remains : goal.returns-in_default-clause-remains
returns-in_default-clause-remains c = rw (returned_messages-at c.args.channel c.args.returned_by_channel.now.entries None (sym c.in_default.ensures.value)) refl

pub returns-clause-remains : goal.returns-clause-remains
returns-clause-remains c = rw (returned_messages-at c.args.channel c.args.returned_by_channel.now.entries (Some c.in-Some.returned_messages.now) (sym c.in-Some.ensures.value)) c.renew.ensures.remains

pub returns-in_default-clause-early : goal.returns-in_default-clause-early
returns-in_default-clause-early c = rw (returned_messages-at c.args.channel c.args.returned_by_channel.now.entries None (sym c.in_default.ensures.value)) c.in_ok-take_early.ensures.ok

pub returns-clause-early : goal.returns-clause-early
returns-clause-early c = rw (returned_messages-at c.args.channel c.args.returned_by_channel.now.entries (Some c.in-Some.returned_messages.now) (sym c.in-Some.ensures.value)) refl
