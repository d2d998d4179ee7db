use Rattle.std.proofs.Common.{◌≡◌, ◌∙◌, suc, Some, Ok, Err, refl, sym, ap, arith}
use Rattle.lapin_machine.specs.World.{World}
use Rattle.lapin_machine.specs.Way.{by_machine}
use Rattle.lapin_call.specs.Calls.{Gathered, is_item, heard, polls, waiting_for}
use Rattle.lapin_call.specs.Fates.{counted}
use Rattle.lapin_call.proofs.Items.{one_fewer}
use Rattle.lapin_call.proofs.Collected.{poll_item}
use Rattle.lapin_call.proofs.collecting.collect_from.Goals as goal

pub loop-item-smaller-in-Ok : goal.loop-item-smaller-in-Ok
loop-item-smaller-in-Ok c =
    let one : waiting_for c.args.consumer c.loop-item.session.wire ≡ suc (waiting_for c.args.consumer c.next_item.new.session.wire) = one_fewer c.args.consumer c.loop-item.session c.next_item.new.session c.in-Some.ensures.ok (sym (ap is_item c.in-Some.ensures.told)) in
    omega (arith, one)

pub loop-item-smaller : goal.loop-item-smaller
loop-item-smaller c =
    let one : waiting_for c.args.consumer c.loop-item.session.wire ≡ suc (waiting_for c.args.consumer c.next_item.new.session.wire) = one_fewer c.args.consumer c.loop-item.session c.next_item.new.session c.in-Some.ensures.ok (sym (ap is_item c.in-Some.ensures.told)) in
    omega (arith, one)

pub loop-item-preserved-in-Ok : goal.loop-item-preserved-in-Ok
loop-item-preserved-in-Ok c =
    let before : Gathered World = record { session = c.loop-item.session; fates = c.loop-item.fates.items; tally = c.loop-item.tally } in
    let after : Gathered World = record { session = c.next_item.new.session; fates = c.deliver.new.fates.items; tally = c.in_ok-tally-in-Ok.tally } in
    let same : heard (Some (Ok c.in-Ok.delivery)) c.next_item.new.session before ≡ after =
    λ i. record { session = c.next_item.new.session; fates = sym c.deliver.ensures.fates i; tally = sym (c.in_ok-tally-in-Ok.ensures ∙ ap (λ m. counted m c.loop-item.tally) c.deliver.ensures.told) i } in
    c.loop-item.invariant
    ∙ poll_item c.args.consumer (Some (Ok c.in-Ok.delivery)) c.next_item.new.session before (ap Some (sym c.in-Ok.is) ∙ c.in-Some.ensures.told) c.in-Some.ensures.ok refl
    ∙ ap (polls by_machine c.args.consumer (suc (waiting_for c.args.consumer c.next_item.new.session.wire))) same

pub loop-item-preserved : goal.loop-item-preserved
loop-item-preserved c =
    let before : Gathered World = record { session = c.loop-item.session; fates = c.loop-item.fates.items; tally = c.loop-item.tally } in
    let after : Gathered World = record { session = c.next_item.new.session; fates = c.end_waiting.new.fates.items; tally = c.loop-item.tally } in
    let same : heard (Some (Err c.in-Err.error)) c.next_item.new.session before ≡ after =
    λ i. record { session = c.next_item.new.session; fates = sym c.end_waiting.ensures i; tally = c.loop-item.tally } in
    c.loop-item.invariant
    ∙ poll_item c.args.consumer (Some (Err c.in-Err.error)) c.next_item.new.session before (ap Some (sym c.in-Err.is) ∙ c.in-Some.ensures.told) c.in-Some.ensures.ok refl
    ∙ ap (polls by_machine c.args.consumer (suc (waiting_for c.args.consumer c.next_item.new.session.wire))) same
