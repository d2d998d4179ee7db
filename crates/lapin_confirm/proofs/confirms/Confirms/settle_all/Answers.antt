use Rattle.std.proofs.Common.{length, ap, ◌∙◌}
use Rattle.std.proofs.lemmas.List.{length-map}
use Rattle.std.proofs.Common.{◌≡◌, ℕ, List, [], Some, None, ap, ◌≤◌, ◌∙◌, nat_le, length, sym, refl, arith}
use Rattle.std.proofs.lemmas.Bool.{le-leb}
use Rattle.lapin_tables.proofs.SlotLaws.{given}
use Rattle.lapin_rules.specs.ConfirmReadings.{covers, kind_outcome}
use Rattle.std.specs.List.{range_with_len}
use Rattle.lapin_rules.specs.ReturnLists.{attached_to_all}
use Rattle.lapin_rules.specs.ReturnReadings.{taking}
use Rattle.lapin_tables.specs.ByChannel.{at_channel, on_channel}
use Rattle.lapin_confirm.specs.PublishStates.{last_in, multiple_of}
use Rattle.lapin_confirm.specs.ConfirmState.{number_from}
use Rattle.lapin_confirm.specs.Ties.{confirm_mode_states, returned_by_channel_of}
use Rattle.lapin_confirm.proofs.Covered.{covered-all}
use Rattle.lapin_confirm.proofs.ReturnedByChannel.{on-still}
use Rattle.lapin_confirm.proofs.ConfirmModes.{mode-at, confirm_modes-same, same-publish_states, same-confirm_state}
use Rattle.lapin_confirm.proofs.Roomy.{same-origins, room-kept}
use Rattle.lapin_confirm.proofs.Whole.{tied-of, untouched-of, all-settled}
use Rattle.lapin_confirm.proofs.Settled.{settled-same, settled-untouched}
use Rattle.lapin_confirm.proofs.ShownFull.{has-place, shows-on, unlimited, same-limit}
use Rattle.lapin_confirm.proofs.confirms.Confirms.settle_all.Goals as goal

pub invariant_of-self-2 : goal.invariant_of-self-2
invariant_of-self-2 c =
    let is = sym c.in-Some.ensures.value in
    let room = room-kept c.args.channel c.in-Some.mode.now c.settle_through.new.mode c.self.inside.rooms.entries c.self.inside.confirm_modes.entries c.self.inside.returned_by_channel.entries c.self.inside.cells.spare c.settle_through.new.cells.spare is c.self.invariant.room c.settle_through.ensures.room c.settle_through.ensures.spare in
    record {
      tied = all-settled c.args.channel _ _ c.in-Some.mode.now c.settle_through.new.mode c.self.inside.confirm_modes.entries c.self.inside.cells.slots c.settle_through.new.cells.slots is c.self.invariant.tied c.settle_through.ensures.tied c.settle_through.ensures.cells;
      room = record { cells = room.cells; tags = room.tags; messages = c.attach_on.ensures.room c.self.inside.rooms.entries c.self.invariant.room.messages };
      origins = same-origins _ _ c.settle_through.new.cells.slots _ c.self.invariant.origins (ap length c.settle_through.ensures.cells ∙ length-map c.self.inside.cells.slots _);
      early = c.self.invariant.early;
      full = shows-on c.args.channel c.in-Some.mode.now c.settle_through.new.mode c.self.inside.full c.show_limited.new.full c.self.inside.confirm_modes.entries (sym c.in-Some.ensures.value) c.self.invariant.full c.show_limited.ensures;
    }

pub returns-in_default-clause-what : goal.returns-in_default-clause-what
returns-in_default-clause-what c =
    let absent = sym c.in_default.ensures.value in
    let none : last_in (at_channel c.args.channel (confirm_mode_states c.self.inside.confirm_modes.entries)) ≡ 0 = ap last_in (mode-at c.args.channel c.self.inside.confirm_modes.entries None absent) in
    rw (← c.self.view_is)
    (same-confirm_state _ _ _ _ _ _
    (same-publish_states _ _ _ _ refl (sym (settled-untouched c.args.channel _ _ c.self.inside.cells.slots (untouched-of c.args.channel c.self.inside.confirm_modes.entries c.self.inside.cells.slots absent c.self.invariant.tied))))
    (rw none (sym (on-still c.args.channel (attached_to_all []) (returned_by_channel_of c.self.inside.returned_by_channel.entries) (λ l. refl))))
    refl)

pub returns-clause-what : goal.returns-clause-what
returns-clause-what c =
    let is = sym c.in-Some.ensures.value in
    let tied = tied-of c.args.channel c.in-Some.mode.now c.self.inside.confirm_modes.entries c.self.inside.cells.slots is c.self.invariant.tied in
    rw (← c.self.view_is)
    (same-confirm_state _ _ _ _ _ _
    (same-publish_states _ _ _ _
    (confirm_modes-same c.args.channel c.in-Some.mode.now c.settle_through.new.mode c.self.inside.confirm_modes.entries (sym c.in-Some.ensures.value) c.settle_through.ensures.mode)
    (c.settle_through.ensures.cells ∙ rw c.outcome_of.ensures (settled-same c.args.channel (λ t. nat_le t c.count-last.result) _ (kind_outcome c.args.kind) c.self.inside.cells.slots (λ n t there.
    let last : t ≤ length c.in-Some.mode.now.tags.slots = given t n c.in-Some.mode.now.tags.slots (tied.named n t there) in
    le-leb t c.count-last.result (omega (arith, c.count-last.ensures))))))
    (c.attach_on.ensures.return_lists ∙ ap (λ (ns : List ℕ). on_channel c.args.channel (attached_to_all ns) (returned_by_channel_of c.self.inside.returned_by_channel.entries))
    (covered-all c.args.channel c.args.kind c.in-Some.mode.now c.self.inside.cells.slots (range_with_len 1 c.count-last.result) tied
    ∙ ap (λ (n : ℕ). taking (covers (multiple_of c.args.kind 0)) (λ t. number_from c.args.channel t 1 c.self.inside.cells.slots) (range_with_len 1 n))
    (c.count-last.ensures ∙ ap last_in (sym (mode-at c.args.channel c.self.inside.confirm_modes.entries (Some c.in-Some.mode.now) is)))))
    refl)

pub show_limited-requires-clause-placed : goal.show_limited-requires-clause-placed
show_limited-requires-clause-placed c = has-place c.args.channel c.in-Some.mode.now c.self.inside.full c.self.inside.confirm_modes.entries (sym c.in-Some.ensures.value) c.self.invariant.full

pub show_limited-requires-clause-unlimited : goal.show_limited-requires-clause-unlimited
show_limited-requires-clause-unlimited c = unlimited c.args.channel c.in-Some.mode.now c.settle_through.new.mode c.self.inside.full c.self.inside.confirm_modes.entries (sym c.in-Some.ensures.value) c.self.invariant.full (same-limit c.in-Some.mode.now c.settle_through.new.mode c.settle_through.ensures.mode)
