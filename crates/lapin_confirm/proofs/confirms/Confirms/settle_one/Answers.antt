use Rattle.std.proofs.Common.{length, ap, ◌∙◌}
use Rattle.std.proofs.lemmas.List.{length-map}
use Rattle.std.proofs.Common.{ap, [], List, ℕ, ◌≡◌, ◌∙◌, true, false, sym, refl, Option, Some, None}
use Rattle.std.specs.List.{list_any}
use Rattle.std.specs.Prelude.{is_some}
use Rattle.lapin_confirm.specs.PublishStates.{is_pending_as}
use Rattle.lapin_tables.specs.ByChannel.{on_channel}
use Rattle.lapin_rules.specs.ReturnLists.{attached_to_all}
use Rattle.lapin_confirm.specs.Ties.{returned_by_channel_of}
use Rattle.lapin_confirm.proofs.Covered.{covered-one}
use Rattle.lapin_confirm.proofs.ReturnedByChannel.{on-still}
use Rattle.lapin_confirm.proofs.ConfirmModes.{mode-at, confirm_modes-same, same-publish_states, same-confirm_state}
use Rattle.lapin_confirm.proofs.Roomy.{same-origins, room-kept, with-messages}
use Rattle.lapin_confirm.proofs.Whole.{tied-of, untouched-of, all-settled}
use Rattle.lapin_confirm.proofs.Settled.{settled-none, pending-tells, pending-untouched}
use Rattle.lapin_confirm.proofs.ShownFull.{same-full, shows-same, has-place, shows-on, unlimited, same-limit}
use Rattle.lapin_confirm.proofs.confirms.Confirms.settle_one.Goals as goal

not_there : {X : Type 0} (o : Option X) → false ≡ is_some o → o ≡ None
not_there None h = refl
not_there (Some x) h = cc

pub returns-in_default-clause-answer : goal.returns-in_default-clause-answer
returns-in_default-clause-answer c =
    let none = sym c.in_default.ensures.value in
    let untouched = untouched-of c.args.channel c.self.inside.confirm_modes.entries c.self.inside.cells.slots none c.self.invariant.tied in
    rw (← c.self.view_is, pending-untouched c.args.channel c.args.tag c.self.inside.cells.slots untouched, mode-at c.args.channel c.self.inside.confirm_modes.entries None none) refl

pub invariant_of-self-then-not-settle_tag : goal.invariant_of-self-then-not-settle_tag
invariant_of-self-then-not-settle_tag c =
    record {
      tied =
          all-settled c.args.channel _ _ c.in-Some.mode.now c.settle_tag.new.mode c.self.inside.confirm_modes.entries c.self.inside.cells.slots c.settle_tag.new.cells.slots (sym c.in-Some.ensures.value) c.self.invariant.tied c.settle_tag.ensures.tied c.settle_tag.ensures.cells;
      room = with-messages _ _ _ c.attach_one.new.returned_by_channel.entries _ (room-kept c.args.channel c.in-Some.mode.now c.settle_tag.new.mode c.self.inside.rooms.entries c.self.inside.confirm_modes.entries c.self.inside.returned_by_channel.entries c.self.inside.cells.spare _ (sym c.in-Some.ensures.value) c.self.invariant.room c.settle_tag.ensures.room c.settle_tag.ensures.spare) (c.attach_one.ensures.room c.self.inside.rooms.entries c.self.invariant.room.messages);
      origins = same-origins _ _ c.settle_tag.new.cells.slots _ c.self.invariant.origins (ap length c.settle_tag.ensures.cells ∙ length-map c.self.inside.cells.slots _);
      early = c.self.invariant.early;
      full = shows-same c.args.channel c.in-Some.mode.now c.settle_tag.new.mode c.self.inside.full c.self.inside.confirm_modes.entries (sym c.in-Some.ensures.value) (same-full c.in-Some.mode.now c.settle_tag.new.mode c.settle_tag.ensures.mode (c.if-not-settle_tag.ensures.as_many refl)) c.self.invariant.full;
    }

pub returns-then-not-settle_tag-clause-answer : goal.returns-then-not-settle_tag-clause-answer
returns-then-not-settle_tag-clause-answer c =
    let is = sym c.in-Some.ensures.value in
    let tied = tied-of c.args.channel c.in-Some.mode.now c.self.inside.confirm_modes.entries c.self.inside.cells.slots is c.self.invariant.tied in
    let pending : list_any (is_pending_as c.args.channel c.args.tag) c.self.inside.cells.slots ≡ false = pending-tells c.args.channel c.args.tag c.in-Some.mode.now c.self.inside.cells.slots tied ∙ sym c.if-not-settle_tag.ensures.found in
    rw (← c.self.view_is, pending, mode-at c.args.channel c.self.inside.confirm_modes.entries (Some c.in-Some.mode.now) is, c.count-current.ensures) refl

pub returns-then-not-settle_tag-clause-err : goal.returns-then-not-settle_tag-clause-err
returns-then-not-settle_tag-clause-err c =
    let is = sym c.in-Some.ensures.value in
    let tied = tied-of c.args.channel c.in-Some.mode.now c.self.inside.confirm_modes.entries c.self.inside.cells.slots is c.self.invariant.tied in
    rw (← c.self.view_is)
    (same-confirm_state _ _ _ _ _ _ (same-publish_states _ _ _ _
    (confirm_modes-same c.args.channel c.in-Some.mode.now c.settle_tag.new.mode c.self.inside.confirm_modes.entries is c.settle_tag.ensures.mode)
    (c.settle_tag.ensures.cells ∙ settled-none c.args.channel c.args.tag c.outcome_of.result c.in-Some.mode.now c.self.inside.cells.slots tied (not_there _ c.if-not-settle_tag.ensures.found)))
    (c.attach_one.ensures.return_lists ∙ rw (not_there _ c.if-not-settle_tag.ensures.found) (on-still c.args.channel (attached_to_all []) (returned_by_channel_of c.self.inside.returned_by_channel.entries) (λ l. refl))) refl)

pub invariant_of-self-2 : goal.invariant_of-self-2
invariant_of-self-2 c =
    record {
      tied =
          all-settled c.args.channel _ _ c.in-Some.mode.now c.settle_tag.new.mode c.self.inside.confirm_modes.entries c.self.inside.cells.slots c.settle_tag.new.cells.slots (sym c.in-Some.ensures.value) c.self.invariant.tied c.settle_tag.ensures.tied c.settle_tag.ensures.cells;
      room = with-messages _ _ _ c.attach_one.new.returned_by_channel.entries _ (room-kept c.args.channel c.in-Some.mode.now c.settle_tag.new.mode c.self.inside.rooms.entries c.self.inside.confirm_modes.entries c.self.inside.returned_by_channel.entries c.self.inside.cells.spare _ (sym c.in-Some.ensures.value) c.self.invariant.room c.settle_tag.ensures.room c.settle_tag.ensures.spare) (c.attach_one.ensures.room c.self.inside.rooms.entries c.self.invariant.room.messages);
      origins = same-origins _ _ c.settle_tag.new.cells.slots _ c.self.invariant.origins (ap length c.settle_tag.ensures.cells ∙ length-map c.self.inside.cells.slots _);
      early = c.self.invariant.early;
      full = shows-on c.args.channel c.in-Some.mode.now c.settle_tag.new.mode c.self.inside.full c.show_limited.new.full c.self.inside.confirm_modes.entries (sym c.in-Some.ensures.value) c.self.invariant.full c.show_limited.ensures;
    }

pub returns-clause-answer : goal.returns-clause-answer
returns-clause-answer c =
    let tied = tied-of c.args.channel c.in-Some.mode.now c.self.inside.confirm_modes.entries c.self.inside.cells.slots (sym c.in-Some.ensures.value) c.self.invariant.tied in
    let pending : list_any (is_pending_as c.args.channel c.args.tag) c.self.inside.cells.slots ≡ true = pending-tells c.args.channel c.args.tag c.in-Some.mode.now c.self.inside.cells.slots tied ∙ sym c.if-not-settle_tag.ensures.found in
    rw (← c.self.view_is, pending) refl

pub returns-clause-ok : goal.returns-clause-ok
returns-clause-ok c =
    let is = sym c.in-Some.ensures.value in
    let tied = tied-of c.args.channel c.in-Some.mode.now c.self.inside.confirm_modes.entries c.self.inside.cells.slots is c.self.invariant.tied in
    rw (← c.self.view_is, mode-at c.args.channel c.self.inside.confirm_modes.entries (Some c.in-Some.mode.now) is)
    (same-confirm_state _ _ _ _ _ _
    (same-publish_states _ _ _ _
    (confirm_modes-same c.args.channel c.in-Some.mode.now c.settle_tag.new.mode c.self.inside.confirm_modes.entries is c.settle_tag.ensures.mode)
    (c.settle_tag.ensures.cells ∙ rw c.outcome_of.ensures refl))
    (c.attach_one.ensures.return_lists ∙ ap (λ (ns : List ℕ). on_channel c.args.channel (attached_to_all ns) (returned_by_channel_of c.self.inside.returned_by_channel.entries)) (covered-one c.args.channel c.args.kind c.args.tag c.in-Some.mode.now c.self.inside.cells.slots tied))
    refl)

pub show_limited-requires-clause-placed : goal.show_limited-requires-clause-placed
show_limited-requires-clause-placed c = has-place c.args.channel c.in-Some.mode.now c.self.inside.full c.self.inside.confirm_modes.entries (sym c.in-Some.ensures.value) c.self.invariant.full

pub show_limited-requires-clause-unlimited : goal.show_limited-requires-clause-unlimited
show_limited-requires-clause-unlimited c = unlimited c.args.channel c.in-Some.mode.now c.settle_tag.new.mode c.self.inside.full c.self.inside.confirm_modes.entries (sym c.in-Some.ensures.value) c.self.invariant.full (same-limit c.in-Some.mode.now c.settle_tag.new.mode c.settle_tag.ensures.mode)
