use Rattle.std.proofs.Common.{◌≡◌, ◌∙◌, ◌≤◌, ℕ, List, ap, sym, arith, refl, true, false}
use Rattle.lapin_rules.specs.ReturnLists.{ReturnLists}
use Rattle.lapin_rules.specs.Words.{with_channel}
use Rattle.std.specs.List.{list_any}
use Rattle.lapin_confirm.specs.PublishStates.{is_open_on}
use Rattle.lapin_tables.specs.ByChannel.{at_channel}
use Rattle.lapin_confirm.specs.ConfirmState.{return_lists_in, messages_on}
use Rattle.lapin_confirm.specs.Drain.{Remains, remaining, less_all}
use Rattle.lapin_confirm.specs.Ties.{returned_by_channel_of, promised}
use Rattle.lapin_confirm.proofs.Asides.{none-open}
use Rattle.lapin_confirm.proofs.ConfirmModes.{has-mode, confirm_modes-begun, fresh-mode, same-publish_states, all-same}
use Rattle.lapin_confirm.proofs.ReturnedByChannel.{early-renewed, early-aside}
use Rattle.lapin_confirm.proofs.Whole.{tied-fresh}
use Rattle.lapin_confirm.proofs.Roomy.{all-begun, room-begun}
use Rattle.lapin_confirm.proofs.ShownFull.{not-limited, shows-begun}
use Rattle.lapin_confirm.proofs.confirms.Confirms.begin.Goals as goal
use Rattle.lapin_tables.proofs.Bools.{on_err}

pub invariant_of-self-2 : goal.invariant_of-self-2
invariant_of-self-2 c =
    let closed : list_any (is_open_on c.args.channel) c.self.inside.cells.slots ≡ false = rw (← c.self.view_is) at c.requires in
    let still : list_any (is_open_on c.args.channel) c.renew_returned_messages.new.cells.slots ≡ false =
    ap (λ (r : Remains). list_any (is_open_on c.args.channel) r.cells) c.in_ok-renew_returned_messages.ensures.remains
    ∙ none-open c.args.channel (return_lists_in (at_channel c.args.channel (returned_by_channel_of c.self.inside.returned_by_channel.entries))).aside (remaining c.self.inside.cells.slots c.self.inside.origins.slots) closed in
    let fresh = c.in_ok-mode.ensures.made in
    let cells : promised c.self.inside.rooms.entries ≤ c.renew_returned_messages.new.cells.spare = omega (arith, c.self.invariant.room.cells, c.renew_returned_messages.ensures.kept.0) in
    rw (c.put_confirm_mode.ensures, c.make_place.ensures.same)
    (record {
      tied = all-begun c.args.channel c.in_ok-mode.mode c.self.inside.confirm_modes.entries c.renew_returned_messages.new.cells.slots (c.renew_returned_messages.ensures.tied c.self.inside.confirm_modes.entries c.self.invariant.tied) (tied-fresh c.args.channel c.in_ok-mode.mode c.renew_returned_messages.new.cells.slots fresh.0 still);
      room = record {
        cells = cells;
        tags = room-begun c.args.channel _ c.in_ok-mode.mode c.self.inside.rooms.entries c.self.inside.confirm_modes.entries c.self.invariant.room.tags fresh.0.queued fresh.1 c.is_promised-promised.ensures;
        messages = c.renew_returned_messages.ensures.messages c.self.inside.rooms.entries c.is_promised-promised.ensures c.self.invariant.room.messages;
      };
      origins = record {
        count = c.renew_returned_messages.ensures.counts.1 ∙ c.self.invariant.origins.count ∙ sym c.renew_returned_messages.ensures.counts.0;
        room = omega (arith, c.self.invariant.origins.room, c.renew_returned_messages.ensures.kept.1);
      };
      early = omega (arith, c.self.invariant.early, c.renew_returned_messages.ensures.early_room);
      full = shows-begun c.args.channel c.in_ok-mode.mode c.make_place.new.full c.remove.new.self c.self.inside.confirm_modes.entries c.make_place.ensures.full c.in_ok-make_place.ensures.reached (not-limited c.in_ok-mode.mode fresh.0.limit) c.remove.ensures.here c.remove.ensures.others c.remove.ensures.reach;
    })

pub returns-clause-ok : goal.returns-clause-ok
returns-clause-ok c =
    let lists = returned_by_channel_of c.self.inside.returned_by_channel.entries in
    let early = messages_on c.args.channel c.self.inside.early.items in
    let remains = c.in_ok-renew_returned_messages.ensures.remains ∙ ap (λ (ns : List ℕ). less_all ns (remaining c.self.inside.cells.slots c.self.inside.origins.slots)) (early-aside early (at_channel c.args.channel lists)) in
    rw (← c.self.view_is, c.put_confirm_mode.ensures, c.make_place.ensures.same)
    (all-same _ _ _ _ _ _ _ _
    (same-publish_states _ _ _ _ (confirm_modes-begun c.args.channel c.in_ok-mode.mode c.self.inside.confirm_modes.entries (fresh-mode c.in_ok-mode.mode c.in_ok-mode.ensures.made.0)) (ap (λ (r : Remains). r.cells) remains))
    (c.in_ok-renew_returned_messages.ensures.ok ∙ ap (λ (l : ReturnLists). with_channel c.args.channel l lists) (early-renewed early (at_channel c.args.channel lists)))
    c.in_ok-renew_returned_messages.ensures.early
    (ap (λ (r : Remains). r.origins) remains))

pub invariant_of-self-in_err-renew_returned_messages : goal.invariant_of-self-in_err-renew_returned_messages
invariant_of-self-in_err-renew_returned_messages c =
    let cells : promised c.self.inside.rooms.entries ≤ c.renew_returned_messages.new.cells.spare = omega (arith, c.self.invariant.room.cells, c.renew_returned_messages.ensures.kept.0) in
    rw c.make_place.ensures.same
    (record {
      tied = c.renew_returned_messages.ensures.tied c.self.inside.confirm_modes.entries c.self.invariant.tied;
      room = record {
        cells = cells;
        tags = c.self.invariant.room.tags;
        messages = c.renew_returned_messages.ensures.messages c.self.inside.rooms.entries c.is_promised-promised.ensures c.self.invariant.room.messages;
      };
      origins = record {
        count = c.renew_returned_messages.ensures.counts.1 ∙ c.self.invariant.origins.count ∙ sym c.renew_returned_messages.ensures.counts.0;
        room = omega (arith, c.self.invariant.origins.room, c.renew_returned_messages.ensures.kept.1);
      };
      early = omega (arith, c.self.invariant.early, c.renew_returned_messages.ensures.early_room);
      full = c.make_place.ensures.full;
    })

pub returns-in_err-renew_returned_messages-clause-err : goal.returns-in_err-renew_returned_messages-clause-err
returns-in_err-renew_returned_messages-clause-err c =
    rw (← c.self.view_is, c.make_place.ensures.same)
    (on_err _ _ (all-same _ _ _ _ _ _ _ _ (same-publish_states _ _ _ _ refl (ap (λ (r : Remains). r.cells) c.in_err-renew_returned_messages.ensures.same)) (ap returned_by_channel_of c.in_err-renew_returned_messages.ensures.err) c.in_err-renew_returned_messages.ensures.early_same (ap (λ (r : Remains). r.origins) c.in_err-renew_returned_messages.ensures.same)))

pub returns-in_err-make_place-clause-succeeds : goal.returns-in_err-make_place-clause-succeeds
returns-in_err-make_place-clause-succeeds c = λ lined returned_messages none.
    let no : false ≡ true = c.in_err-make_place.ensures.succeeds (has-mode c.args.channel c.self.inside.confirm_modes.entries (rw (← c.self.view_is) at lined)) in
    cc
