use Rattle.std.proofs.Common.{◌+◌, ℕ, ◌≡◌, length, ◌∙◌, List, ◌∷◌, [], ◌++◌, Option, Some, refl, sym, ap, subst, arith}
use Rattle.std.proofs.lemmas.List.{length_push}
use Rattle.lapin_tables.specs.ByChannel.{at_channel}
use Rattle.lapin_confirm.specs.declared.cell.Cell.{Cell}
use Rattle.lapin_confirm.specs.declared.cell.Cell.TheVariants as cell
use Rattle.lapin_confirm.specs.declared.origin.Origin.{Origin}
use Rattle.lapin_confirm.specs.ConfirmState.{new_origin}
use Rattle.lapin_confirm.specs.WithRoom.{spare_in}
use Rattle.lapin_confirm.specs.FullSet.{is_full_mode}
use Rattle.lapin_confirm.specs.Ties.{TagFits}
use Rattle.lapin_confirm.proofs.ConfirmModes.{no-mode, confirm_modes-same, same-mode, same-publish_states, same-confirm_state}
use Rattle.lapin_confirm.proofs.Whole.{tied-of, all-on, tied-roomier, tied_at-joined}
use Rattle.lapin_confirm.proofs.Roomy.{room-used}
use Rattle.lapin_confirm.proofs.ShownFull.{same-full, shows-same}
use Rattle.lapin_confirm.proofs.confirms.Confirms.add.Goals as goal

pushed : {X Y : Type 0} (xs : List X) (ys : List Y) (x : X) (y : Y) (us : List X) (vs : List Y) → length xs ≡ length ys → us ≡ xs ++ x ∷ [] → vs ≡ ys ++ y ∷ [] → length us ≡ length vs
pushed xs ys x y us vs same left right = ap length left ∙ length_push xs x ∙ ap (λ (n : ℕ). n + 1) same ∙ sym (ap length right ∙ length_push ys y)

pub unreachable-requires : goal.unreachable-requires
unreachable-requires c = no-mode c.args.channel c.self.inside.confirm_modes.entries (sym c.in_default.ensures.value) (rw (← c.self.view_is) at c.requires)

pub use_room-requires-clause-tags : goal.use_room-requires-clause-tags
use_room-requires-clause-tags c = subst (TagFits (spare_in (at_channel c.args.channel c.self.inside.rooms.entries))) (sym c.in-Some.ensures.value) (c.self.invariant.room.tags c.args.channel)

pub invariant_of-self : goal.invariant_of-self
invariant_of-self c =
    let is = sym c.in-Some.ensures.value in
    let tied = tied-of c.args.channel c.in-Some.mode.now c.self.inside.confirm_modes.entries c.self.inside.cells.slots is c.self.invariant.tied in
    record {
      tied =
          all-on c.args.channel c.in-Some.mode.now c.use_room.new.mode c.self.inside.confirm_modes.entries c.self.inside.cells.slots c.use_room.new.cells.slots is c.self.invariant.tied
          (tied-roomier c.args.channel c.in-Some.mode.now c.use_room.new.mode c.self.inside.cells.slots c.use_room.new.cells.slots tied c.use_room.ensures.rest c.use_room.ensures.tags c.use_room.ensures.kept c.use_room.ensures.cells)
          (λ d o other tied. rw c.use_room.ensures.cells tied);
      room = room-used c.args.channel c.in-Some.mode.now c.use_room.new.mode c.self.inside.rooms.entries c.use_room.new.rooms.entries c.self.inside.confirm_modes.entries c.self.inside.returned_by_channel.entries c.self.inside.cells.spare _ is c.self.invariant.room c.use_room.ensures.others c.use_room.ensures.used c.use_room.ensures.fits.0 c.use_room.ensures.kept;
      origins = record { count = ap length c.use_room.ensures.origins ∙ c.self.invariant.origins.count ∙ sym (ap length c.use_room.ensures.cells); room = c.use_room.ensures.fits.1 };
      early = omega (arith, c.self.invariant.early, c.use_room.ensures.less);
      full = shows-same c.args.channel c.in-Some.mode.now c.use_room.new.mode c.self.inside.full c.self.inside.confirm_modes.entries is (ap is_full_mode c.use_room.ensures.rest) c.self.invariant.full;
    }

pub invariant_of-self-2 : goal.invariant_of-self-2
invariant_of-self-2 c =
    let is = sym c.in-Some.ensures.value in
    record {
      tied =
          all-on c.args.channel c.in-Some.mode.now c.enqueue.new.mode c.self.inside.confirm_modes.entries c.self.inside.cells.slots c.enqueue.new.cells.slots is c.self.invariant.tied
          c.enqueue.ensures.tied
          (λ d o other tied. rw (c.enqueue.ensures.cells, c.use_room.ensures.cells) (tied_at-joined c.args.channel d o c.self.inside.cells.slots other tied));
      room = room-used c.args.channel c.in-Some.mode.now c.enqueue.new.mode c.self.inside.rooms.entries c.use_room.new.rooms.entries c.self.inside.confirm_modes.entries c.self.inside.returned_by_channel.entries c.self.inside.cells.spare _ is c.self.invariant.room c.use_room.ensures.others c.use_room.ensures.used (omega (arith, c.in_default-use_room.ensures.spare, c.enqueue.ensures.spare)) c.enqueue.ensures.tied.room;
      origins = record { count = pushed c.use_room.new.origins.slots c.use_room.new.cells.slots _ _ c.push_reserved.new.self.slots c.enqueue.new.cells.slots (ap length c.use_room.ensures.origins ∙ c.self.invariant.origins.count ∙ sym (ap length c.use_room.ensures.cells)) c.push_reserved.ensures.slots c.enqueue.ensures.cells; room = omega (arith, c.in_default-use_room.ensures.origin, c.push_reserved.ensures.spare) };
      early = omega (arith, c.self.invariant.early, c.use_room.ensures.less);
      full = shows-same c.args.channel c.in-Some.mode.now c.enqueue.new.mode c.self.inside.full c.self.inside.confirm_modes.entries is (same-full c.use_room.new.mode c.enqueue.new.mode c.enqueue.ensures.mode c.enqueue.ensures.pending ∙ ap is_full_mode c.use_room.ensures.rest) c.self.invariant.full;
    }

pub returns-in-Err-clause-err : goal.returns-in-Err-clause-err
returns-in-Err-clause-err c =
    rw (← c.self.view_is)
    (same-confirm_state _ _ _ _ _ _
    (same-publish_states _ _ _ _ (confirm_modes-same c.args.channel c.in-Some.mode.now c.use_room.new.mode c.self.inside.confirm_modes.entries (sym c.in-Some.ensures.value) (same-mode c.in-Some.mode.now c.use_room.new.mode c.use_room.ensures.rest c.use_room.ensures.tags)) c.use_room.ensures.cells)
    refl c.use_room.ensures.origins)

pub returns-clause-ok : goal.returns-clause-ok
returns-clause-ok c =
    rw (← c.self.view_is)
    (same-confirm_state _ _ _ _ _ _
    (same-publish_states _ _ _ _
    (confirm_modes-same c.args.channel c.in-Some.mode.now c.enqueue.new.mode c.self.inside.confirm_modes.entries (sym c.in-Some.ensures.value)
    (c.enqueue.ensures.mode ∙ same-mode c.in-Some.mode.now c.use_room.new.mode c.use_room.ensures.rest c.use_room.ensures.tags))
    (c.enqueue.ensures.cells ∙ ap (λ (xs : List (Option Cell)). xs ++ Some (cell.Queued c.args.channel) ∷ []) c.use_room.ensures.cells))
    refl
    (c.push_reserved.ensures.slots ∙ ap (λ (xs : List (Option Origin)). xs ++ Some (new_origin c.args.channel) ∷ []) c.use_room.ensures.origins))
