use Rattle.std.proofs.Common.{sym, refl, arith}
use Rattle.lapin_confirm.proofs.ConfirmModes.{confirm_modes-same, same-mode}
use Rattle.lapin_confirm.proofs.Roomy.{grown-tied, grown-tags, tag-there}
use Rattle.lapin_confirm.proofs.ShownFull.{shows-same}
use Rattle.lapin_confirm.proofs.rooms.make_room_for_tag.Goals as goal

pub returns-in_err-reserve_beside-clause-confirm_modes : goal.returns-in_err-reserve_beside-clause-confirm_modes
returns-in_err-reserve_beside-clause-confirm_modes c = confirm_modes-same c.args.channel c.in-Some.mode.now (record c.in-Some.mode.now { tags = c.reserve_beside.new.self }) c.args.confirm_modes.now.entries (sym c.in-Some.ensures.value) (same-mode c.in-Some.mode.now (record c.in-Some.mode.now { tags = c.reserve_beside.new.self }) refl c.in_err-reserve_beside.ensures.same)

pub returns-in_err-reserve_beside-clause-tied : goal.returns-in_err-reserve_beside-clause-tied
returns-in_err-reserve_beside-clause-tied c = λ cells all. grown-tied c.args.channel c.in-Some.mode.now _ c.args.confirm_modes.now.entries cells (sym c.in-Some.ensures.value) refl c.in_err-reserve_beside.ensures.same c.in_err-reserve_beside.ensures.kept all

pub returns-in_err-reserve_beside-clause-tags : goal.returns-in_err-reserve_beside-clause-tags
returns-in_err-reserve_beside-clause-tags c = λ rooms fit. grown-tags c.args.channel c.in-Some.mode.now _ rooms c.args.confirm_modes.now.entries (sym c.in-Some.ensures.value) refl c.in_err-reserve_beside.ensures.kept fit

pub returns-clause-confirm_modes : goal.returns-clause-confirm_modes
returns-clause-confirm_modes c = confirm_modes-same c.args.channel c.in-Some.mode.now (record c.in-Some.mode.now { tags = c.reserve_beside.new.self }) c.args.confirm_modes.now.entries (sym c.in-Some.ensures.value) (same-mode c.in-Some.mode.now (record c.in-Some.mode.now { tags = c.reserve_beside.new.self }) refl c.in_ok-reserve_beside.ensures.same)

pub returns-clause-tied : goal.returns-clause-tied
returns-clause-tied c = λ cells all. grown-tied c.args.channel c.in-Some.mode.now _ c.args.confirm_modes.now.entries cells (sym c.in-Some.ensures.value) refl c.in_ok-reserve_beside.ensures.same c.in_ok-reserve_beside.ensures.kept all

pub returns-clause-tags : goal.returns-clause-tags
returns-clause-tags c = λ rooms fit. grown-tags c.args.channel c.in-Some.mode.now _ rooms c.args.confirm_modes.now.entries (sym c.in-Some.ensures.value) refl c.in_ok-reserve_beside.ensures.kept fit

pub returns-clause-more : goal.returns-clause-more
returns-clause-more c = tag-there 1 c.args.channel c.in-Some.mode.now _ c.args.confirm_modes.now.entries (sym c.in-Some.ensures.value) (omega (arith, c.in_ok-reserve_beside.ensures.room))

pub returns-in_err-reserve_beside-clause-full : goal.returns-in_err-reserve_beside-clause-full
returns-in_err-reserve_beside-clause-full c = λ full all. shows-same c.args.channel c.in-Some.mode.now (record c.in-Some.mode.now { tags = c.reserve_beside.new.self }) full c.args.confirm_modes.now.entries (sym c.in-Some.ensures.value) refl all

pub returns-clause-full : goal.returns-clause-full
returns-clause-full c = λ full all. shows-same c.args.channel c.in-Some.mode.now (record c.in-Some.mode.now { tags = c.reserve_beside.new.self }) full c.args.confirm_modes.now.entries (sym c.in-Some.ensures.value) refl all
