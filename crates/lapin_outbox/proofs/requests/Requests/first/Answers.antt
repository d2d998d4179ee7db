use Rattle.std.proofs.Common.{sym, ◌∙◌, ap, arith}
use Rattle.std.specs.List.{find, position}
use Rattle.std.specs.Option.{option_copied}
use Rattle.lapin_rules.specs.Requests.{is_kind}
use Rattle.lapin_outbox.specs.Open.{OpenOnChannel}
use Rattle.lapin_outbox.proofs.Firsts.{within, find-there, find-nowhere, lent-there}
use Rattle.lapin_outbox.proofs.requests.Requests.first.Goals as goal

pub returns-in_err-place : goal.returns-in_err-place
returns-in_err-place c = ap option_copied c.from_residual.ensures ∙ sym (find-nowhere (is_kind c.args.kind) c.args.self.now.open_requests (sym c.place_of.ensures ∙ c.in_err-place.was))

pub returns : goal.returns
returns c =
    let view = ap (λ (o : OpenOnChannel). o.open_requests) c.self.view_is in
    let at = ap (position (is_kind c.args.kind)) view ∙ sym c.place_of.ensures ∙ c.in_ok-place.was in
    let there = within (is_kind c.args.kind) c.self.inside.requests.items c.in_ok-place.place at in
    lent-there c.self.inside.requests.items c.in_ok-place.place c.get.result there (c.get.ensures.variant.1 (omega (arith, there))) c.get.ensures.lookup
    ∙ sym (find-there (is_kind c.args.kind) c.self.inside.requests.items c.in_ok-place.place at)
    ∙ ap (find (is_kind c.args.kind)) view
