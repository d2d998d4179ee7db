use Rattle.std.proofs.Common.{sym, ◌∙◌, ap, arith}
use Rattle.std.specs.List.{find, position}
use Rattle.lapin_rules.specs.Words.{without_first}
use Rattle.lapin_rules.specs.Requests.{is_kind}
use Rattle.lapin_outbox.specs.Open.{OpenOnChannel}
use Rattle.lapin_outbox.proofs.Firsts.{within, find-there, find-nowhere, without-at, without-nowhere, taken-there, on-some}
use Rattle.lapin_outbox.proofs.requests.Requests.take_first.Goals as goal

pub returns-in_err-place-clause-taken : goal.returns-in_err-place-clause-taken
returns-in_err-place-clause-taken c = c.from_residual.ensures ∙ sym (find-nowhere (is_kind c.args.kind) c.args.self.now.open_requests (sym c.place_of.ensures ∙ c.in_err-place.was))

pub returns-in_err-place-clause-others : goal.returns-in_err-place-clause-others
returns-in_err-place-clause-others c = without-nowhere (is_kind c.args.kind) c.args.self.now.open_requests (sym c.place_of.ensures ∙ c.in_err-place.was)

pub returns-clause-taken : goal.returns-clause-taken
returns-clause-taken c =
    let view = ap (λ (o : OpenOnChannel). o.open_requests) c.self.view_is in
    let at = ap (position (is_kind c.args.kind)) view ∙ sym c.place_of.ensures ∙ c.in_ok-place.was in
    let there = within (is_kind c.args.kind) c.self.inside.requests.items c.in_ok-place.place at in
    taken-there c.self.inside.requests.items c.in_ok-place.place c.remove.result there (c.remove.ensures.variant.1 (omega (arith, there))) (λ d. c.remove.ensures.succeeds d (omega (arith, there)))
    ∙ sym (find-there (is_kind c.args.kind) c.self.inside.requests.items c.in_ok-place.place at)
    ∙ ap (find (is_kind c.args.kind)) view

pub returns-clause-others : goal.returns-clause-others
returns-clause-others c =
    let view = ap (λ (o : OpenOnChannel). o.open_requests) c.self.view_is in
    let at = ap (position (is_kind c.args.kind)) view ∙ sym c.place_of.ensures ∙ c.in_ok-place.was in
    let there = within (is_kind c.args.kind) c.self.inside.requests.items c.in_ok-place.place at in
    on-some c.remove.result (c.remove.ensures.variant.1 (omega (arith, there))) c.remove.ensures.items
    ∙ without-at (is_kind c.args.kind) c.self.inside.requests.items c.in_ok-place.place at
    ∙ ap (without_first (is_kind c.args.kind)) view
