use Rattle.std.proofs.Common.{sym, ◌∙◌, ap}
use Rattle.std.specs.Option.{option_copied}
use Rattle.lapin_rules.specs.Requests.{first_request}
use Rattle.lapin_outbox.proofs.Waiting.{waiting-is, requests-found, requests-absent}
use Rattle.lapin_outbox.proofs.replies.Replies.first.Goals as goal

pub returns-in_err-get : goal.returns-in_err-get
returns-in_err-get c =
    let at = sym c.get.ensures ∙ ap option_copied c.in_err-get.was in
    ap option_copied c.from_residual.ensures ∙ sym (ap (first_request c.args.kind) (requests-absent _ _ _ (waiting-is _ _ _ c.self.view_is) at))

pub returns : goal.returns
returns c =
    let at = sym c.get.ensures ∙ ap option_copied c.in_ok-get.was in
    c.first.ensures ∙ sym (ap (first_request c.args.kind) (requests-found _ _ _ _ (waiting-is _ _ _ c.self.view_is) at))
