use Rattle.std.proofs.Common.{◌∙◌, sym, subst}
use Rattle.lapin_check.specs.Marks.{Watch}
use Rattle.lapin_check.specs.Pointing.{IsKept}
use Rattle.lapin_check.proofs.Keeping.{found_send, kept_send}
use Rattle.lapin_check.proofs.watch.Watch.send.Goals as goal

pub settle_by-requires : goal.settle_by-requires
settle_by-requires c =
    let w : Watch = record { broker = c.self.inside.broker; opens = c.self.inside.opens.entries; unsettled = c.self.inside.unsettled.entries } in
    let kept : IsKept c.requires.0 w c.args.account.now.items = subst (λ (v : Watch). IsKept c.requires.0 v c.args.account.now.items) (sym c.self.view_is) c.requires.2 in
    found_send c.requires.0 c.args.place c.args.frame.now c.settlement_of.result w c.send.new.self c.args.account.now.items kept c.requires.1 (sym c.may_send.ensures ∙ c.if-not-may_send.false) c.in_ok-send.ensures.ok c.settlement_of.ensures

pub returns-clause-kept : goal.returns-clause-kept
returns-clause-kept c =
    let w : Watch = record { broker = c.self.inside.broker; opens = c.self.inside.opens.entries; unsettled = c.self.inside.unsettled.entries } in
    let kept : IsKept c.requires.0 w c.args.account.now.items = subst (λ (v : Watch). IsKept c.requires.0 v c.args.account.now.items) (sym c.self.view_is) c.requires.2 in
    kept_send c.requires.0 c.args.place c.args.frame.now c.settlement_of.result w c.send.new.self c.args.account.now.items kept c.requires.1 (sym c.may_send.ensures ∙ c.if-not-may_send.false) c.in_ok-send.ensures.ok c.settlement_of.ensures c.settle_by.new.self c.settle_by.new.account.items c.settle_by.ensures.broker c.settle_by.ensures.opens c.settle_by.ensures.settled
