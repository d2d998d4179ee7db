use Rattle.std.proofs.Common.{◌≡◌, ◌∙◌, ◌++◌, ℕ, List, not, ap}
use Rattle.std.specs.List.{filter}
use Rattle.std.proofs.lemmas.List.{append_assoc}
use Rattle.lapin_types.specs.declared.message.BasicReturnMessage.{BasicReturnMessage}
use Rattle.lapin_rules.specs.ReturnLists.{messages_of}
use Rattle.lapin_confirm.specs.Drain.{is_over, Swept}
use Rattle.lapin_confirm.proofs.Sweeping.{sweep-is, same-return_lists}
use Rattle.lapin_confirm.proofs.lists.Lists.drain.Goals as goal

pub returns-clause-given : goal.returns-clause-given
returns-clause-given c =
    let all = c.sweep_all.ensures.swept ∙ sweep-is (is_over c.args.cells.now.slots) c.self.inside.aside.items c.in_ok-sweep.sweep.left.items c.in_ok-sweep.sweep.over.items c.pour-2.new.into.items c.self.inside.attached.items in
    let first : c.pour.new.into.items ≡ c.self.inside.unconfirmed.items = c.pour.ensures.into ∙ ap (λ (xs : List BasicReturnMessage). xs ++ c.self.inside.unconfirmed.items) c.in_ok-sweep.ensures.given in
    let second : c.pour-2.new.into.items ≡ c.self.inside.unconfirmed.items ++ c.self.inside.kept.items = c.pour-2.ensures.into ∙ ap (λ (xs : List BasicReturnMessage). xs ++ c.self.inside.kept.items) first in
    rw (← c.self.view_is) (ap (λ (s : Swept). s.given) all ∙ ap (λ (xs : List BasicReturnMessage). xs ++ (messages_of (filter (is_over c.args.cells.now.slots) c.self.inside.aside.items) c.self.inside.attached.items)) second ∙ append_assoc c.self.inside.unconfirmed.items c.self.inside.kept.items (messages_of (filter (is_over c.args.cells.now.slots) c.self.inside.aside.items) c.self.inside.attached.items))

pub returns-clause-over : goal.returns-clause-over
returns-clause-over c =
    let all = c.sweep_all.ensures.swept ∙ sweep-is (is_over c.args.cells.now.slots) c.self.inside.aside.items c.in_ok-sweep.sweep.left.items c.in_ok-sweep.sweep.over.items c.pour-2.new.into.items c.self.inside.attached.items in
    rw (← c.self.view_is) (ap (λ (s : Swept). s.over) all ∙ ap (λ (xs : List ℕ). xs ++ filter (is_over c.args.cells.now.slots) c.self.inside.aside.items) c.in_ok-sweep.ensures.over)

pub returns-clause-return_lists : goal.returns-clause-return_lists
returns-clause-return_lists c =
    let all = c.sweep_all.ensures.swept ∙ sweep-is (is_over c.args.cells.now.slots) c.self.inside.aside.items c.in_ok-sweep.sweep.left.items c.in_ok-sweep.sweep.over.items c.pour-2.new.into.items c.self.inside.attached.items in
    rw (← c.self.view_is)
    (same-return_lists _ _ c.self.inside.waiting.items _ _ _ _ _ _ (ap (λ (s : Swept). s.attached) all) c.pour.ensures.from c.pour-2.ensures.from
    (ap (λ (s : Swept). s.left) all ∙ ap (λ (xs : List ℕ). xs ++ filter (λ n. not (is_over c.args.cells.now.slots n)) c.self.inside.aside.items) c.in_ok-sweep.ensures.left))
