use Rattle.std.proofs.Common.{◌≡◌, ◌∙◌, ℕ, List, [], ◌∷◌, ◌++◌, Option, Some, None, sym, ap}
use Rattle.std.proofs.lemmas.Result.{on_ok_weaker}
use Rattle.lapin_tables.specs.ByChannel.{at_channel}
use Rattle.lapin_tables.specs.Numbered.{Slots}
use Rattle.lapin_check.specs.Pointing.{slots_in, places_of}
use Rattle.lapin_check.proofs.Places.{places-written, places-beside, places-new, places-new_beside}
use Rattle.lapin_check.proofs.unsettled.add.Goals as goal

pub returns-in-Some-clause-here : goal.returns-in-Some-clause-here
returns-in-Some-clause-here c =
    let known : at_channel c.args.channel c.args.unsettled.now.entries ≡ Some c.in-Some.places.now = sym (c.in-Some.ensures.value) in
    on_ok_weaker c.push.result
    (λ pushed. places-written c.args.channel c.push.new.places c.args.unsettled.now.entries c.in-Some.places.now known ∙ pushed ∙ ap (λ (o : Option (Slots ℕ)). slots_in o ++ Some c.args.place ∷ []) (sym known))
    c.push.ensures

pub returns-in-Some-clause-others : goal.returns-in-Some-clause-others
returns-in-Some-clause-others c =
    on_ok_weaker c.push.result (λ pushed d apart. places-beside c.args.channel c.push.new.places c.args.unsettled.now.entries d apart) c.push.ensures

pub returns-clause-here : goal.returns-clause-here
returns-clause-here c =
    let none : at_channel c.args.channel c.args.unsettled.now.entries ≡ None = sym (c.in_default.ensures.value) in
    ap (places_of c.args.channel) (c.in_ok-insert.ensures.ok)
    ∙ places-new c.args.channel c.push-2.new.places c.args.unsettled.now.entries none
    ∙ c.in_ok-push.ensures
    ∙ ap (λ (ps : List (Option ℕ)). ps ++ Some c.args.place ∷ []) (c.new-places.ensures ∙ sym (ap slots_in none))

pub returns-clause-others : goal.returns-clause-others
returns-clause-others c d apart = ap (places_of d) (c.in_ok-insert.ensures.ok) ∙ places-new_beside c.args.channel c.push-2.new.places c.args.unsettled.now.entries d apart
