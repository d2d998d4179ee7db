use Rattle.std.proofs.Common.{◌≡◌, ◌+◌, ◌<◌, ◌^◌, ◌++◌, ◌∷◌, [], List, length, length-append, append_assoc, ap, sym, ◌∙◌, arith}
use Rattle.lapin_acker.specs.declared.switch.Switch.{Switch}
use Rattle.lapin_acker.specs.declared.switch.Switch.TheVariants as switch
use Rattle.lapin_acker.specs.Store.{shown}
use Rattle.lapin_acker.proofs.Store.{length-shown, room-table, pushed}
use Rattle.lapin_acker.proofs.switches.Switches.push.Goals as goal

pub push_reserved-requires-clause-fits : goal.push_reserved-requires-clause-fits
push_reserved-requires-clause-fits c =
    let us : List Switch = c.self.inside.passed.used in
    let cs : List Switch = c.self.inside.cells.items in
    let whole : length (shown c.self.inside.passed.gone c.self.inside.ends.items (us ++ cs)) ≡ c.self.inside.passed.gone + length (us ++ cs) = length-shown c.self.inside.passed.gone c.self.inside.ends.items (us ++ cs) in
    let fits : length (shown c.self.inside.passed.gone c.self.inside.ends.items (us ++ cs)) + 1 < 2 ^ 64 = rw (← c.self.view_is) at c.requires.fits in
    omega (arith, whole, fits, length-append us cs)

pub invariant_of-self : goal.invariant_of-self
invariant_of-self c =
    let us : List Switch = c.self.inside.passed.used in
    let cs : List Switch = c.self.inside.cells.items in
    let one : List Switch = switch.Usable c.args.channel c.args.delivery_tag ∷ [] in
    let whole : length (shown c.self.inside.passed.gone c.self.inside.ends.items (us ++ cs)) ≡ c.self.inside.passed.gone + length (us ++ cs) = length-shown c.self.inside.passed.gone c.self.inside.ends.items (us ++ cs) in
    let fits : length (shown c.self.inside.passed.gone c.self.inside.ends.items (us ++ cs)) + 1 < 2 ^ 64 = rw (← c.self.view_is) at c.requires.fits in
    let old : length (us ++ cs) ≡ length us + length cs = length-append us cs in
    let long : length c.push_reserved.new.self.items ≡ length (cs ++ one) = ap length c.push_reserved.ensures.items in
    let more : length (cs ++ one) ≡ length cs + 1 = length-append cs one in
    let new : length (us ++ c.push_reserved.new.self.items) ≡ length us + length c.push_reserved.new.self.items = length-append us c.push_reserved.new.self.items in (
      omega (arith, whole, fits, old, new, long, more),
      λ some. room-table _ _ (rw (← c.self.view_is) at c.requires.room),
      λ k. omega (arith, c.self.invariant.2 k, old, new, long, more),
    )

pub returns-clause-added : goal.returns-clause-added
returns-clause-added c =
    let us : List Switch = c.self.inside.passed.used in
    let all : List Switch = us ++ c.self.inside.cells.items in
    let one : List Switch = switch.Usable c.args.channel c.args.delivery_tag ∷ [] in
    let joined : us ++ c.push_reserved.new.self.items ≡ all ++ one = ap (λ xs. us ++ xs) c.push_reserved.ensures.items ∙ sym (append_assoc us c.self.inside.cells.items one) in
    rw (← c.self.view_is)
    (ap (shown c.self.inside.passed.gone c.self.inside.ends.items) joined
    ∙ pushed c.self.inside.passed.gone c.args.channel c.args.delivery_tag c.self.inside.ends.items all (c.self.invariant.2 c.args.channel))
