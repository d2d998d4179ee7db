use Rattle.std.proofs.Common.{◌≡◌, ℕ, ◌+◌, ◌<◌, ◌++◌, [], ◌∷◌, length, sym, ◌∙◌, ap, arith, subst, append_assoc, length-append}
use Rattle.std.specs.Prelude.{◌%◌, slice_set}
use Rattle.std.proofs.lemmas.Nat.{mod_below}
use Rattle.lapin_shared_commands.specs.Dealt.{AreDealt}
use Rattle.lapin_shared_commands.proofs.Dealing.{dealt_on, length_set}
use Rattle.lapin_shared_commands.proofs.shifts.deal_out.Goals as goal

pub loop-event-preserved : goal.loop-event-preserved
loop-event-preserved g c =
    let n = length c.args.shifts.now in
    let ss = c.loop-event.shifts in
    let es = c.loop-event.invariant.dealt.0 in
    let left = c.pop.new.self.items in
    let e = c.in-Some.event in
    let k = c.len.result in
    let j = k % n in
    let s = c.put_on.new.shift in
    let was : c.loop-event.events.items ≡ left ++ e ∷ [] = c.in-Some.ensures.items in
    let many : k ≡ length left = omega (arith, c.len.ensures) in
    let before : length c.loop-event.events.items ≡ k + 1 = omega (arith, ap length was, length-append left (e ∷ []), many) in
    let Old : ℕ → Type 0 = λ m. AreDealt n m es 1 ss in
    let New : ℕ → Type 0 = λ m. AreDealt n m (e ∷ es) 1 (slice_set ss j s) in
    let below : j < n = mod_below k n c.requires.some in
    let inside : j < length ss = omega (arith, below, c.loop-event.invariant.count) in
    let put = dealt_on n k e es 1 j ss c.index-shifts-turn.result s (omega arith) inside c.put_on.ensures.caller c.in_ok-put_on.ensures.events
    (subst Old before c.loop-event.invariant.dealt.2) in
    record {
      count = length_set ss j s ∙ c.loop-event.invariant.count;
      dealt = (e ∷ es, sym (append_assoc left (e ∷ []) es) ∙ ap (λ l. l ++ es) (sym was) ∙ c.loop-event.invariant.dealt.1, subst New many put);
    }
