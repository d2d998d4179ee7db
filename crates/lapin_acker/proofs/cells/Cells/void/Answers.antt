use Rattle.std.proofs.Common.{◌≡◌, ℕ, ◌+◌, ◌-◌, ◌*◌, ◌<◌, ◌++◌, List, Some, None, slice_get, slice_set, length, length-append, sym, ap, ◌∙◌, arith}
use Rattle.lapin_acker.specs.declared.blocks.Block.{Block}
use Rattle.lapin_acker.specs.declared.switch.Switch.{Switch}
use Rattle.lapin_acker.specs.Switches.{used}
use Rattle.lapin_acker.specs.Blocks.{laid}
use Rattle.lapin_acker.proofs.Front.{get-left, get-right, set-right}
use Rattle.lapin_acker.proofs.Numbers.{at-get_or}
use Rattle.lapin_acker.proofs.Store.{get-past}
use Rattle.std.proofs.lemmas.List.{set-append_left}
use Rattle.std.proofs.lemmas.Option.{same_Some}
use Rattle.lapin_acker.proofs.InBlocks.{length-laid}
use Rattle.lapin_acker.proofs.cells.Cells.void.Goals as goal

pub returns-then-place-within-clause-there : goal.returns-then-place-within-clause-there
returns-then-place-within-clause-there c =
    let us : List Switch = laid c.self.inside.blocks.items in
    let ts : List Switch = c.self.inside.tail.items in
    let within : c.args.place < length us = omega (arith, length-laid c.self.inside.blocks.items, c.len-within.ensures, c.if-place-within.true) in
    rw (← c.self.view_is) (λ s at. ap (λ xs. xs ++ ts) (c.void_at.ensures.items s (sym (get-left us ts c.args.place within) ∙ at)) ∙ sym (set-append_left us ts c.args.place (used s) within))

pub returns-then-place-within-clause-past : goal.returns-then-place-within-clause-past
returns-then-place-within-clause-past c =
    let us : List Switch = laid c.self.inside.blocks.items in
    let ts : List Switch = c.self.inside.tail.items in
    rw (← c.self.view_is) (λ past. absurd (omega (arith, past, length-append us ts, length-laid c.self.inside.blocks.items, c.len-within.ensures, c.if-place-within.true)))

pub returns-then-place-len-clause-there : goal.returns-then-place-len-clause-there
returns-then-place-len-clause-there c =
    let us : List Switch = laid c.self.inside.blocks.items in
    let ts : List Switch = c.self.inside.tail.items in
    let q : ℕ = c.args.place - c.len-within.result * 64 in
    let place : c.args.place ≡ length us + q = omega (arith, length-laid c.self.inside.blocks.items, c.len-within.ensures, c.if-place-within.false) in
    let within : q < length ts = omega (arith, c.len.ensures, c.if-place-len.true) in
    let here : slice_get ts q ≡ Some c.index.result.now = at-get_or ts q c.index.result.now within c.index.ensures in
    rw (← c.self.view_is) (λ s at.
    let there : slice_get ts q ≡ Some s = sym (get-right us ts q) ∙ sym (ap (slice_get (us ++ ts)) place) ∙ at in
    let same : c.index.result.now ≡ s = same_Some c.index.result.now s (sym here ∙ there) in
    sym (ap (λ k. slice_set (us ++ ts) k (used s)) place ∙ set-right us ts q (used s) ∙ ap (λ y. us ++ slice_set ts q y) (sym (c.used.ensures ∙ ap used same))))

pub returns-then-place-len-clause-past : goal.returns-then-place-len-clause-past
returns-then-place-len-clause-past c =
    let us : List Switch = laid c.self.inside.blocks.items in
    let ts : List Switch = c.self.inside.tail.items in
    rw (← c.self.view_is) (λ past. absurd (omega (arith, past, length-append us ts, length-laid c.self.inside.blocks.items, c.len-within.ensures, c.if-place-within.false, c.len.ensures, c.if-place-len.true)))

pub returns-else-place-len-clause-there : goal.returns-else-place-len-clause-there
returns-else-place-len-clause-there c =
    let us : List Switch = laid c.self.inside.blocks.items in
    let ts : List Switch = c.self.inside.tail.items in
    let q : ℕ = c.args.place - c.len-within.result * 64 in
    let place : c.args.place ≡ length us + q = omega (arith, length-laid c.self.inside.blocks.items, c.len-within.ensures, c.if-place-within.false) in
    let past : slice_get ts q ≡ None = get-past ts q (omega (arith, c.len.ensures, c.if-place-len.false)) in
    rw (← c.self.view_is) (λ s at. let no : None ≡ Some s = sym past ∙ sym (get-right us ts q) ∙ sym (ap (slice_get (us ++ ts)) place) ∙ at in cc)

pub returns-then-place-within-clause-count : goal.returns-then-place-within-clause-count
returns-then-place-within-clause-count c =
    let bs : List Block = c.self.inside.blocks.items in
    let ds : List Block = c.void_at.new.blocks.items in
    let ts : List Switch = c.self.inside.tail.items in
    rw (← c.self.view_is) (omega (arith, c.void_at.ensures.len, length-laid bs, length-laid ds, length-append (laid bs) ts, length-append (laid ds) ts))
