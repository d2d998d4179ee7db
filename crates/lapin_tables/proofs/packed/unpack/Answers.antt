use Rattle.std.proofs.Common.{◌≡◌, ◌<◌, ℕ, zero, suc, ◌+◌, ◌-◌, ◌/◌, List, Option, Some, sym, ◌∙◌, ap, arith}
use Rattle.lapin_tables.specs.declared.block.Block.{Block}
use Rattle.lapin_tables.specs.Numbered.{Slots, under, with_under}
use Rattle.lapin_tables.specs.Packed.{packed_at}
use Rattle.lapin_tables.proofs.Blocks.{index_of, put-other}
use Rattle.lapin_tables.proofs.packed.unpack.Goals.{in-Some, in_default}
use Rattle.lapin_tables.proofs.packed.unpack.Goals as goal

number-there : {T : Type 0} (told : ℕ → ℕ → Option T) (n : ℕ) (x : T) (bs : List (Option Block)) → packed_at told bs n ≡ Some x → 0 < n
number-there told zero x bs is = cc
number-there told (suc k) x bs is = omega arith

pub returns-clause-others : goal.returns-clause-others
returns-clause-others g c = λ j other.
    let told = g.T.Marked.told_by in
    let n = c.args.number in
    let bs = c.args.blocks.now.slots in
    let first : 0 < n = number-there told n c.in_ok-value.value bs (sym c.value_at.ensures ∙ c.in_ok-value.was) in
    let next : (n - 1) / 64 + 1 ≡ index_of n = omega arith in
    elim c.match-get_mut.branch [
      | in-Some w ↦
          let b = w.in-Some.block.now in
          let d = w.put.new.self in
          let is : under (index_of n) bs ≡ Some b = ap (λ k. under k bs) (sym next) ∙ sym w.in-Some.ensures.value in
          ap (λ (s : Slots Block). packed_at told s.slots j) w.blocks-is
          ∙ ap (λ k. packed_at told (with_under k (Some d) bs) j) next
          ∙ put-other told n b d bs first is w.put.ensures.alike w.put.ensures.others j other
      | in_default w ↦ ap (λ (s : Slots Block). packed_at told s.slots j) w.blocks-is
    ]
