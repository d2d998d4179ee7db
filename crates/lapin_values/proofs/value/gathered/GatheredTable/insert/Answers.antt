use Rattle.std.proofs.Common.{◌≡◌, ℕ, List, map, cond, sym, subst, ap, ◌∙◌, is_ok, vec_items}
use Rattle.lapin_values.specs.DataOf.{data_of, to_pair}
use Rattle.lapin_values.specs.Table.{IsRising, put, gathered}
use Rattle.lapin_values.specs.declared.value.AMQPValue.{AMQPValue}
use Rattle.lapin_values.proofs.TableLemmas.{put_mapped, put_rising, rising_or_not}
use Rattle.lapin_values.proofs.GatheredLemmas.{put_seen}
use Rattle.lapin_values.proofs.value.gathered.GatheredTable.insert.Goals as goal

pub invariant_of-self : goal.invariant_of-self
invariant_of-self c =
    let rows : List (List ℕ × AMQPValue) = gathered c.self.inside.rising c.self.inside.sorted in
    let old : c.in-Some.tree.entries ≡ gathered c.self.inside.rising c.self.inside.sorted = sym (ap (gathered c.self.inside.rising) c.in-Some.is) in
    let either = λ (xs : List (List ℕ × AMQPValue)). cond (is_ok c.put_sorted.result) (put c.args.key c.args.value xs) xs in
    subst IsRising (sym (c.put_sorted.ensures.either ∙ ap either old)) (rising_or_not (is_ok c.put_sorted.result) c.args.key c.args.value rows c.self.invariant)

pub returns-in-Some : goal.returns-in-Some
returns-in-Some c =
    let old : c.in-Some.tree.entries ≡ gathered c.self.inside.rising c.self.inside.sorted = sym (ap (gathered c.self.inside.rising) c.in-Some.is) in
    put_seen c.put_sorted.result c.args.key c.args.value c.in-Some.tree.entries c.put_sorted.new.tree.entries c.args.self.now c.put_sorted.ensures.either (ap (map to_pair) old ∙ c.self.view_is)

pub invariant_of-self-then-len-place-le-NEAR : goal.invariant_of-self-then-len-place-le-NEAR
invariant_of-self-then-len-place-le-NEAR c =
    let rows : List (List ℕ × AMQPValue) = gathered c.self.inside.rising c.self.inside.sorted in
    let old : vec_items c.self.inside.rising ≡ gathered c.self.inside.rising c.self.inside.sorted = sym (ap (gathered c.self.inside.rising) c.in-None.is) in
    let new : gathered c.put_at.new.entries c.self.inside.sorted ≡ vec_items c.put_at.new.entries = ap (gathered c.put_at.new.entries) c.in-None.is in
    let either = λ (xs : List (List ℕ × AMQPValue)). cond (is_ok c.put_at.result) (put c.args.key c.args.value xs) xs in
    subst IsRising (sym (new ∙ c.put_at.ensures ∙ ap either old)) (rising_or_not (is_ok c.put_at.result) c.args.key c.args.value rows c.self.invariant)

pub returns-then-len-place-le-NEAR : goal.returns-then-len-place-le-NEAR
returns-then-len-place-le-NEAR c =
    let old : vec_items c.self.inside.rising ≡ gathered c.self.inside.rising c.self.inside.sorted = sym (ap (gathered c.self.inside.rising) c.in-None.is) in
    let new : gathered c.put_at.new.entries c.self.inside.sorted ≡ vec_items c.put_at.new.entries = ap (gathered c.put_at.new.entries) c.in-None.is in
    put_seen c.put_at.result c.args.key c.args.value (vec_items c.self.inside.rising) (gathered c.put_at.new.entries c.self.inside.sorted) c.args.self.now (new ∙ c.put_at.ensures) (ap (map to_pair) old ∙ c.self.view_is)

pub invariant_of-self-in-None : goal.invariant_of-self-in-None
invariant_of-self-in-None c =
    let rows : List (List ℕ × AMQPValue) = gathered c.self.inside.rising c.self.inside.sorted in
    let old : vec_items c.replace-rows.result ≡ gathered c.self.inside.rising c.self.inside.sorted = ap vec_items c.replace-rows.ensures.value ∙ sym (ap (gathered c.self.inside.rising) c.in-None.is) in
    subst IsRising (sym (c.in_ok-sorted_with-in-None.ensures ∙ ap (put c.args.key c.args.value) old)) (put_rising c.args.key c.args.value rows c.self.invariant)

pub returns-in_ok-sorted_with-in-None : goal.returns-in_ok-sorted_with-in-None
returns-in_ok-sorted_with-in-None c =
    let rows : List (List ℕ × AMQPValue) = gathered c.self.inside.rising c.self.inside.sorted in
    let old : vec_items c.replace-rows.result ≡ gathered c.self.inside.rising c.self.inside.sorted = ap vec_items c.replace-rows.ensures.value ∙ sym (ap (gathered c.self.inside.rising) c.in-None.is) in
    ap (map to_pair) (c.in_ok-sorted_with-in-None.ensures ∙ ap (put c.args.key c.args.value) old)
    ∙ put_mapped c.args.key c.args.value rows
    ∙ ap (put c.args.key (data_of c.args.value)) c.self.view_is
