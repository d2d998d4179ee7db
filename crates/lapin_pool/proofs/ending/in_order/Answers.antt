use Rattle.std.proofs.Common.{rules}
use Rattle.std.proofs.lemmas.List.Sorted.{IsNonDecreasingBy-from_sort, answers_always}
use Rattle.lapin_pool.specs.Pool.{place_of}
use Rattle.lapin_pool.proofs.Placing.{places_rise}
use Rattle.lapin_pool.proofs.ending.in_order.Goals as goal

pub returns-clause-rising : goal.returns-clause-rising
returns-clause-rising c = places_rise _ (IsNonDecreasingBy-from_sort place_of _ (c.sort_unstable_by_key.ensures.sorted place_of (answers_always _ _ _ (λ f a r g h. search rules))))
