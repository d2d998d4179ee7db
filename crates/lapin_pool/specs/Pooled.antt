-- What the working callers of a list leave, all together.
use Rattle.std.specs.Prelude.{◌≡◌, ℕ, List, [], ◌∷◌, ◌++◌, None, false, length, map, reverse, option_to_list}
use Rattle.lapin_types.specs.declared.message.Delivery.{Delivery}
use Rattle.lapin_acker.specs.declared.verdict.Verdict.{Verdict}
use Rattle.lapin_shared.specs.Grown.{Seen}
use Rattle.lapin_pool.specs.declared.card.Card.{Card}
use Rattle.lapin_pool.specs.Turns.{Standing, standing}
use Rattle.lapin_pool.specs.Ran.{Ended}

-- these callers had no card and no unread step, had their turns, and none met want of memory for a step
abbrev pub AllEnded : (Delivery → Verdict → Type 0) → ℕ → List Standing → List Standing → Type 0
AllEnded may turns [] [] = Unit {0}
AllEnded may turns [] (c ∷ cs) = ⊥
AllEnded may turns (a ∷ xs) [] = ⊥
AllEnded may turns (a ∷ xs) (c ∷ cs) = (a.cards ≡ []) × (a.unread ≡ None) × ((n : ℕ) × Ended may turns a n false c) × AllEnded may turns xs cs

-- what is seen of a caller
abbrev pub seen_of : Standing → Seen
seen_of s = s.seen

-- the cards of all
abbrev pub all_cards : List Standing → List Card
all_cards [] = []
all_cards (s ∷ ss) = all_cards ss ++ s.cards

-- the unread steps of all
abbrev pub all_unread : List Standing → List ℕ
all_unread [] = []
all_unread (s ∷ ss) = all_unread ss ++ option_to_list s.unread

-- The last callers of a list worked, and the others did nothing. Their standings are listed from the last caller on, before and after.
pub record HaveWorked (may : Delivery → Verdict → Type 0) (turns workers : ℕ) (olds : List Seen) (cards : List Card) (unread : List ℕ) (news : List Seen) : Type 0 where
  pub idle : List Seen
  pub before : List Standing
  pub after : List Standing
  pub olds_are : olds ≡ idle ++ reverse (map seen_of before)
  pub news_are : news ≡ idle ++ reverse (map seen_of after)
  pub many : length before ≡ workers
  pub worked : AllEnded may turns before after
  pub cards_are : cards ≡ all_cards after
  pub unread_are : unread ≡ all_unread after
