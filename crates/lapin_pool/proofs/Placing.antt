-- Cards of unread steps, as the history is asked for them one by one.
use Rattle.std.proofs.Common.{◌≡◌, ◌∙◌, ℕ, ◌-◌, ◌<◌, ◌≤◌, ◌++◌, ◌⊎◌, inl, inr, get_or, List, [], ◌∷◌, map, length, sym, ap, arith, refl, Option, Some, None, append_assoc}
use Rattle.std.specs.Prelude.{zero, suc, slice_get, reverse, option_to_list}
use Rattle.std.specs.List.Sorted.{IsNonDecreasing, IsNonDecreasingBy}
use Rattle.std.proofs.lemmas.List.{length-map, get_or-map, reverse-append}
use Rattle.std.proofs.lemmas.List.Sorted.{IsNonDecreasingBy-from_default}
use Rattle.lapin_locked.specs.declared.entry.Entry.{Entry}
use Rattle.lapin_pool.specs.declared.card.Card.{Card}
use Rattle.lapin_pool.specs.declared.card.Sent.TheVariants as sent
use Rattle.lapin_pool.specs.Unread.{at_place, card_in, unread_cards}
use Rattle.lapin_pool.specs.Pool.{place_of}

beyond : (h : List Entry) (k : ℕ) → length h ≤ k → slice_get h k ≡ None
beyond [] k le = refl
beyond (x ∷ h) zero le = absurd (omega arith)
beyond (x ∷ h) (suc k) le = beyond h k (omega arith)

pub nothing_there : (h : List Entry) (p : ℕ) → (p ≡ 0) ⊎ (length h < p) → at_place h p ≡ None
nothing_there h zero out = refl
nothing_there h (suc k) (inl e) = absurd (omega arith)
nothing_there h (suc k) (inr lt) = beyond h k (omega arith)

-- one step more was asked for, from the last one on
pub cards_turn : (h : List Entry) (cards more all : List Card) (was left : List ℕ) (p : ℕ) → was ≡ left ++ p ∷ [] → more ≡ cards ++ option_to_list (card_in p (at_place h p))
    → cards ++ unread_cards h (reverse was) ≡ all → more ++ unread_cards h (reverse left) ≡ all
cards_turn h cards more all was left p split added so =
    let own = option_to_list (card_in p (at_place h p)) in
    let back : reverse was ≡ p ∷ reverse left = ap reverse split ∙ reverse-append left (p ∷ []) in
    ap (λ l. l ++ unread_cards h (reverse left)) added ∙ append_assoc cards own (unread_cards h (reverse left)) ∙ ap (λ l. cards ++ unread_cards h l) (sym back) ∙ so

no_card : Card
no_card = record { caller = 0; place = 0; acker = 0; verdict = None; sent = sent.Silent }

-- cards in order have places in order
pub places_rise : (cs : List Card) → IsNonDecreasingBy place_of cs → IsNonDecreasing (map place_of cs)
places_rise cs up = IsNonDecreasingBy-from_default (λ x. x) (map place_of cs) 0 (λ i j le lt.
    let many = length-map cs place_of in
    let a = get_or-map place_of cs i no_card 0 (omega arith) in
    let b = get_or-map place_of cs j no_card 0 (omega arith) in
    rw (a, b) (up i j no_card le (omega arith)))
