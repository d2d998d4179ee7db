-- Seats taken one by one, and left from the last one on.
use Rattle.std.proofs.Common.{◌≡◌, ◌∙◌, ℕ, ◌++◌, List, [], ◌∷◌, map, sym, ap, refl, None, append_assoc, append-nil}
use Rattle.std.specs.Prelude.{reverse, option_to_list}
use Rattle.std.proofs.lemmas.List.{map-append, reverse-append}
use Rattle.std.proofs.lemmas.List.Elements.{All-same, All-push}
use Rattle.lapin_shared.specs.Grown.{Seen}
use Rattle.lapin_pool.specs.declared.seat.Seat.{Seat}
use Rattle.lapin_pool.specs.Seats.{AreNew, caller_of, cards_of, unread_of}

pub callers_snoc : {L : Type 0} → (ss : List (Seat L)) (s : Seat L) → reverse (map caller_of (ss ++ s ∷ [])) ≡ s.caller ∷ reverse (map caller_of ss)
callers_snoc ss s = ap reverse (map-append caller_of ss (s ∷ [])) ∙ reverse-append (map caller_of ss) (s.caller ∷ [])

pub cards_snoc : {L : Type 0} → (ss : List (Seat L)) (s : Seat L) → cards_of (ss ++ s ∷ []) ≡ s.cards.items ++ cards_of ss
cards_snoc [] s = sym (append-nil s.cards.items)
cards_snoc (x ∷ ss) s = ap (λ l. l ++ x.cards.items) (cards_snoc ss s) ∙ append_assoc s.cards.items (cards_of ss) x.cards.items

pub unread_snoc : {L : Type 0} → (ss : List (Seat L)) (s : Seat L) → unread_of (ss ++ s ∷ []) ≡ option_to_list s.unread ++ unread_of ss
unread_snoc [] s = sym (append-nil (option_to_list s.unread))
unread_snoc (x ∷ ss) s = ap (λ l. l ++ option_to_list x.unread) (unread_snoc ss s) ∙ append_assoc (option_to_list s.unread) (unread_of ss) (option_to_list x.unread)

-- one caller more took a seat, from the end of the list
pub seated_more : {L : Type 0} → (front back all : List Seen) (ss ts : List (Seat L)) (s : Seat L) → back ≡ front ++ s.caller ∷ [] → ts ≡ ss ++ s ∷ []
    → back ++ reverse (map caller_of ss) ≡ all → front ++ reverse (map caller_of ts) ≡ all
seated_more front back all ss ts s split more so =
    ap (λ l. front ++ reverse (map caller_of l)) more ∙ ap (λ l. front ++ l) (callers_snoc ss s) ∙ sym (append_assoc front (s.caller ∷ []) (reverse (map caller_of ss)))
    ∙ ap (λ l. l ++ reverse (map caller_of ss)) (sym split) ∙ so

pub new_more : {L : Type 0} → (ss ts : List (Seat L)) (s : Seat L) → ts ≡ ss ++ s ∷ [] → s.cards.items ≡ [] → s.unread ≡ None → AreNew ss → AreNew ts
new_more {L = L} ss ts s more cards unread all =
    let New : Seat L → Type 0 = λ x. (x.cards.items ≡ []) × (x.unread ≡ None) in
    All-same New ts (ss ++ s ∷ []) more (All-push New ss s all (cards, unread))
