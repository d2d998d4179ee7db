-- Which tickets the drops of a channel name, for the crate above: those of its publishes that have not begun, then those of
-- its other entries.
use Rattle.std.proofs.Common.{◌≡◌, ℕ, ◌==◌, Bool, true, false, cond, not, List, [], ◌∷◌, ◌++◌, map, Option, Some, refl, ◌∙◌, ap}
use Rattle.std.specs.Bool.{if◌then◌else◌}
use Rattle.std.specs.List.{filter}
use Rattle.std.proofs.lemmas.List.{append-nil, map-append}
use Rattle.lapin_types.specs.declared.leaving.Publish.{Publish}
use Rattle.lapin_rules.specs.Frames.{MethodEntry, RestEntry}
use Rattle.lapin_rules.specs.Leaving.{Lists}
use Rattle.lapin_rules.specs.Drops.{frame_channel, is_on, is_off, method_channel, publish_channel, is_rest_of, unbegun, without_publishes_of, without_channel, rest_tickets, rest_tickets_of, method_tickets_of, publish_tickets_of}
use Rattle.lapin_outbox.specs.declared.dropped.Dropped.{Dropped}
use Rattle.lapin_outbox.specs.Drops.{told_rest, told_rest_of, told_method, told_publish, dropped_ticket, unbegun_of, entries_of}

-- ---- a list of which some passed already

module _ {X : Type 0} (p : X → Bool) where
  none-off : (xs : List X) → filter p (filter (λ x. not (p x)) xs) ≡ []
  none-off [] = refl
  none-off (x ∷ xs) = elim (p x) as (λ b. p x ≡ b → filter p (cond (not b) (x ∷ filter (λ y. not (p y)) xs) (filter (λ y. not (p y)) xs)) ≡ []) [
    | true ↦ λ passes. none-off xs
    | false ↦ λ fails. rw fails (none-off xs)
  ] refl

  off-twice : (xs : List X) → filter (λ x. not (p x)) (filter (λ x. not (p x)) xs) ≡ filter (λ x. not (p x)) xs
  off-twice [] = refl
  off-twice (x ∷ xs) = elim (p x) as (λ b. p x ≡ b → filter (λ y. not (p y)) (cond (not b) (x ∷ filter (λ y. not (p y)) xs) (filter (λ y. not (p y)) xs)) ≡ cond (not b) (x ∷ filter (λ y. not (p y)) xs) (filter (λ y. not (p y)) xs)) [
    | true ↦ λ passes. off-twice xs
    | false ↦ λ fails. rw fails (ap (λ ys. x ∷ ys) (off-twice xs))
  ] refl

-- ---- the tickets

publishes-named : (ps : List Publish) → map dropped_ticket (map told_publish ps) ≡ map (λ p. Some p.ticket) ps
publishes-named [] = refl
publishes-named (p ∷ ps) = ap (λ ts. Some p.ticket ∷ ts) (publishes-named ps)

methods-named : (ms : List MethodEntry) → map dropped_ticket (map told_method ms) ≡ map (λ m. m.ticket) ms
methods-named [] = refl
methods-named (m ∷ ms) = ap (λ ts. m.ticket ∷ ts) (methods-named ms)

rest-named : (c : ℕ) (fs : List RestEntry) → map dropped_ticket (told_rest_of c fs) ≡ rest_tickets_of c fs
rest-named c [] = refl
rest-named c (f ∷ fs) = elim (frame_channel f.frame == c) as (λ b. map dropped_ticket (if b then told_rest (f ∷ fs) else []) ≡ (if b then rest_tickets (f ∷ fs) else [])) [ true ↦ refl | false ↦ refl ]

-- the drops of a channel's publishes that have not begun
pub unbegun-tickets : (c : ℕ) (l : Lists) → map dropped_ticket (unbegun_of c l) ≡ publish_tickets_of c l.publishes
unbegun-tickets c l = publishes-named (unbegun c l.publishes)

-- the drops of what a channel has beside them
pub entry-tickets : (c : ℕ) (l : Lists) → map dropped_ticket (entries_of c (without_publishes_of c l)) ≡ rest_tickets_of c l.rest ++ method_tickets_of c l.methods
entry-tickets c l =
    let waiting : List Dropped = map told_method (filter (is_on method_channel c) l.methods) in
    let gone : unbegun_of c (without_publishes_of c l) ≡ [] = ap (map told_publish) (none-off (is_on publish_channel c) l.publishes) in
    ap (λ (ds : List Dropped). map dropped_ticket (told_rest_of c l.rest ++ (waiting ++ ds))) gone
    ∙ ap (λ (ds : List Dropped). map dropped_ticket (told_rest_of c l.rest ++ ds)) (append-nil waiting)
    ∙ map-append dropped_ticket (told_rest_of c l.rest) waiting
    ∙ ap (λ (ts : List (Option ℕ)). ts ++ map dropped_ticket waiting) (rest-named c l.rest)
    ∙ ap (λ (ts : List (Option ℕ)). rest_tickets_of c l.rest ++ ts) (methods-named (filter (is_on method_channel c) l.methods))

-- a channel's entries are gone once: its publishes may have gone before
pub publishes-before : (c : ℕ) (l : Lists) → without_channel c (without_publishes_of c l) ≡ without_channel c l
publishes-before c l = ap (λ (ps : List Publish). record { rest = if is_rest_of c l.rest then [] else l.rest; methods = filter (is_off method_channel c) l.methods; publishes = ps }) (off-twice (is_on publish_channel c) l.publishes)
