-- Entries and requests, one by one as they are taken out.
use Rattle.std.proofs.Common.{◌≡◌, ℕ, ◌<◌, ◌==◌, true, false, List, [], ◌∷◌, map, drop, length, Option, Some, None, refl, sym, ◌∙◌, ap, arith, slice_get, eq-eqb}
use Rattle.std.specs.Bool.{if◌then◌else◌}
use Rattle.lapin_types.specs.declared.leaving.Publish.{Publish}
use Rattle.lapin_types.specs.declared.request.Request.{Request}
use Rattle.lapin_tables.specs.ByChannel.{at_channel, on_channel}
use Rattle.lapin_rules.specs.Words.{is_some}
use Rattle.lapin_rules.specs.Leaving.{Lists}
use Rattle.lapin_rules.specs.Requests.{requests_in, no_requests}
use Rattle.lapin_rules.specs.Drops.{unbegun, without_channel, without_publishes_of}
use Rattle.lapin_rules.proofs.ChannelLaws.{at-with}
use Rattle.lapin_outbox.specs.declared.dropped.Dropped.{Dropped}
use Rattle.lapin_types.specs.declared.leaving.Left.{Left}
use Rattle.lapin_outbox.specs.Drops.{told_publish, unbegun_of, entries_of, without_entry_of, without_unbegun, all_entries, without_entry}
use Rattle.lapin_outbox.specs.Outgoing.{OutboxState, with_lists}
use Rattle.lapin_outbox.specs.Returned.{is_returned_on, returned_off, channel_entries, outbox_entries, after_drop_channel, after_drop}
use Rattle.lapin_outbox.specs.Open.{requests_at, without_oldest}
use Rattle.lapin_outbox.proofs.Dropping.{channel-told, channel-others, channel-empty, unbegun-told, unbegun-others, unbegun-empty, no-first}

-- ---- lists

pub length-first : {X : Type 0} (xs : List X) (x : X) → Some x ≡ slice_get xs 0 → length (drop 1 xs) < length xs
length-first [] x h = cc
length-first (y ∷ ys) x h = omega arith

-- ---- requests

pub requests-behind : (c : ℕ) (all : List (ℕ × List Request)) → requests_at c (without_oldest c all) ≡ drop 1 (requests_at c all)
requests-behind c all = ap requests_in (at-with c c (drop 1 (requests_at c all)) all) ∙ rw (eq-eqb c c refl) refl

there : (o : Option (List Request)) (r : Request) → Some r ≡ slice_get (requests_in o) 0 → is_some o ≡ true
there None r h = cc
there (Some rs) r h = refl

emptied-twice : (c : ℕ) (rs : List Request) (all : List (ℕ × List Request)) → on_channel c no_requests (on_channel c (λ _. rs) all) ≡ on_channel c no_requests all
emptied-twice c rs [] = refl
emptied-twice c rs ((d, qs) ∷ all) = elim (d == c) as (λ b. (d == c) ≡ b → on_channel c no_requests (if b then (d, rs) ∷ all else (d, qs) ∷ on_channel c (λ _. rs) all) ≡ (if b then (d, []) ∷ all else (d, qs) ∷ on_channel c no_requests all)) [
  | true ↦ λ on. rw on refl
  | false ↦ λ off. rw off (ap (λ es. (d, qs) ∷ es) (emptied-twice c rs all))
] refl

pub requests-others : (c : ℕ) (all : List (ℕ × List Request)) (r : Request) → Some r ≡ slice_get (requests_at c all) 0 → on_channel c no_requests (without_oldest c all) ≡ on_channel c no_requests all
requests-others c all r h = rw (there (at_channel c all) r h) (emptied-twice c (drop 1 (requests_at c all)) all)

pub requests-none : (c : ℕ) (all : List (ℕ × List Request)) → requests_at c all ≡ [] → on_channel c no_requests all ≡ all
requests-none c [] h = refl
requests-none c ((d, qs) ∷ all) h = elim (d == c) as (λ b. requests_in (if b then Some qs else at_channel c all) ≡ [] → (if b then (d, []) ∷ all else (d, qs) ∷ on_channel c no_requests all) ≡ (d, qs) ∷ all) [
  | true ↦ λ none. ap (λ rs. (d, rs) ∷ all) (sym none)
  | false ↦ λ none. ap (λ es. (d, qs) ∷ es) (requests-none c all none)
] h

-- ---- where a drop finds nothing

pub entries-end : (c : ℕ) (l : Lists) → slice_get (entries_of c l) 0 ≡ None → without_entry_of c l ≡ without_channel c l
entries-end c l none =
    let empty : entries_of c (without_entry_of c l) ≡ [] = channel-told c l ∙ ap (λ ds. drop 1 ds) (no-first (entries_of c l) none) in
    sym (channel-empty c (without_entry_of c l) (ap (λ ds. slice_get ds 0) empty)) ∙ channel-others c l

pub unbegun-end : (c : ℕ) (l : Lists) → slice_get (unbegun_of c l) 0 ≡ None → without_unbegun c l ≡ without_publishes_of c l
unbegun-end c l none =
    let empty : unbegun_of c (without_unbegun c l) ≡ [] = unbegun-told c l ∙ ap (λ ds. drop 1 ds) (no-first (unbegun_of c l) none) in
    sym (unbegun-empty c (without_unbegun c l) (ap (λ ds. slice_get ds 0) empty)) ∙ unbegun-others c l

map-none : {X Y : Type 0} (f : X → Y) (xs : List X) → map f xs ≡ [] → xs ≡ []
map-none f [] h = refl
map-none f (x ∷ xs) h = cc

pub none-unbegun : (c : ℕ) (ps : List Publish) → slice_get (map told_publish (unbegun c ps)) 0 ≡ None → unbegun c ps ≡ []
none-unbegun c ps none = map-none told_publish (unbegun c ps) (no-first (map told_publish (unbegun c ps)) none)

-- ---- what is left gets smaller

pub entries-smaller : (c : ℕ) (l new : Lists) (d : Dropped) → new ≡ without_entry_of c l → Some d ≡ slice_get (entries_of c l) 0 → length (entries_of c new) < length (entries_of c l)
entries-smaller c l new d left told =
    let same : length (entries_of c new) ≡ length (drop 1 (entries_of c l)) = ap (λ ds. length ds) (ap (entries_of c) left ∙ channel-told c l) in
    let less = length-first (entries_of c l) d told in
    omega arith

pub unbegun-smaller : (c : ℕ) (l new : Lists) (d : Dropped) → new ≡ without_unbegun c l → Some d ≡ slice_get (unbegun_of c l) 0 → length (unbegun_of c new) < length (unbegun_of c l)
unbegun-smaller c l new d left told =
    let same : length (unbegun_of c new) ≡ length (drop 1 (unbegun_of c l)) = ap (λ ds. length ds) (ap (unbegun_of c) left ∙ unbegun-told c l) in
    let less = length-first (unbegun_of c l) d told in
    omega arith

pub requests-smaller : (c : ℕ) (all new : List (ℕ × List Request)) (r : Request) → new ≡ without_oldest c all → Some r ≡ slice_get (requests_at c all) 0 → length (requests_at c new) < length (requests_at c all)
requests-smaller c all new r left told =
    let same : length (requests_at c new) ≡ length (drop 1 (requests_at c all)) = ap (λ rs. length rs) (ap (requests_at c) left ∙ requests-behind c all) in
    let less = length-first (requests_at c all) r told in
    omega arith

-- ---- a frame that was given back

-- where none of the channel was given back, a drop of the channel takes from the three lists
pub off-left : (c : ℕ) (o : OutboxState) → is_returned_on c o.returned ≡ false → after_drop_channel c o ≡ with_lists (without_entry_of c o.lists) o
off-left c o off = rw off refl

pub off-told : (c : ℕ) (o : OutboxState) → is_returned_on c o.returned ≡ false → channel_entries c o ≡ entries_of c o.lists
off-told c o off = rw off refl

-- one that was let go is of no channel
pub let-go : (c : ℕ) (r : Option Left) → is_returned_on c (returned_off c r) ≡ false
let-go c r = elim (is_returned_on c r) as (λ b. is_returned_on c r ≡ b → is_returned_on c (if b then None else r) ≡ false) [ true ↦ λ on. refl | false ↦ λ off. off ] refl

-- where none was given back, a drop takes from the three lists
pub none-left : (o : OutboxState) → o.returned ≡ None → after_drop o ≡ with_lists (without_entry o.lists) o
none-left o none = rw none refl

pub none-told : (o : OutboxState) → o.returned ≡ None → outbox_entries o ≡ all_entries o.lists
none-told o none = rw none refl
