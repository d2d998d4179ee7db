-- What marks do to the confirms that are queued.
use Rattle.std.proofs.Common.{◌≡◌, ℕ, zero, suc, ◌+◌, ◌≤◌, ◌==◌, ◌&&◌, Bool, true, false, cond, not, List, [], ◌∷◌, ◌++◌, map, length, Option, Some, None, refl, sym, ◌∙◌, ap, arith, inl, inr, ne_eqb}
use Rattle.std.specs.Prelude.{slice_set, slice_index_or}
use Rattle.std.specs.List.{filter, fold, list_any}
use Rattle.std.specs.Option.{option_map}
use Rattle.std.proofs.lemmas.Bool.Decides.{eqb_tells}
use Rattle.lapin_tables.specs.Numbered.{under, with_under}
use Rattle.lapin_types.specs.Types.{Error}
use Rattle.lapin_types.specs.declared.leaving.Publish.{Publish}
use Rattle.lapin_types.specs.declared.outcome.Outcome.{Outcome}
use Rattle.lapin_types.specs.declared.outcome.Outcome.TheVariants as outcome
use Rattle.lapin_rules.specs.declared.marks.Settlement.{Settlement}
use Rattle.lapin_rules.specs.ConfirmReadings.{covers, outcome_of}
use Rattle.lapin_rules.specs.Drops.{is_off, publish_channel}
use Rattle.lapin_rules.specs.ConfirmMarks as mark
use Rattle.lapin_rules.specs.Ends.{ends}
use Rattle.lapin_confirm.specs.declared.cell.Cell.{Cell}
use Rattle.lapin_confirm.specs.declared.cell.Cell.TheVariants as cell
use Rattle.lapin_confirm.specs.PublishStates.{PublishStates, is_queued, is_resolved, settled_cell, closed_cell, ended_cell, closed_here, ended}
use Rattle.lapin_confirm.specs.ConfirmState.{ConfirmState}
use Rattle.lapin_confirm.specs.Machine.{after_mark}
use Rattle.lapin_confirm.specs.Drain.{Remains, remaining, is_over, less_one, less_all}
use Rattle.lapin_laws.specs.Outgoing.{is_channel}
use Rattle.lapin_laws.specs.Queue.{queued_from, queued_in, numbered, waiting}

-- ---- one cell

not_queued : (k : ℕ) (o : Option Cell) (os : List (Option Cell)) → is_queued o ≡ false → queued_from k (o ∷ os) ≡ queued_from (suc k) os
not_queued k None os h = refl
not_queued k (Some (cell.Queued c)) os h = cc
not_queued k (Some (cell.Pending c t)) os h = refl
not_queued k (Some (cell.Resolved x)) os h = refl

abbrev first_number : List (ℕ × ℕ) → ℕ
first_number [] = 0
first_number (x ∷ xs) = x.0

-- numbers rise
at_least : (k n c : ℕ) (cells : List (Option Cell)) (ys xs : List (ℕ × ℕ)) → queued_from k cells ≡ ys ++ (n, c) ∷ xs → k ≤ n
at_least k n c [] [] xs h = cc
at_least k n c [] (y ∷ ys) xs h = cc
at_least k n c (None ∷ os) ys xs h = let more : suc k ≤ n = at_least (suc k) n c os ys xs h in omega arith
at_least k n c (Some (cell.Pending d t) ∷ os) ys xs h = let more : suc k ≤ n = at_least (suc k) n c os ys xs h in omega arith
at_least k n c (Some (cell.Resolved x) ∷ os) ys xs h = let more : suc k ≤ n = at_least (suc k) n c os ys xs h in omega arith
at_least k n c (Some (cell.Queued d) ∷ os) [] xs h = let same : k ≡ n = ap first_number h in omega arith
at_least k n c (Some (cell.Queued d) ∷ os) (y ∷ ys) xs h = let later : queued_from (suc k) os ≡ ys ++ (n, c) ∷ xs = cc in let more : suc k ≤ n = at_least (suc k) n c os ys xs later in omega arith

-- a cell that is queued no more
out_at : (k i n c : ℕ) (cells : List (Option Cell)) (ys xs : List (ℕ × ℕ)) (o : Option Cell) → is_queued o ≡ false → n ≡ k + i → queued_from k cells ≡ ys ++ (n, c) ∷ xs → queued_from k (slice_set cells i o) ≡ ys ++ xs
out_at k i n c [] [] xs o q e h = cc
out_at k i n c [] (y ∷ ys) xs o q e h = cc
out_at k zero n c (None ∷ os) ys xs o q e h = let more : suc k ≤ n = at_least (suc k) n c os ys xs h in absurd (omega arith)
out_at k zero n c (Some (cell.Pending d t) ∷ os) ys xs o q e h = let more : suc k ≤ n = at_least (suc k) n c os ys xs h in absurd (omega arith)
out_at k zero n c (Some (cell.Resolved x) ∷ os) ys xs o q e h = let more : suc k ≤ n = at_least (suc k) n c os ys xs h in absurd (omega arith)
out_at k zero n c (Some (cell.Queued d) ∷ os) [] xs o q e h = not_queued k o os q ∙ cc
out_at k zero n c (Some (cell.Queued d) ∷ os) (y ∷ ys) xs o q e h = let later : queued_from (suc k) os ≡ ys ++ (n, c) ∷ xs = cc in let more : suc k ≤ n = at_least (suc k) n c os ys xs later in absurd (omega arith)
out_at k (suc i) n c (None ∷ os) ys xs o q e h = out_at (suc k) i n c os ys xs o q (omega arith) h
out_at k (suc i) n c (Some (cell.Pending d t) ∷ os) ys xs o q e h = out_at (suc k) i n c os ys xs o q (omega arith) h
out_at k (suc i) n c (Some (cell.Resolved x) ∷ os) ys xs o q e h = out_at (suc k) i n c os ys xs o q (omega arith) h
out_at k (suc i) n c (Some (cell.Queued d) ∷ os) [] xs o q e h = let same : k ≡ n = ap first_number h in absurd (omega arith)
out_at k (suc i) n c (Some (cell.Queued d) ∷ os) (y ∷ ys) xs o q e h =
    let first : (k, d) ≡ y = cc in
    let later : queued_from (suc k) os ≡ ys ++ (n, c) ∷ xs = cc in
    let rest : queued_from (suc k) (slice_set os i o) ≡ ys ++ xs = out_at (suc k) i n c os ys xs o q (omega arith) later in
    cc

pub out : (n c : ℕ) (cells : List (Option Cell)) (ys xs : List (ℕ × ℕ)) (o : Option Cell) → is_queued o ≡ false → queued_in cells ≡ ys ++ (n, c) ∷ xs → queued_in (with_under n o cells) ≡ ys ++ xs
out zero c cells ys xs o q h = let low : 1 ≤ 0 = at_least 1 0 c cells ys xs h in absurd (omega arith)
out (suc m) c cells ys xs o q h = out_at 1 m (suc m) c cells ys xs o q (omega arith) h

-- a cell that was not queued
still_at : (k i : ℕ) (cells : List (Option Cell)) (o : Option Cell) → is_queued (slice_index_or cells i None) ≡ false → is_queued o ≡ false → queued_from k (slice_set cells i o) ≡ queued_from k cells
still_at k i [] o w q = refl
still_at k zero (x ∷ os) o w q = not_queued k o os q ∙ sym (not_queued k x os w)
still_at k (suc i) (None ∷ os) o w q = still_at (suc k) i os o w q
still_at k (suc i) (Some (cell.Pending d t) ∷ os) o w q = still_at (suc k) i os o w q
still_at k (suc i) (Some (cell.Resolved x) ∷ os) o w q = still_at (suc k) i os o w q
still_at k (suc i) (Some (cell.Queued d) ∷ os) o w q = ap (λ rest. (k, d) ∷ rest) (still_at (suc k) i os o w q)

pub still : (n : ℕ) (cells : List (Option Cell)) (o : Option Cell) → is_queued (under n cells) ≡ false → is_queued o ≡ false → queued_in (with_under n o cells) ≡ queued_in cells
still zero cells o w q = refl
still (suc n) cells o w q = still_at 1 n cells o w q

-- ---- a publish is accepted

joined_from : (k c : ℕ) (cells : List (Option Cell)) → queued_from k (cells ++ Some (cell.Queued c) ∷ []) ≡ queued_from k cells ++ (k + length cells, c) ∷ []
joined_from k c [] = ap (λ n. (n, c) ∷ []) (omega arith)
joined_from k c (None ∷ os) = joined_from (suc k) c os ∙ ap (λ n. queued_from (suc k) os ++ (n, c) ∷ []) (omega arith)
joined_from k c (Some (cell.Pending d t) ∷ os) = joined_from (suc k) c os ∙ ap (λ n. queued_from (suc k) os ++ (n, c) ∷ []) (omega arith)
joined_from k c (Some (cell.Resolved x) ∷ os) = joined_from (suc k) c os ∙ ap (λ n. queued_from (suc k) os ++ (n, c) ∷ []) (omega arith)
joined_from k c (Some (cell.Queued d) ∷ os) = ap (λ rest. (k, d) ∷ rest) (joined_from (suc k) c os ∙ ap (λ n. queued_from (suc k) os ++ (n, c) ∷ []) (omega arith))

waiting-push : (ps : List Publish) (p : Publish) → waiting (ps ++ p ∷ []) ≡ waiting ps ++ numbered p ∷ []
waiting-push [] p = refl
waiting-push (q ∷ qs) p = ap (λ xs. numbered q ∷ xs) (waiting-push qs p)

pub joined : (cells : List (Option Cell)) (ps : List Publish) (p : Publish) → p.confirm ≡ length cells + 1 → queued_in cells ≡ waiting ps → queued_in (cells ++ Some (cell.Queued p.channel) ∷ []) ≡ waiting (ps ++ p ∷ [])
joined cells ps p n h =
    let number : 1 + length cells ≡ p.confirm = omega arith in
    joined_from 1 p.channel cells ∙ (ap (λ xs. xs ++ (1 + length cells, p.channel) ∷ []) h ∙ (ap (λ k. waiting ps ++ (k, p.channel) ∷ []) number ∙ sym (waiting-push ps p)))

-- ---- settlements

settled_from : (k c : ℕ) (t : ℕ → Bool) (x : Outcome) (cells : List (Option Cell)) → queued_from k (map (option_map (settled_cell c t x)) cells) ≡ queued_from k cells
settled_from k c t x [] = refl
settled_from k c t x (None ∷ os) = settled_from (suc k) c t x os
settled_from k c t x (Some (cell.Queued d) ∷ os) = ap (λ rest. (k, d) ∷ rest) (settled_from (suc k) c t x os)
settled_from k c t x (Some (cell.Resolved y) ∷ os) = settled_from (suc k) c t x os
settled_from k c t x (Some (cell.Pending d u) ∷ os) = elim (d == c && t u) as (λ b. queued_from k (Some (cond b (cell.Resolved x) (cell.Pending d u)) ∷ map (option_map (settled_cell c t x)) os) ≡ queued_from (suc k) os) [ true ↦ settled_from (suc k) c t x os | false ↦ settled_from (suc k) c t x os ]

pub settled_queue : (c : ℕ) (z : Settlement) (cells : List (Option Cell)) → queued_in (map (option_map (settled_cell c (covers z) (outcome_of z))) cells) ≡ queued_in cells
settled_queue c z cells = settled_from 1 c (covers z) (outcome_of z) cells

-- ---- ends

ended_from : (k c : ℕ) (e : Error) (cells : List (Option Cell)) → queued_from k (map (option_map (ended_cell c e)) cells) ≡ filter (λ x. not (x.1 == c)) (queued_from k cells)
ended_from k c e [] = refl
ended_from k c e (None ∷ os) = ended_from (suc k) c e os
ended_from k c e (Some (cell.Resolved y) ∷ os) = ended_from (suc k) c e os
ended_from k c e (Some (cell.Pending d u) ∷ os) = elim (d == c) as (λ b. queued_from k (Some (cond b (cell.Resolved (outcome.Failed e)) (cell.Pending d u)) ∷ map (option_map (ended_cell c e)) os) ≡ filter (λ x. not (x.1 == c)) (queued_from (suc k) os)) [ true ↦ ended_from (suc k) c e os | false ↦ ended_from (suc k) c e os ]
ended_from k c e (Some (cell.Queued d) ∷ os) = elim (d == c) as (λ b. queued_from k (Some (cond b (cell.Resolved (outcome.Failed e)) (cell.Queued d)) ∷ map (option_map (ended_cell c e)) os) ≡ cond (not b) ((k, d) ∷ filter (λ x. not (x.1 == c)) (queued_from (suc k) os)) (filter (λ x. not (x.1 == c)) (queued_from (suc k) os))) [ true ↦ ended_from (suc k) c e os | false ↦ ap (λ rest. (k, d) ∷ rest) (ended_from (suc k) c e os) ]

waiting-off : (c : ℕ) (ps : List Publish) → filter (λ x. not (x.1 == c)) (waiting ps) ≡ waiting (filter (is_off publish_channel c) ps)
waiting-off c [] = refl
waiting-off c (p ∷ ps) = elim (p.channel == c) as (λ b. cond (not b) (numbered p ∷ filter (λ x. not (x.1 == c)) (waiting ps)) (filter (λ x. not (x.1 == c)) (waiting ps)) ≡ waiting (cond (not b) (p ∷ filter (is_off publish_channel c) ps) (filter (is_off publish_channel c) ps))) [ true ↦ waiting-off c ps | false ↦ ap (λ xs. numbered p ∷ xs) (waiting-off c ps) ]

pub ended_queue : (c : ℕ) (e : Error) (ps : List Publish) (b : PublishStates) → queued_in b.cells ≡ waiting ps → queued_in (ended c e b).cells ≡ waiting (filter (is_off publish_channel c) ps)
ended_queue c e ps b h = ended_from 1 c e b.cells ∙ (ap (filter (λ x. not (x.1 == c))) h ∙ waiting-off c ps)

-- ---- this side closes a channel

closed_from : (k c : ℕ) (e : Error) (cells : List (Option Cell)) → queued_from k (map (option_map (closed_cell c e)) cells) ≡ filter (λ x. not (x.1 == c)) (queued_from k cells)
closed_from k c e [] = refl
closed_from k c e (None ∷ os) = closed_from (suc k) c e os
closed_from k c e (Some (cell.Resolved y) ∷ os) = closed_from (suc k) c e os
closed_from k c e (Some (cell.Pending d u) ∷ os) = closed_from (suc k) c e os
closed_from k c e (Some (cell.Queued d) ∷ os) = elim (d == c) as (λ b. queued_from k (Some (cond b (cell.Resolved (outcome.Failed e)) (cell.Queued d)) ∷ map (option_map (closed_cell c e)) os) ≡ cond (not b) ((k, d) ∷ filter (λ x. not (x.1 == c)) (queued_from (suc k) os)) (filter (λ x. not (x.1 == c)) (queued_from (suc k) os))) [ true ↦ closed_from (suc k) c e os | false ↦ ap (λ rest. (k, d) ∷ rest) (closed_from (suc k) c e os) ]

pub closed_queue : (c : ℕ) (e : Error) (ps : List Publish) (b : PublishStates) → queued_in b.cells ≡ waiting ps → queued_in (closed_here c e b).cells ≡ waiting (filter (is_off publish_channel c) ps)
closed_queue c e ps b h = closed_from 1 c e b.cells ∙ (ap (filter (λ x. not (x.1 == c))) h ∙ waiting-off c ps)

-- ---- openings end together

-- each publish's channel is among these
abbrev pub AreOn : List ℕ → List Publish → Type 0
AreOn cs [] = Unit {0}
AreOn cs (p ∷ ps) = (list_any (is_channel p.channel) cs ≡ true) × AreOn cs ps

on-behind : (c : ℕ) (cs : List ℕ) (ps : List Publish) → AreOn (c ∷ cs) ps → AreOn cs (filter (is_off publish_channel c) ps)
on-behind c cs [] h = tt
on-behind c cs (p ∷ ps) h = elim (eqb_tells p.channel c) [
  | inl y ↦ rw y.0 (on-behind c cs ps h.1)
  | inr n ↦ let away : (c == p.channel) ≡ false = ne_eqb c p.channel (λ e. n.1 (sym e)) in rw n.0 (rw away at h.0, on-behind c cs ps h.1)
]

pub ends_queue : (e : Error) (cs : List ℕ) (ps : List Publish) (k : ConfirmState) → AreOn cs ps → queued_in k.publish_states.cells ≡ waiting ps → queued_in (fold after_mark k (ends e cs)).publish_states.cells ≡ []
ends_queue e [] [] k a h = h
ends_queue e [] (p ∷ ps) k a h = let z : false ≡ true = a.0 in absurd cc
ends_queue e (c ∷ cs) ps k a h = ends_queue e cs (filter (is_off publish_channel c) ps) (after_mark k (mark.Ended c e)) (on-behind c cs ps a) (ended_queue c e ps k.publish_states h)

-- ---- of those that are resolved nothing is kept

resolved_out : (o : Option Cell) → is_resolved o ≡ true → is_queued o ≡ false
resolved_out None h = cc
resolved_out (Some (cell.Queued d)) h = cc
resolved_out (Some (cell.Pending d t)) h = refl
resolved_out (Some (cell.Resolved x)) h = refl

pub gone_queue : (n : ℕ) (cells : List (Option Cell)) → is_resolved (under n cells) ≡ true → queued_in (with_under n None cells) ≡ queued_in cells
gone_queue n cells h = still n cells None (resolved_out (under n cells) h) refl

less_one_queue : (n : ℕ) (r : Remains) → queued_in (less_one n r).cells ≡ queued_in r.cells
less_one_queue n r =
    elim (is_over r.cells n) as (λ b. is_over r.cells n ≡ b → queued_in (cond b (remaining (with_under n None r.cells) (with_under n None r.origins)) r).cells ≡ queued_in r.cells)
    [ true ↦ λ h. gone_queue n r.cells h | false ↦ λ h. refl ] refl

pub less_queue : (ns : List ℕ) (r : Remains) → queued_in (less_all ns r).cells ≡ queued_in r.cells
less_queue [] r = refl
less_queue (n ∷ ns) r = less_queue ns (less_one n r) ∙ less_one_queue n r
