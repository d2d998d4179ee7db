-- A publish that is rejected alone keeps its error, and all else goes on as without the rejection.
use Rattle.std.proofs.Common.{◌≡◌, ◌≢◌, ℕ, zero, suc, ◌<◌, ◌≤◌, ◌==◌, nat_lt, Bool, true, false, not, cond, ◌&&◌, ◌||◌, List, [], ◌∷◌, ◌++◌, length, map, Option, Some, None, Ok, Err, refl, sym, ◌∙◌, ap, arith, slice_set, slice_index_or, inl, inr}
use Rattle.std.specs.List.{filter, range_with_len}
use Rattle.std.specs.Option.{option_map}
use Rattle.std.proofs.lemmas.Bool.{eq-eqb, ltb-true, or_parts, false_from_ne_true, or_from}
use Rattle.std.proofs.lemmas.Bool.Decides.{eqb_tells}
use Rattle.lapin_types.specs.declared.Error.{Error}
use Rattle.lapin_types.specs.declared.Error.TheVariants as error
use Rattle.lapin_types.specs.declared.message.BasicReturnMessage.{BasicReturnMessage}
use Rattle.lapin_types.specs.declared.outcome.Outcome.{Outcome}
use Rattle.lapin_types.specs.declared.outcome.Outcome.TheVariants as outcome
use Rattle.lapin_rules.specs.ConfirmMarks.{ConfirmMark}
use Rattle.lapin_rules.specs.ConfirmMarks as mark
use Rattle.lapin_rules.specs.ConfirmReadings.{covers, outcome_of, has_left, leaves, takes, lays, is_taken, is_aside, is_finished, channel_of, tag_of, added, first_rejected, life}
use Rattle.lapin_rules.specs.Words.{after}
use Rattle.lapin_rules.specs.ReturnLists.{ReturnLists, attached_to_all, drained_return_lists}
use Rattle.lapin_rules.specs.ReturnReadings.{taking, joined, is_gone}
use Rattle.lapin_tables.specs.ByChannel.{at_channel, on_channel}
use Rattle.lapin_tables.specs.Numbered.{under, with_under}
use Rattle.lapin_tables.proofs.SlotLaws.{under-other, under-same, length-with}
use Rattle.lapin_confirm.specs.declared.cell.Cell.{Cell}
use Rattle.lapin_confirm.specs.declared.cell.Cell.TheVariants as cell
use Rattle.lapin_confirm.specs.PublishStates.{settled_cell, closed_cell, ended_cell, is_pending_as, is_resolved, last_on}
use Rattle.lapin_confirm.specs.ConfirmState.{ConfirmState, messages_on, return_lists_at, return_lists_or, number_from, covered_in, message_of}
use Rattle.lapin_confirm.specs.Machine.{after_mark, rejected}
use Rattle.lapin_confirm.specs.Drain.{Remains, remaining, is_over, less_one, less_all, over_aside}
use Rattle.lapin_confirm.specs.Answers.{answer_in, answer_at, answer_with, is_unknown}
use Rattle.lapin_confirm.specs.Aside.{taken_answer, is_set_aside, is_aside_in, kept_by, laid_by}
use Rattle.lapin_confirm.specs.Follows.{Follows, open_cell, queued_cell, left_cell}
use Rattle.lapin_confirm.proofs.AsideFollowing.{stands, stands-filter}
use Rattle.lapin_confirm.proofs.CellFollowing.{left-push}
use Rattle.lapin_confirm.proofs.Facts.{facts, added_still, finished-push}
use Rattle.lapin_laws.specs.Rejections.{IsUnasked, IsOther}

-- the cell of a publish that was rejected
abbrev failed : Error → Option Cell
failed e = Some (cell.Resolved (outcome.Failed e))

-- ---- values under numbers

module _ {T : Type 0} where
  set-comm : (i k : ℕ) (a b : Option T) (xs : List (Option T)) → i ≢ k → slice_set (slice_set xs k b) i a ≡ slice_set (slice_set xs i a) k b
  set-comm i k a b [] apart = refl
  set-comm zero zero a b (x ∷ xs) apart = absurd (apart refl)
  set-comm zero (suc k) a b (x ∷ xs) apart = refl
  set-comm (suc i) zero a b (x ∷ xs) apart = refl
  set-comm (suc i) (suc k) a b (x ∷ xs) apart = ap (λ ys. x ∷ ys) (set-comm i k a b xs (λ e. apart (ap suc e)))

  -- two numbers
  with-comm : (k n : ℕ) (a b : Option T) (xs : List (Option T)) → k ≢ n → with_under k a (with_under n b xs) ≡ with_under n b (with_under k a xs)
  with-comm zero n a b xs apart = refl
  with-comm (suc i) zero a b xs apart = refl
  with-comm (suc i) (suc k) a b xs apart = set-comm i k a b xs (λ e. apart (ap suc e))

  -- one number twice
  with-twice : (n : ℕ) (a b : Option T) (xs : List (Option T)) → with_under n a (with_under n b xs) ≡ with_under n a xs
  with-twice zero a b xs = refl
  with-twice (suc k) a b xs = set-twice k xs
    where
      set-twice : (i : ℕ) (zs : List (Option T)) → slice_set (slice_set zs i b) i a ≡ slice_set zs i a
      set-twice i [] = refl
      set-twice zero (z ∷ zs) = refl
      set-twice (suc i) (z ∷ zs) = ap (λ ws. z ∷ ws) (set-twice i zs)

  -- one more at the back
  with-push : (n : ℕ) (o y : Option T) (xs : List (Option T)) → n ≤ length xs → with_under n o (xs ++ y ∷ []) ≡ with_under n o xs ++ y ∷ []
  with-push zero o y xs le = refl
  with-push (suc k) o y xs le = set-push k xs (omega arith)
    where
      set-push : (i : ℕ) (zs : List (Option T)) → i < length zs → slice_set (zs ++ y ∷ []) i o ≡ slice_set zs i o ++ y ∷ []
      set-push i [] lt = absurd (omega arith)
      set-push zero (z ∷ zs) lt = refl
      set-push (suc i) (z ∷ zs) lt = ap (λ ws. z ∷ ws) (set-push i zs (omega arith))

-- a change of every cell that leaves this one
map-comm : (f : Cell → Cell) (n : ℕ) (x : Cell) (xs : List (Option Cell)) → f x ≡ x → map (option_map f) (with_under n (Some x) xs) ≡ with_under n (Some x) (map (option_map f) xs)
map-comm f zero x xs same = refl
map-comm f (suc k) x xs same = map-set k xs
  where
    map-set : (i : ℕ) (zs : List (Option Cell)) → map (option_map f) (slice_set zs i (Some x)) ≡ slice_set (map (option_map f) zs) i (Some x)
    map-set i [] = refl
    map-set zero (z ∷ zs) = ap (λ y. Some y ∷ map (option_map f) zs) same
    map-set (suc i) (z ∷ zs) = ap (λ ws. option_map f z ∷ ws) (map-set i zs)

-- ---- who is pending

-- the publish is pending with no tag on no channel
abbrev Unpending : Option Cell → Type 0
Unpending o = (c t : ℕ) → is_pending_as c t o ≡ false

number-other : (c t n : ℕ) (e : Error) (cells : List (Option Cell)) → Unpending (under n cells) → number_from c t 1 (with_under n (failed e) cells) ≡ number_from c t 1 cells
number-other c t zero e cells away = refl
number-other c t (suc k) e cells away = from k 1 cells (away c t)
  where
    from : (i m : ℕ) (zs : List (Option Cell)) → is_pending_as c t (slice_index_or zs i None) ≡ false → number_from c t m (slice_set zs i (failed e)) ≡ number_from c t m zs
    from i m [] h = refl
    from zero m (z ∷ zs) h = rw h refl
    from (suc i) m (z ∷ zs) h = ap (λ o. cond (is_pending_as c t z) (Some m) o) (from i (suc m) zs h)

taking-same : (p : ℕ → Bool) (f g : ℕ → Option ℕ) (ts : List ℕ) → ((t : ℕ) → f t ≡ g t) → taking p f ts ≡ taking p g ts
taking-same p f g [] same = refl
taking-same p f g (t ∷ ts) same =
    let rest : taking p f ts ≡ taking p g ts = taking-same p f g ts same in
    ap (λ ns. cond (p t) (joined (f t) ns) ns) rest ∙ ap (λ o. cond (p t) (joined o (taking p g ts)) (taking p g ts)) (same t)

covered-other : (c n : ℕ) (e : Error) (p : ConfirmState) (q : ℕ → Bool) → Unpending (under n p.publish_states.cells) → covered_in c q (rejected n e p).publish_states ≡ covered_in c q p.publish_states
covered-other c n e p q away = taking-same q (λ t. number_from c t 1 (with_under n (failed e) p.publish_states.cells)) (λ t. number_from c t 1 p.publish_states.cells) (range_with_len 1 (last_on c p.publish_states)) (λ t. number-other c t n e p.publish_states.cells away)

-- ---- of whom nothing is kept any more

abbrev wrote : ℕ → Error → Remains → Remains
wrote n e r = record { cells = with_under n (failed e) r.cells; origins = r.origins }

less-other : (k n : ℕ) (e : Error) (r : Remains) → k ≢ n → less_one k (wrote n e r) ≡ wrote n e (less_one k r)
less-other k n e r apart =
    ap (λ b. cond b (record { cells = with_under k None (with_under n (failed e) r.cells); origins = with_under k None r.origins }) (wrote n e r)) (ap is_resolved (under-other k n (failed e) r.cells apart))
    ∙ by (is_over r.cells k)
  where
    by : (b : Bool) → cond b (record { cells = with_under k None (with_under n (failed e) r.cells); origins = with_under k None r.origins }) (wrote n e r) ≡ wrote n e (cond b (record { cells = with_under k None r.cells; origins = with_under k None r.origins }) r)
    by true = ap (λ cs. record { cells = cs; origins = with_under k None r.origins }) (with-comm k n None (failed e) r.cells apart)
    by false = refl

apart-of : (k n : ℕ) → (k == n) ≡ false → k ≢ n
apart-of k n off e = let on : (k == n) ≡ true = eq-eqb k n e in let no : true ≡ false = sym on ∙ off in cc

all-other : (ks : List ℕ) (n : ℕ) (e : Error) (r : Remains) → stands n ks ≡ false → less_all ks (wrote n e r) ≡ wrote n e (less_all ks r)
all-other [] n e r none = refl
all-other (k ∷ ks) n e r none =
    let parts = or_parts (k == n) (stands n ks) none in
    ap (less_all ks) (less-other k n e r (apart-of k n parts.0)) ∙ all-other ks n e (less_one k r) parts.1

filter-same : (n : ℕ) (f g : ℕ → Bool) (ks : List ℕ) → ((k : ℕ) → k ≢ n → f k ≡ g k) → stands n ks ≡ false → filter f ks ≡ filter g ks
filter-same n f g [] same none = refl
filter-same n f g (k ∷ ks) same none =
    let parts = or_parts (k == n) (stands n ks) none in
    let rest : filter f ks ≡ filter g ks = filter-same n f g ks same parts.1 in
    ap (λ js. cond (f k) (k ∷ js) js) rest ∙ ap (λ b. cond b (k ∷ filter g ks) (filter g ks)) (same k (apart-of k n parts.0))

over-other : (n : ℕ) (e : Error) (cells : List (Option Cell)) (k : ℕ) → k ≢ n → is_over (with_under n (failed e) cells) k ≡ is_over cells k
over-other n e cells k apart = ap is_resolved (under-other k n (failed e) cells apart)

drained-other : (n : ℕ) (e : Error) (cells : List (Option Cell)) (l : ReturnLists) → stands n l.aside ≡ false → drained_return_lists (is_over (with_under n (failed e) cells)) l ≡ drained_return_lists (is_over cells) l
drained-other n e cells l none =
    same (filter-same n (is_over (with_under n (failed e) cells)) (is_over cells) l.aside (over-other n e cells) none)
    (filter-same n (λ k. not (is_over (with_under n (failed e) cells) k)) (λ k. not (is_over cells k)) l.aside (λ k apart. ap not (over-other n e cells k apart)) none)
  where
    same : filter (is_over (with_under n (failed e) cells)) l.aside ≡ filter (is_over cells) l.aside → filter (λ k. not (is_over (with_under n (failed e) cells) k)) l.aside ≡ filter (λ k. not (is_over cells k)) l.aside → drained_return_lists (is_over (with_under n (failed e) cells)) l ≡ drained_return_lists (is_over cells) l
    same over left = rw (over, left) refl

on-agree : (c : ℕ) (f g : ReturnLists → ReturnLists) (early : List BasicReturnMessage) (ts : List (ℕ × ReturnLists)) → f (return_lists_or early (at_channel c ts)) ≡ g (return_lists_or early (at_channel c ts)) → on_channel c f ts ≡ on_channel c g ts
on-agree c f g early [] h = refl
on-agree c f g early (t ∷ ts) h =
    elim (t.0 == c) as (λ b. f (return_lists_or early (cond b (Some t.1) (at_channel c ts))) ≡ g (return_lists_or early (cond b (Some t.1) (at_channel c ts))) → cond b ((t.0, f t.1) ∷ ts) (t ∷ on_channel c f ts) ≡ cond b ((t.0, g t.1) ∷ ts) (t ∷ on_channel c g ts))
    [ true ↦ λ same. ap (λ l. (t.0, l) ∷ ts) same | false ↦ λ same. ap (λ us. t ∷ us) (on-agree c f g early ts same) ] h

-- ---- one mark more

-- what is known of the publish: its number was given, it isn't pending, and it stands aside nowhere
record Known (n : ℕ) (p : ConfirmState) : Type 0 where
  pub within : n ≤ length p.publish_states.cells
  pub unpending : Unpending (under n p.publish_states.cells)
  pub unlaid : (c : ℕ) → stands n (return_lists_at c p).aside ≡ false

next-known : (n : ℕ) (e : Error) (p : ConfirmState) (m : ConfirmMark) → Known n p → IsOther n m → after_mark (rejected n e p) m ≡ rejected n e (after_mark p m)
next-known n e p (mark.Begun c) k o =
    ap (λ (r : Remains). after_begun r) (all-other (return_lists_at c p).aside n e (remaining p.publish_states.cells p.origins) (k.unlaid c))
  where
    after_begun : Remains → ConfirmState
    after_begun r = record {
      publish_states = record { confirm_modes = (after_mark p (mark.Begun c)).publish_states.confirm_modes; cells = r.cells };
      returned_by_channel = (after_mark p (mark.Begun c)).returned_by_channel;
      early = (after_mark p (mark.Begun c)).early;
      origins = r.origins;
    }
next-known n e p (mark.SelectCalled c) k o = refl
next-known n e p (mark.LimitSet c l) k o = refl
next-known n e p (mark.Added c) k o = ap (λ cs. record { publish_states = record { confirm_modes = p.publish_states.confirm_modes; cells = cs }; returned_by_channel = p.returned_by_channel; early = p.early; origins = (after_mark p (mark.Added c)).origins }) (sym (with-push n (failed e) (Some (cell.Queued c)) p.publish_states.cells k.within))
next-known n e p (mark.SelectLeft c) k o = refl
next-known n e p (mark.Left c j) k o = ap (λ cs. record { publish_states = record { confirm_modes = (after_mark p (mark.Left c j)).publish_states.confirm_modes; cells = cs }; returned_by_channel = p.returned_by_channel; early = p.early; origins = p.origins }) (with-comm j n _ (failed e) p.publish_states.cells o)
next-known n e p (mark.Settled c s) k o =
    ap (λ ns. record { publish_states = record { confirm_modes = p.publish_states.confirm_modes; cells = map (option_map (settled_cell c (covers s) (outcome_of s))) (with_under n (failed e) p.publish_states.cells) }; returned_by_channel = on_channel c (attached_to_all ns) p.returned_by_channel; early = p.early; origins = p.origins }) (covered-other c n e p (covers s) k.unpending)
    ∙ ap (λ cs. record { publish_states = record { confirm_modes = p.publish_states.confirm_modes; cells = cs }; returned_by_channel = on_channel c (attached_to_all (covered_in c (covers s) p.publish_states)) p.returned_by_channel; early = p.early; origins = p.origins }) (map-comm (settled_cell c (covers s) (outcome_of s)) n (cell.Resolved (outcome.Failed e)) p.publish_states.cells refl)
next-known n e p (mark.Arrived c m) k o = refl
next-known n e p (mark.ClosedHere c x) k o = ap (λ cs. record { publish_states = record { confirm_modes = p.publish_states.confirm_modes; cells = cs }; returned_by_channel = p.returned_by_channel; early = p.early; origins = p.origins }) (map-comm (closed_cell c x) n (cell.Resolved (outcome.Failed e)) p.publish_states.cells refl)
next-known n e p (mark.Ended c x) k o = ap (λ cs. record { publish_states = record { confirm_modes = (after_mark p (mark.Ended c x)).publish_states.confirm_modes; cells = cs }; returned_by_channel = p.returned_by_channel; early = p.early; origins = p.origins }) (map-comm (ended_cell c x) n (cell.Resolved (outcome.Failed e)) p.publish_states.cells refl)
next-known n e p (mark.Taken j) k o = ap (λ cs. record { publish_states = record { confirm_modes = p.publish_states.confirm_modes; cells = cs }; returned_by_channel = (after_mark p (mark.Taken j)).returned_by_channel; early = p.early; origins = (after_mark p (mark.Taken j)).origins }) (with-comm j n None (failed e) p.publish_states.cells o)
next-known n e p (mark.SetAside j) k o =
    ap (λ b. cond b (kept_by j (rejected n e p)) (laid_by j (rejected n e p))) (ap is_resolved (under-other j n (failed e) p.publish_states.cells o))
    ∙ by (is_resolved (under j p.publish_states.cells))
  where
    by : (b : Bool) → cond b (kept_by j (rejected n e p)) (laid_by j (rejected n e p)) ≡ rejected n e (cond b (kept_by j p) (laid_by j p))
    by true = ap (λ cs. record { publish_states = record { confirm_modes = p.publish_states.confirm_modes; cells = cs }; returned_by_channel = (kept_by j p).returned_by_channel; early = p.early; origins = (kept_by j p).origins }) (with-comm j n None (failed e) p.publish_states.cells o)
    by false = refl
next-known n e p (mark.Drained c) k o =
    ap (λ (r : Remains). made r (on_channel c (drained_return_lists (is_over (with_under n (failed e) p.publish_states.cells))) p.returned_by_channel)) left
    ∙ ap (λ (ts : List (ℕ × ReturnLists)). made (wrote n e (less_all (over_aside c p) (remaining p.publish_states.cells p.origins))) ts) (on-agree c (drained_return_lists (is_over (with_under n (failed e) p.publish_states.cells))) (drained_return_lists (is_over p.publish_states.cells)) (messages_on c p.early) p.returned_by_channel (drained-other n e p.publish_states.cells (return_lists_at c p) (k.unlaid c)))
  where
    made : Remains → List (ℕ × ReturnLists) → ConfirmState
    made r ts = record { publish_states = record { confirm_modes = p.publish_states.confirm_modes; cells = r.cells }; returned_by_channel = ts; early = (after_mark p (mark.Drained c)).early; origins = r.origins }

    over : over_aside c (rejected n e p) ≡ over_aside c p
    over = filter-same n (is_over (with_under n (failed e) p.publish_states.cells)) (is_over p.publish_states.cells) (return_lists_at c p).aside (over-other n e p.publish_states.cells) (k.unlaid c)

    nobody : stands n (over_aside c p) ≡ false
    nobody = stands-filter (is_over p.publish_states.cells) n (return_lists_at c p).aside ∙ ap (λ b. b && is_over p.publish_states.cells n) (k.unlaid c)

    left : less_all (over_aside c (rejected n e p)) (remaining (with_under n (failed e) p.publish_states.cells) p.origins) ≡ wrote n e (less_all (over_aside c p) (remaining p.publish_states.cells p.origins))
    left = ap (λ ks. less_all ks (remaining (with_under n (failed e) p.publish_states.cells) p.origins)) over ∙ all-other (over_aside c p) n e (remaining p.publish_states.cells p.origins) nobody

-- ---- what a history says of it

not-gone : (n : ℕ) (ms : List ConfirmMark) (p : ConfirmState) → Follows ms p → IsUnasked n ms → is_gone n ms ≡ false
not-gone n ms p f u = false_from_ne_true (is_gone n ms) (λ h. let yes : is_finished n ms ≡ true = (facts ms f.came).gone n h in let no : true ≡ false = sym yes ∙ u.unfinished in cc)

queued-there : (k : ℕ) (ms : List ConfirmMark) (p : ConfirmState) → Follows ms p → IsUnasked (suc k) ms → under (suc k) p.publish_states.cells ≡ Some (queued_cell (channel_of (suc k) ms) (first_rejected (channel_of (suc k) ms) (life (suc k) ms)))
queued-there k ms p f u =
    let last : suc k ≤ added ms = u.added.1 in
    f.cells k (omega arith)
    ∙ ap (λ b. cond b None (Some (open_cell (suc k) ms))) (not-gone (suc k) ms p f u)
    ∙ ap (λ b. Some (cond b (left_cell (channel_of (suc k) ms) (tag_of (suc k) ms) (after (leaves (suc k)) ms)) (queued_cell (channel_of (suc k) ms) (first_rejected (channel_of (suc k) ms) (life (suc k) ms))))) u.unleft

rejected-there : (k : ℕ) (ms : List ConfirmMark) (p : ConfirmState) (e : Error) → Follows ms p → IsUnasked (suc k) ms → under (suc k) (with_under (suc k) (failed e) p.publish_states.cells) ≡ failed e
rejected-there k ms p e f u = under-same (suc k) (failed e) (queued_cell (channel_of (suc k) ms) (first_rejected (channel_of (suc k) ms) (life (suc k) ms))) p.publish_states.cells (queued-there k ms p f u)

queued-unpending : (d : ℕ) (o : Option Outcome) → Unpending (Some (queued_cell d o))
queued-unpending d None c t = refl
queued-unpending d (Some x) c t = refl

known-of : (n : ℕ) (ms : List ConfirmMark) (p : ConfirmState) → Follows ms p → IsUnasked n ms → Known n p
known-of zero ms p f u = let none : 1 ≤ 0 = u.added.0 in absurd (omega arith)
known-of (suc k) ms p f u =
    let last : suc k ≤ added ms = u.added.1 in
    let count : length p.publish_states.cells ≡ added ms = f.count in
    record {
      within = omega arith;
      unpending = λ c t. ap (is_pending_as c t) (queued-there k ms p f u) ∙ queued-unpending (channel_of (suc k) ms) (first_rejected (channel_of (suc k) ms) (life (suc k) ms)) c t;
      unlaid = λ c. ap (λ (l : ReturnLists). stands (suc k) l.aside) (f.return_lists c) ∙ (facts ms f.came).aside c (suc k) ∙ never (channel_of (suc k) ms == c) (is_aside (suc k) ms) (not (is_gone (suc k) ms)) (or_parts (is_taken (suc k) ms) (is_aside (suc k) ms) u.unfinished).1;
    }
  where
    never : (a b c : Bool) → b ≡ false → (a && (b && c)) ≡ false
    never true b c h = rw h refl
    never false b c h = refl

pub rejected-next : (ms : List ConfirmMark) (p : ConfirmState) (m : ConfirmMark) (n : ℕ) (e : Error) → Follows ms p → IsUnasked n ms → IsOther n m → after_mark (rejected n e p) m ≡ rejected n e (after_mark p m)
rejected-next ms p m n e f u o = next-known n e p m (known-of n ms p f u) o

-- ---- its result is given, or set aside

pub rejected-given : (p : ConfirmState) (n : ℕ) (e : Error) → after_mark (rejected n e p) (mark.Taken n) ≡ after_mark p (mark.Taken n)
rejected-given p n e = ap (λ cs. record { publish_states = record { confirm_modes = p.publish_states.confirm_modes; cells = cs }; returned_by_channel = (after_mark p (mark.Taken n)).returned_by_channel; early = p.early; origins = (after_mark p (mark.Taken n)).origins }) (with-twice n None (failed e) p.publish_states.cells)

pub rejected-aside : (ms : List ConfirmMark) (p : ConfirmState) (n : ℕ) (e : Error) → Follows ms p → IsUnasked n ms → after_mark (rejected n e p) (mark.SetAside n) ≡ kept_by n p
rejected-aside ms p zero e f u = let none : 1 ≤ 0 = u.added.0 in absurd (omega arith)
rejected-aside ms p (suc k) e f u =
    ap (λ (b : Bool). cond b (kept_by (suc k) (rejected (suc k) e p)) (laid_by (suc k) (rejected (suc k) e p))) (ap is_resolved (rejected-there k ms p e f u))
    ∙ ap (λ cs. record { publish_states = record { confirm_modes = p.publish_states.confirm_modes; cells = cs }; returned_by_channel = (kept_by (suc k) p).returned_by_channel; early = p.early; origins = (kept_by (suc k) p).origins }) (with-twice (suc k) None (failed e) p.publish_states.cells)

-- ---- it goes on to be so

ne-eqb : (a b : ℕ) → a ≢ b → (a == b) ≡ false
ne-eqb a b apart = elim (eqb_tells a b) [ inl same ↦ absurd (apart same.1) | inr other ↦ other.0 ]

leaves-other : (n : ℕ) (m : ConfirmMark) → IsOther n m → leaves n m ≡ false
leaves-other n (mark.Left c k) o = ne-eqb k n o
leaves-other n _ o = refl

asks-other : (n : ℕ) (m : ConfirmMark) → IsOther n m → (takes n m || lays n m) ≡ false
asks-other n (mark.Taken k) o = rw (ne-eqb k n o) refl
asks-other n (mark.SetAside k) o = rw (ne-eqb k n o) refl
asks-other n _ o = refl

pub unasked-push : (ms : List ConfirmMark) (m : ConfirmMark) (n : ℕ) → IsUnasked n ms → IsOther n m → IsUnasked n (ms ++ m ∷ [])
unasked-push ms m n u o = record {
  added = added_still n ms m u.added;
  unleft = left-push n ms m ∙ or_from (has_left n ms) (leaves n m) u.unleft (leaves-other n m o);
  unfinished = finished-push n ms m ∙ or_from (is_finished n ms) (takes n m || lays n m) u.unfinished (asks-other n m o);
}

-- ---- what a poll gives

pub rejected-told : (ms : List ConfirmMark) (p : ConfirmState) (n : ℕ) (e : Error) → Follows ms p → IsUnasked n ms → taken_answer n (rejected n e p) ≡ Ok (Some (Err e))
rejected-told ms p zero e f u = let none : 1 ≤ 0 = u.added.0 in absurd (omega arith)
rejected-told ms p (suc k) e f u =
    let last : suc k ≤ added ms = u.added.1 in
    let count : length (with_under (suc k) (failed e) p.publish_states.cells) ≡ length p.publish_states.cells = length-with (suc k) (failed e) p.publish_states.cells in
    let all : length p.publish_states.cells ≡ added ms = f.count in
    let free : is_set_aside (suc k) p ≡ false = ap is_aside_in (f.origins k (omega arith)) ∙ ap (λ b. is_aside_in (cond b None (Some (record { channel = channel_of (suc k) ms; aside = is_aside (suc k) ms })))) (not-gone (suc k) ms p f u) ∙ (or_parts (is_taken (suc k) ms) (is_aside (suc k) ms) u.unfinished).1 in
    let known : is_unknown (suc k) (rejected (suc k) e p).publish_states ≡ false = number-known k (length (with_under (suc k) (failed e) p.publish_states.cells)) (omega arith) in
    ap (λ b. cond b (Err error.AlreadyTaken) (answer_with (message_of (suc k) p) (answer_at (suc k) (rejected (suc k) e p).publish_states))) free
    ∙ ap (λ b. answer_with (message_of (suc k) p) (cond b (Err error.UnknownTicket) (answer_in (under (suc k) (with_under (suc k) (failed e) p.publish_states.cells))))) known
    ∙ ap (λ o. answer_with (message_of (suc k) p) (answer_in o)) (rejected-there k ms p e f u)
  where
    number-known : (i m : ℕ) → suc i ≤ m → (suc i == 0 || nat_lt m (suc i)) ≡ false
    number-known i m le = or_from (suc i == 0) (nat_lt m (suc i)) (ne-eqb (suc i) 0 (λ e. absurd (omega arith))) (false_from_ne_true (nat_lt m (suc i)) (λ h. let lt : m < suc i = ltb-true m (suc i) h in absurd (omega arith)))
