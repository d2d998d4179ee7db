-- What polls gave and what waits are the items of a log, in order.
use Rattle.std.proofs.Common.{◌≡◌, ℕ, zero, suc, ◌==◌, Bool, true, false, cond, List, [], ◌∷◌, ◌++◌, map, take, Option, Some, None, Ok, refl, sym, ◌∙◌, ap, subst, slice_get, append_assoc}
use Rattle.std.specs.Option.{option_map}
use Rattle.std.proofs.lemmas.List.{append-nil}
use Rattle.lapin_consumer.specs.declared.state.ConsumerState.{ConsumerState}
use Rattle.lapin_consumer.specs.Words.{map_at}
use Rattle.lapin_consumer.specs.Marks.{ConsumerMark}
use Rattle.lapin_consumer.specs.Marks as mark
use Rattle.lapin_consumer.specs.Subscriptions.{Handed, Consumer, Subscriptions, concerns, is_marked, last_words}
use Rattle.lapin_consumer.specs.Readings.{Entry, Waiting, Given, MadeJob, Void, Story, items, waiting, arrived, arrived_one, turned_job, turned_void, poll_first, told, seen, told_at, joined_story, next_stories, stories_from, stories, log_in, log, given_by, given_from, given, newcomer_story}
use Rattle.lapin_consumer.specs.Follows.{Follows}
use Rattle.lapin_consumer.proofs.Places.{get-map_at, get-map}

-- what polls gave
abbrev gave : List Entry → List Handed
gave [] = []
gave (Waiting y ∷ es) = gave es
gave (Given y ∷ es) = y ∷ gave es
gave (MadeJob y ∷ es) = gave es
gave (Void y ∷ es) = gave es

-- nothing was given after what waits
abbrev Sorted : List Entry → Type 0
Sorted [] = Unit {0}
Sorted (Waiting y ∷ es) = (gave es ≡ []) × Sorted es
Sorted (Given y ∷ es) = Sorted es
Sorted (MadeJob y ∷ es) = Sorted es
Sorted (Void y ∷ es) = Sorted es

gave-append : (es fs : List Entry) → gave (es ++ fs) ≡ gave es ++ gave fs
gave-append [] fs = refl
gave-append (Waiting y ∷ es) fs = gave-append es fs
gave-append (Given y ∷ es) fs = ap (λ ys. y ∷ ys) (gave-append es fs)
gave-append (MadeJob y ∷ es) fs = gave-append es fs
gave-append (Void y ∷ es) fs = gave-append es fs

gave_new : (s : ConsumerState) (ys : List Handed) → gave (map (arrived_one s) ys) ≡ []
gave_new s [] = refl
gave_new s (y ∷ ys) = elim (is_marked s) as (λ b. gave (cond b (MadeJob y) (Waiting y) ∷ map (arrived_one s) ys) ≡ []) [ true ↦ gave_new s ys | false ↦ gave_new s ys ]

sorted_new : (s : ConsumerState) (ys : List Handed) → Sorted (map (arrived_one s) ys)
sorted_new s [] = tt
sorted_new s (y ∷ ys) = elim (is_marked s) as (λ b. Sorted (cond b (MadeJob y) (Waiting y) ∷ map (arrived_one s) ys)) [ true ↦ sorted_new s ys | false ↦ (gave_new s ys, sorted_new s ys) ]

sorted-append : (es fs : List Entry) → Sorted es → gave fs ≡ [] → Sorted fs → Sorted (es ++ fs)
sorted-append [] fs s none t = t
sorted-append (Waiting y ∷ es) fs s none t = (gave-append es fs ∙ ap (λ ys. ys ++ gave fs) s.0 ∙ none, sorted-append es fs s.1 none t)
sorted-append (Given y ∷ es) fs s none t = sorted-append es fs s none t
sorted-append (MadeJob y ∷ es) fs s none t = sorted-append es fs s none t
sorted-append (Void y ∷ es) fs s none t = sorted-append es fs s none t

gave-jobs : (es : List Entry) → gave (map turned_job es) ≡ gave es
gave-jobs [] = refl
gave-jobs (Waiting y ∷ es) = gave-jobs es
gave-jobs (Given y ∷ es) = ap (λ ys. y ∷ ys) (gave-jobs es)
gave-jobs (MadeJob y ∷ es) = gave-jobs es
gave-jobs (Void y ∷ es) = gave-jobs es

sorted-jobs : (es : List Entry) → Sorted (map turned_job es)
sorted-jobs [] = tt
sorted-jobs (Waiting y ∷ es) = sorted-jobs es
sorted-jobs (Given y ∷ es) = sorted-jobs es
sorted-jobs (MadeJob y ∷ es) = sorted-jobs es
sorted-jobs (Void y ∷ es) = sorted-jobs es

gave-void : (es : List Entry) → gave (map turned_void es) ≡ gave es
gave-void [] = refl
gave-void (Waiting y ∷ es) = gave-void es
gave-void (Given y ∷ es) = ap (λ ys. y ∷ ys) (gave-void es)
gave-void (MadeJob y ∷ es) = gave-void es
gave-void (Void y ∷ es) = gave-void es

sorted-void : (es : List Entry) → Sorted (map turned_void es)
sorted-void [] = tt
sorted-void (Waiting y ∷ es) = sorted-void es
sorted-void (Given y ∷ es) = sorted-void es
sorted-void (MadeJob y ∷ es) = sorted-void es
sorted-void (Void y ∷ es) = sorted-void es

gave-poll : (es : List Entry) → Sorted es → gave (poll_first es) ≡ gave es ++ take 1 (waiting es)
gave-poll [] s = refl
gave-poll (Waiting y ∷ es) s = ap (λ ys. y ∷ ys) s.0 ∙ sym (ap (λ ys. ys ++ y ∷ []) s.0)
gave-poll (Given y ∷ es) s = ap (λ ys. y ∷ ys) (gave-poll es s)
gave-poll (MadeJob y ∷ es) s = gave-poll es s
gave-poll (Void y ∷ es) s = gave-poll es s

sorted-poll : (es : List Entry) → Sorted es → Sorted (poll_first es)
sorted-poll [] s = tt
sorted-poll (Waiting y ∷ es) s = s.1
sorted-poll (Given y ∷ es) s = sorted-poll es s
sorted-poll (MadeJob y ∷ es) s = sorted-poll es s
sorted-poll (Void y ∷ es) s = sorted-poll es s

-- the law of one log
split : (es : List Entry) → Sorted es → items es ≡ gave es ++ waiting es
split [] s = refl
split (Waiting y ∷ es) s = ap (λ ys. y ∷ ys) (split es s.1 ∙ ap (λ ys. ys ++ waiting es) s.0) ∙ sym (ap (λ ys. ys ++ y ∷ waiting es) s.0)
split (Given y ∷ es) s = ap (λ ys. y ∷ ys) (split es s)
split (MadeJob y ∷ es) s = split es s
split (Void y ∷ es) s = split es s

-- ---- a log after a mark

record Good (es : List Entry) (ys : List Handed) : Type 0 where
  gave : gave es ≡ ys
  sorted : Sorted es

arrived_good : (s : ConsumerState) (ys : List Handed) (es : List Entry) → Sorted es → Good (arrived s ys es) (gave es ++ [])
arrived_good s ys es sorted = record { gave = gave-append es (map (arrived_one s) ys) ∙ ap (λ zs. gave es ++ zs) (gave_new s ys); sorted = sorted-append es (map (arrived_one s) ys) sorted (gave_new s ys) (sorted_new s ys) }

same_good : (es : List Entry) → Sorted es → Good es (gave es ++ [])
same_good es sorted = record { gave = sym (append-nil (gave es)); sorted = sorted }

-- what a mark gives to who polls the consumer of this story
abbrev given_one : ℕ → ConsumerMark → Option Story → List Handed
given_one p (mark.Polled k) o = cond (suc p == k) (take 1 (waiting (log_in o))) []
given_one p _ o = []

either : (b : Bool) (s t : Story) (ys : List Handed) → Good t.log ys → Good s.log ys → Good (cond b t s).log ys
either true s t ys g h = g
either false s t ys g h = h

told_good : (m : ConsumerMark) (p : ℕ) (s : Story) → Sorted s.log → Good (told_at m p s).log (gave s.log ++ given_one p m (Some s))
told_good (mark.Registered c t q) p s sorted = either (concerns (mark.Registered c t q) (suc p) (seen s)) s (told (mark.Registered c t q) s) (gave s.log ++ []) (same_good s.log sorted) (same_good s.log sorted)
told_good (mark.Completed k d) p s sorted = either (concerns (mark.Completed k d) (suc p) (seen s)) s (told (mark.Completed k d) s) (gave s.log ++ []) (arrived_good s.state (Ok (Some d) ∷ []) s.log sorted) (same_good s.log sorted)
told_good (mark.CancelAsked c t) p s sorted = either (concerns (mark.CancelAsked c t) (suc p) (seen s)) s (told (mark.CancelAsked c t) s) (gave s.log ++ []) (same_good s.log sorted) (same_good s.log sorted)
told_good (mark.CloseAsked c) p s sorted = either (concerns (mark.CloseAsked c) (suc p) (seen s)) s (told (mark.CloseAsked c) s) (gave s.log ++ []) (same_good s.log sorted) (same_good s.log sorted)
told_good (mark.Canceled c t) p s sorted = either (concerns (mark.Canceled c t) (suc p) (seen s)) s (told (mark.Canceled c t) s) (gave s.log ++ []) (arrived_good s.state (last_words None) s.log sorted) (same_good s.log sorted)
told_good (mark.Ended c e) p s sorted = either (concerns (mark.Ended c e) (suc p) (seen s)) s (told (mark.Ended c e) s) (gave s.log ++ []) (arrived_good s.state (last_words e) s.log sorted) (same_good s.log sorted)
told_good (mark.Discarded c) p s sorted = either (concerns (mark.Discarded c) (suc p) (seen s)) s (told (mark.Discarded c) s) (gave s.log ++ []) (record { gave = gave-void s.log ∙ sym (append-nil (gave s.log)); sorted = sorted-void s.log }) (same_good s.log sorted)
told_good (mark.Delegated k) p s sorted = either (concerns (mark.Delegated k) (suc p) (seen s)) s (told (mark.Delegated k) s) (gave s.log ++ []) (record { gave = gave-jobs s.log ∙ sym (append-nil (gave s.log)); sorted = sorted-jobs s.log }) (same_good s.log sorted)
told_good (mark.Polled k) p s sorted = elim (suc p == k) as (λ b. Good (cond b (told (mark.Polled k) s) s).log (gave s.log ++ cond b (take 1 (waiting s.log)) [])) [
  | true ↦ record { gave = gave-poll s.log sorted; sorted = sorted-poll s.log sorted }
  | false ↦ same_good s.log sorted
]
told_good (mark.LetGo k) p s sorted = either (concerns (mark.LetGo k) (suc p) (seen s)) s (told (mark.LetGo k) s) (gave s.log ++ []) (same_good s.log sorted) (same_good s.log sorted)
told_good mark.JobAsked p s sorted = same_good s.log sorted

log-joined : (c : ℕ) (t q : List ℕ) (p : ℕ) (ss : List Story) → log_in (slice_get (ss ++ newcomer_story c t q ∷ []) p) ≡ log_in (slice_get ss p)
log-joined c t q zero [] = refl
log-joined c t q (suc p) [] = refl
log-joined c t q zero (s ∷ ss) = refl
log-joined c t q (suc p) (s ∷ ss) = log-joined c t q p ss

pub log-next : (m : ConsumerMark) (p : ℕ) (ss : List Story) → log_in (slice_get (joined_story m ss) p) ≡ log_in (slice_get ss p)
log-next (mark.Registered c t q) p ss = log-joined c t q p ss
log-next (mark.Completed k d) p ss = refl
log-next (mark.CancelAsked c t) p ss = refl
log-next (mark.CloseAsked c) p ss = refl
log-next (mark.Canceled c t) p ss = refl
log-next (mark.Ended c e) p ss = refl
log-next (mark.Discarded c) p ss = refl
log-next (mark.Delegated k) p ss = refl
log-next (mark.Polled k) p ss = refl
log-next (mark.LetGo k) p ss = refl
log-next mark.JobAsked p ss = refl

given_same : (p : ℕ) (m : ConsumerMark) (ss : List Story) → given_by p m ss ≡ given_one p m (slice_get ss p)
given_same p (mark.Registered c t q) ss = refl
given_same p (mark.Completed k d) ss = refl
given_same p (mark.CancelAsked c t) ss = refl
given_same p (mark.CloseAsked c) ss = refl
given_same p (mark.Canceled c t) ss = refl
given_same p (mark.Ended c e) ss = refl
given_same p (mark.Discarded c) ss = refl
given_same p (mark.Delegated k) ss = refl
given_same p (mark.Polled k) ss = refl
given_same p (mark.LetGo k) ss = refl
given_same p mark.JobAsked ss = refl

given_nobody : (p : ℕ) (m : ConsumerMark) → given_one p m None ≡ []
given_nobody p (mark.Registered c t q) = refl
given_nobody p (mark.Completed k d) = refl
given_nobody p (mark.CancelAsked c t) = refl
given_nobody p (mark.CloseAsked c) = refl
given_nobody p (mark.Canceled c t) = refl
given_nobody p (mark.Ended c e) = refl
given_nobody p (mark.Discarded c) = refl
given_nobody p (mark.Delegated k) = refl
given_nobody p (mark.Polled k) = elim (suc p == k) as (λ b. ◌≡◌ {A = List Handed} (cond b [] []) []) [ true ↦ refl | false ↦ refl ]
given_nobody p (mark.LetGo k) = refl
given_nobody p mark.JobAsked = refl

next_in : (m : ConsumerMark) (p : ℕ) (o : Option Story) (ys : List Handed) → Good (log_in o) ys → Good (log_in (option_map (told_at m p) o)) (ys ++ given_one p m o)
next_in m p None ys g = let P : List Handed → Type 0 = λ zs. Good [] zs in subst P (g.gave ∙ sym (append-nil ys) ∙ ap (λ zs. ys ++ zs) (sym (given_nobody p m))) (record { gave = refl; sorted = tt })
next_in m p (Some s) ys g = let P : List Handed → Type 0 = λ zs. Good (told_at m p s).log (zs ++ given_one p m (Some s)) in subst P g.gave (told_good m p s g.sorted)

next_good : (m : ConsumerMark) (p : ℕ) (ss : List Story) (ys : List Handed) → Good (log_in (slice_get ss p)) ys → Good (log_in (slice_get (next_stories m ss) p)) (ys ++ given_by p m ss)
next_good m p ss ys g =
    let P : List Entry → Type 0 = λ es. Good es (ys ++ given_by p m ss) in
    let Q : List Handed → Type 0 = λ zs. Good (log_in (option_map (told_at m p) (slice_get ss p))) (ys ++ zs) in
    subst P (sym (log-next m p (map_at (told_at m) ss) ∙ ap log_in (get-map_at (told_at m) p ss)))
    (subst Q (sym (given_same p m ss)) (next_in m p (slice_get ss p) ys g))

all_good : (ms : List ConsumerMark) (p : ℕ) (ss : List Story) (ys : List Handed) → Good (log_in (slice_get ss p)) ys → Good (log_in (slice_get (stories_from ss ms) p)) (ys ++ given_from p ss ms)
all_good [] p ss ys g = let P : List Handed → Type 0 = λ zs. Good (log_in (slice_get ss p)) zs in subst P (sym (append-nil ys)) g
all_good (m ∷ ms) p ss ys g =
    let P : List Handed → Type 0 = λ zs. Good (log_in (slice_get (stories_from (next_stories m ss) ms) p)) zs in
    subst P (append_assoc ys (given_by p m ss) (given_from p (next_stories m ss) ms)) (all_good ms p (next_stories m ss) (ys ++ given_by p m ss) (next_good m p ss ys g))

seen_items : (o : Option Story) (x : Consumer) → option_map seen o ≡ Some x → waiting (log_in o) ≡ x.items
seen_items None x h = cc
seen_items (Some s) x h = let e : seen s ≡ x = cc in ap (λ (y : Consumer). y.items) e

-- what polls of a consumer gave, and then what is queued, are the items of its log in order
pub polls : (ms : List ConsumerMark) (r : Subscriptions) (p : ℕ) (x : Consumer) → Follows ms r → slice_get r.consumers p ≡ Some x → items (log (suc p) ms) ≡ given p ms ++ x.items
polls ms r p x f there =
    let good : Good (log_in (slice_get (stories ms) p)) ([] ++ given p ms) = all_good ms p [] [] (record { gave = refl; sorted = tt }) in
    let queued : waiting (log_in (slice_get (stories ms) p)) ≡ x.items = seen_items (slice_get (stories ms) p) x (sym (get-map seen p (stories ms)) ∙ ap (λ xs. slice_get xs p) (sym f.consumers) ∙ there) in
    split (log_in (slice_get (stories ms) p)) good.sorted ∙ rw (good.gave, queued) refl
