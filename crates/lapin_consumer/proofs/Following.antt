-- A subscriptions that follows a history follows the longer one after the machine's step.
use Rattle.std.proofs.Common.{◌≡◌, ℕ, zero, suc, ◌+◌, ◌<◌, ◌≤◌, Bool, true, false, cond, List, [], ◌∷◌, ◌++◌, length, map, drop, Some, None, Ok, refl, sym, ◌∙◌, ap, arith, append_assoc, length-append}
use Rattle.std.proofs.lemmas.List.{append-nil}
use Rattle.lapin_types.specs.declared.job.Job.{Job}
use Rattle.lapin_consumer.specs.declared.state.ConsumerState.{ConsumerState}
use Rattle.lapin_consumer.specs.Words.{map_at, gather_at}
use Rattle.lapin_consumer.specs.Marks.{ConsumerMark}
use Rattle.lapin_consumer.specs.Marks as mark
use Rattle.lapin_consumer.specs.Subscriptions.{Handed, Consumer, Subscriptions, concerns, becomes, moved, owed, joined, job_taken, after_mark, is_marked, handed, last_words, canceled, empty_subscriptions}
use Rattle.lapin_consumer.specs.Readings.{Entry, Waiting, Given, MadeJob, Void, Story, waiting, arrived, arrived_one, turned_job, turned_void, poll_first, told, seen, told_at, joined_story, next_stories, stories_from, stories, jobs_by, jobs_from, jobs_made, asks, jobs_taken, newcomer_story}
use Rattle.lapin_consumer.specs.Follows.{Follows, MayCome}

-- ---- what waits after a change of a log

waiting-append : (es fs : List Entry) → waiting (es ++ fs) ≡ waiting es ++ waiting fs
waiting-append [] fs = refl
waiting-append (Waiting y ∷ es) fs = ap (λ ys. y ∷ ys) (waiting-append es fs)
waiting-append (Given y ∷ es) fs = waiting-append es fs
waiting-append (MadeJob y ∷ es) fs = waiting-append es fs
waiting-append (Void y ∷ es) fs = waiting-append es fs

waiting_jobs : (ys : List Handed) → waiting (map MadeJob ys) ≡ []
waiting_jobs [] = refl
waiting_jobs (y ∷ ys) = waiting_jobs ys

waiting_new : (ys : List Handed) → waiting (map Waiting ys) ≡ ys
waiting_new [] = refl
waiting_new (y ∷ ys) = ap (λ zs. y ∷ zs) (waiting_new ys)

pub waiting-arrived : (s : ConsumerState) (ys : List Handed) (es : List Entry) → waiting (arrived s ys es) ≡ cond (is_marked s) (waiting es) (waiting es ++ ys)
waiting-arrived s ys es = waiting-append es (map (arrived_one s) ys) ∙ elim (is_marked s) as (λ b. waiting es ++ waiting (map (λ y. cond b (MadeJob y) (Waiting y)) ys) ≡ cond b (waiting es) (waiting es ++ ys)) [
  | true ↦ ap (λ zs. waiting es ++ zs) (waiting_jobs ys) ∙ append-nil (waiting es)
  | false ↦ ap (λ zs. waiting es ++ zs) (waiting_new ys)
]

pub waiting-jobs : (es : List Entry) → waiting (map turned_job es) ≡ []
waiting-jobs [] = refl
waiting-jobs (Waiting y ∷ es) = waiting-jobs es
waiting-jobs (Given y ∷ es) = waiting-jobs es
waiting-jobs (MadeJob y ∷ es) = waiting-jobs es
waiting-jobs (Void y ∷ es) = waiting-jobs es

pub waiting-void : (es : List Entry) → waiting (map turned_void es) ≡ []
waiting-void [] = refl
waiting-void (Waiting y ∷ es) = waiting-void es
waiting-void (Given y ∷ es) = waiting-void es
waiting-void (MadeJob y ∷ es) = waiting-void es
waiting-void (Void y ∷ es) = waiting-void es

pub waiting-poll : (es : List Entry) → waiting (poll_first es) ≡ drop 1 (waiting es)
waiting-poll [] = refl
waiting-poll (Waiting y ∷ es) = refl
waiting-poll (Given y ∷ es) = waiting-poll es
waiting-poll (MadeJob y ∷ es) = waiting-poll es
waiting-poll (Void y ∷ es) = waiting-poll es

-- ---- one consumer

handed-arrived : (s : Story) (ys : List Handed) → ◌≡◌ {A = Consumer} (record (seen s) { items = waiting (arrived s.state ys s.log) }) (handed ys (seen s))
handed-arrived s ys =
    ap (λ (zs : List Handed). record { channel = s.channel; tag = s.tag; queue = s.queue; state = s.state; registered = s.registered; items = zs }) (waiting-arrived s.state ys s.log)
    ∙ elim (is_marked s.state) as (λ b. ◌≡◌ {A = Consumer} (record (seen s) { items = cond b (waiting s.log) (waiting s.log ++ ys) }) (cond b (seen s) (record (seen s) { items = waiting s.log ++ ys }))) [ true ↦ refl | false ↦ refl ]

one : (m : ConsumerMark) (s : Story) → seen (told m s) ≡ becomes m (seen s)
one (mark.Registered c t q) s = refl
one (mark.Completed k d) s = handed-arrived s (Ok (Some d) ∷ [])
one (mark.CancelAsked c t) s = refl
one (mark.CloseAsked c) s = refl
one (mark.Canceled c t) s = ap canceled (handed-arrived s (last_words None))
one (mark.Ended c e) s = ap canceled (handed-arrived s (last_words e))
one (mark.Discarded c) s = ap (λ (zs : List Handed). record (seen s) { items = zs }) (waiting-void s.log)
one (mark.Delegated k) s = ap (λ (zs : List Handed). record (seen (told (mark.Delegated k) s)) { items = zs }) (waiting-jobs s.log)
one (mark.Polled k) s = ap (λ (zs : List Handed). record (seen s) { items = zs }) (waiting-poll s.log)
one (mark.LetGo k) s = refl
one mark.JobAsked s = refl

one_at : (m : ConsumerMark) (i : ℕ) (s : Story) → seen (told_at m i s) ≡ moved m i (seen s)
one_at m i s = elim (concerns m (suc i) (seen s)) as (λ b. seen (cond b (told m s) s) ≡ cond b (becomes m (seen s)) (seen s)) [ true ↦ one m s | false ↦ refl ]

-- ---- all of them

map-map_at : {X Y : Type 0} (h : X → Y) (f : ℕ → X → X) (g : ℕ → Y → Y) (xs : List X) → ((i : ℕ) (x : X) → h (f i x) ≡ g i (h x)) → map h (map_at f xs) ≡ map_at g (map h xs)
map-map_at h f g [] same = refl
map-map_at h f g (x ∷ xs) same = rw (same 0 x, map-map_at h (λ i. f (suc i)) (λ i. g (suc i)) xs (λ i. same (suc i))) refl

map-append : {X Y : Type 0} (h : X → Y) (xs ys : List X) → map h (xs ++ ys) ≡ map h xs ++ map h ys
map-append h [] ys = refl
map-append h (x ∷ xs) ys = ap (λ zs. h x ∷ zs) (map-append h xs ys)

joins : (m : ConsumerMark) (ss : List Story) → map seen (joined_story m ss) ≡ joined m (map seen ss)
joins (mark.Registered c t q) ss = map-append seen ss (newcomer_story c t q ∷ [])
joins (mark.Completed k d) ss = refl
joins (mark.CancelAsked c t) ss = refl
joins (mark.CloseAsked c) ss = refl
joins (mark.Canceled c t) ss = refl
joins (mark.Ended c e) ss = refl
joins (mark.Discarded c) ss = refl
joins (mark.Delegated k) ss = refl
joins (mark.Polled k) ss = refl
joins (mark.LetGo k) ss = refl
joins mark.JobAsked ss = refl

all : (m : ConsumerMark) (ss : List Story) → map seen (next_stories m ss) ≡ joined m (map_at (moved m) (map seen ss))
all m ss = joins m (map_at (told_at m) ss) ∙ ap (joined m) (map-map_at seen (told_at m) (moved m) ss (one_at m))

-- ---- histories

pub stories-push : (ss : List Story) (ms : List ConsumerMark) (m : ConsumerMark) → stories_from ss (ms ++ m ∷ []) ≡ next_stories m (stories_from ss ms)
stories-push ss [] m = refl
stories-push ss (l ∷ ms) m = stories-push (next_stories l ss) ms m

pub jobs-push : (ss : List Story) (ms : List ConsumerMark) (m : ConsumerMark) → jobs_from ss (ms ++ m ∷ []) ≡ jobs_from ss ms ++ jobs_by m (stories_from ss ms)
jobs-push ss [] m = append-nil (jobs_by m ss)
jobs-push ss (l ∷ ms) m = ap (λ js. jobs_by l ss ++ js) (jobs-push (next_stories l ss) ms m) ∙ sym (append_assoc (jobs_by l ss) (jobs_from (next_stories l ss) ms) (jobs_by m (stories_from (next_stories l ss) ms)))

taken-push : (ms : List ConsumerMark) (m : ConsumerMark) → jobs_taken (ms ++ m ∷ []) ≡ cond (asks m) (jobs_taken ms + 1) (jobs_taken ms)
taken-push [] m = refl
taken-push (l ∷ ms) m = rw (taken-push ms m) (elim (asks l) as (λ a. cond a (cond (asks m) (jobs_taken ms + 1) (jobs_taken ms) + 1) (cond (asks m) (jobs_taken ms + 1) (jobs_taken ms)) ≡ cond (asks m) (cond a (jobs_taken ms + 1) (jobs_taken ms) + 1) (cond a (jobs_taken ms + 1) (jobs_taken ms))) [
  | true ↦ elim (asks m) as (λ b. cond b (jobs_taken ms + 1) (jobs_taken ms) + 1 ≡ cond b (jobs_taken ms + 1 + 1) (jobs_taken ms + 1)) [ true ↦ refl | false ↦ refl ]
  | false ↦ refl
])

drop-within : {X : Type 0} (n : ℕ) (xs ys : List X) → n ≤ length xs → drop n (xs ++ ys) ≡ drop n xs ++ ys
drop-within zero xs ys h = refl
drop-within (suc n) [] ys h = absurd (omega arith)
drop-within (suc n) (x ∷ xs) ys h = drop-within n xs ys (omega arith)

drop-more : {X : Type 0} (n : ℕ) (xs : List X) → drop 1 (drop n xs) ≡ drop (n + 1) xs
drop-more zero xs = refl
drop-more (suc n) [] = let e : suc n + 1 ≡ suc (n + 1) = omega arith in rw e refl
drop-more (suc n) (x ∷ xs) = let e : suc n + 1 ≡ suc (n + 1) = omega arith in rw e (drop-more n xs)

takes : (m : ConsumerMark) (js : List Job) → job_taken m js ≡ cond (asks m) (drop 1 js) js
takes (mark.Registered c t q) js = refl
takes (mark.Completed k d) js = refl
takes (mark.CancelAsked c t) js = refl
takes (mark.CloseAsked c) js = refl
takes (mark.Canceled c t) js = refl
takes (mark.Ended c e) js = refl
takes (mark.Discarded c) js = refl
takes (mark.Delegated k) js = refl
takes (mark.Polled k) js = refl
takes (mark.LetGo k) js = refl
takes mark.JobAsked js = refl

may_ask : (m : ConsumerMark) (ms : List ConsumerMark) → MayCome ms m → asks m ≡ true → jobs_taken ms < length (jobs_made ms)
may_ask (mark.Registered c t q) ms may h = cc
may_ask (mark.Completed k d) ms may h = cc
may_ask (mark.CancelAsked c t) ms may h = cc
may_ask (mark.CloseAsked c) ms may h = cc
may_ask (mark.Canceled c t) ms may h = cc
may_ask (mark.Ended c e) ms may h = cc
may_ask (mark.Discarded c) ms may h = cc
may_ask (mark.Delegated k) ms may h = cc
may_ask (mark.Polled k) ms may h = cc
may_ask (mark.LetGo k) ms may h = cc
may_ask mark.JobAsked ms may h = may

step_jobs : {X : Type 0} (b : Bool) (n : ℕ) (js made more : List X) → n ≤ length made → js ≡ drop n made → cond b (drop 1 (js ++ more)) (js ++ more) ≡ drop (cond b (n + 1) n) (made ++ more)
step_jobs b n js made more h e =
    let both : js ++ more ≡ drop n (made ++ more) = ap (λ ks. ks ++ more) e ∙ sym (drop-within n made more h) in
    elim b as (λ c. cond c (drop 1 (js ++ more)) (js ++ more) ≡ drop (cond c (n + 1) n) (made ++ more)) [ true ↦ ap (drop 1) both ∙ drop-more n (made ++ more) | false ↦ both ]

step_count : (b : Bool) (n m k : ℕ) → n ≤ m → (b ≡ true → n < m) → m ≤ k → cond b (n + 1) n ≤ k
step_count true n m k h may more = let below : n < m = may refl in omega arith
step_count false n m k h may more = omega arith

pub follows-push : (ms : List ConsumerMark) (r : Subscriptions) (m : ConsumerMark) → Follows ms r → MayCome ms m → Follows (ms ++ m ∷ []) (after_mark r m)
follows-push ms r m f may =
    let made : jobs_made (ms ++ m ∷ []) ≡ jobs_made ms ++ jobs_by m (stories ms) = jobs-push [] ms m in
    let due : gather_at (owed m) r.consumers ≡ jobs_by m (stories ms) = ap (gather_at (owed m)) f.consumers in
    record {
      consumers = ap (λ xs. joined m (map_at (moved m) xs)) f.consumers ∙ sym (all m (stories ms)) ∙ ap (map seen) (sym (stories-push [] ms m));
      jobs =
          takes m (r.jobs ++ gather_at (owed m) r.consumers)
          ∙ ap (λ ks. cond (asks m) (drop 1 (r.jobs ++ ks)) (r.jobs ++ ks)) due
          ∙ step_jobs (asks m) (jobs_taken ms) r.jobs (jobs_made ms) (jobs_by m (stories ms)) f.taken f.jobs
          ∙ ap (λ k. drop k (jobs_made ms ++ jobs_by m (stories ms))) (sym (taken-push ms m))
          ∙ ap (drop (jobs_taken (ms ++ m ∷ []))) (sym made);
      taken = rw (taken-push ms m, made) (step_count (asks m) (jobs_taken ms) (length (jobs_made ms)) (length (jobs_made ms ++ jobs_by m (stories ms))) f.taken (may_ask m ms may) (omega (arith, length-append (jobs_made ms) (jobs_by m (stories ms)))));
    }

pub nothing : Follows [] empty_subscriptions
nothing = record { consumers = refl; jobs = refl; taken = omega arith }
