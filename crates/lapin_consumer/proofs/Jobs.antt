-- The jobs of a consumer are what its log has as jobs, in order.
use Rattle.std.proofs.Common.{◌≡◌, ◌≢◌, ℕ, zero, suc, ◌==◌, Bool, true, false, cond, List, [], ◌∷◌, ◌++◌, map, Option, Some, None, Ok, refl, sym, ◌∙◌, ap, subst, arith, drop, slice_get, append_assoc, eq-eqb, ne_eqb}
use Rattle.std.specs.Option.{option_map}
use Rattle.std.proofs.lemmas.List.{append-nil}
use Rattle.lapin_types.specs.declared.job.Job.{Job}
use Rattle.lapin_consumer.specs.declared.state.ConsumerState.{ConsumerState}
use Rattle.lapin_consumer.specs.Words.{map_at, gather_at}
use Rattle.lapin_consumer.specs.Marks.{ConsumerMark}
use Rattle.lapin_consumer.specs.Marks as mark
use Rattle.lapin_consumer.specs.Subscriptions.{Handed, Consumer, concerns, owed, due, offered, deliver, discard, is_marked, last_words}
use Rattle.lapin_consumer.specs.Readings.{Entry, Waiting, Given, MadeJob, Void, Story, made, waiting, arrived, arrived_one, turned_job, turned_void, poll_first, told, seen, told_at, joined_story, next_stories, stories_from, log_in, log, newcomer_story, jobs_by, jobs_from, jobs_made, thing_of, delivered}
use Rattle.lapin_consumer.proofs.Places.{get-map_at, get-map, tested}
use Rattle.lapin_consumer.proofs.Polls.{log-next}
use Rattle.lapin_consumer.proofs.Following.{waiting-arrived, waiting-jobs, waiting-void, waiting-poll}

-- ---- which jobs are a consumer's

delivered-append : (n : ℕ) (js ks : List Job) → delivered n (js ++ ks) ≡ delivered n js ++ delivered n ks
delivered-append n [] ks = refl
delivered-append n (j ∷ js) ks =
    elim (j.consumer == n) as (λ b. cond b (thing_of j.kind ++ delivered n (js ++ ks)) (delivered n (js ++ ks)) ≡ cond b (thing_of j.kind ++ delivered n js) (delivered n js) ++ delivered n ks) [
      | true ↦ ap (λ ys. thing_of j.kind ++ ys) (delivered-append n js ks) ∙ sym (append_assoc (thing_of j.kind) (delivered n js) (delivered n ks))
      | false ↦ delivered-append n js ks
    ]

delivered-own : (n : ℕ) (ys : List Handed) → delivered n (map (deliver n) ys) ≡ ys
delivered-own n [] = refl
delivered-own n (y ∷ ys) = rw (eq-eqb n n refl) (ap (λ zs. y ∷ zs) (delivered-own n ys))

delivered-other : (n k : ℕ) (ys : List Handed) → k ≢ n → delivered n (map (deliver k) ys) ≡ []
delivered-other n k [] apart = refl
delivered-other n k (y ∷ ys) apart = rw (ne_eqb k n apart) (delivered-other n k ys apart)

discard-none : (n k : ℕ) → delivered n (discard k ∷ []) ≡ []
discard-none n k = elim (k == n) as (λ b. ◌≡◌ {A = List Handed} (cond b [] []) []) [ true ↦ refl | false ↦ refl ]

offered-own : (n : ℕ) (ys : List Handed) (x : Consumer) → delivered n (offered n ys x) ≡ cond (is_marked x.state) ys []
offered-own n ys x = elim (is_marked x.state) as (λ b. delivered n (cond b (map (deliver n) ys) []) ≡ cond b ys []) [ true ↦ delivered-own n ys | false ↦ refl ]

offered-other : (n k : ℕ) (ys : List Handed) (x : Consumer) → k ≢ n → delivered n (offered k ys x) ≡ []
offered-other n k ys x apart = elim (is_marked x.state) as (λ b. delivered n (cond b (map (deliver k) ys) []) ≡ []) [ true ↦ delivered-other n k ys apart | false ↦ refl ]

discards : (n k : ℕ) (b : Bool) → delivered n (cond b (discard k ∷ []) []) ≡ []
discards n k true = discard-none n k
discards n k false = refl

due-other : (m : ConsumerMark) (n k : ℕ) (x : Consumer) → k ≢ n → delivered n (due m k x) ≡ []
due-other (mark.Registered c t q) n i x apart = refl
due-other (mark.Completed k d) n i x apart = offered-other n i (Ok (Some d) ∷ []) x apart
due-other (mark.CancelAsked c t) n i x apart = refl
due-other (mark.CloseAsked c) n i x apart = refl
due-other (mark.Canceled c t) n i x apart = offered-other n i (last_words None) x apart
due-other (mark.Ended c e) n i x apart = offered-other n i (last_words e) x apart
due-other (mark.Discarded c) n i x apart = discards n i (is_marked x.state)
due-other (mark.Delegated k) n i x apart = delivered-other n i x.items apart
due-other (mark.Polled k) n i x apart = refl
due-other (mark.LetGo k) n i x apart = refl
due-other mark.JobAsked n i x apart = refl

owed-other : (m : ConsumerMark) (n i : ℕ) (x : Consumer) → suc i ≢ n → delivered n (owed m i x) ≡ []
owed-other m n i x apart = elim (concerns m (suc i) x) as (λ b. delivered n (cond b (due m (suc i) x) []) ≡ []) [ true ↦ due-other m n (suc i) x apart | false ↦ refl ]

abbrev owed_by : ℕ → (Consumer → List Job) → Option Consumer → List Handed
owed_by n g None = []
owed_by n g (Some x) = delivered n (g x)

gather-others : (n : ℕ) (g : ℕ → Consumer → List Job) (xs : List Consumer) → ((k : ℕ) (x : Consumer) → delivered n (g k x) ≡ []) → delivered n (gather_at g xs) ≡ []
gather-others n g [] none = refl
gather-others n g (x ∷ xs) none = delivered-append n (g 0 x) (gather_at (λ k. g (suc k)) xs) ∙ ap (λ ys. ys ++ delivered n (gather_at (λ k. g (suc k)) xs)) (none 0 x) ∙ gather-others n (λ k. g (suc k)) xs (λ k. none (suc k))

-- the jobs of the consumer at a place come from it alone
gather-own : (n p : ℕ) (g : ℕ → Consumer → List Job) (xs : List Consumer) → ((k : ℕ) (x : Consumer) → k ≢ p → delivered n (g k x) ≡ []) → delivered n (gather_at g xs) ≡ owed_by n (g p) (slice_get xs p)
gather-own n p g [] others = refl
gather-own n zero g (x ∷ xs) others =
    delivered-append n (g 0 x) (gather_at (λ k. g (suc k)) xs)
    ∙ ap (λ ys. delivered n (g 0 x) ++ ys) (gather-others n (λ k. g (suc k)) xs (λ k y. others (suc k) y (λ e. absurd (omega arith))))
    ∙ append-nil (delivered n (g 0 x))
gather-own n (suc p) g (x ∷ xs) others =
    delivered-append n (g 0 x) (gather_at (λ k. g (suc k)) xs)
    ∙ ap (λ ys. ys ++ delivered n (gather_at (λ k. g (suc k)) xs)) (others 0 x (λ e. absurd (omega arith)))
    ∙ gather-own n p (λ k. g (suc k)) xs (λ k y apart. others (suc k) y (λ e. apart (omega arith)))

-- ---- a log as a mark comes

-- no job was made of what came after something that waits
abbrev Behind : List Entry → Type 0
Behind [] = Unit {0}
Behind (Waiting y ∷ es) = (made es ≡ []) × Behind es
Behind (Given y ∷ es) = Behind es
Behind (MadeJob y ∷ es) = Behind es
Behind (Void y ∷ es) = Behind es

-- and nothing waits for a consumer that has a delegate
record Tidy (s : Story) : Type 0 where
  behind : Behind s.log
  none : is_marked s.state ≡ true → waiting s.log ≡ []

made-append : (es fs : List Entry) → made (es ++ fs) ≡ made es ++ made fs
made-append [] fs = refl
made-append (Waiting y ∷ es) fs = made-append es fs
made-append (Given y ∷ es) fs = made-append es fs
made-append (MadeJob y ∷ es) fs = ap (λ ys. y ∷ ys) (made-append es fs)
made-append (Void y ∷ es) fs = made-append es fs

made-jobs : (ys : List Handed) → made (map MadeJob ys) ≡ ys
made-jobs [] = refl
made-jobs (y ∷ ys) = ap (λ zs. y ∷ zs) (made-jobs ys)

made-waiting : (ys : List Handed) → made (map Waiting ys) ≡ []
made-waiting [] = refl
made-waiting (y ∷ ys) = made-waiting ys

made-arrived : (s : ConsumerState) (ys : List Handed) (es : List Entry) → made (arrived s ys es) ≡ made es ++ cond (is_marked s) ys []
made-arrived s ys es = made-append es (map (arrived_one s) ys) ∙ elim (is_marked s) as (λ b. made es ++ made (map (λ y. cond b (MadeJob y) (Waiting y)) ys) ≡ made es ++ cond b ys []) [
  | true ↦ ap (λ zs. made es ++ zs) (made-jobs ys)
  | false ↦ ap (λ zs. made es ++ zs) (made-waiting ys)
]

-- all that waits becomes jobs, behind those that were made
made-turned : (es : List Entry) → Behind es → made (map turned_job es) ≡ made es ++ waiting es
made-turned [] b = refl
made-turned (Waiting y ∷ es) b = ap (λ ys. y ∷ ys) (made-turned es b.1 ∙ ap (λ ys. ys ++ waiting es) b.0) ∙ sym (ap (λ ys. ys ++ y ∷ waiting es) b.0)
made-turned (Given y ∷ es) b = made-turned es b
made-turned (MadeJob y ∷ es) b = ap (λ ys. y ∷ ys) (made-turned es b)
made-turned (Void y ∷ es) b = made-turned es b

made-void : (es : List Entry) → made (map turned_void es) ≡ made es
made-void [] = refl
made-void (Waiting y ∷ es) = made-void es
made-void (Given y ∷ es) = made-void es
made-void (MadeJob y ∷ es) = ap (λ ys. y ∷ ys) (made-void es)
made-void (Void y ∷ es) = made-void es

made-poll : (es : List Entry) → made (poll_first es) ≡ made es
made-poll [] = refl
made-poll (Waiting y ∷ es) = refl
made-poll (Given y ∷ es) = made-poll es
made-poll (MadeJob y ∷ es) = ap (λ ys. y ∷ ys) (made-poll es)
made-poll (Void y ∷ es) = made-poll es

-- where nothing waits all is behind
behind-none : (es : List Entry) → waiting es ≡ [] → Behind es
behind-none [] none = tt
behind-none (Waiting y ∷ es) none = cc
behind-none (Given y ∷ es) none = behind-none es none
behind-none (MadeJob y ∷ es) none = behind-none es none
behind-none (Void y ∷ es) none = behind-none es none

behind-waiting : (es : List Entry) (ys : List Handed) → Behind es → Behind (es ++ map Waiting ys)
behind-waiting [] ys b = all ys
  where
    all : (ys : List Handed) → Behind (map Waiting ys)
    all [] = tt
    all (y ∷ ys) = (made-waiting ys, all ys)
behind-waiting (Waiting y ∷ es) ys b = (made-append es (map Waiting ys) ∙ ap (λ zs. zs ++ made (map Waiting ys)) b.0 ∙ made-waiting ys, behind-waiting es ys b.1)
behind-waiting (Given y ∷ es) ys b = behind-waiting es ys b
behind-waiting (MadeJob y ∷ es) ys b = behind-waiting es ys b
behind-waiting (Void y ∷ es) ys b = behind-waiting es ys b

behind-poll : (es : List Entry) → Behind es → Behind (poll_first es)
behind-poll [] b = tt
behind-poll (Waiting y ∷ es) b = b.1
behind-poll (Given y ∷ es) b = behind-poll es b
behind-poll (MadeJob y ∷ es) b = behind-poll es b
behind-poll (Void y ∷ es) b = behind-poll es b

behind-arrived : (s : Story) (ys : List Handed) → Tidy s → Behind (arrived s.state ys s.log)
behind-arrived s ys tidy =
    tested (is_marked s.state)
    (λ on. behind-none (arrived s.state ys s.log) (waiting-arrived s.state ys s.log ∙ ap (λ b. cond b (waiting s.log) (waiting s.log ++ ys)) on ∙ tidy.none on))
    (λ off.
    let P : Bool → Type 0 = λ b. Behind (s.log ++ map (λ y. cond b (MadeJob y) (Waiting y)) ys) in
    subst P (sym off) (behind-waiting s.log ys tidy.behind))

none-arrived : (s : Story) (ys : List Handed) → Tidy s → is_marked s.state ≡ true → waiting (arrived s.state ys s.log) ≡ []
none-arrived s ys tidy on = waiting-arrived s.state ys s.log ∙ ap (λ b. cond b (waiting s.log) (waiting s.log ++ ys)) on ∙ tidy.none on

-- what a mark makes of a tidy story
record Makes (s : Story) (ys : List Handed) : Type 0 where
  made : made s.log ≡ ys
  tidy : Tidy s

unmarked : {P : Type 0} → false ≡ true → P
unmarked h = cc

same_makes : (s : Story) → Tidy s → Makes s (made s.log ++ [])
same_makes s tidy = record { made = sym (append-nil (made s.log)); tidy = tidy }

told_makes : (m : ConsumerMark) (n : ℕ) (s : Story) → Tidy s → Makes (told m s) (made s.log ++ delivered n (due m n (seen s)))
told_makes (mark.Registered c t q) n s tidy = record { made = sym (append-nil (made s.log)); tidy = record { behind = tidy.behind; none = tidy.none } }
told_makes (mark.Completed k d) n s tidy = record {
  made = made-arrived s.state (Ok (Some d) ∷ []) s.log ∙ ap (λ ys. made s.log ++ ys) (sym (offered-own n (Ok (Some d) ∷ []) (seen s)));
  tidy = record { behind = behind-arrived s (Ok (Some d) ∷ []) tidy; none = none-arrived s (Ok (Some d) ∷ []) tidy };
}
told_makes (mark.CancelAsked c t) n s tidy = record { made = sym (append-nil (made s.log)); tidy = record { behind = tidy.behind; none = λ h. unmarked h } }
told_makes (mark.CloseAsked c) n s tidy = record { made = sym (append-nil (made s.log)); tidy = record { behind = tidy.behind; none = λ h. unmarked h } }
told_makes (mark.Canceled c t) n s tidy = record {
  made = made-arrived s.state (last_words None) s.log ∙ ap (λ ys. made s.log ++ ys) (sym (offered-own n (last_words None) (seen s)));
  tidy = record { behind = behind-arrived s (last_words None) tidy; none = λ h. unmarked h };
}
told_makes (mark.Ended c e) n s tidy = record {
  made = made-arrived s.state (last_words e) s.log ∙ ap (λ ys. made s.log ++ ys) (sym (offered-own n (last_words e) (seen s)));
  tidy = record { behind = behind-arrived s (last_words e) tidy; none = λ h. unmarked h };
}
told_makes (mark.Discarded c) n s tidy = record {
  made = made-void s.log ∙ sym (append-nil (made s.log)) ∙ ap (λ ys. made s.log ++ ys) (sym (discards n n (is_marked s.state)));
  tidy = record { behind = behind-none (map turned_void s.log) (waiting-void s.log); none = λ on. waiting-void s.log };
}
told_makes (mark.Delegated k) n s tidy = record {
  made = made-turned s.log tidy.behind ∙ ap (λ ys. made s.log ++ ys) (sym (delivered-own n (waiting s.log)));
  tidy = record { behind = behind-none (map turned_job s.log) (waiting-jobs s.log); none = λ on. waiting-jobs s.log };
}
told_makes (mark.Polled k) n s tidy = record {
  made = made-poll s.log ∙ sym (append-nil (made s.log));
  tidy = record { behind = behind-poll s.log tidy.behind; none = λ on. waiting-poll s.log ∙ ap (λ ys. drop 1 ys) (tidy.none on) };
}
told_makes (mark.LetGo k) n s tidy = record { made = sym (append-nil (made s.log)); tidy = record { behind = tidy.behind; none = λ h. unmarked h } }
told_makes mark.JobAsked n s tidy = same_makes s tidy

-- ---- the story of one consumer through a history

abbrev TidyIn : Option Story → Type 0
TidyIn None = Unit {0}
TidyIn (Some s) = Tidy s

joined-tidy : (c : ℕ) (t q : List ℕ) (p : ℕ) (ss : List Story) → TidyIn (slice_get ss p) → TidyIn (slice_get (ss ++ newcomer_story c t q ∷ []) p)
joined-tidy c t q zero [] tidy = record { behind = tt; none = λ on. refl }
joined-tidy c t q (suc p) [] tidy = tt
joined-tidy c t q zero (s ∷ ss) tidy = tidy
joined-tidy c t q (suc p) (s ∷ ss) tidy = joined-tidy c t q p ss tidy

next-tidy : (m : ConsumerMark) (p : ℕ) (ss : List Story) → TidyIn (slice_get ss p) → TidyIn (slice_get (joined_story m ss) p)
next-tidy (mark.Registered c t q) p ss tidy = joined-tidy c t q p ss tidy
next-tidy (mark.Completed k d) p ss tidy = tidy
next-tidy (mark.CancelAsked c t) p ss tidy = tidy
next-tidy (mark.CloseAsked c) p ss tidy = tidy
next-tidy (mark.Canceled c t) p ss tidy = tidy
next-tidy (mark.Ended c e) p ss tidy = tidy
next-tidy (mark.Discarded c) p ss tidy = tidy
next-tidy (mark.Delegated k) p ss tidy = tidy
next-tidy (mark.Polled k) p ss tidy = tidy
next-tidy (mark.LetGo k) p ss tidy = tidy
next-tidy mark.JobAsked p ss tidy = tidy

-- what came of one consumer's story, and the jobs that the mark made for it
record MakesIn (o : Option Story) (ys : List Handed) : Type 0 where
  made : made (log_in o) ≡ ys
  tidy : TidyIn o

told-one : (m : ConsumerMark) (p : ℕ) (o : Option Story) → TidyIn o → MakesIn (option_map (told_at m p) o) (made (log_in o) ++ owed_by (suc p) (owed m p) (option_map seen o))
told-one m p None tidy = record { made = refl; tidy = tt }
told-one m p (Some s) tidy = elim (concerns m (suc p) (seen s)) as (λ b. MakesIn (Some (cond b (told m s) s)) (made s.log ++ delivered (suc p) (cond b (due m (suc p) (seen s)) []))) [
  | true ↦ let makes : Makes (told m s) (made s.log ++ delivered (suc p) (due m (suc p) (seen s))) = told_makes m (suc p) s tidy in record { made = makes.made; tidy = makes.tidy }
  | false ↦ record { made = sym (append-nil (made s.log)); tidy = tidy }
]

next-one : (m : ConsumerMark) (p : ℕ) (ss : List Story) → TidyIn (slice_get ss p) → MakesIn (slice_get (next_stories m ss) p) (made (log_in (slice_get ss p)) ++ delivered (suc p) (jobs_by m ss))
next-one m p ss tidy =
    let one : MakesIn (option_map (told_at m p) (slice_get ss p)) (made (log_in (slice_get ss p)) ++ owed_by (suc p) (owed m p) (option_map seen (slice_get ss p))) = told-one m p (slice_get ss p) tidy in
    let at : slice_get (map_at (told_at m) ss) p ≡ option_map (told_at m p) (slice_get ss p) = get-map_at (told_at m) p ss in
    let jobs : delivered (suc p) (jobs_by m ss) ≡ owed_by (suc p) (owed m p) (option_map seen (slice_get ss p)) =
    gather-own (suc p) p (owed m) (map seen ss) (λ k x apart. owed-other m (suc p) k x (λ e. apart (omega arith)))
    ∙ ap (owed_by (suc p) (owed m p)) (get-map seen p ss) in
    record {
      made = ap made (log-next m p (map_at (told_at m) ss) ∙ ap log_in at) ∙ one.made ∙ ap (λ ys. made (log_in (slice_get ss p)) ++ ys) (sym jobs);
      tidy = next-tidy m p (map_at (told_at m) ss) (subst TidyIn (sym at) one.tidy);
    }

through-all : (p : ℕ) (ms : List ConsumerMark) (ss : List Story) → TidyIn (slice_get ss p) → made (log_in (slice_get (stories_from ss ms) p)) ≡ made (log_in (slice_get ss p)) ++ delivered (suc p) (jobs_from ss ms)
through-all p [] ss tidy = sym (append-nil (made (log_in (slice_get ss p))))
through-all p (m ∷ ms) ss tidy =
    let one : MakesIn (slice_get (next_stories m ss) p) (made (log_in (slice_get ss p)) ++ delivered (suc p) (jobs_by m ss)) = next-one m p ss tidy in
    through-all p ms (next_stories m ss) one.tidy
    ∙ ap (λ ys. ys ++ delivered (suc p) (jobs_from (next_stories m ss) ms)) one.made
    ∙ append_assoc (made (log_in (slice_get ss p))) (delivered (suc p) (jobs_by m ss)) (delivered (suc p) (jobs_from (next_stories m ss) ms))
    ∙ ap (λ ys. made (log_in (slice_get ss p)) ++ ys) (sym (delivered-append (suc p) (jobs_by m ss) (jobs_from (next_stories m ss) ms)))

pub jobs : (ms : List ConsumerMark) (p : ℕ) → delivered (suc p) (jobs_made ms) ≡ made (log (suc p) ms)
jobs ms p = sym (through-all p ms [] tt)
