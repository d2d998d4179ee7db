-- What arrived stays in a log, and what a mark hands joins it.
use Rattle.std.proofs.Common.{◌≡◌, ℕ, suc, true, false, cond, List, [], ◌∷◌, ◌++◌, map, Option, Some, None, Ok, refl, sym, ◌∙◌, ap, slice_get}
use Rattle.std.specs.Option.{option_map}
use Rattle.std.proofs.lemmas.List.{append-nil}
use Rattle.lapin_consumer.specs.declared.state.ConsumerState.{ConsumerState}
use Rattle.lapin_consumer.specs.Words.{map_at}
use Rattle.lapin_consumer.specs.Marks.{ConsumerMark}
use Rattle.lapin_consumer.specs.Marks as mark
use Rattle.lapin_consumer.specs.Subscriptions.{Handed, concerns, is_marked, last_words}
use Rattle.lapin_consumer.specs.Readings.{Entry, Waiting, Given, MadeJob, Void, Story, arrivals, arrived, arrived_one, turned_job, turned_void, poll_first, told, seen, told_at, stories, log_in, log, words, handed_one, handed_by}
use Rattle.lapin_consumer.proofs.Places.{get-map_at}
use Rattle.lapin_consumer.proofs.Polls.{log-next}
use Rattle.lapin_consumer.proofs.Following.{stories-push}

arrivals-append : (es fs : List Entry) → arrivals (es ++ fs) ≡ arrivals es ++ arrivals fs
arrivals-append [] fs = refl
arrivals-append (Waiting y ∷ es) fs = ap (λ ys. y ∷ ys) (arrivals-append es fs)
arrivals-append (Given y ∷ es) fs = ap (λ ys. y ∷ ys) (arrivals-append es fs)
arrivals-append (MadeJob y ∷ es) fs = ap (λ ys. y ∷ ys) (arrivals-append es fs)
arrivals-append (Void y ∷ es) fs = ap (λ ys. y ∷ ys) (arrivals-append es fs)

arrivals-new : (s : ConsumerState) (ys : List Handed) → arrivals (map (arrived_one s) ys) ≡ ys
arrivals-new s [] = refl
arrivals-new s (y ∷ ys) = elim (is_marked s) as (λ b. arrivals (cond b (MadeJob y) (Waiting y) ∷ map (arrived_one s) ys) ≡ y ∷ ys) [ true ↦ ap (λ zs. y ∷ zs) (arrivals-new s ys) | false ↦ ap (λ zs. y ∷ zs) (arrivals-new s ys) ]

arrivals-jobs : (es : List Entry) → arrivals (map turned_job es) ≡ arrivals es
arrivals-jobs [] = refl
arrivals-jobs (Waiting y ∷ es) = ap (λ ys. y ∷ ys) (arrivals-jobs es)
arrivals-jobs (Given y ∷ es) = ap (λ ys. y ∷ ys) (arrivals-jobs es)
arrivals-jobs (MadeJob y ∷ es) = ap (λ ys. y ∷ ys) (arrivals-jobs es)
arrivals-jobs (Void y ∷ es) = ap (λ ys. y ∷ ys) (arrivals-jobs es)

arrivals-void : (es : List Entry) → arrivals (map turned_void es) ≡ arrivals es
arrivals-void [] = refl
arrivals-void (Waiting y ∷ es) = ap (λ ys. y ∷ ys) (arrivals-void es)
arrivals-void (Given y ∷ es) = ap (λ ys. y ∷ ys) (arrivals-void es)
arrivals-void (MadeJob y ∷ es) = ap (λ ys. y ∷ ys) (arrivals-void es)
arrivals-void (Void y ∷ es) = ap (λ ys. y ∷ ys) (arrivals-void es)

arrivals-poll : (es : List Entry) → arrivals (poll_first es) ≡ arrivals es
arrivals-poll [] = refl
arrivals-poll (Waiting y ∷ es) = refl
arrivals-poll (Given y ∷ es) = ap (λ ys. y ∷ ys) (arrivals-poll es)
arrivals-poll (MadeJob y ∷ es) = ap (λ ys. y ∷ ys) (arrivals-poll es)
arrivals-poll (Void y ∷ es) = ap (λ ys. y ∷ ys) (arrivals-poll es)

arrived-joins : (s : ConsumerState) (ys : List Handed) (es : List Entry) → arrivals (arrived s ys es) ≡ arrivals es ++ ys
arrived-joins s ys es = arrivals-append es (map (arrived_one s) ys) ∙ ap (λ zs. arrivals es ++ zs) (arrivals-new s ys)

-- what the mark hands, where it is about the consumer
told-arrivals : (m : ConsumerMark) (s : Story) → arrivals (told m s).log ≡ arrivals s.log ++ words m
told-arrivals (mark.Registered c t q) s = sym (append-nil (arrivals s.log))
told-arrivals (mark.Completed k d) s = arrived-joins s.state (Ok (Some d) ∷ []) s.log
told-arrivals (mark.CancelAsked c t) s = sym (append-nil (arrivals s.log))
told-arrivals (mark.CloseAsked c) s = sym (append-nil (arrivals s.log))
told-arrivals (mark.Canceled c t) s = arrived-joins s.state (last_words None) s.log
told-arrivals (mark.Ended c e) s = arrived-joins s.state (last_words e) s.log
told-arrivals (mark.Discarded c) s = arrivals-void s.log ∙ sym (append-nil (arrivals s.log))
told-arrivals (mark.Delegated k) s = arrivals-jobs s.log ∙ sym (append-nil (arrivals s.log))
told-arrivals (mark.Polled k) s = arrivals-poll s.log ∙ sym (append-nil (arrivals s.log))
told-arrivals (mark.LetGo k) s = sym (append-nil (arrivals s.log))
told-arrivals mark.JobAsked s = sym (append-nil (arrivals s.log))

one : (m : ConsumerMark) (p : ℕ) (o : Option Story) → arrivals (log_in (option_map (told_at m p) o)) ≡ arrivals (log_in o) ++ handed_one m (suc p) o
one m p None = refl
one m p (Some s) = elim (concerns m (suc p) (seen s)) as (λ b. arrivals (cond b (told m s) s).log ≡ arrivals s.log ++ cond b (words m) []) [
  | true ↦ told-arrivals m s
  | false ↦ sym (append-nil (arrivals s.log))
]

pub joins : (ms : List ConsumerMark) (m : ConsumerMark) (p : ℕ) → arrivals (log (suc p) (ms ++ m ∷ [])) ≡ arrivals (log (suc p) ms) ++ handed_by m p ms
joins ms m p =
    ap (λ ss. arrivals (log_in (slice_get ss p))) (stories-push [] ms m)
    ∙ ap arrivals (log-next m p (map_at (told_at m) (stories ms)) ∙ ap log_in (get-map_at (told_at m) p (stories ms)))
    ∙ one m p (slice_get (stories ms) p)
