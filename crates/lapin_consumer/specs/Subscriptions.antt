-- The consumers of a session as a machine: what each mark of a history does to them.
use Rattle.std.specs.Prelude.{ℕ, zero, suc, ◌==◌, Bool, true, false, ◌&&◌, if◌then◌else◌, List, [], ◌∷◌, ◌++◌, Option, Some, None, Result, Ok, Err, map, drop, slice_get, nat_eq}
use Rattle.std.specs.Option.{option_map}
use Rattle.std.specs.Cmp.Lexicographic.{pointwise}
use Rattle.lapin_types.specs.Types.{Error}
use Rattle.lapin_methods.specs.declared.error.Error.TheVariants as error
use Rattle.lapin_types.specs.declared.message.Delivery.{Delivery}
use Rattle.lapin_types.specs.declared.job.Job.{Job}
use Rattle.lapin_types.specs.declared.job.JobKind.TheVariants as job_kind
use Rattle.lapin_consumer.specs.declared.state.ConsumerState.{ConsumerState}
use Rattle.lapin_consumer.specs.declared.state.ConsumerState.TheVariants as state
use Rattle.lapin_consumer.specs.Words.{map_at, gather_at, places_at}
use Rattle.lapin_consumer.specs.Marks.{ConsumerMark}
use Rattle.lapin_consumer.specs.Marks as mark

-- what a consumer is handed: a delivery, its end, or the error that ended its channel
abbrev pub Handed : Type 0
Handed = Result (Option Delivery) Error

-- what a caller sees of a consumer: where it was registered, its state, whether it still is registered, and what it was handed
-- and no poll has given yet
pub record Consumer : Type 0 where
  pub channel : ℕ
  pub tag : List ℕ
  pub queue : List ℕ
  pub state : ConsumerState
  pub registered : Bool
  pub items : List Handed

-- the consumers in order of their numbers, and the jobs that are not taken yet, oldest first
pub record Subscriptions : Type 0 where
  pub consumers : List Consumer
  pub jobs : List Job

-- no consumer was registered yet and there is no job
abbrev pub empty_subscriptions : Subscriptions
empty_subscriptions = record { consumers = []; jobs = [] }

-- ---- what is asked of a consumer

-- it has a delegate: what it is handed becomes a job
abbrev pub is_marked : ConsumerState → Bool
is_marked state.ActiveWithDelegate = true
is_marked _ = false

-- it is active and has no delegate
abbrev pub is_active : ConsumerState → Bool
is_active state.Active = true
is_active _ = false

-- it is canceled
abbrev pub is_canceled : ConsumerState → Bool
is_canceled state.Canceled = true
is_canceled _ = false

-- it is registered on the channel
abbrev pub is_on : ℕ → Consumer → Bool
is_on c x = x.registered && x.channel == c

-- it is registered on the channel under the tag
abbrev pub is_under : ℕ → List ℕ → Consumer → Bool
is_under c t x = is_on c x && pointwise nat_eq x.tag t

-- ---- what becomes of a consumer

-- one that was just registered
abbrev pub newcomer : ℕ → List ℕ → List ℕ → Consumer
newcomer c t q = record { channel = c; tag = t; queue = q; state = state.Active; registered = true; items = [] }

-- it is registered no more; its state stays, and so do its items
abbrev pub unregistered : Consumer → Consumer
unregistered x = record x { registered = false }

-- its cancel or the close of its channel was asked for; it has no delegate any more
abbrev pub canceling : Consumer → Consumer
canceling x = record x { state = state.Canceling }

-- it is canceled and registered no more
abbrev pub canceled : Consumer → Consumer
canceled x = record x { state = state.Canceled; registered = false }

-- it is handed these: they join its own queue where it has no delegate
abbrev pub handed : List Handed → Consumer → Consumer
handed ys x = if is_marked x.state then x else record x { items = x.items ++ ys }

-- its queue is empty
abbrev pub emptied : Consumer → Consumer
emptied x = record x { items = [] }

-- the state of one that is given a delegate: an active one has it from then on, any other state stays
abbrev pub marked_state : ConsumerState → ConsumerState
marked_state state.Active = state.ActiveWithDelegate
marked_state s = s

-- it is given a delegate: what was queued becomes jobs
abbrev pub delegated : Consumer → Consumer
delegated x = record x { state = marked_state x.state; items = [] }

-- a poll took its first item, if it had one
abbrev pub polled : Consumer → Consumer
polled x = record x { items = drop 1 x.items }

-- what a consumer gets as its channel's opening ends
abbrev pub last_words : Option Error → List Handed
last_words None = Ok None ∷ []
last_words (Some e) = Err e ∷ Ok None ∷ []

-- it gets its end
abbrev pub finished : Consumer → Consumer
finished x = canceled (handed (last_words None) x)

-- ---- jobs

-- the job to deliver to consumer n what it was handed
abbrev pub deliver : ℕ → Handed → Job
deliver n y = record { consumer = n; kind = job_kind.Deliver y }

-- the job by which consumer n is told to discard
abbrev pub discard : ℕ → Job
discard n = record { consumer = n; kind = job_kind.Discard }

-- what consumer n is handed becomes jobs where it has a delegate
abbrev pub offered : ℕ → List Handed → Consumer → List Job
offered n ys x = if is_marked x.state then map (deliver n) ys else []

-- ---- marks: whom they are about, what becomes of these, and which jobs are due. A consumer is told with its number.

-- the mark is about the consumer, whose number is n: of a channel, a tag or a delivery it must be registered,
-- one that is let go must be active besides
abbrev pub concerns : ConsumerMark → ℕ → Consumer → Bool
concerns (mark.Registered c t q) n x = is_under c t x
concerns (mark.Completed k d) n x = n == k && x.registered
concerns (mark.CancelAsked c t) n x = is_under c t x
concerns (mark.CloseAsked c) n x = is_on c x
concerns (mark.Canceled c t) n x = is_under c t x
concerns (mark.Ended c e) n x = is_on c x
concerns (mark.Discarded c) n x = is_on c x
concerns (mark.Delegated k) n x = n == k
concerns (mark.Polled k) n x = n == k
concerns (mark.LetGo k) n x = n == k && (x.registered && is_active x.state)
concerns mark.JobAsked n x = false

-- what a mark makes of a consumer that it is about; a new one under the same tag ends its registration
abbrev pub becomes : ConsumerMark → Consumer → Consumer
becomes (mark.Registered c t q) x = unregistered x
becomes (mark.Completed k d) x = handed (Ok (Some d) ∷ []) x
becomes (mark.CancelAsked c t) x = canceling x
becomes (mark.CloseAsked c) x = canceling x
becomes (mark.Canceled c t) x = canceled (handed (last_words None) x)
becomes (mark.Ended c e) x = canceled (handed (last_words e) x)
becomes (mark.Discarded c) x = emptied x
becomes (mark.Delegated k) x = delegated x
becomes (mark.Polled k) x = polled x
becomes (mark.LetGo k) x = canceling x
becomes mark.JobAsked x = x

-- the jobs that a mark makes for consumer n, which it is about: of what comes and of a discard where it has a delegate,
-- and of all that was queued as it is given one
abbrev pub due : ConsumerMark → ℕ → Consumer → List Job
due (mark.Completed k d) n x = offered n (Ok (Some d) ∷ []) x
due (mark.Canceled c t) n x = offered n (last_words None) x
due (mark.Ended c e) n x = offered n (last_words e) x
due (mark.Discarded c) n x = if is_marked x.state then discard n ∷ [] else []
due (mark.Delegated k) n x = map (deliver n) x.items
due _ n x = []

-- the consumer at a place, whose number is one more, after a mark; and the jobs that are then due to it
abbrev pub moved : ConsumerMark → ℕ → Consumer → Consumer
moved m i x = if concerns m (suc i) x then becomes m x else x

-- the jobs that a mark makes for the consumer at a place, whose number is one more; none where it isn't about that one
abbrev pub owed : ConsumerMark → ℕ → Consumer → List Job
owed m i x = if concerns m (suc i) x then due m (suc i) x else []

-- a registration adds its consumer
abbrev pub joined : ConsumerMark → List Consumer → List Consumer
joined (mark.Registered c t q) xs = xs ++ newcomer c t q ∷ []
joined _ xs = xs

-- a job is taken from the front
abbrev pub job_taken : ConsumerMark → List Job → List Job
job_taken mark.JobAsked js = drop 1 js
job_taken _ js = js

-- The subscriptions after a mark. Whom it is about changes, in rising number, and the jobs that are due join the others.
abbrev pub after_mark : Subscriptions → ConsumerMark → Subscriptions
after_mark r m = record {
  consumers = joined m (map_at (moved m) r.consumers);
  jobs = job_taken m (r.jobs ++ gather_at (owed m) r.consumers);
}

-- ---- what is asked of a subscriptions

-- the consumer under a number, from 1
abbrev pub consumer_at : ℕ → Subscriptions → Option Consumer
consumer_at zero r = None
consumer_at (suc p) r = slice_get r.consumers p

-- there is a value
abbrev pub is_some : {X : Type 0} → Option X → Bool
is_some None = false
is_some (Some x) = true

-- there is a consumer, and it is registered
abbrev pub registered_in : Option Consumer → Bool
registered_in None = false
registered_in (Some x) = x.registered

-- the consumer of this number is there and is registered
abbrev pub is_registered : ℕ → Subscriptions → Bool
is_registered n r = registered_in (consumer_at n r)

-- the first of the places, if there is one
abbrev pub first_place : List ℕ → Option ℕ
first_place [] = None
first_place (p ∷ ps) = Some p

-- the place of the consumer that is registered on the channel under the tag, and its number
abbrev pub place_under : ℕ → List ℕ → List Consumer → Option ℕ
place_under c t xs = first_place (places_at (λ _ x. is_under c t x) xs)

-- the number of the consumer that is registered on the channel under the tag, if there is one
abbrev pub found : ℕ → List ℕ → Subscriptions → Option ℕ
found c t r = option_map suc (place_under c t r.consumers)

-- what a poll gives: the first item; with an empty queue the end where the consumer is canceled, else nothing yet
abbrev pub poll_in : ConsumerState → List Handed → Option Handed
poll_in s (y ∷ ys) = Some y
poll_in s [] = if is_canceled s then Some (Ok None) else None

-- what a poll of the consumer gives
abbrev pub poll_of : Consumer → Option Handed
poll_of x = poll_in x.state x.items

-- what a poll answers
abbrev pub answered : Option Consumer → Result (Option Handed) Error
answered None = Err error.UnknownTicket
answered (Some x) = Ok (poll_of x)

-- whether a poll would give something, or a refusal where there is no such consumer
abbrev pub is_ready : Option Consumer → Bool
is_ready None = true
is_ready (Some x) = is_some (poll_of x)

-- what is answered to who lets go of a consumer: whether it has to be cancelled
abbrev pub is_idle : Consumer → Bool
is_idle x = x.registered && is_active x.state

-- what letting go of a consumer answers: whether it has to be canceled, and UnknownTicket where there is no such consumer
abbrev pub let_go_answer : Option Consumer → Result Bool Error
let_go_answer None = Err error.UnknownTicket
let_go_answer (Some x) = Ok (is_idle x)
