-- The log of each consumer, and the jobs, read off the marks of a whole history.
use Rattle.std.specs.Prelude.{ℕ, zero, suc, ◌+◌, ◌==◌, Bool, true, false, if◌then◌else◌, List, [], ◌∷◌, ◌++◌, Option, Some, None, Ok, map, take, slice_get}
use Rattle.lapin_types.specs.declared.job.Job.{Job}
use Rattle.lapin_types.specs.declared.job.JobKind.{JobKind}
use Rattle.lapin_types.specs.declared.job.JobKind.TheVariants as job_kind
use Rattle.lapin_consumer.specs.declared.state.ConsumerState.{ConsumerState}
use Rattle.lapin_consumer.specs.declared.state.ConsumerState.TheVariants as state
use Rattle.lapin_consumer.specs.Words.{map_at, gather_at}
use Rattle.lapin_consumer.specs.Marks.{ConsumerMark}
use Rattle.lapin_consumer.specs.Marks as mark
use Rattle.lapin_consumer.specs.Subscriptions.{Handed, Consumer, concerns, owed, is_marked, marked_state, last_words}

-- What became of a thing that a consumer was handed. It is an item where it waits for a poll or a poll gave it.
pub data Entry : Type 0 where
  Waiting : (what : Handed) → Entry
  Given : (what : Handed) → Entry
  MadeJob : (what : Handed) → Entry
  Void : (what : Handed) → Entry

-- a consumer with all that it was ever handed, oldest first
pub record Story : Type 0 where
  pub channel : ℕ
  pub tag : List ℕ
  pub queue : List ℕ
  pub state : ConsumerState
  pub registered : Bool
  pub log : List Entry

-- ---- what a log says

-- all that came, whatever became of it
abbrev pub arrivals : List Entry → List Handed
arrivals [] = []
arrivals (Waiting y ∷ es) = y ∷ arrivals es
arrivals (Given y ∷ es) = y ∷ arrivals es
arrivals (MadeJob y ∷ es) = y ∷ arrivals es
arrivals (Void y ∷ es) = y ∷ arrivals es

-- what came as items: what waits for a poll and what polls gave, but no job and nothing void
abbrev pub items : List Entry → List Handed
items [] = []
items (Waiting y ∷ es) = y ∷ items es
items (Given y ∷ es) = y ∷ items es
items (MadeJob y ∷ es) = items es
items (Void y ∷ es) = items es

-- what waits for a poll
abbrev pub waiting : List Entry → List Handed
waiting [] = []
waiting (Waiting y ∷ es) = y ∷ waiting es
waiting (Given y ∷ es) = waiting es
waiting (MadeJob y ∷ es) = waiting es
waiting (Void y ∷ es) = waiting es

-- what became jobs
abbrev pub made : List Entry → List Handed
made [] = []
made (Waiting y ∷ es) = made es
made (Given y ∷ es) = made es
made (MadeJob y ∷ es) = y ∷ made es
made (Void y ∷ es) = made es

-- ---- what becomes of a log

-- what becomes of a thing as it is handed to a consumer in this state: a job where it has a delegate, else it waits for a poll
abbrev pub arrived_one : ConsumerState → Handed → Entry
arrived_one s y = if is_marked s then MadeJob y else Waiting y

-- the log once these were handed to a consumer in this state
abbrev pub arrived : ConsumerState → List Handed → List Entry → List Entry
arrived s ys es = es ++ map (arrived_one s) ys

-- a thing that waited has become a job; any other stays what it was
abbrev pub turned_job : Entry → Entry
turned_job (Waiting y) = MadeJob y
turned_job e = e

-- a thing that waited is void; any other stays what it was
abbrev pub turned_void : Entry → Entry
turned_void (Waiting y) = Void y
turned_void e = e

-- a poll gives the first item that waits
abbrev pub poll_first : List Entry → List Entry
poll_first [] = []
poll_first (Waiting y ∷ es) = Given y ∷ es
poll_first (e ∷ es) = e ∷ poll_first es

-- ---- what a mark does to whom it is about

-- what a mark does to a consumer that it is about; a new one under the same tag ends its registration
abbrev pub told : ConsumerMark → Story → Story
told (mark.Registered c t q) s = record s { registered = false }
told (mark.Completed k d) s = record s { log = arrived s.state (Ok (Some d) ∷ []) s.log }
told (mark.CancelAsked c t) s = record s { state = state.Canceling }
told (mark.CloseAsked c) s = record s { state = state.Canceling }
told (mark.Canceled c t) s = record s { state = state.Canceled; registered = false; log = arrived s.state (last_words None) s.log }
told (mark.Ended c e) s = record s { state = state.Canceled; registered = false; log = arrived s.state (last_words e) s.log }
told (mark.Discarded c) s = record s { log = map turned_void s.log }
told (mark.Delegated k) s = record s { state = marked_state s.state; log = map turned_job s.log }
told (mark.Polled k) s = record s { log = poll_first s.log }
told (mark.LetGo k) s = record s { state = state.Canceling }
told mark.JobAsked s = s

-- what a caller sees of it: the items that wait
abbrev pub seen : Story → Consumer
seen s = record { channel = s.channel; tag = s.tag; queue = s.queue; state = s.state; registered = s.registered; items = waiting s.log }

-- what a mark does to the consumer at a place, whose number is one more; nothing where it isn't about that one
abbrev pub told_at : ConsumerMark → ℕ → Story → Story
told_at m i s = if concerns m (suc i) (seen s) then told m s else s

-- a consumer that was just registered: active, and nothing was handed to it
abbrev pub newcomer_story : ℕ → List ℕ → List ℕ → Story
newcomer_story c t q = record { channel = c; tag = t; queue = q; state = state.Active; registered = true; log = [] }

-- a registration adds its consumer at the back
abbrev pub joined_story : ConsumerMark → List Story → List Story
joined_story (mark.Registered c t q) ss = ss ++ newcomer_story c t q ∷ []
joined_story _ ss = ss

-- the consumers after one more mark
abbrev pub next_stories : ConsumerMark → List Story → List Story
next_stories m ss = joined_story m (map_at (told_at m) ss)

-- ---- the readings of a history

-- the consumers after the marks, where these were there before
abbrev pub stories_from : List Story → List ConsumerMark → List Story
stories_from ss [] = ss
stories_from ss (m ∷ ms) = stories_from (next_stories m ss) ms

-- the consumers in order of their numbers
abbrev pub stories : List ConsumerMark → List Story
stories ms = stories_from [] ms

-- the log of a consumer; nothing where there is none
abbrev pub log_in : Option Story → List Entry
log_in None = []
log_in (Some s) = s.log

-- the log of consumer n
abbrev pub log : ℕ → List ConsumerMark → List Entry
log zero ms = []
log (suc p) ms = log_in (slice_get (stories ms) p)

-- the jobs that a mark makes, in rising number of consumers
abbrev pub jobs_by : ConsumerMark → List Story → List Job
jobs_by m ss = gather_at (owed m) (map seen ss)

-- the jobs that the marks make, in order, where these consumers were there before
abbrev pub jobs_from : List Story → List ConsumerMark → List Job
jobs_from ss [] = []
jobs_from ss (m ∷ ms) = jobs_by m ss ++ jobs_from (next_stories m ss) ms

-- all jobs that were ever made, in order
abbrev pub jobs_made : List ConsumerMark → List Job
jobs_made ms = jobs_from [] ms

-- the mark says that a job was asked for
abbrev pub asks : ConsumerMark → Bool
asks mark.JobAsked = true
asks _ = false

-- how many jobs were taken
abbrev pub jobs_taken : List ConsumerMark → ℕ
jobs_taken [] = 0
jobs_taken (m ∷ ms) = if asks m then jobs_taken ms + 1 else jobs_taken ms

-- what a mark gives to who polls consumer suc p
abbrev pub given_by : ℕ → ConsumerMark → List Story → List Handed
given_by p (mark.Polled k) ss = if suc p == k then take 1 (waiting (log_in (slice_get ss p))) else []
given_by p _ ss = []

-- the items that polls of consumer suc p gave over the marks, in order, where these consumers were there before
abbrev pub given_from : ℕ → List Story → List ConsumerMark → List Handed
given_from p ss [] = []
given_from p ss (m ∷ ms) = given_by p m ss ++ given_from p (next_stories m ss) ms

-- the items that polls of consumer suc p gave, in order
abbrev pub given : ℕ → List ConsumerMark → List Handed
given p ms = given_from p [] ms

-- what a job delivers: one thing, or nothing where it is to discard
abbrev pub thing_of : JobKind → List Handed
thing_of (job_kind.Deliver y) = y ∷ []
thing_of job_kind.Discard = []

-- what the jobs of consumer n deliver, in order
abbrev pub delivered : ℕ → List Job → List Handed
delivered n [] = []
delivered n (j ∷ js) = if j.consumer == n then thing_of j.kind ++ delivered n js else delivered n js

-- what a mark hands to whom it is about
abbrev pub words : ConsumerMark → List Handed
words (mark.Completed k d) = Ok (Some d) ∷ []
words (mark.Canceled c t) = last_words None
words (mark.Ended c e) = last_words e
words _ = []

-- what a mark hands to the consumer with this number, if there is one
abbrev pub handed_one : ConsumerMark → ℕ → Option Story → List Handed
handed_one m n None = []
handed_one m n (Some s) = if concerns m n (seen s) then words m else []

-- what a mark that comes after these hands to consumer suc p; nothing where there is none or the mark isn't about it
abbrev pub handed_by : ConsumerMark → ℕ → List ConsumerMark → List Handed
handed_by m p ms = handed_one m (suc p) (slice_get (stories ms) p)
