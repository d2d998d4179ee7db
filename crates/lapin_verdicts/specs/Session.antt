-- What is asked of a session, whatever its broker does, so that its confirms are verdicts: which publishes are pending, and that the
-- t-th numbered publish of all that it hands out on a channel is the message of the call that has tag t.
use Rattle.std.specs.Prelude.{◌≡◌, ◌==◌, ◌<◌, ◌≤◌, ◌+◌, ℕ, true, false, if◌then◌else◌, List, [], ◌∷◌, ◌++◌, map, length, Some, None, ◌⊎◌}
use Rattle.std.specs.List.{fold, list_any}
use Rattle.lapin_rules.specs.Words.{many}
use Rattle.lapin_types.specs.declared.leaving.Left.{Left}
use Rattle.lapin_types.specs.Types.{Frame}
use Rattle.lapin_rules.specs.ConfirmMarks.{ConfirmMark}
use Rattle.lapin_rules.specs.ConfirmReadings.{begins, added, channel_of, has_left, tag_of, outcome_at, is_selected, is_pending, place}
use Rattle.lapin_rules.specs.Frames.{RestEntry}
use Rattle.lapin_rules.specs.Drops.{is_rest_of}
use Rattle.lapin_rules.specs.History.{History, Past, past}
use Rattle.lapin_rules.specs.Wire.{Wire, state_of, receives_on}
use Rattle.lapin_broker.specs.Frames.{channel_of as frame_channel}
use Rattle.lapin_joint.specs.declared.step.Step.{Step}
use Rattle.lapin_joint.specs.Joint.{joined_to}
use Rattle.lapin_verdicts.specs.Deeds.{deeds, deed_in, reads, is_open}
use Rattle.lapin_verdicts.specs.InStep.{is_open_waiting}
use Rattle.lapin_verdicts.specs.Publishes.{Message, Tally, no_tally, tally_after}
use Rattle.lapin_concord.specs.Openings.{opening_of}
use Rattle.lapin_verdicts.specs.Verdicts.{at_place, messages_in}

-- publish k of channel c is pending with tag t
pub record IsPending (c k t : ℕ) (ms : List ConfirmMark) : Type 0 where
  pub added : (0 < k) × (k ≤ added ms)
  pub left : has_left k ms ≡ true
  pub on : channel_of k ms ≡ c
  pub tag : tag_of k ms ≡ Some t
  pub waits : outcome_at k ms ≡ None

-- ---- what was handed out on a channel since its last `channel.open`

-- the tally of an opening after a frame, which `channel.open` begins anew
abbrev pub told : Frame → Tally → Tally
told f y = if is_open f then no_tally else tally_after y f

-- the same of a frame on any channel
abbrev pub next_tally : ℕ → Frame → Tally → Tally
next_tally c f y = if frame_channel f == c then told f y else y

abbrev pub next_on : ℕ → Tally → Frame → Tally
next_on c y f = next_tally c f y

abbrev pub frames_of : List Left → List Frame
frames_of ls = map (λ (l : Left). l.frame) ls

-- all frames that were handed out: those that the broker read, and those that are on the way
abbrev pub handed_frames : ℕ → List Step → List Frame
handed_frames n ss = reads (deeds n ss) ++ frames_of (joined_to n ss).up

-- the frames of the begun publish that are still to leave, if it is of the channel
abbrev pub rest_on : ℕ → List RestEntry → List Frame
rest_on c fs = if is_rest_of c fs then map (λ (f : RestEntry). f.frame) fs else []

-- the tally of these frames that were handed out, and of what is left of the begun publish
abbrev pub whole_tally : ℕ → Wire → List Frame → Tally
whole_tally c b fs = fold tally_after (fold (next_on c) no_tally fs) (rest_on c b.rest)

-- ---- what is asked

-- of a channel on which the session hears: as many publishes are numbered as tags were taken, and the publish that is pending with a
-- tag is the one of that number
pub record AreNumbered (c : ℕ) (h : History) (p : Past) (fs : List Frame) : Type 0 where
  pub count : length (whole_tally c p.wire fs).numbered ≡ place c p.confirms
  pub taken : (k t : ℕ) → IsPending c k t p.confirms → (m : Message) × (at_place t (whole_tally c p.wire fs).numbered ≡ Some m) × (at_place k (messages_in h) ≡ Some m)

-- the session's past after these steps
abbrev pub past_of : ℕ → List Step → Past
past_of n ss = past n (joined_to n ss).session

-- a publish that is pending after one step more was pending before, or its method frame left by that step and took the next tag
abbrev pub IsOldOrNext : ℕ → List Step → Step → ℕ → ℕ → ℕ → Type 0
IsOldOrNext n ss s c k t =
    ((k ≤ added (past_of n ss).confirms) × (has_left k (past_of n ss).confirms ≡ true))
    ⊎ ((deed_in s (joined_to n ss) ≡ []) × (receives_on (state_of c (past_of n ss).wire) ≡ true) × (t ≡ place c (past_of n ss).confirms + 1))

-- what is asked of every run: the publishes that left were accepted; one that is pending is of an opening that is there, the last one
-- of its channel, and its tag is pending
pub record Numbers (n : ℕ) : Type 0 where
  pub accepted : (ss : List Step) (k : ℕ) → has_left k (past_of n ss).confirms ≡ true → (0 < k) × (k ≤ added (past_of n ss).confirms)
  pub present : (ss : List Step) (c k t : ℕ) → IsPending c k t (past_of n ss).confirms → (0 < opening_of k (past_of n ss).confirms) × (many (begins c) (past_of n ss).confirms ≡ opening_of k (past_of n ss).confirms)
  pub numbered : (ss : List Step) (c : ℕ) → receives_on (state_of c (past_of n ss).wire) ≡ true → list_any (is_open_waiting c) (past_of n ss).wire.methods ≡ false → AreNumbered c (joined_to n ss).session (past_of n ss) (handed_frames n ss)
  pub receives : (ss : List Step) (c k t : ℕ) → IsPending c k t (past_of n ss).confirms → receives_on (state_of c (past_of n ss).wire) ≡ true
  pub selected : (ss : List Step) (c k t : ℕ) → IsPending c k t (past_of n ss).confirms → is_selected c (past_of n ss).confirms ≡ true
  pub pending : (ss : List Step) (c k t : ℕ) → IsPending c k t (past_of n ss).confirms → is_pending c t (past_of n ss).confirms ≡ true
  pub old_or_next : (ss : List Step) (s : Step) (c k t : ℕ) → IsPending c k t (past_of n (ss ++ s ∷ [])).confirms → IsOldOrNext n ss s c k t
