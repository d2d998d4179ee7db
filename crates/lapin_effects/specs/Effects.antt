-- What an event does to what waits and to the openings. Every event but a frame request is one of seven kinds, so what a session keeps
-- over any list of events is shown by seven cases and the frame request.
use Rattle.std.specs.Prelude.{◌≡◌, ℕ, ◌+◌, ◌==◌, Bool, true, false, ◌&&◌, if◌then◌else◌, List, [], ◌∷◌, ◌++◌, Some}
use Rattle.std.specs.List.{filter, list_any}
use Rattle.lapin_types.specs.declared.event.Event.{Event}
use Rattle.lapin_types.specs.declared.event.Event.TheVariants as event
use Rattle.lapin_types.specs.declared.record.Record.{Record}
use Rattle.lapin_types.specs.declared.leaving.Publish.{Publish}
use Rattle.lapin_types.specs.Types.{Method, Error}
use Rattle.lapin_types.specs.Types.method
use Rattle.lapin_types.specs.Types.basic
use Rattle.lapin_types.specs.Types.channel
use Rattle.lapin_rules.specs.declared.calls.Asked.{Asked}
use Rattle.lapin_rules.specs.declared.calls.Asked.TheVariants as ask
use Rattle.lapin_rules.specs.Asking.{is_allowed, asked_by}
use Rattle.lapin_rules.specs.ConfirmMarks.{ConfirmMark}
use Rattle.lapin_rules.specs.ConfirmMarks as mark
use Rattle.lapin_rules.specs.Phases.{is_up, is_live}
use Rattle.lapin_rules.specs.Frames.{MethodEntry}
use Rattle.lapin_rules.specs.Drops.{is_off, is_rest_of, publish_channel, method_channel}
use Rattle.lapin_rules.specs.Ends.{ends_all}
use Rattle.lapin_rules.specs.Events.{record_of, after_event, confirm_marks}
use Rattle.lapin_rules.specs.Readings.{Readings}
use Rattle.lapin_rules.specs.Select.{is_select}
use Rattle.lapin_rules.specs.Wire.{Wire, state_of, phase_of, receives_on}

-- ---- events

-- the event is a frame request
abbrev pub is_next : Event → Bool
is_next (event.Next flow) = true
is_next _ = false

-- the publish that an accepted call adds, as it waits
abbrev pub publish_asked : ℕ → Asked → Wire → List Publish
publish_asked c (ask.Publish exchange key o payload properties) b = record {
  confirm = b.published + 1;
  ticket = b.tickets + 1;
  channel = c;
  exchange = exchange;
  routing_key = key;
  options = o;
  payload = payload;
  properties = properties;
} ∷ []
publish_asked c _ b = []

-- the publish that a call adds: none where it is not allowed
abbrev pub publish_asking : ℕ → Asked → Wire → List Publish
publish_asking c k b = if is_allowed k (state_of c b) then publish_asked c k b else []

-- the publish that an event adds, alone in a list, which is empty where it adds none
abbrev pub publish_by : Wire → Event → Record → List Publish
publish_by b (event.Call c k) r = publish_asking c (asked_by k r) b
publish_by b _ r = []

-- ---- what is asked of a channel and of a method that waits

-- the channel has a live opening
abbrev pub live : ℕ → Wire → Bool
live c b = is_up b.link && is_live (phase_of c b)

-- the session hears replies, settlements and contents on it
abbrev pub hears : ℕ → Wire → Bool
hears c b = receives_on (state_of c b)

-- the method begins a publish or an opening
abbrev pub is_special : Method → Bool
is_special (method.Basic (basic.Publish exchange key mandatory immediate)) = true
is_special (method.Channel channel.Open) = true
is_special _ = false

-- it may join what waits: it is neither of these, and a `confirm.select` is of a live opening
pub record IsFit (b : Wire) (m : MethodEntry) : Type 0 where
  pub plain : is_special m.method ≡ false
  pub select : is_select m.method ≡ true → live m.channel b ≡ true

-- it is none of these at all
pub record IsQuiet (m : MethodEntry) : Type 0 where
  pub plain : is_special m.method ≡ false
  pub select : is_select m.method ≡ false

-- each of these may join what waits
abbrev pub AreFit : Wire → List MethodEntry → Type 0
AreFit b [] = Unit {0}
AreFit b (m ∷ ms) = IsFit b m × AreFit b ms

-- each of these is none of these
abbrev pub AreQuiet : List MethodEntry → Type 0
AreQuiet [] = Unit {0}
AreQuiet (m ∷ ms) = IsQuiet m × AreQuiet ms

-- the mark begins, closes or ends an opening, adds a publish, or is of a frame that leaves
abbrev pub moves : ConfirmMark → Bool
moves (mark.Begun d) = true
moves (mark.Added d) = true
moves (mark.SelectLeft d) = true
moves (mark.Left d k) = true
moves (mark.ClosedHere d e) = true
moves (mark.Ended d e) = true
moves _ = false

-- the mark begins an opening, adds a publish, or is of a frame that leaves
abbrev pub grows : ConfirmMark → Bool
grows (mark.Begun d) = true
grows (mark.Added d) = true
grows (mark.SelectLeft d) = true
grows (mark.Left d k) = true
grows _ = false

-- ---- the kinds

-- as before: whether the connection is open and which channels have a live opening, the frames of the begun publish, and how many
-- publishes were accepted; the session hears what it heard
pub record Same (b b' : Wire) : Type 0 where
  pub up : is_up b'.link ≡ is_up b.link
  pub max : b'.frame_max ≡ b.frame_max
  pub rest : b'.rest ≡ b.rest
  pub lives : (c : ℕ) → live c b' ≡ live c b
  pub hear : (c : ℕ) → hears c b ≡ true → hears c b' ≡ true
  pub published : b'.published ≡ b.published

-- the same of every channel but this one; of the begun publish nothing is said
pub record SameBut (d : ℕ) (b b' : Wire) : Type 0 where
  pub up : is_up b'.link ≡ is_up b.link
  pub max : b'.frame_max ≡ b.frame_max
  pub lives : (c : ℕ) → (d == c) ≡ false → live c b' ≡ live c b
  pub hear : (c : ℕ) → (d == c) ≡ false → hears c b ≡ true → hears c b' ≡ true
  pub published : b'.published ≡ b.published

-- the `channel.open` of a call, as it waits
abbrev pub open_entry : ℕ → ℕ → MethodEntry
open_entry d ticket = record { channel = d; method = method.Channel channel.Open; ticket = Some ticket }

-- What an event does that comes from b to b', with these marks of confirms and these added publishes:
-- methods join (`Stays`); this side closes a channel (`Closes`); an opening begins (`Opens`); a publish is added (`Adds`); an opening
-- ends (`Ends`); the connection is open no more, and every opening ends (`Falls`); or it was open no more before (`Sinks`)
pub data Effect (b b' : Wire) (xs : List ConfirmMark) (new : List Publish) : Type 0 where
  Stays : (same : Same b b') (publishes : b'.publishes ≡ b.publishes) (es : List MethodEntry) (methods : b'.methods ≡ b.methods ++ es) (fit : AreFit b es) (still : list_any moves xs ≡ false) (none : new ≡ []) → Effect b b' xs new
  Closes : (d : ℕ) (e : Error) (same : Same b b') (publishes : b'.publishes ≡ filter (is_off publish_channel d) b.publishes) (m : MethodEntry) (methods : b'.methods ≡ b.methods ++ m ∷ []) (fit : IsFit b m) (marks : xs ≡ mark.ClosedHere d e ∷ []) (none : new ≡ []) → Effect b b' xs new
  Opens : (d t : ℕ) (same : SameBut d b b') (was : live d b ≡ false) (now : live d b' ≡ true) (rest : b'.rest ≡ b.rest) (publishes : b'.publishes ≡ b.publishes) (methods : b'.methods ≡ b.methods ++ open_entry d t ∷ []) (marks : xs ≡ mark.Begun d ∷ []) (none : new ≡ []) → Effect b b' xs new
  Adds : (q : Publish) (up : is_up b'.link ≡ is_up b.link) (max : b'.frame_max ≡ b.frame_max) (rest : b'.rest ≡ b.rest) (lives : (c : ℕ) → live c b' ≡ live c b) (hear : (c : ℕ) → hears c b' ≡ hears c b) (publishes : b'.publishes ≡ b.publishes ++ q ∷ []) (methods : b'.methods ≡ b.methods) (here : hears q.channel b ≡ true) (number : q.confirm ≡ b.published + 1) (published : b'.published ≡ b.published + 1) (marks : xs ≡ mark.Added q.channel ∷ []) (is : new ≡ q ∷ []) → Effect b b' xs new
  Ends : (d : ℕ) (e : Error) (same : SameBut d b b') (now : live d b' ≡ false) (rest : b'.rest ≡ (if is_rest_of d b.rest then [] else b.rest)) (publishes : b'.publishes ≡ filter (is_off publish_channel d) b.publishes) (es : List MethodEntry) (methods : b'.methods ≡ filter (is_off method_channel d) b.methods ++ es) (quiet : AreQuiet es) (marks : xs ≡ mark.Ended d e ∷ []) (none : new ≡ []) → Effect b b' xs new
  Falls : (e : Error) (max : b'.frame_max ≡ b.frame_max) (published : b'.published ≡ b.published) (down : is_up b'.link ≡ false) (rest : b'.rest ≡ []) (publishes : b'.publishes ≡ []) (quiet : AreQuiet b'.methods) (marks : xs ≡ ends_all e b) (none : new ≡ []) → Effect b b' xs new
  Sinks : (max : b'.frame_max ≡ b.frame_max) (published : b'.published ≡ b.published) (was : is_up b.link ≡ false) (down : is_up b'.link ≡ false) (rest : b.rest ≡ [] → b'.rest ≡ []) (publishes : b.publishes ≡ [] → b'.publishes ≡ []) (quiet : AreQuiet b.methods → AreQuiet b'.methods) (still : list_any grows xs ≡ false) (none : new ≡ []) → Effect b b' xs new

-- ---- the law's words

-- an event has one of these effects, whatever is seen of confirms and tickets
abbrev pub HasEffect : Wire → Readings → Event → Type 0
HasEffect b readings e = Effect b (after_event b e (record_of b readings e)) (confirm_marks b e (record_of b readings e)) (publish_by b e (record_of b readings e))
