-- What becomes of a frame that came, from what leaves first and what the session hears.
use Rattle.std.proofs.Common.{◌≡◌, ℕ, suc, ◌+◌, arith, Bool, List, drop, true, false, Some, if◌then◌else◌, inl, inr, refl, sym, ap, ◌∙◌, subst}
use Rattle.lapin_client.specs.declared.client.Client.{Client}
use Rattle.lapin_client.specs.declared.status.Status.{Status}
use Rattle.lapin_client.specs.declared.status.Status.TheVariants as status
use Rattle.lapin_client.specs.declared.closes.Close.{Close}
use Rattle.lapin_client.specs.Closes.{Notes, close_said, or_before}
use Rattle.lapin_client.specs.Receiving.{heard, is_stray, left_by, uses, IdleCounts, HearCounts, IsHeard, Refuses, TurnLeaves, NotesHeard, Takes, TakesIdle, TurnsBy}
use Rattle.lapin_client.specs.Clients.{SameTold}
use Rattle.lapin_client.specs.Sending.{after_requests, Finishes, SameElse}
use Rattle.lapin_client.proofs.Closing.{notes_stray}
use Rattle.lapin_client.proofs.Requests.{hands_same, same_else}
use Rattle.lapin_tables.specs.ByChannel.{at_channel}
use Rattle.lapin_machine.specs.World.{World, next}
use Rattle.lapin_types.specs.declared.event.Event.TheVariants as event
use Rattle.lapin_types.specs.Types.{Frame}

steps_more : (d p b u n : ℕ) → p + suc n ≡ b → d + u ≡ p → d + (suc n + u) ≡ b
steps_more d p b u n x y = omega (x, y, arith)

-- first what has begun here leaves, and then the session hears the frame
idle_taken : (f : Frame) (b p d : Client) → Finishes status.Done b p → d.session ≡ heard f p.session → d.leaving.items ≡ p.leaving.items → d.left + uses f p.session ≡ p.left → d.unsent ≡ p.unsent → TurnLeaves (Some f) b d
idle_taken f b p d h ses leav count uns = (
  h.0.0,
  h.0.2,
  ses ∙ ap (heard f) h.0.1.0,
  leav ∙ h.0.1.1.0,
  steps_more d.left p.left b.left (uses f (after_requests (suc h.0.0) false b.session)) h.0.0 h.0.1.1.2 (subst (λ (w : World). d.left + uses f w ≡ p.left) h.0.1.0 count),
  h.0.1.1.1,
  h.0.1.1.3,
  uns ∙ h.0.1.1.4,
  h.0.1.1.5,
)

notes_of : (f : Frame) (b p d : Client) → p.closes.entries ≡ b.closes.entries → Notes (Some f) p d → Notes (Some f) b d
notes_of f b p d same k = λ c. k c ∙ ap (λ (es : List (ℕ × Close)). or_before c (close_said f) (at_channel c es)) same

-- what is told stays as what has begun here leaves
told_after : (b p d : Client) → SameElse b p → SameTold p d → SameTold b d
told_after b p d s t = (t.0 ∙ s.0, t.1 ∙ s.5, t.2 ∙ s.6)

-- so does what a refusal tells, of a frame that isn't passed over
refuses_after : (f : Frame) (w : World) (b p d : Client) → SameElse b p → (is_stray f w ≡ false) × Refuses f w p d → (is_stray f w ≡ false) × Refuses f w b d
refuses_after f w b p d s r = (r.0, (r.1.0, r.1.1, (r.1.2.0, (r.1.2.1.0 ∙ s.0, r.1.2.1.1 ∙ s.5))))

pub takes_after : (r : Status) (f : Frame) (b p d : Client) → Finishes status.Done b p → TakesIdle r f p d → IdleCounts r f p d → Takes r f b d
takes_after status.Done f b p d h t k = (
  ((h.0.0, h.0.2, subst (λ (w : World). IsHeard f w) h.0.1.0 t.0.0), told_after b p d h.1 t.0.1),
  idle_taken f b p d h t.1 t.2.0 k t.2.4,
  t.2.1 ∙ h.1.1,
  t.2.2 ∙ h.1.2,
  t.2.3 ∙ h.1.3,
  notes_of f b p d h.1.4 t.3,
)
takes_after status.Refused f b p d h t k = (
  (h.0.0, h.0.2, refuses_after f (after_requests (suc h.0.0) false b.session) b p d h.1 (subst (λ (w : World). (is_stray f w ≡ false) × Refuses f w p d) h.0.1.0 t.0)),
  idle_taken f b p d h t.1 t.2.0 k t.2.4,
  t.2.1 ∙ h.1.1,
  t.2.2 ∙ h.1.2,
  t.2.3 ∙ h.1.3,
  notes_of f b p d h.1.4 t.3,
)
takes_after status.Kept f b p d h t k = (inl (inr (suc h.0.0, hands_same (suc h.0.0) false b p d h.0.1 t.0)), same_else b p d h.1 t.1)
takes_after status.Ended f b p d h t k = (((suc h.0.0, hands_same (suc h.0.0) false b p d h.0.1 t.0.0), t.0.0.2 ∙ t.1), same_else b p d h.1 t.0.1)
takes_after status.NotInGrammar f b p d h t k = absurd t
takes_after status.NoMemory f b p d h t k = absurd t
takes_after status.Malformed f b p d h t k = absurd t
takes_after status.TooLong f b p d h t k = absurd t
takes_after status.Closed f b p d h t k = absurd t
takes_after status.Pending f b p d h t k = absurd t
takes_after status.Gone f b p d h t k = absurd t

-- what has begun here did not leave whole
pub takes_not : (r : Status) (f : Frame) (b d : Client) → (r ≡ status.Done → ⊥) → (r ≡ status.NoMemory → ⊥) → Finishes r b d → Takes r f b d
takes_not status.Done f b d done memory h = absurd (done refl)
takes_not status.NoMemory f b d done memory h = absurd (memory refl)
takes_not status.TooLong f b d done memory h = h
takes_not status.Ended f b d done memory h = h
takes_not status.Refused f b d done memory h = absurd h.0
takes_not status.NotInGrammar f b d done memory h = absurd h.0
takes_not status.Malformed f b d done memory h = absurd h.0
takes_not status.Closed f b d done memory h = absurd h.0
takes_not status.Pending f b d done memory h = absurd h.0
takes_not status.Gone f b d done memory h = absurd h.0
takes_not status.Kept f b d done memory h = absurd h.0

-- the frame at the head of what came was taken
pub turn_done : (f : Frame) (n : ℕ) (b p : Client) (x : List ℕ) → x ≡ drop n p.came → Takes status.Done f b p → TurnsBy status.Done f n b (record p { came = x })
turn_done f n b p x passed t = λ head. (Some f, (n, (head, t.4), passed ∙ ap (λ (l : List ℕ). drop n l) t.2, t.3, t.1, t.5), t.0)

pub turn_refused : (f : Frame) (n : ℕ) (b p : Client) (x : List ℕ) → x ≡ drop n p.came → Takes status.Refused f b p → TurnsBy status.Refused f n b (record p { came = x })
turn_refused f n b p x passed t = λ head. (f, (n, (head, t.4), passed ∙ ap (λ (l : List ℕ). drop n l) t.2, t.3, t.1, t.5), t.0)

-- or not
pub turn_not : (r : Status) (f : Frame) (n : ℕ) (b d : Client) → (r ≡ status.Done → ⊥) → (r ≡ status.Refused → ⊥) → Takes r f b d → TurnsBy r f n b d
turn_not status.Done f n b d done refused t = absurd (done refl)
turn_not status.Refused f n b d done refused t = absurd (refused refl)
turn_not status.Kept f n b d done refused t = λ head. t
turn_not status.TooLong f n b d done refused t = λ head. inr t
turn_not status.Ended f n b d done refused t = λ head. t
turn_not status.NotInGrammar f n b d done refused t = absurd t
turn_not status.NoMemory f n b d done refused t = absurd t
turn_not status.Malformed f n b d done refused t = absurd t
turn_not status.Closed f n b d done refused t = absurd t
turn_not status.Pending f n b d done refused t = absurd t
turn_not status.Gone f n b d done refused t = absurd t

not_stray : (f : Frame) (w : World) → is_stray f w ≡ false → next w (event.Receive f) ≡ heard f w
not_stray f w is = sym (ap (λ (b : Bool). if b then w else next w (event.Receive f)) is)

-- a frame of an opening that has not ended
pub idle_heard : (r : Status) (f : Frame) (b d : Client) → is_stray f b.session ≡ false → NotesHeard r f b d → TakesIdle r f b d
idle_heard status.Done f b d is h = (h.0, h.1 ∙ not_stray f b.session is, h.2, h.3)
idle_heard status.Refused f b d is h = ((is, h.0), h.1 ∙ not_stray f b.session is, h.2, h.3)
idle_heard status.NotInGrammar f b d is h = h
idle_heard status.NoMemory f b d is h = h
idle_heard status.Ended f b d is h = h
idle_heard status.Malformed f b d is h = h
idle_heard status.TooLong f b d is h = h
idle_heard status.Closed f b d is h = h
idle_heard status.Pending f b d is h = h
idle_heard status.Gone f b d is h = h
idle_heard status.Kept f b d is h = h

uses_one : (f : Frame) (w : World) → is_stray f w ≡ false → 1 ≡ uses f w
uses_one f w is = sym (ap (λ (b : Bool). if b then 0 else 1) is)

pub idle_counted : (r : Status) (f : Frame) (b d : Client) → is_stray f b.session ≡ false → HearCounts r b d → IdleCounts r f b d
idle_counted r f b d is h = subst (λ (n : ℕ). left_by r n b.left d.left) (uses_one f b.session is) h

-- a frame of one that has
pub stray_taken : (f : Frame) (b : Client) → is_stray f b.session ≡ true → TakesIdle status.Done f b b
stray_taken f b is = ((inl is, (refl, refl, refl)), sym (ap (λ (x : Bool). if x then b.session else next b.session (event.Receive f)) is), (refl, refl, refl, refl, refl), notes_stray f b is)

pub stray_counted : (f : Frame) (b : Client) → is_stray f b.session ≡ true → IdleCounts status.Done f b b
stray_counted f b is = subst (λ (n : ℕ). b.left + n ≡ b.left) (sym (ap (λ (x : Bool). if x then 0 else 1) is)) (omega arith)
