-- Requests one after the other.
use Rattle.std.proofs.Common.{◌≡◌, ◌<◌, ◌≤◌, ◌⊎◌, ℕ, zero, suc, ◌+◌, Err, inl, inr, List, ◌++◌, Bool, false, Option, Some, None, length, refl, sym, ap, ◌∙◌, subst, arith}
use Rattle.std.proofs.lemmas.List.{append_assoc, append-nil}
use Rattle.lapin_client.specs.declared.status.Status.{Status}
use Rattle.lapin_client.specs.declared.status.Status.TheVariants as status
use Rattle.lapin_types.specs.declared.record.Record.{Record}
use Rattle.lapin_client.specs.declared.client.Client.{Client}
use Rattle.lapin_client.specs.declared.sending.Step.TheVariants as step
use Rattle.lapin_fields.specs.declared.fault.WriteFault.{WriteFault}
use Rattle.lapin_fields.specs.declared.fault.WriteFault.TheVariants as faults
use Rattle.lapin_frames.specs.FrameFits.{FrameFits, RefusedWithin}
use Rattle.lapin_frames.specs.Frames.{bytes_of}
use Rattle.lapin_types.specs.Types.{Frame}
use Rattle.lapin_types.specs.declared.leaving.Left.{Left}
use Rattle.lapin_types.specs.declared.record.Record.TheVariants as record_
use Rattle.lapin_client.specs.Sending.{record_bytes, after_requests, bytes_handed, held_bytes, to_leave, HandsOut, HeldFits, Holds, IsIdle, SameElse, AllFit, AllWanted, AllWithin, Pulls, Finishes, Sends, Steps, Stops, Waits, Writes, WritesHeld, CantLeave, RecordFits, Suffices}
use Rattle.lapin_machine.specs.World.{World, full_in, next, told_by, told_or}
use Rattle.lapin_outbox.specs.Returned.{given}
use Rattle.lapin_rules.specs.Handing.{frame_record, handed}
use Rattle.lapin_types.specs.declared.event.Event.TheVariants as event

-- one more request, by which a frame left or none
pub hands_next : (n : ℕ) (flow : Bool) (c b d : Client) → HandsOut n flow c b → b.frame_max ≡ c.frame_max → d.session ≡ next b.session (event.Next flow) →
    d.leaving.items ≡ b.leaving.items ++ record_bytes (told_by b.session (event.Next flow)) → length (record_bytes (told_by b.session (event.Next flow))) ≤ b.frame_max → RecordFits (told_by b.session (event.Next flow)) → d.left + 1 ≡ b.left → d.unsent ≡ None → HandsOut (suc n) flow c d
hands_next n flow c b d h same e f small fits count none = (
  e ∙ ap (λ w. next w (event.Next flow)) h.0,
  (
    f ∙ ap (λ l. l ++ record_bytes (told_by b.session (event.Next flow))) h.1.0
        ∙ ap (λ w. (to_leave c ++ bytes_handed n flow c.session) ++ record_bytes (told_by w (event.Next flow))) h.0
        ∙ append_assoc (to_leave c) (bytes_handed n flow c.session) (record_bytes (told_by (after_requests n flow c.session) (event.Next flow))),
    (
      h.1.1,
      subst (λ (m : ℕ). length (record_bytes (told_by (after_requests n flow c.session) (event.Next flow))) ≤ m) same
          (subst (λ (w : World). length (record_bytes (told_by w (event.Next flow))) ≤ b.frame_max) h.0 small),
    ),
    omega (h.1.2, count, arith),
    (h.1.3, subst (λ (w : World). RecordFits (told_by w (event.Next flow))) h.0 fits),
    none,
    h.1.5,
  ),
)

-- one more request, by which none left
pub hands_idle : (n : ℕ) (flow : Bool) (c b d : Client) → HandsOut n flow c b → b.frame_max ≡ c.frame_max → d.session ≡ next b.session (event.Next flow) →
    d.leaving.items ≡ b.leaving.items → IsIdle flow b.session → d.left + 1 ≡ b.left → d.unsent ≡ None → HandsOut (suc n) flow c d
hands_idle n flow c b d h same e f idle count none =
    hands_next n flow c b d h same e (f ∙ sym (append-nil b.leaving.items) ∙ ap (λ (r : Record). b.leaving.items ++ record_bytes r) (sym idle))
    (subst (λ (r : Record). length (record_bytes r) ≤ b.frame_max) (sym idle) (omega arith)) (subst RecordFits (sym idle) tt) count none

-- nothing more was done
pub hands_same : (n : ℕ) (flow : Bool) (c b d : Client) → HandsOut n flow c b → Waits b d → HandsOut n flow c d
hands_same n flow c b d h w = (w.0 ∙ h.0, (w.1 ∙ h.1.0, h.1.1, subst (λ (m : ℕ). m + n ≡ c.left) (sym w.2) h.1.2, h.1.3, w.3 ∙ h.1.4, h.1.5))

pub same_else : (c b d : Client) → SameElse c b → SameElse b d → SameElse c d
same_else c b d x y = (y.0 ∙ x.0, y.1 ∙ x.1, y.2 ∙ x.2, y.3 ∙ x.3, y.4 ∙ x.4, y.5 ∙ x.5, y.6 ∙ x.6)

-- one more request was wanted
pub wanted_next : (enough n : ℕ) (flow : Bool) (c b : Client) → HandsOut n flow c b → AllWanted enough n flow c → length b.leaving.items < enough → AllWanted enough (suc n) flow c
wanted_next enough n flow c b h all few = (all, subst (λ (l : List ℕ). length l < enough) h.1.0 few)

-- ---- the frame that is held

-- none is
pub none_held : (c d : Client) → c.unsent ≡ None → d.session ≡ c.session → d.leaving.items ≡ c.leaving.items → d.left ≡ c.left → d.unsent ≡ None → SameElse c d → WritesHeld status.Done c d
none_held c d held ses leav lef none same = (
  (
    ses,
    (
      leav ∙ sym (append-nil c.leaving.items) ∙ ap (λ (o : Option Left). c.leaving.items ++ held_bytes o) (sym held) ∙ sym (append-nil (to_leave c)),
      tt,
      omega (lef, arith),
      tt,
      none,
      subst (λ (o : Option Left). HeldFits c.frame_max o) (sym held) tt,
    ),
  ),
  same,
)

-- it was written, or not
pub held_written : (r : Status) (l : Left) (c p d : Client) → c.unsent ≡ Some l → p.session ≡ c.session → p.leaving.items ≡ c.leaving.items → p.left ≡ c.left → p.frame_max ≡ c.frame_max → SameElse c p → Writes r l p d → WritesHeld r c d
held_written status.Done l c p d held ses leav lef fm same h = (
  (
    h.5 ∙ ses,
    (
      h.0 ∙ ap (λ (b : List ℕ). b ++ bytes_of l.frame) leav ∙ ap (λ (o : Option Left). c.leaving.items ++ held_bytes o) (sym held) ∙ sym (append-nil (to_leave c)),
      tt,
      omega (h.3, lef, arith),
      tt,
      h.4,
      subst (λ (o : Option Left). HeldFits c.frame_max o) (sym held) (subst (λ (m : ℕ). length (bytes_of l.frame) ≤ m) fm h.1, h.2),
    ),
  ),
  same_else c p d same h.6,
)
held_written status.NoMemory l c p d held ses leav lef fm same h = ((h.3 ∙ ses, h.0 ∙ leav, h.1 ∙ lef, h.2 ∙ sym held), same_else c p d same h.4)
held_written status.TooLong l c p d held ses leav lef fm same h =
    (((l, held, subst (λ (m : ℕ). CantLeave (record_.Frame l.frame) m) fm h.0), h.4 ∙ ses, h.1 ∙ leav, h.2, h.3), same_else c p d same h.5)
held_written status.Refused l c p d held ses leav lef fm same h = absurd h
held_written status.NotInGrammar l c p d held ses leav lef fm same h = absurd h
held_written status.Ended l c p d held ses leav lef fm same h = absurd h
held_written status.Malformed l c p d held ses leav lef fm same h = absurd h
held_written status.Closed l c p d held ses leav lef fm same h = absurd h
held_written status.Pending l c p d held ses leav lef fm same h = absurd h
held_written status.Gone l c p d held ses leav lef fm same h = absurd h
held_written status.Kept l c p d held ses leav lef fm same h = absurd h

-- a frame that could not be written
pub write_cause : (e : WriteFault) (f : Frame) (most : ℕ) → RefusedWithin (Err e) (FrameFits f) (most < length (bytes_of f)) → (e ≡ faults.NoMemory → ⊥) → CantLeave (record_.Frame f) most
write_cause faults.NoMemory f most r not = absurd (not refl)
write_cause faults.TooLong f most r not = inl r
write_cause faults.TooDeep f most r not = inl r
write_cause faults.AboveLimit f most r not = inr r.1

-- it was not written, and what leaves is as it was
pub writes_from : (r : Status) (l : Left) (c p d : Client) → p.session ≡ c.session → p.leaving.items ≡ c.leaving.items → p.left ≡ c.left → p.frame_max ≡ c.frame_max → SameElse c p → Writes r l p d → Writes r l c d
writes_from status.Done l c p d ses leav lef fm same h =
    (h.0 ∙ ap (λ (b : List ℕ). b ++ bytes_of l.frame) leav, subst (λ (m : ℕ). length (bytes_of l.frame) ≤ m) fm h.1, h.2, h.3 ∙ lef, h.4, h.5 ∙ ses, same_else c p d same h.6)
writes_from status.NoMemory l c p d ses leav lef fm same h = (h.0 ∙ leav, h.1 ∙ lef, h.2, h.3 ∙ ses, same_else c p d same h.4)
writes_from status.TooLong l c p d ses leav lef fm same h =
    (subst (λ (m : ℕ). CantLeave (record_.Frame l.frame) m) fm h.0, h.1 ∙ leav, h.2, h.3, h.4 ∙ ses, same_else c p d same h.5)
writes_from status.Refused l c p d ses leav lef fm same h = h
writes_from status.NotInGrammar l c p d ses leav lef fm same h = h
writes_from status.Ended l c p d ses leav lef fm same h = h
writes_from status.Malformed l c p d ses leav lef fm same h = h
writes_from status.Closed l c p d ses leav lef fm same h = h
writes_from status.Pending l c p d ses leav lef fm same h = h
writes_from status.Gone l c p d ses leav lef fm same h = h
writes_from status.Kept l c p d ses leav lef fm same h = h

-- ---- a request

-- what it hands out is told
told_given : (r h : Option Left) (l : Left) → Some l ≡ given r h → told_or r (frame_record h) ≡ record_.Frame l.frame
told_given None None l is = absurd cc
told_given None (Some k) l is = ap (λ (o : Option Left). frame_record o) (sym is)
told_given (Some k) h l is = ap (λ (o : Option Left). frame_record o) (sym is)

pub told_handed : (w : World) (flow : Bool) (l : Left) → Some l ≡ given w.returned (handed flow (full_in w.confirm_state) w.wire) → told_by w (event.Next flow) ≡ record_.Frame l.frame
told_handed w flow l is = told_given w.returned (handed flow (full_in w.confirm_state) w.wire) l is

-- a frame that was handed out was written
pub steps_left : (l : Left) (flow : Bool) (c p d : Client) → told_by c.session (event.Next flow) ≡ record_.Frame l.frame → p.session ≡ next c.session (event.Next flow) → p.leaving.items ≡ c.leaving.items → p.left + 1 ≡ c.left →
    p.frame_max ≡ c.frame_max → SameElse c p → Writes status.Done l p d → Steps step.Left flow c d
steps_left l flow c p d told ses leav lef fm same h = (
  h.5 ∙ ses,
  h.0 ∙ ap (λ (b : List ℕ). b ++ bytes_of l.frame) leav ∙ ap (λ (r : Record). c.leaving.items ++ record_bytes r) (sym told),
  subst (λ (m : ℕ). length (record_bytes (told_by c.session (event.Next flow))) ≤ m) fm (subst (λ (r : Record). length (record_bytes r) ≤ p.frame_max) (sym told) h.1),
  subst RecordFits (sym told) h.2,
  subst (λ (m : ℕ). m + 1 ≡ c.left) (sym h.3) lef,
  h.4,
  same_else c p d same h.6,
)

-- ---- a request that stops

-- a frame that was handed out was written, or not
pub steps_lost : (s : Status) (l : Left) (flow : Bool) (c p d : Client) → told_by c.session (event.Next flow) ≡ record_.Frame l.frame → p.session ≡ next c.session (event.Next flow) → p.leaving.items ≡ c.leaving.items → p.left + 1 ≡ c.left →
    p.frame_max ≡ c.frame_max → SameElse c p → (s ≡ status.Done → ⊥) → Writes s l p d → Steps (step.Lost s) flow c d
steps_lost status.Done l flow c p d told ses leav lef fm same not h = absurd (not refl)
steps_lost status.NoMemory l flow c p d told ses leav lef fm same not h =
    (inr (l, told, h.3 ∙ ses, h.0 ∙ leav, subst (λ (m : ℕ). m + 1 ≡ c.left) (sym h.1) lef, h.2), same_else c p d same h.4)
steps_lost status.TooLong l flow c p d told ses leav lef fm same not h =
    ((subst (λ (r : Record). CantLeave r c.frame_max) (sym told) (subst (λ (m : ℕ). CantLeave (record_.Frame l.frame) m) fm h.0), h.4 ∙ ses, h.1 ∙ leav, h.2, h.3), same_else c p d same h.5)
steps_lost status.Refused l flow c p d told ses leav lef fm same not h = absurd h
steps_lost status.NotInGrammar l flow c p d told ses leav lef fm same not h = absurd h
steps_lost status.Ended l flow c p d told ses leav lef fm same not h = absurd h
steps_lost status.Malformed l flow c p d told ses leav lef fm same not h = absurd h
steps_lost status.Closed l flow c p d told ses leav lef fm same not h = absurd h
steps_lost status.Pending l flow c p d told ses leav lef fm same not h = absurd h
steps_lost status.Gone l flow c p d told ses leav lef fm same not h = absurd h
steps_lost status.Kept l flow c p d told ses leav lef fm same not h = absurd h

wants_after : (n : ℕ) (flow : Bool) (c b d : Client) → HandsOut n flow c b → Waits b d ⊎ Holds flow b d → Stops status.NoMemory flow c d
wants_after n flow c b d h (inl w) = inl (inr (n, hands_same n flow c b d h w))
wants_after n flow c b d h (inr k) = inr (n, b, h, k)

pub stops_after : (s : Status) (n : ℕ) (flow : Bool) (c b d : Client) → HandsOut n flow c b → SameElse c b → Steps (step.Lost s) flow b d → Stops s flow c d × SameElse c d
stops_after status.NoMemory n flow c b d h same k = (wants_after n flow c b d h k.0, same_else c b d same k.1)
stops_after status.TooLong n flow c b d h same k = (inr (n, b, h, same.2, k.0), same_else c b d same k.1)
stops_after status.Done n flow c b d h same k = absurd k
stops_after status.Refused n flow c b d h same k = absurd k
stops_after status.NotInGrammar n flow c b d h same k = absurd k
stops_after status.Ended n flow c b d h same k = absurd k
stops_after status.Malformed n flow c b d h same k = absurd k
stops_after status.Closed n flow c b d h same k = absurd k
stops_after status.Pending n flow c b d h same k = absurd k
stops_after status.Gone n flow c b d h same k = absurd k
stops_after status.Kept n flow c b d h same k = absurd k

pub finishes_of : (s : Status) (c d : Client) → Stops s false c d × SameElse c d → Finishes s c d
finishes_of status.Done c d h = absurd h.0
finishes_of status.Refused c d h = h
finishes_of status.NotInGrammar c d h = h
finishes_of status.NoMemory c d h = h
finishes_of status.Ended c d h = h
finishes_of status.Malformed c d h = h
finishes_of status.TooLong c d h = h
finishes_of status.Closed c d h = h
finishes_of status.Pending c d h = h
finishes_of status.Gone c d h = h
finishes_of status.Kept c d h = h

pub pulls_of : (s : Status) (enough : ℕ) (flow : Bool) (c d : Client) → Stops s flow c d × SameElse c d → Pulls s enough flow c d
pulls_of status.Done enough flow c d h = absurd h.0
pulls_of status.Refused enough flow c d h = h
pulls_of status.NotInGrammar enough flow c d h = h
pulls_of status.NoMemory enough flow c d h = h
pulls_of status.Ended enough flow c d h = h
pulls_of status.Malformed enough flow c d h = h
pulls_of status.TooLong enough flow c d h = h
pulls_of status.Closed enough flow c d h = h
pulls_of status.Pending enough flow c d h = h
pulls_of status.Gone enough flow c d h = h
pulls_of status.Kept enough flow c d h = h

held_stops : (s : Status) (flow : Bool) (c d : Client) → (s ≡ status.Done → ⊥) → WritesHeld s c d → Stops s flow c d × SameElse c d
held_stops status.Done flow c d not h = absurd (not refl)
held_stops status.NoMemory flow c d not h = (inl (inl h.0), h.1)
held_stops status.TooLong flow c d not h = (inl h.0, h.1)
held_stops status.Refused flow c d not h = absurd h
held_stops status.NotInGrammar flow c d not h = absurd h
held_stops status.Ended flow c d not h = absurd h
held_stops status.Malformed flow c d not h = absurd h
held_stops status.Closed flow c d not h = absurd h
held_stops status.Pending flow c d not h = absurd h
held_stops status.Gone flow c d not h = absurd h
held_stops status.Kept flow c d not h = absurd h

pub finishes_held : (s : Status) (c d : Client) → (s ≡ status.Done → ⊥) → WritesHeld s c d → Finishes s c d
finishes_held s c d not h = finishes_of s c d (held_stops s false c d not h)

pub pulls_held : (s : Status) (enough : ℕ) (flow : Bool) (c d : Client) → (s ≡ status.Done → ⊥) → WritesHeld s c d → Pulls s enough flow c d
pulls_held s enough flow c d not h = pulls_of s enough flow c d (held_stops s flow c d not h)

-- ---- behind the frame that was held

to_leave_same : (flow : Bool) (c b : Client) → HandsOut 0 flow c b → to_leave b ≡ to_leave c
to_leave_same flow c b h = ap (λ (o : Option Left). b.leaving.items ++ held_bytes o) h.1.4 ∙ append-nil b.leaving.items ∙ h.1.0 ∙ append-nil (to_leave c)

hands_join : (n : ℕ) (flow : Bool) (c b d : Client) → HandsOut 0 flow c b → b.frame_max ≡ c.frame_max → HandsOut n flow b d → HandsOut n flow c d
hands_join n flow c b d h fm k = (
  k.0 ∙ ap (λ (w : World). after_requests n flow w) h.0,
  (
    k.1.0 ∙ ap (λ (l : List ℕ). l ++ bytes_handed n flow b.session) (to_leave_same flow c b h) ∙ ap (λ (w : World). to_leave c ++ bytes_handed n flow w) h.0,
    subst (λ (m : ℕ). AllWithin m n flow c.session) fm (subst (λ (w : World). AllWithin b.frame_max n flow w) h.0 k.1.1),
    omega (k.1.2, h.1.2, arith),
    subst (λ (w : World). AllFit n flow w) h.0 k.1.3,
    k.1.4,
    h.1.5,
  ),
)

wanted_join : (enough n : ℕ) (flow : Bool) (c b : Client) → HandsOut 0 flow c b → AllWanted enough n flow b → AllWanted enough n flow c
wanted_join enough zero flow c b h k = tt
wanted_join enough (suc n) flow c b h k = (
  wanted_join enough n flow c b h k.0,
  subst (λ (w : World). length (to_leave c ++ bytes_handed n flow w) < enough) h.0 (subst (λ (l : List ℕ). length (l ++ bytes_handed n flow b.session) < enough) (to_leave_same flow c b h) k.1),
)

suffices_join : (enough n : ℕ) (flow : Bool) (c b d : Client) → HandsOut 0 flow c b → Suffices enough n flow b d → Suffices enough n flow c d
suffices_join enough n flow c b d h (inl (m, is, idle)) = inl (m, is, subst (λ (w : World). IsIdle flow (after_requests m flow w)) h.0 idle)
suffices_join enough n flow c b d h (inr many) = inr many

stops_join : (s : Status) (flow : Bool) (c b d : Client) → HandsOut 0 flow c b → SameElse c b → Stops s flow b d → Stops s flow c d
stops_join status.NoMemory flow c b d h same (inl (inl w)) = inl (inr (0, hands_same 0 flow c b d h w))
stops_join status.NoMemory flow c b d h same (inl (inr (n, k))) = inl (inr (n, hands_join n flow c b d h same.2 k))
stops_join status.NoMemory flow c b d h same (inr (n, e, k, holds)) = inr (n, e, hands_join n flow c b e h same.2 k, holds)
stops_join status.TooLong flow c b d h same (inl lost) = let none : None ≡ Some lost.0.0 = sym h.1.4 ∙ lost.0.1 in absurd cc
stops_join status.TooLong flow c b d h same (inr (n, e, k, fm, loses)) = inr (n, e, hands_join n flow c b e h same.2 k, fm ∙ same.2, loses)
stops_join status.Ended flow c b d h same ((n, k), end) = ((n, hands_join n flow c b d h same.2 k), end)
stops_join status.Done flow c b d h same k = absurd k
stops_join status.Refused flow c b d h same k = absurd k
stops_join status.NotInGrammar flow c b d h same k = absurd k
stops_join status.Malformed flow c b d h same k = absurd k
stops_join status.Closed flow c b d h same k = absurd k
stops_join status.Pending flow c b d h same k = absurd k
stops_join status.Gone flow c b d h same k = absurd k
stops_join status.Kept flow c b d h same k = absurd k

pub finishes_join : (s : Status) (c b d : Client) → WritesHeld status.Done c b → Finishes s b d → Finishes s c d
finishes_join status.Done c b d h ((n, k, idle), same) =
    ((n, hands_join (suc n) false c b d h.0 h.1.2 k, subst (λ (w : World). IsIdle false (after_requests n false w)) h.0.0 idle), same_else c b d h.1 same)
finishes_join status.Refused c b d h k = (stops_join status.Refused false c b d h.0 h.1 k.0, same_else c b d h.1 k.1)
finishes_join status.NotInGrammar c b d h k = (stops_join status.NotInGrammar false c b d h.0 h.1 k.0, same_else c b d h.1 k.1)
finishes_join status.NoMemory c b d h k = (stops_join status.NoMemory false c b d h.0 h.1 k.0, same_else c b d h.1 k.1)
finishes_join status.Ended c b d h k = (stops_join status.Ended false c b d h.0 h.1 k.0, same_else c b d h.1 k.1)
finishes_join status.Malformed c b d h k = (stops_join status.Malformed false c b d h.0 h.1 k.0, same_else c b d h.1 k.1)
finishes_join status.TooLong c b d h k = (stops_join status.TooLong false c b d h.0 h.1 k.0, same_else c b d h.1 k.1)
finishes_join status.Closed c b d h k = (stops_join status.Closed false c b d h.0 h.1 k.0, same_else c b d h.1 k.1)
finishes_join status.Pending c b d h k = (stops_join status.Pending false c b d h.0 h.1 k.0, same_else c b d h.1 k.1)
finishes_join status.Gone c b d h k = (stops_join status.Gone false c b d h.0 h.1 k.0, same_else c b d h.1 k.1)
finishes_join status.Kept c b d h k = (stops_join status.Kept false c b d h.0 h.1 k.0, same_else c b d h.1 k.1)

pub pulls_join : (s : Status) (enough : ℕ) (flow : Bool) (c b d : Client) → WritesHeld status.Done c b → Pulls s enough flow b d → Pulls s enough flow c d
pulls_join status.Done enough flow c b d h ((n, k, all, suffices), same) =
    ((n, hands_join n flow c b d h.0 h.1.2 k, wanted_join enough n flow c b h.0 all, suffices_join enough n flow c b d h.0 suffices), same_else c b d h.1 same)
pulls_join status.Refused enough flow c b d h k = (stops_join status.Refused flow c b d h.0 h.1 k.0, same_else c b d h.1 k.1)
pulls_join status.NotInGrammar enough flow c b d h k = (stops_join status.NotInGrammar flow c b d h.0 h.1 k.0, same_else c b d h.1 k.1)
pulls_join status.NoMemory enough flow c b d h k = (stops_join status.NoMemory flow c b d h.0 h.1 k.0, same_else c b d h.1 k.1)
pulls_join status.Ended enough flow c b d h k = (stops_join status.Ended flow c b d h.0 h.1 k.0, same_else c b d h.1 k.1)
pulls_join status.Malformed enough flow c b d h k = (stops_join status.Malformed flow c b d h.0 h.1 k.0, same_else c b d h.1 k.1)
pulls_join status.TooLong enough flow c b d h k = (stops_join status.TooLong flow c b d h.0 h.1 k.0, same_else c b d h.1 k.1)
pulls_join status.Closed enough flow c b d h k = (stops_join status.Closed flow c b d h.0 h.1 k.0, same_else c b d h.1 k.1)
pulls_join status.Pending enough flow c b d h k = (stops_join status.Pending flow c b d h.0 h.1 k.0, same_else c b d h.1 k.1)
pulls_join status.Gone enough flow c b d h k = (stops_join status.Gone flow c b d h.0 h.1 k.0, same_else c b d h.1 k.1)
pulls_join status.Kept enough flow c b d h k = (stops_join status.Kept flow c b d h.0 h.1 k.0, same_else c b d h.1 k.1)

-- ---- both stretches

pub sends_pulled : (s : Status) (flow : Bool) (enough : ℕ) (c d : Client) → (s ≡ status.Done → ⊥) → Pulls s enough flow c d → Sends s flow enough c d
sends_pulled status.Done flow enough c d not p = absurd (not refl)
sends_pulled status.Refused flow enough c d not p = (inl p.0, p.1)
sends_pulled status.NotInGrammar flow enough c d not p = (inl p.0, p.1)
sends_pulled status.NoMemory flow enough c d not p = (inl p.0, p.1)
sends_pulled status.Ended flow enough c d not p = (inl p.0, p.1)
sends_pulled status.Malformed flow enough c d not p = (inl p.0, p.1)
sends_pulled status.TooLong flow enough c d not p = (inl p.0, p.1)
sends_pulled status.Closed flow enough c d not p = (inl p.0, p.1)
sends_pulled status.Pending flow enough c d not p = (inl p.0, p.1)
sends_pulled status.Gone flow enough c d not p = (inl p.0, p.1)
sends_pulled status.Kept flow enough c d not p = (inl p.0, p.1)

pub sends_after : (r : Status) (flow : Bool) (enough : ℕ) (c b d : Client) → Pulls status.Done enough flow c b → Finishes r b d → Sends r flow enough c d
sends_after status.Done flow enough c b d p f = (b, (p, f))
sends_after status.Refused flow enough c b d p f = (inr (b, p, f.0), same_else c b d p.1 f.1)
sends_after status.NotInGrammar flow enough c b d p f = (inr (b, p, f.0), same_else c b d p.1 f.1)
sends_after status.NoMemory flow enough c b d p f = (inr (b, p, f.0), same_else c b d p.1 f.1)
sends_after status.Ended flow enough c b d p f = (inr (b, p, f.0), same_else c b d p.1 f.1)
sends_after status.Malformed flow enough c b d p f = (inr (b, p, f.0), same_else c b d p.1 f.1)
sends_after status.TooLong flow enough c b d p f = (inr (b, p, f.0), same_else c b d p.1 f.1)
sends_after status.Closed flow enough c b d p f = (inr (b, p, f.0), same_else c b d p.1 f.1)
sends_after status.Pending flow enough c b d p f = (inr (b, p, f.0), same_else c b d p.1 f.1)
sends_after status.Gone flow enough c b d p f = (inr (b, p, f.0), same_else c b d p.1 f.1)
sends_after status.Kept flow enough c b d p f = (inr (b, p, f.0), same_else c b d p.1 f.1)
