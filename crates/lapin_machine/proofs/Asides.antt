-- Setting a confirm aside, and the wait for all confirms of a channel: what they answer and what they leave.
use Rattle.std.proofs.Common.{◌≡◌, ℕ, true, false, cond, List, length, Option, Some, None, Result, Ok, Err, ◌⊎◌, inl, inr, refl, sym, ◌∙◌, ap, subst}
use Rattle.std.specs.Prelude.{OnOk, OnErr}
use Rattle.lapin_types.specs.declared.event.Event.TheVariants as event
use Rattle.lapin_types.specs.declared.leaving.Publish.{Publish}
use Rattle.lapin_types.specs.declared.record.Record.TheVariants as record_
use Rattle.lapin_types.specs.Types.{Error}
use Rattle.lapin_types.specs.Types.error
use Rattle.lapin_rules.specs.declared.phases.ChannelPhase.{ChannelPhase}
use Rattle.lapin_rules.specs.declared.phases.ConnectionPhase.{ConnectionPhase}
use Rattle.lapin_rules.specs.ConfirmMarks as mark
use Rattle.lapin_rules.specs.Polls.{is_aside, is_waited_on}
use Rattle.lapin_types.specs.declared.message.BasicReturnMessage.{BasicReturnMessage}
use Rattle.lapin_tables.specs.Numbered.{under}
use Rattle.lapin_confirm.specs.declared.cell.Cell.{Cell}
use Rattle.lapin_confirm.specs.declared.cell.Cell.TheVariants as cell
use Rattle.lapin_confirm.specs.Answers.{answer_at, answer_in, answer_with, is_unknown}
use Rattle.lapin_confirm.specs.Aside.{set_answer, is_set_aside, refused_as}
use Rattle.lapin_confirm.specs.Machine.{after_mark}
use Rattle.lapin_confirm.specs.ConfirmState.{ConfirmState, message_of}
use Rattle.lapin_machine.specs.World.{World, next, aside_record, readings_of}
use Rattle.lapin_machine.specs.Told.{AsideTold}
use Rattle.lapin_machine.specs.Numbers.{HasNumbers}
use Rattle.lapin_machine.specs.Tied.{IsTied}
use Rattle.lapin_machine.proofs.Counts.{drained-count, aside-count}
use Rattle.lapin_machine.proofs.Keeping.{tied_aside, tied_drained}
use Rattle.lapin_machine.proofs.Seen.{world_is, base_is}

-- ---- a confirm is set aside

told_as : (a : Result (Unit {0}) Error) → AsideTold a (aside_record a)
told_as (Ok x) = refl
told_as (Err error.NoMemory) = tt
told_as (Err error.NumbersUsedUp) = tt
told_as (Err e) = refl

-- it answers as the confirms do, or finds no memory
pub aside_told : (r a : Result (Unit {0}) Error) → (r ≡ Err error.NoMemory) ⊎ (r ≡ a) → AsideTold r (aside_record a)
aside_told r a (inl none) = let P : Result (Unit {0}) Error → Type 0 = λ x. AsideTold x (aside_record a) in subst P (sym none) tt
aside_told r a (inr same) = let P : Result (Unit {0}) Error → Type 0 = λ x. AsideTold x (aside_record a) in subst P (sym same) (told_as a)

-- the world with other confirms
abbrev pub with_confirm_state : World → ConfirmState → World
with_confirm_state w p = record {
  wire = record w.wire { published = length p.publish_states.cells };
  confirm_state = p;
  slots = w.slots;
  returned = w.returned;
}

ok_is : (r a : Result (Unit {0}) Error) → r ≡ Ok tt → (r ≡ Err error.NoMemory) ⊎ (r ≡ a) → is_aside (aside_record a) ≡ true
ok_is r a ok (inl none) = cc
ok_is r a ok (inr same) = ap (λ (x : Result (Unit {0}) Error). is_aside (aside_record x)) (sym same ∙ ok)

-- what it leaves
pub aside_next : (n : ℕ) (r : Result (Unit {0}) Error) (w : World) → w.wire.published ≡ length w.confirm_state.publish_states.cells → r ≡ Ok tt → (r ≡ Err error.NoMemory) ⊎ (r ≡ set_answer n w.confirm_state) → with_confirm_state w (after_mark w.confirm_state (mark.SetAside n)) ≡ next w (event.AsideConfirm n)
aside_next n r w count ok told =
    let is : is_aside (aside_record (set_answer n w.confirm_state)) ≡ true = ok_is r (set_answer n w.confirm_state) ok told in
    world_is _ (next w (event.AsideConfirm n))
    (base_is _ w.wire refl refl refl refl refl refl refl refl refl (aside-count n w.confirm_state ∙ sym count) refl)
    (rw is refl)
    refl
    refl

-- numbers are not used up by it
answers_with_numbers : (o : Option Cell) → (m : Option BasicReturnMessage) → HasNumbers (refused_as (answer_with m (answer_in o)))
answers_with_numbers None m = tt
answers_with_numbers (Some (cell.Queued d)) m = tt
answers_with_numbers (Some (cell.Pending d t)) m = tt
answers_with_numbers (Some (cell.Resolved x)) m = tt

set_numbers : (n : ℕ) (p : ConfirmState) → HasNumbers (set_answer n p)
set_numbers n p = elim (is_set_aside n p) as (λ t. HasNumbers (refused_as (cond t (Err error.AlreadyTaken) (answer_with (message_of n p) (answer_at n p.publish_states))))) [
  | true ↦ tt
  | false ↦ elim (is_unknown n p.publish_states) as (λ t. HasNumbers (refused_as (answer_with (message_of n p) (cond t (Err error.UnknownTicket) (answer_in (under n p.publish_states.cells)))))) [
    | true ↦ tt
    | false ↦ answers_with_numbers (under n p.publish_states.cells) (message_of n p)
  ]
]

pub aside_numbers : (r : Result (Unit {0}) Error) (n : ℕ) (p : ConfirmState) → (r ≡ Err error.NoMemory) ⊎ (r ≡ set_answer n p) → HasNumbers r
aside_numbers r n p (inl none) = let P : Result (Unit {0}) Error → Type 0 = λ x. HasNumbers x in subst P (sym none) tt
aside_numbers r n p (inr same) = let P : Result (Unit {0}) Error → Type 0 = λ x. HasNumbers x in subst P (sym same) (set_numbers n p)

-- one that is refused leaves all as it was
pub aside_refused : (n : ℕ) (e : Error) (w : World) → record_.Refused e ≡ aside_record (set_answer n w.confirm_state) → w ≡ next w (event.AsideConfirm n)
aside_refused n e w told =
    let no : is_aside (aside_record (set_answer n w.confirm_state)) ≡ false = ap is_aside (sym told) in
    rw no refl

-- and what ties the session's parts together stays, whether or not there was memory
pub aside_kept : {T E : Type 0} (r : Result T E) (n : ℕ) (l : ConnectionPhase) (phases : List (ℕ × ChannelPhase)) (ps : List Publish) (p new : ConfirmState) → OnOk r (new ≡ after_mark p (mark.SetAside n)) → OnErr r (new ≡ p) → IsTied l phases ps p.publish_states → IsTied l phases ps new.publish_states
aside_kept (Ok x) n l phases ps p new ok err t = let P : ConfirmState → Type 0 = λ y. IsTied l phases ps y.publish_states in subst P (sym ok) (tied_aside n l phases ps p t)
aside_kept (Err e) n l phases ps p new ok err t = let P : ConfirmState → Type 0 = λ y. IsTied l phases ps y.publish_states in subst P (sym err) t

-- ---- the wait

pub drained_kept : {T E : Type 0} (r : Result T E) (c : ℕ) (l : ConnectionPhase) (phases : List (ℕ × ChannelPhase)) (ps : List Publish) (p new : ConfirmState) → OnOk r (new ≡ after_mark p (mark.Drained c)) → OnErr r (new ≡ p) → IsTied l phases ps p.publish_states → IsTied l phases ps new.publish_states
drained_kept (Ok x) c l phases ps p new ok err t = let P : ConfirmState → Type 0 = λ y. IsTied l phases ps y.publish_states in subst P (sym ok) (tied_drained c l phases ps p t)
drained_kept (Err e) c l phases ps p new ok err t = let P : ConfirmState → Type 0 = λ y. IsTied l phases ps y.publish_states in subst P (sym err) t

-- there is something to wait for
pub still_waited : (c : ℕ) (w : World) → is_waited_on c w.wire (readings_of w.confirm_state w.slots) ≡ true → w ≡ next w (event.PollWait c)
still_waited c w h = rw h refl

-- else the messages are given
pub drained_next : (c : ℕ) (w : World) → w.wire.published ≡ length w.confirm_state.publish_states.cells → is_waited_on c w.wire (readings_of w.confirm_state w.slots) ≡ false → with_confirm_state w (after_mark w.confirm_state (mark.Drained c)) ≡ next w (event.PollWait c)
drained_next c w count h =
    world_is _ (next w (event.PollWait c))
    (base_is _ w.wire refl refl refl refl refl refl refl refl refl (drained-count c w.confirm_state ∙ sym count) refl)
    (rw h refl)
    refl
    refl
