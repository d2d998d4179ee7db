-- What a turn does leaves each message its number.
use Rattle.std.proofs.Common.{◌≡◌, ◌∙◌, ℕ, ◌==◌, Bool, true, false, cond, not, ◌&&◌, List, [], ◌∷◌, ◌++◌, map, take, drop, Option, Some, None, refl, sym, ap}
use Rattle.std.specs.Prelude.{Result, Ok, Err}
use Rattle.std.proofs.lemmas.List.{map-append, take-append-drop}
use Rattle.lapin_types.specs.declared.confirmation.Confirmation.{Confirmation}
use Rattle.lapin_types.specs.declared.confirmation.Confirmation.TheVariants as confirmation
use Rattle.lapin_types.specs.declared.event.Event.TheVariants as event
use Rattle.lapin_types.specs.declared.record.Record.{Record}
use Rattle.lapin_types.specs.declared.record.Record.TheVariants as record_
use Rattle.lapin_types.specs.Types.{Error}
use Rattle.lapin_rules.specs.Wire.{state_of, is_open}
use Rattle.lapin_machine.specs.World.{World, told_by}
use Rattle.lapin_keeping.specs.declared.fate.Fate.TheVariants as fate
use Rattle.lapin_keeping.specs.declared.kept.Kept.{Kept}
use Rattle.lapin_keeping.specs.Accounts.{number_of}
use Rattle.lapin_keeping.specs.Fates.{blame, of_blame, of_result, tried, waits}
use Rattle.lapin_publisher.specs.declared.turn.Turn.{Turn}
use Rattle.lapin_publisher.specs.Each.{each, IsUntil}
use Rattle.lapin_publisher.specs.Opening.{Opening}
use Rattle.lapin_publisher.specs.Polls.{Polling, poll_one, poll_at, of_record}
use Rattle.lapin_publisher.specs.Publishes.{Placing, placed, waiting_placed, stays, goes, all_placed, room_taken}
use Rattle.lapin_publisher.specs.Turns.{published_all}

module _ {S : Type 0} (f : S → Kept → Kept × S) (same : (s : S) (k : Kept) → (f s k).0.number ≡ k.number) where
  pub each_numbers : (s : S) (ks : List Kept) → map number_of (each f s ks).0 ≡ map number_of ks
  each_numbers s [] = refl
  each_numbers s (k ∷ ks) = ap (λ (n : ℕ). n ∷ map number_of (each f (f s k).1 ks).0) (same s k) ∙ ap (λ (ns : List ℕ). k.number ∷ ns) (each_numbers (f s k).1 ks)

  pub until_numbers : (s t : S) (old new : List Kept) → IsUntil f s t old new → map number_of new ≡ map number_of old
  until_numbers s t old new u =
      ap (map number_of) u.messages
      ∙ map-append number_of (each f s (take u.count old)).0 (drop u.count old)
      ∙ ap (λ (ns : List ℕ). ns ++ map number_of (drop u.count old)) (each_numbers s (take u.count old))
      ∙ sym (map-append number_of (take u.count old) (drop u.count old))
      ∙ ap (map number_of) (take-append-drop u.count old)

-- ---- a poll

either : (b : Bool) (k l m : Kept) → l.number ≡ k.number → m.number ≡ k.number → (cond b l m).number ≡ k.number
either true k l m one other = one
either false k l m one other = other

blamed : (o : Option ℕ) (k : Kept) → (of_blame o k).number ≡ k.number
blamed None k = refl
blamed (Some code) k = either k.suspect k (tried (fate.Closed code) k) (record k { outstanding = None; suspect = true }) refl refl

result_number : (r : Result Confirmation Error) (k : Kept) → (of_result r k).number ≡ k.number
result_number (Ok (confirmation.Ack m)) k = either k.came_back k (tried fate.Returned k) (record k { outstanding = None; fate = Some fate.Stored }) refl refl
result_number (Ok (confirmation.Nack m)) k = refl
result_number (Ok confirmation.NotRequested) k = refl
result_number (Err e) k = blamed (blame e) k

record_number : (r : Record) (k : Kept) → (of_record r k).number ≡ k.number
record_number (record_.Confirmed r) k = result_number r k
record_number record_.Pending k = refl
record_number _ k = refl

poll_at_number : (p : Polling) (k : Kept) (o : Option ℕ) → (poll_at p k o).0.number ≡ k.number
poll_at_number p k None = refl
poll_at_number p k (Some c) = record_number (told_by p.0 (event.PollConfirm c)) k

pub poll_number : (p : Polling) (k : Kept) → (poll_one p k).0.number ≡ k.number
poll_number p k = poll_at_number p k k.outstanding

-- ---- a message's place in a turn

chosen : (b : Bool) (k : Kept) (x y : Kept × Placing) → x.0.number ≡ k.number → y.0.number ≡ k.number → (cond b x y).0.number ≡ k.number
chosen true k x y one other = one
chosen false k x y one other = other

waiting_number : (t : Turn) (p : Placing) (k : Kept) → (waiting_placed t p k).0.number ≡ k.number
waiting_number t p k =
    chosen (k.failed && not t.retry) k (stays p k) (cond (k.suspect && p.1.taken) (k, (p.0, record p.1 { left = 0 })) (goes t.channel p k)) refl
    (chosen (k.suspect && p.1.taken) k (k, (p.0, record p.1 { left = 0 })) (goes t.channel p k) refl refl)

pub placed_number : (t : Turn) (p : Placing) (k : Kept) → (placed t p k).0.number ≡ k.number
placed_number t p k =
    chosen (p.1.left == 0) k (stays p k) (cond (waits k) (waiting_placed t p k) (k, (p.0, room_taken k p.1))) refl
    (chosen (waits k) k (waiting_placed t p k) (k, (p.0, room_taken k p.1)) (waiting_number t p k) refl)

pub published_numbers : (t : Turn) (o : Opening) (ks : List Kept) → map number_of (published_all t o ks).0 ≡ map number_of ks
published_numbers t o ks = at (o.0 && is_open (state_of t.channel o.1.wire))
  where
    at : (b : Bool) → map number_of (cond {A = List Kept × World} b ((all_placed t o.1 ks).0, (all_placed t o.1 ks).1.0) (ks, o.1)).0 ≡ map number_of ks
    at true = each_numbers (placed t) (placed_number t) (o.1, record { left = t.window; taken = false }) ks
    at false = refl
