-- What left a side is what came to the other, followed by what is on the way.
use Rattle.std.proofs.Common.{◌≡◌, ◌∙◌, ℕ, Bool, true, false, cond, List, [], ◌∷◌, ◌++◌, refl, sym, ap, append_assoc, append-nil}
use Rattle.lapin_types.specs.declared.leaving.Left.{Left}
use Rattle.lapin_types.specs.Types.{Frame}
use Rattle.lapin_broker.specs.Sends.{may}
use Rattle.lapin_joint.specs.declared.step.Step.{Step}
use Rattle.lapin_joint.specs.declared.step.Step.TheVariants as step
use Rattle.lapin_joint.specs.Joint.{Joint, new_joint, client, send_down, is_lawful, handed_by, read_first, deliver_first, after, run, joined_to}
use Rattle.lapin_machine.specs.Way.{Way, by_history}
use Rattle.lapin_joint.specs.Order.{is_no_loss, nothing_lost, front, handed_in, read_in, sent_in, delivered_in, along, along_joined}
use Rattle.std.proofs.lemmas.Bool.{and_parts}

-- of what was on the way and what joins it, the first come and the rest is then on the way: so it is with all steps
moved : {A : Type 0} (way joins comes then more behind last : List A) → way ++ joins ≡ comes ++ then → then ++ more ≡ behind ++ last → way ++ (joins ++ more) ≡ (comes ++ behind) ++ last
moved way joins comes then more behind last one rest =
    sym (append_assoc way joins more) ∙ ap (λ xs. xs ++ more) one ∙ append_assoc comes then more ∙ ap (λ xs. comes ++ xs) rest ∙ sym (append_assoc comes behind last)

-- ---- up

same_up : {S : Type 0} (b : Bool) (j k : Joint S) → k.up ≡ j.up → j.up ++ [] ≡ (cond b k j).up
same_up true j k e = append-nil j.up ∙ sym e
same_up false j k e = append-nil j.up

client_up : {S : Type 0} (m : Way S) (b : Bool) (j k : Joint S) (ls : List Left) → k.up ≡ j.up ++ ls → j.up ++ cond b ls [] ≡ (cond b k j).up
client_up m true j k ls e = sym e
client_up m false j k ls e = append-nil j.up

read_up : {S : Type 0} (ls : List Left) (j : Joint S) → j.up ≡ ls → ls ++ [] ≡ front ls ++ (read_first ls j).up
read_up [] j e = sym e
read_up (l ∷ ls) j e = ap (λ xs. l ∷ xs) (append-nil ls)

deliver_up : {S : Type 0} (m : Way S) (fs : List Frame) (j : Joint S) → j.up ++ [] ≡ (deliver_first m fs j).up
deliver_up m [] j = append-nil j.up
deliver_up m (f ∷ fs) j = append-nil j.up

up_step : {S : Type 0} (m : Way S) (s : Step) (j : Joint S) → is_no_loss s ≡ true → j.up ++ handed_in m s j ≡ read_in s j ++ (after m s j).up
up_step m (step.Client e) j h = client_up m (is_lawful e) j (client m e j) (handed_by m e j.session) refl
up_step m step.Read j h = read_up j.up j refl
up_step m (step.Send f) j h = same_up (may j.broker f) j (send_down f j) refl
up_step m step.Deliver j h = deliver_up m j.down j
up_step m step.Lose j h = absurd cc

up_all : {S : Type 0} (m : Way S) (ss : List Step) (j : Joint S) → nothing_lost ss ≡ true → j.up ++ along m (handed_in m) ss j ≡ along m read_in ss j ++ (run m ss j).up
up_all m [] j h = append-nil j.up
up_all m (s ∷ ss) j h =
    let both = and_parts (is_no_loss s) (nothing_lost ss) h in
    moved j.up (handed_in m s j) (read_in s j) (after m s j).up _ _ _ (up_step m s j both.0) (up_all m ss (after m s j) both.1)

pub up_ordered : (n : ℕ) (steps : List Step) → nothing_lost steps ≡ true → along_joined n (handed_in (by_history n)) steps ≡ along_joined n read_in steps ++ (joined_to n steps).up
up_ordered n steps h = up_all (by_history n) steps (new_joint [] n) h

-- ---- down

send_to : {S : Type 0} (b : Bool) (j k : Joint S) (fs : List Frame) → k.down ≡ j.down ++ fs → j.down ++ cond b fs [] ≡ (cond b k j).down
send_to true j k fs e = sym e
send_to false j k fs e = append-nil j.down

same_down : {S : Type 0} (b : Bool) (j k : Joint S) → k.down ≡ j.down → j.down ++ [] ≡ (cond b k j).down
same_down true j k e = append-nil j.down ∙ sym e
same_down false j k e = append-nil j.down

read_down : {S : Type 0} (ls : List Left) (j : Joint S) → j.down ++ [] ≡ (read_first ls j).down
read_down [] j = append-nil j.down
read_down (l ∷ ls) j = append-nil j.down

deliver_down : {S : Type 0} (m : Way S) (fs : List Frame) (j : Joint S) → j.down ≡ fs → fs ++ [] ≡ front fs ++ (deliver_first m fs j).down
deliver_down m [] j e = sym e
deliver_down m (f ∷ fs) j e = ap (λ xs. f ∷ xs) (append-nil fs)

down_step : {S : Type 0} (m : Way S) (s : Step) (j : Joint S) → is_no_loss s ≡ true → j.down ++ sent_in s j ≡ delivered_in s j ++ (after m s j).down
down_step m (step.Client e) j h = same_down (is_lawful e) j (client m e j) refl
down_step m step.Read j h = read_down j.up j
down_step m (step.Send f) j h = send_to (may j.broker f) j (send_down f j) (f ∷ []) refl
down_step m step.Deliver j h = deliver_down m j.down j refl
down_step m step.Lose j h = absurd cc

down_all : {S : Type 0} (m : Way S) (ss : List Step) (j : Joint S) → nothing_lost ss ≡ true → j.down ++ along m sent_in ss j ≡ along m delivered_in ss j ++ (run m ss j).down
down_all m [] j h = append-nil j.down
down_all m (s ∷ ss) j h =
    let both = and_parts (is_no_loss s) (nothing_lost ss) h in
    moved j.down (sent_in s j) (delivered_in s j) (after m s j).down _ _ _ (down_step m s j both.0) (down_all m ss (after m s j) both.1)

pub down_ordered : (n : ℕ) (steps : List Step) → nothing_lost steps ≡ true → along_joined n sent_in steps ≡ along_joined n delivered_in steps ++ (joined_to n steps).down
down_ordered n steps h = down_all (by_history n) steps (new_joint [] n) h
