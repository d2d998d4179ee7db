-- A step: what the code does and reports is what the definition says.
use Rattle.std.proofs.Common.{◌≡◌, ◌∙◌, ℕ, suc, ◌+◌, ◌≤◌, Bool, List, [], ◌∷◌, ◌++◌, length, map, take, drop, false, None, refl, sym, ap, subst, append-nil, add-one, zero-add}
use Rattle.std.proofs.lemmas.List.{map-append, take_all, drop_all}
use Rattle.lapin_joint.specs.declared.step.Step as joined_step
use Rattle.lapin_joint.specs.declared.step.Reported.{Reported}
use Rattle.lapin_joint.specs.Joint as joint
use Rattle.lapin_joint.specs.JoinedRun.{JoinedRun, StandsFor}
use Rattle.lapin_resend.specs.declared.message.Message.{Message}
use Rattle.lapin_resend.specs.declared.message.Submitted.{Submitted}
use Rattle.lapin_resend.specs.declared.publisher.Publisher as code
use Rattle.lapin_resend.specs.declared.step.ResendReport.{ResendReport}
use Rattle.lapin_resend.specs.declared.step.ResendReport.TheVariants as told
use Rattle.lapin_resend.specs.declared.step.ResendStep.{ResendStep}
use Rattle.lapin_resend.specs.declared.step.ResendStep.TheVariants as step_
use Rattle.lapin_resend.specs.Messages.{Standing, submitted, forgotten}
use Rattle.lapin_resend.specs.Publisher.{Publisher, Steps, after_polls, after_opening, after_selecting, after_publishing, tended}
use Rattle.lapin_resend.specs.Resend.{begun, with_step, after_loss, joined_report, report_of, whether_stored}
use Rattle.lapin_resend.specs.Follows.{standing, place}
use Rattle.lapin_resend.specs.Tending.{Follows, GoesTo}
use Rattle.lapin_resend.specs.Keeping.{kept_from, but, FollowsBut, Knows, known_report}
use Rattle.lapin_resend.proofs.Meeting.{last_report}
use Rattle.lapin_resend.proofs.Going.{written_back}
use Rattle.lapin_resend.proofs.Keeping.{first, second, keeps_tending, keeps_loss, places_kept, kept_more, settled_more, status_known}

-- ---- tending

pub tend_goes : (a b c d e : code.Publisher) → GoesTo after_polls a b → GoesTo after_opening b c → GoesTo after_selecting c d → GoesTo after_publishing d e → GoesTo tended a e
tend_goes a b c d e polls opens selects publishes n p h = publishes n _ (selects n _ (opens n _ (polls n p h)))

-- ---- a step of the joined run

-- what Joined says of its step
abbrev pub Longer : joined_step.Step → JoinedRun → JoinedRun → Reported → Type 0
Longer s old new r = (n : ℕ) (made : Steps) → StandsFor n made old → (joint.joined n (made ++ s ∷ []) ≡ joint.joined n made ++ r ∷ []) × StandsFor n (made ++ s ∷ []) new

joined_told : (s : joined_step.Step) (old : code.Publisher) (new : JoinedRun) (r : Reported) → Longer s old.joined new r → (n : ℕ) (p : Publisher) → Follows n p old → told.Joined r ≡ joined_report n s p
joined_told s old new r stands n p h = ap told.Joined (last_report n p.present s r (stands n p.present h.joined).0)

pub joined_tells : (s : joined_step.Step) (old : code.Publisher) (new : JoinedRun) (r : Reported) → Longer s old.joined new r → (n : ℕ) (known : List Bool) (p : Publisher) → Knows n known p old → told.Joined r ≡ joined_report n s p
joined_tells s old new r stands n known p h = joined_told s old new r stands n (but known p) h.follows.follows

pub joined_goes : (s : joined_step.Step) (old new : code.Publisher) (r : Reported) → Longer s old.joined new.joined r → new.joined.stopped ≡ false → new.messages ≡ old.messages → new.selects ≡ old.selects → (n : ℕ) (known : List Bool) (p : Publisher) → FollowsBut n known p old → FollowsBut n known (with_step s p) new
joined_goes s old new r stands running messages selects n known p h = record {
  follows = record {
    joined = (stands n p.present h.follows.joined).1;
    running = running;
    messages = ap (λ ms. map standing ms.items) messages ∙ h.follows.messages;
    selects = selects ∙ h.follows.selects;
  };
  places = ap (λ ms. map place ms.items) messages ∙ h.places;
  settled = h.settled;
}

-- what a step does by itself, where it is known which step it is
pub begun_by : (n : ℕ) (known : List Bool) (s t : ResendStep) (p : Publisher) (c : code.Publisher) → s ≡ t → FollowsBut n known (begun t p) c → FollowsBut n known (begun s p) c
begun_by n known s t p c is h = subst (λ (x : ResendStep). FollowsBut n known (begun x p) c) (sym is) h

-- ---- tending, over what isn't known to be stored

pub tended_but : (n : ℕ) (known : List Bool) (p : Publisher) (old new : code.Publisher) → GoesTo tended old new → map place new.messages.items ≡ map place old.messages.items → FollowsBut n known p old → FollowsBut n known (tended n p) new
tended_but n known p old new goes places h =
    let keeps = keeps_tending n known p h.settled in
    record {
      follows = subst (λ (q : Publisher). Follows n q new) keeps.same (goes n (but known p) h.follows);
      places = places ∙ h.places ∙ sym (places_kept (tended n) known p keeps);
      settled = keeps.settled;
    }

-- ---- a message more, and a question

long_known : (n : ℕ) (known : List Bool) (p : Publisher) (c : code.Publisher) → Knows n known p c → length known ≡ length p.messages
long_known n known p c h = ap length h.known_is ∙ long p.messages
  where
    long : (ss : List Standing) → length (map (λ (s : Standing). s.stored) ss) ≡ length ss
    long [] = refl
    long (s ∷ ss) = ap suc (long ss)

pub submit_tells : (m : Message) (known : List Bool) (old : code.Publisher) (r : ResendReport) → r ≡ told.Message (length known + 1) → (n : ℕ) (p : Publisher) → Knows n known p old → r ≡ report_of n (step_.Submit m) p
submit_tells m known old r is n p h = is ∙ ap told.Message (add-one (length known) ∙ ap suc (long_known n known p old h))

pub submit_goes : (m : Message) (known : List Bool) (old new : code.Publisher) (x : Submitted) → x.place ≡ length known → standing x ≡ submitted m → new.joined ≡ old.joined → new.selects ≡ old.selects → new.messages.items ≡ old.messages.items ++ x ∷ [] → (n : ℕ) (p : Publisher) → Knows n known p old → FollowsBut n known (begun (step_.Submit m) p) new
submit_goes m known old new x at is joined selects messages n p h =
    let before = h.follows in
    let more : kept_from 0 known (p.messages ++ submitted m ∷ []) ≡ kept_from 0 known p.messages ++ (length p.messages, submitted m) ∷ [] =
    kept_more 0 known p.messages (submitted m) before.settled ∙ ap (λ (i : ℕ). kept_from 0 known p.messages ++ (i, submitted m) ∷ []) (zero-add (length p.messages)) in
    record {
      follows = record {
        joined = subst (λ (k : JoinedRun). StandsFor n p.present k) (sym joined) before.follows.joined;
        running = ap (λ (k : JoinedRun). k.stopped) joined ∙ before.follows.running;
        messages =
            ap (map standing) messages
            ∙ map-append standing old.messages.items (x ∷ [])
            ∙ ap (λ (ss : List Standing). ss ++ standing x ∷ []) before.follows.messages
            ∙ ap (λ (s : Standing). second (kept_from 0 known p.messages) ++ s ∷ []) is
            ∙ sym (map-append (λ (e : ℕ × Standing). e.1) (kept_from 0 known p.messages) ((length p.messages, submitted m) ∷ []))
            ∙ ap second (sym more);
        selects = selects ∙ before.follows.selects;
      };
      places =
          ap (map place) messages
          ∙ map-append place old.messages.items (x ∷ [])
          ∙ ap (λ (ps : List ℕ). ps ++ x.place ∷ []) before.places
          ∙ ap (λ (i : ℕ). first (kept_from 0 known p.messages) ++ i ∷ []) (at ∙ long_known n known p old h)
          ∙ sym (map-append (λ (e : ℕ × Standing). e.0) (kept_from 0 known p.messages) ((length p.messages, submitted m) ∷ []))
          ∙ ap first (sym more);
      settled = settled_more known p.messages (submitted m ∷ []) before.settled;
    }

pub status_tells : (k : ℕ) (known : List Bool) (old : code.Publisher) (r : ResendReport) → r ≡ known_report (whether_stored k known) → (n : ℕ) (p : Publisher) → Knows n known p old → r ≡ report_of n (step_.Status k) p
status_tells k known old r is n p h = is ∙ ap (λ (bs : List Bool). known_report (whether_stored k bs)) h.known_is ∙ sym (status_known k p.messages)

-- ---- a loss

forgets : (xs : List Submitted) → map standing (map (λ (s : Submitted). record s { outstanding = None }) xs) ≡ map forgotten (map standing xs)
forgets [] = refl
forgets (x ∷ xs) = ap (λ ys. forgotten (standing x) ∷ ys) (forgets xs)

pub forgot : (xs ys : List Submitted) → ys ≡ map (λ (s : Submitted). record s { outstanding = None }) xs → map standing ys ≡ map forgotten (map standing xs)
forgot xs ys e = ap (map standing) e ∙ forgets xs

pub loss_goes : (n : ℕ) (old new : code.Publisher) → StandsFor n [] new.joined → new.joined.stopped ≡ false → new.selects ≡ false → map standing new.messages.items ≡ map forgotten (map standing old.messages.items) → map place new.messages.items ≡ map place old.messages.items → (known : List Bool) (p : Publisher) → FollowsBut n known p old → FollowsBut n known (after_loss p) new
loss_goes n old new stands running selects messages places known p h =
    let keeps = keeps_loss known p h.settled in
    let all : Follows n (after_loss (but known p)) new = record { joined = stands; running = running; messages = messages ∙ ap (map forgotten) h.follows.messages; selects = selects } in
    record {
      follows = subst (λ (q : Publisher). Follows n q new) keeps.same all;
      places = places ∙ h.places ∙ sym (places_kept after_loss known p keeps);
      settled = keeps.settled;
    }

-- what a loop that forgets wrote back
pub forgot_all : (k i : ℕ) (xs ys : List Submitted) → length xs ≤ length ys → length ys ≤ k → length xs ≤ i → ys ≡ map (λ (s : Submitted). record s { outstanding = None }) (take i xs) ++ drop i xs → map standing (take k (ys ++ drop (length ys) xs)) ≡ map forgotten (map standing xs)
forgot_all k i xs ys le within done is =
    let f : Submitted → Submitted = λ (s : Submitted). record s { outstanding = None } in
    let all : ys ≡ map f xs = is ∙ ap (λ (zs : List Submitted). map f (take i xs) ++ zs) (drop_all i xs done) ∙ append-nil (map f (take i xs)) ∙ ap (map f) (take_all i xs done) in
    forgot xs (take k (ys ++ drop (length ys) xs)) (written_back k xs ys le within ∙ all)

-- the places stay in it
pub forgot_places : (k i : ℕ) (xs ys : List Submitted) → length xs ≤ length ys → length ys ≤ k → length xs ≤ i → ys ≡ map (λ (s : Submitted). record s { outstanding = None }) (take i xs) ++ drop i xs → map place (take k (ys ++ drop (length ys) xs)) ≡ map place xs
forgot_places k i xs ys le within done is =
    let f : Submitted → Submitted = λ (s : Submitted). record s { outstanding = None } in
    let all : ys ≡ map f xs = is ∙ ap (λ (zs : List Submitted). map f (take i xs) ++ zs) (drop_all i xs done) ∙ append-nil (map f (take i xs)) ∙ ap (map f) (take_all i xs done) in
    ap (map place) (written_back k xs ys le within ∙ all) ∙ same xs
  where
    same : (zs : List Submitted) → map place (map (λ (s : Submitted). record s { outstanding = None }) zs) ≡ map place zs
    same [] = refl
    same (z ∷ zs) = ap (λ (ps : List ℕ). z.place ∷ ps) (same zs)
