-- One step more at the end of a list of steps, and how many joined steps that makes at most.
use Rattle.std.proofs.Common.{◌≡◌, ◌∙◌, ℕ, suc, ◌+◌, ◌≤◌, Bool, List, [], ◌∷◌, ◌++◌, length, true, false, not, cond, map, refl, sym, ap, subst, arith, length-append, slice_set}
use Rattle.std.specs.List.{filter}
use Rattle.std.proofs.Math.ListN.{length-set}
use Rattle.lapin_resend.specs.declared.step.ResendStep.{ResendStep}
use Rattle.lapin_resend.specs.declared.step.ResendReport.{ResendReport}
use Rattle.lapin_resend.specs.declared.message.Submitted.{Submitted}
use Rattle.lapin_resend.specs.declared.publisher.Publisher as code
use Rattle.lapin_resend.specs.declared.step.ResendStep.TheVariants as step
use Rattle.lapin_joint.specs.JoinedRun.{JoinedRun, StandsFor}
use Rattle.lapin_resend.specs.Messages.{Standing, submitted, forgotten}
use Rattle.lapin_resend.specs.Publisher.{Publisher, tended}
use Rattle.lapin_resend.specs.Follows.{entry_of, is_kept}
use Rattle.lapin_resend.specs.Keeping.{kept_from, AreSettled, FollowsBut, Knows, noted, with_new, is_submit}
use Rattle.lapin_resend.specs.Resend.{begun, report_of, after_step, no_publisher, new_publisher, publisher_from, publisher_after, reports_from, resend}
use Rattle.lapin_resend.specs.Sending.{Sending, StandsForSteps}
use Rattle.lapin_resend.proofs.Quiet.{AreQuiet, all_quiet, quiet_settled}
use Rattle.lapin_resend.proofs.Keeping.{keeps_tending, kept_known, noted_all, not_stored, kept_after, entries_kept, entries_are, entry_parts}

pub from-push : (n : ℕ) (ss : List ResendStep) (s : ResendStep) (p : Publisher) → publisher_from n (ss ++ s ∷ []) p ≡ after_step n s (publisher_from n ss p)
from-push n [] s p = refl
from-push n (t ∷ ss) s p = from-push n ss s (after_step n t p)

pub reports-push : (n : ℕ) (ss : List ResendStep) (s : ResendStep) (p : Publisher) → reports_from n (ss ++ s ∷ []) p ≡ reports_from n ss p ++ report_of n s (publisher_from n ss p) ∷ []
reports-push n [] s p = refl
reports-push n (t ∷ ss) s p = ap (λ (rs : List ResendReport). report_of n t p ∷ rs) (reports-push n ss s (after_step n t p))

-- ---- how many messages there are

tended_long : (n : ℕ) (p : Publisher) → length (tended n p).messages ≡ length p.messages
tended_long n p = (keeps_tending n [] p tt).long

begun_long : (s : ResendStep) (p : Publisher) → length (begun s p).messages ≡ cond (is_submit s) (length p.messages + 1) (length p.messages)
begun_long (step.Submit m) p = length-append p.messages (submitted m ∷ [])
begun_long step.Lose p = mapped p.messages
  where
    mapped : (ss : List Standing) → length (map forgotten ss) ≡ length ss
    mapped [] = refl
    mapped (s ∷ ss) = ap suc (mapped ss)
begun_long step.Next p = refl
begun_long step.Read p = refl
begun_long (step.Send f) p = refl
begun_long step.Deliver p = refl
begun_long (step.Status k) p = refl

-- of no message nothing is known
pub none_known : (n : ℕ) → [] ≡ map (λ (t : Standing). t.stored) (new_publisher n).messages
none_known n = nothing (new_publisher n).messages (tended_long n no_publisher)
  where
    nothing : (ss : List Standing) → length ss ≡ 0 → [] ≡ map (λ (t : Standing). t.stored) ss
    nothing [] e = refl
    nothing (s ∷ ss) e = absurd (omega (arith, e))

pub known_first : (n : ℕ) (c : code.Publisher) (known : List Bool) → known ≡ [] → FollowsBut n [] (new_publisher n) c → FollowsBut n known (new_publisher n) c
known_first n c known none h = subst (λ (bs : List Bool). FollowsBut n bs (new_publisher n) c) (sym none) h

-- ---- what was stored is noted

-- what is known as the step ends covers each message
known_covers : (b : Bool) (known : List Bool) (ss : List Standing) → AreSettled known ss → length ss ≡ cond b (length known + 1) (length known) → (kept_from 0 (with_new b known) ss ≡ kept_from 0 known ss) × AreSettled (with_new b known) ss × (length (with_new b known) ≡ length ss)
known_covers true known ss settled long = let more = kept_known 0 known ss settled long in (more.0, more.1, length-append known (false ∷ []) ∙ sym long)
known_covers false known ss settled long = (refl, settled, sym long)

-- the publisher of a step, and what it noted
pub noted_follows : (n : ℕ) (b : Bool) (known new_known : List Bool) (p : Publisher) (mid new : code.Publisher) → FollowsBut n known p mid → length p.messages ≡ cond b (length known + 1) (length known) → AreQuiet p.messages → new_known ≡ noted (map entry_of mid.messages.items) (with_new b known) → new.joined ≡ mid.joined → new.selects ≡ mid.selects → new.messages.items ≡ filter is_kept mid.messages.items → (new_known ≡ map (λ (t : Standing). t.stored) p.messages) × FollowsBut n new_known p new
noted_follows n b known new_known p mid new h long quiet noted_is joined selects messages =
    let ss : List Standing = p.messages in
    let covers = known_covers b known ss h.settled long in
    let entries : map entry_of mid.messages.items ≡ kept_from 0 known ss = entries_are mid.messages.items (kept_from 0 known ss) h.places h.follows.messages in
    let known_is : new_known ≡ map (λ (t : Standing). t.stored) ss =
    noted_is ∙ ap (λ (es : List (ℕ × Standing)). noted es (with_new b known)) (entries ∙ sym covers.0) ∙ noted_all (with_new b known) ss covers.1 covers.2 in
    let left : map entry_of new.messages.items ≡ kept_from 0 new_known ss =
    ap (map entry_of) messages
    ∙ entries_kept mid.messages.items
    ∙ ap (filter not_stored) (entries ∙ sym covers.0)
    ∙ kept_after (with_new b known) ss covers.1 covers.2
    ∙ ap (λ (bs : List Bool). kept_from 0 bs ss) (sym known_is) in
    let parts = entry_parts new.messages.items (kept_from 0 new_known ss) left in (
      known_is,
      record {
        follows = record {
          joined = subst (λ (k : JoinedRun). StandsFor n p.present k) (sym joined) h.follows.joined;
          running = ap (λ (k : JoinedRun). k.stopped) joined ∙ h.follows.running;
          messages = parts.1;
          selects = selects ∙ h.follows.selects;
        };
        places = parts.0;
        settled = subst (λ (bs : List Bool). AreSettled bs ss) (sym known_is) (quiet_settled ss quiet);
      },
    )

-- ---- a step

-- a step was made and reported as the definition says
pub stands_longer : (n : ℕ) (ss : List ResendStep) (s : ResendStep) (r : ResendReport) (b : Bool) (old new : Sending) (mid : code.Publisher) → b ≡ is_submit s → old.stopped ≡ false → new.frame_max ≡ old.frame_max → new.steps ≡ old.steps + 1 →
    new.known ≡ noted (map entry_of mid.messages.items) (with_new b old.known) → new.publisher.joined ≡ mid.joined → new.publisher.selects ≡ mid.selects → new.publisher.messages.items ≡ filter is_kept mid.messages.items →
    ((p : Publisher) → Knows old.frame_max old.known p old.publisher → r ≡ report_of old.frame_max s p) → ((p : Publisher) → Knows old.frame_max old.known p old.publisher → FollowsBut old.frame_max old.known (after_step old.frame_max s p) mid) →
    StandsForSteps n ss old → (resend n (ss ++ s ∷ []) ≡ resend n ss ++ r ∷ []) × StandsForSteps n (ss ++ s ∷ []) new
stands_longer n ss s r b old new mid b_is running max count noted_is joined selects messages told goes h =
    let p : Publisher = publisher_after n ss in
    let q : Publisher = publisher_after n (ss ++ s ∷ []) in
    let next : q ≡ after_step n s p = from-push n ss s (new_publisher n) in
    let here : Knows n old.known p old.publisher = record { follows = h.follows running; known_is = h.known } in
    let same_told : (x : Publisher) → Knows n old.known x old.publisher → r ≡ report_of n s x = subst (λ (m : ℕ). (x : Publisher) → Knows m old.known x old.publisher → r ≡ report_of m s x) h.max told in
    let same_goes : (x : Publisher) → Knows n old.known x old.publisher → FollowsBut n old.known (after_step n s x) mid = subst (λ (m : ℕ). (x : Publisher) → Knows m old.known x old.publisher → FollowsBut m old.known (after_step m s x) mid) h.max goes in
    let then_so : FollowsBut n old.known q mid = subst (λ (x : Publisher). FollowsBut n old.known x mid) (sym next) (same_goes p here) in
    let known_long : length old.known ≡ length p.messages = ap length h.known ∙ mapped p.messages in
    let q_long : length q.messages ≡ cond b (length old.known + 1) (length old.known) =
    ap (λ (x : Publisher). length x.messages) next
    ∙ tended_long n (begun s p)
    ∙ begun_long s p
    ∙ ap (λ (l : ℕ). cond (is_submit s) (l + 1) l) (sym known_long)
    ∙ ap (λ (c : Bool). cond c (length old.known + 1) (length old.known)) (sym b_is) in
    let all = noted_follows n b old.known new.known q mid new.publisher then_so q_long (all_quiet n (ss ++ s ∷ [])) noted_is joined selects messages in
    let long : length (ss ++ s ∷ []) ≡ length ss + length (s ∷ []) = length-append ss (s ∷ []) in (
      reports-push n ss s (new_publisher n) ∙ ap (λ (x : ResendReport). resend n ss ++ x ∷ []) (sym (same_told p here)),
      record {
        max = max ∙ h.max;
        count = omega (arith, count, h.count, long);
        known = all.0;
        follows = λ _. all.1;
      },
    )
  where
    mapped : (ts : List Standing) → length (map (λ (t : Standing). t.stored) ts) ≡ length ts
    mapped [] = refl
    mapped (t ∷ ts) = ap suc (mapped ts)

-- ---- how many messages are kept

pub filter_short : (xs : List Submitted) → length (filter is_kept xs) ≤ length xs
filter_short [] = omega arith
filter_short (x ∷ xs) = at x.stored (filter_short xs)
  where
    at : (b : Bool) → length (filter is_kept xs) ≤ length xs → length (cond (not b) (x ∷ filter is_kept xs) (filter is_kept xs)) ≤ length (x ∷ xs)
    at true rest = omega arith
    at false rest = omega arith

pub noted_long : (es : List (ℕ × Standing)) (known : List Bool) → length (noted es known) ≡ length known
noted_long [] known = refl
noted_long (e ∷ es) known = noted_long es (slice_set known e.0 e.1.stored) ∙ length-set known e.0 e.1.stored

pub new_long : (b : Bool) (known : List Bool) → length (with_new b known) ≤ length known + 1
new_long true known = omega (arith, length-append known (false ∷ []))
new_long false known = omega arith
