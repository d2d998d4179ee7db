-- All that holds of a session and an honest broker, from the laws of its parts.
use Rattle.std.proofs.Common.{◌≡◌, ◌∙◌, ℕ, ◌≤◌, ◌==◌, Bool, true, false, cond, List, [], ◌∷◌, Option, Some, None, Ok, refl, sym, ap, arith}
use Rattle.std.specs.Option.{option_or}
use Rattle.lapin_rules.specs.ConfirmMarks.{ConfirmMark}
use Rattle.lapin_rules.specs.ConfirmMarks as mark
use Rattle.lapin_rules.specs.ConfirmReadings.{channel_of, tag_of, has_left, outcome_at, outcome_after, first_rejected, rejection_on, kind_outcome, life, leaves}
use Rattle.lapin_types.specs.declared.outcome.Outcome.{Outcome}
use Rattle.lapin_types.specs.declared.outcome.Outcome.TheVariants as outcome
use Rattle.lapin_rules.specs.declared.marks.SettleKind.{SettleKind}
use Rattle.lapin_rules.specs.declared.marks.SettleKind.TheVariants as settle
use Rattle.lapin_rules.specs.Words.{after}
use Rattle.lapin_joint.specs.declared.step.Step.{Step}
use Rattle.lapin_concord.proofs.Laws.{whole_broker, none_refused, tags_in}
use Rattle.lapin_verdicts.specs.Session.{Numbers, past_of}
use Rattle.lapin_verdicts.proofs.Numbered.{numbers_hold}
use Rattle.lapin_verdicts.proofs.Together.{in_step}
use Rattle.lapin_verdicts.proofs.Whole.{whole, delivered}
use Rattle.lapin_verdicts.proofs.Called.{leaves_where_called}
use Rattle.lapin_messages.proofs.Laws.{logs_sent, logs_carried}
use Rattle.lapin_answers.specs.Truth.{ConfirmsAreVerdicts, IsTrue}
use Rattle.lapin_answers.proofs.Awaited.{awaited}
use Rattle.lapin_answers.proofs.Closed.{closed}
use Rattle.lapin_answers.proofs.Ended.{ended}
use Rattle.lapin_answers.proofs.Replying.{replied}
use Rattle.lapin_answers.proofs.GetAnswer.{got_message_is}
use Rattle.lapin_answers.proofs.OpenOks.{opened}
use Rattle.lapin_answers.proofs.Causes.{resolved}
use Rattle.lapin_answers.proofs.OneCause.{unwaited, closes_by_ok, ends_by_ok}
use Rattle.lapin_answers.proofs.Told.{answers_own}

-- ---- a publish that was settled has left

abbrev is_failed : Option Outcome → Bool
is_failed (Some outcome.Ack) = false
is_failed (Some outcome.Nack) = false
is_failed _ = true

one_failed : (c : ℕ) (m : ConfirmMark) → is_failed (rejection_on c m) ≡ true
one_failed c (mark.ClosedHere d e) = elim (c == d) as (λ v. is_failed (cond v (Some (outcome.Failed e)) None) ≡ true) [ true ↦ refl | false ↦ refl ]
one_failed c (mark.Ended d e) = elim (c == d) as (λ v. is_failed (cond v (Some (outcome.Failed e)) None) ≡ true) [ true ↦ refl | false ↦ refl ]
one_failed c _ = refl

or_failed : (a b : Option Outcome) → is_failed a ≡ true → is_failed b ≡ true → is_failed (option_or a b) ≡ true
or_failed None b h k = k
or_failed (Some o) b h k = h

all_failed : (c : ℕ) (ms : List ConfirmMark) → is_failed (first_rejected c ms) ≡ true
all_failed c [] = refl
all_failed c (m ∷ ms) = or_failed (rejection_on c m) (first_rejected c ms) (one_failed c m) (all_failed c ms)

kind_fine : (kind : SettleKind) → is_failed (Some (kind_outcome kind)) ≡ false
kind_fine settle.Ack = refl
kind_fine settle.Nack = refl

settled_left : (k : ℕ) (kind : SettleKind) (ms : List ConfirmMark) → outcome_at k ms ≡ Some (kind_outcome kind) → has_left k ms ≡ true
settled_left k kind ms h = by (has_left k ms) refl h
  where
    by : (v : Bool) → has_left k ms ≡ v → cond v (outcome_after (channel_of k ms) (tag_of k ms) (after (leaves k) ms)) (first_rejected (channel_of k ms) (life k ms)) ≡ Some (kind_outcome kind) → v ≡ true
    by true e g = refl
    by false e g = let w : true ≡ false = sym (all_failed (channel_of k ms) (life k ms)) ∙ (ap is_failed g ∙ kind_fine kind) in absurd cc

-- ---- all of it

numbers : (n : ℕ) → 4096 ≤ n → Numbers n
numbers n big = numbers_hold n (omega (arith, big))

confirms : (n : ℕ) → 4096 ≤ n → (ss : List Step) → ConfirmsAreVerdicts n ss
confirms n big ss k t kind tag is =
    let ms : List ConfirmMark = (past_of n ss).confirms in
    let v = whole n (numbers n big) (in_step n big) (channel_of k ms) k t kind ss refl tag is in
    (v.0, v.1, v.2, leaves_where_called n (omega (arith, big)) k ss (settled_left k kind ms is))

pub all_true : (n : ℕ) → 4096 ≤ n → (ss : List Step) → IsTrue n ss
all_true n big ss = record {
  unrefused = none_refused n ss big;
  unbroken = whole_broker n ss big;
  verdicts = confirms n big ss;
  delivered = delivered n (numbers n big) (in_step n big) ss;
  apart = λ k l t. tags_in n ss k l t;
  replies = λ k a f fs down r was now. replied n big k ss f fs (Ok a) down r was now;
  gets = λ k message was now. got_message_is n big k ss message was now;
  opens = λ k a f fs down ok was now. opened n big ss k a f fs down ok was now;
  closes = λ k a f fs down ok was now. closed n big ss k a f fs down ok was now;
  end = λ k a f fs down ok was now. ended n big ss k a f fs down ok was now;
  causes = λ k a f fs down was now. resolved n big k a ss f fs down was now;
  unwaited = unwaited n big ss;
  awaited = awaited n ss;
  closes_by_ok = closes_by_ok n big ss;
  end_by_ok = ends_by_ok n big ss;
  answers = answers_own n big ss;
  logs = logs_sent n big ss;
  carried = logs_carried n big ss;
}
