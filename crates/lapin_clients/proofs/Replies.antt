-- An answer that a client tells, as the history of the joined run shows it.
use Rattle.std.proofs.Common.{◌≡◌, ℕ, ◌+◌, ◌≤◌, Bool, true, false, List, Option, Some, None, Result, Ok, refl, sym, ap, ◌∙◌, arith}
use Rattle.lapin_types.specs.declared.answer.Answer.{Answer}
use Rattle.lapin_types.specs.declared.event.Event.TheVariants as event
use Rattle.lapin_types.specs.declared.record.Record.TheVariants as record_
use Rattle.lapin_types.specs.Types.{Error}
use Rattle.lapin_types.specs.Types.error
use Rattle.lapin_rules.specs.History.{polled_answer, ticket_poll, was_given}
use Rattle.lapin_rules.specs.TicketReadings.{TicketMark, answer_of, is_collected}
use Rattle.lapin_joint.specs.declared.step.Step.{Step}
use Rattle.lapin_machine.specs.World.{told_by}
use Rattle.lapin_answers.specs.Truth.{IsTrue}
use Rattle.lapin_verdicts.specs.Session.{past_of}
use Rattle.lapin_clients.specs.Nets.{Act}
use Rattle.lapin_clients.specs.Truth.{AnswersAreReplies}
use Rattle.lapin_clients.proofs.Published.{run_is}
use Rattle.lapin_clients.proofs.Told.{told_is}

-- ---- what a poll told

polled_is : (o : Option (Result Answer Error)) (a : Answer) → polled_answer o ≡ record_.Answer (Ok a) → o ≡ Some (Ok a)
polled_is None a h = absurd cc
polled_is (Some y) a h = let e : y ≡ Ok a = cc in ap Some e

told_answer : (ms : List TicketMark) (n : ℕ) (a : Answer) → ticket_poll ms n ≡ record_.Answer (Ok a) → answer_of n ms ≡ Some (Ok a)
told_answer ms n a h = at (was_given n ms) (is_collected n ms) refl refl
  where
    at : (given collected : Bool) → was_given n ms ≡ given → is_collected n ms ≡ collected → answer_of n ms ≡ Some (Ok a)
    at true false given collected = let now : polled_answer (answer_of n ms) ≡ record_.Answer (Ok a) = rw (given, collected) at h in polled_is (answer_of n ms) a now
    at true true given collected = let never : record_.Refused error.AlreadyTaken ≡ record_.Answer (Ok a) = rw (given, collected) at h in absurd cc
    at false c given collected = let never : record_.Refused error.UnknownTicket ≡ record_.Answer (Ok a) = rw given at h in absurd cc

-- ---- what the client told

module _ (n : ℕ) (is_law : 4096 ≤ n → (ss : List Step) → IsTrue n ss) (acts : List Act) where
  pub replies_told : AnswersAreReplies n acts
  replies_told x y z ticket fields octets new leads does =
      let count : z.client.left + 1 ≡ y.client.left = does.0.1 in
      let g = run_is n acts x y new leads (omega (arith, count)) in
      let ss : List Step = g.0 in
      let a : Answer = does.0.0.0.0 in
      let polled : ticket_poll (past_of n ss).tickets ticket ≡ record_.Answer (Ok a) = sym (told_is n ss (event.PollTicket ticket)) ∙ (ap (λ w. told_by w (event.PollTicket ticket)) (sym g.1.joined.session) ∙ does.0.0.0.1) in
      let is_true : IsTrue n ss = is_law new.large ss in (
        ss,
        record { run = g.1; is_true = is_true },
        record {
          answer = a;
          fields_are = does.0.0.0.2;
          octets_are = does.0.2 ∙ does.0.0.0.3;
          given = is_true.answers ticket a (told_answer (past_of n ss).tickets ticket a polled);
        },
      )
