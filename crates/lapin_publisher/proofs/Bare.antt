-- An outcome without a message is the result that it stands for.
use Rattle.std.proofs.Common.{◌≡◌, List, ◌++◌, refl, append-nil}
use Rattle.lapin_confirm.specs.Answers.{result_of}
use Rattle.lapin_types.specs.declared.message.BasicReturnMessage.{BasicReturnMessage}
use Rattle.lapin_types.specs.declared.outcome.Outcome.{Outcome}
use Rattle.lapin_types.specs.declared.outcome.Outcome.TheVariants as outcome
use Rattle.lapin_types.specs.declared.record.Record.TheVariants as record_
use Rattle.lapin_keeping.specs.declared.kept.Kept.{Kept}
use Rattle.lapin_keeping.specs.Fates.{of_outcome, of_result}
use Rattle.lapin_publisher.specs.Polls.{came_back}

pub bare_result : (o : Outcome) (k : Kept) → of_result (result_of o) k ≡ of_outcome o k
bare_result outcome.NotRequested k = refl
bare_result outcome.Ack k = refl
bare_result outcome.Nack k = refl
bare_result (outcome.Failed e) k = refl

pub bare_back : (o : Outcome) (back : List BasicReturnMessage) → back ++ came_back (record_.Confirmed (result_of o)) ≡ back
bare_back outcome.NotRequested back = append-nil back
bare_back outcome.Ack back = append-nil back
bare_back outcome.Nack back = append-nil back
bare_back (outcome.Failed e) back = append-nil back
