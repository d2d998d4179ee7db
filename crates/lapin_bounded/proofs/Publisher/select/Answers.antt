use Rattle.lapin_bounded.proofs.Publisher.select.Goals as goal

pub make-requires : goal.make-requires
make-requires c = record { careful = λ _ _. c.in_ok-limited.ensures.may }
