-- `confirm.select` (RabbitMQ publisher confirms): the call asks for confirms, with or without wait; an opening is selected from the
-- moment the method's first frame leaves.
use Rattle.std.specs.Prelude.{ℕ, Bool, true, false, if◌then◌else◌, List, [], ◌∷◌}
use Rattle.lapin_types.specs.Types.{Method}
use Rattle.lapin_types.specs.Types.method
use Rattle.lapin_types.specs.Types.confirm
use Rattle.lapin_rules.specs.ConfirmMarks.{ConfirmMark}
use Rattle.lapin_rules.specs.ConfirmMarks as mark

-- the method is `confirm.select`, with or without wait
abbrev pub is_select : Method → Bool
is_select (method.Confirm (confirm.Select nowait)) = true
is_select _ = false

-- a call that queues this method is accepted
abbrev pub queued_marks : ℕ → Method → List ConfirmMark
queued_marks c m = if is_select m then mark.SelectCalled c ∷ [] else []

-- the method leaves
abbrev pub method_marks : ℕ → Method → List ConfirmMark
method_marks c m = if is_select m then mark.SelectLeft c ∷ [] else []
