-- The requests that wait.
use Rattle.std.specs.Prelude.{ℕ, Bool, List, []}
use Rattle.lapin_broker.specs.declared.request.RequestKind.{RequestKind}
use Rattle.lapin_broker.specs.declared.request.Echo.{Echo}
use Rattle.lapin_broker.specs.declared.request.Echo.TheVariants as echo
use Rattle.lapin_broker.specs.contracts.request.RequestKindPartialEq.TheImpl as it

-- the two kinds are the same
abbrev pub same_kind : RequestKind → RequestKind → Bool
same_kind a b = it.ghosts.eq a b

-- the name that was asked for, empty where none was
abbrev pub echo_name : Echo → List ℕ
echo_name (echo.Name name) = name
echo_name _ = []
