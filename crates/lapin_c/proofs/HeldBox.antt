-- The box that a pointer holds, and what a call passes for its type and its allocator. Assumes `Logic`.
use Rattle.std.proofs.Common.{[], ◌∷◌}
use mir.Syntax.{Dict, impl, tnil, tcons, dnil}
use denote.RattleType.{RattleType}
use mir.Raw.{raw as bare}
use mathlib.Core.Path.{refl}
use denote.Exit.{no}
use denote.Param.{layout, arg}
use denote.Param.Laws.{arg_laws}
use Rattle.std_heap.specs.contracts.Global as heap
use Rattle.std_heap.proofs.Global.TheLaws as heap_laws
use Rattle.std_heap.specs.contracts.GlobalAllocator.TheImpl as heap_impl
use Rattle.lapin_client.specs.contracts.client.Client as client
use Rattle.lapin_client.proofs.client.Client.TheLaws as client_laws
use Rattle.std_alloc.proofs.BoxSteps.Form as box
use Rattle.std_alloc.specs.contracts.boxed.Box as box_type

abbrev pub X : RattleType
X = arg (bare (layout client.the_row)) no client.the_row

abbrev pub Z : RattleType
Z = arg (bare (layout heap.the_row)) no heap.the_row

abbrev pub drops_handle : Dict
drops_handle = impl ("lapin_c::Destruct++none::drop" ∷ []) (tcons (layout Z) tnil) dnil

abbrev pub drops_client : Dict
drops_client = impl ("lapin_c::lapin_client++client++Client+Destruct::drop" ∷ []) tnil dnil

abbrev pub E : box.Bx
E = record { row = X; laws = arg_laws (bare (layout client.the_row)) no client.the_row client_laws.the_row_laws refl; al = record { row = Z; laws = arg_laws (bare (layout heap.the_row)) no heap.the_row heap_laws.the_row_laws refl; g = heap_impl.ghosts; d = heap_impl.dict; drops = drops_handle } }

-- the box itself
abbrev pub Boxed : RattleType
Boxed = box_type.the_row client.the_row heap.the_row heap_impl.ghosts
