-- A pointer taken apart, and put together. Assumes `Logic`.
use Rattle.std.proofs.Common.{◌≡◌, List, [], ◌∷◌, ◌++◌, refl, ap, ◌∙◌}
use mir.Val.{Val, vstruct, vcons, vnil, of_list}
use seplogic.Ra.Ura.{Ura}
use types.Logic.{Logic}
use types.Kit.{Item, Goal, Seq, Step, step, ‵, ◌$◌, drop, fsplit, fjoin, fpick, fpack, feq_i, feq_l}
use denote.RattleType.{RattleType, Valss}
use denote.Builtin.{RawPtr}
use denote.RawPtr.{Ptr, ptr_val}
use denote.Steps.{nothing}
use denote.Struct.Struct.{within}
use denote.Struct.Owning.{shape}
use Rattle.lapin_c.specs.contracts.pointer.Pointer as pointer

-- the machine value of a pointer
abbrev pub word : Ptr → Val
word p = vstruct (vcons (ptr_val p) vnil)

abbrev pub Row : RattleType
Row = pointer.the_row

module _ {M : Type 1} {𝓤 : Ura M} {𝓛 : Logic 𝓤} {K : Type 0} {Γ : List (Item 𝓤)} {G : Goal 𝓤 𝓛.H} where
  pub pointer_in : K → (d : Row.Denot) → Step K 𝓛 (‵ (Row.own_val d (word d.at ∷ [])) ∷ Γ) G (‵ (pointer.the_heap d) ∷ Γ) G
  pointer_in t d = step (λ s. let v : Val = word d.at in
      nothing t $ feq_i t (List Val) (ptr_val d.at ∷ []) (ptr_val d.at ∷ []) refl $ fjoin t $ feq_i t (List Val) (v ∷ []) (v ∷ []) refl $ fjoin t $
      fpack t (Valss (RawPtr ∷ [])) (within (shape pointer.the_type) (d.at, tt) (v ∷ [])) (ptr_val d.at ∷ [], tt) $ fjoin t $ s)

  pub pointer_out : K → (d : Row.Denot) (vs : List Val) → (vs ≡ word d.at ∷ [] → Seq K 𝓛 (‵ (pointer.the_heap d) ∷ Γ) G) → Seq K 𝓛 (‵ (Row.own_val d vs) ∷ Γ) G
  pointer_out t d vs k =
      fsplit t $ fpick t (λ vss. fsplit t $ feq_l t (λ ev. fsplit t $ feq_l t (λ ep. drop t $
      k (ev ∙ ap (λ (ps : List Val). vstruct (of_list (ps ++ [])) ∷ []) ep))))
