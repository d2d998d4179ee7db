-- `into_client` makes the box again. Assumes `Logic`.
use Rattle.std.proofs.Common.{◌≡◌, List, [], ◌∷◌, ◌++◌, refl, sym, ap, ◌∙◌, subst, T, arith}
use Rattle.std.specs.Prelude.{Option, Some, None, IsSome}
use Rattle.lapin_client.specs.declared.client.Client.{Client}
use mir.Raw.{raw as bare}
use mir.Val.{Val, vptr, has_ty, WT}
use base.Logic.{SProp, ent, emp, never, id⊢, fst∗}
use base.Fml.{Lft, ftrue, flft}
use base.Fraction.{full_share}
use contract.BorrowLft.{◌⊑◌, ⊑_static}
use prog.Wp.{WpFn}
use types.Logic.{sem}
use types.Kit.{‵, raw, ◌⊛◌, some, later, at_ret, ◌$◌, ◌∵◌, !, qed, by, move, keep, drop, split, split3, join, fsplit3, fjoin, pick, suffices, use0, use1, await, rewrite, feq_i}
use types.Run.{stop, fld, of_opd, no_more, and_then, first, blocks, exec, returns, enter}
use types.ByLocal.{alloc_all, pass_all, free_all, look_at, get, get_in, sets, lands_last, is as is_at, env}
use types.Part.{sub, whole}
use types.Tokens.{lft_new}
use contract.Monad.{fact, fact_i}
use contract.Running.{tables}
use denote.Exit.{yes}
use denote.RattleType.{RattleType, owns}
use denote.Signature.{types_at, plain}
use denote.RawPtr.{Ptr, block_ptr, null_ptr, in_a_block}
use denote.Param.{layout}
use denote.Param.NoDrop
use denote.Steps.{nothing, only, heard}
use denote.Triple.Spec.{triple_of}
use denote.Triple.Call.{calls_at_last}
use denote.Triple.Clauses.{Lasts, lasts}
use denote.Triple.Table.{framed}
use denote.Triple.Walked.{Stays, stay_dropped, walk_of, Goes-dropped}
use Rattle.std.proofs.alloc.Calls.{handle_tells}
use Rattle.std.proofs.alloc.Shapes.{after}
use Rattle.std_alloc.specs.Box.Ownership.{box_owns}
use Rattle.std_alloc.proofs.BoxSteps.Form as box
use Rattle.std_alloc.proofs.BoxSteps.Steps.{box_out, box_in}
use Rattle.std_heap.proofs.GlobalAllocator.TheImpl.Met as heap_met
use Rattle.std.proofs.raw_atomic.Walks.{proved_at, leaves}
use Rattle.lapin_c.specs.Held.{held_owns}
use Rattle.lapin_c.proofs.PointerSteps.{Row, word, pointer_out}
use Rattle.lapin_c.proofs.HeldBox.{X, Z, E, drops_handle}
use Rattle.std_heap.specs.contracts.Global as heap
use Rattle.std_heap.specs.contracts.GlobalAllocator.TheImpl as heap_impl
use Rattle.std_alloc.specs.contracts.boxed.Box.from_raw as callee
use Rattle.std_alloc.proofs.boxed.Box.from_raw.Met.{met}
use Rattle.lapin_c.specs.contracts.pointer.Pointer.into_client.{ended, clauses}
use Rattle.lapin_c.specs.contracts.pointer.Pointer.into_client.Key.{name as #self}
use Rattle.lapin_c.proofs.pointer.Pointer.into_client.Statement.{statement}
use Rattle.lapin_c.proofs.pointer.Pointer.into_client.Code as code

held_some : {A : Type 0} (h : Option A) → IsSome h → (x : A) × (h ≡ Some x)
held_some (Some x) is = (x, refl)
held_some None is = grind arith

pub into_client_spec : {M : Type 1} → statement M
unfolding Rattle.lapin_c.proofs.Destruct++none.drop.Code.code
into_client_spec 𝓤 𝓛 𝓜 𝓡 wired =
    let H = 𝓛.H in let 𝓣 = tables 𝓤 H 𝓜 𝓡 𝓡.env in let fn = code.function in let En = ended in let c = clauses 𝓛 𝓜.mem 𝓡.returns in
    let g = heap_impl.ghosts in let d = heap_impl.dict in
    let hs : Stays En.signature.params En.kept = (stay_dropped (plain (λ _. Row)) yes, (stay_dropped (plain (λ _. heap.the_row)) yes, tt)) in
    proved_at 𝓛 En hs c 𝓜 𝓡 (Goes-dropped 𝓛 0 (plain (λ _. Row)) yes (λ κs x f. refl), (Goes-dropped 𝓛 0 (plain (λ _. heap.the_row)) yes (λ κs x f. refl), tt)) #self fn (code.unfolded 𝓤 H 𝓜 𝓡 wired) (λ z are.
    let v : Row.Denot = z.0.3.0 in let a = z.0.3.1.0 in let Post : Val → SProp 𝓤 = (walk_of 𝓛 En hs c).post z in let Run : List Val → SProp 𝓤 = λ ws. WpFn 𝓤 H 𝓣.C 𝓣.Λ fn ws Post in
    let k = triple_of 𝓛 (callee.signature X Z g d drops_handle) (callee.spec X Z g d drops_handle 𝓛 𝓜.mem 𝓡.returns) in
    let Ce = callee.ended X Z g d drops_handle in
    let known = met 𝓤 𝓛 𝓜 𝓡 (code.calls-std_alloc::boxed::Box::from_raw 𝓡.env wired) X Z E.laws E.al.laws g d drops_handle
    (heap_met.passed 𝓡.env (code.calls-std_heap::GlobalAllocator::allocate 𝓡.env wired) (code.calls-std_heap::GlobalAllocator::deallocate 𝓡.env wired)
    (code.calls-std_heap::GlobalAllocator::grow 𝓡.env wired) (code.calls-std_heap::GlobalAllocator::shrink 𝓡.env wired) _ 𝓤 𝓛 𝓜 𝓡)
    (NoDrop.glues "lapin_c::Destruct++none::drop" 𝓡.env (code.calls-lapin_c::Destruct++none::drop 𝓡.env wired) Z E.al.laws _ 𝓤 𝓛 𝓜 𝓡) in
    qed 𝓛 ((‵ ftrue ⊛ ‵ (owns (types_at En.signature.params z.0.0) z.0.3 z.0.4)) ∷ raw ((c z.0.0 z.0.3).requires z.1) ∷ []) ∵
    split ! $ move ! (1 ∷ []) $ fsplit3 ! $ pointer_out ! v z.0.4.0 (λ told. move ! (4 ∷ []) $ heard ! (IsSome v.held) (λ is. let got = held_some v.held is in let x : Client = got.0 in
    rewrite ! 0 (λ (m : Option Client). ‵ (held_owns m (λ i. box_owns (g.dealloc_token a) X v.at i))) got.1 refl $
    in_a_block ! v.at (λ p. box_owns (g.dealloc_token a) X p x) (fst∗ 𝓤 (never 𝓤) (sem 𝓛 (g.dealloc_token a (bare (layout X)) null_ptr))) (λ b o at.
    move ! (1 ∷ []) $ handle_tells E.al ! a z.0.4.1.0 (λ h eh fa. let ws : List Val = word (block_ptr b o) ∷ h ∷ [] in
    let ew : z.0.4.0 ≡ word (block_ptr b o) ∷ [] = told ∙ ap (λ (p : Ptr). word p ∷ []) at in
    suffices ! (Run ws) (subst (λ (us : List Val). ent 𝓤 (Run ws) (Run us)) (sym (λ i. ew i ++ (eh i ++ []))) (id⊢ 𝓤 (Run ws))) $
    enter ! 𝓣.C 𝓣.Λ fn ws Post $ alloc_all ! (λ l. pass_all ! refl ((tt, (tt, tt)), (fa, tt)) $ let Ev = env fn.locals l in
    sets ! (of_opd ! (get_in ! (fld ! refl (stop !)) (sub ! 0 refl (whole !)))) refl (tt, tt) $ first ! $ blocks ! $ sets ! (of_opd ! (get ! refl)) refl (tt, tt) $
    lft_new ! tt (λ α. lft_new ! tt (λ β. let κ : Lft = α ∷ [] in let κ' : Lft = β ∷ [] in let inX = κ ⊑ X.lives in let inZ = κ' ⊑ Z.lives in
    let y : k.Ghost = (((κ, (κ', tt)), (full_share, (full_share, tt)), tt, (a, (block_ptr b o, tt)), (h ∷ [], (vptr b o ∷ [], tt))), x) in
    -- [the tokens; the handle; what the pointer owns; ..]
    nothing ! $ move ! (1 ∷ 0 ∷ []) $ join ! $ move ! (1 ∷ 0 ∷ []) $ join ! $ move ! (1 ∷ 2 ∷ 0 ∷ []) $
    nothing ! $ feq_i ! (List Val) (vptr b o ∷ []) (vptr b o ∷ []) refl $ fjoin ! $ move ! (1 ∷ 0 ∷ []) $ fjoin ! $ move ! (2 ∷ 0 ∷ []) $ join ! $
    move ! (1 ∷ []) $ use0 𝓛 (raw (fact 𝓤 inZ)) (fact_i 𝓤 inZ (emp 𝓤) (⊑_static κ')) $ join ! $ use0 𝓛 (raw (fact 𝓤 inX)) (fact_i 𝓤 inX (emp 𝓤) (⊑_static κ)) $ join ! $
    move ! (1 ∷ 0 ∷ []) $ join ! $ use1 𝓛 (raw (k.pre y)) (id⊢ 𝓤 _) $
    calls_at_last ! (framed 𝓤 H 𝓜 𝓣) k known y (and_then ! (get ! refl) (and_then ! (get ! refl) (no_more !))) (λ u. let B : RattleType = box.B E in
    use1 𝓛 (later (some (λ (r : B.Denot). ((‵ (flft κ full_share) ⊛ ‵ (flft κ' full_share) ⊛ ‵ ftrue) ⊛ ‵ (B.own_val r (u ∷ []))) ⊛ some (λ (ls : Lasts Ce y.0.0 y.0.3). ‵ (lasts Ce y.0.0 y.0.3 ls) ⊛ (raw (fact 𝓤 (r.value ≡ x)) ⊛ raw (fact 𝓤 (r.alloc ≡ a))))))) (id⊢ 𝓤 _) $
    await ! tt $ pick ! (λ r. split ! $ move ! (1 ∷ []) $ pick ! (λ _. split3 ! $ drop ! $ move ! (1 ∷ []) $ drop ! $ heard ! (r.value ≡ x) (λ same. split ! $ drop ! $
    box_out E ! r (u ∷ []) (λ b' o' hw e' eu fw. box_in E ! r b' o' r.value e' refl $ let w' : Val = box.word E hw b' o' in let typed' = box.box_typed E hw b' o' fw in let is_word : u ≡ w' = ap only eu in
    lands_last ! refl (subst (λ (s : Val). T (has_ty (box.box_ty E) s) × WT s) (sym is_word) typed') $ exec ! 𝓣.C 𝓣.Λ Ev (after 2 fn.body) (at_ret Ev Post) $ sets ! (is_at ! (of_opd ! (get ! refl)) is_word) refl typed' $
    let Kept : Type 0 = v.held ≡ Some r.value in use0 𝓛 (raw (fact 𝓤 Kept)) (fact_i 𝓤 Kept (emp 𝓤) (got.1 ∙ ap Some (sym same))) $
    nothing ! $ nothing ! $ fjoin ! $ nothing ! $ fjoin ! $ nothing ! $ returns ! (look_at ! 0 refl) $ free_all ! refl $ keep ! (0 ∷ 1 ∷ 3 ∷ 2 ∷ []) $
    by ! (leaves 𝓛 En hs c z w' r (_, (_, tt)) (tt, (tt, tt))))))))))))))))
