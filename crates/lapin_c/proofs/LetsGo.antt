-- The glue of what a pointer holds: its own drop. Assumes `Logic`.
use Rattle.std.proofs.Common.{[], refl}
use seplogic.Ra.Ura.{Ura}
use mir.Syntax.{method}
use prog.Model.{Model}
use prog.Wired.{Wired}
use types.Logic.{Logic}
use contract.Running.{Running}
use denote.Param.{layouts}
use denote.Param.Glue.{Met}
use denote.Triple.Carry.{AllWithin}
use denote.Triple.Clauses.{Lasts, lasts, at_exit}
use denote.Triple.Walked.{Fit}
use borrow.Fn.Glue.{glue_by, glue_ps}
use borrow.Fn.Impl.{via_longer, method_Known}
use borrow.Fn.Kinds.{ended_of, stays, r_unit}
use borrow.Fn.Run.{Over}
use borrow.Fn.World.{World}
use Rattle.lapin_c.proofs.HeldBox.{X, E, drops_client}
use Rattle.lapin_c.proofs.lapin_client++client++Client+Destruct.drop.Kinds as kinds
use Rattle.lapin_c.proofs.lapin_client++client++Client+Destruct.drop.Reads as reads
use Rattle.lapin_c.proofs.lapin_client++client++Client+Destruct.drop.Symbol as symbol
use Rattle.lapin_c.proofs.lapin_client++client++Client+Destruct.drop.Met as let_go

module _ {M : Type 1} (𝓤 : Ura M) (𝓛 : Logic 𝓤) (𝓜 : Model 𝓤 𝓛.H) (𝓡 : Running 𝓤 𝓛.H 𝓜) where
  pub lets_go : Wired 𝓡.env symbol.code → Met 𝓛 𝓜 𝓡 𝓡.env X drops_client
  lets_go w =
      let world : World = record { M = M; 𝓤 = 𝓤; 𝓛 = 𝓛; 𝓜 = 𝓜; 𝓡 = 𝓡 } in
      glue_by X E.laws world drops_client 𝓡.env (λ κs a. Lasts (ended_of 0 kinds.ps kinds.r) tt a) (λ κs a. lasts (ended_of 0 kinds.ps kinds.r) tt a)
      (λ κs a x ws. Fit (ended_of 0 kinds.ps kinds.r) (stays kinds.ps) tt a ws × reads.Learnt tt a x (at_exit (ended_of 0 kinds.ps kinds.r) tt a ws))
      (λ κs a. AllWithin 1 (κs.0, tt) (X.lives, tt) × Unit {0}) 0 tt (λ κs a h. ((h, tt), tt))
      (via_longer 𝓛 (Over 𝓛 𝓜 𝓡 𝓡.env) 1 (glue_ps X E.laws) r_unit (λ κs a. Lasts (ended_of 0 kinds.ps kinds.r) tt a) (λ κs a. lasts (ended_of 0 kinds.ps kinds.r) tt a)
      (λ κs a x ws. Fit (ended_of 0 kinds.ps kinds.r) (stays kinds.ps) tt a ws × reads.Learnt tt a x (at_exit (ended_of 0 kinds.ps kinds.r) tt a ws))
      (λ κs a. AllWithin 1 (κs.0, tt) (X.lives, tt) × Unit {0}) (method drops_client 0 (layouts [] tt)) 0 tt (λ κs. tt) (λ κs a. reads.Asked tt a) (λ κs a p. (tt, tt))
      (λ κs bd within a vss qs. method_Known 0 kinds.ps kinds.r reads.requires reads.ensures reads.Asked reads.Learnt reads.known world symbol.name (method drops_client 0 (layouts [] tt))
      (symbol.as_method 𝓡.env w (method drops_client 0 (layouts [] tt)) refl) (let_go.met 𝓤 𝓛 𝓜 𝓡 w) ((tt, qs, tt, a, vss), tt)))
