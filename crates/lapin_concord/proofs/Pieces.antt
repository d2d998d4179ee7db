-- Which frames of a client go on with a content.
use Rattle.std.proofs.Common.{◌≡◌, ℕ, true, false, refl, sym, ◌∙◌, ap}
use Rattle.lapin_broker.specs.declared.content.Content.{Content}
use Rattle.lapin_broker.specs.declared.content.Content.TheVariants as content
use Rattle.lapin_broker.specs.declared.frames.ClientFrame.{ClientFrame}
use Rattle.lapin_broker.specs.declared.frames.ClientFrame.TheVariants as client
use Rattle.lapin_broker.specs.Contents.{is_idle}
use Rattle.lapin_pairs.specs.Channel as kept
use Rattle.lapin_pairs.specs.Every.{OnU, CloseU, CloseOkU}
use Rattle.lapin_pairs.specs.Asking.{U2, Plain, SelectAsk}
use Rattle.lapin_concord.specs.Frames.{number, up_kind}
use Rattle.lapin_concord.specs.Peers.{content_as}
use Rattle.lapin_concord.proofs.Reading.{is_piece}
use Rattle.lapin_concord.proofs.Lines.{is_more}

-- a header or a body on a channel is the client's header or body there
pub piece_kind : (c d : ℕ) (u : ClientFrame) (v : U2) → up_kind c u ≡ OnU d v → is_more v ≡ true → (d ≡ c) × (is_piece u ≡ true)
piece_kind c d (client.Header class size) v e m = let y : c ≡ d = cc in (sym y, refl)
piece_kind c d (client.Body n) v e m = let y : c ≡ d = cc in (sym y, refl)
piece_kind c d client.ConnectionClose v e m = let y : CloseU ≡ OnU d v = e in absurd cc
piece_kind c d client.ConnectionCloseOk v e m = let y : CloseOkU ≡ OnU d v = e in absurd cc
piece_kind c d client.Open v e m = let y : false ≡ true = ap is_more (small e) ∙ m in absurd cc
  where
    small : OnU c (Plain kept.FOpen) ≡ OnU d v → Plain kept.FOpen ≡ v
    small h = cc
piece_kind c d client.Close v e m = let y : false ≡ true = ap is_more (small e) ∙ m in absurd cc
  where
    small : OnU c (Plain kept.FClose) ≡ OnU d v → Plain kept.FClose ≡ v
    small h = cc
piece_kind c d client.CloseOk v e m = let y : false ≡ true = ap is_more (small e) ∙ m in absurd cc
  where
    small : OnU c (Plain kept.FCloseOk) ≡ OnU d v → Plain kept.FCloseOk ≡ v
    small h = cc
piece_kind c d client.Publish v e m = let y : false ≡ true = ap is_more (small e) ∙ m in absurd cc
  where
    small : OnU c (Plain (kept.FPublish 0)) ≡ OnU d v → Plain (kept.FPublish 0) ≡ v
    small h = cc
piece_kind c d (client.Select true) v e m = let y : false ≡ true = ap is_more (small e) ∙ m in absurd cc
  where
    small : OnU c SelectAsk ≡ OnU d v → SelectAsk ≡ v
    small h = cc
piece_kind c d (client.Select false) v e m = let y : false ≡ true = ap is_more (small e) ∙ m in absurd cc
  where
    small : OnU c (Plain kept.FSelect) ≡ OnU d v → Plain kept.FSelect ≡ v
    small h = cc
piece_kind c d (client.Ask k) v e m = let y : false ≡ true = ap is_more (small e) ∙ m in absurd cc
  where
    small : OnU c (Plain (kept.FAsk (number k))) ≡ OnU d v → Plain (kept.FAsk (number k)) ≡ v
    small h = cc
piece_kind c d client.Consume v e m = let y : false ≡ true = ap is_more (tell c d v e) ∙ m in absurd cc
  where
    tell : (c d : ℕ) (v : U2) → OnU c (Plain kept.FTell) ≡ OnU d v → Plain kept.FTell ≡ v
    tell c d v h = cc
piece_kind c d client.Cancel v e m = let y : false ≡ true = ap is_more (tell c d v e) ∙ m in absurd cc
  where
    tell : (c d : ℕ) (v : U2) → OnU c (Plain kept.FTell) ≡ OnU d v → Plain kept.FTell ≡ v
    tell c d v h = cc
piece_kind c d client.Tell v e m = let y : false ≡ true = ap is_more (tell c d v e) ∙ m in absurd cc
  where
    tell : (c d : ℕ) (v : U2) → OnU c (Plain kept.FTell) ≡ OnU d v → Plain kept.FTell ≡ v
    tell c d v h = cc
piece_kind c d client.Other v e m = let y : false ≡ true = ap is_more (tell c d v e) ∙ m in absurd cc
  where
    tell : (c d : ℕ) (v : U2) → OnU c (Plain kept.FTell) ≡ OnU d v → Plain kept.FTell ≡ v
    tell c d v h = cc

pub idle_not : (z : Content) → is_idle z ≡ false → content_as z ≡ kept.Idle → ⊥
idle_not content.Idle h e = cc
idle_not content.Begun h e = cc
idle_not (content.Left n) h e = cc
