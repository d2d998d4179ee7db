-- Publishes that wait and confirms hang together: what waits has not left, and what has not left waits.
use Rattle.std.specs.Prelude.{◌≡◌, ◌≢◌, ℕ, ◌==◌, ◌&&◌, Bool, true, List, [], ◌∷◌, Option, Some, None}
use Rattle.std.specs.List.{AllByRecursion, list_any}
use Rattle.lapin_types.specs.declared.Error.{Error}
use Rattle.lapin_types.specs.declared.leaving.Left.{Left}
use Rattle.lapin_types.specs.declared.leaving.Publish.{Publish}
use Rattle.lapin_types.specs.Types.{Frame}
use Rattle.lapin_tables.specs.Numbered.{under}
use Rattle.lapin_rules.specs.Drops.{frame_channel}
use Rattle.lapin_confirm.specs.declared.cell.Cell.{Cell}
use Rattle.lapin_confirm.specs.declared.cell.Cell.TheVariants as cell
use Rattle.lapin_confirm.specs.PublishStates.{is_queued, is_queued_on}
use Rattle.lapin_confirm.specs.Machine.{rejected}
use Rattle.lapin_confirm.specs.ConfirmState.{ConfirmState}

-- the publishes that wait are different ones, and none has left
abbrev pub EachQueued : List (Option Cell) → List Publish → Type 0
EachQueued cells [] = Unit {0}
EachQueued cells (p ∷ ps) = (under p.confirm cells ≡ Some (cell.Queued p.channel)) × AllByRecursion (λ q. p.confirm ≢ q.confirm) ps × EachQueued cells ps

-- the publish of channel c with confirm number n
abbrev pub is_publish_of : ℕ → ℕ → Publish → Bool
is_publish_of c n p = p.channel == c && p.confirm == n

-- each publish that has not left waits
abbrev pub AllWait : List (Option Cell) → List Publish → Type 0
AllWait cells ps = (c n : ℕ) → is_queued_on c (under n cells) ≡ true → list_any (is_publish_of c n) ps ≡ true

-- the publishes that wait are those that were accepted and have not left, each once
pub record AreQueued (cells : List (Option Cell)) (ps : List Publish) : Type 0 where
  pub each : EachQueued cells ps
  pub all : AllWait cells ps

-- ---- the publish that a drop told of, if it told of one

-- it has not left
abbrev pub MayReject : Option ℕ → List (Option Cell) → Type 0
MayReject None cells = Unit {0}
MayReject (Some n) cells = is_queued (under n cells) ≡ true

-- it is rejected
abbrev pub rejected_told : Error → Option ℕ → ConfirmState → ConfirmState
rejected_told e None p = p
rejected_told e (Some n) p = rejected n e p

-- ---- a frame that leaves

-- the publish whose method frame leaves is queued on the frame's channel
abbrev pub MayRegister : Frame → Option ℕ → Bool → List (Option Cell) → Type 0
MayRegister f (Some n) true cells = under n cells ≡ Some (cell.Queued (frame_channel f))
MayRegister f _ _ cells = Unit {0}

-- where a frame that leaves is the first of a publish, that publish is queued on the frame's channel
abbrev pub CanRegister : Left → List (Option Cell) → Type 0
CanRegister l cells = MayRegister l.frame l.publish l.first cells
