-- What a contract sees of the outbox.
use Rattle.std.specs.Prelude.{◌≡◌, ℕ, Bool, true, false, ◌&&◌, not, All, List, [], ◌∷◌, ◌++◌, Option, None}
use Rattle.lapin_types.specs.Types.{Error}
use Rattle.lapin_types.specs.declared.leaving.Left.{Left}
use Rattle.lapin_types.specs.declared.leaving.Publish.{Publish}
use Rattle.lapin_rules.specs.Frames.{MethodEntry, is_empty}
use Rattle.lapin_rules.specs.Leaving.{Lists}
use Rattle.lapin_rules.specs.Drops.{no_lists}

-- the three lists, and for how many more entries there is room
pub record InQueues : Type 0 where
  pub lists : Lists
  pub spare : ℕ

-- what an outbox holds
pub record OutboxState : Type 0 where
  -- the greatest size of a frame
  pub frame_max : ℕ
  -- what waits to leave
  pub lists : Lists
  -- the frame that was given back, if it waits to be handed out again
  pub returned : Option Left
  -- the poison of the outbox, if it is poisoned
  pub poison : Option Error
  -- by channel that ever was poisoned: its poison, if it still is
  pub errors : List (ℕ × Option Error)

-- what an outbox holds, and for how many more entries there is room
pub record Outgoing : Type 0 where
  pub what : OutboxState
  pub spare : ℕ

-- an outbox in which nothing waits, and which isn't poisoned
abbrev pub empty : ℕ → OutboxState
empty frame_max = record { frame_max = frame_max; lists = no_lists; returned = None; poison = None; errors = [] }

-- an outbox with these lists in place of its own
abbrev pub with_lists : Lists → OutboxState → OutboxState
with_lists l o = record { frame_max = o.frame_max; lists = l; returned = o.returned; poison = o.poison; errors = o.errors }

-- a method joins the back of the methods
abbrev pub with_method : MethodEntry → Lists → Lists
with_method m l = record { rest = l.rest; methods = l.methods ++ m ∷ []; publishes = l.publishes }

-- a publish joins the back of the publishes
abbrev pub with_publish : Publish → Lists → Lists
with_publish p l = record { rest = l.rest; methods = l.methods; publishes = l.publishes ++ p ∷ [] }

-- one of the three lists has an entry
abbrev pub has_entries : Lists → Bool
has_entries l = not (is_empty l.rest && is_empty l.methods && is_empty l.publishes)

-- ---- the publish that begins

-- A publish is the first that may begin, where t tells on which channels one may: its channel may, no channel of a publish in front
-- of it may, and what is left keeps its order.
pub record IsFirstToBegin (t : ℕ → Bool) (p : Publish) (ps left : List Publish) : Type 0 where
  pub front : List Publish
  pub behind : List Publish
  pub stands : ps ≡ front ++ p ∷ behind
  pub may : t p.channel ≡ true
  pub none : All (λ q. t q.channel ≡ false) front
  pub stays : left ≡ front ++ behind
