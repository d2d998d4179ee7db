-- A publisher over any calls of it, with the sessions that it belongs to, one after the other.
use Rattle.std.specs.Prelude.{◌≡◌, ◌⊎◌, ℕ, zero, suc, ◌+◌, Bool, List, [], ◌∷◌, ◌++◌, Option}
use Rattle.lapin_types.specs.declared.event.Event.{Event}
use Rattle.lapin_types.specs.declared.leaving.Left.{Left}
use Rattle.lapin_machine.specs.World.{World, next, with_returned}
use Rattle.lapin_keeping.specs.declared.fate.Fate.{Fate}
use Rattle.lapin_keeping.specs.declared.keeping.Keeping.{Keeping}
use Rattle.lapin_keeping.specs.declared.message.Message.{Message}
use Rattle.lapin_keeping.specs.declared.run.Run.{Run}
use Rattle.lapin_keeping.specs.Keepings.{new_kept}
use Rattle.lapin_keeping.specs.Runs.{told, of_run}
use Rattle.lapin_publisher.specs.declared.turn.Turn.{Turn}
use Rattle.lapin_publisher.specs.Turns.{IsTurn, IsTurnInPart, IsLeft}

-- its messages, each fate that was taken from it, in order, its session, and whether the present opening was asked for confirms
pub record Course : Type 0 where
  pub keeping : Keeping
  pub taken : List (ℕ × Fate)
  pub session : World
  pub selects : Bool

-- a new publisher, with any session
pub record IsNew (p : Course) : Type 0 where
  pub kept : p.keeping.kept.items ≡ []
  pub settled : p.keeping.settled.items ≡ []
  pub back : p.keeping.back.items ≡ []
  pub handed : p.keeping.handed ≡ 0
  pub taken : p.taken ≡ []

-- nothing of the messages changes
pub record HasSameMessages (p q : Course) : Type 0 where
  pub kept : q.keeping.kept.items ≡ p.keeping.kept.items
  pub settled : q.keeping.settled.items ≡ p.keeping.settled.items
  pub back : q.keeping.back.items ≡ p.keeping.back.items
  pub handed : q.keeping.handed ≡ p.keeping.handed
  pub taken : q.taken ≡ p.taken

-- a message more is handed over
pub record IsHandedOver (p q : Course) : Type 0 where
  pub message : Message
  pub most : ℕ
  pub kept : q.keeping.kept.items ≡ p.keeping.kept.items ++ new_kept (p.keeping.handed + 1) message most ∷ []
  pub handed : q.keeping.handed ≡ p.keeping.handed + 1
  pub settled : q.keeping.settled.items ≡ p.keeping.settled.items
  pub taken : q.taken ≡ p.taken
  pub session : q.session ≡ p.session

-- what became of some messages is taken
pub record IsTaken (p q : Course) : Type 0 where
  pub run : Run
  pub settled : p.keeping.settled.items ≡ run ∷ q.keeping.settled.items
  pub taken : q.taken ≡ p.taken ++ of_run run
  pub kept : q.keeping.kept.items ≡ p.keeping.kept.items
  pub handed : q.keeping.handed ≡ p.keeping.handed
  pub session : q.session ≡ p.session

-- a turn with a session, whole or in part
abbrev pub IsAnyTurn : Turn → World → World → Keeping → Keeping → Bool → Bool → Type 0
IsAnyTurn t w v old new selects selects_now = IsTurn t w v old new selects selects_now ⊎ IsTurnInPart t w v old new selects selects_now

-- its session goes on by itself: by any event, or by a frame that is given back
abbrev pub SessionGoesOn : World → World → Type 0
SessionGoesOn w v = ((e : Event) × (v ≡ next w e)) ⊎ ((left : Option Left) × (v ≡ with_returned left w))

-- a turn with its session
pub record IsTended (p q : Course) : Type 0 where
  pub turn : Turn
  pub tended : IsAnyTurn turn p.session q.session p.keeping q.keeping p.selects q.selects
  pub taken : q.taken ≡ p.taken

-- its session alone goes on
pub record GoesOn (p q : Course) : Type 0 where
  pub messages : HasSameMessages p q
  pub session : SessionGoesOn p.session q.session

-- it leaves its session, and goes to any other
pub record GoesAway (p q : Course) : Type 0 where
  pub last : World
  pub left : IsLeft p.session last p.keeping q.keeping
  pub taken : q.taken ≡ p.taken

-- the second follows the first by one call of the publisher, or of its session
abbrev pub IsCall : Course → Course → Type 0
IsCall p q = IsHandedOver p q ⊎ (IsTaken p q ⊎ (IsTended p q ⊎ (GoesOn p q ⊎ GoesAway p q)))

-- it follows by so many
abbrev pub Follows : ℕ → Course → Course → Type 0
Follows zero p q = q ≡ p
Follows (suc n) p q = (r : Course) × (IsCall p r × Follows n r q)

-- each fate that became known, in order
abbrev pub all_told : Course → List (ℕ × Fate)
all_told p = p.taken ++ told p.keeping.settled.items
