-- Whose message came back.
use Rattle.std.specs.Prelude.{◌≡◌, ◌⊎◌, Bool, true, false, ◌&&◌, ◌||◌, not, List, [], ◌∷◌, ◌++◌, Option, Some, All}
use Rattle.std.specs.Option.{is_some}
use Rattle.lapin_types.specs.declared.message.BasicReturnMessage.{BasicReturnMessage}
use Rattle.lapin_types.specs.declared.message.Delivery.{Delivery}
use Rattle.lapin_keeping.specs.declared.fate.Fate.{Fate}
use Rattle.lapin_keeping.specs.declared.fate.Fate.TheVariants as fate
use Rattle.lapin_keeping.specs.declared.kept.Kept.{Kept}
use Rattle.lapin_keeping.specs.declared.message.Message.{Message}
use Rattle.lapin_keeping.specs.Fates.{returned}

-- A message that came back has the exchange, the routing key and the bytes of this one, and its properties too where they have to be its own.
abbrev pub IsLike : Bool → Delivery → Message → Type 0
IsLike exact d m = (m.exchange ≡ d.exchange) × ((m.routing_key ≡ d.routing_key) × ((m.payload ≡ d.payload) × (exact ≡ true → m.properties ≡ d.properties)))

abbrev pub is_stored : Option Fate → Bool
is_stored (Some fate.Stored) = true
is_stored _ = false

-- its publish may come back: it is outstanding, or was acked in the present turn, and did not come back yet
abbrev pub may_come_back : Kept → Bool
may_come_back k = (is_some k.outstanding || is_stored k.fate) && not k.came_back

-- a message that came back may be its publish
abbrev pub IsOf : Bool → Delivery → Kept → Type 0
IsOf exact d k = (may_come_back k ≡ true) × IsLike exact d k.message

abbrev pub IsNotOf : Bool → Delivery → Kept → Type 0
IsNotOf exact d k = IsOf exact d k → ⊥

-- the first that it may be came back, and the others stay
pub record FirstCameBack (exact : Bool) (d : Delivery) (old new : List Kept) : Type 0 where
  pub before : List Kept
  pub owner : Kept
  pub behind : List Kept
  pub old_is : old ≡ before ++ owner ∷ behind
  pub new_is : new ≡ before ++ returned owner ∷ behind
  pub none_before : All (IsNotOf exact d) before
  pub is_owner : IsOf exact d owner

-- The first that it may be and that it is like in all came back; where there is none, the first that it is like but for its properties, since a broker may change
-- these; where there is none either, all stay.
abbrev pub IsNoted : Delivery → List Kept → List Kept → Type 0
IsNoted d old new = FirstCameBack true d old new ⊎ (All (IsNotOf true d) old × (FirstCameBack false d old new ⊎ (All (IsNotOf false d) old × (new ≡ old))))

-- it was noted of each of these whose it is, one behind the other
abbrev pub AreNoted : List BasicReturnMessage → List Kept → List Kept → Type 0
AreNoted [] old new = new ≡ old
AreNoted (r ∷ rs) old new = (between : List Kept) × (IsNoted r.delivery old between × AreNoted rs between new)
