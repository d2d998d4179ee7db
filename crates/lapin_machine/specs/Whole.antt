-- The room that a whole content needs: a get's message takes the next acker and a place for the answer, a delivery the next acker and a
-- place with its consumer, a returned message a place with the confirms.
use Rattle.std.specs.Prelude.{◌≡◌, ℕ, ◌<◌, ◌^◌, Bool, true, false, List, Option, Some, None, IsSome, Result, Ok, Err}
use Rattle.std.specs.Option.{option_map}
use Rattle.lapin_types.specs.Types.{Error}
use Rattle.lapin_types.specs.Types.error
use Rattle.lapin_content.specs.declared.start.Start.{Start}
use Rattle.lapin_content.specs.declared.start.Start.TheVariants as start
use Rattle.lapin_content.specs.Contents.{Expected, front_waits, front_takes}
use Rattle.lapin_confirm.specs.WithRoom.{WithRoom, spare_on}
use Rattle.lapin_consumer.specs.Subscriptions.{is_registered}
use Rattle.lapin_delivery.specs.declared.deliveries.Deliveries.{Deliveries as Held}
use Rattle.lapin_delivery.specs.WithRoom.{HasAckerRoom, HasDeliveryRoom}
use Rattle.lapin_delivery.specs.Deliveries.{Deliveries}
use Rattle.lapin_ticket.specs.declared.held.Place.{Place}
use Rattle.lapin_rules.specs.declared.broker_frames.ContentPart.{ContentPart}
use Rattle.lapin_rules.specs.declared.broker_frames.ContentPart.TheVariants as part
use Rattle.lapin_rules.specs.Content.{whole_by, next_acker, for_acker}

-- a header or a body that the content at the front waits for
abbrev pub is_awaited : ContentPart → List Expected → Bool
is_awaited (part.Header h) es = front_waits h.class_id es
is_awaited (part.Body bytes) es = front_takes bytes es
is_awaited _ es = false

-- what began the content that is whole with it, if one is
abbrev pub ended_by : ContentPart → List Expected → Option Start
ended_by q es = option_map (λ w. w.start) (whole_by q es)

-- there is room for a delivery of this consumer, if it is registered
abbrev pub FitsAt : Option ℕ → Held → Type 0
FitsAt None h = Unit {0}
FitsAt (Some k) h = is_registered k h.consumers.subscriptions ≡ true → HasDeliveryRoom k h

-- there is room for a content on channel c that began so
abbrev pub Fits : Start → ℕ → Held → WithRoom → Option Place → Type 0
Fits (start.Get ticket tag exchange key redelivered count) c h k p = HasAckerRoom h × IsSome p
Fits (start.Deliver consumer tag exchange key redelivered) c h k p = FitsAt consumer h
Fits (start.Return code text exchange key) c h k p = 0 < spare_on c k

-- for the content that becomes whole, if one does
abbrev pub FitsFront : Option Start → ℕ → Held → WithRoom → Option Place → Type 0
FitsFront None c h k p = Unit {0}
FitsFront (Some s) c h k p = Fits s c h k p

-- the next acker would pass the greatest u64
abbrev pub NoAcker : Deliveries → Type 0
NoAcker i = next_acker i ≡ 2 ^ 64

-- the content that becomes whole is one whose message is given an acker, and the next one would pass the greatest u64
abbrev pub LacksAcker : Option Start → Deliveries → Type 0
LacksAcker None i = ⊥
LacksAcker (Some s) i = (for_acker i s ≡ true) × NoAcker i

-- why there is no room: want of memory, or a message for which the next acker would pass the greatest u64
abbrev pub MakesRoom : Result (Option Place) Error → Option Start → Deliveries → Type 0
MakesRoom (Ok x) s i = Unit {0}
MakesRoom (Err error.NoMemory) s i = Unit {0}
MakesRoom (Err error.NumbersUsedUp) s i = LacksAcker s i
MakesRoom (Err _) s i = ⊥

-- the same for a delivery of this consumer
abbrev pub MakesRoomAt : Result (Unit {0}) Error → Option ℕ → Deliveries → Type 0
MakesRoomAt (Ok x) k i = Unit {0}
MakesRoomAt (Err error.NoMemory) k i = Unit {0}
MakesRoomAt (Err error.NumbersUsedUp) None i = ⊥
MakesRoomAt (Err error.NumbersUsedUp) (Some k) i = (is_registered k i.subscriptions ≡ true) × NoAcker i
MakesRoomAt (Err _) k i = ⊥
