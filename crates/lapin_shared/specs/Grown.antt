-- What is seen of a caller, and how its log grows.
use Rattle.std.specs.Prelude.{◌≡◌, ◌≢◌, ℕ, ◌+◌, ◌<◌, ◌==◌, false, List, [], ◌∷◌, ◌++◌, length, map, None}
use Rattle.std.specs.List.{IsDistinct}
use Rattle.lapin_types.specs.declared.event.Event.{Event}
use Rattle.lapin_types.specs.declared.record.Record.{Record}
use Rattle.lapin_machine.specs.Told.{is_pending_record}
use Rattle.lapin_locked.specs.declared.entry.Told.{Told}

-- what is seen of a caller
pub record Seen : Type 0 where
  pub number : ℕ
  pub log : List Told

-- what is seen of a client
pub record Made : Type 0 where
  pub frame_max : ℕ
  pub made : ℕ

-- the places rise, above m
abbrev pub Rise : ℕ → List Told → Type 0
Rise m [] = Unit {0}
Rise m (t ∷ ts) = (m < t.place) × Rise t.place ts

-- the last place, or m
abbrev pub last_of : ℕ → List Told → ℕ
last_of m [] = m
last_of m (t ∷ ts) = last_of t.place ts

-- the share has one part and counts the log, whose places rise
pub record IsHand (last : ℕ) (log : List Told) (parts amount : ℕ) : Type 0 where
  pub one : parts ≡ 1
  pub counted : amount ≡ length log
  pub rise : Rise 0 log
  pub last_is : last ≡ last_of 0 log

-- the log grew by one entry
abbrev pub Grew : Seen → Seen → Told → Type 0
Grew old new t = (new.number ≡ old.number) × (new.log ≡ old.log ++ t ∷ [])

-- not Pending
abbrev pub IsOver : Record → Type 0
IsOver r = is_pending_record r ≡ false

-- callers with empty logs, numbered from n
abbrev pub AreFresh : ℕ → List Seen → Type 0
AreFresh n [] = Unit {0}
AreFresh n (c ∷ cs) = (c.number ≡ n) × (c.log ≡ []) × AreFresh (n + 1) cs

-- the number of a caller
abbrev pub number_of : Seen → ℕ
number_of c = c.number

-- no two callers have one number
abbrev pub AreApart : List Seen → Type 0
AreApart cs = IsDistinct (λ a b. a == b) (map number_of cs)

-- A call that makes one step and answers the log's new entry, which has that event and holds an answer. Told through a reference,
-- which `now` reads.
abbrev pub Stepped : {T : Type 0} → (T → Told) → Seen → Event → Seen → T → Type 0
Stepped now old e new t = Grew old new (now t) × ((now t).event ≡ e) × ((now t).answer ≢ None)
