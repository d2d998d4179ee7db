-- Where a ticket that awaits a reply is owed it: by an open request of its channel, or by a content that is expected there and that
-- the answer to its get began.
use Rattle.std.specs.Prelude.{◌≡◌, ◌⊎◌, ℕ, List, [], ◌∷◌, map, Option, Some, None}
use Rattle.lapin_types.specs.declared.request.Request.{Request}
use Rattle.lapin_content.specs.declared.start.Start.{Start}
use Rattle.lapin_content.specs.declared.start.Start.TheVariants as start
use Rattle.lapin_content.specs.Contents.{Expected}
use Rattle.lapin_content.specs.Channels.{expected_on}
use Rattle.lapin_rules.specs.Wire.{Wire, requests_of}

-- x stands in the list
abbrev pub IsIn : {X : Type 0} → X → List X → Type 0
IsIn x [] = ⊥
IsIn x (y ∷ ys) = (x ≡ y) ⊎ IsIn x ys

-- the ticket of each of these requests, none where nobody holds one
abbrev pub request_tickets : List Request → List (Option ℕ)
request_tickets rs = map (λ r. r.ticket) rs

-- ticket n is of an open request of the channel
abbrev pub IsRequested : ℕ → ℕ → Wire → Type 0
IsRequested n c b = IsIn (Some n) (request_tickets (requests_of c b))

-- the ticket of the get whose content begins so
abbrev pub start_ticket : Start → Option ℕ
start_ticket (start.Get ticket tag exchange key redelivered count) = ticket
start_ticket _ = None

-- the ticket of the get that each of these expected contents answers; none for a delivery or a returned message
abbrev pub content_tickets : List Expected → List (Option ℕ)
content_tickets es = map (λ e. start_ticket e.start) es

-- a content is expected on the channel that the answer to the get of ticket n began
abbrev pub IsExpected : ℕ → ℕ → Wire → Type 0
IsExpected n c b = IsIn (Some n) (content_tickets (expected_on c b.contents))

-- ticket n is owed its reply: by an open request of the channel, or by a content that is expected there
abbrev pub IsOwed : ℕ → ℕ → Wire → Type 0
IsOwed n c b = IsRequested n c b ⊎ IsExpected n c b
