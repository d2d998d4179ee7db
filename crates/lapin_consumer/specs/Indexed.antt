-- How the index by channel and the seats hang together. No public clause cites this module.
use Rattle.std.specs.Prelude.{◌≡◌, ℕ, suc, ◌<◌, ◌≤◌, ◌==◌, Bool, true, false, if◌then◌else◌, List, [], ◌∷◌, ◌++◌, Option, Some, None, map, length, slice_get, String, string_bytes}
use Rattle.std.specs.List.{count_by, list_any}
use Rattle.std.specs.Map.{lookup}
use Rattle.std.specs.Str.{bytes_eq}
use Rattle.lapin_tables.specs.ByChannel.{at_channel}
use Rattle.lapin_consumer.specs.Subscriptions.{Consumer, is_on, is_under, place_under}
use Rattle.lapin_consumer.specs.WithRoom.{Reserved}

-- what a caller sees of a seat: the consumer, for how many more items there is room, and whether room was promised
pub record Seated : Type 0 where
  pub consumer : Consumer
  pub spare : ℕ
  pub promised : Bool

-- the room of a seat
abbrev pub reserved_of : Seated → Reserved
reserved_of s = record { items = s.spare; promised = s.promised }

-- to which seats room was promised
abbrev pub promised_of : List Seated → List Bool
promised_of seats = map (λ s. s.promised) seats

-- how many places are promised
abbrev pub count_promised : List Bool → ℕ
count_promised bs = count_by (λ b. b) bs

-- the entries of a map by the bytes of their keys
abbrev pub by_text : {Y : Type 0} → List (String Y × ℕ) → List (List ℕ × ℕ)
by_text es = map (λ e. (string_bytes e.0, e.1)) es

-- the places of a channel's registered consumers and of some that left, rising; the place of each registered one under its tag; and for
-- how many more there is room in each of the two
pub record Line : Type 0 where
  pub places : List ℕ
  pub tags : List (List ℕ × ℕ)
  pub place_spare : ℕ
  pub tag_spare : ℕ

-- the places that a channel's line names; none where the channel has no line
abbrev pub places_in : Option Line → List ℕ
places_in None = []
places_in (Some l) = l.places

-- the place that it has under a tag
abbrev pub tagged_in : List ℕ → Option Line → Option ℕ
tagged_in t None = None
tagged_in t (Some l) = lookup (bytes_eq t) l.tags

-- there is room for one more on the channel
abbrev pub HasLineRoom : Option Line → Type 0
HasLineRoom None = ⊥
HasLineRoom (Some l) = (0 < l.place_spare) × (0 < l.tag_spare)

-- the second line names what the first does
pub record NamesSame (l w : Option Line) : Type 0 where
  pub places : places_in w ≡ places_in l
  pub tags : (t : List ℕ) → tagged_in t w ≡ tagged_in t l

-- the line names nobody
pub record NamesNobody (l : Option Line) : Type 0 where
  pub places : places_in l ≡ []
  pub tags : (t : List ℕ) → tagged_in t l ≡ None

-- the second line is the first without the tag t
pub record HasLeft (t : List ℕ) (l w : Option Line) : Type 0 where
  pub places : places_in w ≡ places_in l
  pub tags : (u : List ℕ) → tagged_in u w ≡ (if bytes_eq t u then None else tagged_in u l)

-- the second line is the first with p above the others, under the tag t
pub record HasJoined (p : ℕ) (t : List ℕ) (l w : Option Line) : Type 0 where
  pub places : places_in w ≡ places_in l ++ p ∷ []
  pub tags : (u : List ℕ) → tagged_in u w ≡ (if bytes_eq t u then Some p else tagged_in u l)

-- the places rise from n on, and stay below m
abbrev pub RiseBetween : ℕ → ℕ → List ℕ → Type 0
RiseBetween n m [] = n ≤ m
RiseBetween n m (p ∷ ps) = (n ≤ p) × RiseBetween (suc p) m ps

-- the place is one of them
abbrev pub is_among : ℕ → List ℕ → Bool
is_among p ps = list_any (λ k. k == p) ps

-- there is a consumer, and it is registered on the channel
abbrev pub stays_on : ℕ → Option Consumer → Bool
stays_on c None = false
stays_on c (Some x) = is_on c x

-- the places rise, and those of the channel's registered consumers are among them; any other one's consumer left
pub record Lists (c : ℕ) (xs : List Consumer) (ps : List ℕ) : Type 0 where
  pub rise : RiseBetween 0 (length xs) ps
  pub all : (p : ℕ) (x : Consumer) → slice_get xs p ≡ Some x → is_on c x ≡ true → is_among p ps ≡ true

-- Each channel's line lists its registered consumers, and has exactly these under their tags; no two are registered under one tag.
pub record Indexed (lines : List (ℕ × Line)) (xs : List Consumer) : Type 0 where
  pub lists : (c : ℕ) → Lists c xs (places_in (at_channel c lines))
  pub tags : (c : ℕ) (t : List ℕ) → tagged_in t (at_channel c lines) ≡ place_under c t xs
  pub alone : (c : ℕ) (t : List ℕ) (i j : ℕ) (x y : Consumer) → slice_get xs i ≡ Some x → slice_get xs j ≡ Some y → is_under c t x ≡ true → is_under c t y ≡ true → i ≡ j

-- the seats of the consumers that pass have room for an error and an end, beside what may be promised
abbrev pub FitWhere : (Consumer → Bool) → List Seated → Type 0
FitWhere q seats = (p : ℕ) (s : Seated) → slice_get seats p ≡ Some s → q s.consumer ≡ true → 3 ≤ s.spare

-- every seat of the channel has it
abbrev pub EndsFit : ℕ → List Seated → Type 0
EndsFit c seats = FitWhere (is_on c) seats
