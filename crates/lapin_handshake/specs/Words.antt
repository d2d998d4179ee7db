-- The words of a list that a broker gives, as of its mechanisms and its locales: single spaces part them (AMQP 0-9-1, connection.start).
use Rattle.std.specs.Prelude.{ℕ, ◌==◌, ◌&&◌, Bool, List, [], ◌∷◌, length, if◌then◌else◌, nat_lt}
use Rattle.std.specs.List.{list_any, slice_split, before_first}
use Rattle.std.specs.Str.{bytes_eq}

-- what parts words
abbrev pub is_space : ℕ → Bool
is_space b = b == 32

-- a list has that word
abbrev pub lists : List ℕ → List ℕ → Bool
lists list word = list_any (λ w. bytes_eq w word) (slice_split is_space list)

-- the locale that each broker has by the standard: en_US
abbrev pub english : List ℕ
english = 101 ∷ 110 ∷ 95 ∷ 85 ∷ 83 ∷ []

-- a word of a list of locales that can be said: it isn't empty, and a short text has room for it
abbrev pub is_locale : List ℕ → Bool
is_locale word = nat_lt 0 (length word) && nat_lt (length word) 256

-- the locale that is said: en_US where the list has it, and else the first of the list, where that can be said
abbrev pub locale_of : List ℕ → List ℕ
locale_of list = if lists list english then english else if is_locale (before_first is_space list) then before_first is_space list else english
