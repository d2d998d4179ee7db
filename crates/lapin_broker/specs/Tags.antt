-- The tags that a channel may deliver to: a set, in order of joining. (AMQP 0-9-1, `basic.consume`.)
use Rattle.std.specs.Prelude.{ℕ, Bool, true, false, if◌then◌else◌, not, List, [], ◌∷◌, ◌++◌, nat_eq, filter}
use Rattle.std.specs.List.{list_any}
use Rattle.std.specs.Cmp.Lexicographic.{pointwise}

-- the two texts have the same bytes in the same order
abbrev pub same_text : List ℕ → List ℕ → Bool
same_text a b = pointwise nat_eq a b

-- the text has no byte
abbrev pub is_empty : List ℕ → Bool
is_empty [] = true
is_empty (x ∷ xs) = false

-- this one of the tags is t
abbrev pub is_tag : List ℕ → List ℕ → Bool
is_tag t x = same_text x t

-- this one of the tags isn't t
abbrev pub isnt_tag : List ℕ → List ℕ → Bool
isnt_tag t x = not (is_tag t x)

-- the tag is among these
abbrev pub has_tag : List ℕ → List (List ℕ) → Bool
has_tag t tags = list_any (is_tag t) tags

-- the tags with this one, which joins at the back where it isn't there
abbrev pub with_tag : List ℕ → List (List ℕ) → List (List ℕ)
with_tag t tags = if has_tag t tags then tags else tags ++ t ∷ []

-- the tags without this one, the others in their order
abbrev pub without_tag : List ℕ → List (List ℕ) → List (List ℕ)
without_tag t tags = filter (isnt_tag t) tags
