-- Steps through the bytes of a token.
use Rattle.std.specs.Prelude.{◌≡◌, ℕ, Bool, true, false, ◌==◌, ◌||◌, List, [], ◌∷◌, Option, Some, None, Result, Ok, Err, if◌then◌else◌}
use Rattle.lapin_scalars.specs.declared.fault.ReadError.{ReadError}
use Rattle.lapin_scalars.specs.declared.fault.ReadError.TheVariants as errors
use Rattle.lapin_scalars.specs.Reading.{Fails}

infixl 10 ◌>>=◌
-- what the next step answers with what was read, and nothing where nothing was read
abbrev pub ◌>>=◌ : {A B : Type 0} → Option A → (A → Option B) → Option B
(Some x) >>= f = f x
None >>= f = None

-- what stands behind the mark that the bytes begin with
abbrev pub after_mark : ℕ → List ℕ → Option (List ℕ)
after_mark mark [] = None
after_mark mark (b ∷ bs) = if b == mark then Some bs else None

-- what stands behind the text that the bytes begin with
abbrev pub after_text : List ℕ → List ℕ → Option (List ℕ)
after_text [] bytes = Some bytes
after_text (c ∷ cs) bytes = after_mark c bytes >>= λ rest. after_text cs rest

-- what ends a single value: a comma, an equals sign or a closing bracket
abbrev pub is_separator : ℕ → Bool
is_separator b = ((b == 44 || b == 61) || b == 93) || b == 125

-- the bytes up to the first that ends a value, and the bytes from there on
abbrev pub word_of : List ℕ → List ℕ
word_of [] = []
word_of (b ∷ bs) = if is_separator b then [] else b ∷ word_of bs

-- the bytes from the first that ends a value on; none where no byte ends it
abbrev pub after_word : List ℕ → List ℕ
after_word [] = []
after_word (b ∷ bs) = if is_separator b then b ∷ bs else after_word bs

-- What a function returned, and what it left to be read, are what reading gives, unless memory ran out.
abbrev pub Gives : {X R : Type 0} → Result X ReadError → R → Option (X × R) → Type 0
Gives (Ok x) rest read = read ≡ Some (x, rest)
Gives (Err e) rest read = Fails e read

-- the same of what a function returned as it is seen
abbrev pub GivesAs : {X Y R : Type 0} → (X → Y) → Result X ReadError → R → Option (Y × R) → Type 0
GivesAs view (Ok x) rest read = read ≡ Some (view x, rest)
GivesAs view (Err e) rest read = Fails e read

-- the same of a function that only moves on
abbrev pub GivesRest : {R : Type 0} → Result (Unit {0}) ReadError → R → Option R → Type 0
GivesRest (Ok u) rest read = read ≡ Some rest
GivesRest (Err e) rest read = Fails e read

-- a test moved on where there was something to read, and else left all as it was
abbrev pub Moved : Bool → List ℕ → List ℕ → Option (List ℕ) → Type 0
Moved true old new read = read ≡ Some new
Moved false old new read = (read ≡ None) × (new ≡ old)

-- an error exactly where something is left
abbrev pub Ends : Result (Unit {0}) ReadError → List ℕ → Type 0
Ends (Ok u) left = left ≡ []
Ends (Err e) left = (e ≡ errors.Bad) × (left ≡ [] → ⊥)
