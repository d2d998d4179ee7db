-- The words of the command line are one command's at most.
use Rattle.std.proofs.Common.{◌≡◌, ◌≢◌, ℕ, ◌≤◌, ◌<◌, ◌^◌, List, [], ◌∷◌, length, refl, sym, ap, subst, ◌∙◌, arith, cond}
use Rattle.std.specs.Prelude.{codes, decimal, String, Option, Some, None, IfNone}
use Rattle.std.specs.Str.{bytes_eq}
use Rattle.std.specs.declared.alloc.Global.{Global}
use Rattle.std.proofs.lemmas.Fmt.{decimal_injective}
use Rattle.lapin_commands.specs.declared.words.Command.{Command}
use Rattle.lapin_commands.specs.declared.words.Command.TheVariants as command
use Rattle.lapin_commands.specs.Words.{words_of, IsCommand, Say, SayNothing, bytes_of, OfCommand}

first_is : (a b c d : List ℕ) → a ∷ b ∷ [] ≡ c ∷ d ∷ [] → a ≡ c
first_is a b c d e = cc

second_is : (a b c d : List ℕ) → a ∷ b ∷ [] ≡ c ∷ d ∷ [] → b ≡ d
second_is a b c d e = cc

-- ---- each command has a number of its own, which its words tell

abbrev kind : Command → ℕ
kind command.Session = 0
kind command.Joined = 1
kind command.Check = 2
kind command.Resend = 3
kind (command.Call queue) = 4
kind (command.Generate n) = 5

abbrev kind_of_word : List ℕ → ℕ
kind_of_word w = cond (bytes_eq w (codes "session")) 0 (cond (bytes_eq w (codes "joined")) 1 (cond (bytes_eq w (codes "check")) 2 (cond (bytes_eq w (codes "resend")) 3 (cond (bytes_eq w (codes "call")) 4 5))))

abbrev kind_in : List (List ℕ) → ℕ
kind_in [] = 6
kind_in (w ∷ ws) = kind_of_word w

kind_told : (c : Command) → kind_in (words_of c) ≡ kind c
kind_told command.Session = refl
kind_told command.Joined = refl
kind_told command.Check = refl
kind_told command.Resend = refl
kind_told (command.Call queue) = refl
kind_told (command.Generate n) = refl

same_kind : (a b : Command) → words_of a ≡ words_of b → kind a ≡ kind b
same_kind a b is = sym (kind_told a) ∙ ap kind_in is ∙ kind_told b

-- ---- so no words are two commands'

same_command : (a b : Command) → IsCommand a → IsCommand b → words_of a ≡ words_of b → kind a ≡ kind b → a ≡ b
same_command command.Session command.Session fa fb is k = refl
same_command command.Joined command.Joined fa fb is k = refl
same_command command.Check command.Check fa fb is k = refl
same_command command.Resend command.Resend fa fb is k = refl
same_command (command.Call q) (command.Call r) fa fb is k = ap command.Call (second_is (codes "call") q (codes "call") r is)
same_command (command.Generate n) (command.Generate m) fa fb is k =
    ap command.Generate (decimal_injective n m (omega (arith, fa.1)) (omega (arith, fb.1)) (second_is (codes "generate") (decimal n) (codes "generate") (decimal m) is))
same_command a b fa fb is k = absurd (omega (arith, k))

-- what holds of the command that was read holds of the command that the words are
pub of_command : (words : List (String Global)) (P : Command → Type 0) (c : Command) → Say (bytes_of words) c → P c → OfCommand words P
of_command words P c said p = record { holds = λ d say. let is = sym said.0 ∙ say.0 in subst P (same_command c d said.1 say.1 is (same_kind c d is)) p }

-- a number that is none of a command's
pub no_generate : (word number : List ℕ) (n : ℕ) → word ≢ codes "call" → number ≡ decimal n → n < 2 ^ 64 → (IsCommand (command.Generate n) → ⊥) → SayNothing (word ∷ number ∷ [])
no_generate word number n away is wide other command.Session said = absurd cc
no_generate word number n away is wide other command.Joined said = absurd cc
no_generate word number n away is wide other command.Check said = absurd cc
no_generate word number n away is wide other command.Resend said = absurd cc
no_generate word number n away is wide other (command.Call q) said = away (first_is word number (codes "call") q said.0)
no_generate word number n away is wide other (command.Generate m) said =
    let text : number ≡ decimal m = second_is word number (codes "generate") (decimal m) said.0 in
    let k : m ≡ n = decimal_injective m n (omega (arith, said.1.1)) wide (sym text ∙ is) in
    other (subst (λ (x : ℕ). IsCommand (command.Generate x)) k said.1)

-- a text that is no number is none of a command's
pub no_number : (word number : List ℕ) → word ≢ codes "call" → ((n : ℕ) → n < 2 ^ 64 → number ≡ decimal n → ⊥) → SayNothing (word ∷ number ∷ [])
no_number word number away none command.Session said = absurd cc
no_number word number away none command.Joined said = absurd cc
no_number word number away none command.Check said = absurd cc
no_number word number away none command.Resend said = absurd cc
no_number word number away none (command.Call q) said = away (first_is word number (codes "call") q said.0)
no_number word number away none (command.Generate m) said = none m (omega (arith, said.1.1)) (second_is word number (codes "generate") (decimal m) said.0)

-- a queue that is too long is none of a command's
pub no_call : (queue : List ℕ) → 255 < length queue → SayNothing (codes "call" ∷ queue ∷ [])
no_call queue long command.Session said = absurd cc
no_call queue long command.Joined said = absurd cc
no_call queue long command.Check said = absurd cc
no_call queue long command.Resend said = absurd cc
no_call queue long (command.Call q) said = let same : length queue ≡ length q = ap length (second_is (codes "call") queue (codes "call") q said.0) in omega (arith, said.1.1, same, long)
no_call queue long (command.Generate n) said = absurd cc

-- one that isn't is a command's
pub some_call : (queue : List ℕ) → 1 ≤ length queue → length queue ≤ 255 → SayNothing (codes "call" ∷ queue ∷ []) → ⊥
some_call queue some short none = none (command.Call queue) (refl, (some, short))

-- where a number is none of `generate`'s, the words are no command's
pub no_generated : (o : Option Command) (word number : List ℕ) (n : ℕ) → word ≢ codes "call" → number ≡ decimal n → n < 2 ^ 64 → IfNone o (IsCommand (command.Generate n) → ⊥) → IfNone o (SayNothing (word ∷ number ∷ []))
no_generated None word number n away is wide none = no_generate word number n away is wide none
no_generated (Some c) word number n away is wide none = tt
