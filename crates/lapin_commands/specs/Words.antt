-- The words of the command line, behind the program's name.
use Rattle.std.specs.Prelude.{◌≡◌, ◌≤◌, List, [], ◌∷◌, ℕ, length, map, String, string_bytes, codes, decimal}
use Rattle.std.specs.declared.alloc.Global.{Global}
use Rattle.lapin_generate.specs.Generated.{most_publishes}
use Rattle.lapin_commands.specs.declared.words.Command.{Command}
use Rattle.lapin_commands.specs.declared.words.Command.TheVariants as command

-- the words of each command
abbrev pub words_of : Command → List (List ℕ)
words_of command.Session = codes "session" ∷ []
words_of command.Joined = codes "joined" ∷ []
words_of command.Check = codes "check" ∷ []
words_of command.Resend = codes "resend" ∷ []
words_of (command.Call queue) = codes "call" ∷ queue ∷ []
words_of (command.Generate n) = codes "generate" ∷ decimal n ∷ []

-- `generate` makes from 1 to 10,000 publishes, and the queue of `call` has 1 to 255 bytes, which are UTF-8 as every word is
abbrev pub IsCommand : Command → Type 0
IsCommand (command.Call queue) = (1 ≤ length queue) × (length queue ≤ 255)
IsCommand (command.Generate n) = (1 ≤ n) × (n ≤ most_publishes)
IsCommand _ = Unit {0}

-- the words are this command's
abbrev pub Say : List (List ℕ) → Command → Type 0
Say words c = (words ≡ words_of c) × IsCommand c

-- the words are no command's
abbrev pub SayNothing : List (List ℕ) → Type 0
SayNothing words = (c : Command) → Say words c → ⊥

-- the bytes of each word
abbrev pub bytes_of : List (String Global) → List (List ℕ)
bytes_of words = map string_bytes words

-- what holds of the command that the words are, if they are one's
pub record OfCommand (words : List (String Global)) (P : Command → Type 0) : Type 0 where
  pub holds : (c : Command) → Say (bytes_of words) c → P c
