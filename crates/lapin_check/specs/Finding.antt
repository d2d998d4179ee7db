-- What a check finds in a transcript.
use Rattle.std.specs.Prelude.{ℕ, suc, Bool, not, if◌then◌else◌, List, [], ◌∷◌}
use Rattle.lapin_broker.specs.States.{Broker, new_broker, is_broken}
use Rattle.lapin_broker.specs.Reads.{read}
use Rattle.lapin_broker.specs.Sends.{may, send}
use Rattle.lapin_check.specs.declared.seen.Seen.{Seen}
use Rattle.lapin_check.specs.declared.seen.Seen.TheVariants as seen
use Rattle.lapin_check.specs.declared.finding.Finding.{Finding}
use Rattle.lapin_check.specs.declared.finding.Finding.TheVariants as found
use Rattle.lapin_check.specs.Rules.{break_rule, send_rule}

-- the broker after it read or sent what is seen
abbrev pub after_seen : Seen → Broker → Broker
after_seen (seen.Up f) b = read b f
after_seen (seen.Down f) b = send b f

-- the broker reads a frame up without becoming Broken, and may send a frame down
abbrev pub fits : Broker → Seen → Bool
fits b (seen.Up f) = not (is_broken (read b f).connection)
fits b (seen.Down f) = may b f

-- what is wrong with a frame that doesn't fit: Broken where it is up, not allowed where it is down, with its place and its rule
abbrev pub fault : ℕ → Broker → Seen → Finding
fault place b (seen.Up f) = found.Broken place (break_rule b f)
fault place b (seen.Down f) = found.NotAllowed place (send_rule b f)

-- the first of these frames that doesn't fit, the first of which has the place after this one; fine where all do
abbrev pub finding_from : ℕ → Broker → List Seen → Finding
finding_from place b [] = found.Fine
finding_from place b (x ∷ xs) = if fits b x then finding_from (suc place) (after_seen x b) xs else fault (suc place) b x

-- what is found where a new broker reads and sends the frames of a transcript in order
abbrev pub finding : ℕ → List Seen → Finding
finding frame_max transcript = finding_from 0 (new_broker frame_max) transcript

-- the frames before the first that doesn't fit
abbrev pub fitting : Broker → List Seen → List Seen
fitting b [] = []
fitting b (x ∷ xs) = if fits b x then x ∷ fitting (after_seen x b) xs else []
