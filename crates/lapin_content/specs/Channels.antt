-- The contents that all channels expect, as a machine: what each mark of a history does to them.
use Rattle.std.specs.Prelude.{ℕ, List, [], ◌∷◌, ◌++◌, Option, Some, None, drop}
use Rattle.lapin_tables.specs.ByChannel.{at_channel, on_channel}
use Rattle.lapin_content.specs.Contents.{Expected, expected, after_header, after_body}
use Rattle.lapin_content.specs.Marks.{ContentMark}
use Rattle.lapin_content.specs.Marks as mark

-- the channels that ever expected a content, in order of first use, each with what it expects, the oldest first
abbrev pub Channels : Type 0
Channels = List (ℕ × List Expected)

-- what a channel's entry lists; nothing where the channel has no entry
abbrev pub listed : Option (List Expected) → List Expected
listed None = []
listed (Some es) = es

-- the contents that a channel expects
abbrev pub expected_on : ℕ → Channels → List Expected
expected_on c all = listed (at_channel c all)

-- one more is expected behind the others of its channel, which joins at the back where it has no entry yet
abbrev pub joined_at : Option (List Expected) → ℕ → Expected → Channels → Channels
joined_at None c e all = all ++ (c, e ∷ []) ∷ []
joined_at (Some es) c e all = on_channel c (λ es. es ++ e ∷ []) all

-- one more content is expected on the channel, behind the others
abbrev pub joined : ℕ → Expected → Channels → Channels
joined c e all = joined_at (at_channel c all) c e all

-- a mark is about its channel alone
abbrev pub after_mark : Channels → ContentMark → Channels
after_mark all (mark.Awaited c k s) = joined c (expected k s) all
after_mark all (mark.Header c h) = on_channel c (after_header h) all
after_mark all (mark.Body c bytes) = on_channel c (after_body bytes) all
after_mark all (mark.Reset c) = on_channel c (drop 1) all
after_mark all (mark.Dropped c) = on_channel c (λ _. []) all
