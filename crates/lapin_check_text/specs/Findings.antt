-- The lines of an account and of a finding.
use Rattle.std.specs.Prelude.{ℕ, List, [], ◌∷◌, ◌++◌, codes, decimal, Option, Some, None, if◌then◌else◌}
use Rattle.std.specs.List.{flat_map}
use Rattle.lapin_check.specs.declared.account.Settled.{Settled}
use Rattle.lapin_check.specs.declared.account.Counted.{Counted}
use Rattle.lapin_check.specs.declared.finding.BreakRule.{BreakRule}
use Rattle.lapin_check.specs.declared.finding.BreakRule.TheVariants as breaks
use Rattle.lapin_check.specs.declared.finding.SendRule.{SendRule}
use Rattle.lapin_check.specs.declared.finding.SendRule.TheVariants as refuses
use Rattle.lapin_check.specs.declared.finding.Finding.{Finding}
use Rattle.lapin_check.specs.declared.finding.Finding.TheVariants as found

-- a word and a number with a space between them
abbrev pub numbered_text : List ℕ → ℕ → List ℕ
numbered_text word n = word ++ 32 ∷ decimal n

-- a word, a place and a rule's name
abbrev pub rule_text : List ℕ → ℕ → List ℕ → List ℕ
rule_text word place rule = word ++ 32 ∷ decimal place ++ 32 ∷ rule

-- a settlement: its kind and place, or a dash where there is none
abbrev pub settled_text : Option Settled → List ℕ
settled_text None = codes "-"
settled_text (Some s) = numbered_text (if s.ack then codes "ack" else codes "nack") s.place

-- an entry: its channel, opening, number and place, and its settlement
abbrev pub counted_line : Counted → List ℕ
counted_line k = codes "publish " ++ decimal k.channel ++ 32 ∷ decimal k.opening ++ 32 ∷ decimal k.number ++ 32 ∷ decimal k.place ++ 32 ∷ settled_text k.settled

-- the name of a rule by which a frame breaks the broker
abbrev pub break_name : BreakRule → List ℕ
break_name breaks.SecondClose = codes "SecondClose"
break_name breaks.StrayCloseOk = codes "StrayCloseOk"
break_name breaks.AfterClose = codes "AfterClose"
break_name breaks.ContentExpected = codes "ContentExpected"
break_name breaks.BadContent = codes "BadContent"
break_name breaks.ChannelFree = codes "ChannelFree"
break_name breaks.ChannelBusy = codes "ChannelBusy"
break_name breaks.NotForBroker = codes "NotForBroker"

-- the name of a rule by which a frame may not be sent
abbrev pub send_name : SendRule → List ℕ
send_name refuses.Silent = codes "Silent"
send_name refuses.ChannelState = codes "ChannelState"
send_name refuses.ContentOpen = codes "ContentOpen"
send_name refuses.NoContent = codes "NoContent"
send_name refuses.BadSettlement = codes "BadSettlement"
send_name refuses.UnknownTag = codes "UnknownTag"
send_name refuses.RequestsWaiting = codes "RequestsWaiting"
send_name refuses.NotFirstReply = codes "NotFirstReply"
send_name refuses.NotForClient = codes "NotForClient"

-- a finding: fine, or what is wrong, the frame's place, and the rule
abbrev pub finding_line : Finding → List ℕ
finding_line found.Fine = codes "fine"
finding_line (found.Broken place rule) = rule_text (codes "broken") place (break_name rule)
finding_line (found.NotAllowed place rule) = rule_text (codes "notallowed") place (send_name rule)

-- the text of an account: a line an entry
abbrev pub account_text : List Counted → List ℕ
account_text account = flat_map (λ k. counted_line k ++ 10 ∷ []) account

-- the lines of an account at the end of a text
abbrev pub account_onto : List ℕ → List Counted → List ℕ
account_onto out [] = out
account_onto out (k ∷ ks) = account_onto ((out ++ counted_line k) ++ 10 ∷ []) ks

-- the text of a check: the account, and the line of what is found
abbrev pub check_text : List Counted → Finding → List ℕ
check_text account finding = account_text account ++ finding_line finding ++ 10 ∷ []
