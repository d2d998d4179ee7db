-- What becomes of bytes of the broker while a connection is opened.
use Rattle.std.specs.Prelude.{◌≡◌, ◌<◌, ℕ, Bool, true, false, List, ◌++◌, take, Some, None, Ok, Err, ◌⊎◌, nat_lt}
use Rattle.lapin_fields.specs.Around.{wanted_behind}
use Rattle.lapin_handshake.specs.declared.fault.Unsaid.{Unsaid}
use Rattle.lapin_handshake.specs.declared.fault.Unsaid.TheVariants as unsaid
use Rattle.lapin_handshake.specs.declared.handshake.Handshake.{Handshake}
use Rattle.lapin_handshake.specs.declared.handshake.Stage.TheVariants as stage
use Rattle.lapin_handshake.specs.declared.handshake.Refusal.{Refusal}
use Rattle.lapin_handshake.specs.declared.handshake.Refusal.TheVariants as refusal
use Rattle.lapin_handshake.specs.declared.handshake.Reply.{Reply}
use Rattle.lapin_handshake.specs.declared.handshake.Reply.TheVariants as reply
use Rattle.lapin_handshake.specs.declared.said.Said.{Said}
use Rattle.lapin_handshake.specs.declared.shaking.Shaken.{Shaken}
use Rattle.lapin_handshake.specs.declared.shaking.Shaken.TheVariants as shaken
use Rattle.lapin_handshake.specs.Callers.{Who, AreUntellable}
use Rattle.lapin_handshake.specs.Saying.{frame_said_at}
use Rattle.lapin_handshake.specs.Starting.{start_in, locale_in}
use Rattle.lapin_handshake.specs.Handshaking.{reply_to, after}
use Rattle.lapin_handshake.specs.Replies.{reply_bytes, ReplyFits}

-- the connection isn't opened
abbrev pub refused : Handshake → Handshake
refused h = record { stage = stage.Refused; mechanism = h.mechanism; limits = h.limits }

-- what is written where the connection is refused: a close is answered, and nothing else
abbrev pub last_reply : Refusal → Reply
last_reply (refusal.Closed code) = reply.CloseOk
last_reply _ = reply.Nothing

-- what was said is answered: the opening goes on by it, and the octets of its reply were added
abbrev pub IsAnswered : Shaken → Said → Who → List ℕ → Handshake → Handshake → List ℕ → List ℕ → Type 0
IsAnswered shaken.Part said who locale h h' old new = ⊥
IsAnswered shaken.Read said who locale h h' old new =
    (r : Reply) × (reply_to h said ≡ Ok r) × ((h' ≡ after h said) × (new ≡ old ++ reply_bytes who locale r))
IsAnswered (shaken.Refused e) said who locale h h' old new =
    (reply_to h said ≡ Err e) × (h' ≡ after h said) × (new ≡ old ++ reply_bytes who locale (last_reply e))

-- the locale that is said in answer to what stands at the head of octets
abbrev pub locale_at : List ℕ → List ℕ
locale_at bytes = locale_in (start_in bytes)

-- the frame at the head of octets is longer than one of an opening may be: by its size, which its first seven tell, however much of it is there
abbrev pub too_long : List ℕ → Bool
too_long bytes = nat_lt 131072 (wanted_behind (take 7 bytes))

-- no frame of an opening: one that is too long, as soon as its size is there, or a whole one that says nothing of an opening
abbrev pub IsMalformed : List ℕ → Type 0
IsMalformed bytes = (too_long bytes ≡ true) ⊎ ((wanted_behind bytes ≡ 0) × (frame_said_at bytes ≡ None))

-- What was done: nothing where octets of the first frame are wanted still; what it says was answered; and where it is no frame of an opening
-- the connection is refused.
abbrev pub IsShaken : Shaken → List ℕ → Who → Handshake → Handshake → List ℕ → List ℕ → Type 0
IsShaken shaken.Part bytes who h h' old new = (0 < wanted_behind bytes) × (too_long bytes ≡ false) × (h' ≡ h) × (new ≡ old)
IsShaken r bytes who h h' old new =
    ((s : Said) × (too_long bytes ≡ false) × (frame_said_at bytes ≡ Some s) × IsAnswered r s who (locale_at bytes) h h' old new)
    ⊎ ((r ≡ shaken.Refused refusal.Malformed) × (h' ≡ refused h) × (new ≡ old) × IsMalformed bytes)

-- Why something that was said isn't answered: its reply has no room, unless memory ran out.
abbrev pub Unanswered : Unsaid → Said → Who → List ℕ → Handshake → Type 0
Unanswered unsaid.NoMemory said who locale h = Unit {0}
Unanswered unsaid.TooLong said who locale h = (r : Reply) × (reply_to h said ≡ Ok r) × (ReplyFits who locale r → ⊥)
Unanswered unsaid.NotPairs said who locale h = ⊥

-- Why nothing was done with octets of the broker: the caller's pairs can't be told, or what their first frame says isn't answered.
abbrev pub Unshaken : Unsaid → List ℕ → Who → Handshake → Type 0
Unshaken unsaid.NotPairs bytes who h = AreUntellable who.pairs
Unshaken unsaid.TooLong bytes who h = (s : Said) × (too_long bytes ≡ false) × (frame_said_at bytes ≡ Some s) × Unanswered unsaid.TooLong s who (locale_at bytes) h
Unshaken unsaid.NoMemory bytes who h = Unit {0}
