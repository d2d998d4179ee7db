-- What a fault of a reply says of the opening.
use Rattle.std.proofs.Common.{◌≡◌, ℕ, false, List, Some, Ok, Err, sym, subst, inl}
use Rattle.lapin_fields.specs.Fits.{Refused}
use Rattle.lapin_fields.specs.declared.fault.WriteFault.{WriteFault}
use Rattle.lapin_fields.specs.declared.fault.WriteFault.TheVariants as faults
use Rattle.lapin_handshake.specs.declared.fault.Unsaid.{Unsaid}
use Rattle.lapin_handshake.specs.declared.fault.Unsaid.TheVariants as unsaid
use Rattle.lapin_handshake.specs.declared.handshake.Handshake.{Handshake}
use Rattle.lapin_handshake.specs.declared.handshake.Reply.{Reply}
use Rattle.lapin_handshake.specs.declared.said.Said.{Said}
use Rattle.lapin_handshake.specs.declared.shaking.Shaken.{Shaken}
use Rattle.lapin_handshake.specs.declared.shaking.Shaken.TheVariants as shakens
use Rattle.lapin_handshake.specs.Callers.{Who}
use Rattle.lapin_handshake.specs.Faults.{unsaid_of, Untellable}
use Rattle.lapin_handshake.specs.Handshaking.{reply_to}
use Rattle.lapin_handshake.specs.Replies.{ReplyFits}
use Rattle.lapin_handshake.specs.Saying.{frame_said_at}
use Rattle.lapin_handshake.specs.Shaking.{IsAnswered, IsShaken, Unanswered, Unshaken, locale_at, too_long}

without_room : (e : WriteFault) (s : Said) (who : Who) (locale : List ℕ) (h : Handshake) (r : Reply) → reply_to h s ≡ Ok r → Refused (Err e) (ReplyFits who locale r) → Unanswered (unsaid_of e) s who locale h
without_room faults.NoMemory s who locale h r told why = tt
without_room faults.TooLong s who locale h r told why = (r, told, why)
without_room faults.TooDeep s who locale h r told why = (r, told, why)
without_room faults.AboveLimit s who locale h r told why = absurd why

-- a reply that has no room isn't given
pub unanswered : (e : WriteFault) (u : Unsaid) (s : Said) (who : Who) (locale : List ℕ) (h : Handshake) (r : Reply) → u ≡ unsaid_of e → reply_to h s ≡ Ok r → Refused (Err e) (ReplyFits who locale r) → Unanswered u s who locale h
unanswered e u s who locale h r same told why = subst (λ (x : Unsaid). Unanswered x s who locale h) (sym same) (without_room e s who locale h r told why)

without_memory : (e : WriteFault) (s : Said) (who : Who) (locale : List ℕ) (h : Handshake) → Refused (Err e) (Unit {0}) → Unanswered (unsaid_of e) s who locale h
without_memory faults.NoMemory s who locale h why = tt
without_memory faults.TooLong s who locale h why = absurd (why tt)
without_memory faults.TooDeep s who locale h why = absurd (why tt)
without_memory faults.AboveLimit s who locale h why = absurd why

-- what has room is refused for want of memory alone
pub always : (e : WriteFault) (u : Unsaid) (s : Said) (who : Who) (locale : List ℕ) (h : Handshake) → u ≡ unsaid_of e → Refused (Err e) (Unit {0}) → Unanswered u s who locale h
always e u s who locale h same why = subst (λ (x : Unsaid). Unanswered x s who locale h) (sym same) (without_memory e s who locale h why)

-- pairs that can't be told keep all from being done
pub untold : (u : Unsaid) (bytes : List ℕ) (who : Who) (h : Handshake) → Untellable u who.pairs → Unshaken u bytes who h
untold unsaid.NotPairs bytes who h why = why
untold unsaid.TooLong bytes who h why = absurd why
untold unsaid.NoMemory bytes who h why = tt

-- so does a reply that isn't given
pub unshaken : (u : Unsaid) (bytes : List ℕ) (who : Who) (h : Handshake) (s : Said) (locale : List ℕ) → too_long bytes ≡ false → locale ≡ locale_at bytes → frame_said_at bytes ≡ Some s → Unanswered u s who locale h → Unshaken u bytes who h
unshaken unsaid.NotPairs bytes who h s locale brief same said why = absurd why
unshaken unsaid.TooLong bytes who h s locale brief same said why = (s, brief, said, subst (λ (l : List ℕ). Unanswered unsaid.TooLong s who l h) same why)
unshaken unsaid.NoMemory bytes who h s locale brief same said why = tt

-- and what was answered was done
pub shaken : (r : Shaken) (bytes : List ℕ) (who : Who) (h h' : Handshake) (old new : List ℕ) (s : Said) (locale : List ℕ) → too_long bytes ≡ false → locale ≡ locale_at bytes → frame_said_at bytes ≡ Some s → IsAnswered r s who locale h h' old new → IsShaken r bytes who h h' old new
shaken shakens.Part bytes who h h' old new s locale brief same said done = absurd done
shaken shakens.Read bytes who h h' old new s locale brief same said done = inl (s, brief, said, subst (λ (l : List ℕ). IsAnswered shakens.Read s who l h h' old new) same done)
shaken (shakens.Refused e) bytes who h h' old new s locale brief same said done = inl (s, brief, said, subst (λ (l : List ℕ). IsAnswered (shakens.Refused e) s who l h h' old new) same done)
