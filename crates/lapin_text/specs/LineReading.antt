-- Reading frames, events and lines from left to right.
use Rattle.std.specs.Prelude.{ℕ, List, [], ◌∷◌, codes, Option, Some, None, ◌==◌}
use Rattle.std.specs.Str.{bytes_eq}
use Rattle.std.specs.List.{find, slice_split}
use Rattle.lapin_types.specs.Types.{Frame}
use Rattle.lapin_types.specs.Types.frame
use Rattle.lapin_types.specs.declared.event.Event.{Event}
use Rattle.lapin_types.specs.declared.event.Event.TheVariants as event
use Rattle.lapin_types.specs.declared.acker_call.AckerCall.{AckerCall}
use Rattle.lapin_types.specs.declared.acker_call.AckerCall.TheVariants as acker_call
use Rattle.lapin_text.specs.declared.words.Word.{Word}
use Rattle.lapin_text.specs.declared.words.Word.TheVariants as word
use Rattle.lapin_text.specs.declared.words.TheConstants.{WORDS}
use Rattle.lapin_tokens.specs.Fields.{short_number, wide_number}
use Rattle.lapin_tokens.specs.Fields.Field.{flag}
use Rattle.lapin_tokens.specs.Reading.{◌>>=◌, field_at, fields_at}
use Rattle.lapin_method_text.specs.MethodReading.{method_at}
use Rattle.lapin_text.specs.Frames.{header_fields, body_fields}
use Rattle.lapin_text.specs.CallText.{call_at}

-- ---- the words that begin a frame, an event or the call of an acker

-- each word's text
abbrev pub word_text : Word → List ℕ
word_text word.Method = codes "method"
word_text word.Header = codes "header"
word_text word.Body = codes "body"
word_text word.Call = codes "call"
word_text word.Next = codes "next"
word_text word.Recv = codes "recv"
word_text word.Ticket = codes "ticket"
word_text word.Confirm = codes "confirm"
word_text word.Consumer = codes "consumer"
word_text word.Wait = codes "wait"
word_text word.AsideTicket = codes "aside-ticket"
word_text word.AsideConfirm = codes "aside-confirm"
word_text word.Acker = codes "acker"
word_text word.Delegate = codes "delegate"
word_text word.Drop = codes "drop"
word_text word.Job = codes "job"
word_text word.State = codes "state"
word_text word.Lost = codes "lost"
word_text word.Ack = codes "ack"
word_text word.Nack = codes "nack"
word_text word.Reject = codes "reject"

unfoldable pub word_at : List ℕ → Option Word
word_at piece = find (λ w. bytes_eq (word_text w) piece) WORDS

-- ---- frames

-- the frame that a word and the pieces behind it make, and the pieces that are left
abbrev pub frame_of_word : Word → List (List ℕ) → Option (Frame × List (List ℕ))
frame_of_word word.Method pieces = do
  channel ← field_at short_number pieces
  method ← method_at channel.1
  Some (frame.Method channel.0 method.0, method.1)
frame_of_word word.Header pieces = fields_at header_fields (λ v. frame.Header v.0 (record { class_id = v.1.0; body_size = v.1.1.0; properties = v.1.1.1.0 })) pieces
frame_of_word word.Body pieces = fields_at body_fields (λ v. frame.Body v.0 v.1.0) pieces
frame_of_word _ pieces = None

unfoldable pub frame_at : List (List ℕ) → Option (Frame × List (List ℕ))
frame_at [] = None
frame_at (piece ∷ rest) = word_at piece >>= λ w. frame_of_word w rest

-- ---- calls of an acker

-- the acker's call that a word and the pieces behind it make, and the pieces that are left
abbrev pub acker_call_of_word : Word → List (List ℕ) → Option (AckerCall × List (List ℕ))
acker_call_of_word word.Ack pieces = fields_at (flag ∷ []) (λ v. acker_call.Ack (record { multiple = v.0 })) pieces
acker_call_of_word word.Nack pieces = fields_at (flag ∷ flag ∷ []) (λ v. acker_call.Nack (record { multiple = v.0; requeue = v.1.0 })) pieces
acker_call_of_word word.Reject pieces = fields_at (flag ∷ []) (λ v. acker_call.Reject (record { requeue = v.0 })) pieces
acker_call_of_word _ pieces = None

unfoldable pub acker_call_at : List (List ℕ) → Option (AckerCall × List (List ℕ))
acker_call_at [] = None
acker_call_at (piece ∷ rest) = word_at piece >>= λ w. acker_call_of_word w rest

-- ---- events

-- the event that a word and the pieces behind it make, and the pieces that are left
abbrev pub event_of_word : Word → List (List ℕ) → Option (Event × List (List ℕ))
event_of_word word.Call pieces = do
  channel ← field_at short_number pieces
  call ← call_at channel.1
  Some (event.Call channel.0 call.0, call.1)
event_of_word word.Next pieces = fields_at (flag ∷ []) (λ v. event.Next v.0) pieces
event_of_word word.Recv pieces = frame_at pieces >>= λ f. Some (event.Receive f.0, f.1)
event_of_word word.Ticket pieces = fields_at (wide_number ∷ []) (λ v. event.PollTicket v.0) pieces
event_of_word word.Confirm pieces = fields_at (wide_number ∷ []) (λ v. event.PollConfirm v.0) pieces
event_of_word word.Consumer pieces = fields_at (wide_number ∷ []) (λ v. event.PollConsumer v.0) pieces
event_of_word word.Wait pieces = fields_at (short_number ∷ []) (λ v. event.PollWait v.0) pieces
event_of_word word.AsideTicket pieces = fields_at (wide_number ∷ []) (λ v. event.AsideTicket v.0) pieces
event_of_word word.AsideConfirm pieces = fields_at (wide_number ∷ []) (λ v. event.AsideConfirm v.0) pieces
event_of_word word.Acker pieces = do
  number ← field_at wide_number pieces
  call ← acker_call_at number.1
  Some (event.Acker number.0 call.0, call.1)
event_of_word word.Delegate pieces = fields_at (wide_number ∷ []) (λ v. event.Delegate v.0) pieces
event_of_word word.Drop pieces = fields_at (wide_number ∷ []) (λ v. event.DropConsumer v.0) pieces
event_of_word word.Job pieces = Some (event.NextJob, pieces)
event_of_word word.State pieces = fields_at (short_number ∷ []) (λ v. event.State v.0) pieces
event_of_word word.Lost pieces = Some (event.Lost, pieces)
event_of_word _ pieces = None

unfoldable pub event_at : List (List ℕ) → Option (Event × List (List ℕ))
event_at [] = None
event_at (piece ∷ rest) = word_at piece >>= λ w. event_of_word w rest

-- ---- whole texts

-- nothing may follow
abbrev pub whole : {A : Type 0} → Option (A × List (List ℕ)) → Option A
whole None = None
whole (Some x) = if_none x.1 x.0
  where
    if_none : {A : Type 0} → List (List ℕ) → A → Option A
    if_none [] e = Some e
    if_none (_ ∷ _) e = None

-- the frame whose text the bytes are
unfoldable pub frame_text_at : List ℕ → Option Frame
frame_text_at text = whole (frame_at (slice_split (λ b. b == 32) text))

-- the event whose line the bytes are
unfoldable pub line_at : List ℕ → Option Event
line_at line = whole (event_at (slice_split (λ b. b == 32) line))
