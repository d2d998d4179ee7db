-- Which mechanism is said, and what it tells.
use Rattle.std.proofs.Common.{◌≡◌, ◌≤◌, ◌<◌, ℕ, ◌==◌, ◌&&◌, Bool, true, false, List, length, Option, Some, None, Result, Ok, Err, if◌then◌else◌, nat_lt, arith, refl, sym, subst}
use Rattle.std.proofs.lemmas.Bool.{ltb-true}
use Rattle.std.specs.List.{before_first}
use Rattle.lapin_handshake.specs.declared.handshake.Handshake.{Handshake}
use Rattle.lapin_handshake.specs.declared.handshake.Limits.{Limits}
use Rattle.lapin_handshake.specs.declared.handshake.Refusal.{Refusal}
use Rattle.lapin_handshake.specs.declared.handshake.Refusal.TheVariants as refusal
use Rattle.lapin_handshake.specs.declared.handshake.Reply.{Reply}
use Rattle.lapin_handshake.specs.declared.handshake.Reply.TheVariants as reply
use Rattle.lapin_handshake.specs.declared.mechanism.Mechanism.{Mechanism}
use Rattle.lapin_handshake.specs.declared.mechanism.Mechanism.TheVariants as mechanism
use Rattle.lapin_handshake.specs.declared.mechanism.Offers.{Offers}
use Rattle.lapin_handshake.specs.declared.said.Said.{Said}
use Rattle.lapin_handshake.specs.declared.said.Said.TheVariants as said
use Rattle.lapin_handshake.specs.Handshaking.{saying, lesser, agreed, is_awaited, reply_of, reply_to, after_reply, after}
use Rattle.lapin_handshake.specs.Mechanisms.{word_of, offers_of, chosen, response_of}
use Rattle.lapin_handshake.specs.Replies.{start_end, start_ok_fields, reply_bytes, Says}
use Rattle.lapin_handshake.specs.Words.{english, is_locale, is_space, lists, locale_of}

-- an answer that says a mechanism says EXTERNAL
abbrev OnlyExternal : Result Reply Refusal → Type 0
OnlyExternal (Ok r) = Says mechanism.External r
OnlyExternal (Err e) = Unit {0}

starts : (known offered : Bool) → OnlyExternal (if known then saying (if offered then Some mechanism.External else None) else Err refusal.Version)
starts true true = refl
starts true false = tt
starts false offered = tt

tunes : (small : Bool) (limits : Limits) → OnlyExternal (if small then Err refusal.FrameMax else Ok (reply.Open limits))
tunes true limits = tt
tunes false limits = tt

-- what has its place is answered by EXTERNAL where that is the mechanism
of_external : (ours : Limits) (s : Said) → OnlyExternal (reply_of mechanism.External ours s)
of_external ours (said.Start major minor offers) = starts ((major == 0) && (minor == 9)) offers.external
of_external ours said.Secure = refl
of_external ours (said.Tune channel_max frame_max heartbeat) =
    let theirs : Limits = record { channel_max = channel_max; frame_max = frame_max; heartbeat = heartbeat } in
    tunes (nat_lt (lesser ours.frame_max frame_max) 4096) (agreed ours theirs)
of_external ours said.OpenOk = tt
of_external ours (said.Close code) = tt
of_external ours said.Blocked = tt
of_external ours said.Unblocked = tt
of_external ours said.Heartbeat = tt

placed : (awaited : Bool) (answer : Result Reply Refusal) → OnlyExternal answer → OnlyExternal (if awaited then answer else Err refusal.Unexpected)
placed true answer only = only
placed false answer only = tt

-- so each answer of such an opening is
answers_external : (h : Handshake) (s : Said) → h.mechanism ≡ mechanism.External → OnlyExternal (reply_to h s)
answers_external h s e =
    let P : Mechanism → Type 0 = λ m. OnlyExternal (reply_of m h.limits s) in
    placed (is_awaited h.stage s) (reply_of h.mechanism h.limits s) (subst P (sym e) (of_external h.limits s))

pub external_alone : (h : Handshake) (s : Said) (r : Reply) → h.mechanism ≡ mechanism.External → reply_to h s ≡ Ok r → Says mechanism.External r
external_alone h s r e told = subst OnlyExternal told (answers_external h s e)

-- what is left after such an answer
keeps : (answer : Result Reply Refusal) (s : Said) (h : Handshake) → h.mechanism ≡ mechanism.External → OnlyExternal answer → (after_reply answer s h).mechanism ≡ mechanism.External
keeps (Ok (reply.Open limits)) s h e only = e
keeps (Ok (reply.StartOk m)) s h e only = only
keeps (Ok reply.Nothing) said.OpenOk h e only = e
keeps (Ok reply.Nothing) (said.Start major minor offers) h e only = e
keeps (Ok reply.Nothing) said.Secure h e only = e
keeps (Ok reply.Nothing) (said.Tune channel_max frame_max heartbeat) h e only = e
keeps (Ok reply.Nothing) (said.Close code) h e only = e
keeps (Ok reply.Nothing) said.Blocked h e only = e
keeps (Ok reply.Nothing) said.Unblocked h e only = e
keeps (Ok reply.Nothing) said.Heartbeat h e only = e
keeps (Ok (reply.SecureOk m)) s h e only = e
keeps (Ok reply.CloseOk) s h e only = e
keeps (Err refused) s h e only = e

pub external_stays : (h : Handshake) (s : Said) → h.mechanism ≡ mechanism.External → (after h s).mechanism ≡ mechanism.External
external_stays h s e = keeps (reply_to h s) s h e (answers_external h s e)

-- neither the user nor the password stands in the fields of a start-ok and of a secure-ok by EXTERNAL
same_bytes : (r : Reply) (user password other secret vhost pairs locale : List ℕ) → Says mechanism.External r
    → reply_bytes (record { user = user; password = password; vhost = vhost; pairs = pairs }) locale r ≡ reply_bytes (record { user = other; password = secret; vhost = vhost; pairs = pairs }) locale r
unfolding start_ok_fields start_end response_of
same_bytes (reply.StartOk m) user password other secret vhost pairs locale e =
    let P : Mechanism → Type 0 = λ n. reply_bytes (record { user = user; password = password; vhost = vhost; pairs = pairs }) locale (reply.StartOk n) ≡ reply_bytes (record { user = other; password = secret; vhost = vhost; pairs = pairs }) locale (reply.StartOk n) in
    subst P (sym e) refl
same_bytes (reply.SecureOk m) user password other secret vhost pairs locale e =
    let P : Mechanism → Type 0 = λ n. reply_bytes (record { user = user; password = password; vhost = vhost; pairs = pairs }) locale (reply.SecureOk n) ≡ reply_bytes (record { user = other; password = secret; vhost = vhost; pairs = pairs }) locale (reply.SecureOk n) in
    subst P (sym e) refl
same_bytes reply.Nothing user password other secret vhost pairs locale e = refl
same_bytes (reply.Open limits) user password other secret vhost pairs locale e = refl
same_bytes reply.CloseOk user password other secret vhost pairs locale e = refl

pub external_untold : (h : Handshake) (s : Said) (r : Reply) (user password other secret vhost pairs locale : List ℕ) → h.mechanism ≡ mechanism.External → reply_to h s ≡ Ok r
    → reply_bytes (record { user = user; password = password; vhost = vhost; pairs = pairs }) locale r ≡ reply_bytes (record { user = other; password = secret; vhost = vhost; pairs = pairs }) locale r
external_untold h s r user password other secret vhost pairs locale e told = same_bytes r user password other secret vhost pairs locale (external_alone h s r e told)

-- ---- what is said is offered

-- a mechanism is offered
abbrev Offered : Offers → Mechanism → Type 0
Offered o mechanism.Plain = o.plain ≡ true
Offered o mechanism.AmqPlain = o.amqplain ≡ true
Offered o mechanism.External = o.external ≡ true

abbrev OfferedOne : Offers → Option Mechanism → Type 0
OfferedOne o None = Unit {0}
OfferedOne o (Some m) = Offered o m

chosen_offered : (m : Mechanism) (plain amqplain external : Bool) → OfferedOne (record { plain = plain; amqplain = amqplain; external = external }) (chosen m (record { plain = plain; amqplain = amqplain; external = external }))
chosen_offered mechanism.Plain true amqplain external = refl
chosen_offered mechanism.Plain false true external = refl
chosen_offered mechanism.Plain false false external = tt
chosen_offered mechanism.AmqPlain plain true external = refl
chosen_offered mechanism.AmqPlain plain false external = tt
chosen_offered mechanism.External plain amqplain true = refl
chosen_offered mechanism.External plain amqplain false = tt

abbrev OfferedAnswer : Offers → Result Reply Refusal → Type 0
OfferedAnswer o (Ok (reply.StartOk m)) = Offered o m
OfferedAnswer o _ = Unit {0}

said_offered : (o : Offers) (awaited known : Bool) (m : Option Mechanism) → OfferedOne o m → OfferedAnswer o (if awaited then (if known then saying m else Err refusal.Version) else Err refusal.Unexpected)
said_offered o true true (Some m) offered = offered
said_offered o true true None offered = tt
said_offered o true false m offered = tt
said_offered o false known m offered = tt

listed : (list : List ℕ) (m : Mechanism) → Offered (offers_of list) m → lists list (word_of m) ≡ true
listed list mechanism.Plain offered = offered
listed list mechanism.AmqPlain offered = offered
listed list mechanism.External offered = offered

pub said_is_listed : (h : Handshake) (major minor : ℕ) (list : List ℕ) (m : Mechanism) → reply_to h (said.Start major minor (offers_of list)) ≡ Ok (reply.StartOk m) → lists list (word_of m) ≡ true
said_is_listed h major minor list m told =
    let o = offers_of list in
    let P : Result Reply Refusal → Type 0 = OfferedAnswer o in
    listed list m (subst P told (said_offered o (is_awaited h.stage (said.Start major minor o)) ((major == 0) && (minor == 9)) (chosen h.mechanism o) (chosen_offered h.mechanism o.plain o.amqplain o.external)))

-- ---- locales

both_true : (a b : Bool) → (a && b) ≡ true → b ≡ true
both_true true b e = e
both_true false b e = absurd (cc)

short_word : (word : List ℕ) (b : Bool) → is_locale word ≡ b → length (if b then word else english) ≤ 255
short_word word true e = let below : length word < 256 = ltb-true (length word) 256 (both_true (nat_lt 0 (length word)) (nat_lt (length word) 256) e) in omega arith
short_word word false e = omega arith

short_locale : (listed : Bool) (word : List ℕ) → length (if listed then english else if is_locale word then word else english) ≤ 255
short_locale true word = omega arith
short_locale false word = short_word word (is_locale word) refl

pub locale_short : (list : List ℕ) → length (locale_of list) ≤ 255
locale_short list = short_locale (lists list english) (before_first is_space list)
