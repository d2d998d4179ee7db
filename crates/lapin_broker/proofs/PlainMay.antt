-- What the plain broker gives may be sent.
use Rattle.std.proofs.Common.{◌≡◌, ℕ, ◌==◌, Bool, true, false, ◌&&◌, ◌||◌, not, if◌then◌else◌, List, [], ◌∷◌, Option, Some, None, refl, ◌∙◌, ap, subst}
use Rattle.std.specs.Prelude.{IfSome, is_some}
use Rattle.std.specs.List.{list_any}
use Rattle.std.specs.Option.{option_map, IsSome}
use Rattle.std.proofs.lemmas.Bool.{and_from, and_parts, or_parts, not-true, not-false, or_right}
use Rattle.std.proofs.lemmas.Cmp.{nat_list_eq_equiv}
use Rattle.lapin_types.specs.Types.{Method}
use Rattle.lapin_types.specs.Types.frame
use Rattle.lapin_types.specs.Types.method
use Rattle.lapin_types.specs.Types.basic
use Rattle.lapin_types.specs.Types.channel
use Rattle.lapin_tables.specs.ByChannel.{at_channel}
use Rattle.lapin_tables.specs.Numbered.{under, first_kept}
use Rattle.lapin_tables.proofs.SlotLaws.{first-there}
use Rattle.lapin_broker.specs.declared.request.RequestKind.{RequestKind}
use Rattle.lapin_broker.specs.declared.request.RequestKind.TheVariants as kind
use Rattle.lapin_broker.specs.declared.request.Echo.{Echo}
use Rattle.lapin_broker.specs.declared.request.Request.{Request}
use Rattle.lapin_broker.specs.declared.frames.BrokerFrame.{BrokerFrame}
use Rattle.lapin_broker.specs.declared.frames.BrokerFrame.TheVariants as broker
use Rattle.lapin_broker.specs.declared.peer.Peer.{Peer}
use Rattle.lapin_broker.specs.declared.peer.Peer.TheVariants as peer
use Rattle.lapin_broker.specs.Contents.{is_idle}
use Rattle.lapin_broker.specs.Frames.{tag_of, broker_method}
use Rattle.lapin_broker.specs.Numbers.{may_settle}
use Rattle.lapin_broker.specs.Requests.{echo_name, same_kind}
use Rattle.lapin_broker.specs.Tags.{same_text, is_empty}
use Rattle.lapin_broker.specs.States.{Channel, Broker, channel_in, channel_at, is_up, owes_connection}
use Rattle.lapin_broker.specs.Sends.{none_waits, first_is, first_name, may, may_in, may_open, may_leave, is_connection_close, is_connection_close_ok, is_close_ok}
use Rattle.lapin_broker.specs.Plain.{given_name, reply_by, plain_ack, plain_open, or_close_ok, plain_in, plain_at, lowest_from, is_sending_on, plain}

-- what holds of either branch holds of the choice
pub of_if : {A : Type 0} (P : A → Type 0) (b : Bool) (x y : A) → (b ≡ true → P x) → (b ≡ false → P y) → P (if b then x else y)
of_if P true x y holds fails = holds refl
of_if P false x y holds fails = fails refl

of_map : {A B : Type 0} (P : B → Type 0) (f : A → B) (o : Option A) → ((a : A) → o ≡ Some a → P (f a)) → IfSome (option_map f o) P
of_map P f None each = tt
of_map P f (Some a) each = each a refl

pub apart_of : (b : Bool) → b ≡ true → b ≡ false → ⊥
apart_of b holds fails = cc

-- ---- A channel that is Open or Leaving. A frame may go there, and is none that closes or answers a close.
record Goes (x : Channel) (t : List ℕ) (d : BrokerFrame) : Type 0 where
  opens : may_open x t d ≡ true
  stays : is_close_ok d ≡ false
  apart : is_connection_close d ≡ false
  apart_too : is_connection_close_ok d ≡ false

name_fits : (n : List ℕ) → (is_empty n || same_text n (given_name n)) ≡ true
name_fits [] = refl
name_fits (x ∷ xs) = nat_list_eq_equiv.refl (x ∷ xs)

-- a reply that is free in all its fields, to the first waiting request
free_goes : (k : RequestKind) (e : Echo) (rs : List Request) (x : Channel) (t : List ℕ) → same_kind k k ≡ true → is_idle x.sending ≡ true → x.waiting ≡ record { kind = k; echo = e } ∷ rs → Goes x t (broker.Reply k)
free_goes k e rs x t same idle waits = record { opens = and_from (is_idle x.sending) (first_is k x.waiting) idle (ap (first_is k) waits ∙ same); stays = refl; apart = refl; apart_too = refl }

consume_goes : (e : Echo) (rs : List Request) (x : Channel) → is_idle x.sending ≡ true → x.waiting ≡ record { kind = kind.Consume; echo = e } ∷ rs → Goes x (given_name (echo_name e)) broker.ConsumeOk
consume_goes e rs x idle waits =
    let n : List ℕ = given_name (echo_name e) in
    let fits : (first_is kind.Consume x.waiting && (is_empty (first_name x.waiting) || same_text (first_name x.waiting) n)) ≡ true =
    ap (λ ws. first_is kind.Consume ws && (is_empty (first_name ws) || same_text (first_name ws) n)) waits ∙ name_fits (echo_name e) in
    record { opens = and_from (is_idle x.sending) _ idle fits; stays = refl; apart = refl; apart_too = refl }

cancel_goes : (e : Echo) (rs : List Request) (x : Channel) → is_idle x.sending ≡ true → x.waiting ≡ record { kind = kind.Cancel; echo = e } ∷ rs → Goes x (echo_name e) broker.CancelOk
cancel_goes e rs x idle waits =
    let n : List ℕ = echo_name e in
    let fits : (first_is kind.Cancel x.waiting && same_text (first_name x.waiting) n) ≡ true =
    ap (λ ws. first_is kind.Cancel ws && same_text (first_name ws) n) waits ∙ nat_list_eq_equiv.refl n in
    record { opens = and_from (is_idle x.sending) _ idle fits; stays = refl; apart = refl; apart_too = refl }

-- the reply to the first waiting request
reply_goes : (c : ℕ) (k : RequestKind) (e : Echo) (rs : List Request) (x : Channel) → is_idle x.sending ≡ true → x.waiting ≡ record { kind = k; echo = e } ∷ rs → Goes x (tag_of (frame.Method c (reply_by k e))) (broker_method c (reply_by k e))
reply_goes c kind.Consume e rs x idle waits = consume_goes e rs x idle waits
reply_goes c kind.Cancel e rs x idle waits = cancel_goes e rs x idle waits
reply_goes c kind.Flow e rs x idle waits = free_goes kind.Flow e rs x [] refl idle waits
reply_goes c kind.Access e rs x idle waits = free_goes kind.Access e rs x [] refl idle waits
reply_goes c kind.ExchangeDeclare e rs x idle waits = free_goes kind.ExchangeDeclare e rs x [] refl idle waits
reply_goes c kind.ExchangeDelete e rs x idle waits = free_goes kind.ExchangeDelete e rs x [] refl idle waits
reply_goes c kind.ExchangeBind e rs x idle waits = free_goes kind.ExchangeBind e rs x [] refl idle waits
reply_goes c kind.ExchangeUnbind e rs x idle waits = free_goes kind.ExchangeUnbind e rs x [] refl idle waits
reply_goes c kind.QueueDeclare e rs x idle waits = free_goes kind.QueueDeclare e rs x [] refl idle waits
reply_goes c kind.QueueBind e rs x idle waits = free_goes kind.QueueBind e rs x [] refl idle waits
reply_goes c kind.QueuePurge e rs x idle waits = free_goes kind.QueuePurge e rs x [] refl idle waits
reply_goes c kind.QueueDelete e rs x idle waits = free_goes kind.QueueDelete e rs x [] refl idle waits
reply_goes c kind.QueueUnbind e rs x idle waits = free_goes kind.QueueUnbind e rs x [] refl idle waits
reply_goes c kind.Qos e rs x idle waits = free_goes kind.Qos e rs x [] refl idle waits
reply_goes c kind.Get e rs x idle waits = free_goes kind.Get e rs x [] refl idle waits
reply_goes c kind.Recover e rs x idle waits = free_goes kind.Recover e rs x [] refl idle waits
reply_goes c kind.Select e rs x idle waits = free_goes kind.Select e rs x [] refl idle waits
reply_goes c kind.TxSelect e rs x idle waits = free_goes kind.TxSelect e rs x [] refl idle waits
reply_goes c kind.TxCommit e rs x idle waits = free_goes kind.TxCommit e rs x [] refl idle waits
reply_goes c kind.TxRollback e rs x idle waits = free_goes kind.TxRollback e rs x [] refl idle waits

filled : {A : Type 0} (o : Option A) → IsSome o → is_some o ≡ true
filled None h = cc
filled (Some u) h = refl

-- the ack of the lowest number that isn't settled
ack_goes : (c n : ℕ) (x : Channel) → is_idle x.sending ≡ true → first_kept x.numbers ≡ Some n → Goes x [] (broker_method c (method.Basic (basic.Ack n false)))
ack_goes c n x idle first = record { opens = and_from (is_idle x.sending) (may_settle n false x.numbers) idle (filled (under n x.numbers) (first-there n x.numbers first)); stays = refl; apart = refl; apart_too = refl }

acks_go : (c : ℕ) (o : Option ℕ) (x : Channel) (m : Method) → is_idle x.sending ≡ true → first_kept x.numbers ≡ o → plain_ack o ≡ Some m → Goes x (tag_of (frame.Method c m)) (broker_method c m)
acks_go c None x m idle first given = cc
acks_go c (Some n) x m idle first given =
    let same : method.Basic (basic.Ack n false) ≡ m = cc in
    subst (λ m. Goes x (tag_of (frame.Method c m)) (broker_method c m)) same (ack_goes c n x idle first)

open_goes : (c : ℕ) (ws : List Request) (x : Channel) (m : Method) → is_idle x.sending ≡ true → x.waiting ≡ ws → plain_open ws x ≡ Some m → Goes x (tag_of (frame.Method c m)) (broker_method c m)
open_goes c [] x m idle waits given = acks_go c (first_kept x.numbers) x m idle refl given
open_goes c (r ∷ rs) x m idle waits given =
    let same : reply_by r.kind r.echo ≡ m = cc in
    subst (λ m. Goes x (tag_of (frame.Method c m)) (broker_method c m)) same (reply_goes c r.kind r.echo rs x idle waits)

nothing_waits : (ws : List Request) (x : Channel) → plain_open ws x ≡ None → none_waits ws ≡ true
nothing_waits [] x h = refl
nothing_waits (r ∷ rs) x h = cc

-- ---- A channel, wherever it stands.

record MayGo (p : Peer) (x : Channel) (t : List ℕ) (d : BrokerFrame) : Type 0 where
  goes : may_in p x t d ≡ true
  apart : is_connection_close d ≡ false
  apart_too : is_connection_close_ok d ≡ false

abbrev Gives : Peer → ℕ → Channel → Method → Type 0
Gives p c x m = MayGo p x (tag_of (frame.Method c m)) (broker_method c m)

leaving_goes : (c : ℕ) (o : Option Method) (x : Channel) (m : Method) → is_idle x.sending ≡ true → plain_open x.waiting x ≡ o → or_close_ok o ≡ Some m → Gives peer.Leaving c x m
leaving_goes c None x m idle none given =
    let same : method.Channel channel.CloseOk ≡ m = cc in
    subst (λ m. MayGo peer.Leaving x (tag_of (frame.Method c m)) (broker_method c m)) same
    (record { goes = and_from (is_idle x.sending) (none_waits x.waiting) idle (nothing_waits x.waiting x none); apart = refl; apart_too = refl })
leaving_goes c (Some k) x m idle some given =
    let same : Some k ≡ Some m = cc in
    let g = open_goes c x.waiting x m idle refl (some ∙ same) in
    let d : BrokerFrame = broker_method c m in
    let stays : (is_close_ok d ≡ true) → may_leave x ≡ true = λ holds. absurd (apart_of (is_close_ok d) holds g.stays) in
    record { goes = of_if (λ b. b ≡ true) (is_close_ok d) _ _ stays (λ _. g.opens); apart = g.apart; apart_too = g.apart_too }

channel_goes : (p : Peer) (c : ℕ) (x : Channel) (m : Method) → is_idle x.sending ≡ true → plain_in p x ≡ Some m → Gives p c x m
channel_goes peer.StoppingOwes c x m idle given =
    let same : method.Channel channel.CloseOk ≡ m = cc in
    subst (λ m. MayGo peer.StoppingOwes x (tag_of (frame.Method c m)) (broker_method c m)) same (record { goes = refl; apart = refl; apart_too = refl })
channel_goes peer.StoppingAnswered c x m idle given =
    let same : method.Channel channel.CloseOk ≡ m = cc in
    subst (λ m. MayGo peer.StoppingAnswered x (tag_of (frame.Method c m)) (broker_method c m)) same (record { goes = refl; apart = refl; apart_too = refl })
channel_goes peer.Asked c x m idle given =
    let same : method.Channel channel.OpenOk ≡ m = cc in
    subst (λ m. MayGo peer.Asked x (tag_of (frame.Method c m)) (broker_method c m)) same (record { goes = refl; apart = refl; apart_too = refl })
channel_goes peer.Open c x m idle given =
    let g = open_goes c x.waiting x m idle refl given in
    record { goes = or_right _ _ g.opens; apart = g.apart; apart_too = g.apart_too }
channel_goes peer.Leaving c x m idle given = leaving_goes c (plain_open x.waiting x) x m idle refl given
channel_goes peer.Free c x m idle given = cc
channel_goes peer.Stopping c x m idle given = cc

-- where no content is being sent on any channel, none is on this one
idle_at : (c : ℕ) (es : List (ℕ × Channel)) → list_any is_sending_on es ≡ false → is_idle (channel_in (at_channel c es)).sending ≡ true
idle_at c [] none = refl
idle_at c (e ∷ es) none =
    let parts = or_parts (is_sending_on e) (list_any is_sending_on es) none in
    of_if (λ o. is_idle (channel_in o).sending ≡ true) (e.0 == c) (Some e.1) (at_channel c es)
    (λ _. not-false (is_idle e.1.sending) parts.0)
    (λ _. idle_at c es parts.1)

-- ---- The whole.

may_go : (c : ℕ) (m : Method) (b : Broker) → is_up b.connection ≡ true → Gives (channel_at b c).peer c (channel_at b c) m → may b (frame.Method c m) ≡ true
may_go c m b up g =
    of_if (λ v. v ≡ true) (is_connection_close (broker_method c m)) _ _ (λ holds. absurd (apart_of _ holds g.apart))
    (λ _. of_if (λ v. v ≡ true) (is_connection_close_ok (broker_method c m)) _ _ (λ holds. absurd (apart_of _ holds g.apart_too))
    (λ _. and_from (is_up b.connection) _ up g.goes))

at_goes : (b : Broker) (o : Option ℕ) → is_up b.connection ≡ true → list_any is_sending_on b.channels ≡ false → IfSome (plain_at b o) (λ f. may b f ≡ true)
at_goes b None up none = tt
at_goes b (Some c) up none =
    of_map (λ f. may b f ≡ true) (λ m. frame.Method c m) (plain_in (channel_at b c).peer (channel_at b c))
    (λ m given. may_go c m b up (channel_goes (channel_at b c).peer c (channel_at b c) m (idle_at c b.channels none) given))

pub plain_goes : (b : Broker) → IfSome (plain b) (λ f. may b f ≡ true)
plain_goes b =
    of_if (λ o. IfSome o (λ f. may b f ≡ true)) (owes_connection b.connection) _ _
    (λ owes. owes)
    (λ _. of_if (λ o. IfSome o (λ f. may b f ≡ true)) (is_up b.connection && not (list_any is_sending_on b.channels)) _ _
    (λ free. let parts = and_parts (is_up b.connection) (not (list_any is_sending_on b.channels)) free in at_goes b (lowest_from None b.channels) parts.0 (not-true _ parts.1))
    (λ _. tt))
