-- In every joined run: while the content of a get is expected, what came since the answer to that very get is as far as the content.
use Rattle.std.proofs.Common.{◌≡◌, ◌∙◌, ℕ, ◌==◌, Bool, true, false, cond, List, [], ◌∷◌, ◌++◌, Option, Some, None, refl, sym, ap, append-nil, append_assoc}
use Rattle.std.specs.List.{filter, fold}
use Rattle.std.proofs.lemmas.List.Sums.{fold-append}
use Rattle.std.proofs.lemmas.List.Elements.{filter-append}
use Rattle.lapin_types.specs.declared.answer.Answer.TheVariants as answer
use Rattle.lapin_types.specs.declared.event.Event.{Event}
use Rattle.lapin_types.specs.declared.leaving.Left.{Left}
use Rattle.lapin_types.specs.declared.record.Record.{Record}
use Rattle.lapin_types.specs.Types.{Frame, Method, ChannelMethod, ExchangeMethod, QueueMethod, BasicMethod, TxMethod}
use Rattle.lapin_types.specs.Types.frame
use Rattle.lapin_types.specs.Types.method
use Rattle.lapin_types.specs.Types.channel
use Rattle.lapin_types.specs.Types.connection
use Rattle.lapin_types.specs.Types.access
use Rattle.lapin_types.specs.Types.exchange
use Rattle.lapin_types.specs.Types.queue
use Rattle.lapin_types.specs.Types.basic
use Rattle.lapin_types.specs.Types.confirm
use Rattle.lapin_types.specs.Types.tx
use Rattle.lapin_methods.specs.declared.frame.ContentHeader.{ContentHeader}
use Rattle.lapin_content.specs.declared.start.Start.TheVariants as start
use Rattle.lapin_content.specs.Contents.{Begun, Expected}
use Rattle.lapin_rules.specs.declared.broker_frames.Incoming.{Incoming}
use Rattle.lapin_rules.specs.declared.broker_frames.Incoming.TheVariants as incoming
use Rattle.lapin_rules.specs.History.{History}
use Rattle.lapin_rules.specs.Incoming.{incoming_of, incoming_method}
use Rattle.lapin_broker.specs.Frames.{channel_of}
use Rattle.lapin_verdicts.specs.Deeds.{Deed, Read, Sent, sents}
use Rattle.lapin_verdicts.specs.InStep.{is_frame_on}
use Rattle.lapin_verdicts.specs.Messages.{Start, Get, Nothing, Sent_, sent_after, start_in}
use Rattle.lapin_verdicts.proofs.TagCounts.{sents-append}
use Rattle.lapin_answers.specs.Calls.{IsCallOf}
use Rattle.lapin_answers.specs.Replies.{IsReplied}
use Rattle.lapin_answers.proofs.Carried.{is_content_on}
use Rattle.lapin_answers.proofs.Getting.{on_way}
use Rattle.lapin_answers.proofs.Standing.{call_more}

-- ---- which frames are of a content

-- a reply that brings a message
abbrev pub brings_message : Incoming → Bool
brings_message (incoming.Reply c k (answer.Got (Some m))) = true
brings_message _ = false

-- it is of no content, and no reply brings a message but with a content
abbrev pub IsQuiet : ℕ → Incoming → Type 0
IsQuiet c i = (is_content_on c i ≡ false) × (brings_message i ≡ false)

-- a frame of the broker: a header, a body, get-ok, the start of another content, or none of a content
pub data Kind (f : Frame) : Type 0 where
  AsHeader : (d : ℕ) (h : ContentHeader) (is : f ≡ frame.Header d h) → Kind f
  AsBody : (d : ℕ) (bytes : List ℕ) (is : f ≡ frame.Body d bytes) → Kind f
  AsGetOk : (d tag : ℕ) (redelivered : Bool) (exchange key : List ℕ) (count : ℕ) (is : f ≡ frame.Method d (method.Basic (basic.GetOk tag redelivered exchange key count))) → Kind f
  AsDeliver : (d : ℕ) (tag : List ℕ) (number : ℕ) (redelivered : Bool) (exchange key : List ℕ) (is : f ≡ frame.Method d (method.Basic (basic.Deliver tag number redelivered exchange key))) → Kind f
  AsReturn : (d code : ℕ) (text exchange key : List ℕ) (is : f ≡ frame.Method d (method.Basic (basic.Return code text exchange key))) → Kind f
  AsOther : (none : start_in f ≡ None) (quiet : (c : ℕ) → IsQuiet c (incoming_of f)) (method_ : (d : ℕ) × (m : Method) × (f ≡ frame.Method d m)) → Kind f

quiet_own : (c : ℕ) (t : Bool) (i : Incoming) → IsQuiet c i → IsQuiet c (cond t i incoming.Other)
quiet_own c true i h = h
quiet_own c false i h = (refl, refl)

quiet_channel : (c d : ℕ) (m : ChannelMethod) → IsQuiet c (incoming_method d (method.Channel m))
quiet_channel c d channel.OpenOk = (refl, refl)
quiet_channel c d _ = (refl, refl)

quiet_exchange : (c d : ℕ) (m : ExchangeMethod) → IsQuiet c (incoming_method d (method.Exchange m))
quiet_exchange c d exchange.DeclareOk = (refl, refl)
quiet_exchange c d _ = (refl, refl)

quiet_queue : (c d : ℕ) (m : QueueMethod) → IsQuiet c (incoming_method d (method.Queue m))
quiet_queue c d queue.BindOk = (refl, refl)
quiet_queue c d _ = (refl, refl)

quiet_tx : (c d : ℕ) (m : TxMethod) → IsQuiet c (incoming_method d (method.Tx m))
quiet_tx c d tx.SelectOk = (refl, refl)
quiet_tx c d _ = (refl, refl)

sort_basic : (d : ℕ) (m : BasicMethod) → Kind (frame.Method d (method.Basic m))
sort_basic d (basic.GetOk tag redelivered exchange key count) = AsGetOk d tag redelivered exchange key count refl
sort_basic d (basic.Deliver tag number redelivered exchange key) = AsDeliver d tag number redelivered exchange key refl
sort_basic d (basic.Return code text exchange key) = AsReturn d code text exchange key refl
sort_basic d m = AsOther refl (λ c. (refl, refl)) (d, method.Basic m, refl)

pub sort_kind : (f : Frame) → Kind f
sort_kind (frame.Header d h) = AsHeader d h refl
sort_kind (frame.Body d bytes) = AsBody d bytes refl
sort_kind (frame.Method d (method.Connection (connection.Close code text class number))) = AsOther refl (λ c. quiet_own c (d == 0) (incoming.ConnectionClose code) (refl, refl)) (d, method.Connection (connection.Close code text class number), refl)
sort_kind (frame.Method d (method.Connection connection.CloseOk)) = AsOther refl (λ c. quiet_own c (d == 0) incoming.ConnectionCloseOk (refl, refl)) (d, method.Connection connection.CloseOk, refl)
sort_kind (frame.Method d (method.Channel m)) = AsOther refl (λ c. quiet_channel c d m) (d, method.Channel m, refl)
sort_kind (frame.Method d (method.Access access.RequestOk)) = AsOther refl (λ c. (refl, refl)) (d, method.Access access.RequestOk, refl)
sort_kind (frame.Method d (method.Access (access.Request a b e g i j))) = AsOther refl (λ c. (refl, refl)) (d, method.Access (access.Request a b e g i j), refl)
sort_kind (frame.Method d (method.Exchange m)) = AsOther refl (λ c. quiet_exchange c d m) (d, method.Exchange m, refl)
sort_kind (frame.Method d (method.Queue m)) = AsOther refl (λ c. quiet_queue c d m) (d, method.Queue m, refl)
sort_kind (frame.Method d (method.Basic m)) = sort_basic d m
sort_kind (frame.Method d (method.Confirm confirm.SelectOk)) = AsOther refl (λ c. (refl, refl)) (d, method.Confirm confirm.SelectOk, refl)
sort_kind (frame.Method d (method.Confirm (confirm.Select nowait))) = AsOther refl (λ c. (refl, refl)) (d, method.Confirm (confirm.Select nowait), refl)
sort_kind (frame.Method d (method.Tx m)) = AsOther refl (λ c. quiet_tx c d m) (d, method.Tx m, refl)

-- ---- how far the content of a get is

abbrev pub nothing_sent : Sent_
nothing_sent = record { wholes = []; sending = Nothing }

pub record Getting (c k : ℕ) (h : History) (s : Start) (o : Option Begun) (down : List Frame) (opened : List Deed) : Type 0 where
  pub method_ : Method
  pub call : IsCallOf k c method_ h
  pub reply : Frame
  pub replied : IsReplied c k method_ reply opened
  pub starts : start_in reply ≡ Some s
  pub came : List Frame
  pub way : sents replied.behind ≡ came ++ filter (is_frame_on c) down
  pub far : fold sent_after nothing_sent (reply ∷ came) ≡ on_way s o

-- of what is expected first
abbrev pub Gets : ℕ → History → List Expected → List Frame → List Deed → Type 0
Gets c h es down opened = (e : Expected) (more : List Expected) (k tag : ℕ) (exchange key : List ℕ) (redelivered : Bool) (count : ℕ) → es ≡ e ∷ more → e.start ≡ start.Get (Some k) tag exchange key redelivered count → Getting c k h (Get tag redelivered exchange key count) e.begun down opened

pub gets_none : (c : ℕ) (h : History) (es : List Expected) (down : List Frame) (opened : List Deed) → es ≡ [] → Gets c h es down opened
gets_none c h es down opened n e more k tag exchange key redelivered count is at = let w : [] ≡ e ∷ more = sym n ∙ is in absurd cc

-- a history goes on
pub getting_on : (c k : ℕ) (h : History) (v : Event) (x : Record) (s : Start) (o : Option Begun) (down : List Frame) (opened : List Deed) → Getting c k h s o down opened → Getting c k (h ++ (v, x) ∷ []) s o down opened
getting_on c k h v x s o down opened g = record { method_ = g.method_; call = call_more k c g.method_ h v x g.call; reply = g.reply; replied = g.replied; starts = g.starts; came = g.came; way = g.way; far = g.far }

-- a deed more in the opening: the broker reads
abbrev replied_read : (c k : ℕ) (m : Method) (reply : Frame) (opened : List Deed) (d : Deed) → IsReplied c k m reply opened → IsReplied c k m reply (opened ++ d ∷ [])
replied_read c k m reply opened d r = record {
  before = r.before;
  behind = r.behind ++ d ∷ [];
  request = r.request;
  all = ap (λ v. v ++ d ∷ []) r.all ∙ append_assoc r.before (Sent reply ∷ r.behind) (d ∷ []);
  is_reply = r.is_reply;
  was_read = r.was_read;
  ticket = r.ticket;
  method = r.method;
}

pub getting_read : (c k : ℕ) (h : History) (s : Start) (o : Option Begun) (down : List Frame) (opened : List Deed) (l : Left) → Getting c k h s o down opened → Getting c k h s o down (opened ++ Read l ∷ [])
getting_read c k h s o down opened l g = record {
  method_ = g.method_;
  call = g.call;
  reply = g.reply;
  replied = replied_read c k g.method_ g.reply opened (Read l) g.replied;
  starts = g.starts;
  came = g.came;
  way = sents-append g.replied.behind (Read l ∷ []) ∙ (append-nil (sents g.replied.behind) ∙ g.way);
  far = g.far;
}

-- it sends on the channel
pub getting_send : (c k : ℕ) (h : History) (s : Start) (o : Option Begun) (down : List Frame) (opened : List Deed) (f : Frame) → (channel_of f == c) ≡ true → Getting c k h s o down opened → Getting c k h s o (down ++ f ∷ []) (opened ++ Sent f ∷ [])
getting_send c k h s o down opened f on g = record {
  method_ = g.method_;
  call = g.call;
  reply = g.reply;
  replied = replied_read c k g.method_ g.reply opened (Sent f) g.replied;
  starts = g.starts;
  came = g.came;
  way = sents-append g.replied.behind (Sent f ∷ []) ∙ (ap (λ v. v ++ f ∷ []) g.way ∙ (append_assoc g.came (filter (is_frame_on c) down) (f ∷ []) ∙ ap (λ v. g.came ++ v) (sym (filter-append (is_frame_on c) down (f ∷ []) ∙ ap (λ v. filter (is_frame_on c) down ++ cond v (f ∷ []) []) on))));
  far = g.far;
}

-- on another channel
pub getting_away : (c k : ℕ) (h : History) (s : Start) (o : Option Begun) (down down' : List Frame) (opened : List Deed) → filter (is_frame_on c) down' ≡ filter (is_frame_on c) down → Getting c k h s o down opened → Getting c k h s o down' opened
getting_away c k h s o down down' opened e g = record { method_ = g.method_; call = g.call; reply = g.reply; replied = g.replied; starts = g.starts; came = g.came; way = g.way ∙ ap (λ v. g.came ++ v) (sym e); far = g.far }

-- a frame comes that brings the content this far
pub getting_comes : (c k : ℕ) (h : History) (s : Start) (o o' : Option Begun) (f : Frame) (fs : List Frame) (opened : List Deed) → (channel_of f == c) ≡ true → sent_after (on_way s o) f ≡ on_way s o' → Getting c k h s o (f ∷ fs) opened → Getting c k h s o' fs opened
getting_comes c k h s o o' f fs opened on step g = record {
  method_ = g.method_;
  call = g.call;
  reply = g.reply;
  replied = g.replied;
  starts = g.starts;
  came = g.came ++ f ∷ [];
  way = g.way ∙ (ap (λ v. g.came ++ cond v (f ∷ filter (is_frame_on c) fs) (filter (is_frame_on c) fs)) on ∙ sym (append_assoc g.came (f ∷ []) (filter (is_frame_on c) fs)));
  far = fold-append sent_after (sent_after nothing_sent g.reply) g.came (f ∷ []) ∙ (ap (λ v. sent_after v f) g.far ∙ step);
}
