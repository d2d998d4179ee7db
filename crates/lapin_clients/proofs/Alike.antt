-- The free broker goes by the kinds of frames: it does with a frame that is read again what it does with the one that was written.
use Rattle.std.proofs.Common.{◌≡◌, ℕ, ◌==◌, true, false, cond, not, ◌&&◌, List, [], ◌∷◌, ◌++◌, Option, Some, None, refl, ap, ◌∙◌}
use Rattle.lapin_types.specs.Types.{Frame}
use Rattle.lapin_methods.specs.declared.frame.Frame.TheVariants as frame
use Rattle.lapin_methods.specs.declared.method.Method.{Method}
use Rattle.lapin_methods.specs.declared.method.Method.TheVariants as method
use Rattle.lapin_methods.specs.declared.exchange.ExchangeMethod.{ExchangeMethod}
use Rattle.lapin_methods.specs.declared.exchange.ExchangeMethod.TheVariants as exchange_method
use Rattle.lapin_methods.specs.declared.queue.QueueMethod.{QueueMethod}
use Rattle.lapin_methods.specs.declared.queue.QueueMethod.TheVariants as queue_method
use Rattle.lapin_methods.specs.declared.basic.BasicMethod.{BasicMethod}
use Rattle.lapin_methods.specs.declared.basic.BasicMethod.TheVariants as basic_method
use Rattle.lapin_broker.specs.declared.content.Content.{Content}
use Rattle.lapin_broker.specs.declared.content.Content.TheVariants as content
use Rattle.lapin_broker.specs.declared.frames.ClientFrame.{ClientFrame}
use Rattle.lapin_broker.specs.declared.frames.ClientFrame.TheVariants as client
use Rattle.lapin_broker.specs.declared.peer.Peer.{Peer}
use Rattle.lapin_broker.specs.declared.peer.Peer.TheVariants as peer
use Rattle.lapin_broker.specs.declared.request.Echo.{Echo}
use Rattle.lapin_broker.specs.declared.request.RequestKind.{RequestKind}
use Rattle.lapin_broker.specs.declared.request.RequestKind.TheVariants as kind
use Rattle.lapin_broker.specs.Frames.{channel_of, tag_of, echo_of, client_frame, broker_frame}
use Rattle.lapin_broker.specs.Reads.{read, read_open, read_in, read_on, read_up, read_down, read_sorted, is_connection_close, is_connection_close_ok, after_client_close, after_client_close_ok, begins_in, breaks_in}
use Rattle.lapin_broker.specs.Sends.{may, may_sorted, send, send_sorted}
use Rattle.lapin_broker.specs.States.{Channel, Broker, after_break, channel_at, is_up, with_channel}
use Rattle.lapin_broker.specs.Tags.{with_tag, without_tag}
use Rattle.lapin_frames.specs.Carried.{exchange_again, queue_again, basic_again, method_again, frame_again}
use Rattle.lapin_client.specs.Receiving.{begins_content, is_of_content}
use Rattle.lapin_clients.specs.Strays.{is_open_to, may_stray}

-- two frames are the same to the broker
record IsAlike (f g : Frame) : Type 0 where
  channel : channel_of f ≡ channel_of g
  tag : tag_of f ≡ tag_of g
  echo : echo_of f ≡ echo_of g
  client : client_frame f ≡ client_frame g
  broker : broker_frame f ≡ broker_frame g

alike_exchange : (c : ℕ) (m : ExchangeMethod) → IsAlike (frame.Method c (method.Exchange (exchange_again m))) (frame.Method c (method.Exchange m))
alike_exchange c (exchange_method.Declare exchange k passive durable auto_delete internal nowait arguments) = record { channel = refl; tag = refl; echo = refl; client = refl; broker = refl }
alike_exchange c (exchange_method.Bind destination source routing_key nowait arguments) = record { channel = refl; tag = refl; echo = refl; client = refl; broker = refl }
alike_exchange c (exchange_method.Unbind destination source routing_key nowait arguments) = record { channel = refl; tag = refl; echo = refl; client = refl; broker = refl }
alike_exchange c _ = record { channel = refl; tag = refl; echo = refl; client = refl; broker = refl }

alike_queue : (c : ℕ) (m : QueueMethod) → IsAlike (frame.Method c (method.Queue (queue_again m))) (frame.Method c (method.Queue m))
alike_queue c (queue_method.Declare queue passive durable exclusive auto_delete nowait arguments) = record { channel = refl; tag = refl; echo = refl; client = refl; broker = refl }
alike_queue c (queue_method.Bind queue exchange routing_key nowait arguments) = record { channel = refl; tag = refl; echo = refl; client = refl; broker = refl }
alike_queue c (queue_method.Unbind queue exchange routing_key arguments) = record { channel = refl; tag = refl; echo = refl; client = refl; broker = refl }
alike_queue c _ = record { channel = refl; tag = refl; echo = refl; client = refl; broker = refl }

alike_basic : (c : ℕ) (m : BasicMethod) → IsAlike (frame.Method c (method.Basic (basic_again m))) (frame.Method c (method.Basic m))
alike_basic c (basic_method.Consume queue consumer_tag no_local no_ack exclusive nowait arguments) = record { channel = refl; tag = refl; echo = refl; client = refl; broker = refl }
alike_basic c _ = record { channel = refl; tag = refl; echo = refl; client = refl; broker = refl }

alike_method : (c : ℕ) (m : Method) → IsAlike (frame.Method c (method_again m)) (frame.Method c m)
alike_method c (method.Exchange m) = alike_exchange c m
alike_method c (method.Queue m) = alike_queue c m
alike_method c (method.Basic m) = alike_basic c m
alike_method c _ = record { channel = refl; tag = refl; echo = refl; client = refl; broker = refl }

alike_again : (f : Frame) → IsAlike (frame_again f) f
alike_again (frame.Method c m) = alike_method c m
alike_again (frame.Header c h) = record { channel = refl; tag = refl; echo = refl; client = refl; broker = refl }
alike_again (frame.Body c payload) = record { channel = refl; tag = refl; echo = refl; client = refl; broker = refl }

-- ---- what it reads

abbrev with_echo : RequestKind → Echo → Channel → Channel
with_echo k e x = record x { waiting = x.waiting ++ record { kind = k; echo = e } ∷ [] }

module _ (f g : Frame) (a : IsAlike f g) where
  read_open_alike : (x : Channel) (u : ClientFrame) → read_open f x u ≡ read_open g x u
  read_open_alike x (client.Select true) = ap (λ (e : Echo). record (with_echo kind.Select e x) { selected = true }) a.echo
  read_open_alike x (client.Select false) = refl
  read_open_alike x (client.Ask k) = ap (λ (e : Echo). with_echo k e x) a.echo
  read_open_alike x client.Consume = ap (λ (t : List ℕ). record x { tags = with_tag t x.tags }) a.tag
  read_open_alike x client.Cancel = ap (λ (t : List ℕ). record x { tags = without_tag t x.tags }) a.tag
  read_open_alike x _ = refl

  read_in_alike : (p : Peer) (x : Channel) (u : ClientFrame) → read_in p f x u ≡ read_in p g x u
  read_in_alike peer.Open x u = read_open_alike x u
  read_in_alike _ x u = refl

  module _ (c : ℕ) (u : ClientFrame) (b : Broker) where
    read_on_alike : read_on c f u b ≡ read_on c g u b
    read_on_alike = ap (λ (x : Channel). cond (breaks_in (channel_at b c).peer u) (after_break b)
        (record b { channels = with_channel c x b.channels; reading = cond (begins_in (channel_at b c).peer u) (Some (c, content.Begun)) b.reading })) (read_in_alike (channel_at b c).peer (channel_at b c) u)

    read_up_alike : (o : Option (ℕ × Content)) → read_up o c f u b ≡ read_up o c g u b
    read_up_alike (Some r) = refl
    read_up_alike None = read_on_alike

    read_sorted_alike : read_sorted c f u b ≡ read_sorted c g u b
    read_sorted_alike = ap (λ (d : Broker). cond (is_connection_close u) (record b { connection = after_client_close b.connection })
        (cond (is_connection_close_ok u) (record b { connection = after_client_close_ok b.connection }) (cond (is_up b.connection) d (read_down b)))) (read_up_alike b.reading)

  module _ (b : Broker) where
    read_alike : read b f ≡ read b g
    read_alike = read_sorted_alike (channel_of f) (client_frame f) b
        ∙ (ap (λ (c : ℕ). read_sorted c g (client_frame f) b) a.channel ∙ ap (λ (u : ClientFrame). read_sorted (channel_of g) g u b) a.client)

    may_alike : may b f ≡ may b g
    may_alike = ap (λ (c : ℕ). may_sorted c (tag_of f) (broker_frame f) b) a.channel
        ∙ (ap (λ (t : List ℕ). may_sorted (channel_of g) t (broker_frame f) b) a.tag ∙ ap (λ d. may_sorted (channel_of g) (tag_of g) d b) a.broker)

    send_alike : send b f ≡ send b g
    send_alike = ap (λ (c : ℕ). send_sorted c (tag_of f) (broker_frame f) b) a.channel
        ∙ (ap (λ (t : List ℕ). send_sorted (channel_of g) t (broker_frame f) b) a.tag ∙ ap (λ d. send_sorted (channel_of g) (tag_of g) d b) a.broker)

-- ---- what it sends besides

content_basic : (m : BasicMethod) → begins_content (basic_again m) ≡ begins_content m
content_basic (basic_method.Consume queue consumer_tag no_local no_ack exclusive nowait arguments) = refl
content_basic _ = refl

content_method : (c : ℕ) (m : Method) → is_of_content (frame.Method c (method_again m)) ≡ is_of_content (frame.Method c m)
content_method c (method.Basic m) = content_basic m
content_method c _ = refl

content_again : (f : Frame) → is_of_content (frame_again f) ≡ is_of_content f
content_again (frame.Method c m) = content_method c m
content_again (frame.Header c h) = refl
content_again (frame.Body c payload) = refl

-- ---- all of it

module _ (b : Broker) (f : Frame) where
  pub read_again : read b (frame_again f) ≡ read b f
  read_again = read_alike (frame_again f) f (alike_again f) b

  pub may_again : may b (frame_again f) ≡ may b f
  may_again = may_alike (frame_again f) f (alike_again f) b

  pub send_again : send b (frame_again f) ≡ send b f
  send_again = send_alike (frame_again f) f (alike_again f) b

  pub stray_again : may_stray b (frame_again f) ≡ may_stray b f
  stray_again = ap (λ v. (v && not (channel_of (frame_again f) == 0)) && not (is_open_to b (channel_of (frame_again f)))) (content_again f)
      ∙ ap (λ c. (is_of_content f && not (c == 0)) && not (is_open_to b c)) (alike_again f).channel
