-- What the broker does with octets, and which piece stands at the head of them where it is a notice.
use Rattle.std.proofs.Common.{◌≡◌, ℕ, suc, ◌+◌, ◌≤◌, Bool, true, false, not, List, [], ◌∷◌, ◌++◌, length, map, drop, Option, Some, None, refl, sym, ap, subst, ◌∙◌, arith, cond}
use Rattle.std.proofs.lemmas.Bool.{and_parts, not-true}
use Rattle.std.proofs.lemmas.List.{append_assoc, append-nil, length-append}
use Rattle.lapin_types.specs.declared.leaving.Left.{Left}
use Rattle.lapin_types.specs.Types.{Frame}
use Rattle.lapin_broker.specs.Frames.{channel_of}
use Rattle.lapin_broker.specs.Reads.{read}
use Rattle.lapin_broker.specs.Sends.{may, send}
use Rattle.lapin_fields.specs.Around.{wanted_behind}
use Rattle.lapin_frames.specs.Carried.{frame_again}
use Rattle.lapin_frames.specs.Frames.{bytes_of}
use Rattle.lapin_frames.specs.FrameReading.{read_at}
use Rattle.lapin_frames.specs.declared.frames.Read.{Read}
use Rattle.lapin_frames.specs.declared.frames.Read.TheVariants as head
use Rattle.lapin_frames.proofs.FrameLaws.{frame_back, heartbeat_back}
use Rattle.lapin_frames.proofs.UsedLaws.{read_more}
use Rattle.lapin_joint.specs.declared.step.Step.TheVariants as step
use Rattle.lapin_joint.specs.Joint.{Joint, read_first, send_down}
use Rattle.lapin_joint.specs.Order.{front as first_of}
use Rattle.lapin_machine.specs.World.{World}
use Rattle.lapin_verdicts.specs.Deeds.{Sent, reads_of}
use Rattle.lapin_client.specs.declared.client.Client.{Client}
use Rattle.lapin_client.specs.Receiving.{length_at, IsNotice}
use Rattle.lapin_clients.specs.Joined.{AreSent, IsJoined, Got, Gave, as_dealt, dealt_in, hearing, held_frames}
use Rattle.lapin_clients.specs.Nets.{Net, Reads, Sends, IsRead, IsSentBy}
use Rattle.lapin_clients.specs.Pieces.{Piece, Of, Beat, Notice, ArePieces, AreCarried, octets_in, octets_of, frames_in, frames_left, Fits, AllFit}
use Rattle.lapin_clients.specs.Strays.{hears_on, is_open_to, is_part, may_stray}
use Rattle.lapin_clients.proofs.Again.{bytes_again, fits_again, again_carried}
use Rattle.lapin_clients.proofs.Alike.{may_again, read_again, send_again, stray_again}
use Rattle.lapin_clients.proofs.Strays.{coming_as, frame_more, hear_at_end, stray_more}
use Rattle.lapin_clients.proofs.Heads.{frame_first, beat_first, others_left}
use Rattle.lapin_clients.proofs.Going.{GoesOn, sent_so}
use Rattle.lapin_clients.proofs.Acting.{with_piece}

-- ---- a notice at the head

pub whole_long : (bytes : List ℕ) → wanted_behind bytes ≡ 0 → length_at bytes ≤ length bytes
whole_long (_ ∷ _ ∷ _ ∷ a ∷ b ∷ c ∷ d ∷ rest) h = omega (arith, h)
whole_long (_ ∷ _ ∷ _ ∷ _ ∷ _ ∷ _ ∷ []) h = omega arith
whole_long (_ ∷ _ ∷ _ ∷ _ ∷ _ ∷ []) h = omega arith
whole_long (_ ∷ _ ∷ _ ∷ _ ∷ []) h = omega arith
whole_long (_ ∷ _ ∷ _ ∷ []) h = omega arith
whole_long (_ ∷ _ ∷ []) h = omega arith
whole_long (_ ∷ []) h = omega arith
whole_long [] h = omega arith

pub long_more : (bytes more : List ℕ) → wanted_behind bytes ≡ 0 → length_at (bytes ++ more) ≡ length_at bytes
long_more (_ ∷ _ ∷ _ ∷ a ∷ b ∷ c ∷ d ∷ rest) more h = refl
long_more (_ ∷ _ ∷ _ ∷ _ ∷ _ ∷ _ ∷ []) more h = absurd cc
long_more (_ ∷ _ ∷ _ ∷ _ ∷ _ ∷ []) more h = absurd cc
long_more (_ ∷ _ ∷ _ ∷ _ ∷ []) more h = absurd cc
long_more (_ ∷ _ ∷ _ ∷ []) more h = absurd cc
long_more (_ ∷ _ ∷ []) more h = absurd cc
long_more (_ ∷ []) more h = absurd cc
long_more [] more h = absurd cc

pub none_came : (came behind : List ℕ) → came ++ behind ≡ [] → wanted_behind came ≡ 0 → ⊥
none_came [] behind e h = absurd cc
none_came (x ∷ xs) behind e h = absurd cc

-- the first piece is the notice
pub record NoticeFirst (came behind : List ℕ) (n : ℕ) (pieces : List Piece) : Type 0 where
  pub blocked : Bool
  pub octets : List ℕ
  pub others : List Piece
  pub is : pieces ≡ Notice blocked octets ∷ others
  pub left : drop n came ++ behind ≡ octets_of others

pub notice_first : (most : ℕ) (came behind : List ℕ) (pieces : List Piece) (blocked : Bool) (n : ℕ) → AllFit most pieces → came ++ behind ≡ octets_of pieces → IsNotice came blocked n → NoticeFirst came behind n pieces
notice_first most came behind [] blocked n fit e h = absurd (none_came came behind e h.0)
notice_first most came behind (Of g ∷ ps) blocked n fit e h =
    let no : ◌≡◌ {A = Option Read} None (Some (head.Frame (frame_again g) (length (bytes_of g)))) = sym h.1 ∙ (sym (read_more came behind h.0) ∙ (ap read_at e ∙ frame_back g (octets_of ps) fit.0.0)) in
    absurd cc
notice_first most came behind (Beat ∷ ps) blocked n fit e h =
    let no : ◌≡◌ {A = Option Read} None (Some (head.Heartbeat 8)) = sym h.1 ∙ (sym (read_more came behind h.0) ∙ (ap read_at e ∙ heartbeat_back (octets_of ps))) in
    absurd cc
notice_first most came behind (Notice b os ∷ ps) blocked n fit e h =
    let size : n ≡ length os = h.3 ∙ (sym (long_more came behind h.0) ∙ (ap length_at e ∙ (long_more os (octets_of ps) fit.0.0.0 ∙ sym fit.0.0.3))) in
    let room : n ≤ length came = subst (λ k. k ≤ length came) (sym h.3) (whole_long came h.0) in
    record { blocked = b; octets = os; others = ps; is = refl; left = others_left came behind n os (octets_of ps) room e size }

-- ---- pieces without their first

carried_both : (fs gs : List Frame) → AreCarried fs → AreCarried gs → AreCarried (fs ++ gs)
carried_both [] gs h k = k
carried_both (f ∷ fs) gs h k = (h.0, carried_both fs gs h.1 k)

-- the first of the frames
front_is : (f : Frame) (fs : List Frame) (ls : List Left) → f ∷ fs ≡ frames_left ls → (l : Left) × (ks : List Left) × (ls ≡ l ∷ ks) × (l.frame ≡ f) × (fs ≡ frames_left ks)
front_is f fs [] e = absurd cc
front_is f fs (l ∷ ks) e = (l, ks, refl, cc, cc)

-- one more on the way: a frame of the link, or another
more_few : (way frames : List Frame) (f : Frame) (n n' : ℕ) → n' ≡ n → length way ≤ length frames + n → length (way ++ f ∷ []) ≤ length (frames ++ f ∷ []) + n'
more_few way frames f n n' same few = let long = length-append way (f ∷ []) in let all = length-append frames (f ∷ []) in omega (arith, same, few, long, all)

stray_few : (way frames : List Frame) (f : Frame) (n n' : ℕ) → n' ≡ suc n → length way ≤ length frames + n → length (way ++ f ∷ []) ≤ length frames + n'
stray_few way frames f n n' one few = let long = length-append way (f ∷ []) in omega (arith, one, few, long)

module _ (n : ℕ) (x y : Net) (j : Joint World) (is : IsJoined n x j) where
  -- ---- the broker

  pub reads_goes : (p : Piece) → IsRead p x y → y.client ≡ x.client → y.down ≡ x.down → y.besides ≡ x.besides → GoesOn n (dealt_in (Reads p)) y j
  reads_goes (Notice blocked octets) r client down besides = absurd r
  reads_goes (Of f) r client down besides =
      let h = frame_first n x.up x.client.leaving.items is.up.written.pieces f r.0 is.up.written.fit is.up.written.are r.1 in
      let g : Frame = h.0 in
      let others : List Piece = h.1 in
      let list : g ∷ frames_in others ≡ is.up.on_way = sym (ap frames_in h.3) ∙ is.up.written.frames_are in
      let rest : List Frame = frames_in others ++ held_frames x.client.unsent in
      let front = front_is g rest j.up (ap (λ fs. fs ++ held_frames x.client.unsent) list ∙ sym is.up.all) in
      let fit : AllFit n (Of g ∷ others) = subst (AllFit n) h.3 is.up.written.fit in
      let here : IsJoined n y (read_first (front.0 ∷ front.1) j) = record {
        most = ap (λ (c : Client). c.frame_max) client ∙ is.most;
        session = ap (λ (c : Client). c.session) client ∙ is.session;
        broker = r.2 ∙ (ap (λ b. read b f) is.broker ∙ (ap (read j.broker) (sym h.2) ∙ (read_again j.broker g ∙ ap (read j.broker) (sym front.3))));
        up = record {
          on_way = frames_in others;
          written = record { pieces = others; are = ap (λ u. u ++ y.client.leaving.items) r.3 ∙ (ap (λ (c : Client). drop r.0 x.up ++ c.leaving.items) client ∙ h.4); frames_are = refl; fit = fit.1 };
          all = sym front.4 ∙ ap (λ (c : Client). frames_in others ++ held_frames c.unsent) (sym client);
        };
        down = coming_as n (x.client.came ++ x.down) (y.client.came ++ y.down) (hearing j.session) x.besides y.besides j.down (ap (λ (c : Client). c.came ++ y.down) client ∙ ap (λ d. x.client.came ++ d) down) besides is.down;
      } in
      record {
        steps = step.Read ∷ [];
        joined = subst (λ ls. IsJoined n y (read_first ls j)) (sym front.2) here;
        dealt_is = subst (λ ls. map as_dealt (reads_of (first_of ls) ++ []) ≡ Got f ∷ []) (sym front.2) (ap (λ k. Got (frame_again k) ∷ []) front.3 ∙ ap (λ k. Got k ∷ []) h.2);
      }
  reads_goes Beat r client down besides =
      let h = beat_first n x.up x.client.leaving.items is.up.written.pieces r.0 is.up.written.fit is.up.written.are r.1 in
      let fit : AllFit n (Beat ∷ h.0) = subst (AllFit n) h.1 is.up.written.fit in
      record {
        steps = [];
        dealt_is = refl;
        joined = record {
          most = ap (λ (c : Client). c.frame_max) client ∙ is.most;
          session = ap (λ (c : Client). c.session) client ∙ is.session;
          broker = r.2 ∙ is.broker;
          up = record {
            on_way = is.up.on_way;
            written = record { pieces = h.0; are = ap (λ u. u ++ y.client.leaving.items) r.3 ∙ (ap (λ (c : Client). drop r.0 x.up ++ c.leaving.items) client ∙ h.2); frames_are = sym (ap frames_in h.1) ∙ is.up.written.frames_are; fit = fit.1 };
            all = is.up.all ∙ ap (λ (c : Client). is.up.on_way ++ held_frames c.unsent) (sym client);
          };
          down = coming_as n (x.client.came ++ x.down) (y.client.came ++ y.down) (hearing j.session) x.besides y.besides j.down (ap (λ (c : Client). c.came ++ y.down) client ∙ ap (λ d. x.client.came ++ d) down) besides is.down;
        };
      }

  module _ (client : y.client ≡ x.client) (up : y.up ≡ x.up) where
    longer : (p : Piece) → y.down ≡ x.down ++ octets_in p → Fits n p → ArePieces n (y.client.came ++ y.down) (is.down.way ++ frames_in (p ∷ []))
    longer p down fit =
        let all : y.client.came ++ y.down ≡ (x.client.came ++ x.down) ++ octets_in p = ap (λ (c : Client). c.came ++ y.down) client ∙ (ap (λ d. x.client.came ++ d) down ∙ sym (append_assoc x.client.came x.down (octets_in p))) in
        subst (λ os. ArePieces n os (is.down.way ++ frames_in (p ∷ []))) (sym all) (with_piece n (x.client.came ++ x.down) is.down.way p is.down.written fit)

    -- of a frame, as it is read again
    longer_again : (f : Frame) → y.down ≡ x.down ++ octets_in (Of f) → Fits x.client.frame_max (Of f) → ArePieces n (y.client.came ++ y.down) (is.down.way ++ frame_again f ∷ [])
    longer_again f down fit =
        let here : Fits n (Of f) = subst (λ most. Fits most (Of f)) is.most fit in
        longer (Of (frame_again f)) (down ∙ ap (λ os. x.down ++ os) (sym (bytes_again f))) (fits_again f here.0, subst (λ os. length os ≤ n) (sym (bytes_again f)) here.1)

    above : AreSent n (y.up ++ y.client.leaving.items) y.client.unsent (frames_left j.up)
    above = sent_so n (frames_left j.up) (ap (λ u. u ++ y.client.leaving.items) up ∙ ap (λ (c : Client). x.up ++ c.leaving.items) client) (ap (λ (c : Client). c.unsent) client) is.up

    silent : (p : Piece) → frames_in (p ∷ []) ≡ [] → y.down ≡ x.down ++ octets_in p → y.besides ≡ x.besides → Fits n p → y.broker ≡ x.broker → GoesOn n [] y j
    silent p none down besides fit broker = record {
      steps = [];
      dealt_is = refl;
      joined = record {
        most = ap (λ (c : Client). c.frame_max) client ∙ is.most;
        session = ap (λ (c : Client). c.session) client ∙ is.session;
        broker = broker ∙ is.broker;
        up = above;
        down = record { way = is.down.way; written = subst (λ fs. ArePieces n (y.client.came ++ y.down) fs) (ap (λ fs. is.down.way ++ fs) none ∙ append-nil is.down.way) (longer p down fit); carried = is.down.carried; strays = is.down.strays; few = subst (λ m. length is.down.way ≤ length j.down + m) (sym besides) is.down.few };
      };
    }

    pub sends_goes : (p : Piece) → IsSentBy x.client.frame_max p x.broker y.broker → y.down ≡ x.down ++ octets_in p → y.besides ≡ x.besides → GoesOn n (dealt_in (Sends p)) y j
    sends_goes (Of f) h down besides =
        let g : Frame = frame_again f in
        let may_it : may j.broker g ≡ true = may_again j.broker f ∙ subst (λ b. may b f ≡ true) is.broker h.0 in
        let here : IsJoined n y (send_down g j) = record {
          most = ap (λ (c : Client). c.frame_max) client ∙ is.most;
          session = ap (λ (c : Client). c.session) client ∙ is.session;
          broker = h.1 ∙ (ap (λ b. send b f) is.broker ∙ sym (send_again j.broker f));
          up = above;
          down = record {
            way = is.down.way ++ g ∷ [];
            written = longer_again f down h.2;
            carried = carried_both is.down.way (g ∷ []) is.down.carried (again_carried f, tt);
            strays = frame_more is.down.way j.down g (hearing j.session) is.down.strays;
            few = more_few is.down.way j.down g x.besides y.besides besides is.down.few;
          };
        } in
        record {
          steps = step.Send g ∷ [];
          joined = subst (λ b. IsJoined n y (cond b (send_down g j) j)) (sym may_it) here;
          dealt_is = subst (λ b. map as_dealt (cond b (Sent g ∷ []) [] ++ []) ≡ Gave g ∷ []) (sym may_it) refl;
        }
    sends_goes Beat h down besides = silent Beat refl down besides tt h.0
    sends_goes (Notice b os) h down besides = silent (Notice b os) refl down besides (subst (λ most. Fits most (Notice b os)) is.most h.1) h.0

    -- what it sends besides comes to a channel that hears no contents
    pub strays_joined : (f : Frame) → ((c : ℕ) → is_open_to j.broker c ≡ false → hears_on (hear_at_end j.down (hearing j.session)) c ≡ false) → may_stray x.broker f ≡ true → Fits x.client.frame_max (Of f) → y.broker ≡ x.broker → y.down ≡ x.down ++ octets_in (Of f) → y.besides ≡ suc x.besides → IsJoined n y j
    strays_joined f quiet may_it fit broker down besides =
        let g : Frame = frame_again f in
        let parts = and_parts (is_part g) (not (is_open_to j.broker (channel_of g))) (stray_again j.broker f ∙ subst (λ b. may_stray b f ≡ true) is.broker may_it) in
        let shut : is_open_to j.broker (channel_of g) ≡ false = not-true _ parts.1 in
        record {
          most = ap (λ (c : Client). c.frame_max) client ∙ is.most;
          session = ap (λ (c : Client). c.session) client ∙ is.session;
          broker = broker ∙ is.broker;
          up = above;
          down = record {
            way = is.down.way ++ g ∷ [];
            written = longer_again f down fit;
            carried = carried_both is.down.way (g ∷ []) is.down.carried (again_carried f, tt);
            strays = stray_more is.down.way j.down g (hearing j.session) parts.0 (quiet (channel_of g) shut) is.down.strays;
            few = stray_few is.down.way j.down g x.besides y.besides besides is.down.few;
          };
        }
