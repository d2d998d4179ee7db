-- The counts of the free broker and of the pair's, as a client's frame is read.
use Rattle.std.proofs.Common.{◌≡◌, ◌<◌, true, false, cond, length, refl, sym, ◌∙◌, ap, subst, Some}
use Rattle.std.specs.List.{list_any}
use Rattle.lapin_types.specs.Types.{Frame}
use Rattle.lapin_tables.specs.Numbered.{under}
use Rattle.lapin_broker.specs.declared.content.Content.{Content}
use Rattle.lapin_broker.specs.declared.content.Content.TheVariants as content
use Rattle.lapin_broker.specs.declared.frames.ClientFrame.{ClientFrame}
use Rattle.lapin_broker.specs.declared.frames.ClientFrame.TheVariants as client
use Rattle.lapin_broker.specs.declared.peer.Peer.{Peer}
use Rattle.lapin_broker.specs.declared.peer.Peer.TheVariants as peer
use Rattle.lapin_broker.specs.Contents.{is_idle}
use Rattle.lapin_broker.specs.States.{Channel}
use Rattle.lapin_broker.specs.Reads.{with_next_number, breaks_in, breaks_open, read_open, read_in}
use Rattle.lapin_pairs.specs.Machine as pair
use Rattle.lapin_pairs.specs.Channel as kept
use Rattle.lapin_pairs.specs.Asking.{flat}
use Rattle.lapin_pairs.specs.Tags.{covers, TagCount, counted}
use Rattle.lapin_pairs.specs.Tagging.{read_flat3}
use Rattle.lapin_concord.specs.Peers.{peer_as, content_as, kept_as}
use Rattle.lapin_concord.specs.Numbering.{IsCount, IsCountIn}
use Rattle.lapin_concord.proofs.Reading.{small}
use Rattle.lapin_concord.proofs.Numbering.{numbered_counts}

-- the same count, where what it is of is the same
pub count_as : (x y : Channel) (k l : TagCount) → y.selected ≡ x.selected → y.numbers ≡ x.numbers → l.chosen ≡ k.chosen → l.numbered ≡ k.numbered → l.log ≡ k.log → IsCount x k → IsCount y l
count_as x y k l s n c m g h = record {
  chosen = c ∙ (h.chosen ∙ sym s);
  count = ap length m ∙ (h.count ∙ sym (ap length n));
  open_ = λ i u e. ap (list_any (covers i)) g ∙ h.open_ i u (ap (under i) (sym n) ∙ e);
  low = λ i lt. ap (list_any (covers i)) g ∙ h.low i (subst (λ q. length q < i) m lt);
  none = λ e. n ∙ h.none (sym s ∙ e);
}

pub counts_in : (p : Peer) (x : Channel) (k l : TagCount) → x.peer ≡ p → l ≡ k → IsCountIn p x k → IsCountIn x.peer x l
counts_in p x k l e f h = subst (λ q. IsCountIn q x l) (sym e) (subst (IsCountIn p x) (sym f) h)

-- the pair's count of a channel in that state, once the frame was read while no content was
abbrev tag_count_by : Channel → TagCount → ClientFrame → pair.Peer → TagCount
tag_count_by x k u q = (read_flat3 (record { base = record { peer = q; kept = kept_as x; reading = Some kept.Idle }; tag_count = k }) (flat (small u))).tag_count

in_state : (p : Peer) (x : Channel) (k : TagCount) (u : ClientFrame) → x.peer ≡ p → tag_count_by x k u (peer_as x.peer) ≡ tag_count_by x k u (peer_as p)
in_state p x k u e = ap (tag_count_by x k u) (ap peer_as e)

open_counts : (f : Frame) (x : Channel) (k : TagCount) (u : ClientFrame) → x.peer ≡ peer.Open → breaks_open u ≡ false → IsCount x k → IsCountIn (read_open f x u).peer (read_open f x u) (tag_count_by x k u (peer_as x.peer))
open_counts f x k client.Close e b h = subst (IsCount (read_open f x client.Close)) (sym (in_state peer.Open x k client.Close e)) (count_as x (record x { peer = peer.Leaving }) k k refl refl refl refl refl h)
open_counts f x k client.Publish e b h = counts_in peer.Open x (record k { current = 0 }) _ e (in_state peer.Open x k client.Publish e) (count_as x x k (record k { current = 0 }) refl refl refl refl refl h)
open_counts f x k (client.Select true) e b h = counts_in peer.Open (read_open f x (client.Select true)) (record k { chosen = true }) _ e (in_state peer.Open x k (client.Select true) e) (record { chosen = refl; count = h.count; open_ = h.open_; low = h.low; none = λ n. cc })
open_counts f x k (client.Select false) e b h = counts_in peer.Open (read_open f x (client.Select false)) (record k { chosen = true }) _ e (in_state peer.Open x k (client.Select false) e) (record { chosen = refl; count = h.count; open_ = h.open_; low = h.low; none = λ n. cc })
open_counts f x k (client.Ask q) e b h = counts_in peer.Open (read_open f x (client.Ask q)) k _ e (in_state peer.Open x k (client.Ask q) e) (count_as x (read_open f x (client.Ask q)) k k refl refl refl refl refl h)
open_counts f x k client.Consume e b h = counts_in peer.Open (read_open f x client.Consume) k _ e (in_state peer.Open x k client.Consume e) (count_as x (read_open f x client.Consume) k k refl refl refl refl refl h)
open_counts f x k client.Cancel e b h = counts_in peer.Open (read_open f x client.Cancel) k _ e (in_state peer.Open x k client.Cancel e) (count_as x (read_open f x client.Cancel) k k refl refl refl refl refl h)
open_counts f x k client.Tell e b h = counts_in peer.Open x k _ e (in_state peer.Open x k client.Tell e) h
open_counts f x k _ e b h = cc

-- a frame that doesn't break its channel, while no content is being read
pub read_counts : (p : Peer) (f : Frame) (x : Channel) (k : TagCount) (u : ClientFrame) → x.peer ≡ p → breaks_in p u ≡ false → IsCountIn p x k → IsCountIn (read_in p f x u).peer (read_in p f x u) (tag_count_by x k u (peer_as x.peer))
read_counts peer.Open f x k u e b h = open_counts f x k u e b h
read_counts peer.Free f x k client.Open e b h = subst (IsCount (record x { peer = peer.Asked })) (sym (in_state peer.Free x k client.Open e)) (record { chosen = sym h.0; count = sym (ap length h.1); open_ = λ i u y. refl; low = λ i lt. refl; none = λ _. h.1 })
read_counts peer.Free f x k _ e b h = cc
read_counts peer.Asked f x k u e b h = cc
read_counts peer.Leaving f x k u e b h = cc
read_counts peer.Stopping f x k client.Close e b h = subst (IsCount (record x { peer = peer.StoppingOwes })) (sym (in_state peer.Stopping x k client.Close e)) (count_as x (record x { peer = peer.StoppingOwes }) k k refl refl refl refl refl h)
read_counts peer.Stopping f x k client.CloseOk e b h = (refl, refl)
read_counts peer.Stopping f x k (client.Select true) e b h = counts_in peer.Stopping x k _ e (in_state peer.Stopping x k (client.Select true) e) h
read_counts peer.Stopping f x k (client.Select false) e b h = counts_in peer.Stopping x k _ e (in_state peer.Stopping x k (client.Select false) e) h
read_counts peer.Stopping f x k u e b h = counts_in peer.Stopping x k _ e (in_state peer.Stopping x k u e) h
read_counts peer.StoppingOwes f x k client.CloseOk e b h = subst (IsCount (record x { peer = peer.StoppingAnswered })) (sym (in_state peer.StoppingOwes x k client.CloseOk e)) (count_as x (record x { peer = peer.StoppingAnswered }) k k refl refl refl refl refl h)
read_counts peer.StoppingOwes f x k (client.Select true) e b h = counts_in peer.StoppingOwes x k _ e (in_state peer.StoppingOwes x k (client.Select true) e) h
read_counts peer.StoppingOwes f x k (client.Select false) e b h = counts_in peer.StoppingOwes x k _ e (in_state peer.StoppingOwes x k (client.Select false) e) h
read_counts peer.StoppingOwes f x k u e b h = counts_in peer.StoppingOwes x k _ e (in_state peer.StoppingOwes x k u e) h
read_counts peer.StoppingAnswered f x k (client.Select true) e b h = counts_in peer.StoppingAnswered x k _ e (in_state peer.StoppingAnswered x k (client.Select true) e) h
read_counts peer.StoppingAnswered f x k (client.Select false) e b h = counts_in peer.StoppingAnswered x k _ e (in_state peer.StoppingAnswered x k (client.Select false) e) h
read_counts peer.StoppingAnswered f x k u e b h = counts_in peer.StoppingAnswered x k _ e (in_state peer.StoppingAnswered x k u e) h

-- a piece of a content: what came whole takes its number in both
pub piece_counts : (x : Channel) (k : TagCount) (v : Content) → IsCount x k → IsCount (cond (is_idle v) (with_next_number x) x) (counted k (Some (content_as v)))
piece_counts x k content.Idle h = numbered_counts x k h
piece_counts x k content.Begun h = h
piece_counts x k (content.Left n) h = h
