-- A run of the pair with requests and contents is one of the pair that keeps tags and counts too, where each settlement that is sent
-- may be sent by the count.
use Rattle.std.proofs.Common.{◌≡◌, ℕ, Bool, true, false, cond, ◌==◌, ◌&&◌, List, [], ◌∷◌, ◌++◌, refl, sym, ◌∙◌, ap, subst, Option, Some, None}
use mathlib.Core.Path.{fun_ext}
use Rattle.lapin_pairs.specs.Machine as pair
use Rattle.lapin_pairs.specs.Machine.{Sess, Closed, Opening, Opened, Closing, Crossed, Refused}
use Rattle.lapin_pairs.specs.Channel.{DownF, kind_down, may_data}
use Rattle.lapin_pairs.specs.Every.{has_any, UpOn, OnU, CloseU, CloseOkU, DownOn, ToD, CloseD, CloseOkD, conn_u, conn_d, of_u, on_all, left_all, All, StepA, CallA, SendA, HangUpA, NextA, ReadA, DeliverA, LoseA, called_a, calls_a, hangs_a, hands_a, sides_after, reads_a, received_a, delivers_a, may_a, sides_sent, sends_a, happens_a, put}
use Rattle.lapin_pairs.specs.Asking.{U2, flat, S2, K2, call2, needs2, left2, asking}
use Rattle.lapin_pairs.specs.Tags.{may_settle}
use Rattle.lapin_pairs.specs.Tagging.{S3, B3, on_base, marked, take3, reads3b, gives3, tagging}
use Rattle.lapin_tables.proofs.Bools.{and_true}
use Rattle.lapin_pairs.proofs.Tagging.{base-read}

-- the pair without its tags and counts
abbrev pub bare : All tagging → All asking
bare t = record { conn = t.conn; chans = λ c. (t.chans c).base; unsent = t.unsent; up = t.up; broker = t.broker; sides = λ c. (t.sides c).base; down = t.down }

-- the same step
abbrev pub tagged_step : StepA asking → StepA tagging
tagged_step (CallA c k) = CallA c k
tagged_step (SendA f) = SendA f
tagged_step HangUpA = HangUpA
tagged_step NextA = NextA
tagged_step ReadA = ReadA
tagged_step DeliverA = DeliverA
tagged_step LoseA = LoseA

-- where a frame is sent, its count allows it
abbrev pub IsAllowed : All tagging → StepA asking → Type 0
IsAllowed t (SendA (ToD c d)) = may_settle (t.sides c).tag_count d ≡ true
IsAllowed t _ = Unit {0}

put_base : (c : ℕ) (s : S3) (f : ℕ → S3) → (λ e. (put c s f e).base) ≡ put c s.base (λ e. (f e).base)
put_base c s f = fun_ext (λ e. elim (c == e) as (λ b. (cond b s (f e)).base ≡ cond b s.base (f e).base) [ true ↦ refl | false ↦ refl ])

put_side : (c : ℕ) (s : B3) (f : ℕ → B3) → (λ e. (put c s f e).base) ≡ put c s.base (λ e. (f e).base)
put_side c s f = fun_ext (λ e. elim (c == e) as (λ b. (cond b s (f e)).base ≡ cond b s.base (f e).base) [ true ↦ refl | false ↦ refl ])

-- ---- calls

called_bare : (t : All tagging) (c : ℕ) (k : K2) (o : Option (S2 × List U2)) → bare (called_a tagging t c (on_base (marked k (t.chans c)) o)) ≡ called_a asking (bare t) c o
called_bare t c k None = refl
called_bare t c k (Some x) = ap (λ cs. record (bare t) { chans = cs; unsent = t.unsent ++ on_all c x.1 }) (put_base c (record (marked k (t.chans c)) { base = x.0 }) t.chans)

calls_bare : (t : All tagging) (s : Sess) (c : ℕ) (k : K2) (b : Bool) → bare (calls_a tagging t s c k b) ≡ calls_a asking (bare t) s c k b
calls_bare t Opened c k false = called_bare t c k (call2 k (t.chans c).base)
calls_bare t Opened c k true = refl
calls_bare t Closed c k b = refl
calls_bare t Opening c k b = refl
calls_bare t Closing c k b = refl
calls_bare t Crossed c k b = refl
calls_bare t Refused c k b = refl

hangs_bare : (t : All tagging) (s : Sess) → bare (hangs_a tagging t s) ≡ hangs_a asking (bare t) s
hangs_bare t Opened = refl
hangs_bare t Closed = refl
hangs_bare t Opening = refl
hangs_bare t Closing = refl
hangs_bare t Crossed = refl
hangs_bare t Refused = refl

hands_bare : (t : All tagging) (fs : List (UpOn U2)) → bare (hands_a tagging t fs) ≡ hands_a asking (bare t) fs
hands_bare t [] = refl
hands_bare t (f ∷ fs) = refl

-- ---- the broker

sides_bare : (p : pair.Peer) (ss : ℕ → B3) (f : UpOn U2) → (λ e. (sides_after tagging p ss f e).base) ≡ sides_after asking p (λ e. (ss e).base) f
sides_bare pair.Open ss (OnU c u) = put_side c (reads3b (ss c) u) ss ∙ ap (λ x. put c x (λ e. (ss e).base)) (base-read (ss c) (flat u))
sides_bare pair.Open ss CloseU = refl
sides_bare pair.Open ss CloseOkU = refl
sides_bare pair.Free ss f = refl
sides_bare pair.Asked ss f = refl
sides_bare pair.Leaving ss f = refl
sides_bare pair.Stopping ss f = refl
sides_bare pair.StoppingOwes ss f = refl
sides_bare pair.StoppingAnswered ss f = refl
sides_bare pair.Broken ss f = refl

reads_bare : (t : All tagging) (fs : List (UpOn U2)) → bare (reads_a tagging t fs) ≡ reads_a asking (bare t) fs
reads_bare t [] = refl
reads_bare t (f ∷ fs) = ap (λ ss. record (bare t) { up = fs; broker = pair.read t.broker (conn_u f); sides = ss }) (sides_bare t.broker t.sides f)

pub may_bare : (p : pair.Peer) (ss : ℕ → B3) (f : DownOn DownF) → ((c : ℕ) (d : DownF) → f ≡ ToD c d → may_settle (ss c).tag_count d ≡ true) → may_a tagging p ss f ≡ may_a asking p (λ e. (ss e).base) f
may_bare pair.Open ss (ToD c d) h = by_count (may_settle (ss c).tag_count d) (h c d refl)
  where
    by_count : (q : Bool) → q ≡ true → ((pair.may_send (ss c).base.peer (kind_down d) && may_data (ss c).base.peer (ss c).base.kept d) && q) ≡ (pair.may_send (ss c).base.peer (kind_down d) && may_data (ss c).base.peer (ss c).base.kept d)
    by_count q e = rw e (and_true (pair.may_send (ss c).base.peer (kind_down d) && may_data (ss c).base.peer (ss c).base.kept d))
may_bare pair.Open ss CloseD h = refl
may_bare pair.Open ss CloseOkD h = refl
may_bare pair.Free ss (ToD c d) h = refl
may_bare pair.Free ss CloseD h = refl
may_bare pair.Free ss CloseOkD h = refl
may_bare pair.Asked ss (ToD c d) h = refl
may_bare pair.Asked ss CloseD h = refl
may_bare pair.Asked ss CloseOkD h = refl
may_bare pair.Leaving ss (ToD c d) h = refl
may_bare pair.Leaving ss CloseD h = refl
may_bare pair.Leaving ss CloseOkD h = refl
may_bare pair.Stopping ss (ToD c d) h = refl
may_bare pair.Stopping ss CloseD h = refl
may_bare pair.Stopping ss CloseOkD h = refl
may_bare pair.StoppingOwes ss (ToD c d) h = refl
may_bare pair.StoppingOwes ss CloseD h = refl
may_bare pair.StoppingOwes ss CloseOkD h = refl
may_bare pair.StoppingAnswered ss (ToD c d) h = refl
may_bare pair.StoppingAnswered ss CloseD h = refl
may_bare pair.StoppingAnswered ss CloseOkD h = refl
may_bare pair.Broken ss (ToD c d) h = refl
may_bare pair.Broken ss CloseD h = refl
may_bare pair.Broken ss CloseOkD h = refl

sent_bare : (ss : ℕ → B3) (f : DownOn DownF) → (λ e. (sides_sent tagging ss f e).base) ≡ sides_sent asking (λ e. (ss e).base) f
sent_bare ss (ToD c d) = put_side c (gives3 (ss c) d) ss
sent_bare ss CloseD = refl
sent_bare ss CloseOkD = refl

sends_bare : (t : All tagging) (f : DownOn DownF) → bare (sends_a tagging t f) ≡ sends_a asking (bare t) f
sends_bare t f = ap (λ ss. record (bare t) { broker = pair.sent t.broker (conn_d f); sides = ss; down = t.down ++ f ∷ [] }) (sent_bare t.sides f)

-- ---- the session receives

received_bare : (t : All tagging) (s : Sess) (f : DownOn DownF) (ds : List (DownOn DownF)) → bare (received_a tagging t s f ds) ≡ received_a asking (bare t) s f ds
received_bare t Opened (ToD c d) ds = ap (λ cs. record (bare t) { chans = cs; unsent = left_all c (left2 (t.chans c).base (of_u c t.unsent) d) t.unsent; down = ds }) (put_base c (take3 (t.chans c) (of_u c t.unsent) d) t.chans)
received_bare t Opened CloseD ds = refl
received_bare t Opened CloseOkD ds = refl
received_bare t Closed f ds = refl
received_bare t Opening f ds = refl
received_bare t Closing f ds = refl
received_bare t Crossed f ds = refl
received_bare t Refused f ds = refl

delivers_bare : (t : All tagging) (ds : List (DownOn DownF)) → bare (delivers_a tagging t ds) ≡ delivers_a asking (bare t) ds
delivers_bare t [] = refl
delivers_bare t (f ∷ ds) = received_bare t t.conn f ds

-- ---- any step

pub allowed_at : (t : All tagging) (f : DownOn DownF) → IsAllowed t (SendA f) → (c : ℕ) (d : DownF) → f ≡ ToD c d → may_settle (t.sides c).tag_count d ≡ true
allowed_at t f h c d e = subst (λ x. IsAllowed t (SendA x)) e h

pub bare_step : (t : All tagging) (s : StepA asking) → IsAllowed t s → bare (happens_a tagging t (tagged_step s)) ≡ happens_a asking (bare t) s
bare_step t (CallA c k) h = calls_bare t t.conn c k (needs2 k && has_any t.unsent)
bare_step t (SendA f) h = by_may (may_a tagging t.broker t.sides f) refl
  where
    same : may_a tagging t.broker t.sides f ≡ may_a asking t.broker (λ e. (t.sides e).base) f
    same = may_bare t.broker t.sides f (allowed_at t f h)

    by_may : (b : Bool) → may_a tagging t.broker t.sides f ≡ b → bare (cond (may_a tagging t.broker t.sides f) (sends_a tagging t f) t) ≡ cond (may_a asking t.broker (λ e. (t.sides e).base) f) (sends_a asking (bare t) f) (bare t)
    by_may true e = ap (λ b. bare (cond b (sends_a tagging t f) t)) e ∙ (sends_bare t f ∙ ap (λ b. cond b (sends_a asking (bare t) f) (bare t)) (sym (sym same ∙ e)))
    by_may false e = ap (λ b. bare (cond b (sends_a tagging t f) t)) e ∙ ap (λ b. cond b (sends_a asking (bare t) f) (bare t)) (sym (sym same ∙ e))
bare_step t HangUpA h = hangs_bare t t.conn
bare_step t NextA h = hands_bare t t.unsent
bare_step t ReadA h = reads_bare t t.up
bare_step t DeliverA h = delivers_bare t t.down
bare_step t LoseA h = refl
