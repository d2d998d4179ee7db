-- The consumers of a history with one mark more: each is what it was with what the mark did to it, or was just registered.
use Rattle.std.proofs.Common.{◌≡◌, ◌∙◌, ℕ, suc, ◌==◌, Bool, true, false, cond, ◌&&◌, ◌||◌, List, [], ◌∷◌, ◌++◌, length, map, Option, Some, None, Ok, ◌⊎◌, inl, inr, refl, sym, ap, subst, append-nil, length-append, ◌+◌, arith, slice_get}
use Rattle.std.specs.Prelude.{filter_map}
use Rattle.std.specs.List.{list_any}
use Rattle.std.specs.Option.{option_map}
use Rattle.std.proofs.lemmas.Bool.Decides.{eqb_tells}
use Rattle.std.proofs.lemmas.List.Folds.{list_any-append}
use Rattle.lapin_types.specs.Types.{Error}
use Rattle.lapin_types.specs.declared.message.Delivery.{Delivery}
use Rattle.lapin_consumer.specs.declared.state.ConsumerState.{ConsumerState}
use Rattle.lapin_consumer.specs.Words.{map_at}
use Rattle.lapin_consumer.specs.Marks.{ConsumerMark}
use Rattle.lapin_consumer.specs.Marks as mark
use Rattle.lapin_consumer.specs.Subscriptions.{Handed, concerns, is_on, is_under, is_marked, last_words}
use Rattle.lapin_consumer.specs.Readings.{Entry, Waiting, Given, MadeJob, Void, Story, arrivals, arrived, arrived_one, turned_job, poll_first, told, seen, told_at, joined_story, newcomer_story, stories, log_in, log, words, handed_one, handed_by}
use Rattle.lapin_consumer.proofs.Arrivals.{joins}
use Rattle.lapin_consumer.proofs.Following.{stories-push}
use Rattle.lapin_consumer.proofs.Leaving.{get-pushed}
use Rattle.lapin_consumer.proofs.Places.{get-map_at, length-map_at}
use Rattle.lapin_delivery.specs.Deliveries.{consumer_marks, all_consumer_marks}
use Rattle.lapin_delivery.specs.Marks.{DeliveryMark}
use Rattle.lapin_delivery.specs.Marks as deliveries
use Rattle.lapin_laws.proofs.DeliveriesMoves.{joined}
use Rattle.lapin_verdicts.specs.Messages.{message_of, messages}
use Rattle.lapin_messages.specs.Carried.{is_void}
use Rattle.lapin_messages.specs.Openings.{registers}
use Rattle.lapin_rules.proofs.ListLaws.{or_false}
use Rattle.std.proofs.lemmas.List.Elements.{filter_map-append}

-- ---- what a mark does to a consumer, whose number is one more than its place

-- its registration ends
abbrev pub leaves : ConsumerMark → Story → Bool
leaves (mark.Registered c t q) s = is_under c t (seen s)
leaves (mark.Canceled c t) s = is_under c t (seen s)
leaves (mark.Ended c e) s = is_on c (seen s)
leaves m s = false

-- it is handed this message
abbrev pub brought : ConsumerMark → ℕ → Story → List Delivery
brought (mark.Completed k d) p s = cond ((suc p == k) && s.registered) (d ∷ []) []
brought m p s = []

-- what waits for it is void
abbrev pub voids : ConsumerMark → Story → Bool
voids (mark.Discarded c) s = is_on c (seen s)
voids m s = false

pub record Same (m : ConsumerMark) (p : ℕ) (s s' : Story) : Type 0 where
  pub channel : s'.channel ≡ s.channel
  pub tag : s'.tag ≡ s.tag
  pub registered : s'.registered ≡ true → s.registered ≡ true
  pub left : leaves m s ≡ true → s'.registered ≡ false
  pub messages : messages s'.log ≡ messages s.log ++ brought m p s
  pub void : list_any is_void s'.log ≡ true → (list_any is_void s.log ≡ true) ⊎ (voids m s ≡ true)

-- ---- entries that are void

void_poll : (es : List Entry) → list_any is_void (poll_first es) ≡ list_any is_void es
void_poll [] = refl
void_poll (Waiting y ∷ es) = refl
void_poll (Given y ∷ es) = void_poll es
void_poll (MadeJob y ∷ es) = void_poll es
void_poll (Void y ∷ es) = refl

void_jobs : (es : List Entry) → list_any is_void (map turned_job es) ≡ list_any is_void es
void_jobs [] = refl
void_jobs (Waiting y ∷ es) = void_jobs es
void_jobs (Given y ∷ es) = void_jobs es
void_jobs (MadeJob y ∷ es) = void_jobs es
void_jobs (Void y ∷ es) = refl

void_new : (x : ConsumerState) (ys : List Handed) → list_any is_void (map (arrived_one x) ys) ≡ false
void_new x [] = refl
void_new x (y ∷ ys) = elim (is_marked x) as (λ b. list_any is_void (cond b (MadeJob y) (Waiting y) ∷ map (arrived_one x) ys) ≡ false) [ true ↦ void_new x ys | false ↦ void_new x ys ]

void_arrived : (x : ConsumerState) (ys : List Handed) (es : List Entry) → list_any is_void (arrived x ys es) ≡ list_any is_void es
void_arrived x ys es = list_any-append is_void es (map (arrived_one x) ys) ∙ (ap (λ b. list_any is_void es || b) (void_new x ys) ∙ or_false (list_any is_void es))

-- ---- all but the messages

record Alike (m : ConsumerMark) (s s' : Story) : Type 0 where
  channel : s'.channel ≡ s.channel
  tag : s'.tag ≡ s.tag
  registered : s'.registered ≡ true → s.registered ≡ true
  left : leaves m s ≡ true → s'.registered ≡ false
  void : list_any is_void s'.log ≡ true → (list_any is_void s.log ≡ true) ⊎ (voids m s ≡ true)

-- a mark about the consumer, whose registration it leaves or ends
told_alike : (m : ConsumerMark) (p : ℕ) (s : Story) → concerns m (suc p) (seen s) ≡ true → Alike m s (told m s)
told_alike (mark.Registered c t q) p s h = record { channel = refl; tag = refl; registered = λ e. absurd cc; left = λ _. refl; void = λ e. inl e }
told_alike (mark.Completed k d) p s h = record { channel = refl; tag = refl; registered = λ e. e; left = λ e. absurd cc; void = λ e. inl (sym (void_arrived s.state (Ok (Some d) ∷ []) s.log) ∙ e) }
told_alike (mark.CancelAsked c t) p s h = record { channel = refl; tag = refl; registered = λ e. e; left = λ e. absurd cc; void = λ e. inl e }
told_alike (mark.CloseAsked c) p s h = record { channel = refl; tag = refl; registered = λ e. e; left = λ e. absurd cc; void = λ e. inl e }
told_alike (mark.Canceled c t) p s h = record { channel = refl; tag = refl; registered = λ e. absurd cc; left = λ _. refl; void = λ e. inl (sym (void_arrived s.state (last_words None) s.log) ∙ e) }
told_alike (mark.Ended c x) p s h = record { channel = refl; tag = refl; registered = λ e. absurd cc; left = λ _. refl; void = λ e. inl (sym (void_arrived s.state (last_words x) s.log) ∙ e) }
told_alike (mark.Discarded c) p s h = record { channel = refl; tag = refl; registered = λ e. e; left = λ e. absurd cc; void = λ e. inr h }
told_alike (mark.Delegated k) p s h = record { channel = refl; tag = refl; registered = λ e. e; left = λ e. absurd cc; void = λ e. inl (sym (void_jobs s.log) ∙ e) }
told_alike (mark.Polled k) p s h = record { channel = refl; tag = refl; registered = λ e. e; left = λ e. absurd cc; void = λ e. inl (sym (void_poll s.log) ∙ e) }
told_alike (mark.LetGo k) p s h = record { channel = refl; tag = refl; registered = λ e. e; left = λ e. absurd cc; void = λ e. inl e }
told_alike mark.JobAsked p s h = record { channel = refl; tag = refl; registered = λ e. e; left = λ e. absurd cc; void = λ e. inl e }

-- one that isn't about it leaves it
unleft : (m : ConsumerMark) (p : ℕ) (s : Story) → concerns m (suc p) (seen s) ≡ false → leaves m s ≡ false
unleft (mark.Registered c t q) p s h = h
unleft (mark.Canceled c t) p s h = h
unleft (mark.Ended c e) p s h = h
unleft _ p s h = refl

alike : (m : ConsumerMark) (p : ℕ) (s : Story) → Alike m s (told_at m p s)
alike m p s = elim (concerns m (suc p) (seen s)) as (λ b. concerns m (suc p) (seen s) ≡ b → Alike m s (cond b (told m s) s)) [
  | true ↦ λ h. told_alike m p s h
  | false ↦ λ h. record { channel = refl; tag = refl; registered = λ e. e; left = λ e. (let z : true ≡ false = sym e ∙ unleft m p s h in absurd cc); void = λ e. inl e }
] refl

-- ---- the messages

-- the ends and errors are no messages
last_none : (e : Option Error) → filter_map message_of (last_words e) ≡ []
last_none None = refl
last_none (Some x) = refl

words_brought : (m : ConsumerMark) (p : ℕ) (s : Story) → filter_map message_of (cond (concerns m (suc p) (seen s)) (words m) []) ≡ brought m p s
words_brought (mark.Completed k d) p s = elim ((suc p == k) && s.registered) as (λ b. filter_map message_of (cond b (Ok (Some d) ∷ []) []) ≡ cond b (d ∷ []) []) [ true ↦ refl | false ↦ refl ]
words_brought (mark.Canceled c t) p s = elim (is_under c t (seen s)) as (λ b. filter_map message_of (cond b (last_words None) []) ≡ []) [ true ↦ refl | false ↦ refl ]
words_brought (mark.Ended c e) p s = elim (is_on c (seen s)) as (λ b. filter_map message_of (cond b (last_words e) []) ≡ []) [ true ↦ last_none e | false ↦ refl ]
words_brought m p s = elim (concerns m (suc p) (seen s)) as (λ b. filter_map message_of (cond b [] []) ≡ []) [ true ↦ refl | false ↦ refl ]

-- ---- the consumer at a place

-- where it comes from
pub data Origin (ms : List ConsumerMark) (m : ConsumerMark) (p : ℕ) (s' : Story) : Type 0 where
  Was : (s : Story) (there : slice_get (stories ms) p ≡ Some s) (same : Same m p s s') → Origin ms m p s'
  New : (c : ℕ) (t q : List ℕ) (is : m ≡ mark.Registered c t q) (last : p ≡ length (stories ms)) (it : s' ≡ newcomer_story c t q) → Origin ms m p s'

mapped : (m : ConsumerMark) (p : ℕ) (s' : Story) (o : Option Story) → option_map (told_at m p) o ≡ Some s' → (s : Story) × (o ≡ Some s) × (told_at m p s ≡ s')
mapped m p s' None h = absurd cc
mapped m p s' (Some s) h = (s, refl, (let e : told_at m p s ≡ s' = cc in e))

was : (ms : List ConsumerMark) (m : ConsumerMark) (p : ℕ) (s' : Story) → slice_get (stories (ms ++ m ∷ [])) p ≡ Some s' → slice_get (map_at (told_at m) (stories ms)) p ≡ Some s' → Origin ms m p s'
was ms m p s' now h =
    let o = mapped m p s' (slice_get (stories ms) p) (sym (get-map_at (told_at m) p (stories ms)) ∙ h) in
    let s : Story = o.0 in
    let a : Alike m s s' = subst (Alike m s) o.2 (alike m p s) in
    let before : log (suc p) ms ≡ s.log = ap log_in o.1 in
    let after : log (suc p) (ms ++ m ∷ []) ≡ s'.log = ap log_in now in
    let handed : handed_by m p ms ≡ cond (concerns m (suc p) (seen s)) (words m) [] = ap (handed_one m (suc p)) o.1 in
    let came : arrivals s'.log ≡ arrivals s.log ++ cond (concerns m (suc p) (seen s)) (words m) [] = ap arrivals (sym after) ∙ (joins ms m p ∙ (ap (λ v. arrivals v ++ handed_by m p ms) before ∙ ap (λ v. arrivals s.log ++ v) handed)) in
    Was s o.1 (record {
      channel = a.channel;
      tag = a.tag;
      registered = a.registered;
      left = a.left;
      messages = ap (filter_map message_of) came ∙ (filter_map-append message_of (arrivals s.log) (cond (concerns m (suc p) (seen s)) (words m) []) ∙ ap (λ v. messages s.log ++ v) (words_brought m p s));
      void = a.void;
    })

get_last : {X : Type 0} (xs : List X) (z y : X) → slice_get (xs ++ z ∷ []) (length xs) ≡ Some y → z ≡ y
get_last [] z y h = cc
get_last (x ∷ xs) z y h = get_last xs z y h

pushed : (ms : List ConsumerMark) (c : ℕ) (t q : List ℕ) (p : ℕ) (s' : Story) → slice_get (stories (ms ++ mark.Registered c t q ∷ [])) p ≡ Some s' → Origin ms (mark.Registered c t q) p s'
pushed ms c t q p s' now =
    let m : ConsumerMark = mark.Registered c t q in
    let ss : List Story = map_at (told_at m) (stories ms) in
    let size : length ss ≡ length (stories ms) = length-map_at (told_at m) (stories ms) in
    let there : slice_get (ss ++ newcomer_story c t q ∷ []) p ≡ Some s' = ap (λ v. slice_get v p) (sym (stories-push [] ms m)) ∙ now in
    elim (eqb_tells p (length ss)) [
      | inl y ↦ New c t q refl (y.1 ∙ size) (sym (get_last ss (newcomer_story c t q) s' (ap (slice_get (ss ++ newcomer_story c t q ∷ [])) (sym y.1) ∙ there)))
      | inr n ↦ was ms m p s' now (get-pushed ss (newcomer_story c t q) p s' there n.1)
    ]

plainly : (ms : List ConsumerMark) (m : ConsumerMark) (p : ℕ) (s' : Story) → joined_story m (map_at (told_at m) (stories ms)) ≡ map_at (told_at m) (stories ms) → slice_get (stories (ms ++ m ∷ [])) p ≡ Some s' → Origin ms m p s'
plainly ms m p s' same now = was ms m p s' now (ap (λ v. slice_get v p) (sym (stories-push [] ms m ∙ same)) ∙ now)

pub origin : (ms : List ConsumerMark) (m : ConsumerMark) (p : ℕ) (s' : Story) → slice_get (stories (ms ++ m ∷ [])) p ≡ Some s' → Origin ms m p s'
origin ms (mark.Registered c t q) p s' h = pushed ms c t q p s' h
origin ms m p s' h = plainly ms m p s' refl h

-- how many there are
pub length-next : (ms : List ConsumerMark) (m : ConsumerMark) → length (stories (ms ++ m ∷ [])) ≡ length (joined_story m (stories ms))
length-next ms m = ap length (stories-push [] ms m) ∙ by m
  where
    by : (m : ConsumerMark) → length (joined_story m (map_at (told_at m) (stories ms))) ≡ length (joined_story m (stories ms))
    by (mark.Registered c t q) = grown (map_at (told_at (mark.Registered c t q)) (stories ms)) (stories ms) (newcomer_story c t q) (length-map_at (told_at (mark.Registered c t q)) (stories ms))
      where
        grown : (xs ys : List Story) (z : Story) → length xs ≡ length ys → length (xs ++ z ∷ []) ≡ length (ys ++ z ∷ [])
        grown [] [] z e = refl
        grown [] (y ∷ ys) z e = let w : ⊥ = omega (arith, e) in absurd w
        grown (x ∷ xs) [] z e = let w : ⊥ = omega (arith, e) in absurd w
        grown (x ∷ xs) (y ∷ ys) z e = ap suc (grown xs ys z (omega (arith, e)))
    by m = length-map_at (told_at m) (stories ms)

-- ---- a mark of a history, which is one mark of consumers or none

abbrev IsFew : List ConsumerMark → Type 0
IsFew [] = Unit {0}
IsFew (m ∷ []) = Unit {0}
IsFew (m ∷ n ∷ ms) = ⊥

few_marks : (x : DeliveryMark) → IsFew (consumer_marks x)
few_marks (deliveries.Consumed c t q) = tt
few_marks _ = tt

abbrev pub leaves_by : List ConsumerMark → Story → Bool
leaves_by [] s = false
leaves_by (m ∷ ms) s = leaves m s

abbrev pub brought_by : List ConsumerMark → ℕ → Story → List Delivery
brought_by [] p s = []
brought_by (m ∷ ms) p s = brought m p s

abbrev pub voids_by : List ConsumerMark → Story → Bool
voids_by [] s = false
voids_by (m ∷ ms) s = voids m s

-- what the mark makes of a consumer
pub record Becomes (x : DeliveryMark) (p : ℕ) (s s' : Story) : Type 0 where
  pub channel : s'.channel ≡ s.channel
  pub tag : s'.tag ≡ s.tag
  pub registered : s'.registered ≡ true → s.registered ≡ true
  pub left : leaves_by (consumer_marks x) s ≡ true → s'.registered ≡ false
  pub messages : messages s'.log ≡ messages s.log ++ brought_by (consumer_marks x) p s
  pub void : list_any is_void s'.log ≡ true → (list_any is_void s.log ≡ true) ⊎ (voids_by (consumer_marks x) s ≡ true)

-- the consumers of a history
abbrev pub stories_of : List DeliveryMark → List Story
stories_of ms = stories (all_consumer_marks ms)

pub data From (ms : List DeliveryMark) (x : DeliveryMark) (p : ℕ) (s' : Story) : Type 0 where
  Old : (s : Story) (there : slice_get (stories_of ms) p ≡ Some s) (becomes : Becomes x p s s') → From ms x p s'
  Fresh : (c : ℕ) (t q : List ℕ) (is : x ≡ deliveries.Consumed c t q) (last : p ≡ length (stories_of ms)) (it : s' ≡ newcomer_story c t q) → From ms x p s'

marks-push : (ms : List DeliveryMark) (x : DeliveryMark) → all_consumer_marks (ms ++ x ∷ []) ≡ all_consumer_marks ms ++ consumer_marks x
marks-push ms x = joined ms (x ∷ []) ∙ ap (λ v. all_consumer_marks ms ++ v) (append-nil (consumer_marks x))

-- the mark that registers is that of a registration
registered_is : (x : DeliveryMark) (c : ℕ) (t q : List ℕ) → consumer_marks x ≡ mark.Registered c t q ∷ [] → x ≡ deliveries.Consumed c t q
registered_is (deliveries.Consumed d u r) c t q h = (let e : mark.Registered d u r ≡ mark.Registered c t q = cc in let a : d ≡ c = cc in let b : u ≡ t = cc in let g : r ≡ q = cc in rw (a, b, g) refl)
registered_is _ c t q h = absurd cc

pub from : (ms : List DeliveryMark) (x : DeliveryMark) (p : ℕ) (s' : Story) → slice_get (stories_of (ms ++ x ∷ [])) p ≡ Some s' → From ms x p s'
from ms x p s' h = by (consumer_marks x) refl (few_marks x) (ap (λ v. slice_get (stories v) p) (sym (marks-push ms x)) ∙ h)
  where
    by : (new : List ConsumerMark) → consumer_marks x ≡ new → IsFew new → slice_get (stories (all_consumer_marks ms ++ new)) p ≡ Some s' → From ms x p s'
    by [] e f g = Old s' (ap (λ v. slice_get (stories v) p) (sym (append-nil (all_consumer_marks ms))) ∙ g) (record {
      channel = refl;
      tag = refl;
      registered = λ v. v;
      left = λ v. (let z : false ≡ true = sym (ap (λ w. leaves_by w s') e) ∙ v in absurd cc);
      messages = sym (ap (λ w. messages s'.log ++ brought_by w p s') e ∙ append-nil (messages s'.log));
      void = λ v. inl v;
    })
    by (m ∷ []) e f g = of (origin (all_consumer_marks ms) m p s' g)
      where
        of : Origin (all_consumer_marks ms) m p s' → From ms x p s'
        of (Was s there same) = Old s there (record {
          channel = same.channel;
          tag = same.tag;
          registered = same.registered;
          left = λ v. same.left (sym (ap (λ w. leaves_by w s) e) ∙ v);
          messages = same.messages ∙ ap (λ w. messages s.log ++ brought_by w p s) (sym e);
          void = λ v. elim (same.void v) [ inl y ↦ inl y | inr y ↦ inr (ap (λ w. voids_by w s) e ∙ y) ];
        })
        of (New c t q is last it) = Fresh c t q (registered_is x c t q (e ∙ ap (λ v. v ∷ []) is)) last it
    by (m ∷ n ∷ ns) e f g = absurd f

-- how many there are
pub length-stories : (ms : List DeliveryMark) (x : DeliveryMark) → length (stories_of (ms ++ x ∷ [])) ≡ cond (registers x) (length (stories_of ms) + 1) (length (stories_of ms))
length-stories ms x = ap (λ v. length (stories v)) (marks-push ms x) ∙ by x
  where
    same : (new : List ConsumerMark) → new ≡ [] → length (stories (all_consumer_marks ms ++ new)) ≡ length (stories_of ms)
    same new e = ap (λ v. length (stories (all_consumer_marks ms ++ v))) e ∙ ap (λ v. length (stories v)) (append-nil (all_consumer_marks ms))

    by : (x : DeliveryMark) → length (stories (all_consumer_marks ms ++ consumer_marks x)) ≡ cond (registers x) (length (stories_of ms) + 1) (length (stories_of ms))
    by (deliveries.Consumed c t q) = length-next (all_consumer_marks ms) (mark.Registered c t q) ∙ length-append (stories_of ms) (newcomer_story c t q ∷ [])
    by (deliveries.Got c t) = same [] refl
    by (deliveries.Spent k) = same [] refl
    by (deliveries.Opened c) = same [] refl
    by (deliveries.Completed c r a) = same [] refl
    by (deliveries.Delivered k d) = length-next (all_consumer_marks ms) (mark.Completed k d)
    by (deliveries.CancelAsked c t) = length-next (all_consumer_marks ms) (mark.CancelAsked c t)
    by (deliveries.CloseAsked c) = length-next (all_consumer_marks ms) (mark.CloseAsked c)
    by (deliveries.Canceled c t) = length-next (all_consumer_marks ms) (mark.Canceled c t)
    by (deliveries.Ended c e) = length-next (all_consumer_marks ms) (mark.Ended c e)
    by (deliveries.Discarded c) = length-next (all_consumer_marks ms) (mark.Discarded c)
    by (deliveries.Delegated k) = length-next (all_consumer_marks ms) (mark.Delegated k)
    by (deliveries.Polled k) = length-next (all_consumer_marks ms) (mark.Polled k)
    by (deliveries.LetGo k) = length-next (all_consumer_marks ms) (mark.LetGo k)
    by deliveries.JobAsked = length-next (all_consumer_marks ms) mark.JobAsked
