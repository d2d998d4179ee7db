-- What each event does, and how the frames that it hands out are parsed.
use Rattle.std.proofs.Common.{◌≡◌, ℕ, ◌-◌, ◌<◌, Bool, true, false, cond, List, [], ◌∷◌, ◌++◌, map, refl, sym, ◌∙◌, ap, subst, append_assoc, append-nil, ◌⊎◌, inl, inr, Option, Some, None, arith}
use Rattle.std.specs.List.{list_any, find, filter}
use Rattle.std.specs.Option.{option_map}
use Rattle.lapin_tables.specs.ByChannel.{on_channel}
use Rattle.lapin_types.specs.declared.event.Event.{Event}
use Rattle.lapin_types.specs.declared.event.Event.TheVariants as event
use Rattle.lapin_types.specs.declared.record.Record.{Record}
use Rattle.lapin_types.specs.declared.leaving.Publish.{Publish}
use Rattle.lapin_types.specs.declared.leaving.Left.{Left}
use Rattle.lapin_types.specs.Types.{Frame}
use Rattle.lapin_types.specs.Types.frame
use Rattle.lapin_types.specs.Types.method
use Rattle.lapin_types.specs.Types.channel
use Rattle.lapin_rules.specs.ConfirmMarks as mark
use Rattle.lapin_rules.specs.declared.phases.ChannelPhase.{ChannelPhase}
use Rattle.lapin_rules.specs.declared.phases.ConnectionPhase.{ConnectionPhase}
use Rattle.lapin_rules.specs.declared.phases.ConnectionPhase.TheVariants as link
use Rattle.lapin_rules.specs.declared.phases.CloseStage.TheVariants as stage
use Rattle.lapin_rules.specs.Phases.{is_up, is_lost}
use Rattle.lapin_rules.specs.ConnectionClose.{link_close_sent, link_sent}
use Rattle.lapin_rules.specs.ChannelClose.{close_sent, phases_sent}
use Rattle.lapin_rules.specs.Select.{is_select}
use Rattle.lapin_rules.specs.Frames.{left_rest, left_method, left_publish, MethodEntry, RestEntry, rest_of, behind, contents, content_header, bodies, cut, room_for_body, publish_method}
use Rattle.lapin_rules.specs.Readings.{Readings}
use Rattle.lapin_rules.specs.Words.{without_first}
use Rattle.lapin_rules.specs.Leaving.{may_begin, begun_rest}
use Rattle.lapin_rules.specs.Drops.{is_off, publish_channel}
use Rattle.lapin_rules.specs.Wire.{Wire, with_lists}
use Rattle.lapin_rules.specs.Flow.{begins_on}
use Rattle.lapin_rules.specs.Handing.{frame_record, began_on, handed_as, sent, after_handing, after_next, handed_out, frame_marks, entry_marks, left_marks}
use Rattle.lapin_rules.specs.Events.{record_of, after_event, confirm_marks}
use Rattle.lapin_outbox.proofs.Cuts.{cut-is}
use Rattle.lapin_machine.specs.Stands.{IsShut}
use Rattle.lapin_machine.proofs.Brought.{none_begins}
use Rattle.lapin_machine.proofs.Handed.{handed_told}
use Rattle.lapin_laws.specs.Outgoing.{Point, Called, Requested, Ended, called_by, given_by, requested_by, ended_in, is_channel}
use Rattle.lapin_laws.specs.Unbroken.{AreContents, is_method, Parses}
use Rattle.lapin_laws.proofs.Alive.{live_at, live-sent, Alive, Grows, AreAlive, alive-grows, AreOn, IsBegun, IsRestAlive, rest-grows, rest-tail}
use Rattle.lapin_laws.proofs.Closes.{AreMarked, marks_sent}
use Rattle.lapin_laws.proofs.Parts.{IsPart}
use Rattle.lapin_laws.proofs.Places.{Begun, begun_of, alive_begun}
use Rattle.lapin_laws.proofs.Cuts.{frames_of, cut_at, parses-ends, parses-calls}
use Rattle.lapin_laws.proofs.Moving.{ArePlain, Sound, Moves}
use Rattle.lapin_laws.proofs.EventMoves.{call_event, incoming_event, lost_event, ticket_event, aside_event, confirm_event, state_event, wait_event, laid_event, poll_event, acker_event, delegate_event, drop_event, job_event}
use Rattle.lapin_rules.proofs.PhaseLaws.{link_moves, close_leaves_up}
use Rattle.lapin_machine.proofs.Shut.{frame_left}

-- ---- a frame that leaves

abbrev Moved : Frame → List (ℕ × ChannelPhase) → Type 0
Moved f ps = (phases_sent f ps ≡ ps) ⊎ ((c : ℕ) × (phases_sent f ps ≡ on_channel c close_sent ps))

phases_move : (f : Frame) (ps : List (ℕ × ChannelPhase)) → Moved f ps
phases_move (frame.Method c (method.Channel (channel.Close code text class number))) ps = inr (c, refl)
phases_move (frame.Method c (method.Channel _)) ps = inl refl
phases_move (frame.Method c (method.Connection m)) ps = inl refl
phases_move (frame.Method c (method.Basic m)) ps = inl refl
phases_move (frame.Method c (method.Confirm m)) ps = inl refl
phases_move (frame.Method c (method.Access m)) ps = inl refl
phases_move (frame.Method c (method.Exchange m)) ps = inl refl
phases_move (frame.Method c (method.Queue m)) ps = inl refl
phases_move (frame.Method c (method.Tx m)) ps = inl refl
phases_move (frame.Header c h) ps = inl refl
phases_move (frame.Body c bytes) ps = inl refl

quiet_phases : (f : Frame) (ps : List (ℕ × ChannelPhase)) → is_method f ≡ false → phases_sent f ps ≡ ps
quiet_phases (frame.Method c m) ps h = cc
quiet_phases (frame.Header c h) ps e = refl
quiet_phases (frame.Body c bytes) ps e = refl

lost_close : (l : ConnectionPhase) → is_lost (link_close_sent l) ≡ is_lost l
lost_close (link.Closing stage.Queued) = refl
lost_close _ = refl

pub lost_sent : (f : Frame) (l : ConnectionPhase) → is_lost (link_sent f l) ≡ is_lost l
lost_sent f l = elim (link_moves f l) [ inl e ↦ ap is_lost e | inr e ↦ ap is_lost e ∙ lost_close l ]

pub live_sent : (f : Frame) (ps : List (ℕ × ChannelPhase)) (c : ℕ) → live_at c (phases_sent f ps) ≡ live_at c ps
live_sent f ps c = elim (phases_move f ps) [ inl e ↦ ap (live_at c) e | inr e ↦ ap (live_at c) e.1 ∙ live-sent e.0 c ps ]

grows_sent : (f : Frame) (l : ConnectionPhase) (ps : List (ℕ × ChannelPhase)) → Grows l ps (link_sent f l) (phases_sent f ps)
grows_sent f l ps c a = (frame_left f l ∙ a.0, live_sent f ps c ∙ a.1)

-- ---- what a publish's frames are

behind-frames : (p : Publish) (fs : List Frame) → frames_of (behind p fs) ≡ fs
behind-frames p [] = refl
behind-frames p (f ∷ fs) = ap (λ gs. f ∷ gs) (behind-frames p fs)

bodies_on : (p : Publish) (pieces : List (List ℕ)) → AreOn p.channel (behind p (map (λ piece. frame.Body p.channel piece) pieces))
bodies_on p [] = tt
bodies_on p (x ∷ xs) = (refl, refl, bodies_on p xs)

begun_behind : (p : Publish) (f : Frame) (fs : List Frame) → IsBegun (behind p (f ∷ fs))
begun_behind p f [] = refl
begun_behind p f (g ∷ gs) = (refl, begun_behind p g gs)

rest_alive : (n : ℕ) (p : Publish) (l : ConnectionPhase) (ps : List (ℕ × ChannelPhase)) → Alive l ps p.channel → IsRestAlive l ps (rest_of n p)
rest_alive n p l ps a = (a, refl, bodies_on p (cut (room_for_body n) p.payload), begun_behind p (content_header p) (bodies n p.channel p.payload))

are_contents : (n : ℕ) (p : Publish) → 8 < n → AreContents n p (frames_of (rest_of n p))
are_contents n p h = record {
  bodies = cut (room_for_body n) p.payload;
  cut = let room : 0 < n - 8 = omega arith in cut-is (n - 8) p.payload room;
  are = behind-frames p (contents n p);
}

-- ---- a frame request

-- what an event leaves, and how what it adds to the points is parsed
pub record Goes (n : ℕ) (b b' : Wire) (cs : List ℕ) (added : List Point) : Type 0 where
  pub sound : Sound n b'
  pub parses : 8 < n → (more : List Point) (calls : List Publish) → IsPart b.publishes calls → ((later : List Publish) → IsPart b'.publishes later → Parses n more (frames_of b'.rest) later) → Parses n (added ++ more) (frames_of b.rest) calls
  pub down : is_up b.link ≡ false → is_up b'.link ≡ false
  pub dead : (c : ℕ) → list_any (is_channel c) cs ≡ true → Alive b'.link b'.phases c → ⊥

sent_sound : (n : ℕ) (b : Wire) (f : Frame) (rest : List RestEntry) (methods : List MethodEntry) → ArePlain methods → IsRestAlive b.link b.phases rest → (is_lost b.link ≡ true → methods ≡ []) → (is_up b.link ≡ true → AreMarked (phases_sent f b.phases) methods) → Sound n b → Sound n (record b { link = link_sent f b.link; phases = phases_sent f b.phases; rest = rest; methods = methods })
sent_sound n b f rest methods plain alive lost marks s = record {
  max = s.max;
  plain = plain;
  publishes = alive-grows b.link _ b.phases _ b.publishes (grows_sent f b.link b.phases) s.publishes;
  rest = rest-grows b.link _ b.phases _ rest (grows_sent f b.link b.phases) alive;
  lost = λ h. lost (sym (lost_sent f b.link) ∙ h);
  closes = λ u. marks (sym (frame_left f b.link) ∙ u);
  contents = λ d. s.contents (sym (frame_left f b.link) ∙ d);
}

abbrev NextGoes : ℕ → (ℕ → Bool) → Wire → Type 0
NextGoes n t b = Goes n b (after_handing t b) [] (Requested (given_by (frame_record (handed_out t b))) ∷ [])

next_rest : (t : ℕ → Bool) (b : Wire) (f : RestEntry) (fs : List RestEntry) → b.rest ≡ f ∷ fs → after_handing t b ≡ record b { link = link_sent f.frame b.link; phases = phases_sent f.frame b.phases; rest = fs }
next_rest t b f fs r = rw r refl

next_method : (t : ℕ → Bool) (b : Wire) (m : MethodEntry) (ms : List MethodEntry) → b.rest ≡ [] → b.methods ≡ m ∷ ms → after_handing t b ≡ record b { link = link_sent (frame.Method m.channel m.method) b.link; phases = phases_sent (frame.Method m.channel m.method) b.phases; rest = []; methods = ms }
next_method t b m ms r e = rw (r, e) refl

-- what is left where a publish begins, or none
abbrev begun_next : (ℕ → Bool) → Wire → Option Publish → Wire
begun_next t b o = sent (option_map left_publish o) (with_lists (record { rest = begun_rest b.frame_max o; methods = []; publishes = without_first (may_begin t) b.publishes }) b)

next_begun : (t : ℕ → Bool) (b : Wire) → b.rest ≡ [] → b.methods ≡ [] → after_handing t b ≡ begun_next t b (find (may_begin t) b.publishes)
next_begun t b r m = rw (r, m) refl

pub next_publish : (t : ℕ → Bool) (b : Wire) (p : Publish) → b.rest ≡ [] → b.methods ≡ [] → find (may_begin t) b.publishes ≡ Some p → after_handing t b ≡ record b { rest = rest_of b.frame_max p; methods = []; publishes = without_first (may_begin t) b.publishes }
next_publish t b p r m q = next_begun t b r m ∙ ap (begun_next t b) q

same_lists : (b : Wire) (ps : List Publish) → b.rest ≡ [] → b.methods ≡ [] → b.publishes ≡ ps → record b { rest = []; methods = []; publishes = ps } ≡ b
same_lists b ps r m q = λ i. record b { rest = sym r i; methods = sym m i; publishes = sym q i }

pub next_none : (t : ℕ → Bool) (b : Wire) → b.rest ≡ [] → b.methods ≡ [] → find (may_begin t) b.publishes ≡ None → after_handing t b ≡ b
next_none t b r m q = next_begun t b r m ∙ ap (begun_next t b) q ∙ same_lists b (without_first (may_begin t) b.publishes) r m (sym (none_begins (may_begin t) b.publishes q))

-- a request that gives this is parsed with these frames and publishes before and behind it
abbrev ParsesOn : ℕ → List Frame → List Frame → List Publish → List Publish → Option Frame → Type 0
ParsesOn n fs gs ps qs o = (more : List Point) (calls : List Publish) → IsPart ps calls → ((later : List Publish) → IsPart qs later → Parses n more gs later) → Parses n (Requested o ∷ more) fs calls

parsed : (n : ℕ) (t : ℕ → Bool) (b b' : Wire) (rest : List RestEntry) (o : Option Left) → b.rest ≡ rest → handed_out t b ≡ o → after_handing t b ≡ b'
    → ParsesOn n (frames_of rest) (frames_of b'.rest) b.publishes b'.publishes (given_by (frame_record o))
    → ParsesOn n (frames_of b.rest) (frames_of (after_handing t b).rest) b.publishes (after_handing t b).publishes (given_by (frame_record (handed_out t b)))
parsed n t b b' rest o r h is x =
    let D : List RestEntry → Option Left → Wire → Type 0 = λ rs l d. ParsesOn n (frames_of rs) (frames_of d.rest) b.publishes d.publishes (given_by (frame_record l)) in
    let x1 : D b.rest o b' = subst (λ rs. D rs o b') (sym r) x in
    let x2 : D b.rest (handed_out t b) b' = subst (λ l. D b.rest l b') (sym h) x1 in
    subst (λ d. D b.rest (handed_out t b) d) (sym is) x2

handed_rest : (t : ℕ → Bool) (b : Wire) (f : RestEntry) (fs : List RestEntry) → b.rest ≡ f ∷ fs → handed_out t b ≡ Some (left_rest f)
handed_rest t b f fs r = rw r refl

handed_method : (t : ℕ → Bool) (b : Wire) (m : MethodEntry) (ms : List MethodEntry) → b.rest ≡ [] → b.methods ≡ m ∷ ms → handed_out t b ≡ Some (left_method m)
handed_method t b m ms r e = rw (r, e) refl

pub handed_begun : (t : ℕ → Bool) (b : Wire) → b.rest ≡ [] → b.methods ≡ [] → handed_out t b ≡ option_map left_publish (find (may_begin t) b.publishes)
handed_begun t b r m = rw (r, m) refl

begins : (n : ℕ) (t : ℕ → Bool) (p : Publish) (ps : List Publish) → 8 < n → find (may_begin t) ps ≡ Some p → ParsesOn n [] (frames_of (rest_of n p)) ps (without_first (may_begin t) ps) (Some (frame.Method p.channel (publish_method p)))
begins n t p ps h e more calls part then =
    let at : Begun p (without_first (may_begin t) ps) calls = begun_of t p ps calls e part in
    let later : List Publish = filter (is_off publish_channel p.channel) at.passed ++ at.later in
    inr (frames_of (rest_of n p), later, record { publish = p; passed = at.passed; behind = at.later; called = at.all; stay = refl; method = refl; contents = are_contents n p h }, then later at.part)

module _ (n : ℕ) (t : ℕ → Bool) (b : Wire) (s : Sound n b) where
  goes_rest : (f : RestEntry) (fs : List RestEntry) → b.rest ≡ f ∷ fs → NextGoes n t b
  goes_rest f fs r =
      let alive : IsRestAlive b.link b.phases (f ∷ fs) = subst (IsRestAlive b.link b.phases) r s.rest in
      let is : after_handing t b ≡ record b { link = link_sent f.frame b.link; phases = phases_sent f.frame b.phases; rest = fs } = next_rest t b f fs r in
      record {
        sound = subst (Sound n) (sym is) (sent_sound n b f.frame fs b.methods s.plain (rest-tail b.link b.phases f fs alive) s.lost (λ u. subst (λ ps. AreMarked ps b.methods) (sym (quiet_phases f.frame b.phases alive.1)) (s.closes u)) s);
        parses = λ big. parsed n t b _ (f ∷ fs) (Some (left_rest f)) r (handed_rest t b f fs r) is (λ more calls p k. (refl, k calls p));
        down = λ d. ap (λ x. is_up x.link) is ∙ frame_left f.frame b.link ∙ d;
        dead = λ d x a. let z : false ≡ true = x in cc;
      }

  goes_method : (m : MethodEntry) (ms : List MethodEntry) → b.rest ≡ [] → b.methods ≡ m ∷ ms → NextGoes n t b
  goes_method m ms r e =
      let f : Frame = frame.Method m.channel m.method in
      let plain : ArePlain (m ∷ ms) = subst ArePlain e s.plain in
      let is : after_handing t b ≡ record b { link = link_sent f b.link; phases = phases_sent f b.phases; rest = []; methods = ms } = next_method t b m ms r e in
      record {
        sound = subst (Sound n) (sym is) (sent_sound n b f [] ms plain.1 tt (λ h. let x : m ∷ ms ≡ [] = sym e ∙ s.lost h in absurd cc) (λ u. marks_sent m ms b.phases (subst (AreMarked b.phases) e (s.closes u))) s);
        parses = λ big. parsed n t b _ [] (Some (left_method m)) r (handed_method t b m ms r e) is (λ more calls p k. inl (refl, plain.0, k calls p));
        down = λ d. ap (λ x. is_up x.link) is ∙ frame_left f b.link ∙ d;
        dead = λ d x a. let z : false ≡ true = x in cc;
      }

  goes_publish : (p : Publish) → b.rest ≡ [] → b.methods ≡ [] → find (may_begin t) b.publishes ≡ Some p → NextGoes n t b
  goes_publish p r m q =
      let stay : List Publish = without_first (may_begin t) b.publishes in
      let alive : Alive b.link b.phases p.channel × AreAlive b.link b.phases stay = alive_begun (may_begin t) b.link b.phases b.publishes p q s.publishes in
      let is : after_handing t b ≡ record b { rest = rest_of n p; methods = []; publishes = stay } = next_publish t b p r m q ∙ ap (λ k. record b { rest = rest_of k p; methods = []; publishes = stay }) s.max in
      record {
        sound = subst (Sound n) (sym is) (record { max = s.max; plain = tt; publishes = alive.1; rest = rest_alive n p b.link b.phases alive.0; lost = λ h. refl; closes = λ u. subst (AreMarked b.phases) m (s.closes u); contents = s.contents });
        parses = λ big. parsed n t b _ [] (Some (left_publish p)) r (handed_begun t b r m ∙ ap (option_map left_publish) q) is (begins n t p b.publishes big q);
        down = λ d. ap (λ x. is_up x.link) is ∙ d;
        dead = λ d x a. let z : false ≡ true = x in cc;
      }

  goes_none : b.rest ≡ [] → b.methods ≡ [] → find (may_begin t) b.publishes ≡ None → NextGoes n t b
  goes_none r m q =
      let is : after_handing t b ≡ b = next_none t b r m q in
      record {
        sound = subst (Sound n) (sym is) s;
        parses = λ big. parsed n t b b [] None r (handed_begun t b r m ∙ ap (option_map left_publish) q) is (subst (λ rs. ParsesOn n [] (frames_of rs) b.publishes b.publishes None) (sym r) (λ more calls p k. k calls p));
        down = λ d. ap (λ x. is_up x.link) is ∙ d;
        dead = λ d x a. let z : false ≡ true = x in cc;
      }

  goes_begun : (o : Option Publish) → b.rest ≡ [] → b.methods ≡ [] → find (may_begin t) b.publishes ≡ o → NextGoes n t b
  goes_begun None r m q = goes_none r m q
  goes_begun (Some p) r m q = goes_publish p r m q

next_by : (n : ℕ) (t : ℕ → Bool) (b : Wire) (rest : List RestEntry) (methods : List MethodEntry) → Sound n b → b.rest ≡ rest → b.methods ≡ methods → NextGoes n t b
next_by n t b (f ∷ fs) ms s r m = goes_rest n t b s f fs r
next_by n t b [] (x ∷ ms) s r m = goes_method n t b s x ms r m
next_by n t b [] [] s r m = goes_begun n t b s (find (may_begin t) b.publishes) r m refl

-- the record tells on which channel a publish began
next_told : (n : ℕ) (t : ℕ → Bool) (b : Wire) → Sound n b → Goes n b (after_next (frame_record (handed_out t b)) b) [] (Requested (given_by (frame_record (handed_out t b))) ∷ [])
next_told n t b s =
    let r : Record = frame_record (handed_out t b) in
    subst (λ o. Goes n b (after_next r b) [] (Requested (given_by (frame_record o)) ∷ [])) (handed_told t b) (next_by n (began_on r) b b.rest b.methods s refl refl)

-- ---- every event

abbrev pub added_by : Wire → Event → Record → List Point
added_by b e r = map Ended (ended_in (confirm_marks b e r)) ++ (map Called (called_by e r) ++ requested_by e r)

moves_go : (n : ℕ) (b b' : Wire) (cs : List ℕ) (qs : List Publish) → Moves n b b' cs qs → Goes n b b' cs (map Ended cs ++ (map Called qs ++ []))
moves_go n b b' cs qs m =
    let same : (more : List Point) → (map Ended cs ++ (map Called qs ++ [])) ++ more ≡ map Ended cs ++ (map Called qs ++ more) = λ more. append_assoc (map Ended cs) (map Called qs ++ []) more ∙ ap (λ ys. map Ended cs ++ (ys ++ more)) (append-nil (map Called qs)) in
    record {
      sound = m.sound;
      parses = λ big more calls p then.
          let cut_first : Parses n more (cut_at cs (frames_of b.rest)) (calls ++ qs) = subst (λ fs. Parses n more fs (calls ++ qs)) m.cut (then (calls ++ qs) (m.part calls p)) in
          let all : Parses n (map Ended cs ++ (map Called qs ++ more)) (frames_of b.rest) calls = parses-ends n cs (map Called qs ++ more) (frames_of b.rest) calls (parses-calls n qs more (cut_at cs (frames_of b.rest)) calls cut_first) in
          subst (λ ps. Parses n ps (frames_of b.rest) calls) (sym (same more)) all;
      down = m.down;
      dead = m.dead;
    }

-- no opening ends as a frame leaves
select_quiet : (t : Bool) (c : ℕ) → ended_in (cond t (mark.SelectLeft c ∷ []) []) ≡ []
select_quiet true c = refl
select_quiet false c = refl

frame_quiet : (f : Frame) → ended_in (frame_marks f) ≡ []
frame_quiet (frame.Method c m) = select_quiet (is_select m) c
frame_quiet (frame.Header c h) = refl
frame_quiet (frame.Body c bytes) = refl

entry_quiet : (f : Frame) (o : Option ℕ) (first : Bool) → ended_in (entry_marks f o first) ≡ []
entry_quiet f None first = frame_quiet f
entry_quiet f (Some k) true = refl
entry_quiet f (Some k) false = refl

pub left_quiet : (o : Option Left) → ended_in (left_marks o) ≡ []
left_quiet None = refl
left_quiet (Some l) = entry_quiet l.frame l.publish l.first

pub goes : (n : ℕ) (b : Wire) (readings : Readings) (e : Event) → IsShut b → Sound n b → Goes n b (after_event b e (record_of b readings e)) (ended_in (confirm_marks b e (record_of b readings e))) (added_by b e (record_of b readings e))
goes n b readings (event.Call c x) shut s = moves_go n b _ _ _ (call_event n b readings c x s)
goes n b readings (event.Next flow) shut s =
    let r : Record = record_of b readings (event.Next flow) in
    subst (λ cs. Goes n b (after_next r b) cs (map Ended cs ++ (Requested (given_by r) ∷ []))) (sym (left_quiet (handed_as r b))) (next_told n (begins_on flow readings.full b) b s)
goes n b readings (event.Receive f) shut s = moves_go n b _ _ _ (incoming_event n b readings f shut s)
goes n b readings (event.PollTicket m) shut s = moves_go n b _ _ _ (ticket_event n b readings m s)
goes n b readings (event.PollConfirm m) shut s = moves_go n b _ _ _ (confirm_event n b readings m s)
goes n b readings (event.PollWait c) shut s = moves_go n b _ _ _ (wait_event n b readings c s)
goes n b readings (event.AsideConfirm m) shut s = moves_go n b _ _ _ (laid_event n b readings m s)
goes n b readings (event.AsideTicket m) shut s = moves_go n b _ _ _ (aside_event n b readings m s)
goes n b readings (event.PollConsumer m) shut s = moves_go n b _ _ _ (poll_event n b readings m s)
goes n b readings (event.Acker m k) shut s = moves_go n b _ _ _ (acker_event n b readings m k s)
goes n b readings (event.Delegate m) shut s = moves_go n b _ _ _ (delegate_event n b readings m s)
goes n b readings (event.DropConsumer m) shut s = moves_go n b _ _ _ (drop_event n b readings m s)
goes n b readings event.NextJob shut s = moves_go n b _ _ _ (job_event n b readings s)
goes n b readings (event.State c) shut s = moves_go n b _ _ _ (state_event n b readings c s)
goes n b readings event.Lost shut s = moves_go n b _ _ _ (lost_event n b readings shut s)
