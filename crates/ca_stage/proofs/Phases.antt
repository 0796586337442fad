-- The phases of a period: what is due, which streams are picked, and what data calls leave of it.
use Rattle.std.proofs.Common.{◌≡◌, ℕ, ◌≤◌, ◌==◌, ◌||◌, ◌⊎◌, inl, inr, List, [], ◌∷◌, ◌++◌, map, filter, Bool, true}
use Rattle.std.proofs.Common.{false, cond, Some, refl, sym, ap, ◌∙◌, eqb, eq-eqb}
use Rattle.std.proofs.lemmas.Bool.{false≢true, or_left, or_right, both_ways}
use Rattle.std.specs.List.{AllByRecursion}
use Rattle.ca_base.specs.declared.ids.Reason.TheVariants.{Removal}
use Rattle.ca_stage.specs.Stage.{Frame, Stream, Playhead, Stage}
use Rattle.ca_stage.specs.Moves.{StreamMove, leased, released, read, closed, picked, retired, fed, Move, of_client}
use Rattle.ca_stage.specs.Moves.{sounded, finished, Mixing, moved, is_open_of, stream_after, has_stream, after_move}
use Rattle.ca_stage.specs.Moves.{playhead_at}
use Rattle.ca_stage.specs.Periods.{is_playing, playing_streams_on}
use Rattle.ca_stage.specs.Woven.{is_data_move, is_data, IsPeriod}
use Rattle.ca_stage.specs.Order.{AreDistinct, Rests}
use Rattle.ca_stage.proofs.Lists.{chosen, all-map, all_weaker, all_both, any-filter}
use Rattle.ca_stage.proofs.Clients.{clients_of, same_any, others}
use Rattle.ca_stage.proofs.Playheads.{playhead_stays}

-- a stream that a period has picked
pub record IsPicked (m : Mixing) (s : Stream) : Type 0 where
  pub plays : is_playing m.endpoint s ≡ true
  pub fits : s.picked ≤ m.frames

abbrev pub MayBePicked : Mixing → Stream → Type 0
MayBePicked m s = Rests s ⊎ IsPicked m s

-- a stream that is picked has its client among those left
abbrev pub MayBeLeft : Mixing → List Stream → Stream → Type 0
MayBeLeft m left s = Rests s ⊎ (IsPicked m s × has_stream s.client left ≡ true)

-- a stream whose client is among those left plays
abbrev pub PlaysIfLeft : Mixing → List Stream → Stream → Type 0
PlaysIfLeft m left s = has_stream s.client left ≡ true → is_playing m.endpoint s ≡ true

-- what is due while streams are left to be picked, to be retired, and to be closed; and to be offered these frames
abbrev pub picks_left : Mixing → Bool → List Stream → List Move
picks_left m whole left = map (λ s. of_client s.client (picked m.frames)) left ++ sounded m whole ∷ []

abbrev pub feeds_left : List Frame → List Stream → List Move
feeds_left frames left = map (λ s. of_client s.client (fed frames)) left

abbrev pub hears_left : Mixing → List Frame → List Stream → List Move
hears_left m frames left = feeds_left frames left ++ finished m true ∷ []

abbrev pub retires_left : Mixing → List Frame → List Stream → List Stream → List Move
retires_left m frames hearing left = map (λ s. of_client s.client retired) left ++ hears_left m frames hearing

abbrev pub closes_left : Mixing → List Stream → List Move
closes_left m left = map (λ s. of_client s.client (closed Removal)) left ++ finished m false ∷ []

pub record IsIdle (st : Stage) (due : List Move) : Type 0 where
  pub due_is : due ≡ []
  pub rests : AllByRecursion Rests st.streams

pub record IsPicking (st : Stage) (due : List Move) (m : Mixing) (e : Playhead) (whole : Bool) (left : List Stream) :
    Type 0 where
  pub there : playhead_at m.endpoint st ≡ Some e
  pub due_is : due ≡ picks_left m whole left
  pub held : AllByRecursion (MayBePicked m) st.streams
  pub plays : AllByRecursion (PlaysIfLeft m left) st.streams

pub record IsRetiring (st : Stage) (due : List Move) (m : Mixing) (e : Playhead) (frames : List Frame)
    (hearing left : List Stream) : Type 0 where
  pub there : playhead_at m.endpoint st ≡ Some e
  pub due_is : due ≡ retires_left m frames hearing left
  pub held : AllByRecursion (MayBeLeft m left) st.streams

-- a whole period offers frames to those who hear, and a device's frames are offered to those that record it
pub record IsFeeding (st : Stage) (due : List Move) (m : Mixing) (e : Playhead) (frames : List Frame)
    (left : List Stream) : Type 0 where
  pub there : playhead_at m.endpoint st ≡ Some e
  pub due_is : due ≡ hears_left m frames left
  pub rests : AllByRecursion Rests st.streams

pub record IsRecording (st : Stage) (due : List Move) (frames : List Frame) (left : List Stream) : Type 0 where
  pub due_is : due ≡ feeds_left frames left
  pub rests : AllByRecursion Rests st.streams

pub record IsClosing (st : Stage) (due : List Move) (m : Mixing) (left : List Stream) : Type 0 where
  pub due_is : due ≡ closes_left m left
  pub held : AllByRecursion (MayBeLeft m left) st.streams

pub data Phase (st : Stage) (due : List Move) : Type 0 where
  idle : IsIdle st due → Phase st due
  picking : (m : Mixing) (e : Playhead) (whole : Bool) (left : List Stream) → IsPicking st due m e whole left →
      Phase st due
  retiring : (m : Mixing) (e : Playhead) (frames : List Frame) (hearing left : List Stream) →
      IsRetiring st due m e frames hearing left → Phase st due
  feeding : (m : Mixing) (e : Playhead) (frames : List Frame) (left : List Stream) →
      IsFeeding st due m e frames left → Phase st due
  recording : (frames : List Frame) (left : List Stream) → IsRecording st due frames left → Phase st due
  closing : (m : Mixing) (left : List Stream) → IsClosing st due m left → Phase st due

-- a stream that passes is among those that pass
same_itself : (n : ℕ) → eqb n n ≡ true
same_itself n = eq-eqb n n refl

passes_more : (s : Stream) (x : Stream) (xs : List Stream) (b : Bool) → has_stream s.client xs ≡ true →
    has_stream s.client (cond b (x ∷ xs) xs) ≡ true
passes_more s x xs true h = or_right (x.client == s.client) (has_stream s.client xs) h
passes_more s x xs false h = h

passes_here : (x : Stream) (xs : List Stream) (b : Bool) → b ≡ true → has_stream x.client (cond b (x ∷ xs) xs) ≡ true
passes_here x xs true h = or_left (x.client == x.client) (has_stream x.client xs) (same_itself x.client)
passes_here x xs false h = absurd (false≢true h)

pub passing_in : (test : Stream → Bool) (streams : List Stream) →
    AllByRecursion (λ s. test s ≡ true → has_stream s.client (filter test streams) ≡ true) streams
passing_in test [] = tt
passing_in test (x ∷ streams) = (
  λ h. passes_here x (filter test streams) (test x) h,
  all_weaker (λ s. test s ≡ true → has_stream s.client (filter test streams) ≡ true)
      (λ s. test s ≡ true → has_stream s.client (filter test (x ∷ streams)) ≡ true)
      (λ s k h. passes_more s x (filter test streams) (test x) (k h)) streams (passing_in test streams),
)

-- and only streams that pass are, if each client has one stream
absent_passes : (test : Stream → Bool) (x : Stream) (streams : List Stream) → has_stream x.client streams ≡ false →
    has_stream x.client (cond (test x) (x ∷ filter test streams) (filter test streams)) ≡ true → test x ≡ true
absent_passes test x streams n h = go (test x) h
  where
    go : (b : Bool) → has_stream x.client (cond b (x ∷ filter test streams) (filter test streams)) ≡ true → b ≡ true
    go true h = refl
    go false h =
        absurd (both_ways (has_stream x.client streams) n (any-filter (λ t. t.client == x.client) test streams h))

other_passes : (s x : Stream) (xs : List Stream) (b : Bool) → eqb x.client s.client ≡ false →
    has_stream s.client (cond b (x ∷ xs) xs) ≡ true → has_stream s.client xs ≡ true
other_passes s x xs true n h = sym (ap (λ c. c || has_stream s.client xs) n) ∙ h
other_passes s x xs false n h = h

pub only_passing : (test : Stream → Bool) (streams : List Stream) → AreDistinct (clients_of streams) →
    AllByRecursion (λ s. has_stream s.client (filter test streams) ≡ true → test s ≡ true) streams
only_passing test [] d = tt
only_passing test (x ∷ streams) d =
    let n : has_stream x.client streams ≡ false = same_any x.client streams ∙ d.0 in (
      absent_passes test x streams n,
      all_both (λ s. eqb x.client s.client ≡ false)
          (λ s. has_stream s.client (filter test streams) ≡ true → test s ≡ true)
          (λ s. has_stream s.client (filter test (x ∷ streams)) ≡ true → test s ≡ true)
          (λ s o k h. k (other_passes s x (filter test streams) (test x) o h)) streams
          (others x.client streams n) (only_passing test streams d.1),
    )

-- through a move of one client's stream
pub all_moved : (P Q : Stream → Type 0) (st : Stage) (client : ℕ) (m : StreamMove) → ((s : Stream) → P s → Q s) →
    ((s : Stream) → P s → Q (moved m s)) → AllByRecursion P st.streams →
    AllByRecursion Q (after_move st (of_client client m)).streams
all_moved P Q st client m f g h =
    all-map P Q (stream_after (of_client client m))
    (λ s p. chosen Q (is_open_of client s) (moved m s) s (g s p) (f s p)) st.streams h

-- data calls leave what is picked, and what plays
data_may : (mx : Mixing) (m : StreamMove) (s : Stream) → is_data_move m ≡ true →
    MayBePicked mx s → MayBePicked mx (moved m s)
data_may mx (leased n) s d (inl z) = inl z
data_may mx (leased n) s d (inr p) = inr (record { plays = p.plays; fits = p.fits })
data_may mx (released frames) s d (inl z) = inl z
data_may mx (released frames) s d (inr p) = inr (record { plays = p.plays; fits = p.fits })
data_may mx (read n) s d (inl z) = inl z
data_may mx (read n) s d (inr p) = inr (record { plays = p.plays; fits = p.fits })
data_may mx _ s d h = absurd (false≢true d)

data_left : (mx : Mixing) (left : List Stream) (m : StreamMove) (s : Stream) → is_data_move m ≡ true →
    MayBeLeft mx left s → MayBeLeft mx left (moved m s)
data_left mx left (leased n) s d (inl z) = inl z
data_left mx left (leased n) s d (inr p) = inr (record { plays = p.0.plays; fits = p.0.fits }, p.1)
data_left mx left (released frames) s d (inl z) = inl z
data_left mx left (released frames) s d (inr p) = inr (record { plays = p.0.plays; fits = p.0.fits }, p.1)
data_left mx left (read n) s d (inl z) = inl z
data_left mx left (read n) s d (inr p) = inr (record { plays = p.0.plays; fits = p.0.fits }, p.1)
data_left mx left _ s d h = absurd (false≢true d)

data_plays : (mx : Mixing) (left : List Stream) (m : StreamMove) (s : Stream) → is_data_move m ≡ true →
    PlaysIfLeft mx left s → PlaysIfLeft mx left (moved m s)
data_plays mx left (leased n) s d h = h
data_plays mx left (released frames) s d h = h
data_plays mx left (read n) s d h = h
data_plays mx left _ s d h = absurd (false≢true d)

pub data_rests : (m : StreamMove) (s : Stream) → is_data_move m ≡ true → Rests s → Rests (moved m s)
data_rests (leased n) s d z = z
data_rests (released frames) s d z = z
data_rests (read n) s d z = z
data_rests _ s d z = absurd (false≢true d)

data_phase : (st : Stage) (client : ℕ) (m : StreamMove) (due : List Move) → is_data_move m ≡ true →
    Phase st due → Phase (after_move st (of_client client m)) due
data_phase st client m due d (idle k) = idle (record {
  due_is = k.due_is;
  rests = all_moved Rests Rests st client m (λ s z. z) (λ s z. data_rests m s d z) k.rests;
})
data_phase st client m due d (picking mx e whole left k) = picking mx e whole left (record {
  there = playhead_stays mx.endpoint st (of_client client m) refl ∙ k.there;
  due_is = k.due_is;
  held = all_moved (MayBePicked mx) (MayBePicked mx) st client m (λ s h. h) (λ s h. data_may mx m s d h) k.held;
  plays =
      all_moved (PlaysIfLeft mx left) (PlaysIfLeft mx left) st client m (λ s h. h) (λ s h. data_plays mx left m s d h)
      k.plays;
})
data_phase st client m due d (retiring mx e frames hearing left k) = retiring mx e frames hearing left (record {
  there = playhead_stays mx.endpoint st (of_client client m) refl ∙ k.there;
  due_is = k.due_is;
  held =
      all_moved (MayBeLeft mx left) (MayBeLeft mx left) st client m (λ s h. h) (λ s h. data_left mx left m s d h)
      k.held;
})
data_phase st client m due d (feeding mx e frames left k) = feeding mx e frames left (record {
  there = playhead_stays mx.endpoint st (of_client client m) refl ∙ k.there;
  due_is = k.due_is;
  rests = all_moved Rests Rests st client m (λ s z. z) (λ s z. data_rests m s d z) k.rests;
})
data_phase st client m due d (recording frames left k) = recording frames left (record {
  due_is = k.due_is;
  rests = all_moved Rests Rests st client m (λ s z. z) (λ s z. data_rests m s d z) k.rests;
})
data_phase st client m due d (closing mx left k) = closing mx left (record {
  due_is = k.due_is;
  held =
      all_moved (MayBeLeft mx left) (MayBeLeft mx left) st client m (λ s h. h) (λ s h. data_left mx left m s d h)
      k.held;
})

pub phase_data : (st : Stage) (x : Move) (due : List Move) → is_data x ≡ true → Phase st due →
    Phase (after_move st x) due
phase_data st (of_client client m) due d p = data_phase st client m due d p
phase_data st _ due d p = absurd (false≢true d)

-- a period that begins
pub phase_begins : (st : Stage) (steps : List Move) → AreDistinct (clients_of st.streams) →
    AllByRecursion Rests st.streams → IsPeriod st steps → Phase st steps
phase_begins st steps d h p =
    picking p.mixing p.playhead p.whole (playing_streams_on p.mixing.endpoint st) (record {
      there = p.there;
      due_is = p.steps_are;
      held = all_weaker Rests (MayBePicked p.mixing) (λ s z. inl z) st.streams h;
      plays = only_passing (is_playing p.mixing.endpoint) st.streams d;
    })
