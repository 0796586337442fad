-- The same move of several clients' streams is one map over the streams.
use Rattle.std.proofs.Common.{◌≡◌, ℕ, ◌==◌, ◌&&◌, ◌||◌, List, [], ◌∷◌, map, Bool, true, false, refl, sym, ap, ap₂, ◌∙◌}
use Rattle.std.proofs.Common.{if◌then◌else◌, filter, cond, eqb-true, eq-eqb}
use Rattle.std.proofs.lemmas.Bool.{false≢true, and_left, and_right, and_from, or_left, both_ways}
use Rattle.std.specs.List.{AllByRecursion}
use Rattle.ca_base.specs.declared.ids.Reason.{Reason}
use Rattle.ca_stage.specs.Stage.{Stream, Stage, is_open}
use Rattle.ca_stage.specs.Moves.{StreamMove, closed, Move, of_client, moved, is_open_of, stream_after, after_move}
use Rattle.ca_stage.specs.Moves.{has_stream, after_moves}
use Rattle.ca_stage.specs.Order.{clients, is_among, AreDistinct}
use Rattle.ca_stage.specs.Present.{present}
use Rattle.ca_stage.proofs.Lists.{all_both, all_of, all_weaker, any-filter, chosen, map_alike, map_map, map_same}
use Rattle.ca_stage.proofs.Streams.{moved_client}
use Rattle.ca_stage.proofs.Clients.{clients_of, same_any, turned}
use Rattle.ca_stage.proofs.Playheads.{playheads_stay}
use Rattle.ca_stage.proofs.Phases.{passing_in, only_passing}
use Rattle.ca_stage.proofs.Presence.{filter-map, is_left}
use Rattle.ca_stage.proofs.StreamPlaces.{same_each}

-- the streams of the clients of these numbers are moved alike
abbrev pub moves_to : StreamMove → List ℕ → List Move
moves_to m numbers = map (λ n. of_client n m) numbers

-- whether a stream is the open one of one of these clients
abbrev pub is_open_among : List ℕ → Stream → Bool
is_open_among numbers s = is_among s.client numbers && is_open s

-- the streams that pass a test are moved
abbrev pub moved_where : (Stream → Bool) → StreamMove → Stream → Stream
moved_where test m s = if test s then moved m s else s

-- a stream is moved once: after the move of its client no further one moves it
abbrev pub MovesOnce : StreamMove → List ℕ → Type 0
MovesOnce m [] = Unit {0}
MovesOnce m (n ∷ numbers) =
    ((s : Stream) → s.client ≡ n → is_open_among numbers (moved m s) ≡ false) × MovesOnce m numbers

-- if the clients are distinct, or if the move closes
pub once_distinct : (m : StreamMove) (numbers : List ℕ) → AreDistinct numbers → MovesOnce m numbers
once_distinct m [] d = tt
once_distinct m (n ∷ numbers) d = (
  λ s e. and_left _ (is_open (moved m s)) (ap (λ k. is_among k numbers) (moved_client m s ∙ e) ∙ d.0),
  once_distinct m numbers d.1,
)

pub once_closed : (reason : Reason) (numbers : List ℕ) → MovesOnce (closed reason) numbers
once_closed reason [] = tt
once_closed reason (n ∷ numbers) = (λ s e. and_right (is_among s.client numbers) false refl, once_closed reason numbers)

-- of a stream the first of these clients is the one, and no other; or it is as if the first weren't there
pub data FirstOrLater (m : StreamMove) (n : ℕ) (numbers : List ℕ) (s : Stream) : Type 0 where
  first_one : is_open_of n s ≡ true → is_open_among (n ∷ numbers) s ≡ true →
      is_open_among numbers (moved m s) ≡ false → FirstOrLater m n numbers s
  later_one : is_open_of n s ≡ false → is_open_among (n ∷ numbers) s ≡ is_open_among numbers s →
      FirstOrLater m n numbers s

pub first_or_later : (m : StreamMove) (n : ℕ) (numbers : List ℕ) (s : Stream) →
    ((s : Stream) → s.client ≡ n → is_open_among numbers (moved m s) ≡ false) → FirstOrLater m n numbers s
first_or_later m n numbers s once = by_open (is_open s) refl
  where
    by_client : is_open s ≡ true → (b : Bool) → (s.client == n) ≡ b → FirstOrLater m n numbers s
    by_client o true e =
        let same = eqb-true s.client n e in
        first_one (and_from (s.client == n) (is_open s) e o)
        (and_from (n == s.client || is_among s.client numbers) (is_open s)
        (or_left (n == s.client) (is_among s.client numbers) (eq-eqb n s.client (sym same))) o)
        (once s same)
    by_client o false e =
        later_one (and_left (s.client == n) (is_open s) e)
        (ap (λ b. (b || is_among s.client numbers) && is_open s) (turned s.client n e))

    by_open : (b : Bool) → is_open s ≡ b → FirstOrLater m n numbers s
    by_open true o = by_client o (s.client == n) refl
    by_open false o =
        later_one (and_right (s.client == n) (is_open s) o)
        (and_right (n == s.client || is_among s.client numbers) (is_open s) o
        ∙ sym (and_right (is_among s.client numbers) (is_open s) o))

one_moved : (m : StreamMove) (n : ℕ) (numbers : List ℕ) (s : Stream) → FirstOrLater m n numbers s →
    moved_where (is_open_among numbers) m (stream_after (of_client n m) s)
    ≡ moved_where (is_open_among (n ∷ numbers)) m s
one_moved m n numbers s (first_one h a z) =
    ap (λ b. moved_where (is_open_among numbers) m (if b then moved m s else s)) h
    ∙ ap (λ b. if b then moved m (moved m s) else moved m s) z
    ∙ sym (ap (λ b. if b then moved m s else s) a)
one_moved m n numbers s (later_one h a) =
    ap (λ b. moved_where (is_open_among numbers) m (if b then moved m s else s)) h
    ∙ sym (ap (λ b. if b then moved m s else s) a)

pub streams_moved_once : (m : StreamMove) (numbers : List ℕ) (st : Stage) → MovesOnce m numbers →
    (after_moves st (moves_to m numbers)).streams ≡ map (moved_where (is_open_among numbers) m) st.streams
streams_moved_once m [] st d = sym (map_same (λ s. s) (λ s. refl) st.streams)
streams_moved_once m (n ∷ numbers) st d =
    streams_moved_once m numbers (after_move st (of_client n m)) d.1
    ∙ map_map (moved_where (is_open_among numbers) m) (stream_after (of_client n m)) st.streams
    ∙ map_alike _ _ st.streams
    (all_of _ (λ s. one_moved m n numbers s (first_or_later m n numbers s d.0)) st.streams)

pub playheads_moved : (m : StreamMove) (numbers : List ℕ) (st : Stage) →
    (after_moves st (moves_to m numbers)).playheads ≡ st.playheads
playheads_moved m [] st = refl
playheads_moved m (n ∷ numbers) st =
    playheads_moved m numbers (after_move st (of_client n m)) ∙ playheads_stay st (of_client n m) refl

pub moved_once : (m : StreamMove) (numbers : List ℕ) (st : Stage) → MovesOnce m numbers →
    after_moves st (moves_to m numbers)
    ≡ record st { streams = map (moved_where (is_open_among numbers) m) st.streams }
moved_once m numbers st d =
    ap₂ (λ heads streams. record { playheads = heads; streams = streams })
    (playheads_moved m numbers st) (streams_moved_once m numbers st d)

-- several clients' streams are closed, whoever is named twice
pub all_closed : (reason : Reason) (gone : List ℕ) (st : Stage) →
    after_moves st (moves_to (closed reason) gone)
    ≡ record st { streams = map (moved_where (is_open_among gone) (closed reason)) st.streams }
all_closed reason gone st = moved_once (closed reason) gone st (once_closed reason gone)

-- ---- the streams that pass a test of open streams

abbrev pub moves_of : StreamMove → List Stream → List Move
moves_of m left = map (λ s. of_client s.client m) left

pub moves_of_are : (m : StreamMove) (left : List Stream) → moves_of m left ≡ moves_to m (clients_of left)
moves_of_are m left = sym (map_map (λ n. of_client n m) (λ s. s.client) left)

distinct_kept : (x : Stream) (kept : List Stream) (b : Bool) → has_stream x.client kept ≡ false →
    AreDistinct (clients_of kept) → AreDistinct (clients_of (cond b (x ∷ kept) kept))
distinct_kept x kept true n d = (sym (same_any x.client kept) ∙ n, d)
distinct_kept x kept false n d = d

none_kept : (test : Stream → Bool) (n : ℕ) (streams : List Stream) → has_stream n streams ≡ false →
    has_stream n (filter test streams) ≡ false
none_kept test n streams h = go (has_stream n (filter test streams)) refl
  where
    go : (b : Bool) → has_stream n (filter test streams) ≡ b → b ≡ false
    go true e = absurd (both_ways (has_stream n streams) h (any-filter (λ s. s.client == n) test streams e))
    go false e = refl

distinct_filter : (test : Stream → Bool) (streams : List Stream) → AreDistinct (clients_of streams) →
    AreDistinct (clients_of (filter test streams))
distinct_filter test [] d = tt
distinct_filter test (x ∷ streams) d =
    distinct_kept x (filter test streams) (test x)
    (none_kept test x.client streams (same_any x.client streams ∙ d.0)) (distinct_filter test streams d.1)

pub kept_once : (m : StreamMove) (test : Stream → Bool) (streams : List Stream) → AreDistinct (clients_of streams) →
    MovesOnce m (clients_of (filter test streams))
kept_once m test streams d = once_distinct m (clients_of (filter test streams)) (distinct_filter test streams d)

same_test : (a b o : Bool) → (b ≡ true → a ≡ true) → (a ≡ true → b ≡ true) → (b ≡ true → o ≡ true) →
    (a && o) ≡ b
same_test true true o f g h = h refl
same_test true false o f g h = absurd (false≢true (g refl))
same_test false true o f g h = absurd (false≢true (f refl))
same_test false false o f g h = refl

-- they are the open streams of their clients
pub among_kept : (test : Stream → Bool) (streams : List Stream) → AreDistinct (clients_of streams) →
    ((s : Stream) → test s ≡ true → is_open s ≡ true) →
    AllByRecursion (λ s. is_open_among (clients_of (filter test streams)) s ≡ test s) streams
among_kept test streams d o =
    all_both (λ s. test s ≡ true → has_stream s.client (filter test streams) ≡ true)
    (λ s. has_stream s.client (filter test streams) ≡ true → test s ≡ true)
    (λ s. is_open_among (clients_of (filter test streams)) s ≡ test s)
    (λ s f g. ap (λ b. b && is_open s) (sym (same_any s.client (filter test streams)))
    ∙ same_test (has_stream s.client (filter test streams)) (test s) (is_open s) f g (o s)) streams
    (passing_in test streams) (only_passing test streams d)

pub kept_moved : (m : StreamMove) (test : Stream → Bool) (st : Stage) → AreDistinct (clients st) →
    ((s : Stream) → test s ≡ true → is_open s ≡ true) →
    (after_moves st (moves_of m (filter test st.streams))).streams ≡ map (moved_where test m) st.streams
kept_moved m test st d o =
    ap (λ xs. (after_moves st xs).streams) (moves_of_are m (filter test st.streams))
    ∙ streams_moved_once m (clients_of (filter test st.streams)) st (kept_once m test st.streams d)
    ∙ map_alike _ _ st.streams
    (all_weaker (λ s. is_open_among (clients_of (filter test st.streams)) s ≡ test s)
    (λ s. moved_where (is_open_among (clients_of (filter test st.streams))) m s ≡ moved_where test m s)
    (λ s e. ap (λ b. if b then moved m s else s) e) st.streams (among_kept test st.streams d o))

pub playheads_left : (m : StreamMove) (left : List Stream) (st : Stage) →
    (after_moves st (moves_of m left)).playheads ≡ st.playheads
playheads_left m left st =
    ap (λ xs. (after_moves st xs).playheads) (moves_of_are m left) ∙ playheads_moved m (clients_of left) st

-- what a test keeps of streams that are moved if another test passes, if both never pass
kept_still : (keep test : Stream → Bool) (m : StreamMove) (streams : List Stream) →
    ((s : Stream) → keep s ≡ true → test s ≡ false) →
    AllByRecursion (λ s. moved_where test m s ≡ s) (filter keep streams)
kept_still keep test m [] h = tt
kept_still keep test m (s ∷ streams) h = go (keep s) refl (kept_still keep test m streams h)
  where
    go : (b : Bool) → keep s ≡ b → AllByRecursion (λ s. moved_where test m s ≡ s) (filter keep streams) →
        AllByRecursion (λ s. moved_where test m s ≡ s) (cond b (s ∷ filter keep streams) (filter keep streams))
    go true e k = (ap (λ b. if b then moved m s else s) (h s e), k)
    go false e k = k

-- the streams of clients that are left are as before, once those of others are closed
pub present_closed : (reason : Reason) (gone left : List ℕ) (st : Stage) →
    ((n : ℕ) → is_among n left ≡ true → is_among n gone ≡ false) →
    present left (after_moves st (moves_to (closed reason) gone)) ≡ present left st
present_closed reason gone left st h =
    ap (present left) (all_closed reason gone st)
    ∙ ap (λ streams. record st { streams = streams })
    (filter-map (is_left left) (moved_where (is_open_among gone) (closed reason))
    (λ s. chosen (λ t. is_left left t ≡ is_left left s) (is_open_among gone s) (moved (closed reason) s) s refl refl)
    st.streams
    ∙ same_each (moved_where (is_open_among gone) (closed reason)) (filter (is_left left) st.streams)
    (kept_still (is_left left) (is_open_among gone) (closed reason) st.streams
    (λ s k. and_left (is_among s.client gone) (is_open s) (h s.client k))))
