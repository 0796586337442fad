-- Where a stream's packets come from: in a woven list each feed is one that is due after a whole Sound, or after a
-- device gave frames, and goes to a stream of that kind and endpoint.
use Rattle.std.proofs.Common.{◌≡◌, ℕ, ◌==◌, ◌&&◌, List, [], ◌∷◌, ◌++◌, filter, Bool, true, false, cond, Option}
use Rattle.std.proofs.Common.{Some, None, refl, sym, ap, ◌∙◌, subst, append-nil, append_assoc, eqb-true}
use Rattle.std.proofs.Common.{if◌then◌else◌}
use Rattle.std.proofs.lemmas.Bool.{false≢true, true≢false, and_parts}
use Rattle.std.proofs.lemmas.List.{map-append}
use Rattle.std.proofs.lemmas.Option.{same_Some}
use Rattle.std.specs.Bool.{MatchBool}
use Rattle.std.specs.List.{AllByRecursion}
use Rattle.ca_base.specs.declared.ids.Reason.TheVariants.{Removal}
use Rattle.ca_base.specs.declared.ids.StreamKind.{StreamKind}
use Rattle.ca_base.specs.declared.ids.StreamKind.TheVariants as kind
use Rattle.ca_stage.specs.Stage.{empty_stage, Frame, Packet, Stream, Stage, is_open, is_capture, is_loopback}
use Rattle.ca_stage.specs.Moves.{StreamMove, read, reset, closed, picked, retired, fed, Move, of_client, sounded}
use Rattle.ca_stage.specs.Moves.{finished, captured, Mixing, as_opened, is_open_of, stream_after, after_move}
use Rattle.ca_stage.specs.Moves.{after_moves, stream_at}
use Rattle.ca_stage.specs.Periods.{is_recording, is_hearing, playing_streams_on, open_streams_on, feeds}
use Rattle.ca_stage.specs.Periods.{after_sound}
use Rattle.ca_stage.specs.Mix.{mixed}
use Rattle.ca_stage.specs.Packets.{Reset, Dropped, PacketBook, empty_book, book_on, book_by, book_after}
use Rattle.ca_stage.specs.Packets.{book}
use Rattle.ca_stage.specs.Woven.{IsPeriod, is_data, is_sub_step, due_after, due_of}
use Rattle.ca_stage.specs.Woven.{IsWoven}
use Rattle.ca_stage.specs.Order.{clients, RisesFrom}
use Rattle.ca_stage.specs.Laws.{WasWritten, WasGiven, IsFrom, PacketsComeFrom}
use Rattle.ca_stage.proofs.Lists.{all-append, all-map, all_weaker}
use Rattle.ca_stage.proofs.Streams.{after_kind, after_endpoint, moved_there, came, Comes, absent, present, found_client}
use Rattle.ca_stage.proofs.Clients.{rising_distinct, rises_step, each_found}
use Rattle.ca_stage.proofs.Stages.{after_moves-append}
use Rattle.ca_stage.proofs.MapMoves.{moves_of}
use Rattle.ca_stage.proofs.Feeds.{captured_leaves}
use Rattle.ca_stage.proofs.Periods.{sound_leaves}
use Rattle.ca_stage.proofs.Books.{packets_of, reads_packets, ends_packets, book_by_none}

-- what these moves gave, later ones leave
from_later : (k : StreamKind) (number : ℕ) (before more : List Move) (frames : List Frame) →
    IsFrom k number before frames → IsFrom k number (before ++ more) frames
from_later kind.Loopback number before more frames w = record {
  before = w.before;
  mixing = w.mixing;
  rest = w.rest ++ more;
  stands = ap (λ xs. xs ++ more) w.stands ∙ append_assoc w.before (sounded w.mixing true ∷ w.rest) more;
  endpoint = w.endpoint;
  frames_are = w.frames_are;
}
from_later kind.Capture number before more frames w = record {
  before = w.before;
  rest = w.rest ++ more;
  stands = ap (λ xs. xs ++ more) w.stands ∙ append_assoc w.before (captured number frames ∷ w.rest) more;
}
from_later kind.Render number before more frames w = w

-- what a move feeds comes from where its stream is fed from
abbrev FeedsFrom : List Move → Stage → Move → Type 0
FeedsFrom before st (of_client client (fed frames)) =
    (s : Stream) × (stream_at client st ≡ Some s) × IsFrom s.kind s.endpoint before frames
FeedsFrom before st _ = Unit {0}

after_from : (before : List Move) (x : Move) (s : Stream) (frames : List Frame) →
    IsFrom s.kind s.endpoint before frames →
    IsFrom (stream_after x s).kind (stream_after x s).endpoint (before ++ x ∷ []) frames
after_from before x s frames h =
    subst (λ k. IsFrom k (stream_after x s).endpoint (before ++ x ∷ []) frames) (sym (after_kind x s))
    (subst (λ e. IsFrom s.kind e (before ++ x ∷ []) frames) (sym (after_endpoint x s))
    (from_later s.kind s.endpoint before (x ∷ []) frames h))

feeds_later : (before : List Move) (st : Stage) (x y : Move) → FeedsFrom before st y →
    FeedsFrom (before ++ x ∷ []) (after_move st x) y
feeds_later before st x (of_client client (fed frames)) h =
    (stream_after x h.0, moved_there client st x h.0 h.1, after_from before x h.0 frames h.2)
feeds_later before st x _ h = tt

-- the feeds of a test
abbrev Passes : Stage → (Stream → Bool) → Stream → Type 0
Passes st test s = (stream_at s.client st ≡ Some s) × (test s ≡ true)

passed : (st : Stage) (test : Stream → Bool) (streams : List Stream) →
    AllByRecursion (λ s. stream_at s.client st ≡ Some s) streams →
    AllByRecursion (Passes st test) (filter test streams)
passed st test [] h = tt
passed st test (s ∷ streams) h = go (test s) refl (passed st test streams h.1)
  where
    go : (b : Bool) → test s ≡ b → AllByRecursion (Passes st test) (filter test streams) →
        AllByRecursion (Passes st test) (cond b (s ∷ filter test streams) (filter test streams))
    go true e k = ((h.0, e), k)
    go false e k = k

feeds_from : (before : List Move) (st : Stage) (test : Stream → Bool) (frames : List Frame) → RisesFrom 0 (clients st) →
    ((s : Stream) → test s ≡ true → IsFrom s.kind s.endpoint before frames) →
    AllByRecursion (FeedsFrom before st) (feeds test frames st)
feeds_from before st test frames r f =
    all-map (Passes st test) (FeedsFrom before st) (λ s. of_client s.client (fed frames))
    (λ s p. (s, p.0, f s p.1)) (filter test st.streams)
    (passed st test st.streams (each_found st.streams (rising_distinct 0 _ r)))

-- who hears gets what a Sound wrote, and who records what a device gave
hears_from : (k : StreamKind) (number : ℕ) (xs : List Move) (frames : List Frame) → is_loopback k ≡ true →
    WasWritten number xs frames → IsFrom k number xs frames
hears_from kind.Loopback number xs frames h w = w
hears_from kind.Capture number xs frames h w = absurd (false≢true h)
hears_from kind.Render number xs frames h w = absurd (false≢true h)

records_from : (k : StreamKind) (number : ℕ) (xs : List Move) (frames : List Frame) → is_capture k ≡ true →
    WasGiven number xs frames → IsFrom k number xs frames
records_from kind.Capture number xs frames h w = w
records_from kind.Loopback number xs frames h w = absurd (false≢true h)
records_from kind.Render number xs frames h w = absurd (false≢true h)

on_endpoint : (k : StreamKind → Bool) (number : ℕ) (s : Stream) →
    (s.endpoint == number && (is_open s && (s.running && k s.kind))) ≡ true →
    (s.endpoint ≡ number) × (k s.kind ≡ true)
on_endpoint k number s h =
    let p = and_parts (s.endpoint == number) (is_open s && (s.running && k s.kind)) h in
    let q = and_parts (is_open s) (s.running && k s.kind) p.1 in
    (eqb-true s.endpoint number p.0, (and_parts s.running (k s.kind) q.1).1)

hearing_from : (number : ℕ) (xs : List Move) (frames : List Frame) (s : Stream) → WasWritten number xs frames →
    is_hearing number s ≡ true → IsFrom s.kind s.endpoint xs frames
hearing_from number xs frames s w h =
    let p = on_endpoint is_loopback number s h in
    subst (λ e. IsFrom s.kind e xs frames) (sym p.0) (hears_from s.kind number xs frames p.1 w)

recording_from : (number : ℕ) (xs : List Move) (frames : List Frame) (s : Stream) → WasGiven number xs frames →
    is_recording number s ≡ true → IsFrom s.kind s.endpoint xs frames
recording_from number xs frames s w h =
    let p = on_endpoint is_capture number s h in
    subst (λ e. IsFrom s.kind e xs frames) (sym p.0) (records_from s.kind number xs frames p.1 w)

-- what is due after a Sound
retires_from : (before : List Move) (st : Stage) (left : List Stream) →
    AllByRecursion (FeedsFrom before st) (moves_of retired left)
retires_from before st [] = tt
retires_from before st (s ∷ left) = (tt, retires_from before st left)

closes_from : (before : List Move) (st : Stage) (left : List Stream) →
    AllByRecursion (FeedsFrom before st) (moves_of (closed Removal) left)
closes_from before st [] = tt
closes_from before st (s ∷ left) = (tt, closes_from before st left)

picks_from : (before : List Move) (st : Stage) (m : Mixing) (whole : Bool) (left : List Stream) →
    AllByRecursion (FeedsFrom before st) (moves_of (picked m.frames) left ++ sounded m whole ∷ [])
picks_from before st m whole [] = (tt, tt)
picks_from before st m whole (s ∷ left) = (tt, picks_from before st m whole left)

sound_from : (before : List Move) (st : Stage) (m : Mixing) (whole : Bool) → after_moves empty_stage before ≡ st →
    RisesFrom 0 (clients st) →
    AllByRecursion (FeedsFrom (before ++ sounded m whole ∷ []) st) (after_sound m whole st)
sound_from before st m true e r =
    all-append (FeedsFrom (before ++ sounded m true ∷ []) st) (moves_of retired (playing_streams_on m.endpoint st)) _
    (retires_from _ st (playing_streams_on m.endpoint st))
    (all-append (FeedsFrom (before ++ sounded m true ∷ []) st)
    (feeds (is_hearing m.endpoint) (mixed m st.streams) st) (finished m true ∷ [])
    (feeds_from _ st (is_hearing m.endpoint) (mixed m st.streams) r
    (λ s h. hearing_from m.endpoint _ (mixed m st.streams) s written h)) (tt, tt))
  where
    written : WasWritten m.endpoint (before ++ sounded m true ∷ []) (mixed m st.streams)
    written = record {
      before = before;
      mixing = m;
      rest = [];
      stands = refl;
      endpoint = refl;
      frames_are = ap (λ (at : Stage). mixed m at.streams) (sym e);
    }
sound_from before st m false e r =
    all-append (FeedsFrom (before ++ sounded m false ∷ []) st)
    (moves_of (closed Removal) (open_streams_on m.endpoint st)) (finished m false ∷ [])
    (closes_from _ st (open_streams_on m.endpoint st)) (tt, tt)

-- and after any move, within a period or between two
due_from : (before : List Move) (st : Stage) (x : Move) (due : List Move) → after_moves empty_stage before ≡ st →
    RisesFrom 0 (clients st) → AllByRecursion (FeedsFrom before st) due →
    AllByRecursion (FeedsFrom (before ++ x ∷ []) (after_move st x)) (due_after st x due)
due_from before st (sounded m whole) due e r h =
    subst (λ at. AllByRecursion (FeedsFrom (before ++ sounded m whole ∷ []) at) (after_sound m whole st))
    (sym (sound_leaves m whole st)) (sound_from before st m whole e r)
due_from before st x due e r h =
    all_weaker (FeedsFrom before st) (FeedsFrom (before ++ x ∷ []) (after_move st x)) (feeds_later before st x) due h

outside_from : (before : List Move) (st : Stage) (x : Move) → RisesFrom 0 (clients st) →
    AllByRecursion (FeedsFrom (before ++ x ∷ []) (after_move st x)) (due_of st x)
outside_from before st (captured number frames) r =
    subst (λ at. AllByRecursion (FeedsFrom (before ++ captured number frames ∷ []) at)
    (feeds (is_recording number) frames st)) (sym (captured_leaves number frames st))
    (feeds_from _ st (is_recording number) frames r
    (λ s h. recording_from number _ frames s (record { before = before; rest = []; stands = refl }) h))
outside_from before st _ r = tt

-- a move that is no feed
outside_feeds_none : (before : List Move) (st : Stage) (x : Move) → is_sub_step x ≡ false → FeedsFrom before st x
outside_feeds_none before st (of_client client (fed frames)) e = absurd (true≢false e)
outside_feeds_none before st _ e = tt

data_feeds_none : (before : List Move) (st : Stage) (x : Move) → is_data x ≡ true → FeedsFrom before st x
data_feeds_none before st (of_client client (fed frames)) e = absurd (false≢true e)
data_feeds_none before st _ e = tt

-- the packets of a stream
abbrev PacketFrom : List Move → Stream → Packet → Type 0
PacketFrom before s p = IsFrom s.kind s.endpoint before p.frames

abbrev FromIn : Option Stream → List Move → PacketBook → Type 0
FromIn None before b = b ≡ empty_book
FromIn (Some s) before b = AllByRecursion (PacketFrom before s) (packets_of b.offers)

-- the stream that is fed is the one of its client
fed_there : (n client : ℕ) (st : Stage) (s : Stream) (frames : List Frame) (before : List Move) →
    stream_at n st ≡ Some s → is_open_of client s ≡ true → FeedsFrom before st (of_client client (fed frames)) →
    IsFrom s.kind s.endpoint before frames
fed_there n client st s frames before e o h =
    let c : s.client ≡ client = eqb-true s.client client (and_parts (s.client == client) (is_open s) o).0 in
    let same : Some h.0 ≡ Some s =
    sym h.1 ∙ ap (λ k. stream_at k st) (sym c ∙ found_client n st s e) ∙ e in
    subst (λ (t : Stream). IsFrom t.kind t.endpoint before frames) (same_Some h.0 s same) h.2

moved_from : (n client : ℕ) (st : Stage) (m : StreamMove) (s : Stream) (b : PacketBook) (before : List Move) →
    stream_at n st ≡ Some s → is_open_of client s ≡ true → FeedsFrom before st (of_client client m) →
    AllByRecursion (PacketFrom before s) (packets_of b.offers) →
    AllByRecursion (PacketFrom before s) (packets_of (book_on m s b).offers)
moved_from n client st (fed frames) s b before e o f h =
    subst (AllByRecursion (PacketFrom before s)) (sym (map-append (λ o. o.packet) b.offers _))
    (all-append (PacketFrom before s) (packets_of b.offers) _ h (fed_there n client st s frames before e o f, tt))
moved_from n client st (read k) s b before e o f h =
    subst (AllByRecursion (PacketFrom before s)) (sym (reads_packets k b.offers)) h
moved_from n client st reset s b before e o f h =
    subst (AllByRecursion (PacketFrom before s)) (sym (ends_packets Reset b.offers)) h
moved_from n client st (closed reason) s b before e o f h =
    subst (AllByRecursion (PacketFrom before s)) (sym (ends_packets (Dropped reason) b.offers)) h
moved_from n client st _ s b before e o f h = h

there_from : (n : ℕ) (st : Stage) (x : Move) (s : Stream) (b : PacketBook) (before : List Move) →
    stream_at n st ≡ Some s → FeedsFrom before st x → AllByRecursion (PacketFrom before s) (packets_of b.offers) →
    AllByRecursion (PacketFrom before s) (packets_of (book_by x (Some s) b).offers)
there_from n st (of_client client m) s b before e f h = go (is_open_of client s) refl
  where
    go : (c : Bool) → is_open_of client s ≡ c →
        AllByRecursion (PacketFrom before s) (packets_of (if c then book_on m s b else b).offers)
    go true o = moved_from n client st m s b before e o f h
    go false o = h
there_from n st _ s b before e f h = h

comes_from : (o : Option Stream) (before : List Move) (b : PacketBook) → b ≡ empty_book → Comes o → FromIn o before b
comes_from o before b h (absent e) = subst (λ o. FromIn o before b) (sym e) h
comes_from o before b h (present new e) =
    subst (λ o. FromIn o before b) (sym e) (subst (FromIn (Some (as_opened new)) before) (sym h) tt)

step_from : (n : ℕ) (st : Stage) (x : Move) (b : PacketBook) (before : List Move) (o : Option Stream) →
    stream_at n st ≡ o → FeedsFrom before st x → FromIn o before b →
    FromIn (stream_at n (after_move st x)) (before ++ x ∷ []) (book_by x o b)
step_from n st x b before None e f h =
    comes_from (stream_at n (after_move st x)) (before ++ x ∷ []) (book_by x None b) (book_by_none x b ∙ h)
    (came n st x e)
step_from n st x b before (Some s) e f h =
    subst (λ o. FromIn o (before ++ x ∷ []) (book_by x (Some s) b)) (sym (moved_there n st x s e))
    (all_weaker (PacketFrom before s) (PacketFrom (before ++ x ∷ []) (stream_after x s))
    (λ p k. after_from before x s p.frames k) (packets_of (book_by x (Some s) b).offers)
    (there_from n st x s b before e f h))

-- along a woven list
module _ (n : ℕ) where
  -- these moves came before, and this is due
  abbrev GoesFrom : List Move → Stage → PacketBook → List Move → List Move → Type 0
  GoesFrom before st b xs due =
      AllByRecursion (FeedsFrom before st) due → IsWoven st due xs →
      FromIn (stream_at n (after_moves st xs)) (before ++ xs) (book_after b n st xs)

  goes_on : (before : List Move) (st : Stage) (b : PacketBook) (x : Move) (xs due : List Move) →
      GoesFrom (before ++ x ∷ []) (after_move st x) (book_by x (stream_at n st) b) xs due →
      AllByRecursion (FeedsFrom (before ++ x ∷ []) (after_move st x)) due → IsWoven (after_move st x) due xs →
      FromIn (stream_at n (after_moves st (x ∷ xs))) (before ++ x ∷ xs) (book_after b n st (x ∷ xs))
  goes_on before st b x xs due k h w =
      subst (λ zs. FromIn (stream_at n (after_moves st (x ∷ xs))) zs (book_after b n st (x ∷ xs)))
      (append_assoc before (x ∷ []) xs) (k h w)

  begins_from : (before : List Move) (st : Stage) (b : PacketBook) (x : Move) (xs : List Move) →
      after_moves empty_stage before ≡ st → RisesFrom 0 (clients st) →
      (FeedsFrom before st x → (due : List Move) →
      GoesFrom (before ++ x ∷ []) (after_move st x) (book_by x (stream_at n st) b) xs due) →
      (c : Bool) → is_sub_step x ≡ c →
      MatchBool c ((due : List Move) × IsPeriod st (x ∷ due) × IsWoven (after_move st x) (due_after st x due) xs)
      (IsWoven (after_move st x) (due_of st x) xs) →
      FromIn (stream_at n (after_moves st (x ∷ xs))) (before ++ x ∷ xs) (book_after b n st (x ∷ xs))
  begins_from before st b x xs e r k true c w =
      let p = w.1 in
      let h : AllByRecursion (FeedsFrom before st) (x ∷ w.0) =
      subst (AllByRecursion (FeedsFrom before st)) (sym p.steps_are)
      (picks_from before st p.mixing p.whole (playing_streams_on p.mixing.endpoint st)) in
      goes_on before st b x xs (due_after st x w.0) (k h.0 (due_after st x w.0)) (due_from before st x w.0 e r h.1) w.2
  begins_from before st b x xs e r k false c w =
      goes_on before st b x xs (due_of st x) (k (outside_feeds_none before st x c) (due_of st x))
      (outside_from before st x r) w

  continues_from : (before : List Move) (st : Stage) (b : PacketBook) (x next : Move) (due xs : List Move) →
      after_moves empty_stage before ≡ st → RisesFrom 0 (clients st) →
      AllByRecursion (FeedsFrom before st) (next ∷ due) →
      (FeedsFrom before st x → (due : List Move) →
      GoesFrom (before ++ x ∷ []) (after_move st x) (book_by x (stream_at n st) b) xs due) →
      (c : Bool) → is_data x ≡ c →
      MatchBool c (IsWoven (after_move st x) (next ∷ due) xs)
      ((x ≡ next) × IsWoven (after_move st x) (due_after st x due) xs) →
      FromIn (stream_at n (after_moves st (x ∷ xs))) (before ++ x ∷ xs) (book_after b n st (x ∷ xs))
  continues_from before st b x next due xs e r h k true c w =
      goes_on before st b x xs (next ∷ due) (k (data_feeds_none before st x c) (next ∷ due))
      (all_weaker (FeedsFrom before st) (FeedsFrom (before ++ x ∷ []) (after_move st x)) (feeds_later before st x)
      (next ∷ due) h) w
  continues_from before st b x next due xs e r h k false c w =
      goes_on before st b x xs (due_after st x due)
      (k (subst (FeedsFrom before st) (sym w.0) h.0) (due_after st x due)) (due_from before st x due e r h.1) w.1

  all_from : (before : List Move) (st : Stage) (b : PacketBook) (xs due : List Move) →
      after_moves empty_stage before ≡ st → RisesFrom 0 (clients st) → FromIn (stream_at n st) before b →
      GoesFrom before st b xs due
  all_from before st b [] [] e r f h w =
      subst (λ zs. FromIn (stream_at n st) zs b) (sym (append-nil before)) f
  all_from before st b [] (next ∷ due) e r f h w = absurd w
  all_from before st b (x ∷ xs) [] e r f h w =
      begins_from before st b x xs e r
      (λ k left. all_from (before ++ x ∷ []) (after_move st x) (book_by x (stream_at n st) b) xs left
      (after_moves-append empty_stage before (x ∷ []) ∙ ap (λ at. after_move at x) e) (rises_step st x r)
      (step_from n st x b before (stream_at n st) refl k f)) (is_sub_step x) refl w
  all_from before st b (x ∷ xs) (next ∷ due) e r f h w =
      continues_from before st b x next due xs e r h
      (λ k left. all_from (before ++ x ∷ []) (after_move st x) (book_by x (stream_at n st) b) xs left
      (after_moves-append empty_stage before (x ∷ []) ∙ ap (λ at. after_move at x) e) (rises_step st x r)
      (step_from n st x b before (stream_at n st) refl k f)) (is_data x) refl w

of_packets : (P : Packet → Type 0) (offers : List _) → AllByRecursion P (packets_of offers) →
    AllByRecursion (λ o. P o.packet) offers
of_packets P [] h = tt
of_packets P (o ∷ offers) h = (h.0, of_packets P offers h.1)

pub packets_come_from : PacketsComeFrom
packets_come_from n s xs w e =
    of_packets (PacketFrom xs s) (book n empty_stage xs).offers
    (subst (λ o. FromIn o xs (book n empty_stage xs)) e
    (all_from n [] empty_stage empty_book xs [] refl tt refl tt w))
