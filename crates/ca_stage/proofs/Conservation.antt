-- Conservation: what was released is what got fates, and then the padding. A stream counts what was released to it.
use Rattle.std.proofs.Common.{◌≡◌, ℕ, suc, ◌+◌, List, [], ◌∷◌, ◌++◌, length, take, drop, Bool, true, false, Option}
use Rattle.std.proofs.Common.{Some, None, refl, sym, ap, ap₂, ◌∙◌, append-nil, append_assoc, take-append-drop}
use Rattle.std.proofs.Common.{length-append, arith, if◌then◌else◌, zero-add}
use Rattle.std.proofs.lemmas.List.{length-map, drop_at}
use Rattle.ca_stage.specs.Stage.{empty_stage, Frame, Stream, Stage}
use Rattle.ca_stage.specs.Moves.{StreamMove, released, reset, closed, retired, Move, of_client, moved, is_open_of}
use Rattle.ca_stage.specs.Moves.{stream_after, after_move, after_moves, stream_at}
use Rattle.ca_stage.specs.Fates.{Fate, of_found, passing, frames_handed, released_by, rendered_from, fates_given}
use Rattle.ca_stage.specs.Fates.{fated_by, pending_of, all_released, fates}
use Rattle.ca_stage.specs.Laws.{IsKept, Conservation, Counts}
use Rattle.ca_stage.proofs.Streams.{moved_there, came, Comes, absent, present}

-- the frames to which a move gives fates
abbrev pub frames_fated : StreamMove → Stream → List Frame
frames_fated retired s = take s.picked s.buffer_data.pending
frames_fated reset s = s.buffer_data.pending
frames_fated (closed reason) s = s.buffer_data.pending
frames_fated _ s = []

abbrev pub fated_frames : Move → Stream → List Frame
fated_frames (of_client client m) s = passing client s (frames_fated m s)
fated_frames _ s = []

abbrev pub all_fated : ℕ → Stage → List Move → List Frame
all_fated n st [] = []
all_fated n st (x ∷ xs) = of_found (fated_frames x) (stream_at n st) ++ all_fated n (after_move st x) xs

-- the padding and what is released are the frames that get fates and the padding after it
split_moved : (m : StreamMove) (s : Stream) →
    s.buffer_data.pending ++ frames_handed m ≡ frames_fated m s ++ (moved m s).buffer_data.pending
split_moved (released frames) s = refl
split_moved retired s = append-nil _ ∙ sym (take-append-drop s.picked s.buffer_data.pending)
split_moved reset s = refl
split_moved (closed reason) s = refl
split_moved _ s = append-nil _

pub split_by : (x : Move) (s : Stream) →
    s.buffer_data.pending ++ released_by x s ≡ fated_frames x s ++ (stream_after x s).buffer_data.pending
split_by (of_client client m) s = go (is_open_of client s)
  where
    go : (b : Bool) → s.buffer_data.pending ++ (if b then frames_handed m else [])
        ≡ (if b then frames_fated m s else []) ++ (if b then moved m s else s).buffer_data.pending
    go true = split_moved m s
    go false = append-nil _
split_by _ s = append-nil _

-- as many fates as frames
pub length-rendered_from : (number place : ℕ) (frames : List Frame) →
    length (rendered_from number place frames) ≡ length frames
length-rendered_from number place [] = refl
length-rendered_from number place (frame ∷ frames) = ap suc (length-rendered_from number (place + 1) frames)

pub length-fates_given : (m : StreamMove) (next : ℕ) (s : Stream) →
    length (fates_given m next s) ≡ length (frames_fated m s)
length-fates_given retired next s = length-rendered_from s.endpoint next (take s.picked s.buffer_data.pending)
length-fates_given reset next s = length-map _ _
length-fates_given (closed reason) next s = length-map _ _
length-fates_given _ next s = refl

pub length-fated_by : (st : Stage) (x : Move) (s : Stream) → length (fated_by st x s) ≡ length (fated_frames x s)
length-fated_by st (of_client client m) s = go (is_open_of client s) _ _ (length-fates_given m _ s)
  where
    go : (b : Bool) (xs : List Fate) (ys : List Frame) → length xs ≡ length ys →
        length (if b then xs else []) ≡ length (if b then ys else [])
    go true xs ys e = e
    go false xs ys e = refl
length-fated_by st _ s = refl

-- a move and the stream of one client, there or not
abbrev KeepsFrames : ℕ → Stage → Move → Type 0
KeepsFrames n st x =
    pending_of n st ++ of_found (released_by x) (stream_at n st)
    ≡ of_found (fated_frames x) (stream_at n st) ++ pending_of n (after_move st x)

pub none_pending : (o : Option Stream) → Comes o → of_found (λ s. s.buffer_data.pending) o ≡ []
none_pending o (absent e) = ap (of_found (λ s. s.buffer_data.pending)) e
none_pending o (present new e) = ap (of_found (λ s. s.buffer_data.pending)) e

abbrev KeepsFound : ℕ → Stage → Move → Option Stream → Type 0
KeepsFound n st x o =
    of_found (λ s. s.buffer_data.pending) o ++ of_found (released_by x) o
    ≡ of_found (fated_frames x) o ++ pending_of n (after_move st x)

split_at : (n : ℕ) (st : Stage) (x : Move) (o : Option Stream) → stream_at n st ≡ o → KeepsFound n st x o
split_at n st x None e = sym (none_pending (stream_at n (after_move st x)) (came n st x e))
split_at n st x (Some s) e =
    split_by x s
    ∙ ap (λ (o : Option Stream). fated_frames x s ++ of_found (λ s. s.buffer_data.pending) o)
    (sym (moved_there n st x s e))

pub split_step : (n : ℕ) (st : Stage) (x : Move) → KeepsFrames n st x
split_step n st x = split_at n st x (stream_at n st) refl

pub of_lengths : {A B : Type 0} (f : Stream → List A) (g : Stream → List B) →
    ((s : Stream) → length (f s) ≡ length (g s)) → (o : Option Stream) → length (of_found f o) ≡ length (of_found g o)
of_lengths f g h None = refl
of_lengths f g h (Some s) = h s

regrouped : (p r r' a p' a' p'' : List Frame) → p ++ r ≡ a ++ p' → p' ++ r' ≡ a' ++ p'' →
    p ++ (r ++ r') ≡ (a ++ a') ++ p''
regrouped p r r' a p' a' p'' h k =
    sym (append_assoc p r r') ∙ ap (λ z. z ++ r') h ∙ append_assoc a p' r' ∙ ap (λ z. a ++ z) k
    ∙ sym (append_assoc a a' p'')

-- all that was released got a fate, or is padding
pub all_split : (n : ℕ) (st : Stage) (xs : List Move) →
    pending_of n st ++ all_released n st xs ≡ all_fated n st xs ++ pending_of n (after_moves st xs)
all_split n st [] = append-nil _
all_split n st (x ∷ xs) =
    regrouped (pending_of n st) _ _ _ (pending_of n (after_move st x)) _ _
    (split_step n st x) (all_split n (after_move st x) xs)

pub length-all_fated : (n : ℕ) (st : Stage) (xs : List Move) → length (fates n st xs) ≡ length (all_fated n st xs)
length-all_fated n st [] = refl
length-all_fated n st (x ∷ xs) =
    length-append (of_found (fated_by st x) (stream_at n st)) (fates n (after_move st x) xs)
    ∙ ap₂ (λ a b. a + b)
    (of_lengths (fated_by st x) (fated_frames x) (length-fated_by st x) (stream_at n st))
    (length-all_fated n (after_move st x) xs)
    ∙ sym (length-append (of_found (fated_frames x) (stream_at n st)) (all_fated n (after_move st x) xs))

kept_from : (p all : List Frame) (a : List Frame) (fs : List Fate) → all ≡ a ++ p → length fs ≡ length a →
    IsKept p all fs
kept_from p all a fs e l = record {
  rest = sym (ap (drop (length fs)) e ∙ drop_at a p (length fs) (sym l));
  within = let h : length all ≡ length a + length p = ap length e ∙ length-append a p in omega arith;
}

pub conservation : Conservation
conservation n xs =
    kept_from _ _ (all_fated n empty_stage xs) (fates n empty_stage xs)
    (all_split n empty_stage xs) (length-all_fated n empty_stage xs)

-- a stream's own count
abbrev count_in : Option Stream → ℕ
count_in None = 0
count_in (Some s) = s.buffer_data.released

count_moved : (m : StreamMove) (s : Stream) →
    (moved m s).buffer_data.released ≡ s.buffer_data.released + length (frames_handed m)
count_moved (released frames) s = refl
count_moved _ s = omega arith

count_by_move : (x : Move) (s : Stream) →
    (stream_after x s).buffer_data.released ≡ s.buffer_data.released + length (released_by x s)
count_by_move (of_client client m) s = go (is_open_of client s)
  where
    go : (b : Bool) → (if b then moved m s else s).buffer_data.released
        ≡ s.buffer_data.released + length (if b then frames_handed m else [])
    go true = count_moved m s
    go false = omega arith
count_by_move _ s = omega arith

none_counted : (o : Option Stream) → Comes o → count_in o ≡ 0
none_counted o (absent e) = ap count_in e
none_counted o (present new e) = ap count_in e

count_step : (n : ℕ) (st : Stage) (x : Move) (o : Option Stream) → stream_at n st ≡ o →
    count_in (stream_at n (after_move st x)) ≡ count_in o + length (of_found (released_by x) o)
count_step n st x None e = none_counted _ (came n st x e)
count_step n st x (Some s) e = ap count_in (moved_there n st x s e) ∙ count_by_move x s

all_counted : (n : ℕ) (st : Stage) (xs : List Move) →
    count_in (stream_at n (after_moves st xs)) ≡ count_in (stream_at n st) + length (all_released n st xs)
all_counted n st [] = omega arith
all_counted n st (x ∷ xs) =
    let e = all_counted n (after_move st x) xs in
    let k = count_step n st x (stream_at n st) refl in
    let l = length-append (of_found (released_by x) (stream_at n st)) (all_released n (after_move st x) xs) in
    omega arith

pub counts : Counts
counts n s xs e = sym (ap count_in e) ∙ all_counted n empty_stage xs ∙ zero-add _
