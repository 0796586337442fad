-- Without data calls a stream stays what it was opened as, and its pending frames become no more.
use Rattle.std.proofs.Common.{◌≡◌, ℕ, ◌≤◌, List, [], ◌∷◌, filter, Bool, true, false, Some, cond, find, refl, sym, ap}
use Rattle.std.proofs.Common.{◌∙◌, subst, arith, eqb, eqb-true, if◌then◌else◌, length-drop}
use Rattle.std.specs.List.{AllByRecursion}
use Rattle.std.proofs.lemmas.Bool.{true≢false}
use Rattle.std.proofs.lemmas.Option.{same_Some}
use Rattle.ca_stage.specs.Stage.{Stream, Stage, padding}
use Rattle.ca_stage.specs.Moves.{StreamMove, leased, released, read, started, stopped, reset, closed, picked, retired}
use Rattle.ca_stage.specs.Moves.{fed, Move, added, opened, of_client, sounded, finished, captured, moved, as_opened}
use Rattle.ca_stage.specs.Moves.{is_open_of, stream_after, after_move, after_moves, stream_at}
use Rattle.ca_stage.specs.Order.{is_among}
use Rattle.ca_stage.specs.Present.{present}
use Rattle.ca_stage.proofs.Lists.{chosen, chosen_by, all_found, found_passes}
use Rattle.ca_stage.proofs.Streams.{moved_there, is_of}

-- a stream went on without a release: it was opened as the same, and no more frames are pending
pub record Fell (s t : Stream) : Type 0 where
  pub opened : as_opened t ≡ as_opened s
  pub fewer : padding t ≤ padding s

fell_still : (s : Stream) → Fell s s
fell_still s = record { opened = refl; fewer = omega arith }

fell_twice : (s t u : Stream) → Fell s t → Fell t u → Fell s u
fell_twice s t u first next =
    record { opened = next.opened ∙ first.opened; fewer = omega (arith, first.fewer, next.fewer) }

-- moves that no data call makes
abbrev pub IsStreamControl : StreamMove → Type 0
IsStreamControl (leased n) = ⊥
IsStreamControl (released frames) = ⊥
IsStreamControl (read n) = ⊥
IsStreamControl _ = Unit {0}

abbrev pub IsControl : Move → Type 0
IsControl (of_client client m) = IsStreamControl m
IsControl _ = Unit {0}

fell_move : (m : StreamMove) (s : Stream) → IsStreamControl m → Fell s (moved m s)
fell_move (leased n) s h = absurd h
fell_move (released frames) s h = absurd h
fell_move (read n) s h = absurd h
fell_move started s h = record { opened = refl; fewer = omega arith }
fell_move stopped s h = record { opened = refl; fewer = omega arith }
fell_move reset s h = record { opened = refl; fewer = omega arith }
fell_move (closed reason) s h = record { opened = refl; fewer = omega arith }
fell_move (fed frames) s h = record { opened = refl; fewer = omega arith }
fell_move (picked n) s h = record { opened = refl; fewer = omega arith }
fell_move retired s h = record { opened = refl; fewer = simp length-drop (omega arith) }

fell_after : (x : Move) (s : Stream) → IsControl x → Fell s (stream_after x s)
fell_after (of_client client m) s h =
    chosen (Fell s) (is_open_of client s) (moved m s) s (fell_move m s h) (fell_still s)
fell_after (added number) s h = fell_still s
fell_after (opened new) s h = fell_still s
fell_after (sounded m whole) s h = fell_still s
fell_after (finished m whole) s h = fell_still s
fell_after (captured number frames) s h = fell_still s

-- in both stages the streams of each client that has one in both went on so
abbrev pub AllFell : Stage → Stage → Type 0
AllFell old new = (n : ℕ) (s t : Stream) → stream_at n old ≡ Some s → stream_at n new ≡ Some t → Fell s t

pub all_still : (st : Stage) → AllFell st st
all_still st n s t was is_now = subst (Fell s) (same_Some s t (sym was ∙ is_now)) (fell_still s)

-- moves that no data call makes
moved_on : (n : ℕ) (st : Stage) (xs : List Move) (s : Stream) → AllByRecursion IsControl xs → stream_at n st ≡ Some s →
    (t : Stream) × (stream_at n (after_moves st xs) ≡ Some t) × Fell s t
moved_on n st [] s control was = (s, was, fell_still s)
moved_on n st (x ∷ xs) s control was =
    let next = moved_on n (after_move st x) xs (stream_after x s) control.1 (moved_there n st x s was) in
    (next.0, next.1, fell_twice s (stream_after x s) next.0 (fell_after x s control.0) next.2)

pub all_moved : (st : Stage) (xs : List Move) → AllByRecursion IsControl xs → AllFell st (after_moves st xs)
all_moved st xs control n s t was is_now =
    let there = moved_on n st xs s control was in
    subst (Fell s) (same_Some there.0 t (sym there.1 ∙ is_now)) there.2

-- a stream that is there among those left was there
left_head : (n : ℕ) (numbers : List ℕ) (x t : Stream) (streams : List Stream) (q b : Bool) →
    is_among x.client numbers ≡ q → eqb x.client n ≡ b →
    find (is_of n) (if q then x ∷ filter (λ s. is_among s.client numbers) streams
    else filter (λ s. is_among s.client numbers) streams) ≡ Some t →
    (find (is_of n) (filter (λ s. is_among s.client numbers) streams) ≡ Some t → find (is_of n) streams ≡ Some t) →
    is_among t.client numbers ≡ true → t.client ≡ n →
    cond b (Some x) (find (is_of n) streams) ≡ Some t
left_head n numbers x t streams true true q_is b_is found rest among is =
    sym (ap (λ b. cond b (Some x) (find (is_of n) (filter (λ s. is_among s.client numbers) streams))) b_is) ∙ found
left_head n numbers x t streams true false q_is b_is found rest among is =
    rest (sym (ap (λ b. cond b (Some x) (find (is_of n) (filter (λ s. is_among s.client numbers) streams))) b_is) ∙
    found)
left_head n numbers x t streams false false q_is b_is found rest among is = rest found
left_head n numbers x t streams false true q_is b_is found rest among is =
    let same : x.client ≡ t.client = eqb-true x.client n b_is ∙ sym is in
    absurd (true≢false (sym among ∙ sym (ap (λ k. is_among k numbers) same) ∙ q_is))

filter_passes : (test : Stream → Bool) (streams : List Stream) →
    AllByRecursion (λ s. test s ≡ true) (filter test streams)
filter_passes test [] = tt
filter_passes test (x ∷ streams) =
    chosen_by (AllByRecursion (λ s. test s ≡ true)) (test x) (x ∷ filter test streams) (filter test streams)
    (λ passes. (passes, filter_passes test streams)) (λ fails. filter_passes test streams)

left_passes : (n : ℕ) (numbers : List ℕ) (streams : List Stream) (t : Stream) →
    find (is_of n) (filter (λ s. is_among s.client numbers) streams) ≡ Some t → is_among t.client numbers ≡ true
left_passes n numbers streams t found =
    all_found (λ s. is_among s.client numbers ≡ true) (is_of n) (filter (λ s. is_among s.client numbers) streams) t
    (filter_passes (λ s. is_among s.client numbers) streams) found

pub left_was : (n : ℕ) (numbers : List ℕ) (streams : List Stream) (t : Stream) →
    find (is_of n) (filter (λ s. is_among s.client numbers) streams) ≡ Some t → find (is_of n) streams ≡ Some t
left_was n numbers [] t found = found
left_was n numbers (x ∷ streams) t found =
    left_head n numbers x t streams (is_among x.client numbers) (eqb x.client n) refl refl found
    (left_was n numbers streams t) (left_passes n numbers (x ∷ streams) t found)
    (eqb-true t.client n (found_passes (is_of n) (filter (λ s. is_among s.client numbers) (x ∷ streams)) t found))

pub all_present : (old new : Stage) (numbers : List ℕ) → AllFell old new → AllFell old (present numbers new)
all_present old new numbers fell n s t was is_now = fell n s t was (left_was n numbers new.streams t is_now)
