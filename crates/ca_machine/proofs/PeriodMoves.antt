-- What holds of each kind of move of a period holds of all its moves.
use Rattle.std.proofs.Common.{ℕ, List, [], ◌∷◌, ◌++◌, map, filter, Bool, true, false}
use Rattle.std.specs.List.{AllByRecursion}
use Rattle.ca_base.specs.declared.ids.Reason.TheVariants.{Removal}
use Rattle.ca_stage.specs.Stage.{Frame, Stream, Stage}
use Rattle.ca_stage.specs.Moves.{closed, picked, retired, fed, Move, of_client, sounded, finished, captured, Mixing}
use Rattle.ca_stage.specs.Moves.{after_moves}
use Rattle.ca_stage.specs.Periods.{is_hearing, is_recording, feeds, playing_streams_on, open_streams_on, picks}
use Rattle.ca_stage.specs.Periods.{after_sound, sub_steps, captures}
use Rattle.ca_stage.specs.Mix.{mixed}
use Rattle.ca_stage.proofs.Lists.{all-append}

-- of each kind of move but the Sound, and what a device gave
pub record OfSubSteps (P : Move → Type 0) : Type 0 where
  pub picks : (n k : ℕ) → P (of_client n (picked k))
  pub retires : (n : ℕ) → P (of_client n retired)
  pub feeds : (n : ℕ) (frames : List Frame) → P (of_client n (fed frames))
  pub closes : (n : ℕ) → P (of_client n (closed Removal))
  pub finish : (m : Mixing) (b : Bool) → P (finished m b)

all_of_streams : (P : Move → Type 0) (f : Stream → Move) → ((s : Stream) → P (f s)) → (left : List Stream) →
    AllByRecursion P (map f left)
all_of_streams P f h [] = tt
all_of_streams P f h (s ∷ left) = (h s, all_of_streams P f h left)

pub picks_all : (P : Move → Type 0) → OfSubSteps P → (m : Mixing) (st : Stage) → AllByRecursion P (picks m st)
picks_all P h m st =
    all_of_streams P (λ s. of_client s.client (picked m.frames)) (λ s. h.picks s.client m.frames)
    (playing_streams_on m.endpoint st)

pub feeds_all : (P : Move → Type 0) → OfSubSteps P → (test : Stream → Bool) (frames : List Frame) (st : Stage) →
    AllByRecursion P (feeds test frames st)
feeds_all P h test frames st =
    all_of_streams P (λ s. of_client s.client (fed frames)) (λ s. h.feeds s.client frames) (filter test st.streams)

pub after_sound_all : (P : Move → Type 0) → OfSubSteps P → (m : Mixing) (whole : Bool) (st : Stage) →
    AllByRecursion P (after_sound m whole st)
after_sound_all P h m true st =
    all-append P _ (feeds (is_hearing m.endpoint) (mixed m st.streams) st ++ finished m true ∷ [])
    (all_of_streams P (λ s. of_client s.client retired) (λ s. h.retires s.client) (playing_streams_on m.endpoint st))
    (all-append P _ (finished m true ∷ []) (feeds_all P h (is_hearing m.endpoint) (mixed m st.streams) st)
    (h.finish m true, tt))
after_sound_all P h m false st =
    all-append P _ (finished m false ∷ [])
    (all_of_streams P (λ s. of_client s.client (closed Removal)) (λ s. h.closes s.client)
    (open_streams_on m.endpoint st))
    (h.finish m false, tt)

pub sub_steps_all : (P : Move → Type 0) → OfSubSteps P → (m : Mixing) (whole : Bool) → P (sounded m whole) →
    (st : Stage) → AllByRecursion P (sub_steps m whole st)
sub_steps_all P h m whole s st =
    all-append P (picks m st) (sounded m whole ∷ after_sound m whole (after_moves st (picks m st))) (picks_all P h m st)
    (s, after_sound_all P h m whole (after_moves st (picks m st)))

-- and of an endpoint that captures
pub captures_all : (P : Move → Type 0) → OfSubSteps P → (number : ℕ) (frames : List Frame) →
    P (captured number frames) → (st : Stage) → AllByRecursion P (captures number frames st)
captures_all P h number frames c st = (c, feeds_all P h (is_recording number) frames st)
