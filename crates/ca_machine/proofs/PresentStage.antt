-- Moves of the present part of a stage are those of the whole one.
use Rattle.std.proofs.Common.{◌≡◌, ℕ, ◌≤◌, List, [], ◌∷◌, ◌++◌, map, flat_map, Bool, true}
use Rattle.std.proofs.Common.{refl, sym, ap, ◌∙◌, subst}
use Rattle.std.specs.List.{AllByRecursion}
use Rattle.wave_format.specs.Frame.{frame_bytes}
use Rattle.ca_stage.specs.Stage.{empty_stage, Frame, Stream, Stage}
use Rattle.ca_stage.specs.Moves.{picked, Move, opened, of_client}
use Rattle.ca_stage.specs.Moves.{Mixing, stream_after, as_opened, inserted, has_stream, with_opened}
use Rattle.ca_stage.specs.Moves.{after_move, after_moves}
use Rattle.ca_stage.specs.Periods.{picks, sub_steps, captures}
use Rattle.ca_stage.specs.Mix.{sound_bytes}
use Rattle.ca_stage.specs.Tally.{Tally, tally_by, tally_after}
use Rattle.ca_stage.specs.Order.{is_among}
use Rattle.ca_stage.specs.Present.{present, AreGone, OpensPresent}
use Rattle.ca_stage.specs.Laws.{PresentIsWhole, PresentGoesOn}
use Rattle.ca_stage.proofs.Lists.{chosen, all-map}
use Rattle.ca_stage.proofs.Streams.{after_client, all-inserted}
use Rattle.ca_stage.proofs.Presence.{gone_step}
use Rattle.ca_stage.proofs.Stages.{after_moves-append}
use Rattle.ca_machine.proofs.PeriodMoves.{OfSubSteps, picks_all, sub_steps_all, captures_all}

-- the laws of the present part of a stage
pub record PresentLaws : Type 0 where
  pub is_whole : PresentIsWhole
  pub goes_on : PresentGoesOn

-- the stage that moves make of an empty one
abbrev pub stage_of : List Move → Stage
stage_of ms = after_moves empty_stage ms

-- moves that open no stream but one of these clients
abbrev pub OpenPresent : List ℕ → List Move → Type 0
OpenPresent numbers xs = AllByRecursion (OpensPresent numbers) xs

-- a stream that is left out stays closed
pub gone_after : (numbers : List ℕ) (st : Stage) (xs : List Move) → OpenPresent numbers xs →
    AreGone numbers st → AreGone numbers (after_moves st xs)
gone_after numbers st [] o g = g
gone_after numbers st (x ∷ xs) o g = gone_after numbers (after_move st x) xs o.1 (gone_step numbers st x o.0 g)

-- the clients' numbers stay within a count
abbrev pub AreWithin : ℕ → List Stream → Type 0
AreWithin k streams = AllByRecursion (λ (s : Stream). s.client ≤ k) streams

within_opened : (k : ℕ) (numbers : List ℕ) (x : Move) (streams : List Stream) →
    ((n : ℕ) → is_among n numbers ≡ true → n ≤ k) → OpensPresent numbers x → AreWithin k streams →
    AreWithin k (with_opened x streams)
within_opened k numbers (opened new) streams f o h =
    chosen (AreWithin k) (has_stream new.client streams) streams (inserted (as_opened new) streams)
    h (all-inserted (λ (s : Stream). s.client ≤ k) (as_opened new) streams (f new.client o) h)
within_opened k numbers _ streams f o h = h

pub within_after : (k : ℕ) (numbers : List ℕ) → ((n : ℕ) → is_among n numbers ≡ true → n ≤ k) → (st : Stage)
    (xs : List Move) → OpenPresent numbers xs → AreWithin k st.streams → AreWithin k (after_moves st xs).streams
within_after k numbers f st [] o h = h
within_after k numbers f st (x ∷ xs) o h =
    within_after k numbers f (after_move st x) xs o.1
    (within_opened k numbers x (map (stream_after x) st.streams) f o.0
    (all-map (λ (s : Stream). s.client ≤ k) (λ (s : Stream). s.client ≤ k) (stream_after x)
    (λ s l. subst (λ n. n ≤ k) (sym (after_client x s)) l) st.streams h))

-- ---- the present part goes through moves

-- a period's moves open nothing
opens_none : (numbers : List ℕ) → OfSubSteps (OpensPresent numbers)
opens_none numbers =
    record { picks = λ n k. tt; retires = λ n. tt; feeds = λ n fs. tt; closes = λ n. tt; finish = λ m b. tt }

pub sub_steps_open_none : (numbers : List ℕ) (m : Mixing) (whole : Bool) (st : Stage) →
    OpenPresent numbers (sub_steps m whole st)
sub_steps_open_none numbers m whole st = sub_steps_all (OpensPresent numbers) (opens_none numbers) m whole tt st

pub captures_open_none : (numbers : List ℕ) (number : ℕ) (frames : List Frame) (st : Stage) →
    OpenPresent numbers (captures number frames st)
captures_open_none numbers number frames st =
    captures_all (OpensPresent numbers) (opens_none numbers) number frames tt st

module _ (laws : PresentLaws) where
  pub present_after : (numbers : List ℕ) (ms xs : List Move) → OpenPresent numbers xs →
      after_moves (present numbers (stage_of ms)) xs ≡ present numbers (stage_of (ms ++ xs))
  present_after numbers ms xs o = sym (laws.goes_on numbers ms xs o)

  -- and so does the tally
  pub tally_present : (numbers : List ℕ) (ms xs : List Move) (t : Tally) → OpenPresent numbers xs →
      AreGone numbers (stage_of ms) →
      tally_after t (present numbers (stage_of ms)) xs ≡ tally_after t (stage_of ms) xs
  tally_present numbers ms [] t o g = refl
  tally_present numbers ms (x ∷ xs) t o g =
      let one : stage_of (ms ++ x ∷ []) ≡ after_move (stage_of ms) x = after_moves-append empty_stage ms (x ∷ []) in
      ap (λ u. tally_after u (after_move (present numbers (stage_of ms)) x) xs)
      ((laws.is_whole numbers ms g).tallies x t)
      ∙ ap (λ st. tally_after (tally_by (stage_of ms) x t) st xs) (present_after numbers ms (x ∷ []) (o.0, tt))
      ∙ tally_present numbers (ms ++ x ∷ []) xs (tally_by (stage_of ms) x t) o.1
      (subst (AreGone numbers) (sym one) (gone_after numbers (stage_of ms) (x ∷ []) (o.0, tt) g))
      ∙ ap (λ st. tally_after (tally_by (stage_of ms) x t) st xs) one

  -- what a period picks
  picks_present : (numbers : List ℕ) (ms : List Move) (m : Mixing) → AreGone numbers (stage_of ms) →
      picks m (present numbers (stage_of ms)) ≡ picks m (stage_of ms)
  picks_present numbers ms m g =
      ap (map (λ s. of_client s.client (picked m.frames))) ((laws.is_whole numbers ms g).playing m.endpoint)

  -- and the bytes of its Sound
  pub sound_present : (numbers : List ℕ) (ms : List Move) (m : Mixing) → AreGone numbers (stage_of ms) →
      sound_bytes m (after_moves (present numbers (stage_of ms)) (picks m (present numbers (stage_of ms)))).streams
      ≡ sound_bytes m (after_moves (stage_of ms) (picks m (stage_of ms))).streams
  sound_present numbers ms m g =
      let ps : List Move = picks m (stage_of ms) in
      let none : OpenPresent numbers ps =
      picks_all (OpensPresent numbers) (opens_none numbers) m (stage_of ms) in
      let along : stage_of (ms ++ ps) ≡ after_moves (stage_of ms) ps = after_moves-append empty_stage ms ps in
      ap (λ xs. sound_bytes m (after_moves (present numbers (stage_of ms)) xs).streams) (picks_present numbers ms m g)
      ∙ ap (λ (st : Stage). sound_bytes m st.streams) (present_after numbers ms ps none)
      ∙ ap (flat_map frame_bytes)
      ((laws.is_whole numbers (ms ++ ps)
      (subst (AreGone numbers) (sym along) (gone_after numbers (stage_of ms) ps none g))).mixes m)
      ∙ ap (λ (st : Stage). sound_bytes m st.streams) along
