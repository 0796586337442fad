-- A way through woven moves: what each kind of move carries on, a woven list carries through.
use Rattle.std.proofs.Common.{◌≡◌, List, [], ◌∷◌, filter, Bool, true, false, refl, sym, subst}
use Rattle.std.proofs.lemmas.Bool.{true≢false}
use Rattle.std.specs.Bool.{MatchBool}
use Rattle.std.specs.List.{AllByRecursion}
use Rattle.ca_base.specs.declared.ids.Reason.TheVariants.{Removal}
use Rattle.ca_stage.specs.Stage.{Stream, Stage}
use Rattle.ca_stage.specs.Moves.{StreamMove, leased, released, read, started, stopped, reset, closed, picked, retired}
use Rattle.ca_stage.specs.Moves.{fed, Move, of_client, sounded, finished, captured, moved, is_open_of, stream_after}
use Rattle.ca_stage.specs.Moves.{after_move}
use Rattle.ca_stage.specs.Periods.{is_recording}
use Rattle.ca_stage.specs.Woven.{IsPeriod, is_period_move, is_data, is_sub_step, due_after, due_of, IsWoven}
use Rattle.ca_stage.specs.Order.{IsStage, Rests}
use Rattle.ca_stage.proofs.Lists.{chosen}
use Rattle.ca_stage.proofs.Streams.{all_step}
use Rattle.ca_stage.proofs.Clients.{rising_distinct}
use Rattle.ca_stage.proofs.StageHolds.{stage_step}
use Rattle.ca_stage.proofs.Phases.{Phase, idle, picking, retiring, feeding, recording, closing, picks_left, hears_left}
use Rattle.ca_stage.proofs.Phases.{retires_left, closes_left, phase_data, phase_begins}
use Rattle.ca_stage.proofs.SubSteps.{SubStep, phase_next}

-- each kind of move carries F from what follows it to before it
pub record Carries (F : Stage → List Move → List Move → Type 0) : Type 0 where
  pub ends : (st : Stage) → F st [] []
  pub outside : (st : Stage) (x : Move) (xs : List Move) → is_sub_step x ≡ false →
      F (after_move st x) (due_of st x) xs → F st [] (x ∷ xs)
  pub data_call : (st : Stage) (x next : Move) (due xs : List Move) → IsStage st → is_data x ≡ true →
      F (after_move st x) (next ∷ due) xs → F st (next ∷ due) (x ∷ xs)
  pub sub_step : (st : Stage) (x : Move) (due xs : List Move) → IsStage st → SubStep st x due →
      F (after_move st x) (due_after st x due) xs → F st (x ∷ due) (x ∷ xs)
  pub begins : (st : Stage) (x : Move) (due xs : List Move) → IsPeriod st (x ∷ due) →
      F st (x ∷ due) (x ∷ xs) → F st [] (x ∷ xs)

-- between periods nothing is picked
moved_outside : (m : StreamMove) (s : Stream) → is_period_move m ≡ false → Rests s → Rests (moved m s)
moved_outside (picked n) s e z = absurd (true≢false e)
moved_outside retired s e z = refl
moved_outside (fed frames) s e z = z
moved_outside reset s e z = refl
moved_outside (closed reason) s e z = refl
moved_outside (leased n) s e z = z
moved_outside (released frames) s e z = z
moved_outside (read n) s e z = z
moved_outside started s e z = z
moved_outside stopped s e z = z

rests_outside : (x : Move) (s : Stream) → is_sub_step x ≡ false → Rests s → Rests (stream_after x s)
rests_outside (of_client client m) s e z = chosen Rests (is_open_of client s) (moved m s) s (moved_outside m s e z) z
rests_outside _ s e z = z

pub rests_after : (st : Stage) (x : Move) → is_sub_step x ≡ false →
    AllByRecursion Rests st.streams → AllByRecursion Rests (after_move st x).streams
rests_after st x e z = all_step Rests Rests st x (λ s k. rests_outside x s e k) (λ new. refl) z

-- and after a move that is no sub-step nothing is due, or the feeds of those that record
pub phase_outside : (st : Stage) (x : Move) → is_sub_step x ≡ false → AllByRecursion Rests st.streams →
    Phase (after_move st x) (due_of st x)
phase_outside st (captured number frames) e z =
    recording frames (filter (is_recording number) st.streams)
    (record { due_is = refl; rests = rests_after st (captured number frames) e z })
phase_outside st x e z = idle (record { due_is = refl; rests = rests_after st x e z })

pub phase_rests : (st : Stage) → Phase st [] → AllByRecursion Rests st.streams
phase_rests st (idle k) = k.rests
phase_rests st (feeding m e frames left k) = k.rests
phase_rests st (recording frames left k) = k.rests
phase_rests st (picking m e whole [] k) = let h : [] ≡ sounded m whole ∷ [] = k.due_is in absurd cc
phase_rests st (picking m e whole (t ∷ left) k) =
    let h : [] ≡ of_client t.client (picked m.frames) ∷ picks_left m whole left = k.due_is in absurd cc
phase_rests st (retiring m e frames [] [] k) = let h : [] ≡ finished m true ∷ [] = k.due_is in absurd cc
phase_rests st (retiring m e frames (t ∷ hearing) [] k) =
    let h : [] ≡ of_client t.client (fed frames) ∷ hears_left m frames hearing = k.due_is in absurd cc
phase_rests st (retiring m e frames hearing (t ∷ left) k) =
    let h : [] ≡ of_client t.client retired ∷ retires_left m frames hearing left = k.due_is in absurd cc
phase_rests st (closing m [] k) = let h : [] ≡ finished m false ∷ [] = k.due_is in absurd cc
phase_rests st (closing m (t ∷ left) k) =
    let h : [] ≡ of_client t.client (closed Removal) ∷ closes_left m left = k.due_is in absurd cc

-- one move of a woven list: what is due after it, in which phase the rest is woven, and what F carries on
pub record Steps (F : Stage → List Move → List Move → Type 0) (st : Stage) (due : List Move) (x : Move)
    (xs : List Move) : Type 0 where
  pub left : List Move
  pub phase : Phase (after_move st x) left
  pub woven : IsWoven (after_move st x) left xs
  pub carries : Carries F → F (after_move st x) left xs → F st due (x ∷ xs)

module _ (F : Stage → List Move → List Move → Type 0) where
  step_begins : (st : Stage) (x : Move) (xs : List Move) → AllByRecursion Rests st.streams → IsStage st →
      (b : Bool) → is_sub_step x ≡ b →
      MatchBool b ((due : List Move) × IsPeriod st (x ∷ due) × IsWoven (after_move st x) (due_after st x due) xs)
      (IsWoven (after_move st x) (due_of st x) xs) → Steps F st [] x xs
  step_begins st x xs z h true e w =
      let g = phase_next st x w.0 (phase_begins st (x ∷ w.0) (rising_distinct 0 _ h.rising) z w.1) in
      record {
        left = due_after st x w.0;
        phase = g.phase;
        woven = w.2;
        carries = λ c f. c.begins st x w.0 xs w.1 (c.sub_step st x w.0 xs h g.sub_step f);
      }
  step_begins st x xs z h false e w = record {
    left = due_of st x;
    phase = phase_outside st x e z;
    woven = w;
    carries = λ c f. c.outside st x xs e f;
  }

  step_continues : (st : Stage) (x next : Move) (due xs : List Move) → Phase st (next ∷ due) → IsStage st →
      (b : Bool) → is_data x ≡ b →
      MatchBool b (IsWoven (after_move st x) (next ∷ due) xs)
      ((x ≡ next) × IsWoven (after_move st x) (due_after st x due) xs) → Steps F st (next ∷ due) x xs
  step_continues st x next due xs p h true e w = record {
    left = next ∷ due;
    phase = phase_data st x (next ∷ due) e p;
    woven = w;
    carries = λ c f. c.data_call st x next due xs h e f;
  }
  step_continues st x next due xs p h false e w =
      let g = phase_next st x due (subst (λ y. Phase st (y ∷ due)) (sym w.0) p) in
      record {
        left = due_after st x due;
        phase = g.phase;
        woven = w.1;
        carries = λ c f. subst (λ y. F st (y ∷ due) (x ∷ xs)) w.0 (c.sub_step st x due xs h g.sub_step f);
      }

  pub steps : (st : Stage) (due : List Move) (x : Move) (xs : List Move) → Phase st due → IsStage st →
      IsWoven st due (x ∷ xs) → Steps F st due x xs
  steps st [] x xs p h w = step_begins st x xs (phase_rests st p) h (is_sub_step x) refl w
  steps st (next ∷ due) x xs p h w = step_continues st x next due xs p h (is_data x) refl w

  pub walk : Carries F → (st : Stage) (due xs : List Move) → Phase st due → IsStage st → IsWoven st due xs → F st due xs
  walk c st [] [] p h w = c.ends st
  walk c st (next ∷ due) [] p h w = absurd w
  walk c st [] (x ∷ xs) p h w =
      let s = steps st [] x xs p h w in
      s.carries c (walk c (after_move st x) s.left xs s.phase (stage_step st x h) s.woven)
  walk c st (next ∷ due) (x ∷ xs) p h w =
      let s = steps st (next ∷ due) x xs p h w in
      s.carries c (walk c (after_move st x) s.left xs s.phase (stage_step st x h) s.woven)

-- a moment of a woven list: what is due there, and in which phase the rest is woven
pub record Moment (st : Stage) (rest : List Move) : Type 0 where
  pub due : List Move
  pub phase : Phase st due
  pub woven : IsWoven st due rest
