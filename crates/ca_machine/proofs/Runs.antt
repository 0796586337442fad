-- Runs of the machine: they append, and they uphold the headline, as each of their events does.
use Rattle.std.proofs.Common.{◌≡◌, ℕ, List, [], ◌∷◌, ◌++◌, refl, sym, ap, ap₂, ◌∙◌, subst, append_assoc}
use Rattle.ca_stage.specs.Stage.{empty_stage, Stage}
use Rattle.ca_stage.specs.Moves.{Move, after_moves}
use Rattle.ca_stage.specs.Fates.{all_released}
use Rattle.ca_stage.proofs.Silence.{released-append}
use Rattle.ca_stage.proofs.Stages.{after_moves-append}
use Rattle.ca_machine.specs.State.{State}
use Rattle.ca_machine.specs.Plan.{Outcome}
use Rattle.ca_machine.specs.Step.{Entry, Steps, IsRun, moves_of, step}
use Rattle.ca_machine.specs.Headline.{RunsGoOn, handed_in, all_handed, EachMixes, MixesBy, RecordsBy, sounds_made}
use Rattle.ca_machine.specs.Headline.{AreTaken, EachPlays}
use Rattle.ca_machine.proofs.PresentStage.{PresentLaws, stage_of}
use Rattle.ca_machine.proofs.StateInOrder.{IsInOrder}
use Rattle.ca_machine.proofs.Outcomes.{Upholds}
use Rattle.ca_machine.proofs.Events.{upholds_event}

-- runs append
pub runs_go_on : RunsGoOn
runs_go_on st mid new [] ys h k = subst (λ s. IsRun s ys new) h k
runs_go_on st mid new (x ∷ xs) ys h k = (h.0, h.1, runs_go_on h.0 mid new xs ys h.2 k)

pub moves-append : (xs ys : List Entry) → moves_of (xs ++ ys) ≡ moves_of xs ++ moves_of ys
moves-append [] ys = refl
moves-append (x ∷ xs) ys =
    ap (λ ms. x.moves ++ ms) (moves-append xs ys) ∙ sym (append_assoc x.moves (moves_of xs) (moves_of ys))

-- an entry after these moves upholds the headline
record UpholdsStep (ms : List Move) (st : State) (entry : Entry) (new : State) : Type 0 where
  order : IsInOrder (ms ++ entry.moves) new
  mixes : MixesBy st entry.moves
  records : RecordsBy st entry.answers entry.moves
  plays : AreTaken (sounds_made (stage_of ms) entry.moves) entry.output
  hands : (n : ℕ) → all_released n (stage_of ms) entry.moves ≡ handed_in n (stage_of ms) entry.event entry.result

upholds_step : PresentLaws → (ms : List Move) (st new : State) (entry : Entry) → IsInOrder ms st → Steps st entry new →
    UpholdsStep ms st entry new
upholds_step laws ms st new entry h s =
    let o : Outcome = step st entry.event entry.answers in
    let f : Upholds ms st entry.event entry.answers o =
    upholds_event laws ms st h entry.event entry.answers s.answers in
    record {
      order =
          subst (λ (t : State). IsInOrder (ms ++ entry.moves) t) (sym s.after)
          (subst (λ xs. IsInOrder (ms ++ xs) o.after) (sym s.moves) f.order);
      mixes = subst (MixesBy st) (sym s.moves) f.mixes;
      records = subst (RecordsBy st entry.answers) (sym s.moves) f.records;
      plays =
          subst (λ xs. AreTaken (sounds_made (stage_of ms) xs) entry.output) (sym s.moves)
          (subst (AreTaken (sounds_made (stage_of ms) o.moves)) (sym s.output) f.plays);
      hands = λ n.
          ap (all_released n (stage_of ms)) s.moves ∙ f.hands n
          ∙ ap (handed_in n (stage_of ms) entry.event) (sym s.result);
    }

-- and so is a run
pub record UpholdsRun (ms : List Move) (st : State) (entries : List Entry) (new : State) : Type 0 where
  pub order : IsInOrder (ms ++ moves_of entries) new
  pub mixes : EachMixes st entries new
  pub plays : EachPlays (stage_of ms) entries
  pub hands : (n : ℕ) → all_released n (stage_of ms) (moves_of entries) ≡ all_handed n (stage_of ms) entries

pub upholds_run : PresentLaws → (ms : List Move) (st new : State) (entries : List Entry) → IsInOrder ms st →
    IsRun st entries new → UpholdsRun ms st entries new
upholds_run laws ms st new [] h r = record {
  order =
      subst (λ (t : State). IsInOrder (ms ++ []) t) (sym r)
      (subst (λ xs. IsInOrder xs st) (sym (Rattle.std.proofs.Common.append-nil ms)) h);
  mixes = r;
  plays = tt;
  hands = λ n. refl;
}
upholds_run laws ms st new (entry ∷ entries) h r =
    let f : UpholdsStep ms st entry r.0 = upholds_step laws ms st r.0 entry h r.1 in
    let g : UpholdsRun (ms ++ entry.moves) r.0 entries new =
    upholds_run laws (ms ++ entry.moves) r.0 new entries f.order r.2 in
    let along : stage_of (ms ++ entry.moves) ≡ after_moves (stage_of ms) entry.moves =
    after_moves-append empty_stage ms entry.moves in
    record {
      order = subst (λ xs. IsInOrder xs new) (append_assoc ms entry.moves (moves_of entries)) g.order;
      mixes = (r.0, r.1, f.mixes, f.records, g.mixes);
      plays = (f.plays, subst (λ (s : Stage). EachPlays s entries) along g.plays);
      hands = λ n.
          released-append n (stage_of ms) entry.moves (moves_of entries)
          ∙ ap₂ (λ a b. a ++ b) (f.hands n)
          (subst (λ (s : Stage). all_released n s (moves_of entries) ≡ all_handed n s entries) along (g.hands n));
    }
