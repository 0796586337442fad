-- Entries that were turned stay in their places; and a close of nothing turns none.
use Rattle.std.proofs.Common.{◌≡◌, ℕ, suc, List, [], ◌∷◌, length, false, Option, refl, ap}
use Rattle.std.specs.Global.{Vec}
use Rattle.std.specs.List.{All, AllZip}
use Rattle.ca_base.specs.declared.ids.Reason.{Reason}
use Rattle.buffer_ring.specs.declared.step.EndState.{EndState}
use Rattle.buffer_ring.specs.declared.step.StoreStep.{StoreStep}
use Rattle.ca_stage.specs.Stage.{Stream}
use Rattle.period_engine.specs.declared.entry.StreamEntry.{StreamEntry}
use Rattle.period_engine.specs.Entries.{IsRested}
use Rattle.period_engine.specs.SubSteps.{Turned}
use Rattle.period_engine.proofs.Turns.{unmoved}
use Rattle.stream_entries.specs.Closing.{Disconnects, closes_if}

module _ {E : Type 0} (moves : E → List StoreStep → E → Type 0) where
  pub length_turned : (f : Stream → Stream) (xs ys : List (StreamEntry E)) → AllZip (Turned moves f) xs ys →
      length ys ≡ length xs
  length_turned f [] [] h = refl
  length_turned f (x ∷ xs) (y ∷ ys) h = ap (λ n. suc n) (length_turned f xs ys h.1)
  length_turned f [] (y ∷ ys) h = absurd h
  length_turned f (x ∷ xs) [] h = absurd h

-- nothing is closed
pub none_lost : {E : Type 0} (moves : E → List StoreStep → E → Type 0) (stays : (a : E) → moves a [] a)
    (state : E → EndState) (reason : Reason) (scope : Option ℕ) (entries : Vec (StreamEntry E)) →
    All (IsRested state) entries.items → Disconnects moves state false reason scope entries entries
none_lost {E} moves stays state reason scope entries rested =
    record { turned = each entries.items; rested = rested; room = refl }
  where
    same : (a : StreamEntry E) → Turned moves (closes_if false reason scope) a a
    same a = unmoved moves (closes_if false reason scope) a stays (λ d. refl)

    each : (xs : List (StreamEntry E)) → AllZip (Turned moves (closes_if false reason scope)) xs xs
    each [] = tt
    each (x ∷ xs) = (same x, each xs)
