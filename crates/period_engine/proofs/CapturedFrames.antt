-- A period of an endpoint that captures, by what its device gave.
use Rattle.std.proofs.Common.{◌≡◌, ◌≢◌, ℕ, true, false, List, [], ◌∷◌, refl, sym, subst, ◌∙◌, arith}
use Rattle.std.specs.Prelude.{◌==◌, flat_map, Option, Result, Ok, Err, IsErr}
use Rattle.std.specs.List.{AllZip}
use Rattle.std.proofs.lemmas.Bool.Decides.{nat_tests}
use Rattle.ca_base.specs.declared.environment.Failed.{Failed}
use Rattle.device_io.specs.DeviceLog.{DeviceLog}
use Rattle.wave_format.specs.Frame.{frames_from}
use Rattle.ca_stage.specs.Given.{frames_given, whole_frames}
use Rattle.ca_stage.specs.Stage.{Frame, Stream}
use Rattle.ca_stage.specs.Periods.{fed_if, is_recording}
use Rattle.buffer_ring.specs.declared.step.StoreStep.{StoreStep}
use Rattle.period_engine.specs.declared.entry.StreamEntry.{StreamEntry}
use Rattle.period_engine.specs.SubSteps.{Turned}
use Rattle.period_engine.specs.Feeds.{Captures, GivesFrames, feeds_given}
use Rattle.period_engine.proofs.Turns.{unmoved}

no_frames : (k : ℕ) → k ≡ 0 → (k == 0) ≡ true
no_frames k is = grind (arith, nat_tests)

some_frames : (k : ℕ) → k ≢ 0 → (k == 0) ≡ false
some_frames k other = grind (arith, nat_tests)

module _ {E : Type 0} (moves : E → List StoreStep → E → Type 0) (none : (e : E) → moves e [] e) where
  -- entries whose streams stay as they are
  all_unmoved : (f : Stream → Stream) → ((s : Stream) → f s ≡ s) → (xs : List (StreamEntry E))
      → AllZip (Turned moves f) xs xs
  all_unmoved f stays [] = tt
  all_unmoved f stays (x ∷ xs) = (unmoved moves f x none (λ d. stays _), all_unmoved f stays xs)

  module _ (number p channels : ℕ) (xs : List (StreamEntry E)) (bytes : List ℕ) (faults : ℕ)
      (told : Option (List DeviceLog)) (faults' : ℕ) (told' : Option (List DeviceLog)) where
    -- the device failed
    pub captures_failed : (result : Result ℕ Failed) (e : Failed) → IsErr result
        → GivesFrames number p channels (Err e) bytes faults told faults' told'
        → Captures moves number p channels result xs xs faults told faults' told'
    captures_failed (Ok n) e failed gave = absurd (cc)
    captures_failed (Err f) e failed gave = record {
      pieces = gave.pieces;
      given = gave.given;
      tells = gave.tells;
      rises = gave.rises;
      turned = all_unmoved (feeds_given number p channels (flat_map (λ piece. piece) gave.pieces) false) (λ s. refl)
          xs;
      frames_are = tt;
    }

    -- not one whole frame came
    pub captures_none : (whole : ℕ) → whole ≡ 0
        → GivesFrames number p channels (Ok whole) bytes faults told faults' told'
        → Captures moves number p channels (Ok 0) xs xs faults told faults' told'
    captures_none whole is gave =
        let given = flat_map (λ piece. piece) gave.pieces in
        let test = no_frames (whole_frames channels given) (sym gave.whole ∙ is) in
        record {
          pieces = gave.pieces;
          given = gave.given;
          tells = gave.tells;
          rises = gave.rises;
          turned = all_unmoved (feeds_given number p channels given true) (λ s. rw test refl) xs;
          frames_are = rw test refl;
        }

    -- frames came, and were offered
    pub captures_frames : (whole : ℕ) (ys : List (StreamEntry E)) → whole ≢ 0
        → GivesFrames number p channels (Ok whole) bytes faults told faults' told'
        → AllZip (Turned moves (fed_if (is_recording number) (frames_from p channels bytes))) xs ys
        → Captures moves number p channels (Ok p) xs ys faults told faults' told'
    captures_frames whole ys other gave turned =
        let given = flat_map (λ piece. piece) gave.pieces in
        let test = some_frames (whole_frames channels given) (λ none. other (gave.whole ∙ none)) in
        let frames : List Frame = frames_given p channels given in
        let same : (s : Stream) → fed_if (is_recording number) frames s ≡ feeds_given number p channels given true s =
        λ s. rw test refl in
        record {
          pieces = gave.pieces;
          given = gave.given;
          tells = gave.tells;
          rises = gave.rises;
          turned = subst (λ f. AllZip (Turned moves f) xs ys) (λ i s. same s i)
              (subst (λ fs. AllZip (Turned moves (fed_if (is_recording number) fs)) xs ys) gave.frames_are turned);
          frames_are = rw test refl;
        }
