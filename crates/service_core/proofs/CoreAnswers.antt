-- What a handler does on the board of a service is what the service answers.
use Rattle.std.proofs.Common.{◌≡◌, ℕ, ◌≤◌, List, Option, None, subst}
use Rattle.ca_base.specs.declared.limits.TheConstants.{MAX_TALLY}
use Rattle.device_io.specs.DeviceLog.{DeviceLog}
use Rattle.ca_base.specs.declared.codes.Hr.{Hr}
use Rattle.buffer_ring.specs.declared.step.EndState.{EndState}
use Rattle.buffer_ring.specs.declared.step.StoreStep.{StoreStep}
use Rattle.buffer_ring.specs.Kept.{Kept, RunsSteps}
use Rattle.ca_stage.specs.Stage.{BufferData}
use Rattle.ca_stage.specs.Tally.{Tally, no_tally}
use Rattle.ca_machine.specs.State.{State}
use Rattle.ca_machine.specs.Plan.{Plan}
use Rattle.ca_machine.specs.View.{MachineView}
use Rattle.service_board.specs.Does.{Does}
use Rattle.service_board.specs.InOrder.{InOrder}
use Rattle.service_board.specs.declared.board.Board.{Board}
use Rattle.service_core.specs.BothEnds.{MovesStore}
use Rattle.service_core.specs.Core.{Goes, GoesTo, core_datas}
use Rattle.service_core.specs.Counting.{HasCounts}
use Rattle.service_core.specs.Service.{AnswersPlan, IsCore, core_view, tally_of}
use Rattle.service_core.specs.declared.both_ends.BothEnds.{BothEnds}
use Rattle.service_core.specs.declared.tally.Tally.{Tally as Counts}
use Rattle.service_core.proofs.CoreSteps.{core_goes, core_sides}
use Rattle.service_core.proofs.CoreCounts.{goes_still}
use Rattle.service_core.proofs.PlansFall.{Keeps}
use Rattle.service_core.proofs.TallyStays.{LeavesTally}

-- the views of a service, before and after
pub answers_viewed : {D F : Type 0} (faults : D → ℕ) (told : D → Option (List DeviceLog)) (kept : F → Kept)
    (plan : State → Plan) (result : Hr) (payload : List ℕ) (old new : Board D (BothEnds F)) (before after : Counts)
    (view : MachineView D) → core_view kept old before ≡ view →
    GoesTo faults told kept plan result payload (tally_of before) (tally_of after) old new →
    AnswersPlan faults told plan result payload view (core_view kept new after)
answers_viewed faults told kept plan result payload old new before after view is goes =
    subst (λ v. AnswersPlan faults told plan result payload v (core_view kept new after)) is goes

pub answers_unchanged : {D F : Type 0} (faults : D → ℕ) (told : D → Option (List DeviceLog)) (kept : F → Kept)
    (plan : State → Plan) (result : Hr) (payload : List ℕ) (b : Board D (BothEnds F)) (counts : Counts)
    (view : MachineView D) → core_view kept b counts ≡ view →
    GoesTo faults told kept plan result payload (tally_of counts) (tally_of counts) b b →
    AnswersPlan faults told plan result payload view view
answers_unchanged faults told kept plan result payload b counts view is goes =
    subst (λ v. AnswersPlan faults told plan result payload v v) is goes

module _ {D F : Type 0} (faults : D → ℕ) (told : D → Option (List DeviceLog)) (kept : F → Kept) (state : F → EndState)
    (moves : F → List StoreStep → F → Type 0)
    (exact : (a b : F) (ss : List StoreStep) → moves a ss b → RunsSteps (kept a) ss (kept b))
    (old new : Board D (BothEnds F)) (core : IsCore state kept old)
    (new_order : InOrder (λ ends. state ends.store) new) (plan : State → Plan) (result : Hr) (payload : List ℕ)
    (keeps : (st : State) → Keeps st (plan st)) where
  -- of a handler to which no store is given
  module _ (known : (ℕ → BufferData) → Type 0)
      (does : Does faults told (MovesStore moves) None known old new plan result payload)
      (knows : known (core_datas kept old.entries.items)) where
    pub board_goes : (before : Tally) → Goes faults told kept plan result payload before old new
    board_goes before =
        core_goes faults told kept moves exact None known old new plan result payload before does core.order.order
        new_order.order keeps knows tt core.sides

    pub board_core : IsCore state kept new
    board_core = record {
      order = new_order;
      sides = core_sides faults told kept moves exact None known old new plan result payload no_tally
          does core.order.order new_order.order keeps knows tt core.sides (λ e was is_now given. cc);
    }

    pub board_still : ((st : State) → LeavesTally st (plan st)) → (before : Tally) →
        GoesTo faults told kept plan result payload before before old new
    board_still leaves before =
        goes_still faults told kept plan result payload before old new (board_goes before) leaves

-- counts of 128 bits are in range
pub counts_fit : (t : Counts) → (t.rendered ≤ MAX_TALLY) × (t.reset ≤ MAX_TALLY) × (t.dropped ≤ MAX_TALLY) →
    HasCounts (tally_of t)
counts_fit t fits = record { rendered = fits.0; reset = fits.1; dropped = fits.2 }
