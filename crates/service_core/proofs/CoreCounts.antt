-- From the step of the machine on the state of both ends to the tally that goes with it.
use Rattle.std.proofs.Common.{◌≡◌, ℕ, ◌-◌, ◌++◌, ◌&&◌, List, [], ◌∷◌, length, Bool, true, false, Option, Ok, refl, sym}
use Rattle.std.proofs.Common.{ap}
use Rattle.std.proofs.Common.{subst, ◌∙◌, sum_by, if◌then◌else◌}
use Rattle.std.specs.Int.{w32, to_le_bytes}
use Rattle.std.proofs.lemmas.List.{length-map}
use Rattle.device_io.specs.DeviceLog.{DeviceLog}
use Rattle.wave_format.specs.Frame.{frame_of}
use Rattle.ca_base.specs.declared.codes.Hr.{Hr}
use Rattle.buffer_ring.specs.declared.step.EndState.{EndState}
use Rattle.buffer_ring.specs.Kept.{Kept, state_of}
use Rattle.ca_stage.specs.Stage.{is_open_gate, is_render}
use Rattle.client_state.specs.Frames.{frames_in}
use Rattle.ca_stage.specs.Tally.{Tally}
use Rattle.ca_machine.specs.State.{State}
use Rattle.ca_machine.specs.Plan.{Answer, Plan, outcome_of}
use Rattle.ca_machine.specs.View.{AnswersBy, outside}
use Rattle.period_engine.specs.declared.entry.StreamEntry.{StreamEntry}
use Rattle.period_engine.specs.Entries.{AreInOrder}
use Rattle.reply_payload.specs.declared.payload.Payload.TheVariants as payload_is
use Rattle.service_board.specs.declared.board.Board.{Board}
use Rattle.service_core.specs.Core.{Goes, GoesTo, LooksAround, core_state, words_in}
use Rattle.service_core.specs.Counting.{after_taking, more_dropped, more_reset}
use Rattle.service_core.specs.declared.both_ends.BothEnds.{BothEnds}
use Rattle.service_core.specs.declared.pending.Streams.TheVariants as streams
use Rattle.service_core.proofs.TallyFalls.{open_padding, open_pads}
use Rattle.service_core.proofs.TallyOutcomes.{WereDropped, WereReset, WereTaken}
use Rattle.service_core.proofs.TallyStays.{LeavesTally}
use Rattle.service_core.proofs.PendingWords.{around_state, sums}

-- the words of open streams are the frames that are pending in them
pub pending_is : {D F : Type 0} (kept : F → Kept) (b : Board D (BothEnds F)) (tally : Tally) →
    AreInOrder b.entries.items →
    sum_by (words_in kept streams.Open) b.entries.items ≡ open_padding (core_state kept tally b).stage
pending_is {F = F} kept b tally order =
    sums kept (words_in kept streams.Open) open_pads (λ e. each e (is_render e.kind) (is_open_gate e.gate))
    b.entries.items order
  where
    each : (e : StreamEntry (BothEnds F)) (plays opens : Bool) →
        (if plays && opens then length (kept e.store.store).words else 0)
        ≡ (if opens then length (if plays then frames_in e.channels (kept e.store.store).words else []) else 0)
    each e true true = sym (length-map (kept e.store.store).words (frame_of e.channels))
    each e true false = refl
    each e false true = refl
    each e false false = refl

module _ {D F : Type 0} (faults : D → ℕ) (told : D → Option (List DeviceLog)) (kept : F → Kept) (plan : State → Plan)
    (result : Hr) (payload : List ℕ) (before : Tally) (old new : Board D (BothEnds F))
    (goes : Goes faults told kept plan result payload before old new) where
  abbrev st : State
  st = core_state kept before old

  -- by how much fewer frames are pending in open streams
  abbrev pub taken : ℕ
  taken = open_padding (core_state kept before old).stage - open_padding (core_state kept before new).stage

  pub goes_by : (after : Tally) → goes.tally ≡ after → GoesTo faults told kept plan result payload before after old new
  goes_by after is = subst (λ t. GoesTo faults told kept plan result payload before t old new) is goes.answers

  pub goes_still : ((s : State) → LeavesTally s (plan s)) →
      GoesTo faults told kept plan result payload before before old new
  goes_still leaves =
      goes_by before (ap (λ s. s.tally) goes.answers.after_is ∙ (leaves st).leaves goes.answers.given)

  pub goes_reset : ((given : List Answer) → WereReset st (outcome_of st (plan st) given).after) →
      GoesTo faults told kept plan result payload before (more_reset taken before) old new
  goes_reset were =
      goes_by (more_reset taken before) (subst (WereReset st) (sym goes.answers.after_is) (were goes.answers.given))

  pub goes_dropped : ((given : List Answer) → WereDropped st (outcome_of st (plan st) given).after) →
      GoesTo faults told kept plan result payload before (more_dropped taken before) old new
  goes_dropped were =
      goes_by (more_dropped taken before) (subst (WereDropped st) (sym goes.answers.after_is) (were goes.answers.given))

-- looks before and after an event are no part of it
pub goes_around : {D F : Type 0} (faults : D → ℕ) (told : D → Option (List DeviceLog)) (kept : F → Kept)
    (state : F → EndState) (whole : (x : F) → state_of (kept x) ≡ state x) (plan : State → Plan) (result : Hr)
    (payload : List ℕ) (before after : Tally) (first old new last : Board D (BothEnds F)) → LooksAround kept first old →
    LooksAround kept new last → GoesTo faults told kept plan result payload before after old new →
    GoesTo faults told kept plan result payload before after first last
goes_around faults told kept state whole plan result payload before after first old new last enters leaves goes =
    subst (λ d. AnswersBy (core_state kept before first) (plan (core_state kept before first)) result payload
    (core_state kept after last) (outside faults told first.devices) (outside faults told d))
    (sym (ap (λ b. b.devices) leaves.same))
    (subst (λ d. AnswersBy (core_state kept before first) (plan (core_state kept before first)) result payload
    (core_state kept after last) (outside faults told d) (outside faults told new.devices))
    (ap (λ b. b.devices) enters.same)
    (subst (λ s. AnswersBy s (plan s) result payload (core_state kept after last) (outside faults told old.devices)
    (outside faults told new.devices)) (around_state kept state whole first old enters before)
    (subst (λ s. AnswersBy (core_state kept before old) (plan (core_state kept before old)) result payload s
    (outside faults told old.devices) (outside faults told new.devices))
    (sym (around_state kept state whole new last leaves after)) goes)))

module _ {D F : Type 0} (faults : D → ℕ) (told : D → Option (List DeviceLog)) (kept : F → Kept) (plan : State → Plan)
    (result : Hr) (payload : List ℕ) (before : Tally) (old new : Board D (BothEnds F))
    (goes : Goes faults told kept plan result payload before old new) where
  -- an answer without bytes, where such an answer leaves the tally
  pub goes_nothing :
      ((given : List Answer) →
      [] ≡ (outcome_of (core_state kept before old) (plan (core_state kept before old)) given).payload →
      (outcome_of (core_state kept before old) (plan (core_state kept before old)) given).after.tally ≡ before) →
      [] ≡ payload → GoesTo faults told kept plan result payload before before old new
  goes_nothing stays none =
      goes_by faults told kept plan result payload before old new goes before
      (ap (λ s. s.tally) goes.answers.after_is ∙ stays goes.answers.given (none ∙ goes.answers.payload_is))

  -- a period's answer says what was taken
  pub goes_taking : (frames : ℕ) (failed : Bool) →
      ((given : List Answer) →
      to_le_bytes w32 frames ++ (if failed then 1 else 0) ∷ []
      ≡ (outcome_of (core_state kept before old) (plan (core_state kept before old)) given).payload →
      WereTaken failed (core_state kept before old)
      (outcome_of (core_state kept before old) (plan (core_state kept before old)) given).after) →
      to_le_bytes w32 frames ++ (if failed then 1 else 0) ∷ [] ≡ payload →
      GoesTo faults told kept plan result payload before
      (after_taking (Ok (payload_is.Period frames failed))
      (taken faults told kept plan result payload before old new goes)
      before) old new
  goes_taking frames failed were is =
      goes_by faults told kept plan result payload before old new goes _
      (by failed (subst (WereTaken failed (core_state kept before old)) (sym goes.answers.after_is)
      (were goes.answers.given (is ∙ goes.answers.payload_is))))
    where
      by : (failed : Bool) →
          WereTaken failed (core_state kept before old) (core_state kept goes.tally new) →
          goes.tally ≡ after_taking (Ok (payload_is.Period frames failed))
          (taken faults told kept plan result payload before old new goes) before
      by true h = h
      by false h = h
