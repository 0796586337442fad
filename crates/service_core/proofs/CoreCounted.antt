-- An event between two looks at all stores: what it took from open streams is what its plan counts.
use Rattle.std.proofs.Common.{◌≡◌, ℕ, ◌-◌, ◌++◌, ◌==◌, if◌then◌else◌, List, [], ◌∷◌, Bool, true, Option, None, Ok}
use Rattle.std.proofs.Common.{sym, ap, ap₂, subst, ◌∙◌, sum_by, eqb-true}
use Rattle.std.specs.Int.{w32, to_le_bytes}
use Rattle.std.proofs.lemmas.Bool.{true≢false}
use Rattle.device_io.specs.DeviceLog.{DeviceLog}
use Rattle.ca_base.specs.declared.codes.Hr.{Hr}
use Rattle.buffer_ring.specs.declared.step.EndState.{EndState}
use Rattle.buffer_ring.specs.declared.step.StoreStep.{StoreStep}
use Rattle.buffer_ring.specs.Kept.{Kept, RunsSteps, state_of}
use Rattle.ca_stage.specs.Stage.{BufferData}
use Rattle.ca_stage.specs.Order.{RisesFrom, clients, is_among}
use Rattle.ca_stage.specs.Present.{AreGone, IsGone}
use Rattle.ca_stage.specs.Tally.{Tally}
use Rattle.ca_stage.proofs.Lists.{all-map, found_passes, map_map}
use Rattle.ca_machine.specs.State.{State, live_clients}
use Rattle.ca_machine.specs.Plan.{Answer, Outcome, Plan, outcome_of}
use Rattle.ca_machine.proofs.LiveClients.{found_is_live}
use Rattle.period_engine.specs.declared.entry.StreamEntry.{StreamEntry}
use Rattle.period_engine.specs.Entries.{stream_of}
use Rattle.service_board.specs.Does.{Does}
use Rattle.service_board.specs.InOrder.{Belongs, InOrder}
use Rattle.reply_payload.specs.declared.payload.Payload.TheVariants as payloads
use Rattle.service_board.specs.declared.board.Board.{Board}
use Rattle.service_core.specs.BothEnds.{MovesStore}
use Rattle.service_core.specs.Core.{Goes, GoesTo, LooksAround, core_datas, core_state, words_in}
use Rattle.service_core.specs.Counting.{HasCounts, after_taking, more_dropped, more_reset}
use Rattle.service_core.specs.Service.{IsCore}
use Rattle.service_core.specs.declared.both_ends.BothEnds.{BothEnds}
use Rattle.service_core.specs.declared.pending.Streams.TheVariants as streams
use Rattle.service_core.proofs.CoreSteps.{each_of}
use Rattle.service_core.proofs.CoreAnswers.{board_core, board_goes}
use Rattle.service_core.proofs.CoreCounts.{goes_around, goes_dropped, goes_nothing, goes_reset, goes_taking, pending_is}
use Rattle.service_core.proofs.CoreCounts.{taken}
use Rattle.service_core.proofs.PlansFall.{Keeps}
use Rattle.service_core.proofs.PendingWords.{around_state}
use Rattle.service_core.proofs.TallyFalls.{open_padding}
use Rattle.service_core.proofs.TallyOutcomes.{WereDropped, WereReset, WereTaken}
use Rattle.service_core.proofs.WaitingFrames.{still_core}

-- the clients of the streams are those of the entries, and are live
module _ {D F : Type 0} (kept : F → Kept) (state : F → EndState) (b : Board D (BothEnds F)) (tally : Tally)
    (order : InOrder (λ ends. state ends.store) b) where
  rises : RisesFrom 0 (clients (core_state kept tally b).stage)
  rises =
      subst (RisesFrom 0)
      (sym (map_map (λ s. s.client) (stream_of (core_datas kept b.entries.items)) b.entries.items)) order.order

  gone : AreGone (live_clients b.book.clients.items) (core_state kept tally b).stage
  gone =
      all-map (Belongs b.book b.seats.items) (IsGone (live_clients b.book.clients.items))
      (stream_of (core_datas kept b.entries.items)) (λ e here out. absurd (true≢false (sym (lives e here) ∙ out)))
      b.entries.items (each_of (Belongs b.book b.seats.items) b.entries.items order.belong)
    where
      lives : (e : StreamEntry (BothEnds F)) → Belongs b.book b.seats.items e →
          is_among e.client.0 (live_clients b.book.clients.items) ≡ true
      lives e here =
          ap (λ n. is_among n (live_clients b.book.clients.items))
          (sym (eqb-true here.client.client.0 e.client.0
          (found_passes (λ c. c.client.0 == e.client.0) b.book.clients.items here.client here.live)))
          ∙ found_is_live (λ c. c.client.0 == e.client.0) b.book.clients.items here.client here.live

-- the board as it was, when the event came, after it, and after the second look
module _ {D F : Type 0} (faults : D → ℕ) (told : D → Option (List DeviceLog)) (kept : F → Kept) (state : F → EndState)
    (whole : (x : F) → state_of (kept x) ≡ state x) (moves : F → List StoreStep → F → Type 0)
    (exact : (a b : F) (ss : List StoreStep) → moves a ss b → RunsSteps (kept a) ss (kept b))
    (first old new last : Board D (BothEnds F)) (enters : LooksAround kept first old)
    (leaves : LooksAround kept new last) (core : IsCore state kept first)
    (new_order : InOrder (λ ends. state ends.store) new) (before more : ℕ)
    (counts : before ≡ sum_by (words_in kept streams.Open) first.entries.items)
    (is_more : more ≡ before - sum_by (words_in kept streams.Open) new.entries.items)
    (plan : State → Plan) (answer : Hr) (payload : List ℕ) where
  old_core : IsCore state kept old
  old_core = still_core kept state whole first old enters core

  -- what was counted is what the event took
  taken_is : (tally : Tally) (goes : Goes faults told kept plan answer payload tally old new) →
      taken faults told kept plan answer payload tally old new goes ≡ more
  taken_is tally goes =
      ap₂ (λ a b. a - b)
      (sym (ap (λ s. open_padding s.stage) (sym (around_state kept state whole first old enters tally)))
      ∙ sym (pending_is kept first tally core.order.order) ∙ sym counts)
      (sym (pending_is kept new tally new_order.order))
      ∙ sym is_more

  around : (tally tally' : Tally) → GoesTo faults told kept plan answer payload tally tally' old new →
      GoesTo faults told kept plan answer payload tally tally' first last
  around tally tally' to =
      goes_around faults told kept state whole plan answer payload tally tally' first old new last enters leaves to

  -- the state that the event comes to, and the one after it for these answers
  abbrev comes : Tally → State
  comes tally = core_state kept tally old

  abbrev ends : Tally → List Answer → Outcome
  ends tally given = outcome_of (comes tally) (plan (comes tally)) given

  dropped_by : (tally : Tally) → Goes faults told kept plan answer payload tally old new →
      (RisesFrom 0 (clients (comes tally).stage) → AreGone (live_clients old.book.clients.items) (comes tally).stage →
      (given : List Answer) → WereDropped (comes tally) (ends tally given).after) →
      GoesTo faults told kept plan answer payload tally (more_dropped more tally) first last
  dropped_by tally goes were =
      around tally (more_dropped more tally)
      (subst (λ n. GoesTo faults told kept plan answer payload tally (more_dropped n tally) old new)
      (taken_is tally goes)
      (goes_dropped faults told kept plan answer payload tally old new goes
      (were (rises kept state old tally old_core.order) (gone kept state old tally old_core.order))))

  -- for every tally what it does, and that the service is in order after it, of an event that leaves it so
  pub dropped_from : ((tally : Tally) → Goes faults told kept plan answer payload tally old new) →
      IsCore state kept new → ((tally : Tally) → HasCounts tally →
      RisesFrom 0 (clients (comes tally).stage) → AreGone (live_clients old.book.clients.items) (comes tally).stage →
      (given : List Answer) → WereDropped (comes tally) (ends tally given).after) →
      ((tally : Tally) → HasCounts tally → GoesTo faults told kept plan answer payload tally (more_dropped more tally)
      first last)
      × IsCore state kept last
  dropped_from goes new_core were = (
    λ tally fits. dropped_by tally (goes tally) (were tally fits),
    still_core kept state whole new last leaves new_core,
  )

  -- of an event that gets no store
  module _ (known : (ℕ → BufferData) → Type 0)
      (does : Does faults told (MovesStore moves) None known old new plan answer payload)
      (knows : known (core_datas kept old.entries.items)) (keeps : (st : State) → Keeps st (plan st)) where
    new_core : IsCore state kept new
    new_core =
        board_core faults told kept state moves exact old new old_core new_order plan answer payload keeps known does
        knows

    goes : (tally : Tally) → Goes faults told kept plan answer payload tally old new
    goes tally =
        board_goes faults told kept state moves exact old new old_core new_order plan answer payload keeps known does
        knows tally

    pub counted_core : IsCore state kept last
    counted_core = still_core kept state whole new last leaves new_core

    pub dropped_ends : ((tally : Tally) → HasCounts tally →
        RisesFrom 0 (clients (comes tally).stage) →
        AreGone (live_clients old.book.clients.items) (comes tally).stage →
        (given : List Answer) → WereDropped (comes tally) (ends tally given).after) →
        ((tally : Tally) → HasCounts tally → GoesTo faults told kept plan answer payload tally
        (more_dropped more tally) first last)
        × IsCore state kept last
    dropped_ends were = dropped_from goes new_core were

    pub counted_reset : (tally : Tally) →
        (RisesFrom 0 (clients (comes tally).stage) → (given : List Answer) →
        WereReset (comes tally) (ends tally given).after) →
        GoesTo faults told kept plan answer payload tally (more_reset more tally) first last
    counted_reset tally were =
        around tally (more_reset more tally)
        (subst (λ n. GoesTo faults told kept plan answer payload tally (more_reset n tally) old new)
        (taken_is tally (goes tally))
        (goes_reset faults told kept plan answer payload tally old new (goes tally)
        (were (rises kept state old tally old_core.order))))

    -- an event that took nothing from the tally
    pub counted_still : (tally : Tally) →
        (RisesFrom 0 (clients (comes tally).stage) → (given : List Answer) → [] ≡ (ends tally given).payload →
        (ends tally given).after.tally ≡ tally) →
        [] ≡ payload → GoesTo faults told kept plan answer payload tally tally first last
    counted_still tally stays none =
        around tally tally
        (goes_nothing faults told kept plan answer payload tally old new (goes tally)
        (stays (rises kept state old tally old_core.order)) none)

    pub counted_taking : (tally : Tally) (frames : ℕ) (failed : Bool) →
        (RisesFrom 0 (clients (comes tally).stage) → (given : List Answer) →
        to_le_bytes w32 frames ++ (if failed then 1 else 0) ∷ [] ≡ (ends tally given).payload →
        WereTaken failed (comes tally) (ends tally given).after) →
        to_le_bytes w32 frames ++ (if failed then 1 else 0) ∷ [] ≡ payload →
        GoesTo faults told kept plan answer payload tally (after_taking (Ok (payloads.Period frames failed)) more tally)
        first last
    counted_taking tally frames failed were is =
        around tally (after_taking (Ok (payloads.Period frames failed)) more tally)
        (subst (λ n. GoesTo faults told kept plan answer payload tally
        (after_taking (Ok (payloads.Period frames failed)) n tally) old new) (taken_is tally (goes tally))
        (goes_taking faults told kept plan answer payload tally old new (goes tally) frames failed
        (were (rises kept state old tally old_core.order)) is))
