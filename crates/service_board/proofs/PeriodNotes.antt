-- What a period notes, if its device failed: what there was of the service before the period.
use Rattle.std.proofs.Common.{◌≡◌, ℕ, List, [], ◌∷◌, map, Bool, Option, Result, refl, ap, ap₂, ◌∙◌}
use Rattle.std.proofs.Common.{if◌then◌else◌}
use Rattle.std.specs.List.{AllZip}
use Rattle.device_io.specs.DeviceLog.{DeviceLog}
use Rattle.ca_base.specs.declared.codes.Hr.{Hr}
use Rattle.buffer_ring.specs.declared.step.StoreStep.{StoreStep}
use Rattle.ca_stage.specs.Stage.{BufferData, Stream, no_data}
use Rattle.ca_stage.specs.Periods.{is_playing}
use Rattle.ca_stage.specs.Tally.{Tally}
use Rattle.ca_stage.proofs.Lists.{chosen}
use Rattle.ca_machine.specs.Notices.{noted}
use Rattle.step_notices.specs.Notes.{Notes}
use Rattle.reply_payload.specs.declared.payload.Payload.{Payload}
use Rattle.period_engine.specs.declared.entry.StreamEntry.{StreamEntry}
use Rattle.period_engine.specs.Entries.{stream_with}
use Rattle.period_engine.specs.Sounds.{AllTakeSteps}
use Rattle.period_engine.specs.SubSteps.{Turned, picks_on}
use Rattle.service_board.specs.Board.{state_of}
use Rattle.service_board.specs.Gains.{HasSameStreams}
use Rattle.service_board.specs.Plays.{PicksAndSounds}
use Rattle.service_board.specs.Telling.{NotesFailure, has_failed}
use Rattle.stream_entries.specs.Noting.{noted_entry, noted_with}
use Rattle.service_board.specs.declared.board.Board.{Board}
use Rattle.service_board.proofs.NotedStates.{noted_board}
use Rattle.service_board.proofs.SameStreams.{same_state}

-- what is noted of an entry
noted_alike : {E : Type 0} (a b : StreamEntry E) → b.client ≡ a.client → b.session ≡ a.session →
    b.running ≡ a.running → b.gate ≡ a.gate → noted_entry b ≡ noted_entry a
noted_alike a b client session running gate = rw (client, session, running, gate) refl

module _ {E : Type 0} (moves : E → List StoreStep → E → Type 0) where
  -- picks leave whether a stream runs, and its gate
  picks_leave : (number frames : ℕ) (a : StreamEntry E) →
      ((picks_on number frames (stream_with no_data a)).running ≡ a.running)
      × ((picks_on number frames (stream_with no_data a)).gate ≡ a.gate)
  picks_leave number frames a =
      chosen (λ (s : Stream). (s.running ≡ a.running) × (s.gate ≡ a.gate))
      (is_playing number (stream_with no_data a)) _ _ (refl, refl) (refl, refl)

  noted_turned : (number frames : ℕ) (a b : StreamEntry E) → Turned moves (picks_on number frames) a b →
      noted_entry b ≡ noted_entry a
  noted_turned number frames a b h =
      let leave = picks_leave number frames a in
      noted_alike a b h.same.client h.same.session (h.running ∙ leave.0) (h.gate ∙ leave.1)

  noted_picked : (number frames : ℕ) (xs ys : List (StreamEntry E)) →
      AllZip (Turned moves (picks_on number frames)) xs ys → map noted_entry ys ≡ map noted_entry xs
  noted_picked number frames [] [] h = refl
  noted_picked number frames (x ∷ xs) (y ∷ ys) h =
      ap₂ (λ e es. e ∷ es) (noted_turned number frames x y h.0) (noted_picked number frames xs ys h.1)
  noted_picked number frames [] (y ∷ ys) h = absurd h
  noted_picked number frames (x ∷ xs) [] h = absurd h

  noted_taken : (steps : ℕ → List StoreStep) (ys zs : List (StreamEntry E)) → AllTakeSteps moves steps ys zs →
      map noted_entry zs ≡ map noted_entry ys
  noted_taken steps [] [] h = refl
  noted_taken steps (y ∷ ys) (z ∷ zs) h =
      ap₂ (λ e es. e ∷ es) (noted_alike y z h.0.same.client h.0.same.session h.0.running h.0.gate)
      (noted_taken steps ys zs h.1)
  noted_taken steps [] (z ∷ zs) h = absurd h
  noted_taken steps (y ∷ ys) [] h = absurd h

  -- after the Sound the same is noted as before the period
  pub noted_sounded : {D : Type 0} (b : Board D E) (number frames : ℕ) (ends bytes : List ℕ) (whole : Bool)
      (xs zs : List (StreamEntry E)) (faults faults' : ℕ) (told told' : Option (List DeviceLog)) →
      xs ≡ b.entries.items → PicksAndSounds moves number frames ends bytes whole xs zs faults told faults' told' →
      (datas : ℕ → BufferData) (tally : Tally) → noted_with b.book zs ≡ noted (state_of datas tally b)
  noted_sounded b number frames ends bytes whole xs zs faults faults' told told' read sounded datas tally =
      ap (λ streams. record (noted_with b.book zs) { streams = streams })
      (noted_taken sounded.sounds.steps sounded.mid zs sounded.sounds.made
      ∙ noted_picked number frames xs sounded.mid sounded.picks)
      ∙ ap (noted_with b.book) read
      ∙ noted_board datas tally b

  noted_left : (xs ys : List (StreamEntry E)) → AllZip (Turned moves (λ s. s)) xs ys →
      map noted_entry ys ≡ map noted_entry xs
  noted_left [] [] h = refl
  noted_left (x ∷ xs) (y ∷ ys) h =
      ap₂ (λ e es. e ∷ es) (noted_alike x y h.0.same.client h.0.same.session h.0.running h.0.gate)
      (noted_left xs ys h.1)
  noted_left [] (y ∷ ys) h = absurd h
  noted_left (x ∷ xs) [] h = absurd h

  -- and so it is after a read of a device that failed
  pub noted_read : {D : Type 0} (b : Board D E) (xs ys : List (StreamEntry E)) → xs ≡ b.entries.items →
      AllZip (Turned moves (λ s. s)) xs ys → (datas : ℕ → BufferData) (tally : Tally) →
      noted_with b.book ys ≡ noted (state_of datas tally b)
  noted_read b xs ys read left datas tally =
      ap (λ streams. record (noted_with b.book ys) { streams = streams }) (noted_left xs ys left)
      ∙ ap (noted_with b.book) read
      ∙ noted_board datas tally b

-- what is noted of a board is noted of one with other gains
pub same_notes : {D E : Type 0} (old mid : Board D E) → HasSameStreams old mid → (result : Result Payload Hr)
    (now : Notes) → NotesFailure result mid.failed now mid → NotesFailure result old.failed now old
same_notes old mid same result now notes datas tally =
    notes datas tally
    ∙ ap₂ (λ st was. if has_failed result then noted st else was) (same_state old mid same datas tally)
    (ap (λ b. b.failed) same.same)
