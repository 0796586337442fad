-- The frames that wait in the streams of a service are the words of its stores.
use Rattle.std.proofs.Common.{◌≡◌, ℕ, ◌+◌, min, List, [], length, Bool, true, false, sum_by, refl, sym, ap, ◌∙◌}
use Rattle.std.proofs.Common.{arith, if◌then◌else◌}
use Rattle.std.proofs.lemmas.List.{length-map}
use Rattle.wave_format.specs.Frame.{frame_of}
use Rattle.ca_base.specs.declared.limits.TheConstants.{MAX_TALLY}
use Rattle.buffer_ring.specs.Kept.{Kept}
use Rattle.buffer_ring.specs.declared.step.EndState.{EndState}
use Rattle.ca_stage.specs.Stage.{is_render, padding}
use Rattle.client_state.specs.Frames.{frames_in}
use Rattle.ca_machine.specs.View.{MachineView}
use Rattle.period_engine.specs.declared.entry.StreamEntry.{StreamEntry}
use Rattle.period_engine.specs.Entries.{AreInOrder, streams_of}
use Rattle.service_board.specs.declared.board.Board.{Board}
use Rattle.service_core.specs.Core.{LooksAround, core_datas, core_state, words_in}
use Rattle.service_core.specs.Service.{IsCore, core_view, tally_of}
use Rattle.service_core.specs.Totals.{Reports}
use Rattle.service_core.specs.declared.both_ends.BothEnds.{BothEnds}
use Rattle.service_core.specs.declared.pending.Streams.TheVariants as streams
use Rattle.service_core.specs.declared.tally.Tally.{Tally as Counts}
use Rattle.service_core.proofs.PendingWords.{around_order, around_sides, around_state, sums}
use Rattle.buffer_ring.specs.Kept.{state_of as end_of}

module _ {F : Type 0} (kept : F → Kept) where
  words_wait : (xs : List (StreamEntry (BothEnds F))) → AreInOrder xs →
      sum_by (words_in kept streams.All) xs ≡ sum_by padding (streams_of (core_datas kept xs) xs)
  words_wait =
      sums kept (words_in kept streams.All) padding
      (λ e. each e (is_render e.kind))
    where
      each : (e : StreamEntry (BothEnds F)) (plays : Bool) →
          (if plays then length (kept e.store.store).words else 0)
          ≡ length (if plays then frames_in e.channels (kept e.store.store).words else [])
      each e true = sym (length-map (kept e.store.store).words (frame_of e.channels))
      each e false = refl

  module _ {D : Type 0} (state : F → EndState) (whole : (x : F) → end_of (kept x) ≡ state x)
      (old new : Board D (BothEnds F)) (around : LooksAround kept old new) where
    -- looks leave a service as it is between events
    pub still_core : IsCore state kept old → IsCore state kept new
    still_core core = record {
      order = around_order kept state whole old new around core.order;
      sides = around_sides kept state whole old new around core.sides;
    }

    pub still_view : (counts : Counts) → core_view kept new counts ≡ core_view kept old counts
    still_view counts =
        ap (λ st. let v : MachineView D = record { devices = new.devices; state = st } in v)
        (around_state kept state whole old new around (tally_of counts))
        ∙ ap (λ d. let v : MachineView D = record {
          devices = d;
          state = core_state kept (tally_of counts) old;
        } in v) (ap (λ b. b.devices) around.same)

  -- what is counted is what is told
  pub reports : {D : Type 0} (b : Board D (BothEnds F)) (counts : Counts) (waiting released : ℕ) →
      AreInOrder b.entries.items → waiting ≡ sum_by (words_in kept streams.All) b.entries.items →
      released ≡ min MAX_TALLY (counts.rendered + counts.reset + counts.dropped + waiting) →
      Reports (core_state kept (tally_of counts) b) (record {
        released = released;
        rendered = counts.rendered;
        padding = waiting;
        reset = counts.reset;
        dropped = counts.dropped;
      })
  reports b counts waiting released order counted all = record {
    rendered = refl;
    reset = refl;
    dropped = refl;
    padding = counted ∙ words_wait b.entries.items order;
    released = all;
  }

-- counts that saturate one after another saturate together
pub saturated : (most a b c d x y z : ℕ) → x ≡ min (a + b) most → y ≡ min (x + c) most → z ≡ min (y + d) most →
    z ≡ min most (a + b + c + d)
saturated most a b c d x y z p q r = omega arith
