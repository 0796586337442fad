-- What a store that goes by steps of the engine's end is to its client's data.
use Rattle.std.proofs.Common.{◌≡◌, ℕ, suc, ◌+◌, ◌-◌, ◌*◌, ◌/◌, List, [], ◌∷◌, ◌++◌, length, drop, Bool, true, false}
use Rattle.std.proofs.Common.{Option, Some, slice_get, refl, sym, ap, ap₂, subst, ◌∙◌, arith, length-append}
use Rattle.std.specs.Option.{option_map}
use Rattle.std.proofs.lemmas.Bool.{false≢true}
use Rattle.std.proofs.lemmas.Option.{slice_get-map}
use Rattle.std.proofs.lemmas.List.{map-append, length-drop, length-map}
use Rattle.std.proofs.Math.Nat.{mul-div_left, mul-sub, mul_comm}
use Rattle.std.specs.List.{drop-map}
use Rattle.wave_format.specs.Frame.{frame_of}
use Rattle.client_state.specs.Frames.{frames_in}
use Rattle.ca_stage.specs.Stage.{BufferData, Frame, Packet}
use Rattle.buffer_ring.specs.declared.step.Deed.{Deed}
use Rattle.buffer_ring.specs.declared.step.Deed.TheVariants as deed
use Rattle.buffer_ring.specs.declared.step.StoreStep.{StoreStep}
use Rattle.buffer_ring.specs.declared.step.StoreStep.TheVariants as step
use Rattle.buffer_ring.specs.Kept.{Kept, RunsSteps, kept_after}
use Rattle.period_engine.specs.Agreement.{Agrees, AgreesWith, ArePacked, IsPacked, Layout, data_after, data_on}
use Rattle.period_engine.specs.Agreement.{words_of}
use Rattle.period_engine.specs.Packed.{packet_of, packets_in}
use Rattle.period_engine.proofs.PacketLists.{length-packets_in, packets_in-append, packets_in-drop, packets_in-nil}
use Rattle.service_core.specs.Core.{ArePackets, data_in}

-- data, by their parts
abbrev pub data_with : List Frame → List Packet → ℕ → Option ℕ → BufferData
data_with frames packets count leases =
    record { pending = frames; packets = packets; released = count; lease = leases }

-- a layout, by its parts
abbrev pub layout_by : Bool → ℕ → ℕ → Layout
layout_by plays channels period = record { plays = plays; channels = channels; period = period }

module _ (channels period count : ℕ) (leased : Option ℕ) where
  -- the data of a store
  abbrev pub data_of : Bool → Kept → BufferData
  data_of plays k = data_in (layout_by plays channels period) k.words count leased

  -- whole packets stay so after a deed
  packed_after : (plays : Bool) (d : Deed) (k : Kept) → IsPacked (layout_by plays channels period) d →
      ArePackets (layout_by plays channels period) k.words →
      ArePackets (layout_by plays channels period) (kept_after d k).words
  packed_after plays deed.Looks k packs whole = whole
  packed_after plays (deed.Retires n) k packs whole = λ stores.
      let all = whole stores in
      let some = packs stores in (
        all.0 - some.0,
        length-drop n k.words
            ∙ ap₂ (λ a b. a - b) all.1 some.1
            ∙ sym (mul_comm (all.0 - some.0) (suc period) ∙ mul-sub (suc period) all.0 some.0
            ∙ ap₂ (λ a b. a - b) (mul_comm (suc period) all.0) (mul_comm (suc period) some.0)),
      )
  packed_after plays (deed.Puts words) k packs whole = λ stores.
      let all = whole stores in
      let one = packs stores in
      let more : suc all.0 * suc period ≡ all.0 * suc period + suc period = grind arith in (
        suc all.0,
        length-append k.words words ∙ ap₂ (λ a b. a + b) all.1 one ∙ sym more,
      )
  packed_after plays (deed.Closes reason) k packs whole = λ stores. (0, omega arith)

  -- the data after a deed
  data_on_deed : (plays : Bool) (d : Deed) (k : Kept) → IsPacked (layout_by plays channels period) d →
      ArePackets (layout_by plays channels period) k.words →
      data_on (layout_by plays channels period) d (data_of plays k) ≡ data_of plays (kept_after d k)
  data_on_deed plays deed.Looks k packs whole = refl
  data_on_deed true (deed.Retires n) k packs whole =
      ap (λ frames. data_with frames [] count leased) (drop-map (frame_of channels) n k.words)
  data_on_deed false (deed.Retires n) k packs whole =
      let all = whole refl in
      let some = packs refl in
      ap (λ packets. data_with [] packets count leased)
      (ap (λ m. drop m (packets_in channels period k.words))
      (ap (λ m. m / suc period) some.1 ∙ mul-div_left some.0 (omega arith))
      ∙ sym (packets_in-drop all.0 some.0 channels period k.words all.1)
      ∙ ap (λ m. packets_in channels period (drop m k.words)) (sym some.1))
  data_on_deed true (deed.Puts words) k packs whole =
      ap (λ frames. data_with frames [] count leased) (sym (map-append (frame_of channels) k.words words))
  data_on_deed false (deed.Puts words) k packs whole =
      let all = whole refl in
      ap (λ packets. data_with [] packets count leased)
      (sym (packets_in-append all.0 channels period k.words words all.1 (packs refl)))
  data_on_deed true (deed.Closes reason) k packs whole = refl
  data_on_deed false (deed.Closes reason) k packs whole =
      ap (λ packets. data_with [] packets count leased) (sym (packets_in-nil channels period))

  -- the words that the data take are those that there are
  pub words_are : (plays : Bool) (words : List ℕ) → ArePackets (layout_by plays channels period) words →
      words_of (layout_by plays channels period) (data_in (layout_by plays channels period) words count leased)
      ≡ length words
  words_are true words whole = length-map words (frame_of channels)
  words_are false words whole =
      let all = whole refl in
      ap (λ n. n * suc period)
      (length-packets_in channels period words ∙ ap (λ n. n / suc period) all.1 ∙ mul-div_left all.0 (omega arith))
      ∙ sym all.1

  agrees_with : (plays : Bool) (d : Deed) (found : ℕ) (k : Kept) → found ≡ length k.words →
      ArePackets (layout_by plays channels period) k.words →
      AgreesWith (layout_by plays channels period) d found (data_of plays k)
  agrees_with plays deed.Looks found k e whole = e ∙ sym (words_are plays k.words whole)
  agrees_with plays (deed.Retires n) found k e whole = tt
  agrees_with plays (deed.Puts words) found k e whole = tt
  agrees_with plays (deed.Closes reason) found k e whole = tt

  -- after steps
  pub runs_packed : (plays : Bool) (ss : List StoreStep) (k new : Kept) →
      ArePacked (layout_by plays channels period) ss → ArePackets (layout_by plays channels period) k.words →
      RunsSteps k ss new →
      ArePackets (layout_by plays channels period) new.words
  runs_packed plays [] k new packs whole run =
      subst (λ j. ArePackets (layout_by plays channels period) j.words) (sym run) whole
  runs_packed plays (step.Acts found gate d ∷ ss) k new packs whole run =
      runs_packed plays ss run.0 new packs.1
      (subst (λ j. ArePackets (layout_by plays channels period) j.words) (sym run.1.2)
      (packed_after plays d k packs.0 whole))
      run.2
  runs_packed plays (step.Reads place word ∷ ss) k new packs whole run =
      runs_packed plays ss run.0 new packs
      (subst (λ j. ArePackets (layout_by plays channels period) j.words) (sym run.1.1) whole) run.2

  pub runs_data : (plays : Bool) (ss : List StoreStep) (k new : Kept) → ArePacked (layout_by plays channels period) ss →
      ArePackets (layout_by plays channels period) k.words → RunsSteps k ss new →
      data_after (layout_by plays channels period) ss (data_of plays k) ≡ data_of plays new
  runs_data plays [] k new packs whole run = ap (data_of plays) (sym run)
  runs_data plays (step.Acts found gate d ∷ ss) k new packs whole run =
      ap (data_after (layout_by plays channels period) ss)
      (data_on_deed plays d k packs.0 whole ∙ ap (data_of plays) (sym run.1.2))
      ∙ runs_data plays ss run.0 new packs.1
      (subst (λ j. ArePackets (layout_by plays channels period) j.words) (sym run.1.2)
      (packed_after plays d k packs.0 whole))
      run.2
  runs_data plays (step.Reads place word ∷ ss) k new packs whole run =
      ap (λ j. data_after (layout_by plays channels period) ss (data_of plays j)) (sym run.1.1)
      ∙ runs_data plays ss run.0 new packs
      (subst (λ j. ArePackets (layout_by plays channels period) j.words) (sym run.1.1) whole) run.2

  -- and the steps agree with the data
  reads_frame : (plays : Bool) (place word : ℕ) (k : Kept) → slice_get k.words place ≡ Some word → plays ≡ true →
      slice_get (data_of plays k).pending place ≡ Some (frame_of channels word)
  reads_frame true place word k e is =
      slice_get-map (frame_of channels) k.words place ∙ ap (option_map (frame_of channels)) e
  reads_frame false place word k e is = absurd (false≢true is)

  pub runs_agree : (plays : Bool) (ss : List StoreStep) (k new : Kept) →
      ArePacked (layout_by plays channels period) ss → ArePackets (layout_by plays channels period) k.words →
      RunsSteps k ss new →
      Agrees (layout_by plays channels period) ss (data_of plays k)
  runs_agree plays [] k new packs whole run = tt
  runs_agree plays (step.Acts found gate d ∷ ss) k new packs whole run = (
    agrees_with plays d found k run.1.0 whole,
    subst (Agrees (layout_by plays channels period) ss)
        (ap (data_of plays) run.1.2 ∙ sym (data_on_deed plays d k packs.0 whole))
        (runs_agree plays ss run.0 new packs.1
        (subst (λ j. ArePackets (layout_by plays channels period) j.words) (sym run.1.2)
        (packed_after plays d k packs.0 whole))
        run.2),
  )
  runs_agree plays (step.Reads place word ∷ ss) k new packs whole run = (
    reads_frame plays place word k run.1.0,
    subst (λ j. Agrees (layout_by plays channels period) ss (data_of plays j)) run.1.1
        (runs_agree plays ss run.0 new packs
        (subst (λ j. ArePackets (layout_by plays channels period) j.words) (sym run.1.1) whole) run.2),
  )
