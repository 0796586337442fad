-- A period as far as its Sound: with what follows the Sound it is a whole one.
use Rattle.std.proofs.Common.{◌≡◌, ℕ, ◌*◌, ◌≤◌, List, ◌++◌, length, take, Bool, true, Option, sym, ap, ◌∙◌, subst}
use Rattle.std.proofs.Common.{arith}
use Rattle.std.specs.List.{All, AllZip}
use Rattle.device_io.specs.DeviceLog.{DeviceLog}
use Rattle.ca_base.specs.declared.limits.TheConstants.{CLIENTS}
use Rattle.wave_format.specs.Frame.{frames_from}
use Rattle.wave_format.proofs.FrameCuts.{frames_front}
use Rattle.buffer_ring.specs.declared.step.EndState.{EndState}
use Rattle.buffer_ring.specs.declared.step.StoreStep.{StoreStep}
use Rattle.period_engine.specs.declared.entry.StreamEntry.{StreamEntry}
use Rattle.ca_stage.specs.Periods.{fed_if, is_hearing}
use Rattle.period_engine.specs.Entries.{AreEntries, IsPicked}
use Rattle.period_engine.specs.SubSteps.{Turned, retires_on}
use Rattle.service_board.specs.InOrder.{InOrder}
use Rattle.service_board.specs.Plays.{PicksAndSounds, Plays, ends_on}
use Rattle.service_board.specs.declared.board.Board.{Board}
use Rattle.service_board.proofs.EntryCounts.{are_entries}
use Rattle.service_board.proofs.HeardEntries.{FeedsHeard, all_end, still_feed}
use Rattle.service_board.proofs.Playing.{plays}

module _ {D E : Type 0} (moves : E → List StoreStep → E → Type 0) (state : E → EndState) (b : Board D E)
    (order : InOrder state b) (xs : List (StreamEntry E)) (read : xs ≡ b.entries.items) where
  -- the entries of a board in order
  pub entries_read : AreEntries xs
  entries_read = subst AreEntries (sym read) (are_entries state b order)

  -- and as many others are few enough to be noted
  pub few_left : (zs : List (StreamEntry E)) → length zs ≡ length xs → length zs ≤ CLIENTS
  few_left zs size = omega (arith, size, entries_read.count)

  module _ (joins : (a b c : E) (s t : List StoreStep) → moves a s b → moves b t c → moves a (s ++ t) c)
      (number frames : ℕ) (whole : Bool) (ends bytes : List ℕ) (zs ws : List (StreamEntry E)) (faults faults' : ℕ)
      (told told' : Option (List DeviceLog))
      (sounded : PicksAndSounds moves number frames ends bytes whole xs zs faults told faults' told')
      (picked : All (IsPicked state number frames) zs) where
    -- what follows the Sound makes a period of it
    pub sounded_plays : AllZip (Turned moves (ends_on number (frames_from frames (length ends) bytes) whole)) zs ws →
        Plays moves number frames ends whole xs ws faults told faults' told'
    sounded_plays endings =
        plays moves state number frames joins whole ends bytes xs sounded.mid zs ws faults faults' told told'
        entries_read sounded.picks sounded.sounds picked endings

  -- the frames at the front of a block
  at_front : (frames channels : ℕ) (bytes : List ℕ) →
      frames_from frames channels bytes ≡ frames_from frames channels (take (2 * (frames * channels)) bytes)
  at_front frames channels bytes =
      let size : frames * (channels * 2) ≡ 2 * (frames * channels) = grind arith in
      sym (frames_front frames channels bytes) ∙ ap (λ n. frames_from frames channels (take n bytes)) size

  -- what was picked is rendered, and those who hear are offered what was written
  module _ (joins : (a b c : E) (s t : List StoreStep) → moves a s b → moves b t c → moves a (s ++ t) c)
      (number frames : ℕ) (ends bytes : List ℕ) (zs rs : List (StreamEntry E)) (faults faults' : ℕ)
      (told told' : Option (List DeviceLog))
      (sounded : PicksAndSounds moves number frames ends (take (2 * (frames * length ends)) bytes) true xs zs faults
      told faults' told')
      (retires : AllZip (Turned moves (retires_on number)) zs rs) where
    pub feeds_left : All (FeedsHeard moves number (length ends) frames) xs →
        All (FeedsHeard moves number (length ends) frames) rs
    feeds_left feeds =
        still_feed moves number (length ends) frames sounded.sounds.steps xs sounded.mid zs rs feeds sounded.picks
        sounded.sounds.made retires

    pub heard_plays : (ws : List (StreamEntry E)) → All (IsPicked state number frames) zs →
        All (FeedsHeard moves number (length ends) frames) xs →
        (All (FeedsHeard moves number (length ends) frames) rs →
        AllZip (Turned moves (fed_if (is_hearing number) (frames_from frames (length ends) bytes))) rs ws) →
        Plays moves number frames ends true xs ws faults told faults' told'
    heard_plays ws picked feeds turned =
        let written : List ℕ = take (2 * (frames * length ends)) bytes in
        sounded_plays joins number frames true ends written zs ws faults faults' told told' sounded picked
        (all_end number (frames_from frames (length ends) written) moves joins zs rs ws retires
        (subst (λ heard. AllZip (Turned moves (fed_if (is_hearing number) heard)) rs ws)
        (at_front frames (length ends) bytes) (turned (feeds_left feeds))))
