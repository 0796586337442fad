-- What a close of streams needs of entries, and what it leaves of them.
use Rattle.std.proofs.Common.{◌≡◌, ℕ, ◌&&◌, List, Bool, true, false, Option, Some, refl}
use Rattle.std.specs.List.{All}
use Rattle.std.proofs.lemmas.Bool.{true≢false}
use Rattle.ca_base.specs.declared.ids.Gate.{Gate}
use Rattle.buffer_ring.specs.declared.step.EndState.{EndState}
use Rattle.ca_stage.specs.Stage.{is_open_gate}
use Rattle.period_engine.specs.declared.entry.StreamEntry.{StreamEntry}
use Rattle.period_engine.specs.Entries.{IsPicked, IsRested}
use Rattle.period_engine.specs.SubSteps.{IsSameEntry}
use Rattle.stream_entries.specs.Closing.{IsClosable}

-- an entry of which only the store and what Start, Stop and a close set may have changed
pub same_but_running : {E : Type 0} (a : StreamEntry E) (store : E) (gate : Gate) (running : Bool) (picked : ℕ) →
    IsSameEntry a (record a { store = store; gate = gate; running = running; picked = picked })
same_but_running a store gate running picked = record {
  client = refl;
  endpoint = refl;
  kind = refl;
  exclusive = refl;
  event = refl;
  channels = refl;
  rate = refl;
  buffer = refl;
  period = refl;
  room = refl;
  latency = refl;
  session = refl;
  gains = refl;
}

not_played : (here opens runs : Bool) → (here && opens) ≡ false → (here && (opens && runs)) ≡ false
not_played true true runs h = absurd (true≢false h)
not_played true false runs h = refl
not_played false opens runs h = refl

module _ {E : Type 0} (state : E → EndState) where
  -- entries of a period of an endpoint, of which only those that it plays have frames picked
  pub picked_closable : (number frames : ℕ) (entries : List (StreamEntry E)) →
      All (IsPicked state number frames) entries → All (IsClosable state (Some number)) entries
  picked_closable number frames entries picked k d lt =
      let here = picked k d lt in
      record { fits = here.fits; unpicked = λ out. here.plays (not_played _ (is_open_gate _) _ out) }

  -- entries between events
  pub rested_closable : (scope : Option ℕ) (entries : List (StreamEntry E)) → All (IsRested state) entries →
      All (IsClosable state scope) entries
  rested_closable scope entries rested k d lt =
      let here = rested k d lt in
      record { fits = here.fits; unpicked = λ out. here.unpicked }
