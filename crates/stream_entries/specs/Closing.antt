-- What a close of streams makes of entries (this project's own).
use Rattle.std.specs.Prelude.{◌≡◌, ℕ, ◌&&◌, List, Bool, false, true, Option, if◌then◌else◌}
use Rattle.std.specs.Global.{Vec}
use Rattle.std.specs.List.{All, AllZip}
use Rattle.std.specs.Option.{option_map}
use Rattle.std.specs.Vec.{vec_capacity}
use Rattle.ca_base.specs.declared.ids.EndpointNo.{EndpointNo}
use Rattle.ca_base.specs.declared.ids.Reason.{Reason}
use Rattle.buffer_ring.specs.declared.step.EndState.{EndState}
use Rattle.buffer_ring.specs.declared.step.StoreStep.{StoreStep}
use Rattle.ca_stage.specs.Stage.{Stream, is_open, no_data}
use Rattle.ca_stage.specs.Moves.{closed, moved}
use Rattle.ca_machine.specs.Devices.{is_within}
use Rattle.period_engine.specs.declared.entry.StreamEntry.{StreamEntry}
use Rattle.period_engine.specs.Entries.{FitsStore, IsRested, stream_with}
use Rattle.period_engine.specs.SubSteps.{Turned}

-- all streams, or those of the endpoint of this number
abbrev pub scope_of : Option EndpointNo → Option ℕ
scope_of scope = option_map (λ e. e.0) scope

-- a stream is open within a scope
abbrev pub is_open_within : Option ℕ → Stream → Bool
is_open_within scope s = is_within scope s && is_open s

-- those that are, are closed
abbrev pub closes_within : Reason → Option ℕ → Stream → Stream
closes_within reason scope s = if is_open_within scope s then moved (closed reason) s else s

-- or nothing is done, if nothing is lost
abbrev pub closes_if : Bool → Reason → Option ℕ → Stream → Stream
closes_if false reason scope s = s
closes_if true reason scope s = closes_within reason scope s

-- an entry's stream is open within a scope, whatever its data
abbrev pub is_entry_within : {E : Type 0} → Option ℕ → StreamEntry E → Bool
is_entry_within scope e = is_open_within scope (stream_with no_data e)

-- an entry fits its store, and has frames picked only if a close within the scope takes them away
pub record IsClosable {E : Type 0} (state : E → EndState) (scope : Option ℕ) (e : StreamEntry E) : Type 0 where
  pub fits : FitsStore state e
  pub unpicked : is_entry_within scope e ≡ false → e.picked ≡ 0

-- if something is lost, the streams that were open within a scope are closed; entries stay in their places
pub record Disconnects {E : Type 0} (moves : E → List StoreStep → E → Type 0) (state : E → EndState) (lost : Bool)
    (reason : Reason) (scope : Option ℕ) (old new : Vec (StreamEntry E)) : Type 0
  where
    pub turned : AllZip (Turned moves (closes_if lost reason scope)) old.items new.items
    pub rested : All (IsRested state) new.items
    pub room : vec_capacity new ≡ vec_capacity old
