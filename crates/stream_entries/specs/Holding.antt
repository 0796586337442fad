-- Who holds an endpoint, by the entries of streams (this project's own).
use Rattle.std.specs.Prelude.{ℕ, ◌==◌, ◌&&◌, List, map, filter, Bool}
use Rattle.std.specs.List.{find}
use Rattle.std.specs.Option.{option_map_or}
use Rattle.exclusive_mode.specs.declared.claims.Held.{Held}
use Rattle.ca_stage.specs.Stage.{is_open_gate}
use Rattle.device_registry.specs.declared.endpoint.Endpoint.{Endpoint}
use Rattle.ca_machine.specs.Periods.{shared_frames}
use Rattle.period_engine.specs.declared.entry.StreamEntry.{StreamEntry}

-- an entry's stream is open on an endpoint
abbrev pub is_open_entry : {E : Type 0} → ℕ → StreamEntry E → Bool
is_open_entry number x = x.endpoint.0 == number && is_open_gate x.gate

-- and it is exclusive
abbrev pub is_exclusive_entry : {E : Type 0} → ℕ → StreamEntry E → Bool
is_exclusive_entry number x = is_open_entry number x && x.exclusive

-- the open streams on an endpoint
abbrev pub held_on : {E : Type 0} → ℕ → List (StreamEntry E) → List Held
held_on number entries =
    map (λ x. record { client = x.client; exclusive = x.exclusive }) (filter (is_open_entry number) entries)

-- the frames of an endpoint's period: those of the exclusive stream that holds it, or of its shared ones
abbrev pub period_frames : {E : Type 0} → Endpoint → List (StreamEntry E) → ℕ
period_frames e entries =
    option_map_or (λ x. x.period) (find (is_exclusive_entry e.no.0) entries) (shared_frames e)
