-- Events of clients, by the board's entries (this project's own).
use Rattle.std.specs.Prelude.{ℕ, ◌==◌, ◌&&◌, List, Bool, true, if◌then◌else◌}
use Rattle.std.specs.List.{list_any}
use Rattle.ca_stage.specs.Stage.{is_open_gate}
use Rattle.ca_machine.specs.declared.state.Client.{Client}
use Rattle.period_engine.specs.declared.entry.StreamEntry.{StreamEntry}

-- an entry's stream takes part in a period of an endpoint, and is driven by events
abbrev pub is_signaled_entry : {E : Type 0} → ℕ → StreamEntry E → Bool
is_signaled_entry number x = (x.endpoint.0 == number && is_open_gate x.gate) && (x.running && x.event)

-- the event of a client is set if its stream does
abbrev pub with_event : {E : Type 0} → ℕ → List (StreamEntry E) → Client → Client
with_event number all c =
    if list_any (λ x. x.client.0 == c.client.0 && is_signaled_entry number x) all
    then record c { flagged = true }
    else c
