-- The entry of a client's stream (this project's own).
use Rattle.std.specs.Prelude.{ℕ, ◌==◌, Bool}
use Rattle.period_engine.specs.declared.entry.StreamEntry.{StreamEntry}

-- the entry of a client
abbrev pub is_entry_of : {E : Type 0} → ℕ → StreamEntry E → Bool
is_entry_of client e = e.client.0 == client
