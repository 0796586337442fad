-- Clients that are still there when others leave (this project's own).
use Rattle.std.specs.Prelude.{ℕ, ◌==◌, List, Bool}
use Rattle.std.specs.List.{list_any}
use Rattle.ca_machine.specs.declared.state.Client.{Client}

-- one of these clients has this number
abbrev pub is_live : List Client → ℕ → Bool
is_live clients number = list_any (λ c. c.client.0 == number) clients
