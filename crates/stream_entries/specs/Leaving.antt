-- What becomes of entries when clients leave (this project's own).
use Rattle.std.specs.Prelude.{◌≡◌, ℕ, ◌==◌, List, [], ◌∷◌, filter, Bool, true, false}
use Rattle.std.specs.List.{All, list_any}
use Rattle.ca_base.specs.declared.ids.Gate.TheVariants as gate
use Rattle.ca_base.specs.declared.ids.Reason.TheVariants.{Released}
use Rattle.buffer_ring.specs.declared.step.Deed.TheVariants as deed
use Rattle.buffer_ring.specs.declared.step.StoreStep.{StoreStep}
use Rattle.buffer_ring.specs.declared.step.StoreStep.TheVariants as step
use Rattle.session_manager.specs.declared.session.Session.{Session}
use Rattle.ca_machine.specs.declared.state.Client.{Client}
use Rattle.period_engine.specs.declared.entry.StreamEntry.{StreamEntry}
use Rattle.service_book.specs.Leaving.{is_live}

-- the entry is that of one of these clients
abbrev pub is_of_live : {E : Type 0} → List Client → StreamEntry E → Bool
is_of_live clients e = is_live clients e.client.0

-- one of these entries is of a stream of this session
abbrev pub is_in_use : {E : Type 0} → List (StreamEntry E) → Session → Bool
is_in_use entries s = list_any (λ e. e.session.0 == s.no.0) entries

-- one step: the gate was open and was closed, since the client is released
abbrev pub ClosesOnce : List StoreStep → Type 0
ClosesOnce steps = (found : ℕ) × (steps ≡ step.Acts found gate.Open (deed.Closes Released) ∷ [])

-- a store goes after these steps of its own: an open one is closed
pub record Goes {E : Type 0} (moves : E → List StoreStep → E → Type 0) (e : StreamEntry E) : Type 0 where
  pub steps : List StoreStep
  pub last : E
  pub made : moves e.store steps last
  pub closes : e.gate ≡ gate.Open → ClosesOnce steps

-- an entry of one of these clients stays as it was; the store of another one goes
pub record Parts {E : Type 0} (moves : E → List StoreStep → E → Type 0) (clients : List Client) (a b : StreamEntry E)
    : Type 0
  where
    pub client : b.client ≡ a.client
    pub stays : is_of_live clients a ≡ true → b ≡ a
    pub goes : is_of_live clients a ≡ false → Goes moves a

-- the entries of these clients are left as they were, and the stores of the others go
pub record Keeps {E : Type 0} (moves : E → List StoreStep → E → Type 0) (clients : List Client)
    (old new : List (StreamEntry E)) : Type 0
  where
    pub left : new ≡ filter (is_of_live clients) old
    pub gone : All (λ e. is_of_live clients e ≡ false → Goes moves e) old
