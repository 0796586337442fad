-- What a board gives up when clients leave (this project's own).
use Rattle.std.specs.Prelude.{◌≡◌, ℕ, List, [], ◌∷◌, filter, None}
use Rattle.std.specs.List.{All}
use Rattle.std.specs.Vec.{vec_capacity}
use Rattle.ca_base.specs.declared.ids.Gate.TheVariants as gate
use Rattle.ca_base.specs.declared.ids.Reason.TheVariants.{Released}
use Rattle.buffer_ring.specs.declared.step.Deed.TheVariants as deed
use Rattle.buffer_ring.specs.declared.step.StoreStep.{StoreStep}
use Rattle.buffer_ring.specs.declared.step.StoreStep.TheVariants as step
use Rattle.period_engine.specs.declared.entry.StreamEntry.{StreamEntry}
use Rattle.stream_entries.specs.Leaving.{Keeps, is_in_use}
use Rattle.service_board.specs.Does.{store_at}
use Rattle.service_board.specs.declared.board.Board.{Board}

-- streams of no live client go, and then sessions of no stream; the rest is as it was
pub record Forgets {D E : Type 0} (moves : E → List StoreStep → E → Type 0) (old new : Board D E) : Type 0 where
  pub streams : Keeps moves old.book.clients.items old.entries.items new.entries.items
  pub sessions : new.book.sessions.list ≡ filter (is_in_use new.entries.items) old.book.sessions.list
  pub made : new.book.sessions.made ≡ old.book.sessions.made
  pub rest : new ≡ record old {
    entries = new.entries;
    book = record (old.book) { sessions = new.book.sessions };
  }
  pub room : vec_capacity new.entries ≡ vec_capacity old.entries

-- each store that was open and is gone was closed
abbrev pub AreClosed : {E : Type 0} → (E → List StoreStep → E → Type 0) → List (StreamEntry E) → List (StreamEntry E)
    → Type 0
AreClosed {E} moves old new =
    All (λ e. e.gate ≡ gate.Open → store_at e.client.0 new ≡ None →
    (found : ℕ) × (last : E) × moves e.store (step.Acts found gate.Open (deed.Closes Released) ∷ []) last) old
