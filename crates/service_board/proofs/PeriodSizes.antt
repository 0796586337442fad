-- The period of a stream that is open: it has some frame, and few.
use Rattle.std.proofs.Common.{◌≡◌, ℕ, ◌+◌, ◌≤◌, Some, subst, arith}
use Rattle.std.specs.List.{slice_get}
use Rattle.std.proofs.lemmas.Option.{get_or_from_slice_get, slice_get_within}
use Rattle.ca_base.specs.declared.ids.Gate.TheVariants as gate
use Rattle.ca_base.specs.declared.limits.TheConstants.{MAX_STORE_WORDS}
use Rattle.buffer_ring.specs.declared.step.EndState.{EndState}
use Rattle.period_engine.specs.declared.entry.StreamEntry.{StreamEntry}
use Rattle.service_board.specs.InOrder.{Belongs, InOrder, IsOn}
use Rattle.service_board.specs.declared.board.Board.{Board}

-- an open entry of a board in order
module _ {D E : Type 0} (state : E → EndState) (b : Board D E) (at : ℕ) (e : StreamEntry E)
    (here : slice_get b.entries.items at ≡ Some e) (opens : e.gate ≡ gate.Open) (order : InOrder state b) where
  on_there : IsOn e b.book.registry.list b.seats.items
  on_there =
      (subst (Belongs b.book b.seats.items) (get_or_from_slice_get b.entries.items at e e here)
      (order.belong at e (slice_get_within b.entries.items at e here))).opens opens

  pub some_period_at : 1 ≤ e.period
  some_period_at = on_there.some

  pub few_period_at : e.period + 1 ≤ MAX_STORE_WORDS
  few_period_at = let longest = on_there.longest in omega arith
