-- On a board in order no endpoint and no client is noted twice.
use Rattle.std.proofs.Common.{◌≡◌, ℕ, ◌<◌, nat_eq, List, [], ◌∷◌, map, false, suc, subst, sym, arith, ◌∙◌}
use Rattle.std.specs.List.{AllByRecursion, IsDistinct}
use Rattle.std.proofs.lemmas.Bool.{ne_eqb}
use Rattle.buffer_ring.specs.declared.step.EndState.{EndState}
use Rattle.buffer_ring.specs.Kept.{Kept}
use Rattle.ca_stage.specs.Order.{RisesFrom}
use Rattle.ca_stage.specs.Tally.{Tally}
use Rattle.ca_stage.proofs.Lists.{map_map}
use Rattle.step_notices.specs.Notes.{Notes}
use Rattle.ca_machine.specs.Notices.{noted, noted_endpoint, noted_stream}
use Rattle.period_engine.specs.Entries.{stream_of, streams_of}
use Rattle.service_board.specs.InOrder.{InOrder}
use Rattle.service_board.specs.declared.board.Board.{Board}
use Rattle.service_core.specs.Core.{core_datas, core_state}
use Rattle.service_core.specs.declared.both_ends.BothEnds.{BothEnds}

lt_apart : (n k : ℕ) → n < k → nat_eq n k ≡ false
lt_apart n k lt = ne_eqb n k (λ e. omega (arith, e, lt))

-- no number of a rising list is one of those behind it
lacks : (n low : ℕ) (ns : List ℕ) → n < low → RisesFrom low ns → AllByRecursion (λ k. nat_eq n k ≡ false) ns
lacks n low [] lt r = tt
lacks n low (k ∷ ns) lt r = (lt_apart n k (omega (arith, r.0, lt)), lacks n (suc k) ns (omega (arith, r.0, lt)) r.1)

pub rises_apart : (low : ℕ) (ns : List ℕ) → RisesFrom low ns → IsDistinct nat_eq ns
unfolding IsDistinct
rises_apart low [] r = tt
rises_apart low (n ∷ ns) r = (lacks n (suc n) ns (omega arith) r.1, rises_apart (suc n) ns r.1)

-- notes in which each endpoint and each client stands once
pub record AreApart (n : Notes) : Type 0 where
  pub endpoints : IsDistinct nat_eq (map (λ e. e.no.0) n.endpoints)
  pub clients : IsDistinct nat_eq (map (λ s. s.client.0) n.streams)

pub notes_apart : {D F : Type 0} (kept : F → Kept) (state : F → EndState) (b : Board D (BothEnds F)) (tally : Tally) →
    InOrder (λ ends. state ends.store) b → AreApart (noted (core_state kept tally b))
notes_apart kept state b tally order =
    let datas = core_datas kept b.entries.items in
    record {
      endpoints = subst (IsDistinct nat_eq) (sym (map_map (λ e. e.no.0) noted_endpoint b.book.registry.list))
          (rises_apart 0 _ order.book.endpoints);
      clients = subst (IsDistinct nat_eq)
          (sym (map_map (λ s. s.client.0) noted_stream (streams_of datas b.entries.items)
          ∙ map_map (λ s. s.client) (stream_of datas) b.entries.items))
          (rises_apart 0 _ order.order);
    }
