-- Clients that leave: their open streams are closed at once, and what these had pending is dropped.
use Rattle.std.proofs.Common.{◌≡◌, ℕ, ◌≤◌, List, map, true, false, sym, ap, ◌∙◌, sum_by}
use Rattle.ca_base.specs.declared.ids.Reason.TheVariants.{Released}
use Rattle.ca_base.specs.declared.limits.TheConstants.{MAX_TALLY}
use Rattle.ca_stage.specs.Stage.{Stage, padding}
use Rattle.ca_stage.specs.Moves.{closed, of_client, after_moves}
use Rattle.ca_stage.specs.Tally.{Tally, counted, tally_after}
use Rattle.ca_stage.specs.Order.{clients, is_among, RisesFrom}
use Rattle.ca_stage.specs.Present.{present}
use Rattle.ca_stage.proofs.Lists.{map_map}
use Rattle.ca_stage.proofs.MapMoves.{moves_to, is_open_among, moved_where, all_closed, present_closed}
use Rattle.ca_stage.proofs.MapTallies.{amount_where, closes_tally}
use Rattle.ca_machine.specs.declared.state.Client.{Client}
use Rattle.ca_machine.specs.State.{live_clients}
use Rattle.ca_machine.specs.Clients.{closes}

pub closes_are : (gone : List Client) → closes gone ≡ moves_to (closed Released) (live_clients gone)
closes_are gone = sym (map_map (λ n. of_client n (closed Released)) (λ c. c.client.0) gone)

pub stage_after_closes : (gone : List Client) (st : Stage) →
    after_moves st (closes gone)
    ≡ record st { streams = map (moved_where (is_open_among (live_clients gone)) (closed Released)) st.streams }
stage_after_closes gone st = ap (after_moves st) (closes_are gone) ∙ all_closed Released (live_clients gone) st

pub tally_after_closes : (gone : List Client) (st : Stage) (t : Tally) → RisesFrom 0 (clients st) →
    t.dropped ≤ MAX_TALLY →
    tally_after t st (closes gone)
    ≡ record t {
      dropped = counted t.dropped (sum_by (amount_where (is_open_among (live_clients gone)) padding) st.streams);
    }
tally_after_closes gone st t r l =
    ap (tally_after t st) (closes_are gone) ∙ closes_tally Released (live_clients gone) st t r l

-- the streams of clients that are left are as before
pub present_after_closes : (gone left : List Client) (st : Stage) →
    ((n : ℕ) → is_among n (live_clients left) ≡ true → is_among n (live_clients gone) ≡ false) →
    present (live_clients left) (after_moves st (closes gone)) ≡ present (live_clients left) st
present_after_closes gone left st h =
    ap (λ xs. present (live_clients left) (after_moves st xs)) (closes_are gone)
    ∙ present_closed Released (live_clients gone) (live_clients left) st h
