-- Every run has the headline, by the laws of the stage.
use Rattle.std.proofs.Common.{List, [], sym, subst}
use Rattle.ca_stage.specs.Stage.{empty_stage, Frame}
use Rattle.ca_stage.specs.Moves.{Move, after_moves}
use Rattle.ca_stage.specs.Fates.{pending_of, fates}
use Rattle.ca_stage.specs.Tally.{Tally}
use Rattle.ca_stage.specs.Order.{clients}
use Rattle.ca_stage.specs.Laws.{Conservation, Totals, Tallies, ClosedIsEmpty, OneSound, NothingAhead, PlacesRise}
use Rattle.ca_stage.specs.Laws.{MixSums, Positions, Silence, PresentIsWhole, PresentGoesOn, Booked, ReadInOrder}
use Rattle.ca_stage.specs.Laws.{PacketsComeFrom, IsKept, IsTally}
use Rattle.ca_machine.specs.State.{empty_state}
use Rattle.ca_machine.specs.Step.{moves_of}
use Rattle.ca_machine.specs.Headline.{RunsHaveHeadline}
use Rattle.ca_machine.proofs.StateInOrder.{empty_in_order}
use Rattle.ca_machine.proofs.Runs.{UpholdsRun, upholds_run}

-- the laws of the stage that the headline takes up
pub record StageLaws : Type 0 where
  pub conservation : Conservation
  pub totals : Totals
  pub tallies : Tallies
  pub closed_is_empty : ClosedIsEmpty
  pub positions : Positions
  pub one_sound : OneSound
  pub nothing_ahead : NothingAhead
  pub places_rise : PlacesRise
  pub mix_sums : MixSums
  pub silence : Silence
  pub present_is_whole : PresentIsWhole
  pub present_goes_on : PresentGoesOn
  pub booked : Booked
  pub read_in_order : ReadInOrder
  pub packets_come_from : PacketsComeFrom

pub runs_have_headline : StageLaws → RunsHaveHeadline
runs_have_headline laws entries new r =
    let ms : List Move = moves_of entries in
    let f : UpholdsRun [] empty_state entries new =
    upholds_run (record { is_whole = laws.present_is_whole; goes_on = laws.present_goes_on }) [] empty_state new entries
    empty_in_order r in
    record {
      stands = f.order.stands;
      gone = f.order.gone;
      released = f.hands;
      kept = λ n.
          subst
          (λ (frames : List Frame). IsKept (pending_of n (after_moves empty_stage ms)) frames (fates n empty_stage ms))
          (f.hands n) (laws.conservation n ms);
      totals = laws.totals ms;
      tally =
          subst (λ (t : Tally). IsTally t (clients (after_moves empty_stage ms)) ms) (sym f.order.tally)
          (laws.tallies ms);
      closed_is_empty = λ n s e c. laws.closed_is_empty n s ms e c;
      positions = λ n s e. laws.positions n s ms e;
      once = λ number place h. laws.one_sound number place ms f.order.woven h;
      ahead = λ number place h. laws.nothing_ahead number place ms f.order.woven h;
      rises = λ n. laws.places_rise n ms f.order.woven;
      sums = laws.mix_sums;
      mixes = f.mixes;
      packets = λ n s e. laws.booked n s ms e;
      reads = λ n. laws.read_in_order n ms;
      sources = λ n s e. laws.packets_come_from n s ms f.order.woven e;
      silent = λ n s before rest e h c. laws.silence n s (moves_of before) (moves_of rest) h c;
      plays = f.plays;
    }
