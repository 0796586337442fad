-- What became of all frames, as a machine's state says it (this project's own).
use Rattle.std.specs.Prelude.{◌≡◌, ◌+◌, min}
use Rattle.std.specs.List.{sum_by}
use Rattle.ca_base.specs.declared.limits.TheConstants.{MAX_TALLY}
use Rattle.ca_stage.specs.Stage.{padding}
use Rattle.ca_machine.specs.State.{State}
use Rattle.service_core.specs.declared.totals.Totals.{Totals}

-- totals are those of a state: its tally, the frames that wait in its streams, and all of them together, up to the
-- greatest count
pub record Reports (st : State) (t : Totals) : Type 0 where
  pub rendered : t.rendered ≡ st.tally.rendered
  pub reset : t.reset ≡ st.tally.reset
  pub dropped : t.dropped ≡ st.tally.dropped
  pub padding : t.padding ≡ sum_by padding st.stage.streams
  pub released : t.released ≡ min MAX_TALLY (t.rendered + t.reset + t.dropped + t.padding)
