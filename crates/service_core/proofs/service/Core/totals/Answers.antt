use Rattle.std.proofs.Common.{subst, ◌∙◌}
use Rattle.ca_base.specs.declared.limits.TheConstants.{MAX_TALLY}
use Rattle.ca_machine.specs.View.{MachineView}
use Rattle.service_core.specs.Totals.{Reports}
use Rattle.service_core.proofs.WaitingFrames.{reports, saturated, still_core, still_view}
use Rattle.service_core.proofs.service.Core.totals.Goals as goal

pub invariant_of-self : goal.invariant_of-self
invariant_of-self g c =
    still_core g.F.FrameStore.kept g.F.EngineSide.state g.met.F.FrameStore.whole c.self.inside.board
    c.pending-padding.new.board c.pending-padding.ensures.looked c.self.invariant

pub returns-clause-totals : goal.returns-clause-totals
returns-clause-totals g c =
    let counts = c.self.inside.tally in
    let waits = c.pending-padding.result in
    let all = saturated MAX_TALLY counts.rendered counts.reset counts.dropped waits c.saturating_add.result
    c.saturating_add-2.result c.saturating_add-3.result c.saturating_add.ensures c.saturating_add-2.ensures
    c.saturating_add-3.ensures in
    subst (λ (v : MachineView g.row.D.Denot). Reports v.state (record {
      released = c.saturating_add-3.result;
      rendered = counts.rendered;
      padding = waits;
      reset = counts.reset;
      dropped = counts.dropped;
    })) c.self.view_is
    (reports g.F.FrameStore.kept c.self.inside.board counts waits c.saturating_add-3.result
    c.self.invariant.order.order c.pending-padding.ensures.count all)

pub returns-clause-same : goal.returns-clause-same
returns-clause-same g c =
    still_view g.F.FrameStore.kept g.F.EngineSide.state g.met.F.FrameStore.whole c.self.inside.board
    c.pending-padding.new.board c.pending-padding.ensures.looked c.self.inside.tally
    ∙ c.self.view_is
