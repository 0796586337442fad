use Rattle.std.proofs.Common.{sym, subst, ◌∙◌}
use Rattle.event_loop.specs.Ends.{Ends, moment}
use Rattle.event_loop.specs.declared.ends.LoopEnd.TheVariants as ends
use Rattle.audio_daemon.specs.Run.{Replayed}
use Rattle.audio_daemon.proofs.Complete.{run_completes}
use Rattle.audio_daemon.proofs.Replays.{lifted, nothing_began}
use Rattle.audio_daemon.proofs.RunStatus.{has_ended}
use Rattle.audio_daemon.proofs.run.run.Goals as goal

-- the core's tables found no memory
pub returns-in-Err-clause-ends : goal.returns-in-Err-clause-ends
returns-in-Err-clause-ends g c =
    let faults = g.D.Devices.faults in
    let told = g.D.Devices.told in
    let left = g.S.Source.left c.args.input.now in
    let written = g.K.Sink.written c.args.output.now in
    let before = moment left written c.args.devices in
    record {
      words_are = sym c.are_replay.ensures ∙ c.if-not-are_replay.false;
      ends =
          subst (λ d. Ends (Replayed faults told) before (moment left written d) ends.NoMemory)
          (sym c.in-Err.ensures.err) (nothing_began faults told c.headline.ensures left written c.args.devices);
    }

pub returns-clause-ends : goal.returns-clause-ends
returns-clause-ends g c =
    let faults = g.D.Devices.faults in
    let told = g.D.Devices.told in
    let core = c.in-Ok.core in
    let after = c.answer_events-end.new.desk in
    let end = c.answer_events-end.result in
    has_ended faults told c.args.words.now c.args.devices c.into_devices.result core.devices after.devices _ _ _ _ end
    c.into.result c.in-Ok.ensures.devices c.into_devices.ensures c.into.ensures
    (sym c.are_replay.ensures ∙ c.if-not-are_replay.false)
    (lifted faults told c.headline.ensures core c.in-Ok.ensures.state _ _ _ _ after end
    c.answer_events-end.ensures.ends)

pub returns-clause-completes : goal.returns-clause-completes
returns-clause-completes g c =
    run_completes g.D.Devices.faults g.D.Devices.told c.args.words.now _ _ _ _ _ _ c.answer_events-end.result
    c.into.result c.into.ensures (returns-clause-ends g c) c.answer_events-end.ensures.source
    c.answer_events-end.ensures.sink
