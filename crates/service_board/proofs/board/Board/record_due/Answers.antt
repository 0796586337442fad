use Rattle.std.proofs.Common.{◌∙◌, ◌==◌, map, refl, sym, ap, if◌then◌else◌}
use Rattle.std.proofs.lemmas.Option.{none-some}
use Rattle.stream_entries.specs.Events.{with_event}
use Rattle.stream_entries.specs.Holding.{period_frames}
use Rattle.service_board.proofs.PeriodNeeds.{entries_record, no_state_row, record_fits}
use Rattle.stream_entries.specs.Events.{with_event}
use Rattle.service_board.proofs.PeriodNeeds.{some_frame}
use Rattle.service_board.proofs.PeriodNotes.{noted_read}
use Rattle.service_board.proofs.RecordEnds.{idle_does, lost_ends, none_read, recorded_ends, some_read}
use Rattle.service_board.proofs.Sounding.{few_left}
use Rattle.service_board.proofs.board.Board.record_due.Goals as goal

pub returns-then-not-is_recorded-clause-does : goal.returns-then-not-is_recorded-clause-does
returns-then-not-is_recorded-clause-does g c =
    idle_does g.D.Devices.faults g.D.Devices.told g.E.EngineSide.moves g.E.EngineSide.state c.args.self.now
    c.requires.order c.args.e.0 c.args.at c.requires.found c.requires.records g.met.E.EngineSide.none
    (none_read c.args.e.0 c.deref.result.now c.args.self.now.entries.items c.is_recorded.result c.deref.ensures.value
    c.is_recorded.ensures c.if-not-is_recorded.true)

pub feed_capture-requires-clause-rested : goal.feed_capture-requires-clause-rested
feed_capture-requires-clause-rested g c = rw c.deref_mut-entries.ensures.value c.requires.order.rested

pub feed_capture-requires-clause-some : goal.feed_capture-requires-clause-some
feed_capture-requires-clause-some g c =
    some_frame g.E.EngineSide.state c.args.self.now c.requires.order c.args.e.0 c.args.at c.requires.found
    c.endpoint-endpoint.result.now c.endpoint-endpoint.ensures c.period_frames-frames.result
    (c.period_frames-frames.ensures
    ∙ ap (period_frames c.endpoint-endpoint.result.now) c.deref-2.ensures.value)

pub feed_capture-requires-clause-room : goal.feed_capture-requires-clause-room
feed_capture-requires-clause-room g c =
    record_fits g.E.EngineSide.state c.args.self.now c.requires.order c.args.e.0 c.args.at c.requires.found
    c.endpoint-endpoint.result.now c.endpoint-endpoint.ensures c.period_frames-frames.result
    (c.period_frames-frames.ensures
    ∙ ap (period_frames c.endpoint-endpoint.result.now) c.deref-2.ensures.value) c.index_mut-seat.result.now
    c.index_mut-seat.ensures.value

pub feed_capture-requires-clause-feedable : goal.feed_capture-requires-clause-feedable
feed_capture-requires-clause-feedable g c =
    rw c.deref_mut-entries.ensures.value (entries_record g.E.EngineSide.state c.args.self.now c.requires.order
    c.args.e.0 c.args.at c.requires.found c.endpoint-endpoint.result.now c.endpoint-endpoint.ensures
    c.period_frames-frames.result (c.period_frames-frames.ensures
    ∙ ap (period_frames c.endpoint-endpoint.result.now) c.deref-2.ensures.value))

pub close_failed-requires-clause-few : goal.close_failed-requires-clause-few
close_failed-requires-clause-few g c =
    few_left g.E.EngineSide.moves g.E.EngineSide.state c.args.self.now c.requires.order c.deref_mut-entries.result.now
    c.deref_mut-entries.ensures.value c.feed_capture.new.all c.feed_capture.auto.all

pub unreachable-requires : goal.unreachable-requires
unreachable-requires g c =
    none-some c.in_default.field-0
    (sym (c.in_default.ensures.says ∙ no_state_row c.args.self.now c.args.e.0 c.args.at c.requires.found))

pub returns-in-Ok : goal.returns-in-Ok
returns-in-Ok g c =
    let ends =
    recorded_ends g.D.Devices.faults g.D.Devices.told g.E.EngineSide.moves g.E.EngineSide.state c.args.self.now
    c.requires.order c.args.e.0 c.args.at c.requires.found c.requires.records c.feed_capture.new.devices
    c.deref_mut-entries.result.now c.feed_capture.new.all c.endpoint-endpoint.result.now c.period_frames-frames.result
    c.index_mut-seat.result.now c.feed_capture.new.block
    (record {
      old = c.deref_mut-entries.ensures.value;
      size = c.feed_capture.auto.all;
      endpoint = c.endpoint-endpoint.ensures;
      frames_are = (c.period_frames-frames.ensures
          ∙ ap (period_frames c.endpoint-endpoint.result.now) c.deref-2.ensures.value);
      seat = c.index_mut-seat.ensures.value;
      block_is = c.in-Ok.ensures.block;
    })
    c.in-Ok.frames
    (some_read c.args.e.0 c.deref.result.now c.deref_mut-entries.result.now c.args.self.now.entries.items
    c.is_recorded.result c.deref.ensures.value c.deref_mut-entries.ensures.value c.is_recorded.ensures
    c.if-not-is_recorded.false)
    c.in-Ok.ensures.captures c.set_recorded_events.new.clients
    (c.set_recorded_events.ensures
    ∙ ap (λ xs. if c.in-Ok.frames == 0 then xs else map (with_event c.args.e.0 c.feed_capture.new.all) xs)
    c.deref_mut-clients.ensures.value) c.in-Ok.ensures.rested in
    record {
      does = ends.0;
      order = ends.1;
      plays = tt;
      notes = λ datas tally. refl;
    }

pub returns-in-Ok-set_state : goal.returns-in-Ok-set_state
returns-in-Ok-set_state g c =
    let ends =
    lost_ends g.D.Devices.faults g.D.Devices.told g.E.EngineSide.moves g.E.EngineSide.state c.args.self.now
    c.requires.order c.args.e.0 c.args.at c.requires.found c.requires.records c.feed_capture.new.devices
    c.deref_mut-entries.result.now c.close_failed.new.all c.endpoint-endpoint.result.now c.period_frames-frames.result
    c.index_mut-seat.result.now c.feed_capture.new.block
    (record {
      old = c.deref_mut-entries.ensures.value;
      size = c.close_failed.auto.all ∙ c.feed_capture.auto.all;
      endpoint = c.endpoint-endpoint.ensures;
      frames_are = (c.period_frames-frames.ensures
          ∙ ap (period_frames c.endpoint-endpoint.result.now) c.deref-2.ensures.value);
      seat = c.index_mut-seat.ensures.value;
      block_is = c.in-Err.ensures.block;
    })
    c.set_state.new.self c.in-Ok-set_state.ensures.now c.close_failed.new.before g.met.E.EngineSide.joins
    c.feed_capture.new.all c.in-Err.field-0
    (some_read c.args.e.0 c.deref.result.now c.deref_mut-entries.result.now c.args.self.now.entries.items
    c.is_recorded.result c.deref.ensures.value c.deref_mut-entries.ensures.value c.is_recorded.ensures
    c.if-not-is_recorded.false)
    c.in-Err.ensures.captures c.close_failed.ensures.turned c.close_failed.ensures.rested in
    record {
      does = ends.0;
      order = ends.1;
      plays = tt;
      notes = λ datas tally.
          c.close_failed.ensures.notes
          ∙ noted_read g.E.EngineSide.moves c.args.self.now c.deref_mut-entries.result.now c.feed_capture.new.all
          c.deref_mut-entries.ensures.value c.in-Err.ensures.captures.turned datas tally;
    }
