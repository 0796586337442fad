use Rattle.std.proofs.Common.{◌∙◌, length, map, refl, false, arith, sym, ap}
use Rattle.std.proofs.lemmas.Option.{none-some}
use Rattle.stream_entries.specs.Events.{with_event}
use Rattle.stream_entries.proofs.Closable.{picked_closable}
use Rattle.stream_entries.specs.Holding.{period_frames}
use Rattle.service_board.proofs.PeriodEnds.{failed_ends, whole_ends}
use Rattle.service_board.proofs.PeriodNeeds.{block_fits, end_gains, endpoint_within, entries_feed, entries_playable}
use Rattle.service_board.proofs.PeriodNeeds.{feed_fits, few_channels, its_ends, next_fits, no_state_row, same_size}
use Rattle.service_board.proofs.PeriodNeeds.{seat_within}
use Rattle.service_board.proofs.PeriodNotes.{noted_sounded}
use Rattle.service_board.proofs.Sounding.{entries_read, feeds_left, few_left, heard_plays, sounded_plays}
use Rattle.service_board.proofs.board.Board.play_due.Goals as goal

pub endpoint-endpoint-requires : goal.endpoint-endpoint-requires
endpoint-endpoint-requires g c =
    let within =
    endpoint_within g.E.EngineSide.state c.args.self.now c.requires.order c.args.e.0 c.args.at
    c.requires.found in
    omega arith

pub shared_ref_as_front-ends : goal.shared_ref_as_front-ends
shared_ref_as_front-ends g c =
    few_channels g.E.EngineSide.state c.args.self.now c.requires.order c.args.e.0 c.args.at
    c.requires.found c.endpoint-endpoint.result.now c.endpoint-endpoint.ensures c.period_frames-frames.result
    (c.period_frames-frames.ensures
    ∙ ap (period_frames c.endpoint-endpoint.result.now) c.deref.ensures.value)

pub index_mut-seat-requires : goal.index_mut-seat-requires
index_mut-seat-requires g c =
    let within =
    seat_within g.E.EngineSide.state c.args.self.now c.requires.order c.args.e.0 c.args.at
    c.requires.found in
    omega arith

pub play-requires-clause-entries : goal.play-requires-clause-entries
play-requires-clause-entries g c =
    entries_read g.E.EngineSide.moves g.E.EngineSide.state c.args.self.now c.requires.order
    c.deref_mut-entries.result.now c.deref_mut-entries.ensures.value

pub play-requires-clause-playable : goal.play-requires-clause-playable
play-requires-clause-playable g c =
    rw c.deref_mut-entries.ensures.value (entries_playable g.E.EngineSide.state c.args.self.now c.requires.order
    c.args.e.0 c.args.at c.requires.found c.endpoint-endpoint.result.now c.endpoint-endpoint.ensures
    c.period_frames-frames.result (c.period_frames-frames.ensures
    ∙ ap (period_frames c.endpoint-endpoint.result.now) c.deref.ensures.value))

pub play-requires-clause-ends : goal.play-requires-clause-ends
play-requires-clause-ends g c =
    its_ends g.E.EngineSide.state c.args.self.now c.requires.order c.args.e.0 c.args.at c.requires.found
    c.endpoint-endpoint.result.now c.endpoint-endpoint.ensures c.period_frames-frames.result
    (c.period_frames-frames.ensures
    ∙ ap (period_frames c.endpoint-endpoint.result.now) c.deref.ensures.value)

pub play-requires-clause-block : goal.play-requires-clause-block
play-requires-clause-block g c =
    block_fits g.E.EngineSide.state c.args.self.now c.requires.order c.args.e.0 c.args.at c.requires.found
    c.endpoint-endpoint.result.now c.endpoint-endpoint.ensures c.period_frames-frames.result
    (c.period_frames-frames.ensures
    ∙ ap (period_frames c.endpoint-endpoint.result.now) c.deref.ensures.value) c.index_mut-seat.result.now
    c.index_mut-seat.ensures.value

pub feed_loopback-requires-clause-feedable : goal.feed_loopback-requires-clause-feedable
feed_loopback-requires-clause-feedable g c = (
  length (end_gains c.endpoint-endpoint.result.now.format.channels),
  feed_fits g.E.EngineSide.state c.args.self.now c.requires.order c.args.e.0 c.args.at c.requires.found
      c.endpoint-endpoint.result.now c.endpoint-endpoint.ensures c.period_frames-frames.result
      (c.period_frames-frames.ensures
      ∙ ap (period_frames c.endpoint-endpoint.result.now) c.deref.ensures.value) c.index_mut-seat.result.now
      c.index_mut-seat.ensures.value c.play.new.block
      c.in-Ok.ensures.block,
  feeds_left g.E.EngineSide.moves g.E.EngineSide.state c.args.self.now c.requires.order
      c.deref_mut-entries.result.now c.deref_mut-entries.ensures.value g.met.E.EngineSide.joins c.args.e.0
      c.period_frames-frames.result _ c.play.new.block.bytes c.play.new.all c.retire.new.all _ _ _ _
      c.in-Ok.ensures.sounds c.retire.ensures.turned
      (rw c.deref_mut-entries.ensures.value (entries_feed g.E.EngineSide.state c.args.self.now c.requires.order
      c.args.e.0 c.args.at c.requires.found c.endpoint-endpoint.result.now c.endpoint-endpoint.ensures
      c.period_frames-frames.result (c.period_frames-frames.ensures
      ∙ ap (period_frames c.endpoint-endpoint.result.now) c.deref.ensures.value))),
)

pub overflow_add-seat : goal.overflow_add-seat
overflow_add-seat g c =
    let within =
    next_fits g.E.EngineSide.state c.args.self.now c.requires.order c.args.e.0 c.args.at c.requires.found
    c.endpoint-endpoint.result.now c.endpoint-endpoint.ensures c.period_frames-frames.result
    (c.period_frames-frames.ensures
    ∙ ap (period_frames c.endpoint-endpoint.result.now) c.deref.ensures.value) c.index_mut-seat.result.now
    c.index_mut-seat.ensures.value in
    omega arith

pub unreachable-requires : goal.unreachable-requires
unreachable-requires g c =
    none-some c.in_default.field-0
    (sym (c.in_default.ensures.says
    ∙ no_state_row c.args.self.now c.args.e.0 c.args.at c.requires.found))

pub close_failed-requires-clause-few : goal.close_failed-requires-clause-few
close_failed-requires-clause-few g c =
    few_left g.E.EngineSide.moves g.E.EngineSide.state c.args.self.now c.requires.order c.deref_mut-entries.result.now
    c.deref_mut-entries.ensures.value c.play.new.all c.play.auto.all

pub close_failed-requires-clause-closable : goal.close_failed-requires-clause-closable
close_failed-requires-clause-closable g c =
    picked_closable g.E.EngineSide.state c.args.e.0 c.period_frames-frames.result c.play.new.all
    c.in-Err.ensures.picked

pub returns-in-Ok : goal.returns-in-Ok
returns-in-Ok g c =
    let ends =
    whole_ends g.D.Devices.faults g.D.Devices.told g.E.EngineSide.moves g.E.EngineSide.state c.args.self.now
    c.requires.order c.args.e.0 c.args.at c.requires.found c.play.new.devices c.deref_mut-entries.result.now
    c.feed_loopback.new.all c.endpoint-endpoint.result.now c.period_frames-frames.result c.index_mut-seat.result.now
    c.feed_loopback.new.block
    (record {
      old = c.deref_mut-entries.ensures.value;
      size = c.feed_loopback.auto.all ∙ c.retire.auto.all ∙ c.play.auto.all;
      endpoint = c.endpoint-endpoint.ensures;
      frames_are = (c.period_frames-frames.ensures
          ∙ ap (period_frames c.endpoint-endpoint.result.now) c.deref.ensures.value);
      seat = c.index_mut-seat.ensures.value;
      block_is =
          same_size c.index_mut-seat.result.now.block c.play.new.block c.feed_loopback.new.block c.in-Ok.ensures.block
          c.feed_loopback.ensures.block;
    })
    (heard_plays g.E.EngineSide.moves g.E.EngineSide.state c.args.self.now c.requires.order
    c.deref_mut-entries.result.now c.deref_mut-entries.ensures.value g.met.E.EngineSide.joins c.args.e.0
    c.period_frames-frames.result _ c.play.new.block.bytes c.play.new.all c.retire.new.all _ _ _ _
    c.in-Ok.ensures.sounds c.retire.ensures.turned c.feed_loopback.new.all c.in-Ok.ensures.picked
    (rw c.deref_mut-entries.ensures.value (entries_feed g.E.EngineSide.state c.args.self.now c.requires.order
    c.args.e.0 c.args.at c.requires.found c.endpoint-endpoint.result.now c.endpoint-endpoint.ensures
    c.period_frames-frames.result (c.period_frames-frames.ensures
    ∙ ap (period_frames c.endpoint-endpoint.result.now) c.deref.ensures.value)))
    (c.feed_loopback.ensures.turned (length (end_gains c.endpoint-endpoint.result.now.format.channels))))
    c.feed_loopback.ensures.rested c.set_events.new.clients
    (c.set_events.ensures ∙ ap (map (with_event c.args.e.0 c.feed_loopback.new.all)) c.deref_mut-clients.ensures.value)
    c.requires.plays c.requires.fresh in
    record {
      does = ends.0;
      order = ends.1;
      plays = tt;
      notes = λ datas tally. refl;
    }

pub returns-in-Ok-set_state : goal.returns-in-Ok-set_state
returns-in-Ok-set_state g c =
    let ends =
    failed_ends g.D.Devices.faults g.D.Devices.told g.E.EngineSide.moves g.E.EngineSide.state c.args.self.now
    c.requires.order c.args.e.0 c.args.at c.requires.found c.play.new.devices c.deref_mut-entries.result.now
    c.close_failed.new.all c.endpoint-endpoint.result.now c.period_frames-frames.result c.index_mut-seat.result.now
    c.play.new.block
    (record {
      old = c.deref_mut-entries.ensures.value;
      size = c.close_failed.auto.all ∙ c.play.auto.all;
      endpoint = c.endpoint-endpoint.ensures;
      frames_are = (c.period_frames-frames.ensures
          ∙ ap (period_frames c.endpoint-endpoint.result.now) c.deref.ensures.value);
      seat = c.index_mut-seat.ensures.value;
      block_is = c.in-Err.ensures.block;
    })
    (sounded_plays g.E.EngineSide.moves g.E.EngineSide.state c.args.self.now c.requires.order
    c.deref_mut-entries.result.now c.deref_mut-entries.ensures.value g.met.E.EngineSide.joins c.args.e.0
    c.period_frames-frames.result false _ _ c.play.new.all c.close_failed.new.all _ _ _ _ c.in-Err.ensures.sounds
    c.in-Err.ensures.picked c.close_failed.ensures.turned)
    c.close_failed.ensures.rested c.set_state.new.self c.in-Ok-set_state.ensures.now
    c.close_failed.new.before
    c.requires.plays c.requires.fresh in
    record {
      does = ends.0;
      order = ends.1;
      plays = tt;
      notes = λ datas tally.
          c.close_failed.ensures.notes
          ∙ noted_sounded g.E.EngineSide.moves c.args.self.now c.args.e.0 c.period_frames-frames.result _ _ false
          c.deref_mut-entries.result.now c.play.new.all _ _ _ _ c.deref_mut-entries.ensures.value
          c.in-Err.ensures.sounds datas tally;
    }
