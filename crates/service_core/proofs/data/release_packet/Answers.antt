use Rattle.service_core.proofs.PacketReads.{reads_none, reads_one}
use Rattle.service_core.proofs.data.release_packet.Goals.{then-frames-ne0, else-frames-ne0}
use Rattle.service_core.proofs.data.release_packet.Goals as goal

pub returns-clause-read : goal.returns-clause-read
returns-clause-read g c = elim c.if-frames-ne0.branch [
  | then-frames-ne0 w ↦ reads_one g.F.FrameStore.kept c.args.entry.now c.check.new.entry c.if-frames-ne0.entry
      c.args.frames c.requires.side c.in_ok-words.ensures.looked w.client_retire.new.self w.min-packet.result
      c.in_ok-words.words w.client_retire.result w.if-frames-ne0.true w.entry-is c.in_ok-words.ensures.count
      w.min-packet.ensures c.in_ok-words.ensures.row w.client_retire.ensures
  | else-frames-ne0 w ↦ reads_none g.F.FrameStore.kept c.args.entry.now c.check.new.entry c.if-frames-ne0.entry
      c.args.frames c.requires.side c.in_ok-words.ensures.looked w.if-frames-ne0.false w.entry-is
]
