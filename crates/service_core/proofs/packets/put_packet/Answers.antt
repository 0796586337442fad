use Rattle.std.proofs.Common.{◌≡◌, ◌+◌, ◌*◌, ◌/◌, ◌%◌, ◌==◌, ◌++◌, length, take, drop, sym, ap, ap₂, arith, ◌∙◌}
use Rattle.std.proofs.lemmas.List.{length-take}
use Rattle.reply_payload.specs.Packets.{frames_bytes, packet_head}
use Rattle.service_core.proofs.PacketPuts.{batch_fits, batch_put, batch_size, looked_on, packet_is, read_words}
use Rattle.service_core.proofs.packets.put_packet.Goals as goal

pub loop-place-preserved : goal.loop-place-preserved
loop-place-preserved g c =
    let inv = c.loop-place.invariant in
    let kept = g.F.FrameStore.kept in
    let place = c.loop-place.place in
    let count = c.min-count.result in
    let channels = c.args.entry.now.channels in
    let words = (kept c.args.entry.now.store.store).words in
    let same_period : c.loop-place.entry.period ≡ c.args.entry.now.period = ap (λ e. e.period) inv.looked.same in
    let same_channels : c.loop-place.entry.channels ≡ channels = ap (λ e. e.channels) inv.looked.same in
    let size : length c.read.new.words ≡ count = c.read.auto.words ∙ rw length-take (omega arith) in
    let read = read_words (kept c.loop-place.entry.store.store) (kept c.read.new.self) (1 + place) c.read.new.words
    (g.met.F.FrameStore.exact _ _ _ c.read.ensures.reads) in
    let here : take count (drop (1 + place) words) ≡ c.read.new.words =
    ap (λ n. take n (drop (1 + place) words)) (sym size)
    ∙ ap (λ k. take (length c.read.new.words) (drop (1 + place) k.words)) (sym inv.looked.store)
    ∙ read.1 in
    record {
      looked = looked_on kept c.args.entry.now c.loop-place.entry inv.looked c.read.new.self read.0;
      within = omega arith;
      head = inv.head;
      list = c.add_frames.ensures.list
          ∙ ap (λ n. c.loop-place.out.list ++ frames_bytes n c.read.new.words) same_channels
          ∙ batch_put channels place count
          (packet_head c.args.entry.now.period (c.client_get-head.result % 2 == 1) (c.client_get-head.result / 2))
          c.loop-place.out.list words c.read.new.words inv.list here;
      size = c.add_frames.ensures.length
          ∙ ap₂ (λ k n. k + n) inv.size (ap₂ (λ k n. k * (n * 2)) size same_channels)
          ∙ batch_size channels place count;
      room = omega (arith, inv.room, c.add_frames.ensures.keeps);
    }
