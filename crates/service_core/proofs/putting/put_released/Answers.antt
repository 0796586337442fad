use Rattle.service_core.proofs.SilentFrames.{silence_released}
use Rattle.service_core.proofs.putting.put_released.Goals as goal

pub returns-then-flags-eq-BUFFER_SILENT-clause-frames : goal.returns-then-flags-eq-BUFFER_SILENT-clause-frames
returns-then-flags-eq-BUFFER_SILENT-clause-frames g c channels is =
    silence_released c.args.frames c.args.flags c.args.bytes.now (g.F.FrameStore.kept c.args.store.now).words
    (g.F.FrameStore.kept c.put_silence.new.store).words channels c.if-flags-eq-BUFFER_SILENT.true
    c.put_silence.ensures.words
