use Rattle.std.proofs.Common.{◌≡◌, ◌-◌, ◌*◌, ◌/◌, length, drop, replicate, refl, sym, ap, subst, ◌∙◌}
use Rattle.std.specs.Prelude.{flat_map, true}
use Rattle.std.proofs.lemmas.List.{length-take-le}
use Rattle.period_engine.specs.Feeds.{AreGiven}
use Rattle.period_engine.proofs.GivenFrames.{frames_written, length-behind, whole_are}
use Rattle.period_engine.proofs.device_read.read_frames.Goals as goal

pub returns : goal.returns
returns g c =
    let p = c.args.p in
    let channels = c.args.channels in
    let size = p * channels * 2 in
    let gave = c.in_ok-whole.ensures in
    let n = c.in_ok-whole.field-0 in
    let bytes = c.read_bytes.new.bytes in
    let given = flat_map (λ piece. piece) gave.pieces in
    let at = n / (channels * 2) * (channels * 2) in
    let long : length bytes ≡ size = c.read_bytes.auto.bytes ∙ length-take-le size c.args.bytes.now c.requires.room in
    let silent : c.fill.new.self ≡ replicate (length bytes - at) 0 = c.fill.ensures.after (λ y h. h)
    ∙ ap (λ k. replicate k 0) (length-behind (size - at) at bytes (drop size c.args.bytes.now)
    (ap (λ k. k - at) (sym long))) in
    record {
      pieces = gave.pieces;
      given = subst (λ k. AreGiven k gave.pieces true) long gave.given;
      tells = gave.tells;
      rises = gave.rises;
      whole = whole_are p channels n bytes given c.requires.some long gave.within gave.front;
      frames_are = frames_written p channels n bytes given c.requires.some long gave.within gave.front
          (drop size c.args.bytes.now) c.fill.new.self (n / (channels * 2)) _ refl silent;
    }
