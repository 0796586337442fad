use Rattle.std.proofs.Common.{◌≡◌, ◌++◌, length, take, drop, sym, subst, ap, ◌∙◌, arith}
use Rattle.std.specs.List.{AllZip}
use Rattle.std.proofs.Math.Seq.{take-append_seam}
use Rattle.wave_format.specs.Frame.{frames_from}
use Rattle.ca_stage.specs.Periods.{fed_if, is_recording}
use Rattle.period_engine.specs.SubSteps.{Turned}
use Rattle.period_engine.proofs.CapturedFrames.{captures_failed, captures_frames, captures_none}
use Rattle.period_engine.proofs.feeding.feed_capture.Goals as goal

pub returns-in_err-whole-clause-captures : goal.returns-in_err-whole-clause-captures
returns-in_err-whole-clause-captures g c =
    captures_failed g.E.EngineSide.moves g.met.E.EngineSide.none c.args.e.0 c.args.p c.args.channels c.args.all.now
    c.read_frames.new.bytes _ _ _ _ c.from_residual.result _ c.from_residual.ensures.0
    c.in_err-whole.ensures

pub returns-then-whole-eq0-clause-captures : goal.returns-then-whole-eq0-clause-captures
returns-then-whole-eq0-clause-captures g c =
    captures_none g.E.EngineSide.moves g.met.E.EngineSide.none c.args.e.0 c.args.p c.args.channels c.args.all.now
    c.read_frames.new.bytes _ _ _ _ c.in_ok-whole.whole c.if-whole-eq0.true c.in_ok-whole.ensures

pub returns-clause-captures : goal.returns-clause-captures
returns-clause-captures g c =
    let value = c.deref.ensures.value in
    let moves = g.E.EngineSide.moves in
    let bytes = c.read_frames.new.bytes in
    let long : length bytes ≡ c.block.inside.bytes.len = omega arith in
    let same : c.deref.result.now ≡ bytes =
    value ∙ ap (λ n. take n (bytes ++ drop (length bytes) c.block.inside.bytes.items)) (sym long)
    ∙ take-append_seam bytes (drop (length bytes) c.block.inside.bytes.items) in
    captures_frames moves g.met.E.EngineSide.none c.args.e.0 c.args.p c.args.channels c.args.all.now bytes _ _ _ _
    c.in_ok-whole.whole c.feed_frames.new.all c.if-whole-eq0.false c.in_ok-whole.ensures
    (subst (λ bs. AllZip (Turned moves (fed_if (is_recording c.args.e.0) (frames_from c.args.p c.args.channels bs)))
    c.args.all.now c.feed_frames.new.all) same c.feed_frames.ensures.turned)
