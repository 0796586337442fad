use Rattle.std.proofs.Common.{◌≡◌, refl, ap, subst, ◌∙◌}
use Rattle.std.specs.List.{AllZip}
use Rattle.wave_format.specs.Frame.{frames_from}
use Rattle.ca_stage.specs.Periods.{fed_if, is_hearing}
use Rattle.period_engine.specs.SubSteps.{Turned}
use Rattle.period_engine.proofs.FedEntries.{all_unfed, heard_alike}
use Rattle.period_engine.proofs.feeding.feed_loopback.Goals as goal

pub returns-in-Some-clause-turned : goal.returns-in-Some-clause-turned
returns-in-Some-clause-turned g c channels fits =
    let p = c.args.p in
    let same : c.in-Some.channels ≡ channels =
    heard_alike c.args.e.0 c.in-Some.channels channels p c.args.all.now c.in-Some.ensures.some fits in
    let bytes : c.deref.result.now ≡ c.args.block.now.bytes =
    c.deref.ensures.value ∙ ap (λ b. b.bytes) c.block.view_is in
    subst (λ frames. AllZip (Turned g.E.EngineSide.moves (fed_if (is_hearing c.args.e.0) frames)) c.args.all.now
    c.feed_frames.new.all)
    (ap (λ n. frames_from p n c.deref.result.now) same ∙ ap (frames_from p channels) bytes)
    c.feed_frames.ensures.turned

pub returns-in_default-clause-turned : goal.returns-in_default-clause-turned
returns-in_default-clause-turned g c channels fits =
    all_unfed g.E.EngineSide.moves (is_hearing c.args.e.0) (λ d e. refl)
    (frames_from c.args.p channels c.args.block.now.bytes) g.met.E.EngineSide.none c.args.all.now
    c.in_default.ensures.none
