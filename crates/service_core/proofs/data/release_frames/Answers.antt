use Rattle.std.proofs.Common.{Some, ◌*◌, ◌≤◌, ◌∙◌, sym, ap, length, arith}
use Rattle.std.specs.Result.{result_err}
use Rattle.std.proofs.lemmas.Result.{err_from_is_err_and}
use Rattle.ca_base.specs.declared.limits.TheConstants.{MAX_COUNT}
use Rattle.service_core.specs.Core.{seen_in}
use Rattle.service_core.proofs.ReleaseRows.{entry_rows, release_passes}
use Rattle.service_core.proofs.data.release_frames.Goals as goal

pub returns-in_err-check-clause-row : goal.returns-in_err-check-clause-row
returns-in_err-check-clause-row g c =
    let p = err_from_is_err_and c.from_residual.result c.from_residual.ensures.1 in
    ap result_err p.1 ∙ ap Some p.2 ∙ c.in_err-check.ensures.row
    ∙ entry_rows g.F.FrameStore.kept c.args.entry.now c.requires.side c.requires.fits.few_channels c.args.frames
    c.args.flags (length c.args.bytes.now) c.size_of.result c.size_of.ensures

pub put_released-requires-clause-size : goal.put_released-requires-clause-size
put_released-requires-clause-size g c loud =
    let few : c.args.frames ≤ MAX_COUNT = omega arith in
    let passes = release_passes c.args.entry.now.store.side c.args.frames c.args.flags (length c.args.bytes.now)
    (seen_in (g.F.FrameStore.kept c.args.entry.now.store.store)) few
    (sym (c.in_ok-check.ensures.row
    ∙ entry_rows g.F.FrameStore.kept c.args.entry.now c.requires.side c.requires.fits.few_channels c.args.frames
    c.args.flags (length c.args.bytes.now) c.size_of.result c.size_of.ensures)) in
    passes.fits loud ∙ ap (λ side. c.args.frames * side.block) (sym c.in_ok-check.ensures.looked.side)

pub returns-clause-row : goal.returns-clause-row
returns-clause-row g c =
    c.in_ok-check.ensures.row
    ∙ entry_rows g.F.FrameStore.kept c.args.entry.now c.requires.side c.requires.fits.few_channels c.args.frames
    c.args.flags (length c.args.bytes.now) c.size_of.result c.size_of.ensures
