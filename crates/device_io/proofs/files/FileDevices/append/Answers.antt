use Rattle.std.proofs.Common.{take, ap}
use Rattle.device_io.specs.Files.{FilesState, AppendsPiece, to_append}
use Rattle.device_io.proofs.OpenFiles.{opened_alike, call_ends}
use Rattle.device_io.proofs.files.FileDevices.append.Goals as goal

pub returns-clause-ends : goal.returns-clause-ends
returns-clause-ends g c =
    let place = c.in_ok-place.ensures in
    let opened = opened_alike (ap (λ (s : FilesState). s.folder) c.self.view_is) c.append_options.ensures
    c.place_opened.new.files.items c.place_opened.ensures.opened in
    call_ends g.R.File.Write.contents c.args.self.now.folder to_append
    (λ n. AppendsPiece (take n c.args.piece.now)) c.args.e.0 c.in_ok-place.place c.self.inside.appended.items
    c.place_opened.new.files.items c.index_mut.result.now c.write_once.new.out _ c.write_once.result
    (ap (λ (s : FilesState). s.appended) c.self.view_is) opened place.opens place.place
    c.index_mut.ensures.value c.write_once.ensures.takes c.write_once.ensures.none
