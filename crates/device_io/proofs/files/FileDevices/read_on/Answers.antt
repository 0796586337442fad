use Rattle.std.proofs.Common.{ap}
use Rattle.device_io.specs.Files.{FilesState, GivesFront, to_read}
use Rattle.device_io.proofs.OpenFiles.{opened_alike, call_ends, gives_front}
use Rattle.device_io.proofs.files.FileDevices.read_on.Goals as goal

pub returns-clause-ends : goal.returns-clause-ends
returns-clause-ends g c =
    let place = c.in_ok-place.ensures in
    let opened = opened_alike (ap (λ (s : FilesState). s.folder) c.self.view_is) c.read_options.ensures
    c.place_opened.new.files.items c.place_opened.ensures.opened in
    call_ends g.R.File.Read.remaining c.args.self.now.folder to_read
    (λ n. GivesFront n c.read_once.new.buf) c.args.e.0 c.in_ok-place.place c.self.inside.read.items
    c.place_opened.new.files.items c.index_mut.result.now c.read_once.new.reader _ c.read_once.result
    (ap (λ (s : FilesState). s.read) c.self.view_is) opened place.opens place.place
    c.index_mut.ensures.value
    (gives_front _ _ c.read_once.new.buf c.read_once.result c.read_once.ensures.gives c.read_once.ensures.end)
    c.read_once.ensures.none
