use Rattle.std.proofs.Common.{ap, set, ◌∙◌, arith}
use Rattle.ca_stage.specs.Stage.{empty_stage}
use Rattle.ca_stage.specs.Tally.{no_tally}
use Rattle.step_notices.specs.Notes.{Notes}
use Rattle.service_book.proofs.NotedDefaults.{defaults_to, one_default}
use Rattle.service_book.proofs.book.Book.note_defaults.Goals as goal

pub places-preserved : goal.places-preserved
places-preserved c =
    let place = c.places.place in
    let book = c.args.self.now in
    c.note_default.ensures
    ∙ ap (λ (n : Notes). record n { defaults = set n.defaults place c.default_number.result }) c.places.invariant
    ∙ ap (λ d. record (c.args.n.now) { defaults = set (defaults_to place book) place d })
    (c.default_number.ensures empty_stage no_tally)
    ∙ ap (λ ds. record (c.args.n.now) { defaults = ds }) (one_default place book (omega (arith, c.places-test.true)))
