use Rattle.std.proofs.Common.{ap, ◌∙◌, refl}
use Rattle.service_book.specs.Telling.{volume_change}
use Rattle.service_book.proofs.book.Book.setting_note.Goals as goal

pub returns-in-SetMaster : goal.returns-in-SetMaster
returns-in-SetMaster c = λ stage tally.
    rw c.in-SetMaster.is (
    c.volume_note.ensures
    ∙ ap (volume_change c.in-SetMaster.session.0 c.in-SetMaster.context c.args.was) (c.volume_of.ensures stage tally)
    )

pub returns-in-SetMute : goal.returns-in-SetMute
returns-in-SetMute c = λ stage tally.
    rw c.in-SetMute.is (
    c.volume_note-in-SetMute.ensures
    ∙ ap (volume_change c.in-SetMute.session.0 c.in-SetMute.context c.args.was)
    (c.volume_of-in-SetMute.ensures stage tally)
    )

pub returns-in-SetGrouping : goal.returns-in-SetGrouping
returns-in-SetGrouping c = λ stage tally.
    rw (c.in-SetGrouping.is, c.session_note-in-SetGrouping.ensures, c.guid_text-text.ensures) refl
