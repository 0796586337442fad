-- What is noted of a book, and the notices that are told (this project's own).
use Rattle.std.specs.Prelude.{ℕ, ◌*◌, ◌^◌, ◌+◌, ◌==◌, List, [], ◌∷◌, ◌++◌, map, if◌then◌else◌}
use Rattle.ca_base.specs.declared.ids.Guid.{Guid}
use Rattle.ca_model.specs.declared.event.Event.{Event}
use Rattle.ca_model.specs.declared.event.Call.{Call}
use Rattle.ca_model.specs.declared.event.Call.TheVariants as call
use Rattle.session_manager.specs.Names.{guid_text}
use Rattle.event_notices.specs.declared.notice.Notice.{Notice}
use Rattle.event_notices.specs.declared.kinds.TheConstants.{
  CHANNEL_VOLUME,
  DISPLAY_NAME,
  GROUPING,
  ICON_PATH,
  SIMPLE_VOLUME,
}
use Rattle.step_notices.specs.Notes.{Notes}
use Rattle.step_notices.specs.Changes.{device_notices, session_notices}
use Rattle.ca_stage.specs.Stage.{empty_stage}
use Rattle.ca_stage.specs.Tally.{no_tally}
use Rattle.ca_machine.specs.Notices.{default_number, property_notices, session_note, volume_at}
use Rattle.ca_machine.specs.State.{State}
use Rattle.service_book.specs.BookState.{book_state}
use Rattle.service_book.specs.declared.book.Book.{Book}

-- the default of each place, which is flow * 3 + role
abbrev pub defaults_of : Book → List ℕ
defaults_of book = map (default_number (book_state book empty_stage no_tally)) (0 ∷ 1 ∷ 2 ∷ 3 ∷ 4 ∷ 5 ∷ [])

-- the notices of an event that sets no session, by what was noted before it and after it
abbrev pub step_notices : Notes → Event → Notes → List Notice
step_notices before e after = device_notices before after ++ property_notices e ++ session_notices before after

-- the session that a call sets
abbrev pub session_set : Call → ℕ
session_set (call.SetMaster s level context) = s.0
session_set (call.SetMute s mute context) = s.0
session_set (call.SetChannel s channel level context) = s.0
session_set (call.SetDisplayName s context text) = s.0
session_set (call.SetIconPath s context text) = s.0
session_set (call.SetGrouping s grouping context) = s.0
session_set _ = 0

-- a level or a mute that was set, if the volume is another one than it was
abbrev pub volume_change : ℕ → Guid → ℕ → ℕ → List Notice
volume_change number context was now =
    if was == now then [] else session_note SIMPLE_VOLUME number context now [] ∷ []

-- a call that set a session, by the volume that the session had before it
abbrev pub setting_notices_by : Call → ℕ → State → List Notice
setting_notices_by (call.SetMaster s level context) was after = volume_change s.0 context was (volume_at s.0 after)
setting_notices_by (call.SetMute s mute context) was after = volume_change s.0 context was (volume_at s.0 after)
setting_notices_by (call.SetChannel s channel level context) was after =
    session_note CHANNEL_VOLUME s.0 context (channel * 2 ^ 32 + level) [] ∷ []
setting_notices_by (call.SetDisplayName s context text) was after =
    session_note DISPLAY_NAME s.0 context 0 text ∷ []
setting_notices_by (call.SetIconPath s context text) was after = session_note ICON_PATH s.0 context 0 text ∷ []
setting_notices_by (call.SetGrouping s grouping context) was after =
    session_note GROUPING s.0 context 0 (guid_text grouping.0) ∷ []
setting_notices_by _ was after = []
