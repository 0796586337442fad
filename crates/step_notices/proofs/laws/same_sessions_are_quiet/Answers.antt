use Rattle.std.proofs.Common.{◌≡◌, not, ◌==◌, [], filter, is_none, refl, ap}
use Rattle.std.specs.Prelude.{slice_get}
use Rattle.std.specs.List.{filter_map}
use Rattle.std.specs.Option.{option_map}
use Rattle.event_notices.specs.declared.kinds.TheConstants as kinds
use Rattle.step_notices.specs.Changes.{first_reason, note, session_in, state_of}
use Rattle.step_notices.proofs.QuietNotes.{each_is_found, each_is_there, none_closed, none_given, none_pass}
use Rattle.step_notices.proofs.QuietNotes.{none_pass_ever, same_number}
use Rattle.step_notices.proofs.laws.same_sessions_are_quiet.Goals as goal

pub returns : goal.returns
returns c a d =
    let found = each_is_found (λ s. s.client.0) a.streams d in
    let created : filter (λ s. is_none (session_in s.no.0 a.sessions)) a.sessions ≡ [] =
    none_pass (λ s. is_none (session_in s.no.0 a.sessions)) a.sessions (each_is_there (λ s. s.no.0) a.sessions) in
    let closed :
    filter_map (λ s. option_map (note kinds.DISCONNECTED s.no.0) (first_reason a.streams a.streams s.no.0)) a.sessions
    ≡ [] =
    none_given (λ s. option_map (note kinds.DISCONNECTED s.no.0) (first_reason a.streams a.streams s.no.0)) a.sessions
    (λ s. ap (λ rs. option_map (note kinds.DISCONNECTED s.no.0) (slice_get rs 0))
    (none_closed a.streams a.streams s.no.0 found)) in
    let states : filter (λ s. not (state_of s.no.0 a.streams == state_of s.no.0 a.streams)) a.sessions ≡ [] =
    none_pass_ever (λ s. not (state_of s.no.0 a.streams == state_of s.no.0 a.streams)) a.sessions
    (λ s. same_number (state_of s.no.0 a.streams)) in
    rw (created, closed, states) refl
