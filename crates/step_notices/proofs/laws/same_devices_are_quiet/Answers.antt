use Rattle.std.proofs.Common.{◌≡◌, not, ◌==◌, [], filter, is_none, refl}
use Rattle.std.specs.Prelude.{slice_index}
use Rattle.std.specs.List.{range_with_len}
use Rattle.step_notices.specs.declared.records.TheConstants.{DEFAULTS}
use Rattle.step_notices.specs.Changes.{endpoint_in, had_another_state}
use Rattle.step_notices.proofs.QuietNotes.{each_is_found, each_is_there, none_in_another_state, none_pass}
use Rattle.step_notices.proofs.QuietNotes.{none_pass_ever, same_number}
use Rattle.step_notices.proofs.laws.same_devices_are_quiet.Goals as goal

pub returns : goal.returns
returns c a d =
    let there : filter (λ e. is_none (endpoint_in e.no.0 a.endpoints)) a.endpoints ≡ [] =
    none_pass (λ e. is_none (endpoint_in e.no.0 a.endpoints)) a.endpoints
    (each_is_there (λ e. e.no.0) a.endpoints) in
    let states : filter (had_another_state a.endpoints) a.endpoints ≡ [] =
    none_pass (had_another_state a.endpoints) a.endpoints
    (none_in_another_state a.endpoints a.endpoints (each_is_found (λ e. e.no.0) a.endpoints d)) in
    let defaults : filter (λ place. not (slice_index a.defaults place == slice_index a.defaults place))
    (range_with_len 0 DEFAULTS) ≡ [] =
    none_pass_ever (λ place. not (slice_index a.defaults place == slice_index a.defaults place))
    (range_with_len 0 DEFAULTS) (λ place. same_number (slice_index a.defaults place)) in
    rw (there, states, defaults) refl
