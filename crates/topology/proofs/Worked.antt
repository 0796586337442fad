-- Worked topologies: who is linked to whom, and which row refuses a call.
use Rattle.std.proofs.Common.{ℕ, ◌≡◌, true, Some, None, Err, codes, refl}
use Rattle.std.specs.Option.{option_map}
use Rattle.ca_base.specs.declared.codes.TheConstants.Hr as hr
use Rattle.ca_base.specs.declared.ids.Flow.TheVariants.{Render, Capture}
use Rattle.ca_base.specs.Rows.{first}
use Rattle.topology.specs.Parts.{next_part, part_at}
use Rattle.topology.specs.Rows.{answered, level_rows, mute_rows, next_rows, set_level_rows}
use Rattle.topology.specs.Settings.{factor, settings_at_start, step_at, with_step}

outgoing_of_the_first : next_part 1 1 ≡ Some 2
outgoing_of_the_first = refl

incoming_of_the_last : next_part 4 0 ≡ Some 3
incoming_of_the_last = refl

speaker_is_last : option_map (λ p. p.name) (part_at Render 4) ≡ Some (codes "speaker")
speaker_is_last = refl

microphone_is_first : option_map (λ p. p.name) (part_at Capture 1) ≡ Some (codes "microphone")
microphone_is_first = refl

nothing_before_the_first : first (next_rows Render 1 0) ≡ Some hr.E_NOTFOUND
nothing_before_the_first = refl

no_such_part_first : first (next_rows Render 5 2) ≡ Some hr.E_NOTFOUND
no_such_part_first = refl

no_such_direction : first (next_rows Render 1 2) ≡ Some hr.E_INVALIDARG
no_such_direction = refl

mute_has_no_level : first (set_level_rows Render 3 9 17) ≡ Some hr.E_NOINTERFACE
mute_has_no_level = refl

step_is_too_great : first (set_level_rows Render 2 0 17) ≡ Some hr.E_INVALIDARG
step_is_too_great = refl

greatest_step_is_set : first (set_level_rows Render 2 3 16) ≡ None
greatest_step_is_set = refl

channel_is_too_great : answered {A = ℕ} (level_rows Capture 2 4) 0 ≡ Err hr.E_INVALIDARG
channel_is_too_great = refl

volume_has_no_mute : answered (mute_rows Capture 2) true ≡ Err hr.E_NOINTERFACE
volume_has_no_mute = refl

one_step_of_one_channel : step_at 1 (with_step 0 1 (settings_at_start Render)) ≡ 0
one_step_of_one_channel = refl

one_step_is_half : factor 1 ≡ 32768
one_step_is_half = refl
