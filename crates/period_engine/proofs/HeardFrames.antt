-- What hears an endpoint gets the frames that its Sound mixed.
use Rattle.std.proofs.Common.{◌≡◌, ℕ, List, length, flat_map, sym, ap, ◌∙◌, ℤ}
use Rattle.std.specs.List.{AllByRecursion}
use Rattle.wave_format.specs.Frame.{IsFrame, frame_bytes, frames_from}
use Rattle.ca_stage.specs.Stage.{Stream}
use Rattle.ca_stage.specs.Moves.{Mixing}
use Rattle.ca_stage.specs.Mix.{mixed, sound_bytes}
use Rattle.ca_stage.specs.Laws.{IsMix}

pub frames_of_sound : (p channels : ℕ) (m : Mixing) (streams : List Stream) → IsMix m streams
    → ((n : ℕ) (frames : List (List ℤ)) → AllByRecursion (IsFrame n) frames
    → frames_from (length frames) n (flat_map frame_bytes frames) ≡ frames)
    → m.frames ≡ p → m.channels ≡ channels → frames_from p channels (sound_bytes m streams) ≡ mixed m streams
frames_of_sound p channels m streams mix reads lasts has =
    ap (λ k. frames_from k channels (sound_bytes m streams)) (sym lasts ∙ sym mix.count)
    ∙ ap (λ n. frames_from (length (mixed m streams)) n (sound_bytes m streams)) (sym has)
    ∙ reads m.channels (mixed m streams) mix.frames
