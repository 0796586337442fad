-- Worked mixes: one period of one frame and one or two channels, by gains and clamps.
use Rattle.std.proofs.Common.{◌≡◌, ℕ, ℤ, [], ◌∷◌, None, refl, pos, negsuc}
use Rattle.ca_base.specs.declared.ids.StreamKind.TheVariants as kind
use Rattle.volume_stack.specs.Scaling.{unit_gain}
use Rattle.ca_stage.specs.Stage.{Frame, Stream}
use Rattle.ca_stage.specs.Moves.{Mixing}
use Rattle.ca_stage.specs.Mix.{mixed, sound_bytes}
use Rattle.ca_stage.proofs.Worked.{stream_of}

-- a stream of an endpoint with a frame that is due, and one that isn't
abbrev voice : ℕ → ℕ → Frame → Stream
voice n endpoint frame = record (stream_of kind.Render n) {
  endpoint = endpoint;
  picked = 1;
  buffer_data = record { pending = frame ∷ (pos 9 ∷ pos 9 ∷ []) ∷ []; packets = []; released = 2; lease = None };
}

abbrev loud : ℕ → ℤ → Stream
loud n sample = voice n 7 (sample ∷ [])

-- the gains of each client, and the endpoint's
abbrev by_gains : ℕ → ℕ → ℕ → Mixing
by_gains channels gain endpoint_gain = record {
  endpoint = 7;
  frames = 1;
  channels = channels;
  gain = λ client channel. gain;
  endpoint_gain = λ channel. endpoint_gain;
}

-- a half goes toward zero
halves : mixed (by_gains 2 32768 unit_gain) (voice 1 7 (pos 1001 ∷ negsuc 1000 ∷ []) ∷ [])
    ≡ (pos 500 ∷ negsuc 499 ∷ []) ∷ []
halves = refl

halves_bytes : sound_bytes (by_gains 2 32768 unit_gain) (voice 1 7 (pos 1001 ∷ negsuc 1000 ∷ []) ∷ [])
    ≡ 244 ∷ 1 ∷ 12 ∷ 254 ∷ []
halves_bytes = refl

-- two loud frames are cut to the nearest sample, from above and from below
two_high : mixed (by_gains 1 unit_gain unit_gain) (loud 1 (pos 30000) ∷ loud 2 (pos 30000) ∷ []) ≡ (pos 32767 ∷ []) ∷ []
two_high = refl

two_low : mixed (by_gains 1 unit_gain unit_gain) (loud 1 (negsuc 29999) ∷ loud 2 (negsuc 29999) ∷ [])
    ≡ (negsuc 32767 ∷ []) ∷ []
two_low = refl

-- the endpoint's gain is of the exact sum
two_halved : mixed (by_gains 1 unit_gain 32768) (loud 1 (pos 30000) ∷ loud 2 (pos 30000) ∷ []) ≡ (pos 30000 ∷ []) ∷ []
two_halved = refl

-- and so does a third frame count against the exact sum, in whatever place
third_last :
    mixed (by_gains 1 unit_gain unit_gain) (loud 1 (pos 30000) ∷ loud 2 (pos 30000) ∷ loud 3 (negsuc 29999) ∷ [])
    ≡ (pos 30000 ∷ []) ∷ []
third_last = refl

third_first :
    mixed (by_gains 1 unit_gain unit_gain) (loud 1 (negsuc 29999) ∷ loud 2 (pos 30000) ∷ loud 3 (pos 30000) ∷ [])
    ≡ (pos 30000 ∷ []) ∷ []
third_first = refl

-- what is on another endpoint, and what isn't picked, adds nothing; a place without frames is silence
elsewhere : mixed (by_gains 1 unit_gain unit_gain) (voice 1 8 (pos 5 ∷ []) ∷ loud 2 (pos 3) ∷ []) ≡ (pos 3 ∷ []) ∷ []
elsewhere = refl

unpicked : mixed (by_gains 2 unit_gain unit_gain) (record (loud 1 (pos 3)) { picked = 0 } ∷ [])
    ≡ (pos 0 ∷ pos 0 ∷ []) ∷ []
unpicked = refl

-- a gain of 0 is silence
muted : mixed (by_gains 1 0 unit_gain) (loud 1 (pos 30000) ∷ []) ≡ (pos 0 ∷ []) ∷ []
muted = refl
