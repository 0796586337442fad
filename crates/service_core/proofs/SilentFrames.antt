-- Silent frames: words that are 0.
use Rattle.std.proofs.Common.{◌≡◌, ℕ, zero, suc, ◌+◌, ◌*◌, ◌/◌, ◌%◌, ◌^◌, List, ◌∷◌, ◌++◌, map, replicate, pos, refl}
use Rattle.std.proofs.Common.{sym, ap, ap₂, ◌∙◌, arith, if◌then◌else◌, eq-eqb}
use Rattle.std.proofs.lemmas.List.{map-append}
use Rattle.std.specs.List.{range_with_len}
use Rattle.std.specs.Int.{w16, cast_signed}
use Rattle.ca_base.specs.declared.values.TheConstants.{BUFFER_SILENT}
use Rattle.wave_format.specs.Frame.{frame_of, sample_at, frames_from}
use Rattle.client_state.specs.Frames.{frames_in}
use Rattle.ca_machine.specs.Data.{frames_released}

silent_sample : (channel : ℕ) → sample_at 0 channel ≡ pos 0
silent_sample channel =
    let none : 0 / 2 ^ (16 * channel) ≡ 0 = grind arith in
    ap (λ n. cast_signed w16 (n % 2 ^ 16)) none

silent_samples : (a n : ℕ) → map (sample_at 0) (range_with_len a n) ≡ replicate n (pos 0)
silent_samples a zero = refl
silent_samples a (suc n) = ap₂ (λ s ss. s ∷ ss) (silent_sample a) (silent_samples (a + 1) n)

silent_words : (channels n : ℕ) → frames_in channels (replicate n 0) ≡ replicate n (replicate channels (pos 0))
silent_words channels zero = refl
silent_words channels (suc n) =
    ap₂ (λ f fs. f ∷ fs) (silent_samples 0 channels) (silent_words channels n)

-- silent words are the frames of a silent release
pub silence_released : (frames flags : ℕ) (bytes old new : List ℕ) (channels : ℕ) → flags ≡ BUFFER_SILENT →
    new ≡ old ++ replicate frames 0 →
    frames_in channels new ≡ frames_in channels old ++ frames_released frames flags bytes channels
silence_released frames flags bytes old new channels silent is =
    let chosen : frames_released frames flags bytes channels ≡ replicate frames (replicate channels (pos 0)) =
    ap (λ b. if b then replicate frames (replicate channels (pos 0)) else frames_from frames channels bytes)
    (eq-eqb flags BUFFER_SILENT silent) in
    ap (frames_in channels) is
    ∙ map-append (frame_of channels) old (replicate frames 0)
    ∙ ap (λ fs. frames_in channels old ++ fs) (silent_words channels frames ∙ sym chosen)
