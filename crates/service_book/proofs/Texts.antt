-- Which bytes are a text.
use Rattle.std.proofs.Common.{◌≡◌, ℕ, List}
use Rattle.std.proofs.Common.{Bool, true, false, refl, sym}
use Rattle.std.proofs.Common.{Result, Ok, Err, MatchResult, is_ok}
use Rattle.std.specs.Str.{IsUtf8, is_utf8}
use Rattle.std.proofs.lemmas.Str.{is_utf8-from_IsUtf8, IsUtf8-from_is_utf8}

fails : (bytes : List ℕ) (b : Bool) → is_utf8 bytes ≡ b → ¬ (IsUtf8 bytes) → false ≡ b
fails bytes true e h = absurd (h (IsUtf8-from_is_utf8 bytes e))
fails bytes false e h = refl

-- a text is what is read as one
pub text_by : {A B : Type 0} (P : A → Type 0) (Q : B → Type 0) (bytes : List ℕ) (r : Result A B) →
    MatchResult r (λ s. P s × IsUtf8 bytes) (λ e. ¬ (IsUtf8 bytes) × Q e) → is_ok r ≡ is_utf8 bytes
text_by P Q bytes (Ok s) h = sym (is_utf8-from_IsUtf8 bytes h.1)
text_by P Q bytes (Err e) h = fails bytes (is_utf8 bytes) refl h.0
