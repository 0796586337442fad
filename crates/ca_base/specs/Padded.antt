-- A text in an array: its bytes, and zeros behind them.
use Rattle.std.specs.Prelude.{◌≡◌, ℕ, ◌-◌, ◌≤◌, List, ◌++◌, length, take, drop, replicate}
use Rattle.std.proofs.Common.{arith, ap, ◌∙◌}
use Rattle.std.proofs.lemmas.List.{take-append-drop, length-take}
use Rattle.ca_base.specs.declared.limits.TheConstants.{MAX_TEXT}
use Rattle.ca_base.specs.declared.text.Text.TheInside.{Inside}

-- the array has a place for each byte that a text may have, and zeros behind the first `len` of them
pub record IsPadded (len : ℕ) (bytes : List ℕ) : Type 0 where
  pub fits : len ≤ MAX_TEXT
  pub whole : length bytes ≡ MAX_TEXT
  pub zeros : drop len bytes ≡ replicate (MAX_TEXT - len) 0

-- the array and the length of a text
abbrev pub padded : List ℕ → Inside
padded text = record { bytes = text ++ replicate (MAX_TEXT - length text) 0; len = length text }

-- the inside of a text, of its parts
abbrev made : List ℕ → ℕ → Inside
made bytes len = record { bytes = bytes; len = len }

-- the array and the length follow from the text
pub Padded-restored : (t : Inside) → IsPadded t.len t.bytes → padded (take t.len t.bytes) ≡ t
Padded-restored t h =
    let len : length (take t.len t.bytes) ≡ t.len = omega (arith, length-take t.len t.bytes, h.fits, h.whole) in
    let zeros : take t.len t.bytes ++ replicate (MAX_TEXT - t.len) 0 ≡ t.bytes =
    rw (← h.zeros) (take-append-drop t.len t.bytes) in
    ap (λ (n : ℕ). made (take t.len t.bytes ++ replicate (MAX_TEXT - n) 0) n) len
    ∙ ap (λ (b : List ℕ). made b t.len) zeros
