-- Frames that are turned into words, one more at a time.
use Rattle.std.proofs.Common.{◌≡◌, ℕ, suc, ◌+◌, ◌-◌, ◌*◌, ◌<◌, ◌≤◌, List, [], ◌∷◌, ◌++◌, length, map, take, drop, ℤ}
use Rattle.std.proofs.Common.{refl, sym, ap, subst, ◌∙◌, append_assoc, arith}
use Rattle.std.proofs.lemmas.List.{length-take-le, map-append}
use Rattle.wave_format.specs.Frame.{frame_of, frame_bytes, frame_from, frames_from, word_of, IsFrame, AreBytes, IsBlock}
use Rattle.wave_format.proofs.BlockLaws.{AreBytes-take}

-- one frame more is written: it is the first of those that are left
pub one_written : (channels n k : ℕ) (items : List ℕ) (word : ℕ) (rest after : List ℕ) (all : List (List ℤ)) → k < n
    → frame_of channels word ≡ frame_from (take (channels * 2) rest) → after ≡ drop (channels * 2) rest
    → map (frame_of channels) items ++ frames_from (n - k) channels rest ≡ all
    → map (frame_of channels) (items ++ word ∷ []) ++ frames_from (n - (k + 1)) channels after ≡ all
one_written channels n k items word rest after all lt is after_is so_far =
    let count : n - k ≡ suc (n - (k + 1)) = omega arith in
    let split : frames_from (n - k) channels rest ≡ frame_of channels word ∷ frames_from (n - (k + 1)) channels after =
    rw (count, is, after_is) refl in
    let joined : map (frame_of channels) (items ++ word ∷ []) ++ frames_from (n - (k + 1)) channels after
    ≡ map (frame_of channels) items
    ++ (frame_of channels word ∷ frames_from (n - (k + 1)) channels after) =
    rw map-append
    (append_assoc (map (frame_of channels) items) (frame_of channels word ∷ [])
    (frames_from (n - (k + 1)) channels after)) in
    joined ∙ ap (λ (fs : List (List ℤ)). map (frame_of channels) items ++ fs) (sym split) ∙ so_far

-- the word of a frame's bytes holds the frame
pub holds : (channels block : ℕ) (rest frame : List ℕ) (word : ℕ) → IsBlock block → block ≡ channels * 2
    → block ≤ length rest → AreBytes rest
    → frame ≡ take block rest → word ≡ word_of (frame_from frame)
    → ((n : ℕ) (bytes : List ℕ) → AreBytes bytes → length bytes ≡ n * 2
    → IsFrame n (frame_from bytes) × (frame_bytes (frame_from bytes) ≡ bytes))
    → ((n : ℕ) (samples : List ℤ) → IsFrame n samples → frame_of n (word_of samples) ≡ samples)
    → frame_of channels word ≡ frame_from (take (channels * 2) rest)
holds channels block rest frame word kind is fits bytes frame-is word-is reads packs =
    let here : frame ≡ take (channels * 2) rest = frame-is ∙ ap (λ (n : ℕ). take n rest) is in
    let below : AreBytes frame = subst AreBytes (sym frame-is) (AreBytes-take block rest bytes) in
    let size : length frame ≡ channels * 2 =
    ap (λ (xs : List ℕ). length xs) frame-is ∙ length-take-le block rest fits ∙ is in
    ap (frame_of channels) word-is ∙ packs channels (frame_from frame) (reads channels frame below size).0
    ∙ ap frame_from here

-- the bytes of one frame fewer are left
pub one_less : (n k block left after : ℕ) → k < n → left ≡ (n - k) * block → after + block ≡ left
    → (block ≤ left) × (after ≡ (n - (k + 1)) * block)
one_less n k block left after lt is cut =
    let m : n - k ≡ (n - (k + 1)) + 1 = omega arith in
    let all : left ≡ (n - (k + 1)) * block + block = is ∙ ap (λ (j : ℕ). j * block) m ∙ grind arith in
    (omega arith, omega arith)
