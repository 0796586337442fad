-- Notices that were added to none.
use Rattle.std.proofs.Common.{◌≡◌, List, [], ◌++◌, ap, ◌∙◌}

-- what stands in a list after three were added to none
pub three_added : {X : Type 0} (xs ys zs none one two three : List X) → none ≡ [] → one ≡ none ++ xs →
    two ≡ one ++ ys → three ≡ two ++ zs → three ≡ xs ++ ys ++ zs
three_added xs ys zs none one two three a b c d =
    d ∙ ap (λ ns. ns ++ zs) (c ∙ ap (λ ns. ns ++ ys) (b ∙ ap (λ ns. ns ++ xs) a))
