-- Frames and the places at which they are rendered.
use Rattle.std.proofs.Common.{◌≡◌, ℕ, zero, suc, ◌+◌, ◌<◌, ◌≤◌, List, [], ◌∷◌, ◌++◌, length, map, Bool, true, false}
use Rattle.std.proofs.Common.{refl, ap, ◌∙◌, arith, eqb, eq-eqb, ne_eqb, slice_index_or, if◌then◌else◌}
use Rattle.std.proofs.lemmas.Bool.{and_left, and_right, and_from}
use Rattle.ca_stage.specs.Stage.{Frame}
use Rattle.ca_stage.specs.Fates.{Fate, Rendered, Reset, Dropped, rendered_from, is_rendered_at, having}

-- a frame whose fate is another, and one that is rendered here
pub having_other : (number place : ℕ) (frame : Frame) (frames : List Frame) (fate : Fate) (fs : List Fate) →
    is_rendered_at number place fate ≡ false →
    having number place (frame ∷ frames) (fate ∷ fs) ≡ having number place frames fs
having_other number place frame frames fate fs e =
    ap (λ b. if b then frame ∷ having number place frames fs else having number place frames fs) e

pub having_this : (number place : ℕ) (frame : Frame) (frames : List Frame) (fate : Fate) (fs : List Fate) →
    is_rendered_at number place fate ≡ true →
    having number place (frame ∷ frames) (fate ∷ fs) ≡ frame ∷ having number place frames fs
having_this number place frame frames fate fs e =
    ap (λ b. if b then frame ∷ having number place frames fs else having number place frames fs) e

chosen_first : {A : Type 0} (b : Bool) (x : A) (xs ys zs : List A) → zs ≡ xs ++ ys →
    (if b then x ∷ zs else zs) ≡ (if b then x ∷ xs else xs) ++ ys
chosen_first true x xs ys zs e = ap (λ z. x ∷ z) e
chosen_first false x xs ys zs e = e

pub having-append : (number place : ℕ) (a b : List Frame) (f g : List Fate) → length a ≡ length f →
    having number place (a ++ b) (f ++ g) ≡ having number place a f ++ having number place b g
having-append number place [] b [] g e = refl
having-append number place [] b (fate ∷ f) g e = absurd (omega arith)
having-append number place (frame ∷ a) b [] g e = absurd (omega arith)
having-append number place (frame ∷ a) b (fate ∷ f) g e =
    chosen_first (is_rendered_at number place fate) frame (having number place a f) (having number place b g) _
    (having-append number place a b f g (omega arith))

-- frames that are reset or dropped
pub having_reset : (number place : ℕ) (frames : List Frame) →
    having number place frames (map (λ (frame : Frame). Reset) frames) ≡ []
having_reset number place [] = refl
having_reset number place (frame ∷ frames) = having_reset number place frames

pub having_dropped : (number place : ℕ) (reason : _) (frames : List Frame) →
    having number place frames (map (λ (frame : Frame). Dropped reason) frames) ≡ []
having_dropped number place reason [] = refl
having_dropped number place reason (frame ∷ frames) = having_dropped number place reason frames

-- frames that another endpoint rendered
pub having_elsewhere : (number place other next : ℕ) (frames : List Frame) → eqb other number ≡ false →
    having number place frames (rendered_from other next frames) ≡ []
having_elsewhere number place other next [] e = refl
having_elsewhere number place other next (frame ∷ frames) e =
    having_other number place frame frames (Rendered other next) _ (and_left (eqb other number) (eqb next place) e)
    ∙ having_elsewhere number place other (next + 1) frames e

not_here : (number place next : ℕ) → (next ≡ place → ⊥) → is_rendered_at number place (Rendered number next) ≡ false
not_here number place next h = and_right (eqb number number) (eqb next place) (ne_eqb next place h)

-- before the first place, at one of the places, and behind the last one
pub having_before : (number place next : ℕ) (frames : List Frame) → place < next →
    having number place frames (rendered_from number next frames) ≡ []
having_before number place next [] h = refl
having_before number place next (frame ∷ frames) h =
    having_other number place frame frames (Rendered number next) _
    (not_here number place next (λ e. absurd (omega arith)))
    ∙ having_before number place (next + 1) frames (omega arith)

pub having_at : (number place next i : ℕ) (frames : List Frame) → place ≡ next + i → i < length frames →
    having number place frames (rendered_from number next frames) ≡ slice_index_or frames i [] ∷ []
having_at number place next i [] e h = absurd (omega arith)
having_at number place next zero (frame ∷ frames) e h =
    having_this number place frame frames (Rendered number next) _
    (and_from (eqb number number) (eqb next place) (eq-eqb number number refl) (eq-eqb next place (omega arith)))
    ∙ ap (λ z. frame ∷ z) (having_before number place (next + 1) frames (omega arith))
having_at number place next (suc i) (frame ∷ frames) e h =
    having_other number place frame frames (Rendered number next) _
    (not_here number place next (λ k. absurd (omega arith)))
    ∙ having_at number place (next + 1) i frames (omega arith) (omega arith)

pub having_behind : (number place next i : ℕ) (frames : List Frame) → place ≡ next + i → length frames ≤ i →
    having number place frames (rendered_from number next frames) ≡ []
having_behind number place next i [] e h = refl
having_behind number place next zero (frame ∷ frames) e h = absurd (omega arith)
having_behind number place next (suc i) (frame ∷ frames) e h =
    having_other number place frame frames (Rendered number next) _
    (not_here number place next (λ k. absurd (omega arith)))
    ∙ having_behind number place (next + 1) i frames (omega arith) (omega arith)
