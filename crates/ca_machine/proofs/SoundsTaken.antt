-- What devices take: the Sound of a period, in pieces.
use Rattle.std.proofs.Common.{◌≡◌, ℕ, ◌↔◌, List, [], ◌∷◌, ◌++◌, length, take, drop, flat_map, Bool, true}
use Rattle.std.proofs.Common.{refl, sym, ap, ap₂, ◌∙◌, subst, append-nil, append_assoc, arith, length-drop}
use Rattle.std.proofs.lemmas.Bool.{false≢true}
use Rattle.std.proofs.lemmas.List.{nil_from_length, take-append-drop}
use Rattle.std.specs.List.{AllByRecursion}
use Rattle.ca_stage.specs.Stage.{Frame, Stage}
use Rattle.ca_stage.specs.Moves.{Move, sounded, Mixing, after_move, after_moves}
use Rattle.ca_stage.specs.Periods.{picks, after_sound, sub_steps, captures}
use Rattle.ca_machine.specs.Plan.{Answer, took, failed, IsWriting, is_whole, pieces}
use Rattle.ca_machine.specs.Periods.{bytes_due}
use Rattle.ca_machine.specs.Headline.{Sound, sound_made, sounds_made, AreTaken}
use Rattle.ca_machine.proofs.PeriodMoves.{OfSubSteps, picks_all, after_sound_all, captures_all}

-- ---- pieces

-- the pieces that a device took of these bytes
pieces_own : (number : ℕ) (bs : List ℕ) (given : List Answer) →
    AllByRecursion (λ piece. piece.0 ≡ number) (pieces number bs given)
pieces_own number bs [] = tt
pieces_own number bs (took k ∷ given) = (refl, pieces_own number (drop k bs) given)
pieces_own number bs (_ ∷ given) = pieces_own number bs given

-- the rest of bytes, of which pieces were taken
record Leaves (whole : Bool) (bs : List ℕ) (pieces : List (ℕ × List ℕ)) : Type 0 where
  rest : List ℕ
  joined : bs ≡ flat_map (λ piece. piece.1) pieces ++ rest
  all : (whole ≡ true) ↔ (rest ≡ [])

leaves_more : (whole : Bool) (number k : ℕ) (bs : List ℕ) (ps : List (ℕ × List ℕ)) → Leaves whole (drop k bs) ps →
    Leaves whole bs ((number, take k bs) ∷ ps)
leaves_more whole number k bs ps l = record {
  rest = l.rest;
  joined =
      sym (take-append-drop k bs) ∙ ap (λ b. take k bs ++ b) l.joined
      ∙ sym (append_assoc (take k bs) (flat_map (λ piece. piece.1) ps) l.rest);
  all = l.all;
}

leaves : (number : ℕ) (bs : List ℕ) (given : List Answer) → IsWriting (length bs) given →
    Leaves (is_whole given) bs (pieces number bs given)
leaves number bs [] w = record { rest = bs; joined = refl; all = (λ e. nil_from_length bs w, λ e. refl) }
leaves number bs (took k ∷ given) w =
    leaves_more (is_whole given) number k bs (pieces number (drop k bs) given)
    (leaves number (drop k bs) given (subst (λ n. IsWriting n given) (sym (length-drop k bs)) w.2))
leaves number bs (failed ∷ []) w = record {
  rest = bs;
  joined = refl;
  all = (λ e. absurd (false≢true e), λ e. let l = ap length e in absurd (omega arith));
}
leaves number bs (failed ∷ a ∷ given) w = absurd w
leaves number bs (_ ∷ given) w = absurd w

-- ---- moves with no Sound

abbrev SoundsNone : Move → Type 0
SoundsNone x = (st : Stage) → sound_made st x ≡ []

pub sounds_none : (st : Stage) (xs : List Move) → AllByRecursion SoundsNone xs → sounds_made st xs ≡ []
sounds_none st [] h = refl
sounds_none st (x ∷ xs) h = ap₂ (λ a b. a ++ b) (h.0 st) (sounds_none (after_move st x) xs h.1)

-- ---- the Sound of a period

sounds_past : (st : Stage) (xs ys : List Move) → AllByRecursion SoundsNone xs →
    sounds_made st (xs ++ ys) ≡ sounds_made (after_moves st xs) ys
sounds_past st [] ys h = refl
sounds_past st (x ∷ xs) ys h =
    ap (λ z. z ++ sounds_made (after_move st x) (xs ++ ys)) (h.0 st) ∙ sounds_past (after_move st x) xs ys h.1

no_sound : OfSubSteps SoundsNone
no_sound = record {
  picks = λ n k st. refl;
  retires = λ n st. refl;
  feeds = λ n frames st. refl;
  closes = λ n st. refl;
  finish = λ m b st. refl;
}

-- it is made of what the streams have due after the picks
abbrev pub sound_due : Mixing → Bool → Stage → Sound
sound_due m whole st = record { endpoint = m.endpoint; whole = whole; bytes = bytes_due m st }

pub sounds_of_period : (m : Mixing) (whole : Bool) (st : Stage) →
    sounds_made st (sub_steps m whole st) ≡ sound_due m whole st ∷ []
sounds_of_period m whole st =
    sounds_past st (picks m st) (sounded m whole ∷ after_sound m whole (after_moves st (picks m st)))
    (picks_all SoundsNone no_sound m st)
    ∙ ap (λ sounds. sound_due m whole st ∷ sounds)
    (sounds_none _ _ (after_sound_all SoundsNone no_sound m whole (after_moves st (picks m st))))

-- a period of an endpoint that captures has no Sound
pub captures_sound_none : (number : ℕ) (frames : List Frame) (st at : Stage) →
    sounds_made at (captures number frames st) ≡ []
captures_sound_none number frames st at =
    sounds_none at (captures number frames st) (captures_all SoundsNone no_sound number frames (λ st. refl) st)

-- the Sound's device took the pieces
pub sound_is_taken : (m : Mixing) (st : Stage) (bs : List ℕ) (given : List Answer) → bytes_due m st ≡ bs →
    IsWriting (length bs) given →
    AreTaken (sound_due m (is_whole given) st ∷ []) (pieces m.endpoint bs given)
sound_is_taken m st bs given e w = let l = leaves m.endpoint bs given w in (
  pieces m.endpoint bs given,
  [],
  sym (append-nil (pieces m.endpoint bs given)),
  record { its_own = pieces_own m.endpoint bs given; rest = l.rest; joined = e ∙ l.joined; all = l.all },
  refl,
)
