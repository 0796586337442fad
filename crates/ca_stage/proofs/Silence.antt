-- Silence after disconnect: a closed stream stays as it is.
use Rattle.std.proofs.Common.{◌≡◌, ℕ, ◌==◌, List, [], ◌∷◌, ◌++◌, map, Bool, true, false, Some, refl, sym, ap, ap₂, ◌∙◌}
use Rattle.std.proofs.Common.{subst, append-nil, append_assoc, arith, le-ltb, nat_lt, slice_index_or, find, eqb-true}
use Rattle.std.proofs.Common.{if◌then◌else◌}
use Rattle.std.proofs.lemmas.Option.{same_Some}
use Rattle.std.specs.List.{AllByRecursion}
use Rattle.ca_stage.specs.Stage.{empty_stage, Frame, Stream, Stage, is_open}
use Rattle.ca_stage.specs.Moves.{Move, of_client, sounded, after_move, after_moves, stream_at}
use Rattle.ca_stage.specs.Mix.{due_at, streams_on, due_frames}
use Rattle.ca_stage.specs.Fates.{of_found, passing, released_by, fated_by, all_released, fates}
use Rattle.ca_stage.specs.Order.{clients, AreDistinct, RisesFrom}
use Rattle.ca_stage.specs.Laws.{IsOfOther, SumsNone, IsSilent, Silence}
use Rattle.ca_stage.proofs.Lists.{all-append, all_weaker, all-filter}
use Rattle.ca_stage.proofs.Streams.{moved_there, not_open_of, stays, is_of}
use Rattle.ca_stage.proofs.Clients.{rising_distinct, rises_step, each_found}
use Rattle.ca_stage.proofs.StageHolds.{stage_holds, found_still}

-- nothing passes a closed gate
nothing_passes : {A : Type 0} (client : ℕ) (s : Stream) (xs : List A) → is_open s ≡ false → passing client s xs ≡ []
nothing_passes client s xs c = ap (λ b. if b then xs else []) (not_open_of client s c)

pub releases_none : (x : Move) (s : Stream) → is_open s ≡ false → released_by x s ≡ []
releases_none (of_client client m) s c = nothing_passes client s _ c
releases_none _ s c = refl

pub fates_none : (st : Stage) (x : Move) (s : Stream) → is_open s ≡ false → fated_by st x s ≡ []
fates_none st (of_client client m) s c = nothing_passes client s _ c
fates_none st _ s c = refl

stays_there : (n : ℕ) (st : Stage) (x : Move) (s : Stream) → is_open s ≡ false → stream_at n st ≡ Some s →
    stream_at n (after_move st x) ≡ Some s
stays_there n st x s c e = moved_there n st x s e ∙ ap (λ t. Some t) (stays x s c)

no_more_released : (n : ℕ) (st : Stage) (s : Stream) (xs : List Move) → is_open s ≡ false → stream_at n st ≡ Some s →
    all_released n st xs ≡ []
no_more_released n st s [] c e = refl
no_more_released n st s (x ∷ xs) c e =
    ap₂ (λ a b. a ++ b) (ap (of_found (released_by x)) e ∙ releases_none x s c)
    (no_more_released n (after_move st x) s xs c (stays_there n st x s c e))

no_more_fates : (n : ℕ) (st : Stage) (s : Stream) (xs : List Move) → is_open s ≡ false → stream_at n st ≡ Some s →
    fates n st xs ≡ []
no_more_fates n st s [] c e = refl
no_more_fates n st s (x ∷ xs) c e =
    ap₂ (λ a b. a ++ b) (ap (of_found (fated_by st x)) e ∙ fates_none st x s c)
    (no_more_fates n (after_move st x) s xs c (stays_there n st x s c e))

pub nothing_due : (i : ℕ) (s : Stream) → s.picked ≡ 0 → due_at i s ≡ []
nothing_due i s e =
    ap (λ p. if nat_lt i p then slice_index_or s.buffer_data.pending i [] ∷ [] else []) e
    ∙ ap (λ b. if b then slice_index_or s.buffer_data.pending i [] ∷ [] else []) (le-ltb i 0 (omega arith))

others_frames : (n : ℕ) (s : Stream) (frames : List Frame) → (s.client == n) ≡ false →
    AllByRecursion (IsOfOther n) (map (λ frame. (s.client, frame)) frames)
others_frames n s [] h = tt
others_frames n s (frame ∷ frames) h = (h, others_frames n s frames h)

-- a stream of the client has nothing due
abbrev IsUndue : ℕ → ℕ → Stream → Type 0
IsUndue n i s = (s.client == n) ≡ true → due_at i s ≡ []

undue_frames : (n i : ℕ) (s : Stream) (b : Bool) → (s.client == n) ≡ b → IsUndue n i s →
    AllByRecursion (IsOfOther n) (map (λ frame. (s.client, frame)) (due_at i s))
undue_frames n i s true e h =
    subst (λ frames. AllByRecursion (IsOfOther n) (map (λ frame. (s.client, frame)) frames)) (sym (h e)) tt
undue_frames n i s false e h = others_frames n s (due_at i s) e

no_frames : (n i : ℕ) (streams : List Stream) → AllByRecursion (IsUndue n i) streams →
    AllByRecursion (IsOfOther n) (due_frames i streams)
no_frames n i [] h = tt
no_frames n i (s ∷ streams) h =
    all-append (IsOfOther n) (map (λ frame. (s.client, frame)) (due_at i s)) (due_frames i streams)
    (undue_frames n i s (s.client == n) refl h.0) (no_frames n i streams h.1)

undue : (n i : ℕ) (st : Stage) (s t : Stream) → s.picked ≡ 0 → stream_at n st ≡ Some s →
    find (is_of t.client) st.streams ≡ Some t → IsUndue n i t
undue n i st s t p e f h =
    let same : Some s ≡ Some t = sym e ∙ ap (λ k. stream_at k st) (sym (eqb-true t.client n h)) ∙ f in
    nothing_due i t (ap (λ (u : Stream). u.picked) (sym (same_Some s t same)) ∙ p)

sums_none : (n : ℕ) (st : Stage) (x : Move) (s : Stream) → s.picked ≡ 0 → stream_at n st ≡ Some s →
    AreDistinct (clients st) → SumsNone n st x
sums_none n st (sounded m whole) s p e d =
    λ i. no_frames n i (streams_on m.endpoint st.streams)
    (all-filter (IsUndue n i) (λ t. t.endpoint == m.endpoint) st.streams
    (all_weaker (λ t. find (is_of t.client) st.streams ≡ Some t) (IsUndue n i)
    (λ t f. undue n i st s t p e f) st.streams (each_found st.streams d)))
sums_none n st _ s p e d = tt

stays_silent : (n : ℕ) (st : Stage) (s : Stream) (xs : List Move) → is_open s ≡ false → s.picked ≡ 0 →
    stream_at n st ≡ Some s → RisesFrom 0 (clients st) → IsSilent n st xs
stays_silent n st s [] c p e r = tt
stays_silent n st s (x ∷ xs) c p e r = (
  sums_none n st x s p e (rising_distinct 0 _ r),
  stays_silent n (after_move st x) s xs c p (stays_there n st x s c e) (rises_step st x r),
)

pub released-append : (n : ℕ) (st : Stage) (xs ys : List Move) →
    all_released n st (xs ++ ys) ≡ all_released n st xs ++ all_released n (after_moves st xs) ys
released-append n st [] ys = refl
released-append n st (x ∷ xs) ys =
    ap (λ z. of_found (released_by x) (stream_at n st) ++ z) (released-append n (after_move st x) xs ys)
    ∙ sym (append_assoc (of_found (released_by x) (stream_at n st)) _ _)

pub fates-append : (n : ℕ) (st : Stage) (xs ys : List Move) →
    fates n st (xs ++ ys) ≡ fates n st xs ++ fates n (after_moves st xs) ys
fates-append n st [] ys = refl
fates-append n st (x ∷ xs) ys =
    ap (λ z. of_found (fated_by st x) (stream_at n st) ++ z) (fates-append n (after_move st x) xs ys)
    ∙ sym (append_assoc (of_found (fated_by st x) (stream_at n st)) _ _)

pub silence : Silence
silence n s before rest e c = record {
  released =
      released-append n empty_stage before rest
      ∙ ap (λ z. all_released n empty_stage before ++ z) (no_more_released n _ s rest c e) ∙ append-nil _;
  fated =
      fates-append n empty_stage before rest
      ∙ ap (λ z. fates n empty_stage before ++ z) (no_more_fates n _ s rest c e) ∙ append-nil _;
  silent =
      let h = stage_holds before in
      stays_silent n _ s rest c (found_still n (after_moves empty_stage before) s h e c).unpicked e h.rising;
}
