-- Each place once: below the next place one whole Sound mixed a place, and it summed what is rendered there.
use Rattle.std.proofs.Common.{◌≡◌, ℕ, ◌+◌, ◌-◌, ◌<◌, ◌≤◌, ◌==◌, ◌⊎◌, inl, inr, List, [], ◌∷◌, ◌++◌, flat_map, true}
use Rattle.std.proofs.Common.{false, Option, Some, None, refl, sym, ap, ap₂, ◌∙◌, subst, append-nil, append_assoc}
use Rattle.std.proofs.Common.{arith, eq-eqb, le-ltb, lt-ltb, nat_le, nat_lt, slice_get, if◌then◌else◌}
use Rattle.std.proofs.lemmas.Bool.{and_left, and_right, and_from, cases_lt, le-leb, lt-leb}
use Rattle.ca_stage.specs.Stage.{empty_stage, Frame, Stream, Playhead, Stage}
use Rattle.ca_stage.specs.Moves.{Move, sounded, Mixing, after_move, after_moves, playhead_at, stream_at}
use Rattle.ca_stage.specs.Mix.{due_at, mix_of, mixed}
use Rattle.ca_stage.specs.Fates.{of_found, place_of, next_of}
use Rattle.ca_stage.specs.Woven.{IsWoven}
use Rattle.ca_stage.specs.Order.{clients, AreDistinct, IsStage}
use Rattle.ca_stage.specs.Laws.{covers, heard, heard_at, sound_of, sounds, rendered_of, rendered, EachPlaceOnce}
use Rattle.ca_stage.specs.Laws.{NothingAhead, written_at, HasOneSound, OneSound}
use Rattle.ca_stage.proofs.Lists.{all_of, flat_same}
use Rattle.ca_stage.proofs.Clients.{rising_distinct}
use Rattle.ca_stage.proofs.StageHolds.{stage_step, empty_is_stage}
use Rattle.ca_stage.proofs.Mixing.{mixed_at}
use Rattle.ca_stage.proofs.Phases.{idle}
use Rattle.ca_stage.proofs.WovenMoves.{Carries, walk}
use Rattle.ca_stage.proofs.Stages.{after_moves-append}
use Rattle.ca_stage.proofs.Flights.{flying_from, flying, covers_in, summed_by, summed}
use Rattle.ca_stage.proofs.Landings.{flown, begins_grounded}
use Rattle.ca_stage.proofs.WholeSounds.{extra, begun, SoundStep, still, mixes, outside_step, data_step, sub_sounds}
use Rattle.ca_stage.proofs.Sums.{named, over_clients, heard_is}

-- no whole Sound mixed the place
pub record HasNone (number place : ℕ) (st : Stage) (xs : List Move) : Type 0 where
  pub unsounded : sounds number place st xs ≡ []
  pub unsummed : (n : ℕ) → summed number place n st xs ≡ []

-- what is summed of all streams
abbrev pub all_summed : ℕ → ℕ → Stage → List Move → List (ℕ × Frame)
all_summed number place st xs = flat_map (λ n. named n (summed number place n st xs)) (clients (after_moves st xs))

pub record HasOne (number place : ℕ) (st : Stage) (xs : List Move) : Type 0 where
  pub before : List Move
  pub mixing : Mixing
  pub rest : List Move
  pub stands : xs ≡ before ++ sounded mixing true ∷ rest
  pub none_before : sounds number place st before ≡ []
  pub here : sound_of number place (after_moves st before) (sounded mixing true) ≡ all_summed number place st xs ∷ []
  pub none_after : sounds number place (after_moves st (before ++ sounded mixing true ∷ [])) rest ≡ []
  pub written :
      written_at number place mixing (after_moves st before) ≡ Some (mix_of mixing (all_summed number place st xs))

pub record Sounded (number : ℕ) (st : Stage) (b : ℕ) (xs : List Move) : Type 0 where
  pub grows : b ≤ next_of number (after_moves st xs)
  pub below : (place : ℕ) → place < b → HasNone number place st xs
  pub within : IsStage st → (place : ℕ) → b ≤ place → place < next_of number (after_moves st xs) →
      HasOne number place st xs
  pub beyond : (place : ℕ) → next_of number (after_moves st xs) ≤ place → HasNone number place st xs

-- a move that sums nothing at the place
of_none : (f : Stream → List Frame) → ((s : Stream) → f s ≡ []) → (o : Option Stream) → of_found f o ≡ []
of_none f h None = refl
of_none f h (Some s) = h s

summed_same : (number place n : ℕ) (st : Stage) (x : Move) (xs : List Move) →
    ((s : Stream) → summed_by number place st x s ≡ []) →
    summed number place n st (x ∷ xs) ≡ summed number place n (after_move st x) xs
summed_same number place n st x xs h =
    ap (λ z. z ++ summed number place n (after_move st x) xs) (of_none (summed_by number place st x) h (stream_at n st))

none_more : (number place : ℕ) (st : Stage) (x : Move) (xs : List Move) → sound_of number place st x ≡ [] →
    ((s : Stream) → summed_by number place st x s ≡ []) → HasNone number place (after_move st x) xs →
    HasNone number place st (x ∷ xs)
none_more number place st x xs e f k = record {
  unsounded = ap₂ (λ a b. a ++ b) e k.unsounded;
  unsummed = λ n. summed_same number place n st x xs f ∙ k.unsummed n;
}

one_more : (number place : ℕ) (st : Stage) (x : Move) (xs : List Move) → sound_of number place st x ≡ [] →
    ((s : Stream) → summed_by number place st x s ≡ []) → HasOne number place (after_move st x) xs →
    HasOne number place st (x ∷ xs)
one_more number place st x xs e f k = record {
  before = x ∷ k.before;
  mixing = k.mixing;
  rest = k.rest;
  stands = ap (λ z. x ∷ z) k.stands;
  none_before = ap₂ (λ a b. a ++ b) e k.none_before;
  here = k.here ∙ ap (λ z. z ∷ []) same;
  none_after = k.none_after;
  written = k.written ∙ ap (λ z. Some (mix_of k.mixing z)) same;
}
  where
    ns : List ℕ
    ns = clients (after_moves (after_move st x) xs)

    same : all_summed number place (after_move st x) xs ≡ all_summed number place st (x ∷ xs)
    same =
        sym (flat_same (λ n. named n (summed number place n st (x ∷ xs)))
        (λ n. named n (summed number place n (after_move st x) xs)) ns
        (all_of _ (λ n. ap (named n) (summed_same number place n st x xs f)) ns))

still_sounds : (number : ℕ) (st : Stage) (x : Move) (b : ℕ) (xs : List Move) →
    ((place : ℕ) → sound_of number place st x ≡ []) → ((place : ℕ) (s : Stream) → summed_by number place st x s ≡ []) →
    Sounded number (after_move st x) b xs → Sounded number st b (x ∷ xs)
still_sounds number st x b xs e f k = record {
  grows = k.grows;
  below = λ place h. none_more number place st x xs (e place) (f place) (k.below place h);
  within = λ d place h l. one_more number place st x xs (e place) (f place) (k.within (stage_step st x d) place h l);
  beyond = λ place h. none_more number place st x xs (e place) (f place) (k.beyond place h);
}

-- a whole Sound at a place that it doesn't cover
uncovered : (place : ℕ) (m : Mixing) (e : Playhead) → ((place < e.next) ⊎ (e.next + m.frames ≤ place)) →
    covers place m e ≡ false
uncovered place m e (inl h) = and_left (nat_le e.next place) (nat_lt place (e.next + m.frames)) (lt-leb e.next place h)
uncovered place m e (inr h) =
    and_right (nat_le e.next place) (nat_lt place (e.next + m.frames)) (le-ltb place (e.next + m.frames) h)

covered : (place : ℕ) (m : Mixing) (e : Playhead) → e.next ≤ place → place < e.next + m.frames → covers place m e ≡ true
covered place m e h l =
    and_from (nat_le e.next place) (nat_lt place (e.next + m.frames)) (le-leb e.next place h)
    (lt-ltb place (e.next + m.frames) l)

-- a whole Sound of the endpoint whose playhead is e
module _ (number place : ℕ) (st : Stage) (m : Mixing) (e : Playhead) (on : m.endpoint ≡ number)
    (there : playhead_at number st ≡ Some e) where
  sound_at :
      sound_of number place st (sounded m true) ≡ (if covers place m e then heard place m e st.streams ∷ [] else [])
  sound_at =
      ap₂ (λ b o. if b then heard_at place m st.streams o else []) (eq-eqb m.endpoint number on) there

  sound_past : covers place m e ≡ false → sound_of number place st (sounded m true) ≡ []
  sound_past c = sound_at ∙ ap (λ b. if b then heard place m e st.streams ∷ [] else []) c

  summed_at : (s : Stream) → summed_by number place st (sounded m true) s ≡ flying m number place st s
  summed_at s = ap (λ b. if b then flying m number place st s else []) (eq-eqb m.endpoint number on)

  summed_past : covers place m e ≡ false → (s : Stream) → summed_by number place st (sounded m true) s ≡ []
  summed_past c s =
      summed_at s
      ∙ ap (λ b. if b then due_at (place - next_of number st) s else [])
      (and_right (s.endpoint == number) (covers_in place m (playhead_at number st)) (ap (covers_in place m) there ∙ c))

  -- at a place that it covers
  abbrev flies_named : ℕ → Option Stream → List (ℕ × Frame)
  flies_named n o = named n (of_found (flying m number place st) o)

  of_same : (f g : Stream → List Frame) → ((s : Stream) → f s ≡ g s) → (o : Option Stream) → of_found f o ≡ of_found g o
  of_same f g h None = refl
  of_same f g h (Some s) = h s

  summed_here : (n : ℕ) (xs : List Move) → HasNone number place (after_move st (sounded m true)) xs →
      summed number place n st (sounded m true ∷ xs) ≡ of_found (flying m number place st) (stream_at n st)
  summed_here n xs k =
      ap₂ (λ a b. a ++ b)
      (of_same (summed_by number place st (sounded m true)) (flying m number place st) summed_at (stream_at n st))
      (k.unsummed n)
      ∙ append-nil _

  number_is : flat_map (λ s. named s.client (flying_from m m.endpoint place (Some e) s)) st.streams
      ≡ flat_map (λ s. flies_named s.client (Some s)) st.streams
  number_is = ap₂ (λ k o. flat_map (λ s. named s.client (flying_from m k place o s)) st.streams) on (sym there)

  sums_here : (xs : List Move) → AreDistinct (clients st) → covers place m e ≡ true →
      HasNone number place (after_move st (sounded m true)) xs →
      heard place m e st.streams ≡ all_summed number place st (sounded m true ∷ xs)
  sums_here xs d c k =
      heard_is place m e st.streams c
      ∙ number_is
      ∙ sym (over_clients flies_named st (sounded m true ∷ xs) (λ n. refl) d)
      ∙ sym (flat_same (λ n. named n (summed number place n st (sounded m true ∷ xs)))
      (λ n. flies_named n (stream_at n st)) ns (all_of _ (λ n. ap (named n) (summed_here n xs k)) ns))
    where
      ns : List ℕ
      ns = clients (after_moves st (sounded m true ∷ xs))

  written_here : e.next ≤ place → place < e.next + m.frames →
      written_at number place m st ≡ Some (mix_of m (heard place m e st.streams))
  written_here l h =
      ap (λ o. slice_get (mixed m st.streams) (place - place_of o)) there
      ∙ mixed_at m st.streams (place - e.next) (omega arith)

  one_here : (xs : List Move) → AreDistinct (clients st) → e.next ≤ place → place < e.next + m.frames →
      HasNone number place (after_move st (sounded m true)) xs → HasOne number place st (sounded m true ∷ xs)
  one_here xs d l h k =
      let c = covered place m e l h in
      let s = sums_here xs d c k in
      record {
        before = [];
        mixing = m;
        rest = xs;
        stands = refl;
        none_before = refl;
        here =
            sound_at ∙ ap (λ b. if b then heard place m e st.streams ∷ [] else []) c ∙ ap (λ z. z ∷ []) s;
        none_after = k.unsounded;
        written = written_here l h ∙ ap (λ z. Some (mix_of m z)) s;
      }

  mixes_within : (b' : ℕ) (xs : List Move) → b' ≡ e.next + m.frames →
      Sounded number (after_move st (sounded m true)) b' xs → IsStage st → e.next ≤ place →
      place < next_of number (after_moves st (sounded m true ∷ xs)) → ((place < b') ⊎ (b' ≤ place)) →
      HasOne number place st (sounded m true ∷ xs)
  mixes_within b' xs n k d l h (inl i) = one_here xs (rising_distinct 0 _ d.rising) l (omega arith) (k.below place i)
  mixes_within b' xs n k d l h (inr i) =
      let c = uncovered place m e (inr (omega arith)) in
      one_more number place st (sounded m true) xs (sound_past c) (summed_past c)
      (k.within (stage_step st (sounded m true) d) place i h)

mixes_sounds : (number : ℕ) (st : Stage) (m : Mixing) (e : Playhead) (b b' : ℕ) (xs : List Move) →
    m.endpoint ≡ number → playhead_at number st ≡ Some e → b ≡ e.next → b' ≡ e.next + m.frames →
    Sounded number (after_move st (sounded m true)) b' xs → Sounded number st b (sounded m true ∷ xs)
mixes_sounds number st m e b b' xs on there n n' k = record {
  grows = let g = k.grows in omega arith;
  below = λ place l.
      let c = uncovered place m e (inl (omega arith)) in
      none_more number place st (sounded m true) xs (sound_past number place st m e on there c)
      (summed_past number place st m e on there c) (k.below place (omega arith));
  within = λ d place l h.
      mixes_within number place st m e on there b' xs n' k d (omega arith) h (cases_lt place b');
  beyond = λ place l.
      let g = k.grows in
      let c = uncovered place m e (inr (omega arith)) in
      none_more number place st (sounded m true) xs (sound_past number place st m e on there c)
      (summed_past number place st m e on there c) (k.beyond place l);
}

step_sounds : (number : ℕ) (st : Stage) (x : Move) (b b' : ℕ) (xs : List Move) → SoundStep number st x b b' →
    Sounded number (after_move st x) b' xs → Sounded number st b (x ∷ xs)
step_sounds number st x b b' xs (still e f h) k =
    still_sounds number st x b xs e f (subst (λ c. Sounded number (after_move st x) c xs) h k)
step_sounds number st x b b' xs (mixes m e y on there n n') k =
    subst (λ y. Sounded number st b (y ∷ xs)) (sym y)
    (mixes_sounds number st m e b b' xs on there n n' (subst (λ y. Sounded number (after_move st y) b' xs) y k))

ends_sounded : (number : ℕ) (st : Stage) → Sounded number st (begun number st []) []
ends_sounded number st = record {
  grows = omega arith;
  below = λ place h. record { unsounded = refl; unsummed = λ n. refl };
  within = λ d place h l. absurd (omega arith);
  beyond = λ place h. record { unsounded = refl; unsummed = λ n. refl };
}

abbrev IsSounded : ℕ → Stage → List Move → List Move → Type 0
IsSounded number st due xs = Sounded number st (begun number st due) xs

carries_sounded : (number : ℕ) → Carries (IsSounded number)
carries_sounded number = record {
  ends = λ st. ends_sounded number st;
  outside = λ st x xs e k. step_sounds number st x _ _ xs (outside_step number st x e) k;
  data_call = λ st x next due xs h d k. step_sounds number st x _ _ xs (data_step number st x (next ∷ due) d) k;
  sub_step = λ st x due xs h s k. step_sounds number st x _ _ xs (sub_sounds number st x due s) k;
  begins = λ st x due xs p k.
      subst (λ a. Sounded number st (next_of number st + extra a number) (x ∷ xs)) (begins_grounded st (x ∷ due) p) k;
}

pub sounded_all : (number : ℕ) (xs : List Move) → IsWoven empty_stage [] xs → Sounded number empty_stage 0 xs
sounded_all number xs w =
    walk (IsSounded number) (carries_sounded number) empty_stage [] xs
    (idle (record { due_is = refl; rests = tt })) empty_is_stage w

-- what is summed is rendered
all_rendered : (number place : ℕ) (xs : List Move) → IsWoven empty_stage [] xs →
    all_summed number place empty_stage xs ≡ rendered number place xs
all_rendered number place xs w =
    flat_same (λ n. named n (summed number place n empty_stage xs)) (rendered_of number place xs) ns
    (all_of _ (λ n. ap (named n) (flown number place n empty_stage xs tt empty_is_stage w)) ns)
  where
    ns : List ℕ
    ns = clients (after_moves empty_stage xs)

pub one_sound : OneSound
one_sound number place xs w h =
    let k = (sounded_all number xs w).within empty_is_stage place (omega arith) h in
    record {
      before = k.before;
      mixing = k.mixing;
      rest = k.rest;
      stands = k.stands;
      none_before = k.none_before;
      here = k.here ∙ ap (λ z. z ∷ []) (all_rendered number place xs w);
      none_after = k.none_after;
      written = k.written ∙ ap (λ z. Some (mix_of k.mixing z)) (all_rendered number place xs w);
    }

sounds-append : (number place : ℕ) (st : Stage) (xs ys : List Move) →
    sounds number place st (xs ++ ys) ≡ sounds number place st xs ++ sounds number place (after_moves st xs) ys
sounds-append number place st [] ys = refl
sounds-append number place st (x ∷ xs) ys =
    ap (λ z. sound_of number place st x ++ z) (sounds-append number place (after_move st x) xs ys)
    ∙ sym (append_assoc (sound_of number place st x) _ _)

one_is_all : (number place : ℕ) (xs : List Move) → HasOneSound number place xs →
    sounds number place empty_stage xs ≡ rendered number place xs ∷ []
one_is_all number place xs k =
    ap (sounds number place empty_stage) k.stands
    ∙ sounds-append number place empty_stage k.before (sounded k.mixing true ∷ k.rest)
    ∙ ap₂ (λ a b. a ++ b) k.none_before
    (ap₂ (λ a b. a ++ b) k.here
    (ap (λ st. sounds number place st k.rest)
    (sym (after_moves-append empty_stage k.before (sounded k.mixing true ∷ [])))
    ∙ k.none_after))

pub each_place_once : EachPlaceOnce
each_place_once number place xs w h = one_is_all number place xs (one_sound number place xs w h)

nothing_named : (number place : ℕ) (xs : List Move) → ((n : ℕ) → summed number place n empty_stage xs ≡ []) →
    (ns : List ℕ) → flat_map (λ n. named n (summed number place n empty_stage xs)) ns ≡ []
nothing_named number place xs h [] = refl
nothing_named number place xs h (n ∷ ns) = ap₂ (λ a b. named n a ++ b) (h n) (nothing_named number place xs h ns)

pub nothing_ahead : NothingAhead
nothing_ahead number place xs w h =
    let k = (sounded_all number xs w).beyond place h in
    record {
      unsounded = k.unsounded;
      unrendered =
          sym (all_rendered number place xs w)
          ∙ nothing_named number place xs k.unsummed (clients (after_moves empty_stage xs));
    }
