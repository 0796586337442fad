-- Counts of fates: over all streams the frames add up, and the tally is how many fates of each kind there are.
use Rattle.std.proofs.Common.{◌≡◌, ℕ, suc, ◌+◌, ◌-◌, ◌≤◌, ◌==◌, min, subst, List, [], ◌∷◌, ◌++◌, length, map, take}
use Rattle.std.proofs.Common.{Bool, true, false, cond, Option, Some, None, refl, sym, ap, ap₂, ◌∙◌}
use Rattle.std.proofs.Common.{length-drop, length-take-le, arith, sum_by, count_by, eqb, eqb-true}
use Rattle.std.proofs.Common.{if◌then◌else◌, zero-add}
use Rattle.std.proofs.lemmas.Bool.{and_left, or_parts, or_from}
use Rattle.std.proofs.lemmas.List.Sums.{sum_by-cons, sum_by-append}
use Rattle.std.specs.List.{list_any}
use Rattle.ca_base.specs.declared.limits.TheConstants.{MAX_TALLY}
use Rattle.ca_stage.specs.Stage.{empty_stage, Frame, Stream, Stage, is_open}
use Rattle.ca_stage.specs.Moves.{StreamMove, reset, closed, retired, Move, of_client, is_open_of, after_move}
use Rattle.ca_stage.specs.Moves.{after_moves, stream_at}
use Rattle.ca_stage.specs.Fates.{Fate, Rendered, Reset, Dropped, of_found, rendered_from, fates_given, fated_by}
use Rattle.ca_stage.specs.Fates.{next_of, pending_of, all_released, fates, is_rendered, is_reset, is_dropped}
use Rattle.ca_stage.specs.Tally.{Tally, no_tally, counted, tally_of_stream, tally_of_found, tally_by, tally_after}
use Rattle.ca_stage.specs.Order.{clients, IsWithout, AreDistinct, IsHeld, IsStage}
use Rattle.ca_stage.specs.Laws.{IsKept, AddsUp, Totals, Tallies}
use Rattle.ca_stage.proofs.Lists.{all_found}
use Rattle.ca_stage.proofs.Streams.{is_of, found_client}
use Rattle.ca_stage.proofs.Conservation.{conservation}
use Rattle.ca_stage.proofs.Clients.{rising_distinct, found_none, without_before}
use Rattle.ca_stage.proofs.StageHolds.{stage_step, stage_after, empty_is_stage}

pub count-cons : (kind : Fate → Bool) (f : Fate) (fs : List Fate) →
    count_by kind (f ∷ fs) ≡ cond (kind f) 1 0 + count_by kind fs
count-cons kind f fs = sum_by-cons (λ f. cond (kind f) 1 0) f fs

pub count-append : (kind : Fate → Bool) (fs gs : List Fate) →
    count_by kind (fs ++ gs) ≡ count_by kind fs + count_by kind gs
count-append kind fs gs = sum_by-append (λ f. cond (kind f) 1 0) fs gs

-- of frames that have one kind of fate, all or none are of a kind
abbrev pub all_or_none : Bool → ℕ → ℕ
all_or_none b n = cond b n 0

one_more : (b : Bool) (n : ℕ) → cond b 1 0 + all_or_none b n ≡ all_or_none b (suc n)
one_more true n = omega arith
one_more false n = refl

pub count-rendered_from : (kind : Fate → Bool) (b : Bool) → ((number place : ℕ) → kind (Rendered number place) ≡ b) →
    (number place : ℕ) (frames : List Frame) →
    count_by kind (rendered_from number place frames) ≡ all_or_none b (length frames)
count-rendered_from kind true h number place [] = refl
count-rendered_from kind false h number place [] = refl
count-rendered_from kind b h number place (frame ∷ frames) =
    count-cons kind (Rendered number place) (rendered_from number (place + 1) frames)
    ∙ ap₂ (λ c k. cond c 1 0 + k) (h number place) (count-rendered_from kind b h number (place + 1) frames)
    ∙ one_more b (length frames)

pub count-map : (kind : Fate → Bool) (b : Bool) (f : Frame → Fate) → ((frame : Frame) → kind (f frame) ≡ b) →
    (frames : List Frame) → count_by kind (map f frames) ≡ all_or_none b (length frames)
count-map kind true f h [] = refl
count-map kind false f h [] = refl
count-map kind b f h (frame ∷ frames) =
    count-cons kind (f frame) (map f frames)
    ∙ ap₂ (λ c k. cond c 1 0 + k) (h frame) (count-map kind b f h frames)
    ∙ one_more b (length frames)

-- each fate is of one kind
one_kind : (f : Fate) (a b c : ℕ) →
    suc (a + b + c) ≡ (cond (is_rendered f) 1 0 + a) + (cond (is_reset f) 1 0 + b) + (cond (is_dropped f) 1 0 + c)
one_kind (Rendered number place) a b c = omega arith
one_kind Reset a b c = omega arith
one_kind (Dropped reason) a b c = omega arith

kinds : (fs : List Fate) → length fs ≡ count_by is_rendered fs + count_by is_reset fs + count_by is_dropped fs
kinds [] = refl
kinds (f ∷ fs) =
    ap suc (kinds fs) ∙ one_kind f (count_by is_rendered fs) (count_by is_reset fs) (count_by is_dropped fs)
    ∙ sym (ap₂ (λ x y. x + y)
    (ap₂ (λ x y. x + y) (count-cons is_rendered f fs) (count-cons is_reset f fs)) (count-cons is_dropped f fs))

kept_length : (p all : List Frame) (fs : List Fate) → IsKept p all fs → length all ≡ length fs + length p
kept_length p all fs k =
    let e : length p ≡ length all - length fs = ap length k.rest ∙ length-drop (length fs) all in
    let w = k.within in
    omega arith

one_adds_up : (n : ℕ) (xs : List Move) → length (all_released n empty_stage xs)
    ≡ count_by is_rendered (fates n empty_stage xs) + length (pending_of n (after_moves empty_stage xs))
    + count_by is_reset (fates n empty_stage xs) + count_by is_dropped (fates n empty_stage xs)
one_adds_up n xs =
    let a = kept_length _ _ _ (conservation n xs) in
    let b = kinds (fates n empty_stage xs) in
    regroup (length (fates n empty_stage xs)) _ _ _ _ _ a b
  where
    regroup : (f p r s d l : ℕ) → l ≡ f + p → f ≡ r + s + d → l ≡ r + p + s + d
    regroup f p r s d l a b = omega arith

-- sums over numbers of what is equal at each
sums_add : (l r p s d : ℕ → ℕ) → ((n : ℕ) → l n ≡ r n + p n + s n + d n) → (ns : List ℕ) →
    sum_by l ns ≡ sum_by r ns + sum_by p ns + sum_by s ns + sum_by d ns
sums_add l r p s d h [] = refl
sums_add l r p s d h (n ∷ ns) =
    let e = sums_add l r p s d h ns in
    let e0 = h n in
    sum_by-cons l n ns ∙ regroup (l n) (r n) (p n) (s n) (d n) _ _ _ _ _ e0 e
    ∙ sym (ap₂ (λ x y. x + y)
    (ap₂ (λ x y. x + y) (ap₂ (λ x y. x + y) (sum_by-cons r n ns) (sum_by-cons p n ns)) (sum_by-cons s n ns))
    (sum_by-cons d n ns))
  where
    regroup : (l r p s d l' r' p' s' d' : ℕ) → l ≡ r + p + s + d → l' ≡ r' + p' + s' + d' →
        l + l' ≡ (r + r') + (p + p') + (s + s') + (d + d')
    regroup l r p s d l' r' p' s' d' a b = omega arith

pub adds_up : (ns : List ℕ) (xs : List Move) → AddsUp ns xs
adds_up ns xs = sums_add _ _ _ _ _ (λ n. one_adds_up n xs) ns

pub totals : Totals
totals xs = adds_up (clients (after_moves empty_stage xs)) xs

-- a sum of which one number alone may add
sum_zero : (g : ℕ → ℕ) (ns : List ℕ) → ((n : ℕ) → g n ≡ 0) → sum_by g ns ≡ 0
sum_zero g [] h = refl
sum_zero g (n ∷ ns) h = sum_by-cons g n ns ∙ ap₂ (λ a b. a + b) (h n) (sum_zero g ns h)

sum_others : (g : ℕ → ℕ) (c : ℕ) (ns : List ℕ) → ((n : ℕ) → eqb n c ≡ false → g n ≡ 0) → IsWithout c ns →
    sum_by g ns ≡ 0
sum_others g c [] h w = refl
sum_others g c (n ∷ ns) h w =
    let p = or_parts (eqb n c) (list_any (λ k. k == c) ns) w in
    sum_by-cons g n ns ∙ ap₂ (λ a b. a + b) (h n p.0) (sum_others g c ns h p.1)

sum_only : (g : ℕ → ℕ) (c : ℕ) (ns : List ℕ) → AreDistinct ns → ((n : ℕ) → eqb n c ≡ false → g n ≡ 0) →
    (IsWithout c ns → g c ≡ 0) → sum_by g ns ≡ g c
sum_only g c [] d h w = sym (w refl)
sum_only g c (n ∷ ns) d h w =
    sum_by-cons g n ns ∙ go (eqb n c) refl (λ w. sum_only g c ns d.1 h w)
  where
    go : (b : Bool) → eqb n c ≡ b → ((IsWithout c ns → g c ≡ 0) → sum_by g ns ≡ g c) → g n + sum_by g ns ≡ g c
    go true e f =
        let same = eqb-true n c e in
        ap (λ k. g n + k) (sum_others g c ns h (ap (λ m. list_any (λ k. k == m) ns) (sym same) ∙ d.0))
        ∙ ap (λ m. g m + 0) same ∙ omega arith
    go false e f = ap₂ (λ a b. a + b) (h n e) (f (λ k. w (or_from (eqb n c) _ e k))) ∙ zero-add (g c)

sum_pairs : (f g : ℕ → ℕ) (ns : List ℕ) → sum_by (λ n. f n + g n) ns ≡ sum_by f ns + sum_by g ns
sum_pairs f g [] = refl
sum_pairs f g (n ∷ ns) =
    sum_by-cons (λ n. f n + g n) n ns ∙ regroup (f n) (g n) _ _ _ (sum_pairs f g ns)
    ∙ sym (ap₂ (λ a b. a + b) (sum_by-cons f n ns) (sum_by-cons g n ns))
  where
    regroup : (a b s t u : ℕ) → s ≡ t + u → (a + b) + s ≡ (a + t) + (b + u)
    regroup a b s t u e = omega arith

sum_same : (f g : ℕ → ℕ) (ns : List ℕ) → ((n : ℕ) → f n ≡ g n) → sum_by f ns ≡ sum_by g ns
sum_same f g [] h = refl
sum_same f g (n ∷ ns) h =
    sum_by-cons f n ns ∙ ap₂ (λ a b. a + b) (h n) (sum_same f g ns h) ∙ sym (sum_by-cons g n ns)

-- a count that adds nothing, and one that adds twice
pub counted_none : (t : ℕ) {k : ℕ} → t ≤ MAX_TALLY → k ≡ 0 → t ≡ counted t k
counted_none t h e = omega arith

pub counted_twice : (t a b : ℕ) {c : ℕ} → c ≡ a + b → counted (counted t a) b ≡ counted t c
counted_twice t a b e = omega arith

pub counted_most : (t a : ℕ) → counted t a ≤ MAX_TALLY
counted_most t a = omega arith

-- one kind of fate, and the count of it in a tally
module _ (kind : Fate → Bool) (field : Tally → ℕ) (moves : (m : StreamMove) (next : ℕ) (s : Stream) (t : Tally) →
    IsHeld s → field t ≤ MAX_TALLY →
    field (tally_of_stream m s t) ≡ counted (field t) (count_by kind (fates_given m next s))) where
  tally_found : (st : Stage) (client : ℕ) (m : StreamMove) (o : Option Stream) (t : Tally) →
      ((s : Stream) → o ≡ Some s → IsHeld s) → field t ≤ MAX_TALLY →
      field (tally_of_found client m o t)
      ≡ counted (field t) (count_by kind (of_found (fated_by st (of_client client m)) o))
  tally_found st client m None t h l = counted_none (field t) l refl
  tally_found st client m (Some s) t h l = go (is_open_of client s)
    where
      go : (b : Bool) → field (if b then tally_of_stream m s t else t)
          ≡ counted (field t) (count_by kind (if b then fates_given m (next_of s.endpoint st) s else []))
      go true = moves m (next_of s.endpoint st) s t (h s refl) l
      go false = counted_none (field t) l refl

  -- what a move adds over all clients
  abbrev added_by : Stage → Move → ℕ → ℕ
  added_by st x n = count_by kind (of_found (fated_by st x) (stream_at n st))

  other_adds : (st : Stage) (client : ℕ) (m : StreamMove) (n : ℕ) → eqb n client ≡ false → (o : Option Stream) →
      stream_at n st ≡ o → count_by kind (of_found (fated_by st (of_client client m)) o) ≡ 0
  other_adds st client m n h None e = refl
  other_adds st client m n h (Some s) e =
      ap (λ b. count_by kind (if b then fates_given m (next_of s.endpoint st) s else []))
      (and_left (s.client == client) (is_open s) (ap (λ k. eqb k client) (found_client n st s e) ∙ h))

  no_fates : (o : Option Stream) → count_by kind (of_found (λ s. []) o) ≡ 0
  no_fates None = refl
  no_fates (Some s) = refl

  none_adds : (st : Stage) (x : Move) (n : ℕ) → of_found (fated_by st x) (stream_at n st) ≡ [] → added_by st x n ≡ 0
  none_adds st x n e = ap (count_by kind) e

  tally_step : (st : Stage) (x : Move) (t : Tally) (ns : List ℕ) → IsStage st → AreDistinct ns →
      ((n : ℕ) → IsWithout n ns → stream_at n st ≡ None) → field t ≤ MAX_TALLY →
      field (tally_by st x t) ≡ counted (field t) (sum_by (added_by st x) ns)
  tally_step st (of_client client m) t ns h d w l =
      tally_found st client m (stream_at client st) t (λ s e. all_found IsHeld (is_of client) st.streams s h.held e) l
      ∙ ap (counted (field t)) (sym (sum_only (added_by st (of_client client m)) client ns d
      (λ n e. other_adds st client m n e (stream_at n st) refl)
      (λ k. ap (λ (o : Option Stream). count_by kind (of_found (fated_by st (of_client client m)) o)) (w client k))))
  tally_step st x t ns h d w l = counted_none (field t) l (sum_zero (added_by st x) ns (λ n. no_fates (stream_at n st)))

  pub tally_all : (t : Tally) (st : Stage) (xs : List Move) → IsStage st → field t ≤ MAX_TALLY →
      field (tally_after t st xs)
      ≡ counted (field t) (sum_by (λ n. count_by kind (fates n st xs)) (clients (after_moves st xs)))
  tally_all t st [] h l = counted_none (field t) l (sum_zero (λ n. count_by kind []) (clients st) (λ n. refl))
  tally_all t st (x ∷ xs) h l =
      tally_all (tally_by st x t) (after_move st x) xs (stage_step st x h)
      (subst (λ k. k ≤ MAX_TALLY) (sym step) (counted_most (field t) (sum_by (added_by st x) ns)))
      ∙ ap (λ k. counted k (sum_by (λ n. count_by kind (fates n (after_move st x) xs)) ns)) step
      ∙ counted_twice (field t) _ _
      (sum_same (λ n. count_by kind (fates n st (x ∷ xs))) _ ns
      (λ n. count-append kind (of_found (fated_by st x) (stream_at n st)) (fates n (after_move st x) xs))
      ∙ sum_pairs (added_by st x) (λ n. count_by kind (fates n (after_move st x) xs)) ns)
    where
      ns : List ℕ
      ns = clients (after_moves st (x ∷ xs))

      step : field (tally_by st x t) ≡ counted (field t) (sum_by (added_by st x) ns)
      step =
          tally_step st x t ns h (rising_distinct 0 ns (stage_after st (x ∷ xs) h).rising)
          (λ n w. found_none n st.streams (without_before n st (x ∷ xs) w)) l

-- the frames that a Retire renders
pub retired_frames : (s : Stream) → IsHeld s → length (take s.picked s.buffer_data.pending) ≡ s.picked
retired_frames s h = length-take-le s.picked s.buffer_data.pending h

-- what adds something, and what adds nothing
pub more_by : (t : ℕ) {a b : ℕ} → a ≡ b → t + b ≡ t + a
more_by t e = omega arith

pub same_by : (t : ℕ) {a : ℕ} → a ≡ 0 → t ≡ t + a
same_by t e = omega arith

counted_more : (t : ℕ) {a b : ℕ} → a ≡ b → counted t b ≡ counted t a
counted_more t e = ap (counted t) (sym e)

rendered_moves : (m : StreamMove) (next : ℕ) (s : Stream) (t : Tally) → IsHeld s → t.rendered ≤ MAX_TALLY →
    (tally_of_stream m s t).rendered ≡ counted t.rendered (count_by is_rendered (fates_given m next s))
rendered_moves retired next s t h l =
    counted_more t.rendered
    (count-rendered_from is_rendered true (λ n p. refl) s.endpoint next (take s.picked s.buffer_data.pending)
    ∙ retired_frames s h)
rendered_moves reset next s t h l =
    counted_none t.rendered l (count-map is_rendered false (λ frame. Reset) (λ frame. refl) s.buffer_data.pending)
rendered_moves (closed reason) next s t h l =
    counted_none t.rendered l
    (count-map is_rendered false (λ frame. Dropped reason) (λ frame. refl) s.buffer_data.pending)
rendered_moves _ next s t h l = counted_none t.rendered l refl

reset_moves : (m : StreamMove) (next : ℕ) (s : Stream) (t : Tally) → IsHeld s → t.reset ≤ MAX_TALLY →
    (tally_of_stream m s t).reset ≡ counted t.reset (count_by is_reset (fates_given m next s))
reset_moves retired next s t h l =
    counted_none t.reset l
    (count-rendered_from is_reset false (λ n p. refl) s.endpoint next (take s.picked s.buffer_data.pending))
reset_moves reset next s t h l =
    counted_more t.reset (count-map is_reset true (λ frame. Reset) (λ frame. refl) s.buffer_data.pending)
reset_moves (closed reason) next s t h l =
    counted_none t.reset l (count-map is_reset false (λ frame. Dropped reason) (λ frame. refl) s.buffer_data.pending)
reset_moves _ next s t h l = counted_none t.reset l refl

dropped_moves : (m : StreamMove) (next : ℕ) (s : Stream) (t : Tally) → IsHeld s → t.dropped ≤ MAX_TALLY →
    (tally_of_stream m s t).dropped ≡ counted t.dropped (count_by is_dropped (fates_given m next s))
dropped_moves retired next s t h l =
    counted_none t.dropped l
    (count-rendered_from is_dropped false (λ n p. refl) s.endpoint next (take s.picked s.buffer_data.pending))
dropped_moves reset next s t h l =
    counted_none t.dropped l (count-map is_dropped false (λ frame. Reset) (λ frame. refl) s.buffer_data.pending)
dropped_moves (closed reason) next s t h l =
    counted_more t.dropped (count-map is_dropped true (λ frame. Dropped reason) (λ frame. refl) s.buffer_data.pending)
dropped_moves _ next s t h l = counted_none t.dropped l refl

-- a count from nothing on
from_zero : {a : ℕ} (b : ℕ) → a ≡ counted 0 b → a ≡ min MAX_TALLY b
from_zero b e = omega arith

pub tallies : Tallies
tallies xs = record {
  rendered =
      from_zero _ (tally_all is_rendered (λ t. t.rendered) rendered_moves no_tally empty_stage xs empty_is_stage z);
  reset =
      from_zero _ (tally_all is_reset (λ t. t.reset) reset_moves no_tally empty_stage xs empty_is_stage z);
  dropped =
      from_zero _ (tally_all is_dropped (λ t. t.dropped) dropped_moves no_tally empty_stage xs empty_is_stage z);
}
  where
    z : 0 ≤ MAX_TALLY
    z = omega arith
