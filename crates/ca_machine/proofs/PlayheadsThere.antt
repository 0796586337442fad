-- The playheads of endpoints that are there, as moves are made and endpoints come and go.
use Rattle.std.proofs.Common.{◌≡◌, ℕ, ◌≤◌, ◌<◌, ◌==◌, ◌||◌, List, [], ◌∷◌, ◌++◌, map, filter, Bool, true, false}
use Rattle.std.proofs.Common.{cond, refl, sym, ap, ap₂, ◌∙◌, subst, arith, eqb, eq-eqb, if◌then◌else◌}
use Rattle.std.proofs.lemmas.Bool.{false≢true, or_from, or_right}
use Rattle.std.proofs.lemmas.Bool.Decides.{nat_tests}
use Rattle.std.specs.List.{AllByRecursion}
use Rattle.ca_stage.specs.Stage.{Playhead, Stage}
use Rattle.ca_stage.specs.Moves.{Move, added, of_client, sounded, Mixing, playhead_after, stream_after}
use Rattle.ca_stage.specs.Moves.{has_playhead, with_added, with_opened, after_move, after_moves}
use Rattle.ca_stage.specs.Periods.{picks, after_sound, sub_steps}
use Rattle.ca_stage.specs.Tally.{Tally, tally_by, tally_after}
use Rattle.ca_stage.specs.Order.{is_among}
use Rattle.ca_stage.proofs.Lists.{all-append, all-filter, all-map, all_of, all_weaker}
use Rattle.ca_stage.proofs.Playheads.{after_number}
use Rattle.ca_stage.proofs.Presence.{filter-filter, filter-map}
use Rattle.ca_machine.specs.Periods.{bytes_due}
use Rattle.ca_machine.specs.Seats.{with_playheads}

abbrev is_there : List ℕ → Playhead → Bool
is_there numbers p = is_among p.number numbers

-- ---- what doesn't look at playheads

pub tally_there : (numbers : List ℕ) (st : Stage) (x : Move) (t : Tally) →
    tally_by (with_playheads numbers st) x t ≡ tally_by st x t
tally_there numbers st (of_client client m) t = refl
tally_there numbers st _ t = refl

-- the streams after moves are the same whatever playheads are there
pub record HaveSameStreams (a b : Stage) : Type 0 where
  pub same : a.streams ≡ b.streams

pub same_streams : (a b : Stage) (xs : List Move) → HaveSameStreams a b →
    HaveSameStreams (after_moves a xs) (after_moves b xs)
same_streams a b [] h = h
same_streams a b (x ∷ xs) h =
    same_streams (after_move a x) (after_move b x) xs
    (record { same = ap (λ ss. with_opened x (map (stream_after x) ss)) h.same })

tally_alike : (a b : Stage) (x : Move) (t : Tally) → HaveSameStreams a b → tally_by a x t ≡ tally_by b x t
tally_alike a b (of_client client m) t h =
    ap (λ ss. tally_by (record { playheads = []; streams = ss }) (of_client client m) t) h.same
tally_alike a b _ t h = refl

pub tally_all_alike : (a b : Stage) (xs : List Move) (t : Tally) → HaveSameStreams a b →
    tally_after t a xs ≡ tally_after t b xs
tally_all_alike a b [] t h = refl
tally_all_alike a b (x ∷ xs) t h =
    ap (λ u. tally_after u (after_move a x) xs) (tally_alike a b x t h)
    ∙ tally_all_alike (after_move a x) (after_move b x) xs (tally_by b x t)
    (record { same = ap (λ ss. with_opened x (map (stream_after x) ss)) h.same })

-- ---- moves that add no playhead

abbrev pub adds_none : Move → Bool
adds_none (added number) = false
adds_none _ = true

abbrev pub AddNone : List Move → Type 0
AddNone xs = AllByRecursion (λ x. adds_none x ≡ true) xs

with_none : (x : Move) (heads : List Playhead) → adds_none x ≡ true → with_added x heads ≡ heads
with_none (added n) heads h = absurd (false≢true h)
with_none _ heads h = refl

there_after : (numbers : List ℕ) (st : Stage) (x : Move) → adds_none x ≡ true →
    after_move (with_playheads numbers st) x ≡ with_playheads numbers (after_move st x)
there_after numbers st x h =
    ap (λ ps. record { playheads = ps; streams = (after_move st x).streams })
    (with_none x (map (playhead_after x) (filter (is_there numbers) st.playheads)) h
    ∙ sym (filter-map (is_there numbers) (playhead_after x)
    (λ p. ap (λ n. is_among n numbers) (after_number x p)) st.playheads)
    ∙ sym (ap (filter (is_there numbers)) (with_none x (map (playhead_after x) st.playheads) h)))

pub there_after_all : (numbers : List ℕ) (st : Stage) (xs : List Move) → AddNone xs →
    after_moves (with_playheads numbers st) xs ≡ with_playheads numbers (after_moves st xs)
there_after_all numbers st [] h = refl
there_after_all numbers st (x ∷ xs) h =
    ap (λ s. after_moves s xs) (there_after numbers st x h.0) ∙ there_after_all numbers (after_move st x) xs h.1

-- ---- endpoints come and go

-- fewer endpoints are there
pub there_fewer : (fewer numbers : List ℕ) (st : Stage) →
    ((n : ℕ) → is_among n numbers ≡ false → is_among n fewer ≡ false) →
    with_playheads fewer (with_playheads numbers st) ≡ with_playheads fewer st
there_fewer fewer numbers st h =
    ap (λ ps. record st { playheads = ps })
    (filter-filter (is_there fewer) (is_there numbers) st.playheads
    (all_of _ (λ p. h p.number) st.playheads))

-- an endpoint is added whose number is above all before it
abbrev pub AreUpTo : ℕ → List Playhead → Type 0
AreUpTo last heads = AllByRecursion (λ (p : Playhead). p.number ≤ last) heads

none_above : (last n : ℕ) (heads : List Playhead) → last < n → AreUpTo last heads → has_playhead n heads ≡ false
none_above last n [] l h = refl
none_above last n (p ∷ heads) l h =
    or_from (p.number == n) (has_playhead n heads) (apart last n p.number l h.0) (none_above last n heads l h.1)
  where
    apart : (last n m : ℕ) → last < n → m ≤ last → eqb m n ≡ false
    apart last n m l k = grind (arith, nat_tests)

among_more : (n m : ℕ) (numbers : List ℕ) → eqb m n ≡ false → is_among n (numbers ++ m ∷ []) ≡ is_among n numbers
among_more n m [] h = or_from (m == n) false h refl
among_more n m (k ∷ numbers) h = ap (λ b. k == n || b) (among_more n m numbers h)

among_last : (n : ℕ) (numbers : List ℕ) → is_among n (numbers ++ n ∷ []) ≡ true
among_last n [] = ap (λ b. b || false) (eq-eqb n n refl)
among_last n (k ∷ numbers) = or_right (k == n) _ (among_last n numbers)

abbrev new_head : ℕ → Playhead
new_head number = record { number = number; next = 0 }

-- those that were there, and the new one
filter_added : (last n : ℕ) (numbers : List ℕ) (heads : List Playhead) → last < n → AreUpTo last heads →
    filter (is_there (numbers ++ n ∷ [])) (heads ++ new_head n ∷ [])
    ≡ filter (is_there numbers) heads ++ new_head n ∷ []
filter_added last n numbers [] l h = ap (λ b. cond b (new_head n ∷ []) []) (among_last n numbers)
filter_added last n numbers (p ∷ heads) l h =
    ap₂ (λ b ps. cond b (p ∷ ps) ps) (among_more p.number n numbers (apart last n p.number l h.0))
    (filter_added last n numbers heads l h.1)
    ∙ go (is_among p.number numbers)
  where
    apart : (last n m : ℕ) → last < n → m ≤ last → eqb n m ≡ false
    apart last n m l k = grind (arith, nat_tests)

    go : (b : Bool) →
        cond b (p ∷ filter (is_there numbers) heads ++ new_head n ∷ [])
        (filter (is_there numbers) heads ++ new_head n ∷ [])
        ≡ cond b (p ∷ filter (is_there numbers) heads) (filter (is_there numbers) heads) ++ new_head n ∷ []
    go true = refl
    go false = refl

up_to_after : (last : ℕ) (x : Move) (heads : List Playhead) → AreUpTo last heads →
    AreUpTo last (map (playhead_after x) heads)
up_to_after last x heads h =
    all-map (λ (p : Playhead). p.number ≤ last) (λ (p : Playhead). p.number ≤ last) (playhead_after x)
    (λ p l. subst (λ n. n ≤ last) (sym (after_number x p)) l) heads h

there_filter : (numbers : List ℕ) (last : ℕ) (heads : List Playhead) → AreUpTo last heads →
    AreUpTo last (filter (is_there numbers) heads)
there_filter numbers last heads h =
    all-filter (λ (p : Playhead). p.number ≤ last) (is_there numbers) heads h

with_new : (last n : ℕ) (heads : List Playhead) → last < n → AreUpTo last heads →
    with_added (added n) heads ≡ heads ++ new_head n ∷ []
with_new last n heads l h = ap (λ b. if b then heads else heads ++ new_head n ∷ []) (none_above last n heads l h)

map_head_same : (n : ℕ) (heads : List Playhead) → map (playhead_after (added n)) heads ≡ heads
map_head_same n [] = refl
map_head_same n (p ∷ heads) = ap (λ ps. p ∷ ps) (map_head_same n heads)

pub there_added : (numbers : List ℕ) (st : Stage) (last n : ℕ) → last < n → AreUpTo last st.playheads →
    after_move (with_playheads numbers st) (added n)
    ≡ with_playheads (numbers ++ n ∷ []) (after_move st (added n))
there_added numbers st last n l h =
    ap (λ ps. record { playheads = ps; streams = (after_move st (added n)).streams })
    (ap (with_added (added n)) (map_head_same n (filter (is_there numbers) st.playheads))
    ∙ with_new last n (filter (is_there numbers) st.playheads) l (there_filter numbers last st.playheads h)
    ∙ sym (filter_added last n numbers st.playheads l h)
    ∙ sym (ap (filter (is_there (numbers ++ n ∷ [])))
    (ap (with_added (added n)) (map_head_same n st.playheads) ∙ with_new last n st.playheads l h)))

-- ---- numbers stay up to the last one

up_to_added : (last : ℕ) (x : Move) (heads : List Playhead) → adds_none x ≡ true → AreUpTo last heads →
    AreUpTo last (with_added x heads)
up_to_added last x heads a h = subst (AreUpTo last) (sym (with_none x heads a)) h

pub up_to_all : (last : ℕ) (st : Stage) (xs : List Move) → AddNone xs → AreUpTo last st.playheads →
    AreUpTo last (after_moves st xs).playheads
up_to_all last st [] a h = h
up_to_all last st (x ∷ xs) a h =
    up_to_all last (after_move st x) xs a.1
    (up_to_added last x (map (playhead_after x) st.playheads) a.0 (up_to_after last x st.playheads h))

pub up_to_new : (last n : ℕ) (st : Stage) → last < n → AreUpTo last st.playheads →
    AreUpTo n (after_move st (added n)).playheads
up_to_new last n st l h =
    subst (AreUpTo n)
    (sym (ap (with_added (added n)) (map_head_same n st.playheads) ∙ with_new last n st.playheads l h))
    (all-append (λ (p : Playhead). p.number ≤ n) st.playheads (new_head n ∷ [])
    (all_weaker (λ (p : Playhead). p.number ≤ last) (λ (p : Playhead). p.number ≤ n)
    (λ p k. below last n p.number l k) st.playheads h)
    (same n, tt))
  where
    below : (last n m : ℕ) → last < n → m ≤ last → m ≤ n
    below last n m l k = omega arith

    same : (n : ℕ) → n ≤ n
    same n = omega arith

-- ---- a period

-- what a period does is the same whatever playheads are there
pub steps_there : (numbers : List ℕ) (st : Stage) (m : Mixing) (whole : Bool) →
    sub_steps m whole (with_playheads numbers st) ≡ sub_steps m whole st
steps_there numbers st m whole = ap (λ ys. picks m st ++ sounded m whole ∷ ys) (go whole)
  where
    same : HaveSameStreams (after_moves (with_playheads numbers st) (picks m st)) (after_moves st (picks m st))
    same = same_streams (with_playheads numbers st) st (picks m st) (record { same = refl })

    go : (b : Bool) →
        after_sound m b (after_moves (with_playheads numbers st) (picks m st))
        ≡ after_sound m b (after_moves st (picks m st))
    go true = ap (λ ss. after_sound m true (record { playheads = []; streams = ss })) same.same
    go false = ap (λ ss. after_sound m false (record { playheads = []; streams = ss })) same.same

pub bytes_there : (numbers : List ℕ) (st : Stage) (m : Mixing) →
    bytes_due m (with_playheads numbers st) ≡ bytes_due m st
bytes_there numbers st m =
    ap (Rattle.ca_stage.specs.Mix.sound_bytes m)
    (same_streams (with_playheads numbers st) st (picks m st) (record { same = refl })).same
