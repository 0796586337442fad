-- The streams of released clients may be left out: they are closed.
use Rattle.std.proofs.Common.{◌≡◌, ℕ, suc, ◌<◌, ◌==◌, ◌&&◌, ◌||◌, nat_lt, List, [], ◌∷◌, ◌++◌, map, filter, Bool, true}
use Rattle.std.proofs.Common.{false, cond, Option, Some, None, refl, sym, ap, ap₂, ◌∙◌, subst, find, arith, eqb-true}
use Rattle.std.proofs.Common.{if◌then◌else◌, lt-ltb}
use Rattle.std.proofs.lemmas.Bool.{true≢false, false≢true, and_left, and_right}
use Rattle.std.specs.List.{list_any, AllByRecursion, range_with_len}
use Rattle.ca_base.specs.declared.ids.Reason.TheVariants.{Removal}
use Rattle.ca_base.specs.declared.ids.StreamKind.{StreamKind}
use Rattle.ca_stage.specs.Stage.{empty_stage, Frame, Stream, Stage, is_open, is_render, is_capture, is_loopback}
use Rattle.ca_stage.specs.Moves.{Mixing, StreamMove, closed, picked, retired, fed, Move, opened, of_client, sounded}
use Rattle.ca_stage.specs.Moves.{finished, captured, moved, is_open_of, stream_after, has_stream, as_opened, inserted}
use Rattle.ca_stage.specs.Moves.{with_opened, after_move, after_moves, stream_at}
use Rattle.ca_stage.specs.Periods.{is_playing, is_open_on, is_recording, is_hearing, playing_streams_on}
use Rattle.ca_stage.specs.Periods.{open_streams_on, feeds, picks, after_sound, sub_steps}
use Rattle.ca_stage.specs.Mix.{due_at, due_frames, streams_on, mix_of, mixed}
use Rattle.ca_stage.specs.Tally.{Tally, tally_of_stream, tally_of_found, tally_by}
use Rattle.ca_stage.specs.Order.{clients, is_among, RisesFrom, IsSettled, IsStage}
use Rattle.ca_stage.specs.Present.{present, IsGone, AreGone, IsWhole, OpensPresent}
use Rattle.ca_stage.specs.Laws.{PresentIsWhole, PresentGoesOn}
use Rattle.ca_stage.proofs.Lists.{chosen, chosen_by, all-map, all-filter, all_both, all_of, all_weaker, map_alike}
use Rattle.ca_stage.proofs.Lists.{all_found}
use Rattle.ca_stage.proofs.Streams.{after_client, stays, all-inserted, not_open_of, is_of, found_client}
use Rattle.ca_stage.proofs.Clients.{clients_of, clients_moved, lt_true, rises_step}
use Rattle.ca_stage.proofs.StageHolds.{stage_after, stage_holds}
use Rattle.ca_stage.proofs.Silence.{nothing_due}
use Rattle.ca_stage.proofs.Stages.{after_moves-append}

-- whether the client of a stream is among these
abbrev pub is_left : List ℕ → Stream → Bool
is_left numbers s = is_among s.client numbers

-- lists without the members that a test leaves out
both_filter : {A : Type 0} (p : A → Bool) (x : A) (kept all : List A) (b : Bool) → (b ≡ false → p x ≡ false) →
    filter p kept ≡ filter p all → filter p (cond b (x ∷ kept) kept) ≡ filter p (x ∷ all)
both_filter p x kept all true h e = ap (λ ys. cond (p x) (x ∷ ys) ys) e
both_filter p x kept all false h e = e ∙ sym (ap (λ b. cond b (x ∷ filter p all) (filter p all)) (h refl))

pub filter-filter : {A : Type 0} (p q : A → Bool) (xs : List A) →
    AllByRecursion (λ x. q x ≡ false → p x ≡ false) xs → filter p (filter q xs) ≡ filter p xs
filter-filter p q [] h = refl
filter-filter p q (x ∷ xs) h = both_filter p x (filter q xs) xs (q x) h.0 (filter-filter p q xs h.1)

moved_one : {A : Type 0} (f : A → A) (x : A) (xs : List A) (b : Bool) →
    cond b (f x ∷ map f xs) (map f xs) ≡ map f (cond b (x ∷ xs) xs)
moved_one f x xs true = refl
moved_one f x xs false = refl

pub filter-map : {A : Type 0} (q : A → Bool) (f : A → A) → ((a : A) → q (f a) ≡ q a) → (xs : List A) →
    filter q (map f xs) ≡ map f (filter q xs)
filter-map q f h [] = refl
filter-map q f h (x ∷ xs) =
    ap₂ (λ b ys. cond b (f x ∷ ys) ys) (h x) (filter-map q f h xs) ∙ moved_one f x (filter q xs) (q x)

kept_find : {A : Type 0} (p : A → Bool) (x : A) (kept all : List A) (b : Bool) → (b ≡ false → p x ≡ false) →
    find p kept ≡ find p all → find p (cond b (x ∷ kept) kept) ≡ find p (x ∷ all)
kept_find p x kept all true h e = ap (cond (p x) (Some x)) e
kept_find p x kept all false h e = e ∙ sym (ap (λ b. cond b (Some x) (find p all)) (h refl))

find-filter : {A : Type 0} (p q : A → Bool) (xs : List A) → ((x : A) → q x ≡ false → p x ≡ false) →
    find p (filter q xs) ≡ find p xs
find-filter p q [] h = refl
find-filter p q (x ∷ xs) h = kept_find p x (filter q xs) xs (q x) (h x) (find-filter p q xs h)

gone_find : {A : Type 0} (p : A → Bool) (x : A) (kept : List A) (b : Bool) → (b ≡ true → p x ≡ false) →
    find p kept ≡ None → find p (cond b (x ∷ kept) kept) ≡ None
gone_find p x kept true h e = ap₂ (λ b o. cond b (Some x) o) (h refl) e
gone_find p x kept false h e = e

find_none : {A : Type 0} (p q : A → Bool) (xs : List A) → ((x : A) → q x ≡ true → p x ≡ false) →
    find p (filter q xs) ≡ None
find_none p q [] h = refl
find_none p q (x ∷ xs) h = gone_find p x (filter q xs) (q x) (h x) (find_none p q xs h)

kept_any : {A : Type 0} (p : A → Bool) (x : A) (kept all : List A) (b : Bool) → (b ≡ false → p x ≡ false) →
    list_any p kept ≡ list_any p all → list_any p (cond b (x ∷ kept) kept) ≡ list_any p (x ∷ all)
kept_any p x kept all true h e = ap (λ b. p x || b) e
kept_any p x kept all false h e = e ∙ sym (ap (λ b. b || list_any p all) (h refl))

any_same : {A : Type 0} (p q : A → Bool) (xs : List A) → ((x : A) → q x ≡ false → p x ≡ false) →
    list_any p (filter q xs) ≡ list_any p xs
any_same p q [] h = refl
any_same p q (x ∷ xs) h = kept_any p x (filter q xs) xs (q x) (h x) (any_same p q xs h)

-- a closed stream neither plays, hears, records nor is open on an endpoint, and has nothing due
closed_rests : (number : ℕ) (test : StreamKind → Bool) (s : Stream) → is_open s ≡ false →
    (s.endpoint == number && (is_open s && (s.running && test s.kind))) ≡ false
closed_rests number test s c =
    and_right (s.endpoint == number) (is_open s && (s.running && test s.kind))
    (and_left (is_open s) (s.running && test s.kind) c)

closed_not_on : (number : ℕ) (s : Stream) → is_open s ≡ false → is_open_on number s ≡ false
closed_not_on number s c = and_right (s.endpoint == number) (is_open s) c

abbrev HasNothingDue : List ℕ → ℕ → Stream → Type 0
HasNothingDue numbers i s = is_left numbers s ≡ false → due_at i s ≡ []

due_one : (number i : ℕ) (s : Stream) (kept all : List Stream) (b : Bool) → (b ≡ false → due_at i s ≡ []) →
    due_frames i (streams_on number kept) ≡ due_frames i (streams_on number all) →
    due_frames i (streams_on number (cond b (s ∷ kept) kept)) ≡ due_frames i (streams_on number (s ∷ all))
due_one number i s kept all true h e = go (s.endpoint == number)
  where
    go : (c : Bool) → due_frames i (cond c (s ∷ streams_on number kept) (streams_on number kept))
        ≡ due_frames i (cond c (s ∷ streams_on number all) (streams_on number all))
    go true = ap (λ z. map (λ frame. (s.client, frame)) (due_at i s) ++ z) e
    go false = e
due_one number i s kept all false h e = e ∙ go (s.endpoint == number)
  where
    go : (c : Bool) → due_frames i (streams_on number all)
        ≡ due_frames i (cond c (s ∷ streams_on number all) (streams_on number all))
    go true =
        sym (ap (λ fs. map (λ (frame : Frame). (s.client, frame)) fs ++ due_frames i (streams_on number all)) (h refl))
    go false = refl

due_left : (numbers : List ℕ) (number i : ℕ) (streams : List Stream) →
    AllByRecursion (HasNothingDue numbers i) streams →
    due_frames i (streams_on number (filter (is_left numbers) streams)) ≡ due_frames i (streams_on number streams)
due_left numbers number i [] h = refl
due_left numbers number i (s ∷ streams) h =
    due_one number i s (filter (is_left numbers) streams) streams (is_left numbers s) h.0
    (due_left numbers number i streams h.1)

-- the streams of a client are left out or not by its number
same_left : (numbers : List ℕ) (n : ℕ) (b : Bool) → is_among n numbers ≡ b → (s : Stream) → is_of n s ≡ true →
    is_left numbers s ≡ b
same_left numbers n b h s e = ap (λ k. is_among k numbers) (eqb-true s.client n e) ∙ h

not_of : (numbers : List ℕ) (n : ℕ) (b c : Bool) → (b ≡ c → ⊥) → is_among n numbers ≡ b → (s : Stream) →
    is_left numbers s ≡ c → is_of n s ≡ false
not_of numbers n b c ne h s e = go (is_of n s) refl
  where
    go : (d : Bool) → is_of n s ≡ d → d ≡ false
    go true t = absurd (ne (sym (same_left numbers n b h s t) ∙ e))
    go false t = refl

found_left : (numbers : List ℕ) (st : Stage) (n : ℕ) → is_among n numbers ≡ true →
    stream_at n (present numbers st) ≡ stream_at n st
found_left numbers st n h =
    find-filter (is_of n) (is_left numbers) st.streams (not_of numbers n true false (λ e. true≢false e) h)

-- the tally of a client that is there, and of one that is gone
tally_gone : (numbers : List ℕ) (st : Stage) (client : ℕ) (m : StreamMove) (t : Tally) → AreGone numbers st →
    is_among client numbers ≡ false → (o : Option Stream) → stream_at client st ≡ o → tally_of_found client m o t ≡ t
tally_gone numbers st client m t g h None e = refl
tally_gone numbers st client m t g h (Some s) e =
    ap (λ b. if b then tally_of_stream m s t else t)
    (not_open_of client s (all_found (IsGone numbers) (is_of client) st.streams s g e
    (ap (λ k. is_among k numbers) (found_client client st s e) ∙ h)))

tally_left : (numbers : List ℕ) (st : Stage) (client : ℕ) (m : StreamMove) (t : Tally) → AreGone numbers st →
    (b : Bool) →
    is_among client numbers ≡ b →
    tally_by (present numbers st) (of_client client m) t ≡ tally_by st (of_client client m) t
tally_left numbers st client m t g true h = ap (λ o. tally_of_found client m o t) (found_left numbers st client h)
tally_left numbers st client m t g false h =
    ap (λ o. tally_of_found client m o t)
    (find_none (is_of client) (is_left numbers) st.streams (not_of numbers client false true (λ e. false≢true e) h))
    ∙ sym (tally_gone numbers st client m t g h (stream_at client st) refl)

tally_same : (numbers : List ℕ) (st : Stage) (x : Move) (t : Tally) → AreGone numbers st →
    tally_by (present numbers st) x t ≡ tally_by st x t
tally_same numbers st (of_client client m) t g = tally_left numbers st client m t g (is_among client numbers) refl
tally_same numbers st _ t g = refl

due_gone : (numbers : List ℕ) (i : ℕ) (s : Stream) → IsGone numbers s → IsSettled s → HasNothingDue numbers i s
due_gone numbers i s g h e = nothing_due i s (h (g e)).unpicked

-- the streams that pass a test of open streams
tests_left : (numbers : List ℕ) (st : Stage) (test : Stream → Bool) →
    ((s : Stream) → is_open s ≡ false → test s ≡ false) → AreGone numbers st →
    filter test (present numbers st).streams ≡ filter test st.streams
tests_left numbers st test h g =
    filter-filter test (is_left numbers) st.streams
    (all_weaker (IsGone numbers) (λ s. is_left numbers s ≡ false → test s ≡ false) (λ s k e. h s (k e)) st.streams g)

feeds_left_out : (numbers : List ℕ) (st : Stage) (test : Stream → Bool) (frames : List Frame) →
    ((s : Stream) → is_open s ≡ false → test s ≡ false) → AreGone numbers st →
    feeds test frames (present numbers st) ≡ feeds test frames st
feeds_left_out numbers st test frames h g =
    ap (map (λ s. of_client s.client (fed frames))) (tests_left numbers st test h g)

playing_left : (numbers : List ℕ) (st : Stage) (endpoint : ℕ) → AreGone numbers st →
    playing_streams_on endpoint (present numbers st) ≡ playing_streams_on endpoint st
playing_left numbers st endpoint g =
    tests_left numbers st (is_playing endpoint) (λ s c. closed_rests endpoint is_render s c) g

open_left : (numbers : List ℕ) (st : Stage) (endpoint : ℕ) → AreGone numbers st →
    open_streams_on endpoint (present numbers st) ≡ open_streams_on endpoint st
open_left numbers st endpoint g =
    tests_left numbers st (is_open_on endpoint) (λ s c. closed_not_on endpoint s c) g

due_same : (numbers : List ℕ) (st : Stage) (endpoint i : ℕ) → IsStage st → AreGone numbers st →
    due_frames i (streams_on endpoint (present numbers st).streams) ≡ due_frames i (streams_on endpoint st.streams)
due_same numbers st endpoint i h g =
    due_left numbers endpoint i st.streams
    (all_both (IsGone numbers) IsSettled (HasNothingDue numbers i) (due_gone numbers i) st.streams g h.settled)

mixes_same : (numbers : List ℕ) (st : Stage) (m : Mixing) → IsStage st → AreGone numbers st →
    mixed m (present numbers st).streams ≡ mixed m st.streams
mixes_same numbers st m h g =
    map_alike (λ i. mix_of m (due_frames i (streams_on m.endpoint (present numbers st).streams)))
    (λ i. mix_of m (due_frames i (streams_on m.endpoint st.streams))) (range_with_len 0 m.frames)
    (all_of _ (λ i. ap (mix_of m) (due_same numbers st m.endpoint i h g)) (range_with_len 0 m.frames))

-- what follows a Sound
after_left : (numbers : List ℕ) (st : Stage) (m : Mixing) (whole : Bool) → IsStage st → AreGone numbers st →
    after_sound m whole (present numbers st) ≡ after_sound m whole st
after_left numbers st m true h g =
    ap₂ (λ ss ms. map (λ s. of_client s.client retired) ss ++ (ms ++ finished m true ∷ []))
    (playing_left numbers st m.endpoint g)
    (ap (λ frames. feeds (is_hearing m.endpoint) frames (present numbers st)) (mixes_same numbers st m h g)
    ∙ feeds_left_out numbers st (is_hearing m.endpoint) (mixed m st.streams)
    (λ s c. closed_rests m.endpoint is_loopback s c) g)
after_left numbers st m false h g =
    ap (λ ss. map (λ s. of_client s.client (closed Removal)) ss ++ finished m false ∷ [])
    (open_left numbers st m.endpoint g)

-- a stream of a client that is there is set among all as among those that are there
above_all : (n low : ℕ) (streams : List Stream) → n < low → RisesFrom low (clients_of streams) →
    AllByRecursion (λ s. nat_lt n s.client ≡ true) streams
above_all n low [] h r = tt
above_all n low (s ∷ streams) h r =
    let l = r.0 in
    (lt-ltb n s.client (omega arith), above_all n (suc s.client) streams (omega arith) r.1)

set_first : (new : Stream) (streams : List Stream) → AllByRecursion (λ s. nat_lt new.client s.client ≡ true) streams →
    inserted new streams ≡ new ∷ streams
set_first new [] h = refl
set_first new (s ∷ streams) h = ap (λ b. if b then new ∷ s ∷ streams else s ∷ inserted new streams) h.0

set_behind : (new s : Stream) (streams : List Stream) → nat_lt new.client s.client ≡ false →
    inserted new (s ∷ streams) ≡ s ∷ inserted new streams
set_behind new s streams h = ap (λ b. if b then new ∷ s ∷ streams else s ∷ inserted new streams) h

filter_behind : (q : Stream → Bool) (new s : Stream) (streams : List Stream) (b : Bool) →
    nat_lt new.client s.client ≡ false → filter q (inserted new streams) ≡ inserted new (filter q streams) →
    cond b (s ∷ filter q (inserted new streams)) (filter q (inserted new streams))
    ≡ inserted new (cond b (s ∷ filter q streams) (filter q streams))
filter_behind q new s streams true h e = ap (λ z. s ∷ z) e ∙ sym (set_behind new s (filter q streams) h)
filter_behind q new s streams false h e = e

filter_inserted : (q : Stream → Bool) (new : Stream) (low : ℕ) (streams : List Stream) → q new ≡ true →
    RisesFrom low (clients_of streams) → filter q (inserted new streams) ≡ inserted new (filter q streams)
filter_inserted q new low [] h r = ap (λ b. cond b (new ∷ []) []) h
filter_inserted q new low (s ∷ streams) h r =
    chosen_by (λ ss. filter q ss ≡ inserted new (filter q (s ∷ streams))) (nat_lt new.client s.client)
    (new ∷ s ∷ streams) (s ∷ inserted new streams)
    (λ t. ap (λ b. cond b (new ∷ filter q (s ∷ streams)) (filter q (s ∷ streams))) h
    ∙ sym (set_first new (filter q (s ∷ streams)) (all-filter (λ s. nat_lt new.client s.client ≡ true) q (s ∷ streams)
    (t, above_all new.client (suc s.client) streams (let l = lt_true new.client s.client t in omega arith) r.1))))
    (λ t. filter_behind q new s streams (q s) t (filter_inserted q new (suc s.client) streams h r.1))

with_opened_by : (q : Stream → Bool) (new : Stream) (streams : List Stream) (b c : Bool) → b ≡ c →
    filter q (inserted (as_opened new) streams) ≡ inserted (as_opened new) (filter q streams) →
    filter q (if b then streams else inserted (as_opened new) streams)
    ≡ (if c then filter q streams else inserted (as_opened new) (filter q streams))
with_opened_by q new streams true true e h = refl
with_opened_by q new streams false false e h = h
with_opened_by q new streams true false e h = absurd (true≢false e)
with_opened_by q new streams false true e h = absurd (false≢true e)

present_opened : (numbers : List ℕ) (x : Move) (streams : List Stream) → OpensPresent numbers x →
    RisesFrom 0 (clients_of streams) →
    filter (is_left numbers) (with_opened x streams) ≡ with_opened x (filter (is_left numbers) streams)
present_opened numbers (opened new) streams h r =
    with_opened_by (is_left numbers) new streams (has_stream new.client streams)
    (has_stream new.client (filter (is_left numbers) streams))
    (sym (any_same (is_of new.client) (is_left numbers) streams
    (not_of numbers new.client true false (λ e. true≢false e) h)))
    (filter_inserted (is_left numbers) (as_opened new) 0 streams h r)
present_opened numbers _ streams h r = refl

pub present_after : (numbers : List ℕ) (st : Stage) (x : Move) → OpensPresent numbers x → RisesFrom 0 (clients st) →
    present numbers (after_move st x) ≡ after_move (present numbers st) x
present_after numbers st x h r =
    ap (λ ss. record (after_move st x) { streams = ss })
    (present_opened numbers x (map (stream_after x) st.streams) h
    (subst (RisesFrom 0) (sym (clients_moved x st.streams)) r)
    ∙ ap (with_opened x)
    (filter-map (is_left numbers) (stream_after x) (λ s. ap (λ n. is_among n numbers) (after_client x s)) st.streams))

pub present_all : (numbers : List ℕ) (st : Stage) (xs : List Move) → AllByRecursion (OpensPresent numbers) xs →
    RisesFrom 0 (clients st) → present numbers (after_moves st xs) ≡ after_moves (present numbers st) xs
present_all numbers st [] h r = refl
present_all numbers st (x ∷ xs) h r =
    present_all numbers (after_move st x) xs h.1 (rises_step st x r)
    ∙ ap (λ at. after_moves at xs) (present_after numbers st x h.0 r)

pub present_goes_on : PresentGoesOn
present_goes_on numbers before rest h =
    ap (present numbers) (after_moves-append empty_stage before rest)
    ∙ present_all numbers (after_moves empty_stage before) rest h (stage_holds before).rising

-- clients that go, and clients without a stream
pub present_fewer : (fewer numbers : List ℕ) (st : Stage) →
    ((n : ℕ) → is_among n numbers ≡ false → is_among n fewer ≡ false) →
    present fewer (present numbers st) ≡ present fewer st
present_fewer fewer numbers st h =
    ap (λ ss. record st { streams = ss })
    (filter-filter (is_left fewer) (is_left numbers) st.streams (all_of _ (λ s. h s.client) st.streams))

filter_alike : {A : Type 0} (p q : A → Bool) (xs : List A) → AllByRecursion (λ x. p x ≡ q x) xs →
    filter p xs ≡ filter q xs
filter_alike p q [] h = refl
filter_alike p q (x ∷ xs) h = ap₂ (λ b ys. cond b (x ∷ ys) ys) h.0 (filter_alike p q xs h.1)

pub present_same : (numbers others : List ℕ) (st : Stage) →
    AllByRecursion (λ s. is_among s.client numbers ≡ is_among s.client others) st.streams →
    present numbers st ≡ present others st
present_same numbers others st h =
    ap (λ ss. record st { streams = ss }) (filter_alike (is_left numbers) (is_left others) st.streams h)

-- who is gone stays gone, and a close makes a stream a closed one
gone_moved : (numbers : List ℕ) (x : Move) (s : Stream) → IsGone numbers s → IsGone numbers (stream_after x s)
gone_moved numbers x s g e =
    let c = g (sym (ap (λ n. is_among n numbers) (after_client x s)) ∙ e) in
    ap is_open (stays x s c) ∙ c

gone_opened : (numbers : List ℕ) (x : Move) (streams : List Stream) → OpensPresent numbers x →
    AllByRecursion (IsGone numbers) streams → AllByRecursion (IsGone numbers) (with_opened x streams)
gone_opened numbers (opened new) streams h g =
    chosen (AllByRecursion (IsGone numbers)) (has_stream new.client streams) streams (inserted (as_opened new) streams)
    g
    (all-inserted (IsGone numbers) (as_opened new) streams (λ e. absurd (true≢false (sym h ∙ e))) g)
gone_opened numbers _ streams h g = g

pub gone_step : (numbers : List ℕ) (st : Stage) (x : Move) → OpensPresent numbers x → AreGone numbers st →
    AreGone numbers (after_move st x)
gone_step numbers st x h g =
    gone_opened numbers x (map (stream_after x) st.streams) h
    (all-map (IsGone numbers) (IsGone numbers) (stream_after x) (gone_moved numbers x) st.streams g)

gone_all : (numbers : List ℕ) (st : Stage) (xs : List Move) → AllByRecursion (OpensPresent numbers) xs →
    AreGone numbers st → AreGone numbers (after_moves st xs)
gone_all numbers st [] h g = g
gone_all numbers st (x ∷ xs) h g = gone_all numbers (after_move st x) xs h.1 (gone_step numbers st x h.0 g)

-- so a period is the same without them
pick_opens_none : (numbers : List ℕ) (m : Mixing) (left : List Stream) →
    AllByRecursion (OpensPresent numbers) (map (λ s. of_client s.client (picked m.frames)) left)
pick_opens_none numbers m [] = tt
pick_opens_none numbers m (s ∷ left) = (tt, pick_opens_none numbers m left)

periods_left : (numbers : List ℕ) (st : Stage) (m : Mixing) (whole : Bool) → IsStage st → AreGone numbers st →
    sub_steps m whole (present numbers st) ≡ sub_steps m whole st
periods_left numbers st m whole h g =
    let opens = pick_opens_none numbers m (playing_streams_on m.endpoint st) in
    ap (λ ss. rest_of (map (λ s. of_client s.client (picked m.frames)) ss) (present numbers st))
    (playing_left numbers st m.endpoint g)
    ∙ ap (λ at. picks m st ++ sounded m whole ∷ after_sound m whole at)
    (sym (present_all numbers st (picks m st) opens h.rising))
    ∙ ap (λ ms. picks m st ++ sounded m whole ∷ ms)
    (after_left numbers (after_moves st (picks m st)) m whole (stage_after st (picks m st) h)
    (gone_all numbers st (picks m st) opens g))
  where
    rest_of : List Move → Stage → List Move
    rest_of xs at = xs ++ sounded m whole ∷ after_sound m whole (after_moves at xs)

pub present_whole : (numbers : List ℕ) (st : Stage) → IsStage st → AreGone numbers st → IsWhole numbers st
present_whole numbers st h g = record {
  playing = λ endpoint. playing_left numbers st endpoint g;
  open_on = λ endpoint. open_left numbers st endpoint g;
  due = λ endpoint i. due_same numbers st endpoint i h g;
  mixes = λ m. mixes_same numbers st m h g;
  periods = λ m whole. periods_left numbers st m whole h g;
  feeds = λ endpoint frames.
      ap (λ ms. captured endpoint frames ∷ ms)
      (feeds_left_out numbers st (is_recording endpoint) frames (λ s c. closed_rests endpoint is_capture s c) g);
  found = λ n e. found_left numbers st n e;
  tallies = λ x t. tally_same numbers st x t g;
}

pub present_is_whole : PresentIsWhole
present_is_whole numbers xs g = present_whole numbers (after_moves empty_stage xs) (stage_holds xs) g

-- after its close a client's stream is closed
abbrev pub IsClosedOf : ℕ → Stream → Type 0
IsClosedOf client s = is_of client s ≡ true → is_open s ≡ false

not_both : (a b : Bool) → (a && b) ≡ false → a ≡ true → b ≡ false
not_both true b e h = e
not_both false b e h = absurd (false≢true h)

pub closed_now : (client : ℕ) (reason : _) (st : Stage) →
    AllByRecursion (IsClosedOf client) (after_move st (of_client client (closed reason))).streams
closed_now client reason st =
    all-map (λ s. Unit {0}) (IsClosedOf client) (stream_after (of_client client (closed reason)))
    (λ s u. chosen_by (IsClosedOf client) (is_open_of client s) (moved (closed reason) s) s (λ o e. refl)
    (λ o e. not_both (is_of client s) (is_open s) o e)) st.streams (all_of _ (λ s. tt) st.streams)
