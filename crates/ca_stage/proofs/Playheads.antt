-- A playhead through a move: a whole period brings it on, or it is added. Each endpoint has one.
use Rattle.std.proofs.Common.{◌||◌, ◌≡◌, ℕ, ◌+◌, ◌==◌, List, [], ◌∷◌, ◌++◌, map, Bool, true, false, Option, Some, None}
use Rattle.std.proofs.Common.{refl, sym, ap, ◌∙◌, subst, find, option_map, eqb, eqb-true, if◌then◌else◌}
use Rattle.std.proofs.lemmas.Bool.{or_parts, or_from, false≢true}
use Rattle.std.specs.List.{list_any}
use Rattle.ca_stage.specs.Stage.{Playhead, Stage}
use Rattle.ca_stage.specs.Moves.{Move, added, finished, playhead_after, has_playhead, with_added, after_move}
use Rattle.ca_stage.specs.Moves.{playhead_at}
use Rattle.ca_stage.specs.Fates.{place_of, next_of}
use Rattle.ca_stage.specs.Order.{numbers, IsWithout, AreDistinct}
use Rattle.ca_stage.proofs.Lists.{chosen, chosen_by, find_map, find-append, first_of_two, found_passes, map_map}
use Rattle.ca_stage.proofs.Lists.{map_alike, all_of, map_same}
use Rattle.ca_stage.proofs.Clients.{turned}
use Rattle.std.proofs.lemmas.List.{map-append}

pub after_number : (x : Move) (e : Playhead) → (playhead_after x e).number ≡ e.number
after_number (finished m true) e =
    chosen (λ t. t.number ≡ e.number) (e.number == m.endpoint) (record e { next = e.next + m.frames }) e refl refl
after_number (finished m false) e = refl
after_number _ e = refl

abbrev pub is_number : ℕ → Playhead → Bool
is_number number e = e.number == number

found_after : (number : ℕ) (st : Stage) (x : Move) →
    find (is_number number) (map (playhead_after x) st.playheads)
    ≡ option_map (playhead_after x) (playhead_at number st)
found_after number st x =
    find_map (is_number number) (playhead_after x) (λ e. ap (λ k. k == number) (after_number x e)) st.playheads

there_with_added : (number : ℕ) (x : Move) (e : Playhead) (heads : List Playhead) →
    find (is_number number) heads ≡ Some e → find (is_number number) (with_added x heads) ≡ Some e
there_with_added number (added n) e heads h =
    chosen (λ es. find (is_number number) es ≡ Some e) (has_playhead n heads) heads
    (heads ++ record { number = n; next = 0 } ∷ []) h
    (find-append (is_number number) heads (record { number = n; next = 0 } ∷ [])
    ∙ ap (λ o. first_of_two o (find (is_number number) (record { number = n; next = 0 } ∷ []))) h)
there_with_added number _ e heads h = h

-- a playhead that is there goes through a move
pub playhead_there : (number : ℕ) (st : Stage) (x : Move) (e : Playhead) →
    playhead_at number st ≡ Some e → playhead_at number (after_move st x) ≡ Some (playhead_after x e)
playhead_there number st x e h =
    there_with_added number x (playhead_after x e) (map (playhead_after x) st.playheads)
    (found_after number st x ∙ ap (option_map (playhead_after x)) h)

-- the next place of an endpoint: one that is added begins with 0, as if there is none
place_added : (number n : ℕ) (b : Bool) (o : Option Playhead) → is_number number (record { number = n; next = 0 }) ≡ b →
    place_of (first_of_two o (find (is_number number) (record { number = n; next = 0 } ∷ []))) ≡ place_of o
place_added number n b (Some e) t = refl
place_added number n true None t =
    ap (λ b. place_of (if b then Some (record { number = n; next = 0 }) else None)) t
place_added number n false None t =
    ap (λ b. place_of (if b then Some (record { number = n; next = 0 }) else None)) t

next_with_added : (number : ℕ) (x : Move) (heads : List Playhead) →
    place_of (find (is_number number) (with_added x heads)) ≡ place_of (find (is_number number) heads)
next_with_added number (added n) heads =
    chosen (λ es. place_of (find (is_number number) es) ≡ place_of (find (is_number number) heads))
    (has_playhead n heads)
    heads (heads ++ record { number = n; next = 0 } ∷ []) refl
    (ap place_of (find-append (is_number number) heads (record { number = n; next = 0 } ∷ []))
    ∙ place_added number n (is_number number (record { number = n; next = 0 })) (find (is_number number) heads) refl)
next_with_added number _ heads = refl

pub next_after : (number : ℕ) (st : Stage) (x : Move) →
    next_of number (after_move st x) ≡ place_of (option_map (playhead_after x) (playhead_at number st))
next_after number st x =
    next_with_added number x (map (playhead_after x) st.playheads) ∙ ap place_of (found_after number st x)

-- moves that leave the playheads, and moves that leave their places
abbrev pub leaves_playheads : Move → Bool
leaves_playheads (added number) = false
leaves_playheads (finished m true) = false
leaves_playheads _ = true

abbrev pub leaves_places : Move → Bool
leaves_places (finished m true) = false
leaves_places _ = true

leaves_each : (x : Move) → leaves_places x ≡ true → (e : Playhead) → playhead_after x e ≡ e
leaves_each (finished m true) h e = absurd (false≢true h)
leaves_each (finished m false) h e = refl
leaves_each _ h e = refl

leaves_both : (x : Move) → leaves_playheads x ≡ true → leaves_places x ≡ true
leaves_both (finished m true) h = absurd (false≢true h)
leaves_both (finished m false) h = refl
leaves_both _ h = refl

nothing_added : (x : Move) → leaves_playheads x ≡ true → (heads : List Playhead) → with_added x heads ≡ heads
nothing_added (added number) h heads = absurd (false≢true h)
nothing_added _ h heads = refl

pub playheads_stay : (st : Stage) (x : Move) → leaves_playheads x ≡ true → (after_move st x).playheads ≡ st.playheads
playheads_stay st x h =
    nothing_added x h (map (playhead_after x) st.playheads)
    ∙ map_same (playhead_after x) (leaves_each x (leaves_both x h)) st.playheads

pub playhead_stays : (number : ℕ) (st : Stage) (x : Move) → leaves_playheads x ≡ true →
    playhead_at number (after_move st x) ≡ playhead_at number st
playhead_stays number st x h = ap (find (is_number number)) (playheads_stay st x h)

same_place : (f : Playhead → Playhead) → ((e : Playhead) → f e ≡ e) → (o : Option Playhead) →
    place_of (option_map f o) ≡ place_of o
same_place f h None = refl
same_place f h (Some e) = ap (λ e. e.next) (h e)

pub next_stays : (number : ℕ) (st : Stage) (x : Move) → leaves_places x ≡ true →
    next_of number (after_move st x) ≡ next_of number st
next_stays number st x h =
    next_after number st x ∙ same_place (playhead_after x) (leaves_each x h) (playhead_at number st)

-- a playhead that is found has the number
pub found_number : (number : ℕ) (st : Stage) (e : Playhead) → playhead_at number st ≡ Some e → e.number ≡ number
found_number number st e h = eqb-true e.number number (found_passes (is_number number) st.playheads e h)

-- each endpoint has one playhead
without_push : (n m : ℕ) (ns : List ℕ) → IsWithout n ns → eqb m n ≡ false → IsWithout n (ns ++ m ∷ [])
without_push n m [] h e = or_from (eqb m n) false e refl
without_push n m (k ∷ ns) h e =
    let p = or_parts (eqb k n) (list_any (λ m. m == n) ns) h in
    or_from (eqb k n) _ p.0 (without_push n m ns p.1 e)

distinct_push : (m : ℕ) (ns : List ℕ) → AreDistinct ns → IsWithout m ns → AreDistinct (ns ++ m ∷ [])
distinct_push m [] d h = (refl, tt)
distinct_push m (n ∷ ns) d h =
    let p = or_parts (eqb n m) (list_any (λ k. k == m) ns) h in
    (without_push n m ns d.0 (turned n m p.0), distinct_push m ns d.1 p.1)

abbrev pub numbers_of : List Playhead → List ℕ
numbers_of heads = map (λ e. e.number) heads

any_number : (n : ℕ) (heads : List Playhead) → has_playhead n heads ≡ list_any (λ m. m == n) (numbers_of heads)
any_number n [] = refl
any_number n (e ∷ heads) = ap (λ b. e.number == n || b) (any_number n heads)

distinct_added : (x : Move) (heads : List Playhead) → AreDistinct (numbers_of heads) →
    AreDistinct (numbers_of (with_added x heads))
distinct_added (added n) heads d =
    chosen_by (λ es. AreDistinct (numbers_of es)) (has_playhead n heads) heads
    (heads ++ record { number = n; next = 0 } ∷ []) (λ h. d)
    (λ h. subst AreDistinct
    (sym (map-append (λ e. e.number) heads (record { number = n; next = 0 } ∷ [])))
    (distinct_push n (numbers_of heads) d (sym (any_number n heads) ∙ h)))
distinct_added _ heads d = d

pub playheads_distinct : (st : Stage) (x : Move) → AreDistinct (numbers st) → AreDistinct (numbers (after_move st x))
playheads_distinct st x d =
    distinct_added x (map (playhead_after x) st.playheads)
    (subst AreDistinct
    (sym (map_map (λ e. e.number) (playhead_after x) st.playheads
    ∙ map_alike (λ e. (playhead_after x e).number) (λ e. e.number) st.playheads
    (all_of _ (after_number x) st.playheads)))
    d)
