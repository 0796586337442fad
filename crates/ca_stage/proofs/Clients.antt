-- Each client has one stream: the streams are in the rising order of their clients.
use Rattle.std.proofs.Common.{zero, take, drop, lt-ltb, le-ltb, ◌++◌, ◌≡◌, ℕ, suc, ◌<◌, ◌≤◌, ◌==◌, ◌||◌, nat_lt, List}
use Rattle.std.proofs.Common.{[], ◌∷◌, ◌++◌, map, Bool, true, false}
use Rattle.std.proofs.Common.{cond, Some, None, refl, sym, ap, ap₂, ◌∙◌, subst, find, arith, if◌then◌else◌, eqb, eq-eqb}
use Rattle.std.proofs.lemmas.Bool.{or_parts, or_from, true≢false}
use Rattle.std.proofs.lemmas.Bool.Decides.{nat_tests}
use Rattle.std.specs.List.{list_any, AllByRecursion}
use Rattle.ca_stage.specs.Stage.{empty_stage, Stream, Stage}
use Rattle.ca_stage.specs.Moves.{Move, opened, stream_after, has_stream, as_opened, inserted, with_opened, after_move}
use Rattle.ca_stage.specs.Moves.{after_moves}
use Rattle.ca_stage.specs.Fates.{of_found, released_by, all_released}
use Rattle.ca_stage.specs.Order.{clients, IsWithout, AreDistinct, RisesFrom}
use Rattle.ca_stage.specs.Laws.{EachClientOnce}
use Rattle.ca_stage.proofs.Lists.{chosen_by, all_both, map_map, map_alike, all_of, finds_none}
use Rattle.ca_stage.proofs.Streams.{after_client, is_of}

-- the clients of streams
abbrev pub clients_of : List Stream → List ℕ
clients_of streams = map (λ s. s.client) streams

pub clients_moved : (x : Move) (streams : List Stream) → clients_of (map (stream_after x) streams) ≡ clients_of streams
clients_moved x streams =
    map_map (λ s. s.client) (stream_after x) streams
    ∙ map_alike (λ s. (stream_after x s).client) (λ s. s.client) streams (all_of _ (after_client x) streams)

-- whether a client has a stream, by the numbers
pub same_any : (n : ℕ) (streams : List Stream) → has_stream n streams ≡ list_any (λ m. m == n) (clients_of streams)
same_any n [] = refl
same_any n (s ∷ streams) = ap (λ b. s.client == n || b) (same_any n streams)

pub turned : (m n : ℕ) → eqb m n ≡ false → eqb n m ≡ false
turned m n h = grind (arith, nat_tests)

-- tests of order
pub lt_true : (m n : ℕ) → nat_lt m n ≡ true → m < n
lt_true m n h = grind (arith, nat_tests)

pub lt_false : (m n : ℕ) → nat_lt m n ≡ false → n ≤ m
lt_false m n h = grind (arith, nat_tests)

pub ne_false : (m n : ℕ) → eqb m n ≡ false → m ≡ n → ⊥
ne_false m n h e = true≢false (sym (eq-eqb m n e) ∙ h)

pub lt_ne : (m n : ℕ) → m < n → eqb n m ≡ false
lt_ne m n h = grind (arith, nat_tests)

-- a stream that is set among others that rise, in its place
rises_inserted : (low : ℕ) (new : Stream) (streams : List Stream) → low ≤ new.client →
    IsWithout new.client (clients_of streams) → RisesFrom low (clients_of streams) →
    RisesFrom low (clients_of (inserted new streams))
rises_inserted low new [] l w r = (l, tt)
rises_inserted low new (s ∷ streams) l w r =
    let p = or_parts (eqb s.client new.client) (list_any (λ m. m == new.client) (clients_of streams)) w in
    let ne = ne_false s.client new.client p.0 in
    chosen_by (λ ss. RisesFrom low (clients_of ss)) (nat_lt new.client s.client) (new ∷ s ∷ streams)
    (s ∷ inserted new streams)
    (λ t. (l, (lt_true new.client s.client t, r.1)))
    (λ t. (r.0, rises_inserted (suc s.client) new streams (above (lt_false new.client s.client t) ne) p.1 r.1))
  where
    above : s.client ≤ new.client → (s.client ≡ new.client → ⊥) → suc s.client ≤ new.client
    above h k = omega arith

rises_opened : (x : Move) (streams : List Stream) → RisesFrom 0 (clients_of streams) →
    RisesFrom 0 (clients_of (with_opened x streams))
rises_opened (opened new) streams r =
    chosen_by (λ ss. RisesFrom 0 (clients_of ss)) (has_stream new.client streams) streams
    (inserted (as_opened new) streams)
    (λ h. r) (λ h. rises_inserted 0 (as_opened new) streams (omega arith) (sym (same_any new.client streams) ∙ h) r)
rises_opened _ streams r = r

pub rises_step : (st : Stage) (x : Move) → RisesFrom 0 (clients st) → RisesFrom 0 (clients (after_move st x))
rises_step st x r =
    rises_opened x (map (stream_after x) st.streams) (subst (RisesFrom 0) (sym (clients_moved x st.streams)) r)

pub rises_after : (st : Stage) (xs : List Move) → RisesFrom 0 (clients st) → RisesFrom 0 (clients (after_moves st xs))
rises_after st [] r = r
rises_after st (x ∷ xs) r = rises_after (after_move st x) xs (rises_step st x r)

-- numbers that rise are there once
pub lower_without : (n low : ℕ) (ns : List ℕ) → n < low → RisesFrom low ns → IsWithout n ns
lower_without n low [] h r = refl
lower_without n low (m ∷ ns) h r =
    let l = r.0 in
    or_from (eqb m n) (list_any (λ k. k == n) ns) (lt_ne n m (omega arith))
    (lower_without n (suc m) ns (omega arith) r.1)

pub rising_distinct : (low : ℕ) (ns : List ℕ) → RisesFrom low ns → AreDistinct ns
rising_distinct low [] r = tt
rising_distinct low (n ∷ ns) r = (lower_without n (suc n) ns (omega arith) r.1, rising_distinct (suc n) ns r.1)

-- the place at which a stream is set: before it are numbers at most its own, and after it greater ones
pub inserted_at : (at : ℕ) (new : Stream) (streams : List Stream) →
    AllByRecursion (λ s. s.client ≤ new.client) (take at streams) →
    AllByRecursion (λ s. new.client < s.client) (drop at streams) →
    inserted new streams ≡ take at streams ++ new ∷ drop at streams
inserted_at zero new [] h k = refl
inserted_at zero new (s ∷ streams) h k =
    ap (λ b. if b then new ∷ s ∷ streams else s ∷ inserted new streams) (lt-ltb new.client s.client k.0)
inserted_at (suc at) new [] h k = refl
inserted_at (suc at) new (s ∷ streams) h k =
    ap (λ b. if b then new ∷ s ∷ streams else s ∷ inserted new streams) (le-ltb new.client s.client h.0)
    ∙ ap (λ ss. s ∷ ss) (inserted_at at new streams h.1 k)

-- who has no stream after a move had none before it
without_inserted : (n : ℕ) (new : Stream) (streams : List Stream) → IsWithout n (clients_of (inserted new streams)) →
    IsWithout n (clients_of streams)
without_inserted n new [] h = refl
without_inserted n new (s ∷ streams) h = go (nat_lt new.client s.client) h (λ k. without_inserted n new streams k)
  where
    go : (b : Bool) → IsWithout n (clients_of (if b then new ∷ s ∷ streams else s ∷ inserted new streams)) →
        (IsWithout n (clients_of (inserted new streams)) → IsWithout n (clients_of streams)) →
        IsWithout n (clients_of (s ∷ streams))
    go true h f = (or_parts (eqb new.client n) _ h).1
    go false h f =
        let p = or_parts (eqb s.client n) (list_any (λ k. k == n) (clients_of (inserted new streams))) h in
        or_from (eqb s.client n) _ p.0 (f p.1)

without_opened : (n : ℕ) (x : Move) (streams : List Stream) → IsWithout n (clients_of (with_opened x streams)) →
    IsWithout n (clients_of streams)
without_opened n (opened new) streams h = go (has_stream new.client streams) h
  where
    go : (b : Bool) → IsWithout n (clients_of (if b then streams else inserted (as_opened new) streams)) →
        IsWithout n (clients_of streams)
    go true h = h
    go false h = without_inserted n (as_opened new) streams h
without_opened n _ streams h = h

pub without_earlier : (n : ℕ) (st : Stage) (x : Move) → IsWithout n (clients (after_move st x)) →
    IsWithout n (clients st)
without_earlier n st x h =
    subst (IsWithout n) (clients_moved x st.streams) (without_opened n x (map (stream_after x) st.streams) h)

pub without_before : (n : ℕ) (st : Stage) (xs : List Move) → IsWithout n (clients (after_moves st xs)) →
    IsWithout n (clients st)
without_before n st [] h = h
without_before n st (x ∷ xs) h = without_earlier n st x (without_before n (after_move st x) xs h)

-- nothing is found of who has no stream
pub found_none : (n : ℕ) (streams : List Stream) → IsWithout n (clients_of streams) → find (is_of n) streams ≡ None
found_none n streams h = finds_none (is_of n) streams (same_any n streams ∙ h)

released_none : (n : ℕ) (st : Stage) (xs : List Move) → IsWithout n (clients (after_moves st xs)) →
    all_released n st xs ≡ []
released_none n st [] h = refl
released_none n st (x ∷ xs) h =
    ap₂ (λ a b. of_found (released_by x) a ++ b)
    (found_none n st.streams (without_before n st (x ∷ xs) h))
    (released_none n (after_move st x) xs h)

pub distinct_step : (st : Stage) (x : Move) → RisesFrom 0 (clients st) → AreDistinct (clients (after_move st x))
distinct_step st x r = rising_distinct 0 _ (rises_step st x r)

pub each_client_once : EachClientOnce
each_client_once xs = (rising_distinct 0 _ (rises_after empty_stage xs tt), λ n h. released_none n empty_stage xs h)

-- streams of other clients
pub others : (n : ℕ) (streams : List Stream) → has_stream n streams ≡ false →
    AllByRecursion (λ s. eqb n s.client ≡ false) streams
others n [] h = tt
others n (s ∷ streams) h =
    let p = or_parts (eqb s.client n) (has_stream n streams) h in
    (turned s.client n p.0, others n streams p.1)

-- each stream is the one of its client
skips : (s x : Stream) (streams : List Stream) → eqb x.client s.client ≡ false →
    find (is_of s.client) streams ≡ Some s → find (is_of s.client) (x ∷ streams) ≡ Some s
skips s x streams n e = ap (λ b. cond b (Some x) (find (is_of s.client) streams)) n ∙ e

pub each_found : (streams : List Stream) → AreDistinct (clients_of streams) →
    AllByRecursion (λ s. find (is_of s.client) streams ≡ Some s) streams
each_found [] d = tt
each_found (x ∷ streams) d = (
  ap (λ b. cond b (Some x) (find (is_of x.client) streams)) (eq-eqb x.client x.client refl),
  all_both (λ s. eqb x.client s.client ≡ false) (λ s. find (is_of s.client) streams ≡ Some s)
      (λ s. find (is_of s.client) (x ∷ streams) ≡ Some s) (λ s n e. skips s x streams n e) streams
      (others x.client streams (same_any x.client streams ∙ d.0)) (each_found streams d.1),
)
