-- One stream of a stage in order: a move of its client sets it in its place, and a new one is set in its place.
use Rattle.std.proofs.Common.{◌≡◌, ℕ, zero, suc, ◌<◌, ◌≤◌, ◌==◌, List, [], ◌∷◌, map, take, drop, true, false}
use Rattle.std.proofs.Common.{Some, refl, sym, ap, ap₂, ◌∙◌, find, slice_get, slice_set, arith, cond, eq-eqb}
use Rattle.std.proofs.Common.{if◌then◌else◌, length, filter, Bool}
use Rattle.std.proofs.lemmas.Bool.{and_left, and_from, or_from}
use Rattle.std.proofs.lemmas.List.{set-get_or}
use Rattle.std.proofs.lemmas.Option.{same_Some, none-some, get_or_from_slice_get}
use Rattle.std.specs.List.{AllByRecursion, insert}
use Rattle.ca_stage.specs.Stage.{Stream, Stage, is_open}
use Rattle.ca_stage.specs.Moves.{StreamMove, opened, of_client, moved, is_open_of, stream_after, has_stream}
use Rattle.ca_stage.specs.Moves.{as_opened, inserted, with_opened, after_move, stream_at}
use Rattle.ca_stage.specs.Tally.{Tally, tally_of_stream, tally_of_found, tally_by}
use Rattle.ca_stage.specs.Order.{clients, IsHeld, IsSettled, IsStage, IsWithout, RisesFrom}
use Rattle.ca_stage.specs.Present.{present}
use Rattle.ca_stage.proofs.Lists.{all-filter, all_weaker, chosen, map_same}
use Rattle.ca_stage.proofs.Streams.{is_of, not_open_of, find_other, find_new}
use Rattle.ca_stage.proofs.Clients.{clients_of, found_none, inserted_at, lt_ne}
use Rattle.ca_stage.proofs.Clients.{others, same_any, turned}
use Rattle.ca_stage.proofs.Playheads.{playheads_stay}
use Rattle.ca_stage.proofs.Presence.{is_left}

-- streams from a number on are those of other clients than one below it
others_stay : (n : ℕ) (m : StreamMove) (low : ℕ) (streams : List Stream) → n < low →
    RisesFrom low (clients_of streams) →
    map (stream_after (of_client n m)) streams ≡ streams
others_stay n m low [] h r = refl
others_stay n m low (s ∷ streams) h r =
    let l = r.0 in
    ap₂ (λ t ts. t ∷ ts)
    (ap (λ b. if b then moved m s else s) (and_left (s.client == n) (is_open s) (lt_ne n s.client (omega arith))))
    (others_stay n m (suc s.client) streams (omega arith) r.1)

-- the stream in a place has at least the lowest number
at_least : (low at : ℕ) (streams : List Stream) (s : Stream) → RisesFrom low (clients_of streams) →
    slice_get streams at ≡ Some s → low ≤ s.client
at_least low at [] s r e = absurd (none-some s e)
at_least low zero (t ∷ streams) s r e =
    let c : t.client ≡ s.client = ap (λ (u : Stream). u.client) (same_Some t s e) in
    let l = r.0 in
    omega arith
at_least low (suc at) (t ∷ streams) s r e =
    let k = at_least (suc t.client) at streams s r.1 e in
    let l = r.0 in
    omega arith

pub set_in_place : (m : StreamMove) (low at : ℕ) (streams : List Stream) (s : Stream) →
    RisesFrom low (clients_of streams) → slice_get streams at ≡ Some s →
    map (stream_after (of_client s.client m)) streams ≡ slice_set streams at (stream_after (of_client s.client m) s)
set_in_place m low at [] s r e = absurd (none-some s e)
set_in_place m low zero (t ∷ streams) s r e =
    let same = same_Some t s e in
    ap₂ (λ u us. u ∷ us) (ap (stream_after (of_client s.client m)) same)
    (others_stay s.client m (suc t.client) streams
    (let c : t.client ≡ s.client = ap (λ (u : Stream). u.client) same in omega arith) r.1)
set_in_place m low (suc at) (t ∷ streams) s r e =
    ap₂ (λ u us. u ∷ us)
    (ap (λ b. if b then moved m t else t) (and_left (t.client == s.client) (is_open t) (lower t.client s.client
    (at_least (suc t.client) at streams s r.1 e))))
    (set_in_place m (suc t.client) at streams s r.1 e)
  where
    lower : (a b : ℕ) → a < b → (a == b) ≡ false
    lower a b h = turned b a (lt_ne a b h)

-- the stream in a place is the one that is found of its client
pub found_in_place : (low at : ℕ) (streams : List Stream) (s : Stream) → RisesFrom low (clients_of streams) →
    slice_get streams at ≡ Some s → find (is_of s.client) streams ≡ Some s
found_in_place low at [] s r e = absurd (none-some s e)
found_in_place low zero (t ∷ streams) s r e =
    let same = same_Some t s e in
    ap (λ b. cond b (Some t) (find (is_of s.client) streams))
    (eq-eqb t.client s.client (ap (λ (u : Stream). u.client) same))
    ∙ ap Some same
found_in_place low (suc at) (t ∷ streams) s r e =
    ap (λ b. cond b (Some t) (find (is_of s.client) streams))
    (lower t.client s.client (at_least (suc t.client) at streams s r.1 e))
    ∙ found_in_place (suc t.client) at streams s r.1 e
  where
    lower : (a b : ℕ) → a < b → (a == b) ≡ false
    lower a b h = turned b a (lt_ne a b h)

pub stream_in_place : (at : ℕ) (st : Stage) (s : Stream) → RisesFrom 0 (clients st) →
    slice_get st.streams at ≡ Some s → stream_at s.client st ≡ Some s
stream_in_place at st s r e = found_in_place 0 at st.streams s r e

-- a move of the client of the stream in a place
module _ (m : StreamMove) (at : ℕ) (st : Stage) (s : Stream) (r : RisesFrom 0 (clients st))
    (e : slice_get st.streams at ≡ Some s) where
  abbrev with_stream : Stream → Stage
  with_stream new = record st { streams = slice_set st.streams at new }

  after_in_place : after_move st (of_client s.client m) ≡ with_stream (stream_after (of_client s.client m) s)
  after_in_place =
      ap₂ (λ heads streams. record { playheads = heads; streams = streams })
      (playheads_stay st (of_client s.client m) refl) (set_in_place m 0 at st.streams s r e)

  own : is_open s ≡ true → is_open_of s.client s ≡ true
  own o = and_from (s.client == s.client) (is_open s) (eq-eqb s.client s.client refl) o

  -- it is moved if it is open
  pub moved_in_place : is_open s ≡ true → after_move st (of_client s.client m) ≡ with_stream (moved m s)
  moved_in_place o = after_in_place ∙ ap (λ b. with_stream (if b then moved m s else s)) (own o)

  pub tally_in_place : is_open s ≡ true → (t : Tally) → tally_by st (of_client s.client m) t ≡ tally_of_stream m s t
  tally_in_place o t =
      ap (λ o. tally_of_found s.client m o t) (stream_in_place at st s r e)
      ∙ ap (λ b. if b then tally_of_stream m s t else t) (own o)

  -- the same by the client's number
  pub moved_at : (client : ℕ) → s.client ≡ client → is_open s ≡ true →
      after_move st (of_client client m) ≡ with_stream (moved m s)
  moved_at client same o = ap (λ n. after_move st (of_client n m)) (sym same) ∙ moved_in_place o

  pub tally_at : (client : ℕ) → s.client ≡ client → is_open s ≡ true → (t : Tally) →
      tally_by st (of_client client m) t ≡ tally_of_stream m s t
  tally_at client same o t = ap (λ n. tally_by st (of_client n m) t) (sym same) ∙ tally_in_place o t

  -- a closed one stays
  pub closed_in_place : is_open s ≡ false → after_move st (of_client s.client m) ≡ st
  closed_in_place o =
      after_in_place
      ∙ ap (λ b. with_stream (if b then moved m s else s)) (not_open_of s.client s o)
      ∙ ap (λ streams. record st { streams = streams })
      (ap (slice_set st.streams at) (sym (get_or_from_slice_get st.streams at s s e)) ∙ set-get_or st.streams at s)

  pub tally_of_closed : is_open s ≡ false → (t : Tally) → tally_by st (of_client s.client m) t ≡ t
  tally_of_closed o t =
      ap (λ o. tally_of_found s.client m o t) (stream_in_place at st s r e)
      ∙ ap (λ b. if b then tally_of_stream m s t else t) (not_open_of s.client s o)

-- what no move changes
pub same_each : {A : Type 0} (f : A → A) (xs : List A) → AllByRecursion (λ x. f x ≡ x) xs → map f xs ≡ xs
same_each f [] h = refl
same_each f (x ∷ xs) h = ap₂ (λ y ys. y ∷ ys) h.0 (same_each f xs h.1)

-- if a client has no stream, its moves leave all as it is
pub absent_stays : (n : ℕ) (m : StreamMove) (st : Stage) → IsWithout n (clients st) →
    after_move st (of_client n m) ≡ st
absent_stays n m st w =
    ap₂ (λ heads streams. record { playheads = heads; streams = streams }) (playheads_stay st (of_client n m) refl)
    (same_each (stream_after (of_client n m)) st.streams
    (all_weaker (λ s. (n == s.client) ≡ false) (λ s. stream_after (of_client n m) s ≡ s)
    (λ s k. ap (λ b. if b then moved m s else s) (and_left (s.client == n) (is_open s) (turned n s.client k)))
    st.streams (others n st.streams (same_any n st.streams ∙ w))))

pub tally_of_absent : (n : ℕ) (m : StreamMove) (st : Stage) (t : Tally) → IsWithout n (clients st) →
    tally_by st (of_client n m) t ≡ t
tally_of_absent n m st t w = ap (λ o. tally_of_found n m o t) (found_none n st.streams w)

-- ---- a new stream

-- streams in order: from a place on all are above a number if the one there is
all_above : (n low : ℕ) (streams : List Stream) → n < low → RisesFrom low (clients_of streams) →
    AllByRecursion (λ s. n < s.client) streams
all_above n low [] h r = tt
all_above n low (s ∷ streams) h r =
    let l = r.0 in
    (omega arith, all_above n (suc s.client) streams (omega arith) r.1)

pub rest_above : (n low at : ℕ) (streams : List Stream) → RisesFrom low (clients_of streams) →
    ((s : Stream) → slice_get streams at ≡ Some s → n < s.client) →
    AllByRecursion (λ s. n < s.client) (drop at streams)
rest_above n low zero [] r h = tt
rest_above n low zero (s ∷ streams) r h =
    let l = h s refl in
    (l, all_above n (suc s.client) streams (omega arith) r.1)
rest_above n low (suc at) [] r h = tt
rest_above n low (suc at) (s ∷ streams) r h = rest_above n (suc s.client) at streams r.1 h

-- and before a place all are below it if the last of them is
pub front_below : (n low at : ℕ) (streams : List Stream) → at ≤ length streams → RisesFrom low (clients_of streams) →
    ((i : ℕ) (s : Stream) → suc i ≡ at → slice_get streams i ≡ Some s → s.client < n) →
    AllByRecursion (λ s. s.client < n) (take at streams)
front_below n low zero streams l r h = tt
front_below n low (suc at) [] l r h = tt
front_below n low (suc zero) (s ∷ streams) l r h = (h 0 s refl refl, tt)
front_below n low (suc (suc at)) (s ∷ []) l r h = absurd (past l)
  where
    past : suc (suc at) ≤ 1 → ⊥
    past k = omega arith
front_below n low (suc (suc at)) (s ∷ t ∷ streams) l r h =
    let k = front_below n (suc s.client) (suc at) (t ∷ streams) (omega arith) r.1
    (λ i u e g. h (suc i) u (ap suc e) g) in
    let first : t.client < n = k.0 in
    let rises : suc s.client ≤ t.client = r.1.0 in
    (omega arith, k)

none_there : (n at : ℕ) (streams : List Stream) → AllByRecursion (λ s. s.client < n) (take at streams) →
    AllByRecursion (λ s. n < s.client) (drop at streams) → has_stream n streams ≡ false
none_there n zero [] h k = refl
none_there n zero (s ∷ streams) h k =
    or_from (s.client == n) (has_stream n streams) (lt_ne n s.client k.0) (none_there n zero streams tt k.1)
none_there n (suc at) [] h k = refl
none_there n (suc at) (s ∷ streams) h k =
    or_from (s.client == n) (has_stream n streams) (turned n s.client (lt_ne s.client n h.0))
    (none_there n at streams h.1 k)

-- a stream that is opened is set in the place that splits the streams of lower clients from those of greater ones
pub opened_in_place : (at : ℕ) (new : Stream) (st : Stage) →
    AllByRecursion (λ s. s.client < new.client) (take at st.streams) →
    AllByRecursion (λ s. new.client < s.client) (drop at st.streams) →
    after_move st (opened new) ≡ record st { streams = insert st.streams at (as_opened new) }
opened_in_place at new st h k =
    ap₂ (λ heads streams. record { playheads = heads; streams = streams })
    (playheads_stay st (opened new) refl)
    (ap (with_opened (opened new)) (map_same (stream_after (opened new)) (λ s. refl) st.streams)
    ∙ ap (λ b. if b then st.streams else inserted (as_opened new) st.streams)
    (none_there new.client at st.streams h k)
    ∙ inserted_at at (as_opened new) st.streams
    (all_weaker (λ s. s.client < new.client) (λ s. s.client ≤ new.client) (λ s l. omega arith) (take at st.streams) h)
    k)

-- streams of other clients are found as before, and its own is found
pub opened_others : (n : ℕ) (new : Stream) (st : Stage) → (new.client == n) ≡ false →
    stream_at n (after_move st (opened new)) ≡ stream_at n st
opened_others n new st e =
    ap (λ ss. find (is_of n) (with_opened (opened new) ss))
    (map_same (stream_after (opened new)) (λ s. refl) st.streams)
    ∙ chosen (λ ss. find (is_of n) ss ≡ find (is_of n) st.streams) (has_stream new.client st.streams) st.streams
    (inserted (as_opened new) st.streams) refl (find_other (is_of n) (as_opened new) st.streams e)

pub opened_own : (new : Stream) (st : Stage) → IsWithout new.client (clients st) →
    stream_at new.client (after_move st (opened new)) ≡ Some (as_opened new)
opened_own new st w =
    ap (λ ss. find (is_of new.client) (with_opened (opened new) ss))
    (map_same (stream_after (opened new)) (λ s. refl) st.streams)
    ∙ ap (λ b. find (is_of new.client) (if b then st.streams else inserted (as_opened new) st.streams))
    (same_any new.client st.streams ∙ w)
    ∙ find_new (is_of new.client) (as_opened new) st.streams (eq-eqb new.client new.client refl)
    (found_none new.client st.streams w)

-- ---- the present part of a stage in order is in order

rises_lower : (low high : ℕ) (ns : List ℕ) → low ≤ high → RisesFrom high ns → RisesFrom low ns
rises_lower low high [] l r = tt
rises_lower low high (n ∷ ns) l r =
    let k = r.0 in
    (omega arith, r.1)

pub rising_filter : (test : Stream → Bool) (low : ℕ) (streams : List Stream) → RisesFrom low (clients_of streams) →
    RisesFrom low (clients_of (filter test streams))
rising_filter test low [] r = tt
rising_filter test low (s ∷ streams) r = go (test s) r.0 (rising_filter test (suc s.client) streams r.1)
  where
    go : (b : Bool) → low ≤ s.client → RisesFrom (suc s.client) (clients_of (filter test streams)) →
        RisesFrom low (clients_of (cond b (s ∷ filter test streams) (filter test streams)))
    go true l k = (l, k)
    go false l k = rises_lower low (suc s.client) (clients_of (filter test streams)) (omega arith) k

pub stage_present : (numbers : List ℕ) (st : Stage) → IsStage st → IsStage (present numbers st)
stage_present numbers st h = record {
  rising = rising_filter (is_left numbers) 0 st.streams h.rising;
  playheads = h.playheads;
  settled = all-filter IsSettled (is_left numbers) st.streams h.settled;
  held = all-filter IsHeld (is_left numbers) st.streams h.held;
}
