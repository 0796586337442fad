-- Entries in order, with a new one set in its place.
use Rattle.std.proofs.Common.{◌≡◌, ℕ, zero, suc, ◌+◌, ◌<◌, ◌≤◌, ◌==◌, ◌||◌, not, nat_lt, List, [], ◌∷◌, length, map}
use Rattle.std.proofs.Common.{take, drop, Bool, true, false, cond, Some, None, refl, sym, ap, ◌∙◌, subst, arith}
use Rattle.std.proofs.Common.{if◌then◌else◌, eq-eqb, eqb-true, ne_eqb}
use Rattle.std.specs.List.{AllByRecursion, find, insert, position, position_or_len}
use Rattle.std.proofs.lemmas.List.Sums.{prefix_len-le-length}
use Rattle.std.proofs.lemmas.Option.{cond_some, none-some}
use Rattle.ca_stage.specs.Stage.{BufferData, Stream}
use Rattle.ca_stage.specs.Order.{RisesFrom, is_among}
use Rattle.ca_stage.proofs.Lists.{all-map}
use Rattle.period_engine.specs.declared.entry.StreamEntry.{StreamEntry}
use Rattle.period_engine.specs.Entries.{stream_of}
use Rattle.service_board.specs.Does.{store_at}
use Rattle.stream_entries.specs.Search.{is_entry_of}
use Rattle.service_board.specs.Openings.{is_above}
use borrow.Author.Tests.{ltb-true, ltb-false}

-- ---- the place of the first member that passes, or the end

pub place_found : {X : Type 0} (test : X → Bool) (xs : List X) (at : ℕ) → Some at ≡ position test xs →
    at ≡ position_or_len test xs
place_found test xs at e =
    sym (cond_some (nat_lt (position_or_len test xs) (length xs)) (position_or_len test xs) at (sym e)).1

pub place_end : {X : Type 0} (test : X → Bool) (xs : List X) (n : ℕ) → None ≡ position test xs → n ≡ length xs →
    n ≡ position_or_len test xs
place_end test xs n e l =
    let most : position_or_len test xs ≤ length xs = prefix_len-le-length (λ x. not (test x)) xs in
    let least = by (nat_lt (position_or_len test xs) (length xs)) refl e in
    omega arith
  where
    by : (b : Bool) → nat_lt (position_or_len test xs) (length xs) ≡ b →
        None ≡ cond b (Some (position_or_len test xs)) None → length xs ≤ position_or_len test xs
    by true t h = absurd (none-some (position_or_len test xs) h)
    by false t h = ltb-false (position_or_len test xs) (length xs) t

-- nothing is found: not the first one, and none behind it
pub none_parts : {X : Type 0} (test : X → Bool) (x : X) (xs : List X) → find test (x ∷ xs) ≡ None →
    (test x ≡ false) × (find test xs ≡ None)
none_parts test x xs e = by (test x) refl e
  where
    by : (b : Bool) → test x ≡ b → cond b (Some x) (find test xs) ≡ None → (test x ≡ false) × (find test xs ≡ None)
    by true t h = absurd (none-some x (sym h))
    by false t h = (t, h)

-- ---- a place splits entries: those before it are of lower clients than a number, those from it on of greater ones

module _ {E : Type 0} where
  abbrev pub numbers : List (StreamEntry E) → List ℕ
  numbers entries = map (λ e. e.client.0) entries

  pub record Splits (n at : ℕ) (entries : List (StreamEntry E)) : Type 0 where
    pub below : AllByRecursion (λ e. e.client.0 < n) (take at entries)
    pub above : AllByRecursion (λ e. n < e.client.0) (drop at entries)

  all_above : (n low : ℕ) (entries : List (StreamEntry E)) → n < low → RisesFrom low (numbers entries) →
      AllByRecursion (λ e. n < e.client.0) entries
  all_above n low [] l r = tt
  all_above n low (e ∷ entries) l r =
      let k = r.0 in
      (omega arith, all_above n (suc e.client.0) entries (omega arith) r.1)

  pub place_splits : (n low : ℕ) (entries : List (StreamEntry E)) → RisesFrom low (numbers entries) →
      find (is_entry_of n) entries ≡ None → Splits n (position_or_len (is_above n) entries) entries
  place_splits n low [] r f = record { below = tt; above = tt }
  place_splits n low (e ∷ entries) r f =
      let parts = none_parts (is_entry_of n) e entries f in
      by (nat_lt n e.client.0) refl parts.0 (place_splits n (suc e.client.0) entries r.1 parts.1)
    where
      next : (p : ℕ) → suc p ≡ 1 + p
      next p = omega arith

      lower : nat_lt n e.client.0 ≡ false → (e.client.0 == n) ≡ false → e.client.0 < n
      lower t o = less (ltb-false n e.client.0 t) (λ h. differ (sym (eq-eqb e.client.0 n h) ∙ o))
        where
          differ : true ≡ false → ⊥
          differ h = cc

          less : e.client.0 ≤ n → (e.client.0 ≡ n → ⊥) → e.client.0 < n
          less l d = omega arith

      by : (b : Bool) → nat_lt n e.client.0 ≡ b → (e.client.0 == n) ≡ false →
          Splits n (position_or_len (is_above n) entries) entries →
          Splits n (cond (not b) (1 + position_or_len (is_above n) entries) 0) (e ∷ entries)
      by true t o s =
          let l = ltb-true n e.client.0 t in
          record { below = tt; above = (l, all_above n (suc e.client.0) entries (omega arith) r.1) }
      by false t o s =
          subst (λ p. Splits n p (e ∷ entries)) (next (position_or_len (is_above n) entries))
          (record { below = (lower t o, s.below); above = s.above })

  split_tail : (n at : ℕ) (e : StreamEntry E) (entries : List (StreamEntry E)) → Splits n (suc at) (e ∷ entries) →
      Splits n at entries
  split_tail n at e entries s = record { below = s.below.1; above = s.above }

  -- the entries with a new one are in order
  pub rises_insert : (low at : ℕ) (new : StreamEntry E) (entries : List (StreamEntry E)) → low ≤ new.client.0 →
      RisesFrom low (numbers entries) → Splits new.client.0 at entries →
      RisesFrom low (numbers (insert entries at new))
  rises_insert low zero new [] l r s = (l, tt)
  rises_insert low zero new (e ∷ entries) l r s = (l, (s.above.0, r.1))
  rises_insert low (suc at) new [] l r s = (l, tt)
  rises_insert low (suc at) new (e ∷ entries) l r s =
      (r.0, rises_insert (suc e.client.0) at new entries s.below.0 r.1 (split_tail new.client.0 at e entries s))

  -- the streams of entries are split by the same place
  pub streams_below : (datas : ℕ → BufferData) (n at : ℕ) (entries : List (StreamEntry E)) → Splits n at entries →
      AllByRecursion (λ (s : Stream). s.client < n) (take at (map (stream_of datas) entries))
  streams_below datas n zero entries s = tt
  streams_below datas n (suc at) [] s = tt
  streams_below datas n (suc at) (e ∷ entries) s =
      (s.below.0, streams_below datas n at entries (split_tail n at e entries s))

  pub streams_above : (datas : ℕ → BufferData) (n at : ℕ) (entries : List (StreamEntry E)) → Splits n at entries →
      AllByRecursion (λ (s : Stream). n < s.client) (drop at (map (stream_of datas) entries))
  streams_above datas n zero entries s =
      all-map (λ e. n < e.client.0) (λ t. n < t.client) (stream_of datas) (λ e l. l) entries s.above
  streams_above datas n (suc at) [] s = tt
  streams_above datas n (suc at) (e ∷ entries) s = streams_above datas n at entries (split_tail n at e entries s)

  -- ---- the store of a client, with a new entry

  pub no_store : (n : ℕ) (entries : List (StreamEntry E)) → find (is_entry_of n) entries ≡ None →
      store_at n entries ≡ None
  no_store n [] f = refl
  no_store n (e ∷ entries) f =
      let parts = none_parts (is_entry_of n) e entries f in
      ap (λ b. if b then Some e.store else store_at n entries) parts.0 ∙ no_store n entries parts.1

  pub own_store : (at : ℕ) (new : StreamEntry E) (entries : List (StreamEntry E)) →
      find (is_entry_of new.client.0) entries ≡ None →
      store_at new.client.0 (insert entries at new) ≡ Some new.store
  own_store zero new entries f =
      ap (λ b. if b then Some new.store else store_at new.client.0 entries) (eq-eqb new.client.0 new.client.0 refl)
  own_store (suc at) new [] f =
      ap (λ b. if b then Some new.store else None) (eq-eqb new.client.0 new.client.0 refl)
  own_store (suc at) new (e ∷ entries) f =
      let parts = none_parts (is_entry_of new.client.0) e entries f in
      ap (λ b. if b then Some e.store else store_at new.client.0 (insert entries at new)) parts.0
      ∙ own_store at new entries parts.1

  pub other_store : (n at : ℕ) (new : StreamEntry E) (entries : List (StreamEntry E)) →
      (new.client.0 == n) ≡ false → store_at n (insert entries at new) ≡ store_at n entries
  other_store n zero new entries o = ap (λ b. if b then Some new.store else store_at n entries) o
  other_store n (suc at) new [] o = ap (λ b. if b then Some new.store else None) o
  other_store n (suc at) new (e ∷ entries) o =
      ap (λ store. if e.client.0 == n then Some e.store else store) (other_store n at new entries o)

-- ---- a list with a new member

pub map_insert : {X Y : Type 0} (f : X → Y) (at : ℕ) (x : X) (xs : List X) →
    map f (insert xs at x) ≡ insert (map f xs) at (f x)
map_insert f zero x xs = refl
map_insert f (suc at) x [] = refl
map_insert f (suc at) x (y ∷ xs) = ap (λ ys. f y ∷ ys) (map_insert f at x xs)

pub all_insert : {X : Type 0} (P : X → Type 0) (at : ℕ) (x : X) (xs : List X) → AllByRecursion P xs → P x →
    AllByRecursion P (insert xs at x)
all_insert P zero x xs h p = (p, h)
all_insert P (suc at) x [] h p = (p, tt)
all_insert P (suc at) x (y ∷ xs) h p = (h.0, all_insert P at x xs h.1 p)

pub length_insert : {X : Type 0} (at : ℕ) (x : X) (xs : List X) → length (insert xs at x) ≡ length xs + 1
length_insert zero x xs = omega arith
length_insert (suc at) x [] = refl
length_insert (suc at) x (y ∷ xs) = let e = length_insert at x xs in omega arith

-- ---- of two lists of numbers that rise, one whose members are all in the other isn't longer

among_least : (low n : ℕ) (ns : List ℕ) → RisesFrom low ns → is_among n ns ≡ true → low ≤ n
among_least low n [] r h = cc
among_least low n (m ∷ ns) r h = by (m == n) refl h (among_least (suc m) n ns r.1)
  where
    by : (b : Bool) → (m == n) ≡ b → (b || is_among n ns) ≡ true → (is_among n ns ≡ true → suc m ≤ n) → low ≤ n
    by true t k f =
        let e = eqb-true m n t in
        let l = r.0 in
        omega arith
    by false t k f =
        let g = f k in
        let l = r.0 in
        omega arith

-- numbers above one that is first are among the others
among_rest : (m low : ℕ) (ns ms : List ℕ) → m < low → RisesFrom low ns →
    AllByRecursion (λ n. is_among n (m ∷ ms) ≡ true) ns → AllByRecursion (λ n. is_among n ms ≡ true) ns
among_rest m low [] ms l r h = tt
among_rest m low (n ∷ ns) ms l r h =
    let k = r.0 in
    (other n (omega arith) h.0, among_rest m (suc n) ns ms (omega arith) r.1 h.1)
  where
    other : (n : ℕ) → m < n → (m == n || is_among n ms) ≡ true → is_among n ms ≡ true
    other n k e = ap (λ b. b || is_among n ms) (sym (ne_eqb m n (λ g. absurd (apart n k g)))) ∙ e
      where
        apart : (n : ℕ) → m < n → m ≡ n → ⊥
        apart n k g = omega arith

pub rising_within : (low : ℕ) (ns ms : List ℕ) → RisesFrom low ns → RisesFrom low ms →
    AllByRecursion (λ n. is_among n ms ≡ true) ns → length ns ≤ length ms
rising_within low [] ms r q h = omega arith
rising_within low (n ∷ ns) [] r q h = cc
rising_within low (n ∷ ns) (m ∷ ms) r q h =
    by (m == n) refl h.0 (rising_within (suc m) ns ms) (rising_within (suc m) (n ∷ ns) ms)
  where
    by : (b : Bool) → (m == n) ≡ b → (b || is_among n ms) ≡ true →
        (RisesFrom (suc m) ns → RisesFrom (suc m) ms → AllByRecursion (λ k. is_among k ms ≡ true) ns →
        length ns ≤ length ms) →
        (RisesFrom (suc m) (n ∷ ns) → RisesFrom (suc m) ms → AllByRecursion (λ k. is_among k ms ≡ true) (n ∷ ns) →
        length (n ∷ ns) ≤ length ms) → length (n ∷ ns) ≤ length (m ∷ ms)
    by true t k f g =
        let e = eqb-true m n t in
        let l = f (subst (λ j. RisesFrom (suc j) ns) (sym e) r.1) q.1
        (among_rest m (suc n) ns ms (omega arith) r.1 h.1) in
        omega arith
    by false t k f g =
        let e = among_least (suc m) n ms q.1 k in
        let l = g (e, r.1) q.1 (k, among_rest m (suc n) ns ms (omega arith) r.1 h.1) in
        omega arith
