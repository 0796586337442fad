-- What the same move of several clients' streams adds to the tally: a sum over the streams.
use Rattle.std.proofs.Common.{◌≡◌, ℕ, ◌+◌, ◌≤◌, ◌==◌, List, [], ◌∷◌, ◌++◌, map, Bool, true, false, cond}
use Rattle.std.proofs.Common.{Option, Some, None, refl, sym, ap, ap₂, ◌∙◌, subst, find, sum_by, arith}
use Rattle.std.proofs.Common.{eqb-true, zero-add, if◌then◌else◌}
use Rattle.std.proofs.lemmas.Bool.{and_left}
use Rattle.std.proofs.lemmas.List.Sums.{sum_by-cons}
use Rattle.std.specs.List.{AllByRecursion}
use Rattle.ca_base.specs.declared.ids.Reason.{Reason}
use Rattle.ca_base.specs.declared.limits.TheConstants.{MAX_TALLY}
use Rattle.ca_stage.specs.Stage.{Stream, Stage, padding}
use Rattle.ca_stage.specs.Moves.{StreamMove, closed, retired, of_client, moved, is_open_of, stream_after}
use Rattle.ca_stage.specs.Moves.{Move, after_move, after_moves, stream_at}
use Rattle.ca_stage.specs.Tally.{Tally, counted, tally_of_stream, tally_of_found, tally_by, tally_after}
use Rattle.ca_stage.specs.Order.{clients, is_among, RisesFrom}
use Rattle.ca_stage.proofs.Lists.{all_both, all_of}
use Rattle.ca_stage.proofs.Streams.{is_of}
use Rattle.ca_stage.proofs.Clients.{clients_of, same_any, others, rising_distinct, rises_step, turned}
use Rattle.ca_stage.proofs.Counting.{counted_none, counted_twice, counted_most}
use Rattle.ca_stage.proofs.MapMoves.{moves_to, is_open_among, MovesOnce, once_closed, FirstOrLater}
use Rattle.ca_stage.proofs.MapMoves.{first_one, later_one, first_or_later}

-- the amount of a stream that passes a test
abbrev pub amount_where : (Stream → Bool) → (Stream → ℕ) → Stream → ℕ
amount_where test amount s = if test s then amount s else 0

-- sums over streams
pub sum_alike : {A : Type 0} (f g : A → ℕ) (xs : List A) → AllByRecursion (λ x. f x ≡ g x) xs →
    sum_by f xs ≡ sum_by g xs
sum_alike f g [] h = refl
sum_alike f g (x ∷ xs) h =
    sum_by-cons f x xs ∙ ap₂ (λ a b. a + b) h.0 (sum_alike f g xs h.1) ∙ sym (sum_by-cons g x xs)

pub sum_map : {A B : Type 0} (f : B → ℕ) (g : A → B) (xs : List A) → sum_by f (map g xs) ≡ sum_by (λ x. f (g x)) xs
sum_map f g [] = refl
sum_map f g (x ∷ xs) =
    sum_by-cons f (g x) (map g xs) ∙ ap (λ k. f (g x) + k) (sum_map f g xs) ∙ sym (sum_by-cons (λ x. f (g x)) x xs)

pub sum_none : {A : Type 0} (f : A → ℕ) (xs : List A) → AllByRecursion (λ x. f x ≡ 0) xs → sum_by f xs ≡ 0
sum_none f [] h = refl
sum_none f (x ∷ xs) h = sum_by-cons f x xs ∙ ap₂ (λ a b. a + b) h.0 (sum_none f xs h.1)

pub sum_both : {A : Type 0} (f g : A → ℕ) (xs : List A) →
    sum_by f xs + sum_by g xs ≡ sum_by (λ x. f x + g x) xs
sum_both f g [] = refl
sum_both f g (x ∷ xs) =
    ap₂ (λ a b. a + b) (sum_by-cons f x xs) (sum_by-cons g x xs)
    ∙ regroup (f x) (g x) _ _ _ (sum_both f g xs)
    ∙ sym (sum_by-cons (λ x. f x + g x) x xs)
  where
    regroup : (a b s t u : ℕ) → s + t ≡ u → (a + s) + (b + t) ≡ (a + b) + u
    regroup a b s t u e = omega arith

-- the stream of one client is the one that may add
abbrev one_amount : ℕ → (Stream → ℕ) → List Stream → ℕ
one_amount n amount streams = sum_by (amount_where (is_open_of n) amount) streams

others_add_none : (n : ℕ) (amount : Stream → ℕ) (streams : List Stream) →
    AllByRecursion (λ s. (n == s.client) ≡ false) streams → one_amount n amount streams ≡ 0
others_add_none n amount streams h =
    sum_none (amount_where (is_open_of n) amount) streams
    (all_both (λ s. (n == s.client) ≡ false) (λ s. (n == s.client) ≡ false)
    (λ s. amount_where (is_open_of n) amount s ≡ 0)
    (λ s e k. ap (λ b. if b then amount s else 0) (and_left (s.client == n) _ (turned n s.client e))) streams h h)

abbrev amount_in : ℕ → (Stream → ℕ) → Option Stream → ℕ
amount_in n amount None = 0
amount_in n amount (Some s) = amount_where (is_open_of n) amount s

amount_head : (n : ℕ) (amount : Stream → ℕ) (s : Stream) (streams : List Stream) (b : Bool) → (s.client == n) ≡ b →
    (b ≡ true → one_amount n amount streams ≡ 0) →
    one_amount n amount streams ≡ amount_in n amount (find (is_of n) streams) →
    one_amount n amount (s ∷ streams) ≡ amount_in n amount (cond b (Some s) (find (is_of n) streams))
amount_head n amount s streams true e z h =
    sum_by-cons (amount_where (is_open_of n) amount) s streams
    ∙ ap (λ k. amount_where (is_open_of n) amount s + k) (z refl) ∙ omega arith
amount_head n amount s streams false e z h =
    sum_by-cons (amount_where (is_open_of n) amount) s streams
    ∙ ap₂ (λ a b. a + b) (ap (λ b. if b then amount s else 0) (and_left (s.client == n) _ e)) h
    ∙ zero-add _

one_found : (n : ℕ) (amount : Stream → ℕ) (low : ℕ) (streams : List Stream) → RisesFrom low (clients_of streams) →
    one_amount n amount streams ≡ amount_in n amount (find (is_of n) streams)
one_found n amount low [] r = refl
one_found n amount low (s ∷ streams) r =
    amount_head n amount s streams (s.client == n) refl
    (λ e. others_add_none n amount streams
    (others n streams
    (same_any n streams
    ∙ ap (λ k. is_among k (clients_of streams)) (sym (eqb-true s.client n e))
    ∙ (rising_distinct low (s.client ∷ clients_of streams) r).0)))
    (one_found n amount _ streams r.1)

-- a move of a stream adds an amount of the stream to a count of the tally
pub record AddsTo (m : StreamMove) (amount : Stream → ℕ) (count : Tally → ℕ) (with_more : ℕ → Tally → Tally) :
    Type 0 where
  pub adds : (s : Stream) (t : Tally) → tally_of_stream m s t ≡ with_more (amount s) t
  pub nothing : (t : Tally) → count t ≤ MAX_TALLY → t ≡ with_more 0 t
  pub twice : (a b : ℕ) (t : Tally) → with_more b (with_more a t) ≡ with_more (a + b) t
  pub fits : (a : ℕ) (t : Tally) → count (with_more a t) ≤ MAX_TALLY

abbrev pub more_rendered : ℕ → Tally → Tally
more_rendered k t = record t { rendered = counted t.rendered k }

abbrev pub more_dropped : ℕ → Tally → Tally
more_dropped k t = record t { dropped = counted t.dropped k }

pub retired_adds : AddsTo retired (λ s. s.picked) (λ t. t.rendered) more_rendered
retired_adds = record {
  adds = λ s t. refl;
  nothing = λ t l. ap (λ k. record t { rendered = k }) (counted_none t.rendered l refl);
  twice = λ a b t. ap (λ k. record t { rendered = k }) (counted_twice t.rendered a b refl);
  fits = λ a t. counted_most t.rendered a;
}

pub closed_adds : (reason : Reason) → AddsTo (closed reason) padding (λ t. t.dropped) more_dropped
closed_adds reason = record {
  adds = λ s t. refl;
  nothing = λ t l. ap (λ k. record t { dropped = k }) (counted_none t.dropped l refl);
  twice = λ a b t. ap (λ k. record t { dropped = k }) (counted_twice t.dropped a b refl);
  fits = λ a t. counted_most t.dropped a;
}

module _ (m : StreamMove) (amount : Stream → ℕ) (count : Tally → ℕ) (with_more : ℕ → Tally → Tally)
    (k : AddsTo m amount count with_more) where
  found_adds : (n : ℕ) (t : Tally) (o : Option Stream) → count t ≤ MAX_TALLY →
      tally_of_found n m o t ≡ with_more (amount_in n amount o) t
  found_adds n t None l = k.nothing t l
  found_adds n t (Some s) l = go (is_open_of n s)
    where
      go : (b : Bool) → (if b then tally_of_stream m s t else t) ≡ with_more (if b then amount s else 0) t
      go true = k.adds s t
      go false = k.nothing t l

  move_adds : (n : ℕ) (st : Stage) (t : Tally) → RisesFrom 0 (clients st) → count t ≤ MAX_TALLY →
      tally_by st (of_client n m) t ≡ with_more (one_amount n amount st.streams) t
  move_adds n st t r l =
      found_adds n t (stream_at n st) l ∙ ap (λ a. with_more a t) (sym (one_found n amount 0 st.streams r))

  one_added : (n : ℕ) (numbers : List ℕ) (s : Stream) → FirstOrLater m n numbers s →
      amount_where (is_open_of n) amount s
      + amount_where (is_open_among numbers) amount (stream_after (of_client n m) s)
      ≡ amount_where (is_open_among (n ∷ numbers)) amount s
  one_added n numbers s (first_one h a z) =
      ap (λ b. (if b then amount s else 0)
      + amount_where (is_open_among numbers) amount (if b then moved m s else s)) h
      ∙ ap (λ b. amount s + (if b then amount (moved m s) else 0)) z
      ∙ omega arith
      ∙ sym (ap (λ b. if b then amount s else 0) a)
  one_added n numbers s (later_one h a) =
      ap (λ b. (if b then amount s else 0)
      + amount_where (is_open_among numbers) amount (if b then moved m s else s)) h
      ∙ zero-add _
      ∙ sym (ap (λ b. if b then amount s else 0) a)

  -- the tally has all amounts more
  pub tally_moved_once : (numbers : List ℕ) (st : Stage) (t : Tally) → MovesOnce m numbers →
      RisesFrom 0 (clients st) → count t ≤ MAX_TALLY →
      tally_after t st (moves_to m numbers)
      ≡ with_more (sum_by (amount_where (is_open_among numbers) amount) st.streams) t
  tally_moved_once [] st t d r l =
      k.nothing t l
      ∙ ap (λ a. with_more a t)
      (sym (sum_none (amount_where (is_open_among []) amount) st.streams (all_of _ (λ s. refl) st.streams)))
  tally_moved_once (n ∷ numbers) st t d r l =
      tally_moved_once numbers (after_move st (of_client n m)) (tally_by st (of_client n m) t) d.1
      (rises_step st (of_client n m) r)
      (subst (λ u. count u ≤ MAX_TALLY) (sym (move_adds n st t r l)) (k.fits (one_amount n amount st.streams) t))
      ∙ ap (with_more later) (move_adds n st t r l)
      ∙ k.twice (one_amount n amount st.streams) later t
      ∙ ap (λ a. with_more a t)
      (ap (λ a. one_amount n amount st.streams + a)
      (sum_map (amount_where (is_open_among numbers) amount) (stream_after (of_client n m)) st.streams)
      ∙ sum_both (amount_where (is_open_of n) amount)
      (λ s. amount_where (is_open_among numbers) amount (stream_after (of_client n m) s)) st.streams
      ∙ sum_alike _ _ st.streams
      (all_of _ (λ s. one_added n numbers s (first_or_later m n numbers s d.0)) st.streams))
    where
      later : ℕ
      later =
          sum_by (amount_where (is_open_among numbers) amount) (map (stream_after (of_client n m)) st.streams)

-- a tally after one list of moves and then another
pub tally-append : (xs ys : List Move) (t : Tally) (st : Stage) →
    tally_after t st (xs ++ ys) ≡ tally_after (tally_after t st xs) (after_moves st xs) ys
tally-append [] ys t st = refl
tally-append (x ∷ xs) ys t st = tally-append xs ys (tally_by st x t) (after_move st x)

-- several clients' streams are closed: what they had pending is dropped
pub closes_tally : (reason : Reason) (gone : List ℕ) (st : Stage) (t : Tally) → RisesFrom 0 (clients st) →
    t.dropped ≤ MAX_TALLY →
    tally_after t st (moves_to (closed reason) gone)
    ≡ record t { dropped = counted t.dropped (sum_by (amount_where (is_open_among gone) padding) st.streams) }
closes_tally reason gone st t r l =
    tally_moved_once (closed reason) padding (λ t. t.dropped) more_dropped (closed_adds reason) gone st t
    (once_closed reason gone) r l
