-- Of notes and themselves nothing is told.
use Rattle.std.proofs.Common.{◌≡◌, ℕ, ◌==◌, ◌&&◌, not, nat_eq, List, [], ◌∷◌, map, filter, Bool, true, false, refl, ap}
use Rattle.std.proofs.Common.{cond, Option, Some, None, is_none}
use Rattle.std.specs.List.{AllByRecursion, IsDistinct, filter_map, find}
use Rattle.std.proofs.lemmas.Bool.{eq-eqb}
use Rattle.ca_base.specs.declared.ids.Gate.{Gate}
use Rattle.ca_base.specs.declared.ids.Gate.TheVariants as gate
use Rattle.step_notices.specs.declared.records.NotedEndpoint.{NotedEndpoint}
use Rattle.step_notices.specs.declared.records.NotedStream.{NotedStream}
use Rattle.step_notices.specs.Changes.{closed_for, endpoint_in, had_another_state, is_open, reasons, stream_in}
use Rattle.step_notices.specs.Changes.{was_open}

-- a number is not another than itself
pub same_number : (n : ℕ) → not (n == n) ≡ false
same_number n = ap not (eq-eqb n n refl)

-- ---- lists of which nothing is taken

pub none_pass : {X : Type 0} (test : X → Bool) (xs : List X) → AllByRecursion (λ x. test x ≡ false) xs →
    filter test xs ≡ []
none_pass test [] h = refl
none_pass test (x ∷ xs) h = rw h.0 (none_pass test xs h.1)

pub none_pass_ever : {X : Type 0} (test : X → Bool) (xs : List X) → ((x : X) → test x ≡ false) →
    filter test xs ≡ []
none_pass_ever test [] h = refl
none_pass_ever test (x ∷ xs) h = rw h (none_pass_ever test xs h)

pub none_given : {X Y : Type 0} (f : X → Option Y) (xs : List X) → ((x : X) → f x ≡ None) →
    filter_map f xs ≡ []
none_given f [] h = refl
none_given f (x ∷ xs) h = rw h (none_given f xs h)

-- ---- what is noted of a number

module _ {X : Type 0} (key : X → ℕ) where
  -- what is found of the number of x
  abbrev pub found : X → List X → Option X
  found x xs = find (λ y. key y == key x) xs

  -- each of a list is found there, though it may be another one of its number
  pub each_is_there : (xs : List X) → AllByRecursion (λ x. is_none (found x xs) ≡ false) xs
  each_is_there [] = tt
  each_is_there (x ∷ xs) = (rw (eq-eqb (key x) (key x) refl) refl, behind x xs xs (each_is_there xs))
    where
      by : (b : Bool) (x : X) (o : Option X) → is_none o ≡ false → is_none (cond b (Some x) o) ≡ false
      by true x o h = refl
      by false x o h = h

      behind : (x : X) (xs ys : List X) → AllByRecursion (λ y. is_none (found y xs) ≡ false) ys →
          AllByRecursion (λ y. is_none (found y (x ∷ xs)) ≡ false) ys
      behind x xs [] h = tt
      behind x xs (y ∷ ys) h = (by (key x == key y) x (found y xs) h.0, behind x xs ys h.1)

  -- if numbers differ, each is what is found of its number
  pub each_is_found : (xs : List X) → IsDistinct nat_eq (map key xs) → AllByRecursion (λ x. found x xs ≡ Some x) xs
  unfolding IsDistinct
  each_is_found [] d = tt
  each_is_found (x ∷ xs) d = (rw (eq-eqb (key x) (key x) refl) refl, behind x xs xs d.0 (each_is_found xs d.1))
    where
      behind : (x : X) (xs ys : List X) → AllByRecursion (λ k. nat_eq (key x) k ≡ false) (map key ys) →
          AllByRecursion (λ y. found y xs ≡ Some y) ys → AllByRecursion (λ y. found y (x ∷ xs) ≡ Some y) ys
      behind x xs [] apart h = tt
      behind x xs (y ∷ ys) apart h = (rw apart.0 h.0, behind x xs ys apart.1 h.1)

-- ---- devices

pub none_in_another_state : (a es : List NotedEndpoint) →
    AllByRecursion (λ e. endpoint_in e.no.0 a ≡ Some e) es → AllByRecursion (λ e. had_another_state a e ≡ false) es
none_in_another_state a [] h = tt
none_in_another_state a (e ∷ es) h = (rw h.0 (same_number e.state), none_in_another_state a es h.1)

-- ---- sessions

-- of each stream that is what is found of its client, none was open and is closed
pub none_closed : (a ss : List NotedStream) (number : ℕ) →
    AllByRecursion (λ s. stream_in s.client.0 a ≡ Some s) ss → reasons a ss number ≡ []
none_closed a [] number h = refl
none_closed a (s ∷ ss) number h =
    by s (s.session.0 == number) s.gate refl (was_open a s)
    (rw h.0 refl) (none_closed a ss number h.1)
  where
    rest : List NotedStream → List NotedStream
    rest ss = filter (λ s. s.session.0 == number && was_open a s) ss

    by : (s : NotedStream) (mine : Bool) (g : Gate) → s.gate ≡ g → (was : Bool) → was ≡ is_open g →
        filter_map (λ s. closed_for s.gate) (rest ss) ≡ [] →
        filter_map (λ s. closed_for s.gate) (cond (mine && was) (s ∷ rest ss) (rest ss)) ≡ []
    by s true gate.Open e was is h = rw (is, e) h
    by s true (gate.Closed r) e was is h = rw is h
    by s false g e was is h = h
