-- A loop over a list in place, with a state that goes along: what it did to each element so far, and that the others
-- are as they were.
use Rattle.std.proofs.Common.{
  ◌≡◌,
  ℕ,
  ◌+◌,
  ◌<◌,
  ◌≤◌,
  List,
  [],
  ◌∷◌,
  ◌++◌,
  length,
  take,
  drop,
  get_or,
  set,
  refl,
  sym,
  ap,
  subst,
  ◌∙◌,
  arith,
}
use Rattle.std.proofs.lemmas.List.{take_more, take_more_set, get_or-drop, drop-set-lt, drop-drop, take_all}
use Rattle.std.proofs.lemmas.List.Elements.{All-nil, All-cons}
use Rattle.std.specs.List.{All, AllZip}
use Rattle.period_engine.specs.Added.{Threads}

-- R led over the first i elements, and the others are the same
pub record Passed {X S : Type 0} (R : X → X → S → S → Type 0) (xs ys : List X) (i : ℕ) (old new : S) : Type 0 where
  pub done : Threads R (take i xs) (take i ys) old new
  pub rest : drop i ys ≡ drop i xs

pub none_passed : {X S : Type 0} (R : X → X → S → S → Type 0) (xs : List X) (old : S) → Passed R xs xs 0 old old
none_passed R xs old = record { done = refl; rest = refl }

threads_push : {X S : Type 0} (R : X → X → S → S → Type 0) (xs ys : List X) (x y : X) (old mid new : S)
    → Threads R xs ys old mid → R x y mid new → Threads R (xs ++ x ∷ []) (ys ++ y ∷ []) old new
threads_push R [] [] x y old mid new so_far here = (new, subst (λ s. R x y s new) so_far here, refl)
threads_push R (a ∷ xs) (b ∷ ys) x y old mid new so_far here =
    (so_far.0, so_far.1, threads_push R xs ys x y so_far.0 mid new so_far.2 here)
threads_push R [] (b ∷ ys) x y old mid new so_far here = absurd so_far
threads_push R (a ∷ xs) [] x y old mid new so_far here = absurd so_far

module _ {X S : Type 0} {R : X → X → S → S → Type 0} {xs ys : List X} {i : ℕ} {old new : S}
    (so_far : Passed R xs ys i old new) where
  -- an element that wasn't passed is as it was
  pub unpassed : (d : X) → get_or ys i d ≡ get_or xs i d
  unpassed d =
      let none : i ≡ i + 0 = omega arith in
      ap (λ n. get_or ys n d) none ∙ sym (get_or-drop i ys 0 d) ∙ ap (λ zs. get_or zs 0 d) so_far.rest
      ∙ get_or-drop i xs 0 d ∙ ap (λ n. get_or xs n d) (sym none)

  -- what held of each element holds of the next one
  pub next_has : (P : X → Type 0) (d : X) → i < length xs → All P xs → P (get_or ys i d)
  next_has P d lt all = subst P (sym (unpassed d)) (all i d lt)

  -- one element more
  pub one_passed : (d y : X) (next : S) → i < length xs → length ys ≡ length xs → R (get_or ys i d) y new next
      → Passed R xs (set ys i y) (i + 1) old next
  one_passed d y next lt same here =
      let there : i < length ys = omega (arith, same) in
      let at_first : R (get_or xs i d) y new next = subst (λ e. R e y new next) (unpassed d) here in
      record {
        done = rw (take_more xs i d lt, take_more_set ys i y there)
            (threads_push R (take i xs) (take i ys) (get_or xs i d) y old new next so_far.done at_first);
        rest = drop-set-lt (i + 1) ys i y (omega arith) ∙ sym (drop-drop 1 i ys) ∙ ap (drop 1) so_far.rest
            ∙ drop-drop 1 i xs;
      }

  -- at the end
  pub all_passed : length xs ≤ i → length ys ≡ length xs → Threads R xs ys old new
  all_passed ends same =
      let ends' : length ys ≤ i = omega (arith, same) in
      subst (λ zs. Threads R zs ys old new) (take_all i xs ends)
      (subst (λ zs. Threads R (take i xs) zs old new) (take_all i ys ends') so_far.done)

-- what holds of each element after R holds of all
pub all_after : {X S : Type 0} (R : X → X → S → S → Type 0) (P : X → Type 0)
    → ((x y : X) (old new : S) → R x y old new → P y) → (xs ys : List X) (old new : S) → Threads R xs ys old new
    → All P ys
all_after R P each [] [] old new h = All-nil P
all_after R P each (x ∷ xs) (y ∷ ys) old new h =
    All-cons P y ys (each x y old h.0 h.1) (all_after R P each xs ys h.0 new h.2)
all_after R P each [] (y ∷ ys) old new h = absurd h
all_after R P each (x ∷ xs) [] old new h = absurd h

-- and if nothing goes along
abbrev pub Alone : {X : Type 0} → (X → X → Type 0) → X → X → ℕ → ℕ → Type 0
Alone R x y old new = R x y

pub all_zip : {X : Type 0} (R Q : X → X → Type 0) → ((x y : X) → R x y → Q x y) → (xs ys : List X) (old new : ℕ)
    → Threads (Alone R) xs ys old new → AllZip Q xs ys
all_zip R Q each [] [] old new h = tt
all_zip R Q each (x ∷ xs) (y ∷ ys) old new h = (each x y h.1, all_zip R Q each xs ys h.0 new h.2)
all_zip R Q each [] (y ∷ ys) old new h = absurd h
all_zip R Q each (x ∷ xs) [] old new h = absurd h
