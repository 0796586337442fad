-- Lists, tests and choices.
use Rattle.std.proofs.Common.{◌≡◌, ◌||◌, List, [], ◌∷◌, ◌++◌, map, filter, flat_map, Bool, true, false, cond, Option}
use Rattle.std.proofs.Common.{Some, None, refl, sym, ap, ap₂, ◌∙◌, subst, find, option_map, if◌then◌else◌}
use Rattle.std.proofs.lemmas.Bool.{or_parts, or_right}
use Rattle.std.proofs.lemmas.Option.{same_Some, none-some}
use Rattle.std.specs.List.{AllByRecursion, list_any}
pub use Rattle.ca_base.proofs.FoundPlaces.{found_passes}

-- what both sides of a choice have, the choice has
pub chosen : {A : Type 0} (P : A → Type 0) (b : Bool) (x y : A) → P x → P y → P (if b then x else y)
chosen P true x y p q = p
chosen P false x y p q = q

-- and if the test is known to hold for the first side
pub chosen_by : {A : Type 0} (P : A → Type 0) (b : Bool) (x y : A) → (b ≡ true → P x) → (b ≡ false → P y) →
    P (if b then x else y)
chosen_by P true x y p q = p refl
chosen_by P false x y p q = q refl

-- what holds of each member
pub all-append : {A : Type 0} (P : A → Type 0) (xs ys : List A) →
    AllByRecursion P xs → AllByRecursion P ys → AllByRecursion P (xs ++ ys)
all-append P [] ys h k = k
all-append P (x ∷ xs) ys h k = (h.0, all-append P xs ys h.1 k)

pub all-map : {A B : Type 0} (P : A → Type 0) (Q : B → Type 0) (f : A → B) → ((a : A) → P a → Q (f a)) →
    (xs : List A) → AllByRecursion P xs → AllByRecursion Q (map f xs)
all-map P Q f g [] h = tt
all-map P Q f g (x ∷ xs) h = (g x h.0, all-map P Q f g xs h.1)

pub all_weaker : {A : Type 0} (P Q : A → Type 0) → ((a : A) → P a → Q a) →
    (xs : List A) → AllByRecursion P xs → AllByRecursion Q xs
all_weaker P Q g [] h = tt
all_weaker P Q g (x ∷ xs) h = (g x h.0, all_weaker P Q g xs h.1)

pub all_both : {A : Type 0} (P Q R : A → Type 0) → ((a : A) → P a → Q a → R a) →
    (xs : List A) → AllByRecursion P xs → AllByRecursion Q xs → AllByRecursion R xs
all_both P Q R f [] h k = tt
all_both P Q R f (x ∷ xs) h k = (f x h.0 k.0, all_both P Q R f xs h.1 k.1)

pub all_of : {A : Type 0} (P : A → Type 0) → ((a : A) → P a) → (xs : List A) → AllByRecursion P xs
all_of P f [] = tt
all_of P f (x ∷ xs) = (f x, all_of P f xs)

pub all-filter : {A : Type 0} (P : A → Type 0) (test : A → Bool) (xs : List A) →
    AllByRecursion P xs → AllByRecursion P (filter test xs)
all-filter P test [] h = tt
all-filter P test (x ∷ xs) h =
    chosen (AllByRecursion P) (test x) (x ∷ filter test xs) (filter test xs)
    (h.0, all-filter P test xs h.1) (all-filter P test xs h.1)

-- the first that passes a test
some_head : {A : Type 0} (P : A → Type 0) (b : Bool) (x s : A) (o : Option A) →
    P x → (o ≡ Some s → P s) → cond b (Some x) o ≡ Some s → P s
some_head P true x s o p h e = subst P (same_Some x s e) p
some_head P false x s o p h e = h e

-- what holds of each holds of the one that is found
pub all_found : {A : Type 0} (P : A → Type 0) (test : A → Bool) (xs : List A) (s : A) →
    AllByRecursion P xs → find test xs ≡ Some s → P s
all_found P test [] s h e = absurd (none-some s e)
all_found P test (x ∷ xs) s h e =
    some_head P (test x) x s (find test xs) h.0 (λ k. all_found P test xs s h.1 k) e

-- none is found if none passes
pub finds_none : {A : Type 0} (test : A → Bool) (xs : List A) → list_any test xs ≡ false → find test xs ≡ None
finds_none test [] h = refl
finds_none test (x ∷ xs) h =
    let p = or_parts (test x) (list_any test xs) h in
    ap (λ b. cond b (Some x) (find test xs)) p.0 ∙ finds_none test xs p.1

-- of members that were changed without a change to the test
pub find_map : {A : Type 0} (test : A → Bool) (f : A → A) → ((a : A) → test (f a) ≡ test a) →
    (xs : List A) → find test (map f xs) ≡ option_map f (find test xs)
find_map test f h [] = refl
find_map test f h (x ∷ xs) =
    ap (λ b. cond b (Some (f x)) (find test (map f xs))) (h x)
    ∙ ap (cond (test x) (Some (f x))) (find_map test f h xs)
    ∙ pick (test x) x (find test xs)
  where
    pick : (b : Bool) (a : _) (o : Option _) → cond b (Some (f a)) (option_map f o) ≡ option_map f (cond b (Some a) o)
    pick true a o = refl
    pick false a o = refl

-- the first of two, and of two lists
abbrev pub first_of_two : {A : Type 0} → Option A → Option A → Option A
first_of_two None o = o
first_of_two (Some a) o = Some a

pick_first : {A : Type 0} (b : Bool) (x : A) (both left right : Option A) →
    both ≡ first_of_two left right → cond b (Some x) both ≡ first_of_two (cond b (Some x) left) right
pick_first true x both left right e = refl
pick_first false x both left right e = e

pub find-append : {A : Type 0} (test : A → Bool) (xs ys : List A) →
    find test (xs ++ ys) ≡ first_of_two (find test xs) (find test ys)
find-append test [] ys = refl
find-append test (x ∷ xs) ys = pick_first (test x) x _ _ _ (find-append test xs ys)

-- a map that changes nothing
pub map_same : {A : Type 0} (f : A → A) → ((a : A) → f a ≡ a) → (xs : List A) → map f xs ≡ xs
map_same f h [] = refl
map_same f h (x ∷ xs) = ap₂ (λ y ys. y ∷ ys) (h x) (map_same f h xs)

pub map_map : {A B C : Type 0} (g : B → C) (f : A → B) (xs : List A) → map g (map f xs) ≡ map (λ a. g (f a)) xs
map_map g f [] = refl
map_map g f (x ∷ xs) = ap (λ ys. g (f x) ∷ ys) (map_map g f xs)

-- what is told of each member in the same way
pub map_alike : {A B : Type 0} (f g : A → B) (xs : List A) → AllByRecursion (λ a. f a ≡ g a) xs → map f xs ≡ map g xs
map_alike f g [] h = refl
map_alike f g (x ∷ xs) h = ap₂ (λ y ys. y ∷ ys) h.0 (map_alike f g xs h.1)

pub flat_same : {A B : Type 0} (f g : A → List B) (xs : List A) →
    AllByRecursion (λ a. f a ≡ g a) xs → flat_map f xs ≡ flat_map g xs
flat_same f g [] h = refl
flat_same f g (x ∷ xs) h = ap₂ (λ a b. a ++ b) h.0 (flat_same f g xs h.1)

pub flat_map-map : {A B C : Type 0} (g : A → B) (f : B → List C) (xs : List A) →
    flat_map f (map g xs) ≡ flat_map (λ a. f (g a)) xs
flat_map-map g f [] = refl
flat_map-map g f (x ∷ xs) = ap (λ z. f (g x) ++ z) (flat_map-map g f xs)

-- some member of those that were kept passes only if some member does
any_kept : {A : Type 0} (p : A → Bool) (x : A) (xs ys : List A) (b : Bool) →
    (list_any p xs ≡ true → list_any p ys ≡ true) →
    list_any p (cond b (x ∷ xs) xs) ≡ true → (p x || list_any p ys) ≡ true
any_kept p x xs ys true f h = or_both (p x) (list_any p xs) (list_any p ys) f h
  where
    or_both : (a b c : Bool) → (b ≡ true → c ≡ true) → (a || b) ≡ true → (a || c) ≡ true
    or_both true b c f h = refl
    or_both false b c f h = f h
any_kept p x xs ys false f h = or_right (p x) (list_any p ys) (f h)

pub any-filter : {A : Type 0} (p test : A → Bool) (xs : List A) →
    list_any p (filter test xs) ≡ true → list_any p xs ≡ true
any-filter p test [] h = h
any-filter p test (x ∷ xs) h = any_kept p x (filter test xs) xs (test x) (any-filter p test xs) h

-- the parts of a list that isn't empty
pub cons_parts : {A : Type 0} (x y : A) (xs ys : List A) → x ∷ xs ≡ y ∷ ys → (x ≡ y) × (xs ≡ ys)
cons_parts x y xs ys e = (cc, cc)
