-- Entries that were parted: those of live clients are left as they were, and the stores of the others go.
use Rattle.std.proofs.Common.{◌≡◌, List, [], ◌∷◌, filter, Bool, true, false, cond, refl, ap, ap₂, ◌∙◌}
use Rattle.std.proofs.Common.{ℕ, ◌++◌, length, take, drop, arith}
use Rattle.std.proofs.lemmas.List.{take-append-le, take_all}
use Rattle.std.proofs.lemmas.List.Elements.{All-cons, All-nil}
use Rattle.std.specs.List.{All, AllZip}
use Rattle.buffer_ring.specs.declared.step.StoreStep.{StoreStep}
use Rattle.ca_machine.specs.declared.state.Client.{Client}
use Rattle.period_engine.specs.declared.entry.StreamEntry.{StreamEntry}
use Rattle.service_book.specs.Leaving.{is_live}
use Rattle.stream_entries.specs.Leaving.{Goes, Parts, is_of_live}

module _ {E : Type 0} (moves : E → List StoreStep → E → Type 0) (clients : List Client) where
  -- the entries that are left
  left_same : (a b : StreamEntry E) (xs ys : List (StreamEntry E)) → Parts moves clients a b →
      filter (is_of_live clients) ys ≡ filter (is_of_live clients) xs →
      filter (is_of_live clients) (b ∷ ys) ≡ filter (is_of_live clients) (a ∷ xs)
  left_same a b xs ys h e =
      ap (λ v. cond v (b ∷ filter (is_of_live clients) ys) (filter (is_of_live clients) ys))
      (ap (λ n. is_live clients n.0) h.client)
      ∙ by (is_of_live clients a) h.stays
    where
      by : (v : Bool) → (v ≡ true → b ≡ a) →
          cond v (b ∷ filter (is_of_live clients) ys) (filter (is_of_live clients) ys)
          ≡ cond v (a ∷ filter (is_of_live clients) xs) (filter (is_of_live clients) xs)
      by true stays = ap₂ (λ x zs. x ∷ zs) (stays refl) e
      by false stays = e

  pub all_left : (xs ys : List (StreamEntry E)) → AllZip (Parts moves clients) xs ys →
      filter (is_of_live clients) ys ≡ filter (is_of_live clients) xs
  all_left [] [] h = refl
  all_left (a ∷ xs) (b ∷ ys) h = left_same a b xs ys h.0 (all_left xs ys h.1)
  all_left [] (b ∷ ys) h = absurd h
  all_left (a ∷ xs) [] h = absurd h

  -- and the others
  pub others_go : (xs ys : List (StreamEntry E)) → AllZip (Parts moves clients) xs ys →
      All (λ e. is_of_live clients e ≡ false → Goes moves e) xs
  others_go [] [] h = All-nil _
  others_go (a ∷ xs) (b ∷ ys) h =
      All-cons (λ e. is_of_live clients e ≡ false → Goes moves e) a xs h.0.goes (others_go xs ys h.1)
  others_go [] (b ∷ ys) h = absurd h
  others_go (a ∷ xs) [] h = absurd h

-- a list that was written back whole
pub written_back : {A : Type 0} (n : ℕ) (new old : List A) → length new ≡ length old → n ≡ length old →
    take n (new ++ drop (length new) old) ≡ new
written_back n new old same whole =
    take-append-le n new (drop (length new) old) (omega (arith, same, whole))
    ∙ take_all n new (omega (arith, same, whole))
