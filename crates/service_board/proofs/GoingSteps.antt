-- The steps of the stores that go, by client.
use Rattle.std.proofs.Common.{◌≡◌, ℕ, ◌==◌, List, [], ◌∷◌, filter, Bool, true, false, cond, Option, Some, None, refl}
use Rattle.std.proofs.Common.{sym, ap, ◌∙◌, subst, eqb-true, if◌then◌else◌}
use Rattle.std.proofs.lemmas.Bool.{false≢true}
use Rattle.std.specs.List.{AllByRecursion}
use Rattle.ca_base.specs.declared.ids.Gate.{Gate}
use Rattle.ca_base.specs.declared.ids.Gate.TheVariants as gate
use Rattle.buffer_ring.specs.declared.step.StoreStep.{StoreStep}
use Rattle.ca_machine.specs.declared.state.Client.{Client}
use Rattle.period_engine.specs.declared.entry.StreamEntry.{StreamEntry}
use Rattle.period_engine.specs.Agreement.{ArePacked, Layout, layout_of}
use Rattle.service_book.specs.Leaving.{is_live}
use Rattle.service_board.specs.Does.{Made, layout_at, store_at}
use Rattle.stream_entries.specs.Leaving.{ClosesOnce, Goes, is_of_live}

module _ {E : Type 0} (moves : E → List StoreStep → E → Type 0) (clients : List Client) where
  -- an entry's store goes if no live client has it
  abbrev pub GoesUnlessLive : StreamEntry E → Type 0
  GoesUnlessLive e = is_of_live clients e ≡ false → Goes moves e

  -- that of an open gate takes the step that closes it, and no other takes any
  abbrev closing_steps : Gate → List StoreStep → List StoreStep
  closing_steps gate.Open ss = ss
  closing_steps _ ss = []

  abbrev own_steps : (e : StreamEntry E) (live : Bool) → (live ≡ false → Goes moves e) → List StoreStep
  own_steps e true h = []
  own_steps e false h = closing_steps e.gate (h refl).steps

  abbrev pub steps_of : (entries : List (StreamEntry E)) → AllByRecursion GoesUnlessLive entries → ℕ → List StoreStep
  steps_of [] h client = []
  steps_of (e ∷ entries) h client =
      if e.client.0 == client then own_steps e (is_of_live clients e) h.0 else steps_of entries h.1 client

  -- the store of a live client takes none
  none_own : (e : StreamEntry E) (live : Bool) (h : live ≡ false → Goes moves e) → live ≡ true →
      own_steps e live h ≡ []
  none_own e true h l = refl
  none_own e false h l = absurd (false≢true l)

  pub none_of_live : (entries : List (StreamEntry E)) (h : AllByRecursion GoesUnlessLive entries) (client : ℕ) →
      is_live clients client ≡ true → steps_of entries h client ≡ []
  none_of_live [] h client l = refl
  none_of_live (e ∷ entries) h client l = by (e.client.0 == client) refl (none_of_live entries h.1 client l)
    where
      by : (own : Bool) → (e.client.0 == client) ≡ own → steps_of entries h.1 client ≡ [] →
          (if own then own_steps e (is_of_live clients e) h.0 else steps_of entries h.1 client) ≡ []
      by true same rest =
          none_own e (is_of_live clients e) h.0 (ap (is_live clients) (eqb-true e.client.0 client same) ∙ l)
      by false other rest = rest

  -- no step takes frames
  closing_packed : (l : Layout) (g : Gate) (ss : List StoreStep) → (g ≡ gate.Open → ClosesOnce ss) →
      ArePacked l (closing_steps g ss)
  closing_packed l gate.Open ss h = subst (ArePacked l) (sym (h refl).1) (tt, tt)
  closing_packed l (gate.Closed reason) ss h = tt

  own_packed : (e : StreamEntry E) (live : Bool) (h : live ≡ false → Goes moves e) →
      ArePacked (layout_of e) (own_steps e live h)
  own_packed e true h = tt
  own_packed e false h = closing_packed (layout_of e) e.gate (h refl).steps (h refl).closes

  pub packed_of : (entries : List (StreamEntry E)) (h : AllByRecursion GoesUnlessLive entries) (client : ℕ) →
      ArePacked (layout_at client entries) (steps_of entries h client)
  packed_of [] h client = tt
  packed_of (e ∷ entries) h client =
      by (e.client.0 == client) (own_packed e (is_of_live clients e) h.0) (packed_of entries h.1 client)
    where
      by : (own : Bool) → ArePacked (layout_of e) (own_steps e (is_of_live clients e) h.0) →
          ArePacked (layout_at client entries) (steps_of entries h.1 client) →
          ArePacked (if own then layout_of e else layout_at client entries)
          (if own then own_steps e (is_of_live clients e) h.0 else steps_of entries h.1 client)
      by true here rest = here
      by false here rest = rest

  -- the store of another one isn't there any more
  pub store_gone : (entries : List (StreamEntry E)) (client : ℕ) → is_live clients client ≡ false →
      store_at client (filter (is_of_live clients) entries) ≡ None
  store_gone [] client l = refl
  store_gone (e ∷ entries) client l =
      by (is_of_live clients e) refl (e.client.0 == client) refl (store_gone entries client l)
    where
      by : (live : Bool) → is_of_live clients e ≡ live → (own : Bool) → (e.client.0 == client) ≡ own →
          store_at client (filter (is_of_live clients) entries) ≡ None →
          store_at client
          (cond live (e ∷ filter (is_of_live clients) entries) (filter (is_of_live clients) entries)) ≡ None
      by true here true same rest =
          absurd (false≢true (sym l ∙ sym (ap (is_live clients) (eqb-true e.client.0 client same)) ∙ here))
      by true here false other rest =
          ap (λ v. if v then Some e.store else store_at client (filter (is_of_live clients) entries)) other
          ∙ rest
      by false gone own e' rest = rest

  module _ (given : Option E) (stays : (a : E) → moves a [] a) where
    closing_made : (a : E) (g : Gate) (ss : List StoreStep) (last : E) → moves a ss last →
        (b : E) × moves a (closing_steps g ss) b
    closing_made a gate.Open ss last made = (last, made)
    closing_made a (gate.Closed reason) ss last made = (a, stays a)

    made_one : (e : StreamEntry E) (old kept : List (StreamEntry E)) (client : ℕ) (steps : List StoreStep)
        (own : Bool) → (e.client.0 == client) ≡ own → (live : Bool) (h : live ≡ false → Goes moves e) →
        (own ≡ true → live ≡ false → store_at client kept ≡ None) →
        Made moves given steps (store_at client old) (store_at client kept) →
        Made moves given (if own then own_steps e live h else steps)
        (if own then Some e.store else store_at client old) (store_at client (cond live (e ∷ kept) kept))
    made_one e old kept client steps true same true h gone rest =
        subst (Made moves given [] (Some e.store))
        (sym (ap (λ v. if v then Some e.store else store_at client kept) same)) (stays e.store)
    made_one e old kept client steps true same false h gone rest =
        subst (Made moves given (closing_steps e.gate (h refl).steps) (Some e.store)) (sym (gone refl refl))
        (closing_made e.store e.gate (h refl).steps (h refl).last (h refl).made)
    made_one e old kept client steps false other true h gone rest =
        subst (Made moves given steps (store_at client old))
        (sym (ap (λ v. if v then Some e.store else store_at client kept) other)) rest
    made_one e old kept client steps false other false h gone rest = rest

    pub made_of : (entries : List (StreamEntry E)) (h : AllByRecursion GoesUnlessLive entries) (client : ℕ) →
        Made moves given (steps_of entries h client) (store_at client entries)
        (store_at client (filter (is_of_live clients) entries))
    made_of [] h client = refl
    made_of (e ∷ entries) h client =
        made_one e entries (filter (is_of_live clients) entries) client (steps_of entries h.1 client)
        (e.client.0 == client) refl (is_of_live clients e) h.0
        (λ same gone. store_gone entries client
        (sym (ap (is_live clients) (eqb-true e.client.0 client same)) ∙ gone))
        (made_of entries h.1 client)
