-- One entry of a rising list is changed: by client, what became of its store, and of the streams of all entries.
use Rattle.std.proofs.Common.{◌≡◌, ℕ, zero, suc, ◌<◌, ◌≤◌, ◌==◌, List, [], ◌∷◌, map, set, Bool, true, false}
use Rattle.std.proofs.Common.{Option, Some, refl, sym, ap, ap₂, subst, ◌∙◌, if◌then◌else◌, arith, eq-eqb, eqb-true}
use Rattle.std.specs.List.{AllByRecursion, slice_get}
use Rattle.std.proofs.lemmas.Bool.{eqb-false, ne_eqb}
use Rattle.std.proofs.lemmas.Option.{none-some, same_Some}
use Rattle.buffer_ring.specs.declared.step.StoreStep.{StoreStep}
use Rattle.ca_stage.specs.Stage.{BufferData, Stream}
use Rattle.ca_stage.specs.Order.{RisesFrom}
use Rattle.period_engine.specs.declared.entry.StreamEntry.{StreamEntry}
use Rattle.period_engine.specs.Agreement.{Agrees, AllAgree, ArePacked, layout_of}
use Rattle.period_engine.specs.Entries.{stream_of, stream_with, streams_of}
use Rattle.service_board.specs.Does.{Made, layout_at, store_at}
use Rattle.service_board.proofs.PlainEvents.{made_still}

-- an entry of another client
abbrev pub IsOther : {E : Type 0} → ℕ → StreamEntry E → Type 0
IsOther number x = x.client.0 ≡ number → ⊥

-- an entry stands at this place, and all others are of other clients
pub data IsSole {E : Type 0} (e : StreamEntry E) : List (StreamEntry E) → ℕ → Type 0 where
  here : (xs : List (StreamEntry E)) → AllByRecursion (IsOther e.client.0) xs → IsSole e (e ∷ xs) 0
  later : (x : StreamEntry E) (xs : List (StreamEntry E)) (at : ℕ) → IsOther e.client.0 x → IsSole e xs at →
      IsSole e (x ∷ xs) (suc at)

-- numbers of a rising list are not below its lowest
above : {E : Type 0} (low : ℕ) (xs : List (StreamEntry E)) → RisesFrom low (map (λ x. x.client.0) xs) → (at : ℕ) →
    (e : StreamEntry E) → slice_get xs at ≡ Some e → low ≤ e.client.0
above low [] r at e h = absurd (none-some e h)
above low (x ∷ xs) r zero e h = subst (λ y. low ≤ y.client.0) (same_Some x e h) r.0
above low (x ∷ xs) r (suc at) e h =
    let more : suc x.client.0 ≤ e.client.0 = above (suc x.client.0) xs r.1 at e h in
    let less : low ≤ x.client.0 = r.0 in
    omega arith

others_above : {E : Type 0} (number low : ℕ) (xs : List (StreamEntry E)) → number < low →
    RisesFrom low (map (λ x. x.client.0) xs) → AllByRecursion (IsOther number) xs
others_above number low [] lt r = tt
others_above number low (x ∷ xs) lt r =
    let least : low ≤ x.client.0 = r.0 in
    (λ same. absurd (omega arith), others_above number (suc x.client.0) xs (omega arith) r.1)

pub sole_there : {E : Type 0} (low : ℕ) (xs : List (StreamEntry E)) → RisesFrom low (map (λ x. x.client.0) xs) →
    (at : ℕ) (e : StreamEntry E) → slice_get xs at ≡ Some e → IsSole e xs at
sole_there low [] r at e h = absurd (none-some e h)
sole_there low (x ∷ xs) r zero e h =
    subst (λ y. IsSole y (x ∷ xs) 0) (same_Some x e h)
    (here xs (others_above x.client.0 (suc x.client.0) xs (omega arith) r.1))
sole_there low (x ∷ xs) r (suc at) e h =
    let more : suc x.client.0 ≤ e.client.0 = above (suc x.client.0) xs r.1 at e h in
    later x xs at (λ same. absurd (omega (arith, same))) (sole_there (suc x.client.0) xs r.1 at e h)

-- the steps of one client
abbrev pub only : ℕ → List StoreStep → ℕ → List StoreStep
only number steps client = if number == client then steps else []

-- what holds of a client that is this one or another
by_client : (number client : ℕ) (P : Bool → Type 0) → (number ≡ client → P true) → ((number ≡ client → ⊥) → P false) →
    P (number == client)
by_client number client P here_too elsewhere = go (number == client) refl
  where
    go : (b : Bool) → (number == client) ≡ b → P b
    go true t = here_too (eqb-true number client t)
    go false t = elsewhere (eqb-false number client t)

is_itself : (n : ℕ) → (n == n) ≡ true
is_itself n = eq-eqb n n refl

pub only_here : (n : ℕ) (ss : List StoreStep) → only n ss n ≡ ss
only_here n ss = ap (λ b. if b then ss else []) (is_itself n)

module _ {E : Type 0} (e : StreamEntry E) where
  -- what is found of its client
  pub store_found : (xs : List (StreamEntry E)) (at : ℕ) → IsSole e xs at → store_at e.client.0 xs ≡ Some e.store
  store_found _ _ (here xs others) =
      ap (λ b. if b then Some e.store else store_at e.client.0 xs) (is_itself e.client.0)
  store_found _ _ (later x xs at other sole) =
      ap (λ b. if b then Some x.store else store_at e.client.0 xs) (ne_eqb x.client.0 e.client.0 other)
      ∙ store_found xs at sole

  pub layout_found : (xs : List (StreamEntry E)) (at : ℕ) → IsSole e xs at → layout_at e.client.0 xs ≡ layout_of e
  layout_found _ _ (here xs others) =
      ap (λ b. if b then layout_of e else layout_at e.client.0 xs) (is_itself e.client.0)
  layout_found _ _ (later x xs at other sole) =
      ap (λ b. if b then layout_of x else layout_at e.client.0 xs) (ne_eqb x.client.0 e.client.0 other)
      ∙ layout_found xs at sole

  pub agrees_found : (steps : ℕ → List StoreStep) (datas : ℕ → BufferData) (xs : List (StreamEntry E)) (at : ℕ) →
      IsSole e xs at → AllAgree steps datas xs → Agrees (layout_of e) (steps e.client.0) (datas e.client.0)
  agrees_found steps datas _ _ (here xs others) agrees = agrees.0
  agrees_found steps datas _ _ (later x xs at other sole) agrees = agrees_found steps datas xs at sole agrees.1

  -- of its steps alone, which take whole packets
  pub packs_only : (ss : List StoreStep) → ArePacked (layout_of e) ss → (xs : List (StreamEntry E)) (at : ℕ) →
      IsSole e xs at → (client : ℕ) → ArePacked (layout_at client xs) (only e.client.0 ss client)
  packs_only ss packs xs at sole client =
      by_client e.client.0 client (λ b. ArePacked (layout_at client xs) (if b then ss else []))
      (λ p. subst (λ n. ArePacked (layout_at n xs) ss) p
      (subst (λ l. ArePacked l ss) (sym (layout_found xs at sole)) packs))
      (λ other. tt)

-- the entry is changed into one of the same client
module _ {E : Type 0} (e new : StreamEntry E) (same : new.client.0 ≡ e.client.0) where
  -- the changed entry stands alone too
  pub sole_set : (xs : List (StreamEntry E)) (at : ℕ) → IsSole e xs at → IsSole new (set xs at new) at
  sole_set _ _ (here xs others) = here xs (subst (λ n. AllByRecursion (IsOther n) xs) (sym same) others)
  sole_set _ _ (later x xs at other sole) =
      later x (set xs at new) at (λ p. other (p ∙ same)) (sole_set xs at sole)

  store_others : (client : ℕ) → (e.client.0 ≡ client → ⊥) → (xs : List (StreamEntry E)) (at : ℕ) → IsSole e xs at →
      store_at client (set xs at new) ≡ store_at client xs
  store_others client other _ _ (here xs others) =
      ap (λ b. if b then Some new.store else store_at client xs)
      (ne_eqb new.client.0 client (λ p. other (sym same ∙ p)))
      ∙ sym (ap (λ b. if b then Some e.store else store_at client xs) (ne_eqb e.client.0 client other))
  store_others client other _ _ (later x xs at differs sole) =
      ap (λ o. if x.client.0 == client then Some x.store else o) (store_others client other xs at sole)

  -- its store was moved, and no other
  pub made_only : (moves : E → List StoreStep → E → Type 0) (given : Option E) → ((a : E) → moves a [] a) →
      (ss : List StoreStep) → moves e.store ss new.store → (xs : List (StreamEntry E)) (at : ℕ) → IsSole e xs at →
      (client : ℕ) →
      Made moves given (only e.client.0 ss client) (store_at client xs) (store_at client (set xs at new))
  made_only moves given stays ss made xs at sole client =
      by_client e.client.0 client
      (λ b. Made moves given (if b then ss else []) (store_at client xs) (store_at client (set xs at new)))
      (λ p. subst (λ n. Made moves given ss (store_at n xs) (store_at n (set xs at new))) p
      (subst (λ o. Made moves given ss o (store_at e.client.0 (set xs at new))) (sym (store_found e xs at sole))
      (subst (λ o. Made moves given ss (Some e.store) o)
      (sym (ap (λ n. store_at n (set xs at new)) (sym same) ∙ store_found new (set xs at new) at (sole_set xs at sole)))
      made)))
      (λ other. subst (λ o. Made moves given [] (store_at client xs) o) (sym (store_others client other xs at sole))
      (made_still moves given stays (store_at client xs)))

-- the streams of the others are as they were, and this one is as f moves it
module _ {E : Type 0} (e : StreamEntry E) (datas datas' : ℕ → BufferData) (f : Stream → Stream)
    (others_stay : (n : ℕ) → (e.client.0 ≡ n → ⊥) → datas' n ≡ datas n)
    (leaves : (s : Stream) → (s.client ≡ e.client.0 → ⊥) → f s ≡ s) where
  others_same : (xs : List (StreamEntry E)) → AllByRecursion (IsOther e.client.0) xs →
      streams_of datas' xs ≡ map f (streams_of datas xs)
  others_same [] h = refl
  others_same (x ∷ xs) h =
      ap₂ (λ s ss. s ∷ ss)
      (ap (λ d. stream_with d x) (others_stay x.client.0 (λ p. h.0 (sym p)))
      ∙ sym (leaves (stream_of datas x) h.0))
      (others_same xs h.1)

  pub streams_set : (new : StreamEntry E) →
      stream_with (datas' new.client.0) new ≡ f (stream_with (datas e.client.0) e) →
      (xs : List (StreamEntry E)) (at : ℕ) → IsSole e xs at →
      streams_of datas' (set xs at new) ≡ map f (streams_of datas xs)
  streams_set new turned _ _ (here xs others) = ap₂ (λ s ss. s ∷ ss) turned (others_same xs others)
  streams_set new turned _ _ (later x xs at other sole) =
      ap₂ (λ s ss. s ∷ ss)
      (ap (λ d. stream_with d x) (others_stay x.client.0 (λ p. other (sym p)))
      ∙ sym (leaves (stream_of datas x) other))
      (streams_set new turned xs at sole)
