-- What a sub-step leaves of entries as it was.
use Rattle.std.proofs.Common.{◌≡◌, ℕ, suc, ◌≤◌, Bool, true, false, List, [], ◌∷◌, length, map, refl, sym, ap}
use Rattle.std.proofs.Common.{subst, ◌∙◌, arith}
use Rattle.std.specs.Prelude.{if◌then◌else◌}
use Rattle.std.specs.List.{All, AllZip}
use Rattle.std.proofs.lemmas.List.Elements.{All-nil, All-cons, All-head, All-tail}
use Rattle.volume_stack.specs.Scaling.{unit_gain}
use Rattle.ca_stage.specs.Stage.{Stream, no_data}
use Rattle.ca_stage.specs.Moves.{StreamMove, moved, picked, retired}
use Rattle.ca_stage.specs.Periods.{is_playing}
use Rattle.buffer_ring.specs.declared.step.StoreStep.{StoreStep}
use Rattle.period_engine.specs.declared.entry.StreamEntry.{StreamEntry}
use Rattle.ca_stage.specs.Order.{RisesFrom}
use Rattle.period_engine.specs.Entries.{AreEntries, IsFeedable, is_heard, stream_with}
use Rattle.period_engine.specs.Sounds.{AllTakeSteps, IsMixable, TakesSteps}
use Rattle.period_engine.specs.SubSteps.{Turned, if_playing, picks_on, retires_on}

module _ {E : Type 0} (moves : E → List StoreStep → E → Type 0) (f : Stream → Stream) where
  same_clients : (xs ys : List (StreamEntry E)) → AllZip (Turned moves f) xs ys
      → map (λ e. e.client.0) ys ≡ map (λ e. e.client.0) xs
  same_clients [] [] h = refl
  same_clients (x ∷ xs) (y ∷ ys) h =
      ap (λ c. c.0 ∷ map (λ e. e.client.0) ys) h.0.same.client
      ∙ ap (λ cs. x.client.0 ∷ cs) (same_clients xs ys h.1)
  same_clients [] (y ∷ ys) h = absurd h
  same_clients (x ∷ xs) [] h = absurd h

  same_count : (xs ys : List (StreamEntry E)) → AllZip (Turned moves f) xs ys → length ys ≡ length xs
  same_count [] [] h = refl
  same_count (x ∷ xs) (y ∷ ys) h = ap (λ n. suc n) (same_count xs ys h.1)
  same_count [] (y ∷ ys) h = absurd h
  same_count (x ∷ xs) [] h = absurd h

  -- the entries are still in order, and as many
  pub still_entries : (xs ys : List (StreamEntry E)) → AllZip (Turned moves f) xs ys → AreEntries xs → AreEntries ys
  still_entries xs ys h entries = record {
    order = subst (λ cs. RisesFrom 0 cs) (sym (same_clients xs ys h)) entries.order;
    count = omega (arith, same_count xs ys h, entries.count);
  }

  -- and may be mixed
  pub still_mixable : (channels : ℕ) (xs ys : List (StreamEntry E)) → AllZip (Turned moves f) xs ys
      → All (λ e. e.channels ≡ channels) xs → All (λ e. All (λ gain. gain ≤ unit_gain) e.gains) xs
      → All (IsMixable channels) ys
  still_mixable channels [] [] h same gains = All-nil (IsMixable channels)
  still_mixable channels (x ∷ xs) (y ∷ ys) h same gains =
      let Same : StreamEntry E → Type 0 = λ e. e.channels ≡ channels in
      let InRange : List ℕ → Type 0 = λ gs. All (λ gain. gain ≤ unit_gain) gs in
      let Gains : StreamEntry E → Type 0 = λ e. InRange e.gains in
      All-cons (IsMixable channels) y ys
      (record {
        fits = λ some. h.0.same.channels ∙ All-head Same x xs same;
        gains = subst InRange (sym h.0.same.gains) (All-head Gains x xs gains);
      })
      (still_mixable channels xs ys h.1 (All-tail Same x xs same) (All-tail Gains x xs gains))
  still_mixable channels [] (y ∷ ys) h same gains = absurd h
  still_mixable channels (x ∷ xs) [] h same gains = absurd h

-- ---- what may be fed

-- a move that keeps what an entry that is heard is fed by
pub record KeepsFeeds (f : Stream → Stream) : Type 0 where
  pub running : (s : Stream) → (f s).running ≡ s.running
  pub gate : (s : Stream) → (f s).gate ≡ s.gate
  pub ever : (s : Stream) → (f s).ever ≡ s.ever

keeps_if : (n : ℕ) (m : StreamMove) → KeepsFeeds (moved m) → KeepsFeeds (if_playing n m)
keeps_if n m keeps = record {
  running = λ s. of_two (λ t. t.running) (is_playing n s) (moved m s) s (keeps.running s);
  gate = λ s. of_two (λ t. t.gate) (is_playing n s) (moved m s) s (keeps.gate s);
  ever = λ s. of_two (λ t. t.ever) (is_playing n s) (moved m s) s (keeps.ever s);
}
  where
    of_two : {X : Type 0} (f : Stream → X) (b : Bool) (s t : Stream) → f s ≡ f t → f (if b then s else t) ≡ f t
    of_two f true s t same = same
    of_two f false s t same = refl

pub picks_keep : (n p : ℕ) → KeepsFeeds (picks_on n p)
picks_keep n p = keeps_if n (picked p) (record { running = λ s. refl; gate = λ s. refl; ever = λ s. refl })

pub retires_keep : (n : ℕ) → KeepsFeeds (retires_on n)
retires_keep n = keeps_if n retired (record { running = λ s. refl; gate = λ s. refl; ever = λ s. refl })

-- an entry that may be fed, if it is heard
abbrev pub MayHear : {E : Type 0} → ℕ → ℕ → ℕ → StreamEntry E → Type 0
MayHear number channels p e = is_heard number e ≡ true → IsFeedable channels p e

module _ {E : Type 0} (moves : E → List StoreStep → E → Type 0) (number channels p : ℕ) where
  one_turned : (f : Stream → Stream) → KeepsFeeds f → (a b : StreamEntry E) → Turned moves f a b
      → MayHear number channels p a → MayHear number channels p b
  one_turned f keeps a b h may heard =
      let running = h.running ∙ keeps.running (stream_with no_data a) in
      let gate = h.gate ∙ keeps.gate (stream_with no_data a) in
      let ever = h.ever ∙ keeps.ever (stream_with no_data a) in
      let endpoint = h.same.endpoint in
      let kind = h.same.kind in
      let same : is_heard number b ≡ is_heard number a = cc in
      let was = may (sym same ∙ heard) in
      record {
        channels_are = h.same.channels ∙ was.channels_are;
        period = h.same.period ∙ was.period;
        ever = omega (arith, was.ever, ever);
      }

  -- the entries may still be fed
  pub still_fed : (f : Stream → Stream) → KeepsFeeds f → (xs ys : List (StreamEntry E))
      → AllZip (Turned moves f) xs ys → All (MayHear number channels p) xs → All (MayHear number channels p) ys
  still_fed f keeps [] [] h may = All-nil (MayHear number channels p)
  still_fed f keeps (x ∷ xs) (y ∷ ys) h may =
      All-cons (MayHear number channels p) y ys
      (one_turned f keeps x y h.0 (All-head (MayHear number channels p) x xs may))
      (still_fed f keeps xs ys h.1 (All-tail (MayHear number channels p) x xs may))
  still_fed f keeps [] (y ∷ ys) h may = absurd h
  still_fed f keeps (x ∷ xs) [] h may = absurd h

  one_read : (steps : List StoreStep) (a b : StreamEntry E) → TakesSteps moves steps a b
      → MayHear number channels p a → MayHear number channels p b
  one_read steps a b h may heard =
      let running = h.running in
      let gate = h.gate in
      let endpoint = h.same.endpoint in
      let kind = h.same.kind in
      let same : is_heard number b ≡ is_heard number a = cc in
      let was = may (sym same ∙ heard) in
      record {
        channels_are = h.same.channels ∙ was.channels_are;
        period = h.same.period ∙ was.period;
        ever = omega (arith, was.ever, h.ever);
      }

  -- also those that a Sound read
  pub read_fed : (steps : ℕ → List StoreStep) (xs ys : List (StreamEntry E)) → AllTakeSteps moves steps xs ys
      → All (MayHear number channels p) xs → All (MayHear number channels p) ys
  read_fed steps [] [] h may = All-nil (MayHear number channels p)
  read_fed steps (x ∷ xs) (y ∷ ys) h may =
      All-cons (MayHear number channels p) y ys
      (one_read (steps x.client.0) x y h.0 (All-head (MayHear number channels p) x xs may))
      (read_fed steps xs ys h.1 (All-tail (MayHear number channels p) x xs may))
  read_fed steps [] (y ∷ ys) h may = absurd h
  read_fed steps (x ∷ xs) [] h may = absurd h
