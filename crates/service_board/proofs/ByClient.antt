-- Steps of entries by client: each entry takes its client's steps, one list of steps after another, and all data that
-- agree go the same way.
use Rattle.std.proofs.Common.{◌≡◌, ℕ, suc, ◌<◌, ◌==◌, List, [], ◌∷◌, ◌++◌, map, Bool, true, false, Option, Some, None}
use Rattle.std.proofs.Common.{refl, sym, ap, ap₂, ◌∙◌, subst, arith, eq-eqb, eqb-true, if◌then◌else◌}
use Rattle.std.specs.List.{AllByRecursion, AllZip}
use Rattle.std.proofs.lemmas.Bool.Decides.{nat_tests}
use Rattle.std.proofs.lemmas.Option.{none-some}
use Rattle.buffer_ring.specs.declared.step.StoreStep.{StoreStep}
use Rattle.buffer_ring.specs.declared.step.StoreStep.TheVariants as step
use Rattle.ca_stage.specs.Stage.{Stream, BufferData, is_render}
use Rattle.ca_stage.specs.Order.{RisesFrom}
use Rattle.ca_stage.proofs.Lists.{all_weaker, all_both, chosen}
use Rattle.period_engine.specs.declared.entry.StreamEntry.{StreamEntry}
use Rattle.period_engine.specs.Agreement.{Agrees, AllAgree, ArePacked, Layout, data_after, data_on, layout_of}
use Rattle.period_engine.specs.Entries.{stream_with, streams_of}
use Rattle.period_engine.specs.Sounds.{AllTakeSteps, TakesSteps}
use Rattle.period_engine.specs.SubSteps.{IsSameEntry, Turned}
use Rattle.service_board.specs.Does.{Made, after_steps, layout_at, no_layout, store_at}
use Rattle.service_board.specs.Plays.{AllGo, GoesBy}

-- the clients of entries
abbrev pub clients_of : {E : Type 0} → List (StreamEntry E) → List ℕ
clients_of entries = map (λ e. e.client.0) entries

-- ---- steps after steps

pub data-append : (l : Layout) (s t : List StoreStep) (d : BufferData) →
    data_after l (s ++ t) d ≡ data_after l t (data_after l s d)
data-append l [] t d = refl
data-append l (step.Acts found gate deed ∷ s) t d = data-append l s t (data_on l deed d)
data-append l (step.Reads place word ∷ s) t d = data-append l s t d

pub agrees-append : (l : Layout) (s t : List StoreStep) (d : BufferData) → Agrees l (s ++ t) d →
    Agrees l s d × Agrees l t (data_after l s d)
agrees-append l [] t d h = (tt, h)
agrees-append l (step.Acts found gate deed ∷ s) t d h =
    let rest = agrees-append l s t (data_on l deed d) h.1 in
    ((h.0, rest.0), rest.1)
agrees-append l (step.Reads place word ∷ s) t d h =
    let rest = agrees-append l s t d h.1 in
    ((h.0, rest.0), rest.1)

pub packed-append : (l : Layout) (s t : List StoreStep) → ArePacked l s → ArePacked l t → ArePacked l (s ++ t)
packed-append l [] t h k = k
packed-append l (step.Acts found gate deed ∷ s) t h k = (h.0, packed-append l s t h.1 k)
packed-append l (step.Reads place word ∷ s) t h k = packed-append l s t h k

pub same_after : {E : Type 0} (a b c : StreamEntry E) → IsSameEntry a b → IsSameEntry b c → IsSameEntry a c
same_after a b c h k = record {
  client = k.client ∙ h.client;
  endpoint = k.endpoint ∙ h.endpoint;
  kind = k.kind ∙ h.kind;
  exclusive = k.exclusive ∙ h.exclusive;
  event = k.event ∙ h.event;
  channels = k.channels ∙ h.channels;
  rate = k.rate ∙ h.rate;
  buffer = k.buffer ∙ h.buffer;
  period = k.period ∙ h.period;
  room = k.room ∙ h.room;
  latency = k.latency ∙ h.latency;
  session = k.session ∙ h.session;
  gains = k.gains ∙ h.gains;
}

-- the words of an entry's store stand for the same
pub same_layout : {E : Type 0} (a b : StreamEntry E) → IsSameEntry a b → layout_of b ≡ layout_of a
same_layout a b h =
    ap (λ k. record { plays = is_render k; channels = b.channels; period = b.period }) h.kind
    ∙ ap₂ (λ n m. record { plays = is_render a.kind; channels = n; period = m }) h.channels h.period

-- ---- entries of other clients

above_each : {E : Type 0} (n low : ℕ) (xs : List (StreamEntry E)) → n < low → RisesFrom low (clients_of xs) →
    AllByRecursion (λ e. (n == e.client.0) ≡ false) xs
above_each n low [] lt rises = tt
above_each n low (x ∷ xs) lt rises =
    let le = rises.0 in
    let other : (n == x.client.0) ≡ false = grind (arith, nat_tests) in
    (other, above_each n (suc x.client.0) xs (omega arith) rises.1)

-- entries behind one have other clients
pub others : {E : Type 0} (low : ℕ) (x : StreamEntry E) (xs : List (StreamEntry E)) →
    RisesFrom low (clients_of (x ∷ xs)) → AllByRecursion (λ e. (x.client.0 == e.client.0) ≡ false) xs
others low x xs rises = above_each x.client.0 (suc x.client.0) xs (omega arith) rises.1

-- the layout of each entry is found by its client
pub layout_found : {E : Type 0} (low : ℕ) (xs : List (StreamEntry E)) → RisesFrom low (clients_of xs) →
    AllByRecursion (λ e. layout_at e.client.0 xs ≡ layout_of e) xs
layout_found low [] rises = tt
layout_found low (x ∷ xs) rises = (
  ap (λ b. if b then layout_of x else layout_at x.client.0 xs) (eq-eqb x.client.0 x.client.0 refl),
  all_both (λ e. (x.client.0 == e.client.0) ≡ false) (λ e. layout_at e.client.0 xs ≡ layout_of e)
      (λ e. layout_at e.client.0 (x ∷ xs) ≡ layout_of e)
      (λ e other found. ap (λ b. if b then layout_of x else layout_at e.client.0 xs) other ∙ found) xs
      (others low x xs rises) (layout_found (suc x.client.0) xs rises.1),
)

-- what the data of an entry's client are after its steps
abbrev pub AreAfter : {E : Type 0} → (ℕ → List StoreStep) → (ℕ → BufferData) → (ℕ → BufferData) → StreamEntry E → Type 0
AreAfter steps datas datas' e = datas' e.client.0 ≡ data_after (layout_of e) (steps e.client.0) (datas e.client.0)

pub are_after : {E : Type 0} (steps : ℕ → List StoreStep) (xs : List (StreamEntry E)) (datas : ℕ → BufferData) →
    RisesFrom 0 (clients_of xs) → AllByRecursion (AreAfter steps datas (after_steps steps xs datas)) xs
are_after steps xs datas rises =
    all_weaker (λ e. layout_at e.client.0 xs ≡ layout_of e) (AreAfter steps datas (after_steps steps xs datas))
    (λ e found. ap (λ l. data_after l (steps e.client.0) (datas e.client.0)) found) xs (layout_found 0 xs rises)

-- ---- steps of clients that have an entry

abbrev pub within : {E : Type 0} → List (StreamEntry E) → (ℕ → List StoreStep) → ℕ → List StoreStep
within [] s n = []
within (x ∷ xs) s n = if x.client.0 == n then s n else within xs s n

pub within_each : {E : Type 0} (xs : List (StreamEntry E)) (s : ℕ → List StoreStep) →
    AllByRecursion (λ e. within xs s e.client.0 ≡ s e.client.0) xs
within_each [] s = tt
within_each (x ∷ xs) s = (
  ap (λ b. if b then s x.client.0 else within xs s x.client.0) (eq-eqb x.client.0 x.client.0 refl),
  all_weaker (λ e. within xs s e.client.0 ≡ s e.client.0) (λ e. within (x ∷ xs) s e.client.0 ≡ s e.client.0)
      (λ e h. chosen (λ ss. ss ≡ s e.client.0) (x.client.0 == e.client.0) (s e.client.0) (within xs s e.client.0) refl
      h)
      xs (within_each xs s),
)

pub within_none : {E : Type 0} (xs : List (StreamEntry E)) (s : ℕ → List StoreStep) (n : ℕ) → store_at n xs ≡ None →
    within xs s n ≡ []
within_none [] s n h = refl
within_none (x ∷ xs) s n h = by_test (x.client.0 == n) h (within_none xs s n)
  where
    by_test : (b : Bool) → (if b then Some x.store else store_at n xs) ≡ None →
        (store_at n xs ≡ None → within xs s n ≡ []) → (if b then s n else within xs s n) ≡ []
    by_test true h rest = absurd (none-some x.store (sym h))
    by_test false h rest = rest h

-- ---- entries that went on

module _ {E : Type 0} (moves : E → List StoreStep → E → Type 0) where
  -- the steps of each entry, by its client
  abbrev pub steps_of : (f : Stream → Stream) (xs ys : List (StreamEntry E)) → AllZip (Turned moves f) xs ys → ℕ →
      List StoreStep
  steps_of f [] [] h n = []
  steps_of f (x ∷ xs) (y ∷ ys) h n = if x.client.0 == n then h.0.steps else steps_of f xs ys h.1 n
  steps_of f [] (y ∷ ys) h n = []
  steps_of f (x ∷ xs) [] h n = []

  pub go_alike : (f : Stream → Stream) (s t : ℕ → List StoreStep) (xs ys : List (StreamEntry E)) →
      AllByRecursion (λ e. t e.client.0 ≡ s e.client.0) xs → AllGo moves f s xs ys → AllGo moves f t xs ys
  go_alike f s t [] [] same h = tt
  go_alike f s t (x ∷ xs) (y ∷ ys) same h =
      (subst (λ ss. GoesBy moves f ss x y) (sym same.0) h.0, go_alike f s t xs ys same.1 h.1)
  go_alike f s t [] (y ∷ ys) same h = absurd h
  go_alike f s t (x ∷ xs) [] same h = absurd h

  turned_goes : (f : Stream → Stream) (a b : StreamEntry E) (t : Turned moves f a b) (ss : List StoreStep) →
      ss ≡ t.steps → GoesBy moves f ss a b
  turned_goes f a b t ss e =
      subst (λ ss. GoesBy moves f ss a b) (sym e)
      (record { same = t.same; made = t.made; packs = t.packs; turns = t.turns })

  pub all_turned : (f : Stream → Stream) (low : ℕ) (xs ys : List (StreamEntry E)) (h : AllZip (Turned moves f) xs ys) →
      RisesFrom low (clients_of xs) → AllGo moves f (steps_of f xs ys h) xs ys
  all_turned f low [] [] h rises = tt
  all_turned f low (x ∷ xs) (y ∷ ys) h rises = (
    turned_goes f x y h.0 (steps_of f (x ∷ xs) (y ∷ ys) h x.client.0)
        (ap (λ b. if b then h.0.steps else steps_of f xs ys h.1 x.client.0) (eq-eqb x.client.0 x.client.0 refl)),
    go_alike f (steps_of f xs ys h.1) (steps_of f (x ∷ xs) (y ∷ ys) h) xs ys
        (all_weaker (λ e. (x.client.0 == e.client.0) ≡ false)
        (λ e. steps_of f (x ∷ xs) (y ∷ ys) h e.client.0 ≡ steps_of f xs ys h.1 e.client.0)
        (λ e other. ap (λ b. if b then h.0.steps else steps_of f xs ys h.1 e.client.0) other) xs
        (others low x xs rises))
        (all_turned f (suc x.client.0) xs ys h.1 rises.1),
  )
  all_turned f low [] (y ∷ ys) h rises = absurd h
  all_turned f low (x ∷ xs) [] h rises = absurd h

  -- reads leave the data, and so the streams
  same_stream : (d : BufferData) (a b : StreamEntry E) (ss : List StoreStep) → TakesSteps moves ss a b →
      stream_with d a ≡ stream_with d b
  same_stream d a b ss h = let same = h.same in cc

  pub all_read : (steps : ℕ → List StoreStep) (xs ys : List (StreamEntry E)) →
      ((d : BufferData) (client : ℕ) (l : Layout) → data_after l (steps client) d ≡ d) →
      AllTakeSteps moves steps xs ys → AllGo moves (λ s. s) steps xs ys
  all_read steps [] [] reads h = tt
  all_read steps (x ∷ xs) (y ∷ ys) reads h = (
    record {
      same = h.0.same;
      made = h.0.made;
      packs = h.0.packs (layout_of x);
      turns = λ d agrees. same_stream d x y (steps x.client.0) h.0
          ∙ ap (λ d'. stream_with d' y) (sym (reads d x.client.0 (layout_of x)));
    },
    all_read steps xs ys reads h.1,
  )
  all_read steps [] (y ∷ ys) reads h = absurd h
  all_read steps (x ∷ xs) [] reads h = absurd h

  -- one list of steps after another
  one_after : (f g : Stream → Stream) (s t : List StoreStep) (a b c : StreamEntry E) →
      (moves a.store s b.store → moves b.store t c.store → moves a.store (s ++ t) c.store) →
      GoesBy moves f s a b → GoesBy moves g t b c → GoesBy moves (λ x. g (f x)) (s ++ t) a c
  one_after f g s t a b c joins h k =
      let l = layout_of a in
      let second : (d : BufferData) → Agrees l t d → g (stream_with d b) ≡ stream_with (data_after l t d) c =
      subst (λ m. (d : BufferData) → Agrees m t d → g (stream_with d b) ≡ stream_with (data_after m t d) c)
      (same_layout a b h.same) k.turns in
      record {
        same = same_after a b c h.same k.same;
        made = joins h.made k.made;
        packs = packed-append l s t h.packs (subst (λ m. ArePacked m t) (same_layout a b h.same) k.packs);
        turns = λ d agrees.
            ap g (h.turns d (agrees-append l s t d agrees).0)
            ∙ second (data_after l s d) (agrees-append l s t d agrees).1
            ∙ ap (λ d'. stream_with d' c) (sym (data-append l s t d));
      }

  module _ (joins : (a b c : E) (s t : List StoreStep) → moves a s b → moves b t c → moves a (s ++ t) c) where
    pub all_after : (f g : Stream → Stream) (s t : ℕ → List StoreStep) (xs ys zs : List (StreamEntry E)) →
        AllGo moves f s xs ys → AllGo moves g t ys zs → AllGo moves (λ x. g (f x)) (λ n. s n ++ t n) xs zs
    all_after f g s t [] [] [] h k = tt
    all_after f g s t (x ∷ xs) (y ∷ ys) (z ∷ zs) h k = (
      one_after f g (s x.client.0) (t x.client.0) x y z
          (joins x.store y.store z.store (s x.client.0) (t x.client.0)) h.0
          (subst (λ n. GoesBy moves g (t n) y z) (ap (λ c. c.0) h.0.same.client) k.0),
      all_after f g s t xs ys zs h.1 k.1,
    )
    all_after f g s t [] [] (z ∷ zs) h k = absurd k
    all_after f g s t [] (y ∷ ys) zs h k = absurd h
    all_after f g s t (x ∷ xs) [] zs h k = absurd h
    all_after f g s t (x ∷ xs) (y ∷ ys) [] h k = absurd k

  -- the clients stay
  pub clients_stay : (f : Stream → Stream) (s : ℕ → List StoreStep) (xs ys : List (StreamEntry E)) →
      AllGo moves f s xs ys → clients_of ys ≡ clients_of xs
  clients_stay f s [] [] h = refl
  clients_stay f s (x ∷ xs) (y ∷ ys) h =
      ap₂ (λ n ns. n ∷ ns) (ap (λ c. c.0) h.0.same.client) (clients_stay f s xs ys h.1)
  clients_stay f s [] (y ∷ ys) h = absurd h
  clients_stay f s (x ∷ xs) [] h = absurd h

  -- the streams after the steps
  pub streams_went : (f : Stream → Stream) (s : ℕ → List StoreStep) (datas datas' : ℕ → BufferData)
      (xs ys : List (StreamEntry E)) → AllGo moves f s xs ys → AllAgree s datas xs →
      AllByRecursion (AreAfter s datas datas') xs → map f (streams_of datas xs) ≡ streams_of datas' ys
  streams_went f s datas datas' [] [] h agree after = refl
  streams_went f s datas datas' (x ∷ xs) (y ∷ ys) h agree after =
      ap₂ (λ z zs. z ∷ zs)
      (h.0.turns (datas x.client.0) agree.0
      ∙ ap (λ d. stream_with d y) (sym after.0 ∙ ap (λ c. datas' c.0) (sym h.0.same.client)))
      (streams_went f s datas datas' xs ys h.1 agree.1 after.1)
  streams_went f s datas datas' [] (y ∷ ys) h agree after = absurd h
  streams_went f s datas datas' (x ∷ xs) [] h agree after = absurd h

  -- data that agree with one list of steps after another
  pub agree_first : (s t : ℕ → List StoreStep) (datas : ℕ → BufferData) (xs : List (StreamEntry E)) →
      AllAgree (λ n. s n ++ t n) datas xs → AllAgree s datas xs
  agree_first s t datas [] h = tt
  agree_first s t datas (x ∷ xs) h = (
    (agrees-append (layout_of x) (s x.client.0) (t x.client.0) (datas x.client.0) h.0).0,
    agree_first s t datas xs h.1,
  )

  pub agree_then : (f : Stream → Stream) (s t : ℕ → List StoreStep) (datas datas' : ℕ → BufferData)
      (xs ys : List (StreamEntry E)) → AllGo moves f s xs ys → AllByRecursion (AreAfter s datas datas') xs →
      AllAgree (λ n. s n ++ t n) datas xs → AllAgree t datas' ys
  agree_then f s t datas datas' [] [] h after agree = tt
  agree_then f s t datas datas' (x ∷ xs) (y ∷ ys) h after agree =
      let l = layout_of x in
      let here = (agrees-append l (s x.client.0) (t x.client.0) (datas x.client.0) agree.0).1 in
      let at_data : Agrees l (t x.client.0) (datas' x.client.0) =
      subst (Agrees l (t x.client.0)) (sym after.0) here in
      let at_client : Agrees l (t y.client.0) (datas' y.client.0) =
      subst (λ c. Agrees l (t c.0) (datas' c.0)) (sym h.0.same.client) at_data in (
        subst (λ m. Agrees m (t y.client.0) (datas' y.client.0)) (sym (same_layout x y h.0.same)) at_client,
        agree_then f s t datas datas' xs ys h.1 after.1 agree.1,
      )
  agree_then f s t datas datas' [] (y ∷ ys) h after agree = absurd h
  agree_then f s t datas datas' (x ∷ xs) [] h after agree = absurd h

  -- by client: its store took its steps
  pub all_made : (f : Stream → Stream) (s : ℕ → List StoreStep) (given : Option E) (xs ys : List (StreamEntry E)) →
      AllGo moves f s xs ys → (n : ℕ) → (store_at n xs ≡ None → s n ≡ []) →
      Made moves given (s n) (store_at n xs) (store_at n ys)
  all_made f s given [] [] h n none = none refl
  all_made f s given (x ∷ xs) (y ∷ ys) h n none =
      subst (λ c. Made moves given (s n) (store_at n (x ∷ xs)) (if c.0 == n then Some y.store else store_at n ys))
      (sym h.0.same.client) (by_test (x.client.0 == n) refl none (all_made f s given xs ys h.1 n))
    where
      by_test : (b : Bool) → (x.client.0 == n) ≡ b → ((if b then Some x.store else store_at n xs) ≡ None → s n ≡ []) →
          ((store_at n xs ≡ None → s n ≡ []) → Made moves given (s n) (store_at n xs) (store_at n ys)) →
          Made moves given (s n) (if b then Some x.store else store_at n xs) (if b then Some y.store else store_at n ys)
      by_test true e none rest = subst (λ k. moves x.store (s k) y.store) (eqb-true x.client.0 n e) h.0.made
      by_test false e none rest = rest none
  all_made f s given [] (y ∷ ys) h n none = absurd h
  all_made f s given (x ∷ xs) [] h n none = absurd h

-- and its steps took whole packets
pub all_packed : {E : Type 0} (moves : E → List StoreStep → E → Type 0) (f : Stream → Stream) (s : ℕ → List StoreStep)
    (xs ys : List (StreamEntry E)) → AllGo moves f s xs ys → (n : ℕ) → (store_at n xs ≡ None → s n ≡ []) →
    ArePacked (layout_at n xs) (s n)
all_packed moves f s [] [] h n none = subst (ArePacked no_layout) (sym (none refl)) tt
all_packed moves f s (x ∷ xs) (y ∷ ys) h n none =
    by_test (x.client.0 == n) refl none (all_packed moves f s xs ys h.1 n)
  where
    by_test : (b : Bool) → (x.client.0 == n) ≡ b → ((if b then Some x.store else store_at n xs) ≡ None → s n ≡ []) →
        ((store_at n xs ≡ None → s n ≡ []) → ArePacked (layout_at n xs) (s n)) →
        ArePacked (if b then layout_of x else layout_at n xs) (s n)
    by_test true e none rest = subst (λ k. ArePacked (layout_of x) (s k)) (eqb-true x.client.0 n e) h.0.packs
    by_test false e none rest = rest none
all_packed moves f s [] (y ∷ ys) h n none = absurd h
all_packed moves f s (x ∷ xs) [] h n none = absurd h

pub agree_alike : {E : Type 0} (s t : ℕ → List StoreStep) (datas : ℕ → BufferData) (xs : List (StreamEntry E)) →
    AllByRecursion (λ e. t e.client.0 ≡ s e.client.0) xs → AllAgree t datas xs → AllAgree s datas xs
agree_alike s t datas [] same h = tt
agree_alike s t datas (x ∷ xs) same h =
    (subst (λ ss. Agrees (layout_of x) ss (datas x.client.0)) same.0 h.0, agree_alike s t datas xs same.1 h.1)
