-- Entries that are offered a packet, if they are those of a test.
use Rattle.std.proofs.Common.{◌≡◌, ℕ, ◌+◌, ◌<◌, ◌≤◌, ◌⊎◌, inl, inr, Bool, true, false, List, [], ◌∷◌, length, get_or}
use Rattle.std.proofs.Common.{refl, sym, ap, subst, ◌∙◌, arith}
use Rattle.std.proofs.lemmas.Bool.{cases_lt}
use Rattle.std.proofs.lemmas.List.{get_or_default}
use Rattle.std.specs.List.{All, AllZip, Any}
use Rattle.std.proofs.lemmas.List.Elements.{All-head, All-tail}
use Rattle.ca_base.specs.declared.ids.StreamKind.{StreamKind}
use Rattle.ca_base.specs.declared.ids.StreamKind.TheVariants as kind
use Rattle.ca_stage.specs.Stage.{Frame, Stream, BufferData, no_data}
use Rattle.ca_stage.specs.Moves.{fed, moved}
use Rattle.ca_stage.specs.Periods.{fed_if}
use Rattle.client_state.specs.Frames.{frames_in}
use Rattle.buffer_ring.specs.declared.step.EndState.{EndState}
use Rattle.buffer_ring.specs.declared.step.StoreStep.{StoreStep}
use Rattle.period_engine.specs.declared.entry.StreamEntry.{StreamEntry}
use Rattle.period_engine.specs.Entries.{IsFeedable, IsRested, is_heard, stream_with}
use Rattle.period_engine.specs.SubSteps.{Turned}
use Rattle.period_engine.specs.Feeds.{TurnedBy, is_fed}
use Rattle.period_engine.proofs.Turns.{unmoved}

-- no element before a place passes a test, and the one there doesn't
module _ {X : Type 0} (test : X → Bool) (xs : List X) (i : ℕ) (x : X)
    (none : (k : ℕ) (d : X) → k < i → test (get_or xs k d) ≡ false) (there : i < length xs) (is : x ≡ get_or xs i x)
    (not_here : test x ≡ false) where
  by_place : (k : ℕ) (d : X) → (k < i) ⊎ (i ≤ k) → k < i + 1 → test (get_or xs k d) ≡ false
  by_place k d (inl before) within = none k d before
  by_place k d (inr behind) within =
      let here : k ≡ i = omega arith in
      ap (λ n. test (get_or xs n d)) here ∙ ap test (get_or_default xs i d x there ∙ sym is) ∙ not_here

  pub none_more : (k : ℕ) (d : X) → k < i + 1 → test (get_or xs k d) ≡ false
  none_more k d within = by_place k d (cases_lt k i) within

-- one entry was offered the packet of these words
abbrev pub Feeds : {E : Type 0} → (E → List StoreStep → E → Type 0) → (E → EndState) → (Stream → Bool) → List ℕ
    → StreamEntry E → StreamEntry E → Type 0
Feeds moves state test words a b = TurnedBy moves test words a b × IsRested state b

-- whatever its client's data are
pub is_fed_by_entry : {E : Type 0} (kind : StreamKind) (number : ℕ) (d : BufferData) (e : StreamEntry E)
    → is_fed kind number (stream_with d e) ≡ is_fed kind number (stream_with no_data e)
is_fed_by_entry kind.Render number d e = refl
is_fed_by_entry kind.Capture number d e = refl
is_fed_by_entry kind.Loopback number d e = refl

-- two moves that are alike for an entry
pub turned_alike : {E : Type 0} (moves : E → List StoreStep → E → Type 0) (f g : Stream → Stream) (a b : StreamEntry E)
    → ((d : BufferData) → g (stream_with d a) ≡ f (stream_with d a)) → Turned moves f a b → Turned moves g a b
turned_alike moves f g a b alike h = record {
  same = h.same;
  steps = h.steps;
  made = h.made;
  packs = h.packs;
  turns = λ d agrees. alike d ∙ h.turns d agrees;
  running = h.running ∙ ap (λ s. s.running) (sym (alike no_data));
  gate = h.gate ∙ ap (λ s. s.gate) (sym (alike no_data));
  position = h.position ∙ ap (λ s. s.position) (sym (alike no_data));
  offered = h.offered ∙ ap (λ s. s.offered) (sym (alike no_data));
  ever = h.ever ∙ ap (λ s. s.ever) (sym (alike no_data));
}

module _ {E : Type 0} (moves : E → List StoreStep → E → Type 0) (test : Stream → Bool) (a b : StreamEntry E)
    (alike : (d : BufferData) → test (stream_with d a) ≡ test (stream_with no_data a)) where
  -- an entry of the test that was offered frames
  pub fed_if_so : (frames : List Frame) → test (stream_with no_data a) ≡ true
      → Turned moves (moved (fed frames)) a b → Turned moves (fed_if test frames) a b
  fed_if_so frames so h =
      turned_alike moves (moved (fed frames)) (fed_if test frames) a b
      (λ d. rw (alike d ∙ so) refl) h

  -- one that is not
  pub fed_if_not : (frames : List Frame) → ((e : E) → moves e [] e) → test (stream_with no_data a) ≡ false
      → Turned moves (fed_if test frames) a a
  fed_if_not frames none not_so =
      unmoved moves (fed_if test frames) a none (λ d. rw (alike d ∙ not_so) refl)

  -- frames that are the same for an entry of the test
  same_frames : (frames more : List Frame) (so : Bool) → test (stream_with no_data a) ≡ so
      → (so ≡ true → frames ≡ more) → (d : BufferData)
      → fed_if test more (stream_with d a) ≡ fed_if test frames (stream_with d a)
  same_frames frames more true is same d = ap (λ fs. fed_if test fs (stream_with d a)) (sym (same refl))
  same_frames frames more false is same d =
      let no : test (stream_with d a) ≡ false = alike d ∙ is in
      rw no refl

  pub fed_alike : (frames more : List Frame) → (test (stream_with no_data a) ≡ true → frames ≡ more)
      → Turned moves (fed_if test frames) a b → Turned moves (fed_if test more) a b
  fed_alike frames more same h =
      turned_alike moves (fed_if test frames) (fed_if test more) a b
      (same_frames frames more (test (stream_with no_data a)) refl same) h

module _ {E : Type 0} (moves : E → List StoreStep → E → Type 0) (test : Stream → Bool)
    (alike : (d : BufferData) (e : StreamEntry E) → test (stream_with d e) ≡ test (stream_with no_data e)) where
  -- entries none of which is one of the test
  pub all_unfed : (frames : List Frame) → ((e : E) → moves e [] e) → (xs : List (StreamEntry E))
      → All (λ e. test (stream_with no_data e) ≡ false) xs → AllZip (Turned moves (fed_if test frames)) xs xs
  all_unfed frames none [] h = tt
  all_unfed frames none (x ∷ xs) h = (
    fed_if_not moves test x x (λ d. alike d x) frames none
        (All-head (λ e. test (stream_with no_data e) ≡ false) x xs h),
    all_unfed frames none xs (All-tail (λ e. test (stream_with no_data e) ≡ false) x xs h),
  )

  -- entries of this many channels, if they are those of the test
  pub all_fed : (channels : ℕ) (words : List ℕ) (xs ys : List (StreamEntry E))
      → All (λ e. test (stream_with no_data e) ≡ true → e.channels ≡ channels) xs
      → AllZip (TurnedBy moves test words) xs ys
      → AllZip (Turned moves (fed_if test (frames_in channels words))) xs ys
  all_fed channels words [] [] same h = tt
  all_fed channels words (x ∷ xs) (y ∷ ys) same h =
      let Same : StreamEntry E → Type 0 = λ e. test (stream_with no_data e) ≡ true → e.channels ≡ channels in (
        fed_alike moves test x y (λ d. alike d x) (frames_in x.channels words) (frames_in channels words)
            (λ so. ap (λ n. frames_in n words) (All-head Same x xs same so)) h.0,
        all_fed channels words xs ys (All-tail Same x xs same) h.1,
      )
  all_fed channels words [] (y ∷ ys) same h = absurd h
  all_fed channels words (x ∷ xs) [] same h = absurd h

-- the channels of an entry that is heard are those of all that are
pub heard_alike : {E : Type 0} (number n channels p : ℕ) (xs : List (StreamEntry E))
    → Any (λ e. (is_heard number e ≡ true) × (e.channels ≡ n)) xs
    → All (λ e. is_heard number e ≡ true → IsFeedable channels p e) xs → n ≡ channels
heard_alike number n channels p xs some fits =
    let here = subst (λ e. is_heard number e ≡ true → IsFeedable channels p e) some.3 (fits some.0 some.1 some.2) in
    sym some.4.1 ∙ (here some.4.0).channels_are
