-- What follows a Sound that a device took whole: what was picked is rendered, and those who hear are offered a packet.
use Rattle.std.proofs.Common.{◌≡◌, ℕ, ◌+◌, ◌≤◌, ◌==◌, ◌&&◌, List, [], ◌∷◌, ◌++◌, length, Bool, true, false, refl}
use Rattle.std.proofs.Common.{sym, ap, ap₂, ◌∙◌, subst, if◌then◌else◌}
use Rattle.std.specs.List.{All, AllZip}
use Rattle.std.proofs.lemmas.List.Elements.{All-nil, All-cons, All-head, All-tail}
use Rattle.ca_base.specs.declared.limits.TheConstants.{MAX_COUNT}
use Rattle.buffer_ring.specs.declared.step.StoreStep.{StoreStep}
use Rattle.ca_stage.specs.Stage.{BufferData, Frame, Stream, is_loopback, is_open_gate, no_data}
use Rattle.ca_stage.specs.Moves.{fed, moved, retired}
use Rattle.ca_stage.specs.Periods.{fed_if, is_hearing, is_playing}
use Rattle.ca_stage.proofs.Lists.{chosen}
use Rattle.period_engine.specs.declared.entry.StreamEntry.{StreamEntry}
use Rattle.period_engine.specs.Agreement.{Agrees, ArePacked, data_after, layout_of}
use Rattle.period_engine.specs.Entries.{IsFeedable, is_heard, stream_with}
use Rattle.period_engine.specs.Sounds.{AllTakeSteps, TakesSteps}
use Rattle.period_engine.specs.SubSteps.{IsSameEntry, Turned, picks_on, retires_on}
use Rattle.service_board.specs.Plays.{ends_on}
use Rattle.service_board.proofs.ByClient.{agrees-append, data-append, packed-append, same_after, same_layout}

-- two streams are alike to a period that offers packets
pub record IsAlike (s t : Stream) : Type 0 where
  pub endpoint : s.endpoint ≡ t.endpoint
  pub kind : s.kind ≡ t.kind
  pub running : s.running ≡ t.running
  pub gate : s.gate ≡ t.gate
  pub position : s.position ≡ t.position
  pub offered : s.offered ≡ t.offered
  pub ever : s.ever ≡ t.ever

module _ (number : ℕ) (heard : List Frame) where
  hears_alike : (s t : Stream) → IsAlike s t → is_hearing number s ≡ is_hearing number t
  hears_alike s t a =
      ap₂ (λ n k. n == number && (is_open_gate s.gate && (s.running && is_loopback k))) a.endpoint a.kind
      ∙ ap₂ (λ g r. t.endpoint == number && (is_open_gate g && (r && is_loopback t.kind))) a.gate a.running

  fed_alike : (s t : Stream) → IsAlike s t → (b : Bool) →
      IsAlike (if b then moved (fed heard) s else s) (if b then moved (fed heard) t else t)
  fed_alike s t a true = record {
    endpoint = a.endpoint;
    kind = a.kind;
    running = a.running;
    gate = a.gate;
    position = a.position;
    offered = ap (λ n. n + length heard) a.offered;
    ever = ap (λ n. n + length heard) a.ever;
  }
  fed_alike s t a false = a

  fed_both : (s t : Stream) → IsAlike s t →
      IsAlike (fed_if (is_hearing number) heard s) (fed_if (is_hearing number) heard t)
  fed_both s t a =
      subst (λ c. IsAlike (fed_if (is_hearing number) heard s) (if c then moved (fed heard) t else t))
      (hears_alike s t a) (fed_alike s t a (is_hearing number s))

  module _ {E : Type 0} (moves : E → List StoreStep → E → Type 0)
      (joins : (a b c : E) (s t : List StoreStep) → moves a s b → moves b t c → moves a (s ++ t) c) where
    left_alike : (a b : StreamEntry E) → Turned moves (retires_on number) a b →
        IsAlike (stream_with no_data b) (retires_on number (stream_with no_data a))
    left_alike a b h =
        let kept =
        chosen (λ (s : Stream). (s.endpoint ≡ a.endpoint.0) × (s.kind ≡ a.kind))
        (is_playing number (stream_with no_data a)) (moved retired (stream_with no_data a)) (stream_with no_data a)
        (refl, refl) (refl, refl) in
        record {
          endpoint = ap (λ e. e.0) h.same.endpoint ∙ sym kept.0;
          kind = h.same.kind ∙ sym kept.1;
          running = h.running;
          gate = h.gate;
          position = h.position;
          offered = h.offered;
          ever = h.ever;
        }

    one_ends : (a b c : StreamEntry E) → Turned moves (retires_on number) a b →
        Turned moves (fed_if (is_hearing number) heard) b c → Turned moves (ends_on number heard true) a c
    one_ends a b c h k =
        let l = layout_of a in
        let second : (d : BufferData) → Agrees l k.steps d →
        fed_if (is_hearing number) heard (stream_with d b) ≡ stream_with (data_after l k.steps d) c =
        subst (λ m. (d : BufferData) → Agrees m k.steps d →
        fed_if (is_hearing number) heard (stream_with d b) ≡ stream_with (data_after m k.steps d) c)
        (same_layout a b h.same) k.turns in
        let alike = fed_both (stream_with no_data b) (retires_on number (stream_with no_data a)) (left_alike a b h) in
        record {
          same = same_after a b c h.same k.same;
          steps = h.steps ++ k.steps;
          made = joins a.store b.store c.store h.steps k.steps h.made k.made;
          packs =
              packed-append l h.steps k.steps h.packs
              (subst (λ m. ArePacked m k.steps) (same_layout a b h.same) k.packs);
          turns = λ d agrees.
              ap (fed_if (is_hearing number) heard) (h.turns d (agrees-append l h.steps k.steps d agrees).0)
              ∙ second (data_after l h.steps d) (agrees-append l h.steps k.steps d agrees).1
              ∙ ap (λ d'. stream_with d' c) (sym (data-append l h.steps k.steps d));
          running = k.running ∙ alike.running;
          gate = k.gate ∙ alike.gate;
          position = k.position ∙ alike.position;
          offered = k.offered ∙ alike.offered;
          ever = k.ever ∙ alike.ever;
        }

    pub all_end : (xs ys zs : List (StreamEntry E)) → AllZip (Turned moves (retires_on number)) xs ys →
        AllZip (Turned moves (fed_if (is_hearing number) heard)) ys zs →
        AllZip (Turned moves (ends_on number heard true)) xs zs
    all_end [] [] [] h k = tt
    all_end (x ∷ xs) (y ∷ ys) (z ∷ zs) h k = (one_ends x y z h.0 k.0, all_end xs ys zs h.1 k.1)
    all_end [] [] (z ∷ zs) h k = absurd k
    all_end [] (y ∷ ys) zs h k = absurd h
    all_end (x ∷ xs) [] zs h k = absurd h
    all_end (x ∷ xs) (y ∷ ys) [] h k = absurd k

-- ---- entries that hear stay what they were, as far as they are offered packets

-- an entry is offered the same as one that it was
pub record IsAsOffered {E : Type 0} (a b : StreamEntry E) : Type 0 where
  pub same : IsSameEntry a b
  pub running : b.running ≡ a.running
  pub gate : b.gate ≡ a.gate
  pub ever : b.ever ≡ a.ever

module _ {E : Type 0} (moves : E → List StoreStep → E → Type 0) (number channels p : ℕ) where
  -- if it hears the endpoint, it may be offered a packet
  abbrev pub FeedsHeard : StreamEntry E → Type 0
  FeedsHeard e = is_heard number e ≡ true → IsFeedable channels p e

  one_feeds : (a b : StreamEntry E) → IsAsOffered a b → FeedsHeard a → FeedsHeard b
  one_feeds a b alike feeds hears =
      let before : is_heard number a ≡ is_heard number b =
      ap₂ (λ n k. n == number && (is_open_gate a.gate && (a.running && is_loopback k)))
      (ap (λ e. e.0) (sym alike.same.endpoint)) (sym alike.same.kind)
      ∙ ap₂ (λ g r. b.endpoint.0 == number && (is_open_gate g && (r && is_loopback b.kind))) (sym alike.gate)
      (sym alike.running) in
      let h = feeds (before ∙ hears) in
      record {
        channels_are = alike.same.channels ∙ h.channels_are;
        period = alike.same.period ∙ h.period;
        ever = subst (λ n. n + p ≤ MAX_COUNT) (sym alike.ever) h.ever;
      }

  picks_as : (a b : StreamEntry E) → Turned moves (picks_on number p) a b → IsAsOffered a b
  picks_as a b h =
      let kept =
      chosen (λ (s : Stream). (s.running ≡ a.running) × (s.gate ≡ a.gate) × (s.ever ≡ a.ever))
      (is_playing number (stream_with no_data a)) _ _ (refl, refl, refl) (refl, refl, refl) in
      record {
        same = h.same;
        running = h.running ∙ kept.0;
        gate = h.gate ∙ kept.1;
        ever = h.ever ∙ kept.2;
      }

  retires_as : (a b : StreamEntry E) → Turned moves (retires_on number) a b → IsAsOffered a b
  retires_as a b h =
      let kept =
      chosen (λ (s : Stream). (s.running ≡ a.running) × (s.gate ≡ a.gate) × (s.ever ≡ a.ever))
      (is_playing number (stream_with no_data a)) _ _ (refl, refl, refl) (refl, refl, refl) in
      record {
        same = h.same;
        running = h.running ∙ kept.0;
        gate = h.gate ∙ kept.1;
        ever = h.ever ∙ kept.2;
      }

  takes_as : (steps : List StoreStep) (a b : StreamEntry E) → TakesSteps moves steps a b → IsAsOffered a b
  takes_as steps a b h = record { same = h.same; running = h.running; gate = h.gate; ever = h.ever }

  all_as : (R : StreamEntry E → StreamEntry E → Type 0) → ((a b : StreamEntry E) → R a b → IsAsOffered a b) →
      (xs ys : List (StreamEntry E)) → AllZip R xs ys → All FeedsHeard xs → All FeedsHeard ys
  all_as R alike [] [] h feeds = All-nil FeedsHeard
  all_as R alike (x ∷ xs) (y ∷ ys) h feeds =
      All-cons FeedsHeard y ys (one_feeds x y (alike x y h.0) (All-head FeedsHeard x xs feeds))
      (all_as R alike xs ys h.1 (All-tail FeedsHeard x xs feeds))
  all_as R alike [] (y ∷ ys) h feeds = absurd h
  all_as R alike (x ∷ xs) [] h feeds = absurd h

  all_taken : (steps : ℕ → List StoreStep) (xs ys : List (StreamEntry E)) → AllTakeSteps moves steps xs ys →
      All FeedsHeard xs → All FeedsHeard ys
  all_taken steps [] [] h feeds = All-nil FeedsHeard
  all_taken steps (x ∷ xs) (y ∷ ys) h feeds =
      All-cons FeedsHeard y ys
      (one_feeds x y (takes_as (steps x.client.0) x y h.0) (All-head FeedsHeard x xs feeds))
      (all_taken steps xs ys h.1 (All-tail FeedsHeard x xs feeds))
  all_taken steps [] (y ∷ ys) h feeds = absurd h
  all_taken steps (x ∷ xs) [] h feeds = absurd h

  -- once what was picked is rendered, those who hear may be offered a packet still
  pub still_feed : (steps : ℕ → List StoreStep) (xs ys zs ws : List (StreamEntry E)) → All FeedsHeard xs →
      AllZip (Turned moves (picks_on number p)) xs ys → AllTakeSteps moves steps ys zs →
      AllZip (Turned moves (retires_on number)) zs ws → All FeedsHeard ws
  still_feed steps xs ys zs ws feeds h k l =
      all_as (Turned moves (retires_on number)) retires_as zs ws l
      (all_taken steps ys zs k (all_as (Turned moves (picks_on number p)) picks_as xs ys h feeds))
