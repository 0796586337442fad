-- What an event hands over is what its moves release.
use Rattle.std.proofs.Common.{◌≡◌, ℕ, ◌==◌, ◌&&◌, List, [], ◌∷◌, ◌++◌, Bool, true, false, Option, Some, None, refl, sym}
use Rattle.std.proofs.Common.{ap, ap₂, ◌∙◌, append-nil, if◌then◌else◌, eqb, eq-eqb, eqb-true}
use Rattle.std.proofs.lemmas.Option.{same_Some}
use Rattle.std.specs.List.{AllByRecursion}
use Rattle.ca_base.specs.declared.codes.Hr.{Hr}
use Rattle.ca_base.specs.declared.codes.TheConstants.Hr as hr
use Rattle.ca_model.specs.declared.event.Event.{Event}
use Rattle.ca_stage.specs.Stage.{Frame, Stream, Stage, is_open}
use Rattle.ca_stage.specs.Moves.{released, Move, of_client, after_move, stream_at}
use Rattle.ca_stage.specs.Fates.{of_found, passing, released_by, all_released}
use Rattle.ca_stage.proofs.Streams.{found_client}
use Rattle.ca_stage.proofs.Clients.{turned}
use Rattle.ca_machine.specs.Headline.{handed_by, handed_in}

-- moves that release nothing
abbrev pub ReleasesNone : Move → Type 0
ReleasesNone x = (s : Stream) → released_by x s ≡ []

of_none : {A : Type 0} (f : Stream → List A) → ((s : Stream) → f s ≡ []) → (o : Option Stream) → of_found f o ≡ []
of_none f h None = refl
of_none f h (Some s) = h s

pub releases_none : (n : ℕ) (st : Stage) (xs : List Move) → AllByRecursion ReleasesNone xs → all_released n st xs ≡ []
releases_none n st [] h = refl
releases_none n st (x ∷ xs) h =
    ap₂ (λ a b. a ++ b) (of_none (released_by x) h.0 (stream_at n st)) (releases_none n (after_move st x) xs h.1)

-- an event that hands over nothing, as it is answered
abbrev pub HandsNone : Event → Type 0
HandsNone e = (n channels : ℕ) → handed_by n channels e ≡ []

abbrev pub HandsNoneBy : Stage → Event → Hr → Type 0
HandsNoneBy st e result = (n : ℕ) → handed_in n st e result ≡ []

pub none_by : (st : Stage) (e : Event) (result : Hr) → HandsNone e → HandsNoneBy st e result
none_by st e result h n = go (result.0 == hr.S_OK.0)
  where
    go : (b : Bool) → (if b then of_found (λ s. handed_by n s.channels e) (stream_at n st) else []) ≡ []
    go true = of_none (λ s. handed_by n s.channels e) (λ s. h n s.channels) (stream_at n st)
    go false = refl

-- a code that isn't S_OK
abbrev pub Refuses : Hr → Type 0
Refuses code = (code.0 == hr.S_OK.0) ≡ false

pub none_refused : (st : Stage) (e : Event) (code : Hr) → Refuses code → HandsNoneBy st e code
none_refused st e code h n =
    ap (λ (b : Bool). if b then of_found (λ s. handed_by n s.channels e) (stream_at n st) else []) h

-- ---- frames pass the open gate of the stream that is there

passes : (client : ℕ) (t : Stream) (frames : List Frame) → t.client ≡ client → is_open t ≡ true →
    passing client t frames ≡ frames
passes client t frames e o =
    ap (λ (b : Bool). if b then frames else []) (ap₂ (λ a b. a && b) (eq-eqb t.client client e) o)

passes_not : (client : ℕ) (t : Stream) (frames : List Frame) → eqb t.client client ≡ false →
    passing client t frames ≡ []
passes_not client t frames h = ap (λ (b : Bool). if b && is_open t then frames else []) h

-- an event that hands over these frames for a client's stream
abbrev pub HandsOver : ℕ → (ℕ → List Frame) → Event → Type 0
HandsOver client frames e = (n channels : ℕ) → handed_by n channels e ≡ (if client == n then frames channels else [])

released_here : (st : Stage) (client n : ℕ) (frames : ℕ → List Frame) (s t : Stream) → stream_at client st ≡ Some s →
    stream_at n st ≡ Some t → is_open s ≡ true → (b : Bool) → eqb client n ≡ b →
    passing client t (frames s.channels) ≡ (if b then frames t.channels else [])
released_here st client n frames s t hs ht o true e =
    let same : s ≡ t = same_Some s t (sym hs ∙ ap (λ k. stream_at k st) (eqb-true client n e) ∙ ht) in
    passes client t (frames s.channels) (found_client n st t ht ∙ sym (eqb-true client n e)) (ap is_open (sym same) ∙ o)
    ∙ ap (λ (u : Stream). frames u.channels) same
released_here st client n frames s t hs ht o false e =
    passes_not client t (frames s.channels) (ap (λ k. eqb k client) (found_client n st t ht) ∙ turned client n e)

released_there : (st : Stage) (client n : ℕ) (frames : ℕ → List Frame) (e : Event) (s : Stream) →
    HandsOver client frames e → stream_at client st ≡ Some s → is_open s ≡ true →
    (o : Option Stream) → stream_at n st ≡ o →
    of_found (released_by (of_client client (released (frames s.channels)))) o
    ≡ of_found (λ t. handed_by n t.channels e) o
released_there st client n frames e s h hs o None ht = refl
released_there st client n frames e s h hs o (Some t) ht =
    released_here st client n frames s t hs ht o (eqb client n) refl ∙ sym (h n t.channels)

pub released_is_handed : (st : Stage) (client n : ℕ) (frames : ℕ → List Frame) (e : Event) (s : Stream) →
    HandsOver client frames e → stream_at client st ≡ Some s → is_open s ≡ true →
    all_released n st (of_client client (released (frames s.channels)) ∷ []) ≡ handed_in n st e hr.S_OK
released_is_handed st client n frames e s h hs o =
    append-nil _ ∙ released_there st client n frames e s h hs o (stream_at n st) refl
