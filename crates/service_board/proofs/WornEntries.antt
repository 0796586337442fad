-- Entries that a period of an endpoint offers packets to, and whether one of them can't count the period's frames.
use Rattle.std.proofs.Common.{◌≡◌, ℕ, ◌+◌, ◌≤◌, ◌==◌, ◌&&◌, ◌||◌, nat_lt, not, List, [], ◌∷◌, Bool, true}
use Rattle.std.proofs.Common.{false, Some, refl, sym, ap, ap₂, ◌∙◌, subst, arith, eqb-true}
use Rattle.std.specs.List.{All, AllByRecursion, find, list_any}
use Rattle.std.proofs.lemmas.Bool.{and_parts, false≢true, or_parts}
use Rattle.std.proofs.lemmas.Bool.Decides.{nat_tests}
use Rattle.std.proofs.lemmas.List.Elements.{All-from_recursion}
use Rattle.std.proofs.lemmas.Option.{same_Some}
use Rattle.ca_base.specs.declared.ids.Flow.{Flow}
use Rattle.ca_base.specs.declared.ids.Flow.TheVariants as flow
use Rattle.ca_base.specs.declared.ids.Gate.{Gate}
use Rattle.ca_base.specs.declared.ids.Gate.TheVariants as gate
use Rattle.ca_base.specs.declared.ids.StreamKind.{StreamKind}
use Rattle.ca_base.specs.declared.ids.StreamKind.TheVariants as kind
use Rattle.ca_base.specs.declared.limits.TheConstants.{MAX_COUNT}
use Rattle.ca_stage.specs.Stage.{BufferData, is_capture, is_loopback, is_open_gate}
use Rattle.device_registry.specs.declared.endpoint.Endpoint.{Endpoint}
use Rattle.device_registry.specs.Endpoints.{is_endpoint}
use Rattle.ca_machine.specs.Periods.{is_worn}
use Rattle.period_engine.specs.declared.entry.StreamEntry.{StreamEntry}
use Rattle.period_engine.specs.Entries.{is_heard, is_recorded, stream_of, streams_of}
use Rattle.service_book.specs.declared.book.Book.{Book}
use Rattle.service_board.specs.Due.{is_capture_flow, is_worn_entry}
use Rattle.service_board.specs.InOrder.{Belongs, IsOn, next_at, suits}
use Rattle.service_board.specs.declared.board.Seat.{Seat}

-- ---- what a test of an endpoint's entries tells

pub open_by : (seen : Gate) → is_open_gate seen ≡ true → seen ≡ gate.Open
open_by gate.Open h = refl
open_by (gate.Closed reason) h = absurd (false≢true h)

-- an entry stands open on an endpoint, and its stream is of such a kind
pub record IsHere {E : Type 0} (number : ℕ) (test : StreamKind → Bool) (e : StreamEntry E) : Type 0 where
  pub here : e.endpoint.0 ≡ number
  pub unclosed : e.gate ≡ gate.Open
  pub kind : test e.kind ≡ true

pub is_here : {E : Type 0} (number : ℕ) (test : StreamKind → Bool) (e : StreamEntry E) →
    (e.endpoint.0 == number && (is_open_gate e.gate && (e.running && test e.kind))) ≡ true → IsHere number test e
is_here number test e h =
    let at = and_parts (e.endpoint.0 == number) (is_open_gate e.gate && (e.running && test e.kind)) h in
    let unclosed = and_parts (is_open_gate e.gate) (e.running && test e.kind) at.1 in
    record {
      here = eqb-true e.endpoint.0 number at.0;
      unclosed = open_by e.gate unclosed.0;
      kind = (and_parts e.running (test e.kind) unclosed.1).1;
    }

-- an endpoint with a stream that records it captures, and one with a stream that hears it renders
records_suited : (f : Flow) (k : StreamKind) → suits f k ≡ true → is_capture k ≡ true → f ≡ flow.Capture
records_suited flow.Capture k s c = refl
records_suited flow.Render k s c = absurd (false≢true (sym (ap not c) ∙ s))

hears_suited : (f : Flow) (k : StreamKind) → suits f k ≡ true → is_loopback k ≡ true → f ≡ flow.Render
hears_suited flow.Render k s l = refl
hears_suited flow.Capture kind.Render s l = absurd (false≢true s)
hears_suited flow.Capture kind.Capture s l = absurd (false≢true l)
hears_suited flow.Capture kind.Loopback s l = absurd (false≢true s)

-- ---- entries that belong to a board, and an endpoint of it

and_false : (b : Bool) → false ≡ (b && false)
and_false true = refl
and_false false = refl

and_either : (b x y : Bool) → ((b && x) || (b && y)) ≡ (b && (x || y))
and_either true x y = refl
and_either false x y = refl

neither : (b x y : Bool) → (b && (x || y)) ≡ false → ((b && x) ≡ false) × ((b && y) ≡ false)
neither true x y h = or_parts x y h
neither false x y h = (refl, refl)

module _ {E : Type 0} (book : Book) (seats : List Seat) (n : ℕ) (e : Endpoint)
    (found : find (is_endpoint n) book.registry.list ≡ Some e) where
  -- the endpoint of an entry that is on it
  pub on_endpoint : (x : StreamEntry E) → x.endpoint.0 ≡ n → (on : IsOn x book.registry.list seats) → on.endpoint ≡ e
  on_endpoint x here on =
      let there : find (is_endpoint n) book.registry.list ≡ Some on.endpoint =
      ap (λ k. find (is_endpoint k) book.registry.list) (sym here) ∙ on.there in
      same_Some on.endpoint e (sym there ∙ found)

  pub recorded_flow : (x : StreamEntry E) → Belongs book seats x → is_recorded n x ≡ true → e.flow ≡ flow.Capture
  recorded_flow x belongs h =
      let at = is_here n is_capture x h in
      let on = belongs.opens at.unclosed in
      records_suited e.flow x.kind
      (ap (λ (y : Endpoint). suits y.flow x.kind) (sym (on_endpoint x at.here on)) ∙ on.suited) at.kind

  pub heard_flow : (x : StreamEntry E) → Belongs book seats x → is_heard n x ≡ true → e.flow ≡ flow.Render
  heard_flow x belongs h =
      let at = is_here n is_loopback x h in
      let on = belongs.opens at.unclosed in
      hears_suited e.flow x.kind
      (ap (λ (y : Endpoint). suits y.flow x.kind) (sym (on_endpoint x at.here on)) ∙ on.suited) at.kind

  -- one that hears it was offered no more than it played
  pub heard_behind : (x : StreamEntry E) → Belongs book seats x → is_heard n x ≡ true → x.ever ≤ next_at n seats
  heard_behind x belongs h =
      let at = is_here n is_loopback x h in
      subst (λ k. x.ever ≤ next_at k seats) at.here ((belongs.opens at.unclosed).hears at.kind)

  module _ (p : ℕ) where
    one_worn : next_at n seats + p ≤ MAX_COUNT → (datas : ℕ → BufferData) (x : StreamEntry E) → Belongs book seats x →
        is_worn n p (stream_of datas x) ≡ (is_capture_flow e.flow && is_worn_entry n p x)
    one_worn room datas x belongs = go (is_recorded n x) (is_heard n x) refl refl
      where
        go : (r h : Bool) → is_recorded n x ≡ r → is_heard n x ≡ h →
            ((is_recorded n x || is_heard n x) && nat_lt MAX_COUNT (x.ever + p))
            ≡ (is_capture_flow e.flow && (is_recorded n x && nat_lt MAX_COUNT (x.ever + p)))
        go true h er eh =
            ap (λ b. (b || is_heard n x) && nat_lt MAX_COUNT (x.ever + p)) er
            ∙ ap₂ (λ f b. is_capture_flow f && (b && nat_lt MAX_COUNT (x.ever + p)))
            (sym (recorded_flow x belongs er)) (sym er)
        go false true er eh =
            let le = heard_behind x belongs eh in
            let within : nat_lt MAX_COUNT (x.ever + p) ≡ false = grind (arith, nat_tests) in
            ap₂ (λ a b. (a || b) && nat_lt MAX_COUNT (x.ever + p)) er eh
            ∙ within
            ∙ ap (λ f. is_capture_flow f && (is_recorded n x && nat_lt MAX_COUNT (x.ever + p)))
            (sym (heard_flow x belongs eh))
        go false false er eh =
            ap₂ (λ a b. (a || b) && nat_lt MAX_COUNT (x.ever + p)) er eh
            ∙ and_false (is_capture_flow e.flow)
            ∙ ap (λ b. is_capture_flow e.flow && (b && nat_lt MAX_COUNT (x.ever + p))) (sym er)

    -- a stream is worn if the endpoint captures, and an entry that records it is
    pub any_worn : next_at n seats + p ≤ MAX_COUNT → (datas : ℕ → BufferData) (xs : List (StreamEntry E)) →
        AllByRecursion (Belongs book seats) xs →
        list_any (is_worn n p) (streams_of datas xs) ≡ (is_capture_flow e.flow && list_any (is_worn_entry n p) xs)
    any_worn room datas [] belong = and_false (is_capture_flow e.flow)
    any_worn room datas (x ∷ xs) belong =
        ap₂ (λ a b. a || b) (one_worn room datas x belong.0) (any_worn room datas xs belong.1)
        ∙ and_either (is_capture_flow e.flow) (is_worn_entry n p x) (list_any (is_worn_entry n p) xs)

    one_counts : (x : StreamEntry E) → Belongs book seats x → (is_capture_flow e.flow && is_worn_entry n p x) ≡ false →
        is_recorded n x ≡ true → x.ever + p ≤ MAX_COUNT
    one_counts x belongs h r =
        let within : nat_lt MAX_COUNT (x.ever + p) ≡ false =
        ap₂ (λ f b. is_capture_flow f && (b && nat_lt MAX_COUNT (x.ever + p)))
        (sym (recorded_flow x belongs r)) (sym r) ∙ h in
        grind (arith, nat_tests)

    each_counts : (xs : List (StreamEntry E)) → AllByRecursion (Belongs book seats) xs →
        (is_capture_flow e.flow && list_any (is_worn_entry n p) xs) ≡ false →
        AllByRecursion (λ x. is_recorded n x ≡ true → x.ever + p ≤ MAX_COUNT) xs
    each_counts [] belong h = tt
    each_counts (x ∷ xs) belong h =
        let parts = neither (is_capture_flow e.flow) (is_worn_entry n p x) (list_any (is_worn_entry n p) xs) h in
        (one_counts x belong.0 parts.0, each_counts xs belong.1 parts.1)

    -- if none is, those that record it can count the frames
    pub all_count : (xs : List (StreamEntry E)) → AllByRecursion (Belongs book seats) xs →
        (is_capture_flow e.flow && list_any (is_worn_entry n p) xs) ≡ false →
        All (λ x. is_recorded n x ≡ true → x.ever + p ≤ MAX_COUNT) xs
    all_count xs belong h =
        All-from_recursion (λ x. is_recorded n x ≡ true → x.ever + p ≤ MAX_COUNT) xs (each_counts xs belong h)
