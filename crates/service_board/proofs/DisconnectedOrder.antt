-- A board is in order after a close of streams within a scope, with another book and other seats.
use Rattle.std.proofs.Common.{◌≡◌, ℕ, ◌≤◌, ◌==◌, ◌&&◌, List, [], ◌∷◌, map, Bool, true, false, Option}
use Rattle.std.proofs.Common.{Some, None, refl, sym, ap, ap₂, ◌∙◌, subst, arith, if◌then◌else◌}
use Rattle.std.specs.Global.{Vec}
use Rattle.std.specs.List.{All, AllByRecursion, AllZip, find}
use Rattle.std.specs.Vec.{vec_capacity}
use Rattle.std.proofs.lemmas.Bool.{true≢false}
use Rattle.std.proofs.lemmas.List.Elements.{All-from_recursion, recursion_from_All}
use Rattle.ca_base.specs.declared.ids.Gate.TheVariants as gate
use Rattle.ca_base.specs.declared.ids.Reason.{Reason}
use Rattle.ca_base.specs.declared.ids.SessionNo.{SessionNo}
use Rattle.ca_base.specs.declared.limits.TheConstants.{CLIENTS, ENDPOINTS}
use Rattle.volume_stack.specs.Scaling.{unit_gain}
use Rattle.buffer_ring.specs.declared.step.EndState.{EndState}
use Rattle.buffer_ring.specs.declared.step.StoreStep.{StoreStep}
use Rattle.ca_stage.specs.Stage.{Stream, is_open_gate, no_data}
use Rattle.ca_stage.specs.Moves.{closed, moved}
use Rattle.ca_stage.specs.Order.{RisesFrom}
use Rattle.ca_stage.proofs.Lists.{chosen}
use Rattle.session_manager.specs.declared.session.Session.{Session}
use Rattle.session_manager.specs.Sessions.{session_at}
use Rattle.ca_machine.specs.declared.state.Client.{Client}
use Rattle.ca_machine.specs.Devices.{is_within}
use Rattle.device_registry.specs.declared.endpoint.Endpoint.{Endpoint}
use Rattle.device_registry.specs.Endpoints.{EndpointList}
use Rattle.role_defaults.specs.declared.choices.Choices.{Choices}
use Rattle.period_engine.specs.declared.entry.StreamEntry.{StreamEntry}
use Rattle.period_engine.specs.Entries.{stream_with}
use Rattle.period_engine.specs.SubSteps.{Turned}
use Rattle.service_book.specs.InOrder.{IsBook}
use Rattle.service_book.specs.Gains.{gains_if}
use Rattle.service_book.specs.declared.book.Book.{Book}
use Rattle.stream_entries.specs.Closing.{Disconnects, closes_if, is_open_within}
use Rattle.service_board.specs.InOrder.{Belongs, InOrder, IsOn, Seats}
use Rattle.service_board.specs.declared.board.Board.{Board}
use Rattle.service_board.specs.declared.board.Seat.{Seat}
use Rattle.service_board.proofs.AlikeEntries.{IsKept, kept_alike}
use Rattle.service_board.proofs.ByClient.{clients_of}
use Rattle.service_board.proofs.StreamMoves.{on_kept}

-- a close takes the open streams of an endpoint of this number
abbrev pub is_lost : Bool → Option ℕ → ℕ → Bool
is_lost false scope n = false
is_lost true None n = true
is_lost true (Some number) n = n == number

-- ---- an entry that is open still

eq-le : {m n : ℕ} → m ≡ n → m ≤ n
eq-le e = omega (arith, e)

closed_opens : (reason : Reason) → gate.Closed reason ≡ gate.Open → ⊥
closed_opens reason h = cc

outside_scope : (here opens : Bool) → (here && opens) ≡ false → opens ≡ true → here ≡ false
outside_scope true opens h e = absurd (true≢false (sym e ∙ h))
outside_scope false opens h e = refl

lost_within : (scope : Option ℕ) (s : Stream) → is_lost true scope s.endpoint ≡ is_within scope s
lost_within None s = refl
lost_within (Some number) s = refl

module _ {E : Type 0} (moves : E → List StoreStep → E → Type 0) where
  pub still_open : (lost : Bool) (reason : Reason) (scope : Option ℕ) (a b : StreamEntry E) →
      Turned moves (closes_if lost reason scope) a b → b.gate ≡ gate.Open →
      (a.gate ≡ gate.Open) × (is_lost lost scope a.endpoint.0 ≡ false)
  still_open false reason scope a b turned opens = (sym turned.gate ∙ opens, refl)
  still_open true reason scope a b turned opens = by (is_open_within scope (stream_with no_data a)) refl
    where
      gate_by : (v : Bool) → is_open_within scope (stream_with no_data a) ≡ v →
          b.gate ≡ (if v then moved (closed reason) (stream_with no_data a) else stream_with no_data a).gate
      gate_by v e =
          turned.gate
          ∙ ap (λ w. (if w then moved (closed reason) (stream_with no_data a) else stream_with no_data a).gate) e

      by : (v : Bool) → is_open_within scope (stream_with no_data a) ≡ v →
          (a.gate ≡ gate.Open) × (is_lost true scope a.endpoint.0 ≡ false)
      by true e = absurd (closed_opens reason (sym (gate_by true e) ∙ opens))
      by false e =
          let same : b.gate ≡ a.gate = gate_by false e in
          let was : a.gate ≡ gate.Open = sym same ∙ opens in (
            was,
            lost_within scope (stream_with no_data a)
                ∙ outside_scope (is_within scope (stream_with no_data a)) (is_open_gate a.gate) e (ap is_open_gate was),
          )

  same_position : (lost : Bool) (reason : Reason) (scope : Option ℕ) (a b : StreamEntry E) →
      Turned moves (closes_if lost reason scope) a b → b.position ≡ a.position
  same_position false reason scope a b turned = turned.position
  same_position true reason scope a b turned =
      turned.position
      ∙ chosen (λ (s : Stream). s.position ≡ a.position) (is_open_within scope (stream_with no_data a))
      (moved (closed reason) (stream_with no_data a)) (stream_with no_data a) refl refl

  same_ever : (lost : Bool) (reason : Reason) (scope : Option ℕ) (a b : StreamEntry E) →
      Turned moves (closes_if lost reason scope) a b → b.ever ≡ a.ever
  same_ever false reason scope a b turned = turned.ever
  same_ever true reason scope a b turned =
      turned.ever
      ∙ chosen (λ (s : Stream). s.ever ≡ a.ever) (is_open_within scope (stream_with no_data a))
      (moved (closed reason) (stream_with no_data a)) (stream_with no_data a) refl refl

  clients_turned : (f : Stream → Stream) (xs ys : List (StreamEntry E)) → AllZip (Turned moves f) xs ys →
      clients_of ys ≡ clients_of xs
  clients_turned f [] [] h = refl
  clients_turned f (x ∷ xs) (y ∷ ys) h =
      ap₂ (λ n ns. n ∷ ns) (ap (λ c. c.0) h.0.same.client) (clients_turned f xs ys h.1)
  clients_turned f [] (y ∷ ys) h = absurd h
  clients_turned f (x ∷ xs) [] h = absurd h

  are_kept : (lost : Bool) (reason : Reason) (scope : Option ℕ) (xs ys : List (StreamEntry E)) →
      AllZip (Turned moves (closes_if lost reason scope)) xs ys → AllZip IsKept xs ys
  are_kept lost reason scope [] [] h = tt
  are_kept lost reason scope (x ∷ xs) (y ∷ ys) h = (
    record {
      endpoint = ap (λ e. e.0) h.0.same.endpoint;
      exclusive = h.0.same.exclusive;
      period = h.0.same.period;
      opens = λ opens. (still_open lost reason scope x y h.0 opens).0;
    },
    are_kept lost reason scope xs ys h.1,
  )
  are_kept lost reason scope [] (y ∷ ys) h = absurd h
  are_kept lost reason scope (x ∷ xs) [] h = absurd h

  -- ---- entries still belong

  module _ (lost : Bool) (reason : Reason) (scope : Option ℕ) (book book' : Book) (seats seats' : List Seat)
      (clients : book'.clients.items ≡ book.clients.items) (sessions : book'.sessions ≡ book.sessions)
      (changed : book'.levels_changed ≡ book.levels_changed)
      (keeps : (e : StreamEntry E) → is_lost lost scope e.endpoint.0 ≡ false →
      IsOn e book.registry.list seats → IsOn e book'.registry.list seats')
    where
      one_belongs : (a b : StreamEntry E) → Turned moves (closes_if lost reason scope) a b →
          Belongs book seats a → Belongs book' seats' b
      one_belongs a b turned h =
          let client : b.client.0 ≡ a.client.0 = ap (λ c. c.0) turned.same.client in
          let endpoint : b.endpoint.0 ≡ a.endpoint.0 = ap (λ e. e.0) turned.same.endpoint in
          record {
            client = h.client;
            live =
                ap (λ n. find (λ (c : Client). c.client.0 == n) book'.clients.items) client
                ∙ ap (find (λ (c : Client). c.client.0 == a.client.0)) clients
                ∙ h.live;
            on = h.on ∙ sym endpoint;
            opens = λ opens.
                let was = still_open lost reason scope a b turned opens in
                on_kept book'.registry.list seats' a b turned.same
                (eq-le (same_position lost reason scope a b turned)) (eq-le (same_ever lost reason scope a b turned))
                (keeps a was.1 (h.opens was.0));
            within = subst (All (λ gain. gain ≤ unit_gain)) (sym turned.same.gains) h.within;
            gains = λ fresh.
                turned.same.gains
                ∙ h.gains (sym changed ∙ fresh)
                ∙ ap₂ (λ (s : SessionNo) (list : List Session).
                gains_if a.exclusive h.client.levels (session_at s.0 list)) (sym turned.same.session)
                (ap (λ s. s.list) (sym sessions))
                ∙ ap (λ v. gains_if v h.client.levels (session_at b.session.0 book'.sessions.list))
                (sym turned.same.exclusive);
          }

      all_belong : (xs ys : List (StreamEntry E)) → AllZip (Turned moves (closes_if lost reason scope)) xs ys →
          AllByRecursion (Belongs book seats) xs → AllByRecursion (Belongs book' seats') ys
      all_belong [] [] h belong = tt
      all_belong (x ∷ xs) (y ∷ ys) h belong = (one_belongs x y h.0 belong.0, all_belong xs ys h.1 belong.1)
      all_belong [] (y ∷ ys) h belong = absurd h
      all_belong (x ∷ xs) [] h belong = absurd h

  -- ---- the board

  module _ {D : Type 0} (state : E → EndState) (b : Board D E) (order : InOrder state b) (lost : Bool)
      (reason : Reason) (scope : Option ℕ) (entries : Vec (StreamEntry E))
      (loses : Disconnects moves state lost reason scope b.entries entries) (book : Book) (seats : Vec Seat) where
    pub disconnected_order : book.clients.items ≡ b.book.clients.items → book.sessions ≡ b.book.sessions →
        book.levels_changed ≡ b.book.levels_changed →
        ((e : StreamEntry E) → is_lost lost scope e.endpoint.0 ≡ false →
        IsOn e b.book.registry.list b.seats.items → IsOn e book.registry.list seats.items) →
        AllZip Seats seats.items book.registry.list → IsBook book → ENDPOINTS ≤ vec_capacity seats →
        InOrder state (record b { book = book; seats = seats; entries = entries })
    disconnected_order clients sessions changed keeps fits is_book seat_room = record {
      order =
          subst (RisesFrom 0)
          (sym (clients_turned (closes_if lost reason scope) b.entries.items entries.items loses.turned)) order.order;
      rested = loses.rested;
      belong =
          All-from_recursion (Belongs book seats.items) entries.items
          (all_belong lost reason scope b.book book b.seats.items seats.items clients sessions changed keeps
          b.entries.items entries.items loses.turned
          (recursion_from_All (Belongs b.book b.seats.items) b.entries.items order.belong));
      alike =
          kept_alike b.entries.items entries.items
          (are_kept lost reason scope b.entries.items entries.items loses.turned) order.alike;
      seats = fits;
      book = is_book;
      room = subst (λ n. CLIENTS ≤ n) (sym loses.room) order.room;
      seat_room = seat_room;
      draft_room = order.draft_room;
    }

-- ---- the book

-- a book with other endpoints, whose numbers rise up to the last one, other choices, or shut down
pub other_book : (book : Book) (registry : EndpointList) (choices : Choices) (is_shut : Bool) →
    RisesFrom 0 (map (λ (e : Endpoint). e.no.0) registry.list) →
    All (λ (e : Endpoint). e.no.0 ≤ registry.last) registry.list → IsBook book →
    IsBook (record book { registry = registry; choices = choices; is_shut = is_shut })
other_book book registry choices is_shut endpoints added h = record {
  rooms = record {
    connections = h.rooms.connections;
    clients = h.rooms.clients;
    notices = h.rooms.notices;
  };
  apart = h.apart;
  opens = h.opens;
  clients = h.clients;
  few_clients = h.few_clients;
  made = h.made;
  clients_made = h.clients_made;
  endpoints = endpoints;
  added = added;
  levels = h.levels;
  owned = h.owned;
}
