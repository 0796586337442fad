-- The state of a board once clients left it.
use Rattle.std.proofs.Common.{◌≡◌, ℕ, ◌==◌, not, List, [], ◌∷◌, filter, Bool, true, false, cond, Option, Some}
use Rattle.std.proofs.Common.{None, refl, sym, ap, ap₂, ◌∙◌, subst, eqb-true, eq-eqb, get_or, if◌then◌else◌}
use Rattle.std.proofs.lemmas.Bool.{false≢true}
use Rattle.std.proofs.lemmas.Option.{none-some}
use Rattle.std.proofs.lemmas.List.Elements.{All-from_recursion, recursion_from_All}
use Rattle.std.specs.List.{AllByRecursion}
use Rattle.ca_base.specs.declared.ids.Gate.TheVariants as gate
use Rattle.ca_base.specs.declared.ids.Reason.TheVariants.{Released}
use Rattle.buffer_ring.specs.declared.step.Deed.TheVariants as deed
use Rattle.buffer_ring.specs.declared.step.StoreStep.{StoreStep}
use Rattle.buffer_ring.specs.declared.step.StoreStep.TheVariants as step
use Rattle.ca_stage.specs.Stage.{BufferData, Stage, Stream}
use Rattle.ca_stage.specs.Moves.{after_moves}
use Rattle.ca_stage.specs.Tally.{Tally, tally_after}
use Rattle.ca_stage.specs.Order.{RisesFrom, is_among}
use Rattle.ca_stage.specs.Present.{present}
use Rattle.session_manager.specs.declared.session.Session.{Session}
use Rattle.event_notices.specs.Notices.{Notices}
use Rattle.ca_machine.specs.declared.state.Client.{Client}
use Rattle.ca_machine.specs.declared.state.Connection.{Connection}
use Rattle.ca_machine.specs.State.{State, live_clients}
use Rattle.ca_machine.specs.Plan.{moved}
use Rattle.ca_machine.specs.Clients.{closes, is_used, with_clients}
use Rattle.ca_machine.proofs.ClosesOfClients.{present_after_closes}
use Rattle.period_engine.specs.declared.entry.StreamEntry.{StreamEntry}
use Rattle.period_engine.specs.Entries.{stream_of, stream_with, streams_of}
use Rattle.period_engine.specs.Agreement.{ArePacked, data_after}
use Rattle.service_book.specs.Leaving.{is_live}
use Rattle.service_book.specs.declared.book.Book.{Book}
use Rattle.service_board.specs.Board.{stage_with, state_of}
use Rattle.service_board.specs.Does.{Made, after_steps, layout_at, store_at}
use Rattle.service_board.specs.Leaving.{AreClosed, Forgets}
use Rattle.stream_entries.specs.Leaving.{Keeps, is_in_use, is_of_live}
use Rattle.service_board.specs.declared.board.Board.{Board}
use Rattle.service_board.proofs.GoingSteps.{GoesUnlessLive, made_of, none_of_live, packed_of, steps_of}
use Rattle.service_board.proofs.KeptEntries.{apart, kept_alike, kept_mapped}
use Rattle.stream_entries.proofs.SessionStates.{any_mapped}

-- a client that is live
live_is : (clients : List Client) (n : ℕ) → is_among n (live_clients clients) ≡ is_live clients n
live_is clients n = any_mapped (λ m. m == n) (λ c. c.client.0) clients

-- those that are left aren't among those that go
left_apart : (p : Client → Bool) (clients : List Client) → RisesFrom 0 (live_clients clients) → (n : ℕ) →
    is_among n (live_clients (filter (λ c. not (p c)) clients)) ≡ true →
    is_among n (live_clients (filter p clients)) ≡ false
left_apart p clients rises n left =
    live_is (filter p clients) n
    ∙ apart (λ c. c.client.0) p n 0 clients rises (sym (live_is (filter (λ c. not (p c)) clients) n) ∙ left)

module _ {E : Type 0} (moves : E → List StoreStep → E → Type 0) (left : List Client) (entries : List (StreamEntry E))
    (goes : AllByRecursion (GoesUnlessLive moves left) entries) (datas : ℕ → BufferData) where
  -- the data once the stores went
  abbrev pub datas_left : ℕ → BufferData
  datas_left = after_steps (steps_of moves left entries goes) entries datas

  same_stream : (e : StreamEntry E) → is_of_live left e ≡ true → stream_of datas e ≡ stream_of datas_left e
  same_stream e live =
      ap (λ ss. stream_with (data_after (layout_at e.client.0 entries) ss (datas e.client.0)) e)
      (sym (none_of_live moves left entries goes e.client.0 live))

  -- the streams of live clients are left as they were
  pub streams_left :
      filter (λ (s : Stream). is_among s.client (live_clients left)) (streams_of datas entries)
      ≡ streams_of datas_left (filter (is_of_live left) entries)
  streams_left =
      kept_mapped (stream_of datas) (λ (s : Stream). is_among s.client (live_clients left)) (is_of_live left)
      (λ e. live_is left e.client.0) entries
      ∙ kept_alike (stream_of datas) (stream_of datas_left) (is_of_live left) same_stream entries

-- tests that say the same
filter_alike : {A : Type 0} (p q : A → Bool) → ((a : A) → p a ≡ q a) → (xs : List A) → filter p xs ≡ filter q xs
filter_alike p q h [] = refl
filter_alike p q h (x ∷ xs) = ap₂ (λ v ys. cond v (x ∷ ys) ys) (h x) (filter_alike p q h xs)

-- a session of one of these entries is one of their streams
used_is : {E : Type 0} (datas : ℕ → BufferData) (entries : List (StreamEntry E)) (s : Session) →
    is_used (streams_of datas entries) s ≡ is_in_use entries s
used_is datas entries s = any_mapped (λ (x : Stream). x.session == s.no.0) (stream_of datas) entries

-- a board once clients left the book, and, it may be, their connection
abbrev pub without_clients : {D E : Type 0} → Board D E → Book → Board D E
without_clients b book =
    record b {
      book = record (b.book) {
        connections = book.connections;
        clients = book.clients;
        notices = book.notices;
      };
    }

module _ {D E : Type 0} (moves : E → List StoreStep → E → Type 0) (b new : Board D E) (book : Book) (p : Client → Bool)
    (forgets : Forgets moves (without_clients b book) new)
    (left : book.clients.items ≡ filter (λ c. not (p c)) b.book.clients.items)
    (rises : RisesFrom 0 (live_clients b.book.clients.items)) where
  abbrev pub goes : AllByRecursion (GoesUnlessLive moves book.clients.items) b.entries.items
  goes = recursion_from_All (GoesUnlessLive moves book.clients.items) b.entries.items forgets.streams.gone

  abbrev pub leaving_steps : ℕ → List StoreStep
  leaving_steps = steps_of moves book.clients.items b.entries.items goes

  abbrev pub gone_clients : List Client
  gone_clients = filter p b.book.clients.items

  none_gone : (n : ℕ) → is_among n (live_clients book.clients.items) ≡ true →
      is_among n (live_clients gone_clients) ≡ false
  none_gone =
      subst (λ cs. (n : ℕ) → is_among n (live_clients cs) ≡ true → is_among n (live_clients gone_clients) ≡ false)
      (sym left) (left_apart p b.book.clients.items rises)

  module _ (datas : ℕ → BufferData) where
    abbrev before : Stage
    before = stage_with datas b.seats.items b.entries.items

    abbrev after : Stage
    after = stage_with (after_steps leaving_steps b.entries.items datas) b.seats.items new.entries.items

    abbrev closed_stage : Stage
    closed_stage = present (live_clients book.clients.items) (after_moves before (closes gone_clients))

    stage_is : after ≡ closed_stage
    stage_is =
        ap (λ es. stage_with (after_steps leaving_steps b.entries.items datas) b.seats.items es) forgets.streams.left
        ∙ sym (ap (λ ss. record { playheads = before.playheads; streams = ss })
        (streams_left moves book.clients.items b.entries.items goes datas))
        ∙ sym (present_after_closes gone_clients book.clients.items before none_gone)

    -- the state with a stage, sessions and clients, and with the connections and the notices of the book
    abbrev built : Tally → Stage → List Session → List Client → State
    built t stage sessions clients = record (state_of datas t b) {
      stage = stage;
      sessions = sessions;
      clients = clients;
      connections = book.connections.items;
      notices = book.notices.items;
    }

    sessions_are : new.book.sessions.list ≡ filter (is_used after.streams) b.book.sessions.list
    sessions_are =
        forgets.sessions
        ∙ filter_alike (is_in_use new.entries.items) (is_used after.streams)
        (λ s. sym (used_is (after_steps leaving_steps b.entries.items datas) new.entries.items s))
        b.book.sessions.list

    pub state_left : (t : Tally) (connections : List Connection) (notices : List Notices) →
        book.connections.items ≡ connections → book.notices.items ≡ notices →
        state_of (after_steps leaving_steps b.entries.items datas) (tally_after t before (closes gone_clients)) new
        ≡ with_clients (filter (λ c. not (p c)) b.book.clients.items)
        (moved (closes gone_clients)
        (record (state_of datas t b) { connections = connections; notices = notices }))
    state_left t connections notices same told =
        let tally : Tally = tally_after t before (closes gone_clients) in
        ap (state_of (after_steps leaving_steps b.entries.items datas) tally) forgets.rest
        ∙ ap (λ made. record (built tally after new.book.sessions.list book.clients.items) {
          sessions_made = made;
        }) forgets.made
        ∙ ap (λ ss. built tally after ss book.clients.items) sessions_are
        ∙ ap (λ (st : Stage). built tally st (filter (is_used st.streams) b.book.sessions.list) book.clients.items)
        stage_is
        ∙ ap₂ (λ ns qs. with_clients book.clients.items (moved (closes gone_clients)
        (record (state_of datas t b) { connections = ns; notices = qs }))) same told
        ∙ ap (λ cs. with_clients cs (moved (closes gone_clients)
        (record (state_of datas t b) { connections = connections; notices = notices }))) left

  -- the stores took these steps
  pub leaving_made : (given : Option E) (stays : (a : E) → moves a [] a) (client : ℕ) →
      Made moves given (leaving_steps client) (store_at client b.entries.items) (store_at client new.entries.items)
  leaving_made given stays client =
      subst (λ es. Made moves given (leaving_steps client) (store_at client b.entries.items) (store_at client es))
      (sym forgets.streams.left) (made_of moves book.clients.items given stays b.entries.items goes client)

  -- which took no frames
  pub leaving_packed : (client : ℕ) → ArePacked (layout_at client b.entries.items) (leaving_steps client)
  leaving_packed client = packed_of moves book.clients.items b.entries.items goes client

-- ---- each open store that is gone was closed

-- an entry that is there has a store there
none_stored : {E : Type 0} (n : ℕ) (entries : List (StreamEntry E)) → store_at n entries ≡ None →
    AllByRecursion (λ (e : StreamEntry E). e.client.0 ≡ n → ⊥) entries
none_stored n [] h = tt
none_stored n (e ∷ entries) h = by (e.client.0 == n) refl (λ k. none_stored n entries k) h
  where
    by : (own : Bool) → (e.client.0 == n) ≡ own →
        (store_at n entries ≡ None → AllByRecursion (λ (e : StreamEntry _). e.client.0 ≡ n → ⊥) entries) →
        (if own then Some e.store else store_at n entries) ≡ None →
        AllByRecursion (λ (e : StreamEntry _). e.client.0 ≡ n → ⊥) (e ∷ entries)
    by true same rest h = absurd (none-some e.store (sym h))
    by false other rest h = (λ k. false≢true (sym other ∙ eq-eqb e.client.0 n k), rest h)

-- a live client's store isn't gone
still_stored : {E : Type 0} (clients : List Client) (n : ℕ) (entries : List (StreamEntry E)) →
    is_live clients n ≡ true → store_at n (filter (is_of_live clients) entries) ≡ None → store_at n entries ≡ None
still_stored clients n [] l h = refl
still_stored clients n (e ∷ entries) l h =
    by (e.client.0 == n) refl (is_of_live clients e) refl (λ k. still_stored clients n entries l k) h
  where
    by : (own : Bool) → (e.client.0 == n) ≡ own → (live : Bool) → is_of_live clients e ≡ live →
        (store_at n (filter (is_of_live clients) entries) ≡ None → store_at n entries ≡ None) →
        store_at n
        (cond live (e ∷ filter (is_of_live clients) entries) (filter (is_of_live clients) entries)) ≡ None →
        (if own then Some e.store else store_at n entries) ≡ None
    by true same true here rest h =
        absurd (none-some e.store (sym h ∙
        ap (λ v. if v then Some e.store else store_at n (filter (is_of_live clients) entries)) same))
    by true same false gone rest h =
        absurd (false≢true (sym gone ∙ ap (is_live clients) (eqb-true e.client.0 n same) ∙ l))
    by false other true here rest h =
        rest (sym (ap (λ v. if v then Some e.store else store_at n (filter (is_of_live clients) entries)) other) ∙ h)
    by false other false gone rest h = rest h

pub are_closed : {E : Type 0} (moves : E → List StoreStep → E → Type 0) (clients : List Client)
    (old new : List (StreamEntry E)) → Keeps moves clients old new → AreClosed moves old new
are_closed {E} moves clients old new keeps k d lt opens none =
    by (is_of_live clients (get_or old k d)) refl
  where
    by : (live : Bool) → is_of_live clients (get_or old k d) ≡ live →
        (found : ℕ) × (last : E)
        × moves (get_or old k d).store (step.Acts found gate.Open (deed.Closes Released) ∷ []) last
    by true live =
        absurd (All-from_recursion _ old
        (none_stored (get_or old k d).client.0 old (still_stored clients (get_or old k d).client.0 old live
        (sym (ap (store_at (get_or old k d).client.0) keeps.left) ∙ none))) k d lt refl)
    by false gone =
        let goes = keeps.gone k d lt gone in
        let once = goes.closes opens in
        (once.0, goes.last, subst (λ ss. moves (get_or old k d).store ss goes.last) once.1 goes.made)

-- of a refused event nothing is gone
pub none_closed : {E : Type 0} (moves : E → List StoreStep → E → Type 0) (entries : List (StreamEntry E)) →
    AreClosed moves entries entries
none_closed moves entries k d lt opens none =
    absurd (All-from_recursion _ entries (none_stored (get_or entries k d).client.0 entries none) k d lt refl)
