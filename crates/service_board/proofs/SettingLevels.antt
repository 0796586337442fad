-- Calls that set levels: the board stays in order.
use Rattle.std.proofs.Common.{◌≡◌, ℕ, ◌≤◌, ◌==◌, ◌||◌, List, set, Bool, true, false, Option, Some, None, Ok, refl, sym}
use Rattle.std.proofs.Common.{ap, ◌∙◌, if◌then◌else◌}
use Rattle.std.specs.Option.{option_map}
use Rattle.std.specs.Vec.{with_item}
use Rattle.std.proofs.lemmas.Bool.{or_parts, true≢false}
use Rattle.std.proofs.lemmas.List.Elements.{All-set}
use Rattle.ca_base.specs.declared.limits.TheConstants.{MAX_LEVEL}
use Rattle.buffer_ring.specs.declared.step.EndState.{EndState}
use Rattle.ca_stage.proofs.Lists.{find_map}
use Rattle.session_manager.specs.declared.changes.Change.{Change}
use Rattle.session_manager.specs.declared.changes.Change.TheVariants as change
use Rattle.session_manager.specs.declared.session.Session.{Session}
use Rattle.session_manager.specs.Changes.{Sets, after, change_rows}
use Rattle.session_manager.specs.Sessions.{SessionList, is_session, session_at}
use Rattle.ca_machine.specs.declared.state.Client.{Client}
use Rattle.period_engine.specs.declared.entry.StreamEntry.{StreamEntry}
use Rattle.service_book.specs.Gains.{gains_by, gains_if}
use Rattle.service_book.specs.InOrder.{IsBook}
use Rattle.service_book.specs.declared.book.Book.{Book}
use Rattle.service_board.specs.Gains.{changes_gains}
use Rattle.service_board.specs.InOrder.{Belongs, InOrder}
use Rattle.service_board.specs.declared.board.Board.{Board}
use Rattle.service_board.specs.declared.board.Seat.{Seat}
use Rattle.service_board.proofs.ChangedClients.{Named, changed_if, clients_order, one_changes, rebooked, with_clients}

-- gains that are as they were, of a stream that may be exclusive
pub gains_alike : (exclusive : Bool) (levels : List ℕ) (s t : Option Session) → gains_by levels s ≡ gains_by levels t →
    gains_if exclusive levels s ≡ gains_if exclusive levels t
gains_alike true levels s t same = refl
gains_alike false levels s t same = same

-- ---- sessions

-- a book with other sessions, whose levels may have changed
abbrev pub with_sessions : Bool → SessionList → Book → Book
with_sessions changed sessions book = record book { sessions = sessions; levels_changed = changed }

-- unless it says that levels changed, each session's gains are those that they were
abbrev pub KeepsGains : Bool → SessionList → Book → Type 0
KeepsGains changed sessions book =
    changed ≡ false →
    (book.levels_changed ≡ false)
    × ((levels : List ℕ) (number : ℕ) →
    gains_by levels (session_at number sessions.list) ≡ gains_by levels (session_at number book.sessions.list))

module _ (changed : Bool) (sessions : SessionList) (book : Book) (keeps : KeepsGains changed sessions book) where
  still_book : IsBook book → IsBook (with_sessions changed sessions book)
  still_book h = record {
    rooms = record { connections = h.rooms.connections; clients = h.rooms.clients; notices = h.rooms.notices };
    apart = h.apart;
    opens = h.opens;
    clients = h.clients;
    few_clients = h.few_clients;
    made = h.made;
    clients_made = h.clients_made;
    endpoints = h.endpoints;
    added = h.added;
    levels = h.levels;
    owned = h.owned;
  }

  still_belongs : {E : Type 0} (seats : List Seat) (e : StreamEntry E) → Belongs book seats e →
      Belongs (with_sessions changed sessions book) seats e
  still_belongs seats e h = record {
    client = h.client;
    live = h.live;
    on = h.on;
    opens = h.opens;
    within = h.within;
    gains = λ fresh.
        let kept = keeps fresh in
        h.gains kept.0 ∙ gains_alike e.exclusive h.client.levels _ _ (sym (kept.1 h.client.levels e.session.0));
  }

pub sessions_order : {D E : Type 0} (state : E → EndState) (b : Board D E) (changed : Bool) (sessions : SessionList) →
    KeepsGains changed sessions b.book → InOrder state b →
    InOrder state (record b { book = with_sessions changed sessions b.book })
sessions_order state b changed sessions keeps order =
    rebooked state b (with_sessions changed sessions b.book) refl
    (still_book changed sessions b.book keeps order.book)
    (still_belongs changed sessions b.book keeps b.seats.items) order

-- a change of something else leaves the gains of all sessions
module _ (by : Change) where
  same_gains : (by : Change) → changes_gains by ≡ false → (levels : List ℕ) (s : Session) →
      gains_by levels (Some (after by s)) ≡ gains_by levels (Some s)
  same_gains (change.Level level) text levels s = absurd (true≢false text)
  same_gains (change.Mute mute) text levels s = absurd (true≢false text)
  same_gains (change.Channel channel level) text levels s = absurd (true≢false text)
  same_gains (change.Display name) text levels s = refl
  same_gains (change.Icon path) text levels s = refl
  same_gains (change.Grouping guid) text levels s = refl

  own_number : (by : Change) (s : Session) → (after by s).no ≡ s.no
  own_number (change.Level level) s = refl
  own_number (change.Mute mute) s = refl
  own_number (change.Channel channel level) s = refl
  own_number (change.Display name) s = refl
  own_number (change.Icon path) s = refl
  own_number (change.Grouping guid) s = refl

  abbrev after_if : Bool → Session → Session
  after_if own s = if own then after by s else s

  still_numbered : (own : Bool) (s : Session) → (after_if own s).no ≡ s.no
  still_numbered true s = own_number by s
  still_numbered false s = refl

  gains_where : changes_gains by ≡ false → (own : Bool) (levels : List ℕ) (s : Session) →
      gains_by levels (Some (after_if own s)) ≡ gains_by levels (Some s)
  gains_where text true levels s = same_gains by text levels s
  gains_where text false levels s = refl

  gains_kept : changes_gains by ≡ false → (number : ℕ) (levels : List ℕ) (o : Option Session) →
      gains_by levels (option_map (λ s. after_if (is_session number s) s) o) ≡ gains_by levels o
  gains_kept text number levels None = refl
  gains_kept text number levels (Some s) = gains_where text (is_session number s) levels s

  pub gains_stay : (number : ℕ) (sessions : SessionList) (book : Book) →
      Sets number (change_rows by) (after by) (Ok tt) book.sessions sessions →
      KeepsGains (book.levels_changed || changes_gains by) sessions book
  gains_stay number sessions book sets = λ same. (
    (or_parts book.levels_changed (changes_gains by) same).0,
    λ levels n.
        ap (λ (l : SessionList). gains_by levels (session_at n l.list)) sets.now
        ∙ ap (gains_by levels)
        (find_map (is_session n) (λ s. after_if (is_session number s) s)
        (λ s. ap (λ k. k.0 == n) (still_numbered (is_session number s) s)) book.sessions.list)
        ∙ gains_kept (or_parts book.levels_changed (changes_gains by) same).1 number levels
        (session_at n book.sessions.list),
  )

-- ---- a client's levels

-- a client with the level of a channel set
abbrev pub leveled : ℕ → ℕ → Client → Client
leveled channel level c = record c { levels = set c.levels channel level }

-- and a book in which it stands at this place
abbrev pub leveled_at : ℕ → ℕ → ℕ → Client → Book → Book
leveled_at at channel level c book = with_clients (with_item book.clients at (leveled channel level c)) true book

-- a board stays in order after a level of a call's client was set
pub leveled_order : {D E : Type 0} (state : E → EndState) (b : Board D E) (conn client channel level at : ℕ)
    (c : Client) → Named conn client b.book.clients.items at c → level ≤ MAX_LEVEL → InOrder state b →
    InOrder state (record b { book = leveled_at at channel level c b.book })
leveled_order state b conn client channel level at c named most order =
    clients_order state b (changed_if conn client (leveled channel level))
    (with_item b.book.clients at (leveled channel level c)) true
    (one_changes conn client (leveled channel level) b.book at c true named order.book.clients (λ c. refl) (λ c. refl)
    (λ c. refl) (λ c h. All-set (λ n. n ≤ MAX_LEVEL) c.levels channel level most h) (λ same. absurd (true≢false same)))
    order
