-- What is told of an event, and the board after it.
use Rattle.std.proofs.Common.{◌≡◌, ◌≤◌, List, length, map, sym, ap, ◌∙◌, subst}
use Rattle.std.specs.Global.{Vec}
use Rattle.std.specs.Vec.{vec_capacity}
use Rattle.std.proofs.lemmas.List.{length-map}
use Rattle.std.proofs.lemmas.List.Elements.{All-weaker}
use Rattle.ca_base.specs.declared.limits.TheConstants.{NOTICES}
use Rattle.buffer_ring.specs.declared.step.EndState.{EndState}
use Rattle.event_notices.specs.declared.notice.Notice.{Notice}
use Rattle.event_notices.specs.Notices.{Notices, pushed_all}
use Rattle.service_board.specs.InOrder.{Belongs, InOrder}
use Rattle.service_board.specs.declared.board.Board.{Board}

-- a board with other notices and drafts
abbrev pub with_told : {D E : Type 0} → Vec Notices → Vec Notice → Board D E → Board D E
with_told queues drafts b = record b { book = record (b.book) { notices = queues }; drafts = drafts }

-- it stays in order with as many lists of notices, and room for all drafts
pub drafted_order : {D E : Type 0} (state : E → EndState) (b : Board D E) (queues : Vec Notices)
    (drafts : Vec Notice) → length queues.items ≡ length b.book.notices.items → NOTICES ≤ vec_capacity drafts →
    InOrder state b → InOrder state (with_told queues drafts b)
drafted_order state b queues drafts same room order =
    let book = order.book in
    let rooms = book.rooms in
    record {
      order = order.order;
      rested = order.rested;
      belong =
          All-weaker (Belongs b.book b.seats.items) (Belongs (record (b.book) { notices = queues }) b.seats.items)
          (λ e h. record {
            client = h.client;
            live = h.live;
            on = h.on;
            opens = h.opens;
            within = h.within;
            gains = h.gains;
          }) b.entries.items order.belong;
      alike = order.alike;
      seats = order.seats;
      book = record {
        rooms = record {
          connections = rooms.connections;
          clients = rooms.clients;
          notices = same ∙ rooms.notices;
        };
        apart = book.apart;
        opens = book.opens;
        clients = book.clients;
        few_clients = book.few_clients;
        made = book.made;
        clients_made = book.clients_made;
        endpoints = book.endpoints;
        added = book.added;
        levels = book.levels;
        owned = book.owned;
      };
      room = order.room;
      seat_room = order.seat_room;
      draft_room = room;
    }

-- and so it does once it was told
pub told_order : {D E : Type 0} (state : E → EndState) (b : Board D E) (ns : List Notice) (queues : Vec Notices)
    (drafts : Vec Notice) → queues.items ≡ map (pushed_all ns) b.book.notices.items →
    vec_capacity drafts ≡ vec_capacity b.drafts → InOrder state b → InOrder state (with_told queues drafts b)
told_order state b ns queues drafts told room order =
    drafted_order state b queues drafts (ap length told ∙ length-map b.book.notices.items (pushed_all ns))
    (subst (λ n. NOTICES ≤ n) (sym room) order.draft_room) order
