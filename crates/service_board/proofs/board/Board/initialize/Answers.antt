use Rattle.std.proofs.Common.{◌≡◌, ◌≤◌, length, IfSome, Some, not, refl, sym, ap, ◌∙◌, subst, arith, option_map}
use Rattle.std.proofs.Common.{slice_get, slice_set}
use Rattle.std.specs.Vec.{with_items}
use Rattle.std.proofs.lemmas.List.{with_items_is}
use Rattle.std.specs.List.{insert, position_or_len}
use Rattle.std.proofs.lemmas.List.Sums.{prefix_len-le-length}
use Rattle.std.proofs.lemmas.Option.{none-some}
use Rattle.device_registry.specs.Endpoints.{is_endpoint}
use Rattle.service_book.proofs.Finding.{found_at, none_at}
use Rattle.service_board.specs.Openings.{IsFresh, IsNewStream, is_above, with_scratch}
use Rattle.service_board.specs.declared.board.Seat.{Seat}
use Rattle.service_board.proofs.DuePeriods.{seats_length}
use Rattle.service_board.proofs.Opened.{no_memory_does, opened_does, still_fresh}
use Rattle.service_board.proofs.OpenedOrder.{has_room, key_fits, opened_order}
use Rattle.service_board.proofs.Places.{place_splits}
use Rattle.service_board.proofs.TakenOver.{heads_are, mid_alone, mid_board, mid_holds, mid_order}
use Rattle.service_board.proofs.board.Board.initialize.Goals as goal

pub returns-in_default-clause-does : goal.returns-in_default-clause-does
returns-in_default-clause-does g c =
    no_memory_does c.args.x.now c.args.self.now c.args.plan.now c.requires.planned g.D.Devices.faults g.D.Devices.told
    g.E.EngineSide.moves g.met.E.EngineSide.none (option_map (λ m. m.store) c.args.made) (IsFresh c.args.x.now.client.0)

-- the endpoint that was planned is there
pub unreachable-requires : goal.unreachable-requires
unreachable-requires g c =
    none-some c.requires.planned.names.endpoint
    (sym (none_at (is_endpoint c.args.plan.now.endpoint.0) c.args.self.now.book.registry.list
    c.in_default-endpoint_place.ensures)
    ∙ c.requires.planned.names.there)

pub put_block-requires : goal.put_block-requires
put_block-requires g c =
    let found = found_at (is_endpoint c.args.plan.now.endpoint.0) c.args.self.now.book.registry.list
    c.in-Some-endpoint_place.seat c.in-Some-endpoint_place.ensures in
    let within = found.within in
    let same = seats_length c.args.self.now.seats.items c.args.self.now.book.registry.list c.requires.order.seats in
    let read = ap length c.deref_mut.ensures.value in
    omega arith

pub join-session-requires-clause-name : goal.join-session-requires-clause-name
join-session-requires-clause-name g c =
    key_fits c.args.x.now c.args.self.now c.args.plan.now c.requires.planned.names c.requires.order.book

pub insert-requires : goal.insert-requires
insert-requires g c =
    let most : position_or_len (is_above c.args.x.now.client.0) c.disconnect.new.entries.items
    ≤ length c.disconnect.new.entries.items =
    prefix_len-le-length (λ e. not (is_above c.args.x.now.client.0 e)) c.disconnect.new.entries.items in
    let place = c.new_place-at.ensures in
    let count = c.disconnect.new.entries.ok.0 in
    omega arith

pub unreachable-requires-in-Err : goal.unreachable-requires-in-Err
unreachable-requires-in-Err g c =
    let b = c.args.self.now in
    let x = c.args.x.now in
    let plan = c.args.plan.now in
    let p = c.requires.planned in
    let order = c.requires.order in
    let mid = c.disconnect.new.entries in
    let client = x.client.0 in
    let at = c.in-Some-endpoint_place.seat in
    let seats = with_items b.seats c.put_block.new.seats in
    let length_is : length c.put_block.new.seats ≡ length b.seats.items = c.put_block.auto.seats ∙ ap length
    c.deref_mut.ensures.value in
    let items : seats.items ≡ c.put_block.new.seats = with_items_is b.seats c.put_block.new.seats
    (length_is ∙ sym b.seats.ok.0) in
    let set : (s : Seat) → slice_get b.seats.items at ≡ Some s → seats.items ≡ slice_set b.seats.items at
    (with_scratch c.in-Some.field-0.block s) =
    λ s there. items ∙ c.put_block.ensures s (ap (λ ss. slice_get ss at) c.deref_mut.ensures.value ∙ there) ∙ ap
    (λ ss. slice_set ss at (with_scratch c.in-Some.field-0.block s)) c.deref_mut.ensures.value in
    let made = subst (λ o. IfSome o (IsNewStream g.E.EngineSide.state plan)) c.in-Some.is c.requires.made in
    let block = made.block in
    let place = c.in-Some-endpoint_place.ensures in
    let fresh = still_fresh x b plan p g.D.Devices.faults g.D.Devices.told g.E.EngineSide.moves g.met.E.EngineSide.none
    g.E.EngineSide.state order mid c.disconnect.ensures in
    let on_order = mid_order g.E.EngineSide.moves g.E.EngineSide.state x b plan p order mid c.disconnect.ensures at
    place c.in-Some.field-0.block block seats set order.seat_room in
    let splits = place_splits client 0 mid.items on_order.order fresh in
    let few = has_room g.E.EngineSide.state x (mid_board g.E.EngineSide.moves g.E.EngineSide.state x b plan p order mid
    c.disconnect.ensures at place c.in-Some.field-0.block block seats set order.seat_room) plan p.names on_order
    (mid_holds g.E.EngineSide.moves g.E.EngineSide.state x b plan p order mid c.disconnect.ensures at place
    c.in-Some.field-0.block block seats set order.seat_room)
    (mid_alone g.E.EngineSide.moves g.E.EngineSide.state x b plan p order mid c.disconnect.ensures at place
    c.in-Some.field-0.block block seats set order.seat_room)
    (position_or_len (is_above client) mid.items) c.join-session.result c.in-Some.field-0.store splits in
    let room = on_order.room in
    let full = c.in-Err.ensures.full in
    let count = mid.ok.0 in
    omega arith

pub returns-clause-does : goal.returns-clause-does
returns-clause-does g c =
    let b = c.args.self.now in
    let x = c.args.x.now in
    let plan = c.args.plan.now in
    let p = c.requires.planned in
    let order = c.requires.order in
    let mid = c.disconnect.new.entries in
    let client = x.client.0 in
    let at = c.in-Some-endpoint_place.seat in
    let seats = with_items b.seats c.put_block.new.seats in
    let length_is : length c.put_block.new.seats ≡ length b.seats.items = c.put_block.auto.seats ∙ ap length
    c.deref_mut.ensures.value in
    let items : seats.items ≡ c.put_block.new.seats = with_items_is b.seats c.put_block.new.seats
    (length_is ∙ sym b.seats.ok.0) in
    let set : (s : Seat) → slice_get b.seats.items at ≡ Some s → seats.items ≡ slice_set b.seats.items at
    (with_scratch c.in-Some.field-0.block s) =
    λ s there. items ∙ c.put_block.ensures s (ap (λ ss. slice_get ss at) c.deref_mut.ensures.value ∙ there) ∙ ap
    (λ ss. slice_set ss at (with_scratch c.in-Some.field-0.block s)) c.deref_mut.ensures.value in
    let made = subst (λ o. IfSome o (IsNewStream g.E.EngineSide.state plan)) c.in-Some.is c.requires.made in
    let block = made.block in
    let place = c.in-Some-endpoint_place.ensures in
    let fresh = still_fresh x b plan p g.D.Devices.faults g.D.Devices.told g.E.EngineSide.moves g.met.E.EngineSide.none
    g.E.EngineSide.state order mid c.disconnect.ensures in
    let on_order = mid_order g.E.EngineSide.moves g.E.EngineSide.state x b plan p order mid c.disconnect.ensures at
    place c.in-Some.field-0.block block seats set order.seat_room in
    let splits = place_splits client 0 mid.items on_order.order fresh in
    let entries = c.in-Ok.ensures.items
    ∙ ap (λ k. insert mid.items k c.entry_of-entry.result) c.new_place-at.ensures
    ∙ ap (insert mid.items (position_or_len (is_above client) mid.items)) c.entry_of-entry.ensures in
    opened_does x b plan p g.D.Devices.faults g.D.Devices.told g.E.EngineSide.moves g.met.E.EngineSide.none
    g.E.EngineSide.state order mid c.disconnect.ensures (option_map (λ m. m.store) c.args.made)
    (position_or_len (is_above client) mid.items) c.join-session.result c.in-Some.field-0.store _
    (ap (option_map (λ m. m.store)) c.in-Some.is) refl
    (heads_are g.E.EngineSide.moves g.E.EngineSide.state x b plan p order mid c.disconnect.ensures at place
    c.in-Some.field-0.block block seats set order.seat_room)
    c.join-session.ensures splits entries

pub returns-clause-order : goal.returns-clause-order
returns-clause-order g c =
    let b = c.args.self.now in
    let x = c.args.x.now in
    let plan = c.args.plan.now in
    let p = c.requires.planned in
    let order = c.requires.order in
    let mid = c.disconnect.new.entries in
    let client = x.client.0 in
    let at = c.in-Some-endpoint_place.seat in
    let seats = with_items b.seats c.put_block.new.seats in
    let length_is : length c.put_block.new.seats ≡ length b.seats.items = c.put_block.auto.seats ∙ ap length
    c.deref_mut.ensures.value in
    let items : seats.items ≡ c.put_block.new.seats = with_items_is b.seats c.put_block.new.seats
    (length_is ∙ sym b.seats.ok.0) in
    let set : (s : Seat) → slice_get b.seats.items at ≡ Some s → seats.items ≡ slice_set b.seats.items at
    (with_scratch c.in-Some.field-0.block s) =
    λ s there. items ∙ c.put_block.ensures s (ap (λ ss. slice_get ss at) c.deref_mut.ensures.value ∙ there) ∙ ap
    (λ ss. slice_set ss at (with_scratch c.in-Some.field-0.block s)) c.deref_mut.ensures.value in
    let made = subst (λ o. IfSome o (IsNewStream g.E.EngineSide.state plan)) c.in-Some.is c.requires.made in
    let block = made.block in
    let place = c.in-Some-endpoint_place.ensures in
    let fresh = still_fresh x b plan p g.D.Devices.faults g.D.Devices.told g.E.EngineSide.moves g.met.E.EngineSide.none
    g.E.EngineSide.state order mid c.disconnect.ensures in
    let on_order = mid_order g.E.EngineSide.moves g.E.EngineSide.state x b plan p order mid c.disconnect.ensures at
    place c.in-Some.field-0.block block seats set order.seat_room in
    let splits = place_splits client 0 mid.items on_order.order fresh in
    let entries = c.in-Ok.ensures.items
    ∙ ap (λ k. insert mid.items k c.entry_of-entry.result) c.new_place-at.ensures
    ∙ ap (insert mid.items (position_or_len (is_above client) mid.items)) c.entry_of-entry.ensures in
    opened_order g.E.EngineSide.state x
    (mid_board g.E.EngineSide.moves g.E.EngineSide.state x b plan p order mid
    c.disconnect.ensures at place c.in-Some.field-0.block block seats set order.seat_room)
    plan p.names on_order
    (mid_holds g.E.EngineSide.moves g.E.EngineSide.state x b plan p order mid c.disconnect.ensures at place
    c.in-Some.field-0.block block seats set order.seat_room)
    (mid_alone g.E.EngineSide.moves g.E.EngineSide.state x b plan p order mid c.disconnect.ensures at place
    c.in-Some.field-0.block block seats set order.seat_room)
    (position_or_len (is_above client) mid.items) c.join-session.result c.in-Some.field-0.store splits _
    made.store refl refl c.join-session.ensures entries
    c.in-Ok.ensures.capacity
