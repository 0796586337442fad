-- The board after a period of an endpoint that captures, whose device gave what it had or failed, or was not asked.
use Rattle.std.proofs.Common.{◌≡◌, ℕ, ◌==◌, ◌≤◌, ◌++◌, List, [], ◌∷◌, map, flat_map, Bool, true, false, Option, Some}
use Rattle.std.proofs.Common.{Result, Ok, Err, None, refl, sym, ap, ap₂, ◌∙◌, subst, if◌then◌else◌, arith}
use Rattle.std.specs.Int.{w32, to_le_bytes}
use Rattle.std.specs.List.{All, AllZip, list_any}
use Rattle.std.specs.Vec.{with_item, with_items}
use Rattle.std.proofs.Math.Seq.{map-set_same}
use Rattle.std.proofs.lemmas.Bool.{ne_eqb}
use Rattle.ca_base.specs.declared.codes.TheConstants.Hr as hr
use Rattle.ca_base.specs.declared.ids.Flow.TheVariants as flow
use Rattle.ca_base.specs.declared.ids.Reason.TheVariants.{Removal}
use Rattle.ca_base.specs.declared.environment.Failed.{Failed}
use Rattle.ca_base.specs.declared.limits.TheConstants.{MAX_COUNT}
use Rattle.ca_base.specs.declared.values.TheConstants.{STATE_NOTPRESENT}
use Rattle.device_io.specs.DeviceLog.{DeviceLog}
use Rattle.buffer_ring.specs.declared.step.EndState.{EndState}
use Rattle.buffer_ring.specs.declared.step.StoreStep.{StoreStep}
use Rattle.device_registry.specs.declared.endpoint.Endpoint.{Endpoint}
use Rattle.device_registry.specs.Endpoints.{EndpointList, with_state}
use Rattle.device_registry.specs.Changes.{with_changed}
use Rattle.ca_stage.specs.Given.{whole_frames}
use Rattle.ca_stage.specs.Stage.{BufferData, Stage}
use Rattle.ca_stage.specs.Tally.{Tally}
use Rattle.ca_machine.specs.declared.state.Client.{Client}
use Rattle.ca_machine.specs.Periods.{after_recording, period_plan, with_events, with_failed}
use Rattle.ca_machine.proofs.RecordedStage.{recorded}
use Rattle.step_notices.specs.Notes.{Notes}
use Rattle.period_engine.specs.declared.entry.StreamEntry.{StreamEntry}
use Rattle.period_engine.specs.declared.block.Block.{Block}
use Rattle.period_engine.specs.Entries.{IsRested, is_recorded}
use Rattle.period_engine.specs.Feeds.{Captures}
use Rattle.period_engine.specs.SubSteps.{Turned}
use Rattle.service_book.specs.BookState.{book_state}
use Rattle.service_board.specs.Board.{playhead_of, stage_with, state_of}
use Rattle.stream_entries.specs.Closing.{closes_within}
use Rattle.service_board.specs.Does.{AnyData, Does}
use Rattle.service_board.specs.Due.{FindsDue, HasFlow}
use Rattle.stream_entries.specs.Events.{with_event}
use Rattle.service_board.specs.InOrder.{InOrder, Seats}
use Rattle.stream_entries.specs.Holding.{period_frames}
use Rattle.service_board.specs.declared.board.Board.{Board}
use Rattle.service_board.specs.declared.board.Seat.{Seat}
use Rattle.service_board.proofs.ChangedEndpoints.{book_changed, zip_changed}
use Rattle.service_board.proofs.EventsSet.{clients_are, clients_then, events_alike, events_order}
use Rattle.service_board.proofs.PeriodEnds.{Read, channels_here, entries_are, frames_here, seat_fits, seat_is}
use Rattle.service_board.proofs.PeriodEnds.{sizes_stay}
use Rattle.service_board.proofs.AlikeEntries.{scratch_of}
use Rattle.service_board.proofs.PeriodNeeds.{some_frames}
use Rattle.service_board.proofs.PeriodOrder.{keeps_place, next_stays, order_after, zip_set_seat}
use Rattle.service_board.proofs.RecordDoes.{Records, record_does}
use Rattle.service_board.proofs.Recording.{all_fed, all_lost, idle_records, lost_records, none_recorded, whole_records}
use Rattle.service_board.proofs.Recording.{zero_frames}

-- an entry records an endpoint, as it was looked up
pub some_read : {E : Type 0} (n : ℕ) (xs ys zs : List (StreamEntry E)) (found : Bool) → xs ≡ zs → ys ≡ zs →
    found ≡ list_any (is_recorded n) xs → found ≡ true → list_any (is_recorded n) ys ≡ true
some_read n xs ys zs found p q e h = ap (list_any (is_recorded n)) (q ∙ sym p) ∙ sym e ∙ h

pub none_read : {E : Type 0} (n : ℕ) (xs zs : List (StreamEntry E)) (found : Bool) → xs ≡ zs →
    found ≡ list_any (is_recorded n) xs → found ≡ false → list_any (is_recorded n) zs ≡ false
none_read n xs zs found p e h = ap (list_any (is_recorded n)) (sym p) ∙ sym e ∙ h

module _ {D E : Type 0} (faults : D → ℕ) (told : D → Option (List DeviceLog)) (moves : E → List StoreStep → E → Type 0)
    (state : E → EndState) (b : Board D E) (order : InOrder state b) (number at : ℕ) (due : FindsDue number b at)
    (captures : HasFlow flow.Capture b.book at)
  where
    abbrev here : Endpoint
    here = due.active.endpoint

    -- no stream records the endpoint
    pub idle_does : (stays : (a : E) → moves a [] a) → list_any (is_recorded number) b.entries.items ≡ false →
        Does faults told moves None AnyData b b (λ st. period_plan st number) hr.S_OK (to_le_bytes w32 0 ++ 0 ∷ [])
    idle_does stays none =
        record_does faults told moves state b b order number at due true []
        (idle_records moves stays here (period_frames here b.entries.items) b.entries.items (faults b.devices)
        (told b.devices)
        (ap (λ n. list_any (is_recorded n) b.entries.items) due.active.number_is ∙ none))
        (captures here due.active.here) refl
        (λ datas tally.
        ap (λ n. if n == 0 then state_of datas tally b else with_events here.no.0 (state_of datas tally b))
        (sym (zero_frames here.format.channels due.seats.format.some_channel)))
        (to_le_bytes w32 0 ++ 0 ∷ [])
        (ap (λ n. to_le_bytes w32 n ++ 0 ∷ [])
        (sym (none_recorded here (period_frames here b.entries.items) due.seats.format.some_channel)))

    module _ (devices : D) (xs ws : List (StreamEntry E)) (e : Endpoint) (frames : ℕ) (s : Seat) (block : Block)
        (read : Read faults told moves state b order number at due xs ws e frames s block)
      where
        -- what was read of the device, by the endpoint as it stands in the book
        captures_here : (r : Result ℕ Failed) (ys : List (StreamEntry E)) →
            Captures moves number frames e.format.channels r xs ys (faults b.devices) (told b.devices)
            (faults devices) (told devices) →
            Captures moves here.no.0 (period_frames here b.entries.items) here.format.channels r b.entries.items ys
            (faults b.devices)
            (told b.devices) (faults devices) (told devices)
        captures_here r ys c =
            subst (λ zs. Captures moves here.no.0 (period_frames here b.entries.items) here.format.channels r zs ys
            (faults b.devices)
            (told b.devices) (faults devices) (told devices)) read.old
            (subst (λ n. Captures moves here.no.0 (period_frames here b.entries.items) n r xs ys (faults b.devices)
            (told b.devices)
            (faults devices) (told devices))
            (channels_here faults told moves state b order number at due xs ws e frames s block read)
            (subst (λ n. Captures moves here.no.0 n e.format.channels r xs ys (faults b.devices) (told b.devices)
            (faults devices) (told devices))
            (frames_here faults told moves state b order number at due xs ws e frames s block read)
            (subst (λ n. Captures moves n frames e.format.channels r xs ys (faults b.devices) (told b.devices)
            (faults devices) (told devices)) (sym due.active.number_is) c)))

        -- an entry records the endpoint
        some_here : list_any (is_recorded number) xs ≡ true → list_any (is_recorded here.no.0) b.entries.items ≡ true
        some_here some =
            ap (λ n. list_any (is_recorded n) b.entries.items) due.active.number_is
            ∙ ap (list_any (is_recorded number)) (sym read.old)
            ∙ some

        -- the seats are as they were, but for what stands in the scratch
        abbrev seat_then : Seat
        seat_then = record { endpoint = s.endpoint; next = s.next; block = block }

        heads_stay : map playhead_of (with_item b.seats at seat_then).items ≡ map playhead_of b.seats.items
        heads_stay = map-set_same playhead_of b.seats.items at seat_then s (ap playhead_of read.seat)

        same_seat : Seats seat_then here
        same_seat =
            seat_fits faults told moves state b order number at due xs ws e frames s block read here s.next refl refl
            (subst (λ (t : Seat). t.next ≤ MAX_COUNT)
            (sym (seat_is faults told moves state b order number at due xs ws e frames s block read)) due.seats.next)

        sizes_same : map scratch_of (with_item b.seats at seat_then).items ≡ map scratch_of b.seats.items
        sizes_same = sizes_stay faults told moves state b order number at due xs ws e frames s block read s.next

        seats_stay : AllZip Seats (with_item b.seats at seat_then).items b.book.registry.list
        seats_stay =
            zip_set_seat b.seats.items b.book.registry.list at seat_then here same_seat due.active.here order.seats

        items_are : (with_items b.entries ws).items ≡ ws
        items_are = entries_are faults told moves state b order number at due xs ws e frames s block read

        some_frame_here : 1 ≤ period_frames here b.entries.items
        some_frame_here = some_frames state b order number at due

        -- the device gave what it had
        abbrev unsignaled : Board D E
        unsignaled = record b {
          devices = devices;
          seats = with_item b.seats at seat_then;
          entries = with_items b.entries ws;
        }

        module _ (n : ℕ) (some : list_any (is_recorded number) xs ≡ true)
            (gives : Captures moves number frames e.format.channels (Ok n) xs ws (faults b.devices) (told b.devices)
            (faults devices) (told devices))
            (cs : List Client)
            (events : cs ≡ (if n == 0 then b.book.clients.items else map (with_event number ws) b.book.clients.items))
          where
            -- and the clients' events are set, if it gave something
            abbrev pub recorded_board : Board D E
            recorded_board = record unsignaled { book = record b.book { clients = clients_then b cs } }

            gives_here : Captures moves here.no.0 (period_frames here b.entries.items) here.format.channels (Ok n)
                b.entries.items
                recorded_board.entries.items (faults b.devices) (told b.devices) (faults devices) (told devices)
            gives_here =
                subst (λ ys. Captures moves here.no.0 (period_frames here b.entries.items) here.format.channels (Ok n)
                b.entries.items
                ys (faults b.devices) (told b.devices) (faults devices) (told devices)) (sym items_are)
                (captures_here (Ok n) ws gives)

            records : Records moves here (period_frames here b.entries.items) true gives_here.pieces b.entries.items
                recorded_board.entries.items
                (faults b.devices) (told b.devices) (faults devices) (told devices)
            records =
                whole_records moves here (period_frames here b.entries.items) b.entries.items order.order
                (faults b.devices) (faults devices)
                (told b.devices) (told devices) recorded_board.entries.items n (some_here some) gives_here

            abbrev stage_then : (ℕ → BufferData) → Stage
            stage_then datas = stage_with datas recorded_board.seats.items recorded_board.entries.items

            -- a period records frames if its device gave a whole one
            some_recorded : (w : Bool) (p : ℕ) → 1 ≤ p → ((if w then 0 else p) == 0) ≡ w
            some_recorded true p some_frame = refl
            some_recorded false p some_frame = ne_eqb p 0 (λ e. omega (arith, e))

            events_by : (datas : ℕ → BufferData) (tally : Tally) (w : Bool) →
                record (book_state b.book (stage_then datas) tally) {
                  clients = if w then b.book.clients.items else map (with_event number ws) b.book.clients.items;
                }
                ≡ (if w then book_state b.book (stage_then datas) tally
                else with_events here.no.0 (book_state b.book (stage_then datas) tally))
            events_by datas tally true = refl
            events_by datas tally false =
                ap (λ xs. record (book_state b.book (stage_then datas) tally) { clients = xs })
                (ap₂ (λ k ys. map (with_event k ys) b.book.clients.items) (sym due.active.number_is) (sym items_are)
                ∙ events_alike here.no.0 datas recorded_board.entries.items b.book.clients.items)

            events_are : (datas : ℕ → BufferData) (tally : Tally) → state_of datas tally recorded_board
                ≡ after_recording here (flat_map (λ piece. piece) gives_here.pieces) true
                (book_state b.book (stage_then datas) tally)
            events_are datas tally =
                let none = whole_frames here.format.channels (flat_map (λ piece. piece) gives_here.pieces) == 0 in
                ap (λ xs. record (book_state b.book (stage_then datas) tally) { clients = xs })
                (clients_are b number ws (n == 0) cs events ∙ events)
                ∙ ap (λ v. record (book_state b.book (stage_then datas) tally) {
                  clients = if v then b.book.clients.items else map (with_event number ws) b.book.clients.items;
                })
                (ap (λ k. k == 0) gives_here.frames_are ∙ some_recorded none (period_frames here b.entries.items)
                some_frame_here)
                ∙ events_by datas tally none

            recorded_does : Does faults told moves None AnyData b recorded_board (λ st. period_plan st number)
                hr.S_OK (to_le_bytes w32 n ++ 0 ∷ [])
            recorded_does =
                record_does faults told moves state b recorded_board order number at due true gives_here.pieces records
                (captures here due.active.here) heads_stay events_are (to_le_bytes w32 n ++ 0 ∷ [])
                (ap (λ k. to_le_bytes w32 k ++ 0 ∷ []) gives_here.frames_are)

            recorded_order : All (IsRested state) ws → InOrder state recorded_board
            recorded_order rested =
                events_order state b unsignaled number ws (n == 0) cs events refl
                (order_after moves state b unsignaled order
                (recorded here (period_frames here b.entries.items) (flat_map (λ piece. piece) gives_here.pieces) true)
                records.steps here.no.0
                (period_frames here b.entries.items) false records.went
                (all_fed moves here (period_frames here b.entries.items) (flat_map (λ piece. piece) gives_here.pieces)
                here.no.0 (period_frames here b.entries.items)
                b.entries.items unsignaled.entries.items gives_here.turned)
                (next_stays b unsignaled heads_stay here.no.0 (period_frames here b.entries.items)) sizes_same
                (subst (All (IsRested state)) (sym items_are) rested) refl refl refl
                (λ n e found. record { endpoint = e; found = found; flow = refl; format = refl })
                seats_stay order.book order.room order.seat_room order.draft_room)

            -- what such a period does, and that the board stays in order
            pub recorded_ends : All (IsRested state) ws →
                Does faults told moves None AnyData b recorded_board (λ st. period_plan st number) hr.S_OK
                (to_le_bytes w32 n ++ 0 ∷ [])
                × InOrder state recorded_board
            recorded_ends rested = (recorded_does, recorded_order rested)

        -- the device failed, and this was noted before it
        module _ (registry : EndpointList)
            (is : registry ≡ with_changed number (with_state STATE_NOTPRESENT) b.book.registry) (notes : Notes)
            (joins : (a b c : E) (s t : List StoreStep) → moves a s b → moves b t c → moves a (s ++ t) c)
            (ys : List (StreamEntry E)) (x : Failed) (some : list_any (is_recorded number) xs ≡ true)
            (gives : Captures moves number frames e.format.channels (Err x) xs ys (faults b.devices) (told b.devices)
            (faults devices) (told devices))
            (closes : AllZip (Turned moves (closes_within Removal (Some number))) ys ws)
          where
            abbrev pub lost_board : Board D E
            lost_board = record b {
              devices = devices;
              book = record b.book { registry = registry };
              seats = with_item b.seats at seat_then;
              entries = with_items b.entries ws;
              failed = notes;
            }

            fails_here : Captures moves here.no.0 (period_frames here b.entries.items) here.format.channels (Err x)
                b.entries.items ys
                (faults b.devices) (told b.devices) (faults devices) (told devices)
            fails_here = captures_here (Err x) ys gives

            closes_here : AllZip (Turned moves (closes_within Removal (Some here.no.0))) ys lost_board.entries.items
            closes_here =
                subst (λ zs. AllZip (Turned moves (closes_within Removal (Some here.no.0))) ys zs) (sym items_are)
                (subst (λ n. AllZip (Turned moves (closes_within Removal (Some n))) ys ws) (sym due.active.number_is)
                closes)

            fails : Records moves here (period_frames here b.entries.items) false fails_here.pieces b.entries.items
                lost_board.entries.items
                (faults b.devices) (told b.devices) (faults devices) (told devices)
            fails =
                lost_records moves here (period_frames here b.entries.items) b.entries.items order.order
                (faults b.devices) (faults devices)
                (told b.devices) (told devices) joins ys lost_board.entries.items x (some_here some) fails_here
                closes_here

            lost_endpoints : lost_board.book.registry.list ≡ with_failed here.no.0 b.book.registry.list
            lost_endpoints =
                ap (λ (r : EndpointList). r.list) is
                ∙ ap (λ n. with_failed n b.book.registry.list) (sym due.active.number_is)

            lost_last : lost_board.book.registry.last ≡ b.book.registry.last
            lost_last = ap (λ (r : EndpointList). r.last) is

            lost_does : Does faults told moves None AnyData b lost_board (λ st. period_plan st number) hr.S_OK
                (to_le_bytes w32 0 ++ 1 ∷ [])
            lost_does =
                record_does faults told moves state b lost_board order number at due false fails_here.pieces fails
                (captures here due.active.here) heads_stay
                (λ datas tally.
                ap₂ (λ es last. record (book_state b.book
                (stage_with datas lost_board.seats.items lost_board.entries.items) tally) {
                  endpoints = es;
                  last_endpoint = last;
                }) lost_endpoints lost_last)
                (to_le_bytes w32 0 ++ 1 ∷ []) refl

            lost_order : All (IsRested state) ws → InOrder state lost_board
            lost_order rested =
                order_after moves state b lost_board order
                (recorded here (period_frames here b.entries.items) (flat_map (λ piece. piece) fails_here.pieces) false)
                fails.steps here.no.0
                (period_frames here b.entries.items) false fails.went
                (all_lost moves here (period_frames here b.entries.items) (flat_map (λ piece. piece) fails_here.pieces)
                here.no.0 (period_frames here b.entries.items)
                b.entries.items ys lost_board.entries.items fails_here.turned closes_here)
                (next_stays b lost_board heads_stay here.no.0 (period_frames here b.entries.items)) sizes_same
                (subst (All (IsRested state)) (sym items_are) rested) refl refl refl
                (keeps_place number (with_state STATE_NOTPRESENT) (λ e. refl) (λ e. refl) (λ e. refl)
                b.book.registry.list lost_board.book.registry.list (ap (λ (r : EndpointList). r.list) is))
                (subst (λ (r : EndpointList). AllZip Seats lost_board.seats.items r.list) (sym is)
                (zip_changed number (with_state STATE_NOTPRESENT) lost_board.seats.items b.book.registry.list
                (λ t e fits.
                record {
                  number = fits.number;
                  next = fits.next;
                  block = fits.block;
                  fits = fits.fits;
                  format = fits.format;
                })
                seats_stay))
                (book_changed number (with_state STATE_NOTPRESENT) (λ e. refl) b.book registry is order.book)
                order.room order.seat_room order.draft_room

            -- what such a period does, and that the board stays in order
            pub lost_ends : All (IsRested state) ws →
                Does faults told moves None AnyData b lost_board (λ st. period_plan st number) hr.S_OK
                (to_le_bytes w32 0 ++ 1 ∷ [])
                × InOrder state lost_board
            lost_ends rested = (lost_does, lost_order rested)
