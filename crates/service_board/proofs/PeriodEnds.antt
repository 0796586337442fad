-- The board after a period, whose device took all or failed.
use Rattle.std.proofs.Common.{◌≡◌, ℕ, ◌+◌, ◌≤◌, List, [], ◌∷◌, ◌++◌, length, map, Bool, true, false, Option}
use Rattle.std.proofs.Common.{None}
use Rattle.std.proofs.Common.{refl, sym, ap, ap₂, ◌∙◌, subst, arith, get_or, slice_set}
use Rattle.std.specs.Int.{w32, to_le_bytes}
use Rattle.std.specs.List.{All, AllZip}
use Rattle.std.specs.Vec.{with_item, with_items}
use Rattle.std.proofs.lemmas.List.{map-set, with_items_is}
use Rattle.std.proofs.Math.Seq.{map-set_same}
use Rattle.device_io.specs.DeviceLog.{DeviceLog}
use Rattle.ca_base.specs.declared.codes.TheConstants.Hr as hr
use Rattle.ca_base.specs.declared.ids.Flow.TheVariants as flow
use Rattle.ca_base.specs.declared.limits.TheConstants.{MAX_COUNT, SHARED_PERIOD}
use Rattle.ca_base.specs.declared.values.TheConstants.{STATE_NOTPRESENT}
use Rattle.wave_format.specs.Format.{IsValid, frames_of_time}
use Rattle.buffer_ring.specs.declared.step.EndState.{EndState}
use Rattle.buffer_ring.specs.declared.step.StoreStep.{StoreStep}
use Rattle.ca_stage.specs.Moves.{Mixing, finished, playhead_after}
use Rattle.ca_stage.specs.Stage.{BufferData}
use Rattle.ca_stage.specs.Tally.{Tally}
use Rattle.ca_stage.specs.Order.{AreDistinct, RisesFrom}
use Rattle.ca_stage.proofs.Clients.{rising_distinct}
use Rattle.ca_stage.proofs.PlayheadPlaces.{head_in_place}
use Rattle.ca_stage.proofs.Playheads.{numbers_of}
use Rattle.device_registry.specs.declared.endpoint.Endpoint.{Endpoint}
use Rattle.ca_machine.specs.State.{empty_state}
use Rattle.device_registry.specs.Endpoints.{EndpointList, with_state}
use Rattle.device_registry.specs.Changes.{with_changed}
use Rattle.ca_machine.specs.declared.state.Client.{Client}
use Rattle.ca_machine.specs.Periods.{mixing_of, period_plan, shared_frames, with_events, with_failed}
use Rattle.step_notices.specs.Notes.{Notes}
use Rattle.period_engine.specs.declared.entry.StreamEntry.{StreamEntry}
use Rattle.period_engine.specs.declared.block.Block.{Block}
use Rattle.period_engine.specs.Entries.{IsRested}
use Rattle.period_engine.specs.Sounds.{IsSameSize}
use Rattle.stream_entries.specs.Holding.{period_frames}
use Rattle.service_book.specs.BookState.{book_state}
use Rattle.service_board.specs.Board.{playhead_of, stage_with, state_of}
use Rattle.service_board.specs.Does.{AnyData, Does}
use Rattle.service_board.specs.Due.{FindsDue, HasFlow}
use Rattle.stream_entries.specs.Events.{with_event}
use Rattle.service_board.specs.InOrder.{InOrder, IsScratch, Seats}
use Rattle.service_board.specs.Plays.{Plays}
use Rattle.service_board.specs.declared.board.Board.{Board}
use Rattle.service_board.specs.declared.board.Seat.{Seat}
use Rattle.service_board.proofs.ChangedEndpoints.{book_changed, zip_changed}
use Rattle.service_board.proofs.EventsSet.{clients_are, clients_then, events_alike, events_order}
use Rattle.service_board.proofs.PeriodDoes.{get_mapped, period_does, seat_numbers}
use Rattle.service_board.proofs.PeriodNeeds.{channels_read, end_gains}
use Rattle.service_board.proofs.PeriodNeeds.{frames_read, same_scratch, seat_read}
use Rattle.service_board.proofs.AlikeEntries.{scratch_of}
use Rattle.service_board.proofs.PeriodOrder.{keeps_place, period_order, zip_set_seat}

module _ {D E : Type 0} (faults : D → ℕ) (told : D → Option (List DeviceLog)) (moves : E → List StoreStep → E → Type 0)
    (state : E → EndState) (b : Board D E) (order : InOrder state b) (number at : ℕ) (due : FindsDue number b at)
  where
    abbrev here : Endpoint
    here = due.active.endpoint

    -- a mixing of the endpoint's period
    abbrev any_here : Mixing
    any_here = record (mixing_of empty_state here) { frames = period_frames here b.entries.items }

    -- what the period was of, read off the board
    pub record Read (xs ws : List (StreamEntry E)) (e : Endpoint) (frames : ℕ) (s : Seat) (block : Block) : Type 0 where
      pub old : xs ≡ b.entries.items
      pub size : length ws ≡ length xs
      pub endpoint : e ≡ get_or b.book.registry.list at e
      pub frames_are : frames ≡ period_frames e b.entries.items
      pub seat : s ≡ get_or b.seats.items at s
      pub block_is : IsSameSize s.block block

    module _ (xs ws : List (StreamEntry E)) (e : Endpoint) (frames : ℕ) (s : Seat) (block : Block)
        (read : Read xs ws e frames s block)
      where
        pub frames_here : frames ≡ period_frames here b.entries.items
        frames_here = frames_read state b order number at due e read.endpoint frames read.frames_are

        pub channels_here : e.format.channels ≡ here.format.channels
        channels_here = channels_read state b order number at due e read.endpoint frames read.frames_are

        pub entries_are : (with_items b.entries ws).items ≡ ws
        entries_are = with_items_is b.entries ws (read.size ∙ ap length read.old ∙ sym b.entries.ok.0)

        pub seat_is : s ≡ due.seat
        seat_is = seat_read state b order number at due s read.seat

        -- the scratch is as large as before
        pub sizes_stay : (next : ℕ) →
            map scratch_of (slice_set b.seats.items at (record { endpoint = s.endpoint; next = next; block = block }))
            ≡ map scratch_of b.seats.items
        sizes_stay next =
            map-set_same scratch_of b.seats.items at (record { endpoint = s.endpoint; next = next; block = block }) s
            (ap (λ (n : ℕ). (s.endpoint.0, n)) read.block_is.frames ∙ ap scratch_of read.seat)

        pub seat_fits : (x : Endpoint) (next : ℕ) → x.no ≡ here.no → x.format ≡ here.format → next ≤ MAX_COUNT →
            Seats (record { endpoint = s.endpoint; next = next; block = block }) x
        seat_fits x next endpoint format le = record {
          number = ap (λ (t : Seat). t.endpoint.0) seat_is ∙ due.seats.number ∙ ap (λ n. n.0) (sym endpoint);
          next = le;
          block =
              subst (λ f. IsScratch f.channels block) (sym format)
              (same_scratch here.format.channels s.block block read.block_is
              (subst (λ (t : Seat). IsScratch here.format.channels t.block) (sym seat_is) due.seats.block));
          fits =
              subst (λ f. frames_of_time f.rate SHARED_PERIOD ≤ block.frames) (sym format)
              (subst (λ k. shared_frames here ≤ k)
              (sym (read.block_is.frames ∙ ap (λ (t : Seat). t.block.frames) seat_is)) due.seats.fits);
          format = subst IsValid (sym format) due.seats.format;
        }

    module _ (devices : D) (xs ws : List (StreamEntry E)) (e : Endpoint) (frames : ℕ) (s : Seat) (block : Block)
        (whole : Bool)
        (read : Read xs ws e frames s block)
        (plays : Plays moves number frames (end_gains e.format.channels) whole xs ws (faults b.devices) (told b.devices)
        (faults devices) (told devices))
        (rested : All (IsRested state) ws)
      where
        plays_here : Plays moves here.no.0 (period_frames here b.entries.items) (end_gains here.format.channels) whole
            b.entries.items
            (with_items b.entries ws).items (faults b.devices) (told b.devices) (faults devices) (told devices)
        plays_here =
            subst (λ ys. Plays moves here.no.0 (period_frames here b.entries.items) (end_gains here.format.channels)
            whole
            b.entries.items ys (faults b.devices) (told b.devices) (faults devices) (told devices))
            (sym (entries_are xs ws e frames s block read))
            (subst (λ zs. Plays moves here.no.0 (period_frames here b.entries.items) (end_gains here.format.channels)
            whole zs ws
            (faults b.devices) (told b.devices) (faults devices) (told devices)) read.old
            (subst (λ n. Plays moves here.no.0 (period_frames here b.entries.items) (end_gains n) whole xs ws
            (faults b.devices)
            (told b.devices) (faults devices) (told devices)) (channels_here xs ws e frames s block read)
            (subst (λ n. Plays moves here.no.0 n (end_gains e.format.channels) whole xs ws (faults b.devices)
            (told b.devices)
            (faults devices) (told devices)) (frames_here xs ws e frames s block read)
            (subst (λ n. Plays moves n frames (end_gains e.format.channels) whole xs ws (faults b.devices)
            (told b.devices)
            (faults devices) (told devices)) (sym due.active.number_is) plays))))

        rested_here : All (IsRested state) (with_items b.entries ws).items
        rested_here = subst (All (IsRested state)) (sym (entries_are xs ws e frames s block read)) rested

        distinct : AreDistinct (numbers_of (map playhead_of b.seats.items))
        distinct =
            rising_distinct 0 _
            (subst (RisesFrom 0) (sym (seat_numbers b.seats.items b.book.registry.list order.seats))
            order.book.endpoints)

    -- the device took all
    module _ (devices : D) (xs ws : List (StreamEntry E)) (e : Endpoint) (frames : ℕ) (s : Seat) (block : Block)
        (read : Read xs ws e frames s block)
        (plays : Plays moves number frames (end_gains e.format.channels) true xs ws (faults b.devices) (told b.devices)
        (faults devices) (told devices))
        (rested : All (IsRested state) ws) (cs : List Client)
        (events : cs ≡ map (with_event number ws) b.book.clients.items)
      where
        abbrev unsignaled : Board D E
        unsignaled = record b {
          devices = devices;
          seats = with_item b.seats at (record { endpoint = s.endpoint; next = s.next + frames; block = block });
          entries = with_items b.entries ws;
        }

        -- the clients' events are set
        abbrev pub whole_board : Board D E
        whole_board = record unsignaled { book = record b.book { clients = clients_then b cs } }

        events_are : (datas : ℕ → BufferData) (tally : Tally) → state_of datas tally whole_board
            ≡ with_events here.no.0
            (book_state b.book (stage_with datas whole_board.seats.items whole_board.entries.items) tally)
        events_are datas tally =
            let stage = stage_with datas whole_board.seats.items whole_board.entries.items in
            ap (λ xs. record (book_state b.book stage tally) { clients = xs })
            (clients_are b number ws false cs events
            ∙ events
            ∙ ap₂ (λ n ys. map (with_event n ys) b.book.clients.items) (sym due.active.number_is)
            (sym (entries_are xs ws e frames s block read))
            ∙ events_alike here.no.0 datas whole_board.entries.items b.book.clients.items)

        abbrev plays_whole : Plays moves here.no.0 (period_frames here b.entries.items) (end_gains here.format.channels)
            true
            b.entries.items whole_board.entries.items (faults b.devices) (told b.devices) (faults devices)
            (told devices)
        plays_whole = plays_here devices xs ws e frames s block true read plays rested

        whole_heads : map playhead_of whole_board.seats.items
            ≡ map (playhead_after (finished any_here true)) (map playhead_of b.seats.items)
        whole_heads =
            let same = seat_is xs ws e frames s block read in
            map-set playhead_of b.seats.items at
            (record { endpoint = s.endpoint; next = s.next + frames; block = block })
            ∙ ap (slice_set (map playhead_of b.seats.items) at)
            (ap₂ (λ (t : Seat) n. record { number = t.endpoint.0; next = t.next + n }) same
            (frames_here xs ws e frames s block read))
            ∙ sym (head_in_place any_here at (map playhead_of b.seats.items) (playhead_of due.seat)
            (distinct devices xs ws e frames s block true read plays rested)
            (get_mapped playhead_of b.seats.items at due.seat due.seat_here) due.seats.number)

        whole_does : HasFlow flow.Render b.book at → b.book.levels_changed ≡ false →
            Does faults told moves None AnyData b whole_board (λ st. period_plan st number) hr.S_OK
            (to_le_bytes w32 frames ++ 0 ∷ [])
        whole_does renders fresh =
            period_does faults told moves state b whole_board order number at due true plays_whole
            (renders here due.active.here) fresh whole_heads events_are (to_le_bytes w32 frames ++ 0 ∷ [])
            (ap (λ n. to_le_bytes w32 n ++ 0 ∷ []) (frames_here xs ws e frames s block read))

        whole_order : InOrder state whole_board
        whole_order =
            let room = due.room in
            let frames_are = frames_here xs ws e frames s block read in
            let next =
            ap (λ (t : Seat). t.next) (seat_is xs ws e frames s block read) in
            events_order state b unsignaled number ws false cs events refl
            (period_order faults told moves state b unsignaled order number at due true plays_whole whole_heads
            (sizes_stay xs ws e frames s block read (s.next + frames))
            (rested_here devices xs ws e frames s block true read plays rested) refl refl refl
            (λ n e found. record { endpoint = e; found = found; flow = refl; format = refl })
            (zip_set_seat b.seats.items b.book.registry.list at
            (record { endpoint = s.endpoint; next = s.next + frames; block = block }) here
            (seat_fits xs ws e frames s block read here (s.next + frames) refl refl
            (omega arith))
            due.active.here order.seats)
            order.book order.room order.seat_room order.draft_room)

        -- what such a period does, and that the board stays in order
        pub whole_ends : HasFlow flow.Render b.book at → b.book.levels_changed ≡ false →
            Does faults told moves None AnyData b whole_board (λ st. period_plan st number) hr.S_OK
            (to_le_bytes w32 frames ++ 0 ∷ [])
            × InOrder state whole_board
        whole_ends renders fresh = (whole_does renders fresh, whole_order)

    -- the device failed, and this was noted before it
    module _ (devices : D) (xs ws : List (StreamEntry E)) (e : Endpoint) (frames : ℕ) (s : Seat) (block : Block)
        (read : Read xs ws e frames s block)
        (plays : Plays moves number frames (end_gains e.format.channels) false xs ws (faults b.devices) (told b.devices)
        (faults devices) (told devices))
        (rested : All (IsRested state) ws) (registry : EndpointList)
        (is : registry ≡ with_changed number (with_state STATE_NOTPRESENT) b.book.registry)
        (notes : Notes)
      where
        abbrev pub failed_board : Board D E
        failed_board = record b {
          devices = devices;
          book = record b.book { registry = registry };
          seats = with_item b.seats at (record { endpoint = s.endpoint; next = s.next; block = block });
          entries = with_items b.entries ws;
          failed = notes;
        }

        abbrev plays_failed : Plays moves here.no.0 (period_frames here b.entries.items)
            (end_gains here.format.channels) false
            b.entries.items failed_board.entries.items (faults b.devices) (told b.devices) (faults devices)
            (told devices)
        plays_failed = plays_here devices xs ws e frames s block false read plays rested

        failed_heads : map playhead_of failed_board.seats.items ≡ map playhead_of b.seats.items
        failed_heads =
            map-set_same playhead_of b.seats.items at (record { endpoint = s.endpoint; next = s.next; block = block }) s
            (ap playhead_of read.seat)

        failed_endpoints : failed_board.book.registry.list ≡ with_failed here.no.0 b.book.registry.list
        failed_endpoints =
            ap (λ (r : EndpointList). r.list) is
            ∙ ap (λ n. with_failed n b.book.registry.list) (sym due.active.number_is)

        failed_last : failed_board.book.registry.last ≡ b.book.registry.last
        failed_last = ap (λ (r : EndpointList). r.last) is

        failed_does : HasFlow flow.Render b.book at → b.book.levels_changed ≡ false →
            Does faults told moves None AnyData b failed_board (λ st. period_plan st number) hr.S_OK
            (to_le_bytes w32 0 ++ 1 ∷ [])
        failed_does renders fresh =
            period_does faults told moves state b failed_board order number at due false plays_failed
            (renders here due.active.here) fresh failed_heads
            (λ datas tally.
            ap₂ (λ es last. record (book_state b.book
            (stage_with datas failed_board.seats.items failed_board.entries.items) tally) {
              endpoints = es;
              last_endpoint = last;
            }) failed_endpoints failed_last)
            (to_le_bytes w32 0 ++ 1 ∷ []) refl

        same_seat : Seats (record { endpoint = s.endpoint; next = s.next; block = block }) here
        same_seat =
            let next =
            ap (λ (t : Seat). t.next) (seat_is xs ws e frames s block read) in
            let most = due.seats.next in
            seat_fits xs ws e frames s block read here s.next refl refl (omega arith)

        failed_order : InOrder state failed_board
        failed_order =
            period_order faults told moves state b failed_board order number at due false plays_failed failed_heads
            (sizes_stay xs ws e frames s block read s.next)
            (rested_here devices xs ws e frames s block false read plays rested) refl refl refl
            (keeps_place number (with_state STATE_NOTPRESENT) (λ e. refl) (λ e. refl) (λ e. refl) b.book.registry.list
            failed_board.book.registry.list (ap (λ (r : EndpointList). r.list) is))
            (subst (λ (r : EndpointList). AllZip Seats failed_board.seats.items r.list) (sym is)
            (zip_changed number (with_state STATE_NOTPRESENT) failed_board.seats.items b.book.registry.list
            (λ t e fits.
            record {
              number = fits.number;
              next = fits.next;
              block = fits.block;
              fits = fits.fits;
              format = fits.format;
            })
            (zip_set_seat b.seats.items b.book.registry.list at
            (record { endpoint = s.endpoint; next = s.next; block = block }) here same_seat due.active.here
            order.seats)))
            (book_changed number (with_state STATE_NOTPRESENT) (λ e. refl) b.book registry is order.book) order.room
            order.seat_room order.draft_room

        -- what such a period does, and that the board stays in order
        pub failed_ends : HasFlow flow.Render b.book at → b.book.levels_changed ≡ false →
            Does faults told moves None AnyData b failed_board (λ st. period_plan st number) hr.S_OK
            (to_le_bytes w32 0 ++ 1 ∷ [])
            × InOrder state failed_board
        failed_ends renders fresh = (failed_does renders fresh, failed_order)
