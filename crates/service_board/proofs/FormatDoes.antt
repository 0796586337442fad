-- Another format of an endpoint: what its rows say of a board, and the board with it.
use Rattle.std.proofs.Common.{◌≡◌, ℕ, ◌≤◌, ◌==◌, not, List, [], ◌∷◌, map, get_or, Bool, false}
use Rattle.std.proofs.Common.{Option, Some, None, Ok, Err, refl, sym, ap, ◌∙◌, subst, find, eqb-true}
use Rattle.std.specs.Global.{Vec}
use Rattle.std.specs.Vec.{with_item}
use Rattle.std.proofs.Math.Seq.{map-set_same}
use Rattle.std.proofs.lemmas.Bool.{and_parts, not-false}
use Rattle.std.proofs.lemmas.Option.{get_or_from_slice_get, same_Some}
use Rattle.device_io.specs.DeviceLog.{DeviceLog}
use Rattle.ca_base.specs.declared.codes.Hr.{Hr}
use Rattle.ca_base.specs.declared.codes.TheConstants.Hr as hr
use Rattle.ca_base.specs.declared.ids.Reason.TheVariants.{Format}
use Rattle.ca_base.specs.declared.limits.TheConstants.{MAX_COUNT}
use Rattle.ca_base.specs.Rows.{Row}
use Rattle.wave_format.specs.declared.format.Format as wave
use Rattle.wave_format.specs.declared.format.FormatFault.{FormatFault}
use Rattle.wave_format.specs.Format.{format_at, spelled}
use Rattle.wave_format.proofs.FormatLaws.{read-valid}
use Rattle.buffer_ring.specs.declared.step.EndState.{EndState}
use Rattle.buffer_ring.specs.declared.step.StoreStep.{StoreStep}
use Rattle.ca_stage.specs.Stage.{Playhead}
use Rattle.ca_stage.specs.Fates.{place_of}
use Rattle.device_registry.specs.declared.endpoint.Endpoint.{Endpoint}
use Rattle.device_registry.specs.Changes.{with_changed}
use Rattle.device_registry.specs.Endpoints.{EndpointList, is_endpoint, replaced_by}
use Rattle.ca_machine.specs.State.{State, endpoint_at}
use Rattle.ca_machine.specs.Plan.Answer.{found as memory_found}
use Rattle.ca_machine.proofs.DevicesGive.{found_gives_none, passes_unread}
use Rattle.ca_machine.specs.Devices.{missing_rows, set_format_plan, with_endpoint_format, with_format, with_named}
use Rattle.ca_machine.specs.Periods.{shared_frames}
use Rattle.ca_machine.specs.Formats.{is_faulty, matches}
use Rattle.ca_machine.specs.View.{outside}
use Rattle.period_engine.specs.declared.entry.StreamEntry.{StreamEntry}
use Rattle.period_engine.specs.declared.block.Block.{Block}
use Rattle.period_engine.specs.Sounds.{IsBlockFor}
use Rattle.service_book.proofs.Rows.{row_holds, row_passes}
use Rattle.service_board.specs.Board.{playhead_of, state_of}
use Rattle.stream_entries.specs.Closing.{Disconnects}
use Rattle.service_board.specs.Does.{AnyData, Does}
use Rattle.service_board.specs.InOrder.{InOrder, Seats, next_at, scratch_at}
use Rattle.service_board.proofs.AlikeEntries.{scratch_grows}
use Rattle.service_board.specs.Lookups.{Says}
use Rattle.service_board.specs.NamedEndpoints.{FindsNamed}
use Rattle.service_board.specs.declared.board.Board.{Board}
use Rattle.service_board.specs.declared.board.Seat.{Seat}
use Rattle.service_board.proofs.AddDoes.{seat_made, stays_does}
use Rattle.service_board.proofs.AddRows.{faulty, read_is}
use Rattle.service_board.proofs.ChangedBoards.{changed_alike, changed_granted, changed_order, zip_replaced}
use Rattle.service_board.proofs.Disconnecting.{disconnects_does}
use Rattle.service_board.proofs.PlainEvents.{add_none}
use Rattle.service_board.proofs.DuePeriods.{SeatAt, next_by_heads, seat_at}
use Rattle.service_board.proofs.Memory.{answers_out_of_memory}
use Rattle.service_board.proofs.NamedDoes.{granted_named}
use Rattle.service_board.proofs.NamedRows.{own_says, unnamed_says}

-- ---- the rows

module _ {D E : Type 0} (b : Board D E) (number : ℕ) (bytes : List ℕ) where
  -- the row of its own
  abbrev faulty_rows : State → List (Row Hr)
  faulty_rows st = (is_faulty bytes, hr.E_INVALIDARG) ∷ []

  pub format_unnamed : (code : Hr) → Says b (λ st. missing_rows st number) (Some code) →
      Says b (λ st. (set_format_plan st number bytes).rows) (Some code)
  format_unnamed code says = unnamed_says b number faulty_rows code says

  module _ (at : ℕ) (found : FindsNamed number b at) where
    pub format_faulty : (fault : FormatFault) → Err fault ≡ format_at bytes →
        Says b (λ st. (set_format_plan st number bytes).rows) (Some hr.E_INVALIDARG)
    format_faulty fault e =
        own_says b number at found faulty_rows (Some hr.E_INVALIDARG)
        (λ datas tally. row_holds (is_faulty bytes) hr.E_INVALIDARG None (faulty bytes fault e))

    pub format_says : (read : wave.Format) → format_at bytes ≡ Ok read →
        Says b (λ st. (set_format_plan st number bytes).rows) None
    format_says read spells =
        own_says b number at found faulty_rows None
        (λ datas tally. row_passes (is_faulty bytes) hr.E_INVALIDARG None (read_is bytes read spells).0 refl)

    -- memory ran out
    pub format_no_memory : (read : wave.Format) → format_at bytes ≡ Ok read → (faults : D → ℕ)
        (told : D → Option (List DeviceLog)) (moves : E → List StoreStep → E → Type 0)
        (stays : (a : E) → moves a [] a) →
        Does faults told moves None AnyData b b (λ st. set_format_plan st number bytes) hr.E_OUTOFMEMORY []
    format_no_memory read spells faults told moves stays =
        stays_does faults told moves stays b b refl (λ st. set_format_plan st number bytes) hr.E_OUTOFMEMORY []
        (λ datas tally.
        answers_out_of_memory (state_of datas tally b) (set_format_plan (state_of datas tally b) number bytes).rows
        (with_named (state_of datas tally b) (endpoint_at number (state_of datas tally b))
        (with_endpoint_format (state_of datas tally b) number bytes))
        (outside faults told b.devices) (format_says read spells datas tally))

-- ---- the board

-- formats that match have the same channels and the same rate
matching : (a b : wave.Format) → not (matches a b) ≡ false → (b.channels ≡ a.channels) × (b.rate ≡ a.rate)
matching a b h =
    let parts = and_parts (a.channels == b.channels) (a.rate == b.rate) (not-false (matches a b) h) in
    (sym (eqb-true a.channels b.channels parts.0), sym (eqb-true a.rate b.rate parts.1))

module _ {D E : Type 0} (b : Board D E) (number at : ℕ) (bytes : List ℕ) (found : FindsNamed number b at)
    (read : wave.Format) (spells : format_at bytes ≡ Ok read) where
  -- the endpoint with the format that was read
  abbrev pub read_endpoint : Endpoint
  read_endpoint = record (found.endpoint) { format = read }

  read_spelled : read ≡ spelled bytes
  read_spelled = (read_is bytes read spells).1

  abbrev pub loses_streams : Bool
  loses_streams = not (matches found.endpoint.format (spelled bytes))

  pub loses_is : (lost : Bool) → lost ≡ not (matches found.endpoint.format read) → lost ≡ loses_streams
  loses_is lost e = e ∙ ap (λ f. not (matches found.endpoint.format f)) read_spelled

  module _ (moves : E → List StoreStep → E → Type 0) (state : E → EndState) (order : InOrder state b)
      (entries : Vec (StreamEntry E))
      (loses : Disconnects moves state loses_streams Format (Some number) b.entries entries) (registry : EndpointList)
      (replaces : registry ≡ with_changed number (replaced_by read_endpoint) b.book.registry) (seat : Seat)
      (seat_read : seat ≡ get_or b.seats.items at seat) (block : Block) (frames : ℕ)
      (fits : shared_frames read_endpoint ≤ frames) (more : seat.block.frames ≤ frames)
      (size : IsBlockFor frames read.channels block)
    where
      abbrev new_seat : Seat
      new_seat = record { endpoint = seat.endpoint; next = seat.next; block = block }

      abbrev new_seats : Vec Seat
      new_seats = with_item b.seats at new_seat

      abbrev pub format_board : Board D E
      format_board =
          record b { book = record (b.book) { registry = registry }; seats = new_seats; entries = entries }

      registry_is : registry ≡ with_changed number (with_format bytes) b.book.registry
      registry_is =
          replaces
          ∙ ap (λ list. record (b.book.registry) { list = list })
          (changed_alike number 0 (replaced_by read_endpoint) (with_format bytes) b.book.registry.list found.endpoint
          order.book.endpoints found.found
          (ap (λ (f : wave.Format). record (found.endpoint) { format = f }) read_spelled))

      heads_stay_same : map playhead_of new_seats.items ≡ map playhead_of b.seats.items
      heads_stay_same = map-set_same playhead_of b.seats.items at new_seat seat (ap playhead_of seat_read)

      pub format_does : (faults : D → ℕ) (told : D → Option (List DeviceLog)) →
          Does faults told moves None AnyData b format_board (λ st. set_format_plan st number bytes) hr.S_OK []
      format_does faults told =
          disconnects_does moves state b order loses_streams Format (Some number) entries loses format_board.book
          new_seats faults told (λ st. set_format_plan st number bytes) (memory_found ∷ [])
          (format_says b number bytes at found read spells)
          (λ out. passes_unread out out [] (memory_found ∷ []) found_gives_none (add_none out.told) refl)
          (λ datas tally. refl)
          (λ datas tally.
          granted_named (state_of datas tally b) (endpoint_at number (state_of datas tally b)) found.endpoint
          (with_endpoint_format (state_of datas tally b) number bytes) _ found.found
          (changed_granted moves state b order loses_streams Format number entries loses (with_format bytes) registry
          registry_is new_seats heads_stay_same datas tally))

      -- ---- the order of the board

      abbrev its_seat : SeatAt b.seats.items at found.endpoint
      its_seat = seat_at b.seats.items b.book.registry.list at found.endpoint order.seats found.here

      seat_is : its_seat.seat ≡ seat
      seat_is = sym (get_or_from_slice_get b.seats.items at its_seat.seat seat its_seat.here) ∙ sym seat_read

      seat_fits : Seats new_seat (with_format bytes found.endpoint)
      seat_fits =
          subst (λ (f : wave.Format). Seats new_seat (record (found.endpoint) { format = f })) read_spelled
          (seat_made new_seat read_endpoint (ap (λ (t : Seat). t.endpoint.0) (sym seat_is) ∙ its_seat.fits.number)
          (subst (λ (t : Seat). t.next ≤ MAX_COUNT) seat_is its_seat.fits.next) frames fits size
          (read-valid bytes read spells))

      -- if the formats match, streams keep their channels and their period
      keeps_channels : (e : Endpoint) → find (is_endpoint number) b.book.registry.list ≡ Some e →
          loses_streams ≡ false → (with_format bytes e).format.channels ≡ e.format.channels
      keeps_channels e there kept =
          (matching found.endpoint.format (spelled bytes) kept).0
          ∙ ap (λ (x : Endpoint). x.format.channels) (same_Some found.endpoint e (sym found.found ∙ there))

      keeps_rate : (e : Endpoint) → find (is_endpoint number) b.book.registry.list ≡ Some e →
          loses_streams ≡ false → (with_format bytes e).format.rate ≡ e.format.rate
      keeps_rate e there kept =
          (matching found.endpoint.format (spelled bytes) kept).1
          ∙ ap (λ (x : Endpoint). x.format.rate) (same_Some found.endpoint e (sym found.found ∙ there))

      next_stays : (n : ℕ) → next_at n new_seats.items ≡ next_at n b.seats.items
      next_stays n =
          sym (next_by_heads n new_seats.items)
          ∙ ap (λ heads. place_of (find (λ (p : Playhead). p.number == n) heads)) heads_stay_same
          ∙ next_by_heads n b.seats.items

      scratch_more : (n : ℕ) → scratch_at n b.seats.items ≤ scratch_at n new_seats.items
      scratch_more =
          scratch_grows b.seats.items at its_seat.seat new_seat its_seat.here
          (ap (λ (t : Seat). t.endpoint.0) (sym seat_is))
          (subst (λ (t : Seat). t.block.frames ≤ block.frames) (sym seat_is)
          (subst (λ n. seat.block.frames ≤ n) (sym size.frames_are) more))

      pub format_order : InOrder state format_board
      format_order =
          changed_order moves state b order loses_streams Format number entries loses (with_format bytes) registry
          registry_is new_seats (λ e. refl) (λ e. refl) keeps_channels keeps_rate next_stays scratch_more
          (zip_replaced number 0 at (with_format bytes) b.seats.items b.book.registry.list new_seat found.endpoint
          order.book.endpoints found.here found.number_is seat_fits order.seats)
          order.seat_room
