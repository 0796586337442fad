-- Another format of an endpoint: the endpoint that is made of the one that was read, and what is done with it.
use Rattle.std.proofs.Common.{◌≡◌, ℕ, ◌<◌, ◌≤◌, length, not, List, [], get_or, Bool, Option, Some, None, Ok, sym, ap}
use Rattle.std.proofs.Common.{◌∙◌, subst}
use Rattle.std.specs.Global.{Vec}
use Rattle.std.specs.Vec.{with_item}
use Rattle.std.proofs.lemmas.Option.{same_Some, slice_get-get_or}
use Rattle.device_io.specs.DeviceLog.{DeviceLog}
use Rattle.ca_base.specs.declared.codes.TheConstants.Hr as hr
use Rattle.ca_base.specs.declared.ids.Reason.TheVariants.{Format}
use Rattle.ca_base.specs.Rows.{first}
use Rattle.wave_format.specs.declared.format.Format as wave
use Rattle.wave_format.specs.Format.{IsValid, format_at}
use Rattle.wave_format.proofs.FormatLaws.{read-valid}
use Rattle.buffer_ring.specs.declared.step.EndState.{EndState}
use Rattle.buffer_ring.specs.declared.step.StoreStep.{StoreStep}
use Rattle.device_registry.specs.declared.endpoint.Endpoint.{Endpoint}
use Rattle.device_registry.specs.Changes.{with_changed}
use Rattle.device_registry.specs.Endpoints.{EndpointList, endpoint_at, replaced_by}
use Rattle.device_registry.specs.Rows.{found_rows}
use Rattle.ca_machine.specs.Devices.{set_format_plan}
use Rattle.ca_machine.specs.Periods.{shared_frames}
use Rattle.ca_machine.specs.Formats.{matches}
use Rattle.period_engine.specs.declared.entry.StreamEntry.{StreamEntry}
use Rattle.period_engine.specs.declared.block.Block.{Block}
use Rattle.period_engine.specs.Sounds.{IsBlockFor}
use Rattle.stream_entries.specs.Closing.{Disconnects}
use Rattle.service_board.specs.Does.{AnyData, Does}
use Rattle.service_board.specs.InOrder.{InOrder}
use Rattle.service_board.specs.NamedEndpoints.{FindsNamed}
use Rattle.service_board.specs.declared.board.Board.{Board}
use Rattle.service_board.specs.declared.board.Seat.{Seat}
use Rattle.service_board.proofs.FormatDoes.{format_does, format_order, loses_is, loses_streams, read_endpoint}
use Rattle.service_board.proofs.NamedDoes.{named_read}

-- of an endpoint that was read at its place, one with a format that was read is made
pub record Makes {D E : Type 0} (b : Board D E) (number at : ℕ) (bytes : List ℕ) (list : List Endpoint)
    (old made : Endpoint) (read : wave.Format) : Type 0
  where
    pub found : FindsNamed number b at
    pub list-is : list ≡ b.book.registry.list
    pub old-read : old ≡ get_or list at old
    pub spells : format_at bytes ≡ Ok read
    pub made-is : made ≡ record old { format = read }

module _ {D E : Type 0} (b : Board D E) (number at : ℕ) (bytes : List ℕ) (list : List Endpoint) (old made : Endpoint)
    (read : wave.Format) (m : Makes b number at bytes list old made read) where
  old_is : m.found.endpoint ≡ old
  old_is = named_read number b at m.found list m.list-is old m.old-read

  made_is : made ≡ read_endpoint b number at bytes m.found read m.spells
  made_is = m.made-is ∙ ap (λ (e : Endpoint). record e { format = read }) (sym old_is)

  number_is : made.no.0 ≡ number
  number_is = ap (λ (e : Endpoint). e.no.0) made_is ∙ m.found.number_is

  pub made_valid : IsValid made.format
  made_valid =
      subst (λ (e : Endpoint). IsValid e.format) (sym m.made-is) (read-valid bytes read m.spells)

  -- the registry refuses nothing of it
  pub made_passes : first (found_rows (endpoint_at made.no.0 b.book.registry.list)) ≡ None
  made_passes =
      ap (λ n. first (found_rows (endpoint_at n b.book.registry.list))) number_is
      ∙ ap (λ o. first (found_rows o)) m.found.found

  replaces_by : (registry : EndpointList) →
      registry ≡ with_changed made.no.0 (replaced_by made) b.book.registry →
      registry
      ≡ with_changed number (replaced_by (read_endpoint b number at bytes m.found read m.spells)) b.book.registry
  replaces_by registry now =
      now
      ∙ ap (λ n. with_changed n (replaced_by made) b.book.registry) number_is
      ∙ ap (λ e. with_changed number (replaced_by e) b.book.registry) made_is

  fits_by : (frames : ℕ) → shared_frames made ≤ frames →
      shared_frames (read_endpoint b number at bytes m.found read m.spells) ≤ frames
  fits_by frames fits = subst (λ e. shared_frames e ≤ frames) made_is fits

  loses_by : (moves : E → List StoreStep → E → Type 0) (state : E → EndState) (entries : Vec (StreamEntry E))
      (matched : Bool) → matched ≡ matches old.format read →
      Disconnects moves state (not matched) Format (Some number) b.entries entries →
      Disconnects moves state (loses_streams b number at bytes m.found read m.spells) Format (Some number) b.entries
      entries
  loses_by moves state entries matched is loses =
      subst (λ lost. Disconnects moves state lost Format (Some number) b.entries entries)
      (loses_is b number at bytes m.found read m.spells (not matched)
      (ap not is ∙ ap (λ (e : Endpoint). not (matches e.format read)) (sym old_is)))
      loses

  -- the board after it, with the streams closed if they are lost
  module _ (moves : E → List StoreStep → E → Type 0) (state : E → EndState) (order : InOrder state b)
      (entries : Vec (StreamEntry E)) (matched : Bool) (matched_is : matched ≡ matches old.format read)
      (loses : Disconnects moves state (not matched) Format (Some number) b.entries entries) (registry : EndpointList)
      (now : registry ≡ with_changed made.no.0 (replaced_by made) b.book.registry) (seat : Seat)
      (seat_read : seat ≡ get_or b.seats.items at seat) (before : Seat)
      (before_read : before ≡ get_or b.seats.items at before) (there : at < length b.seats.items) (frames : ℕ)
      (fits : shared_frames made ≤ frames) (no_less : before.block.frames ≤ frames) (block : Block)
      (size : IsBlockFor frames read.channels block)
    where
      abbrev made_board : Board D E
      made_board = record b {
        book = record (b.book) { registry = registry };
        seats = with_item b.seats at (record { endpoint = seat.endpoint; next = seat.next; block = block });
        entries = entries;
      }

      more : seat.block.frames ≤ frames
      more =
          subst (λ (t : Seat). t.block.frames ≤ frames)
          (before_read
          ∙ same_Some (get_or b.seats.items at before) (get_or b.seats.items at seat)
          (sym (slice_get-get_or b.seats.items at before there) ∙ slice_get-get_or b.seats.items at seat there)
          ∙ sym seat_read) no_less

      made_does : (faults : D → ℕ) (told : D → Option (List DeviceLog)) →
          Does faults told moves None AnyData b made_board (λ st. set_format_plan st number bytes) hr.S_OK []
      made_does =
          format_does b number at bytes m.found read m.spells moves state order entries
          (loses_by moves state entries matched matched_is loses) registry (replaces_by registry now) seat seat_read
          block frames (fits_by frames fits) more size

      made_order : InOrder state made_board
      made_order =
          format_order b number at bytes m.found read m.spells moves state order entries
          (loses_by moves state entries matched matched_is loses) registry (replaces_by registry now) seat seat_read
          block frames (fits_by frames fits) more size

      -- what such an event does, and that the board stays in order
      pub made_ends : (faults : D → ℕ) (told : D → Option (List DeviceLog)) →
          Does faults told moves None AnyData b made_board (λ st. set_format_plan st number bytes) hr.S_OK []
          × InOrder state made_board
      made_ends faults told = (made_does faults told, made_order)
