-- What a period needs of a board in order: of its entries, of the endpoint's gains, and of the seat.
use Rattle.std.proofs.Common.{◌≡◌, ℕ, ◌+◌, ◌*◌, ◌<◌, ◌≤◌, List, [], ◌∷◌, length, take, true, None, sym, ap, ap₂, ◌∙◌}
use Rattle.std.proofs.Common.{◌&&◌}
use Rattle.std.proofs.Common.{subst, arith, get_or, eq-eqb, mul-le-mul_right}
use Rattle.std.specs.List.{All}
use Rattle.std.specs.Option.{option_map_or}
use Rattle.std.proofs.lemmas.List.{length-take}
use Rattle.std.proofs.lemmas.List.Elements.{All-from_recursion, All-take}
use Rattle.std.proofs.lemmas.Bool.{and_parts}
use Rattle.std.proofs.lemmas.Bool.Decides.{nat_tests}
use Rattle.std.proofs.lemmas.Option.{get_or_from_slice_get, slice_get_within}
use Rattle.ca_base.specs.declared.ids.Gate.TheVariants as gate
use Rattle.ca_base.specs.declared.limits.TheConstants.{MAX_COUNT, SHARED_PERIOD}
use Rattle.ca_base.specs.declared.values.TheConstants.{STATE_NOTPRESENT}
use Rattle.ca_base.specs.Rows.{first}
use Rattle.wave_format.specs.Format.{frames_of_time, is_listed}
use Rattle.ca_stage.specs.Stage.{is_capture, is_loopback, is_open_gate}
use Rattle.volume_stack.specs.Scaling.{unit_gain}
use Rattle.buffer_ring.specs.declared.step.EndState.{EndState}
use Rattle.device_registry.specs.declared.endpoint.Endpoint.{Endpoint}
use Rattle.device_registry.specs.Endpoints.{endpoint_at}
use Rattle.device_registry.specs.Rows.{state_rows}
use Rattle.service_board.proofs.Playing.{plays_here}
use Rattle.ca_machine.specs.Periods.{shared_frames}
use Rattle.period_engine.specs.declared.entry.StreamEntry.{StreamEntry}
use Rattle.period_engine.specs.Entries.{HasRoom, IsFeedable, is_heard, is_recorded}
use Rattle.period_engine.specs.Sounds.{AreEnds, BlockState, HasFeedRoom, IsSameSize}
use Rattle.stream_entries.specs.Holding.{is_open_entry, period_frames}
use Rattle.service_board.specs.Due.{FindsDue}
use Rattle.service_board.specs.InOrder.{Belongs, InOrder, IsScratch, next_at}
use Rattle.service_board.specs.Plays.{IsPlayable}
use Rattle.service_board.specs.declared.board.Board.{Board}
use Rattle.service_board.specs.declared.board.Seat.{Seat}
use Rattle.service_board.proofs.PeriodLengths.{entry_period, period_holds}
use Rattle.service_board.proofs.WornEntries.{heard_behind, is_here, on_endpoint, open_by}

-- the gains that change nothing, of `channels` channels
abbrev pub units : List ℕ
units = unit_gain ∷ unit_gain ∷ unit_gain ∷ unit_gain ∷ []

abbrev pub end_gains : ℕ → List ℕ
end_gains channels = take channels units

pub units_within : All (λ gain. gain ≤ unit_gain) units
units_within =
    let P : ℕ → Type 0 = λ gain. gain ≤ unit_gain in
    let le : unit_gain ≤ unit_gain = omega arith in
    All-from_recursion P units (le, (le, (le, (le, tt))))

pub ends_length : (channels : ℕ) → channels ≤ 4 → length (end_gains channels) ≡ channels
ends_length channels le = omega (arith, length-take channels units)

ends_are : (channels : ℕ) → 1 ≤ channels → channels ≤ 4 → AreEnds (end_gains channels)
ends_are channels some few =
    let size = ends_length channels few in
    record {
      some = omega arith;
      few = omega arith;
      within = All-take (λ gain. gain ≤ unit_gain) channels units units_within;
    }

-- scratch as large as other scratch has as much room
pub same_room : (channels frames : ℕ) (a b : BlockState) → IsSameSize a b → HasFeedRoom channels frames a →
    HasFeedRoom channels frames b
same_room channels frames a b same h = record {
  some = h.some;
  few = h.few;
  words = subst (λ n. frames ≤ n) (sym same.frames) h.words;
  bytes = subst (λ n. frames * channels * 2 ≤ n) (sym same.bytes) h.bytes;
}

pub same_scratch : (channels : ℕ) (a b : BlockState) → IsSameSize a b → IsScratch channels a → IsScratch channels b
same_scratch channels a b same h = record {
  samples = same.samples ∙ h.samples ∙ ap (λ n. n * channels) (sym same.frames);
  bytes = same.bytes ∙ h.bytes ∙ ap (λ n. 2 * (n * channels)) (sym same.frames);
}

pub same_size : (a b c : BlockState) → IsSameSize a b → IsSameSize b c → IsSameSize a c
same_size a b c h k = record {
  samples = k.samples ∙ h.samples;
  frames = k.frames ∙ h.frames;
  bytes = k.bytes ∙ h.bytes;
}

-- a rate that is listed has a frame in each period
rate_some : (rate : ℕ) → is_listed rate ≡ true → 1 ≤ rate
rate_some rate h = grind (arith, nat_tests)

pub frames_of_listed : (rate : ℕ) → is_listed rate ≡ true → 1 ≤ frames_of_time rate SHARED_PERIOD
frames_of_listed rate h = let some = rate_some rate h in omega arith

module _ {D E : Type 0} (state : E → EndState) (b : Board D E) (order : InOrder state b) (number at : ℕ)
    (due : FindsDue number b at) where
  abbrev pub its_endpoint : Endpoint
  its_endpoint = due.active.endpoint

  -- the frames of its period
  abbrev pub its_frames : ℕ
  its_frames = period_frames its_endpoint b.entries.items

  -- the endpoint and the seat, as they are read at the place
  pub endpoint_read : (e : Endpoint) → e ≡ get_or b.book.registry.list at e → e ≡ its_endpoint
  endpoint_read e read =
      read ∙ get_or_from_slice_get b.book.registry.list at its_endpoint e due.active.here

  pub seat_read : (s : Seat) → s ≡ get_or b.seats.items at s → s ≡ due.seat
  seat_read s read = read ∙ get_or_from_slice_get b.seats.items at due.seat s due.seat_here

  pub endpoint_within : at < length b.book.registry.list
  endpoint_within = slice_get_within b.book.registry.list at its_endpoint due.active.here

  pub seat_within : at < length b.seats.items
  seat_within = slice_get_within b.seats.items at due.seat due.seat_here

  -- the period fits in the scratch, to be played and to be offered as a packet
  its_block : its_frames * its_endpoint.format.channels ≤ due.seat.block.samples
  its_block =
      subst (λ n. its_frames * its_endpoint.format.channels ≤ n) (sym due.seats.block.samples)
      (mul-le-mul_right its_endpoint.format.channels due.fits)

  its_feed : HasFeedRoom its_endpoint.format.channels its_frames due.seat.block
  its_feed = record {
    some = due.seats.format.some_channel;
    few = due.seats.format.few_channels;
    words = due.fits;
    bytes =
        let most = mul-le-mul_right its_endpoint.format.channels due.fits in
        let bytes = due.seats.block.bytes in
        omega arith;
  }

  -- and has a frame
  pub some_frames : 1 ≤ its_frames
  some_frames =
      period_holds (λ n. 1 ≤ n) its_endpoint b.entries.items
      (frames_of_listed its_endpoint.format.rate due.seats.format.listed_rate)
      (λ k d lt opens.
      ((order.belong k d lt).opens (open_by (get_or b.entries.items k d).gate (and_parts _ _ opens).1)).some)

  its_next : next_at number b.seats.items ≡ due.seat.next
  its_next = ap (λ o. option_map_or (λ (s : Seat). s.next) o 0) due.seat_found

  entry_room : (e : StreamEntry E) → Belongs b.book b.seats.items e → HasRoom number its_frames e
  entry_room e belongs played =
      let plays = plays_here number e played in
      let next : next_at e.endpoint.0 b.seats.items ≡ due.seat.next =
      ap (λ n. next_at n b.seats.items) plays.0 ∙ its_next in
      let position = (belongs.opens plays.1).behind in
      let room = due.room in
      omega arith

  -- the channels and the period of an open entry are those of its endpoint
  entry_fits : (e : StreamEntry E) → Belongs b.book b.seats.items e → e.endpoint.0 ≡ number → e.gate ≡ gate.Open →
      e.channels ≡ its_endpoint.format.channels
  entry_fits e belongs here unclosed =
      let on = belongs.opens unclosed in
      on.fits
      ∙ ap (λ (x : Endpoint). x.format.channels)
      (on_endpoint b.book b.seats.items number its_endpoint due.active.found e here on)

  its_number : its_endpoint.no.0 ≡ number
  its_number = due.active.number_is

  -- an entry of the endpoint that is open, as a test
  opens_there : (e : StreamEntry E) → e.endpoint.0 ≡ number → e.gate ≡ gate.Open →
      is_open_entry its_endpoint.no.0 e ≡ true
  opens_there e here unclosed =
      ap₂ (λ v w. v && w) (eq-eqb e.endpoint.0 its_endpoint.no.0 (here ∙ sym its_number)) (ap is_open_gate unclosed)

  entry_lasts : (k : ℕ) (d : StreamEntry E) → k < length b.entries.items →
      (get_or b.entries.items k d).endpoint.0 ≡ number → (get_or b.entries.items k d).gate ≡ gate.Open →
      (get_or b.entries.items k d).period ≡ its_frames
  entry_lasts k d lt here unclosed =
      let e : StreamEntry E = get_or b.entries.items k d in
      let on = (order.belong k d lt).opens unclosed in
      entry_period its_endpoint b.entries.items order.alike k d lt (opens_there e here unclosed)
      (λ shared.
      on.lasts shared
      ∙ ap shared_frames (on_endpoint b.book b.seats.items number its_endpoint due.active.found e here on))

  entry_hears : (k : ℕ) (d : StreamEntry E) → k < length b.entries.items →
      is_heard number (get_or b.entries.items k d) ≡ true →
      IsFeedable its_endpoint.format.channels its_frames (get_or b.entries.items k d)
  entry_hears k d lt hears =
      let e : StreamEntry E = get_or b.entries.items k d in
      let belongs = order.belong k d lt in
      let at = is_here number is_loopback e hears in
      let behind = heard_behind b.book b.seats.items number its_endpoint due.active.found e belongs hears in
      let next = its_next in
      let room = due.room in
      record {
        channels_are = entry_fits e belongs at.here at.unclosed;
        period = entry_lasts k d lt at.here at.unclosed;
        ever = omega arith;
      }

  entry_records : (k : ℕ) (d : StreamEntry E) → k < length b.entries.items →
      is_recorded number (get_or b.entries.items k d) ≡ true →
      IsFeedable its_endpoint.format.channels its_frames (get_or b.entries.items k d)
  entry_records k d lt records =
      let e : StreamEntry E = get_or b.entries.items k d in
      let belongs = order.belong k d lt in
      let at = is_here number is_capture e records in
      record {
        channels_are = entry_fits e belongs at.here at.unclosed;
        period = entry_lasts k d lt at.here at.unclosed;
        ever = due.ever k d lt records;
      }

  -- the endpoint and the frames of its period, as they are read
  module _ (e : Endpoint) (read : e ≡ get_or b.book.registry.list at e) (frames : ℕ)
      (frames_are : frames ≡ period_frames e b.entries.items) where
    pub frames_read : frames ≡ its_frames
    frames_read = frames_are ∙ ap (λ (x : Endpoint). period_frames x b.entries.items) (endpoint_read e read)

    pub channels_read : e.format.channels ≡ its_endpoint.format.channels
    channels_read = ap (λ (x : Endpoint). x.format.channels) (endpoint_read e read)

    pub few_channels : e.format.channels ≤ 4
    few_channels = omega (arith, channels_read, due.seats.format.few_channels)

    pub its_ends : AreEnds (end_gains e.format.channels)
    its_ends =
        ends_are e.format.channels (omega (arith, channels_read, due.seats.format.some_channel))
        (omega (arith, few_channels))

    its_length : length (end_gains e.format.channels) ≡ its_endpoint.format.channels
    its_length = ends_length e.format.channels few_channels ∙ channels_read

    -- those who hear the endpoint may be offered a packet
    pub entries_feed : All (λ x. is_heard number x ≡ true → IsFeedable (length (end_gains e.format.channels)) frames x)
        b.entries.items
    entries_feed k d lt hears =
        subst (λ n. IsFeedable (length (end_gains e.format.channels)) n (get_or b.entries.items k d)) (sym frames_read)
        (subst (λ n. IsFeedable n its_frames (get_or b.entries.items k d)) (sym its_length)
        (entry_hears k d lt hears))

    -- and so may those who record it
    pub entries_record : All (λ x. is_recorded number x ≡ true → IsFeedable e.format.channels frames x) b.entries.items
    entries_record k d lt records =
        subst (λ n. IsFeedable e.format.channels n (get_or b.entries.items k d)) (sym frames_read)
        (subst (λ n. IsFeedable n its_frames (get_or b.entries.items k d)) (sym channels_read)
        (entry_records k d lt records))

    pub entries_playable : All (IsPlayable state number frames (length (end_gains e.format.channels))) b.entries.items
    entries_playable k d lt =
        let belongs = order.belong k d lt in
        record {
          rested = order.rested k d lt;
          counts =
              subst (λ n. HasRoom number n (get_or b.entries.items k d)) (sym frames_read)
              (entry_room (get_or b.entries.items k d) belongs);
          fits = λ here unclosed. entry_fits (get_or b.entries.items k d) belongs here unclosed ∙ sym its_length;
          hears = entries_feed k d lt;
          gains = belongs.within;
        }

    pub block_fits : (s : Seat) → s ≡ get_or b.seats.items at s →
        frames * length (end_gains e.format.channels) ≤ s.block.samples
    block_fits s seat =
        subst (λ (t : Seat). frames * length (end_gains e.format.channels) ≤ t.block.samples) (sym (seat_read s seat))
        (subst (λ n. n * length (end_gains e.format.channels) ≤ due.seat.block.samples) (sym frames_read)
        (subst (λ n. its_frames * n ≤ due.seat.block.samples) (sym its_length) its_block))

    -- a packet of the period fits in the seat's scratch, whatever a period left there
    pub feed_fits : (s : Seat) → s ≡ get_or b.seats.items at s → (block : BlockState) → IsSameSize s.block block →
        HasFeedRoom (length (end_gains e.format.channels)) frames block
    feed_fits s seat block same =
        let at : HasFeedRoom (length (end_gains e.format.channels)) frames s.block =
        subst (λ (t : Seat). HasFeedRoom (length (end_gains e.format.channels)) frames t.block) (sym (seat_read s seat))
        (subst (λ n. HasFeedRoom (length (end_gains e.format.channels)) n due.seat.block) (sym frames_read)
        (subst (λ n. HasFeedRoom n its_frames due.seat.block) (sym its_length) its_feed)) in
        same_room (length (end_gains e.format.channels)) frames s.block block same at

    pub record_fits : (s : Seat) → s ≡ get_or b.seats.items at s → HasFeedRoom e.format.channels frames s.block
    record_fits s seat =
        subst (λ (t : Seat). HasFeedRoom e.format.channels frames t.block) (sym (seat_read s seat))
        (subst (λ n. HasFeedRoom e.format.channels n due.seat.block) (sym frames_read)
        (subst (λ n. HasFeedRoom n its_frames due.seat.block) (sym channels_read) its_feed))

    -- a period has a frame
    pub some_frame : 1 ≤ frames
    some_frame = subst (λ n. 1 ≤ n) (sym frames_read) some_frames

    pub next_fits : (s : Seat) → s ≡ get_or b.seats.items at s → s.next + frames ≤ MAX_COUNT
    next_fits s seat = omega (arith, ap (λ (t : Seat). t.next) (seat_read s seat), frames_read, due.room)

-- a row of the registry doesn't refuse another state of an endpoint that was found
pub no_state_row : {D E : Type 0} (b : Board D E) (number at : ℕ) (due : FindsDue number b at) →
    first (state_rows STATE_NOTPRESENT (endpoint_at number b.book.registry.list)) ≡ None
no_state_row b number at due = ap (λ o. first (state_rows STATE_NOTPRESENT o)) due.active.found
