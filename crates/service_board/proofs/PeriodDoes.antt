-- A period on a board is the machine's period.
use Rattle.std.proofs.Common.{◌+◌, ◌≡◌, ℕ, ◌<◌, ◌==◌, ◌&&◌, List, [], ◌∷◌, length, map, Bool, true, false}
use Rattle.std.proofs.Common.{Option, Some}
use Rattle.std.proofs.Common.{None, refl, sym, ap, ap₂, ◌∙◌, subst, arith, if◌then◌else◌, slice_get}
use Rattle.std.specs.Prelude.{slice_index}
use Rattle.std.specs.List.{AllZip}
use Rattle.std.specs.Option.{option_map}
use Rattle.std.proofs.lemmas.Bool.{and_parts, true≢false}
use Rattle.std.proofs.lemmas.Option.{slice_get-map}
use Rattle.std.proofs.lemmas.List.Elements.{All-from_recursion, All-get_or, All-take}
use Rattle.device_io.specs.DeviceLog.{DeviceLog, add_all}
use Rattle.ca_base.specs.declared.codes.TheConstants.Hr as hr
use Rattle.ca_base.specs.declared.ids.Flow.TheVariants as flow
use Rattle.ca_base.specs.declared.ids.Reason.TheVariants.{Removal}
use Rattle.ca_base.specs.declared.ids.StreamKind.{StreamKind}
use Rattle.ca_base.specs.declared.ids.StreamKind.TheVariants as kind
use Rattle.ca_base.specs.Rows.{first}
use Rattle.wave_format.specs.Frame.{frames_from}
use Rattle.wave_format.proofs.BlockLaws.{frames_from-frame_bytes}
use Rattle.volume_stack.specs.Scaling.{unit_gain}
use Rattle.buffer_ring.specs.declared.step.EndState.{EndState}
use Rattle.buffer_ring.specs.declared.step.StoreStep.{StoreStep}
use Rattle.ca_stage.specs.Stage.{BufferData, Frame, Playhead, Stage, Stream, is_loopback, is_open, is_render}
use Rattle.ca_stage.specs.Mix.{mixed, sound_bytes}
use Rattle.ca_stage.specs.Moves.{Mixing, Move, after_moves, closed, fed, finished, moved, picked, playhead_after}
use Rattle.ca_stage.specs.Moves.{retired}
use Rattle.ca_stage.specs.Periods.{after_period, failed, fed_if, is_hearing, is_open_on, is_playing, picked_on, played}
use Rattle.ca_stage.specs.Periods.{sub_steps}
use Rattle.ca_stage.specs.Order.{RisesFrom, clients}
use Rattle.ca_stage.specs.Tally.{Tally, tally_after}
use Rattle.ca_stage.proofs.Lists.{all_of, map_alike, map_map}
use Rattle.ca_stage.proofs.MapPeriods.{mixed_at_sound}
use Rattle.ca_stage.proofs.Mixing.{mix_sums}
use Rattle.ca_stage.proofs.Periods.{period_by}
use Rattle.ca_stage.proofs.SubSteps.{plays_on as plays_open_on}
use Rattle.device_registry.specs.declared.endpoint.Endpoint.{Endpoint}
use Rattle.ca_machine.specs.State.{empty_state}
use Rattle.ca_machine.specs.Plan.{Answer, IsWriting, pieces}
use Rattle.ca_machine.specs.Plan as plan
use Rattle.ca_machine.specs.Periods.{bytes_due, mixing_of, period_of, period_payload, period_plan}
use Rattle.stream_entries.specs.Holding.{period_frames}
use Rattle.service_board.proofs.PeriodLengths.{frames_alike}
use Rattle.ca_machine.specs.Periods as machine
use Rattle.ca_machine.specs.View.{AnswersBy, outside}
use Rattle.ca_machine.proofs.DevicesGive.{passes_unread, writing_gives_none}
use Rattle.period_engine.specs.Agreement.{AllAgree}
use Rattle.period_engine.specs.Entries.{stream_of, streams_of}
use Rattle.period_engine.specs.Sounds.{MixesThese}
use Rattle.period_engine.specs.SubSteps.{picks_on, retires_on}
use Rattle.service_book.specs.BookState.{book_state}
use Rattle.service_board.specs.Board.{playhead_of, stage_with, state_of}
use Rattle.service_board.specs.Does.{AnyData, Does, after_steps}
use Rattle.service_board.specs.Due.{FindsDue}
use Rattle.service_board.specs.InOrder.{InOrder, Seats}
use Rattle.service_board.specs.Plays.{Plays, plays_on}
use Rattle.service_board.specs.declared.board.Board.{Board}
use Rattle.service_board.specs.declared.board.Seat.{Seat}
use Rattle.service_board.proofs.ByClient.{all_made, all_packed, are_after, streams_went}
use Rattle.service_board.proofs.DuePeriods.{rows_by}
use Rattle.service_board.proofs.Offering.{answers_granted_by, answers_of, answers_write, faults_rise, pieces_are}
use Rattle.service_board.proofs.Offering.{whole_is}
use Rattle.service_board.proofs.PeriodGains.{gain_is}
use Rattle.service_board.proofs.PeriodNeeds.{end_gains, ends_length, units}

-- ---- what a period makes of a stream

retires_picked : (number frames : ℕ) (s : Stream) (b : Bool) → is_playing number s ≡ b →
    retires_on number (if b then moved (picked frames) s else s)
    ≡ (if b then moved retired (moved (picked frames) s) else s)
retires_picked number frames s true e =
    ap (λ c. if c then moved retired (moved (picked frames) s) else moved (picked frames) s) e
retires_picked number frames s false e = ap (λ c. if c then moved retired s else s) e

closes_picked : (number frames : ℕ) (s : Stream) (b c : Bool) → is_playing number s ≡ b → is_open_on number s ≡ c →
    (if c then moved (closed Removal) (if b then moved (picked frames) s else s)
    else (if b then moved (picked frames) s else s))
    ≡ (if c then moved (closed Removal) s else s)
closes_picked number frames s true true e o = refl
closes_picked number frames s true false e o = absurd (true≢false (sym (plays_open_on number s e) ∙ o))
closes_picked number frames s false true e o = refl
closes_picked number frames s false false e o = refl

still_open : (number frames : ℕ) (s : Stream) (b : Bool) →
    is_open_on number (if b then moved (picked frames) s else s) ≡ is_open_on number s
still_open number frames s true = refl
still_open number frames s false = refl

-- a stream that plays doesn't hear
and_none : (a b c : Bool) → (a && (b && (c && false))) ≡ false
and_none true true true = refl
and_none true true false = refl
and_none true false c = refl
and_none false b c = refl

plays_or_hears : (k : StreamKind) → is_render k ≡ true → is_loopback k ≡ false
plays_or_hears kind.Render h = refl
plays_or_hears kind.Capture h = refl
plays_or_hears kind.Loopback h = absurd (true≢false (sym h))

hears_none : (number : ℕ) (s : Stream) → is_playing number s ≡ true → is_hearing number s ≡ false
hears_none number s h =
    let at = and_parts (s.endpoint == number) (is_open s && (s.running && is_render s.kind)) h in
    let unclosed = and_parts (is_open s) (s.running && is_render s.kind) at.1 in
    ap (λ b. s.endpoint == number && (is_open s && (s.running && b)))
    (plays_or_hears s.kind (and_parts s.running (is_render s.kind) unclosed.1).1)
    ∙ and_none (s.endpoint == number) (is_open s) s.running

fed_picked : (number frames : ℕ) (heard : List Frame) (s : Stream) (b : Bool) → is_playing number s ≡ b →
    fed_if (is_hearing number) heard (if b then moved retired (moved (picked frames) s) else s)
    ≡ (if b then moved retired (moved (picked frames) s) else fed_if (is_hearing number) heard s)
fed_picked number frames heard s true e =
    ap (λ c. if c then moved (fed heard) (moved retired (moved (picked frames) s))
    else moved retired (moved (picked frames) s)) (hears_none number s e)
fed_picked number frames heard s false e = refl

-- a period of a whole stage is one map over its streams, by the frames that its device got, or whether it failed
abbrev its_map : Mixing → List Frame → Bool → Stream → Stream
its_map m heard true s = played m heard s
its_map m heard false s = failed m s

plays_alike : (m : Mixing) (heard : List Frame) (whole : Bool) (s : Stream) →
    plays_on m.endpoint m.frames heard whole s ≡ its_map m heard whole s
plays_alike m heard true s =
    ap (fed_if (is_hearing m.endpoint) heard) (retires_picked m.endpoint m.frames s (is_playing m.endpoint s) refl)
    ∙ fed_picked m.endpoint m.frames heard s (is_playing m.endpoint s) refl
plays_alike m heard false s =
    ap (λ c. if c then moved (closed Removal) (picks_on m.endpoint m.frames s) else picks_on m.endpoint m.frames s)
    (still_open m.endpoint m.frames s (is_playing m.endpoint s))
    ∙ closes_picked m.endpoint m.frames s (is_playing m.endpoint s) (is_open_on m.endpoint s) refl refl

-- ---- the playheads, and the endpoints

pub seat_numbers : (seats : List Seat) (endpoints : List Endpoint) → AllZip Seats seats endpoints →
    map (λ (e : Playhead). e.number) (map playhead_of seats) ≡ map (λ (e : Endpoint). e.no.0) endpoints
seat_numbers [] [] h = refl
seat_numbers (s ∷ seats) (e ∷ endpoints) h = ap₂ (λ n ns. n ∷ ns) h.0.number (seat_numbers seats endpoints h.1)
seat_numbers [] (e ∷ endpoints) h = absurd h
seat_numbers (s ∷ seats) [] h = absurd h

pub get_mapped : {X Y : Type 0} (f : X → Y) (xs : List X) (at : ℕ) (x : X) → slice_get xs at ≡ Some x →
    slice_get (map f xs) at ≡ Some (f x)
get_mapped f xs at x h = slice_get-map f xs at ∙ ap (option_map f) h

-- ---- the gains of the endpoint

each_unit : (channels channel : ℕ) → channel < length (end_gains channels) →
    slice_index (end_gains channels) channel ≡ unit_gain
each_unit channels channel lt =
    let P : ℕ → Type 0 = λ gain. gain ≡ unit_gain in
    All-get_or P (end_gains channels) channel 0 lt
    (All-take P channels units (All-from_recursion P units (refl, (refl, (refl, (refl, tt))))))

-- ---- the period

-- the frames of a mix are read from its bytes
mixed_frames : (m : Mixing) (streams : List Stream) →
    frames_from m.frames m.channels (sound_bytes m streams) ≡ mixed m streams
mixed_frames m streams =
    ap (λ n. frames_from n m.channels (sound_bytes m streams)) (sym (mix_sums m streams).count)
    ∙ frames_from-frame_bytes m.channels (mixed m streams) (mix_sums m streams).frames

-- the playheads after a period, by whether the device took all
abbrev pub heads_by : Mixing → Bool → List Playhead → List Playhead
heads_by m true heads = map (playhead_after (finished m true)) heads
heads_by m false heads = heads

after_period_is : (m : Mixing) (whole : Bool) (st : Stage) →
    after_period m whole st
    ≡ record {
      playheads = heads_by m whole st.playheads;
      streams = map (its_map m (mixed m (map (picked_on m) st.streams)) whole) st.streams;
    }
after_period_is m true st = refl
after_period_is m false st = refl

-- neither the playheads nor the payload of a period depend on the gains
-- mixings of one endpoint and as many frames move playheads alike
heads_alike : (m n : Mixing) → m.endpoint ≡ n.endpoint → m.frames ≡ n.frames → (whole : Bool) (heads : List Playhead) →
    heads_by m whole heads ≡ heads_by n whole heads
heads_alike m n endpoint frames true heads =
    ap₂ (λ number k. map (λ (e : Playhead). if e.number == number then record e { next = e.next + k } else e) heads)
    endpoint frames
heads_alike m n endpoint frames false heads = refl

module _ {D E : Type 0} (faults : D → ℕ) (told : D → Option (List DeviceLog)) (moves : E → List StoreStep → E → Type 0)
    (state : E → EndState) (b new : Board D E) (order : InOrder state b) (number at : ℕ) (due : FindsDue number b at)
    (whole : Bool)
    (plays : Plays moves due.active.endpoint.no.0 (period_frames due.active.endpoint b.entries.items)
    (end_gains due.active.endpoint.format.channels) whole b.entries.items new.entries.items (faults b.devices)
    (told b.devices) (faults new.devices) (told new.devices))
  where
    abbrev its_endpoint : Endpoint
    its_endpoint = due.active.endpoint

    -- the frames of its period
    abbrev pub its_frames : ℕ
    its_frames = period_frames its_endpoint b.entries.items

    -- a mixing of the endpoint's period, whatever its gains
    abbrev pub any_mixing : Mixing
    any_mixing = record (mixing_of empty_state its_endpoint) { frames = its_frames }

    -- the frames that its device got
    abbrev pub heard : List Frame
    heard = frames_from its_frames (length (end_gains its_endpoint.format.channels)) plays.bytes

    abbrev pub stage_by : (ℕ → BufferData) → Stage
    stage_by datas = stage_with datas b.seats.items b.entries.items

    rises : (datas : ℕ → BufferData) → RisesFrom 0 (clients (stage_by datas))
    rises datas =
        subst (RisesFrom 0) (sym (map_map (λ (s : Stream). s.client) (stream_of datas) b.entries.items)) order.order

    module _ (fresh : b.book.levels_changed ≡ false) (datas : ℕ → BufferData) (tally : Tally)
        (agree : AllAgree plays.steps datas b.entries.items) where
      -- what the period mixes by
      abbrev its_mixing : Mixing
      its_mixing = mixing_of (state_of datas tally b) its_endpoint

      mixes : MixesThese its_mixing its_endpoint.no.0 its_frames
          (end_gains its_endpoint.format.channels) b.entries.items
      mixes = record {
        endpoint = refl;
        lasts = frames_alike its_endpoint datas b.entries.items;
        channels = sym (ends_length its_endpoint.format.channels due.seats.format.few_channels);
        gains = λ k d lt channel below.
            gain_is state b order fresh datas tally k d lt channel
            (omega (
              arith,
              ends_length its_endpoint.format.channels due.seats.format.few_channels,
              due.seats.format.few_channels,
            ));
        end_gains = λ channel below. sym (each_unit its_endpoint.format.channels channel below);
      }

      abbrev datas_after : ℕ → BufferData
      datas_after = after_steps plays.steps b.entries.items datas

      -- what was written is what is picked of the frames that the machine's period has
      picked_bytes : plays.bytes
          ≡ sound_bytes its_mixing
          (map (picks_on its_endpoint.no.0 its_mixing.frames) (streams_of datas b.entries.items))
      picked_bytes =
          plays.mixed datas its_mixing agree mixes
          ∙ ap (λ n. sound_bytes its_mixing (map (picks_on its_endpoint.no.0 n) (streams_of datas b.entries.items)))
          (sym (frames_alike its_endpoint datas b.entries.items))

      bytes_are : plays.bytes ≡ bytes_due its_mixing (stage_by datas)
      bytes_are =
          picked_bytes ∙ sym (mixed_at_sound its_mixing (stage_by datas) (rises datas))

      -- what was written is the frames of the mix
      heard_is : heard ≡ mixed its_mixing (map (picked_on its_mixing) (streams_of datas b.entries.items))
      heard_is =
          ap₂ (λ n bytes. frames_from its_frames n bytes)
          (ends_length its_endpoint.format.channels due.seats.format.few_channels)
          picked_bytes
          ∙ ap (λ n. frames_from n its_mixing.channels
          (sound_bytes its_mixing (map (picked_on its_mixing) (streams_of datas b.entries.items))))
          (sym (frames_alike its_endpoint datas b.entries.items))
          ∙ mixed_frames its_mixing (map (picked_on its_mixing) (streams_of datas b.entries.items))

      streams_are : streams_of datas_after new.entries.items
          ≡ map (its_map its_mixing (mixed its_mixing (map (picked_on its_mixing) (streams_of datas b.entries.items)))
          whole) (streams_of datas b.entries.items)
      streams_are =
          sym (streams_went moves (plays_on its_endpoint.no.0 its_frames heard whole) plays.steps
          datas
          datas_after b.entries.items new.entries.items plays.went agree
          (are_after plays.steps b.entries.items datas order.order))
          ∙ ap (λ n. map (plays_on its_endpoint.no.0 n heard whole) (streams_of datas b.entries.items))
          (sym (frames_alike its_endpoint datas b.entries.items))
          ∙ map_alike (plays_on its_endpoint.no.0 its_mixing.frames heard whole)
          (its_map its_mixing heard whole)
          (streams_of datas b.entries.items) (all_of _ (plays_alike its_mixing heard whole)
          (streams_of datas b.entries.items))
          ∙ ap (λ frames. map (its_map its_mixing frames whole) (streams_of datas b.entries.items)) heard_is

    module _ (renders : its_endpoint.flow ≡ flow.Render) (fresh : b.book.levels_changed ≡ false)
        (heads : map playhead_of new.seats.items ≡ heads_by any_mixing whole (map playhead_of b.seats.items))
        (book : (datas : ℕ → BufferData) (tally : Tally) → state_of datas tally new
        ≡ machine.after_period its_endpoint.no.0 whole
        (book_state b.book (stage_with datas new.seats.items new.entries.items) tally))
        (payload : List ℕ) (payload_is : payload ≡ period_payload any_mixing.frames whole)
      where
        module _ (datas : ℕ → BufferData) (tally : Tally) (agree : AllAgree plays.steps datas b.entries.items) where
          abbrev mixing : Mixing
          mixing = its_mixing fresh datas tally agree

          abbrev sub_moves : List Move
          sub_moves = sub_steps mixing whole (stage_by datas)

          abbrev tally_then : Tally
          tally_then = tally_after tally (stage_by datas) sub_moves

          abbrev data_then : ℕ → BufferData
          data_then = datas_after fresh datas tally agree

          stage_is : stage_with data_then new.seats.items new.entries.items ≡ after_moves (stage_by datas) sub_moves
          stage_is =
              ap₂ (λ hs ss. record { playheads = hs; streams = ss })
              (heads
              ∙ heads_alike any_mixing mixing refl (sym (frames_alike its_endpoint datas b.entries.items)) whole
              (map playhead_of b.seats.items))
              (streams_are fresh datas tally agree)
              ∙ sym (after_period_is mixing whole (stage_by datas))
              ∙ sym (period_by mixing (stage_by datas) (rises datas) whole)

          state_is : state_of data_then tally_then new
              ≡ machine.after_period its_endpoint.no.0 whole (plan.moved sub_moves (state_of datas tally b))
          state_is =
              book data_then tally_then
              ∙ ap (λ stage. machine.after_period its_endpoint.no.0 whole (book_state b.book stage tally_then)) stage_is

          abbrev given : List Answer
          given = answers_of plays.offers.counts whole

          answers : AnswersBy (state_of datas tally b)
              (machine.period_by (state_of datas tally b) its_endpoint flow.Render) hr.S_OK payload
              (state_of data_then tally_then new) (outside faults told b.devices)
              (outside faults told new.devices)
          answers =
              let st = state_of datas tally b in
              let counts = plays.offers.counts in
              let is_w = whole_is counts whole in
              let bytes = bytes_are fresh datas tally agree in
              answers_granted_by st (machine.period_by st its_endpoint flow.Render) hr.S_OK payload
              (state_of data_then tally_then new) (outside faults told b.devices)
              (outside faults told new.devices) given
              (ap first (sym (rows_by st its_endpoint its_endpoint.flow))
              ∙ sym (ap (λ o. first (period_of st o).rows) due.active.found) ∙ due.says datas tally)
              (subst (λ n. IsWriting n given) (ap length bytes)
              (answers_write counts whole (length plays.bytes) plays.offers.taken))
              refl
              (payload_is
              ∙ ap (λ n. period_payload n whole) (sym (frames_alike its_endpoint datas b.entries.items))
              ∙ ap (period_payload mixing.frames) (sym is_w))
              (state_is ∙ ap (λ w. machine.after_period its_endpoint.no.0 w
              (plan.moved (sub_steps mixing w (stage_by datas)) st)) (sym is_w))
              (passes_unread (outside faults told b.devices) (outside faults told new.devices)
              (pieces its_endpoint.no.0 (bytes_due mixing (stage_by datas)) given) given
              (writing_gives_none (length plays.bytes) given
              (answers_write counts whole (length plays.bytes) plays.offers.taken))
              (plays.offers.tells
              ∙ ap (λ ps. option_map (add_all ps) (told b.devices))
              (sym (pieces_are its_endpoint.no.0 plays.bytes counts whole)
              ∙ ap (λ bs. pieces its_endpoint.no.0 bs given) bytes))
              (faults_rise counts whole (faults b.devices) (faults new.devices) plays.offers.rises))

        pub period_does : Does faults told moves None AnyData b new (λ st. period_plan st number) hr.S_OK payload
        period_does = record {
          steps = plays.steps;
          made = λ client.
              all_made moves (plays_on its_endpoint.no.0 its_frames heard whole) plays.steps None
              b.entries.items new.entries.items plays.went client (plays.none client);
          packs = λ client.
              all_packed moves (plays_on its_endpoint.no.0 its_frames heard whole) plays.steps
              b.entries.items new.entries.items plays.went client (plays.none client);
          does = λ datas tally agree knows. record {
            tally = tally_then datas tally agree;
            answers =
                subst (λ o. AnswersBy (state_of datas tally b) (period_of (state_of datas tally b) o) hr.S_OK payload
                (state_of (data_then datas tally agree) (tally_then datas tally agree) new)
                (outside faults told b.devices) (outside faults told new.devices)) (sym due.active.found)
                (subst (λ f. AnswersBy (state_of datas tally b)
                (machine.period_by (state_of datas tally b) its_endpoint f) hr.S_OK payload
                (state_of (data_then datas tally agree) (tally_then datas tally agree) new)
                (outside faults told b.devices) (outside faults told new.devices)) (sym renders)
                (answers datas tally agree));
          };
        }
