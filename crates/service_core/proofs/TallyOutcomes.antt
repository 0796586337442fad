-- What outcomes do to the tally: a Reset, clients that leave, and a period count by how much fewer frames are pending
-- in open streams.
use Rattle.std.proofs.Common.{◌≡◌, ℕ, ◌-◌, ◌==◌, ◌++◌, not, List, [], ◌∷◌, filter, Bool, true, false, Option, Some}
use Rattle.std.proofs.Common.{None, refl, sym, ap, subst, ◌∙◌, arith, get_or, if◌then◌else◌}
use Rattle.std.specs.Int.{w32, to_le_bytes}
use Rattle.ca_base.specs.declared.codes.Hr.{Hr}
use Rattle.ca_base.specs.declared.codes.TheConstants.Hr as hr
use Rattle.ca_base.specs.declared.ids.Flow.{Flow}
use Rattle.ca_base.specs.declared.ids.Flow.TheVariants as flow
use Rattle.ca_base.specs.Rows.{first}
use Rattle.ca_base.specs.declared.ids.Reason.TheVariants.{Released}
use Rattle.device_registry.specs.declared.endpoint.Endpoint.{Endpoint}
use Rattle.ca_stage.specs.Stage.{Stream}
use Rattle.ca_stage.specs.Moves.{reset, Mixing, of_client, after_moves, stream_at}
use Rattle.ca_stage.specs.Periods.{sub_steps}
use Rattle.ca_stage.specs.Order.{clients, RisesFrom}
use Rattle.ca_stage.specs.Present.{AreGone}
use Rattle.ca_stage.specs.Tally.{counted}
use Rattle.ca_stage.proofs.Counting.{counted_none}
use Rattle.ca_machine.specs.declared.state.Client.{Client}
use Rattle.ca_machine.specs.State.{State, live_clients, is_client_of, endpoint_at}
use Rattle.ca_machine.specs.Plan.{Outcome, Answer, bytes_given, outcome_of, granted, refused, unless_refused, is_whole}
use Rattle.ca_machine.specs.Plan.{moved}
use Rattle.ca_machine.specs.SharedRows.{with_stream}
use Rattle.ca_machine.specs.Clients.{closes, hangup_plan, is_client_on, leaving, release_plan, without_connection}
use Rattle.ca_machine.specs.Streams.{reset_plan}
use Rattle.ca_stage.specs.Given.{whole_frames}
use Rattle.ca_machine.specs.Periods.{after_period, after_recording, frames_recorded, mixing_of, period_by}
use Rattle.ca_machine.specs.Periods.{period_frames, period_of, period_payload, period_plan, period_rows, recording}
use Rattle.ca_machine.specs.Periods.{recording_moves, sounding}
use Rattle.ca_machine.proofs.LiveClients.{gone_left}
use Rattle.ca_machine.proofs.ClosesOfClients.{closes_are}
use Rattle.service_core.specs.Counting.{HasCounts}
use Rattle.service_core.proofs.TallyFalls.{closes_count, failed_counts, left_padding, lost_counts, open_padding}
use Rattle.service_core.proofs.TallyFalls.{recorded_counts, reset_counts, whole_counts}

-- by how much fewer frames are pending in open streams
abbrev pub fallen : State → State → ℕ
fallen old new = open_padding old.stage - open_padding new.stage

-- they were reset, dropped, or rendered
abbrev pub WereReset : State → State → Type 0
WereReset old new = new.tally ≡ record (old.tally) { reset = counted old.tally.reset (fallen old new) }

abbrev pub WereDropped : State → State → Type 0
WereDropped old new = new.tally ≡ record (old.tally) { dropped = counted old.tally.dropped (fallen old new) }

abbrev pub WereRendered : State → State → Type 0
WereRendered old new = new.tally ≡ record (old.tally) { rendered = counted old.tally.rendered (fallen old new) }

-- by a period: a whole one rendered, and one that failed dropped
abbrev pub WereTaken : Bool → State → State → Type 0
WereTaken false old new = WereRendered old new
WereTaken true old new = WereDropped old new

-- the last byte of a period's payload says whether it failed
pub last_byte : (n : ℕ) (whole failed : Bool) (frames : ℕ) →
    to_le_bytes w32 frames ++ (if failed then 1 else 0) ∷ [] ≡ period_payload n whole → failed ≡ not whole
last_byte n true true frames e = cc (ap (λ bytes. get_or bytes 4 0) e)
last_byte n true false frames e = refl
last_byte n false true frames e = refl
last_byte n false false frames e = cc (ap (λ bytes. get_or bytes 4 0) e)

-- a period's payload has some bytes
pub some_bytes : (n : ℕ) (whole : Bool) → [] ≡ period_payload n whole → ⊥
some_bytes n true e = cc
some_bytes n false e = cc

module _ (st : State) (rises : RisesFrom 0 (clients st.stage)) (fits : HasCounts st.tally) where
  none_fallen : fallen st st ≡ 0
  none_fallen = omega arith

  none_reset : WereReset st st
  none_reset = ap (λ n. record (st.tally) { reset = n }) (counted_none st.tally.reset fits.reset none_fallen)

  pub none_dropped : WereDropped st st
  none_dropped = ap (λ n. record (st.tally) { dropped = n }) (counted_none st.tally.dropped fits.dropped none_fallen)

  -- ---- Reset

  reset_stream : (client : ℕ) (s : Option Stream) →
      WereReset st (with_stream st s (λ s. granted [] (of_client client reset ∷ []) st)).after
  reset_stream client None = none_reset
  reset_stream client (Some s) = reset_counts client st.stage st.tally rises fits.reset

  reset_unless : (verdict : Option Hr) (o : Outcome) → WereReset st o.after →
      WereReset st (unless_refused st verdict o).after
  reset_unless None o h = h
  reset_unless (Some code) o h = none_reset

  pub reset_outcome : (conn client : ℕ) (given : List Answer) →
      WereReset st (outcome_of st (reset_plan st conn client) given).after
  reset_outcome conn client given =
      reset_unless (first (reset_plan st conn client).rows)
      (with_stream st (stream_at client st.stage) (λ s. granted [] (of_client client reset ∷ []) st))
      (reset_stream client (stream_at client st.stage))

  -- ---- clients that leave

  pub dropped_unless : (verdict : Option Hr) (o : Outcome) → WereDropped st o.after →
      WereDropped st (unless_refused st verdict o).after
  dropped_unless None o h = h
  dropped_unless (Some code) o h = none_dropped

  module _ (gone : AreGone (live_clients st.clients) st.stage) (p : Client → Bool) where
    -- the clients that go, and those that are left
    abbrev the_gone : List Client
    the_gone = filter p st.clients

    abbrev the_left : List Client
    the_left = filter (λ c. not (p c)) st.clients

    leaving_drops : WereDropped st (leaving the_gone the_left st).after
    leaving_drops =
        closes_count Released (live_clients the_gone) st.stage st.tally rises fits.dropped (closes the_gone)
        (closes_are the_gone)
        ∙ ap (λ n. record (st.tally) { dropped = counted st.tally.dropped (open_padding st.stage - n) })
        (sym (left_padding (live_clients the_left) (after_moves st.stage (closes the_gone))
        (gone_left p st.clients st.stage gone)))

  pub release_outcome : AreGone (live_clients st.clients) st.stage → (conn client : ℕ) (given : List Answer) →
      WereDropped st (outcome_of st (release_plan st conn client) given).after
  release_outcome gone conn client given =
      dropped_unless (first (release_plan st conn client).rows)
      (leaving (filter (is_client_of conn client) st.clients)
      (filter (λ c. not (is_client_of conn client c)) st.clients) st)
      (leaving_drops gone (is_client_of conn client))

  pub hangup_outcome : AreGone (live_clients st.clients) st.stage → (conn : ℕ) (given : List Answer) →
      WereDropped st (outcome_of st (hangup_plan st conn) given).after
  hangup_outcome gone conn given =
      dropped_unless (first (hangup_plan st conn).rows)
      (leaving (filter (is_client_on conn) st.clients) (filter (λ c. not (is_client_on conn c)) st.clients)
      (without_connection conn st))
      (leaving_drops gone (is_client_on conn))

  -- ---- a period

  sounds : (m : Mixing) (whole : Bool) →
      WereTaken (not whole) st (after_period m.endpoint whole (moved (sub_steps m whole st.stage) st))
  sounds m true = whole_counts m st.stage st.tally rises fits.rendered
  sounds m false = failed_counts m st.stage st.tally rises fits.dropped

  records : (e : Endpoint) (frames : ℕ) (bytes : List ℕ) (whole : Bool) →
      WereTaken (not whole) st
      (after_recording e bytes whole (moved (recording_moves e frames bytes whole st.stage) st))
  records e frames bytes true =
      signaled (whole_frames e.format.channels bytes == 0)
      (recorded_counts e frames bytes st.stage st.tally rises fits.rendered)
    where
      after : State
      after = moved (recording_moves e frames bytes true st.stage) st

      signaled : (b : Bool) → WereTaken false st after →
          WereTaken false st (if b then after else after_period e.no.0 true after)
      signaled true h = h
      signaled false h = h
  records e frames bytes false = lost_counts e frames bytes st.stage st.tally rises fits.dropped

  -- an outcome whose payload is that of a period of so many frames
  module _ (o : Outcome) (n : ℕ) (whole : Bool) (pays : o.payload ≡ period_payload n whole) where
    period_unless : WereTaken (not whole) st o.after → (verdict : Option Hr) (frames : ℕ) (failed : Bool) →
        to_le_bytes w32 frames ++ (if failed then 1 else 0) ∷ [] ≡ (unless_refused st verdict o).payload →
        WereTaken failed st (unless_refused st verdict o).after
    period_unless taken None frames failed e =
        subst (λ b. WereTaken b st o.after) (sym (last_byte n whole failed frames (e ∙ pays))) taken
    period_unless taken (Some code) frames failed e = cc (ap (λ bytes. bytes) e)

    nothing_unless : (verdict : Option Hr) → [] ≡ (unless_refused st verdict o).payload →
        (unless_refused st verdict o).after.tally ≡ st.tally
    nothing_unless None e = absurd (some_bytes n whole (e ∙ pays))
    nothing_unless (Some code) e = refl

  -- a period of an endpoint that isn't there
  no_endpoint : (verdict : Option Hr) (frames : ℕ) (failed : Bool) →
      to_le_bytes w32 frames ++ (if failed then 1 else 0) ∷ []
      ≡ (unless_refused st verdict (refused st hr.E_NOTFOUND)).payload →
      WereTaken failed st (unless_refused st verdict (refused st hr.E_NOTFOUND)).after
  no_endpoint None frames failed e = cc (ap (λ bytes. bytes) e)
  no_endpoint (Some code) frames failed e = cc (ap (λ bytes. bytes) e)

  of_flow : (d : Endpoint) (f : Flow) (given : List Answer) (frames : ℕ) (failed : Bool) →
      to_le_bytes w32 frames ++ (if failed then 1 else 0) ∷ [] ≡ (outcome_of st (period_by st d f) given).payload →
      WereTaken failed st (outcome_of st (period_by st d f) given).after
  of_flow d flow.Render given frames failed e =
      period_unless (sounding st (mixing_of st d) given) (period_frames d st.stage.streams) (is_whole given) refl
      (sounds (mixing_of st d) (is_whole given))
      (first (period_rows st d (period_frames d st.stage.streams))) frames failed e
  of_flow d flow.Capture given frames failed e =
      period_unless (recording st d (period_frames d st.stage.streams) given)
      (frames_recorded d (period_frames d st.stage.streams) (bytes_given given)) (is_whole given) refl
      (records d (period_frames d st.stage.streams) (bytes_given given) (is_whole given))
      (first (period_rows st d (period_frames d st.stage.streams))) frames failed e

  of_endpoint : (e : Option Endpoint) (given : List Answer) (frames : ℕ) (failed : Bool) →
      to_le_bytes w32 frames ++ (if failed then 1 else 0) ∷ [] ≡ (outcome_of st (period_of st e) given).payload →
      WereTaken failed st (outcome_of st (period_of st e) given).after
  of_endpoint None given frames failed e = no_endpoint (first (period_of st None).rows) frames failed e
  of_endpoint (Some d) given frames failed e = of_flow d d.flow given frames failed e

  pub period_outcome : (number : ℕ) (given : List Answer) (frames : ℕ) (failed : Bool) →
      to_le_bytes w32 frames ++ (if failed then 1 else 0) ∷ []
      ≡ (outcome_of st (period_plan st number) given).payload →
      WereTaken failed st (outcome_of st (period_plan st number) given).after
  period_outcome number given frames failed e = of_endpoint (endpoint_at number st) given frames failed e

  -- a period that answers nothing changed nothing
  pub period_nothing : (number : ℕ) (given : List Answer) →
      [] ≡ (outcome_of st (period_plan st number) given).payload →
      (outcome_of st (period_plan st number) given).after.tally ≡ st.tally
  period_nothing number given e = of_none (endpoint_at number st) given e
    where
      refused_still : (verdict : Option Hr) →
          (unless_refused st verdict (refused st hr.E_NOTFOUND)).after.tally ≡ st.tally
      refused_still None = refl
      refused_still (Some code) = refl

      by_flow : (d : Endpoint) (f : Flow) (given : List Answer) →
          [] ≡ (outcome_of st (period_by st d f) given).payload →
          (outcome_of st (period_by st d f) given).after.tally ≡ st.tally
      by_flow d flow.Render given e =
          nothing_unless (sounding st (mixing_of st d) given) (period_frames d st.stage.streams) (is_whole given)
          refl (first (period_rows st d (period_frames d st.stage.streams))) e
      by_flow d flow.Capture given e =
          nothing_unless (recording st d (period_frames d st.stage.streams) given)
          (frames_recorded d (period_frames d st.stage.streams) (bytes_given given)) (is_whole given) refl
          (first (period_rows st d (period_frames d st.stage.streams))) e

      of_none : (o : Option Endpoint) (given : List Answer) → [] ≡ (outcome_of st (period_of st o) given).payload →
          (outcome_of st (period_of st o) given).after.tally ≡ st.tally
      of_none None given e = refused_still (first (period_of st None).rows)
      of_none (Some d) given e = by_flow d d.flow given e
