-- A ReleaseBuffer hands over what its move releases, and upholds the headline.
use Rattle.std.proofs.Common.{◌≡◌, ℕ, ◌==◌, List, [], ◌∷◌, ◌++◌, length, true, false, Option, Some, None, refl, sym, ap}
use Rattle.std.proofs.Common.{◌∙◌, subst, is_none}
use Rattle.std.proofs.lemmas.Bool.{true≢false}
use Rattle.ca_base.specs.declared.codes.Hr.{Hr}
use Rattle.ca_base.specs.declared.codes.TheConstants.Hr as hr
use Rattle.ca_base.specs.declared.ids.Gate.{Gate}
use Rattle.ca_base.specs.declared.ids.Gate.TheVariants as gate
use Rattle.ca_base.specs.Rows.{Row, first}
use Rattle.ca_model.specs.declared.event.Event.{Event}
use Rattle.client_state.specs.declared.check.DataCall.{DataCall}
use Rattle.client_state.specs.declared.check.DataCall.TheVariants as data_call
use Rattle.client_state.specs.Rows.{is_closed, is_shut_down, call_rows}
use Rattle.ca_stage.specs.Stage.{Stream, is_open_gate, is_open}
use Rattle.ca_stage.specs.Moves.{Move, of_client, released, stream_at}
use Rattle.ca_stage.specs.Order.{is_among}
use Rattle.ca_machine.specs.declared.state.Client.{Client}
use Rattle.ca_machine.specs.State.{State, live_clients, is_client_of, client_of}
use Rattle.ca_machine.specs.Plan.{Answer, granted, outcome_of}
use Rattle.ca_machine.specs.SharedRows.{data_call_rows, client_rows}
use Rattle.ca_machine.specs.Data.{side_of, seen_of, words_held, data_rows, frames_released, release_buffer_plan}
use Rattle.ca_machine.proofs.LiveClients.{found_is_live, found_number}
use Rattle.ca_machine.proofs.PresentStage.{PresentLaws, stage_of}
use Rattle.ca_machine.proofs.StateInOrder.{IsInOrder, in_order_moved}
use Rattle.ca_machine.proofs.FramesHanded.{HandsOver, none_refused, released_is_handed}
use Rattle.ca_machine.proofs.Outcomes.{
  RefuseAll,
  Upholds,
  first_refuses,
  row_fails,
  upholds_rows,
  upholds_with_stream,
}

-- ---- the rows of data calls

call_rows_refuse : (side : _) (x : DataCall) (words : ℕ) → RefuseAll (call_rows side x words)
call_rows_refuse side data_call.Padding words = tt
call_rows_refuse side (data_call.Get n) words = (refl, (refl, (refl, (refl, tt))))
call_rows_refuse side (data_call.Release m flags len) words = (refl, (refl, (refl, (refl, (refl, tt)))))
call_rows_refuse side data_call.NextSize words = (refl, tt)
call_rows_refuse side data_call.CaptureGet words = (refl, (refl, (refl, tt)))
call_rows_refuse side (data_call.CaptureRelease m) words = (refl, (refl, (refl, tt)))

data_rows_refuse : (x : DataCall) (stream : Option Stream) → RefuseAll (data_rows x stream)
data_rows_refuse x stream = (refl, (refl, (refl, call_rows_refuse (side_of stream) x (seen_of stream).words)))

-- a gate that isn't closed
gate_opens : (g : Gate) → is_closed g ≡ false → is_open_gate g ≡ true
gate_opens gate.Open h = refl
gate_opens (gate.Closed reason) h = absurd (true≢false h)

-- a client that is there
record IsThere (conn client : ℕ) (st : State) : Type 0 where
  found : Client
  there : client_of conn client st ≡ Some found

there_by : (conn client : ℕ) (st : State) (o : Option Client) → client_of conn client st ≡ o → is_none o ≡ false →
    IsThere conn client st
there_by conn client st None e h = absurd (true≢false h)
there_by conn client st (Some c) e h = record { found = c; there = e }

module _ (laws : PresentLaws) (ms : List Move) (st : State) (h : IsInOrder ms st) (e : Event)
    (given : List Answer)
  where
    -- the stream of a live client is that of the whole stage
    whole_stream : (conn client : ℕ) (s : Stream) → IsThere conn client st → stream_at client st.stage ≡ Some s →
        stream_at client (stage_of ms) ≡ Some s
    whole_stream conn client s t k =
        let live : is_among client (live_clients st.clients) ≡ true =
        subst (λ n. is_among n (live_clients st.clients) ≡ true) (found_number conn client st.clients t.found t.there)
        (found_is_live (is_client_of conn client) st.clients t.found t.there) in
        sym ((laws.is_whole (live_clients st.clients) ms h.gone).found client live)
        ∙ ap (stream_at client) (sym h.stands) ∙ k

    upholds_released : (conn client frames flags : ℕ) (bytes : List ℕ) (s : Stream) →
        HandsOver client (frames_released frames flags bytes) e → IsThere conn client st →
        stream_at client st.stage ≡ Some s → is_open s ≡ true →
        Upholds ms st e given
        (granted [] (of_client client (released (frames_released frames flags bytes s.channels)) ∷ []) st)
    upholds_released conn client frames flags bytes s hands t k o = record {
      order =
          in_order_moved laws ms (of_client client (released (frames_released frames flags bytes s.channels)) ∷ []) st h
          (tt, tt) (refl, tt) tt;
      mixes = tt;
      records = tt;
      plays = refl;
      hands = λ n.
          released_is_handed (stage_of ms) client n (frames_released frames flags bytes) e s hands
          (whole_stream conn client s t k) o;
    }

    pub upholds_release_buffer : (conn client frames flags : ℕ) (bytes : List ℕ) →
        HandsOver client (frames_released frames flags bytes) e →
        Upholds ms st e given (outcome_of st (release_buffer_plan st conn client frames flags bytes) given)
    upholds_release_buffer conn client frames flags bytes hands =
        let x : DataCall = data_call.Release frames flags (length bytes) in
        let rows : Option Stream → List (Row Hr) =
        λ o. data_call_rows conn st ++ client_rows conn client st ++ data_rows x o in
        upholds_rows laws ms st h e given (release_buffer_plan st conn client frames flags bytes)
        (λ code k. none_refused (stage_of ms) e code
        (first_refuses (rows (stream_at client st.stage))
        (refl, (refl, data_rows_refuse x (stream_at client st.stage))) code k))
        (λ r. upholds_with_stream laws ms st h e given (stream_at client st.stage) _
        (none_refused (stage_of ms) e hr.NOT_INITIALIZED refl)
        (λ s k.
        let none : first (rows (Some s)) ≡ None = sym (ap (λ o. first (rows o)) k) ∙ r in
        let there : IsThere conn client st =
        there_by conn client st (client_of conn client st) refl
        (row_fails (data_call_rows conn st) (is_none (client_of conn client st), hr.E_HANDLE) (data_rows x (Some s))
        none) in
        upholds_released conn client frames flags bytes s hands there k
        (gate_opens s.gate
        (row_fails
        (data_call_rows conn st ++ client_rows conn client st
        ++ ((side_of (Some s)).buffer == 0, hr.NOT_INITIALIZED) ∷ (is_shut_down s.gate, hr.SERVICE_NOT_RUNNING) ∷ [])
        (is_closed s.gate, hr.DEVICE_INVALIDATED) (call_rows (side_of (Some s)) x (words_held s)) none))))
