-- What an Initialize does to the tally: what the streams that it takes the endpoint from had pending is dropped.
use Rattle.std.proofs.Common.{◌≡◌, ℕ, ◌+◌, ◌-◌, ◌++◌, List, [], ◌∷◌, map, nat_lt, Bool, true, false, Option, Some, None}
use Rattle.std.proofs.Common.{refl, sym, ap, ◌∙◌, arith, sum_by, if◌then◌else◌}
use Rattle.std.proofs.lemmas.List.Sums.{sum_by-cons}
use Rattle.ca_base.specs.declared.ids.Reason.TheVariants.{Override}
use Rattle.ca_stage.specs.Stage.{Stream, Stage}
use Rattle.ca_stage.specs.Moves.{Move, opened, after_move, after_moves, as_opened, has_stream, inserted, stream_after}
use Rattle.ca_stage.specs.Order.{clients, RisesFrom}
use Rattle.ca_stage.specs.Tally.{counted}
use Rattle.ca_stage.proofs.Lists.{map_same}
use Rattle.ca_stage.proofs.MapTallies.{tally-append}
use Rattle.ca_stage.proofs.Stages.{after_moves-append}
use Rattle.session_manager.specs.Sessions.{joined, number_joined}
use Rattle.session_manager.specs.declared.session.SessionKey.{SessionKey}
use Rattle.ca_machine.specs.declared.state.Client.{Client}
use Rattle.ca_machine.specs.State.{State, client_of, session_list, with_sessions}
use Rattle.ca_machine.specs.Plan.{Answer, moved, outcome_of}
use Rattle.ca_machine.specs.Devices.{disconnects_if}
use Rattle.ca_machine.specs.Openings.{Opening, endpoint_channels, flow_of, initialize_plan, initialized, is_kept}
use Rattle.ca_machine.specs.Openings.{joined_by, new_stream, session_key, takes_over}
use Rattle.service_core.specs.Counting.{HasCounts}
use Rattle.service_core.proofs.DeviceOutcomes.{drops_if, memory_drops}
use Rattle.service_core.proofs.TallyFalls.{open_padding, open_pads}
use Rattle.service_core.proofs.TallyOutcomes.{WereDropped, dropped_unless, none_dropped}

-- ---- a stream that is opened has nothing pending

inserted_pads : (new : Stream) (streams : List Stream) →
    sum_by open_pads (inserted (as_opened new) streams) ≡ sum_by open_pads streams
inserted_pads new [] = refl
inserted_pads new (s ∷ streams) = by (inserted_pads new streams) (nat_lt new.client s.client)
  where
    by : sum_by open_pads (inserted (as_opened new) streams) ≡ sum_by open_pads streams → (b : Bool) →
        sum_by open_pads (if b then as_opened new ∷ s ∷ streams else s ∷ inserted (as_opened new) streams)
        ≡ sum_by open_pads (s ∷ streams)
    by same true = let none = sum_by-cons open_pads (as_opened new) (s ∷ streams) in omega (arith, none)
    by same false =
        sum_by-cons open_pads s (inserted (as_opened new) streams)
        ∙ ap (λ n. open_pads s + n) same
        ∙ sym (sum_by-cons open_pads s streams)

opened_pads : (new : Stream) (st : Stage) → open_padding (after_move st (opened new)) ≡ open_padding st
opened_pads new st = by (has_stream new.client others) ∙ ap (sum_by open_pads)
    (map_same (λ s. s) (λ s. refl) st.streams)
  where
    others : List Stream
    others = map (stream_after (opened new)) st.streams

    by : (b : Bool) → sum_by open_pads (if b then others else inserted (as_opened new) others) ≡ sum_by open_pads others
    by true = refl
    by false = inserted_pads new others

module _ (st : State) (rises : RisesFrom 0 (clients st.stage)) (fits : HasCounts st.tally) where
  -- moves, and then a stream that is opened
  then_opened : (xs : List Move) (new : Stream) → WereDropped st (moved xs st) →
      WereDropped st (moved (xs ++ opened new ∷ []) st)
  then_opened xs new were =
      tally-append xs (opened new ∷ []) st.tally st.stage
      ∙ were
      ∙ ap (λ n. record (st.tally) { dropped = counted st.tally.dropped (open_padding st.stage - n) })
      (sym (ap open_padding (after_moves-append st.stage xs (opened new ∷ []))
      ∙ opened_pads new (after_moves st.stage xs)))

  joined_drops : (client : Client) (x : Opening) (key : SessionKey) → WereDropped st (joined_by st client x key).after
  joined_drops client x key =
      let after : State =
      with_sessions (joined key None (is_kept x.flags) (endpoint_channels st client) (session_list st)) st in
      then_opened (disconnects_if (takes_over after client x) Override (Some client.endpoint.0) st.stage)
      (new_stream (flow_of after client) client x (number_joined key (session_list st)))
      (drops_if st rises fits (takes_over after client x) Override (Some client.endpoint.0))

  initialized_drops : (conn : ℕ) (client : Option Client) (x : Opening) →
      WereDropped st (initialized st conn client x).after
  initialized_drops conn None x = none_dropped st rises fits
  initialized_drops conn (Some client) x = joined_drops client x (session_key st conn client x)

  pub initialize_outcome : (conn client : ℕ) (x : Opening) (given : List Answer) →
      WereDropped st (outcome_of st (initialize_plan st conn client x) given).after
  initialize_outcome conn client x given =
      dropped_unless st rises fits _ _
      (memory_drops st rises fits (initialized st conn (client_of conn client st) x) given
      (initialized_drops conn (client_of conn client st) x))
