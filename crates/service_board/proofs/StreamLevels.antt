-- Calls of the levels of a client's stream: what they answer.
use Rattle.std.proofs.Common.{◌≡◌, ℕ, ◌<◌, ◌≤◌, ◌||◌, nat_le, nat_lt, List, [], true, false, None, refl, sym, ap}
use Rattle.std.proofs.Common.{◌∙◌, get_or, Option, ◌⊎◌, inl, inr}
use Rattle.std.specs.Option.{option_map_or}
use Rattle.std.specs.Int.{w32, to_le_bytes}
use Rattle.std.proofs.lemmas.Bool.{le-leb, le-ltb, lt-leb, lt-ltb, or_from, or_left, or_right}
use Rattle.device_io.specs.DeviceLog.{DeviceLog}
use Rattle.ca_base.specs.declared.codes.TheConstants.Hr as hr
use Rattle.ca_base.specs.declared.limits.TheConstants.{MAX_LEVEL}
use Rattle.buffer_ring.specs.declared.step.StoreStep.{StoreStep}
use Rattle.ca_stage.specs.Order.{RisesFrom}
use Rattle.ca_stage.specs.Stage.{Stream}
use Rattle.ca_machine.specs.declared.state.Client.{Client}
use Rattle.ca_machine.specs.State.{State, live_clients}
use Rattle.ca_machine.specs.Plan.{Outcome, answered, granted}
use Rattle.ca_machine.specs.SharedRows.{with_stream}
use Rattle.ca_machine.specs.Streams.{get_stream_level_plan, get_stream_level_rows, set_stream_level_plan}
use Rattle.ca_machine.specs.Streams.{set_stream_level_rows, stream_level, with_stream_level}
use Rattle.period_engine.specs.declared.entry.StreamEntry.{StreamEntry}
use Rattle.service_book.proofs.Rows.{row_holds, row_passes}
use Rattle.service_board.specs.Board.{state_of}
use Rattle.service_board.specs.Does.{AnyData, Does}
use Rattle.service_board.specs.declared.board.Board.{Board}
use Rattle.service_board.proofs.EndpointCalls.{plain_tells}
use Rattle.service_board.proofs.GrantedEvents.{book_does}
use Rattle.service_board.proofs.ChangedClients.{Named, changed_items}
use Rattle.service_board.proofs.SettingLevels.{leveled, leveled_at}
use Rattle.service_board.proofs.StreamRows.{Opened, own_refused, stream_own}

-- the test of the row of a call that sets a level
pub wrong_level : (channels channel level : ℕ) → ((channels ≤ channel) ⊎ ((channel < channels) × (MAX_LEVEL < level))) →
    (nat_le channels channel || nat_lt MAX_LEVEL level) ≡ true
wrong_level channels channel level (inl few) =
    or_left (nat_le channels channel) (nat_lt MAX_LEVEL level) (le-leb channels channel few)
wrong_level channels channel level (inr high) =
    or_right (nat_le channels channel) (nat_lt MAX_LEVEL level) (lt-ltb MAX_LEVEL level high.1)

pub right_level : (channels channel level : ℕ) → channel < channels → level ≤ MAX_LEVEL →
    (nat_le channels channel || nat_lt MAX_LEVEL level) ≡ false
right_level channels channel level has most =
    or_from (nat_le channels channel) (nat_lt MAX_LEVEL level) (lt-leb channels channel has)
    (le-ltb MAX_LEVEL level most)

-- what the calls do with the stream
abbrev pub tells_level : ℕ → ℕ → ℕ → State → Stream → Outcome
tells_level conn client channel st s = answered st (to_le_bytes w32 (stream_level conn client channel st))

abbrev pub sets_level : ℕ → ℕ → ℕ → ℕ → State → Stream → Outcome
sets_level conn client channel level st s =
    granted [] [] (record st { clients = with_stream_level conn client channel level st.clients })

module _ {D E : Type 0} (faults : D → ℕ) (told : D → Option (List DeviceLog)) (moves : E → List StoreStep → E → Type 0)
    (stays : (a : E) → moves a [] a) (b : Board D E) (conn client channel at : ℕ) (e : StreamEntry E)
    (there : Opened conn client b at e) where
  -- the stream has no such channel
  pub get_refused : e.channels ≤ channel →
      Does faults told moves None AnyData b b (λ st. get_stream_level_plan st conn client channel) hr.E_INVALIDARG []
  get_refused few =
      own_refused faults told moves stays b conn client (get_stream_level_rows channel)
      (tells_level conn client channel) AnyData at e there hr.E_INVALIDARG
      (λ datas knows. row_holds (nat_le e.channels channel) hr.E_INVALIDARG None (le-leb e.channels channel few))

  -- the level is that of the client that is found
  pub get_told : channel < e.channels → (place : ℕ) (c : Client) → Named conn client b.book.clients.items place c →
      Does faults told moves None AnyData b b (λ st. get_stream_level_plan st conn client channel) hr.S_OK
      (to_le_bytes w32 (get_or c.levels channel 0))
  get_told has place c named =
      plain_tells faults told moves None AnyData stays b
      (λ st. (get_stream_level_plan st conn client channel).rows)
      (λ st. (get_stream_level_plan st conn client channel).grants [])
      hr.S_OK (to_le_bytes w32 (get_or c.levels channel 0))
      (λ datas tally. stream_own b conn client (get_stream_level_rows channel) (tells_level conn client channel) at e
      None there datas tally
      (row_passes (nat_le e.channels channel) hr.E_INVALIDARG None (lt-leb e.channels channel has) refl))
      (λ datas tally.
      let st = state_of datas tally b in
      ap (λ o. with_stream st o (tells_level conn client channel st)) (there.found datas tally)
      ∙ ap (λ o. answered st (to_le_bytes w32 (option_map_or (λ x. get_or x.levels channel 0) o 0))) named.found)

  module _ (level : ℕ) where
    -- the stream has no such channel, or the level is too high
    pub set_refused : (nat_le e.channels channel || nat_lt MAX_LEVEL level) ≡ true →
        Does faults told moves None AnyData b b (λ st. set_stream_level_plan st conn client channel level)
        hr.E_INVALIDARG []
    set_refused wrong =
        own_refused faults told moves stays b conn client (set_stream_level_rows channel level)
        (sets_level conn client channel level) AnyData at e there hr.E_INVALIDARG
        (λ datas knows. row_holds (nat_le e.channels channel || nat_lt MAX_LEVEL level) hr.E_INVALIDARG None wrong)

    -- the level of the client is set
    pub set_does : (nat_le e.channels channel || nat_lt MAX_LEVEL level) ≡ false → (place : ℕ) (c : Client) →
        Named conn client b.book.clients.items place c → RisesFrom 0 (live_clients b.book.clients.items) →
        Does faults told moves None AnyData b (record b { book = leveled_at place channel level c b.book })
        (λ st. set_stream_level_plan st conn client channel level) hr.S_OK []
    set_does right place c named rises =
        book_does faults told moves None AnyData stays b (leveled_at place channel level c b.book)
        (λ st. set_stream_level_plan st conn client channel level) hr.S_OK []
        (λ datas tally.
        let st = state_of datas tally b in
        let tells : (set_stream_level_plan st conn client channel level).grants []
        ≡ granted [] [] (record st { clients = with_stream_level conn client channel level st.clients }) =
        ap (λ o. with_stream st o (sets_level conn client channel level st)) (there.found datas tally) in
        record {
          passes = stream_own b conn client (set_stream_level_rows channel level)
              (sets_level conn client channel level) at e None there datas tally
              (row_passes (nat_le e.channels channel || nat_lt MAX_LEVEL level) hr.E_INVALIDARG None right refl);
          asks = refl;
          output = ap (λ o. o.output) tells;
          result_is = sym (ap (λ o. o.result) tells);
          payload_is = sym (ap (λ o. o.payload) tells);
          after_is = ap (λ cs. record st { clients = cs })
              (changed_items conn client (leveled channel level) b.book.clients.items place c named rises)
              ∙ sym (ap (λ o. o.after) tells);
        })
