-- The gains that a period mixes by are those of the entries.
use Rattle.std.proofs.Common.{Bool, true, false, if◌then◌else◌, ◌≡◌, ℕ, zero, suc, ◌<◌, List, [], length, Option, Some}
use Rattle.std.proofs.Common.{cond, refl, sym, ap, ap₂}
use Rattle.std.proofs.Common.{◌∙◌, arith, eq-eqb, get_or, false}
use Rattle.std.specs.Prelude.{slice_index}
use Rattle.std.specs.List.{find}
use Rattle.std.specs.Option.{option_map_or}
use Rattle.std.proofs.lemmas.Bool.{ne_eqb}
use Rattle.std.proofs.lemmas.Option.{slice_get-get_or}
use Rattle.buffer_ring.specs.declared.step.EndState.{EndState}
use Rattle.ca_stage.specs.Stage.{BufferData}
use Rattle.ca_stage.specs.Tally.{Tally}
use Rattle.session_manager.specs.declared.session.Session.{Session}
use Rattle.session_manager.specs.Sessions.{session_at}
use Rattle.ca_machine.specs.declared.state.Client.{Client}
use Rattle.volume_stack.specs.Scaling.{unit_gain}
use Rattle.ca_machine.specs.Periods.{gain_in, gain_of, is_exclusive_stream, session_joined}
use Rattle.period_engine.specs.declared.entry.StreamEntry.{StreamEntry}
use Rattle.service_book.specs.Gains.{gains_if}
use Rattle.service_board.specs.Board.{state_of}
use Rattle.service_board.specs.InOrder.{InOrder}
use Rattle.stream_entries.specs.Search.{is_entry_of}
use Rattle.service_board.specs.declared.board.Board.{Board}
use Rattle.service_board.proofs.LookingUp.{stream_there}
use Rattle.service_board.proofs.OneEntry.{IsSole, here, later, sole_there}

-- an entry is found by its client
entry_found : {E : Type 0} (e : StreamEntry E) (xs : List (StreamEntry E)) (at : ℕ) → IsSole e xs at →
    find (is_entry_of e.client.0) xs ≡ Some e
entry_found e _ _ (here xs others) =
    ap (λ b. cond b (Some e) (find (is_entry_of e.client.0) xs)) (eq-eqb e.client.0 e.client.0 refl)
entry_found e _ _ (later x xs at other sole) =
    ap (λ b. cond b (Some x) (find (is_entry_of e.client.0) xs)) (ne_eqb x.client.0 e.client.0 other)
    ∙ entry_found e xs at sole

-- the gain of each channel, in the list of all
gain_at : (exclusive : Bool) (levels : List ℕ) (session : Option Session) (channel : ℕ) → channel < 4 →
    (if exclusive then unit_gain else gain_in levels session channel)
    ≡ slice_index (gains_if exclusive levels session) channel
gain_at true levels session zero lt = refl
gain_at true levels session (suc zero) lt = refl
gain_at true levels session (suc (suc zero)) lt = refl
gain_at true levels session (suc (suc (suc zero))) lt = refl
gain_at false levels session zero lt = refl
gain_at false levels session (suc zero) lt = refl
gain_at false levels session (suc (suc zero)) lt = refl
gain_at false levels session (suc (suc (suc zero))) lt = refl
gain_at exclusive levels session (suc (suc (suc (suc n)))) lt = absurd (omega arith)

-- if no level changed since they were computed, the gains of an entry are those of its client's stream
pub gain_is : {D E : Type 0} (state : E → EndState) (b : Board D E) → InOrder state b →
    b.book.levels_changed ≡ false → (datas : ℕ → BufferData) (tally : Tally) (k : ℕ) (d : StreamEntry E) →
    k < length b.entries.items → (channel : ℕ) → channel < 4 →
    gain_of (state_of datas tally b) (get_or b.entries.items k d).client.0 channel
    ≡ slice_index (get_or b.entries.items k d).gains channel
gain_is {D} {E} state b order fresh datas tally k d lt channel few =
    let xs : List (StreamEntry E) = b.entries.items in
    let e : StreamEntry E = get_or xs k d in
    let belongs = order.belong k d lt in
    let sole = sole_there 0 xs order.order k e (slice_get-get_or xs k d lt) in
    let there = stream_there b e.client.0 e (entry_found e xs k sole) datas tally in
    ap₂ (λ levels stream.
    if is_exclusive_stream stream
    then unit_gain
    else gain_in levels (session_joined (state_of datas tally b) stream) channel)
    (ap (λ o. option_map_or (λ (c : Client). c.levels) o []) belongs.live) there
    ∙ gain_at e.exclusive belongs.client.levels (session_at e.session.0 b.book.sessions.list) channel few
    ∙ ap (λ gains. slice_index gains channel) (sym (belongs.gains fresh))
