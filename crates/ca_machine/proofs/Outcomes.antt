-- Each kind of outcome and of plan upholds the headline: one lemma for each, which the calls of that kind share.
use Rattle.std.proofs.Common.{◌≡◌, ℕ, ◌==◌, not, List, [], ◌∷◌, ◌++◌, length, filter, Bool, true, false, Option, Some}
use Rattle.std.proofs.Common.{None, refl, sym, ap, ◌∙◌, subst, if◌then◌else◌}
use Rattle.std.proofs.lemmas.Bool.{false≢true, true≢false}
use Rattle.std.proofs.lemmas.Option.{same_Some, none-some}
use Rattle.std.specs.List.{AllByRecursion}
use Rattle.ca_base.specs.declared.codes.Hr.{Hr}
use Rattle.ca_base.specs.declared.codes.TheConstants.Hr as hr
use Rattle.ca_base.specs.Rows.{Row, first}
use Rattle.ca_model.specs.declared.event.Event.{Event}
use Rattle.client_state.specs.declared.check.DataCall.{DataCall}
use Rattle.ca_stage.specs.Stage.{Frame, Stream, Stage}
use Rattle.ca_stage.specs.Moves.{released, Move, of_client, sounded, captured, Mixing, is_open_of, stream_at}
use Rattle.ca_stage.specs.Moves.{after_moves}
use Rattle.ca_stage.specs.Periods.{is_recording, feeds, picks, after_sound, sub_steps}
use Rattle.ca_stage.specs.Fates.{passing, all_released}
use Rattle.ca_stage.specs.Woven.{is_sub_step, due_of, IsWoven}
use Rattle.ca_stage.specs.Present.{present, OpensPresent}
use Rattle.ca_stage.proofs.Lists.{chosen, all_weaker}
use Rattle.ca_stage.proofs.Stages.{woven_one, woven_period}
use Rattle.ca_machine.specs.declared.state.Client.{Client}
use Rattle.device_registry.specs.declared.endpoint.Endpoint.{Endpoint}
use Rattle.ca_machine.specs.State.{State, endpoint_numbers, live_clients}
use Rattle.ca_machine.specs.Plan.{Answer, out_of_memory, IsWriting, is_whole, pieces, Outcome, moved, refused}
use Rattle.ca_machine.specs.Plan.{granted, Plan, if_found, unless_refused, outcome_of}
use Rattle.ca_machine.specs.SharedRows.{with_stream, stream_plan, with_endpoint}
use Rattle.ca_machine.specs.Clients.{closes, leaving}
use Rattle.ca_machine.specs.Data.{data_plan}
use Rattle.ca_machine.specs.Devices.{with_named}
use Rattle.ca_machine.specs.Notices.{told}
use Rattle.ca_machine.specs.Periods.{bytes_due, sounding}
use Rattle.ca_machine.specs.Headline.{handed_in, IsMixingOf, MixesBy, RecordsBy, Sound, sound_made, sounds_made}
use Rattle.ca_machine.specs.Headline.{AreTaken}
use Rattle.ca_machine.proofs.PeriodMoves.{OfSubSteps, picks_all, feeds_all, after_sound_all, sub_steps_all}
use Rattle.ca_machine.proofs.PresentStage.{PresentLaws, stage_of, sub_steps_open_none, sound_present}
use Rattle.ca_machine.proofs.Playheads.{HasHead}
use Rattle.ca_machine.proofs.PlayheadsThere.{adds_none, bytes_there, steps_there}
use Rattle.ca_machine.proofs.StateInOrder.{IsInOrder, in_order_still, in_order_moved, in_order_leaving, in_order_period}
use Rattle.ca_machine.proofs.SoundsTaken.{sounds_none, sounds_of_period, sound_is_taken}
use Rattle.ca_machine.proofs.FramesHanded.{ReleasesNone, releases_none, HandsNone, HandsNoneBy, none_by, Refuses}

-- an outcome of an event after these moves, for these answers, upholds the headline: the state after it is in order;
-- its Sounds mix by the state before it, and its captures have what devices gave; devices take what its Sounds give;
-- and its moves release what the event hands over
pub record Upholds (ms : List Move) (st : State) (e : Event) (given : List Answer) (o : Outcome) : Type 0 where
  pub order : IsInOrder (ms ++ o.moves) o.after
  pub mixes : MixesBy st o.moves
  pub records : RecordsBy st given o.moves
  pub plays : AreTaken (sounds_made (stage_of ms) o.moves) o.output
  pub hands : (n : ℕ) → all_released n (stage_of ms) o.moves ≡ handed_in n (stage_of ms) e o.result

-- ---- rows

-- a row among rows of which none holds
pub row_fails : (front : List (Row Hr)) (row : Row Hr) (rest : List (Row Hr)) → first (front ++ row ∷ rest) ≡ None →
    row.0 ≡ false
row_fails [] row rest h = head row.0 h
  where
    head : (b : Bool) → (if b then Some row.1 else first rest) ≡ None → b ≡ false
    head true h = absurd (none-some row.1 (sym h))
    head false h = refl
row_fails (x ∷ front) row rest h = row_fails front row rest (tail x.0 h)
  where
    tail : (b : Bool) → (if b then Some x.1 else first (front ++ row ∷ rest)) ≡ None →
        first (front ++ row ∷ rest) ≡ None
    tail true h = absurd (none-some x.1 (sym h))
    tail false h = h

-- the code of the first row that holds is a row's
abbrev pub RefuseAll : List (Row Hr) → Type 0
RefuseAll rows = AllByRecursion (λ (row : Row Hr). Refuses row.1) rows

pub first_refuses : (rows : List (Row Hr)) → RefuseAll rows → (code : Hr) → first rows ≡ Some code → Refuses code
first_refuses [] h code f = absurd (none-some code f)
first_refuses (row ∷ rows) h code f = go row.0 f (λ k. first_refuses rows h.1 code k)
  where
    go : (b : Bool) → (if b then Some row.1 else first rows) ≡ Some code → (first rows ≡ Some code → Refuses code) →
        Refuses code
    go true f k = subst Refuses (same_Some row.1 code f) h.0
    go false f k = k f

-- ---- moves that sound, record and release nothing

abbrev pub is_quiet : Move → Bool
is_quiet (of_client client (released frames)) = false
is_quiet (sounded m whole) = false
is_quiet (captured number frames) = false
is_quiet _ = true

abbrev pub AreQuiet : List Move → Type 0
AreQuiet xs = AllByRecursion (λ x. is_quiet x ≡ true) xs

quiet_sounds : (x : Move) → is_quiet x ≡ true → (st : Stage) → sound_made st x ≡ []
quiet_sounds (sounded m whole) h st = absurd (false≢true h)
quiet_sounds _ h st = refl

passes_none : (client : ℕ) (s : Stream) → passing {A = Frame} client s [] ≡ []
passes_none client s = chosen {A = List Frame} (λ xs. xs ≡ []) (is_open_of client s) [] [] refl refl

quiet_releases : (x : Move) → is_quiet x ≡ true → ReleasesNone x
quiet_releases (of_client client (released frames)) h s = absurd (false≢true h)
quiet_releases (of_client client _) h s = passes_none client s
quiet_releases _ h s = refl

pub mixes_quiet : (st : State) (xs : List Move) → AreQuiet xs → MixesBy st xs
mixes_quiet st [] h = tt
mixes_quiet st (sounded m whole ∷ xs) h = absurd (false≢true h.0)
mixes_quiet st (_ ∷ xs) h = mixes_quiet st xs h.1

-- no device gave frames
abbrev pub is_capture_move : Move → Bool
is_capture_move (captured number frames) = true
is_capture_move _ = false

abbrev pub CaptureNone : List Move → Type 0
CaptureNone xs = AllByRecursion (λ x. is_capture_move x ≡ false) xs

pub records_none : (st : State) (given : List Answer) (xs : List Move) → CaptureNone xs → RecordsBy st given xs
records_none st given [] h = tt
records_none st given (captured number frames ∷ xs) h = absurd (true≢false h.0)
records_none st given (_ ∷ xs) h = records_none st given xs h.1

quiet_captures : (x : Move) → is_quiet x ≡ true → is_capture_move x ≡ false
quiet_captures (captured number frames) h = absurd (false≢true h)
quiet_captures _ h = refl

pub records_quiet : (st : State) (given : List Answer) (xs : List Move) → AreQuiet xs → RecordsBy st given xs
records_quiet st given xs h =
    records_none st given xs
    (all_weaker (λ x. is_quiet x ≡ true) (λ x. is_capture_move x ≡ false) quiet_captures xs h)

mixes-append : (st : State) (xs ys : List Move) → MixesBy st xs → MixesBy st ys → MixesBy st (xs ++ ys)
mixes-append st [] ys h k = k
mixes-append st (sounded m whole ∷ xs) ys h k = (h.0, mixes-append st xs ys h.1 k)
mixes-append st (_ ∷ xs) ys h k = mixes-append st xs ys h k

pub quiet_steps : OfSubSteps (λ x. is_quiet x ≡ true)
quiet_steps = record {
  picks = λ n k. refl;
  retires = λ n. refl;
  feeds = λ n frames. refl;
  closes = λ n. refl;
  finish = λ m b. refl;
}

-- those after what a device gave
pub feeds_quiet : (number : ℕ) (frames : List Frame) (st : Stage) → AreQuiet (feeds (is_recording number) frames st)
feeds_quiet number frames st = feeds_all (λ x. is_quiet x ≡ true) quiet_steps (is_recording number) frames st

mixes_period : (st : State) (m : Mixing) (whole : Bool) (stage : Stage) → IsMixingOf st m →
    MixesBy st (sub_steps m whole stage)
mixes_period st m whole stage h =
    mixes-append st (picks m stage) (sounded m whole ∷ after_sound m whole (after_moves stage (picks m stage)))
    (mixes_quiet st (picks m stage) (picks_all (λ x. is_quiet x ≡ true) quiet_steps m stage)) (
      h,
      mixes_quiet st _
          (after_sound_all (λ x. is_quiet x ≡ true) quiet_steps m whole (after_moves stage (picks m stage))),
    )

pub period_adds : OfSubSteps (λ x. adds_none x ≡ true)
period_adds = record {
  picks = λ n k. refl;
  retires = λ n. refl;
  feeds = λ n frames. refl;
  closes = λ n. refl;
  finish = λ m b. refl;
}

period_captures : OfSubSteps (λ x. is_capture_move x ≡ false)
period_captures = record {
  picks = λ n k. refl;
  retires = λ n. refl;
  feeds = λ n frames. refl;
  closes = λ n. refl;
  finish = λ m b. refl;
}

pub period_releases : OfSubSteps ReleasesNone
period_releases = record {
  picks = λ n k s. passes_none n s;
  retires = λ n s. passes_none n s;
  feeds = λ n frames s. passes_none n s;
  closes = λ n s. passes_none n s;
  finish = λ m b s. refl;
}

quiet_closes : (gone : List Client) → AreQuiet (closes gone)
quiet_closes [] = tt
quiet_closes (c ∷ gone) = (refl, quiet_closes gone)

-- nothing is due after a quiet move
quiet_due : (st : Stage) (x : Move) → is_quiet x ≡ true → due_of st x ≡ []
quiet_due st (captured number frames) h = absurd (false≢true h)
quiet_due st _ h = refl

-- no Sound, and nothing taken
pub takes_none : (sounds : List Sound) (output : List (ℕ × List ℕ)) → sounds ≡ [] → output ≡ [] → AreTaken sounds output
takes_none sounds output a b = subst (λ (sounds : List Sound). AreTaken sounds output) (sym a) b

-- ---- outcomes, and plans

module _ (laws : PresentLaws) (ms : List Move) (st : State) (h : IsInOrder ms st) (e : Event)
    (given : List Answer)
  where
    -- no moves: a refusal, an answer, or a change of what isn't on the stage
    pub upholds_still : (code : Hr) (payload : List ℕ) (new : State) → HandsNoneBy (stage_of ms) e code →
        IsInOrder ms new →
        Upholds ms st e given (record { result = code; payload = payload; moves = []; output = []; after = new })
    upholds_still code payload new n k =
        record { order = in_order_still ms new k; mixes = tt; records = tt; plays = refl; hands = λ i. sym (n i) }

    pub upholds_refused : (code : Hr) → HandsNoneBy (stage_of ms) e code → Upholds ms st e given (refused st code)
    upholds_refused code n = upholds_still code [] st n h

    pub upholds_answered : (payload : List ℕ) → HandsNone e →
        Upholds ms st e given (record { result = hr.S_OK; payload = payload; moves = []; output = []; after = st })
    upholds_answered payload n = upholds_still hr.S_OK payload st (none_by (stage_of ms) e hr.S_OK n) h

    -- quiet moves
    pub upholds_quiet : (o : Outcome) → HandsNone e → AreQuiet o.moves → o.output ≡ [] →
        IsInOrder (ms ++ o.moves) o.after → Upholds ms st e given o
    upholds_quiet o n q out k = record {
      order = k;
      mixes = mixes_quiet st o.moves q;
      records = records_quiet st given o.moves q;
      plays =
          takes_none (sounds_made (stage_of ms) o.moves) o.output
          (sounds_none (stage_of ms) o.moves (all_weaker (λ x. is_quiet x ≡ true) _ quiet_sounds o.moves q)) out;
      hands = λ i.
          releases_none i (stage_of ms) o.moves
          (all_weaker (λ x. is_quiet x ≡ true) ReleasesNone quiet_releases o.moves q)
          ∙ sym (none_by (stage_of ms) e o.result n i);
    }

    -- one move, which is no sub-step and opens at most a live client's stream
    pub upholds_move : (payload : List ℕ) (x : Move) → HandsNone e → is_sub_step x ≡ false → is_quiet x ≡ true →
        adds_none x ≡ true → OpensPresent (live_clients st.clients) x →
        Upholds ms st e given (granted payload (x ∷ []) st)
    upholds_move payload x n s q a o =
        upholds_quiet (granted payload (x ∷ []) st) n (q, tt) refl
        (in_order_moved laws ms (x ∷ []) st h (o, tt) (a, tt)
        (woven_one (stage_of ms) x s (quiet_due (stage_of ms) x q)))

    -- clients go, from a state that may differ in what isn't on the stage
    pub upholds_leaving : (new : State) (p : Client → Bool) → HandsNone e → IsInOrder ms new →
        Upholds ms st e given (leaving (filter p new.clients) (filter (λ c. not (p c)) new.clients) new)
    upholds_leaving new p n k =
        upholds_quiet (leaving (filter p new.clients) (filter (λ c. not (p c)) new.clients) new) n
        (quiet_closes (filter p new.clients)) refl (in_order_leaving laws ms new p k)

    -- a period
    pub upholds_sounding : (m : Mixing) → HandsNone e → IsMixingOf st m →
        HasHead m.endpoint (stage_of ms) → IsWriting (length (bytes_due m st.stage)) given →
        Upholds ms st e given (sounding st m given)
    upholds_sounding m n mix head w =
        let whole : Bool = is_whole given in
        let shown : Stage = present (live_clients st.clients) (stage_of ms) in
        let steps : sub_steps m whole st.stage ≡ sub_steps m whole (stage_of ms) =
        ap (sub_steps m whole) h.stands ∙ steps_there (endpoint_numbers st.endpoints) shown m whole
        ∙ (laws.is_whole (live_clients st.clients) ms h.gone).periods m whole in
        let bytes : bytes_due m (stage_of ms) ≡ bytes_due m st.stage =
        sym (ap (bytes_due m) h.stands ∙ bytes_there (endpoint_numbers st.endpoints) shown m
        ∙ sound_present laws (live_clients st.clients) ms m h.gone) in
        record {
          order =
              in_order_period (ms ++ sub_steps m whole st.stage) (moved (sub_steps m whole st.stage) st) m.endpoint
              whole
              (in_order_moved laws ms (sub_steps m whole st.stage) st h
              (sub_steps_open_none (live_clients st.clients) m whole st.stage)
              (sub_steps_all (λ x. adds_none x ≡ true) period_adds m whole refl st.stage)
              (subst (IsWoven (stage_of ms) []) (sym steps) (woven_period m whole head.head (stage_of ms) head.there)));
          mixes = mixes_period st m whole st.stage mix;
          records =
              records_none st given (sub_steps m whole st.stage)
              (sub_steps_all (λ x. is_capture_move x ≡ false) period_captures m whole refl st.stage);
          plays =
              subst (λ sounds. AreTaken sounds (pieces m.endpoint (bytes_due m st.stage) given))
              (sym (ap (sounds_made (stage_of ms)) steps ∙ sounds_of_period m whole (stage_of ms)))
              (sound_is_taken m (stage_of ms) (bytes_due m st.stage) given bytes w);
          hands = λ i.
              releases_none i (stage_of ms) (sub_steps m whole st.stage)
              (sub_steps_all ReleasesNone period_releases m whole (λ s. refl) st.stage)
              ∙ sym (none_by (stage_of ms) e hr.S_OK n i);
        }

    -- a plan does, if its refusals hand over nothing, and if what it grants does
    pub upholds_rows : (p : Plan) →
        ((code : Hr) → first p.rows ≡ Some code → HandsNoneBy (stage_of ms) e code) →
        (first p.rows ≡ None → Upholds ms st e given (p.grants given)) → Upholds ms st e given (outcome_of st p given)
    upholds_rows p r f = go (first p.rows) refl
      where
        go : (o : Option Hr) → first p.rows ≡ o → Upholds ms st e given (unless_refused st o (p.grants given))
        go (Some code) k = upholds_refused code (r code k)
        go None k = f k

    pub upholds_plan : (p : Plan) → HandsNone e →
        (first p.rows ≡ None → Upholds ms st e given (p.grants given)) → Upholds ms st e given (outcome_of st p given)
    upholds_plan p n f = upholds_rows p (λ code k. none_by (stage_of ms) e code n) f

    -- a call that takes memory
    pub upholds_memory : (o : Outcome) → HandsNone e → Upholds ms st e given o →
        Upholds ms st e given (if_found st o given)
    upholds_memory o n f = go given
      where
        go : (answers : List Answer) → Upholds ms st e given (if_found st o answers)
        go (out_of_memory ∷ answers) = upholds_refused hr.E_OUTOFMEMORY (none_by (stage_of ms) e hr.E_OUTOFMEMORY n)
        go _ = f

    -- a call of a client's stream
    pub upholds_with_stream : (o : Option Stream) (outcome : Stream → Outcome) →
        HandsNoneBy (stage_of ms) e hr.NOT_INITIALIZED →
        ((s : Stream) → o ≡ Some s → Upholds ms st e given (outcome s)) →
        Upholds ms st e given (with_stream st o outcome)
    upholds_with_stream None outcome n f = upholds_refused hr.NOT_INITIALIZED n
    upholds_with_stream (Some s) outcome n f = f s refl

    pub upholds_stream : (conn client : ℕ) (rows : Option Stream → List (Row Hr)) (outcome : Stream → Outcome) →
        HandsNone e → ((s : Stream) → Upholds ms st e given (outcome s)) →
        Upholds ms st e given (outcome_of st (stream_plan st conn client rows outcome) given)
    upholds_stream conn client rows outcome n f =
        upholds_plan (stream_plan st conn client rows outcome) n
        (λ r. upholds_with_stream (stream_at client st.stage) outcome (none_by (stage_of ms) e hr.NOT_INITIALIZED n)
        (λ s k. f s))

    pub upholds_data : (conn client : ℕ) (x : DataCall) (outcome : Stream → Outcome) → HandsNone e →
        ((s : Stream) → Upholds ms st e given (outcome s)) →
        Upholds ms st e given (outcome_of st (data_plan st conn client x outcome) given)
    upholds_data conn client x outcome n f =
        upholds_plan (data_plan st conn client x outcome) n
        (λ r. upholds_with_stream (stream_at client st.stage) outcome (none_by (stage_of ms) e hr.NOT_INITIALIZED n)
        (λ s k. f s))

    -- a call of a client's endpoint
    pub upholds_with_endpoint : (o : Option Endpoint) (outcome : Endpoint → Outcome) → HandsNone e →
        ((d : Endpoint) → Upholds ms st e given (outcome d)) → Upholds ms st e given (with_endpoint st o outcome)
    upholds_with_endpoint None outcome n f =
        upholds_refused hr.DEVICE_INVALIDATED (none_by (stage_of ms) e hr.DEVICE_INVALIDATED n)
    upholds_with_endpoint (Some d) outcome n f = f d

    -- an event of an endpoint
    pub upholds_with_named : (o : Option Endpoint) (outcome : Endpoint → Outcome) → HandsNone e →
        ((d : Endpoint) → Upholds ms st e given (outcome d)) → Upholds ms st e given (with_named st o outcome)
    upholds_with_named None outcome n f = upholds_refused hr.E_NOTFOUND (none_by (stage_of ms) e hr.E_NOTFOUND n)
    upholds_with_named (Some d) outcome n f = f d

    -- what an event tells by notices isn't on the stage
    pub upholds_noticed : (b : Bool) (o : Outcome) → Upholds ms st e given o → Upholds ms st e given (told st e b o)
    upholds_noticed false o u = u
    upholds_noticed true o u =
        chosen (Upholds ms st e given) (o.result.0 == hr.S_OK.0) _ o
        (record { order = u.order; mixes = u.mixes; records = u.records; plays = u.plays; hands = u.hands }) u
