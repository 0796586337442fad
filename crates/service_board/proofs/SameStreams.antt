-- A board whose entries have other gains stands for the same states, and what it does the other board does.
use Rattle.std.proofs.Common.{◌≡◌, ℕ, ◌==◌, List, [], ◌∷◌, map, Option, Some, refl, sym, ap, ap₂, subst, ◌∙◌}
use Rattle.std.proofs.Common.{if◌then◌else◌}
use Rattle.std.specs.List.{AllZip}
use Rattle.device_io.specs.DeviceLog.{DeviceLog}
use Rattle.ca_base.specs.declared.codes.Hr.{Hr}
use Rattle.buffer_ring.specs.declared.step.StoreStep.{StoreStep}
use Rattle.ca_stage.specs.Stage.{BufferData}
use Rattle.ca_stage.specs.Tally.{Tally}
use Rattle.ca_stage.proofs.Lists.{all_of, map_alike}
use Rattle.ca_machine.specs.State.{State}
use Rattle.ca_machine.specs.Plan.{Plan}
use Rattle.ca_machine.specs.View.{AnswersBy, outside}
use Rattle.period_engine.specs.declared.entry.StreamEntry.{StreamEntry}
use Rattle.period_engine.specs.Agreement.{Agrees, AllAgree, ArePacked, data_after, layout_of}
use Rattle.period_engine.specs.Entries.{stream_of, stream_with, streams_of}
use Rattle.service_book.specs.BookState.{book_state}
use Rattle.service_board.specs.Board.{playhead_of, state_of}
use Rattle.service_board.specs.Does.{Does, Made, after_steps, layout_at, store_at}
use Rattle.service_board.specs.Gains.{HasSameStream, HasSameStreams}
use Rattle.service_board.specs.declared.board.Board.{Board}

-- ---- entries

module _ {E : Type 0} where
  pub same_entries : (xs : List (StreamEntry E)) → AllZip HasSameStream xs xs
  same_entries [] = tt
  same_entries (x ∷ xs) = (refl, same_entries xs)

  streams_same : (datas : ℕ → BufferData) (xs ys : List (StreamEntry E)) → AllZip HasSameStream xs ys →
      streams_of datas ys ≡ streams_of datas xs
  streams_same datas [] [] h = refl
  streams_same datas (x ∷ xs) (y ∷ ys) h =
      ap₂ (λ s ss. s ∷ ss) (ap (stream_of datas) h.0) (streams_same datas xs ys h.1)
  streams_same datas [] (y ∷ ys) h = absurd h
  streams_same datas (x ∷ xs) [] h = absurd h

  store_same : (n : ℕ) (xs ys : List (StreamEntry E)) → AllZip HasSameStream xs ys → store_at n ys ≡ store_at n xs
  store_same n [] [] h = refl
  store_same n (x ∷ xs) (y ∷ ys) h =
      ap₂ (λ (e : StreamEntry E) o. if e.client.0 == n then Some e.store else o) h.0 (store_same n xs ys h.1)
  store_same n [] (y ∷ ys) h = absurd h
  store_same n (x ∷ xs) [] h = absurd h

  layout_same : (n : ℕ) (xs ys : List (StreamEntry E)) → AllZip HasSameStream xs ys →
      layout_at n ys ≡ layout_at n xs
  layout_same n [] [] h = refl
  layout_same n (x ∷ xs) (y ∷ ys) h =
      ap₂ (λ (e : StreamEntry E) o. if e.client.0 == n then layout_of e else o) h.0 (layout_same n xs ys h.1)
  layout_same n [] (y ∷ ys) h = absurd h
  layout_same n (x ∷ xs) [] h = absurd h

  agree_same : (steps : ℕ → List StoreStep) (datas : ℕ → BufferData) (xs ys : List (StreamEntry E)) →
      AllZip HasSameStream xs ys → AllAgree steps datas xs → AllAgree steps datas ys
  agree_same steps datas [] [] h agree = tt
  agree_same steps datas (x ∷ xs) (y ∷ ys) h agree = (
    subst (λ (e : StreamEntry E). Agrees (layout_of e) (steps e.client.0) (datas e.client.0)) (sym h.0) agree.0,
    agree_same steps datas xs ys h.1 agree.1,
  )
  agree_same steps datas [] (y ∷ ys) h agree = absurd h
  agree_same steps datas (x ∷ xs) [] h agree = absurd h

  -- the same data by client make the same streams
  streams_by : (datas datas' : ℕ → BufferData) → ((n : ℕ) → datas n ≡ datas' n) → (xs : List (StreamEntry E)) →
      streams_of datas xs ≡ streams_of datas' xs
  streams_by datas datas' same xs =
      map_alike (stream_of datas) (stream_of datas') xs
      (all_of _ (λ e. ap (λ d. stream_with d e) (same e.client.0)) xs)

-- ---- boards

-- a board whose entries have other gains stands for the same state
pub same_state : {D E : Type 0} (old mid : Board D E) → HasSameStreams old mid → (datas : ℕ → BufferData)
    (tally : Tally) → state_of datas tally mid ≡ state_of datas tally old
same_state old mid same datas tally =
    ap (state_of datas tally) same.same
    ∙ ap (λ streams. book_state old.book (record {
      playheads = map playhead_of old.seats.items;
      streams = streams;
    }) tally) (streams_same datas old.entries.items mid.entries.items same.entries)

module _ {D E : Type 0} (faults : D → ℕ) (told : D → Option (List DeviceLog)) (moves : E → List StoreStep → E → Type 0)
    (given : Option E) (known : (ℕ → BufferData) → Type 0) (old mid new : Board D E) (same : HasSameStreams old mid)
    (plan : State → Plan) (result : Hr) (payload : List ℕ)
    (made : Does faults told moves given known mid new plan result payload)
  where
    after_same : (datas : ℕ → BufferData) (tally : Tally) →
        state_of (after_steps made.steps mid.entries.items datas) tally new
        ≡ state_of (after_steps made.steps old.entries.items datas) tally new
    after_same datas tally =
        ap (λ streams. book_state new.book (record {
          playheads = map playhead_of new.seats.items;
          streams = streams;
        }) tally)
        (streams_by (after_steps made.steps mid.entries.items datas) (after_steps made.steps old.entries.items datas)
        (λ n. ap (λ l. data_after l (made.steps n) (datas n))
        (layout_same n old.entries.items mid.entries.items same.entries))
        new.entries.items)

    -- what the board with other gains did, the board did
    pub same_does : Does faults told moves given known old new plan result payload
    same_does = record {
      steps = made.steps;
      made = λ client.
          subst (λ o. Made moves given (made.steps client) o (store_at client new.entries.items))
          (store_same client old.entries.items mid.entries.items same.entries) (made.made client);
      packs = λ client.
          subst (λ l. ArePacked l (made.steps client))
          (layout_same client old.entries.items mid.entries.items same.entries) (made.packs client);
      does = λ datas tally agrees knows.
          let did =
          made.does datas tally (agree_same made.steps datas old.entries.items mid.entries.items same.entries agrees)
          knows in
          record {
            tally = did.tally;
            answers =
                subst (λ (devices : D). AnswersBy (state_of datas tally old) (plan (state_of datas tally old)) result
                payload (state_of (after_steps made.steps old.entries.items datas) did.tally new)
                (outside faults told devices) (outside faults told new.devices)) (ap (λ b. b.devices) same.same)
                (subst (λ st. AnswersBy st (plan st) result payload
                (state_of (after_steps made.steps old.entries.items datas) did.tally new)
                (outside faults told mid.devices) (outside faults told new.devices))
                (same_state old mid same datas tally)
                (subst (λ after. AnswersBy (state_of datas tally mid) (plan (state_of datas tally mid)) result payload
                after (outside faults told mid.devices) (outside faults told new.devices))
                (after_same datas did.tally) did.answers));
          };
    }
