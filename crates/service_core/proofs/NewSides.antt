-- The client's side of a stream that is opened, among those of the others.
use Rattle.std.proofs.Common.{◌≡◌, ℕ, suc, zero, ◌*◌, ◌≤◌, ◌==◌, List, [], ◌∷◌, length, Bool, true, false, Option}
use Rattle.std.proofs.Common.{Some, None, IfSome, find, arith, cond, refl, sym, ap, subst, ◌∙◌}
use Rattle.std.specs.Option.{option_map, option_map_or}
use Rattle.std.specs.List.{AllZip, insert}
use Rattle.std.proofs.Common.{Result, Ok, Err, IfOk, IfErr}
use Rattle.ca_base.specs.declared.codes.Hr.{Hr}
use Rattle.ca_base.specs.declared.ids.ClientNo.{ClientNo}
use Rattle.ca_base.specs.declared.ids.Reason.TheVariants.{Override}
use Rattle.ca_base.specs.declared.ids.SessionNo.{SessionNo}
use Rattle.ca_base.specs.declared.limits.TheConstants.{MAX_STORE_WORDS}
use Rattle.reply_payload.specs.declared.payload.Payload.{Payload}
use Rattle.reply_payload.specs.declared.packets.TheConstants.{MOST_FRAMES}
use Rattle.buffer_ring.specs.declared.step.EndState.{EndState}
use Rattle.buffer_ring.specs.declared.step.StoreStep.{StoreStep}
use Rattle.buffer_ring.specs.Kept.{Kept, state_of}
use Rattle.client_state.specs.declared.side.ClientSide.{ClientSide}
use Rattle.ca_stage.specs.Stage.{Stream, no_data}
use Rattle.period_engine.specs.declared.entry.StreamEntry.{StreamEntry}
use Rattle.period_engine.specs.SubSteps.{Turned}
use Rattle.service_book.specs.declared.opening.Opening.{Opening as Asked}
use Rattle.service_book.specs.declared.opening.OpeningPlan.{OpeningPlan}
use Rattle.stream_entries.specs.Closing.{closes_if}
use Rattle.stream_entries.specs.Search.{is_entry_of}
use Rattle.service_board.specs.declared.board.Board.{Board}
use Rattle.service_board.specs.declared.board.NewStream.{NewStream}
use Rattle.service_board.specs.Openings.{Enters, IsNewStream, new_entry}
use Rattle.service_core.specs.declared.both_ends.BothEnds.{BothEnds}
use Rattle.service_core.specs.Core.{AreNewEnds, HasSide, IsFresh, IsMadeFor, core_data, core_datas, new_side}
use Rattle.service_core.proofs.EntryData.{data_found, entry_at}

module _ {F : Type 0} (kept : F → Kept) (plan : OpeningPlan) where
  -- nothing was used of new ends
  new_is_fresh : (ends : BothEnds F) → AreNewEnds kept plan ends → IsFresh kept ends
  new_is_fresh ends new = record {
    empty = ap (λ k. k.words) new.store;
    unleased = ap (λ (s : ClientSide). s.lease) new.side;
    unreleased = ap (λ (s : ClientSide). s.released) new.side;
  }

  pub made_ends : (made : Option (NewStream (BothEnds F))) → IfSome made (IsMadeFor kept plan) →
      IfSome (option_map (λ m. m.store) made) (AreNewEnds kept plan)
  made_ends None h = tt
  made_ends (Some made) h = h.ends

  pub made_is_fresh : (made : Option (NewStream (BothEnds F))) → IfSome made (IsMadeFor kept plan) →
      IfSome (option_map (λ m. m.store) made) (IsFresh kept)
  made_is_fresh None h = tt
  made_is_fresh (Some made) h = new_is_fresh made.store h.ends

  -- and their store is new at the engine's end
  pub made_is_new : (state : F → EndState) → ((x : F) → state_of (kept x) ≡ state x) →
      (made : Option (NewStream (BothEnds F))) → IfSome made (IsMadeFor kept plan) →
      IfSome made (IsNewStream (λ ends. state ends.store) plan)
  made_is_new state whole None h = tt
  made_is_new state whole (Some made) h = record {
    store = sym (whole made.store.store) ∙ ap state_of h.ends.store;
    block = h.block;
  }

-- the side of new ends knows the stream that is opened
new_has_side : {F : Type 0} (kept : F → Kept) (x : Asked) (plan : OpeningPlan) (session : SessionNo) (store : F)
    (side : ClientSide) → side ≡ new_side plan → (kept store).words ≡ [] → plan.sizes.words ≤ MAX_STORE_WORDS →
    plan.sizes.period ≤ MOST_FRAMES → HasSide kept (new_entry x plan session (record { side = side; store = store }))
new_has_side {F} kept x plan session store side is empty most longest =
    subst (λ s. HasSide kept (new_entry x plan session (record { side = s; store = store }))) (sym is) (record {
      side = refl;
      room = λ renders. tt;
      packed = λ stores. (0, ap length empty ∙ none plan.sizes.period);
      small = most;
      reply = omega arith;
    })
  where
    none : (period : ℕ) → 0 ≡ 0 * suc period
    none period = omega arith

-- ---- the new entry is the one that came

inserted_found : {E : Type 0} (client at : ℕ) (new e : StreamEntry E) (entries : List (StreamEntry E)) →
    entry_at client entries ≡ None → entry_at client (insert entries at new) ≡ Some e → new ≡ e
inserted_found {E} client zero new e entries none found = by (is_entry_of client new) found
  where
    by : (b : Bool) → cond b (Some new) (entry_at client entries) ≡ Some e → new ≡ e
    by true h = cc h
    by false h = cc (h, none)
inserted_found {E} client (suc at) new e [] none found = by (is_entry_of client new) found
  where
    by : (b : Bool) → cond b (Some new) None ≡ Some e → new ≡ e
    by true h = cc h
    by false h = cc h
inserted_found {E} client (suc at) new e (x ∷ entries) none found =
    by (inserted_found client at new e entries) (is_entry_of client x) none found
  where
    by : (entry_at client entries ≡ None → entry_at client (insert entries at new) ≡ Some e → new ≡ e) → (b : Bool) →
        cond b (Some x) (entry_at client entries) ≡ None →
        cond b (Some x) (entry_at client (insert entries at new)) ≡ Some e → new ≡ e
    by rest true none h = cc none
    by rest false none h = rest none h

turned_none : {E : Type 0} (moves : E → List StoreStep → E → Type 0) (f : Stream → Stream) (client : ℕ)
    (old mid : List (StreamEntry E)) → AllZip (Turned moves f) old mid → entry_at client old ≡ None →
    entry_at client mid ≡ None
turned_none moves f client [] [] h none = refl
turned_none {E} moves f client (a ∷ old) (b ∷ mid) h none =
    by (turned_none moves f client old mid h.1) (is_entry_of client a) (is_entry_of client b)
    (ap (λ (c : ClientNo). c.0 == client) h.0.same.client) none
  where
    by : (entry_at client old ≡ None → entry_at client mid ≡ None) → (was is : Bool) → is ≡ was →
        cond was (Some a) (entry_at client old) ≡ None → cond is (Some b) (entry_at client mid) ≡ None
    by rest true is same none = cc none
    by rest false true same none = cc same
    by rest false false same none = rest none
turned_none moves f client [] (b ∷ mid) h none = absurd h
turned_none moves f client (a ∷ old) [] h none = absurd h

module _ {F : Type 0} (kept : F → Kept) (moves : BothEnds F → List StoreStep → BothEnds F → Type 0) (x : Asked)
    (plan : OpeningPlan) (given : Option (BothEnds F)) (ends : IfSome given (AreNewEnds kept plan))
    (most : plan.sizes.words ≤ MAX_STORE_WORDS) (longest : plan.sizes.period ≤ MOST_FRAMES) where
  entered_side : (old new : List (StreamEntry (BothEnds F))) → Enters moves x plan given old new →
      (e : StreamEntry (BothEnds F)) → entry_at e.client.0 old ≡ None → entry_at e.client.0 new ≡ Some e →
      HasSide kept e
  entered_side old new enters e was is_now =
      let made : AreNewEnds kept plan enters.store =
      subst (λ o. IfSome o (AreNewEnds kept plan)) enters.given_is ends in
      subst (HasSide kept)
      (inserted_found e.client.0 enters.place (new_entry x plan enters.session enters.store) e enters.mid
      (turned_none moves (closes_if plan.takes_over Override (Some plan.endpoint.0)) e.client.0 old enters.mid
      enters.turned was)
      (ap (entry_at e.client.0) (sym enters.entries) ∙ is_now))
      (new_has_side kept x plan enters.session enters.store.store enters.store.side made.side
      (ap (λ k. k.words) made.store) most longest)

  -- whatever an Initialize answers
  pub came_has_side : {D : Type 0} (old new : Board D (BothEnds F)) (answer : Result Payload Hr) →
      IfOk answer (λ p. Enters moves x plan given old.entries.items new.entries.items) →
      IfErr answer (λ code. new ≡ old) → (e : StreamEntry (BothEnds F)) →
      entry_at e.client.0 old.entries.items ≡ None → entry_at e.client.0 new.entries.items ≡ Some e → HasSide kept e
  came_has_side old new (Ok p) enters stays e was is_now =
      entered_side old.entries.items new.entries.items enters e was is_now
  came_has_side old new (Err code) enters stays e was is_now =
      absurd (cc (sym was ∙ ap (λ b. entry_at e.client.0 b.entries.items) (sym stays) ∙ is_now))

-- a client that has no entry has no data
pub no_entry_data : {F : Type 0} (kept : F → Kept) (client : ℕ) (entries : List (StreamEntry (BothEnds F))) →
    find (is_entry_of client) entries ≡ None → core_datas kept entries client ≡ no_data
no_entry_data kept client entries h =
    data_found kept client entries ∙ ap (λ o. option_map_or (core_data kept) o no_data) h
