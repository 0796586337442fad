-- What holds of every state of a run, after the moves that were made before it.
use Rattle.std.proofs.Common.{◌≡◌, ◌&&◌, ℕ, ◌+◌, ◌≤◌, ◌<◌, ◌||◌, ◌==◌, cond, not, List, [], ◌∷◌, ◌++◌, filter, Bool}
use Rattle.std.proofs.Common.{true}
use Rattle.std.proofs.Common.{false, refl, sym, ap, ap₂, ◌∙◌, subst, append-nil, arith, eqb, eqb-true}
use Rattle.std.proofs.Common.{if◌then◌else◌, map}
use Rattle.std.proofs.lemmas.Bool.{or_from, or_parts}
use Rattle.std.proofs.lemmas.Bool.Decides.{nat_tests}
use Rattle.std.proofs.lemmas.List.{map-append}
use Rattle.std.specs.List.{AllByRecursion, list_any}
use Rattle.ca_base.specs.declared.ids.Reason.TheVariants.{Released}
use Rattle.ca_base.specs.declared.values.TheConstants.{STATE_NOTPRESENT}
use Rattle.ca_stage.specs.Stage.{empty_stage, Stream, Stage}
use Rattle.ca_stage.specs.Moves.{Move, added, of_client, closed, after_move, after_moves}
use Rattle.ca_stage.specs.Woven.{IsWoven}
use Rattle.ca_stage.specs.Tally.{Tally, no_tally, tally_after}
use Rattle.ca_stage.specs.Order.{is_among}
use Rattle.ca_stage.specs.Present.{present, AreGone}
use Rattle.ca_stage.proofs.Lists.{chosen, all-append, all-filter, all-map, all_weaker}
use Rattle.ca_stage.proofs.Stages.{after_moves-append, woven-append}
use Rattle.ca_stage.proofs.MapTallies.{tally-append}
use Rattle.ca_machine.specs.declared.state.Client.{Client}
use Rattle.device_registry.specs.declared.endpoint.Endpoint.{Endpoint}
use Rattle.device_registry.specs.Endpoints.{changed, is_endpoint, removed, with_state}
use Rattle.ca_machine.specs.State.{State, empty_state, endpoint_numbers, live_clients}
use Rattle.ca_machine.specs.Seats.{with_playheads}
use Rattle.ca_machine.specs.Devices.{with_endpoints}
use Rattle.ca_machine.specs.Plan.{moved}
use Rattle.ca_machine.specs.Clients.{closes, leaving, new_client}
use Rattle.ca_machine.specs.Periods.{after_period, is_signaled, with_event}
use Rattle.ca_machine.proofs.LiveClients.{IsOfOthers, present_push, gone_push, present_left, gone_left}
use Rattle.ca_machine.proofs.PresentStage.{PresentLaws, stage_of, OpenPresent, gone_after, AreWithin, within_after}
use Rattle.ca_machine.proofs.PresentStage.{present_after, tally_present}
use Rattle.ca_machine.proofs.Playheads.{HasHead, HaveHeads, heads_stay, head_added}
use Rattle.ca_machine.proofs.PlayheadsThere.{
  AddNone,
  AreUpTo,
  tally_all_alike,
  there_added,
  there_after_all,
  there_fewer,
  up_to_all,
  up_to_new,
}

abbrev pub AreMade : ℕ → List Client → Type 0
AreMade k clients = AllByRecursion (λ (c : Client). c.client.0 ≤ k) clients

-- After these moves a state's stage has the present streams of the whole one, and the playheads of the endpoints that
-- are there; what is left out is closed; the tally counts the moves, which are woven; each endpoint has a playhead, and
-- no playhead is above the last number; and no client is above the count of those made.
pub record IsOrderOf (ms : List Move) (stage : Stage) (tally' : Tally) (clients' : List Client)
    (endpoints : List Endpoint) (last made : ℕ) : Type 0
  where
    pub stands : stage ≡ with_playheads (endpoint_numbers endpoints) (present (live_clients clients') (stage_of ms))
    pub gone : AreGone (live_clients clients') (stage_of ms)
    pub tally : tally' ≡ tally_after no_tally empty_stage ms
    pub woven : IsWoven empty_stage [] ms
    pub heads : HaveHeads (stage_of ms) endpoints
    pub numbers : AreUpTo last (stage_of ms).playheads
    pub streams : AreWithin made (stage_of ms).streams
    pub clients : AreMade made clients'

-- the rest of a state may be anything
abbrev pub IsInOrder : List Move → State → Type 0
IsInOrder ms st = IsOrderOf ms st.stage st.tally st.clients st.endpoints st.last_endpoint st.clients_made

pub empty_in_order : IsInOrder [] empty_state
empty_in_order = record {
  stands = refl;
  gone = tt;
  tally = refl;
  woven = tt;
  heads = tt;
  numbers = tt;
  streams = tt;
  clients = tt;
}

-- no move was made
pub in_order_still : (ms : List Move) (st : State) → IsInOrder ms st → IsInOrder (ms ++ []) st
in_order_still ms st h = subst (λ xs. IsInOrder xs st) (sym (append-nil ms)) h

-- ---- moves that are woven and open the streams of live clients alone

among_made : (k n : ℕ) (clients : List Client) → AreMade k clients → is_among n (live_clients clients) ≡ true → n ≤ k
among_made k n [] h a = absurd (Rattle.std.proofs.lemmas.Bool.false≢true a)
among_made k n (c ∷ clients) h a = go (c.client.0 == n) refl a (λ b. among_made k n clients h.1 b) h.0
  where
    go : (b : Bool) → eqb c.client.0 n ≡ b → (b || is_among n (live_clients clients)) ≡ true →
        (is_among n (live_clients clients) ≡ true → n ≤ k) → c.client.0 ≤ k → n ≤ k
    go true e a f l = subst (λ m. m ≤ k) (eqb-true c.client.0 n e) l
    go false e a f l = f a

module _ (laws : PresentLaws) where
  pub in_order_moved : (ms xs : List Move) (st : State) → IsInOrder ms st → OpenPresent (live_clients st.clients) xs →
      AddNone xs → IsWoven (stage_of ms) [] xs → IsInOrder (ms ++ xs) (moved xs st)
  in_order_moved ms xs st h o a w =
      let shown : Stage = present (live_clients st.clients) (stage_of ms) in
      let along : stage_of (ms ++ xs) ≡ after_moves (stage_of ms) xs = after_moves-append empty_stage ms xs in
      let back : after_moves (stage_of ms) xs ≡ stage_of (ms ++ xs) = sym along in
      record {
        stands =
            ap (λ s. after_moves s xs) h.stands
            ∙ there_after_all (endpoint_numbers st.endpoints) shown xs a
            ∙ ap (with_playheads (endpoint_numbers st.endpoints))
            (present_after laws (live_clients st.clients) ms xs o);
        gone =
            subst (AreGone (live_clients st.clients)) back
            (gone_after (live_clients st.clients) (stage_of ms) xs o h.gone);
        tally =
            ap₂ (λ t s. tally_after t s xs) h.tally h.stands
            ∙ tally_all_alike (with_playheads (endpoint_numbers st.endpoints) shown) shown xs
            (tally_after no_tally empty_stage ms) (record { same = refl })
            ∙ tally_present laws (live_clients st.clients) ms xs (tally_after no_tally empty_stage ms) o h.gone
            ∙ sym (tally-append ms xs no_tally empty_stage);
        woven = woven-append empty_stage [] ms xs h.woven w;
        heads = subst (λ s. HaveHeads s st.endpoints) back (heads_stay (stage_of ms) xs st.endpoints h.heads);
        numbers =
            subst (λ (s : Stage). AreUpTo st.last_endpoint s.playheads) back
            (up_to_all st.last_endpoint (stage_of ms) xs a h.numbers);
        streams =
            subst (λ (s : Stage). AreWithin st.clients_made s.streams) back
            (within_after st.clients_made (live_clients st.clients)
            (λ n a. among_made st.clients_made n st.clients h.clients a) (stage_of ms) xs o h.streams);
        clients = h.clients;
      }

  -- ---- clients go, and others are left

  woven_closes : (st : Stage) (gone : List Client) → IsWoven st [] (closes gone)
  woven_closes st [] = tt
  woven_closes st (c ∷ gone) = woven_closes (after_move st (of_client c.client.0 (closed Released))) gone

  closes_open_none : (numbers : List ℕ) (gone : List Client) → OpenPresent numbers (closes gone)
  closes_open_none numbers [] = tt
  closes_open_none numbers (c ∷ gone) = (tt, closes_open_none numbers gone)

  closes_add_none : (gone : List Client) → AddNone (closes gone)
  closes_add_none [] = tt
  closes_add_none (c ∷ gone) = (refl, closes_add_none gone)

  pub in_order_leaving : (ms : List Move) (st : State) (p : Client → Bool) → IsInOrder ms st →
      IsInOrder (ms ++ closes (filter p st.clients))
      (leaving (filter p st.clients) (filter (λ c. not (p c)) st.clients) st).after
  in_order_leaving ms st p h =
      let xs : List Move = closes (filter p st.clients) in
      let k : IsInOrder (ms ++ xs) (moved xs st) =
      in_order_moved ms xs st h (closes_open_none (live_clients st.clients) (filter p st.clients))
      (closes_add_none (filter p st.clients)) (woven_closes (stage_of ms) (filter p st.clients)) in
      record {
        stands =
            ap (present (live_clients (filter (λ c. not (p c)) st.clients))) k.stands
            ∙ ap (with_playheads (endpoint_numbers st.endpoints))
            (present_left (λ c. not (p c)) st.clients (stage_of (ms ++ xs)));
        gone =
            subst (AreGone (live_clients (filter (λ c. not (p c)) st.clients)))
            (sym (after_moves-append empty_stage ms xs)) (gone_left p st.clients (stage_of ms) h.gone);
        tally = k.tally;
        woven = k.woven;
        heads = k.heads;
        numbers = k.numbers;
        streams = k.streams;
        clients =
            all-filter (λ (c : Client). c.client.0 ≤ st.clients_made) (λ c. not (p c)) st.clients h.clients;
      }

-- ---- other changes

-- a client is made
pub in_order_made : (ms : List Move) (st : State) (conn endpoint role : ℕ) → IsInOrder ms st →
    IsInOrder ms (record st {
      clients = st.clients ++ new_client (st.clients_made + 1) conn endpoint role ∷ [];
      clients_made = st.clients_made + 1;
    })
in_order_made ms st conn endpoint role h =
    let new : Client = new_client (st.clients_made + 1) conn endpoint role in
    let others : AllByRecursion (IsOfOthers new) (stage_of ms).streams =
    all_weaker (λ (s : Stream). s.client ≤ st.clients_made) (IsOfOthers new)
    (λ s l. above st.clients_made s.client l) (stage_of ms).streams h.streams in
    record {
      stands =
          h.stands
          ∙ ap (with_playheads (endpoint_numbers st.endpoints))
          (sym (present_push st.clients new (stage_of ms) others));
      gone = gone_push st.clients new (stage_of ms) others h.gone;
      tally = h.tally;
      woven = h.woven;
      heads = h.heads;
      numbers = h.numbers;
      streams = all_weaker (λ (s : Stream). s.client ≤ st.clients_made) (λ (s : Stream). s.client ≤ st.clients_made + 1)
          (λ s l. omega arith) (stage_of ms).streams h.streams;
      clients = all-append (λ (c : Client). c.client.0 ≤ st.clients_made + 1) st.clients (new ∷ [])
          (all_weaker (λ (c : Client). c.client.0 ≤ st.clients_made) (λ (c : Client). c.client.0 ≤ st.clients_made + 1)
          (λ c l. omega arith) st.clients h.clients)
          (omega arith, tt);
    }
  where
    above : (k n : ℕ) → n ≤ k → eqb (k + 1) n ≡ false
    above k n l = grind (arith, nat_tests)

-- clients change, and keep their numbers
abbrev pub KeepsNumber : (Client → Client) → Type 0
KeepsNumber f = (c : Client) → (f c).client.0 ≡ c.client.0

pub keeps_if : (b : Bool) (c d : Client) → d.client.0 ≡ c.client.0 → (if b then d else c).client.0 ≡ c.client.0
keeps_if true c d h = h
keeps_if false c d h = refl

numbers_stay : (f : Client → Client) → KeepsNumber f → (clients : List Client) →
    live_clients (map f clients) ≡ live_clients clients
numbers_stay f k [] = refl
numbers_stay f k (c ∷ clients) = ap₂ (λ n ns. n ∷ ns) (k c) (numbers_stay f k clients)

made_stay : (f : Client → Client) → KeepsNumber f → (n : ℕ) (clients : List Client) → AreMade n clients →
    AreMade n (map f clients)
made_stay f k n [] h = tt
made_stay f k n (c ∷ clients) h = (subst (λ m. m ≤ n) (sym (k c)) h.0, made_stay f k n clients h.1)

pub in_order_clients : (ms : List Move) (st : State) (f : Client → Client) → KeepsNumber f → IsInOrder ms st →
    IsInOrder ms (record st { clients = map f st.clients })
in_order_clients ms st f k h =
    let same : live_clients st.clients ≡ live_clients (map f st.clients) = sym (numbers_stay f k st.clients) in
    record {
      stands =
          h.stands ∙ ap (λ ns. with_playheads (endpoint_numbers st.endpoints) (present ns (stage_of ms))) same;
      gone = subst (λ ns. AreGone ns (stage_of ms)) same h.gone;
      tally = h.tally;
      woven = h.woven;
      heads = h.heads;
      numbers = h.numbers;
      streams = h.streams;
      clients = made_stay f k st.clients_made st.clients h.clients;
    }

-- the events that a period sets
events_keep : (number : ℕ) (st : State) → KeepsNumber (with_event number st.stage.streams)
events_keep number st c =
    keeps_if (list_any (λ s. s.client == c.client.0 && is_signaled number s) st.stage.streams) c
    (record c { flagged = true }) refl

-- ---- endpoints come, change and go

-- an endpoint is added whose number is above all before it
module _ (laws : PresentLaws) where
  pub in_order_added : (ms : List Move) (st : State) (e : Endpoint) → st.last_endpoint < e.no.0 → IsInOrder ms st →
      IsInOrder (ms ++ added e.no.0 ∷ [])
      (moved (added e.no.0 ∷ []) (record st { endpoints = st.endpoints ++ e ∷ []; last_endpoint = e.no.0 }))
  in_order_added ms st e l h =
      let n : ℕ = e.no.0 in
      let xs : List Move = added n ∷ [] in
      let shown : Stage = present (live_clients st.clients) (stage_of ms) in
      let along : stage_of (ms ++ xs) ≡ after_moves (stage_of ms) xs = after_moves-append empty_stage ms xs in
      let back : after_moves (stage_of ms) xs ≡ stage_of (ms ++ xs) = sym along in
      record {
        stands =
            ap (λ s. after_moves s xs) h.stands
            ∙ there_added (endpoint_numbers st.endpoints) shown st.last_endpoint n l h.numbers
            ∙ ap₂ with_playheads (sym (map-append (λ (d : Endpoint). d.no.0) st.endpoints (e ∷ [])))
            (present_after laws (live_clients st.clients) ms xs (tt, tt));
        gone =
            subst (AreGone (live_clients st.clients)) back
            (gone_after (live_clients st.clients) (stage_of ms) xs (tt, tt) h.gone);
        tally = h.tally ∙ sym (tally-append ms xs no_tally empty_stage);
        woven = woven-append empty_stage [] ms xs h.woven tt;
        heads =
            all-append (λ (d : Endpoint). HasHead d.no.0 (stage_of (ms ++ xs))) st.endpoints (e ∷ [])
            (subst (λ s. HaveHeads s st.endpoints) back (heads_stay (stage_of ms) xs st.endpoints h.heads))
            (subst (HasHead n) back (head_added n (stage_of ms)), tt);
        numbers =
            subst (λ (s : Stage). AreUpTo n s.playheads) back
            (up_to_new st.last_endpoint n (stage_of ms) l h.numbers);
        streams =
            subst (λ (s : Stage). AreWithin st.clients_made s.streams) back
            (within_after st.clients_made (live_clients st.clients)
            (λ m a. among_made st.clients_made m st.clients h.clients a) (stage_of ms) xs (tt, tt) h.streams);
        clients = h.clients;
      }

-- an endpoint is changed, and keeps its number
numbers_changed : (number : ℕ) (f : Endpoint → Endpoint) → ((e : Endpoint) → (f e).no.0 ≡ e.no.0) →
    (endpoints : List Endpoint) → endpoint_numbers (changed number f endpoints) ≡ endpoint_numbers endpoints
numbers_changed number f k [] = refl
numbers_changed number f k (e ∷ endpoints) =
    ap₂ (λ n ns. n ∷ ns) (stays (is_endpoint number e)) (numbers_changed number f k endpoints)
  where
    stays : (b : Bool) → (if b then f e else e).no.0 ≡ e.no.0
    stays true = k e
    stays false = refl

pub in_order_changed : (ms : List Move) (st : State) (number : ℕ) (f : Endpoint → Endpoint) →
    ((e : Endpoint) → (f e).no.0 ≡ e.no.0) → IsInOrder ms st →
    IsInOrder ms (record st { endpoints = changed number f st.endpoints })
in_order_changed ms st number f k h = record {
  stands =
      h.stands
      ∙ ap (λ ns. with_playheads ns (present (live_clients st.clients) (stage_of ms)))
      (sym (numbers_changed number f k st.endpoints));
  gone = h.gone;
  tally = h.tally;
  woven = h.woven;
  heads =
      all-map (λ (e : Endpoint). HasHead e.no.0 (stage_of ms)) (λ (e : Endpoint). HasHead e.no.0 (stage_of ms)) _
      (λ e g. chosen (λ (d : Endpoint). HasHead d.no.0 (stage_of ms)) (is_endpoint number e) (f e) e
      (subst (λ n. HasHead n (stage_of ms)) (sym (k e)) g) g) st.endpoints h.heads;
  numbers = h.numbers;
  streams = h.streams;
  clients = h.clients;
}

-- an endpoint is gone
none_kept : (n : ℕ) (test : Endpoint → Bool) (endpoints : List Endpoint) →
    is_among n (endpoint_numbers endpoints) ≡ false → is_among n (endpoint_numbers (filter test endpoints)) ≡ false
none_kept n test [] h = refl
none_kept n test (e ∷ endpoints) h =
    let parts = or_parts (e.no.0 == n) (is_among n (endpoint_numbers endpoints)) h in
    go (test e) parts.0 (none_kept n test endpoints parts.1)
  where
    go : (b : Bool) → eqb e.no.0 n ≡ false → is_among n (endpoint_numbers (filter test endpoints)) ≡ false →
        is_among n (endpoint_numbers (cond b (e ∷ filter test endpoints) (filter test endpoints))) ≡ false
    go true a k = or_from (e.no.0 == n) _ a k
    go false a k = k

pub in_order_removed : (ms : List Move) (st : State) (number : ℕ) → IsInOrder ms st →
    IsInOrder ms (with_endpoints (removed number st.endpoints) st)
in_order_removed ms st number h = record {
  stands =
      ap (with_playheads (endpoint_numbers (removed number st.endpoints))) h.stands
      ∙ there_fewer (endpoint_numbers (removed number st.endpoints)) (endpoint_numbers st.endpoints)
      (present (live_clients st.clients) (stage_of ms))
      (λ n k. none_kept n (λ e. not (is_endpoint number e)) st.endpoints k);
  gone = h.gone;
  tally = h.tally;
  woven = h.woven;
  heads =
      all-filter (λ (e : Endpoint). HasHead e.no.0 (stage_of ms)) (λ e. not (is_endpoint number e)) st.endpoints
      h.heads;
  numbers = h.numbers;
  streams = h.streams;
  clients = h.clients;
}

-- a period sets events, or its device failed and leaves its endpoint
pub in_order_period : (ms : List Move) (st : State) (number : ℕ) (whole : Bool) → IsInOrder ms st →
    IsInOrder ms (after_period number whole st)
in_order_period ms st number true h =
    in_order_clients ms st (with_event number st.stage.streams) (events_keep number st) h
in_order_period ms st number false h =
    in_order_changed ms st number (with_state STATE_NOTPRESENT) (λ e. refl) h
