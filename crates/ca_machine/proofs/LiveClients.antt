-- Live clients: their numbers, as clients come and go, and the part of a stage that is theirs.
use Rattle.std.proofs.Common.{◌≡◌, ℕ, ◌==◌, ◌||◌, ◌&&◌, not, List, [], ◌∷◌, ◌++◌, filter, Bool, true, false}
use Rattle.std.proofs.Common.{cond, Some, refl, sym, ap, ◌∙◌, find, arith, eqb, eqb-true, eq-eqb}
use Rattle.std.proofs.lemmas.Bool.{or_left, or_right, or_parts, or_from, and_parts}
use Rattle.std.proofs.lemmas.Bool.Decides.{nat_tests}
use Rattle.std.proofs.lemmas.Option.{same_Some, none-some}
use Rattle.std.specs.List.{AllByRecursion}
use Rattle.ca_base.specs.declared.ids.Reason.TheVariants.{Released}
use Rattle.ca_stage.specs.Stage.{Stream, Stage, is_open}
use Rattle.ca_stage.specs.Moves.{closed, of_client, moved, is_open_of, stream_after, after_move, after_moves}
use Rattle.ca_stage.specs.Order.{is_among}
use Rattle.ca_stage.specs.Present.{present, IsGone, AreGone}
use Rattle.ca_stage.proofs.Lists.{chosen_by, all_both, all_weaker, all-map, found_passes}
use Rattle.ca_stage.proofs.Presence.{present_fewer, present_same}
use Rattle.ca_machine.specs.declared.state.Client.{Client}
use Rattle.ca_machine.specs.State.{is_client_of, live_clients}
use Rattle.ca_machine.specs.Clients.{closes}

-- ---- a client that is found

found_head : (test : Client → Bool) (x c : Client) (clients : List Client) (b : Bool) →
    (find test clients ≡ Some c → is_among c.client.0 (live_clients clients) ≡ true) →
    cond b (Some x) (find test clients) ≡ Some c → is_among c.client.0 (live_clients (x ∷ clients)) ≡ true
found_head test x c clients true f e =
    or_left (x.client.0 == c.client.0) _
    (eq-eqb x.client.0 c.client.0 (ap (λ (d : Client). d.client.0) (same_Some x c e)))
found_head test x c clients false f e = or_right (x.client.0 == c.client.0) _ (f e)

pub found_is_live : (test : Client → Bool) (clients : List Client) (c : Client) → find test clients ≡ Some c →
    is_among c.client.0 (live_clients clients) ≡ true
found_is_live test [] c e = absurd (none-some c e)
found_is_live test (x ∷ clients) c e =
    found_head test x c clients (test x) (λ k. found_is_live test clients c k) e

-- it has the number that it was asked for by
pub found_number : (conn client : ℕ) (clients : List Client) (c : Client) →
    find (is_client_of conn client) clients ≡ Some c → c.client.0 ≡ client
found_number conn client clients c e =
    eqb-true c.client.0 client
    (and_parts (c.client.0 == client) (c.conn.0 == conn) (found_passes (is_client_of conn client) clients c e)).0

-- ---- a client is added

among_push : (n : ℕ) (clients : List Client) (c : Client) → eqb c.client.0 n ≡ false →
    is_among n (live_clients (clients ++ c ∷ [])) ≡ is_among n (live_clients clients)
among_push n [] c h = or_from (c.client.0 == n) false h refl
among_push n (x ∷ clients) c h = ap (λ b. x.client.0 == n || b) (among_push n clients c h)

-- streams that this client has none of
abbrev pub IsOfOthers : Client → Stream → Type 0
IsOfOthers c s = eqb c.client.0 s.client ≡ false

pub present_push : (clients : List Client) (c : Client) (st : Stage) → AllByRecursion (IsOfOthers c) st.streams →
    present (live_clients (clients ++ c ∷ [])) st ≡ present (live_clients clients) st
present_push clients c st h =
    present_same (live_clients (clients ++ c ∷ [])) (live_clients clients) st
    (all_weaker (IsOfOthers c) _ (λ s k. among_push s.client clients c k) st.streams h)

pub gone_push : (clients : List Client) (c : Client) (st : Stage) → AllByRecursion (IsOfOthers c) st.streams →
    AreGone (live_clients clients) st → AreGone (live_clients (clients ++ c ∷ [])) st
gone_push clients c st h g =
    all_both (IsOfOthers c) (IsGone (live_clients clients)) (IsGone (live_clients (clients ++ c ∷ [])))
    (λ s k f e. f (sym (among_push s.client clients c k) ∙ e)) st.streams h g

-- ---- clients go, and others are left

-- who is neither among those that pass nor among the others isn't there
split_head : (c : Client) (clients gone left : List Client) (n : ℕ) (b : Bool) →
    (is_among n (live_clients gone) ≡ false → is_among n (live_clients left) ≡ false →
    is_among n (live_clients clients) ≡ false) →
    is_among n (live_clients (cond b (c ∷ gone) gone)) ≡ false →
    is_among n (live_clients (cond (not b) (c ∷ left) left)) ≡ false → is_among n (live_clients (c ∷ clients)) ≡ false
split_head c clients gone left n true f g l =
    let h = or_parts (c.client.0 == n) (is_among n (live_clients gone)) g in
    or_from (c.client.0 == n) (is_among n (live_clients clients)) h.0 (f h.1 l)
split_head c clients gone left n false f g l =
    let h = or_parts (c.client.0 == n) (is_among n (live_clients left)) l in
    or_from (c.client.0 == n) (is_among n (live_clients clients)) h.0 (f g h.1)

pub among_split : (p : Client → Bool) (clients : List Client) (n : ℕ) →
    is_among n (live_clients (filter p clients)) ≡ false →
    is_among n (live_clients (filter (λ c. not (p c)) clients)) ≡ false → is_among n (live_clients clients) ≡ false
among_split p [] n g l = refl
among_split p (c ∷ clients) n g l =
    split_head c clients (filter p clients) (filter (λ c. not (p c)) clients) n (p c)
    (λ a b. among_split p clients n a b) g l

none_kept : (c : Client) (clients left : List Client) (n : ℕ) (b : Bool) →
    (is_among n (live_clients clients) ≡ false → is_among n (live_clients left) ≡ false) →
    is_among n (live_clients (c ∷ clients)) ≡ false → is_among n (live_clients (cond b (c ∷ left) left)) ≡ false
none_kept c clients left n true f h =
    let p = or_parts (c.client.0 == n) (is_among n (live_clients clients)) h in
    or_from (c.client.0 == n) (is_among n (live_clients left)) p.0 (f p.1)
none_kept c clients left n false f h = f (or_parts (c.client.0 == n) (is_among n (live_clients clients)) h).1

none_left : (q : Client → Bool) (clients : List Client) (n : ℕ) → is_among n (live_clients clients) ≡ false →
    is_among n (live_clients (filter q clients)) ≡ false
none_left q [] n h = h
none_left q (c ∷ clients) n h = none_kept c clients (filter q clients) n (q c) (λ k. none_left q clients n k) h

-- the streams of clients that are left, of those of more clients, are those of all
pub present_left : (q : Client → Bool) (clients : List Client) (st : Stage) →
    present (live_clients (filter q clients)) (present (live_clients clients) st)
    ≡ present (live_clients (filter q clients)) st
present_left q clients st =
    present_fewer (live_clients (filter q clients)) (live_clients clients) st (λ n h. none_left q clients n h)

-- once the streams of those that go are closed, the streams of all but those that are left are closed
abbrev IsGoing : List Client → List Client → Stream → Type 0
IsGoing gone left s =
    is_among s.client (live_clients left) ≡ false → is_among s.client (live_clients gone) ≡ false → is_open s ≡ false

closed_one : (c : Client) (gone left : List Client) (s : Stream) → IsGoing (c ∷ gone) left s →
    IsGoing gone left (stream_after (of_client c.client.0 (closed Released)) s)
closed_one c gone left s h =
    chosen_by (IsGoing gone left) (is_open_of c.client.0 s) (moved (closed Released) s) s (λ e a b. refl)
    (λ e a b. go (is_open s) refl e a b)
  where
    go : (o : Bool) → is_open s ≡ o → (s.client == c.client.0 && is_open s) ≡ false →
        is_among s.client (live_clients left) ≡ false → is_among s.client (live_clients gone) ≡ false →
        is_open s ≡ false
    go false k e a b = k
    go true k e a b = h a (or_from (c.client.0 == s.client) _ (other (and_open e)) b)
      where
        and_open : (s.client == c.client.0 && is_open s) ≡ false → eqb s.client c.client.0 ≡ false
        and_open e = grind (arith, nat_tests)

        other : eqb s.client c.client.0 ≡ false → eqb c.client.0 s.client ≡ false
        other e = grind (arith, nat_tests)

closes_gone : (gone left : List Client) (st : Stage) → AllByRecursion (IsGoing gone left) st.streams →
    AreGone (live_clients left) (after_moves st (closes gone))
closes_gone [] left st h = all_weaker (IsGoing [] left) (IsGone (live_clients left)) (λ s f e. f e refl) st.streams h
closes_gone (c ∷ gone) left st h =
    closes_gone gone left (after_move st (of_client c.client.0 (closed Released)))
    (all-map (IsGoing (c ∷ gone) left) (IsGoing gone left) (stream_after (of_client c.client.0 (closed Released)))
    (λ s k. closed_one c gone left s k) st.streams h)

pub gone_left : (p : Client → Bool) (clients : List Client) (st : Stage) → AreGone (live_clients clients) st →
    AreGone (live_clients (filter (λ c. not (p c)) clients)) (after_moves st (closes (filter p clients)))
gone_left p clients st g =
    closes_gone (filter p clients) (filter (λ c. not (p c)) clients) st
    (all_weaker (IsGone (live_clients clients)) (IsGoing (filter p clients) (filter (λ c. not (p c)) clients))
    (λ s f a b. f (among_split p clients s.client b a)) st.streams g)
