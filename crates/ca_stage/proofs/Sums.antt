-- What a Sound sums at a place is, client by client, what flies of each stream.
use Rattle.std.proofs.Common.{◌≡◌, ℕ, ◌-◌, ◌==◌, ◌&&◌, nat_lt, List, [], ◌∷◌, ◌++◌, map, flat_map, Bool, true, false}
use Rattle.std.proofs.Common.{cond, Option, Some, None, refl, sym, ap, ◌∙◌, subst, if◌then◌else◌}
use Rattle.ca_stage.specs.Stage.{Frame, Stream, Playhead, Stage}
use Rattle.ca_stage.specs.Moves.{Move, opened, Mixing, stream_after, has_stream, as_opened, inserted, with_opened}
use Rattle.ca_stage.specs.Moves.{after_move, after_moves, stream_at}
use Rattle.ca_stage.specs.Mix.{due_at, due_frames, streams_on}
use Rattle.ca_stage.specs.Order.{clients, IsWithout, AreDistinct}
use Rattle.ca_stage.specs.Laws.{heard, covers}
use Rattle.ca_stage.proofs.Lists.{chosen, chosen_by, all_weaker, flat_same, flat_map-map}
use Rattle.ca_stage.proofs.Clients.{clients_of, clients_moved, same_any, without_earlier, found_none, each_found}
use Rattle.ca_stage.proofs.Flights.{flying_from}

-- each frame beside a client's number
abbrev pub named : ℕ → List Frame → List (ℕ × Frame)
named n frames = map (λ frame. (n, frame)) frames

-- a client that gives nothing may be set anywhere
flat_inserted : {A : Type 0} (g : ℕ → List A) (new : Stream) (streams : List Stream) → g new.client ≡ [] →
    flat_map g (clients_of (inserted new streams)) ≡ flat_map g (clients_of streams)
flat_inserted g new [] e = ap (λ z. z ++ []) e
flat_inserted g new (s ∷ streams) e =
    chosen (λ ss. flat_map g (clients_of ss) ≡ flat_map g (clients_of (s ∷ streams))) (nat_lt new.client s.client)
    (new ∷ s ∷ streams) (s ∷ inserted new streams)
    (ap (λ z. z ++ flat_map g (clients_of (s ∷ streams))) e)
    (ap (λ z. g s.client ++ z) (flat_inserted g new streams e))

flat_opened : {A : Type 0} (g : ℕ → List A) (x : Move) (streams : List Stream) →
    ((n : ℕ) → IsWithout n (clients_of streams) → g n ≡ []) →
    flat_map g (clients_of (with_opened x streams)) ≡ flat_map g (clients_of streams)
flat_opened g (opened new) streams f =
    chosen_by (λ ss. flat_map g (clients_of ss) ≡ flat_map g (clients_of streams)) (has_stream new.client streams)
    streams
    (inserted (as_opened new) streams) (λ h. refl)
    (λ h. flat_inserted g (as_opened new) streams (f new.client (sym (same_any new.client streams) ∙ h)))
flat_opened g _ streams f = refl

-- over the clients of a later stage, of those that were there before
flat_later : {A : Type 0} (g : ℕ → List A) (st : Stage) (xs : List Move) →
    ((n : ℕ) → IsWithout n (clients st) → g n ≡ []) →
    flat_map g (clients (after_moves st xs)) ≡ flat_map g (clients st)
flat_later g st [] f = refl
flat_later g st (x ∷ xs) f =
    flat_later g (after_move st x) xs (λ n w. f n (without_earlier n st x w))
    ∙ flat_opened g x (map (stream_after x) st.streams)
    (λ n w. f n (subst (IsWithout n) (clients_moved x st.streams) w))
    ∙ ap (flat_map g) (clients_moved x st.streams)

-- over the clients of a later stage, of the streams of this one
pub over_clients : {A : Type 0} (h : ℕ → Option Stream → List A) (st : Stage) (xs : List Move) →
    ((n : ℕ) → h n None ≡ []) → AreDistinct (clients st) →
    flat_map (λ n. h n (stream_at n st)) (clients (after_moves st xs)) ≡ flat_map (λ s. h s.client (Some s)) st.streams
over_clients h st xs f d =
    flat_later (λ n. h n (stream_at n st)) st xs (λ n w. ap (h n) (found_none n st.streams w) ∙ f n)
    ∙ flat_map-map (λ s. s.client) (λ n. h n (stream_at n st)) st.streams
    ∙ flat_same (λ s. h s.client (stream_at s.client st)) (λ s. h s.client (Some s)) st.streams
    (all_weaker (λ s. stream_at s.client st ≡ Some s) (λ s. h s.client (stream_at s.client st) ≡ h s.client (Some s))
    (λ s e. ap (h s.client) e) st.streams (each_found st.streams d))

-- what a Sound sums
heard_more : (i : ℕ) (s : Stream) (rest : List Stream) (more : List (ℕ × Frame)) (b : Bool) →
    due_frames i rest ≡ more →
    due_frames i (cond b (s ∷ rest) rest) ≡ named s.client (if b && true then due_at i s else []) ++ more
heard_more i s rest more true e = ap (λ z. named s.client (due_at i s) ++ z) e
heard_more i s rest more false e = e

heard_list : (number i : ℕ) (streams : List Stream) →
    due_frames i (streams_on number streams)
    ≡ flat_map (λ s. named s.client (if (s.endpoint == number) && true then due_at i s else [])) streams
heard_list number i [] = refl
heard_list number i (s ∷ streams) =
    heard_more i s (streams_on number streams) _ (s.endpoint == number) (heard_list number i streams)

pub heard_is : (place : ℕ) (m : Mixing) (e : Playhead) (streams : List Stream) → covers place m e ≡ true →
    heard place m e streams
    ≡ flat_map (λ s. named s.client (flying_from m m.endpoint place (Some e) s)) streams
heard_is place m e streams c =
    heard_list m.endpoint (place - e.next) streams
    ∙ ap (λ b. flat_map
    (λ s. named s.client (if (s.endpoint == m.endpoint) && b then due_at (place - e.next) s else [])) streams) (sym c)
