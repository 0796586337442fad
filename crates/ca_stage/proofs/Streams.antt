-- A client's stream through a move: it is moved, or it is opened.
use Rattle.std.proofs.Common.{◌≡◌, ℕ, ◌==◌, nat_lt, List, [], ◌∷◌, map, Bool, true, false, cond, Option, Some, None}
use Rattle.std.proofs.Common.{refl, sym, ap, ◌∙◌, find, option_map, if◌then◌else◌, eqb-true}
use Rattle.std.proofs.lemmas.Bool.{and_parts, and_right}
use Rattle.std.proofs.lemmas.Option.{none-some}
use Rattle.std.specs.List.{AllByRecursion}
use Rattle.ca_stage.specs.Stage.{Stream, Stage, is_open}
use Rattle.ca_stage.specs.Moves.{StreamMove, started, Move, opened, of_client, moved, is_open_of, stream_after}
use Rattle.ca_stage.specs.Moves.{has_stream, as_opened, inserted, with_opened, after_move, stream_at}
use Rattle.ca_stage.proofs.Lists.{chosen, chosen_by, all-map, find_map, finds_none, found_passes}

-- what a move of a stream leaves as it is
pub moved_client : (m : StreamMove) (s : Stream) → (moved m s).client ≡ s.client
moved_client started s = refl
moved_client _ s = refl

pub moved_endpoint : (m : StreamMove) (s : Stream) → (moved m s).endpoint ≡ s.endpoint
moved_endpoint started s = refl
moved_endpoint _ s = refl

pub moved_kind : (m : StreamMove) (s : Stream) → (moved m s).kind ≡ s.kind
moved_kind started s = refl
moved_kind _ s = refl

pub moved_channels : (m : StreamMove) (s : Stream) → (moved m s).channels ≡ s.channels
moved_channels started s = refl
moved_channels _ s = refl

-- what each move of a stream leaves, each move leaves
pub after_keeps : {A : Type 0} (v : Stream → A) → ((m : StreamMove) (s : Stream) → v (moved m s) ≡ v s) →
    (x : Move) (s : Stream) → v (stream_after x s) ≡ v s
after_keeps v h (of_client client m) s = chosen (λ t. v t ≡ v s) (is_open_of client s) (moved m s) s (h m s) refl
after_keeps v h _ s = refl

pub after_client : (x : Move) (s : Stream) → (stream_after x s).client ≡ s.client
after_client x s = after_keeps (λ t. t.client) moved_client x s

pub after_endpoint : (x : Move) (s : Stream) → (stream_after x s).endpoint ≡ s.endpoint
after_endpoint x s = after_keeps (λ t. t.endpoint) moved_endpoint x s

pub after_kind : (x : Move) (s : Stream) → (stream_after x s).kind ≡ s.kind
after_kind x s = after_keeps (λ t. t.kind) moved_kind x s

-- what a move of an open stream carries on, each move does
pub after_carries : (P : Stream → Type 0) →
    ((m : StreamMove) (s : Stream) → is_open s ≡ true → P s → P (moved m s)) →
    (x : Move) (s : Stream) → P s → P (stream_after x s)
after_carries P h (of_client client m) s p =
    chosen_by P (is_open_of client s) (moved m s) s (λ e. h m s (and_parts (s.client == client) (is_open s) e).1 p)
    (λ e. p)
after_carries P h _ s p = p

-- a closed stream stays as it is
pub not_open_of : (client : ℕ) (s : Stream) → is_open s ≡ false → is_open_of client s ≡ false
not_open_of client s c = and_right (s.client == client) (is_open s) c

pub stays : (x : Move) (s : Stream) → is_open s ≡ false → stream_after x s ≡ s
stays (of_client client m) s c = ap (λ b. if b then moved m s else s) (not_open_of client s c)
stays _ s c = refl

-- a stream that is set among others
abbrev pub is_of : ℕ → Stream → Bool
is_of n s = s.client == n

pub find_other : (test : Stream → Bool) (new : Stream) (streams : List Stream) → test new ≡ false →
    find test (inserted new streams) ≡ find test streams
find_other test new [] e = ap (λ b. cond b (Some new) None) e
find_other test new (s ∷ streams) e =
    chosen (λ ss. find test ss ≡ find test (s ∷ streams)) (nat_lt new.client s.client)
    (new ∷ s ∷ streams) (s ∷ inserted new streams)
    (ap (λ b. cond b (Some new) (find test (s ∷ streams))) e)
    (ap (cond (test s) (Some s)) (find_other test new streams e))

find_head : (b : Bool) (s : Stream) (o : Option Stream) → cond b (Some s) o ≡ None → (b ≡ false) × (o ≡ None)
find_head true s o h = absurd (none-some s (sym h))
find_head false s o h = (refl, h)

pub find_new : (test : Stream → Bool) (new : Stream) (streams : List Stream) → test new ≡ true →
    find test streams ≡ None →
    find test (inserted new streams) ≡ Some new
find_new test new [] e h = ap (λ b. cond b (Some new) None) e
find_new test new (s ∷ streams) e h =
    let p = find_head (test s) s (find test streams) h in
    chosen (λ ss. find test ss ≡ Some new) (nat_lt new.client s.client) (new ∷ s ∷ streams) (s ∷ inserted new streams)
    (ap (λ b. cond b (Some new) (find test (s ∷ streams))) e)
    (ap (λ b. cond b (Some s) (find test (inserted new streams))) p.0 ∙ find_new test new streams e p.1)

pub all-inserted : (P : Stream → Type 0) (new : Stream) (streams : List Stream) → P new →
    AllByRecursion P streams → AllByRecursion P (inserted new streams)
all-inserted P new [] p h = (p, tt)
all-inserted P new (s ∷ streams) p h =
    chosen (AllByRecursion P) (nat_lt new.client s.client) (new ∷ s ∷ streams) (s ∷ inserted new streams)
    (p, h) (h.0, all-inserted P new streams p h.1)

-- a stream that is there stays there when one is opened
opened_other : (n : ℕ) (new s : Stream) (streams : List Stream) → has_stream new.client streams ≡ false →
    find (is_of n) streams ≡ Some s → (b : Bool) → is_of n new ≡ b →
    find (is_of n) (inserted (as_opened new) streams) ≡ Some s
opened_other n new s streams h e false t = find_other (is_of n) (as_opened new) streams t ∙ e
opened_other n new s streams h e true t =
    let c : new.client ≡ n = eqb-true new.client n t in
    absurd (none-some s (sym (finds_none (is_of n) streams (ap (λ k. has_stream k streams) (sym c) ∙ h)) ∙ e))

there_with_opened : (n : ℕ) (x : Move) (s : Stream) (streams : List Stream) → find (is_of n) streams ≡ Some s →
    find (is_of n) (with_opened x streams) ≡ Some s
there_with_opened n (opened new) s streams e =
    chosen_by (λ ss. find (is_of n) ss ≡ Some s) (has_stream new.client streams) streams
    (inserted (as_opened new) streams)
    (λ h. e) (λ h. opened_other n new s streams h e (is_of n new) refl)
there_with_opened n _ s streams e = e

-- if the stream of a client is there, it is moved
pub moved_there : (n : ℕ) (st : Stage) (x : Move) (s : Stream) →
    stream_at n st ≡ Some s → stream_at n (after_move st x) ≡ Some (stream_after x s)
moved_there n st x s e =
    there_with_opened n x (stream_after x s) (map (stream_after x) st.streams)
    (find_map (is_of n) (stream_after x) (λ s. ap (λ c. c == n) (after_client x s)) st.streams
    ∙ ap (option_map (stream_after x)) e)

-- if there is none, none comes, or a new one
pub data Comes (o : Option Stream) : Type 0 where
  absent : o ≡ None → Comes o
  present : (new : Stream) → o ≡ Some (as_opened new) → Comes o

comes_inserted : (n : ℕ) (new : Stream) (streams : List Stream) → find (is_of n) streams ≡ None →
    (b : Bool) → is_of n new ≡ b → Comes (find (is_of n) (inserted (as_opened new) streams))
comes_inserted n new streams e true t = present new (find_new (is_of n) (as_opened new) streams t e)
comes_inserted n new streams e false t = absent (find_other (is_of n) (as_opened new) streams t ∙ e)

comes_with_opened : (n : ℕ) (x : Move) (streams : List Stream) → find (is_of n) streams ≡ None →
    Comes (find (is_of n) (with_opened x streams))
comes_with_opened n (opened new) streams e =
    chosen (λ ss. Comes (find (is_of n) ss)) (has_stream new.client streams) streams (inserted (as_opened new) streams)
    (absent e) (comes_inserted n new streams e (is_of n new) refl)
comes_with_opened n _ streams e = absent e

pub came : (n : ℕ) (st : Stage) (x : Move) → stream_at n st ≡ None → Comes (stream_at n (after_move st x))
came n st x e =
    comes_with_opened n x (map (stream_after x) st.streams)
    (find_map (is_of n) (stream_after x) (λ s. ap (λ c. c == n) (after_client x s)) st.streams
    ∙ ap (option_map (stream_after x)) e)

-- what is found of a client is its stream
pub found_client : (n : ℕ) (st : Stage) (s : Stream) → stream_at n st ≡ Some s → s.client ≡ n
found_client n st s e = eqb-true s.client n (found_passes (is_of n) st.streams s e)

-- what moves carry on at each stream, and new streams have, each stream has
pub all_with_opened : (P : Stream → Type 0) (x : Move) (streams : List Stream) → ((new : Stream) → P (as_opened new)) →
    AllByRecursion P streams → AllByRecursion P (with_opened x streams)
all_with_opened P (opened new) streams f h =
    chosen (AllByRecursion P) (has_stream new.client streams) streams (inserted (as_opened new) streams)
    h (all-inserted P (as_opened new) streams (f new) h)
all_with_opened P _ streams f h = h

pub all_step : (P Q : Stream → Type 0) (st : Stage) (x : Move) → ((s : Stream) → P s → Q (stream_after x s)) →
    ((new : Stream) → Q (as_opened new)) → AllByRecursion P st.streams → AllByRecursion Q (after_move st x).streams
all_step P Q st x g f h =
    all_with_opened Q x (map (stream_after x) st.streams) f (all-map P Q (stream_after x) g st.streams h)
