-- What entries add to a channel at a place of a period, and what the mix sums there.
use Rattle.std.proofs.Common.{
  ◌≡◌,
  ℕ,
  zero,
  suc,
  ◌+◌,
  ◌*◌,
  ◌<◌,
  ◌≤◌,
  ℤ,
  pos,
  ◌+ℤ◌,
  List,
  [],
  ◌∷◌,
  length,
  map,
  Bool,
  true,
  false,
  Some,
  refl,
  sym,
  ap,
  subst,
  ◌∙◌,
  arith,
  inl,
  inr,
  ◌⊎◌,
}
use Rattle.std.specs.Prelude.{◌==◌, ◌&&◌, nat_lt, slice_get, slice_index_or, slice_index, if◌then◌else◌}
use Rattle.std.specs.List.{All}
use Rattle.std.proofs.lemmas.Bool.{and_parts, cases_lt}
use Rattle.std.proofs.lemmas.Bool.Decides.{nat_tests}
use Rattle.std.proofs.lemmas.Int.{ints}
use Rattle.std.proofs.lemmas.Option.{get_or_from_slice_get}
use Rattle.std.proofs.lemmas.List.FromFn.{get_or-map-range_with_len}
use Rattle.std.proofs.lemmas.List.Elements.{All-head, All-tail}
use Rattle.std.proofs.Math.Nat.{mul-le-mul_left}
use Rattle.wave_format.specs.Frame.{frame_of, sample_at}
use Rattle.volume_stack.specs.Scaling.{scaled, sum_of}
use Rattle.ca_stage.specs.Stage.{Frame, BufferData, is_open, is_render, no_data}
use Rattle.ca_stage.specs.Moves.{Mixing}
use Rattle.ca_stage.specs.Mix.{sample_of, contribution, due_frames, streams_on}
use Rattle.buffer_ring.specs.declared.step.EndState.{EndState}
use Rattle.buffer_ring.specs.declared.step.StoreStep.{StoreStep}
use Rattle.buffer_ring.specs.Steps.{reads_from}
use Rattle.period_engine.specs.declared.entry.StreamEntry.{StreamEntry}
use Rattle.period_engine.specs.Entries.{streams_of, stream_with, is_played}
use Rattle.period_engine.specs.Agreement.{Agrees, AllAgree, Layout, layout_of}
use Rattle.period_engine.specs.Added.{sum_at, Threads, AddsEntry}
use Rattle.period_engine.proofs.SoundSteps.{Follows}

-- what an entry adds to a channel at a place, by its frames
abbrev pub part : {E : Type 0} → (ℕ → BufferData) → ℕ → ℕ → StreamEntry E → ℤ
part datas place channel e =
    if nat_lt place e.picked
    then scaled (sample_of (slice_index_or (datas e.client.0).pending place []) channel) (slice_index e.gains channel)
    else pos 0

-- ---- what the mix sums

pub is_lt : (k n : ℕ) → k < n → nat_lt k n ≡ true
is_lt k n lt = grind (arith, nat_tests)

pub not_lt : (k n : ℕ) → n ≤ k → nat_lt k n ≡ false
not_lt k n le = grind (arith, nat_tests)

nothing_more : (z : ℤ) → z ≡ pos 0 +ℤ z
nothing_more z = omega (arith, ints)

nothing_behind : (z : ℤ) → z ≡ z +ℤ pos 0
nothing_behind z = omega (arith, ints)

add_assoc_ℤ : (a b c : ℤ) → a +ℤ b +ℤ c ≡ a +ℤ (b +ℤ c)
add_assoc_ℤ a b c = omega (arith, ints)

module _ {E : Type 0} (datas : ℕ → BufferData) (m : Mixing) (number place channel : ℕ) where
  due : List (StreamEntry E) → List (ℕ × Frame)
  due entries = due_frames place (streams_on number (streams_of datas entries))

  adds : StreamEntry E → ℤ
  adds e = part datas place channel e

  sums_alike : List (StreamEntry E) → Type 0
  sums_alike entries = sum_of (map (contribution m channel) (due entries)) ≡ sum_of (map adds entries)

  -- an entry of another endpoint, with no frame picked, is mixed as nothing
  elsewhere : (e : StreamEntry E) (entries : List (StreamEntry E)) → (e.endpoint.0 == number) ≡ false → e.picked ≡ 0
      → sums_alike entries → sums_alike (e ∷ entries)
  unfolding due adds sums_alike
  elsewhere e entries other none rest =
      let test : nat_lt place e.picked ≡ false = not_lt place e.picked (omega (arith, none)) in
      rw (other, test) (rest ∙ nothing_more (sum_of (map adds entries)))

  -- an entry of the endpoint with a frame due here
  with_frame : (e : StreamEntry E) (entries : List (StreamEntry E)) → (e.endpoint.0 == number) ≡ true
      → nat_lt place e.picked ≡ true → m.gain e.client.0 channel ≡ slice_index e.gains channel
      → sums_alike entries → sums_alike (e ∷ entries)
  unfolding due adds sums_alike
  with_frame e entries here test gain rest =
      let sample = sample_of (slice_index_or (datas e.client.0).pending place []) channel in
      rw (here, test) (ap (λ g. scaled sample g +ℤ sum_of (map (contribution m channel) (due entries))) gain
      ∙ ap (λ z. scaled sample (slice_index e.gains channel) +ℤ z) rest)

  -- an entry of the endpoint with none
  without_frame : (e : StreamEntry E) (entries : List (StreamEntry E)) → (e.endpoint.0 == number) ≡ true
      → nat_lt place e.picked ≡ false → sums_alike entries → sums_alike (e ∷ entries)
  unfolding due adds sums_alike
  without_frame e entries here test rest = rw (here, test) (rest ∙ nothing_more (sum_of (map adds entries)))

  by_tests : (e : StreamEntry E) (entries : List (StreamEntry E)) (here lt : Bool) → (e.endpoint.0 == number) ≡ here
      → nat_lt place e.picked ≡ lt → m.gain e.client.0 channel ≡ slice_index e.gains channel
      → (is_played number e ≡ false → e.picked ≡ 0) → sums_alike entries → sums_alike (e ∷ entries)
  by_tests e entries true true here-is lt-is gain plays rest = with_frame e entries here-is lt-is gain rest
  by_tests e entries true false here-is lt-is gain plays rest = without_frame e entries here-is lt-is rest
  by_tests e entries false lt here-is lt-is gain plays rest = elsewhere e entries here-is (plays (rw here-is refl)) rest

  -- the mix sums what the entries add
  pub due_sum : (entries : List (StreamEntry E))
      → All (λ e. m.gain e.client.0 channel ≡ slice_index e.gains channel) entries
      → All (λ e. is_played number e ≡ false → e.picked ≡ 0) entries
      → sum_of (map (contribution m channel) (due_frames place (streams_on number (streams_of datas entries))))
      ≡ sum_of (map (part datas place channel) entries)
  unfolding due adds sums_alike
  due_sum [] gains plays = refl
  due_sum (e ∷ entries) gains plays =
      by_tests e entries (e.endpoint.0 == number) (nat_lt place e.picked) refl refl
      (All-head (λ x. m.gain x.client.0 channel ≡ slice_index x.gains channel) e entries gains)
      (All-head (λ x. is_played number x ≡ false → x.picked ≡ 0) e entries plays)
      (due_sum entries (All-tail (λ x. m.gain x.client.0 channel ≡ slice_index x.gains channel) e entries gains)
      (All-tail (λ x. is_played number x ≡ false → x.picked ≡ 0) e entries plays))

-- ---- what the entries add

-- an entry with a frame picked is to be played
pub renders : {E : Type 0} (number : ℕ) (e : StreamEntry E) → (is_played number e ≡ false → e.picked ≡ 0)
    → 0 < e.picked → is_render e.kind ≡ true
renders number e plays some = go (is_played number e) refl
  where
    opens : Bool
    opens = is_open (stream_with no_data e)

    go : (b : Bool) → is_played number e ≡ b → is_render e.kind ≡ true
    go true is =
        let p = and_parts (e.endpoint.0 == number) (opens && (e.running && is_render e.kind)) is in
        (and_parts e.running (is_render e.kind) (and_parts opens (e.running && is_render e.kind) p.1).1).1
    go false is = let none = plays is in absurd (omega arith)

agrees_at : (l : Layout) → l.plays ≡ true → (start : ℕ) (words : List ℕ) (d : BufferData)
    → Agrees l (reads_from start words) d → (k : ℕ) → k < length words
    → slice_get d.pending (start + k) ≡ Some (frame_of l.channels (slice_index words k))
agrees_at l plays start [] d agrees k lt = absurd (omega arith)
agrees_at l plays start (word ∷ words) d agrees zero lt =
    let here : start + 0 ≡ start = omega arith in
    ap (slice_get d.pending) here ∙ agrees.0 plays
agrees_at l plays start (word ∷ words) d agrees (suc k) lt =
    let next : start + suc k ≡ suc start + k = omega arith in
    ap (slice_get d.pending) next ∙ agrees_at l plays (suc start) words d agrees.1 k (omega arith)

-- the sample of a word's frame
sample_of-frame_of : (channels word channel : ℕ) → channel < channels
    → sample_of (frame_of channels word) channel ≡ sample_at word channel
sample_of-frame_of channels word channel lt =
    get_or-map-range_with_len (sample_at word) 0 channels channel channel (pos 0) lt (omega arith)

module _ {E : Type 0} (moves : E → List StoreStep → E → Type 0) (state : E → EndState) (channels : ℕ)
    (datas : ℕ → BufferData) (place channel : ℕ) (within : channel < channels) where
  -- an entry with a frame at this place
  adds_frame : (a b : StreamEntry E) (old new : List ℤ) (h : AddsEntry moves state channels a b old new)
      → Agrees (layout_of a) (reads_from 0 h.words) (datas a.client.0) → a.channels ≡ channels
      → is_render a.kind ≡ true → place < a.picked
      → sum_at new (channels * place + channel) ≡ sum_at old (channels * place + channel) +ℤ part datas place channel a
  adds_frame a b old new h agrees fits renders lt =
      let word = slice_index h.words place in
      let there : place < length h.words = omega (arith, h.count_is) in
      let start : 0 + place ≡ place = omega arith in
      let frame : slice_index_or (datas a.client.0).pending place [] ≡ frame_of channels word =
      get_or_from_slice_get (datas a.client.0).pending place (frame_of channels word) []
      (ap (slice_get (datas a.client.0).pending) (sym start)
      ∙ agrees_at (layout_of a) renders 0 h.words (datas a.client.0) agrees place there
      ∙ ap (λ n. Some (frame_of n word)) fits) in
      let sample : sample_at word channel ≡ sample_of (slice_index_or (datas a.client.0).pending place []) channel =
      sym (ap (λ f. sample_of f channel) frame ∙ sample_of-frame_of channels word channel within) in
      let test = is_lt place a.picked lt in
      rw test (h.adds.here place channel there within
      ∙ ap (λ z. sum_at old (channels * place + channel) +ℤ scaled z (slice_index a.gains channel)) sample)

  -- one without
  adds_nothing : (a b : StreamEntry E) (old new : List ℤ) (h : AddsEntry moves state channels a b old new)
      → a.picked ≤ place
      → sum_at new (channels * place + channel) ≡ sum_at old (channels * place + channel) +ℤ part datas place channel a
  adds_nothing a b old new h le =
      let behind : channels * length h.words ≤ channels * place =
      mul-le-mul_left channels (omega (arith, h.count_is)) in
      let test = not_lt place a.picked le in
      rw test (h.adds.after (channels * place + channel) (omega (arith, behind))
      ∙ nothing_behind (sum_at old (channels * place + channel)))

  adds_part : (a b : StreamEntry E) (old new : List ℤ) (h : AddsEntry moves state channels a b old new)
      → Agrees (layout_of a) (reads_from 0 h.words) (datas a.client.0) → (0 < a.picked → a.channels ≡ channels)
      → (0 < a.picked → is_render a.kind ≡ true) → (place < a.picked) ⊎ (a.picked ≤ place)
      → sum_at new (channels * place + channel) ≡ sum_at old (channels * place + channel) +ℤ part datas place channel a
  adds_part a b old new h agrees fits renders (inl lt) =
      adds_frame a b old new h agrees (fits (omega arith)) (renders (omega arith)) lt
  adds_part a b old new h agrees fits renders (inr le) = adds_nothing a b old new h le

  -- the sum of a channel is what all entries add
  pub sum_along : (steps : ℕ → List StoreStep) (xs ys : List (StreamEntry E)) (old new : List ℤ)
      (h : Threads (AddsEntry moves state channels) xs ys old new) → Follows moves state channels steps xs ys old new h
      → AllAgree steps datas xs → All (λ e. 0 < e.picked → e.channels ≡ channels) xs
      → All (λ e. 0 < e.picked → is_render e.kind ≡ true) xs
      → sum_at new (channels * place + channel)
      ≡ sum_at old (channels * place + channel) +ℤ sum_of (map (part datas place channel) xs)
  sum_along steps [] [] old new h follows agree fits renders =
      ap (λ sums. sum_at sums (channels * place + channel)) h ∙ nothing_behind (sum_at old (channels * place + channel))
  sum_along steps (x ∷ xs) (y ∷ ys) old new h follows agree fits renders =
      let k = channels * place + channel in
      let Fits : StreamEntry E → Type 0 = λ e. 0 < e.picked → e.channels ≡ channels in
      let Renders : StreamEntry E → Type 0 = λ e. 0 < e.picked → is_render e.kind ≡ true in
      let agrees : Agrees (layout_of x) (reads_from 0 h.1.words) (datas x.client.0) =
      subst (λ ss. Agrees (layout_of x) ss (datas x.client.0)) follows.0 agree.0 in
      let here = adds_part x y old h.0 h.1 agrees (All-head Fits x xs fits) (All-head Renders x xs renders)
      (cases_lt place x.picked) in
      let rest = sum_along steps xs ys h.0 new h.2 follows.1 agree.1 (All-tail Fits x xs fits)
      (All-tail Renders x xs renders) in
      rest ∙ ap (λ z. z +ℤ sum_of (map (part datas place channel) xs)) here
      ∙ add_assoc_ℤ (sum_at old k) (part datas place channel x) (sum_of (map (part datas place channel) xs))
  sum_along steps [] (y ∷ ys) old new h follows agree fits renders = absurd h
  sum_along steps (x ∷ xs) [] old new h follows agree fits renders = absurd h
