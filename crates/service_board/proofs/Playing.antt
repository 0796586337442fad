-- A period over entries: what its parts need, and what they come to.
use Rattle.std.proofs.Common.{◌≡◌, ℕ, ◌+◌, ◌<◌, ◌≤◌, ◌==◌, ◌&&◌, List, [], ◌∷◌, ◌++◌, length, map, Bool, true}
use Rattle.std.proofs.Common.{false, Option, Some, refl, sym, ap, ◌∙◌, subst, arith, if◌then◌else◌}
use Rattle.std.specs.Prelude.{slice_index}
use Rattle.std.specs.List.{All, AllByRecursion, AllZip}
use Rattle.std.proofs.lemmas.Bool.{and_parts}
use Rattle.std.proofs.lemmas.List.Elements.{All-nil, All-cons, All-head, All-tail}
use Rattle.device_io.specs.DeviceLog.{DeviceLog}
use Rattle.wave_format.specs.Frame.{frames_from}
use Rattle.wave_format.proofs.BlockLaws.{length-frames_from}
use Rattle.volume_stack.specs.Scaling.{unit_gain}
use Rattle.buffer_ring.specs.declared.step.EndState.{EndState}
use Rattle.buffer_ring.specs.declared.step.StoreStep.{StoreStep}
use Rattle.ca_base.specs.declared.ids.Gate.TheVariants as gate
use Rattle.ca_base.specs.declared.ids.Reason.TheVariants.{Removal}
use Rattle.ca_stage.specs.Stage.{Frame, Stream, BufferData, is_render, no_data}
use Rattle.ca_stage.specs.Moves.{Mixing, closed, fed, moved}
use Rattle.ca_stage.specs.Periods.{fed_if, is_hearing, is_open_on, is_playing}
use Rattle.ca_stage.specs.Mix.{sound_bytes}
use Rattle.ca_stage.specs.Order.{RisesFrom}
use Rattle.ca_stage.proofs.Lists.{chosen, chosen_by}
use Rattle.period_engine.specs.declared.entry.StreamEntry.{StreamEntry}
use Rattle.period_engine.specs.Agreement.{AllAgree}
use Rattle.period_engine.specs.Entries.{AreEntries, IsPicked, is_played, stream_with, streams_of}
use Rattle.period_engine.specs.Sounds.{AllTakeSteps, IsMixable, MixesThese, Sounds}
use Rattle.period_engine.specs.SubSteps.{IsSameEntry, Turned, picks_on, retires_on}
use Rattle.stream_entries.specs.Closing.{closes_within}
use Rattle.service_board.specs.Does.{after_steps}
use Rattle.service_board.specs.Plays.{AllGo, IsPlayable, Plays, StaysNear, ends_on, plays_on}
use Rattle.service_board.proofs.ByClient.{AreAfter, agree_alike, agree_first, agree_then, all_after, all_read}
use Rattle.service_board.proofs.ByClient.{all_turned}
use Rattle.service_board.proofs.ByClient.{are_after, clients_of, clients_stay, go_alike, steps_of, streams_went, within}
use Rattle.service_board.proofs.ByClient.{within_each, within_none}
use Rattle.service_board.proofs.WornEntries.{is_here}

-- an entry that is played is open on the endpoint
pub plays_here : {E : Type 0} (number : ℕ) (e : StreamEntry E) → is_played number e ≡ true →
    (e.endpoint.0 ≡ number) × (e.gate ≡ gate.Open)
plays_here number e h = let at = is_here number is_render e h in (at.here, at.unclosed)

-- ---- what the Sound needs

module _ {E : Type 0} (moves : E → List StoreStep → E → Type 0) (state : E → EndState) (number frames : ℕ) where
  pub length_turned : (f : Stream → Stream) (xs ys : List (StreamEntry E)) → AllZip (Turned moves f) xs ys →
      length ys ≡ length xs
  length_turned f [] [] h = refl
  length_turned f (x ∷ xs) (y ∷ ys) h = let rest = length_turned f xs ys h.1 in omega arith
  length_turned f [] (y ∷ ys) h = absurd h
  length_turned f (x ∷ xs) [] h = absurd h

  pub clients_turned : (f : Stream → Stream) (xs ys : List (StreamEntry E)) → AllZip (Turned moves f) xs ys →
      clients_of ys ≡ clients_of xs
  clients_turned f [] [] h = refl
  clients_turned f (x ∷ xs) (y ∷ ys) h =
      let head = h.0.same.client in
      let rest = clients_turned f xs ys h.1 in
      cc
  clients_turned f [] (y ∷ ys) h = absurd h
  clients_turned f (x ∷ xs) [] h = absurd h

  pub still_entries : (f : Stream → Stream) (xs ys : List (StreamEntry E)) → AllZip (Turned moves f) xs ys →
      AreEntries xs → AreEntries ys
  still_entries f xs ys h entries = record {
    order = subst (RisesFrom 0) (sym (clients_turned f xs ys h)) entries.order;
    count = omega (arith, length_turned f xs ys h, entries.count);
  }

  played_or_not : (e : StreamEntry E) → IsPicked state number frames e → (b : Bool) → is_played number e ≡ b →
      0 < e.picked → (e.endpoint.0 ≡ number) × (e.gate ≡ gate.Open)
  played_or_not e picked true h some = plays_here number e h
  played_or_not e picked false h some = absurd (omega (arith, picked.plays h, some))

  one_mixable : (channels : ℕ) (a b : StreamEntry E) → IsSameEntry a b → b.gate ≡ a.gate →
      IsPlayable state number frames channels a → IsPicked state number frames b → IsMixable channels b
  one_mixable channels a b same gated playable picked = record {
    fits = λ some.
        let plays = played_or_not b picked (is_played number b) refl some in
        same.channels ∙ playable.fits (ap (λ e. e.0) (sym same.endpoint) ∙ plays.0) (sym gated ∙ plays.1);
    gains = subst (All (λ gain. gain ≤ unit_gain)) (sym same.gains) playable.gains;
  }

  pub all_mixable : (f : Stream → Stream) (keeps : (a : StreamEntry E) → (f (stream_with no_data a)).gate ≡ a.gate)
      (channels : ℕ) (xs ys : List (StreamEntry E)) → AllZip (Turned moves f) xs ys →
      All (IsPlayable state number frames channels) xs →
      All (IsPicked state number frames) ys → All (IsMixable channels) ys
  all_mixable f keeps channels [] [] h playable picked = All-nil (IsMixable channels)
  all_mixable f keeps channels (x ∷ xs) (y ∷ ys) h playable picked =
      All-cons (IsMixable channels) y ys
      (one_mixable channels x y h.0.same (h.0.gate ∙ keeps x)
      (All-head (IsPlayable state number frames channels) x xs playable)
      (All-head (IsPicked state number frames) y ys picked))
      (all_mixable f keeps channels xs ys h.1 (All-tail (IsPlayable state number frames channels) x xs playable)
      (All-tail (IsPicked state number frames) y ys picked))
  all_mixable f keeps channels [] (y ∷ ys) h playable picked = absurd h
  all_mixable f keeps channels (x ∷ xs) [] h playable picked = absurd h

  -- picks leave the gates
  pub picks_gate : (a : StreamEntry E) → (picks_on number frames (stream_with no_data a)).gate ≡ a.gate
  picks_gate a =
      chosen (λ (s : Stream). s.gate ≡ a.gate) (is_playing number (stream_with no_data a)) _ _ refl refl

  -- ---- positions, and what was offered

  picks_leave : (a : StreamEntry E) →
      ((picks_on number frames (stream_with no_data a)).position ≡ a.position)
      × ((picks_on number frames (stream_with no_data a)).ever ≡ a.ever)
  picks_leave a =
      chosen (λ (s : Stream). (s.position ≡ a.position) × (s.ever ≡ a.ever))
      (is_playing number (stream_with no_data a)) _ _ (refl, refl) (refl, refl)

  -- what a period adds to a count of a stream
  abbrev Adds : Bool → ℕ → ℕ
  Adds whole endpoint = if whole && endpoint == number then frames else 0

  -- what was rendered of an entry is within the period, and of the endpoint's entries alone
  retired_position : (b : StreamEntry E) → IsPicked state number frames b →
      (retires_on number (stream_with no_data b)).position ≤ b.position + Adds true b.endpoint.0
  retired_position b picked =
      chosen_by (λ (s : Stream). s.position ≤ b.position + Adds true b.endpoint.0)
      (is_playing number (stream_with no_data b)) _ _
      (λ plays.
      let here = (and_parts (b.endpoint.0 == number) _ plays).0 in
      let within = picked.within in
      subst (λ t. b.position + b.picked ≤ b.position + (if t then frames else 0)) (sym here) (omega arith))
      (λ plays. omega arith)

  retires_leave : (b : StreamEntry E) →
      ((retires_on number (stream_with no_data b)).endpoint ≡ b.endpoint.0)
      × ((retires_on number (stream_with no_data b)).ever ≡ b.ever)
      × ((retires_on number (stream_with no_data b)).gate ≡ b.gate)
  retires_leave b =
      chosen (λ (s : Stream). (s.endpoint ≡ b.endpoint.0) × (s.ever ≡ b.ever) × (s.gate ≡ b.gate))
      (is_playing number (stream_with no_data b)) _ _ (refl, refl, refl) (refl, refl, refl)

  module _ (heard : List Frame) (size : length heard ≡ frames) where
    -- a stream that hears is offered as much, and so is none of another endpoint
    heard_ever : (s : Stream) → (fed_if (is_hearing number) heard s).ever ≤ s.ever + Adds true s.endpoint
    heard_ever s =
        chosen_by (λ (t : Stream). t.ever ≤ s.ever + Adds true s.endpoint) (is_hearing number s)
        (moved (fed heard) s) s
        (λ hears.
        let here = (and_parts (s.endpoint == number) _ hears).0 in
        subst (λ t. s.ever + length heard ≤ s.ever + (if t then frames else 0)) (sym here) (omega (arith, size)))
        (λ hears. omega arith)

    heard_leaves : (s : Stream) →
        ((fed_if (is_hearing number) heard s).position ≡ s.position)
        × ((fed_if (is_hearing number) heard s).gate ≡ s.gate)
    heard_leaves s =
        chosen (λ (t : Stream). (t.position ≡ s.position) × (t.gate ≡ s.gate)) (is_hearing number s)
        (moved (fed heard) s) s (refl, refl) (refl, refl)

    closes_leave : (b : StreamEntry E) →
        ((closes_within Removal (Some number) (stream_with no_data b)).position ≡ b.position)
        × ((closes_within Removal (Some number) (stream_with no_data b)).ever ≡ b.ever)
    closes_leave b =
        chosen (λ (s : Stream). (s.position ≡ b.position) × (s.ever ≡ b.ever))
        (is_open_on number (stream_with no_data b)) (moved (closed Removal) (stream_with no_data b))
        (stream_with no_data b) (refl, refl) (refl, refl)

    ended_position : (whole : Bool) (b : StreamEntry E) → IsPicked state number frames b →
        (ends_on number heard whole (stream_with no_data b)).position ≤ b.position + Adds whole b.endpoint.0
    ended_position true b picked =
        subst (λ p. p ≤ b.position + Adds true b.endpoint.0)
        (sym (heard_leaves (retires_on number (stream_with no_data b))).0) (retired_position b picked)
    ended_position false b picked = let same = (closes_leave b).0 in omega arith

    ended_ever : (whole : Bool) (b : StreamEntry E) →
        (ends_on number heard whole (stream_with no_data b)).ever ≤ b.ever + Adds whole b.endpoint.0
    ended_ever true b =
        let leave = retires_leave b in
        subst (λ k. (ends_on number heard true (stream_with no_data b)).ever ≤ k + Adds true b.endpoint.0) leave.1
        (subst (λ k. (ends_on number heard true (stream_with no_data b)).ever
        ≤ (retires_on number (stream_with no_data b)).ever + Adds true k) leave.0
        (heard_ever (retires_on number (stream_with no_data b))))
    ended_ever false b = let same = (closes_leave b).1 in omega arith

    -- and no gate opens
    closed_opens : gate.Closed Removal ≡ gate.Open → ⊥
    closed_opens h = cc

    ended_opens : (whole : Bool) (b : StreamEntry E) →
        (ends_on number heard whole (stream_with no_data b)).gate ≡ gate.Open → b.gate ≡ gate.Open
    ended_opens true b unclosed =
        sym ((heard_leaves (retires_on number (stream_with no_data b))).1 ∙ (retires_leave b).2) ∙ unclosed
    ended_opens false b unclosed =
        chosen (λ (s : Stream). s.gate ≡ gate.Open → b.gate ≡ gate.Open) (is_open_on number (stream_with no_data b))
        (moved (closed Removal) (stream_with no_data b)) (stream_with no_data b) (λ k. absurd (closed_opens k))
        (λ k. k) unclosed

    -- a count that was kept as far as the Sound, and rose by that at its end
    near : (whole : Bool) (x y z w end k n : ℕ) → y ≡ x → z ≡ y → w ≡ end → end ≤ z + Adds whole k → k ≡ n →
        w ≤ x + Adds whole n
    near whole x y z w end k n p q r h at =
        subst (λ m. w ≤ x + Adds whole m) at
        (let sum : w ≤ x + Adds whole k = omega arith in sum)

    pub all_near : (whole : Bool) (ss : ℕ → List StoreStep) (xs ys zs ws : List (StreamEntry E)) →
        AllZip (Turned moves (picks_on number frames)) xs ys → AllTakeSteps moves ss ys zs →
        All (IsPicked state number frames) zs → AllZip (Turned moves (ends_on number heard whole)) zs ws →
        AllZip (StaysNear number frames whole) xs ws
    all_near whole ss [] [] [] [] h k picked l = tt
    all_near whole ss (x ∷ xs) (y ∷ ys) (z ∷ zs) (w ∷ ws) h k picked l =
        let leave = picks_leave x in
        let endpoint : z.endpoint.0 ≡ x.endpoint.0 = ap (λ e. e.0) (k.0.same.endpoint ∙ h.0.same.endpoint) in (
          record {
            position =
                near whole x.position y.position z.position w.position _ z.endpoint.0 x.endpoint.0
                (h.0.position ∙ leave.0) k.0.position l.0.position
                (ended_position whole z (All-head (IsPicked state number frames) z zs picked)) endpoint;
            ever =
                near whole x.ever y.ever z.ever w.ever _ z.endpoint.0 x.endpoint.0 (h.0.ever ∙ leave.1) k.0.ever
                l.0.ever (ended_ever whole z) endpoint;
            opens = λ unclosed.
                sym (k.0.gate ∙ h.0.gate ∙ picks_gate x) ∙ ended_opens whole z (sym l.0.gate ∙ unclosed);
          },
          all_near whole ss xs ys zs ws h.1 k.1 (All-tail (IsPicked state number frames) z zs picked) l.1,
        )
    all_near whole ss [] [] [] (w ∷ ws) h k picked l = absurd l
    all_near whole ss [] [] (z ∷ zs) ws h k picked l = absurd k
    all_near whole ss [] (y ∷ ys) zs ws h k picked l = absurd h
    all_near whole ss (x ∷ xs) [] zs ws h k picked l = absurd h
    all_near whole ss (x ∷ xs) (y ∷ ys) [] ws h k picked l = absurd k
    all_near whole ss (x ∷ xs) (y ∷ ys) (z ∷ zs) [] h k picked l = absurd l

  -- ---- the mix

  mixes_one : (m : Mixing) (ends : List ℕ) (a b : StreamEntry E) → IsSameEntry a b →
      ((channel : ℕ) → channel < length ends → m.gain a.client.0 channel ≡ slice_index a.gains channel) →
      (channel : ℕ) → channel < length ends → m.gain b.client.0 channel ≡ slice_index b.gains channel
  mixes_one m ends a b same gains channel lt =
      ap (λ c. m.gain c.0 channel) same.client ∙ gains channel lt ∙ ap (λ g. slice_index g channel) (sym same.gains)

  -- a mixing of the gains of entries is one of the gains of those that they became
  abbrev Gains : Mixing → List ℕ → StreamEntry E → Type 0
  Gains m ends e = (channel : ℕ) → channel < length ends → m.gain e.client.0 channel ≡ slice_index e.gains channel

  gains_stay : (f : Stream → Stream) (m : Mixing) (ends : List ℕ) (xs ys : List (StreamEntry E)) →
      AllZip (Turned moves f) xs ys → All (Gains m ends) xs → All (Gains m ends) ys
  gains_stay f m ends [] [] h gains = All-nil (Gains m ends)
  gains_stay f m ends (x ∷ xs) (y ∷ ys) h gains =
      All-cons (Gains m ends) y ys (mixes_one m ends x y h.0.same (All-head (Gains m ends) x xs gains))
      (gains_stay f m ends xs ys h.1 (All-tail (Gains m ends) x xs gains))
  gains_stay f m ends [] (y ∷ ys) h gains = absurd h
  gains_stay f m ends (x ∷ xs) [] h gains = absurd h

  still_mixes : (f : Stream → Stream) (m : Mixing) (ends : List ℕ) (xs ys : List (StreamEntry E)) →
      AllZip (Turned moves f) xs ys → MixesThese m number frames ends xs → MixesThese m number frames ends ys
  still_mixes f m ends xs ys h mixes = record {
    endpoint = mixes.endpoint;
    lasts = mixes.lasts;
    channels = mixes.channels;
    gains = gains_stay f m ends xs ys h mixes.gains;
    end_gains = mixes.end_gains;
  }

  -- ---- the whole period

  module _ (joins : (a b c : E) (s t : List StoreStep) → moves a s b → moves b t c → moves a (s ++ t) c) (whole : Bool)
      (ends bytes : List ℕ) (xs ys zs ws : List (StreamEntry E)) (faults faults' : ℕ)
      (told told' : Option (List DeviceLog)) (entries : AreEntries xs)
      (picks : AllZip (Turned moves (picks_on number frames)) xs ys)
      (sounds : Sounds moves number frames ends bytes whole ys zs faults told faults' told')
      (picked : All (IsPicked state number frames) zs)
      (endings : AllZip (Turned moves (ends_on number (frames_from frames (length ends) bytes) whole)) zs ws)
    where
      -- the frames that were written
      abbrev heard : List Frame
      heard = frames_from frames (length ends) bytes

      abbrev first_steps : ℕ → List StoreStep
      first_steps = steps_of moves (picks_on number frames) xs ys picks

      abbrev last_steps : ℕ → List StoreStep
      last_steps = steps_of moves (ends_on number heard whole) zs ws endings

      abbrev later_steps : ℕ → List StoreStep
      later_steps n = sounds.steps n ++ last_steps n

      abbrev all_steps : ℕ → List StoreStep
      all_steps n = first_steps n ++ later_steps n

      first_go : AllGo moves (picks_on number frames) first_steps xs ys
      first_go = all_turned moves (picks_on number frames) 0 xs ys picks entries.order

      sound_go : AllGo moves (λ s. s) sounds.steps ys zs
      sound_go = all_read moves sounds.steps ys zs sounds.reads sounds.made

      rises_there : RisesFrom 0 (clients_of zs)
      rises_there =
          subst (RisesFrom 0)
          (sym (clients_stay moves (λ s. s) sounds.steps ys zs sound_go ∙ clients_turned (picks_on number frames) xs
          ys picks))
          entries.order

      last_go : AllGo moves (ends_on number heard whole) last_steps zs ws
      last_go = all_turned moves (ends_on number heard whole) 0 zs ws endings rises_there

      all_go : AllGo moves (plays_on number frames heard whole) all_steps xs ws
      all_go =
          all_after moves joins (picks_on number frames) (ends_on number heard whole) first_steps later_steps xs ys ws
          first_go
          (all_after moves joins (λ s. s) (ends_on number heard whole) sounds.steps last_steps ys zs ws sound_go
          last_go)

      abbrev its_steps : ℕ → List StoreStep
      its_steps = within xs all_steps

      mixed_there : (datas : ℕ → BufferData) (m : Mixing) → AllAgree its_steps datas xs →
          MixesThese m number frames ends xs →
          bytes ≡ sound_bytes m (map (picks_on number frames) (streams_of datas xs))
      mixed_there datas m agree mixes =
          let datas' : ℕ → BufferData = after_steps first_steps xs datas in
          let agrees : AllAgree all_steps datas xs =
          agree_alike all_steps its_steps datas xs (within_each xs all_steps) agree in
          let after : AllByRecursion (AreAfter first_steps datas datas') xs =
          are_after first_steps xs datas entries.order in
          let agrees_there : AllAgree sounds.steps datas' ys =
          agree_first moves sounds.steps last_steps datas' ys
          (agree_then moves (picks_on number frames) first_steps later_steps datas datas' xs ys first_go after agrees)
          in
          sounds.mixed datas' m agrees_there (still_mixes (picks_on number frames) m ends xs ys picks mixes)
          ∙ ap (sound_bytes m)
          (sym (streams_went moves (picks_on number frames) first_steps datas datas' xs ys first_go
          (agree_first moves first_steps later_steps datas xs agrees) after))

      pub plays : Plays moves number frames ends whole xs ws faults told faults' told'
      plays = record {
        steps = its_steps;
        bytes = bytes;
        went = go_alike moves (plays_on number frames heard whole) all_steps its_steps xs ws (within_each xs all_steps)
            all_go;
        none = within_none xs all_steps;
        places =
            all_near heard (length-frames_from frames (length ends) bytes) whole sounds.steps xs ys zs ws picks
            sounds.made picked endings;
        mixed = mixed_there;
        offers = sounds.offers;
      }
