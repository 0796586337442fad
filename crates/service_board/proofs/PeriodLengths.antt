-- The periods of entries that are open on an endpoint: each is as long as the endpoint's, which fits in its scratch.
use Rattle.std.proofs.Common.{◌≡◌, ℕ, ◌<◌, ◌==◌, ◌&&◌, List, [], ◌∷◌, length, Bool, true, false, Option, Some, None}
use Rattle.std.proofs.Common.{refl, sym, ap, ◌∙◌, subst, cond, get_or, eqb-true, find}
use Rattle.std.specs.List.{All, AllByRecursion}
use Rattle.std.specs.Option.{option_map, option_map_or}
use Rattle.std.proofs.lemmas.Bool.{and_parts, true≢false}
use Rattle.std.proofs.lemmas.Option.{none-some}
use Rattle.std.proofs.lemmas.List.Elements.{All-from_recursion, recursion_from_All}
use Rattle.ca_base.specs.declared.ids.Gate.TheVariants as gate
use Rattle.ca_stage.specs.Stage.{BufferData, Stream, is_open_gate}
use Rattle.ca_stage.proofs.Lists.{all_found, found_passes}
use Rattle.device_registry.specs.declared.endpoint.Endpoint.{Endpoint}
use Rattle.ca_machine.specs.Periods.{is_exclusive_on, shared_frames}
use Rattle.ca_machine.specs.Periods as machine
use Rattle.period_engine.specs.declared.entry.StreamEntry.{StreamEntry}
use Rattle.period_engine.specs.Entries.{stream_of, streams_of}
use Rattle.service_book.proofs.Finding.{find_mapped}
use Rattle.stream_entries.specs.Holding.{is_exclusive_entry, is_open_entry, period_frames}
use Rattle.service_board.specs.InOrder.{AreAlike, IsAlike}

-- if none is found, none passes
none_passes : {X : Type 0} (test : X → Bool) (xs : List X) → find test xs ≡ None → AllByRecursion (λ x. test x ≡ false)
    xs
none_passes test [] e = tt
none_passes {X} test (x ∷ xs) e = by (test x) (find test xs) e refl (none_passes test xs)
  where
    by : (b : Bool) (o : Option X) → cond b (Some x) o ≡ None → test x ≡ b →
        (o ≡ None → AllByRecursion (λ y. test y ≡ false) xs) → AllByRecursion (λ y. test y ≡ false) (x ∷ xs)
    by true o h is rest = absurd (none-some x (sym h))
    by false o h is rest = (is, rest h)

-- the streams of entries give an endpoint's period the frames that the entries give it
pub frames_alike : {E : Type 0} (e : Endpoint) (datas : ℕ → BufferData) (entries : List (StreamEntry E)) →
    machine.period_frames e (streams_of datas entries) ≡ period_frames e entries
frames_alike {E} e datas entries =
    ap (λ o. option_map_or (λ (s : Stream). s.period) o (shared_frames e))
    (find_mapped (is_exclusive_on e.no.0) (stream_of datas) entries)
    ∙ by (find (is_exclusive_entry e.no.0) entries)
  where
    by : (o : Option (StreamEntry E)) →
        option_map_or (λ (s : Stream). s.period) (option_map (stream_of datas) o) (shared_frames e)
        ≡ option_map_or (λ x. x.period) o (shared_frames e)
    by None = refl
    by (Some x) = refl

module _ {E : Type 0} (e : Endpoint) (entries : List (StreamEntry E)) (alike : AreAlike entries) where
  -- an open entry is as long as the endpoint's period, if a shared one is as long as that of shared streams
  pub entry_period : (k : ℕ) (d : StreamEntry E) → k < length entries →
      is_open_entry e.no.0 (get_or entries k d) ≡ true →
      ((get_or entries k d).exclusive ≡ false → (get_or entries k d).period ≡ shared_frames e) →
      (get_or entries k d).period ≡ period_frames e entries
  entry_period k d lt opens shared = by (find (is_exclusive_entry e.no.0) entries) refl
    where
      y : StreamEntry E
      y = get_or entries k d

      shared_there : (v : Bool) → y.exclusive ≡ v → (is_open_entry e.no.0 y && v) ≡ false → v ≡ false
      shared_there false is h = refl
      shared_there true is h = absurd (true≢false (sym (ap (λ o. o && true) opens) ∙ h))

      by : (o : Option (StreamEntry E)) → find (is_exclusive_entry e.no.0) entries ≡ o →
          y.period ≡ option_map_or (λ x. x.period) o (shared_frames e)
      by None is =
          let none = All-from_recursion (λ x. is_exclusive_entry e.no.0 x ≡ false) entries
          (none_passes (is_exclusive_entry e.no.0) entries is) k d lt in
          shared (shared_there y.exclusive refl none)
      by (Some x) is =
          let passes = found_passes (is_exclusive_entry e.no.0) entries x is in
          let here : x.endpoint.0 ≡ e.no.0 =
          eqb-true x.endpoint.0 e.no.0
          (and_parts (x.endpoint.0 == e.no.0) (is_open_gate x.gate)
          (and_parts (is_open_entry e.no.0 x) x.exclusive passes).0).0 in
          let each : All (IsAlike x) entries =
          all_found (λ (z : StreamEntry E). All (IsAlike z) entries) (is_exclusive_entry e.no.0) entries x
          (recursion_from_All (λ (z : StreamEntry E). All (IsAlike z) entries) entries alike) is in
          each k d lt (subst (λ n. is_exclusive_entry n x ≡ true) (sym here) passes)
          (subst (λ n. is_open_entry n y ≡ true) (sym here) opens)

-- what holds of the period of shared streams, and of each that is open on the endpoint, holds of the endpoint's
pub period_holds : {E : Type 0} (P : ℕ → Type 0) (e : Endpoint) (entries : List (StreamEntry E)) →
    P (shared_frames e) → All (λ x. is_open_entry e.no.0 x ≡ true → P x.period) entries → P (period_frames e entries)
period_holds {E} P e entries shared each = by (find (is_exclusive_entry e.no.0) entries) refl
  where
    by : (o : Option (StreamEntry E)) → find (is_exclusive_entry e.no.0) entries ≡ o →
        P (option_map_or (λ x. x.period) o (shared_frames e))
    by None is = shared
    by (Some x) is =
        all_found (λ (z : StreamEntry E). is_open_entry e.no.0 z ≡ true → P z.period)
        (is_exclusive_entry e.no.0) entries x
        (recursion_from_All (λ (z : StreamEntry E). is_open_entry e.no.0 z ≡ true → P z.period) entries each) is
        (and_parts (is_open_entry e.no.0 x) x.exclusive
        (found_passes (is_exclusive_entry e.no.0) entries x is)).0
