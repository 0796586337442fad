-- What is looked up of entries by their clients' numbers.
use Rattle.std.proofs.Common.{◌≡◌, ℕ, suc, ◌<◌, List, [], ◌∷◌, map, true, false, Option, Some, cond, find, refl, ap}
use Rattle.std.proofs.Common.{◌∙◌, arith, eqb, eq-eqb, eqb-true, if◌then◌else◌}
use Rattle.std.proofs.lemmas.Bool.Decides.{nat_tests}
use Rattle.std.specs.List.{AllByRecursion}
use Rattle.std.specs.Option.{option_map, option_map_or}
use Rattle.buffer_ring.specs.Kept.{Kept}
use Rattle.ca_stage.specs.Stage.{BufferData, no_data}
use Rattle.ca_stage.specs.Order.{RisesFrom}
use Rattle.ca_stage.proofs.Lists.{found_passes, all_both}
use Rattle.ca_stage.proofs.Streams.{is_of}
use Rattle.period_engine.specs.declared.entry.StreamEntry.{StreamEntry}
use Rattle.period_engine.specs.Agreement.{layout_of}
use Rattle.period_engine.specs.Entries.{AreInOrder, stream_of, streams_of}
use Rattle.service_board.specs.Does.{layout_at, no_layout, store_at}
use Rattle.stream_entries.specs.Search.{is_entry_of}
use Rattle.service_core.specs.Core.{core_data, core_datas}
use Rattle.service_core.specs.declared.both_ends.BothEnds.{BothEnds}

module _ {E : Type 0} where
  -- the entry of a client
  abbrev pub entry_at : ℕ → List (StreamEntry E) → Option (StreamEntry E)
  entry_at client entries = find (is_entry_of client) entries

  pub store_found : (client : ℕ) (entries : List (StreamEntry E)) →
      store_at client entries ≡ option_map (λ e. e.store) (entry_at client entries)
  store_found client [] = refl
  store_found client (e ∷ entries) =
      elim (eqb e.client.0 client) as (λ b. (if b then Some e.store else store_at client entries)
      ≡ option_map (λ e. e.store) (cond b (Some e) (entry_at client entries)))
      [ true ↦ refl | false ↦ store_found client entries ]

  pub layout_found : (client : ℕ) (entries : List (StreamEntry E)) →
      layout_at client entries ≡ option_map_or layout_of (entry_at client entries) no_layout
  layout_found client [] = refl
  layout_found client (e ∷ entries) =
      elim (eqb e.client.0 client) as (λ b. (if b then layout_of e else layout_at client entries)
      ≡ option_map_or layout_of (cond b (Some e) (entry_at client entries)) no_layout)
      [ true ↦ refl | false ↦ layout_found client entries ]

  pub stream_found : (datas : ℕ → BufferData) (client : ℕ) (entries : List (StreamEntry E)) →
      find (is_of client) (streams_of datas entries) ≡ option_map (stream_of datas) (entry_at client entries)
  stream_found datas client [] = refl
  stream_found datas client (e ∷ entries) =
      elim (eqb e.client.0 client) as
      (λ b. cond b (Some (stream_of datas e)) (find (is_of client) (streams_of datas entries))
      ≡ option_map (stream_of datas) (cond b (Some e) (entry_at client entries)))
      [ true ↦ refl | false ↦ stream_found datas client entries ]

  -- what is found is the client's
  pub entry_client : (client : ℕ) (entries : List (StreamEntry E)) (e : StreamEntry E) →
      entry_at client entries ≡ Some e → e.client.0 ≡ client
  entry_client client entries e found =
      eqb-true e.client.0 client (found_passes (is_entry_of client) entries e found)

  -- each entry is the one of its client
  others : (n low : ℕ) (entries : List (StreamEntry E)) → n < low → RisesFrom low (map (λ e. e.client.0) entries) →
      AllByRecursion (λ e. eqb n e.client.0 ≡ false) entries
  others n low [] lt rises = tt
  others n low (e ∷ entries) lt rises =
      (differ n e.client.0 (omega (arith, rises.0)), others n (suc e.client.0) entries (omega (arith, rises.0)) rises.1)
    where
      differ : (m k : ℕ) → m < k → eqb m k ≡ false
      differ m k lt = grind (arith, nat_tests)

  skips : (e x : StreamEntry E) (entries : List (StreamEntry E)) → eqb x.client.0 e.client.0 ≡ false →
      entry_at e.client.0 entries ≡ Some e → entry_at e.client.0 (x ∷ entries) ≡ Some e
  skips e x entries n found = ap (λ b. cond b (Some x) (entry_at e.client.0 entries)) n ∙ found

  each_from : (low : ℕ) (entries : List (StreamEntry E)) → RisesFrom low (map (λ e. e.client.0) entries) →
      AllByRecursion (λ e. entry_at e.client.0 entries ≡ Some e) entries
  each_from low [] rises = tt
  each_from low (x ∷ entries) rises = (
    ap (λ b. cond b (Some x) (entry_at x.client.0 entries)) (eq-eqb x.client.0 x.client.0 refl),
    all_both (λ e. eqb x.client.0 e.client.0 ≡ false) (λ e. entry_at e.client.0 entries ≡ Some e)
        (λ e. entry_at e.client.0 (x ∷ entries) ≡ Some e) (λ e n found. skips e x entries n found) entries
        (others x.client.0 (suc x.client.0) entries (omega arith) rises.1) (each_from (suc x.client.0) entries rises.1),
  )

  pub each_entry : (entries : List (StreamEntry E)) → AreInOrder entries →
      AllByRecursion (λ e. entry_at e.client.0 entries ≡ Some e) entries
  each_entry entries rises = each_from 0 entries rises

-- the data of a client
pub data_found : {F : Type 0} (kept : F → Kept) (client : ℕ) (entries : List (StreamEntry (BothEnds F))) →
    core_datas kept entries client ≡ option_map_or (core_data kept) (entry_at client entries) no_data
data_found kept client [] = refl
data_found kept client (e ∷ entries) =
    elim (eqb e.client.0 client) as (λ b. (if b then core_data kept e else core_datas kept entries client)
    ≡ option_map_or (core_data kept) (cond b (Some e) (entry_at client entries)) no_data)
    [ true ↦ refl | false ↦ data_found kept client entries ]
