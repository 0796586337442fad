-- A client has a lease if the side in its entry has one.
use Rattle.std.proofs.Common.{◌≡◌, ℕ, List, [], ◌∷◌, Bool, true, false, Option, Some, None, refl, sym, ap, ◌∙◌, get_or}
use Rattle.std.proofs.Common.{is_some, eqb, if◌then◌else◌}
use Rattle.std.specs.List.{position}
use Rattle.std.specs.Option.{option_map_or}
use Rattle.std.proofs.lemmas.Option.{get_or_from_slice_get}
use Rattle.buffer_ring.specs.Kept.{Kept}
use Rattle.ca_stage.specs.Stage.{no_data}
use Rattle.period_engine.specs.declared.entry.StreamEntry.{StreamEntry}
use Rattle.period_engine.specs.Agreement.{Layout, layout_of}
use Rattle.period_engine.specs.Packed.{packets_in}
use Rattle.client_state.specs.Frames.{frames_in}
use Rattle.service_board.specs.Does.{layout_at}
use Rattle.service_board.specs.StreamCalls.{IsOfKind}
use Rattle.stream_entries.specs.Search.{is_entry_of}
use Rattle.service_core.specs.Core.{core_data, core_datas, data_in}
use Rattle.service_core.specs.declared.both_ends.BothEnds.{BothEnds}
use Rattle.service_book.proofs.Finding.{found_at, none_at}
use Rattle.service_core.proofs.EntryData.{data_found}

module _ {F : Type 0} (kept : F → Kept) (entries : List (StreamEntry (BothEnds F))) (client : ℕ) where
  pub lease_there : (at : ℕ) (e : StreamEntry (BothEnds F)) → Some at ≡ position (is_entry_of client) entries →
      e ≡ get_or entries at e → is_some e.store.side.lease ≡ is_some (core_datas kept entries client).lease
  lease_there at e there read =
      let f = found_at (is_entry_of client) entries at there in
      ap (λ x. is_some x.store.side.lease) (read ∙ get_or_from_slice_get entries at f.member e f.here)
      ∙ sym (ap (λ d. is_some d.lease)
      (data_found kept client entries ∙ ap (λ o. option_map_or (core_data kept) o no_data) f.found))

  pub lease_none : None ≡ position (is_entry_of client) entries →
      false ≡ is_some (core_datas kept entries client).lease
  lease_none none =
      sym (ap (λ d. is_some d.lease)
      (data_found kept client entries
      ∙ ap (λ o. option_map_or (core_data kept) o no_data) (none_at (is_entry_of client) entries none)))

-- a client's data are those of its stream's kind
data_kind : (l : Layout) (words : List ℕ) (count : ℕ) (lease : Option ℕ) → IsOfKind l (data_in l words count lease)
data_kind l words count lease = record {
  packets = λ h. ap (λ b. if b then [] else packets_in l.channels l.period words) h;
  pending = λ h. ap (λ b. if b then frames_in l.channels words else []) h;
}

pub kind_there : {F : Type 0} (kept : F → Kept) (entries : List (StreamEntry (BothEnds F))) (client : ℕ) →
    IsOfKind (layout_at client entries) (core_datas kept entries client)
kind_there kept [] client = record { packets = λ h. refl; pending = λ h. refl }
kind_there {F} kept (e ∷ entries) client = by (kind_there kept entries client) (eqb e.client.0 client)
  where
    by : IsOfKind (layout_at client entries) (core_datas kept entries client) → (b : Bool) →
        IsOfKind (if b then layout_of e else layout_at client entries)
        (if b then core_data kept e else core_datas kept entries client)
    by rest true =
        data_kind (layout_of e) (kept e.store.store).words e.store.side.released e.store.side.lease
    by rest false = rest
