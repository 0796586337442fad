-- A store without its first packet.
use Rattle.std.proofs.Common.{◌≡◌, ◌≢◌, ℕ, zero, suc, ◌+◌, ◌*◌, ◌==◌, ◌≤◌, min, List, [], ◌∷◌, length, drop, Bool, true}
use Rattle.std.proofs.Common.{false, Option, None, refl, sym, ap, ap₂, subst, ◌∙◌, arith, if◌then◌else◌}
use Rattle.std.proofs.lemmas.Bool.Decides.{nat_tests}
use Rattle.std.proofs.lemmas.List.{length-drop}
use Rattle.ca_base.specs.declared.ids.Gate.TheVariants as gate
use Rattle.ca_base.specs.declared.ids.Reason.{Reason}
use Rattle.ca_base.specs.Rows.{first}
use Rattle.client_state.specs.declared.check.DataCall.TheVariants as data_call
use Rattle.client_state.specs.declared.side.ClientSide.{ClientSide}
use Rattle.client_state.specs.Rows.{is_render as renders_side, side_rows}
use Rattle.buffer_ring.specs.declared.stores.Retired.{Retired}
use Rattle.buffer_ring.specs.declared.stores.Retired.TheVariants as retired
use Rattle.buffer_ring.specs.Kept.{Kept, RetiresWords}
use Rattle.ca_stage.specs.Stage.{is_render}
use Rattle.ca_machine.specs.Data.{packets_read}
use Rattle.period_engine.specs.declared.entry.StreamEntry.{StreamEntry}
use Rattle.period_engine.specs.Agreement.{layout_of}
use Rattle.period_engine.specs.Packed.{packets_from, packets_in}
use Rattle.period_engine.proofs.PacketLists.{packets_in-drop, packets_in-whole}
use Rattle.service_core.specs.Core.{ArePackets, HasSide, IsLooked, Reads, seen_in}
use Rattle.service_core.specs.declared.both_ends.BothEnds.{BothEnds}
use Rattle.service_core.proofs.ReleaseRows.{PassesRead, read_passes, way_of}

packets_less : (n channels period m : ℕ) (words : List ℕ) → length words ≡ n * suc period →
    m ≡ min (length words) (period + 1) →
    packets_in channels period (drop m words) ≡ drop 1 (packets_in channels period words)
packets_less zero channels period m words size is =
    let none : m ≡ 0 = omega (arith, size, is) in
    let empty : packets_in channels period words ≡ [] = packets_in-whole 0 channels period words size in
    ap (λ k. packets_in channels period (drop k words)) none ∙ empty ∙ ap (drop 1) (sym empty)
packets_less (suc n) channels period m words size is =
    let first : suc n * suc period ≡ n * suc period + suc period = grind arith in
    let one : m ≡ 1 * suc period = omega (arith, size, is, first) in
    ap (λ k. packets_in channels period (drop k words)) one
    ∙ packets_in-drop (suc n) 1 channels period words size

whole_less : (n period m : ℕ) (words : List ℕ) → length words ≡ n * suc period → m ≡ min (length words) (period + 1) →
    (k : ℕ) × (length (drop m words) ≡ k * suc period)
whole_less zero period m words size is = (0, omega (arith, length-drop m words, size))
whole_less (suc n) period m words size is =
    let first : suc n * suc period ≡ n * suc period + suc period = grind arith in
    (n, omega (arith, length-drop m words, size, is, first))

closed_open : (r : Reason) → gate.Closed r ≢ gate.Open
closed_open r h = cc

-- an entry without its lease
abbrev pub unleased : {F : Type 0} → StreamEntry (BothEnds F) → StreamEntry (BothEnds F)
unleased e = record e { store = record (e.store) { side = record (e.store.side) { lease = None } } }

read_none : (frames : ℕ) → frames ≡ 0 → packets_read frames ≡ 0
read_none frames is = ap packets_read is

read_one : (frames : ℕ) → frames ≢ 0 → packets_read frames ≡ 1
read_one zero some = absurd (some refl)
read_one (suc n) some = ap (λ b. if b then 0 else 1) (positive n)
  where
    positive : (n : ℕ) → (suc n == 0) ≡ false
    positive n = grind (arith, nat_tests)

module _ {F : Type 0} (kept : F → Kept) (a m e : StreamEntry (BothEnds F)) (frames : ℕ) (has : HasSide kept a)
    (looked : IsLooked kept a m) where
  -- no packet is taken off
  pub reads_none : frames ≡ 0 → e ≡ m → Reads kept (packets_read frames) a (unleased e)
  reads_none none is =
      let store : kept e.store.store ≡ kept a.store.store = ap (λ x. kept x.store.store) is ∙ looked.store in
      let same : e ≡ record a { store = e.store } =
      is ∙ looked.same ∙ ap (λ s. let next : StreamEntry (BothEnds F) = record a { store = s } in next)
      (sym (ap (λ x. x.store) is)) in
      record {
        same = ap (λ x. unleased x) same;
        side = ap (λ x. (unleased x).store.side) is
            ∙ ap (λ side. let next : ClientSide = record side { lease = None } in next) looked.side;
        taken = ap (λ k. packets_in a.channels a.period k.words) store
            ∙ ap (λ k. drop k (packets_in a.channels a.period (kept a.store.store).words))
            (sym (read_none frames none));
        packed = subst (λ l. ArePackets l (kept e.store.store).words) (sym (ap (λ x. layout_of x) same))
            (subst (λ k. ArePackets (layout_of a) k.words) (sym store) has.packed);
        state = ap (λ k. let next : Kept = record k { words = [] } in next) store;
      }

  module _ (s : F) (n words : ℕ) (result : Retired) (some : frames ≢ 0)
      (is : e ≡ record m { store = record (m.store) { store = s } })
      (count : words ≡ length (kept a.store.store).words) (least : n ≡ min words (m.store.side.period + 1))
      (row : None ≡ first (side_rows a.store.side (data_call.CaptureRelease frames) (seen_in (kept a.store.store))))
    where
      ready : PassesRead a.store.side (seen_in (kept a.store.store))
      ready = read_passes a.store.side frames (seen_in (kept a.store.store)) (sym row)

      records : is_render a.kind ≡ false
      records = sym (ap (λ side. renders_side side.dir) has.side ∙ way_of a.kind) ∙ ready.records

      least_is : n ≡ min (length (kept a.store.store).words) (a.period + 1)
      least_is =
          least
          ∙ ap₂ (λ k side. min k (side.period + 1)) count looked.side
          ∙ ap (λ side. min (length (kept a.store.store).words) (side.period + 1)) has.side

      same : e ≡ record a { store = e.store }
      same =
          is
          ∙ ap (λ x. let next : StreamEntry (BothEnds F) = record x { store = record (m.store) { store = s } } in next)
          looked.same
          ∙ ap (λ s. let next : StreamEntry (BothEnds F) = record a { store = s } in next) (sym (ap (λ x. x.store) is))

      gone : RetiresWords result n (kept m.store.store) (kept s) →
          kept e.store.store ≡ record (kept a.store.store) { words = drop n (kept a.store.store).words }
      gone = by result
        where
          by : (r : Retired) → RetiresWords r n (kept m.store.store) (kept s) →
              kept e.store.store ≡ record (kept a.store.store) { words = drop n (kept a.store.store).words }
          by retired.Done done =
              ap (λ x. kept x.store.store) is ∙ done.1
              ∙ ap (λ k. let next : Kept = record k { words = drop n k.words } in next) looked.store
          by (retired.Closed reason) done =
              absurd (closed_open reason (sym done.0 ∙ ap (λ k. k.gate) looked.store ∙ ready.opens))

      -- the first packet is taken off
      pub reads_one : RetiresWords result n (kept m.store.store) (kept s) →
          Reads kept (packets_read frames) a (unleased e)
      reads_one done =
          let store = gone done in
          let all = has.packed records in
          record {
            same = ap (λ x. unleased x) same;
            side = ap (λ x. (unleased x).store.side) is
                ∙ ap (λ side. let next : ClientSide = record side { lease = None } in next) looked.side;
            taken = ap (λ k. packets_in a.channels a.period k.words) store
                ∙ packets_less all.0 a.channels a.period n (kept a.store.store).words all.1 least_is
                ∙ ap (λ k. drop k (packets_in a.channels a.period (kept a.store.store).words))
                (sym (read_one frames some));
            packed = subst (λ l. ArePackets l (kept e.store.store).words) (sym (ap (λ x. layout_of x) same))
                (subst (λ k. ArePackets (layout_of a) k.words) (sym store)
                (λ stores. whole_less all.0 a.period n (kept a.store.store).words all.1 least_is));
            state = ap (λ k. let next : Kept = record k { words = [] } in next) store;
          }
