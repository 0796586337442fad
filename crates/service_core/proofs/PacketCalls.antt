-- A touch of an entry and a look at it are one touch.
use Rattle.std.proofs.Common.{◌≡◌, suc, take, ap, ◌∙◌}
use Rattle.client_state.specs.declared.side.ClientSide.{ClientSide}
use Rattle.buffer_ring.specs.Kept.{Kept}
use Rattle.ca_machine.specs.Data.{packet_bytes}
use Rattle.period_engine.specs.Packed.{packet_of}
use Rattle.period_engine.specs.declared.entry.StreamEntry.{StreamEntry}
use Rattle.service_core.specs.Core.{IsLooked, IsTouched}
use Rattle.service_core.specs.declared.both_ends.BothEnds.{BothEnds}

pub touched_looked : {F : Type 0} (kept : F → Kept) (side : ClientSide) (k : Kept) (a b c : StreamEntry (BothEnds F)) →
    IsTouched kept side k a b → IsLooked kept b c → IsTouched kept side k a c
touched_looked {F} kept side k a b c touched looked = record {
  same = looked.same
      ∙ ap (λ e. let next : StreamEntry (BothEnds F) = record e { store = c.store } in next) touched.same;
  side = looked.side ∙ touched.side;
  store = looked.store ∙ touched.store;
}

-- the packet of an entry that was leased is that of the entry before
pub same_packet : {F : Type 0} (kept : F → Kept) (a m e : StreamEntry (BothEnds F)) → e ≡ m →
    m ≡ record a { store = m.store } → kept m.store.store ≡ kept a.store.store →
    packet_bytes (packet_of e.channels (take (suc e.period) (kept e.store.store).words))
    ≡ packet_bytes (packet_of a.channels (take (suc a.period) (kept a.store.store).words))
same_packet kept a m e is same store =
    ap (λ x. packet_bytes (packet_of x.channels (take (suc x.period) (kept x.store.store).words))) is
    ∙ ap (λ x. packet_bytes (packet_of x.channels (take (suc x.period) (kept m.store.store).words))) same
    ∙ ap (λ k. packet_bytes (packet_of a.channels (take (suc a.period) k.words))) store
