-- An entry of a board that is set is the one thing that changed.
use Rattle.std.proofs.Common.{ℕ, refl}
use Rattle.std.specs.Vec.{with_item}
use Rattle.std.proofs.lemmas.List.{set-set}
use Rattle.period_engine.specs.declared.entry.StreamEntry.{StreamEntry}
use Rattle.service_board.specs.declared.board.Board.{Board}
use Rattle.service_board.proofs.StreamMoves.{ChangesOne}

pub entry_set : {D E : Type 0} (b : Board D E) (at : ℕ) (e : StreamEntry E) →
    ChangesOne at e b (record b { entries = with_item b.entries at e })
entry_set b at e = record {
  devices = refl;
  book = refl;
  seats = refl;
  seat_room = refl;
  draft_room = refl;
  entries = refl;
  room = refl;
}

-- it is set twice
pub entry_set_twice : {D E : Type 0} (b : Board D E) (at : ℕ) (first second : StreamEntry E) →
    ChangesOne at second b (record b { entries = with_item (with_item b.entries at first) at second })
entry_set_twice b at first second = record {
  devices = refl;
  book = refl;
  seats = refl;
  seat_room = refl;
  draft_room = refl;
  entries = set-set b.entries.items at first second;
  room = refl;
}
