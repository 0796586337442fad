-- The gains of entries, by the levels of their clients and sessions (this project's own).
use Rattle.std.specs.Prelude.{◌≡◌, Bool, false, true}
use Rattle.std.specs.List.{AllZip}
use Rattle.std.specs.Vec.{vec_capacity}
use Rattle.session_manager.specs.declared.changes.Change.{Change}
use Rattle.session_manager.specs.declared.changes.Change.TheVariants as change
use Rattle.period_engine.specs.declared.entry.StreamEntry.{StreamEntry}
use Rattle.service_board.specs.declared.board.Board.{Board}

-- a change of a session is one of its level, its mute or a channel's level, from which the gains of its streams are
-- made
abbrev pub changes_gains : Change → Bool
changes_gains (change.Level level) = true
changes_gains (change.Mute mute) = true
changes_gains (change.Channel channel level) = true
changes_gains (change.Display text) = false
changes_gains (change.Icon text) = false
changes_gains (change.Grouping guid) = false

-- an entry is as it was, but for its gains
abbrev pub HasSameStream : {E : Type 0} → StreamEntry E → StreamEntry E → Type 0
HasSameStream a b = b ≡ record a { gains = b.gains }

-- a board is as it was, but for the gains of its entries
pub record HasSameStreams {D E : Type 0} (old new : Board D E) : Type 0 where
  pub same : new ≡ record old {
    book = record (old.book) { levels_changed = new.book.levels_changed };
    entries = new.entries;
  }
  pub entries : AllZip HasSameStream old.entries.items new.entries.items
  pub room : vec_capacity new.entries ≡ vec_capacity old.entries
