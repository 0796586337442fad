use Rattle.std.proofs.Common.{◌≡◌, map, take}
use Rattle.stream_entries.specs.Noting.{noted_entry}
use Rattle.stream_entries.proofs.noting.note_streams.Given as goal

-- the streams so far are noted
abbrev pub invariant-entries : goal.invariant-entries
invariant-entries g l = l.n ≡ record l.initial.n { streams = map noted_entry (take l.e-index l.entries) }
