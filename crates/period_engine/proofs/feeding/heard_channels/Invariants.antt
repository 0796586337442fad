use Rattle.std.proofs.Common.{◌≡◌, ℕ, ◌<◌, false, get_or}
use Rattle.period_engine.specs.declared.entry.StreamEntry.{StreamEntry}
use Rattle.period_engine.specs.Entries.{is_heard}
use Rattle.period_engine.proofs.feeding.heard_channels.Given as goal

-- no entry so far is heard
abbrev pub invariant-loop-entry : goal.invariant-loop-entry
invariant-loop-entry g l =
    (k : ℕ) (d : StreamEntry g.row.E.Denot) → k < l.entry-index → is_heard l.e.0 (get_or l.all k d) ≡ false
