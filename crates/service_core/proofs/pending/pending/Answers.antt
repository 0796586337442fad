use Rattle.std.proofs.Common.{◌≤◌, length, subst, sym}
use Rattle.ca_base.specs.declared.limits.TheConstants.{CLIENTS}
use Rattle.service_board.proofs.EntryCounts.{are_entries}
use Rattle.service_core.proofs.pending.pending.Goals as goal

pub words_in_all-requires : goal.words_in_all-requires
words_in_all-requires g c =
    subst (λ xs. length xs ≤ CLIENTS) (sym c.deref_mut.ensures.value)
    (are_entries (λ ends. g.F.EngineSide.state ends.store) c.args.board.now c.requires).count
