use Rattle.std.proofs.Common.{◌≤◌, length, sym, ap, subst, ◌∙◌}
use Rattle.ca_base.specs.declared.limits.TheConstants.{CLIENTS}
use Rattle.stream_entries.specs.Noting.{noted_with}
use Rattle.service_board.proofs.NotedStates.{few_entries, noted_board}
use Rattle.service_board.proofs.board.Board.noted.Goals as goal

pub noted_of-requires : goal.noted_of-requires
noted_of-requires g c = record {
  few = subst (λ xs. length xs ≤ CLIENTS) (sym c.deref.ensures.value)
      (few_entries g.E.EngineSide.state c.args.self.now c.requires.order);
}

pub returns : goal.returns
returns g c = λ datas tally.
    c.noted_of.ensures
    ∙ ap (noted_with c.args.self.now.book) c.deref.ensures.value
    ∙ noted_board datas tally c.args.self.now
