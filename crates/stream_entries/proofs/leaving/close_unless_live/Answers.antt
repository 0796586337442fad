use Rattle.std.proofs.Common.{[], refl}
use Rattle.stream_entries.proofs.leaving.close_unless_live.Goals as goal

pub returns-in-Closed : goal.returns-in-Closed
returns-in-Closed g c = record {
  client = refl;
  stays = λ live. refl;
  goes = λ gone. record {
    steps = [];
    last = c.args.entry.now.store;
    made = g.met.E.EngineSide.none c.args.entry.now.store;
    closes = λ opens. let closed = c.in-Closed.is in absurd cc;
  };
}
