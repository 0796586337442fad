use Rattle.std.proofs.Common.{◌==◌, ap, ap₂, sym, refl, ◌∙◌}
use Rattle.std.proofs.lemmas.Option.{get_or_from_slice_get, none-some, same_Some}
use Rattle.service_book.specs.Gains.{gains_if}
use Rattle.service_book.proofs.Finding.{found_at, none_at}
use Rattle.stream_entries.proofs.gains.gains_of.Goals as goal

pub unreachable-requires : goal.unreachable-requires
unreachable-requires g c =
    none-some c.requires.client.client
    (sym (none_at (λ x. x.client.0 == c.args.entry.now.client.0) c.args.book.now.clients.items c.in_default.ensures)
    ∙ c.requires.client.live)

pub returns : goal.returns
returns g c =
    let clients = c.args.book.now.clients.items in
    let found =
    found_at (λ x. x.client.0 == c.args.entry.now.client.0) clients c.in-Some.place c.in-Some.ensures in
    let here = c.index.ensures
    ∙ get_or_from_slice_get clients c.in-Some.place found.member c.index.result.now found.here in
    record {
      same = refl;
      within = c.gains_if.ensures.within;
      gains = λ client live.
          c.gains_if.ensures.gains
          ∙ ap₂ (gains_if c.args.entry.now.exclusive)
          (ap (λ x. x.levels) (here ∙ same_Some found.member client (sym found.found ∙ live)))
          c.get.ensures.session;
    }
