use Rattle.std.proofs.Common.{Some, sym, ap, ◌∙◌}
use Rattle.std.specs.Option.{option_map_or}
use Rattle.ca_machine.specs.Periods.{shared_frames}
use Rattle.service_book.proofs.Finding.{found_there, none_at}
use Rattle.stream_entries.specs.Holding.{is_exclusive_entry}
use Rattle.stream_entries.proofs.holding.period_frames.Goals as goal

pub returns-in-Some : goal.returns-in-Some
returns-in-Some g c =
    let entries = c.args.entries.now in
    let test = is_exclusive_entry c.args.endpoint.now.no.0 in
    ap (λ x. x.period) (sym c.index-entries-at.is)
    ∙ ap (λ o. option_map_or (λ x. x.period) o (shared_frames c.args.endpoint.now))
    (sym (found_there test entries c.in-Some.at c.index-entries-at.result c.in-Some.ensures c.index-entries-at.is))

pub returns-in-None : goal.returns-in-None
returns-in-None g c =
    c.shared_frames.ensures
    ∙ ap (λ o. option_map_or (λ x. x.period) o (shared_frames c.args.endpoint.now))
    (sym (none_at (is_exclusive_entry c.args.endpoint.now.no.0) c.args.entries.now c.in-None.ensures))
