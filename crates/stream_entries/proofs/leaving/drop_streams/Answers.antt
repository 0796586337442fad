use Rattle.std.proofs.Common.{filter, rules, ap, subst, ◌∙◌, arith}
use Rattle.std.proofs.lemmas.Fn.{filter_same}
use Rattle.std.specs.List.{AllZip}
use Rattle.stream_entries.specs.Leaving.{Parts, is_of_live}
use Rattle.stream_entries.proofs.PartedEntries.{all_left, others_go, written_back}
use Rattle.stream_entries.proofs.leaving.drop_streams.Goals as goal

pub returns-clause-keeps : goal.returns-clause-keeps
returns-clause-keeps g c =
    let moves = g.E.EngineSide.moves in
    let clients = c.args.clients.now in
    let old = c.args.entries.now.items in
    let parted : AllZip (Parts moves clients) old c.close_stores.new.entries =
    subst (λ xs. AllZip (Parts moves clients) xs c.close_stores.new.entries) c.deref_mut.ensures.value
    c.close_stores.ensures in
    record {
      left =
          filter_same _ (is_of_live clients) _ (λ x b f' k. search rules) _ _ c.retain.ensures.filtered
          ∙ ap (filter (is_of_live clients))
          (written_back c.args.entries.now.len c.close_stores.new.entries old (omega arith) (omega arith))
          ∙ all_left moves clients old c.close_stores.new.entries parted;
      gone = others_go moves clients old c.close_stores.new.entries parted;
    }
