use Rattle.std.proofs.Common.{◌≡◌, ℕ, ◌-◌, ◌≤◌, length, ap, ◌∙◌, drop, arith}
use Rattle.std.proofs.lemmas.List.{length-take}
use Rattle.event_loop.proofs.Windows.{window_shrinks}
use Rattle.event_loop.proofs.pending.Pending.drop_front.Goals as goal

pub returns-clause-list : goal.returns-clause-list
returns-clause-list c =
    let p = c.self.inside in
    let fits : c.args.used ≤ p.end - p.start =
    omega (arith, c.requires, ap (λ v. length v.list) c.self.view_is, length-take {A = ℕ}) in
    window_shrinks p.bytes.items p.start p.end c.args.used fits ∙ ap (λ v. drop c.args.used v.list) c.self.view_is
