-- The playheads of endpoints that are there (this project's own).
use Rattle.std.specs.Prelude.{ℕ, List}
use Rattle.std.specs.List.{filter}
use Rattle.ca_stage.specs.Stage.{Stage}
use Rattle.ca_stage.specs.Order.{is_among}

-- the stage with the playheads of these endpoints alone
abbrev pub with_playheads : List ℕ → Stage → Stage
with_playheads numbers st = record st { playheads = filter (λ p. is_among p.number numbers) st.playheads }
