-- What a call that adds notices leaves (this project's own).
use Rattle.std.specs.Prelude.{◌≡◌, ℕ, ◌+◌, ◌≤◌, List, ◌++◌, length}
use Rattle.std.specs.Global.{Vec}
use Rattle.std.specs.Vec.{vec_capacity}
use Rattle.event_notices.specs.declared.notice.Notice.{Notice}

-- these notices are behind those that were there, at most `most` more, and no memory was taken
pub record Puts (most : ℕ) (notices : List Notice) (old new : Vec Notice) : Type 0 where
  pub items : new.items ≡ old.items ++ notices
  pub few : length new.items ≤ length old.items + most
  pub room : vec_capacity new ≡ vec_capacity old
