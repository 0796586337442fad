-- What holds of sessions at any time (this project's own).
use Rattle.std.specs.Prelude.{ℕ, ◌≤◌, List, length}
use Rattle.std.specs.List.{All, AllByRecursion}
use Rattle.std.specs.Vec.{vec_capacity}
use Rattle.ca_base.specs.declared.limits.TheConstants.{MAX_CONNECTION_NAME, MAX_COUNT, MAX_LEVEL, SESSIONS}
use Rattle.ca_base.specs.Numbered.{Rise}
use Rattle.session_manager.specs.declared.session.TheConstants.{CHANNELS}
use Rattle.session_manager.specs.declared.session.Session.{Session}
use Rattle.session_manager.specs.declared.book.SessionBook.TheInside.{Inside}
use Rattle.session_manager.specs.Sessions.{SessionList, number_of}

-- a master level, the levels of channels, how many channels there are and a maker's name are within their limits
pub record IsWithin (master : ℕ) (each : List ℕ) (count : ℕ) (maker : List ℕ) : Type 0 where
  pub level : master ≤ MAX_LEVEL
  pub channels : All (λ level. level ≤ MAX_LEVEL) each
  pub least : 1 ≤ count
  pub most : count ≤ CHANNELS
  pub name : length maker ≤ MAX_CONNECTION_NAME

-- those of a session
abbrev pub IsSession : Session → Type 0
IsSession s = IsWithin s.level s.channels s.count s.key.name

-- the numbers rise up to how many were made, and all is within limits
pub record IsList (book : SessionList) : Type 0 where
  pub rise : Rise number_of 0 book.made book.list
  pub each : AllByRecursion IsSession book.list
  pub few : length book.list ≤ SESSIONS
  pub made : book.made ≤ MAX_COUNT

-- the list, and memory for as many sessions as there may be
pub record IsBook (b : Inside) : Type 0 where
  pub list : IsList (record { list = b.sessions.items; made = b.made })
  pub room : SESSIONS ≤ vec_capacity b.sessions
