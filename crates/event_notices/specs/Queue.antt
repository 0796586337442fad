-- What holds of a connection's notices at any time (this project's own).
use Rattle.std.specs.Prelude.{◌≡◌, ℕ, ◌^◌, ◌<◌, ◌≤◌, List, [], ◌∷◌, length}
use Rattle.ca_base.specs.declared.limits.TheConstants.{MAX_COUNT, NOTICES}
use Rattle.event_notices.specs.declared.notice.Registration.{Registration}
use Rattle.event_notices.specs.declared.queue.NoticeQueue.TheInside.{Inside}
use Rattle.event_notices.specs.Notices.{Notices}

-- each registration's number is above that of the one before it, and none is above the last one
abbrev pub Rise : ℕ → ℕ → List Registration → Type 0
Rise low last [] = low ≤ last
Rise low last (r ∷ registrations) = (low < r.no) × Rise r.no last registrations

-- the numbers rise up to how many were made, and all is within limits
pub record IsNotices (q : Notices) : Type 0 where
  pub rise : Rise 0 q.made q.registrations
  pub made : q.made ≤ MAX_COUNT
  pub few : length q.kept ≤ NOTICES
  pub lost : q.lost < 2 ^ 64

-- a queue's registrations and notices
abbrev pub notices_of : Inside → Notices
notices_of q =
    record { registrations = q.registrations.items; made = q.made; kept = q.kept.items; lost = q.lost }

-- they, and room for 256 notices
pub record IsQueue (q : Inside) : Type 0 where
  pub notices : IsNotices (notices_of q)
  pub room : q.kept.capacity ≡ NOTICES
