-- What a connection registered for, and its notices (IMMNotificationClient, IAudioSessionEvents and the like; numbers
-- and order are this project's own).
use Rattle.std.specs.Prelude.{ℕ, ◌+◌, ◌-◌, ◌^◌, ◌==◌, ◌&&◌, ◌||◌, min, not, List, [], ◌∷◌, ◌++◌}
use Rattle.std.specs.Prelude.{length, take, drop, filter, Bool}
use Rattle.std.specs.List.{list_any}
use Rattle.ca_base.specs.declared.limits.TheConstants.{NOTICES}
use Rattle.event_notices.specs.declared.kinds.TheConstants.{CLASS_DEVICES}
use Rattle.event_notices.specs.declared.notice.Notice.{Notice}
use Rattle.event_notices.specs.declared.notice.Registration.{Registration}
use Rattle.event_notices.specs.Kinds.{class_of}

-- the registrations in the order of their numbers, how many were ever made, the notices that are kept, the oldest
-- first, and how many were lost since the last ones were taken
pub record Notices : Type 0 where
  pub registrations : List Registration
  pub made : ℕ
  pub kept : List Notice
  pub lost : ℕ

-- nothing was registered for
abbrev pub no_notices : Notices
no_notices = record { registrations = []; made = 0; kept = []; lost = 0 }

-- ---- registrations

-- the registration of a number
abbrev pub is_numbered : ℕ → Registration → Bool
is_numbered number r = r.no == number

abbrev pub is_registered : ℕ → Notices → Bool
is_registered number q = list_any (is_numbered number) q.registrations

-- after one more of a class and a subject
abbrev pub registered : ℕ → ℕ → Notices → Notices
registered class subject q = record q {
  registrations = q.registrations ++ record { no = q.made + 1; class = class; subject = subject } ∷ [];
  made = q.made + 1;
}

-- without the one of a number
abbrev pub unregistered : ℕ → Notices → Notices
unregistered number q = record q { registrations = filter (λ r. not (is_numbered number r)) q.registrations }

-- ---- notices come

-- a registration is for a notice: it has the class of its kind, and is about devices, about all, or about its subject
abbrev pub is_matched_by : Notice → Registration → Bool
is_matched_by n r =
    class_of n.kind == r.class && (r.class == CLASS_DEVICES || (r.subject == 0 || r.subject == n.subject))

-- one of these is
abbrev pub is_matched : List Registration → Notice → Bool
is_matched registrations n = list_any (is_matched_by n) registrations

-- the notices that these registrations are for
abbrev pub matched : List Registration → List Notice → List Notice
matched registrations ns = filter (is_matched registrations) ns

-- the last n of them
abbrev pub last_of : ℕ → List Notice → List Notice
last_of n ns = drop (length ns - n) ns

-- what is kept, and those that match behind it
abbrev pub gathered : List Notice → Notices → List Notice
gathered ns q = q.kept ++ matched q.registrations ns

-- after these came: the last 256 of all are kept, and the others are lost. Their count saturates at 2^64 - 1
abbrev pub pushed_all : List Notice → Notices → Notices
pushed_all ns q = record q {
  kept = last_of NOTICES (gathered ns q);
  lost = min (2 ^ 64 - 1) (q.lost + (length (gathered ns q) - NOTICES));
}

-- after this one came
abbrev pub pushed : Notice → Notices → Notices
pushed n q = pushed_all (n ∷ []) q

-- ---- notices are taken

-- the first of those that are kept, `max` at most
abbrev pub first_notices : ℕ → Notices → List Notice
first_notices max q = take max q.kept

-- after they were taken
abbrev pub taken : ℕ → Notices → Notices
taken max q = record q { kept = drop max q.kept; lost = 0 }
