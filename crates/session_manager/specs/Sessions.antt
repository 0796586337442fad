-- The list of sessions: who is there, and who joins (IAudioClient::Initialize, IAudioSessionControl2; numbers and order
-- are this project's own).
use Rattle.std.specs.Prelude.{ℕ, ◌+◌, ◌==◌, ◌&&◌, List, [], ◌∷◌, ◌++◌, map, filter, Bool, false}
use Rattle.std.specs.Prelude.{Option, Some, None}
use Rattle.std.specs.Int.{w64, to_le_bytes}
use Rattle.std.specs.List.{find}
use Rattle.std.specs.Option.{option_map_or}
use Rattle.ca_base.specs.declared.limits.TheConstants.{MAX_LEVEL}
use Rattle.ca_base.specs.Numbered.{changed_numbered}
use Rattle.session_manager.specs.declared.session.Kept.{Kept}
use Rattle.session_manager.specs.declared.session.Session.{Session}
use Rattle.session_manager.specs.declared.session.SessionKey.{SessionKey}

-- the sessions that are there, in the order of their numbers, and how many were ever made
pub record SessionList : Type 0 where
  pub list : List Session
  pub made : ℕ

-- none was ever made
abbrev pub no_sessions : SessionList
no_sessions = record { list = []; made = 0 }

-- the session of an endpoint, a process and a GUID, if it is there
abbrev pub is_named : ℕ → ℕ → ℕ → Session → Bool
is_named endpoint process guid s =
    s.key.endpoint.0 == endpoint && (s.key.process == process && s.key.guid.0 == guid)

abbrev pub session_named : ℕ → ℕ → ℕ → List Session → Option Session
session_named endpoint process guid list = find (is_named endpoint process guid) list

-- the session that a key names, whatever its name
abbrev pub session_for : SessionKey → List Session → Option Session
session_for key list = session_named key.endpoint.0 key.process key.guid.0 list

-- the number of a session
abbrev pub number_of : Session → ℕ
number_of s = s.no.0

-- the session of a number, if it is there
abbrev pub is_session : ℕ → Session → Bool
is_session number s = s.no.0 == number

abbrev pub session_at : ℕ → List Session → Option Session
session_at number list = find (is_session number) list

-- the sessions after a change of the one of this number, if it is there
abbrev pub changed : ℕ → (Session → Session) → List Session → List Session
changed number f list = changed_numbered number_of number f list

abbrev pub with_changed : ℕ → (Session → Session) → SessionList → SessionList
with_changed number f book = record book { list = changed number f book.list }

-- ---- a stream joins

-- the master level and the mute of a new session: those that were kept, or the highest level, not muted
abbrev pub first_level : Option Kept → ℕ
first_level kept = option_map_or (λ k. k.level) kept MAX_LEVEL

abbrev pub first_mute : Option Kept → Bool
first_mute kept = option_map_or (λ k. k.mute) kept false

-- a session as it is made, for a stream of this many channels
abbrev pub new_session : ℕ → SessionKey → Option Kept → Bool → ℕ → Session
new_session number key kept persist channels = record {
  no = record { 0 = number };
  key = key;
  level = first_level kept;
  mute = first_mute kept;
  channels = MAX_LEVEL ∷ MAX_LEVEL ∷ MAX_LEVEL ∷ MAX_LEVEL ∷ [];
  count = channels;
  persist = persist;
  display = [];
  icon = [];
  grouping = record { 0 = 0 };
  optout = false;
}

-- a session that such a stream joins
abbrev pub with_count : ℕ → Session → Session
with_count channels s = record s { count = channels }

-- the sessions after a stream joins the one that was found, or a new one
abbrev pub joined_to : Option Session → SessionKey → Option Kept → Bool → ℕ → SessionList → SessionList
joined_to (Some s) key kept persist channels book = with_changed s.no.0 (with_count channels) book
joined_to None key kept persist channels book = record {
  list = book.list ++ new_session (book.made + 1) key kept persist channels ∷ [];
  made = book.made + 1;
}

abbrev pub joined : SessionKey → Option Kept → Bool → ℕ → SessionList → SessionList
joined key kept persist channels book =
    joined_to (session_for key book.list) key kept persist channels book

-- the number of the session that it joins
abbrev pub number_joined : SessionKey → SessionList → ℕ
number_joined key book = option_map_or (λ s. s.no.0) (session_for key book.list) (book.made + 1)

-- ---- sessions go, and are listed

-- the sessions of which a test says yes: a session goes with its last stream
abbrev pub remaining : (Session → Bool) → List Session → List Session
remaining test list = filter test list

-- the numbers of an endpoint's sessions (IAudioSessionEnumerator)
abbrev pub is_on : ℕ → Session → Bool
is_on endpoint s = s.key.endpoint.0 == endpoint

abbrev pub numbers_on : ℕ → List Session → List ℕ
numbers_on endpoint list = map (λ s. s.no.0) (filter (is_on endpoint) list)

-- numbers in a payload: eight bytes each, the low byte first
abbrev pub number_bytes : List ℕ → List ℕ
number_bytes [] = []
number_bytes (n ∷ ns) = to_le_bytes w64 n ++ number_bytes ns
