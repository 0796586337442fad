-- Ducking: which sessions are made quieter while others communicate, and to which level
-- (IAudioSessionControl2::SetDuckingPreference; default ducking).
use Rattle.std.specs.Prelude.{ℕ, ◌==◌, ◌&&◌, ◌||◌, not, nat_lt, List, [], ◌∷◌, ◌++◌, map, filter, length, Bool, false}
use Rattle.std.specs.Prelude.{Option, is_some, if◌then◌else◌}
use Rattle.std.specs.List.{find, list_any}
use Rattle.std.specs.Option.{option_map_or}
use Rattle.ca_base.specs.declared.limits.TheConstants.{MAX_LEVEL, SESSIONS}
use Rattle.ducking.specs.declared.rows.DuckRow.{DuckRow}
use Rattle.ducking.specs.declared.rules.TheConstants.{
  REDUCED_BY_50,
  REDUCED_BY_80,
  RULE_50,
  RULE_80,
  RULE_MUTES,
  SILENT,
}

-- what is known of the sessions, in the order in which they came, and the rule
pub record DuckState : Type 0 where
  pub rows : List DuckRow
  pub rule : ℕ

-- no session is there, and others are reduced by 80 %
abbrev pub new_book : DuckState
new_book = record { rows = []; rule = RULE_80 }

-- ---- the level

-- the row of a session, if it is there
abbrev pub is_row : ℕ → DuckRow → Bool
is_row session row = row.session.0 == session

abbrev pub row_at : ℕ → List DuckRow → Option DuckRow
row_at session rows = find (is_row session) rows

-- a communications session that is active
abbrev pub is_active_comms : DuckRow → Bool
is_active_comms row = row.comms && row.active

-- it is no communications session, and has not opted out
abbrev pub may_be_ducked : DuckRow → Bool
may_be_ducked row = not row.comms && not row.optout

-- some other communications session is active
abbrev pub other_is_active : ℕ → List DuckRow → Bool
other_is_active session rows = list_any (λ row. not (is_row session row) && is_active_comms row) rows

-- a session is ducked: some other communications session is active, and it is none itself and has not opted out
abbrev pub is_ducked : ℕ → List DuckRow → Bool
is_ducked session rows =
    option_map_or may_be_ducked (row_at session rows) false && other_is_active session rows

-- the level of a ducked session by a rule
abbrev pub reduced : ℕ → ℕ
reduced rule =
    if rule == RULE_MUTES then SILENT
    else if rule == RULE_80 then REDUCED_BY_80
    else if rule == RULE_50 then REDUCED_BY_50
    else MAX_LEVEL

-- the duck level of a session
abbrev pub level_of : ℕ → DuckState → ℕ
level_of session book = if is_ducked session book.rows then reduced book.rule else MAX_LEVEL

-- how many communications sessions are active
abbrev pub count_of : List DuckRow → ℕ
count_of rows = length (filter is_active_comms rows)

-- how many a row adds
abbrev pub share_of : DuckRow → ℕ
share_of row = if is_active_comms row then 1 else 0

-- ---- changes

-- a session is there
abbrev pub is_there : ℕ → List DuckRow → Bool
is_there session rows = is_some (row_at session rows)

-- a row of this session may be set: the session is there, or there is room for it
abbrev pub may_set : ℕ → DuckState → Bool
may_set session book = is_there session book.rows || nat_lt (length book.rows) SESSIONS

-- the rows with a row in the place of that of its session, or behind the others
abbrev pub replaced : DuckRow → List DuckRow → List DuckRow
replaced new rows = map (λ row. if is_row new.session.0 row then new else row) rows

abbrev pub with_row : DuckRow → DuckState → DuckState
with_row new book = record book {
  rows = if is_there new.session.0 book.rows then replaced new book.rows else book.rows ++ new ∷ [];
}

-- the rows of the other sessions
abbrev pub removed : ℕ → List DuckRow → List DuckRow
removed session rows = filter (λ row. not (is_row session row)) rows

abbrev pub without : ℕ → DuckState → DuckState
without session book = record book { rows = removed session book.rows }

-- another rule
abbrev pub with_rule : ℕ → DuckState → DuckState
with_rule rule book = record book { rule = rule }
