-- What devices got and gave: a finite list of logs, one for each endpoint. This project's own.
use Rattle.std.specs.Prelude.{ℕ, ◌==◌, if◌then◌else◌, List, [], ◌∷◌, ◌++◌, drop}

-- what was written to one endpoint so far, and what reads of it will give from here on
pub record DeviceLog : Type 0 where
  pub endpoint : ℕ
  pub written : List ℕ
  pub left : List ℕ

-- the bytes written to an endpoint: none if it has no log
abbrev pub written_at : ℕ → List DeviceLog → List ℕ
written_at e [] = []
written_at e (log ∷ logs) = if e == log.endpoint then log.written else written_at e logs

-- the bytes that reads of an endpoint will give: none if it has no log
abbrev pub left_at : ℕ → List DeviceLog → List ℕ
left_at e [] = []
left_at e (log ∷ logs) = if e == log.endpoint then log.left else left_at e logs

-- a log after a piece was written
abbrev pub with_piece : List ℕ → DeviceLog → DeviceLog
with_piece piece log = record log { written = log.written ++ piece }

-- a log after its first n bytes were read
abbrev pub without_front : ℕ → DeviceLog → DeviceLog
without_front n log = record log { left = drop n log.left }

-- the logs after a piece was written to an endpoint: one that has no log gets one, at the end
abbrev pub add_written : ℕ → List ℕ → List DeviceLog → List DeviceLog
add_written e piece [] = record { endpoint = e; written = piece; left = [] } ∷ []
add_written e piece (log ∷ logs) =
    if e == log.endpoint then with_piece piece log ∷ logs else log ∷ add_written e piece logs

-- the logs after the first n bytes of an endpoint were read
abbrev pub take_left : ℕ → ℕ → List DeviceLog → List DeviceLog
take_left e n [] = []
take_left e n (log ∷ logs) = if e == log.endpoint then without_front n log ∷ logs else log ∷ take_left e n logs

-- the logs after pieces, each with its endpoint, were written one after another
abbrev pub add_all : List (ℕ × List ℕ) → List DeviceLog → List DeviceLog
add_all [] logs = logs
add_all (w ∷ ws) logs = add_all ws (add_written w.0 w.1 logs)

-- the pieces of one endpoint, joined in order
abbrev pub pieces_at : ℕ → List (ℕ × List ℕ) → List ℕ
pieces_at e [] = []
pieces_at e (w ∷ ws) = (if e == w.0 then w.1 else []) ++ pieces_at e ws
