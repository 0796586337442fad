-- What the first endpoint of a number says of the logs of all.
use Rattle.std.proofs.Common.{◌≡◌, ℕ, ◌<◌, true, false, nat_lt, List, [], ◌∷◌, Some, None, length, get_or, set}
use Rattle.std.proofs.Common.{refl, sym, subst, ◌∙◌, arith, append-nil}
use Rattle.std.specs.List.{position, position_or_len}
use Rattle.std.proofs.lemmas.Grind.{common_steps}
use Rattle.std.proofs.lemmas.Bool.Decides.{nat_tests}
use Rattle.device_io.specs.declared.endpoints.MemEndpoint.{MemEndpoint}
use Rattle.device_io.specs.DeviceLog.{DeviceLog, written_at, left_at}
use Rattle.device_io.specs.DeviceLog.{with_piece, without_front, add_written, take_left}
use Rattle.device_io.specs.MemEndpoints.{log_of, logs_of, is_of}
use Rattle.device_io.specs.Memory.{has_log}

abbrev place : ℕ → List MemEndpoint → ℕ
place e ms = position_or_len (is_of e) ms

has_log-place : (e : ℕ) (ms : List MemEndpoint) → has_log e (logs_of ms) ≡ nat_lt (place e ms) (length ms)
has_log-place e [] = grind (arith, nat_tests)
has_log-place e (m ∷ ms) = grind (arith, nat_tests, has_log-place e ms)

written-place : (e : ℕ) (ms : List MemEndpoint) (d : MemEndpoint) → place e ms < length ms
    → written_at e (logs_of ms) ≡ (log_of (get_or ms (place e ms) d)).written
written-place e [] d h = grind arith
written-place e (m ∷ ms) d h = grind (arith, nat_tests, common_steps, written-place e ms d)

left-place : (e : ℕ) (ms : List MemEndpoint) (d : MemEndpoint) → place e ms < length ms
    → left_at e (logs_of ms) ≡ (log_of (get_or ms (place e ms) d)).left
left-place e [] d h = grind arith
left-place e (m ∷ ms) d h = grind (arith, nat_tests, common_steps, left-place e ms d)

adds-place : (e : ℕ) (piece : List ℕ) (ms : List MemEndpoint) (new d : MemEndpoint) → place e ms < length ms
    → log_of new ≡ with_piece piece (log_of (get_or ms (place e ms) d))
    → logs_of (set ms (place e ms) new) ≡ add_written e piece (logs_of ms)
adds-place e piece [] new d h is = grind arith
adds-place e piece (m ∷ ms) new d h is = grind (arith, nat_tests, common_steps, adds-place e piece ms new d)

takes-place : (e n : ℕ) (ms : List MemEndpoint) (new d : MemEndpoint) → place e ms < length ms
    → log_of new ≡ without_front n (log_of (get_or ms (place e ms) d))
    → logs_of (set ms (place e ms) new) ≡ take_left e n (logs_of ms)
takes-place e n [] new d h is = grind arith
takes-place e n (m ∷ ms) new d h is = grind (arith, nat_tests, common_steps, takes-place e n ms new d)

adds-nothing : (e : ℕ) (logs : List DeviceLog) → has_log e logs ≡ true → add_written e [] logs ≡ logs
adds-nothing e [] h = grind arith
adds-nothing e (log ∷ logs) h = grind (arith, nat_tests, append-nil, adds-nothing e logs)

pub written_nowhere : (e : ℕ) (logs : List DeviceLog) → has_log e logs ≡ false → written_at e logs ≡ []
written_nowhere e [] h = refl
written_nowhere e (log ∷ logs) h = grind (arith, nat_tests, written_nowhere e logs)

pub nowhere : (e : ℕ) (ms : List MemEndpoint) → None ≡ position (is_of e) ms → has_log e (logs_of ms) ≡ false
nowhere e ms h = grind (arith, nat_tests, has_log-place e ms)

pub found_within : (e i : ℕ) (ms : List MemEndpoint) → Some i ≡ position (is_of e) ms
    → (place e ms ≡ i) × (i < length ms)
found_within e i ms h = grind (arith, nat_tests)

pub found_log : (e i : ℕ) (ms : List MemEndpoint) → Some i ≡ position (is_of e) ms → has_log e (logs_of ms) ≡ true
found_log e i ms h = grind (arith, nat_tests, has_log-place e ms)

pub found_written : (e i : ℕ) (ms : List MemEndpoint) (d : MemEndpoint) → Some i ≡ position (is_of e) ms
    → written_at e (logs_of ms) ≡ (log_of (get_or ms i d)).written
found_written e i ms d h =
    let at = found_within e i ms h in
    rw (← at.0) (written-place e ms d (omega arith))

pub found_left : (e i : ℕ) (ms : List MemEndpoint) (d : MemEndpoint) → Some i ≡ position (is_of e) ms
    → left_at e (logs_of ms) ≡ (log_of (get_or ms i d)).left
found_left e i ms d h =
    let at = found_within e i ms h in
    rw (← at.0) (left-place e ms d (omega arith))

pub found_adds : (e i : ℕ) (piece : List ℕ) (ms : List MemEndpoint) (new d : MemEndpoint)
    → Some i ≡ position (is_of e) ms → log_of new ≡ with_piece piece (log_of (get_or ms i d))
    → logs_of (set ms i new) ≡ add_written e piece (logs_of ms)
found_adds e i piece ms new d h is =
    let at = found_within e i ms h in
    let P : ℕ → Type 0 = λ k. log_of new ≡ with_piece piece (log_of (get_or ms k d)) in
    rw (← at.0) (adds-place e piece ms new d (omega arith) (subst P (sym at.0) is))

pub found_takes : (e i n : ℕ) (ms : List MemEndpoint) (new d : MemEndpoint)
    → Some i ≡ position (is_of e) ms → log_of new ≡ without_front n (log_of (get_or ms i d))
    → logs_of (set ms i new) ≡ take_left e n (logs_of ms)
found_takes e i n ms new d h is =
    let at = found_within e i ms h in
    let P : ℕ → Type 0 = λ k. log_of new ≡ without_front n (log_of (get_or ms k d)) in
    rw (← at.0) (takes-place e n ms new d (omega arith) (subst P (sym at.0) is))

-- the log of an endpoint that took no byte is as it was
pub found_keeps : (e i : ℕ) (ms : List MemEndpoint) (new d : MemEndpoint) → Some i ≡ position (is_of e) ms
    → log_of new ≡ with_piece [] (log_of (get_or ms i d)) → logs_of (set ms i new) ≡ logs_of ms
found_keeps e i ms new d h is =
    found_adds e i [] ms new d h is ∙ adds-nothing e (logs_of ms) (found_log e i ms h)

-- what a function knows that found the place of an endpoint, or found none
pub ruleset places =
    (found_log, found_written, found_left, found_adds, found_takes, found_keeps, nowhere, written_nowhere)
