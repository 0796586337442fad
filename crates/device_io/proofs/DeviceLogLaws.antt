-- What writes and reads do to the logs of devices, endpoint by endpoint.
use Rattle.std.proofs.Common.{◌≡◌, ◌≢◌, ℕ, ◌+◌, ◌==◌, if◌then◌else◌, List, [], ◌∷◌, ◌++◌, drop, refl, ap, ◌∙◌, arith}
use Rattle.std.proofs.Common.{append_assoc, append-nil}
use Rattle.std.proofs.lemmas.Grind.{common_steps}
use Rattle.std.proofs.lemmas.Bool.Decides.{nat_tests}
use Rattle.device_io.specs.DeviceLog.{DeviceLog, written_at, left_at, add_written, take_left, add_all, pieces_at}

pub written_at-add_same : (e : ℕ) (piece : List ℕ) (logs : List DeviceLog)
    → written_at e (add_written e piece logs) ≡ written_at e logs ++ piece
written_at-add_same e piece [] = grind (arith, nat_tests)
written_at-add_same e piece (log ∷ logs) = grind (arith, nat_tests, written_at-add_same e piece logs)

pub written_at-add_other : (e d : ℕ) (piece : List ℕ) (logs : List DeviceLog) → e ≢ d
    → written_at e (add_written d piece logs) ≡ written_at e logs
written_at-add_other e d piece [] other = grind (arith, nat_tests)
written_at-add_other e d piece (log ∷ logs) other = grind (arith, nat_tests, written_at-add_other e d piece logs other)

pub left_at-add_written : (e d : ℕ) (piece : List ℕ) (logs : List DeviceLog)
    → left_at e (add_written d piece logs) ≡ left_at e logs
left_at-add_written e d piece [] = grind (arith, nat_tests)
left_at-add_written e d piece (log ∷ logs) = grind (arith, nat_tests, left_at-add_written e d piece logs)

pub left_at-take_same : (e n : ℕ) (logs : List DeviceLog) → left_at e (take_left e n logs) ≡ drop n (left_at e logs)
left_at-take_same e n [] = grind (arith, common_steps)
left_at-take_same e n (log ∷ logs) = grind (arith, nat_tests, left_at-take_same e n logs)

pub left_at-take_other : (e d n : ℕ) (logs : List DeviceLog) → e ≢ d → left_at e (take_left d n logs) ≡ left_at e logs
left_at-take_other e d n [] other = refl
left_at-take_other e d n (log ∷ logs) other = grind (arith, nat_tests, left_at-take_other e d n logs other)

pub written_at-take_left : (e d n : ℕ) (logs : List DeviceLog) → written_at e (take_left d n logs) ≡ written_at e logs
written_at-take_left e d n [] = refl
written_at-take_left e d n (log ∷ logs) = grind (arith, nat_tests, written_at-take_left e d n logs)

-- two pieces for one endpoint are one
pub add_written-twice : (e : ℕ) (first second : List ℕ) (logs : List DeviceLog)
    → add_written e second (add_written e first logs) ≡ add_written e (first ++ second) logs
add_written-twice e first second [] = grind (arith, nat_tests)
add_written-twice e first second (log ∷ logs) =
    grind (arith, nat_tests, common_steps, add_written-twice e first second logs)

-- two reads of one endpoint are one
pub take_left-twice : (e m n : ℕ) (logs : List DeviceLog)
    → take_left e n (take_left e m logs) ≡ take_left e (m + n) logs
take_left-twice e m n [] = refl
take_left-twice e m n (log ∷ logs) = grind (arith, nat_tests, common_steps, take_left-twice e m n logs)

written_at-add_one : (e d : ℕ) (piece : List ℕ) (logs : List DeviceLog)
    → written_at e (add_written d piece logs) ≡ written_at e logs ++ (if e == d then piece else [])
written_at-add_one e d piece [] = grind (arith, nat_tests)
written_at-add_one e d piece (log ∷ logs) = grind (arith, nat_tests, append-nil, written_at-add_one e d piece logs)

pub written_at-add_all : (e : ℕ) (ws : List (ℕ × List ℕ)) (logs : List DeviceLog)
    → written_at e (add_all ws logs) ≡ written_at e logs ++ pieces_at e ws
written_at-add_all e [] logs = grind (arith, common_steps)
written_at-add_all e (w ∷ ws) logs =
    written_at-add_all e ws (add_written w.0 w.1 logs)
    ∙ ap (λ (xs : List ℕ). xs ++ pieces_at e ws) (written_at-add_one e w.0 w.1 logs)
    ∙ append_assoc (written_at e logs) (if e == w.0 then w.1 else []) (pieces_at e ws)

pub left_at-add_all : (e : ℕ) (ws : List (ℕ × List ℕ)) (logs : List DeviceLog)
    → left_at e (add_all ws logs) ≡ left_at e logs
left_at-add_all e [] logs = refl
left_at-add_all e (w ∷ ws) logs = left_at-add_all e ws (add_written w.0 w.1 logs) ∙ left_at-add_written e w.0 w.1 logs

pub add_all-append : (xs ys : List (ℕ × List ℕ)) (logs : List DeviceLog)
    → add_all (xs ++ ys) logs ≡ add_all ys (add_all xs logs)
add_all-append [] ys logs = refl
add_all-append (x ∷ xs) ys logs = add_all-append xs ys (add_written x.0 x.1 logs)

pub pieces_at-append : (e : ℕ) (xs ys : List (ℕ × List ℕ)) → pieces_at e (xs ++ ys) ≡ pieces_at e xs ++ pieces_at e ys
pieces_at-append e [] ys = refl
pieces_at-append e (x ∷ xs) ys = grind (arith, common_steps, pieces_at-append e xs ys)
