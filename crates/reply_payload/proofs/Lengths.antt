-- How long the payload is that lists an endpoint's sessions.
use Rattle.std.proofs.Common.{◌≡◌, ℕ, ◌*◌, ◌≤◌, List, [], ◌∷◌, length, filter, Bool, refl, ap, arith}
use Rattle.std.specs.Int.{w32, w64, to_le_bytes}
use Rattle.std.proofs.lemmas.List.{length-append, length-map}
use Rattle.ca_base.specs.declared.limits.TheConstants.{SESSIONS}
use Rattle.ca_stage.proofs.Lists.{chosen}
use Rattle.session_manager.specs.declared.session.Session.{Session}
use Rattle.session_manager.specs.Sessions.{is_on, number_bytes, numbers_on}
use Rattle.ca_machine.specs.Sessions.{numbers_payload}
use Rattle.reply_payload.specs.declared.payload.TheConstants.{REPLY_ROOM}

-- the bytes of numbers, and how many sessions an endpoint has
bytes_long : (ns : List ℕ) → length (number_bytes ns) ≡ 8 * length ns
bytes_long [] = refl
bytes_long (n ∷ ns) = let long = bytes_long ns in omega (arith, length-append (to_le_bytes w64 n) (number_bytes ns))

fewer : (test : Session → Bool) (list : List Session) → length (filter test list) ≤ length list
fewer test [] = omega arith
fewer test (s ∷ list) =
    let few = fewer test list in
    chosen (λ (xs : List Session). length xs ≤ length (s ∷ list)) (test s) (s ∷ filter test list) (filter test list)
    (omega arith) (omega arith)

pub enum_within : (endpoint : ℕ) (list : List Session) (payload : List ℕ) → length list ≤ SESSIONS →
    payload ≡ numbers_payload (numbers_on endpoint list) → length payload ≤ REPLY_ROOM
enum_within endpoint list payload few e =
    let numbers = numbers_on endpoint list in
    let own = fewer (is_on endpoint) list in
    omega (
      arith,
      ap length e,
      length-append (to_le_bytes w32 (length numbers)) (number_bytes numbers),
      bytes_long numbers,
      length-map (filter (is_on endpoint) list) (λ s. s.no.0),
    )
