use Rattle.std.proofs.Common.{◌≡◌, ℕ, ◌+◌, ◌≤◌, List, take, drop, length, None, sym, ap, ◌∙◌, arith}
use Rattle.std.specs.Int.{w32, from_le_bytes}
use Rattle.ca_base.specs.declared.limits.TheConstants.{LENGTH_SIZE}
use Rattle.ca_model.specs.Spelling.{stated_length}
use Rattle.call_wire.specs.Next.{IsWhole, stated_body}
use Rattle.call_wire.specs.Reading.{read_body}
use Rattle.call_wire.proofs.Frames.{event_read, none_read, never_valid}
use Rattle.call_wire.proofs.reading.next_event.Goals as goal

-- the stated length and body, as the code finds them
stated : (bs front : List ℕ) (n : ℕ) → front ≡ take LENGTH_SIZE bs → n ≡ from_le_bytes w32 front
    → n ≡ stated_length bs
stated bs front n e is = is ∙ ap (from_le_bytes w32) e

found : (bs rest : List ℕ) (n : ℕ) → rest ≡ drop LENGTH_SIZE bs → n ≡ stated_length bs → take n rest ≡ stated_body bs
found bs rest n e is = ap (take n) e ∙ ap (λ (k : ℕ). take k (drop LENGTH_SIZE bs)) is

pub returns-in-Ok : goal.returns-in-Ok
returns-in-Ok c =
    let bs = c.args.bytes.now in
    let n = c.from_le_bytes-length.result in
    let rest = c.in-Some.rest.now in
    let front = c.in-Some.ensures.cases in
    let is : n ≡ stated_length bs = stated bs c.in-Some.length.now n front.0 c.from_le_bytes-length.ensures in
    let body : take n rest ≡ stated_body bs = found bs rest n front.1 is in
    let long : LENGTH_SIZE + n ≤ length bs = omega (arith, front.2) in
    let whole : IsWhole bs = (omega arith, omega arith, omega arith) in
    let read = ap read_body (sym body) ∙ c.in-Ok.ensures.1 in
    let event = event_read c.in-Ok.event bs (λ i. omega (arith, c.type_inv.bytes i)) whole c.in-Ok.ensures.0 read in
    (event.0, long, ap (λ (k : ℕ). take (LENGTH_SIZE + k) bs) is ∙ event.1)

pub returns-then-length-eq0 : goal.returns-then-length-eq0
returns-then-length-eq0 c =
    let bs = c.args.bytes.now in
    let n = c.from_le_bytes-length.result in
    let front = c.in-Some.ensures.cases in
    let is : n ≡ stated_length bs = stated bs c.in-Some.length.now n front.0 c.from_le_bytes-length.ensures in
    let long : LENGTH_SIZE ≤ length bs = omega (arith, front.2) in
    never_valid bs long (λ some valid. omega (arith, is, some, valid, c.then-length-eq0.either))

pub returns-in-Err-Malformed : goal.returns-in-Err-Malformed
returns-in-Err-Malformed c =
    let bs = c.args.bytes.now in
    let n = c.from_le_bytes-length.result in
    let rest = c.in-Some.rest.now in
    let front = c.in-Some.ensures.cases in
    let is : n ≡ stated_length bs = stated bs c.in-Some.length.now n front.0 c.from_le_bytes-length.ensures in
    let body : take n rest ≡ stated_body bs = found bs rest n front.1 is in
    let long : LENGTH_SIZE + n ≤ length bs = omega (arith, front.2) in
    let whole : IsWhole bs = (omega arith, omega arith, omega arith) in
    let nothing : read_body (take n rest) ≡ None =
    rw c.in-Err-Malformed.field-0-is at c.in-Err-Malformed.ensures in
    none_read bs whole (ap read_body (sym body) ∙ nothing)
