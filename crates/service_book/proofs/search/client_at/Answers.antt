use Rattle.std.proofs.Common.{◌≡◌, ℕ, ◌==◌, ◌&&◌, List, false, get_or, ap, ap₂, rules, arith}
use Rattle.ca_machine.specs.declared.state.Client.{Client}
use Rattle.ca_machine.specs.State.{is_client_of}
use Rattle.service_book.proofs.SortedSearch.{parts, place_found, place_other, place_past, says_no, says_yes}
use Rattle.service_book.proofs.search.client_at.Goals as goal
use Rattle.service_book.proofs.search.client_at.Goals.{then-ne-via-then-ne, then-ne-via-else-ne+then-ne-2}

abbrev number : Client → ℕ
number x = x.client.0

-- a client of another number isn't the one of a call
another : (conn n : ℕ) (y : Client) → (y.client.0 == n) ≡ false → is_client_of conn n y ≡ false
another conn n y e = ap (λ b. b && y.conn.0 == conn) e

another_at : (conn n : ℕ) (xs : List Client) (at : ℕ) (d : Client) → ((get_or xs at d).client.0 == n) ≡ false →
    is_client_of conn n (get_or xs at d) ≡ false
another_at conn n xs at d e = another conn n (get_or xs at d) e

pub returns-then-at-clients : goal.returns-then-at-clients
returns-then-at-clients c =
    let n = c.args.client.0 in
    let conn = c.args.conn.0 in
    let xs = c.args.clients.now in
    let at = c.partition_point-at.result in
    place_past number 0 n xs at (is_client_of conn n) (another conn n) c.requires c.partition_point-at.ensures.bound
    (parts number 0 n xs at c.requires c.partition_point-at.ensures.partitioned (λ a r q k. search rules)) (omega arith)

pub returns-then-ne : goal.returns-then-ne
returns-then-ne c =
    let n = c.args.client.0 in
    let conn = c.args.conn.0 in
    let xs = c.args.clients.now in
    let at = c.partition_point-at.result in
    let point = parts number 0 n xs at c.requires c.partition_point-at.ensures.partitioned
    (λ a r q k. search rules) in
    elim c.then-ne.branch [
      | then-ne-via-then-ne w ↦
          place_other number 0 n xs at (is_client_of conn n) (another conn n) c.requires
          c.partition_point-at.ensures.bound point _ c.if-at-clients.false
          (another_at conn n xs at _ (says_no _ w.if-ne.ensures))
      | then-ne-via-else-ne+then-ne-2 w ↦
          place_other number 0 n xs at (is_client_of conn n) (another conn n) c.requires
          c.partition_point-at.ensures.bound point _ c.if-at-clients.false
          (ap₂ (λ a b. a && b) (says_yes _ w.if-ne.ensures) (says_no _ w.if-ne-2.ensures))
    ]

pub returns : goal.returns
returns c =
    let n = c.args.client.0 in
    let conn = c.args.conn.0 in
    let xs = c.args.clients.now in
    let at = c.partition_point-at.result in
    place_found number 0 n xs at (is_client_of conn n) (another conn n) c.requires c.partition_point-at.ensures.bound
    (parts number 0 n xs at c.requires c.partition_point-at.ensures.partitioned (λ a r q k. search rules))
    _ c.if-at-clients.false
    (ap₂ (λ a b. a && b) (says_yes _ c.if-ne.ensures) (says_yes _ c.if-ne-2.ensures))
