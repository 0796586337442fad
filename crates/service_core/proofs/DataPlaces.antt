-- What the look-up of a data call finds, and what it refuses.
use Rattle.std.proofs.Common.{◌≡◌, ℕ, Some, None, ap, eqb-true}
use Rattle.std.specs.List.{position}
use Rattle.ca_base.specs.declared.codes.Hr.{Hr}
use Rattle.ca_base.specs.declared.codes.TheConstants.Hr as hr
use Rattle.ca_base.specs.Rows.{first}
use Rattle.ca_stage.specs.Moves.{stream_at}
use Rattle.ca_machine.specs.Data.{data_rows}
use Rattle.service_board.specs.Lookups.{Says, client_call_rows}
use Rattle.stream_entries.specs.Search.{is_entry_of}
use Rattle.service_board.specs.declared.board.Board.{Board}
use Rattle.service_core.specs.DataCalls.{FindsEntry, RefusesData}
use Rattle.service_book.proofs.Finding.{found_at, none_at}
use Rattle.service_board.proofs.LookingUp.{no_stream, says_front, says_later, stream_there}

pub refuses_data : {D E : Type 0} (b : Board D E) (conn client : ℕ) (code : Hr) →
    Says b (client_call_rows conn client) (Some code) → RefusesData conn client b code
refuses_data b conn client code says call =
    says_front b (client_call_rows conn client) (λ st. data_rows call (stream_at client st.stage)) code says

module _ {D E : Type 0} (b : Board D E) (conn client : ℕ) (known : Says b (client_call_rows conn client) None) where
  pub without_entry : None ≡ position (is_entry_of client) b.entries.items →
      RefusesData conn client b hr.NOT_INITIALIZED
  without_entry e call =
      says_later b (client_call_rows conn client) (λ st. data_rows call (stream_at client st.stage))
      (Some hr.NOT_INITIALIZED) known
      (λ datas tally. ap (λ o. first (data_rows call o))
      (no_stream b client (none_at (is_entry_of client) b.entries.items e) datas tally))

  pub finds_entry : (at : ℕ) → Some at ≡ position (is_entry_of client) b.entries.items →
      FindsEntry conn client b at
  finds_entry at e =
      let f = found_at (is_entry_of client) b.entries.items at e in
      record {
        within = f.within;
        entry = f.member;
        here = f.here;
        client_is = eqb-true f.member.client.0 client f.passes;
        says = known;
        found = stream_there b client f.member f.found;
      }
