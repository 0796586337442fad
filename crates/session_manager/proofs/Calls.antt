-- What calls on a session answer, and what they leave.
use Rattle.std.proofs.Common.{◌≡◌, ℕ, Bool, true, false, List, refl, sym, ap, ◌∙◌, Some, None}
use Rattle.std.proofs.Common.{Ok, Err, set, if◌then◌else◌, eqb-true}
use Rattle.std.specs.List.{slice_get}
use Rattle.ca_base.specs.declared.codes.TheConstants.Hr as hr
use Rattle.ca_base.specs.Rows.{first}
use Rattle.ca_base.proofs.FoundPlaces.{found_passes}
use Rattle.ca_base.proofs.Numbered.{changed_there}
use Rattle.session_manager.specs.declared.changes.Change.{Change}
use Rattle.session_manager.specs.declared.session.Session.{Session}
use Rattle.session_manager.specs.Book.{IsList}
use Rattle.session_manager.specs.Changes.{Sets, after, change_rows, is_wrong}
use Rattle.session_manager.specs.Sessions.{SessionList, is_session, number_of, session_at, with_changed}

module _ (number : ℕ) (by : Change) (book : SessionList) where
  -- the session isn't there
  pub not_there : session_at number book.list ≡ None →
      Sets number (change_rows by) (after by) (Err hr.E_NOTFOUND) book book
  not_there e = record { says = sym (ap (λ o. first (change_rows by o)) e); now = refl }

  module _ (s : Session) (there : session_at number book.list ≡ Some s) where
    says_of : (b : Bool) → is_wrong by (Some s) ≡ b →
        first (change_rows by (session_at number book.list)) ≡ (if b then Some hr.E_INVALIDARG else None)
    says_of b w =
        ap (λ o. first (change_rows by o)) there ∙ ap (λ b. if b then Some hr.E_INVALIDARG else None) w

    -- the values are wrong for it
    pub wrong_there : is_wrong by (Some s) ≡ true →
        Sets number (change_rows by) (after by) (Err hr.E_INVALIDARG) book book
    wrong_there w = record { says = sym (says_of true w); now = refl }

    -- the session at its place is changed
    pub set_there : (at : ℕ) → IsList book → slice_get book.list at ≡ Some s → is_wrong by (Some s) ≡ false →
        Sets number (change_rows by) (after by) (Ok tt) book
        (record { list = set book.list at (after by s); made = book.made })
    set_there at h here w = record {
      says = sym (says_of false w);
      now = ap (λ (list : List Session). record { list = list; made = book.made }) same;
    }
      where
        own : s.no.0 ≡ number
        own = eqb-true s.no.0 number (found_passes (is_session number) book.list s there)

        same : set book.list at (after by s) ≡ (with_changed number (after by) book).list
        same = changed_there number_of (after by) 0 book.made at book.list s h.rise here
            ∙ ap (λ n. (with_changed n (after by) book).list) own
