-- Streams that join.
use Rattle.std.proofs.Common.{◌≡◌, ℕ, ◌+◌, ◌<◌, ◌≤◌, ◌&&◌, nat_le, Bool, true, false, List}
use Rattle.std.proofs.Common.{[], ◌∷◌, ◌++◌, length, refl, sym}
use Rattle.std.proofs.Common.{zero, suc, get_or}
use Rattle.std.proofs.Common.{ap, ◌∙◌, Option, Some, None, set, if◌then◌else◌, is_none, arith}
use Rattle.std.specs.List.{slice_get}
use Rattle.std.specs.Option.{option_map_or}
use Rattle.std.proofs.lemmas.Bool.{leb-false}
use Rattle.std.proofs.lemmas.Option.{none-some}
use Rattle.ca_base.specs.declared.codes.Hr.{Hr}
use Rattle.ca_base.specs.declared.codes.TheConstants.Hr as hr
use Rattle.ca_base.specs.declared.limits.TheConstants.{MAX_CONNECTION_NAME, MAX_COUNT, MAX_LEVEL, SESSIONS}
use Rattle.ca_base.specs.Rows.{first}
use Rattle.ca_base.proofs.Numbered.{changed_there}
use Rattle.session_manager.specs.declared.session.TheConstants.{CHANNELS}
use Rattle.session_manager.specs.declared.session.Kept.{Kept}
use Rattle.session_manager.specs.declared.session.Session.{Session}
use Rattle.session_manager.specs.declared.session.SessionKey.{SessionKey}
use Rattle.session_manager.specs.Book.{IsList, IsSession}
use Rattle.session_manager.specs.Rows.{join_rows}
use Rattle.session_manager.specs.Sessions.{
  SessionList,
  first_level,
  joined,
  joined_to,
  new_session,
  number_joined,
  number_of as session_number,
  session_for,
  with_count,
}

-- a new session that no row refuses has its place, and its number
pub free_room : (key : SessionKey) (book viewed : SessionList) → book ≡ viewed → session_for key book.list ≡ None →
    first (join_rows key viewed) ≡ None → (length book.list < SESSIONS) × (book.made < MAX_COUNT)
free_room key book viewed same e free =
    by (nat_le SESSIONS (length book.list)) (nat_le MAX_COUNT book.made) refl refl
    (sym (ap (λ o. choice (is_none o && nat_le SESSIONS (length book.list))
    (is_none o && nat_le MAX_COUNT book.made)) e) ∙ ap (λ b. first (join_rows key b)) same ∙ free)
  where
    choice : Bool → Bool → Option Hr
    choice a b = if a then Some hr.SESSIONS_FULL else if b then Some hr.WORN else None

    by : (a b : Bool) → nat_le SESSIONS (length book.list) ≡ a → nat_le MAX_COUNT book.made ≡ b →
        choice a b ≡ None → (length book.list < SESSIONS) × (book.made < MAX_COUNT)
    by true b p q h = absurd (none-some hr.SESSIONS_FULL (sym h))
    by false true p q h = absurd (none-some hr.WORN (sym h))
    by false false p q h = (leb-false SESSIONS (length book.list) p, leb-false MAX_COUNT book.made q)

-- a new session is within limits
pub is_session_new : (number : ℕ) (key : SessionKey) (kept : Option Kept) (persist : Bool) (channels : ℕ) →
    1 ≤ channels → channels ≤ CHANNELS → first_level kept ≤ MAX_LEVEL → length key.name ≤ MAX_CONNECTION_NAME →
    IsSession (new_session number key kept persist channels)
is_session_new number key kept persist channels least most level name = record {
  level = level;
  channels = λ k d l. highest k d l;
  least = least;
  most = most;
  name = name;
}
  where
    highest : (k d : ℕ) → k < 4 → get_or (MAX_LEVEL ∷ MAX_LEVEL ∷ MAX_LEVEL ∷ MAX_LEVEL ∷ []) k d ≤ MAX_LEVEL
    highest zero d l = omega arith
    highest (suc zero) d l = omega arith
    highest (suc (suc zero)) d l = omega arith
    highest (suc (suc (suc zero))) d l = omega arith
    highest (suc (suc (suc (suc k)))) d l = absurd (omega arith)

-- and one that is joined
pub is_session_joined : (channels : ℕ) (s : Session) → 1 ≤ channels → channels ≤ CHANNELS → IsSession s →
    IsSession (with_count channels s)
is_session_joined channels s least most h = record {
  level = h.level;
  channels = h.channels;
  least = least;
  most = most;
  name = h.name;
}

module _ (key : SessionKey) (kept : Option Kept) (persist : Bool) (channels : ℕ) (book : SessionList) where
  pub joined_found : (at : ℕ) (s : Session) → IsList book → session_for key book.list ≡ Some s →
      slice_get book.list at ≡ Some s →
      record { list = set book.list at (with_count channels s); made = book.made }
      ≡ joined key kept persist channels book
  joined_found at s h e here =
      ap (λ (list : List Session). record { list = list; made = book.made })
      (changed_there session_number (with_count channels) 0 book.made at book.list s h.rise here)
      ∙ sym (ap (λ o. joined_to o key kept persist channels book) e)

  pub joined_new : session_for key book.list ≡ None →
      record {
        list = book.list ++ new_session (book.made + 1) key kept persist channels ∷ [];
        made = book.made + 1;
      } ≡ joined key kept persist channels book
  joined_new e = sym (ap (λ o. joined_to o key kept persist channels book) e)

-- its number
pub number_of : (key : SessionKey) (book : SessionList) (o : Option Session) → session_for key book.list ≡ o →
    option_map_or (λ s. s.no.0) o (book.made + 1) ≡ number_joined key book
number_of key book o e = sym (ap (λ o. option_map_or (λ s. s.no.0) o (book.made + 1)) e)
