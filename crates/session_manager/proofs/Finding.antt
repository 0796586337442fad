-- The place of the session that a key names.
use Rattle.std.proofs.Common.{◌≡◌, ℕ, List, Some, None, get_or}
use Rattle.std.specs.List.{position, slice_get}
use Rattle.ca_base.proofs.FoundPlaces.{found_nowhere, found_there}
use Rattle.session_manager.specs.declared.session.Session.{Session}
use Rattle.session_manager.specs.declared.session.SessionKey.{SessionKey}
use Rattle.session_manager.specs.Sessions.{is_named, session_for}

module _ (key : SessionKey) (list searched : List Session) (e : searched ≡ list) where
  -- at no place none is found
  pub named_nowhere : None ≡ position (is_named key.endpoint.0 key.process key.guid.0) searched →
      session_for key list ≡ None
  named_nowhere = found_nowhere (is_named key.endpoint.0 key.process key.guid.0) list searched e

  -- what is read at the place is what is found
  pub named_there : (at : ℕ) (s : Session) →
      Some at ≡ position (is_named key.endpoint.0 key.process key.guid.0) searched → s ≡ get_or list at s →
      (session_for key list ≡ Some s) × (slice_get list at ≡ Some s)
  named_there at s = found_there (is_named key.endpoint.0 key.process key.guid.0) list searched at s e
