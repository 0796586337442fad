-- What holds of sessions holds after each change of the list.
use Rattle.std.proofs.Common.{◌≡◌, ℕ, ◌+◌, ◌<◌, ◌≤◌, nat_le, nat_lt, List, [], ◌∷◌, ◌++◌, length, Bool, true, false}
use Rattle.std.proofs.Common.{Some, refl, sym, ap, subst, arith, set}
use Rattle.std.specs.List.{AllByRecursion, items_where_true, slice_get}
use Rattle.std.proofs.lemmas.Bool.{or_parts}
use Rattle.std.proofs.lemmas.List.{length-set, length-append}
use Rattle.std.proofs.lemmas.List.Elements.{All-set}
use Rattle.ca_base.specs.declared.limits.TheConstants.{MAX_COUNT, MAX_LEVEL, SESSIONS}
use Rattle.ca_base.specs.Numbered.{Rise}
use Rattle.ca_base.proofs.Numbered.{each_push, each_set, rise_last, rise_lower, rise_push, rise_set}
use Rattle.session_manager.specs.declared.changes.Change.{Change}
use Rattle.session_manager.specs.declared.changes.Change.TheVariants as change
use Rattle.session_manager.specs.declared.session.Session.{Session}
use Rattle.session_manager.specs.Changes.{after, is_wrong}
use Rattle.session_manager.specs.Book.{IsList, IsSession}
use Rattle.session_manager.specs.Sessions.{number_of}
use borrow.Author.Tests.{ltb-false}

-- ---- some of them

rise_kept : (chosen : List Bool) (low last : ℕ) (list : List Session) → Rise number_of low last list →
    Rise number_of low last (items_where_true chosen list)
rise_kept [] low last list r = rise_last number_of low last list r
rise_kept (b ∷ chosen) low last [] r = r
rise_kept (true ∷ chosen) low last (s ∷ list) r = (r.0, rise_kept chosen s.no.0 last list r.1)
rise_kept (false ∷ chosen) low last (s ∷ list) r =
    let k = r.0 in
    rise_lower number_of s.no.0 low last (items_where_true chosen list) (omega arith)
    (rise_kept chosen s.no.0 last list r.1)

each_kept : (chosen : List Bool) (list : List Session) → AllByRecursion IsSession list →
    AllByRecursion IsSession (items_where_true chosen list)
each_kept [] list h = tt
each_kept (b ∷ chosen) [] h = tt
each_kept (true ∷ chosen) (x ∷ list) h = (h.0, each_kept chosen list h.1)
each_kept (false ∷ chosen) (x ∷ list) h = each_kept chosen list h.1

fewer_kept : (chosen : List Bool) (list : List Session) → length (items_where_true chosen list) ≤ length list
fewer_kept [] list = omega arith
fewer_kept (b ∷ chosen) [] = omega arith
fewer_kept (true ∷ chosen) (x ∷ list) = let l = fewer_kept chosen list in omega arith
fewer_kept (false ∷ chosen) (x ∷ list) = let l = fewer_kept chosen list in omega arith

-- ---- the list after a change, a join and some that went

pub list_set : (list : List Session) (made at : ℕ) (s new : Session) → IsList (record { list = list; made = made }) →
    slice_get list at ≡ Some s → number_of new ≡ number_of s → IsSession new →
    IsList (record { list = set list at new; made = made })
list_set list made at s new h e n k = record {
  rise = rise_set number_of 0 made at list s new h.rise e n;
  each = each_set IsSession at list new h.each k;
  few = let few = h.few in omega (arith, length-set list at new);
  made = h.made;
}

pub list_push : (list : List Session) (made : ℕ) (new : Session) → IsList (record { list = list; made = made }) →
    length list < SESSIONS → made < MAX_COUNT → new.no.0 ≡ made + 1 → IsSession new →
    IsList (record { list = list ++ new ∷ []; made = made + 1 })
list_push list made new h room count n k = record {
  rise = subst (λ m. Rise number_of 0 m (list ++ new ∷ [])) n
      (rise_push number_of 0 made list new (omega (arith, n)) h.rise);
  each = each_push IsSession list new h.each k;
  few = omega (arith, length-append list (new ∷ []));
  made = omega arith;
}

pub list_kept : (chosen : List Bool) (list kept : List Session) (made : ℕ) →
    IsList (record { list = list; made = made }) → kept ≡ items_where_true chosen list →
    IsList (record { list = kept; made = made })
list_kept chosen list kept made h e = record {
  rise = subst (Rise number_of 0 made) (sym e) (rise_kept chosen 0 made list h.rise);
  each = subst (AllByRecursion IsSession) (sym e) (each_kept chosen list h.each);
  few = let few = h.few in let fewer = fewer_kept chosen list in omega (arith, ap length e);
  made = h.made;
}

-- ---- a session after a change of right values

pub is_session_after : (by : Change) (s : Session) → IsSession s → is_wrong by (Some s) ≡ false →
    IsSession (after by s)
is_session_after (change.Level level) s h right = record {
  level = ltb-false MAX_LEVEL level right;
  channels = h.channels;
  least = h.least;
  most = h.most;
  name = h.name;
}
is_session_after (change.Channel channel level) s h right =
    let low : level ≤ MAX_LEVEL =
    ltb-false MAX_LEVEL level (or_parts (nat_le s.count channel) (nat_lt MAX_LEVEL level) right).1 in
    record {
      level = h.level;
      channels = All-set (λ l. l ≤ MAX_LEVEL) s.channels channel level low h.channels;
      least = h.least;
      most = h.most;
      name = h.name;
    }
is_session_after (change.Mute mute) s h right = h
is_session_after (change.Display text) s h right = h
is_session_after (change.Icon text) s h right = h
is_session_after (change.Grouping guid) s h right = h

pub number_after : (by : Change) (s : Session) → number_of (after by s) ≡ number_of s
number_after (change.Level level) s = refl
number_after (change.Mute mute) s = refl
number_after (change.Channel channel level) s = refl
number_after (change.Display text) s = refl
number_after (change.Icon text) s = refl
number_after (change.Grouping guid) s = refl
