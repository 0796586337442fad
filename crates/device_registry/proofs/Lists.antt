-- What holds of endpoints holds after each change of the list.
use Rattle.std.proofs.Common.{◌≡◌, ℕ, ◌<◌, ◌≤◌, List, [], ◌∷◌, ◌++◌, length, filter, Bool, true, false, Some}
use Rattle.std.proofs.Common.{sym, subst, arith, set, cond, not}
use Rattle.std.specs.List.{AllByRecursion, slice_get}
use Rattle.std.proofs.lemmas.List.{length-set, length-append}
use Rattle.ca_base.specs.declared.limits.TheConstants.{ENDPOINTS}
use Rattle.ca_base.specs.Numbered.{Rise}
use Rattle.ca_base.proofs.Numbered.{each_push, each_set, rise_lower, rise_push, rise_set}
use Rattle.device_registry.specs.declared.endpoint.Endpoint.{Endpoint}
use Rattle.device_registry.specs.Endpoints.{is_endpoint, number_of, removed}
use Rattle.device_registry.specs.Registry.{IsEndpoint, IsList}

-- ---- some of them

module _ (test : Endpoint → Bool) where
  rise_kept : (low last : ℕ) (list : List Endpoint) → Rise number_of low last list →
      Rise number_of low last (filter test list)
  rise_kept low last [] r = r
  rise_kept low last (e ∷ list) r = by (test e) (rise_kept e.no.0 last list r.1)
    where
      by : (b : Bool) → Rise number_of e.no.0 last (filter test list) →
          Rise number_of low last (cond b (e ∷ filter test list) (filter test list))
      by true h = (r.0, h)
      by false h = let k = r.0 in rise_lower number_of e.no.0 low last (filter test list) (omega arith) h

  each_kept : (list : List Endpoint) → AllByRecursion IsEndpoint list → AllByRecursion IsEndpoint (filter test list)
  each_kept [] h = tt
  each_kept (e ∷ list) h = by (test e) (each_kept list h.1)
    where
      by : (b : Bool) → AllByRecursion IsEndpoint (filter test list) →
          AllByRecursion IsEndpoint (cond b (e ∷ filter test list) (filter test list))
      by true k = (h.0, k)
      by false k = k

-- ---- the list after a change, one more and some that went

pub list_set : (list : List Endpoint) (last at : ℕ) (e new : Endpoint) → IsList (record { list = list; last = last }) →
    slice_get list at ≡ Some e → number_of new ≡ number_of e → IsEndpoint new →
    IsList (record { list = set list at new; last = last })
list_set list last at e new h s n k = record {
  rise = rise_set number_of 0 last at list e new h.rise s n;
  each = each_set IsEndpoint at list new h.each k;
  few = let few = h.few in omega (arith, length-set list at new);
}

pub list_push : (list : List Endpoint) (last : ℕ) (new : Endpoint) → IsList (record { list = list; last = last }) →
    length list < ENDPOINTS → last < new.no.0 → IsEndpoint new →
    IsList (record { list = list ++ new ∷ []; last = new.no.0 })
list_push list last new h room l k = record {
  rise = rise_push number_of 0 last list new l h.rise;
  each = each_push IsEndpoint list new h.each k;
  few = omega (arith, length-append list (new ∷ []));
}

pub list_removed : (number : ℕ) (list kept : List Endpoint) (last : ℕ) → IsList (record { list = list; last = last }) →
    kept ≡ removed number list → length kept ≤ length list → IsList (record { list = kept; last = last })
list_removed number list kept last h e fewer = record {
  rise = subst (Rise number_of 0 last) (sym e) (rise_kept (λ e. not (is_endpoint number e)) 0 last list h.rise);
  each = subst (AllByRecursion IsEndpoint) (sym e) (each_kept (λ e. not (is_endpoint number e)) list h.each);
  few = let few = h.few in omega arith;
}
