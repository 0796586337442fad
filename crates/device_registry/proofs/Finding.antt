-- The place of an endpoint of a number.
use Rattle.std.proofs.Common.{◌≡◌, ℕ, zero, suc, ◌<◌, List, [], ◌∷◌, length, false, refl, ap, ◌∙◌, Option, Some}
use Rattle.std.proofs.Common.{None, is_none, get_or, arith, eqb-true}
use Rattle.std.specs.List.{position, slice_get}
use Rattle.ca_base.proofs.FoundPlaces as places
use Rattle.device_registry.specs.declared.endpoint.Endpoint.{Endpoint}
use Rattle.device_registry.specs.Endpoints.{endpoint_at, is_endpoint}

is_some_at : (list : List Endpoint) (at : ℕ) → at < length list → is_none (slice_get list at) ≡ false
is_some_at [] at l = absurd (omega (arith, l))
is_some_at (x ∷ list) zero l = refl
is_some_at (x ∷ list) (suc at) l = is_some_at list at (omega (arith, l))

module _ (number : ℕ) (list searched : List Endpoint) (same : searched ≡ list) where
  -- nothing is found if and only if there is no place
  pub found_none : (place : Option ℕ) → place ≡ position (is_endpoint number) searched →
      is_none (endpoint_at number list) ≡ is_none place
  found_none place e =
      by place (places.finds_place (is_endpoint number) list place (e ∙ ap (position (is_endpoint number)) same))
    where
      by : (place : Option ℕ) → places.FindsPlace (is_endpoint number) list place →
          is_none (endpoint_at number list) ≡ is_none place
      by None h = ap is_none h
      by (Some at) h = ap is_none h.1 ∙ is_some_at list at h.0

  -- at no place nothing is found
  pub found_nowhere : None ≡ position (is_endpoint number) searched → endpoint_at number list ≡ None
  found_nowhere = places.found_nowhere (is_endpoint number) list searched same

  -- what is read at the place is what is found
  pub found_there : (at : ℕ) (e : Endpoint) → Some at ≡ position (is_endpoint number) searched →
      e ≡ get_or list at e → (endpoint_at number list ≡ Some e) × (slice_get list at ≡ Some e)
  found_there at e = places.found_there (is_endpoint number) list searched at e same

-- its number is the one that was looked for
pub found_number : (number : ℕ) (list : List Endpoint) (e : Endpoint) → endpoint_at number list ≡ Some e →
    e.no.0 ≡ number
found_number number list e h = eqb-true e.no.0 number (places.found_passes (is_endpoint number) list e h)
