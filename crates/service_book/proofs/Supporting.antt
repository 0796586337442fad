-- What a format's bytes are to an endpoint's format, by what they spell.
use Rattle.std.proofs.Common.{◌≡◌, ℕ, ◌||◌, not, nat_le, List, true, false, Option, Some, None}
use Rattle.std.proofs.Common.{Ok, Err, refl, sym, ap, ◌∙◌, is_some}
use Rattle.std.specs.Option.{option_map_or}
use Rattle.ca_base.specs.declared.codes.TheConstants.Hr as hr
use Rattle.wave_format.specs.declared.format.Format.{Format}
use Rattle.wave_format.specs.declared.format.FormatFault.{FormatFault}
use Rattle.wave_format.specs.Format.{format_at, spelled, unless_fault}
use Rattle.wave_format.proofs.FormatLaws.{read-valid}
use Rattle.ca_machine.specs.Formats.{admits, fault_of, is_malformed}
use Rattle.service_book.specs.Formats.{Admitted, is_unsupported}

-- bytes that spell a format have no fault
spells : (v : Option ℕ) (s format : Format) → Ok format ≡ unless_fault v s → (v ≡ None) × (s ≡ format)
spells None s format e = (refl, cc)
spells (Some n) s format e = absurd cc

-- bytes with a fault
faults : (v : Option ℕ) (s : Format) (fault : FormatFault) → Err fault ≡ unless_fault v s → v ≡ Some fault.0
faults None s fault e = absurd cc
faults (Some n) s fault e =
    let same : fault ≡ record { 0 = n } = cc in
    ap (λ f. Some f.0) (sym same)

module _ (share : ℕ) (mix : Format) (bytes : List ℕ) where
  -- bytes that spell a format, by whether it is admitted
  pub reads_format : (format : Format) → Ok format ≡ format_at bytes →
      (is_malformed bytes ≡ false) × (is_unsupported share mix bytes ≡ not (admits share mix format)) ×
      (format ≡ spelled bytes)
  reads_format format e =
      let p = spells (fault_of bytes) (spelled bytes) format e in (
        ap (λ v. option_map_or (λ fault. nat_le fault 2) v false) p.0,
        ap (λ v. is_some v || not (admits share mix (spelled bytes))) p.0
            ∙ ap (λ f. not (admits share mix f)) p.1,
        sym p.1,
      )

  pub admits_format : (format : Format) → Ok format ≡ format_at bytes → true ≡ admits share mix format →
      Admitted (Ok (Some format)) share mix bytes
  admits_format format e a =
      let p = reads_format format e in (
        p.0,
        p.1 ∙ ap not (sym a),
        record { spells = p.2; valid = read-valid bytes format (sym e); admits = sym a },
      )

  pub admits_none : (format : Format) → Ok format ≡ format_at bytes → false ≡ admits share mix format →
      Admitted (Ok None) share mix bytes
  admits_none format e a = let p = reads_format format e in (p.0, p.1 ∙ ap not (sym a))

  pub admits_fault : (fault : FormatFault) → Err fault ≡ format_at bytes → nat_le fault.0 2 ≡ false →
      Admitted (Ok None) share mix bytes
  admits_fault fault e beyond =
      let p = faults (fault_of bytes) (spelled bytes) fault e in (
        ap (λ v. option_map_or (λ n. nat_le n 2) v false) p ∙ beyond,
        ap (λ v. is_some v || not (admits share mix (spelled bytes))) p,
      )

  pub is_no_format : (fault : FormatFault) → Err fault ≡ format_at bytes → nat_le fault.0 2 ≡ true →
      Admitted (Err hr.E_INVALIDARG) share mix bytes
  is_no_format fault e within =
      let p = faults (fault_of bytes) (spelled bytes) fault e in
      (ap (λ v. option_map_or (λ n. nat_le n 2) v false) p ∙ within, refl)
