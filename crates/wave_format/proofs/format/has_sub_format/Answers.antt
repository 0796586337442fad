use Rattle.std.proofs.Common.{◌≡◌, ℕ, Bool, true, not, ◌||◌, List, sym, ap, ◌∙◌}
use Rattle.std.proofs.lemmas.List.{take_rest}
use Rattle.std.specs.Str.{bytes_eq}
use Rattle.wave_format.specs.declared.layout.TheConstants.{SUB_FORMAT, SUB_FORMAT_AT}
use Rattle.wave_format.specs.Format.{is_extensible}
use Rattle.wave_format.specs.Fields.{extension_of}
use Rattle.wave_format.proofs.format.has_sub_format.Goals as goal

pub returns-else-not-is_extensible : goal.returns-else-not-is_extensible
returns-else-not-is_extensible c =
    let extensible : is_extensible c.args.fields.now ≡ true =
    sym c.is_extensible.ensures ∙ c.if-not-is_extensible.false in
    let same : Bool = bytes_eq (extension_of c.args.bytes.now).sub_format SUB_FORMAT in
    c.eq.ensures
    ∙ ap (λ (bytes : List ℕ). bytes_eq bytes SUB_FORMAT) (take_rest c.args.bytes.now SUB_FORMAT_AT)
    ∙ ap (λ (b : Bool). not b || same) (sym extensible)
