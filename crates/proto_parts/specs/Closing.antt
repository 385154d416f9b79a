-- What a node holds when its braces close.
use Rattle.std.specs.Prelude.{List, Option, option_map}
use Rattle.std.specs.List.{filter_map}
use Rattle.proto_flat.specs.declared.flat.FlatField.{FlatField}
use Rattle.proto_meaning.specs.Names.{Filled}
use Rattle.proto_parts.specs.declared.given.GivenField.{GivenField}
use Rattle.proto_parts.specs.Given.{held}

-- as in `flat_node`
abbrev pub flat_fields : List Filled → List FlatField
flat_fields filled =
    filter_map (λ (f : Filled).
    option_map (λ v. record { line = f.line; number = f.number; value = v }) f.value) filled

abbrev pub flat_field : GivenField → Option FlatField
flat_field field =
    option_map (λ v. record { line = field.line; number = field.number; value = v })
    (held field.value)
