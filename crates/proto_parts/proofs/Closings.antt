-- The fields of a node that have a value.
use Rattle.std.proofs.Common.{◌≡◌, List, [], ◌∷◌, ◌++◌, map, Option, Some, None, refl, ap, sym, ◌∙◌}
use Rattle.std.specs.List.{cons_option, filter_map}
use Rattle.std.proofs.lemmas.List.{append-nil, append_assoc}
use Rattle.proto_flat.specs.declared.flat.FlatField.{FlatField}
use Rattle.proto_meaning.specs.Names.{Name}
use Rattle.proto_parts.specs.declared.given.GivenField.{GivenField}
use Rattle.proto_parts.specs.Given.{filled_of}
use Rattle.proto_parts.specs.Closing.{flat_field, flat_fields}

-- those of a table by what stands in it
pub flat-values : {K : Type 0} (now : K → Name) (es : List (K × GivenField)) → flat_fields (map (λ e. filled_of (now e.0) e.1) es) ≡ filter_map flat_field (map (λ (e : K × GivenField). e.1) es)
flat-values now [] = refl
flat-values now (e ∷ es) = ap (cons_option (flat_field e.1)) (flat-values now es)

cons-first : (o : Option FlatField) (fields rest : List FlatField) → fields ++ cons_option o rest ≡ (fields ++ cons_option o []) ++ rest
cons-first None fields rest = ap (λ fs. fs ++ rest) (sym (append-nil fields))
cons-first (Some f) fields rest = sym (append_assoc fields (f ∷ []) rest)

-- the next field of what is left
pub next-field : (all fields made : List FlatField) (field : GivenField) (rest : List GivenField) → all ≡ fields ++ filter_map flat_field (field ∷ rest) → made ≡ fields ++ cons_option (flat_field field) [] →
    all ≡ made ++ filter_map flat_field rest
next-field all fields made field rest is grows =
    is ∙ cons-first (flat_field field) fields (filter_map flat_field rest) ∙ ap (λ fs. fs ++ filter_map flat_field rest) (sym grows)
