-- A field by its name, with its number and without.
use Rattle.std.proofs.Common.{◌≡◌, ℕ, ◌+◌, Bool, true, false, if◌then◌else◌, List, [], ◌∷◌, Option, Some, None, refl, ap, ◌∙◌}
use Rattle.std.specs.Prelude.{option_map}
use Rattle.std.specs.List.{find}
use Rattle.std.specs.Str.{bytes_eq}
use Rattle.proto_meaning.specs.Names.{Name, Field}
use Rattle.proto_meaning.specs.Flat.{numbered_from}
use Rattle.proto_parts.specs.declared.fields.KnownField.{KnownField}
use Rattle.proto_parts.specs.Fields.{field_named, numbered}

number-by : (b : Bool) (n : ℕ) (f : Field) (o : Option (ℕ × Field)) (p : Option Field) → option_map (λ (e : ℕ × Field). e.1) o ≡ p →
    option_map (λ (e : ℕ × Field). e.1) (if b then Some (n, f) else o) ≡ (if b then Some f else p)
number-by true n f o p is = refl
number-by false n f o p is = is

bare : (o : Option KnownField) (name : Name) → option_map (field_named name) o ≡ option_map (λ (e : ℕ × Field). e.1) (option_map (numbered name) o)
bare None name = refl
bare (Some k) name = refl

pub without-number : (n : ℕ) (name : Name) (fs : List Field) → option_map (λ (e : ℕ × Field). e.1) (numbered_from n name fs) ≡ find (λ (f : Field). bytes_eq f.name name) fs
without-number n name [] = refl
without-number n name (f ∷ fs) = number-by (bytes_eq f.name name) n f (numbered_from (n + 1) name fs) (find (λ (g : Field). bytes_eq g.name name) fs) (without-number (n + 1) name fs)

pub known-is : (name : Name) (fs : List Field) (o : Option KnownField) → option_map (numbered name) o ≡ numbered_from 0 name fs → option_map (field_named name) o ≡ find (λ (f : Field). bytes_eq f.name name) fs
known-is name fs o is = bare o name ∙ ap (option_map (λ (e : ℕ × Field). e.1)) is ∙ without-number 0 name fs
