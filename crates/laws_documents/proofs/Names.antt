-- Names of braces, as a plain reading finds them and as the readings of a text do.
use Rattle.std.proofs.Common.{◌≡◌, ℕ, ◌+◌, Bool, true, false, if◌then◌else◌, List, [], ◌∷◌, Option, Some, None, map, bytes_eq, refl, ap, sym, ◌∙◌}
use Rattle.std.specs.Bool.{Decides}
use Rattle.std.specs.List.{fold}
use Rattle.std.specs.Option.{option_or}
use Rattle.std.proofs.lemmas.Slice.Eq.{bytes_eq-Decides}
use Rattle.proto_meaning.specs.Names.{Name}
use Rattle.laws_documents.specs.Plain.{Pair, last_closed, last_from}
use Rattle.laws_documents.specs.Plain as plains
use Rattle.laws_documents.specs.Uses.{OpenBraces, has_name, named, named_next}
use Rattle.laws_documents.specs.Routes as routes

-- braces as they are read
abbrev pub opened_of : Pair → OpenBraces
opened_of p = record { name = p.name; node = p.node }

turned_by : (p q : Bool) (a b : Name) → Decides p (a ≡ b) → Decides q (b ≡ a) → p ≡ q
turned_by true true a b d e = refl
turned_by true false a b d e = sym (e.1 (sym (d.0 refl)))
turned_by false true a b d e = d.1 (sym (e.0 refl))
turned_by false false a b d e = refl

pub turned : (a b : Name) → bytes_eq a b ≡ bytes_eq b a
turned a b = turned_by (bytes_eq a b) (bytes_eq b a) a b (bytes_eq-Decides a b) (bytes_eq-Decides b a)

name_same : (name : Name) (o : Option Name) (p : Pair) → p.name ≡ o → has_name name o ≡ plains.has_name name p
name_same name None p e = sym (ap (λ m. plains.has_name name (record { name = m; node = p.node })) e)
name_same name (Some given) p e = turned given name ∙ sym (ap (λ m. plains.has_name name (record { name = m; node = p.node })) e)

or_assoc : (a b c : Option ℕ) → option_or a (option_or b c) ≡ option_or (option_or a b) c
or_assoc (Some x) b c = refl
or_assoc None b c = refl

or_none : (a : Option ℕ) → option_or a None ≡ a
or_none (Some x) = refl
or_none None = refl

one_named : (b : Bool) (n before : Option ℕ) → (if b then option_or n before else before) ≡ option_or (if b then n else None) before
one_named true n before = refl
one_named false n before = refl

named_from : (name : Name) (before : Option ℕ) (ps : List Pair) → fold (named_next name) before (map opened_of ps) ≡ option_or (last_closed name ps) before
named_from name before [] = refl
named_from name before (p ∷ ps) =
    named_from name (named_next name before (opened_of p)) ps
    ∙ ap (λ b. option_or (last_closed name ps) (if b then option_or p.node before else before)) (name_same name p.name p refl)
    ∙ ap (option_or (last_closed name ps)) (one_named (plains.has_name name p) p.node before)
    ∙ or_assoc (last_closed name ps) (if plains.has_name name p then p.node else None) before

-- a USE names the same
pub named_same : (name : Name) (ps : List Pair) → named name (map opened_of ps) ≡ last_closed name ps
named_same name ps = named_from name None ps ∙ or_none (last_closed name ps)

-- and so does a ROUTE
pub last_same : (at : ℕ) (name : Name) (ps : List Pair) → routes.last_from at name (map opened_of ps) ≡ last_from at name ps
last_same at name [] = refl
last_same at name (p ∷ ps) =
    ap (λ o. option_or o (if has_name name p.name then Some at else None)) (last_same (at + 1) name ps)
    ∙ ap (λ b. option_or (last_from (at + 1) name ps) (if b then Some at else None)) (name_same name p.name p refl)
