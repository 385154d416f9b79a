-- What names mean by the tables, and the faults of a declaration itself.
use Rattle.std.proofs.Common.{◌≡◌, ℕ, Bool, true, false, List, ◌++◌, cond, Option, Some, None, Result, Ok, Err, refl, ap, sym, ◌∙◌, subst, ◌||◌}
use Rattle.std.specs.Prelude.{option_map, is_some, if◌then◌else◌, slice_get}
use Rattle.std.specs.Option.{option_or}
use Rattle.std.specs.Str.{bytes_eq}
use Rattle.std.proofs.lemmas.List.Folds.{find-append}
use Rattle.classic_tree.specs.declared.tree.ProtoText.{ProtoText, out-ProtoText}
use Rattle.x3d_values.specs.Names.{node_type_named}
use Rattle.x3d_values.specs.declared.node_type.NodeType.{NodeType}
use Rattle.proto_flat.specs.Fault.{fault}
use Rattle.proto_flat.specs.declared.fault.ExpandFaultKind.TheVariants.{ProtoTwice, EmptyBody}
use Rattle.proto_meaning.specs.Names.{Name}
use Rattle.proto_meaning.specs.Sight.{OfType, OfProto, Prototype, Sight, declared, meant, taken_by}
use Rattle.proto_meaning.specs.Texts.{is_known, finds_inside, has_node, unless_found, checked}
use Rattle.proto_resolver.specs.declared.scopes.KnownProto.{KnownProto}
use Rattle.proto_resolver.specs.declared.scopes.Scopes.{Scopes}
use Rattle.proto_resolver.specs.Held.{takes_of, found, seen, in_sight}
use Rattle.proto_resolver.specs.Standing.{Extends, Means, Shows}

pub or_means : (ps : List Prototype) (a b : Option KnownProto) (c d : Option Prototype) → Means ps a c → Means ps b d → Means ps (option_or a b) (option_or c d)
or_means ps None b None d h k = k
or_means ps None b (Some p) d h k = absurd h
or_means ps (Some e) b None d h k = absurd h
or_means ps (Some e) b (Some p) d h k = h

-- what is in sight of that name
pub sight_means : (ps : List Prototype) (scopes : Scopes) (s : Sight) (name : Name) → Shows ps scopes s → Means ps (in_sight scopes name) (declared name (s.here ++ s.outside))
sight_means ps scopes s name h =
    subst (Means ps (in_sight scopes name)) (sym (find-append (λ (p : Prototype). bytes_eq name p.name) s.here s.outside))
    (or_means ps (found scopes.here name) (seen scopes.outside.items name) (declared name s.here) (declared name s.outside) (h.here name) (h.outside name))

-- ---- names of a scope

means_some : (ps : List Prototype) (e : Option KnownProto) (p : Option Prototype) → Means ps e p → is_some e ≡ is_some p
means_some ps None None h = refl
means_some ps None (Some p) h = absurd h
means_some ps (Some e) None h = absurd h
means_some ps (Some e) (Some p) h = refl

some_mapped : {X Y : Type 0} (o : Option X) (f : X → Y) → is_some (option_map f o) ≡ is_some o
some_mapped None f = refl
some_mapped (Some x) f = refl

pub known_type : (name : Name) (s : Sight) → is_some (node_type_named name) ≡ true → true ≡ is_known name s
known_type name s e = sym (ap (λ b. b || is_some (declared name s.here)) e)

pub known_proto : {X : Type 0} (ps : List Prototype) (scopes : Scopes) (s : Sight) (name : Name) (o : Option X) (f : X → KnownProto) → is_some (node_type_named name) ≡ false → option_map f o ≡ found scopes.here name → Shows ps scopes s
    → is_some o ≡ is_known name s
known_proto ps scopes s name o f e is h =
    sym (some_mapped o f) ∙ ap is_some is ∙ means_some ps (found scopes.here name) (declared name s.here) (h.here name)
    ∙ sym (ap (λ b. b || is_some (declared name s.here)) e)

-- ---- words before braces

pub type_meant : (word : Name) (s : Sight) (t : NodeType) → node_type_named word ≡ Some t → meant word s ≡ Some (OfType t)
type_meant word s t e = ap (λ o. option_or (option_map OfType o) (option_map OfProto (declared word (s.here ++ s.outside)))) e

proto_meant : (word : Name) (s : Sight) → node_type_named word ≡ None → meant word s ≡ option_map OfProto (declared word (s.here ++ s.outside))
proto_meant word s e = ap (λ o. option_or (option_map OfType o) (option_map OfProto (declared word (s.here ++ s.outside)))) e

none_means : (ps : List Prototype) (e : Option KnownProto) (p : Option Prototype) → Means ps e p → e ≡ None → option_map OfProto p ≡ None
none_means ps None None h is = refl
none_means ps None (Some p) h is = absurd h
none_means ps (Some e) p h is = absurd (some_none e is) where
  some_none : (e : KnownProto) → Some e ≡ None → ⊥
  some_none e is = subst (λ (o : Option KnownProto). cond (is_some o) (Unit {0}) ⊥) is tt

pub nothing_meant : {X : Type 0} (ps : List Prototype) (scopes : Scopes) (s : Sight) (word : Name) (o : Option X) (f : X → KnownProto) → node_type_named word ≡ None → option_map f o ≡ in_sight scopes word → o ≡ None → Shows ps scopes s
    → meant word s ≡ None
nothing_meant ps scopes s word o f typed e is h =
    proto_meant word s typed ∙ none_means ps (in_sight scopes word) (declared word (s.here ++ s.outside)) (sight_means ps scopes s word h) (sym e ∙ ap (option_map f) is)

some_means : (ps : List Prototype) (e : KnownProto) (o : Option KnownProto) (p : Option Prototype) → Means ps o p → o ≡ Some e →
    ((all : List Prototype) → Extends ps all → option_map OfProto p ≡ option_map OfProto (slice_get all e.number)) × (Some (takes_of e) ≡ taken_by (option_map OfProto p))
some_means ps e o p h is = by_cases p (subst (λ x. Means ps x p) is h) where
  by_cases : (q : Option Prototype) → Means ps (Some e) q →
      ((all : List Prototype) → Extends ps all → option_map OfProto q ≡ option_map OfProto (slice_get all e.number)) × (Some (takes_of e) ≡ taken_by (option_map OfProto q))
  by_cases None k = absurd k
  by_cases (Some q) k = (λ all x. sym (ap (option_map OfProto) (x e.number q k.0)), ap Some (sym k.1))

pub instance_meant : {X : Type 0} (ps : List Prototype) (scopes : Scopes) (s : Sight) (word : Name) (o : Option X) (f : X → KnownProto) (x : X) → node_type_named word ≡ None → option_map f o ≡ in_sight scopes word → o ≡ Some x → Shows ps scopes s →
    ((all : List Prototype) → Extends ps all → meant word s ≡ option_map OfProto (slice_get all (f x).number)) × (Some (takes_of (f x)) ≡ taken_by (meant word s))
instance_meant ps scopes s word o f x typed e is h =
    let k = some_means ps (f x) (in_sight scopes word) (declared word (s.here ++ s.outside)) (sight_means ps scopes s word h) (sym e ∙ ap (option_map f) is) in
    (λ all y. proto_meant word s typed ∙ k.0 all y, k.1 ∙ ap taken_by (sym (proto_meant word s typed)))

-- ---- the faults of a declaration itself

pub checked_as : (p : ProtoText) (s : Sight) (known : Bool) (found : Result Bool ℕ) (any : Bool) → is_known (out-ProtoText p).name s ≡ known
    → finds_inside (out-ProtoText p).interface (out-ProtoText p).body (out-ProtoText p).name false ≡ found → has_node (out-ProtoText p).body ≡ any
    → (if known then Err (fault ProtoTwice (out-ProtoText p).line) else unless_found found (if any then Ok tt else Err (fault EmptyBody (out-ProtoText p).line))) ≡ checked p s
unfolding checked
checked_as p s known found any e f g =
    sym (ap (λ b. if b then Err (fault ProtoTwice (out-ProtoText p).line) else unless_found (finds_inside (out-ProtoText p).interface (out-ProtoText p).body (out-ProtoText p).name false) (if has_node (out-ProtoText p).body then Ok tt else Err (fault EmptyBody (out-ProtoText p).line))) e
    ∙ ap (λ r. if known then Err (fault ProtoTwice (out-ProtoText p).line) else unless_found r (if has_node (out-ProtoText p).body then Ok tt else Err (fault EmptyBody (out-ProtoText p).line))) f
    ∙ ap (λ b. if known then Err (fault ProtoTwice (out-ProtoText p).line) else unless_found found (if b then Ok tt else Err (fault EmptyBody (out-ProtoText p).line))) g)
