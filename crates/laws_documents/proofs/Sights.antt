-- Steps that keep what is in sight good, by any word of good prototypes.
use Rattle.std.proofs.Common.{Bool, true, false, if◌then◌else◌, List, [], ◌∷◌, ◌++◌, Option, Some, None, option_map, Result, Ok, Err, bytes_eq}
use Rattle.std.specs.List.{AllByRecursion}
use Rattle.std.specs.Option.{option_or}
use Rattle.x3d_values.specs.Names.{node_type_named}
use Rattle.x3d_values.specs.declared.node_type.NodeType.{NodeType}
use Rattle.proto_flat.specs.declared.fault.ExpandFault.{ExpandFault}
use Rattle.proto_meaning.specs.Names.{Name}
use Rattle.proto_meaning.specs.Sight.{Prototype, Sight, Look, Owner, OfType, OfProto, and_see, aside, declared, each, meant, no_names}
use Rattle.laws_documents.proofs.Lists.{IfSome, all_append}

module _ (Good : Prototype → Type 0) where
  pub record IsGoodSight (s : Sight) : Type 0 where
    pub here : AllByRecursion Good s.here
    pub outside : AllByRecursion Good s.outside

  abbrev pub Sees : Result Sight ExpandFault → Type 0
  Sees (Ok s) = IsGoodSight s
  Sees (Err e) = Unit {0}

  abbrev pub KeepsSight : Look → Type 0
  KeepsSight step = (s : Sight) → IsGoodSight s → Sees (step s)

  pub sees_then : (r : Result Sight ExpandFault) (f : Look) → Sees r → KeepsSight f → Sees (and_see r f)
  sees_then (Ok s) f h k = k s h
  sees_then (Err e) f h k = tt

  aside_sees : (s : Sight) (r : Result Sight ExpandFault) → Sees r → Sees (and_see r (λ t. Ok (record t { taken = s.taken })))
  aside_sees s (Ok t) h = record { here = h.here; outside = h.outside }
  aside_sees s (Err e) h = tt

  pub aside_keeps : (step : Look) → KeepsSight step → KeepsSight (aside step)
  aside_keeps step h s g = aside_sees s (step (record s { taken = no_names })) (h (record s { taken = no_names }) (record { here = g.here; outside = g.outside }))

  pub each_keeps : {A : Type 0} (f : A → Look) (xs : List A) → AllByRecursion (λ x. KeepsSight (f x)) xs → KeepsSight (each f xs)
  each_keeps f [] h s g = g
  each_keeps f (x ∷ xs) h s g = sees_then (f x s) (each f xs) (h.0 s g) (each_keeps f xs h.1)

  pub if_keeps : (b : Bool) (m n : Look) → KeepsSight m → KeepsSight n → KeepsSight (if b then m else n)
  if_keeps true m n h k = h
  if_keeps false m n h k = k

  pub if_sees : (b : Bool) (r q : Result Sight ExpandFault) → Sees r → Sees q → Sees (if b then r else q)
  if_sees true r q h k = h
  if_sees false r q h k = k

  -- ---- what a word means

  abbrev pub IsGoodOwner : Owner → Type 0
  IsGoodOwner (OfType t) = Unit {0}
  IsGoodOwner (OfProto p) = Good p

  found_by : (b : Bool) (p : Prototype) (o : Option Prototype) → Good p → IfSome Good o → IfSome Good (if b then Some p else o)
  found_by true p o h k = h
  found_by false p o h k = k

  found : (word : Name) (ps : List Prototype) → AllByRecursion Good ps → IfSome Good (declared word ps)
  found word [] h = tt
  found word (p ∷ ps) h = found_by (bytes_eq word p.name) p (declared word ps) h.0 (found word ps h.1)

  owner_good : (t : Option NodeType) (p : Option Prototype) → IfSome Good p → IfSome IsGoodOwner (option_or (option_map OfType t) (option_map OfProto p))
  owner_good (Some t) p h = tt
  owner_good None None h = tt
  owner_good None (Some p) h = h

  pub meant_good : (word : Name) (s : Sight) → IsGoodSight s → IfSome IsGoodOwner (meant word s)
  meant_good word s g = owner_good (node_type_named word) (declared word (s.here ++ s.outside)) (found word (s.here ++ s.outside) (all_append Good s.here s.outside g.here g.outside))
