-- A prototype that is declared: it has the next number, and stands for its tree.
use Rattle.std.proofs.Common.{◌≡◌, ◌⊎◌, inl, inr, ℕ, suc, ◌+◌, Bool, true, false, List, [], ◌∷◌, ◌++◌, cond, length, Option, Some, None, Result, Ok, Err, refl, ap, sym, ◌∙◌, subst, ◌||◌}
use Prim.Native.Nat.{zero}
use Rattle.std.specs.Prelude.{is_some, slice_get, if◌then◌else◌}
use Rattle.std.specs.Option.{option_or}
use Rattle.std.specs.Str.{bytes_eq}
use Rattle.std.proofs.lemmas.List.{length-append}
use Rattle.std.proofs.lemmas.List.Folds.{find-append}
use Rattle.std.proofs.lemmas.Slice.Eq.{bytes_eq-Decides}
use Rattle.classic_tree.specs.declared.tree.ProtoText.{ProtoText, out-ProtoText}
use Rattle.x3d_values.specs.Names.{node_type_named}
use Rattle.proto_flat.specs.Fault.{fault}
use Rattle.proto_flat.specs.declared.fault.ExpandFault.{ExpandFault}
use Rattle.proto_flat.specs.declared.fault.ExpandFaultKind.TheVariants.{ProtoTwice, EmptyBody}
use Rattle.proto_meaning.specs.Names.{Name}
use Rattle.proto_meaning.specs.Sight.{Prototype, Sight, and_see, declared, opened}
use Rattle.proto_meaning.specs.Flat as flat
use Rattle.proto_meaning.specs.Texts.{closed, has_node, finds_inside, unless_found, checked, enters, declares, sees_inside}
use Rattle.proto_meaning.proofs.Equations.{proto-sees}
use Rattle.proto_meaning.specs.declared.tree.ProtoTree.{ProtoTree}
use Rattle.proto_meaning.specs.trees.Resolved.{Seen}
use Rattle.proto_resolver.specs.declared.scopes.KnownProto.{KnownProto}
use Rattle.proto_resolver.specs.declared.scopes.Table.{Table}
use Rattle.proto_resolver.specs.declared.scopes.TakenNames.{TakenNames}
use Rattle.proto_resolver.specs.declared.resolver.Resolver.{Resolver}
use Rattle.proto_resolver.specs.Held.{Entries, with_entry, found, seen}
use Rattle.proto_resolver.specs.Standing.{Extends, IsOf, TreesStand, Means, Shows}
use Rattle.proto_resolver.specs.Steps.{IsScopeOpen}
use Rattle.proto_resolver.proofs.Names.{or_means}
use Rattle.proto_resolver.proofs.Standing.{extends_then, extends_one}

-- ---- a list with one more

abbrev is_there : {X : Type 0} → Option X → Type 0
is_there None = ⊥
is_there (Some x) = Unit {0}

pub none_some : {X : Type 0} (x : X) → None ≡ Some x → ⊥
none_some {X} x e = subst (λ (o : Option X). is_there o) (sym e) tt

abbrev or_this : {X : Type 0} → X → Option X → X
or_this x None = x
or_this x (Some y) = y

pub same_some : {X : Type 0} (x y : X) → Some x ≡ Some y → x ≡ y
same_some x y e = ap (or_this x) e

one_more : {X : Type 0} (xs : List X) (x : X) (n : ℕ) (y : X) → slice_get (xs ++ x ∷ []) n ≡ Some y → (slice_get xs n ≡ Some y) ⊎ ((n ≡ length xs) × (x ≡ y))
one_more [] x zero y e = inr (refl, same_some x y e)
one_more [] x (suc n) y e = absurd (none_some y e)
one_more (a ∷ xs) x zero y e = inl e
one_more (a ∷ xs) x (suc n) y e = by_rest (one_more xs x n y e) where
  by_rest : (slice_get xs n ≡ Some y) ⊎ ((n ≡ length xs) × (x ≡ y)) → (slice_get xs n ≡ Some y) ⊎ ((suc n ≡ length (a ∷ xs)) × (x ≡ y))
  by_rest (inl h) = inl h
  by_rest (inr h) = inr (ap suc h.0, h.1)

pub last_one : {X : Type 0} (xs : List X) (x : X) → slice_get (xs ++ x ∷ []) (length xs) ≡ Some x
last_one [] x = refl
last_one (a ∷ xs) x = last_one xs x

-- ---- prototypes with one more

is_of_more : (ps all : List Prototype) (t : ProtoTree) (p : Prototype) → Extends ps all → IsOf ps t p → IsOf all t p
is_of_more ps all t p x h = record {
  name = h.name;
  interface = h.interface;
  instance = λ more y given put. h.instance more (extends_then ps all more x y) given put;
}

pub stands_one : (ps : List Prototype) (trees : List ProtoTree) (p : Prototype) (t : ProtoTree) → TreesStand ps trees → IsOf (ps ++ p ∷ []) t p → TreesStand (ps ++ p ∷ []) (trees ++ t ∷ [])
stands_one ps trees p t h is = record {
  count = length-append ps (p ∷ []) ∙ ap (λ n. n + 1) h.count ∙ sym (length-append trees (t ∷ []));
  each = λ n x e. by_place n x (one_more trees t n x e);
} where
  by_place : (n : ℕ) (x : ProtoTree) → (slice_get trees n ≡ Some x) ⊎ ((n ≡ length trees) × (t ≡ x)) → (q : Prototype) × (slice_get (ps ++ p ∷ []) n ≡ Some q) × IsOf (ps ++ p ∷ []) x q
  by_place n x (inl e) =
      let old = h.each n x e in
      (old.0, extends_one ps p n old.0 old.1, is_of_more ps (ps ++ p ∷ []) x old.0 (λ k q. extends_one ps p k q) old.2)
  by_place n x (inr e) =
      (p, ap (slice_get (ps ++ p ∷ [])) (e.0 ∙ sym h.count) ∙ last_one ps p, subst (λ y. IsOf (ps ++ p ∷ []) y p) e.1 is)

-- ---- names with one more

or_none : {X : Type 0} (o : Option X) → option_or o None ≡ o
or_none None = refl
or_none (Some x) = refl

same_truth : (p q : Bool) → (p ≡ true → q ≡ true) → (q ≡ true → p ≡ true) → p ≡ q
same_truth true q k l = sym (k refl)
same_truth false true k l = l refl
same_truth false false k l = refl

turned : (a b : Name) → bytes_eq a b ≡ bytes_eq b a
turned a b =
    same_truth (bytes_eq a b) (bytes_eq b a) (λ h. (bytes_eq-Decides b a).1 (sym ((bytes_eq-Decides a b).0 h)))
    (λ h. (bytes_eq-Decides a b).1 (sym ((bytes_eq-Decides b a).0 h)))

one_name : (ps : List Prototype) (own name : Name) (e : KnownProto) (old : Option KnownProto) (here : Option Prototype) (p : Prototype) (b : Bool) → bytes_eq own name ≡ b
    → (bytes_eq own name ≡ true → here ≡ None) → Means ps old here → Means ps (Some e) (Some p)
    → Means ps (if b then Some e else old) (option_or here (cond b (Some p) None))
one_name ps own name e old here p true is fresh h k = subst (λ o. Means ps (Some e) (option_or o (Some p))) (sym (fresh is)) k
one_name ps own name e old here p false is fresh h k = subst (Means ps old) (sym (or_none here)) h

-- the entry of a new name
pub means_one : (ps : List Prototype) (own name : Name) (e : KnownProto) (entries : Entries) (here : List Prototype) (p : Prototype) → p.name ≡ own → declared own here ≡ None → Means ps (entries name) (declared name here) → Means ps (Some e) (Some p)
    → Means ps (with_entry own e entries name) (declared name (here ++ p ∷ []))
means_one ps own name e entries here p named fresh h k =
    subst (Means ps (with_entry own e entries name))
    (ap (λ b. option_or (declared name here) (cond b (Some p) None)) (turned own name ∙ ap (bytes_eq name) (sym named)) ∙ sym (find-append (λ (q : Prototype). bytes_eq name q.name) here (p ∷ [])))
    (one_name ps own name e (entries name) (declared name here) p (bytes_eq own name) refl (λ same. ap (λ n. declared n here) (sym ((bytes_eq-Decides own name).0 same)) ∙ fresh) h k)

-- ---- scopes that open

seen_one : (outer : List Table) (here : Table) (name : Name) → seen (outer ++ here ∷ []) name ≡ option_or (found here name) (seen outer name)
seen_one [] here name = sym (or_none (found here name))
seen_one (t ∷ ts) here name = ap (λ o. option_or o (found t name)) (seen_one ts here name) ∙ or_assoc (found here name) (seen ts name) (found t name) where
  or_assoc : (a b c : Option KnownProto) → option_or (option_or a b) c ≡ option_or a (option_or b c)
  or_assoc None b c = refl
  or_assoc (Some x) b c = refl

pub shows_opened : (ps : List Prototype) (old : Resolver) (before : TakenNames) (new : Resolver) (s : Sight) → IsScopeOpen old before new → Shows ps old.scopes s → Shows ps new.scopes (opened s)
shows_opened ps old before new s o h = record {
  here = λ name. subst (λ (f : Entries). Means ps (f name) None) (sym o.here) tt;
  outside = λ name. subst (λ (ts : List Table). Means ps (seen ts name) (declared name (s.here ++ s.outside))) (sym o.outside)
      (subst (λ e. Means ps e (declared name (s.here ++ s.outside))) (sym (seen_one old.scopes.outside.items old.scopes.here name))
      (subst (Means ps (option_or (found old.scopes.here name) (seen old.scopes.outside.items name))) (sym (find-append (λ (p : Prototype). bytes_eq name p.name) s.here s.outside))
      (or_means ps (found old.scopes.here name) (seen old.scopes.outside.items name) (declared name s.here) (declared name s.outside) (h.here name) (h.outside name))));
  taken = o.takes;
}

-- ---- what a declaration sees

pub sees_wrong : (p : ProtoText) (s : Sight) (e : ExpandFault) → checked p s ≡ Err e → (flat.proto p).sees s ≡ Err e
unfolding declares
sees_wrong p s e h = proto-sees p s ∙ ap (λ r. and_see r (λ (_ : Unit {0}). enters p s)) h

pub sees_right : (p : ProtoText) (s : Sight) (r : Seen) → checked p s ≡ Ok tt → sees_inside (out-ProtoText p).interface (out-ProtoText p).body (opened s) ≡ r → (flat.proto p).sees s ≡ and_see r (λ t. Ok (closed p s t))
unfolding declares enters
sees_right p s r h k =
    proto-sees p s ∙ ap (λ x. and_see x (λ (_ : Unit {0}). enters p s)) h ∙ ap (λ x. and_see x (λ t. Ok (closed p s t))) k

abbrev is_ok : {X : Type 0} → Result X ExpandFault → Type 0
is_ok (Ok x) = Unit {0}
is_ok (Err e) = ⊥

pub unknown : (p : ProtoText) (s : Sight) → checked p s ≡ Ok tt → declared (out-ProtoText p).name s.here ≡ None
unfolding checked
unknown p s h = by_known (is_some (node_type_named (out-ProtoText p).name)) (declared (out-ProtoText p).name s.here) h where
  by_known : (typed : Bool) (o : Option Prototype)
      → (if typed || is_some o then Err (fault ProtoTwice (out-ProtoText p).line)
      else unless_found (finds_inside (out-ProtoText p).interface (out-ProtoText p).body (out-ProtoText p).name false) (if has_node (out-ProtoText p).body then Ok tt else Err (fault EmptyBody (out-ProtoText p).line))) ≡ Ok tt
      → o ≡ None
  by_known true o e = absurd (subst (λ (r : Result (Unit {0}) ExpandFault). is_ok r) (sym e) tt)
  by_known false None e = refl
  by_known false (Some q) e = absurd (subst (λ (r : Result (Unit {0}) ExpandFault). is_ok r) (sym e) tt)
