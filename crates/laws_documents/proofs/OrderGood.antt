-- Walks where each node that is named was put in before, and outcomes that keep that.
use Rattle.std.proofs.Common.{◌≡◌, ℕ, suc, ◌+◌, ◌<◌, ◌≤◌, Bool, true, false, if◌then◌else◌, List, [], ◌∷◌, ◌++◌, length, Option, Some, None, Result, Ok, Err, subst, arith}
use Rattle.std.specs.List.{AllByRecursion}
use Rattle.proto_flat.specs.declared.fault.ExpandFault.{ExpandFault}
use Rattle.proto_flat.specs.declared.flat.FlatEnd.{FlatEnd}
use Rattle.proto_flat.specs.declared.flat.FlatEnd.TheVariants.{At, NoNode, NoField, WrongWay}
use Rattle.proto_flat.specs.declared.flat.FlatNode.{FlatNode}
use Rattle.proto_flat.specs.declared.flat.FlatRoute.{FlatRoute}
use Rattle.proto_meaning.specs.Limits.{Met, Outcome, follow, and_then}
use Rattle.proto_meaning.specs.Names.{Name, Filled, Stands, Braces, Scope}
use Rattle.proto_meaning.specs.Sight.{Put, Instance, Prototype, Sight, Look}
use Rattle.proto_meaning.specs.Flat.{Walk, Does, through}
use Rattle.laws_documents.specs.Order.{AreBelow, AreFieldsBelow, IsEndBelow, IsRouteBelow, IsValueBelow, nodes_in}
use Rattle.laws_documents.proofs.Lists.{IfSome, all_weaker}
use Rattle.classic_tree.specs.declared.tree.RawValue.{RawValue}
use Rattle.laws_documents.proofs.Sights as sights

-- ---- what names nodes

abbrev pub IsBelow : ℕ → ℕ → Type 0
IsBelow bound number = number < bound

abbrev pub AreEndsBelow : ℕ → List FlatEnd → Type 0
AreEndsBelow bound ends = AllByRecursion (IsEndBelow bound) ends

abbrev pub AreRoutesBelow : ℕ → List FlatRoute → Type 0
AreRoutesBelow bound routes = AllByRecursion (IsRouteBelow bound) routes

pub record IsStandsBelow (bound : ℕ) (s : Stands) : Type 0 where
  pub node : s.node < bound
  pub ends : (name : Name) → AreEndsBelow bound (s.ends name)

abbrev pub IsBracesBelow : ℕ → Braces → Type 0
IsBracesBelow bound b = IfSome (IsStandsBelow bound) b.stands

abbrev pub AreBracesBelow : ℕ → List Braces → Type 0
AreBracesBelow bound all = AllByRecursion (IsBracesBelow bound) all

abbrev pub IsFilledBelow : ℕ → Filled → Type 0
IsFilledBelow bound f = IfSome (IsValueBelow bound) f.value

abbrev pub AreFilledBelow : ℕ → List Filled → Type 0
AreFilledBelow bound filled = AllByRecursion (IsFilledBelow bound) filled

-- whatever all braces of the scope come to stand for then
abbrev pub EndsHold : ℕ → (List Braces → Name → List FlatEnd) → Type 0
EndsHold low ends = (bound : ℕ) → low ≤ bound → (all : List Braces) → AreBracesBelow bound all → (name : Name) → AreEndsBelow bound (ends all name)

abbrev pub RoutesHold : ℕ → (List Braces → List FlatRoute) → Type 0
RoutesHold low routes = (bound : ℕ) → low ≤ bound → (all : List Braces) → AreBracesBelow bound all → AreRoutesBelow bound (routes all)

pub record IsGoodScope (bound : ℕ) (s : Scope) : Type 0 where
  pub braces : AreBracesBelow bound s.braces
  pub routes : RoutesHold bound s.routes
  pub ends : EndsHold bound s.ends
  pub given : AreFilledBelow bound s.given

-- ---- a bound may grow

module _ (low high : ℕ) (grown : low ≤ high) where
  pub raise : (n : ℕ) → n < low → n < high
  raise n h = omega (arith, h, grown)

  pub raise_all : (ns : List ℕ) → AreBelow low ns → AreBelow high ns
  raise_all ns h = all_weaker (IsBelow low) (IsBelow high) raise ns h

  pub raise_end : (e : FlatEnd) → IsEndBelow low e → IsEndBelow high e
  raise_end (At n name) h = raise n h
  raise_end NoNode h = tt
  raise_end NoField h = tt
  raise_end WrongWay h = tt

  pub raise_ends : (es : List FlatEnd) → AreEndsBelow low es → AreEndsBelow high es
  raise_ends es h = all_weaker (IsEndBelow low) (IsEndBelow high) raise_end es h

  pub raise_routes : (rs : List FlatRoute) → AreRoutesBelow low rs → AreRoutesBelow high rs
  raise_routes rs h = all_weaker (IsRouteBelow low) (IsRouteBelow high) (λ r k. (raise_end r.source k.0, raise_end r.target k.1)) rs h

  raise_stands : (s : Option Stands) → IfSome (IsStandsBelow low) s → IfSome (IsStandsBelow high) s
  raise_stands None h = tt
  raise_stands (Some s) h = record { node = raise s.node h.node; ends = λ name. raise_ends (s.ends name) (h.ends name) }

  pub raise_braces : (all : List Braces) → AreBracesBelow low all → AreBracesBelow high all
  raise_braces all h = all_weaker (IsBracesBelow low) (IsBracesBelow high) (λ b k. raise_stands b.stands k) all h

  raise_if : (v : Option (RawValue ℕ)) → IfSome (IsValueBelow low) v → IfSome (IsValueBelow high) v
  raise_if None h = tt
  raise_if (Some v) h = raise_all (nodes_in v) h

  pub raise_filled : (filled : List Filled) → AreFilledBelow low filled → AreFilledBelow high filled
  raise_filled filled h = all_weaker (IsFilledBelow low) (IsFilledBelow high) (λ f k. raise_if f.value k) filled h

  pub raise_scope : (s : Scope) → IsGoodScope low s → IsGoodScope high s
  raise_scope s g = record {
    braces = raise_braces s.braces g.braces;
    routes = λ bound l all h. g.routes bound (omega (arith, grown, l)) all h;
    ends = λ bound l all h name. g.ends bound (omega (arith, grown, l)) all h name;
    given = raise_filled s.given g.given;
  }

-- ---- nodes in order, the first with that number

abbrev pub AreOrdered : ℕ → List FlatNode → Type 0
AreOrdered first [] = Unit {0}
AreOrdered first (x ∷ xs) = AreFieldsBelow first x.fields × AreOrdered (suc first) xs

pub ordered_push : (first number : ℕ) (xs : List FlatNode) (x : FlatNode) → AreOrdered first xs → number ≡ first + length xs → AreFieldsBelow number x.fields → AreOrdered first (xs ++ x ∷ [])
ordered_push first number [] x h e k =
    let same : number ≡ first = omega (arith, e) in
    (subst (λ n. AreFieldsBelow n x.fields) same k, tt)
ordered_push first number (y ∷ ys) x h e k = (h.0, ordered_push (suc first) number ys x h.1 (omega (arith, e)) k)

-- ---- what was put in, and what is in sight

pub record IsGoodPut (p : Put) : Type 0 where
  pub nodes : AreOrdered 0 p.nodes
  pub helpers : AreBelow (length p.nodes) p.helpers

pub record IsGoodInstance (least : ℕ) (made : Instance) : Type 0 where
  pub put : IsGoodPut made.put
  pub grown : least ≤ length made.put.nodes
  pub node : made.node < length made.put.nodes
  pub ends : (name : Name) → AreEndsBelow (length made.put.nodes) (made.ends name)
  pub routes : AreRoutesBelow (length made.put.nodes) made.routes

abbrev pub Makes : ℕ → Result Instance ExpandFault → Type 0
Makes least (Ok made) = IsGoodInstance least made
Makes least (Err e) = Unit {0}

-- instances of the prototype keep it
abbrev pub IsGoodPrototype : Prototype → Type 0
IsGoodPrototype p = (given : List Filled) (put : Put) → IsGoodPut put → AreFilledBelow (length put.nodes) given → Makes (length put.nodes) (p.instance given put).comes

abbrev pub IsGoodSight : Sight → Type 0
IsGoodSight s = sights.IsGoodSight IsGoodPrototype s

abbrev pub count : Walk → ℕ
count w = length w.put.nodes

pub record IsGoodWalk (w : Walk) : Type 0 where
  pub put : IsGoodPut w.put
  pub scope : IsGoodScope (count w) w.scope
  pub sight : IsGoodSight w.sight

abbrev pub Sees : Result Sight ExpandFault → Type 0
Sees r = sights.Sees IsGoodPrototype r

abbrev pub KeepsSight : Look → Type 0
KeepsSight step = sights.KeepsSight IsGoodPrototype step

-- ---- outcomes

-- what a step gives holds by the number of nodes there are then
pub record IsDone {A : Type 0} (P : ℕ → A → Type 0) (least : ℕ) (a : A) (w : Walk) : Type 0 where
  pub told : P (count w) a
  pub good : IsGoodWalk w
  pub grown : least ≤ count w

abbrev pub Comes : {A : Type 0} → (ℕ → A → Type 0) → ℕ → Result (A × Walk) ExpandFault → Type 0
Comes P least (Ok p) = IsDone P least p.0 p.1
Comes P least (Err e) = Unit {0}

abbrev pub Ends : {A : Type 0} → (ℕ → A → Type 0) → ℕ → Outcome (A × Walk) → Type 0
Ends P least o = Comes P least o.comes

abbrev pub DoesWell : {A : Type 0} → (ℕ → A → Type 0) → Does A → Type 0
DoesWell P m = (w : Walk) → IsGoodWalk w → Ends P (count w) (m w)

abbrev pub Any : {A : Type 0} → ℕ → A → Type 0
Any bound a = Unit {0}

abbrev pub Keeps : {A : Type 0} → Does A → Type 0
Keeps m = DoesWell Any m

pub same : (n : ℕ) → n ≤ n
same n = omega arith

module _ {A : Type 0} (P : ℕ → A → Type 0) where
  -- nothing was put in
  pub done : (a : A) (w : Walk) → IsGoodWalk w → P (count w) a → IsDone P (count w) a w
  done a w g p = record { told = p; good = g; grown = same (count w) }

  pub ends_if : (least : ℕ) (b : Bool) (m n : Does A) (w : Walk) → Ends P least (m w) → Ends P least (n w) → Ends P least ((if b then m else n) w)
  ends_if least true m n w h k = h
  ends_if least false m n w h k = k

  comes_lower : (low high : ℕ) (c : Result (A × Walk) ExpandFault) → low ≤ high → Comes P high c → Comes P low c
  comes_lower low high (Ok p) e h = record { told = h.told; good = h.good; grown = omega (arith, e, h.grown) }
  comes_lower low high (Err e) k h = tt

  pub ends_lower : (low high : ℕ) (o : Outcome (A × Walk)) → low ≤ high → Ends P high o → Ends P low o
  ends_lower low high o e h = comes_lower low high o.comes e h

module _ {A B : Type 0} (P : ℕ → A → Type 0) (Q : ℕ → B → Type 0) (f : A → Does B) where
  then_comes : (least : ℕ) (met : List Met) (c : Result (A × Walk) ExpandFault) → Comes P least c → ((a : A) (v : Walk) → IsGoodWalk v → least ≤ count v → P (count v) a → Ends Q (count v) (f a v))
      → Ends Q least (follow met c (λ p. f p.0 p.1))
  then_comes least met (Ok p) h k = ends_lower Q least (count p.1) (f p.0 p.1) h.grown (k p.0 p.1 h.good h.grown h.told)
  then_comes least met (Err e) h k = tt

  pub ends_then : (least : ℕ) (o : Outcome (A × Walk)) → Ends P least o → ((a : A) (v : Walk) → IsGoodWalk v → least ≤ count v → P (count v) a → Ends Q (count v) (f a v)) → Ends Q least (and_then o (λ p. f p.0 p.1))
  ends_then least o h k = then_comes least o.met o.comes h k

module _ {A X : Type 0} (I : A → Type 0) (Q : ℕ → X → Type 0) (f : A → X → Does X)
    (k : (a : A) (x : X) (w : Walk) → I a → IsGoodWalk w → Q (count w) x → Ends Q (count w) (f a x w)) where
  pub ends_through : (xs : List A) (x : X) (w : Walk) → AllByRecursion I xs → IsGoodWalk w → Q (count w) x → Ends Q (count w) (through f xs x w)
  ends_through [] x w h g q = done Q x w g q
  ends_through (a ∷ xs) x w h g q = ends_then Q Q (through f xs) (count w) (f a x w) (k a x w h.0 g q) (λ y v i l r. ends_through xs y v h.1 i r)
