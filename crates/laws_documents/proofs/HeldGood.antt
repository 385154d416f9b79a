-- Walks whose nodes hold what the text may give them, and outcomes that keep that; and how many nodes
-- these put in.
use Rattle.std.proofs.Common.{◌≡◌, ℕ, ◌+◌, ◌≤◌, Bool, true, false, if◌then◌else◌, List, [], ◌∷◌, ◌++◌, length, Option, Result, Ok, Err, sym, subst, arith}
use Rattle.std.specs.List.{AllByRecursion, sum_by}
use Rattle.std.proofs.lemmas.List.Sums.{sum_by-append}
use Rattle.classic_tree.specs.declared.tree.RawValue.{RawValue}
use Rattle.proto_flat.specs.declared.fault.ExpandFault.{ExpandFault}
use Rattle.proto_flat.specs.declared.flat.FlatField.{FlatField}
use Rattle.proto_flat.specs.declared.flat.FlatNode.{FlatNode}
use Rattle.proto_meaning.specs.Limits.{Met, Outcome, follow, and_then, nodes_met}
use Rattle.proto_meaning.specs.Names.{Name, Field, Filled}
use Rattle.proto_meaning.specs.Sight.{Put, Instance, Prototype, Owner, OfType, OfProto}
use Rattle.proto_meaning.specs.Flat.{Walk, Does, Inside, fields_of, through}
use Rattle.x3d_values.specs.declared.node_type.NodeType.{NodeType}
use Rattle.laws_documents.proofs.Lists.{IfSome}
use Rattle.laws_documents.specs.PlainLaws.{AreApart}
use Rattle.laws_documents.proofs.Numbers.{Owns}
use Rattle.laws_documents.proofs.Sights.{IsGoodSight}

-- what is asked of the names that DEFs give, of the fields that Scripts declare, and of values
pub record Asked : Type 1 where
  pub name : Option Name → Type 0
  pub field : Field → Type 0
  pub value : RawValue ℕ → Type 0

module _ (asked : Asked) where
  pub record IsHeld (node : FlatNode) : Type 0 where
    pub named : asked.name node.name
    pub own : Owns node.node_type node.interface
    pub declared : AllByRecursion asked.field node.interface
    pub apart : AreApart (fields_of node.node_type) node.interface
    pub values : AllByRecursion (λ (f : FlatField). asked.value f.value) node.fields

  abbrev pub AreHeld : Put → Type 0
  AreHeld p = AllByRecursion IsHeld p.nodes

  abbrev pub IsFilled : Filled → Type 0
  IsFilled f = IfSome asked.value f.value

  abbrev pub AreFilled : List Filled → Type 0
  AreFilled filled = AllByRecursion IsFilled filled

  -- an instance puts in no more nodes than it met
  abbrev pub MakesBy : ℕ → List Met → Result Instance ExpandFault → Type 0
  MakesBy least met (Ok made) = AreHeld made.put × (length made.put.nodes ≤ least + sum_by nodes_met met)
  MakesBy least met (Err e) = Unit {0}

  abbrev pub IsGoodPrototype : Prototype → Type 0
  IsGoodPrototype p = (given : List Filled) (put : Put) → AreHeld put → AreFilled given → MakesBy (length put.nodes) (p.instance given put).met (p.instance given put).comes

  abbrev pub count : Walk → ℕ
  count w = length w.put.nodes

  pub record IsGoodWalk (w : Walk) : Type 0 where
    pub put : AreHeld w.put
    pub given : AreFilled w.scope.given
    pub sight : IsGoodSight IsGoodPrototype w.sight

  -- ---- outcomes

  pub record IsDone {A : Type 0} (P : A → Type 0) (least : ℕ) (met : List Met) (a : A) (w : Walk) : Type 0 where
    pub told : P a
    pub good : IsGoodWalk w
    pub grown : count w ≤ least + sum_by nodes_met met

  abbrev pub Comes : {A : Type 0} → (A → Type 0) → ℕ → List Met → Result (A × Walk) ExpandFault → Type 0
  Comes P least met (Ok p) = IsDone P least met p.0 p.1
  Comes P least met (Err e) = Unit {0}

  abbrev pub Ends : {A : Type 0} → (A → Type 0) → ℕ → Outcome (A × Walk) → Type 0
  Ends P least o = Comes P least o.met o.comes

  abbrev pub DoesWell : {A : Type 0} → (A → Type 0) → Does A → Type 0
  DoesWell P m = (w : Walk) → IsGoodWalk w → Ends P (count w) (m w)

  module _ {A : Type 0} (P : A → Type 0) where
    -- nothing was put in
    pub done : (a : A) (met : List Met) (w : Walk) → IsGoodWalk w → P a → IsDone P (count w) met a w
    done a met w g p = record { told = p; good = g; grown = omega arith }

    pub ends_if : (least : ℕ) (b : Bool) (m n : Does A) (w : Walk) → Ends P least (m w) → Ends P least (n w) → Ends P least ((if b then m else n) w)
    ends_if least true m n w h k = h
    ends_if least false m n w h k = k

    comes_behind : (least extra n : ℕ) (before met : List Met) (c : Result (A × Walk) ExpandFault) → n ≤ least + sum_by nodes_met before → Comes P (n + extra) met c → Comes P (least + extra) (before ++ met) c
    comes_behind least extra n before met (Ok p) e h = record { told = h.told; good = h.good; grown = omega (arith, e, h.grown, sum_by-append nodes_met before met) }
    comes_behind least extra n before met (Err x) e h = tt

    pub ends_behind : (least extra n : ℕ) (before : List Met) (o : Outcome (A × Walk)) → n ≤ least + sum_by nodes_met before → Ends P (n + extra) o → Ends P (least + extra) (record { met = before ++ o.met; comes = o.comes })
    ends_behind least extra n before o e h = comes_behind least extra n before o.met o.comes e h

  module _ {A B : Type 0} (P : A → Type 0) (Q : B → Type 0) (f : A → Does B) where
    then_comes : (least extra : ℕ) (met : List Met) (c : Result (A × Walk) ExpandFault) → Comes P least met c → ((a : A) (v : Walk) → IsGoodWalk v → P a → Ends Q (count v + extra) (f a v)) → Ends Q (least + extra) (follow met c (λ p. f p.0 p.1))
    then_comes least extra met (Ok p) h k = ends_behind Q least extra (count p.1) met (f p.0 p.1) h.grown (k p.0 p.1 h.good h.told)
    then_comes least extra met (Err e) h k = tt

    -- the second may put in some nodes more
    pub ends_then_more : (least extra : ℕ) (o : Outcome (A × Walk)) → Ends P least o → ((a : A) (v : Walk) → IsGoodWalk v → P a → Ends Q (count v + extra) (f a v)) → Ends Q (least + extra) (and_then o (λ p. f p.0 p.1))
    ends_then_more least extra o h k = then_comes least extra o.met o.comes h k

    pub ends_then : (least : ℕ) (o : Outcome (A × Walk)) → Ends P least o → ((a : A) (v : Walk) → IsGoodWalk v → P a → Ends Q (count v) (f a v)) → Ends Q least (and_then o (λ p. f p.0 p.1))
    ends_then least o h k = subst (λ n. Ends Q n (and_then o (λ p. f p.0 p.1))) (none least) (then_comes least 0 o.met o.comes h (λ a v g p. subst (λ n. Ends Q n (f a v)) (sym (none (count v))) (k a v g p))) where
      none : (n : ℕ) → n + 0 ≡ n
      none n = omega arith

  module _ {A X : Type 0} (I : A → Type 0) (Q : X → Type 0) (f : A → X → Does X) (k : (a : A) (x : X) (w : Walk) → I a → IsGoodWalk w → Q x → Ends Q (count w) (f a x w)) where
    pub ends_through : (xs : List A) (x : X) (w : Walk) → AllByRecursion I xs → IsGoodWalk w → Q x → Ends Q (count w) (through f xs x w)
    ends_through [] x w h g q = done Q x [] w g q
    ends_through (a ∷ xs) x w h g q = ends_then Q Q (through f xs) (count w) (f a x w) (k a x w h.0 g q) (λ y v i r. ends_through xs y v h.1 i r)

  abbrev pub Any : {A : Type 0} → A → Type 0
  Any a = Unit {0}

  -- ---- between braces

  -- what a node of that type declares stands behind the fields of the type
  pub record HasFields (t : NodeType) (fields : List Field) : Type 0 where
    pub more : List Field
    pub known : fields ≡ fields_of t ++ more
    pub own : Owns t more
    pub declared : AllByRecursion asked.field more
    pub apart : AreApart (fields_of t) more

  abbrev pub FieldsOf : Owner → List Field → Type 0
  FieldsOf (OfType t) fields = HasFields t fields
  FieldsOf (OfProto p) fields = Unit {0}

  pub record IsAmid (owner : Owner) (i : Inside) : Type 0 where
    pub owned : i.owner ≡ owner
    pub filled : AreFilled i.filled
    pub fields : FieldsOf owner i.fields
