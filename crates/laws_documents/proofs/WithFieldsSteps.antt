-- Single steps of walks beside each other: the last node takes a name, fields and what a Script declares.
use Rattle.std.proofs.Common.{arith, length-append, ◌≡◌, ℕ, Bool, true, false, if◌then◌else◌, List, [], ◌∷◌, ◌++◌, length, Option, Some, None, Result, Ok, Err, refl, ap, sym, ◌∙◌, subst}
use Rattle.std.specs.Prelude.{◌&&◌, is_some, slice_get, slice_set}
use Rattle.std.specs.List.{list_all}
use Rattle.std.specs.Option.{option_map_or}
use Rattle.std.proofs.lemmas.List.{append_assoc}
use Rattle.x3d_values.specs.declared.node_type.NodeType.{NodeType}
use Rattle.classic_tree.specs.declared.tree.BodyItem.{BodyItem}
use Rattle.classic_tree.specs.declared.tree.BodyItem.TheOpen.{BodyItem-F, NodeText-F, Statement-F}
use Rattle.classic_tree.specs.declared.tree.Declaration.{Declaration}
use Rattle.classic_tree.specs.declared.tree.Given.{Given}
use Rattle.classic_tree.specs.declared.tree.Given.TheVariants as given
use Rattle.classic_tree.specs.declared.tree.NodeText.{NodeText, out-NodeText, out-roll-NodeText}
use Rattle.classic_tree.specs.declared.tree.NodeText.TheVariants as node_text
use Rattle.classic_tree.specs.declared.tree.ProtoText.{ProtoText}
use Rattle.classic_tree.specs.declared.tree.RouteText.{RouteText}
use Rattle.classic_tree.specs.declared.tree.Statement.{Statement, out-Statement, out-roll-Statement}
use Rattle.classic_tree.specs.declared.tree.Statement.TheVariants as statement_text
use Rattle.classic_tree.proofs.Mapped.{given_mapped}
use Rattle.proto_flat.specs.declared.fault.ExpandFault.{ExpandFault}
use Rattle.proto_flat.specs.declared.fault.ExpandFaultKind.TheVariants.{UnknownField}
use Rattle.proto_flat.specs.declared.flat.FlatNode.{FlatNode}
use Rattle.proto_meaning.specs.Limits.{Met, Outcome, behind, follow, and_then}
use Rattle.proto_meaning.specs.Names.{Name, Field, Filled}
use Rattle.proto_meaning.specs.Sight.{Sight, Names, OfType}
use Rattle.proto_meaning.specs.Flat.{Does, comes, pure, refuse, Node, Item, Inside, give, numbered_from, is_filled, is_script, field, renamed, item_step}
use Rattle.proto_meaning.specs.Flat.{item as item_part, node as node_part}
use Rattle.proto_meaning.proofs.Trees.{item-field}
use Rattle.laws_documents.specs.InPlace.{nothing_in_sight}
use Rattle.laws_documents.specs.WithFields.{field_of, named_as, named}
use Rattle.laws_documents.proofs.InPlaceParts.{both_true}
use Rattle.laws_documents.proofs.WithFieldsWalks.{Kept, has, Alike, inside_of, InsideAlike, GivenAs, give_alike, nothing_alike}

-- ---- the last node takes a name

set_last : (xs : List FlatNode) (x y : FlatNode) → slice_set (xs ++ x ∷ []) (length xs) y ≡ xs ++ y ∷ []
set_last [] x y = refl
set_last (z ∷ xs) x y = ap (λ rest. z ∷ rest) (set_last xs x y)

get_last : (xs : List FlatNode) (x : FlatNode) → slice_get (xs ++ x ∷ []) (length xs) ≡ Some x
get_last [] x = refl
get_last (z ∷ xs) x = get_last xs x

pub named_last : (name : Name) (xs : List FlatNode) (x : FlatNode) → renamed (Some name) (length xs) (xs ++ x ∷ []) ≡ xs ++ record x { name = Some name } ∷ []
named_last name xs x =
    ap (λ o. option_map_or (λ (n : FlatNode). slice_set (xs ++ x ∷ []) (length xs) (record n { name = Some name })) o (xs ++ x ∷ [])) (get_last xs x)
    ∙ set_last xs x (record x { name = Some name })

abbrev pub rename : Option Name → ℕ → Does ℕ
rename name k w = comes (Ok (k, record w { put = record w.put { nodes = renamed name k w.put.nodes } }))

-- ---- one step after others

end_assoc : {B C : Type 0} (met ms : List Met) (c : Result B ExpandFault) (g : B → Outcome C) → follow (met ++ ms) c g ≡ behind met (follow ms c g)
end_assoc met ms (Ok b) g = ap (λ l. record { met = l; comes = (g b).comes }) (append_assoc met ms (g b).met)
end_assoc met ms (Err x) g = refl

pub behind_then : {A B : Type 0} (met : List Met) (o : Outcome A) (g : A → Outcome B) → and_then (behind met o) g ≡ behind met (and_then o g)
behind_then met o g = end_assoc met o.met o.comes g

pub then_then : {A B C : Type 0} (o : Outcome A) (f : A → Outcome B) (g : B → Outcome C) → and_then (and_then o f) g ≡ and_then o (λ a. and_then (f a) g)
then_then {A} {B} {C} o f g = on o.met o.comes where
  on : (met : List Met) (c : Result A ExpandFault) → and_then (follow met c f) g ≡ follow met c (λ a. and_then (f a) g)
  on met (Ok a) = behind_then met (f a) g
  on met (Err x) = refl

pub split_all : (takes : Names) (xs ys : List Name) → list_all takes (xs ++ ys) ≡ true → (list_all takes xs ≡ true) × (list_all takes ys ≡ true)
split_all takes [] ys e = (refl, e)
split_all takes (x ∷ xs) ys e =
    let both = both_true (takes x) (list_all takes (xs ++ ys)) e in
    let rest = split_all takes xs ys both.1 in (ap (λ b. b && list_all takes xs) both.0 ∙ rest.0, rest.1)

-- of a statement that is a node
abbrev pub IfNode : (NodeText → Type 0) → Statement-F BodyItem NodeText Statement ProtoText → Type 0
IfNode P (Statement-F.Node n) = P n
IfNode P _ = Unit {0}

pub out_node : (n : NodeText) → out-Statement (statement_text.Node n) ≡ Statement-F.Node n
out_node n = ap out-Statement (sym (statement_text.rolls-Node n)) ∙ out-roll-Statement (Statement-F.Node n)

pub out_route : (r : RouteText) → out-Statement (statement_text.Route r) ≡ Statement-F.Statement::Route r
out_route r = ap out-Statement (sym (statement_text.rolls-Route r)) ∙ out-roll-Statement (Statement-F.Statement::Route r)

pub out_proto : (p : ProtoText) → out-Statement (statement_text.Proto p) ≡ Statement-F.Statement::Proto p
out_proto p = ap out-Statement (sym (statement_text.rolls-Proto p)) ∙ out-roll-Statement (Statement-F.Statement::Proto p)

pub longer : (xs ys zs : List FlatNode) → length xs ≡ length ys → length (xs ++ zs) ≡ length (ys ++ zs)
longer xs ys zs e = omega (arith, e, length-append xs zs, length-append ys zs)

pub named_full : (name : Name) (line : ℕ) (old : Option Name) (word : Name) (is : List BodyItem) → named (Some name) (node_text.Full line old word is) ≡ node_text.Full line (Some name) word is
named_full name line old word is = ap (named_as name) (ap out-NodeText (sym (node_text.rolls-Full line old word is)) ∙ out-roll-NodeText (NodeText-F.Full line old word is))

module _ (one : Sight) (names : List Field) (values : List Filled) (helpers : List ℕ) (firsts seconds : List FlatNode) where
  abbrev two : Sight
  two = nothing_in_sight

  abbrev Same : {A B : Type 0} → (A → B → Type 0) → Does A → Does B → Type 0
  Same R m n = Alike one two names values helpers firsts seconds R m n

  abbrev Between : ℕ → ℕ → NodeType → Inside → Inside → Type 0
  Between at to t = InsideAlike one two names values helpers firsts seconds at to t

  abbrev before : ℕ → NodeType → List Field → List Filled → Inside
  before at t fields filled = inside_of one two names values helpers firsts seconds at t fields filled

  abbrev pub may_do : Option BodyItem → Inside → Does Inside
  may_do None j = pure j
  may_do (Some i) j = (item_part i).does j

  -- ---- fields

  there_same : (line : ℕ) (name : Name) (g h : Given Node) → GivenAs one two names values helpers firsts seconds g h → (at to : ℕ) (t : NodeType) (fields : List Field) (filled others : List Filled) → Kept filled others
      → Same (Between at to t) ((item_step (BodyItem-F.Field line name g)).does (before at t fields filled)) ((item_step (BodyItem-F.Field line name h)).does (before to t fields others))
  unfolding item_step
  there_same line name g h k at to t fields filled others kept = on (numbered_from 0 name fields) where
    on : (o : Option (ℕ × Field)) → Same (Between at to t) (option_map_or (λ f. give line f (is_filled name (before at t fields filled)) g (before at t fields filled)) o (refuse UnknownField line))
        (option_map_or (λ f. give line f (is_filled name (before to t fields others)) h (before to t fields others)) o (refuse UnknownField line))
    on None = λ w v b. tt
    on (Some f) = give_alike one two names values helpers firsts seconds line f (has name filled) (has name others) g h at to t fields filled others (kept.names name) k kept

  absent_same : (line : ℕ) (name : Name) (g : Given Node) → GivenAs one two names values helpers firsts seconds g given.Nothing → (at to : ℕ) (t : NodeType) (fields : List Field) (filled others : List Filled) → Kept filled others
      → Same (Between at to t) ((item_step (BodyItem-F.Field line name g)).does (before at t fields filled)) (pure (before to t fields others))
  unfolding item_step
  absent_same line name g k at to t fields filled others kept = on (numbered_from 0 name fields) where
    on : (o : Option (ℕ × Field)) → Same (Between at to t) (option_map_or (λ f. give line f (is_filled name (before at t fields filled)) g (before at t fields filled)) o (refuse UnknownField line)) (pure (before to t fields others))
    on None = λ w v b. tt
    on (Some f) = nothing_alike one two names values helpers firsts seconds line f (has name filled) g at to t fields filled others k kept

  pub field_same : (line : ℕ) (name : Name) (g : Given Node) (h : Given NodeText) → GivenAs one two names values helpers firsts seconds g (given_mapped node_part h) → (at to : ℕ) (t : NodeType) (fields : List Field) (filled others : List Filled) → Kept filled others
      → Same (Between at to t) ((item_step (BodyItem-F.Field line name g)).does (before at t fields filled)) (may_do (field_of line name h) (before to t fields others))
  field_same line name g given.Nothing k at to t fields filled others kept = absent_same line name g k at to t fields filled others kept
  field_same line name g (given.Is x) k at to t fields filled others kept =
      subst (λ (y : Item). Same (Between at to t) ((item_step (BodyItem-F.Field line name g)).does (before at t fields filled)) (y.does (before to t fields others))) (sym (item-field line name (given.Is x) refl))
      (there_same line name g (given_mapped node_part (given.Is x)) k at to t fields filled others kept)
  field_same line name g (given.Value v) k at to t fields filled others kept =
      subst (λ (y : Item). Same (Between at to t) ((item_step (BodyItem-F.Field line name g)).does (before at t fields filled)) (y.does (before to t fields others))) (sym (item-field line name (given.Value v) refl))
      (there_same line name g (given_mapped node_part (given.Value v)) k at to t fields filled others kept)

  pub declared_same : (d e : Declaration Node) → GivenAs one two names values helpers firsts seconds d.given e.given → (at to : ℕ) (t : NodeType) (fields : List Field) (filled others : List Filled) → Kept filled others
      → Same (Between at to t) ((item_step (BodyItem-F.Declaration d)).does (before at t fields filled)) ((item_step (BodyItem-F.Declaration (record d { given = e.given }))).does (before to t fields others))
  unfolding item_step
  declared_same d e k at to t fields filled others kept = on (is_script (OfType t)) where
    on : (c : Bool) → Same (Between at to t) (if c then give d.line (length fields, field d) (is_some (numbered_from 0 d.name fields)) d.given (before at t (fields ++ field d ∷ []) filled) else refuse UnknownField d.line)
        (if c then give d.line (length fields, field d) (is_some (numbered_from 0 d.name fields)) e.given (before to t (fields ++ field d ∷ []) others) else refuse UnknownField d.line)
    on true = give_alike one two names values helpers firsts seconds d.line (length fields, field d) (is_some (numbered_from 0 d.name fields)) (is_some (numbered_from 0 d.name fields)) d.given e.given at to t (fields ++ field d ∷ []) filled others (λ x. x) k kept
    on false = λ w v b. tt
