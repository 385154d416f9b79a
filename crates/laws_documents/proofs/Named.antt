-- The flat form of a document that some text spells has names that are names, and texts that are UTF-8.
use Rattle.std.proofs.Common.{◌≡◌, ◌⊎◌, inl, inr, ℕ, zero, suc, Bool, true, false, List, [], ◌∷◌, ◌++◌, Ok, refl, sym, subst}
use Rattle.std.specs.Prelude.{◌&&◌}
use Rattle.std.specs.List.{AllByRecursion, list_all}
use Rattle.std.specs.Str.{IsUtf8, is_utf8}
use Rattle.std.proofs.lemmas.Str.{is_utf8-from_IsUtf8}
use denote.Enum.Bare.{sameb, same_true}
use Rattle.x3d_values.specs.contracts.node_type.NodeType as node_types
use Rattle.x3d_values.specs.declared.field_type.Access.{Access}
use Rattle.x3d_values.specs.declared.node_type.NodeType.{NodeType}
use Rattle.x3d_values.specs.declared.node_type.NodeType.TheVariants.{Script}
use Rattle.classic_tree.specs.declared.tree.BodyItem.{BodyItem}
use Rattle.classic_tree.specs.declared.tree.Declaration.{Declaration}
use Rattle.classic_tree.specs.declared.tree.Document.{Document}
use Rattle.classic_tree.specs.declared.tree.Given.{Given}
use Rattle.classic_tree.specs.declared.tree.Given.TheVariants as given
use Rattle.classic_tree.specs.declared.tree.NodeText.{NodeText}
use Rattle.classic_tree.specs.declared.tree.ProtoText.{ProtoText, out-ProtoText}
use Rattle.classic_tree.specs.declared.tree.RawValue.{RawValue}
use Rattle.classic_tree.specs.declared.tree.RawValue.TheVariants as value
use Rattle.classic_tree.specs.declared.tree.Statement.{Statement}
use Rattle.classic_text.specs.Spells.{max_depth}
use Rattle.classic_round_trip.proofs.Routes.{Any as AnyLine}
use Rattle.classic_round_trip.proofs.Spelled.{spellable}
use Rattle.classic_round_trip.specs.Spellable.{AreSpellableStatements, IsFreeName, IsNameOrNone, IsSpellable, IsSpellableComponent, IsSpellableMeta, IsSpellableDeclaration, IsSpellableDeclared, IsSpellableFull, IsSpellableGiven, IsSpellableItem, IsSpellableNode, IsSpellableProto, IsSpellableProtoBody, IsSpellableStatement, IsSpellableTopStatement, IsSpellableUse, IsSpellableValue, head_words, unread_words}
use Rattle.proto_flat.specs.declared.flat.Flat.{Flat}
use Rattle.proto_flat.specs.declared.flat.FlatField.{FlatField}
use Rattle.proto_flat.specs.declared.flat.FlatNode.{FlatNode}
use Rattle.proto_meaning.specs.Names.{Field}
use Rattle.proto_meaning.specs.Flat.{flat}
use Rattle.laws_documents.proofs.Lists.{all_weaker}
use Rattle.laws_documents.proofs.Heads.{headers_stay}
use Rattle.laws_documents.proofs.HeldGood.{Asked, IsHeld}
use Rattle.laws_documents.proofs.HeldTexts.{DefaultHolds, GivenHolds, ItemHolds, NodeHolds, ProtoHolds, StatementHolds, declaration_holds, field_holds, full_holds, node_holds, proto_holds, proto_item_holds, prototype_holds, route_holds, route_item_holds, statements_held, use_holds}
use Rattle.laws_documents.proofs.HeldWhole.{flat_is_held}
use Rattle.laws_documents.proofs.Numbers.{Owns, OwnsBy}
use Rattle.laws_documents.specs.Named.{IsNamed, IsNamedNode, SpelledFlatsAreNamed, has_utf8}

-- names that are names, and values whose texts are UTF-8
abbrev named : Asked
named = record {
  name = IsNameOrNone;
  field = λ (f : Field). IsFreeName f.name;
  value = λ v. has_utf8 v ≡ true;
}

both_true : (a b : Bool) → a ≡ true → b ≡ true → a && b ≡ true
both_true true b e k = k
both_true false b e k = absurd cc

texts_utf8 : (ss : List (List ℕ)) → AllByRecursion IsUtf8 ss → list_all is_utf8 ss ≡ true
texts_utf8 [] h = refl
texts_utf8 (s ∷ ss) h = both_true (is_utf8 s) (list_all is_utf8 ss) (is_utf8-from_IsUtf8 s h.0) (texts_utf8 ss h.1)

-- ---- values and items, by the nodes in them

module _ (Inner : NodeText → Type 0) (k : (n : NodeText) → Inner n → NodeHolds named n) where
  value_named : (x : RawValue NodeText) → IsSpellableValue Inner x → GivenHolds named (given.Value x)
  value_named value.Null h = record { nodes = tt; value = refl }
  value_named (value.Truth b) h = record { nodes = tt; value = refl }
  value_named (value.String s) h = record { nodes = tt; value = is_utf8-from_IsUtf8 s h }
  value_named (value.Numbers zs) h = record { nodes = tt; value = refl }
  value_named (value.Node n) h = record { nodes = k n h; value = λ i. refl }
  value_named value.EmptyList h = record { nodes = tt; value = refl }
  value_named (value.TruthList bs) h = record { nodes = tt; value = refl }
  value_named (value.StringList []) h = absurd h
  value_named (value.StringList (s ∷ ss)) h = record { nodes = tt; value = texts_utf8 (s ∷ ss) h }
  value_named (value.NumberList zs) h = record { nodes = tt; value = refl }
  value_named (value.NodeList []) h = absurd h
  value_named (value.NodeList (n ∷ ns)) h = record { nodes = all_weaker Inner (NodeHolds named) k (n ∷ ns) h; value = λ is e. refl }

  given_named : (x : Given NodeText) → IsSpellableGiven Inner x → GivenHolds named x
  given_named given.Nothing h = absurd h
  given_named (given.Value v) h = value_named v h
  given_named (given.Is other) h = record { nodes = tt; value = tt }

  declared_named : (script : Bool) (access : Access) (x : Given NodeText) → IsSpellableDeclared Inner script access x → GivenHolds named x
  declared_named script access given.Nothing h = record { nodes = tt; value = tt }
  declared_named script access (given.Value v) h = value_named v h.1
  declared_named script access (given.Is other) h = record { nodes = tt; value = tt }

  default_named : (d : Declaration NodeText) → IsSpellableDeclaration Inner false d → DefaultHolds named d
  default_named d h = declared_named false d.access d.given h.1

  module _ (Proto : ProtoText → Type 0) (l : (p : ProtoText) → Proto p → ProtoHolds named p) where
    item_named : (t : List ℕ) (i : BodyItem) → IsSpellableItem Inner Proto t i → ItemHolds named i
    item_named t i (inl h) = subst (ItemHolds named) (sym h.is) (field_holds named h.at h.name h.value (given_named h.value h.given))
    item_named t i (inr (inl h)) = subst (ItemHolds named) (sym h.is) (route_item_holds named h.route)
    item_named t i (inr (inr (inl h))) = subst (ItemHolds named) (sym h.is) (proto_item_holds named h.proto (l h.proto h.spellable))
    item_named t i (inr (inr (inr h))) =
        subst (ItemHolds named) (sym h.is) (declaration_holds named h.declaration h.spellable.0 (declared_named true h.declaration.access h.declaration.given h.spellable.1))

    statement_named : (s : Statement) → IsSpellableStatement Inner Proto s → StatementHolds named s
    statement_named s (inl h) = subst (StatementHolds named) (sym h.is) (node_holds named h.node (k h.node h.spellable))
    statement_named s (inr (inl h)) = subst (StatementHolds named) (sym h.is) (route_holds named h.route)
    statement_named s (inr (inr h)) = subst (StatementHolds named) (sym h.is) (proto_holds named h.proto (l h.proto h.spellable))

-- ---- at each depth

record NamedAt (depth : ℕ) : Type 0 where
  pub node : (words : List (List ℕ)) (n : NodeText) → IsSpellableNode depth words n → NodeHolds named n
  pub body : (ss : List Statement) → IsSpellableProtoBody depth ss → AllByRecursion (StatementHolds named) ss

module _ (depth : ℕ) (below : NamedAt depth) where
  proto_at : (p : ProtoText) → IsSpellableProto depth p → ProtoHolds named p
  proto_at p h =
      let q = out-ProtoText p in
      prototype_holds named p (all_weaker (IsSpellableDeclaration (IsSpellableNode depth []) false) (DefaultHolds named) (default_named (IsSpellableNode depth []) (below.node [])) q.interface h.1) (below.body q.body h.2)

  abbrev Item : List ℕ → BodyItem → Type 0
  Item = IsSpellableItem (IsSpellableNode depth []) (IsSpellableProto depth)

  layer : (words : List (List ℕ)) (n : NodeText) → IsSpellableUse n ⊎ IsSpellableFull Item words n → NodeHolds named n
  layer words n (inl h) = subst (NodeHolds named) (sym h.is) (use_holds named h.at h.name)
  layer words n (inr h) =
      subst (NodeHolds named) (sym h.is)
      (full_holds named h.at h.def h.node_type h.items h.defined
      (all_weaker (Item h.node_type) (ItemHolds named) (item_named (IsSpellableNode depth []) (below.node []) (IsSpellableProto depth) proto_at h.node_type) h.items h.body))

  node_above : (words : List (List ℕ)) (n : NodeText) → IsSpellableNode (suc depth) words n → NodeHolds named n
  unfolding IsSpellableNode
  node_above words n h = layer words n h

  body_above : (ss : List Statement) → IsSpellableProtoBody (suc depth) ss → AllByRecursion (StatementHolds named) ss
  unfolding IsSpellableProtoBody
  body_above ss h =
      all_weaker (IsSpellableStatement (IsSpellableNode depth unread_words) (IsSpellableProto depth)) (StatementHolds named)
      (statement_named (IsSpellableNode depth unread_words) (below.node unread_words) (IsSpellableProto depth) proto_at) ss h

named_at : (depth : ℕ) → NamedAt depth
unfolding IsSpellableNode IsSpellableProtoBody
named_at zero = record { node = λ words n h. absurd h; body = λ ss h. absurd h }
named_at (suc depth) = let below = named_at depth in record { node = node_above depth below; body = body_above depth below }

top_named : (words : List (List ℕ)) (s : Statement) → IsSpellableTopStatement words s → StatementHolds named s
top_named words s h = statement_named (IsSpellableNode max_depth words) ((named_at max_depth).node words) (IsSpellableProto max_depth) (proto_at max_depth (named_at max_depth)) s h

all_named : (words : List (List ℕ)) (ss : List Statement) → AreSpellableStatements words ss → AllByRecursion (StatementHolds named) ss
all_named words [] h = tt
all_named words (s ∷ ss) h = (top_named (words ++ unread_words) s h.0, all_weaker (IsSpellableTopStatement unread_words) (StatementHolds named) (top_named unread_words) ss h.1)

-- ---- the document

scripted : (t : NodeType) (ds : List Field) → Owns t ds → (t ≡ Script) ⊎ (ds ≡ [])
scripted t ds h = by_script (sameb node_types.the_type t Script) refl h where
  by_script : (s : Bool) → sameb node_types.the_type t Script ≡ s → OwnsBy s ds → (t ≡ Script) ⊎ (ds ≡ [])
  by_script true e k = inl (same_true node_types.the_type tt t Script e)
  by_script false e k = inr k

texts_named : (fields : List FlatField) → AllByRecursion (λ (f : FlatField). has_utf8 f.value ≡ true) fields → list_all (λ (f : FlatField). has_utf8 f.value) fields ≡ true
texts_named [] h = refl
texts_named (f ∷ fields) h = both_true (has_utf8 f.value) (list_all (λ (f : FlatField). has_utf8 f.value) fields) h.0 (texts_named fields h.1)

node_named : (node : FlatNode) → IsHeld named node → IsNamedNode node
node_named node h = record { named = h.named; scripted = scripted node.node_type node.interface h.own; declared = h.declared; texts = texts_named node.fields h.values }

-- the same of a document that is spellable
pub spellable_flats_are_named : (d : Document) (f : Flat) → IsSpellable d → flat d ≡ Ok f → IsNamed f
spellable_flats_are_named d f s e =
    let holds = flat_is_held named d f (statements_held named d.statements (all_named (head_words d.metas d.components d.profile) d.statements s.statements)) e in
    let head = sym (headers_stay d f e) in
    record {
      profile = subst (λ h. IsNameOrNone h.profile) head s.profile;
      components = subst (λ h. AllByRecursion IsSpellableComponent h.components) head s.components;
      metas = subst (λ h. AllByRecursion IsSpellableMeta h.metas) head s.metas;
      nodes = all_weaker (IsHeld named) IsNamedNode node_named f.nodes holds.nodes;
    }

pub spelled_flats_are_named : SpelledFlatsAreNamed
spelled_flats_are_named text d f h e = spellable_flats_are_named d f (spellable AnyLine text d h) e
