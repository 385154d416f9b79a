-- What stands between the braces of a node is read, where the nodes inside are.
use Rattle.std.proofs.Common.{◌≡◌, ℕ, Bool, true, false, if◌then◌else◌, List, [], ◌∷◌, ◌++◌, length, Option, Some, None, map, refl, ap, sym, ◌∙◌, subst}
use Rattle.std.specs.Prelude.{is_some}
use Rattle.std.specs.List.{AllByRecursion, filter_map}
use Rattle.std.specs.Option.{option_map_or}
use Rattle.std.proofs.lemmas.List.{append-nil, append_assoc, map-append}
use Rattle.std.proofs.lemmas.List.Elements.{filter_map-append}
use denote.Enum.Bare.{sameb}
use Rattle.x3d_values.specs.contracts.node_type.NodeType as node_types
use Rattle.x3d_values.specs.declared.node_type.NodeType.{NodeType}
use Rattle.x3d_values.specs.declared.node_type.NodeType.TheVariants.{Script}
use Rattle.classic_tree.specs.declared.tree.BodyItem.{BodyItem}
use Rattle.classic_tree.specs.declared.tree.BodyItem.TheOpen.{BodyItem-F}
use Rattle.classic_tree.specs.declared.tree.BodyItem.TheVariants as item_text
use Rattle.classic_tree.specs.declared.tree.Declaration.{Declaration}
use Rattle.classic_tree.specs.declared.tree.Given.{Given}
use Rattle.classic_tree.specs.declared.tree.Given.TheVariants as given
use Rattle.classic_tree.specs.declared.tree.NodeText.{NodeText}
use Rattle.classic_tree.specs.declared.tree.ProtoText.{ProtoText}
use Rattle.classic_tree.specs.declared.tree.RawValue.{RawValue}
use Rattle.classic_tree.specs.declared.tree.RawValue.TheVariants as value
use Rattle.classic_tree.specs.declared.tree.RouteText.{RouteText}
use Rattle.classic_tree.proofs.Mapped.{given_mapped, declaration_mapped}
use Rattle.proto_flat.specs.declared.fault.ExpandFaultKind.TheVariants.{UnknownField}
use Rattle.laws_documents.specs.Signatures.{Signature, signature, signatures}
use Rattle.proto_meaning.specs.Names.{Name, Field, Filled}
use Rattle.proto_meaning.specs.Flat.{field, fields_of, numbered_from}
use Rattle.proto_meaning.proofs.Induction.{OfGiven}
use Rattle.laws_documents.specs.Plain.{Reading, PlainRead, ◌>>=◌, pure, refuse, in_turn, Between, ItemReads, fill, give, is_filled, flat_field, item_step, read_item, read_text}
use Rattle.laws_documents.specs.Plain as plains
use Rattle.laws_documents.proofs.PlainTexts as texts
use Rattle.laws_documents.specs.Uses.{some}
use Rattle.laws_documents.specs.Fields.{FieldRead, Got, as_read, declares, each, field_read, gives, got_map, node_read, numbering, read_given, read_node, read_one, read_value}
use Rattle.laws_documents.specs.Fields as fields
use Rattle.laws_documents.proofs.FieldsParts.{declares-declaration, declares-field, declares-proto, declares-route, read-declaration, read-field, read-item-proto, read-item-route}
use Rattle.laws_documents.proofs.Names.{opened_of}
use Rattle.laws_documents.proofs.Numbers.{Owns, OwnsBy, declared_next, number_is}
use Rattle.laws_documents.proofs.Reading.{Ends, ends_then, ends_weaker}

abbrev pub read_as : Reading → fields.Reading
read_as r = record { opened = map opened_of r.pairs; closed = map node_read r.nodes }

-- ---- nodes and values

abbrev pub NodeIs : NodeText → Reading → ℕ → Reading → Type 0
NodeIs n r k q = read_node n (read_as r) ≡ gives (Some k) (read_as q)

abbrev pub NodeReads : NodeText → Type 0
NodeReads n = (r : Reading) → Ends (NodeIs n r) (read_text n r)

abbrev Listed : Got (List (Option ℕ)) → List ℕ → Reading → Type 0
Listed g ks q = g ≡ gives (map some ks) (read_as q)

abbrev next_number : PlainRead ℕ → List ℕ → PlainRead (List ℕ)
next_number node ns = node >>= λ n. pure (ns ++ n ∷ [])

one_reads : (n : NodeText) → NodeReads n → (ks : List ℕ) (r : Reading) → Ends (Listed (read_one read_node n (map some ks) (read_as r))) (next_number (read_text n) ks r)
one_reads n h ks r =
    ends_then (NodeIs n r) (Listed (read_one read_node n (map some ks) (read_as r))) (λ k. pure (ks ++ k ∷ [])) (read_text n r) (h r)
    (λ k q e. ap (got_map (λ o. map some ks ++ o ∷ [])) e ∙ ap (λ ms. gives ms (read_as q)) (sym (map-append some ks (k ∷ []))))

nodes_read : (ns : List NodeText) → AllByRecursion NodeReads ns → (ks : List ℕ) (r : Reading) → Ends (Listed (each (read_one read_node) ns (map some ks) (read_as r))) (in_turn next_number (map read_text ns) ks r)
nodes_read [] h ks r = refl
nodes_read (n ∷ ns) h ks r =
    let one = read_one read_node n (map some ks) (read_as r) in
    ends_then (Listed one) (Listed (each (read_one read_node) ns one.what one.after)) (in_turn next_number (map read_text ns)) (next_number (read_text n) ks r) (one_reads n h.0 ks r)
    (λ ls q e. subst (λ (g : Got (List (Option ℕ))). Ends (Listed (each (read_one read_node) ns g.what g.after)) (in_turn next_number (map read_text ns) ls q)) (sym e) (nodes_read ns h.1 ls q))

abbrev ValueIs : RawValue NodeText → Reading → RawValue ℕ → Reading → Type 0
ValueIs v r u q = read_value read_node v (read_as r) ≡ gives (as_read u) (read_as q)

-- what a field is given, and how it is read
abbrev GivenReads : Given (PlainRead ℕ) → Given NodeText → Type 0
GivenReads given.Nothing given.Nothing = Unit {0}
GivenReads (given.Is a) (given.Is b) = Unit {0}
GivenReads (given.Value v) (given.Value u) = (r : Reading) → Ends (ValueIs u r) (plains.read_value v r)
GivenReads _ _ = ⊥

given_reads : (g : Given NodeText) → OfGiven NodeReads g → GivenReads (given_mapped read_text g) g
given_reads given.Nothing h = tt
given_reads (given.Is name) h = tt
given_reads (given.Value value.Null) h = λ r. refl
given_reads (given.Value (value.Truth truth)) h = λ r. refl
given_reads (given.Value (value.String text)) h = λ r. refl
given_reads (given.Value (value.Numbers numbers)) h = λ r. refl
given_reads (given.Value (value.Node n)) h = λ r. ends_then (NodeIs n r) (ValueIs (value.Node n) r) (λ k. pure (value.Node k)) (read_text n r) (h r) (λ k q e. ap (got_map (λ o. value.Node o)) e)
given_reads (given.Value value.EmptyList) h = λ r. refl
given_reads (given.Value (value.TruthList truths)) h = λ r. refl
given_reads (given.Value (value.StringList texts)) h = λ r. refl
given_reads (given.Value (value.NumberList numbers)) h = λ r. refl
given_reads (given.Value (value.NodeList ns)) h = λ r.
    ends_then (Listed (each (read_one read_node) ns [] (read_as r))) (ValueIs (value.NodeList ns) r) (λ ks. pure (value.NodeList ks)) (in_turn next_number (map read_text ns) [] r) (nodes_read ns h [] r)
    (λ ks q e. ap (got_map (λ os. value.NodeList os)) e)

-- ---- fields

abbrev pub given_of : List Filled → List FieldRead
given_of filled = map field_read (filter_map flat_field filled)

given_more : (fs : List Filled) (f : Filled) → given_of (fs ++ f ∷ []) ≡ given_of fs ++ given_of (f ∷ [])
given_more fs f = ap (map field_read) (filter_map-append flat_field fs (f ∷ [])) ∙ map-append field_read (filter_map flat_field fs) (filter_map flat_field (f ∷ []))

-- the field has what it is given, by its number
pub record GivenIs (line : ℕ) (number : ℕ) (twice : Bool) (h : Given NodeText) (b : Between) (r : Reading) (c : Between) (q : Reading) : Type 0 where
  pub same_fields : c.fields ≡ b.fields
  pub once : twice ≡ false
  pub reads : (n : Option ℕ) → n ≡ Some number → read_given read_node line n h (given_of b.filled) (read_as r) ≡ gives (given_of c.filled) (read_as q)

once_given : (line : ℕ) (f : ℕ × Field) (twice : Bool) (g : Given (PlainRead ℕ)) (h : Given NodeText) → GivenReads g h → (b : Between) (r : Reading) → Ends (GivenIs line f.0 twice h b r) (give line f twice g b r)
once_given line f true given.Nothing given.Nothing k b r = tt
once_given line f false given.Nothing given.Nothing k b r = record {
  same_fields = refl;
  once = refl;
  reads = λ n e. ap (λ (fs : List FieldRead). gives fs (read_as r)) (sym (given_more b.filled (record { line = line; name = f.1.name; number = f.0; value = None }) ∙ append-nil (given_of b.filled)));
}
once_given line f twice given.Nothing (given.Is a) k b r = absurd k
once_given line f twice given.Nothing (given.Value u) k b r = absurd k
once_given line f twice (given.Is a) h k b r = tt
once_given line f true (given.Value v) (given.Value u) k b r = tt
once_given line f false (given.Value v) (given.Value u) k b r =
    ends_then (ValueIs u r) (GivenIs line f.0 false (given.Value u) b r) (λ x. pure (fill line f b (Some x))) (plains.read_value v r) (k r)
    (λ x q e. record {
      same_fields = refl;
      once = refl;
      reads = λ n i.
          ap (got_map (λ y. given_of b.filled ++ record { line = line; number = n; value = y } ∷ [])) e
          ∙ ap (λ (m : Option ℕ). gives (given_of b.filled ++ record { line = line; number = m; value = as_read x } ∷ []) (read_as q)) i
          ∙ ap (λ (fs : List FieldRead). gives fs (read_as q)) (sym (given_more b.filled (record { line = line; name = f.1.name; number = f.0; value = Some x })));
    })
once_given line f twice (given.Value v) given.Nothing k b r = absurd k
once_given line f twice (given.Value v) (given.Is a) k b r = absurd k

-- ---- items

-- between the braces of a node of that type: the fields that are declared behind those of the type, and
-- what the item is read as
pub record ItemIs (t : NodeType) (i : BodyItem) (ds : List Field) (b : Between) (r : Reading) (c : Between) (q : Reading) : Type 0 where
  pub more : List Field
  pub known : c.fields ≡ fields_of t ++ more
  pub own : Owns t more
  pub declared : signatures more ≡ signatures ds ++ declares i
  pub reads : (rest : List Signature) → fields.read_item (numbering (Some t) (signatures more ++ rest)) i (given_of b.filled) (read_as r) ≡ gives (given_of c.filled) (read_as q)

abbrev pub ItemReadsOf : BodyItem → Type 0
ItemReadsOf i = (t : NodeType) (ds : List Field) (b : Between) (r : Reading) → b.fields ≡ fields_of t ++ ds → Owns t ds → Ends (ItemIs t i ds b r) (read_item i t b r)

-- an item that declares nothing
none_declared : (i : BodyItem) (ds : List Field) → declares i ≡ [] → signatures ds ≡ signatures ds ++ declares i
none_declared i ds e = sym (append-nil (signatures ds)) ∙ ap (λ ss. signatures ds ++ ss) (sym e)

module _ (line : ℕ) (name : Name) (g : Given NodeText) (h : OfGiven NodeReads g) (t : NodeType) (ds : List Field) (b : Between) (r : Reading) (k : b.fields ≡ fields_of t ++ ds) (own : Owns t ds) where
  abbrev field_item : BodyItem
  field_item = item_text.Field line name g

  found_reads : (o : Option (ℕ × Field)) → numbered_from 0 name b.fields ≡ o → Ends (ItemIs t field_item ds b r) (option_map_or (λ f. give line f (is_filled name b) (given_mapped read_text g) b) o (refuse UnknownField line) r)
  found_reads None e = tt
  found_reads (Some f) e =
      ends_weaker (GivenIs line f.0 (is_filled name b) g b r) (ItemIs t field_item ds b r) (give line f (is_filled name b) (given_mapped read_text g) b r)
      (once_given line f (is_filled name b) (given_mapped read_text g) g (given_reads g h) b r)
      (λ c q is. record {
        more = ds;
        known = is.same_fields ∙ k;
        own = own;
        declared = none_declared field_item ds (declares-field line name g);
        reads = λ rest.
            read-field (numbering (Some t) (signatures ds ++ rest)) (given_of b.filled) (read_as r) line name g
            ∙ is.reads (numbering (Some t) (signatures ds ++ rest) name) (number_is t ds rest name f.0 f.1 own (ap (numbered_from 0 name) (sym k) ∙ e));
      })

  field_reads : Ends (ItemIs t field_item ds b r) (item_step (BodyItem-F.Field line name (given_mapped read_text g)) t b r)
  unfolding item_step
  field_reads = found_reads (numbered_from 0 name b.fields) refl

pub field_layer : (line : ℕ) (name : Name) (g : Given NodeText) → OfGiven NodeReads g → ItemReadsOf (item_text.Field line name g)
field_layer line name g h t ds b r k own =
    subst (λ (m : ItemReads). Ends (ItemIs t (item_text.Field line name g) ds b r) (m t b r)) (sym (texts.read-field line name g)) (field_reads line name g h t ds b r k own)

module _ (d : Declaration NodeText) (h : OfGiven NodeReads d.given) (t : NodeType) (ds : List Field) (b : Between) (r : Reading) (k : b.fields ≡ fields_of t ++ ds) where
  abbrev wider : Between
  wider = record b { fields = b.fields ++ field d ∷ [] }

  abbrev twice : Bool
  twice = is_some (numbered_from 0 d.name b.fields)

  now_known : b.fields ++ field d ∷ [] ≡ fields_of t ++ (ds ++ field d ∷ [])
  now_known = ap (λ fs. fs ++ field d ∷ []) k ∙ append_assoc (fields_of t) ds (field d ∷ [])

  declared_reads : Owns t (ds ++ field d ∷ []) → Ends (ItemIs t (item_text.Declaration d) ds b r) (give d.line (length b.fields, field d) twice (given_mapped read_text d.given) wider r)
  declared_reads own =
      let all = ds ++ field d ∷ [] in
      ends_weaker (GivenIs d.line (length b.fields) twice d.given wider r) (ItemIs t (item_text.Declaration d) ds b r) (give d.line (length b.fields, field d) twice (given_mapped read_text d.given) wider r)
      (once_given d.line (length b.fields, field d) twice (given_mapped read_text d.given) d.given (given_reads d.given h) wider r)
      (λ c q is. record {
        more = all;
        known = is.same_fields ∙ now_known;
        own = own;
        declared = map-append signature ds (field d ∷ []) ∙ ap (λ ss. signatures ds ++ ss) (sym (declares-declaration d));
        reads = λ rest.
            read-declaration (numbering (Some t) (signatures all ++ rest)) (given_of b.filled) (read_as r) d
            ∙ is.reads (numbering (Some t) (signatures all ++ rest) d.name) (number_is t all rest d.name (length b.fields) (field d) own (ap (numbered_from 0 d.name) (sym now_known) ∙ declared_next b.fields (field d) is.once));
      })

  abbrev OwnsIf : Bool → Type 0
  OwnsIf true = Owns t (ds ++ field d ∷ [])
  OwnsIf false = Unit {0}

  by_script : (s : Bool) → OwnsIf s
      → Ends (ItemIs t (item_text.Declaration d) ds b r) ((if s then give d.line (length b.fields, field d) twice (given_mapped read_text d.given) wider else refuse UnknownField d.line) r)
  by_script true own = declared_reads own
  by_script false own = tt

  declaration_reads : Ends (ItemIs t (item_text.Declaration d) ds b r) (item_step (BodyItem-F.Declaration (declaration_mapped read_text d)) t b r)
  unfolding item_step
  declaration_reads = by_script (sameb node_types.the_type t Script) (owns (sameb node_types.the_type t Script) refl) where
    owns : (s : Bool) → sameb node_types.the_type t Script ≡ s → OwnsIf s
    owns true e = subst (λ s. OwnsBy s (ds ++ field d ∷ [])) (sym e) tt
    owns false e = tt

pub declaration_layer : (d : Declaration NodeText) → OfGiven NodeReads d.given → ItemReadsOf (item_text.Declaration d)
declaration_layer d h t ds b r k own =
    subst (λ (m : ItemReads). Ends (ItemIs t (item_text.Declaration d) ds b r) (m t b r)) (sym (texts.read-declaration d)) (declaration_reads d h t ds b r k)

nothing_read : (t : NodeType) (i : BodyItem) (ds : List Field) (b : Between) (r q : Reading) → b.fields ≡ fields_of t ++ ds → Owns t ds → declares i ≡ [] → read_as r ≡ read_as q
    → ((numbers : fields.Numbering) → fields.read_item numbers i (given_of b.filled) (read_as r) ≡ gives (given_of b.filled) (read_as r)) → ItemIs t i ds b r b q
nothing_read t i ds b r q k own e same is = record {
  more = ds;
  known = k;
  own = own;
  declared = none_declared i ds e;
  reads = λ rest. is (numbering (Some t) (signatures ds ++ rest)) ∙ ap (gives (given_of b.filled)) same;
}

pub route_item_layer : (route : RouteText) → ItemReadsOf (item_text.Route route)
unfolding item_step
route_item_layer route t ds b r k own =
    subst (λ (m : ItemReads). Ends (ItemIs t (item_text.Route route) ds b r) (m t b r)) (sym (texts.read-item-route route))
    (nothing_read t (item_text.Route route) ds b r _ k own (declares-route route) refl (λ numbers. read-item-route numbers (given_of b.filled) (read_as r) route))

pub proto_item_layer : (p : ProtoText) → ItemReadsOf (item_text.Proto p)
unfolding item_step
proto_item_layer p t ds b r k own =
    subst (λ (m : ItemReads). Ends (ItemIs t (item_text.Proto p) ds b r) (m t b r)) (sym (texts.read-item-proto p))
    (nothing_read t (item_text.Proto p) ds b r r k own (declares-proto p) refl (λ numbers. read-item-proto numbers (given_of b.filled) (read_as r) p))
