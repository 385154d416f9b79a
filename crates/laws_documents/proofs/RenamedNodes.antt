-- Values, items between braces and nodes with other names of prototypes.
use Rattle.std.proofs.Common.{◌≡◌, ℕ, suc, Bool, true, false, if◌then◌else◌, List, [], ◌∷◌, ◌++◌, length, Option, Some, None, option_map, Result, Ok, Err, map, refl, ap, sym, ◌∙◌, subst}
use Rattle.std.specs.Prelude.{◌&&◌, not, is_some}
use Rattle.std.specs.Option.{option_map_or}
use Rattle.std.specs.Str.{bytes_eq}
use Rattle.classic_tree.specs.declared.tree.BodyItem.{BodyItem}
use Rattle.classic_tree.specs.declared.tree.BodyItem.TheOpen.{BodyItem-F, NodeText-F}
use Rattle.classic_tree.specs.declared.tree.Declaration.{Declaration}
use Rattle.classic_tree.specs.declared.tree.Given.{Given}
use Rattle.classic_tree.specs.declared.tree.Given.TheVariants as given
use Rattle.classic_tree.specs.declared.tree.NodeText.{NodeText}
use Rattle.classic_tree.specs.declared.tree.ProtoText.{ProtoText}
use Rattle.classic_tree.specs.declared.tree.RawValue.TheVariants as value
use Rattle.classic_tree.specs.declared.tree.RouteText.{RouteText}
use Rattle.classic_tree.specs.declared.tree.Statement.{Statement}
use Rattle.classic_tree.proofs.Mapped.{given_mapped}
use Rattle.proto_flat.specs.declared.fault.ExpandFault.{ExpandFault}
use Rattle.proto_flat.specs.declared.fault.ExpandFaultKind.TheVariants.{UnknownField, UseWithoutDef, FieldTwice}
use Rattle.proto_meaning.specs.Limits.{Met, ANode, AnInstance, AnItem, behind, follow}
use Rattle.proto_meaning.specs.Names.{Name, Field, used}
use Rattle.proto_meaning.specs.Sight.{Instance, Prototype, Look, Names, each, aside, Owner, OfType, OfProto, meant, taken_by, is_kept}
use Rattle.proto_meaning.specs.Flat.{Walk, Does, ◌>>=◌, pure, refuse, through, Node, Item, Stated, Proto, Inside, given_sees, give, numbered_from, is_filled, is_script, field, fields_of, inside, close, close_node, flat_node, close_instance, renamed as renames, is_one, unless_twice, full_node, made, item_step, node_step}
use Rattle.proto_meaning.specs.Flat.{item as item_part, node as node_part, proto as proto_part, statement as stated}
use Rattle.proto_meaning.proofs.Induction.{OfGiven}
use Rattle.laws_documents.specs.Renamed.{IsRenaming, renamed_item, renamed_node, renamed_statement, renamed_proto}
use Rattle.laws_documents.proofs.Maps.{mapped, maps_then, maps_if, maps_option}
use Rattle.laws_documents.proofs.RenamedGiven.{same, other, others, walked, other_owner, within, seen, Sees, Keeps, is_script_other, taken_other, apart, meant_other, sees_aside, Both, both_map, each_sees, each_found, through_keeps, NodeKeeps, GivenKeeps, given_sees_keeps, given_found, give_keeps}

module _ (rename : Name → Name) (good : IsRenaming rename) where
  abbrev pub Saw : Look → Look → Type 0
  Saw = Sees rename good

  abbrev pub Does' : {A B : Type 0} → (A → B) → Does A → Does B → Type 0
  Does' = Keeps rename good

  abbrev in_other : Inside → Inside
  in_other = within rename good

  abbrev pub walk_other : Walk → Walk
  walk_other = walked rename good

  pub record ItemKeeps (m n : Item) : Type 0 where
    pub finds : (own : Name) (hidden : Bool) → n.finds (rename own) hidden ≡ m.finds own hidden
    pub sees : (taken : Option Names) → Saw (m.sees taken) (n.sees taken)
    pub does : (i : Inside) → Does' in_other (m.does i) (n.does (in_other i))

  pub record ProtoKeeps (m n : Proto) : Type 0 where
    pub finds : (own : Name) (hidden : Bool) → n.finds (rename own) hidden ≡ m.finds own hidden
    pub sees : Saw m.sees n.sees
    pub does : Does' same m.does n.does

  pub record StatementKeeps (m n : Stated) : Type 0 where
    pub kind : n.0 ≡ m.0
    pub finds : (own : Name) (hidden : Bool) → n.1.finds (rename own) hidden ≡ m.1.finds own hidden
    pub sees : Saw m.1.sees n.1.sees
    pub does : Does' same m.1.does n.1.does

  abbrev pub AlikeNodes : Node → Node → Type 0
  AlikeNodes = NodeKeeps rename good

  abbrev pub AlikeGiven : Given Node → Given Node → Type 0
  AlikeGiven = GivenKeeps rename good

  abbrev pub OfNode : NodeText → Type 0
  OfNode n = AlikeNodes (node_part n) (node_part (renamed_node rename n))

  abbrev pub OfItem : BodyItem → Type 0
  OfItem i = ItemKeeps (item_part i) (item_part (renamed_item rename i))

  abbrev pub OfPrototype : ProtoText → Type 0
  OfPrototype p = ProtoKeeps (proto_part p) (proto_part (renamed_proto rename p))

  abbrev pub OfStatement : Statement → Type 0
  OfStatement s = StatementKeeps (stated s) (stated (renamed_statement rename s))

  -- ---- values

  abbrev put_next : Node → List ℕ → Does (List ℕ)
  put_next node ns = node.does >>= λ n. pure (ns ++ n ∷ [])

  put_list : (ms ns : List Node) → Both rename good AlikeNodes ms ns → (ks : List ℕ) → Does' same (through put_next ms ks) (through put_next ns ks)
  put_list ms ns h ks = through_keeps rename good AlikeNodes same put_next put_next (λ m n k v. maps_then walk_other same same m.does n.does (λ x. pure (v ++ x ∷ [])) (λ x. pure (v ++ x ∷ [])) k.does (λ x w. refl)) ms ns h ks

  both_length : (ms ns : List Node) → Both rename good AlikeNodes ms ns → length ns ≡ length ms
  both_length [] [] h = refl
  both_length [] (n ∷ ns) h = absurd h
  both_length (m ∷ ms) [] h = absurd h
  both_length (m ∷ ms) (n ∷ ns) h = ap suc (both_length ms ns h.1)

  abbrev pub given_other : Given NodeText → Given NodeText
  given_other g = given_mapped (renamed_node rename) g

  pub given_alike : (g : Given NodeText) → OfGiven OfNode g → AlikeGiven (given_mapped node_part g) (given_mapped node_part (given_other g))
  given_alike given.Nothing h = tt
  given_alike (given.Is name) h = refl
  given_alike (given.Value value.Null) h = (refl, tt, λ w. refl)
  given_alike (given.Value (value.Truth truth)) h = (refl, tt, λ w. refl)
  given_alike (given.Value (value.String text)) h = (refl, tt, λ w. refl)
  given_alike (given.Value (value.Numbers numbers)) h = (refl, tt, λ w. refl)
  given_alike (given.Value (value.Node n)) h = (refl, (h, tt), maps_then walk_other same same (node_part n).does (node_part (renamed_node rename n)).does (λ k. pure (value.Node k)) (λ k. pure (value.Node k)) h.does (λ k w. refl))
  given_alike (given.Value value.EmptyList) h = (refl, tt, λ w. refl)
  given_alike (given.Value (value.TruthList truths)) h = (refl, tt, λ w. refl)
  given_alike (given.Value (value.StringList texts)) h = (refl, tt, λ w. refl)
  given_alike (given.Value (value.NumberList numbers)) h = (refl, tt, λ w. refl)
  given_alike (given.Value (value.NodeList ns)) h =
      let both = both_map rename good AlikeNodes node_part (renamed_node rename) ns h in (
        both_length (map node_part ns) (map node_part (map (renamed_node rename) ns)) both,
        both,
        maps_then walk_other same same (through put_next (map node_part ns) []) (through put_next (map node_part (map (renamed_node rename) ns)) []) (λ ks. pure (value.NodeList ks)) (λ ks. pure (value.NodeList ks))
            (put_list (map node_part ns) (map node_part (map (renamed_node rename) ns)) both []) (λ ks w. refl),
      )

  -- ---- items between braces

  pub item_by : (l m n o : Item) → l ≡ m → o ≡ n → ItemKeeps m n → ItemKeeps l o
  item_by l m n o e f h = subst (λ x. ItemKeeps x o) (sym e) (subst (λ x. ItemKeeps m x) (sym f) h)

  kept_sees : (b : Bool) (g h : Given Node) → AlikeGiven g h → Saw (if b then given_sees g else aside (given_sees g)) (if b then given_sees h else aside (given_sees h))
  kept_sees true g h k = given_sees_keeps rename good g h k
  kept_sees false g h k = sees_aside rename good (given_sees g) (given_sees h) (given_sees_keeps rename good g h k)

  pub field_keeps : (line : ℕ) (name : Name) (g h : Given Node) → AlikeGiven g h → ItemKeeps (item_step (BodyItem-F.Field line name g)) (item_step (BodyItem-F.Field line name h))
  unfolding item_step
  field_keeps line name g h k =
      record {
        finds = given_found rename good g h k;
        sees = λ taken. kept_sees (is_kept taken name) g h k;
        does = λ i. maps_option walk_other in_other (numbered_from 0 name i.fields) (λ f. give line f (is_filled name i) g i) (λ f. give line f (is_filled name i) h (in_other i)) (refuse UnknownField line) (refuse UnknownField line)
            (λ f. give_keeps rename good line f (is_filled name i) g h i k) (λ w. refl);
      }

  pub declaration_keeps : (d : Declaration Node) (h : Given Node) → AlikeGiven d.given h → ItemKeeps (item_step (BodyItem-F.Declaration d)) (item_step (BodyItem-F.Declaration (record d { given = h })))
  unfolding item_step
  declaration_keeps d h k =
      record {
        finds = given_found rename good d.given h k;
        sees = λ taken. given_sees_keeps rename good d.given h k;
        does = λ i w. ap (λ b. (if b then give d.line (length i.fields, field d) (is_some (numbered_from 0 d.name i.fields)) h (in_other (record i { fields = i.fields ++ field d ∷ [] })) else refuse UnknownField d.line) (walk_other w)) (is_script_other rename good i.owner)
            ∙ maps_if walk_other in_other (is_script i.owner)
            (give d.line (length i.fields, field d) (is_some (numbered_from 0 d.name i.fields)) d.given (record i { fields = i.fields ++ field d ∷ [] })) (refuse UnknownField d.line)
            (give d.line (length i.fields, field d) (is_some (numbered_from 0 d.name i.fields)) h (in_other (record i { fields = i.fields ++ field d ∷ [] }))) (refuse UnknownField d.line)
            (give_keeps rename good d.line (length i.fields, field d) (is_some (numbered_from 0 d.name i.fields)) d.given h (record i { fields = i.fields ++ field d ∷ [] }) k) (λ x. refl) w;
      }

  pub route_keeps : (r : RouteText) → ItemKeeps (item_step (BodyItem-F.BodyItem::Route r)) (item_step (BodyItem-F.BodyItem::Route r))
  unfolding item_step
  route_keeps r = record { finds = λ own hidden. refl; sees = λ taken s. refl; does = λ i w. refl }

  pub proto_item_keeps : (m n : Proto) → ProtoKeeps m n → ItemKeeps (item_step (BodyItem-F.BodyItem::Proto m)) (item_step (BodyItem-F.BodyItem::Proto n))
  unfolding item_step
  proto_item_keeps m n h = record { finds = h.finds; sees = λ taken. h.sees; does = λ i. maps_then walk_other same in_other m.does n.does (λ _. pure i) (λ _. pure (in_other i)) h.does (λ _ w. refl) }

  -- ---- nodes

  abbrev AlikeItems : List Item → List Item → Type 0
  AlikeItems = Both rename good ItemKeeps

  inside_keeps : (name : Option Name) (owner : Owner) (fields : List Field) (ms ns : List Item) → AlikeItems ms ns → Does' in_other (inside name owner fields ms) (inside name (other_owner rename good owner) fields ns)
  inside_keeps name owner fields ms ns h w =
      ap (behind []) (through_keeps rename good ItemKeeps in_other (λ (i : Item). i.does) (λ (i : Item). i.does) (λ m n k i. k.does i) ms ns h (record { at = length w.scope.braces; owner = owner; fields = fields; filled = [] })
      (record w { scope = record w.scope { braces = w.scope.braces ++ record { name = name; stands = None } ∷ [] } }))

  twice_keeps : (seen : List Name) (fs : List Field) → Does' same (unless_twice seen fs) (unless_twice seen fs)
  twice_keeps seen [] w = refl
  twice_keeps seen (f ∷ fs) w = maps_if walk_other same (is_one f.name seen) (refuse FieldTwice f.line) (unless_twice (f.name ∷ seen) fs) (refuse FieldTwice f.line) (unless_twice (f.name ∷ seen) fs) (λ x. refl) (twice_keeps (f.name ∷ seen) fs) w

  close_keeps : (name : Option Name) (p : Prototype) (i : Inside) → Does' same (close_instance name p i) (close_instance name (other rename good p) (in_other i))
  close_keeps name p i w = on (p.instance i.filled w.put).met (p.instance i.filled w.put).comes where
    on : (met : List Met) (c : Result Instance ExpandFault)
        → follow met c (λ made. close name i.at (record { node = made.node; interface = Some p.interface; ends = made.ends }) (record made.put { nodes = renames name made.node made.put.nodes }) (record (walk_other w) { scope = record w.scope { routes = λ all. w.scope.routes all ++ made.routes } }))
        ≡ mapped walk_other same (follow met c (λ made. close name i.at (record { node = made.node; interface = Some p.interface; ends = made.ends }) (record made.put { nodes = renames name made.node made.put.nodes }) (record w { scope = record w.scope { routes = λ all. w.scope.routes all ++ made.routes } })))
    on met (Ok made) = refl
    on met (Err e) = refl

  full_keeps : (line : ℕ) (name : Option Name) (ms ns : List Item) → AlikeItems ms ns → (o : Option Owner) → Does' same (full_node line name ms o) (full_node line name ns (option_map (other_owner rename good) o))
  full_keeps line name ms ns h None w = refl
  full_keeps line name ms ns h (Some (OfType t)) w =
      ap (behind (ANode ∷ []))
      (maps_then walk_other in_other same (inside name (OfType t) (fields_of t) ms) (inside name (OfType t) (fields_of t) ns) (λ i. close_node name i.at (flat_node line name t i)) (λ i. close_node name i.at (flat_node line name t i))
      (inside_keeps name (OfType t) (fields_of t) ms ns h) (λ i x. refl) w)
  full_keeps line name ms ns h (Some (OfProto p)) w =
      ap (behind (AnInstance ∷ []))
      (maps_then walk_other same same (unless_twice [] p.interface) (unless_twice [] p.interface)
      (λ _. inside name (OfProto p) p.interface ms >>= close_instance name p) (λ _. inside name (OfProto (other rename good p)) p.interface ns >>= close_instance name (other rename good p))
      (twice_keeps [] p.interface)
      (λ _. maps_then walk_other in_other same (inside name (OfProto p) p.interface ms) (inside name (OfProto (other rename good p)) p.interface ns) (close_instance name p) (close_instance name (other rename good p)) (inside_keeps name (OfProto p) p.interface ms ns h) (close_keeps name p)) w)

  taken_by_other : (o : Option Owner) → taken_by (option_map (other_owner rename good) o) ≡ taken_by o
  taken_by_other None = refl
  taken_by_other (Some o) = taken_other rename good o

  pub full_node_keeps : (line : ℕ) (name : Option Name) (word : Name) (ms ns : List Item) → AlikeItems ms ns → AlikeNodes (node_step (NodeText-F.Full line name word ms)) (node_step (NodeText-F.Full line name (rename word) ns))
  unfolding node_step
  full_node_keeps line name word ms ns h =
      record {
        finds = λ own hidden.
            ap (λ b. if not hidden && b then Err line else each (λ (i : Item). i.finds (rename own)) ns hidden) (apart rename good word own)
            ∙ ap (λ r. if not hidden && bytes_eq word own then Err line else r) (each_found rename good ItemKeeps (λ (i : Item). i.finds own) (λ (i : Item). i.finds (rename own)) (λ m n k. k.finds own) ms ns h hidden);
        sees = λ s.
            ap (λ o. each (λ (i : Item). i.sees o) ns (others rename good s)) (ap taken_by (meant_other rename good word s) ∙ taken_by_other (meant word s))
            ∙ each_sees rename good ItemKeeps (λ (i : Item). i.sees (taken_by (meant word s))) (λ (i : Item). i.sees (taken_by (meant word s))) (λ m n k. k.sees (taken_by (meant word s))) ms ns h s;
        does = λ w. ap (λ o. full_node line name ns o (walk_other w)) (meant_other rename good word w.sight) ∙ full_keeps line name ms ns h (meant word w.sight) w;
      }

  pub use_keeps : (line : ℕ) (name : Name) → AlikeNodes (node_step (NodeText-F.Use line name)) (node_step (NodeText-F.Use line name))
  unfolding node_step
  use_keeps line name = record { finds = λ own hidden. refl; sees = λ s. refl; does = λ w. on w (used name w.scope.braces) } where
    on : (w : Walk) (o : Option ℕ) → behind (AnItem ∷ []) (option_map_or pure o (refuse UseWithoutDef line) (walk_other w)) ≡ mapped walk_other same (behind (AnItem ∷ []) (option_map_or pure o (refuse UseWithoutDef line) w))
    on w None = refl
    on w (Some n) = refl
