-- What ISs of a quiet body take: all names that they take stand in what is in sight behind it.
use Rattle.std.proofs.Common.{◌≡◌, ℕ, Bool, true, false, ◌&&◌, if◌then◌else◌, List, [], ◌∷◌, ◌++◌, Option, Some, None, option_map, Ok, map, refl, ap, sym, ◌∙◌, subst}
use Rattle.std.specs.List.{AllByRecursion, list_all}
use Rattle.std.specs.Option.{option_or}
use Rattle.std.specs.Str.{bytes_eq}
use Rattle.std.proofs.lemmas.Slice.Eq.{bytes_eq-Decides}
use Rattle.x3d_values.specs.Names.{node_type_named}
use Rattle.x3d_values.specs.declared.node_type.NodeType.{NodeType}
use Rattle.classic_tree.specs.declared.tree.BodyItem.{BodyItem}
use Rattle.classic_tree.specs.declared.tree.BodyItem.TheOpen.{BodyItem-F, NodeText-F, Statement-F}
use Rattle.classic_tree.specs.declared.tree.Declaration.{Declaration}
use Rattle.classic_tree.specs.declared.tree.Given.{Given}
use Rattle.classic_tree.specs.declared.tree.Given.TheVariants as given
use Rattle.classic_tree.specs.declared.tree.NodeText.{NodeText}
use Rattle.classic_tree.specs.declared.tree.ProtoText.{ProtoText}
use Rattle.classic_tree.specs.declared.tree.RawValue.TheVariants as value
use Rattle.classic_tree.specs.declared.tree.Statement.{Statement}
use Rattle.classic_tree.proofs.Mapped.{given_mapped, declaration_mapped}
use Rattle.proto_meaning.specs.Names.{Name}
use Rattle.proto_meaning.specs.Sight.{Sight, Look, Names, with_name, and_see, each, OfType, taken_by}
use Rattle.proto_meaning.specs.Flat.{Node, Item, Stated, given_sees, item_step, node_step, statement_step}
use Rattle.proto_meaning.specs.Flat.{item as item_part, node as node_part, statement as stated}
use Rattle.proto_meaning.proofs.Trees.{item-field, item-declaration, node-full, statement-node}
use Rattle.proto_meaning.proofs.Induction.{OfGiven, Layers, every_statement}
use Rattle.proto_meaning.proofs.SightLaw.{Seen}
use Rattle.laws_documents.specs.Steps.{is_true, all_in}
use Rattle.laws_documents.specs.WithFields.{Quiet, quiet_item, is_quiet_node, is_quiet_statement}
use Rattle.laws_documents.proofs.InPlaceParts.{never, both_true}
use Rattle.laws_documents.proofs.WithFieldsTexts as texts
use Rattle.laws_documents.proofs.WithFieldsTexts.{joined, asked_in, asked_by_item, asked_by, asked_by_statement}

-- nothing in sight, and what ISs took
abbrev pub bare : Names → Sight
bare taken = record { here = []; outside = []; taken = taken }

abbrev pub adds : List Name → Names → Names
adds [] taken = taken
adds (x ∷ xs) taken = adds xs (with_name x taken)

pub adds_append : (xs ys : List Name) (taken : Names) → adds (xs ++ ys) taken ≡ adds ys (adds xs taken)
adds_append [] ys taken = refl
adds_append (x ∷ xs) ys taken = adds_append xs ys (with_name x taken)

-- ---- all that is added is taken

still_taken : (xs : List Name) (taken : Names) (x : Name) → taken x ≡ true → adds xs taken x ≡ true
still_taken [] taken x e = e
still_taken (y ∷ ys) taken x e = still_taken ys (with_name y taken) x (on (bytes_eq y x)) where
  on : (b : Bool) → (if b then true else taken x) ≡ true
  on true = refl
  on false = e

pub all_taken : (xs : List Name) (taken : Names) → list_all (adds xs taken) xs ≡ true
all_taken [] taken = refl
all_taken (x ∷ xs) taken =
    ap (λ b. b && list_all (adds xs (with_name x taken)) xs) (still_taken xs (with_name x taken) x (ap (λ b. if b then true else taken x) ((bytes_eq-Decides x x).1 refl)))
    ∙ all_taken xs (with_name x taken)

-- ---- what each part takes

abbrev Takes : Look → List Name → Type 0
Takes step names = (taken : Names) → step (bare taken) ≡ Ok (bare (adds names taken))

takes_then : (r : Seen) (f : Look) (xs ys : List Name) (taken : Names) → r ≡ Ok (bare (adds xs taken)) → Takes f ys → and_see r f ≡ Ok (bare (adds (xs ++ ys) taken))
takes_then r f xs ys taken e k = ap (λ x. and_see x f) e ∙ k (adds xs taken) ∙ ap (λ n. Ok (bare n)) (sym (adds_append xs ys taken))

module _ (proto : Name) where
  abbrev OfNode : NodeText → Type 0
  OfNode n = is_quiet_node proto false n ≡ true → Takes (node_part n).sees (asked_by n)

  abbrev OfItem : BodyItem → Type 0
  OfItem i = (quiet_item proto false i).anywhere ≡ true → Takes ((item_part i).sees None) (asked_by_item i)

  abbrev OfStatement : Statement → Type 0
  OfStatement s = is_quiet_statement proto false s ≡ true → Takes (stated s).1.sees (asked_by_statement s)

  abbrev OfPrototype : ProtoText → Type 0
  OfPrototype p = Unit {0}

  nodes_take : (ns : List NodeText) → AllByRecursion OfNode ns → list_all is_true (map (is_quiet_node proto false) ns) ≡ true → Takes (each (λ (n : Node). n.sees) (map node_part ns)) (joined (map asked_by ns))
  nodes_take [] h e taken = refl
  nodes_take (n ∷ ns) h e taken =
      let both = both_true (is_quiet_node proto false n) (list_all is_true (map (is_quiet_node proto false) ns)) e in
      takes_then ((node_part n).sees (bare taken)) (each (λ (m : Node). m.sees) (map node_part ns)) (asked_by n) (joined (map asked_by ns)) taken (h.0 both.0 taken) (nodes_take ns h.1 both.1)

  given_takes : (g : Given NodeText) → OfGiven OfNode g → all_in (given_mapped (is_quiet_node proto false) g) ≡ true → Takes (given_sees (given_mapped node_part g)) (asked_in (given_mapped asked_by g))
  given_takes given.Nothing h e taken = refl
  given_takes (given.Is name) h e taken = refl
  given_takes (given.Value value.Null) h e taken = refl
  given_takes (given.Value (value.Truth truth)) h e taken = refl
  given_takes (given.Value (value.String text)) h e taken = refl
  given_takes (given.Value (value.Numbers numbers)) h e taken = refl
  given_takes (given.Value (value.Node n)) h e taken = ap (λ r. and_see r (λ s. Ok s)) (h e taken)
  given_takes (given.Value value.EmptyList) h e taken = refl
  given_takes (given.Value (value.TruthList truths)) h e taken = refl
  given_takes (given.Value (value.StringList texts)) h e taken = refl
  given_takes (given.Value (value.NumberList numbers)) h e taken = refl
  given_takes (given.Value (value.NodeList ns)) h e taken = nodes_take ns h e taken

  field_takes : (line : ℕ) (name : Name) (g : Given Node) (xs : List Name) → Takes (given_sees g) xs → Takes ((item_step (BodyItem-F.Field line name g)).sees None) xs
  unfolding item_step
  field_takes line name g xs h = h

  declaration_takes : (d : Declaration Node) (xs : List Name) → Takes (given_sees d.given) xs → Takes ((item_step (BodyItem-F.Declaration d)).sees None) xs
  unfolding item_step
  declaration_takes d xs h = h

  items_take : (is : List BodyItem) → AllByRecursion OfItem is → list_all (λ (q : Quiet). q.anywhere) (map (quiet_item proto false) is) ≡ true → Takes (each (λ (i : Item). i.sees None) (map item_part is)) (joined (map asked_by_item is))
  items_take [] h e taken = refl
  items_take (i ∷ is) h e taken =
      let both = both_true (quiet_item proto false i).anywhere (list_all (λ (q : Quiet). q.anywhere) (map (quiet_item proto false) is)) e in
      takes_then ((item_part i).sees None (bare taken)) (each (λ (j : Item). j.sees None) (map item_part is)) (asked_by_item i) (joined (map asked_by_item is)) taken (h.0 both.0 taken) (items_take is h.1 both.1)

  none_takes : (t : Option NodeType) → taken_by (option_or (option_map OfType t) None) ≡ None
  none_takes None = refl
  none_takes (Some t) = refl

  stands_quiet : (b x y : Bool) → (if b then false && x else y) ≡ true → y ≡ true
  stands_quiet true x y e = never e
  stands_quiet false x y e = e

  full_takes : (line : ℕ) (name : Option Name) (word : Name) (is : List BodyItem) → AllByRecursion OfItem is → list_all (λ (q : Quiet). q.anywhere) (map (quiet_item proto false) is) ≡ true
      → Takes (node_step (NodeText-F.Full line name word (map item_part is))).sees (joined (map asked_by_item is))
  unfolding node_step
  full_takes line name word is h e taken =
      ap (λ o. each (λ (i : Item). i.sees o) (map item_part is) (bare taken)) (none_takes (node_type_named word)) ∙ items_take is h e taken

  node_takes : (n : Node) (xs : List Name) → Takes n.sees xs → Takes (statement_step (Statement-F.Node n)).1.sees xs
  unfolding statement_step
  node_takes n xs h = h

  item_by : (l m : Item) (xs ys : List Name) → l ≡ m → xs ≡ ys → Takes (m.sees None) ys → Takes (l.sees None) xs
  item_by l m xs ys e f h = subst (λ (x : Item). Takes (x.sees None) xs) (sym e) (subst (λ zs. Takes (m.sees None) zs) (sym f) h)

  node_by : (l m : Node) (xs ys : List Name) → l ≡ m → xs ≡ ys → Takes m.sees ys → Takes l.sees xs
  node_by l m xs ys e f h = subst (λ (x : Node). Takes x.sees xs) (sym e) (subst (λ zs. Takes m.sees zs) (sym f) h)

  statement_by : (l m : Stated) (xs ys : List Name) → l ≡ m → xs ≡ ys → Takes m.1.sees ys → Takes l.1.sees xs
  statement_by l m xs ys e f h = subst (λ (x : Stated). Takes x.1.sees xs) (sym e) (subst (λ zs. Takes m.1.sees zs) (sym f) h)

  layers : Layers OfItem OfNode OfStatement OfPrototype
  layers = record {
    field = λ line name g h e. item_by _ _ _ _ (item-field line name g refl) (texts.asked-field line name g) (field_takes line name (given_mapped node_part g) (asked_in (given_mapped asked_by g)) (given_takes g h (sym (ap (λ (q : Quiet). q.anywhere) (texts.quiet-field proto false line name g)) ∙ e)));
    declaration = λ d h e. item_by _ _ _ _ (item-declaration d refl) (texts.asked-declaration d) (declaration_takes (declaration_mapped node_part d) (asked_in (given_mapped asked_by d.given)) (given_takes d.given h (sym (ap (λ (q : Quiet). q.anywhere) (texts.quiet-declaration proto false d)) ∙ e)));
    item_route = λ r e. never (sym (ap (λ (q : Quiet). q.anywhere) (texts.quiet-item-route proto false r)) ∙ e);
    item_proto = λ p h e. never (sym (ap (λ (q : Quiet). q.anywhere) (texts.quiet-item-proto proto false p)) ∙ e);
    used = λ line name e. never (sym (texts.quiet-use proto false line name) ∙ e);
    full = λ line name word is h e. node_by _ _ _ _ (node-full line name word is refl) (texts.asked-full line name word is)
        (full_takes line name word is h (stands_quiet (bytes_eq proto word) (list_all (λ (q : Quiet). q.in_instance) (map (quiet_item proto false) is)) (list_all (λ (q : Quiet). q.anywhere) (map (quiet_item proto false) is)) (sym (texts.quiet-full proto false line name word is) ∙ e)));
    node = λ n h e. statement_by _ _ _ _ (statement-node n refl) (texts.asked-node n) (node_takes (node_part n) (asked_by n) (h (sym (texts.quiet-node proto false n) ∙ e)));
    route = λ r e. never (sym (texts.quiet-route proto false r) ∙ e);
    proto = λ p h e. never (sym (texts.quiet-proto proto false p) ∙ e);
    prototype = λ p hd hs. tt;
  }

  pub statement_takes : (s : Statement) → is_quiet_statement proto false s ≡ true → (taken : Names) → (stated s).1.sees (bare taken) ≡ Ok (bare (adds (asked_by_statement s) taken))
  statement_takes s = every_statement OfItem OfNode OfStatement OfPrototype layers s
