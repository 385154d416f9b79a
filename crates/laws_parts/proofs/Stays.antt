-- What stays of each part of a tree in one round, and in any number of them.
use Rattle.std.proofs.Common.{◌≡◌, ℕ, zero, suc, List, [], ◌∷◌, ◌++◌, Bool, true, false, not, Option, Some, None, map, inl, inr, refl, ap, sym, subst, ◌∙◌, if◌then◌else◌}
use Rattle.std.specs.Prelude.{IfSome, codes, option_map}
use Rattle.std.specs.List.{AllByRecursion, list_any}
use Rattle.std.specs.Option.{option_to_list}
use Rattle.std.proofs.lemmas.List.{map-append}
use Rattle.classic_tree.specs.declared.tree.BodyItem.{BodyItem}
use Rattle.classic_tree.specs.declared.tree.BodyItem.TheVariants as held
use Rattle.classic_tree.specs.declared.tree.Declaration.{Declaration}
use Rattle.classic_tree.specs.declared.tree.Document.{Document}
use Rattle.classic_tree.specs.declared.tree.Given.{Given}
use Rattle.classic_tree.specs.declared.tree.Given.TheVariants as given
use Rattle.classic_tree.specs.declared.tree.NodeText.{NodeText}
use Rattle.classic_tree.specs.declared.tree.NodeText.TheVariants as made
use Rattle.classic_tree.specs.declared.tree.ProtoText.{ProtoText, out-ProtoText, roll-ProtoText, out-roll-ProtoText}
use Rattle.classic_tree.specs.declared.tree.RawValue.{RawValue}
use Rattle.classic_tree.specs.declared.tree.RawValue.TheVariants as value
use Rattle.classic_tree.specs.declared.tree.RouteText.{RouteText}
use Rattle.classic_tree.specs.declared.tree.Statement.{Statement}
use Rattle.classic_tree.specs.declared.tree.Statement.TheVariants as stands
use Rattle.classic_part.specs.declared.knowing.Known.{Known}
use Rattle.classic_part.specs.declared.notes.NoteKind.TheVariants as kind
use Rattle.classic_part.specs.declared.rules.FieldRule.{FieldRule}
use Rattle.classic_part.specs.declared.rules.FieldRule.TheVariants as rule
use Rattle.classic_part.specs.declared.rules.Meant.{Meant}
use Rattle.classic_part.specs.Notes.{refuses, knows_name}
use Rattle.classic_part.specs.Part.{Part, whole, gone as left_out, kept_in, notes_in, plain, list_of, given_or, declared_as, value_part, given_part, declared_part, declaration_part, ruled_part, joined_part, route_part, use_part, is_nothing, braces_part, is_node, body_part, item_part, node_part, statement_part, proto_part}
use Rattle.classic_part.specs.Rounds.{one_round, after}
use Rattle.classic_part.specs.Rules.{meaning_of, word_of, turns, field_rule}
use Rattle.classic_part.proofs.Equations.{item_part-field, item_part-declaration, item_part-route, item_part-proto, node_part-use, node_part-full, statement_part-node, statement_part-route, statement_part-proto, proto_part_is}
use Rattle.classic_part.proofs.Trees.{Layers, OfValue, OfGiven, OfDeclaration, every}
use Rattle.laws_parts.specs.Stays.{Piece, an_item, a_node, a_declaration, a_statement, a_proto, nodes_in, nodes_of, but_nodes, inside, IsName, Stay, nothing, gone, same, again, field, declared, item_declared, item_proto, full, node_statement, proto_statement, proto, IsOf, WhatStaysIsAsItWas}
use Rattle.laws_parts.proofs.Words.{word_stays}

-- ---- lists of pieces

all_same : (ps : List Piece) → Stay ps ps
all_same [] = nothing
all_same (p ∷ ps) = same (all_same ps)

all_gone : (ps : List Piece) → Stay [] ps
all_gone [] = nothing
all_gone (p ∷ ps) = gone (all_gone ps)

both : {a b c d : List Piece} → Stay a b → Stay c d → Stay (a ++ c) (b ++ d)
both nothing t = t
both (gone s) t = gone (both s t)
both (same s) t = same (both s t)
both {d = d} (again mid r s) t = again (mid ++ d) (both r t) (both s (all_same d))
both (field line name named g h is rest i s) t = field line name named g h is rest i (both s t)
both (declared e g default i s) t = declared e g default i (both s t)
both (item_declared e g i s) t = item_declared e g i (both s t)
both (item_proto p q i s) t = item_proto p q i (both s t)
both (full line name word worded items less is i s) t = full line name word worded items less is i (both s t)
both (node_statement n m i s) t = node_statement n m i (both s t)
both (proto_statement p q i s) t = proto_statement p q i (both s t)
both (proto p q line name i s) t = proto p q line name i (both s t)

-- what stays of one piece, or nothing
abbrev One : {A : Type 0} → (A → Piece) → Option A → A → Type 0
One piece kept x = Stay (map piece (option_to_list kept)) (piece x ∷ [])

abbrev Each : {A : Type 0} → (A → Piece) → (A → Part A) → A → Type 0
Each piece part x = One piece (part x).kept x

lists : {A : Type 0} (piece : A → Piece) (part : A → Part A) (xs : List A) → AllByRecursion (Each piece part) xs
    → Stay (map piece (kept_in part xs)) (map piece xs)
lists piece part [] h = nothing
lists piece part (x ∷ xs) h =
    subst (λ ps. Stay ps (piece x ∷ map piece xs)) (sym (map-append piece (option_to_list (part x).kept) (kept_in part xs)))
    (both h.0 (lists piece part xs h.1))

-- ---- values

-- what stays of a value, or of what a name is given, if it does
abbrev IsValue : Option (RawValue NodeText) → RawValue NodeText → Type 0
IsValue kept v = IfSome kept (λ w. Stay (nodes_in w) (nodes_in v) × (plain w ≡ plain v))

abbrev IsGiven : Option (Given NodeText) → Given NodeText → Type 0
IsGiven kept g = IfSome kept (λ h. Stay (nodes_of h) (nodes_of g) × (but_nodes h ≡ but_nodes g))

one_node : (n : NodeText) (kept : Option NodeText) → One a_node kept n → IsValue (option_map value.Node kept) (value.Node n)
one_node n None s = tt
one_node n (Some m) s = (s, refl)

some_nodes : (ns kept : List NodeText) → Stay (map a_node kept) (map a_node ns) → IsValue (Some (list_of kept)) (value.NodeList ns)
some_nodes ns [] s = (s, refl)
some_nodes ns (m ∷ ms) s = (s, refl)

given_value : (v : RawValue NodeText) (kept : Option (RawValue NodeText)) → IsValue kept v → IsGiven (option_map given.Value kept) (given.Value v)
given_value v None s = tt
given_value v (Some w) s = (s.0, ap given.Value s.1)

-- what is kept, if anything, is that
abbrev IsItself : {A : Type 0} → Option A → A → Type 0
IsItself kept x = IfSome kept (λ y. y ≡ x)

itself_if : {A : Type 0} (b : Bool) (p q : Part A) (x : A) → IsItself p.kept x → IsItself q.kept x → IsItself (if b then p else q).kept x
itself_if true p q x h k = h
itself_if false p q x h k = k

module _ (known : Known) where
  abbrev OfNode : NodeText → Type 0
  OfNode n = (name : List ℕ) → One a_node (node_part known n name).kept n

  abbrev OfItem : BodyItem → Type 0
  OfItem i = (m : Meant) → One an_item (item_part known i m).kept i

  abbrev OfStatement : Statement → Type 0
  OfStatement s = One a_statement (statement_part known s).kept s

  abbrev OfProto : ProtoText → Type 0
  OfProto p = One a_proto (proto_part known p).kept p

  abbrev nodes : List ℕ → NodeText → Part NodeText
  nodes name n = node_part known n name

  of_name : (name : List ℕ) (ns : List NodeText) → AllByRecursion OfNode ns → AllByRecursion (Each a_node (nodes name)) ns
  of_name name [] h = tt
  of_name name (n ∷ ns) h = (h.0 name, of_name name ns h.1)

  values : (name : List ℕ) (v : RawValue NodeText) → OfValue OfNode v → IsValue (value_part nodes name v).kept v
  values name value.Null h = (nothing, refl)
  values name (value.Truth truth) h = (nothing, refl)
  values name (value.String text) h = (nothing, refl)
  values name (value.Numbers numbers) h = (nothing, refl)
  values name (value.Node n) h = one_node n (node_part known n name).kept (h name)
  values name value.EmptyList h = (nothing, refl)
  values name (value.TruthList truths) h = (nothing, refl)
  values name (value.StringList texts) h = (nothing, refl)
  values name (value.NumberList numbers) h = (nothing, refl)
  values name (value.NodeList ns) h = some_nodes ns (kept_in (nodes name) ns) (lists a_node (nodes name) ns (of_name name ns h))

  givens : (name : List ℕ) (g : Given NodeText) → OfGiven OfNode g → IsGiven (given_part nodes name g).kept g
  givens name given.Nothing h = (nothing, refl)
  givens name (given.Value v) h = given_value v (value_part nodes name v).kept (values name v h)
  givens name (given.Is outer) h = (nothing, refl)

  -- ---- fields and declarations

  one_field : (line : ℕ) (name named : List ℕ) (g : Given NodeText) (kept : Option (Given NodeText)) → IsName named name → IsGiven kept g
      → One an_item (option_map (held.Field line named) kept) (held.Field line name g)
  one_field line name named g None is s = gone nothing
  one_field line name named g (Some h) is s = field line name named g h is s.1 s.0 nothing

  ruled : (line : ℕ) (name : List ℕ) (g : Given NodeText) (r : FieldRule) → OfGiven OfNode g
      → One an_item (ruled_part nodes line name g r).kept (held.Field line name g)
  ruled line name g rule.Stays h = one_field line name name g (given_part nodes name g).kept (inl refl) (givens name g h)
  ruled line name g rule.Children h =
      one_field line name (codes "children") g (given_part nodes (codes "children") g).kept (inr refl) (givens (codes "children") g h)
  ruled line name g rule.Unknown h = gone nothing
  ruled line name g rule.Turned h = gone nothing

  field_if : (line : ℕ) (name : List ℕ) (g : Given NodeText) (r : FieldRule) (off : Bool) → OfGiven OfNode g
      → One an_item (if off then left_out kind.Refused line name [] else ruled_part nodes line name g r).kept (held.Field line name g)
  field_if line name g r true h = gone nothing
  field_if line name g r false h = ruled line name g r h

  one_declared : (d : Declaration NodeText) (kept : Option (Given NodeText)) → IsGiven kept d.given
      → One a_declaration (Some (declared_as d (given_or kept))) d
  one_declared d None s = declared d (given.Value value.Null) (inr refl) (all_gone (nodes_of d.given)) nothing
  one_declared d (Some g) s = declared d g (inl s.1) s.0 nothing

  declared_if : (d : Declaration NodeText) (off : Bool) → OfGiven OfNode d.given
      → One a_declaration (if off then left_out kind.Refused d.line d.name [] else declared_part d (given_part nodes d.name d.given)).kept d
  declared_if d true h = gone nothing
  declared_if d false h = one_declared d (given_part nodes d.name d.given).kept (givens d.name d.given h)

  one_declaration : (d : Declaration NodeText) → OfDeclaration OfNode d → One a_declaration (declaration_part nodes known d).kept d
  one_declaration d h = declared_if d (refuses known d.line) h

  each_declaration : (ds : List (Declaration NodeText)) → AllByRecursion (OfDeclaration OfNode) ds → AllByRecursion (Each a_declaration (declaration_part nodes known)) ds
  each_declaration [] h = tt
  each_declaration (d ∷ ds) h = (one_declaration d h.0, each_declaration ds h.1)

  item_of_declaration : (d : Declaration NodeText) (kept : Option (Declaration NodeText)) → One a_declaration kept d
      → One an_item (option_map held.Declaration kept) (held.Declaration d)
  item_of_declaration d None s = gone nothing
  item_of_declaration d (Some e) s = item_declared d e s nothing

  item_of_proto : (p : ProtoText) (kept : Option ProtoText) → One a_proto kept p → One an_item (option_map held.Proto kept) (held.Proto p)
  item_of_proto p None s = gone nothing
  item_of_proto p (Some q) s = item_proto p q s nothing

  -- ---- routes and uses: unchanged, or gone

  route_itself : (r : RouteText) → IsItself (route_part known r).kept r
  route_itself r =
      itself_if (refuses known r.line) (left_out kind.Refused r.line (codes "ROUTE") []) (joined_part known r) r tt
      (itself_if (not (knows_name known r.source.node)) (left_out kind.Route r.line r.source.node []) _ r tt
      (itself_if (not (knows_name known r.target.node)) (left_out kind.Route r.line r.target.node []) (whole r) r tt refl))

  item_of_route : (r : RouteText) (kept : Option RouteText) → IsItself kept r → One an_item (option_map held.Route kept) (held.Route r)
  item_of_route r None is = gone nothing
  item_of_route r (Some q) is = subst (λ x. Stay (an_item (held.Route x) ∷ []) (an_item (held.Route r) ∷ [])) (sym is) (same nothing)

  statement_of_route : (r : RouteText) (kept : Option RouteText) → IsItself kept r → One a_statement (option_map stands.Route kept) (stands.Route r)
  statement_of_route r None is = gone nothing
  statement_of_route r (Some q) is = subst (λ x. Stay (a_statement (stands.Route x) ∷ []) (a_statement (stands.Route r) ∷ [])) (sym is) (same nothing)

  use_itself : (line : ℕ) (name place : List ℕ) → IsItself (use_part known line name place).kept (made.Use line name)
  use_itself line name place =
      itself_if (refuses known line) (left_out kind.Refused line name place) _ (made.Use line name) tt
      (itself_if (knows_name known name) (whole (made.Use line name)) (left_out kind.Use line name place) (made.Use line name) refl tt)

  node_itself : (n : NodeText) (kept : Option NodeText) → IsItself kept n → One a_node kept n
  node_itself n None is = gone nothing
  node_itself n (Some m) is = subst (λ x. Stay (a_node x ∷ []) (a_node n ∷ [])) (sym is) (same nothing)

  -- ---- nodes

  full_if : (line : ℕ) (name : Option (List ℕ)) (word place : List ℕ) (items : List BodyItem) (off none : Bool) → AllByRecursion OfItem items
      → One a_node (if off then left_out kind.Refused line word place
      else if none then left_out kind.Node line word place
      else braces_part line name word place (meaning_of known word) (kept_in (λ i. item_part known i (meaning_of known word)) items)
      (notes_in (λ i. item_part known i (meaning_of known word)) items)).kept (made.Full line name word items)
  full_if line name word place items true none h = gone nothing
  full_if line name word place items false true h = gone nothing
  full_if line name word place items false false h =
      let m = meaning_of known word in
      full line name word (word_of m word) items (kept_in (λ i. item_part known i m) items) (word_stays known word) (lists an_item (λ i. item_part known i m) items (meant m items h)) nothing
    where
      meant : (m : Meant) (items : List BodyItem) → AllByRecursion OfItem items → AllByRecursion (Each an_item (λ i. item_part known i m)) items
      meant m [] h = tt
      meant m (i ∷ items) h = (h.0 m, meant m items h.1)

  statement_of_node : (n : NodeText) (kept : Option NodeText) → One a_node kept n → One a_statement (option_map stands.Node kept) (stands.Node n)
  statement_of_node n None s = gone nothing
  statement_of_node n (Some m) s = node_statement n m s nothing

  statement_of_proto : (p : ProtoText) (kept : Option ProtoText) → One a_proto kept p → One a_statement (option_map stands.Proto kept) (stands.Proto p)
  statement_of_proto p None s = gone nothing
  statement_of_proto p (Some q) s = proto_statement p q s nothing

  -- ---- prototypes

  abbrev rolled : ProtoText → List (Declaration NodeText) → List Statement → ProtoText
  rolled p interface body = roll-ProtoText (record {
    line = (out-ProtoText p).line;
    name = (out-ProtoText p).name;
    interface = interface;
    body = body;
  })

  one_proto : (p : ProtoText) (interface : List (Declaration NodeText)) (body : List Statement) (some : Bool)
      → Stay (map a_declaration interface) (map a_declaration (out-ProtoText p).interface)
      → Stay (map a_statement body) (map a_statement (out-ProtoText p).body)
      → One a_proto (if some then Some (rolled p interface body) else None) p
  one_proto p interface body false d s = gone nothing
  one_proto p interface body true d s =
      let opened = out-roll-ProtoText (record {
        line = (out-ProtoText p).line;
        name = (out-ProtoText p).name;
        interface = interface;
        body = body;
      }) in
      proto p (rolled p interface body) (ap (λ q. q.line) opened) (ap (λ q. q.name) opened)
      (subst (λ ps. Stay ps (inside p)) (sym (ap (λ q. map a_declaration q.interface ++ map a_statement q.body) opened)) (both d s))
      nothing

  proto_if : (p : ProtoText) (off : Bool) → AllByRecursion (OfDeclaration OfNode) (out-ProtoText p).interface → AllByRecursion OfStatement (out-ProtoText p).body
      → One a_proto (if off then left_out kind.Refused (out-ProtoText p).line (out-ProtoText p).name []
      else body_part (out-ProtoText p).line (out-ProtoText p).name
      (kept_in (declaration_part nodes known) (out-ProtoText p).interface)
      (kept_in (statement_part known) (out-ProtoText p).body)
      (notes_in (declaration_part nodes known) (out-ProtoText p).interface
      ++ notes_in (statement_part known) (out-ProtoText p).body)).kept p
  proto_if p true d s = gone nothing
  proto_if p false d s =
      one_proto p (kept_in (declaration_part nodes known) (out-ProtoText p).interface) (kept_in (statement_part known) (out-ProtoText p).body)
      (list_any is_node (kept_in (statement_part known) (out-ProtoText p).body))
      (lists a_declaration (declaration_part nodes known) (out-ProtoText p).interface (each_declaration (out-ProtoText p).interface d))
      (lists a_statement (statement_part known) (out-ProtoText p).body s)

  -- ---- all parts

  layers : Layers OfItem OfNode OfStatement OfProto
  layers = record {
    field = λ line name g h m. subst (λ (p : Part BodyItem). One an_item p.kept (held.Field line name g)) (sym (item_part-field known line name g m))
        (field_if line name g (field_rule m name (turns g)) (refuses known line) h);
    declaration = λ d h m. subst (λ (p : Part BodyItem). One an_item p.kept (held.Declaration d)) (sym (item_part-declaration known d m))
        (item_of_declaration d (declaration_part nodes known d).kept (one_declaration d h));
    item_route = λ r m. subst (λ (p : Part BodyItem). One an_item p.kept (held.Route r)) (sym (item_part-route known r m))
        (item_of_route r (route_part known r).kept (route_itself r));
    item_proto = λ p h m. subst (λ (q : Part BodyItem). One an_item q.kept (held.Proto p)) (sym (item_part-proto known p m))
        (item_of_proto p (proto_part known p).kept h);
    used = λ line name place. subst (λ (p : Part NodeText). One a_node p.kept (made.Use line name)) (sym (node_part-use known line name place))
        (node_itself (made.Use line name) (use_part known line name place).kept (use_itself line name place));
    full = λ line name word items h place. subst (λ (p : Part NodeText). One a_node p.kept (made.Full line name word items)) (sym (node_part-full known line name word items place))
        (full_if line name word place items (refuses known line) (is_nothing (meaning_of known word)) h);
    node = λ n h. subst (λ (p : Part Statement). One a_statement p.kept (stands.Node n)) (sym (statement_part-node known n))
        (statement_of_node n (node_part known n []).kept (h []));
    route = λ r. subst (λ (p : Part Statement). One a_statement p.kept (stands.Route r)) (sym (statement_part-route known r))
        (statement_of_route r (route_part known r).kept (route_itself r));
    proto = λ p h. subst (λ (q : Part Statement). One a_statement q.kept (stands.Proto p)) (sym (statement_part-proto known p))
        (statement_of_proto p (proto_part known p).kept h);
    prototype = λ p d s. subst (λ (q : Part ProtoText). One a_proto q.kept p) (sym (proto_part_is known p))
        (proto_if p (refuses known (out-ProtoText p).line) d s);
  }

  in_one_round : (d : Document) → IsOf d (one_round known d).document
  in_one_round d = record {
    version = refl;
    profile = refl;
    components = refl;
    metas = refl;
    statements = lists a_statement (statement_part known) d.statements (every OfItem OfNode OfStatement OfProto layers d.statements);
  }

-- ---- rounds

one_more : {a b c : Document} → IsOf a b → IsOf b c → IsOf a c
one_more {b = b} s t = record {
  version = t.version ∙ s.version;
  profile = t.profile ∙ s.profile;
  components = t.components ∙ s.components;
  metas = t.metas ∙ s.metas;
  statements = again (map a_statement b.statements) t.statements s.statements;
}

pub what_stays : WhatStaysIsAsItWas
what_stays zero refused d = in_one_round (record { notes = None; refused = refused }) d
what_stays (suc n) refused d =
    one_more (what_stays n refused d)
    (in_one_round (record { notes = Some (after n refused d).notes; refused = refused }) (after n refused d).document)
