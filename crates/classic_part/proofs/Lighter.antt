-- Each round weighs no more than what it began with, less one for each thing that went.
use Rattle.std.proofs.Common.{arith, ◌≡◌, ◌≤◌, ◌<◌, ℕ, ◌+◌, suc, List, [], ◌∷◌, ◌++◌, Bool, true, false, not, ◌||◌, ◌&&◌, Option, Some, None, refl, ap, sym, subst, ◌∙◌, append_assoc, if◌then◌else◌}
use Rattle.std.specs.Prelude.{codes, is_some, option_map}
use Rattle.std.specs.List.{AllByRecursion, flat_map, list_any, list_all}
use Rattle.std.specs.Option.{option_to_list}
use Rattle.std.specs.Str.{bytes_eq}
use Rattle.x3d_values.specs.declared.node_type.NodeType.{NodeType}
use Rattle.x3d_values.specs.declared.node_type.NodeType.TheVariants.{Group, Transform}
use Rattle.x3d_values.specs.Names.{node_type_named, node_type_name}
use Rattle.classic_tree.specs.declared.tree.BodyItem.{BodyItem}
use Rattle.classic_tree.specs.declared.tree.BodyItem.TheVariants as item
use Rattle.classic_tree.specs.declared.tree.Declaration.{Declaration}
use Rattle.classic_tree.specs.declared.tree.Document.{Document}
use Rattle.classic_tree.specs.declared.tree.Given.{Given}
use Rattle.classic_tree.specs.declared.tree.Given.TheVariants as given
use Rattle.classic_tree.specs.declared.tree.NodeText.{NodeText}
use Rattle.classic_tree.specs.declared.tree.NodeText.TheVariants as node
use Rattle.classic_tree.specs.declared.tree.ProtoText.{ProtoText, out-ProtoText, roll-ProtoText}
use Rattle.classic_tree.specs.declared.tree.RawValue.{RawValue}
use Rattle.classic_tree.specs.declared.tree.RawValue.TheVariants as value
use Rattle.classic_tree.specs.declared.tree.RouteText.{RouteText}
use Rattle.classic_tree.specs.declared.tree.Statement.{Statement}
use Rattle.classic_tree.specs.declared.tree.Statement.TheVariants as statement
use Rattle.classic_part.specs.declared.knowing.Known.{Known}
use Rattle.classic_part.specs.declared.notes.Note.{Note}
use Rattle.classic_part.specs.declared.notes.NoteKind.TheVariants as kind
use Rattle.classic_part.specs.declared.part.Round.{Round}
use Rattle.classic_part.specs.declared.rules.FieldRule.{FieldRule}
use Rattle.classic_part.specs.declared.rules.FieldRule.TheVariants as rule
use Rattle.classic_part.specs.declared.rules.Meant.{Meant}
use Rattle.classic_part.specs.declared.rules.Meant.TheVariants.{Grouped}
use Rattle.classic_part.specs.Groupings.{GroupingRow, table}
use Rattle.classic_part.specs.Notes.{refuses, knows_name, declares, note}
use Rattle.classic_part.specs.Part.{Part, whole, gone, kept_in, notes_in, part_by, list_of, given_or, value_part, given_part, declared_part, declaration_part, named_part, ruled_part, joined_part, route_part, use_part, is_nothing, grouped_notes, named_notes, braces_part, is_node, body_part, item_part, node_part, statement_part, proto_part}
use Rattle.classic_part.specs.Rounds.{after, goes, left_in, left_one, one_round, next}
use Rattle.classic_part.specs.Rules.{grouped, declared_or_grouped, untyped, typed_or, meaning_of, word_of, turns, field_rule}
use Rattle.classic_part.proofs.Equations.{item_part-field, item_part-declaration, item_part-route, item_part-proto, node_part-use, node_part-full, statement_part-node, statement_part-route, statement_part-proto, proto_part_is}
use Rattle.classic_part.proofs.Trees.{Layers, OfValue, OfGiven, OfDeclaration, every}
use Rattle.classic_part.proofs.Weights.{sum, sum-append, word_weight, value_weight, given_weight, declaration_weight, item_weight, node_weight, statement_weight, proto_weight, weight, item_weight-field, item_weight-declaration, item_weight-route, item_weight-proto, node_weight-use, node_weight-full, statement_weight-node, statement_weight-route, statement_weight-proto, proto_weight_is, proto_weight_rolled}

-- ---- how many things went

abbrev one_if : Bool → ℕ
one_if true = 1
one_if false = 0

abbrev went : List Note → ℕ
went notes = sum (λ n. one_if (goes n)) notes

went-append : (xs ys : List Note) → went (xs ++ ys) ≡ went xs + went ys
went-append xs ys = sum-append (λ n. one_if (goes n)) xs ys

first_or : (b c : Bool) (rest : ℕ) → (b || c) ≡ true → (c ≡ true → 1 ≤ rest) → 1 ≤ one_if b + rest
first_or true c rest e h = omega arith
first_or false c rest e h = omega (arith, h e)

some_went : (notes : List Note) → list_any goes notes ≡ true → 1 ≤ went notes
some_went [] e = absurd cc
some_went (n ∷ ns) e = first_or (goes n) (list_any goes ns) (went ns) e (λ h. some_went ns h)

-- ---- what stays of one thing, and what went of it, weigh no more than the thing

abbrev kept_weight : {A : Type 0} → (A → ℕ) → Option A → ℕ
kept_weight w None = 0
kept_weight w (Some a) = w a

abbrev Light : {A : Type 0} → (A → ℕ) → Part A → ℕ → Type 0
Light w part all = kept_weight w part.kept + went part.notes ≤ all

if_light : {A : Type 0} (w : A → ℕ) (b : Bool) (p q : Part A) (all : ℕ) → Light w p all → Light w q all → Light w (if b then p else q) all
if_light w true p q all h k = h
if_light w false p q all h k = k

by_light : {A B : Type 0} (w : A → ℕ) (v : B → ℕ) (f : A → B) (p : Part A) (all top : ℕ) → all ≤ top → ((a : A) → v (f a) + all ≤ top + w a)
    → Light w p all → Light v (part_by f p) top
by_light {A} w v f p all top more e h = each p.kept h
  where
    each : (k : Option A) → kept_weight w k + went p.notes ≤ all → kept_weight v (option_map f k) + went p.notes ≤ top
    each None h = omega (arith, h, more)
    each (Some a) h = omega (arith, h, e a)

one_kept : {A : Type 0} (w : A → ℕ) (k : Option A) → sum w (option_to_list k) ≡ kept_weight w k
one_kept w None = refl
one_kept w (Some a) = omega arith

lists : {A : Type 0} (w : A → ℕ) (part : A → Part A) (xs : List A) → AllByRecursion (λ x. Light w (part x) (w x)) xs
    → sum w (kept_in part xs) + went (notes_in part xs) ≤ sum w xs
lists w part [] h = omega arith
lists w part (x ∷ xs) h =
    omega (
      arith,
      h.0,
      lists w part xs h.1,
      one_kept w (part x).kept,
      sum-append w (option_to_list (part x).kept) (kept_in part xs),
      went-append (part x).notes (notes_in part xs),
    )

-- ---- the word before the braces of a grouping node becomes one of the table

abbrev is_group : NodeType → Bool
is_group Group = true
is_group Transform = true
is_group _ = false

abbrev becomes_group : GroupingRow → Bool
becomes_group row = is_group row.becomes

-- a grouping node counts as something that went, and weighs less as a node of the table
abbrev Worded : Meant → List ℕ → Type 0
Worded m word = (line : ℕ) (field : List ℕ) → word_weight (word_of m word) + went (grouped_notes m line word field) ≤ word_weight word

group_weight : (t : NodeType) → is_group t ≡ true → word_weight (node_type_name t) ≡ 0
group_weight Group e = refl
group_weight Transform e = refl
group_weight _ e = absurd cc

both_of : (a b : Bool) → (a && b) ≡ true → (a ≡ true) × (b ≡ true)
both_of true b e = (refl, e)
both_of false b e = absurd cc

-- of a word that names no node type
abbrev Outside : List ℕ → Type 0
Outside word = word_weight word ≡ 1

choose : (b : Bool) (row : GroupingRow) (other : Meant) (word : List ℕ) → Outside word → becomes_group row ≡ true → Worded other word
    → Worded (if b then Grouped row.becomes row.children else other) word
choose true row other word out right rest = λ line field. omega (arith, out, group_weight row.becomes right)
choose false row other word out right rest = rest

grouped_word : (word : List ℕ) (rows : List GroupingRow) → Outside word → list_all becomes_group rows ≡ true → Worded (grouped word rows) word
grouped_word word [] out e = λ line field. omega arith
grouped_word word (row ∷ rows) out e =
    let p = both_of (becomes_group row) (list_all becomes_group rows) e in
    choose (bytes_eq word row.word) row (grouped word rows) word out p.0 (grouped_word word rows out p.1)

declared_word : (b : Bool) (word : List ℕ) → Outside word → Worded (declared_or_grouped b word) word
declared_word true word out = λ line field. omega arith
declared_word false word out = grouped_word word table out refl

untyped_word : (word : List ℕ) (notes : Option (List Note)) → Outside word → Worded (untyped word notes) word
untyped_word word None out = λ line field. omega arith
untyped_word word (Some notes) out = declared_word (list_any (declares word) notes) word out

typed_word : (word : List ℕ) (other : Meant) (t : Option NodeType) → node_type_named word ≡ t → (Outside word → Worded other word) → Worded (typed_or other t) word
typed_word word other None is rest = rest (ap (λ (o : Option NodeType). if is_some o then 0 else 1) is)
typed_word word other (Some t) is rest = λ line field. omega arith

worded : (known : Known) (word : List ℕ) → Worded (meaning_of known word) word
worded known word = typed_word word (untyped word known.notes) (node_type_named word) refl (untyped_word word known.notes)

-- a name is no thing that went
no_name_went : (line : ℕ) (name : Option (List ℕ)) → went (named_notes line name) ≡ 0
no_name_went line None = refl
no_name_went line (Some name) = refl

module _ (known : Known) where
  abbrev OfNode : NodeText → Type 0
  OfNode n = (name : List ℕ) → Light node_weight (node_part known n name) (node_weight n)

  abbrev OfItem : BodyItem → Type 0
  OfItem i = (m : Meant) → Light item_weight (item_part known i m) (item_weight i)

  abbrev OfStatement : Statement → Type 0
  OfStatement s = Light statement_weight (statement_part known s) (statement_weight s)

  abbrev OfProto : ProtoText → Type 0
  OfProto p = Light proto_weight (proto_part known p) (proto_weight p)

  abbrev nodes : List ℕ → NodeText → Part NodeText
  nodes name n = node_part known n name

  of_name : (name : List ℕ) (ns : List NodeText) → AllByRecursion OfNode ns → AllByRecursion (λ n. Light node_weight (nodes name n) (node_weight n)) ns
  of_name name [] h = tt
  of_name name (n ∷ ns) h = (h.0 name, of_name name ns h.1)

  -- ---- values

  listed : (ns : List NodeText) → value_weight node_weight (list_of ns) ≡ sum node_weight ns
  listed [] = refl
  listed (n ∷ ns) = refl

  values : (name : List ℕ) (v : RawValue NodeText) → OfValue OfNode v → Light (value_weight node_weight) (value_part nodes name v) (value_weight node_weight v)
  values name value.Null h = omega arith
  values name (value.Truth truth) h = omega arith
  values name (value.String text) h = omega arith
  values name (value.Numbers numbers) h = omega arith
  values name (value.Node n) h = by_light node_weight (value_weight node_weight) value.Node (node_part known n name) (node_weight n) (node_weight n) (omega arith) (λ a. omega arith) (h name)
  values name value.EmptyList h = omega arith
  values name (value.TruthList truths) h = omega arith
  values name (value.StringList texts) h = omega arith
  values name (value.NumberList numbers) h = omega arith
  values name (value.NodeList ns) h =
      omega (arith, lists node_weight (nodes name) ns (of_name name ns h), listed (kept_in (nodes name) ns))

  givens : (name : List ℕ) (g : Given NodeText) → OfGiven OfNode g → Light (given_weight node_weight) (given_part nodes name g) (given_weight node_weight g)
  givens name given.Nothing h = omega arith
  givens name (given.Value v) h =
      by_light (value_weight node_weight) (given_weight node_weight) given.Value (value_part nodes name v) (value_weight node_weight v) (value_weight node_weight v) (omega arith) (λ a. omega arith) (values name v h)
  givens name (given.Is outer) h = omega arith

  -- ---- fields and declarations

  named : (line : ℕ) (name : List ℕ) (p : Part (Given NodeText)) (all : ℕ) → Light (given_weight node_weight) p all
      → Light item_weight (named_part line name p) (suc all)
  named line name p all h =
      by_light (given_weight node_weight) item_weight (item.Field line name) p all (suc all) (omega arith) (λ g. omega (arith, item_weight-field line name g)) h

  ruled : (line : ℕ) (name : List ℕ) (g : Given NodeText) (r : FieldRule) → OfGiven OfNode g
      → Light item_weight (ruled_part nodes line name g r) (suc (given_weight node_weight g))
  ruled line name g rule.Stays h = named line name (given_part nodes name g) (given_weight node_weight g) (givens name g h)
  ruled line name g rule.Children h =
      named line (codes "children") (given_part nodes (codes "children") g) (given_weight node_weight g) (givens (codes "children") g h)
  ruled line name g rule.Unknown h = omega arith
  ruled line name g rule.Turned h = omega arith

  declared_light : (d : Declaration NodeText) (p : Part (Given NodeText)) (all : ℕ) → Light (given_weight node_weight) p all
      → Light (declaration_weight node_weight) (declared_part d p) (suc all)
  declared_light d p all h = each p.kept h
    where
      each : (k : Option (Given NodeText)) → kept_weight (given_weight node_weight) k + went p.notes ≤ all
          → suc (given_weight node_weight (given_or k)) + went p.notes ≤ suc all
      each None h = omega (arith, h)
      each (Some g) h = omega (arith, h)

  one_declaration : (d : Declaration NodeText) → OfDeclaration OfNode d → Light (declaration_weight node_weight) (declaration_part nodes known d) (declaration_weight node_weight d)
  one_declaration d h =
      if_light (declaration_weight node_weight) (refuses known d.line) (gone kind.Refused d.line d.name []) (declared_part d (given_part nodes d.name d.given))
      (declaration_weight node_weight d) (omega arith)
      (declared_light d (given_part nodes d.name d.given) (given_weight node_weight d.given) (givens d.name d.given h))

  each_declaration : (ds : List (Declaration NodeText)) → AllByRecursion (OfDeclaration OfNode) ds
      → AllByRecursion (λ d. Light (declaration_weight node_weight) (declaration_part nodes known d) (declaration_weight node_weight d)) ds
  each_declaration [] h = tt
  each_declaration (d ∷ ds) h = (one_declaration d h.0, each_declaration ds h.1)

  -- ---- routes and uses

  abbrev one_each : {A : Type 0} → A → ℕ
  one_each a = 1

  route_light : (r : RouteText) → Light one_each (route_part known r) 1
  route_light r =
      if_light one_each (refuses known r.line) (gone kind.Refused r.line (codes "ROUTE") []) (joined_part known r) 1 (omega arith)
      (if_light one_each (not (knows_name known r.source.node)) (gone kind.Route r.line r.source.node []) _ 1 (omega arith)
      (if_light one_each (not (knows_name known r.target.node)) (gone kind.Route r.line r.target.node []) (whole r) 1 (omega arith) (omega arith)))

  use_light : (line : ℕ) (name place : List ℕ) → Light node_weight (use_part known line name place) 1
  use_light line name place =
      if_light node_weight (refuses known line) (gone kind.Refused line name place) _ 1 (omega arith)
      (if_light node_weight (knows_name known name) (whole (node.Use line name)) (gone kind.Use line name place) 1
      (omega (arith, node_weight-use line name)) (omega arith))

  -- ---- nodes

  braces : (line : ℕ) (name : Option (List ℕ)) (word place : List ℕ) (m : Meant) (items : List BodyItem) → Worded m word → AllByRecursion OfItem items
      → Light node_weight (braces_part line name word place m (kept_in (λ i. item_part known i m) items) (notes_in (λ i. item_part known i m) items))
      (suc (word_weight word + sum item_weight items))
  braces line name word place m items word_light h =
      let kept = kept_in (λ i. item_part known i m) items in
      let told = notes_in (λ i. item_part known i m) items in
      omega (
        arith,
        word_light line place,
        lists item_weight (λ i. item_part known i m) items (meant items h),
        node_weight-full line name (word_of m word) kept,
        no_name_went line name,
        went-append (grouped_notes m line word place ++ told) (named_notes line name),
        went-append (grouped_notes m line word place) told,
      )
    where
      meant : (items : List BodyItem) → AllByRecursion OfItem items → AllByRecursion (λ i. Light item_weight (item_part known i m) (item_weight i)) items
      meant [] h = tt
      meant (i ∷ items) h = (h.0 m, meant items h.1)

  full_light : (line : ℕ) (name : Option (List ℕ)) (word place : List ℕ) (items : List BodyItem) → AllByRecursion OfItem items
      → Light node_weight (if refuses known line then gone kind.Refused line word place
      else if is_nothing (meaning_of known word) then gone kind.Node line word place
      else braces_part line name word place (meaning_of known word) (kept_in (λ i. item_part known i (meaning_of known word)) items)
      (notes_in (λ i. item_part known i (meaning_of known word)) items))
      (suc (word_weight word + sum item_weight items))
  full_light line name word place items h =
      if_light node_weight (refuses known line) (gone kind.Refused line word place) _ (suc (word_weight word + sum item_weight items)) (omega arith)
      (if_light node_weight (is_nothing (meaning_of known word)) (gone kind.Node line word place) _ (suc (word_weight word + sum item_weight items)) (omega arith)
      (braces line name word place (meaning_of known word) items (worded known word) h))

  -- ---- prototypes

  body_light : (line : ℕ) (name : List ℕ) (interface : List (Declaration NodeText)) (body : List Statement) (notes : List Note) (all : ℕ)
      → sum (declaration_weight node_weight) interface + sum statement_weight body + went notes ≤ all
      → Light proto_weight (body_part line name interface body notes) (suc all)
  body_light line name interface body notes all h = each (list_any is_node body)
    where
      each : (some : Bool)
          → kept_weight proto_weight (if some then Some (roll-ProtoText (record { line = line; name = name; interface = interface; body = body })) else None)
          + went (notes ++ note (if some then kind.Declared else kind.Proto) line name [] ∷ []) ≤ suc all
      each true =
          omega (arith, h, proto_weight_rolled line name interface body, went-append notes (note kind.Declared line name [] ∷ []))
      each false = omega (arith, h, went-append notes (note kind.Proto line name [] ∷ []))

  proto_light : (p : ProtoText) → AllByRecursion (OfDeclaration OfNode) (out-ProtoText p).interface → AllByRecursion OfStatement (out-ProtoText p).body
      → Light proto_weight (if refuses known (out-ProtoText p).line then gone kind.Refused (out-ProtoText p).line (out-ProtoText p).name []
      else body_part (out-ProtoText p).line (out-ProtoText p).name
      (kept_in (declaration_part nodes known) (out-ProtoText p).interface)
      (kept_in (statement_part known) (out-ProtoText p).body)
      (notes_in (declaration_part nodes known) (out-ProtoText p).interface
      ++ notes_in (statement_part known) (out-ProtoText p).body))
      (suc (sum (declaration_weight node_weight) (out-ProtoText p).interface + sum statement_weight (out-ProtoText p).body))
  proto_light p d s =
      let q = out-ProtoText p in
      let declared_notes = notes_in (declaration_part nodes known) q.interface in
      let body_notes = notes_in (statement_part known) q.body in
      if_light proto_weight (refuses known q.line) (gone kind.Refused q.line q.name []) _
      (suc (sum (declaration_weight node_weight) q.interface + sum statement_weight q.body)) (omega arith)
      (body_light q.line q.name (kept_in (declaration_part nodes known) q.interface) (kept_in (statement_part known) q.body) (declared_notes ++ body_notes)
      (sum (declaration_weight node_weight) q.interface + sum statement_weight q.body)
      (omega (
        arith,
        lists (declaration_weight node_weight) (declaration_part nodes known) q.interface (each_declaration q.interface d),
        lists statement_weight (statement_part known) q.body s,
        went-append declared_notes body_notes,
      )))

  -- ---- all parts

  layers : Layers OfItem OfNode OfStatement OfProto
  layers = record {
    field = λ line name g h m. rw (item_part-field known line name g m, item_weight-field line name g)
        (if_light item_weight (refuses known line) (gone kind.Refused line name []) (ruled_part nodes line name g (field_rule m name (turns g)))
        (suc (given_weight node_weight g)) (omega arith) (ruled line name g (field_rule m name (turns g)) h));
    declaration = λ d h m. rw (item_part-declaration known d m, item_weight-declaration d)
        (by_light (declaration_weight node_weight) item_weight item.Declaration (declaration_part nodes known d) (declaration_weight node_weight d) (declaration_weight node_weight d)
        (omega arith) (λ e. omega (arith, item_weight-declaration e)) (one_declaration d h));
    item_route = λ r m. rw (item_part-route known r m, item_weight-route r)
        (by_light one_each item_weight item.Route (route_part known r) 1 1 (omega arith) (λ e. omega (arith, item_weight-route e)) (route_light r));
    item_proto = λ p h m. rw (item_part-proto known p m, item_weight-proto p)
        (by_light proto_weight item_weight item.Proto (proto_part known p) (proto_weight p) (proto_weight p) (omega arith) (λ e. omega (arith, item_weight-proto e)) h);
    used = λ line name place. rw (node_part-use known line name place, node_weight-use line name) (use_light line name place);
    full = λ line name word items h place. rw (node_part-full known line name word items place, node_weight-full line name word items)
        (full_light line name word place items h);
    node = λ n h. rw (statement_part-node known n, statement_weight-node n)
        (by_light node_weight statement_weight statement.Node (node_part known n []) (node_weight n) (node_weight n) (omega arith) (λ e. omega (arith, statement_weight-node e)) (h []));
    route = λ r. rw (statement_part-route known r, statement_weight-route r)
        (by_light one_each statement_weight statement.Route (route_part known r) 1 1 (omega arith) (λ e. omega (arith, statement_weight-route e)) (route_light r));
    proto = λ p h. rw (statement_part-proto known p, statement_weight-proto p)
        (by_light proto_weight statement_weight statement.Proto (proto_part known p) (proto_weight p) (proto_weight p) (omega arith) (λ e. omega (arith, statement_weight-proto e)) h);
    prototype = λ p d s. rw (proto_part_is known p, proto_weight_is p) (proto_light p d s);
  }

  round_light : (d : Document) → weight (one_round known d).document + went (one_round known d).notes ≤ weight d
  round_light d = lists statement_weight (statement_part known) d.statements (every OfItem OfNode OfStatement OfProto layers d.statements)

-- a round after another weighs less if something goes in it
pub next_lighter : (refused : List ℕ) (r : Round) → list_any goes (next refused r).notes ≡ true → weight (next refused r).document < weight r.document
next_lighter refused r some =
    omega (arith, round_light (record { notes = Some r.notes; refused = refused }) r.document, some_went (next refused r).notes some)

-- ---- in the loop of rounds: a round `made`, and the one after it

pub lighter_after : (refused : List ℕ) (made mid now : Round) (notes : List Note) (some : Bool) → mid ≡ next refused made → now ≡ mid
    → notes ≡ mid.notes → some ≡ list_any goes notes → some ≡ true → weight now.document < weight made.document
lighter_after refused made mid now notes some is same told by on =
    subst (λ (r : Round). weight r.document < weight made.document) (sym (same ∙ is))
    (next_lighter refused made
    (ap (λ (r : Round). list_any goes r.notes) (sym is) ∙ ap (list_any goes) (sym told) ∙ sym by ∙ on))

abbrev pub Left : List ℕ → Document → List Note → Round → Round → List Note → Type 0
Left refused d old made mid left =
    (n : ℕ) × (made ≡ after n refused d) × (mid ≡ next refused made) × (left ≡ old ++ left_in (suc n) refused d)

pub further_left : (refused : List ℕ) (d : Document) (made mid further made2 mid2 : Round) (old left new : List Note) → Left refused d old made mid left
    → made2 ≡ mid → mid2 ≡ next refused mid → new ≡ left ++ flat_map left_one mid.notes → Left refused d old made2 mid2 new
further_left refused d made mid further made2 mid2 old left new at one two told =
    let is : mid ≡ after (suc at.0) refused d = at.2 ∙ ap (next refused) at.1 in (
      suc at.0,
      one ∙ is,
      two ∙ ap (next refused) (sym one),
      told ∙ ap (λ l. l ++ flat_map left_one mid.notes) at.3
          ∙ append_assoc old (left_in (suc at.0) refused d) (flat_map left_one mid.notes)
          ∙ ap (λ (r : Round). old ++ (left_in (suc at.0) refused d ++ flat_map left_one r.notes)) is,
    )
