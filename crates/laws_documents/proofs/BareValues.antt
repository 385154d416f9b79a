-- Values that have to do with no prototype declare nothing, and no instance is found in them.
use Rattle.std.proofs.Common.{◌≡◌, ℕ, Bool, true, false, not, ◌&&◌, if◌then◌else◌, List, [], ◌∷◌, Option, None, Result, Ok, Err, map, refl, ap, sym, ◌∙◌, subst}
use Rattle.std.specs.Prelude.{is_some}
use Rattle.std.specs.List.{AllByRecursion, list_all}
use Rattle.std.specs.Str.{bytes_eq}
use Rattle.std.proofs.lemmas.Slice.Eq.{bytes_eq-Decides}
use Rattle.x3d_values.specs.Names.{node_type_named}
use Rattle.classic_tree.specs.declared.tree.BodyItem.{BodyItem}
use Rattle.classic_tree.specs.declared.tree.BodyItem.TheOpen.{BodyItem-F, NodeText-F, Statement-F}
use Rattle.classic_tree.specs.declared.tree.Declaration.{Declaration}
use Rattle.classic_tree.specs.declared.tree.Given.{Given}
use Rattle.classic_tree.specs.declared.tree.Given.TheVariants as given
use Rattle.classic_tree.specs.declared.tree.NodeText.{NodeText}
use Rattle.classic_tree.specs.declared.tree.ProtoText.{ProtoText}
use Rattle.classic_tree.specs.declared.tree.RawValue.{RawValue}
use Rattle.classic_tree.specs.declared.tree.RawValue.TheVariants as value
use Rattle.classic_tree.specs.declared.tree.RouteText.{RouteText}
use Rattle.classic_tree.specs.declared.tree.Statement.{Statement}
use Rattle.classic_tree.specs.declared.tree.Statement.TheVariants as statement_text
use Rattle.classic_tree.proofs.Mapped.{given_mapped, declaration_mapped}
use Rattle.proto_meaning.specs.Names.{Name}
use Rattle.proto_meaning.specs.Sight.{Sight, Look, Names, Search, and_see, each, aside, nodes_in, meant, taken_by, is_kept}
use Rattle.proto_meaning.specs.Flat.{Node, Item, Stated, given_finds, given_sees, item_step, node_step, statement_step}
use Rattle.proto_meaning.specs.Flat.{item as item_part, node as node_part, statement as stated}
use Rattle.proto_meaning.proofs.Trees.{item-field, item-declaration, item-route, node-use, node-full, statement-node, statement-route}
use Rattle.proto_meaning.proofs.Induction.{OfGiven, Layers, every_statement}
use Rattle.proto_meaning.proofs.SightLaw.{Seen, bare, bared}
use Rattle.laws_documents.specs.Untaken.{KeepsDeclarations, given_declares, given_holds, is_bare_item, is_bare_node, is_bare_statement, null_if, blanked}
use Rattle.laws_documents.specs.Steps.{is_true, all_in}
use Rattle.laws_documents.proofs.BareTexts.{bare-field, bare-declaration, bare-item-proto, bare-full, bare-node, bare-proto}
use Rattle.laws_documents.proofs.UntakenBodies.{aside_bared}

abbrev Only : Bool → Type 0 → Type 0
Only false G = G
Only true G = Unit {0}

never : {G : Type 0} → false ≡ true → G
never {G} e = subst (λ b. Only b G) (sym e) tt

both_true : (a b : Bool) → a && b ≡ true → (a ≡ true) × (b ≡ true)
both_true true b e = (refl, e)
both_true false b e = never e

abbrev is_ok : Seen → Bool
is_ok (Ok s) = true
is_ok (Err e) = false

-- nothing is declared, and nothing is wrong
abbrev Calm : Look → Type 0
Calm step = (s : Sight) → bared (step s) ≡ Ok (bare s)

-- no instance of a prototype of that name
abbrev Lost : (Name → Search) → Type 0
Lost finds = (own : Name) → node_type_named own ≡ None → (hidden : Bool) → finds own hidden ≡ Ok hidden

calm_then : (r : Seen) (f : Look) (s : Sight) → bared r ≡ Ok (bare s) → Calm f → bared (and_see r f) ≡ Ok (bare s)
calm_then (Ok u) f s e calm = calm u ∙ e
calm_then (Err x) f s e calm = never (ap is_ok e)

found_then : (r : Result Bool ℕ) (f : Search) (hidden : Bool) → r ≡ Ok hidden → f hidden ≡ Ok hidden → and_see r f ≡ Ok hidden
found_then r f hidden e k = ap (λ x. and_see x f) e ∙ k

each_calm : {X : Type 0} (f : X → Look) (xs : List X) → AllByRecursion (λ x. Calm (f x)) xs → Calm (each f xs)
each_calm f [] h s = refl
each_calm f (x ∷ xs) h s = calm_then (f x s) (each f xs) s (h.0 s) (each_calm f xs h.1)

each_lost : {X : Type 0} (f : X → Name → Search) (xs : List X) → AllByRecursion (λ x. Lost (f x)) xs → Lost (λ own. each (λ x. f x own) xs)
each_lost f [] h own free hidden = refl
each_lost f (x ∷ xs) h own free hidden = found_then (f x own hidden) (each (λ y. f y own) xs) hidden (h.0 own free hidden) (each_lost f xs h.1 own free hidden)

aside_calm : (step : Look) → Calm step → Calm (aside step)
aside_calm step calm s = on (step (bare s)) (calm (bare s)) where
  on : (r : Seen) → bared r ≡ Ok (bare s) → bared (and_see r (λ t. Ok (record t { taken = s.taken }))) ≡ Ok (bare s)
  on (Ok t) e = e
  on (Err x) e = e

-- ---- each part of a tree

abbrev OfNode : NodeText → Type 0
OfNode n = is_bare_node n ≡ true → Calm (node_part n).sees × Lost (node_part n).finds

abbrev OfItem : BodyItem → Type 0
OfItem i = is_bare_item i ≡ true → ((taken : Option Names) → Calm ((item_part i).sees taken)) × Lost (item_part i).finds

abbrev OfStatement : Statement → Type 0
OfStatement s = is_bare_statement s ≡ true → Calm (stated s).1.sees × Lost (stated s).1.finds

abbrev OfPrototype : ProtoText → Type 0
OfPrototype p = Unit {0}

nodes_calm : (ns : List NodeText) → AllByRecursion OfNode ns → list_all is_true (map is_bare_node ns) ≡ true → AllByRecursion (λ (n : Node). Calm n.sees) (map node_part ns)
nodes_calm [] h e = tt
nodes_calm (n ∷ ns) h e = let both = both_true (is_bare_node n) (list_all is_true (map is_bare_node ns)) e in ((h.0 both.0).0, nodes_calm ns h.1 both.1)

nodes_lost : (ns : List NodeText) → AllByRecursion OfNode ns → list_all is_true (map is_bare_node ns) ≡ true → AllByRecursion (λ (n : Node). Lost n.finds) (map node_part ns)
nodes_lost [] h e = tt
nodes_lost (n ∷ ns) h e = let both = both_true (is_bare_node n) (list_all is_true (map is_bare_node ns)) e in ((h.0 both.0).1, nodes_lost ns h.1 both.1)

given_calm : (g : Given NodeText) → OfGiven OfNode g → all_in (given_mapped is_bare_node g) ≡ true → Calm (given_sees (given_mapped node_part g))
given_calm given.Nothing h e s = refl
given_calm (given.Is name) h e s = refl
given_calm (given.Value value.Null) h e s = refl
given_calm (given.Value (value.Truth truth)) h e s = refl
given_calm (given.Value (value.String text)) h e s = refl
given_calm (given.Value (value.Numbers numbers)) h e s = refl
given_calm (given.Value (value.Node n)) h e s = each_calm (λ (m : Node). m.sees) (node_part n ∷ []) ((h e).0, tt) s
given_calm (given.Value value.EmptyList) h e s = refl
given_calm (given.Value (value.TruthList truths)) h e s = refl
given_calm (given.Value (value.StringList texts)) h e s = refl
given_calm (given.Value (value.NumberList numbers)) h e s = refl
given_calm (given.Value (value.NodeList ns)) h e s = each_calm (λ (m : Node). m.sees) (map node_part ns) (nodes_calm ns h e) s

given_lost : (g : Given NodeText) → OfGiven OfNode g → all_in (given_mapped is_bare_node g) ≡ true → Lost (given_finds (given_mapped node_part g))
given_lost given.Nothing h e own free hidden = refl
given_lost (given.Is name) h e own free hidden = refl
given_lost (given.Value value.Null) h e own free hidden = refl
given_lost (given.Value (value.Truth truth)) h e own free hidden = refl
given_lost (given.Value (value.String text)) h e own free hidden = refl
given_lost (given.Value (value.Numbers numbers)) h e own free hidden = refl
given_lost (given.Value (value.Node n)) h e own free hidden = each_lost (λ (m : Node). m.finds) (node_part n ∷ []) ((h e).1, tt) own free hidden
given_lost (given.Value value.EmptyList) h e own free hidden = refl
given_lost (given.Value (value.TruthList truths)) h e own free hidden = refl
given_lost (given.Value (value.StringList texts)) h e own free hidden = refl
given_lost (given.Value (value.NumberList numbers)) h e own free hidden = refl
given_lost (given.Value (value.NodeList ns)) h e own free hidden = each_lost (λ (m : Node). m.finds) (map node_part ns) (nodes_lost ns h e) own free hidden

kept_calm : (b : Bool) (step : Look) → Calm step → Calm (λ s. (if b then step else aside step) s)
kept_calm true step calm s = calm s
kept_calm false step calm s = aside_calm step calm s

field_calm : (line : ℕ) (name : Name) (g : Given Node) → Calm (given_sees g) → Lost (given_finds g) → ((taken : Option Names) → Calm ((item_step (BodyItem-F.Field line name g)).sees taken)) × Lost (item_step (BodyItem-F.Field line name g)).finds
unfolding item_step
field_calm line name g calm lost = (λ taken. kept_calm (is_kept taken name) (given_sees g) calm, lost)

declaration_calm : (d : Declaration Node) → Calm (given_sees d.given) → Lost (given_finds d.given) → ((taken : Option Names) → Calm ((item_step (BodyItem-F.Declaration d)).sees taken)) × Lost (item_step (BodyItem-F.Declaration d)).finds
unfolding item_step
declaration_calm d calm lost = (λ taken. calm, lost)

route_calm : (r : RouteText) → ((taken : Option Names) → Calm ((item_step (BodyItem-F.BodyItem::Route r)).sees taken)) × Lost (item_step (BodyItem-F.BodyItem::Route r)).finds
unfolding item_step
route_calm r = (λ taken s. refl, λ own free hidden. refl)

items_calm : (taken : Option Names) (is : List BodyItem) → AllByRecursion OfItem is → list_all is_true (map is_bare_item is) ≡ true → AllByRecursion (λ (i : Item). Calm (i.sees taken)) (map item_part is)
items_calm taken [] h e = tt
items_calm taken (i ∷ is) h e = let both = both_true (is_bare_item i) (list_all is_true (map is_bare_item is)) e in ((h.0 both.0).0 taken, items_calm taken is h.1 both.1)

items_lost : (is : List BodyItem) → AllByRecursion OfItem is → list_all is_true (map is_bare_item is) ≡ true → AllByRecursion (λ (i : Item). Lost i.finds) (map item_part is)
items_lost [] h e = tt
items_lost (i ∷ is) h e = let both = both_true (is_bare_item i) (list_all is_true (map is_bare_item is)) e in ((h.0 both.0).1, items_lost is h.1 both.1)

not_own : (word own : Name) → is_some (node_type_named word) ≡ true → node_type_named own ≡ None → bytes_eq word own ≡ false
not_own word own typed free = on (bytes_eq word own) refl where
  on : (b : Bool) → bytes_eq word own ≡ b → b ≡ false
  on false e = refl
  on true e = never (sym (ap is_some (ap node_type_named ((bytes_eq-Decides word own).0 e) ∙ free)) ∙ typed)

and_false : (b : Bool) → b && false ≡ false
and_false true = refl
and_false false = refl

full_calm : (line : ℕ) (name : Option Name) (word : Name) (is : List BodyItem) → AllByRecursion OfItem is → is_some (node_type_named word) ≡ true → list_all is_true (map is_bare_item is) ≡ true
    → Calm (node_step (NodeText-F.Full line name word (map item_part is))).sees × Lost (node_step (NodeText-F.Full line name word (map item_part is))).finds
unfolding node_step
full_calm line name word is h typed e = (
  λ s. each_calm (λ (i : Item). i.sees (taken_by (meant word s))) (map item_part is) (items_calm (taken_by (meant word s)) is h e) s,
  λ own free hidden.
      ap (λ b. if b then Err line else each (λ (i : Item). i.finds own) (map item_part is) hidden) (ap (λ b. not hidden && b) (not_own word own typed free) ∙ and_false (not hidden))
      ∙ each_lost (λ (i : Item). i.finds) (map item_part is) (items_lost is h e) own free hidden,
)

use_calm : (line : ℕ) (name : Name) → Calm (node_step (NodeText-F.Use line name)).sees × Lost (node_step (NodeText-F.Use line name)).finds
unfolding node_step
use_calm line name = (λ s. refl, λ own free hidden. refl)

node_calm : (n : Node) → Calm n.sees × Lost n.finds → Calm (statement_step (Statement-F.Node n)).1.sees × Lost (statement_step (Statement-F.Node n)).1.finds
unfolding statement_step
node_calm n h = h

calm_node : (n : Node) → Calm (statement_step (Statement-F.Node n)).1.sees × Lost (statement_step (Statement-F.Node n)).1.finds → Calm n.sees × Lost n.finds
unfolding statement_step
calm_node n h = h

route_stated : (r : RouteText) → Calm (statement_step (Statement-F.Statement::Route r)).1.sees × Lost (statement_step (Statement-F.Statement::Route r)).1.finds
unfolding statement_step
route_stated r = (λ s. refl, λ own free hidden. refl)

abbrev ItemCalm : Item → Type 0
ItemCalm i = ((taken : Option Names) → Calm (i.sees taken)) × Lost i.finds

abbrev NodeCalm : Node → Type 0
NodeCalm n = Calm n.sees × Lost n.finds

abbrev StatementCalm : Stated → Type 0
StatementCalm s = Calm s.1.sees × Lost s.1.finds

layers : Layers OfItem OfNode OfStatement OfPrototype
layers = record {
  field = λ line name g h e. subst ItemCalm (sym (item-field line name g refl)) (field_calm line name (given_mapped node_part g) (given_calm g h (sym (bare-field line name g) ∙ e)) (given_lost g h (sym (bare-field line name g) ∙ e)));
  declaration = λ d h e. subst ItemCalm (sym (item-declaration d refl)) (declaration_calm (declaration_mapped node_part d) (given_calm d.given h (sym (bare-declaration d) ∙ e)) (given_lost d.given h (sym (bare-declaration d) ∙ e)));
  item_route = λ r e. subst ItemCalm (sym (item-route r)) (route_calm r);
  item_proto = λ p h e. never (sym (bare-item-proto p) ∙ e);
  used = λ line name e. subst NodeCalm (sym (node-use line name)) (use_calm line name);
  full = λ line name word is h e.
      let both = both_true (is_some (node_type_named word)) (list_all is_true (map is_bare_item is)) (sym (bare-full line name word is) ∙ e) in
      subst NodeCalm (sym (node-full line name word is refl)) (full_calm line name word is h both.0 both.1);
  node = λ n h e. subst StatementCalm (sym (statement-node n refl)) (node_calm (node_part n) (h (sym (bare-node n) ∙ e)));
  route = λ r e. subst StatementCalm (sym (statement-route r)) (route_stated r);
  proto = λ p h e. never (sym (bare-proto p) ∙ e);
  prototype = λ p hd hs. tt;
}

each_node : (n : NodeText) → is_bare_node n ≡ true → NodeCalm (node_part n)
each_node n e = calm_node (node_part n) (subst StatementCalm (statement-node n refl) (every_statement OfItem OfNode OfStatement OfPrototype layers (statement_text.Node n) (bare-node n ∙ e)))

all_calm : (ns : List NodeText) → list_all is_bare_node ns ≡ true → AllByRecursion (λ n. Calm (node_part n).sees) ns
all_calm [] e = tt
all_calm (n ∷ ns) e = let both = both_true (is_bare_node n) (list_all is_bare_node ns) e in ((each_node n both.0).0, all_calm ns both.1)

all_lost : (ns : List NodeText) → list_all is_bare_node ns ≡ true → AllByRecursion (λ n. Lost (node_part n).finds) ns
all_lost [] e = tt
all_lost (n ∷ ns) e = let both = both_true (is_bare_node n) (list_all is_bare_node ns) e in ((each_node n both.0).1, all_lost ns both.1)

blank_declares : (v : RawValue NodeText) (b : Bool) → list_all is_bare_node (nodes_in (given.Value v)) ≡ b → (s : Sight) → aside (given_declares (given.Value (null_if b v))) s ≡ aside (given_declares (given.Value v)) s
blank_declares v true e s =
    sym (aside_bared (each (λ n. (node_part n).sees) (nodes_in (given.Value v)) (bare s)) (Ok (bare s)) s.taken (each_calm (λ n. (node_part n).sees) (nodes_in (given.Value v)) (all_calm (nodes_in (given.Value v)) e) (bare s)))
blank_declares v false e s = refl

blank_holds : (v : RawValue NodeText) (b : Bool) → list_all is_bare_node (nodes_in (given.Value v)) ≡ b → (own : Name) → node_type_named own ≡ None → (hidden : Bool) → given_holds (given.Value (null_if b v)) own hidden ≡ given_holds (given.Value v) own hidden
blank_holds v true e own free hidden = sym (each_lost (λ n. (node_part n).finds) (nodes_in (given.Value v)) (all_lost (nodes_in (given.Value v)) e) own free hidden)
blank_holds v false e own free hidden = refl

pub blanked_keeps : KeepsDeclarations blanked
blanked_keeps =
    record {
      declares = λ line name v s. blank_declares v (list_all is_bare_node (nodes_in (given.Value v))) refl s;
      holds = λ line name v own free hidden. blank_holds v (list_all is_bare_node (nodes_in (given.Value v))) refl own free hidden;
    }
