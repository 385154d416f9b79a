-- What single steps resolve: a part of a text and its tree.
use Rattle.std.proofs.Common.{◌≡◌, ℕ, Bool, true, false, List, [], ◌∷◌, ◌++◌, length, Option, Some, None, Ok, Err, refl, ap, sym, ◌∙◌, subst}
use Rattle.std.specs.Borrow.{Bor}
use Rattle.std.specs.Prelude.{option_map}
use Rattle.classic_tree.specs.declared.tree.BodyItem.{BodyItem}
use Rattle.classic_tree.specs.declared.tree.BodyItem.TheVariants as text_item
use Rattle.classic_tree.specs.declared.tree.Declaration.{Declaration}
use Rattle.classic_tree.specs.declared.tree.Given.{Given}
use Rattle.classic_tree.specs.declared.tree.Given.TheVariants as given
use Rattle.classic_tree.specs.declared.tree.NodeText.{NodeText}
use Rattle.classic_tree.specs.declared.tree.NodeText.TheVariants as text_node
use Rattle.classic_tree.specs.declared.tree.ProtoText.{ProtoText}
use Rattle.classic_tree.specs.declared.tree.RawValue.{RawValue}
use Rattle.classic_tree.specs.declared.tree.RawValue.TheVariants as value
use Rattle.classic_tree.specs.declared.tree.Statement.{Statement}
use Rattle.classic_tree.specs.declared.tree.Statement.TheVariants as text_statement
use Rattle.classic_tree.specs.declared.tree.RouteText.{RouteText}
use Rattle.proto_flat.specs.declared.fault.ExpandFault.{ExpandFault}
use Rattle.proto_meaning.specs.Names.{Name}
use Rattle.proto_meaning.specs.Sight.{Names, Prototype, Sight, no_names, with_name, and_see, each, meant, taken_by, is_kept}
use Rattle.proto_meaning.specs.Flat as flat
use Rattle.proto_meaning.specs.Flat.{Stated}
use Rattle.proto_meaning.specs.Texts as texts
use Rattle.proto_meaning.proofs.Equations.{each-map, given-sees}
use Rattle.proto_meaning.specs.trees.Given.{GivenTree}
use Rattle.proto_meaning.specs.declared.tree.GivenTree.TheVariants as tree_given
use Rattle.proto_meaning.specs.declared.tree.ItemTree.{ItemTree}
use Rattle.proto_meaning.specs.declared.tree.ItemTree.TheVariants as tree_item
use Rattle.proto_meaning.specs.declared.tree.NodeTree.{NodeTree}
use Rattle.proto_meaning.specs.declared.tree.NodeTree.TheVariants as tree_node
use Rattle.proto_meaning.specs.declared.tree.BodyTree.{BodyTree}
use Rattle.proto_meaning.specs.declared.tree.BodyTree.TheVariants as body
use Rattle.proto_meaning.specs.declared.tree.Word.{Word}
use Rattle.proto_meaning.specs.trees.Meaning.{owner}
use Rattle.proto_meaning.specs.trees.Resolved as rule
use Rattle.proto_meaning.specs.trees.Resolved.{Seen, wrong_in, given_sees, is_plain, IsNode, AreNodes, IsGiven, IsItem, AreItems, AreStatements}
use Rattle.proto_meaning.proofs.Given.{sees_given}
use Rattle.proto_meaning.proofs.Statements.{put_root, puts_roots}
use Rattle.proto_meaning.proofs.Whole.{given_means, statements_mean}
use Rattle.proto_resolver.specs.declared.scopes.TakenNames.{TakenNames}
use Rattle.proto_resolver.specs.declared.scopes.Taker.{Taker}
use Rattle.proto_resolver.specs.declared.resolver.Resolver.{Resolver}
use Rattle.proto_resolver.specs.Held.{seen, taken_names}
use Rattle.proto_resolver.specs.Standing.{Extends, Shows, Ends, Resolves}
use Rattle.proto_resolver.specs.Steps.{IsAside, IsBack, IsTaking}
use Rattle.proto_resolver.specs.Parts.{Before, one_or_none}
use Rattle.proto_resolver.proofs.Standing.{weaker, stays, stands_moved, shows_moved, shows_more, extends_none, wrong_is}

-- ---- what a part sees, by its rule

pub given_seen : (ps : List Prototype) (g : Given NodeText) (t : GivenTree NodeTree) (s : Sight) (r : Seen) → IsGiven ps true g t s r → texts.sees_given g s ≡ r
given_seen ps g t s r h = sym (given-sees g s) ∙ (given_means ps true g t s r h).sees

pub given_left : (ps : List Prototype) (g : Given NodeText) (t : GivenTree NodeTree) (s : Sight) (r : Seen) → IsGiven ps true g t s r → given_sees g s ≡ r
given_left ps g t s r h = sym (sees_given g s) ∙ (given_means ps true g t s r h).sees

pub statements_seen : (ps : List Prototype) (xs : List Statement) (ts : List BodyTree) (s : Sight) (r : Seen) → AreStatements ps xs ts s r → each (λ x. (flat.statement x).1.sees) xs s ≡ r
statements_seen ps xs ts s r h =
    sym (each-map (λ (p : Stated). p.1.sees) (λ x. (flat.statement x).1.sees) flat.statement (λ x y. refl) xs s)
    ∙ (statements_mean put_root puts_roots ps xs ts s r h).sees

-- ---- nodes

pub use_node : (old : Resolver) (line : ℕ) (name : Bor (List ℕ)) → Resolves old old None (λ ps s r. IsNode ps (text_node.Use line name.now) (tree_node.Use line name) s r)
use_node old line name = stays old (λ ps s r. IsNode ps (text_node.Use line name.now) (tree_node.Use line name) s r) (λ all s. rule.used line name s)

pub full_node : (old new : Resolver) (wrong : Option ExpandFault) (line : ℕ) (name : Bor (Option (List ℕ))) (word : Name) (w : Word) (taker : Taker) (items : List BodyItem) (trees : List ItemTree)
    → ((ps : List Prototype) (s : Sight) → Shows ps old.scopes s → ((all : List Prototype) → Extends ps all → meant word s ≡ owner all w) × (taken_names taker ≡ taken_by (meant word s)))
    → Resolves old new wrong (λ ps s r. AreItems ps (taken_names taker) items trees s r)
    → Resolves old new wrong (λ ps s r. IsNode ps (text_node.Full line name.now word items) (tree_node.Full line name w trees) s r)
full_node old new wrong line name word w taker items trees means =
    weaker old new wrong (λ ps s r. AreItems ps (taken_names taker) items trees s r) (λ ps s r. IsNode ps (text_node.Full line name.now word items) (tree_node.Full line name w trees) s r)
    (λ ps all s r shows x e h.
    rule.full line name word w items trees s r ((means ps s shows).0 all x) (subst (λ t. AreItems all t items trees s r) (means ps s shows).1 h))

before_node : (ps : List Prototype) (n : NodeText) (t : NodeTree) (rest : List NodeText) (s : Sight) (r : Seen) → IsNode ps n t s r → Before (AreNodes ps) (n ∷ rest) rest (t ∷ []) s r
before_node ps n t rest s (Ok u) is trees q h = rule.next_node n t rest trees s u q is h
before_node ps n t rest s (Err e) is trees q h =
    subst (λ ts. AreNodes ps (n ∷ rest) (t ∷ ts) s q) (sym h.0) (subst (AreNodes ps (n ∷ rest) (t ∷ []) s) (sym h.1) (rule.last_node n t rest s e is))

pub node_row : (old new : Resolver) (wrong : Option ExpandFault) (n : NodeText) (t : NodeTree) (rest : List NodeText) → Resolves old new wrong (λ ps s r. IsNode ps n t s r)
    → Resolves old new wrong (λ ps s r. Before (AreNodes ps) (n ∷ rest) rest (t ∷ []) s r)
node_row old new wrong n t rest =
    weaker old new wrong (λ ps s r. IsNode ps n t s r) (λ ps s r. Before (AreNodes ps) (n ∷ rest) rest (t ∷ []) s r) (λ ps all s r shows x e h. before_node all n t rest s r h)

-- ---- what a field is given

pub nothing_given : (old : Resolver) (kept : Bool) → Resolves old old None (λ ps s r. IsGiven ps kept given.Nothing tree_given.Nothing s r)
nothing_given old kept = stays old (λ ps s r. IsGiven ps kept given.Nothing tree_given.Nothing s r) (λ all s. rule.nothing kept s)

pub is_untaken : (old : Resolver) (name : Bor (List ℕ)) → Resolves old old None (λ ps s r. IsGiven ps false (given.Is name.now) (tree_given.Is name) s r)
is_untaken old name = stays old (λ ps s r. IsGiven ps false (given.Is name.now) (tree_given.Is name) s r) (λ all s. rule.is false name s)

plain_by : (v : RawValue NodeText) → ((n : NodeText) → v ≡ value.Node n → ⊥) → ((ns : List NodeText) → v ≡ value.NodeList ns → ⊥) → is_plain v ≡ true
plain_by value.Null one many = refl
plain_by (value.Truth truth) one many = refl
plain_by (value.String text) one many = refl
plain_by (value.Numbers numbers) one many = refl
plain_by (value.Node n) one many = absurd (one n refl)
plain_by value.EmptyList one many = refl
plain_by (value.TruthList truths) one many = refl
plain_by (value.StringList texts) one many = refl
plain_by (value.NumberList numbers) one many = refl
plain_by (value.NodeList ns) one many = absurd (many ns refl)

pub plain_given : (old : Resolver) (v : Bor (RawValue NodeText)) → ((n : NodeText) → v.now ≡ value.Node n → ⊥) → ((ns : List NodeText) → v.now ≡ value.NodeList ns → ⊥)
    → Resolves old old None (λ ps s r. IsGiven ps true (given.Value v.now) (tree_given.Plain v) s r)
plain_given old v one many = stays old (λ ps s r. IsGiven ps true (given.Value v.now) (tree_given.Plain v) s r) (λ all s. rule.plain v s (plain_by v.now one many))

pub one_given : (old new : Resolver) (wrong : Option ExpandFault) (n : NodeText) (t : NodeTree) → Resolves old new wrong (λ ps s r. IsNode ps n t s r)
    → Resolves old new wrong (λ ps s r. IsGiven ps true (given.Value (value.Node n)) (tree_given.One t) s r)
one_given old new wrong n t =
    weaker old new wrong (λ ps s r. IsNode ps n t s r) (λ ps s r. IsGiven ps true (given.Value (value.Node n)) (tree_given.One t) s r) (λ ps all s r shows x e h. rule.one n t s r h)

pub many_given : (old new : Resolver) (wrong : Option ExpandFault) (ns : List NodeText) (ts : List NodeTree) (count : ℕ) → count ≡ length ns → Resolves old new wrong (λ ps s r. AreNodes ps ns ts s r)
    → Resolves old new wrong (λ ps s r. IsGiven ps true (given.Value (value.NodeList ns)) (tree_given.Many count ts) s r)
many_given old new wrong ns ts count is =
    weaker old new wrong (λ ps s r. AreNodes ps ns ts s r) (λ ps s r. IsGiven ps true (given.Value (value.NodeList ns)) (tree_given.Many count ts) s r)
    (λ ps all s r shows x e h. subst (λ n. IsGiven all true (given.Value (value.NodeList ns)) (tree_given.Many n ts) s r) (sym is) (rule.many ns ts s r h))

pub is_given : (old new : Resolver) (name : Bor (List ℕ)) → IsTaking name.now old new → Resolves old new None (λ ps s r. IsGiven ps true (given.Is name.now) (tree_given.Is name) s r)
is_given old new name taking ps s stands shows =
    record {
      more = ps;
      seen = Ok (record s { taken = with_name name.now s.taken });
      extends = extends_none ps;
      stands = stands_moved ps old.protos new.protos taking.protos stands;
      ends = (shows_moved ps old.scopes new.scopes s (with_name name.now s.taken) taking.here taking.outside (taking.takes ∙ ap (with_name name.now) shows.taken) shows, taking.outside);
      is = λ all x. rule.is true name s;
    }

-- ---- nothing is taken meanwhile

abbrev pub taken_again : Names → Seen → Seen
taken_again taken q = and_see q (λ t. Ok (record t { taken = taken }))

aside_ends : (ps : List Prototype) (old start inner new : Resolver) (before : TakenNames) (wrong : Option ExpandFault) (s : Sight) (q : Seen) → IsAside old before start → IsBack inner before new → Shows ps old.scopes s → Ends ps start inner wrong q
    → Ends ps old new wrong (taken_again s.taken q)
aside_ends ps old start inner new before None s (Ok u) a b shows h =
    (shows_moved ps inner.scopes new.scopes u s.taken b.here b.outside (b.takes ∙ a.kept ∙ shows.taken) h.0, b.outside ∙ h.1 ∙ a.outside)
aside_ends ps old start inner new before None s (Err e) a b shows h = absurd h
aside_ends ps old start inner new before (Some x) s (Ok u) a b shows h = absurd h
aside_ends ps old start inner new before (Some x) s (Err e) a b shows h = h

pub set_aside : (old start inner new : Resolver) (before : TakenNames) (wrong : Option ExpandFault) (h k : List Prototype → Sight → Seen → Type 0)
    → ((all : List Prototype) (s : Sight) (q : Seen) → wrong ≡ wrong_in q → h all (record s { taken = no_names }) q → k all s (and_see q (λ t. Ok (record t { taken = s.taken }))))
    → IsAside old before start → Resolves start inner wrong h → IsBack inner before new → Resolves old new wrong k
set_aside old start inner new before wrong h k w a does b ps s stands shows =
    let d = does ps (record s { taken = no_names }) (stands_moved ps old.protos start.protos a.protos stands) (shows_moved ps old.scopes start.scopes s no_names a.here a.outside a.takes shows) in
    record {
      more = d.more;
      seen = taken_again s.taken d.seen;
      extends = d.extends;
      stands = stands_moved d.more inner.protos new.protos b.protos d.stands;
      ends = aside_ends d.more old start inner new before wrong s d.seen a b (shows_more ps d.more old.scopes s d.extends shows) d.ends;
      is = λ all x. w all s d.seen (wrong_is d.more start inner wrong d.seen d.ends) (d.is all x);
    }

again_wrong : (taken : Names) (wrong : Option ExpandFault) (q : Seen) → wrong ≡ wrong_in q → wrong ≡ wrong_in (taken_again taken q)
again_wrong taken wrong (Ok u) e = e
again_wrong taken wrong (Err x) e = e

pub left_out : (old start inner new : Resolver) (before : TakenNames) (wrong : Option ExpandFault) (v : RawValue NodeText) (t : GivenTree NodeTree)
    → IsAside old before start → Resolves start inner wrong (λ ps s r. IsGiven ps true (given.Value v) t s r) → IsBack inner before new
    → Resolves old new wrong (λ ps s r. IsGiven ps false (given.Value v) (tree_given.LeftOut wrong) s r)
left_out old start inner new before wrong v t =
    set_aside old start inner new before wrong (λ ps s r. IsGiven ps true (given.Value v) t s r) (λ ps s r. IsGiven ps false (given.Value v) (tree_given.LeftOut wrong) s r)
    (λ all s q e h. subst (λ w. IsGiven all false (given.Value v) (tree_given.LeftOut w) s (taken_again s.taken q)) (sym (again_wrong s.taken wrong q e))
    (rule.left_out v s (taken_again s.taken q) (ap (taken_again s.taken) (given_left all (given.Value v) t (record s { taken = no_names }) q h))))

-- ---- items

before_item : (ps : List Prototype) (taken : Option Names) (i : BodyItem) (t : ItemTree) (rest : List BodyItem) (s : Sight) (r : Seen) → IsItem ps taken i t s r → Before (AreItems ps taken) (i ∷ rest) rest (t ∷ []) s r
before_item ps taken i t rest s (Ok u) is trees q h = rule.next_item taken i t rest trees s u q is h
before_item ps taken i t rest s (Err e) is trees q h =
    subst (λ ts. AreItems ps taken (i ∷ rest) (t ∷ ts) s q) (sym h.0) (subst (AreItems ps taken (i ∷ rest) (t ∷ []) s) (sym h.1) (rule.last_item taken i t rest s e is))

pub field_row : (old new : Resolver) (wrong : Option ExpandFault) (taken : Option Names) (line : ℕ) (name : Bor (List ℕ)) (g : Given NodeText) (t : GivenTree NodeTree) (rest : List BodyItem)
    → Resolves old new wrong (λ ps s r. IsGiven ps (is_kept taken name.now) g t s r)
    → Resolves old new wrong (λ ps s r. Before (AreItems ps taken) (text_item.Field line name.now g ∷ rest) rest (tree_item.Field line name t ∷ []) s r)
field_row old new wrong taken line name g t rest =
    weaker old new wrong (λ ps s r. IsGiven ps (is_kept taken name.now) g t s r) (λ ps s r. Before (AreItems ps taken) (text_item.Field line name.now g ∷ rest) rest (tree_item.Field line name t ∷ []) s r)
    (λ ps all s r shows x e h. before_item all taken (text_item.Field line name.now g) (tree_item.Field line name t) rest s r (rule.field taken line name g t s r h))

pub declaration_row : (old new : Resolver) (wrong : Option ExpandFault) (taken : Option Names) (d : Bor (Declaration NodeText)) (t : GivenTree NodeTree) (rest : List BodyItem)
    → Resolves old new wrong (λ ps s r. IsGiven ps true d.now.given t s r)
    → Resolves old new wrong (λ ps s r. Before (AreItems ps taken) (text_item.Declaration d.now ∷ rest) rest (tree_item.Declaration d t ∷ []) s r)
declaration_row old new wrong taken d t rest =
    weaker old new wrong (λ ps s r. IsGiven ps true d.now.given t s r) (λ ps s r. Before (AreItems ps taken) (text_item.Declaration d.now ∷ rest) rest (tree_item.Declaration d t ∷ []) s r)
    (λ ps all s r shows x e h. before_item all taken (text_item.Declaration d.now) (tree_item.Declaration d t) rest s r (rule.declaration taken d t s r h))

pub route_row : (old : Resolver) (taken : Option Names) (route : Bor RouteText) (rest : List BodyItem)
    → Resolves old old None (λ ps s r. Before (AreItems ps taken) (text_item.Route route.now ∷ rest) rest (tree_item.Route route ∷ []) s r)
route_row old taken route rest =
    stays old (λ ps s r. Before (AreItems ps taken) (text_item.Route route.now ∷ rest) rest (tree_item.Route route ∷ []) s r)
    (λ all s. before_item all taken (text_item.Route route.now) (tree_item.Route route) rest s (Ok s) (rule.route taken route s))

before_proto : (ps : List Prototype) (taken : Option Names) (p : ProtoText) (wrong : Option ExpandFault) (rest : List BodyItem) (s : Sight) (r : Seen) → wrong ≡ wrong_in r → (flat.proto p).sees s ≡ r
    → Before (AreItems ps taken) (text_item.Proto p ∷ rest) rest (one_or_none (option_map (λ e. tree_item.Wrong e) wrong)) s r
before_proto ps taken p wrong rest s (Ok u) is sees trees q h =
    subst (λ w. AreItems ps taken (text_item.Proto p ∷ rest) (one_or_none (option_map (λ e. tree_item.Wrong e) w) ++ trees) s q) (sym is) (rule.declared_item taken p rest trees s u q sees h)
before_proto ps taken p wrong rest s (Err e) is sees trees q h =
    subst (λ w. AreItems ps taken (text_item.Proto p ∷ rest) (one_or_none (option_map (λ x. tree_item.Wrong x) w) ++ trees) s q) (sym is)
    (before_item ps taken (text_item.Proto p) (tree_item.Wrong e) rest s (Err e) (rule.wrong taken p s e sees) trees q h)

pub proto_row : (old new : Resolver) (wrong : Option ExpandFault) (taken : Option Names) (p : ProtoText) (rest : List BodyItem)
    → Resolves old new wrong (λ ps s r. (flat.proto p).sees s ≡ r)
    → Resolves old new wrong (λ ps s r. Before (AreItems ps taken) (text_item.Proto p ∷ rest) rest (one_or_none (option_map (λ e. tree_item.Wrong e) wrong)) s r)
proto_row old new wrong taken p rest =
    weaker old new wrong (λ ps s r. (flat.proto p).sees s ≡ r) (λ ps s r. Before (AreItems ps taken) (text_item.Proto p ∷ rest) rest (one_or_none (option_map (λ e. tree_item.Wrong e) wrong)) s r)
    (λ ps all s r shows x e h. before_proto all taken p wrong rest s r e h)

-- ---- statements

before_stated : (ps : List Prototype) (n : NodeText) (t : NodeTree) (rest : List Statement) (s : Sight) (r : Seen) → IsNode ps n t s r → Before (AreStatements ps) (text_statement.Node n ∷ rest) rest (body.Node t ∷ []) s r
before_stated ps n t rest s (Ok u) is trees q h = rule.node n t rest trees s u q is h
before_stated ps n t rest s (Err e) is trees q h =
    subst (λ ts. AreStatements ps (text_statement.Node n ∷ rest) (body.Node t ∷ ts) s q) (sym h.0) (subst (AreStatements ps (text_statement.Node n ∷ rest) (body.Node t ∷ []) s) (sym h.1) (rule.last n t rest s e is))

pub stated_row : (old new : Resolver) (wrong : Option ExpandFault) (n : NodeText) (t : NodeTree) (rest : List Statement) → Resolves old new wrong (λ ps s r. IsNode ps n t s r)
    → Resolves old new wrong (λ ps s r. Before (AreStatements ps) (text_statement.Node n ∷ rest) rest (body.Node t ∷ []) s r)
stated_row old new wrong n t rest =
    weaker old new wrong (λ ps s r. IsNode ps n t s r) (λ ps s r. Before (AreStatements ps) (text_statement.Node n ∷ rest) rest (body.Node t ∷ []) s r) (λ ps all s r shows x e h. before_stated all n t rest s r h)

pub routed_row : (old : Resolver) (route : Bor RouteText) (rest : List Statement)
    → Resolves old old None (λ ps s r. Before (AreStatements ps) (text_statement.Route route.now ∷ rest) rest (body.Route route ∷ []) s r)
routed_row old route rest =
    stays old (λ ps s r. Before (AreStatements ps) (text_statement.Route route.now ∷ rest) rest (body.Route route ∷ []) s r)
    (λ all s trees q h. rule.route_statement route rest trees s q h)

before_declared : (ps : List Prototype) (p : ProtoText) (wrong : Option ExpandFault) (rest : List Statement) (s : Sight) (r : Seen) → wrong ≡ wrong_in r → (flat.proto p).sees s ≡ r
    → Before (AreStatements ps) (text_statement.Proto p ∷ rest) rest (one_or_none (option_map (λ e. body.Wrong e) wrong)) s r
before_declared ps p wrong rest s (Ok u) is sees trees q h =
    subst (λ w. AreStatements ps (text_statement.Proto p ∷ rest) (one_or_none (option_map (λ e. body.Wrong e) w) ++ trees) s q) (sym is) (rule.declared p rest trees s u q sees h)
before_declared ps p wrong rest s (Err e) is sees trees q h =
    subst (λ w. AreStatements ps (text_statement.Proto p ∷ rest) (one_or_none (option_map (λ x. body.Wrong x) w) ++ trees) s q) (sym is)
    (subst (λ ts. AreStatements ps (text_statement.Proto p ∷ rest) (body.Wrong e ∷ ts) s q) (sym h.0) (subst (AreStatements ps (text_statement.Proto p ∷ rest) (body.Wrong e ∷ []) s) (sym h.1) (rule.wrong_statement p rest s e sees)))

pub declared_row : (old new : Resolver) (wrong : Option ExpandFault) (p : ProtoText) (rest : List Statement)
    → Resolves old new wrong (λ ps s r. (flat.proto p).sees s ≡ r)
    → Resolves old new wrong (λ ps s r. Before (AreStatements ps) (text_statement.Proto p ∷ rest) rest (one_or_none (option_map (λ e. body.Wrong e) wrong)) s r)
declared_row old new wrong p rest =
    weaker old new wrong (λ ps s r. (flat.proto p).sees s ≡ r) (λ ps s r. Before (AreStatements ps) (text_statement.Proto p ∷ rest) rest (one_or_none (option_map (λ e. body.Wrong e) wrong)) s r)
    (λ ps all s r shows x e h. before_declared all p wrong rest s r e h)
