-- Steps of the trees of nodes.
use Rattle.std.proofs.Common.{◌≡◌, ◌≢◌, ℕ, zero, suc, ◌+◌, ◌-◌, ◌<◌, Bool, true, List, [], ◌∷◌, ◌++◌, Some, None, length, get_or, take, refl, ap, sym, subst, ◌∙◌, arith}
use Rattle.std.specs.Prelude.{slice_set, IfOk, Result, Ok, Err}
use Rattle.std.proofs.lemmas.Grind.{common_steps}
use Rattle.std.proofs.lemmas.List.Sums.{fold_more}
use Rattle.x3d_values.specs.declared.node_type.NodeType.{NodeType}
use Rattle.x3d_values.specs.Names.{node_type_name}
use Rattle.classic_tree.specs.declared.tree.BodyItem.{BodyItem}
use Rattle.classic_tree.specs.declared.tree.BodyItem.TheVariants as item
use Rattle.classic_tree.specs.declared.tree.Given.{Given}
use Rattle.classic_tree.specs.declared.tree.Given.TheVariants as given
use Rattle.classic_tree.specs.declared.tree.RawValue.{RawValue}
use Rattle.classic_tree.specs.declared.tree.NodeText.{NodeText}
use Rattle.classic_tree.specs.declared.tree.NodeText.TheVariants as node
use Rattle.classic_tree.specs.declared.tree.Statement.{Statement}
use Rattle.classic_tree.specs.declared.tree.Statement.TheVariants as statement
use Rattle.scene_core.specs.declared.row.DeclaredField.{DeclaredField}
use Rattle.scene_text.specs.Statements.{switch_of, helper_root, root_tree}
use Rattle.scene_text.specs.Tree.{PlanView, Shown, def_name, Grows, Makes, one_more, each, as_nodes, node_list, plain_tree, declaration, declared_tree, field_tree, new_type, use_tree, full_tree, shown_fields, node_tree}

-- ---- one more of a list

pub each_more : {A B : Type 0} (make : Makes A B) (start : List Bool) (xs : List A) (i : ℕ) (d : A) (s : Grows (List B)) (m : Grows B) → i < length xs → s ≡ each make start (take i xs) → m ≡ make s.seen (get_or xs i d) → record { seen = m.seen; made = s.made ++ m.made ∷ [] } ≡ each make start (take (i + 1) xs)
each_more make start xs i d s m h e f = let k = fold_more (one_more make) (record { seen = start; made = [] }) xs i d h in
    ap (λ w. record { seen = w.seen; made = s.made ++ w.made ∷ [] }) f ∙ ap (λ w. one_more make w (get_or xs i d)) e ∙ sym k

pub node_list_full : (tree : Makes ℕ NodeText) (seen : List Bool) (ns : List ℕ) → ns ≢ [] → node_list tree seen ns ≡ as_nodes (each tree seen ns)
node_list_full tree seen [] isnt = absurd (isnt refl)
node_list_full tree seen (n ∷ ns) isnt = refl

pub ruleset list_steps = (common_steps, node_list_full)

pub helper_root_full : (trees : List NodeText) → trees ≢ [] → helper_root trees ≡ statement.Node (switch_of trees) ∷ []
helper_root_full [] isnt = absurd (isnt refl)
helper_root_full (tree ∷ trees) isnt = refl

pub ruleset helper_steps = (common_steps, helper_root_full)

-- ---- a node

pub node_tree_spent : (depth : ℕ) (p : PlanView) (seen : List Bool) (n : ℕ) → depth ≡ 0 → node_tree depth p seen n ≡ record { seen = seen; made = use_tree p n }
unfolding node_tree
node_tree_spent zero p seen n e = refl
node_tree_spent (suc depth) p seen n e = absurd (omega arith)

pub node_tree_again : (depth : ℕ) (p : PlanView) (seen : List Bool) (n : ℕ) → new_type p seen n ≡ None → node_tree depth p seen n ≡ record { seen = seen; made = use_tree p n }
unfolding node_tree
node_tree_again zero p seen n e = refl
node_tree_again (suc depth) p seen n e = rw e refl

pub node_tree_first : (depth : ℕ) (p : PlanView) (seen : List Bool) (n : ℕ) (t : NodeType) → 0 < depth → new_type p seen n ≡ Some t → node_tree depth p seen n ≡ full_tree p n t (each (field_tree (node_tree (depth - 1) p)) (slice_set seen n true) (shown_fields p n t))
unfolding node_tree
node_tree_first zero p seen n t h e = absurd (omega arith)
node_tree_first (suc depth) p seen n t h e =
    let k : suc depth - 1 ≡ depth = omega arith in
    rw e (ap (λ d. full_tree p n t (each (field_tree (node_tree d p)) (slice_set seen n true) (shown_fields p n t))) (sym k))

abbrev pub step_of : {A : Type 0} → List Bool → A → Grows A
step_of seen made = record { seen = seen; made = made }

-- a node that is written by USE
pub spent_made : (depth : ℕ) (p : PlanView) (seen : List Bool) (n : ℕ) (made : NodeText) → depth ≡ 0 → made ≡ use_tree p n → step_of seen made ≡ node_tree depth p seen n
spent_made depth p seen n made h e = ap (λ (w : NodeText). step_of seen w) e ∙ sym (node_tree_spent depth p seen n h)

pub again_made : (depth : ℕ) (p : PlanView) (seen : List Bool) (n : ℕ) (made : NodeText) → new_type p seen n ≡ None → made ≡ use_tree p n → step_of seen made ≡ node_tree depth p seen n
again_made depth p seen n made h e = ap (λ (w : NodeText). step_of seen w) e ∙ sym (node_tree_again depth p seen n h)

-- a field with its value
pub plain_made : (seen : List Bool) (name text : List ℕ) (value : RawValue NodeText) (m : Grows (RawValue NodeText)) → name ≡ text → step_of seen value ≡ m
    → step_of seen (item.Field 0 name (given.Value value)) ≡ plain_tree text m
plain_made seen name text value m e h =
    ap (λ (w : List ℕ). step_of seen (item.Field 0 w (given.Value value))) e ∙ ap (λ (w : Grows (RawValue NodeText)). plain_tree text w) h

-- a declared field, whatever making its declaration answered
pub declared_made : {E : Type 0} (o : Result BodyItem E) (d : DeclaredField) (seen : List Bool) (held : Given NodeText) (m : Grows (Given NodeText)) → IfOk o (λ made. made ≡ declaration d held)
    → step_of seen held ≡ m → IfOk o (λ made. step_of seen made ≡ declared_tree d m)
declared_made (Ok made) d seen held m e h = ap (λ (w : BodyItem). step_of seen w) e ∙ ap (λ (w : Grows (Given NodeText)). declared_tree d w) h
declared_made (Err refused) d seen held m e h = e

-- the same by the parts that are made one after the other
pub node_tree_made : (depth : ℕ) (p : PlanView) (seen : List Bool) (n : ℕ) (t : NodeType) (m : Grows (List BodyItem)) (start : List Bool) (fields : List Shown) (made : NodeText) → 0 < depth → new_type p seen n ≡ Some t → m ≡ each (field_tree (node_tree (depth - 1) p)) start fields → start ≡ slice_set seen n true → fields ≡ shown_fields p n t → made ≡ node.Full 0 (def_name p n) (node_type_name t) m.made → step_of m.seen made ≡ node_tree depth p seen n
node_tree_made depth p seen n t m start fields made h e f s k q =
    ap (λ (w : NodeText). step_of m.seen w) q
    ∙ ap (λ (w : Grows (List BodyItem)). full_tree p n t w) (f ∙ ap (λ w. each (field_tree (node_tree (depth - 1) p)) w fields) s ∙ ap (λ w. each (field_tree (node_tree (depth - 1) p)) (slice_set seen n true) w) k)
    ∙ sym (node_tree_first depth p seen n t h e)

pub ruleset node_steps = (common_steps, node_tree_spent, node_tree_again)

-- one more root
pub root_more : (tree : Makes ℕ NodeText) (start : List Bool) (roots shown : List ℕ) (i : ℕ) (s : Grows (List Statement)) (m : Grows NodeText) (made : List Statement) →
    shown ≡ roots → i < length shown → s ≡ each (root_tree tree) start (take i roots) → m ≡ tree s.seen (get_or shown i 0) → made ≡ s.made ++ statement.Node m.made ∷ [] →
    step_of m.seen made ≡ each (root_tree tree) start (take (i + 1) roots)
root_more tree start roots shown i s m made same here so_far is last =
    ap (λ (ws : List Statement). step_of m.seen ws) last
    ∙ each_more (root_tree tree) start roots i 0 s (step_of m.seen (statement.Node m.made))
    (subst (λ ns. i < length ns) same here) so_far
    (ap (λ (w : Grows NodeText). step_of w.seen (statement.Node w.made)) (is ∙ ap (λ ns. tree s.seen (get_or ns i 0)) same))
