-- Between the braces of what is written of a scene stands no ROUTE.
use Rattle.std.proofs.Common.{◌≡◌, ℕ, ℤ, zero, suc, Bool, true, List, [], ◌∷◌, ◌++◌, codes, Option, Some, None, slice_set, refl, ap, ◌∙◌}
use Rattle.std.specs.List.{AllByRecursion, flat_map, fold}
use Rattle.x3d_values.specs.declared.node_type.NodeType.{NodeType}
use Rattle.x3d_values.specs.declared.value.Value.{Value}
use Rattle.x3d_values.specs.declared.value.Value.TheVariants as value
use Rattle.x3d_values.specs.Names.{node_type_name}
use Rattle.x3d_values.specs.Ranges.{max_depth}
use Rattle.classic_tree.specs.declared.tree.BodyItem.{BodyItem}
use Rattle.classic_tree.specs.declared.tree.BodyItem.TheVariants as item
use Rattle.classic_tree.specs.declared.tree.Given.TheVariants as given
use Rattle.classic_tree.specs.declared.tree.NodeText.{NodeText}
use Rattle.classic_tree.specs.declared.tree.NodeText.TheVariants as node
use Rattle.classic_tree.specs.declared.tree.RawValue.{RawValue}
use Rattle.classic_tree.specs.declared.tree.RawValue.TheVariants as raw
use Rattle.classic_tree.specs.declared.tree.Statement.{Statement}
use Rattle.classic_tree.specs.declared.tree.Statement.TheVariants as statement
use Rattle.laws_documents.specs.Readings.{each, read_item, read_node, read_statement, read_value}
use Rattle.laws_documents.specs.Routes.{Reading, opens, steps}
use Rattle.laws_documents.proofs.Readings.{read-declaration, read-field, read-full, read-node-statement, read-use}
use Rattle.scene_core.specs.Scene.{label_of}
use Rattle.scene_text.specs.Raw.{color_run, integer_run, number_list, number_run, pair_run, string_list, truth_list, vector_run}
use Rattle.scene_text.specs.Statements.{helper_root, helpers_of, root_tree, roots_of, switch_of}
use Rattle.scene_text.specs.Tree.{Declared, Makes, Plain, PlanView, def_name, field_tree, new_type, node_tree, one_more, opened, shown_fields, use_tree, value_tree}
use Rattle.scene_text.specs.Tree.{Shown as Field}
use Rattle.scene_text.specs.Tree.{each as each_made}

abbrev Read : Type 0
Read = Reading → Reading

-- what is read has no ROUTE
abbrev pub IsSilent : Read → Type 0
IsSilent read = (r : Reading) → (read r).routes ≡ r.routes

abbrev pub NodeSilent : NodeText → Type 0
NodeSilent t = IsSilent (read_node steps t)

abbrev ItemSilent : BodyItem → Type 0
ItemSilent i = IsSilent (read_item steps i)

abbrev pub StatementSilent : Statement → Type 0
StatementSilent s = IsSilent (read_statement steps s)

abbrev ValueSilent : RawValue NodeText → Type 0
ValueSilent v = IsSilent (read_value (read_node steps) v)

pub each_silent : {A : Type 0} (read : A → Read) (xs : List A) → AllByRecursion (λ (a : A). IsSilent (read a)) xs → IsSilent (each read xs)
each_silent read [] h r = refl
each_silent read (x ∷ xs) h r = each_silent read xs h.1 (read x r) ∙ h.0 r

silent_by : (f g : Read) → ((r : Reading) → f r ≡ g r) → IsSilent g → IsSilent f
silent_by f g k h r = ap (λ (s : Reading). s.routes) (k r) ∙ h r

-- ---- of each in turn

module _ {A B : Type 0} (P : B → Type 0) (make : Makes A B) (k : (seen : List Bool) (x : A) → P (make seen x).made) where
  all_push : (made : List B) (b : B) → AllByRecursion P made → P b → AllByRecursion P (made ++ b ∷ [])
  all_push [] b h p = (p, tt)
  all_push (x ∷ made) b h p = (h.0, all_push made b h.1 p)

  all_from : (seen : List Bool) (made : List B) (xs : List A) → AllByRecursion P made → AllByRecursion P (fold (one_more make) (record { seen = seen; made = made }) xs).made
  all_from seen made [] h = h
  all_from seen made (x ∷ xs) h = let m = make seen x in all_from m.seen (made ++ m.made ∷ []) xs (all_push made m.made h (k seen x))

  pub all_made : (seen : List Bool) (xs : List A) → AllByRecursion P (each_made make seen xs).made
  all_made seen xs = all_from seen [] xs tt

-- ---- values

no_truths : (truths : List Bool) → ValueSilent (truth_list truths)
no_truths [] r = refl
no_truths (t ∷ ts) r = refl

no_numbers : (numbers : List ℤ) → ValueSilent (number_list numbers)
no_numbers [] r = refl
no_numbers (n ∷ ns) r = refl

no_texts : (texts : List (List ℕ)) → ValueSilent (string_list texts)
no_texts [] r = refl
no_texts (t ∷ ts) r = refl

module _ (tree : Makes ℕ NodeText) (k : (seen : List Bool) (n : ℕ) → NodeSilent (tree seen n).made) where
  value_silent : (seen : List Bool) (v : Value) → ValueSilent (value_tree tree seen v).made
  value_silent seen (value.SFNode (Some n)) r = k seen n r
  value_silent seen (value.MFNode []) r = refl
  value_silent seen (value.MFNode (n ∷ ns)) r = each_silent (read_node steps) (each_made tree seen (n ∷ ns)).made (all_made NodeSilent tree k seen (n ∷ ns)) r
  value_silent seen (value.SFNode None) r = refl
  value_silent seen (value.SFBool v) r = refl
  value_silent seen (value.SFInt32 v) r = refl
  value_silent seen (value.SFFloat v) r = refl
  value_silent seen (value.SFTime v) r = refl
  value_silent seen (value.SFString v) r = refl
  value_silent seen (value.SFVec2f v) r = refl
  value_silent seen (value.SFVec3f v) r = refl
  value_silent seen (value.SFColor v) r = refl
  value_silent seen (value.MFBool v) r = no_truths v r
  value_silent seen (value.MFInt32 v) r = no_numbers (flat_map integer_run v) r
  value_silent seen (value.MFFloat v) r = no_numbers (flat_map number_run v) r
  value_silent seen (value.MFTime v) r = no_numbers (flat_map number_run v) r
  value_silent seen (value.MFString v) r = no_texts v r
  value_silent seen (value.MFVec2f v) r = no_numbers (flat_map pair_run v) r
  value_silent seen (value.MFVec3f v) r = no_numbers (flat_map vector_run v) r
  value_silent seen (value.MFColor v) r = no_numbers (flat_map color_run v) r

  field_silent : (seen : List Bool) (f : Field) → ItemSilent (field_tree tree seen f).made
  field_silent seen (Plain name v) r =
      ap (λ (s : Reading). s.routes) (read-field steps 0 name (given.Value (value_tree tree seen v).made) r) ∙ value_silent seen v r
  field_silent seen (Declared d None) r =
      ap (λ (s : Reading). s.routes) (read-declaration steps (record { line = 0; access = d.access; field_type = d.field_type; name = d.name; given = given.Nothing }) r)
  field_silent seen (Declared d (Some v)) r =
      ap (λ (s : Reading). s.routes) (read-declaration steps (record { line = 0; access = d.access; field_type = d.field_type; name = d.name; given = given.Value (value_tree tree seen v).made }) r)
      ∙ value_silent seen v r

-- ---- nodes

full_silent : (label : Option (List ℕ)) (word : List ℕ) (items : List BodyItem) → AllByRecursion ItemSilent items → NodeSilent (node.Full 0 label word items)
full_silent label word items h r =
    ap (λ (s : Reading). s.routes) (read-full steps 0 label word items r) ∙ each_silent (read_item steps) items h (opens label r)

module _ (p : PlanView) where
  use_silent : (n : ℕ) → NodeSilent (use_tree p n)
  use_silent n r = ap (λ (s : Reading). s.routes) (read-use steps 0 (label_of p.scene n) r)

  opened_silent : (tree : Makes ℕ NodeText) → ((seen : List Bool) (n : ℕ) → NodeSilent (tree seen n).made) → (seen : List Bool) (n : ℕ) (t : Option NodeType) → NodeSilent (opened p tree seen n t).made
  opened_silent tree k seen n None = use_silent n
  opened_silent tree k seen n (Some t) =
      full_silent (def_name p n) (node_type_name t) (each_made (field_tree tree) (slice_set seen n true) (shown_fields p n t)).made
      (all_made ItemSilent (field_tree tree) (field_silent tree k) (slice_set seen n true) (shown_fields p n t))

  pub node_silent : (depth : ℕ) (seen : List Bool) (n : ℕ) → NodeSilent (node_tree depth p seen n).made
  unfolding node_tree
  node_silent zero seen n = use_silent n
  node_silent (suc depth) seen n = opened_silent (node_tree depth p) (node_silent depth) seen n (new_type p seen n)

  -- ---- statements

  statement_silent : (t : NodeText) → NodeSilent t → StatementSilent (statement.Node t)
  statement_silent t h r = ap (λ (s : Reading). s.routes) (read-node-statement steps t r) ∙ h r

  root_silent : (seen : List Bool) (n : ℕ) → StatementSilent (root_tree (node_tree max_depth p) seen n).made
  root_silent seen n = statement_silent (node_tree max_depth p seen n).made (node_silent max_depth seen n)

  pub roots_silent : AllByRecursion StatementSilent (roots_of p).made
  roots_silent = all_made StatementSilent (root_tree (node_tree max_depth p)) root_silent _ p.scene.roots

  switch_silent : (trees : List NodeText) → AllByRecursion NodeSilent trees → NodeSilent (switch_of trees)
  switch_silent trees h =
      full_silent None (codes "Switch") (item.Field 0 (codes "children") (given.Value (raw.NodeList trees)) ∷ [])
      ((λ r. ap (λ (s : Reading). s.routes) (read-field steps 0 (codes "children") (given.Value (raw.NodeList trees)) r) ∙ each_silent (read_node steps) trees h r), tt)

  switched : (trees : List NodeText) → AllByRecursion NodeSilent trees → AllByRecursion StatementSilent (helper_root trees)
  switched [] h = tt
  switched (t ∷ trees) h = (statement_silent (switch_of (t ∷ trees)) (switch_silent (t ∷ trees) h), tt)

  pub helpers_silent : (seen : List Bool) → AllByRecursion StatementSilent (helper_root (helpers_of p seen).made)
  helpers_silent seen = switched (helpers_of p seen).made (all_made NodeSilent (node_tree max_depth p) (node_silent max_depth) seen p.scene.helpers)
