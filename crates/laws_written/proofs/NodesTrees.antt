-- What is written of nodes is read as these nodes, by the text and the numbering side by side.
use Rattle.std.proofs.Common.{◌≡◌, ℕ, zero, suc, ◌+◌, ◌<◌, ◌≤◌, Bool, true, false, not, cond, if◌then◌else◌, ℤ, List, [], ◌∷◌, ◌++◌, length, map, Option, Some, None, slice_get, slice_set, refl, sym, ap, subst, ◌∙◌, ◌⊎◌, inl, inr, arith}
use Rattle.std.specs.Prelude.{slice_index_or}
use Rattle.std.specs.List.{AllByRecursion, flat_map, fold}
use Rattle.std.proofs.lemmas.List.{length-append, length-map, map-append}
use Rattle.x3d_values.specs.declared.node_type.NodeType.{NodeType}
use Rattle.x3d_values.specs.declared.value.Value.TheVariants as value
use Rattle.x3d_values.specs.Names.{node_type_name}
use Rattle.x3d_values.specs.Values.{nodes_of}
use Rattle.classic_tree.specs.declared.tree.BodyItem.{BodyItem}
use Rattle.classic_tree.specs.declared.tree.BodyItem.TheVariants as item
use Rattle.classic_tree.specs.declared.tree.Given.TheVariants as given
use Rattle.classic_tree.specs.declared.tree.NodeText.{NodeText}
use Rattle.proto_flat.specs.declared.flat.FlatNode.{FlatNode}
use Rattle.laws_documents.specs.Readings.{each as each_read, read_item, read_node, read_value}
use Rattle.laws_documents.specs.Uses.{OpenBraces, Reading, closes, named, opens, some, stands, steps}
use Rattle.laws_documents.proofs.Readings.{read-declaration, read-field, read-full, read-use}
use Rattle.scene_core.specs.declared.numbering.Numbering.{Numbering}
use Rattle.scene_core.specs.declared.scene.SceneNode.{SceneNode}
use Rattle.scene_core.specs.Numbers.{appear, close, is_new}
use Rattle.scene_core.specs.Parts.{parts_of}
use Rattle.scene_core.specs.Scene.{type_at}
use Rattle.scene_core.specs.Tasks.{unopened}
use Rattle.scene_core.proofs.Fuel.{visit-new, visit-old}
use Rattle.scene_text.specs.Places.{places}
use Rattle.scene_text.specs.Raw.{color_run, integer_run, number_list, number_run, pair_run, string_list, truth_list, vector_run}
use Rattle.scene_text.specs.Tree.{Declared, Makes, Plain, PlanView, Shown, Grows, declaration, def_name, each, field_tree, node_tree, opened, shown_fields, use_tree, value_tree}
use Rattle.laws_written.proofs.NumberedLists.{In, IsMarked, length_set, mark_was, push_keeps, push_last, set_other, within}
use Rattle.laws_written.proofs.NumberedScenes.{found}
use Rattle.laws_written.proofs.Visits.{Seen, full, unopened_few}
use Rattle.laws_written.specs.Writable.{IsShallow}
use Rattle.laws_written.proofs.OrderShown.{links}
use Rattle.laws_written.proofs.Counts.{appear_less, hits, hits_append, hits_less, hits_own, unwritten}
use Rattle.laws_written.proofs.Plans.{none_shallow, one, shallow_low, type_is}
use Rattle.laws_written.proofs.Names.{NamesAre, braces, count, label, names_close, names_open}
use Rattle.laws_written.proofs.Together.{After, Does, InPlace, Ready, Rules, after_none, in_turn, inside, nodes_in_turn}

-- ---- facts of all items

all_both : {A : Type 0} (P Q R : A → Type 0) → ((x : A) → P x → Q x → R x) → (xs : List A) → AllByRecursion P xs → AllByRecursion Q xs → AllByRecursion R xs
all_both P Q R k [] h g = tt
all_both P Q R k (x ∷ xs) h g = (k x h.0 g.0, all_both P Q R k xs h.1 g.1)

-- ---- values without nodes

truths_read : (truths : List Bool) (r : Reading) → read_value (read_node steps) (truth_list truths) r ≡ r
truths_read [] r = refl
truths_read (t ∷ ts) r = refl

numbers_read : (numbers : List ℤ) (r : Reading) → read_value (read_node steps) (number_list numbers) r ≡ r
numbers_read [] r = refl
numbers_read (n ∷ ns) r = refl

texts_read : (texts : List (List ℕ)) (r : Reading) → read_value (read_node steps) (string_list texts) r ≡ r
texts_read [] r = refl
texts_read (t ∷ ts) r = refl

module _ (p : PlanView) (nodes : List FlatNode) where
  abbrev F : Numbering → ℕ → Numbering
  F = full nodes

  -- ---- fields

  module _ (begun : List ℕ) (Q : ℕ → Type 0) (tree : Makes ℕ NodeText) (does : Does p nodes begun Q one (read_node steps) tree) where
    value_does : Does p nodes begun Q nodes_of (read_value (read_node steps)) (value_tree tree)
    value_does coming r s (value.SFNode (Some n)) q h i = does coming r s n q h i
    value_does coming r s (value.MFNode []) q h i = (refl, after_none p nodes begun coming r r s refl h)
    value_does coming r s (value.MFNode (n ∷ ns)) q h i = nodes_in_turn p nodes begun Q (read_node steps) tree does coming r s (n ∷ ns) q h i
    value_does coming r s (value.SFNode None) q h i = (refl, after_none p nodes begun coming r r s refl h)
    value_does coming r s (value.SFBool _) q h i = (refl, after_none p nodes begun coming r r s refl h)
    value_does coming r s (value.SFInt32 _) q h i = (refl, after_none p nodes begun coming r r s refl h)
    value_does coming r s (value.SFFloat _) q h i = (refl, after_none p nodes begun coming r r s refl h)
    value_does coming r s (value.SFTime _) q h i = (refl, after_none p nodes begun coming r r s refl h)
    value_does coming r s (value.SFString _) q h i = (refl, after_none p nodes begun coming r r s refl h)
    value_does coming r s (value.SFVec2f _) q h i = (refl, after_none p nodes begun coming r r s refl h)
    value_does coming r s (value.SFVec3f _) q h i = (refl, after_none p nodes begun coming r r s refl h)
    value_does coming r s (value.SFColor _) q h i = (refl, after_none p nodes begun coming r r s refl h)
    value_does coming r s (value.MFBool truths) q h i =
        (refl, after_none p nodes begun coming r (read_value (read_node steps) (truth_list truths) r) s (truths_read truths r) h)
    value_does coming r s (value.MFInt32 numbers) q h i =
        (refl, after_none p nodes begun coming r (read_value (read_node steps) (value_tree tree s.opened (value.MFInt32 numbers)).made r) s (numbers_read (flat_map integer_run numbers) r) h)
    value_does coming r s (value.MFFloat numbers) q h i =
        (refl, after_none p nodes begun coming r (read_value (read_node steps) (value_tree tree s.opened (value.MFFloat numbers)).made r) s (numbers_read (flat_map number_run numbers) r) h)
    value_does coming r s (value.MFTime times) q h i =
        (refl, after_none p nodes begun coming r (read_value (read_node steps) (value_tree tree s.opened (value.MFTime times)).made r) s (numbers_read (flat_map number_run times) r) h)
    value_does coming r s (value.MFString texts) q h i =
        (refl, after_none p nodes begun coming r (read_value (read_node steps) (string_list texts) r) s (texts_read texts r) h)
    value_does coming r s (value.MFVec2f vectors) q h i =
        (refl, after_none p nodes begun coming r (read_value (read_node steps) (value_tree tree s.opened (value.MFVec2f vectors)).made r) s (numbers_read (flat_map pair_run vectors) r) h)
    value_does coming r s (value.MFVec3f vectors) q h i =
        (refl, after_none p nodes begun coming r (read_value (read_node steps) (value_tree tree s.opened (value.MFVec3f vectors)).made r) s (numbers_read (flat_map vector_run vectors) r) h)
    value_does coming r s (value.MFColor colors) q h i =
        (refl, after_none p nodes begun coming r (read_value (read_node steps) (value_tree tree s.opened (value.MFColor colors)).made r) s (numbers_read (flat_map color_run colors) r) h)

    field_does : Does p nodes begun Q links (read_item steps) (field_tree tree)
    field_does coming r s (Plain name v) q h i =
        let m = value_tree tree s.opened v in
        let a = value_does coming r s v q h i in
        let same : (read_item steps) (item.Field 0 name (given.Value m.made)) r ≡ read_value (read_node steps) m.made r = read-field steps 0 name (given.Value m.made) r in
        (a.0, subst (λ (t : Reading). After p nodes begun coming r t (fold F s (nodes_of v)) (nodes_of v)) (sym same) a.1)
    field_does coming r s (Declared d None) q h i = (
      refl,
      after_none p nodes begun coming r (read_item steps (declaration d given.Nothing) r) s
          (read-declaration steps (record { line = 0; access = d.access; field_type = d.field_type; name = d.name; given = given.Nothing }) r) h,
    )
    field_does coming r s (Declared d (Some v)) q h i =
        let m = value_tree tree s.opened v in
        let a = value_does coming r s v q h i in
        let same : (read_item steps) (declaration d (given.Value m.made)) r ≡ read_value (read_node steps) m.made r =
        read-declaration steps (record { line = 0; access = d.access; field_type = d.field_type; name = d.name; given = given.Value m.made }) r in
        (a.0, subst (λ (t : Reading). After p nodes begun coming r t (fold F s (nodes_of v)) (nodes_of v)) (sym same) a.1)

  -- ---- nodes

  -- chains that begin at the node are short enough, and it stands in nodes with higher numbers
  abbrev pub IsFit : ℕ → List ℕ → ℕ → Type 0
  IsFit depth begun m = IsShallow p.scene depth m × ((x : ℕ) → In x begun → m < x)

  module _ (rules : Rules p nodes) where
    -- ---- a node that has appeared

    two_hits : (b : Bool) (hit left all : ℕ) → b ≡ false → 1 ≤ hit → cond b 0 1 + hit + left ≤ all → 2 ≤ all
    two_hits true hit left all e l h = absurd cc
    two_hits false hit left all e l h = omega (arith, l, h)

    used_named : (begun coming : List ℕ) (r : Reading) (s : Numbering) (n : ℕ) → Ready p nodes begun (n ∷ coming) r s → Seen s n → n < count p
        → ((x : ℕ) → In x begun → n < x) → named (label p n) r.opened ≡ Some n
    used_named begun coming r s n h seen low above = by_list (h.listed n seen low) where
      by_list : In n begun ⊎ (n < length s.order) → named (label p n) r.opened ≡ Some n
      by_list (inl k) = absurd (let l = above n k in omega (arith, l))
      by_list (inr done) =
          let own = hits_own n coming in
          h.names.closed n done low
          (rules.named n low
          (two_hits (is_new s n) (hits n (n ∷ coming)) (unwritten nodes n 0 s.opened) (hits n (places p.scene)) seen (omega (arith, own)) (h.budget n low)))

    used_ready : (begun coming : List ℕ) (r : Reading) (s : Numbering) (n : ℕ) (what : Option ℕ) → Ready p nodes begun (n ∷ coming) r s
        → Ready p nodes begun coming (stands what r) s
    used_ready begun coming r s n what h = record {
      sized = h.sized;
      closed = h.closed;
      names = h.names;
      listed = h.listed;
      budget = λ x l.
          let less = hits_less x n coming in
          let all = h.budget x l in
          omega (arith, less, all);
    }

    used_does : (begun coming : List ℕ) (r : Reading) (s : Numbering) (n : ℕ) → Ready p nodes begun (n ∷ coming) r s → Seen s n → n < count p
        → ((x : ℕ) → In x begun → n < x) → After p nodes begun coming r (read_node steps (use_tree p n) r) s (n ∷ [])
    used_does begun coming r s n h seen low above =
        let what : Option ℕ = named (label p n) r.opened in
        subst (λ (t : Reading). After p nodes begun coming r t s (n ∷ [])) (sym (read-use steps 0 (label p n) r)) (record {
          here = ap (λ (o : Option ℕ). r.here ++ o ∷ []) (used_named begun coming r s n h seen low above);
          kept = λ k o at. at;
          ready = used_ready begun coming r s n what h;
        })

    -- ---- a node appears

    module _ (begun coming : List ℕ) (r : Reading) (s : Numbering) (n : ℕ) (h : Ready p nodes begun (n ∷ coming) r s) (new : slice_index_or s.opened n true ≡ false) where
      now_listed : (x : ℕ) → Seen (appear s n) x → x < count p → In x (n ∷ begun) ⊎ (x < length s.order)
      now_listed x seen l = by_mark (mark_was s.opened n x seen) where
        by_list : In x begun ⊎ (x < length s.order) → In x (n ∷ begun) ⊎ (x < length s.order)
        by_list (inl k) = inl (inr k)
        by_list (inr k) = inr k

        by_mark : (x ≡ n) ⊎ IsMarked s.opened x → In x (n ∷ begun) ⊎ (x < length s.order)
        by_mark (inl e) = inl (inl e)
        by_mark (inr k) = by_list (h.listed x k l)

      -- its appearance is no more to come
      counted : (x : ℕ) → cond (is_new (appear s n) x) 0 1 + hits x coming ≤ cond (is_new s x) 0 1 + hits x (n ∷ coming)
      counted x = by_new (is_new (appear s n) x) refl where
        less : hits x coming ≤ hits x (n ∷ coming)
        less = hits_less x n coming

        if_seen : (b : Bool) → b ≡ false → 1 + hits x coming ≤ cond b 0 1 + hits x (n ∷ coming)
        if_seen true e = absurd cc
        if_seen false e = omega (arith, less)

        if_same : x ≡ n → (b : Bool) → 1 + hits x coming ≤ cond b 0 1 + hits x (n ∷ coming)
        if_same e b =
            let own : hits x (n ∷ coming) ≡ 1 + hits x coming =
            subst (λ (y : ℕ). hits x (y ∷ coming) ≡ 1 + hits x coming) e (hits_own x coming) in
            omega (arith, own)

        by_mark : (x ≡ n) ⊎ IsMarked s.opened x → 1 + hits x coming ≤ cond (is_new s x) 0 1 + hits x (n ∷ coming)
        by_mark (inl e) = if_same e (is_new s x)
        by_mark (inr k) = if_seen (is_new s x) k

        by_new : (b : Bool) → is_new (appear s n) x ≡ b → cond b 0 1 + hits x coming ≤ cond (is_new s x) 0 1 + hits x (n ∷ coming)
        by_new true e = omega (arith, less)
        by_new false e = by_mark (mark_was s.opened n x e)

      now_budget : (x : ℕ) → x < count p
          → cond (is_new (appear s n) x) 0 1 + hits x (parts_of nodes n ++ coming) + unwritten nodes x 0 (slice_set s.opened n true) ≤ hits x (places p.scene)
      now_budget x l =
          let a = counted x in
          let b = hits_append x (parts_of nodes n) coming in
          let c = appear_less nodes x s.opened n new in
          let d = h.budget x l in
          omega (arith, a, b, c, d)

      appeared : Ready p nodes (n ∷ begun) (parts_of nodes n ++ coming) (opens (def_name p n) r) (appear s n)
      appeared = record {
        sized = length_set s.opened n true ∙ h.sized;
        closed = h.closed;
        names = names_open p (length s.order) r.opened (def_name p n) h.names;
        listed = now_listed;
        budget = now_budget;
      }

    -- ---- its braces close

    module _ (begun coming : List ℕ) (r t : Reading) (s : Numbering) (n : ℕ) (a : After p nodes (n ∷ begun) coming (opens (def_name p n) r) t s (parts_of nodes n))
        (place : InPlace p nodes (close s n)) (low : n < count p) where
      last : n ≡ length s.order
      last = place (length s.order) n (push_last s.order n)

      next : length t.closed ≡ n
      next = ap (λ (l : List (List (Option ℕ))). length l) a.ready.closed ∙ (length-map s.order (inside p nodes) ∙ sym last)

      one_longer : n + 1 ≡ length (s.order ++ n ∷ [])
      one_longer = ap (λ (k : ℕ). k + 1) last ∙ sym (length-append s.order (n ∷ []))

      abbrev ended : List OpenBraces
      ended = slice_set t.opened (length r.opened) (braces (def_name p n) (Some (length t.closed)))

      end_names : NamesAre p (length (s.order ++ n ∷ [])) ended
      end_names =
          let at : slice_get t.opened (length r.opened) ≡ Some (braces (def_name p n) None) =
          a.kept (length r.opened) (braces (def_name p n) None) (push_last r.opened (braces (def_name p n) None)) in
          let before : NamesAre p n t.opened = subst (λ (k : ℕ). NamesAre p k t.opened) (sym last) a.ready.names in
          subst (λ (k : ℕ). NamesAre p k ended) one_longer
          (subst (λ (k : ℕ). NamesAre p (n + 1) (slice_set t.opened (length r.opened) (braces (def_name p n) (Some k)))) (sym next)
          (names_close p rules.apart n t.opened (length r.opened) before low at))

      end_closed : t.closed ++ t.here ∷ [] ≡ map (inside p nodes) (s.order ++ n ∷ [])
      end_closed =
          ap (λ (l : List (List (Option ℕ))). l ++ t.here ∷ []) a.ready.closed
          ∙ (ap (λ (l : List (Option ℕ)). map (inside p nodes) s.order ++ l ∷ []) a.here
          ∙ sym (map-append (inside p nodes) s.order (n ∷ [])))

      end_listed : (x : ℕ) → Seen (close s n) x → x < count p → In x begun ⊎ (x < length (s.order ++ n ∷ []))
      end_listed x seen l = by_list (a.ready.listed x seen l) where
        by_list : In x (n ∷ begun) ⊎ (x < length s.order) → In x begun ⊎ (x < length (s.order ++ n ∷ []))
        by_list (inl (inl e)) = inr (omega (arith, e, one_longer))
        by_list (inl (inr k)) = inl k
        by_list (inr k) = inr (omega (arith, k, one_longer, last))

      end_kept : (k : ℕ) (o : OpenBraces) → slice_get r.opened k ≡ Some o → slice_get ended k ≡ Some o
      end_kept k o at =
          let l = within r.opened k o at in
          set_other t.opened (length r.opened) k (braces (def_name p n) (Some (length t.closed))) (λ e. omega (arith, e, l))
          ∙ a.kept k o (push_keeps r.opened (braces (def_name p n) None) k o at)

      closed : After p nodes begun coming r (closes (def_name p n) r t) (close s n) (n ∷ [])
      closed = record {
        here = ap (λ (k : ℕ). r.here ++ some k ∷ []) next;
        kept = end_kept;
        ready = record {
          sized = a.ready.sized;
          closed = end_closed;
          names = end_names;
          listed = end_listed;
          budget = a.ready.budget;
        };
      }

    -- ---- a node

    abbrev NodesDo : ℕ → Type 0
    NodesDo depth = (begun : List ℕ) → Does p nodes begun (IsFit depth begun) one (read_node steps) (node_tree depth p)

    -- how it is written, by its type if it has not appeared
    abbrev IsDoneBy : ℕ → List ℕ → List ℕ → Reading → Numbering → ℕ → Numbering → Option NodeType → Type 0
    IsDoneBy depth begun coming r s n v o =
        ((opened p (node_tree depth p) s.opened n o).seen ≡ v.opened)
        × After p nodes begun coming r (read_node steps (opened p (node_tree depth p) s.opened n o).made r) v (n ∷ [])

    inside_fit : (depth n : ℕ) (begun : List ℕ) (node : SceneNode) → slice_get p.scene.nodes n ≡ Some node → IsFit (suc depth) begun n
        → AllByRecursion (IsFit depth (n ∷ begun)) (parts_of nodes n)
    inside_fit depth n begun node is q =
        all_both (IsShallow p.scene depth) (λ (m : ℕ). m < n) (IsFit depth (n ∷ begun)) (λ m shallow l. (shallow, above m l)) (parts_of nodes n)
        (rules.stand.shallow depth n node is q.0) (rules.lower n node is) where
          above : (m : ℕ) → m < n → (x : ℕ) → In x (n ∷ begun) → m < x
          above m l x (inl e) = omega (arith, l, e)
          above m l x (inr k) = let far = q.1 x k in omega (arith, l, far)

    new_does : (depth : ℕ) → NodesDo depth → (begun coming : List ℕ) (r : Reading) (s : Numbering) (n : ℕ) (node : SceneNode)
        → slice_get p.scene.nodes n ≡ Some node → IsFit (suc depth) begun n → Ready p nodes begun (n ∷ coming) r s → InPlace p nodes (F s n)
        → slice_index_or s.opened n true ≡ false → IsDoneBy depth begun coming r s n (F s n) (Some node.node_type)
    new_does depth k begun coming r s n node is q h i new =
        let fields : List Shown = shown_fields p n node.node_type in
        let tree : Makes ℕ NodeText = node_tree depth p in
        let name : Option (List ℕ) = def_name p n in
        let within_node : List ℕ = parts_of nodes n in
        let low : n < count p = within p.scene.nodes n node is in
        let same : flat_map links fields ≡ within_node = rules.stand.shown n node is in
        let few : unopened s.opened ≤ length nodes = (let l = unopened_few s.opened in omega (arith, l, h.sized)) in
        let visited : F s n ≡ close (fold F (appear s n) within_node) n = visit-new nodes (length nodes) s n (ap not new) few in
        let place : InPlace p nodes (close (fold F (appear s n) within_node) n) = subst (InPlace p nodes) visited i in
        let inner_place : InPlace p nodes (fold F (appear s n) within_node) =
        (λ j x at. place j x (push_keeps (fold F (appear s n) within_node).order n j x at)) in
        let all = in_turn p nodes (n ∷ begun) (IsFit depth (n ∷ begun)) links (read_item steps) (field_tree tree)
        (field_does (n ∷ begun) (IsFit depth (n ∷ begun)) tree (k (n ∷ begun))) coming (opens name r) [] (appear s n) fields
        (subst (AllByRecursion (IsFit depth (n ∷ begun))) (sym same) (inside_fit depth n begun node is q))
        (subst (λ (l : List ℕ). Ready p nodes (n ∷ begun) (l ++ coming) (opens name r) (appear s n)) (sym same) (appeared begun coming r s n h new))
        (subst (λ (l : List ℕ). InPlace p nodes (fold F (appear s n) l)) (sym same) inner_place) in
        let items : Grows (List BodyItem) = each (field_tree tree) (slice_set s.opened n true) fields in
        let told : (items.seen ≡ (fold F (appear s n) within_node).opened)
        × After p nodes (n ∷ begun) coming (opens name r) (each_read (read_item steps) items.made (opens name r)) (fold F (appear s n) within_node) within_node =
        subst (λ (l : List ℕ). (items.seen ≡ (fold F (appear s n) l).opened)
        × After p nodes (n ∷ begun) coming (opens name r) (each_read (read_item steps) items.made (opens name r)) (fold F (appear s n) l) l) same all in
        let done : After p nodes begun coming r (closes name r (each_read (read_item steps) items.made (opens name r))) (close (fold F (appear s n) within_node) n) (n ∷ []) =
        closed begun coming r (each_read (read_item steps) items.made (opens name r)) (fold F (appear s n) within_node) n told.1 place low in
        subst (λ (v : Numbering). IsDoneBy depth begun coming r s n v (Some node.node_type)) (sym visited) (
          told.0,
          subst (λ (t : Reading). After p nodes begun coming r t (close (fold F (appear s n) within_node) n) (n ∷ []))
              (sym (read-full steps 0 name (node_type_name node.node_type) items.made r)) done,
        )

    by_seen : (depth : ℕ) → NodesDo depth → (begun coming : List ℕ) (r : Reading) (s : Numbering) (n : ℕ) (b : Bool) → slice_index_or s.opened n true ≡ b
        → n < count p → IsFit (suc depth) begun n → Ready p nodes begun (n ∷ coming) r s → InPlace p nodes (F s n)
        → IsDoneBy depth begun coming r s n (F s n) (if b then None else type_at p.scene n)
    by_seen depth k begun coming r s n true e low q h i =
        let same : F s n ≡ s = visit-old nodes (length nodes) s n (ap not e) in
        subst (λ (v : Numbering). IsDoneBy depth begun coming r s n v None) (sym same)
        (refl, used_does begun coming r s n h (ap not e) low q.1)
    by_seen depth k begun coming r s n false e low q h i =
        let f = found p.scene.nodes n low in
        subst (λ (o : Option NodeType). IsDoneBy depth begun coming r s n (F s n) o) (sym (type_is p.scene n f.0 f.1))
        (new_does depth k begun coming r s n f.0 f.1 q h i e)

    pub nodes_do : (depth : ℕ) → NodesDo depth
    unfolding node_tree
    nodes_do zero begun coming r s n q h i = absurd (none_shallow p.scene n q.0.0)
    nodes_do (suc depth) begun coming r s n q h i =
        by_seen depth (nodes_do depth) begun coming r s n (slice_index_or s.opened n true) refl (shallow_low p.scene depth n q.0.0) q.0 h i
