-- Instances that are given nothing one behind the other, and documents with too many of them.
use Rattle.std.proofs.Common.{◌≡◌, ℕ, zero, suc, ◌+◌, ◌*◌, ◌<◌, Bool, true, false, not, inl, inr, List, [], ◌∷◌, ◌++◌, length, Option, Some, Result, Ok, Err, map, refl, ap, sym, ◌∙◌, subst, arith}
use Rattle.std.specs.Prelude.{◌&&◌, nat_lt}
use Rattle.std.specs.List.{list_all, AllByRecursion, fold, sum_by}
use Rattle.std.proofs.lemmas.Bool.{lt-ltb}
use Rattle.std.proofs.lemmas.List.{append-nil, append_assoc, length-append, map-append}
use Rattle.classic_tree.specs.declared.tree.BodyItem.TheOpen.{NodeText-F, Statement-F}
use Rattle.classic_tree.specs.declared.tree.Document.{Document}
use Rattle.classic_tree.specs.declared.tree.NodeText.{NodeText}
use Rattle.classic_tree.specs.declared.tree.NodeText.TheVariants as node
use Rattle.classic_tree.specs.declared.tree.Statement.{Statement}
use Rattle.proto_flat.specs.Fault.{fault}
use Rattle.proto_flat.specs.declared.fault.ExpandFault.{ExpandFault}
use Rattle.proto_flat.specs.declared.fault.ExpandFaultKind.TheVariants.{TooLarge}
use Rattle.proto_flat.specs.declared.flat.Flat.{Flat}
use Rattle.proto_meaning.specs.Limits.{Met, Outcome, all_met, and_then, behind, follow, has_room, instances_met, is_within, items_met, limited, nodes_met}
use Rattle.proto_meaning.specs.Names.{Name}
use Rattle.proto_meaning.specs.Sight.{Prototype, Sight, Owner, OfProto, Put, meant}
use Rattle.proto_meaning.specs.Flat.{Walk, Does, Node, Stated, begin, comes, flat, full_node, header_of, in_body, node_step, pure, stand_together, statement, statement_step, through}
use Rattle.proto_meaning.specs.Flat.{node as node_part}
use Rattle.proto_meaning.proofs.LimitLaws.{limits_stay_passed}
use Rattle.proto_meaning.proofs.Trees.{node-full, statement-node}
use Rattle.proto_meaning.specs.Sizes.{AreSized, IsSized}
use Rattle.proto_meaning.specs.Rows.{AreInARow, Known, MetIn, add_node, add_root, bare, mets, node_of, stated_of, times}
use Rattle.proto_meaning.specs.SizeLaws.{BareInstancesStandInRows, FloodsAreTooLarge, IsOver, RepeatsPassLimits, RowsAreSums, bare_statement}
use Rattle.proto_meaning.proofs.SizeWalks.{AsMany, DoAlike, GoesAlike, none_sized, pure_alike, then_alike, through_alike}
use Rattle.proto_meaning.proofs.SizeParts.{StatedSized}
use Rattle.proto_meaning.proofs.SizeNodes.{OwnerSized, meant_sized}
use Rattle.proto_meaning.proofs.SizeProtos.{begin_alike}
use Rattle.proto_meaning.proofs.SizeWhole.{all_sized}
use Rattle.proto_meaning.proofs.Bare.{is_put}

-- ---- one behind the other

behind-behind : {A : Type 0} (m n : List Met) (o : Outcome A) → behind m (behind n o) ≡ behind (m ++ n) o
behind-behind m n o = ap (λ ms. record { met = ms; comes = o.comes }) (sym (append_assoc m n o.met))

module _ {A X : Type 0} (f : A → X → Does X) (s : Sight) where
  -- where s is in sight, it is put in, and that is met
  abbrev pub Once : A → List Met → Type 0
  Once a met = (x : X) (w : Walk) → w.sight ≡ s → (y : X) × (v : Walk) × (v.sight ≡ s) × (f a x w ≡ record { met = met; comes = Ok (y, v) })

  module _ (of : Known s → A) (once : (k : Known s) → Once (of k) k.met) where
    pub in_a_row : (known : List (Known s)) → AreInARow f s (map of known) (mets known)
    in_a_row [] rest x w e = (x, w, e, refl)
    in_a_row (k ∷ known) rest x w e =
        let one = once k x w e in
        let more = in_a_row known rest one.0 one.1 one.2 in (
          more.0,
          more.1,
          more.2,
          ap (λ (o : Outcome (X × Walk)). and_then o (λ p. through f (map of known ++ rest) p.0 p.1)) one.3 ∙ ap (behind k.met) more.3 ∙ behind-behind k.met (mets known) (through f rest more.0 more.1),
        )

-- ---- nodes and statements

module _ (s : Sight) (k : Known s) where
  node_once : Once add_node s k.node k.met
  node_once numbers w e =
      let was = is_put k.prototype k.met k.sized k.was k.line k.name w in (
        numbers ++ was.0 ∷ [],
        was.1,
        was.2 ∙ e,
        ap (λ (o : Outcome (ℕ × Walk)). and_then o (λ q. pure (numbers ++ q.0 ∷ []) q.1)) (k.does w e ∙ was.3)
            ∙ ap (λ ms. record { met = ms; comes = Ok (numbers ++ was.0 ∷ [], was.1) }) (append-nil k.met),
      )

  stated_once : (w : Walk) → w.sight ≡ s → (number : ℕ) × (v : Walk) × (v.sight ≡ s) × ((statement_step (Statement-F.Node k.node)).1.does w ≡ record { met = k.met; comes = Ok (number ∷ [], v) })
  unfolding statement_step
  stated_once w e =
      let was = is_put k.prototype k.met k.sized k.was k.line k.name w in (
        was.0,
        was.1,
        was.2 ∙ e,
        ap (λ (o : Outcome (ℕ × Walk)). and_then o (λ q. pure (q.0 ∷ []) q.1)) (k.does w e ∙ was.3)
            ∙ ap (λ ms. record { met = ms; comes = Ok (was.0 ∷ [], was.1) }) (append-nil k.met),
      )

  root_once : Once add_root s (stated_of k) k.met
  root_once roots w e =
      let was = stated_once w e in (
        roots ++ was.0 ∷ [],
        was.1,
        was.2,
        ap (λ (o : Outcome (List ℕ × Walk)). and_then o (λ q. pure (roots ++ q.0) q.1)) was.3
            ∙ ap (λ ms. record { met = ms; comes = Ok (roots ++ was.0 ∷ [], was.1) }) (append-nil k.met),
      )

  abbrev helped : List ℕ → List ℕ × Walk → Outcome (List ℕ × Walk)
  helped first q = comes (Ok (first, record q.1 { put = record q.1.put { helpers = q.1.put.helpers ++ q.0 } }))

  body_once : Once in_body s (stated_of k) k.met
  body_once [] w e =
      let was = stated_once w e in
      (was.0 ∷ [], was.1, was.2, was.3)
  body_once (n ∷ ns) w e =
      let was = stated_once w e in (
        n ∷ ns,
        record was.1 { put = record was.1.put { helpers = was.1.put.helpers ++ was.0 ∷ [] } },
        was.2,
        ap (λ (o : Outcome (List ℕ × Walk)). and_then o (helped (n ∷ ns))) was.3
            ∙ ap (λ ms. record { met = ms; comes = (helped (n ∷ ns) (was.0 ∷ [], was.1)).comes }) (append-nil k.met),
      )

pub bare_instances_stand_in_rows : BareInstancesStandInRows
bare_instances_stand_in_rows s known = (
  in_a_row add_node s node_of (node_once s) known,
  in_a_row add_root s stated_of (root_once s) known,
  in_a_row in_body s stated_of (body_once s) known,
)

-- ---- counts

fold_from : (f : Met → ℕ) (a : ℕ) (ms : List Met) → fold (λ b m. b + f m) a ms ≡ a + sum_by f ms
fold_from f a [] = omega arith
fold_from f a (m ∷ ms) = omega (arith, fold_from f (a + f m) ms, fold_from f (0 + f m) ms)

sum_append : (f : Met → ℕ) (ms ns : List Met) → sum_by f (ms ++ ns) ≡ sum_by f ms + sum_by f ns
sum_append f [] ns = omega arith
sum_append f (m ∷ ms) ns = omega (arith, fold_from f (0 + f m) (ms ++ ns), sum_append f ms ns, fold_from f (0 + f m) ms)

one_more : (k a b c : ℕ) → b ≡ k * a → c ≡ a + b → c ≡ suc k * a
one_more k a b c e h = grind arith

multiple : (f : Met → ℕ) (k : ℕ) (met : List Met) → sum_by f (times k met) ≡ k * sum_by f met
multiple f zero met = omega arith
multiple f (suc k) met = one_more k (sum_by f met) (sum_by f (times k met)) (sum_by f (met ++ times k met)) (multiple f k met) (sum_append f met (times k met))

module _ (s : Sight) (g : Known s → ℕ) where
  from_known : (a : ℕ) (ks : List (Known s)) → fold (λ b k. b + g k) a ks ≡ a + sum_by g ks
  from_known a [] = omega arith
  from_known a (k ∷ ks) = omega (arith, from_known (a + g k) ks, from_known (0 + g k) ks)

  sum_more : (k : Known s) (ks : List (Known s)) → sum_by g (k ∷ ks) ≡ g k + sum_by g ks
  sum_more k ks = omega (arith, from_known (0 + g k) ks)

sum_of_each : (f : Met → ℕ) (s : Sight) (known : List (Known s)) → sum_by f (mets known) ≡ sum_by (λ (i : Known s). sum_by f i.met) known
sum_of_each f s [] = refl
sum_of_each f s (k ∷ known) = omega (arith, sum_append f k.met (mets known), sum_of_each f s known, sum_more s (λ (i : Known s). sum_by f i.met) k known)

pub rows_are_sums : RowsAreSums
rows_are_sums amount s known k met = (sum_of_each amount s known, multiple amount k met)

few_not : (n a : ℕ) → n < a → not (nat_lt n a) ≡ false
few_not n a h = ap not (lt-ltb n a h)

first_off : (a b c d e : Bool) → a ≡ false → a && b && c && d && e ≡ false
first_off a b c d e h = ap (λ x. x && b && c && d && e) h

second_off : (a b c d e : Bool) → b ≡ false → a && b && c && d && e ≡ false
second_off true b c d e h = ap (λ x. x && c && d && e) h
second_off false b c d e h = refl

third_off : (a b c d e : Bool) → c ≡ false → a && b && c && d && e ≡ false
third_off true true c d e h = ap (λ x. x && d && e) h
third_off true false c d e h = refl
third_off false b c d e h = refl

fourth_off : (a b c d e : Bool) → d ≡ false → a && b && c && d && e ≡ false
fourth_off true true true d e h = ap (λ x. x && e) h
fourth_off true true false d e h = refl
fourth_off true false c d e h = refl
fourth_off false b c d e h = refl

module _ (before met : List Met) (k : ℕ) where
  abbrev all_together : List Met
  all_together = before ++ times k met

  counted : (f : Met → ℕ) (n : ℕ) → n < sum_by f before + k * sum_by f met → not (nat_lt n (sum_by f all_together)) ≡ false
  counted f n h = few_not n (sum_by f all_together) (subst (λ c. n < c) (sym (sum_append f before (times k met) ∙ ap (λ c. sum_by f before + c) (multiple f k met))) h)

  abbrev few : (Met → ℕ) → ℕ → Bool
  few f n = not (nat_lt n (sum_by f all_together))

  pass : IsOver (λ amount. sum_by amount before + k * sum_by amount met) → is_within all_together ≡ false
  pass (inl h) = first_off (few nodes_met 65536) (few instances_met 8388608) (few items_met 8388608) (few all_met 4194304) (list_all has_room all_together) (counted nodes_met 65536 h)
  pass (inr (inl h)) = second_off (few nodes_met 65536) (few instances_met 8388608) (few items_met 8388608) (few all_met 4194304) (list_all has_room all_together) (counted instances_met 8388608 h)
  pass (inr (inr (inl h))) = third_off (few nodes_met 65536) (few instances_met 8388608) (few items_met 8388608) (few all_met 4194304) (list_all has_room all_together) (counted items_met 8388608 h)
  pass (inr (inr (inr h))) = fourth_off (few nodes_met 65536) (few instances_met 8388608) (few items_met 8388608) (few all_met 4194304) (list_all has_room all_together) (counted all_met 4194304 h)

pub repeats_pass_limits : RepeatsPassLimits
repeats_pass_limits before met k h = pass before met k h

-- ---- a document

then_behind : {A B : Type 0} (m : List Met) (met : List Met) (c : Result A ExpandFault) (f : A → Outcome B) → follow (m ++ met) c f ≡ behind m (follow met c f)
then_behind m met (Ok a) f = ap (λ ms. record { met = ms; comes = (f a).comes }) (append_assoc m met (f a).met)
then_behind m met (Err e) f = refl

module _ {A X : Type 0} (f : A → X → Does X) where
  through-split : (as' bs : List A) (x : X) (w : Walk) → through f (as' ++ bs) x w ≡ and_then (through f as' x w) (λ p. through f bs p.0 p.1)
  through-split [] bs x w = refl
  through-split (a ∷ as') bs x w = in_turn (f a x w).met (f a x w).comes (λ y v. through-split as' bs y v) where
    in_turn : (met : List Met) (c : Result (X × Walk) ExpandFault) → ((y : X) (v : Walk) → through f (as' ++ bs) y v ≡ and_then (through f as' y v) (λ p. through f bs p.0 p.1))
        → follow met c (λ p. through f (as' ++ bs) p.0 p.1) ≡ and_then (follow met c (λ p. through f as' p.0 p.1)) (λ p. through f bs p.0 p.1)
    in_turn met (Ok p) split =
        ap (behind met) (split p.0 p.1)
        ∙ sym (then_behind met (through f as' p.0 p.1).met (through f as' p.0 p.1).comes (λ q. through f bs q.0 q.1))
    in_turn met (Err e) split = refl

root_alike : (x : Stated) → StatedSized x → (ks ls : List ℕ) → AsMany ks ls → DoAlike AsMany (add_root x ks) (add_root x ls)
root_alike x h ks ls e =
    then_alike AsMany AsMany x.1.does x.1.does (λ ns. pure (ks ++ ns)) (λ ns. pure (ls ++ ns)) h.does
    (λ a b i. pure_alike AsMany (ks ++ a) (ls ++ b) (more a b i)) where
      more : (a b : List ℕ) → AsMany a b → length (ls ++ b) ≡ length (ks ++ a)
      more a b i = omega (arith, e, i, length-append ks a, length-append ls b)

roots_alike : (xs : List Stated) → AllByRecursion StatedSized xs → AllByRecursion (λ (x : Stated). (ks ls : List ℕ) → AsMany ks ls → DoAlike AsMany (add_root x ks) (add_root x ls)) xs
roots_alike [] h = tt
roots_alike (x ∷ xs) h = (root_alike x h.0, roots_alike xs h.1)

abbrev empty : Walk
empty = begin [] (record { nodes = []; helpers = [] })

abbrev all_of : List Stated → Outcome (List ℕ × Walk)
all_of parts = through add_root parts [] empty

-- what is in sight behind statements that were put in is sized
sized_behind : (first : List Statement) (met : List Met) (roots : List ℕ) (w : Walk) → all_of (map statement first) ≡ record { met = met; comes = Ok (roots, w) } → AreSized w.sight
sized_behind first met roots w e =
    let nothing : Put = record { nodes = []; helpers = [] } in
    let h = through_alike AsMany add_root (map statement first) (roots_alike (map statement first) (all_sized first)) [] [] refl empty empty (begin_alike [] nothing nothing none_sized) in
    (subst (λ (o : Outcome (List ℕ × Walk)). GoesAlike AsMany o.comes o.comes) e h.goes).1.sized

module _ (p : Prototype) (word : Name) (s : Sight) (means : meant word s ≡ Some (OfProto p)) (sized : IsSized p) (met : List Met) (m : MetIn p met) where
  bare_step : (line : ℕ) (name : Option Name) (w : Walk) → w.sight ≡ s → (node_step (NodeText-F.Full line name word [])).does w ≡ bare p line name w
  unfolding node_step
  bare_step line name w e = ap (λ (o : Option Owner). full_node line name [] o w) (ap (meant word) e ∙ means)

  abbrev text : ℕ × Option Name → NodeText
  text b = node.Full b.0 b.1 word []

  abbrev known_of : ℕ × Option Name → Known s
  known_of b = record {
    node = node_part (text b);
    line = b.0;
    name = b.1;
    prototype = p;
    does = λ w e. ap (λ (n : Node). n.does w) (node-full b.0 b.1 word [] {ps = []} refl) ∙ bare_step b.0 b.1 w e;
    sized = sized;
    met = met;
    was = m;
  }

  are_stated : (bs : List (ℕ × Option Name)) → map statement (map (bare_statement word) bs) ≡ map stated_of (map known_of bs)
  are_stated [] = refl
  are_stated (b ∷ bs) =
      ap (λ (x : Stated). x ∷ map statement (map (bare_statement word) bs)) (statement-node (text b) {p = node_part (text b)} refl)
      ∙ ap (λ xs. stated_of (known_of b) ∷ xs) (are_stated bs)

  met_so_often : (bs : List (ℕ × Option Name)) → mets (map known_of bs) ≡ times (length bs) met
  met_so_often [] = refl
  met_so_often (b ∷ bs) = ap (λ ms. met ++ ms) (met_so_often bs)

abbrev bares : Name → List (ℕ × Option Name) → List Stated
bares word bs = map statement (map (bare_statement word) bs)

apart : (word : Name) (first rest : List Statement) (bs : List (ℕ × Option Name)) → map statement (first ++ map (bare_statement word) bs ++ rest) ≡ map statement first ++ (bares word bs ++ map statement rest)
apart word first rest bs =
    map-append statement (first ++ map (bare_statement word) bs) rest
    ∙ ap (λ xs. xs ++ map statement rest) (map-append statement first (map (bare_statement word) bs))
    ∙ append_assoc (map statement first) (bares word bs) (map statement rest)

abbrev Floods : List Met → Outcome (List ℕ × Walk) → Type 0
Floods met o = (more : Outcome (List ℕ × Walk)) × (o ≡ behind met more)

flooded : (first : List Statement) (word : Name) (bs : List (ℕ × Option Name)) (rest : List Statement) (before met : List Met) (roots : List ℕ) (w : Walk) (p : Prototype)
    → all_of (map statement first) ≡ record { met = before; comes = Ok (roots, w) } → meant word w.sight ≡ Some (OfProto p) → MetIn p met
    → Floods (before ++ times (length bs) met) (all_of (map statement first ++ (bares word bs ++ map statement rest)))
flooded first word bs rest before met roots w p e means m =
    let sized : IsSized p = subst OwnerSized means (meant_sized word w.sight (sized_behind first before roots w e)) in
    let known : List (Known w.sight) = map (known_of p word w.sight means sized met m) bs in
    let r = (bare_instances_stand_in_rows w.sight known).1 (map statement rest) roots w refl in
    let left = through add_root (map statement rest) r.0 r.1 in (
      left,
      through-split add_root (map statement first) (bares word bs ++ map statement rest) [] empty
          ∙ ap (λ (o : Outcome (List ℕ × Walk)). and_then o (λ q. through add_root (bares word bs ++ map statement rest) q.0 q.1)) e
          ∙ ap (λ xs. behind before (through add_root (xs ++ map statement rest) roots w)) (are_stated p word w.sight means sized met m bs)
          ∙ ap (behind before) r.3
          ∙ behind-behind before (mets known) left
          ∙ ap (λ ms. behind (before ++ ms) left) (met_so_often p word w.sight means sized met m bs),
    )

abbrev ending : Document → List ℕ × Walk → Outcome Flat
ending d q = comes (Ok (record {
  header = header_of d;
  nodes = q.1.put.nodes;
  roots = q.0;
  helpers = q.1.put.helpers;
  routes = q.1.scope.routes q.1.scope.braces;
}))

too_large : (d : Document) (met : List Met) (o : Outcome (List ℕ × Walk)) → Floods met o → is_within met ≡ false → limited (and_then o (ending d)) ≡ Err (fault TooLarge 0)
too_large d met o h e =
    ap (λ (q : Outcome (List ℕ × Walk)). limited (and_then q (ending d))) h.1
    ∙ ap limited (then_behind met h.0.met h.0.comes (ending d))
    ∙ limits_stay_passed met (and_then h.0 (ending d)) e

pub floods_are_too_large : FloodsAreTooLarge
unfolding flat
floods_are_too_large d first word bs rest before met roots w p is e means m over =
    ap (λ ss. limited (stand_together (header_of d) (map statement ss))) is
    ∙ ap (λ parts. limited (stand_together (header_of d) parts)) (apart word first rest bs)
    ∙ too_large d (before ++ times (length bs) met) (all_of (map statement first ++ (bares word bs ++ map statement rest))) (flooded first word bs rest before met roots w p e means m) over
