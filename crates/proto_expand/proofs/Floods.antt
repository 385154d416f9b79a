-- Rows of instances that are given nothing: what the first takes, each of the others takes.
use Rattle.std.proofs.Common.{◌≡◌, mul_comm, ℕ, suc, ◌+◌, ◌-◌, ◌*◌, ◌<◌, Bool, true, false, not, ◌&&◌, if◌then◌else◌, cond, List, [], ◌∷◌, ◌++◌, length, Option, Some, None, Result, Ok, Err, map, refl, ap, sym, ◌∙◌, subst, arith}
use Rattle.std.specs.Prelude.{IfSome, nat_eq, nat_lt, option_map, slice_get}
use Rattle.std.specs.List.{fold, prefix_len, sum_by}
use Rattle.std.specs.Option.{option_map_or}
use Rattle.std.proofs.lemmas.Bool.{eq-eqb, eqb-true, ltb-false, ltb-true}
use Rattle.proto_flat.specs.Fault.{fault}
use Rattle.proto_flat.specs.declared.fault.ExpandFault.{ExpandFault}
use Rattle.proto_flat.specs.declared.fault.ExpandFaultKind.TheVariants.{TooLarge, UnknownNode}
use Rattle.proto_meaning.specs.Limits.{Met, Outcome, all_met, behind, has_room, instances_met, items_met, nodes_met}
use Rattle.proto_meaning.specs.Names.{Name}
use Rattle.proto_meaning.specs.Sight.{OfProto, Prototype, Sight, and_see}
use Rattle.proto_meaning.specs.Flat as flat
use Rattle.proto_meaning.specs.Flat.{Does, ◌>>=◌, Item, Node, Stated, Walk, full_node, pure, refuse, through}
use Rattle.proto_parts.specs.declared.room.Room.{Room}
use Rattle.proto_parts.specs.Settled.{State, beside, doing, onward, settle, spend, spend_all, too_large}
use Rattle.proto_parts.proofs.Settling.{parts_settle_in_turn, settle-then}
use Rattle.proto_meaning.specs.Sizes.{IsSized}
use Rattle.proto_meaning.specs.Rows.{Known, MetIn, add_root, bare, mets, stated_of, times}
use Rattle.proto_meaning.proofs.InRows.{bare_instances_stand_in_rows, rows_are_sums}
use Rattle.proto_meaning.specs.trees.Meaning.{item_step, node, node_step, statement}
use Rattle.proto_meaning.specs.declared.tree.BodyTree.{BodyTree}
use Rattle.proto_meaning.specs.declared.tree.BodyTree.TheVariants as body
use Rattle.proto_meaning.specs.declared.tree.ItemTree.{ItemTree}
use Rattle.proto_meaning.specs.declared.tree.ItemTree.TheOpen.{NodeTree-F}
use Rattle.proto_meaning.specs.declared.tree.NodeTree.{NodeTree, fold-roll-NodeTree, out-NodeTree, roll-NodeTree, roll-out-NodeTree}
use Rattle.proto_meaning.specs.declared.tree.Word.TheVariants as word
use Rattle.proto_expand.specs.Rows.{RootSized, bare_in, is_bare_of, look_along, number_between, row_len}

-- ---- room

-- one thing takes one of all, or is too much
abbrev Spends : Room → Result Room ExpandFault → Type 0
Spends r (Ok l) = l.all + 1 ≡ r.all
Spends r (Err e) = e ≡ fault TooLarge 0

spent : (r l : Room) (a b c d : Bool) → l.all ≡ r.all - 1 → nat_lt r.all 1 ≡ d → Spends r (if a then (if b then (if c && not d then Ok l else too_large) else too_large) else too_large)
spent r l true true true true e is = refl
spent r l true true true false e is = omega (arith, e, ltb-false r.all 1 is)
spent r l true true false d e is = refl
spent r l true false c d e is = refl
spent r l false b c d e is = refl

one_spent : (m : Met) (r : Room) → Spends r (spend m r)
one_spent m r =
    spent r (record { nodes = r.nodes - nodes_met m; instances = r.instances - instances_met m; items = r.items - items_met m; all = r.all - 1 })
    (has_room m) (not (nat_lt r.nodes (nodes_met m)) && not (nat_lt r.instances (instances_met m))) (not (nat_lt r.items (items_met m))) (nat_lt r.all 1) refl refl

fold_from : (f : Met → ℕ) (a : ℕ) (ms : List Met) → fold (λ b m. b + f m) a ms ≡ a + sum_by f ms
fold_from f a [] = omega arith
fold_from f a (m ∷ ms) = omega (arith, fold_from f (a + f m) ms, fold_from f (0 + f m) ms)

one_more : (m : Met) (ms : List Met) → sum_by all_met (m ∷ ms) ≡ 1 + sum_by all_met ms
one_more m ms = omega (arith, fold_from all_met 1 ms)

-- more than there is room for is too large
over_all : (ms : List Met) (r : Room) → r.all < sum_by all_met ms → spend_all ms r ≡ too_large
over_all [] r h = absurd (omega (arith, h))
over_all (m ∷ ms) r h = by_first (spend m r) (one_spent m r) (λ l e. over_all ms l (omega (arith, h, one_more m ms, e))) where
  by_first : (c : Result Room ExpandFault) → Spends r c → ((l : Room) → l.all + 1 ≡ r.all → spend_all ms l ≡ too_large) → and_see c (spend_all ms) ≡ too_large
  by_first (Ok l) e more = more l e
  by_first (Err x) e more = ap (λ (y : ExpandFault). Err y) e

abbrev IsIn : {X : Type 0} → Result X ExpandFault → Type 0
IsIn (Ok x) = Unit {0}
IsIn (Err e) = ⊥

no_fault : {X P : Type 0} (e : ExpandFault) (x : X) → Err e ≡ Ok x → P
no_fault e x is = absurd (subst IsIn (sym is) tt)

abbrev Is : {X : Type 0} → X → Result X ExpandFault
Is x = Ok x

abbrev kept : {X : Type 0} → X → Result X ExpandFault → X
kept x (Ok y) = y
kept x (Err e) = x

same : {X : Type 0} (x y : X) → Is x ≡ Is y → x ≡ y
same x y is = ap (kept y) is

-- what is left, and what was met, is what there was
left_all : (ms : List Met) (r l : Room) → spend_all ms r ≡ Ok l → l.all + sum_by all_met ms ≡ r.all
left_all [] r l is = omega (arith, ap (λ (x : Room). x.all) (same r l is))
left_all (m ∷ ms) r l is = by_first (spend m r) (one_spent m r) is (λ x e. left_all ms x l e) where
  by_first : (c : Result Room ExpandFault) → Spends r c → and_see c (spend_all ms) ≡ Ok l → ((x : Room) → spend_all ms x ≡ Ok l → l.all + sum_by all_met ms ≡ x.all) → l.all + sum_by all_met (m ∷ ms) ≡ r.all
  by_first (Ok x) e is more = omega (arith, e, more x is, one_more m ms)
  by_first (Err x) e is more = no_fault x l is

-- ---- what was done

record WasDone {A : Type 0} (m : Does A) (a : A) (s t : State) : Type 0 where
  met : List Met
  was : m s.walk ≡ record { met = met; comes = Ok (a, t.walk) }
  all : t.room.all + sum_by all_met met ≡ s.room.all

was_done : {A : Type 0} (m : Does A) (a : A) (s t : State) → doing m s ≡ Ok (a, t) → WasDone m a s t
was_done {A} m a s t is = by_parts (spend_all (m s.walk).met s.room) (m s.walk).comes refl refl is where
  by_parts : (c : Result Room ExpandFault) (d : Result (A × Walk) ExpandFault) → spend_all (m s.walk).met s.room ≡ c → (m s.walk).comes ≡ d → and_see (and_see c (λ left. and_see d (beside left))) onward ≡ Ok (a, t) → WasDone m a s t
  by_parts (Ok left) (Ok p) spent comes is =
      let e : (p.0, record { room = left; walk = p.1 }) ≡ (a, t) = same (p.0, record { room = left; walk = p.1 }) (a, t) is in
      let walks : p ≡ (a, t.walk) = ap (λ (x : A × State). (x.0, x.1.walk)) e in
      record {
        met = (m s.walk).met;
        was = ap (λ c. record { met = (m s.walk).met; comes = c }) (comes ∙ ap (λ q. Ok q) walks);
        all = ap (λ (x : A × State). x.1.room.all + sum_by all_met (m s.walk).met) (sym e) ∙ left_all (m s.walk).met s.room left spent;
      }
  by_parts (Ok left) (Err e) spent comes is = no_fault e (a, t) is
  by_parts (Err e) d spent comes is = no_fault e (a, t) is

-- behind it nothing else was done
before_pure : {A B : Type 0} (m : Does A) (f : A → B) (b : B) (s t : State) → doing (m >>= λ a. pure (f a)) s ≡ Ok (b, t) → (a : A) × (doing m s ≡ Ok (a, t))
before_pure {A} {B} m f b s t is = by_first (doing m s) refl (sym (parts_settle_in_turn m (λ a. pure (f a)) s) ∙ is) where
  by_first : (c : Result (A × State) ExpandFault) → doing m s ≡ c → and_see c (λ p. doing (pure (f p.0)) p.1) ≡ Ok (b, t) → (a : A) × (doing m s ≡ Ok (a, t))
  by_first (Ok p) e is = (p.0, e ∙ ap (λ (u : State). Ok (p.0, u)) (ap (λ (x : B × State). x.1) (same (f p.0, p.1) (b, t) is)))
  by_first (Err x) e is = no_fault x (b, t) is

root_done : (ps : List Prototype) (n : NodeTree) (roots more : List ℕ) (s t : State) → doing (add_root (statement ps (body.Node n)) roots) s ≡ Ok (more, t) → (number : ℕ) × WasDone (node ps n).does number s t
unfolding flat.statement_step
root_done ps n roots more s t is =
    let numbers = before_pure ((node ps n).does >>= λ k. pure (k ∷ [])) (λ ns. roots ++ ns) more s t is in
    let number = before_pure (node ps n).does (λ k. k ∷ []) numbers.0 s t numbers.1 in
    (number.0, was_done (node ps n).does number.0 s t number.1)

-- ---- one such instance

record IsBare (ps : List Prototype) (n : NodeTree) (number : ℕ) : Type 0 where
  line : ℕ
  name : Option Name
  does : (node ps n).does ≡ full_node line name [] (option_map OfProto (slice_get ps number))

some_same : {X : Type 0} (x y : X) → Some x ≡ Some y → x ≡ y
some_same {X} x y is = ap (λ (o : Option X). option_map_or (λ z. z) o x) is

no_none : {X P : Type 0} (x : X) → None ≡ Some x → P
no_none {X} x is = absurd (subst IsNot is tt) where
  IsNot : Option X → Type 0
  IsNot None = Unit {0}
  IsNot (Some y) = ⊥

is_bare : (ps : List Prototype) (n : NodeTree) (number : ℕ) → bare_in n ≡ Some number → IsBare ps n number
unfolding node_step
is_bare ps n number is = by_out (out-NodeTree n) refl is where
  by_out : (y : NodeTree-F ItemTree NodeTree) → out-NodeTree n ≡ y → number_between y ≡ Some number → IsBare ps n number
  by_out (NodeTree-F.Full line name (word.Instance k) []) e is = record {
    line = line;
    name = name.now;
    does = ap (λ (x : Node). x.does) (ap (node ps) (sym (roll-out-NodeTree n) ∙ ap (λ y. roll-NodeTree y) e) ∙ fold-roll-NodeTree Item Node (item_step ps) (node_step ps) (NodeTree-F.Full line name (word.Instance k) []))
        ∙ ap (λ j. full_node line name.now [] (option_map OfProto (slice_get ps j))) (some_same k number is);
  }
  by_out (NodeTree-F.Full line name (word.Node t) []) e is = no_none number is
  by_out (NodeTree-F.Full line name word.Unknown []) e is = no_none number is
  by_out (NodeTree-F.Full line name w (i ∷ items)) e is = no_none number is
  by_out (NodeTree-F.Use line name) e is = no_none number is

-- ---- a row

module _ (ps : List Prototype) (number : ℕ) (p : Prototype) (means : slice_get ps number ≡ Some p) (sized : IsSized p) (met : List Met) (was : MetIn p met) (s : Sight) where
  abbrev known_of : (n : NodeTree) → IsBare ps n number → Known s
  known_of n b = record {
    node = node ps n;
    line = b.line;
    name = b.name;
    prototype = p;
    does = λ w e. ap (λ (d : Does ℕ). d w) (b.does ∙ ap (λ o. full_node b.line b.name [] (option_map OfProto o)) means);
    sized = sized;
    met = met;
    was = was;
  }

  -- those that stand in the row, and what stands behind it
  record Row (trees : List BodyTree) : Type 0 where
    known : List (Known s)
    rest : List Stated
    parts : map (statement ps) trees ≡ map stated_of known ++ rest
    count : length known ≡ prefix_len (is_bare_of number) trees
    mets : mets known ≡ times (length known) met

  ends_here : (x : BodyTree) (trees : List BodyTree) → is_bare_of number x ≡ false → Row (x ∷ trees)
  ends_here x trees e = record {
    known = [];
    rest = map (statement ps) (x ∷ trees);
    parts = refl;
    count = ap (λ b. cond b (1 + prefix_len (is_bare_of number) trees) 0) (sym e);
    mets = refl;
  }

  one_counted : (b : Bool) (k m : ℕ) → b ≡ true → k ≡ m → suc k ≡ cond b (1 + m) 0
  one_counted true k m e h = omega (arith, h)
  one_counted false k m e h = absurd (subst (λ b. cond b ⊥ (Unit {0})) e tt)

  goes_on : (n : NodeTree) (trees : List BodyTree) → is_bare_of number (body.Node n) ≡ true → IsBare ps n number → Row trees → Row (body.Node n ∷ trees)
  goes_on n trees e b row = record {
    known = known_of n b ∷ row.known;
    rest = row.rest;
    parts = ap (λ xs. statement ps (body.Node n) ∷ xs) row.parts;
    count = one_counted (is_bare_of number (body.Node n)) (length row.known) (prefix_len (is_bare_of number) trees) e row.count;
    mets = ap (λ ms. met ++ ms) row.mets;
  }

  numbered : (o : Option ℕ) → option_map_or (λ found. nat_eq found number) o false ≡ true → o ≡ Some number
  numbered None e = absurd (true_is_not e) where
    true_is_not : false ≡ true → ⊥
    true_is_not is = absurd (subst (λ b. cond b ⊥ (Unit {0})) is tt)
  numbered (Some k) e = ap (λ j. Some j) (eqb-true k number e)

  row_of : (trees : List BodyTree) → Row trees
  row_of [] = record { known = []; rest = []; parts = refl; count = refl; mets = refl }
  row_of (body.Node n ∷ trees) = by_test (is_bare_of number (body.Node n)) refl (row_of trees) where
    by_test : (b : Bool) → is_bare_of number (body.Node n) ≡ b → Row trees → Row (body.Node n ∷ trees)
    by_test true e row = goes_on n trees e (is_bare ps n number (numbered (bare_in n) e)) row
    by_test false e row = ends_here (body.Node n) trees e
  row_of (body.Route r ∷ trees) = ends_here (body.Route r) trees refl
  row_of (body.Wrong e ∷ trees) = ends_here (body.Wrong e) trees refl

begins_over : {A : Type 0} (ms : List Met) (o : Outcome (A × Walk)) (r : Room) → spend_all ms r ≡ too_large → and_see (settle (behind ms o) r) onward ≡ too_large
begins_over ms o r h =
    ap (λ x. and_see x onward) (settle-then (record { met = ms; comes = Ok (tt {0}) }) (λ _. o) r)
    ∙ ap (λ x. and_see (and_see (and_see {Y = Unit {0} × Room} x (λ left. beside left (tt {0}))) (λ p. settle o p.1)) onward) h

flooded : (ps : List Prototype) (number : ℕ) (p : Prototype) → slice_get ps number ≡ Some p → IsSized p → (met : List Met) → MetIn p met → (trees : List BodyTree) (roots : List ℕ) (t : State)
    → t.room.all < prefix_len (is_bare_of number) trees * sum_by all_met met → doing (through add_root (map (statement ps) trees) roots) t ≡ too_large
flooded ps number p means sized met was trees roots t over =
    let row = row_of ps number p means sized met was t.walk.sight trees in
    let r = (bare_instances_stand_in_rows t.walk.sight row.known).1 row.rest roots t.walk refl in
    let sum : sum_by all_met (mets row.known) ≡ prefix_len (is_bare_of number) trees * sum_by all_met met = ap (sum_by all_met) row.mets ∙ (rows_are_sums all_met t.walk.sight row.known (length row.known) met).1 ∙ ap (λ n. n * sum_by all_met met) row.count in
    ap (λ xs. doing (through add_root xs roots) t) row.parts
    ∙ ap (λ o. and_see (settle o t.room) onward) r.3
    ∙ begins_over (mets row.known) (through add_root row.rest r.0 r.1) t.room (over_all (mets row.known) t.room (subst (λ n. t.room.all < n) (sym sum) over))

-- ---- the row that begins there

no_row : {P : Type 0} (left each : ℕ) → nat_lt left (each * (0 - 1)) ≡ true → P
no_row left each h = absurd (omega (arith, ltb-true left (each * (0 - 1)) h))

product : (each count a b : ℕ) → each ≡ a → count ≡ b → each * count ≡ b * a
product each count a b e f = ap (λ k. k * count) e ∙ ap (λ k. a * k) f ∙ mul_comm a b

row_counts : (number : ℕ) (n : NodeTree) (rest : List BodyTree) → bare_in n ≡ Some number → row_len (body.Node n ∷ rest) ≡ 1 + prefix_len (is_bare_of number) rest
row_counts number n rest is =
    ap (λ o. option_map_or (λ k. prefix_len (is_bare_of k) (body.Node n ∷ rest)) o 0) is
    ∙ ap (λ b. cond b (1 + prefix_len (is_bare_of number) rest) 0) (ap (λ o. option_map_or (λ found. nat_eq found number) o false) is ∙ eq-eqb number number refl)

-- the first was put in, and for the others there is no room
module _ (ps : List Prototype) (n : NodeTree) (rest : List BodyTree) (roots more : List ℕ) (s t : State) (number first : ℕ) (bare : bare_in n ≡ Some number) (done : WasDone (node ps n).does first s t) (over : nat_lt t.room.all ((s.room.all - t.room.all) * (row_len (body.Node n ∷ rest) - 1)) ≡ true) where
  too_many : t.room.all < prefix_len (is_bare_of number) rest * sum_by all_met done.met
  too_many =
      let many : (s.room.all - t.room.all) * (row_len (body.Node n ∷ rest) - 1) ≡ prefix_len (is_bare_of number) rest * sum_by all_met done.met = product (s.room.all - t.room.all) (row_len (body.Node n ∷ rest) - 1) (sum_by all_met done.met) (prefix_len (is_bare_of number) rest) (omega (arith, done.all)) (omega (arith, row_counts number n rest bare)) in
      subst (λ k. t.room.all < k) many (ltb-true t.room.all ((s.room.all - t.room.all) * (row_len (body.Node n ∷ rest) - 1)) over)

  abbrev Found : Option Prototype → Type 0
  Found o = slice_get ps number ≡ o → IfSome o IsSized → doing (through add_root (map (statement ps) rest) more) t ≡ too_large

  by_prototype : (o : Option Prototype) → Found o
  by_prototype None means sized =
      let is = is_bare ps n number bare in
      let was : refuse UnknownNode is.line s.walk ≡ record { met = done.met; comes = Ok (first, t.walk) } = ap (λ (d : Does ℕ). d s.walk) (sym (is.does ∙ ap (λ o. full_node is.line is.name [] (option_map OfProto o)) means)) ∙ done.was in
      no_fault (fault UnknownNode is.line) (first, t.walk) (ap (λ (o : Outcome (ℕ × Walk)). o.comes) was)
  by_prototype (Some p) means sized =
      let is = is_bare ps n number bare in
      let was : MetIn p done.met = record {
        line = is.line;
        name = is.name;
        walk = s.walk;
        first = (first, t.walk);
        was = ap (λ (d : Does ℕ). d s.walk) (sym (is.does ∙ ap (λ o. full_node is.line is.name [] (option_map OfProto o)) means)) ∙ done.was;
      } in
      flooded ps number p means sized done.met was rest more t too_many

pub row_floods : (ps : List Prototype) (x : BodyTree) (rest : List BodyTree) (roots more : List ℕ) (s t : State) → RootSized ps x → doing (add_root (statement ps x) roots) s ≡ Ok (more, t)
    → nat_lt t.room.all ((s.room.all - t.room.all) * (row_len (x ∷ rest) - 1)) ≡ true → doing (through add_root (map (statement ps) rest) more) t ≡ too_large
row_floods ps (body.Route r) rest roots more s t sized is over = no_row t.room.all (s.room.all - t.room.all) over
row_floods ps (body.Wrong e) rest roots more s t sized is over = no_row t.room.all (s.room.all - t.room.all) over
row_floods ps (body.Node n) rest roots more s t sized is over = by_number (bare_in n) refl where
  by_number : (o : Option ℕ) → bare_in n ≡ o → doing (through add_root (map (statement ps) rest) more) t ≡ too_large
  by_number None bare =
      no_row t.room.all (s.room.all - t.room.all) (ap (λ o. nat_lt t.room.all ((s.room.all - t.room.all) * (option_map_or (λ k. prefix_len (is_bare_of k) (body.Node n ∷ rest)) o 0 - 1))) (sym bare) ∙ over)
  by_number (Some number) bare =
      let done = root_done ps n roots more s t is in
      by_prototype ps n rest roots more s t number done.0 bare done.1 over (slice_get ps number) refl (subst (λ o. IfSome o (λ k. IfSome (slice_get ps k) IsSized)) bare sized)

-- ---- a look along it

abbrev Fails : Result ℕ ExpandFault → Bool → Type 0
Fails (Ok count) over = Unit {0}
Fails (Err e) over = (over ≡ true) × (e ≡ fault TooLarge 0)

looked : (over : Bool) (count : ℕ) → Fails (if over then too_large else Ok count) over
looked true count = (refl, refl)
looked false count = tt

pub look_fails : (trees : List BodyTree) (before left : ℕ) (e : ExpandFault) → look_along trees before left ≡ Err e
    → (nat_lt left ((before - left) * (row_len trees - 1)) ≡ true) × (e ≡ fault TooLarge 0)
look_fails trees before left e is =
    subst (λ r. Fails r (nat_lt left ((before - left) * (row_len trees - 1)))) is (looked (nat_lt left ((before - left) * (row_len trees - 1))) (row_len trees))
