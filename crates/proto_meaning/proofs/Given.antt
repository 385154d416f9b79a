-- What fields are given: the tree does what the text does.
use Rattle.std.proofs.Common.{◌≡◌, ℕ, Bool, true, false, List, [], ◌∷◌, ◌++◌, Option, Some, None, Result, Ok, Err, map, refl, ap, sym, ◌∙◌, subst, ◌||◌, true≢false}
use Rattle.std.proofs.Math.Path.{fun_ext}
use Rattle.std.specs.Prelude.{if◌then◌else◌, length}
use Rattle.std.specs.Borrow.{Bor}
use Rattle.std.specs.List.{AllByRecursion, find}
use Rattle.std.specs.Str.{bytes_eq}
use Rattle.x3d_values.specs.Access.{is_initial}
use Rattle.classic_tree.specs.declared.tree.Given.{Given}
use Rattle.classic_tree.specs.declared.tree.Given.TheVariants as given
use Rattle.classic_tree.specs.declared.tree.NodeText.{NodeText}
use Rattle.classic_tree.specs.declared.tree.RawValue.{RawValue}
use Rattle.classic_tree.specs.declared.tree.RawValue.TheVariants as value
use Rattle.classic_tree.proofs.Mapped.{given_mapped}
use Rattle.proto_flat.specs.declared.fault.ExpandFault.{ExpandFault}
use Rattle.proto_flat.specs.declared.fault.ExpandFaultKind.TheVariants.{BadIs, FieldTwice, UnknownField}
use Rattle.proto_meaning.specs.Limits.{item_count}
use Rattle.proto_meaning.specs.Names.{Name, Field, value_of}
use Rattle.proto_meaning.specs.Sight as sight
use Rattle.proto_meaning.specs.Sight.{Sight, Look, Owner, OfType, OfProto, and_see, each, aside, no_names, nodes_in, taken_by, is_kept}
use Rattle.proto_meaning.specs.Flat as flat
use Rattle.proto_meaning.specs.Flat.{Does, ◌>>=◌, pure, refuse, see, through, put_in, leave_out, Node, Inside, give, give_is, join, fits, fill, met_field, is_node}
use Rattle.proto_meaning.proofs.SightLaw.{Any, Free, GoodNode, Follows, bared, each_free, aside_free, then_still}
use Rattle.proto_meaning.specs.trees.Given.{GivenTree}
use Rattle.proto_meaning.specs.declared.tree.GivenTree.TheVariants as tree
use Rattle.proto_meaning.specs.trees.Values.{left_by, plain, value_at}
use Rattle.proto_meaning.specs.trees.Meaning.{holds, gives}
use Rattle.proto_meaning.specs.trees.Resolved.{Seen, given_sees, wrong_in, is_plain, taking}
use Rattle.proto_meaning.proofs.Same.{Same, never, in_bared, same_then, same_first, same_last, same_seen, same_wrong, same_if, same_chosen, same_other}
use Rattle.proto_meaning.proofs.Good.{every_given}

-- ---- nodes in a value

abbrev pub put_next : Node → List ℕ → Does (List ℕ)
put_next n ns = n.does >>= λ k. pure (ns ++ k ∷ [])

-- a node of the text, and of the tree
pub record NodeSame (s : Sight) (m n : Node) (r : Seen) : Type 0 where
  pub sees : m.sees s ≡ r
  pub does : Same s m.does n.does

pub record NodesSame (s : Sight) (ms ns : List Node) (r : Seen) : Type 0 where
  pub sees : each (λ (n : Node). n.sees) ms s ≡ r
  pub does : (so_far : List ℕ) → Same s (through put_next ms so_far) (through put_next ns so_far)

pub no_nodes_same : (s : Sight) → NodesSame s [] [] (Ok s)
no_nodes_same s = record { sees = refl; does = λ so_far w e. refl }

put_next_same : (s : Sight) (m n : Node) (so_far : List ℕ) → Same s m.does n.does → Same s (put_next m so_far) (put_next n so_far)
put_next_same s m n so_far h = same_last m.does n.does (λ k. pure (so_far ++ k ∷ [])) (λ k. pure (so_far ++ k ∷ [])) s h (λ k v. refl)

pub put_next_follows : (m : Node) (so_far : List ℕ) → GoodNode m → Follows Any (put_next m so_far) m.sees
put_next_follows m so_far h = then_still Any Any m.does (λ k. pure (so_far ++ k ∷ [])) m.sees h.follows (λ k _ v. (tt, refl))

pub next_nodes_same : (s u : Sight) (m n : Node) (ms ns : List Node) (r : Seen) → GoodNode m → NodeSame s m n (Ok u) → NodesSame u ms ns r → NodesSame s (m ∷ ms) (n ∷ ns) r
next_nodes_same s u m n ms ns r good h rest =
    record {
      sees = ap (λ x. and_see x (each (λ (k : Node). k.sees) ms)) h.sees ∙ rest.sees;
      does = λ so_far. same_then Any (put_next m so_far) (put_next n so_far) (through put_next ms) (through put_next ns) m.sees s (Ok u) good.free (put_next_follows m so_far good) (ap bared h.sees)
          (put_next_same s m n so_far h.does) (λ t e a _. subst (λ x. Same x (through put_next ms a) (through put_next ns a)) (in_bared u t e) (rest.does a));
    }

pub last_nodes_same : (s : Sight) (m n : Node) (ms : List Node) (e : ExpandFault) → GoodNode m → NodeSame s m n (Err e) → NodesSame s (m ∷ ms) (n ∷ []) (Err e)
last_nodes_same s m n ms e good h =
    record {
      sees = ap (λ x. and_see x (each (λ (k : Node). k.sees) ms)) h.sees;
      does = λ so_far. same_then Any (put_next m so_far) (put_next n so_far) (through put_next ms) (through put_next []) m.sees s (Err e) good.free (put_next_follows m so_far good) (ap bared h.sees)
          (put_next_same s m n so_far h.does) (λ t x a _. never t e x);
    }

-- ---- what the text and the tree are given

pub record GivenSame (kept : Bool) (s : Sight) (g : Given Node) (t : GivenTree Node) (r : Seen) : Type 0 where
  pub sees : (if kept then flat.given_sees g else aside (flat.given_sees g)) s ≡ r
  pub does : (line : ℕ) (f : ℕ × Field) (twice : Bool) (i : Inside) → is_kept (taken_by (Some i.owner)) f.1.name ≡ kept → Same s (give line f twice g i) (gives line f twice t i)

abbrev no_value : Given Node
no_value = given.Nothing

abbrev is_named : Name → Given Node
is_named name = given.Is name

pub nothing_same : (kept : Bool) (s : Sight) → GivenSame kept s given.Nothing tree.Nothing (Ok s)
nothing_same kept s = record { sees = by_kept kept; does = λ line f twice i _. same_if s twice (refuse FieldTwice line) (refuse FieldTwice line) (met_field i.owner f.0 0 >>= λ _. pure (fill line f i None)) (met_field i.owner f.0 0 >>= λ _. pure (fill line f i None)) (λ w e. refl) (λ w e. refl) } where
  by_kept : (kept : Bool) → (if kept then flat.given_sees no_value else aside (flat.given_sees no_value)) s ≡ Ok s
  by_kept true = refl
  by_kept false = refl

is_same_at : (line : ℕ) (f : ℕ × Field) (twice : Bool) (i : Inside) (s : Sight) (o : Option Field) → Same s (give_is line f twice i o) (give_is line f twice i o)
is_same_at line f twice i s None = λ w e. refl
is_same_at line f twice i s (Some outer) =
    same_if s (fits outer f.1) (if twice then refuse FieldTwice line else (λ w. join line f i outer.name (value_of outer.name w.scope.given) w)) (if twice then refuse FieldTwice line else (λ w. join line f i outer.name (value_of outer.name w.scope.given) w)) (refuse BadIs line) (refuse BadIs line)
    (same_if s twice (refuse FieldTwice line) (refuse FieldTwice line) (λ w. join line f i outer.name (value_of outer.name w.scope.given) w) (λ w. join line f i outer.name (value_of outer.name w.scope.given) w) (λ w e. refl) (λ w e. refl)) (λ w e. refl)

pub is_same : (kept : Bool) (name : Bor (List ℕ)) (s : Sight) → GivenSame kept s (given.Is name.now) (tree.Is name) (Ok (taking kept name.now s))
is_same kept name s = record { sees = by_kept kept; does = λ line f twice i _ w e. is_same_at line f twice i s (find (λ o. bytes_eq o.name name.now) w.scope.interface) w e } where
  by_kept : (kept : Bool) → (if kept then flat.given_sees (is_named name.now) else aside (flat.given_sees (is_named name.now))) s ≡ Ok (taking kept name.now s)
  by_kept true = refl
  by_kept false = refl

-- ---- values

abbrev goes_on : ℕ → ℕ × Field → Inside → RawValue Node → Does Inside
goes_on line f i v =
    if is_kept (taken_by (Some i.owner)) f.1.name then (put_in v >>= λ r. pure (fill line f i (Some r)))
    else leave_out (given.Value v) >>= λ _. pure (fill line f i None)

value_same : (line : ℕ) (f : ℕ × Field) (twice : Bool) (i : Inside) (v : RawValue Node) (items : ℕ) (rest : Does Inside) (s : Sight) → met_field i.owner f.0 (item_count v) ≡ met_field i.owner f.0 items → Same s (goes_on line f i v) rest
    → Same s (give line f twice (given.Value v) i) (value_at line f twice items i rest)
value_same line f twice i v items rest s met h =
    same_if s (is_node i.owner || is_initial f.1.access) (if twice then refuse FieldTwice line else flat.give_value line f i v) (if twice then refuse FieldTwice line else met_field i.owner f.0 items >>= λ _. rest) (refuse UnknownField line) (refuse UnknownField line)
    (same_if s twice (refuse FieldTwice line) (refuse FieldTwice line) (flat.give_value line f i v) (met_field i.owner f.0 items >>= λ _. rest) (λ w e. refl)
    (subst (λ (m : Does (Unit {0})). Same s (flat.give_value line f i v) (m >>= λ _. rest)) met
    (same_first Any (met_field i.owner f.0 (item_count v)) (met_field i.owner f.0 (item_count v)) (λ _. goes_on line f i v) (λ _. rest) s (λ w. (tt, refl)) (λ w e. refl) (λ _ _. h)))) (λ w e. refl)

kept_same : (line : ℕ) (f : ℕ × Field) (i : Inside) (v u : RawValue Node) (s : Sight) → is_kept (taken_by (Some i.owner)) f.1.name ≡ true → Same s (put_in v) (put_in u) → Same s (goes_on line f i v) (holds line f i u)
kept_same line f i v u s kept h =
    same_chosen s (is_kept (taken_by (Some i.owner)) f.1.name) (put_in v >>= λ r. pure (fill line f i (Some r))) (leave_out (given.Value v) >>= λ _. pure (fill line f i None)) (holds line f i u) kept
    (same_last (put_in v) (put_in u) (λ r. pure (fill line f i (Some r))) (λ r. pure (fill line f i (Some r))) s h (λ r w. refl))

each_one : {A X E : Type 0} (f : A → X → Result X E) (r : Result X E) → and_see r (each f []) ≡ r
each_one f (Ok x) = refl
each_one f (Err e) = refl

pub one_same : (s : Sight) (m n : Node) (r : Seen) → NodeSame s m n r → GivenSame true s (given.Value (value.Node m)) (tree.One n) r
one_same s m n r h =
    record {
      sees = each_one (λ (k : Node). k.sees) (m.sees s) ∙ h.sees;
      does = λ line f twice i kept. value_same line f twice i (value.Node m) 1 (holds line f i (value.Node n)) s refl (kept_same line f i (value.Node m) (value.Node n) s kept
          (same_last m.does n.does (λ k. pure (value.Node k)) (λ k. pure (value.Node k)) s h.does (λ k w. refl)));
    }

pub many_same : (s : Sight) (count : ℕ) (ms ns : List Node) (r : Seen) → length ms ≡ count → NodesSame s ms ns r → GivenSame true s (given.Value (value.NodeList ms)) (tree.Many count ns) r
many_same s count ms ns r e h =
    record {
      sees = h.sees;
      does = λ line f twice i kept. value_same line f twice i (value.NodeList ms) count (holds line f i (value.NodeList ns)) s (ap (met_field i.owner f.0) e) (kept_same line f i (value.NodeList ms) (value.NodeList ns) s kept
          (same_last (through put_next ms []) (through put_next ns []) (λ ks. pure (value.NodeList ks)) (λ ks. pure (value.NodeList ks)) s (h.does []) (λ ks w. refl)));
    }

plain_same_at : (v : Bor (RawValue NodeText)) (x : RawValue Node) (s : Sight) → nodes_in (given.Value x) ≡ [] → item_count x ≡ item_count v.now → Same s (put_in x) (put_in (plain v.now)) → GivenSame true s (given.Value x) (tree.Plain v) (Ok s)
plain_same_at v x s none count h =
    record {
      sees = ap (λ ns. each (λ (k : Node). k.sees) ns s) none;
      does = λ line f twice i kept. value_same line f twice i x (item_count v.now) (holds line f i (plain v.now)) s (ap (met_field i.owner f.0) count) (kept_same line f i x (plain v.now) s kept h);
    }

-- ---- a value that goes nowhere

left_same : (p : Look) (x : Inside) (s : Sight) (r : Seen) → Free p → p s ≡ r → Same s (see p >>= λ _. pure x) (left_by (wrong_in r) >>= λ _. pure x)
left_same p x s (Ok t) free e = same_seen p (λ _. pure x) (left_by None >>= λ _. pure x) s (Ok t) free (ap bared e) (λ u h w k. refl) (λ y h v. never t y (sym h))
left_same p x s (Err y) free e = same_wrong p (λ _. pure x) (left_by (Some y) >>= λ _. pure x) s y free (ap bared e) (λ v. refl)

node_of : (o : Owner) (name : Name) → is_kept (taken_by (Some o)) name ≡ false → is_node o ≡ false
node_of (OfType t) name e = e
node_of (OfProto p) name e = refl

met_alone : (o : Owner) (number a b : ℕ) → is_node o ≡ false → met_field o number a ≡ met_field o number b
met_alone (OfType t) number a b e = absurd (true≢false e)
met_alone (OfProto p) number a b e = refl

all_free : (ns : List Node) → AllByRecursion GoodNode ns → AllByRecursion (λ (n : Node). Free n.sees) ns
all_free [] h = tt
all_free (n ∷ ns) h = (h.0.free, all_free ns h.1)

pub given_free : (g : Given Node) → AllByRecursion GoodNode (nodes_in g) → Free (flat.given_sees g)
given_free g h s =
    each_free (λ (n : Node). n.sees) (nodes_in g) (all_free (nodes_in g) h) (record s { taken = sight.taking g s.taken })
    ∙ sym (each_free (λ (n : Node). n.sees) (nodes_in g) (all_free (nodes_in g) h) (record s { taken = sight.taking g no_names }))

pub left_out_same : (s : Sight) (x : RawValue Node) (r : Seen) → AllByRecursion GoodNode (nodes_in (given.Value x)) → aside (flat.given_sees (given.Value x)) s ≡ r → GivenSame false s (given.Value x) (tree.LeftOut (wrong_in r)) r
left_out_same s x r good e =
    record {
      sees = e;
      does = λ line f twice i kept. value_same line f twice i x 0 (left_by (wrong_in r) >>= λ _. pure (fill line f i None)) s (met_alone i.owner f.0 (item_count x) 0 (node_of i.owner f.1.name kept))
          (same_other s (is_kept (taken_by (Some i.owner)) f.1.name) (put_in x >>= λ r. pure (fill line f i (Some r))) (leave_out (given.Value x) >>= λ _. pure (fill line f i None)) (left_by (wrong_in r) >>= λ _. pure (fill line f i None)) kept
          (left_same (aside (flat.given_sees (given.Value x))) (fill line f i None) s r (aside_free (flat.given_sees (given.Value x)) (given_free (given.Value x) good)) e));
    }

-- ---- by the text itself

and_see-congr : {X Y E : Type 0} (f g : X → Result Y E) → ((x : X) → f x ≡ g x) → (r : Result X E) → and_see r f ≡ and_see r g
and_see-congr f g h (Ok x) = h x
and_see-congr f g h (Err e) = refl

each-map : {A B X E : Type 0} (f : B → X → Result X E) (g : A → B) (xs : List A) (x : X) → each f (map g xs) x ≡ each (λ a. f (g a)) xs x
each-map f g [] x = refl
each-map f g (a ∷ rest) x = and_see-congr (each f (map g rest)) (each (λ a. f (g a)) rest) (λ y. each-map f g rest y) (f (g a) x)

pub sees_given : (g : Given NodeText) (s : Sight) → flat.given_sees (given_mapped flat.node g) s ≡ given_sees g s
sees_given given.Nothing s = refl
sees_given (given.Value value.Null) s = refl
sees_given (given.Value (value.Truth truth)) s = refl
sees_given (given.Value (value.String text)) s = refl
sees_given (given.Value (value.Numbers numbers)) s = refl
sees_given (given.Value (value.Node n)) s = refl
sees_given (given.Value value.EmptyList) s = refl
sees_given (given.Value (value.TruthList truths)) s = refl
sees_given (given.Value (value.StringList texts)) s = refl
sees_given (given.Value (value.NumberList numbers)) s = refl
sees_given (given.Value (value.NodeList ns)) s = each-map (λ (p : Node). p.sees) flat.node ns s
sees_given (given.Is name) s = refl

pub left_out_given : (s : Sight) (v : RawValue NodeText) (r : Seen) → aside (given_sees (given.Value v)) s ≡ r → GivenSame false s (given_mapped flat.node (given.Value v)) (tree.LeftOut (wrong_in r)) r
left_out_given s v r e = left_out_same s _ r (every_given (given.Value v)) (ap (λ (f : Look). aside f s) (fun_ext (λ t. sees_given (given.Value v) t)) ∙ e)

pub plain_same : (v : Bor (RawValue NodeText)) (s : Sight) → is_plain v.now ≡ true → GivenSame true s (given_mapped flat.node (given.Value v.now)) (tree.Plain v) (Ok s)
plain_same v s plainly = by_value v.now refl plainly where
  at : (x : RawValue NodeText) (y : RawValue Node) → x ≡ v.now → nodes_in (given.Value y) ≡ [] → item_count y ≡ item_count x → Same s (put_in y) (put_in (plain x)) → GivenSame true s (given.Value y) (tree.Plain v) (Ok s)
  at x y e none count h = plain_same_at v y s none (count ∙ ap item_count e) (subst (λ z. Same s (put_in y) (put_in (plain z))) e h)

  by_value : (x : RawValue NodeText) → x ≡ v.now → is_plain x ≡ true → GivenSame true s (given_mapped flat.node (given.Value x)) (tree.Plain v) (Ok s)
  by_value value.Null e p = at value.Null value.Null e refl refl (λ w k. refl)
  by_value (value.Truth truth) e p = at (value.Truth truth) (value.Truth truth) e refl refl (λ w k. refl)
  by_value (value.String text) e p = at (value.String text) (value.String text) e refl refl (λ w k. refl)
  by_value (value.Numbers numbers) e p = at (value.Numbers numbers) (value.Numbers numbers) e refl refl (λ w k. refl)
  by_value (value.Node n) e p = absurd (true≢false (sym p))
  by_value value.EmptyList e p = at value.EmptyList value.EmptyList e refl refl (λ w k. refl)
  by_value (value.TruthList truths) e p = at (value.TruthList truths) (value.TruthList truths) e refl refl (λ w k. refl)
  by_value (value.StringList texts) e p = at (value.StringList texts) (value.StringList texts) e refl refl (λ w k. refl)
  by_value (value.NumberList numbers) e p = at (value.NumberList numbers) (value.NumberList numbers) e refl refl (λ w k. refl)
  by_value (value.NodeList ns) e p = absurd (true≢false (sym p))
