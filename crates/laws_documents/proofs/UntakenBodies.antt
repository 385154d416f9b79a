-- Statements of a body and default values of an interface come to the same with other values where no
-- IS takes them.
use Rattle.std.proofs.Common.{◌≡◌, ℕ, Bool, true, false, if◌then◌else◌, List, [], ◌∷◌, ◌++◌, Some, None, Result, Ok, Err, map, refl, ap, sym, ◌∙◌, subst}
use Rattle.std.specs.Prelude.{◌&&◌, is_none}
use Rattle.std.specs.List.{AllByRecursion}
use Rattle.x3d_values.specs.Names.{node_type_named}
use Rattle.classic_tree.specs.declared.tree.Declaration.{Declaration}
use Rattle.classic_tree.specs.declared.tree.Given.{Given}
use Rattle.classic_tree.specs.declared.tree.Given.TheVariants as given
use Rattle.classic_tree.specs.declared.tree.NodeText.{NodeText}
use Rattle.classic_tree.specs.declared.tree.RawValue.TheVariants as value
use Rattle.classic_tree.specs.declared.tree.Statement.TheVariants as statement_text
use Rattle.classic_tree.proofs.Mapped.{given_mapped, interface_mapped}
use Rattle.proto_flat.specs.declared.fault.ExpandFault.{ExpandFault}
use Rattle.proto_meaning.specs.Limits.{Met, behind, follow, and_then}
use Rattle.proto_meaning.specs.Names.{Name, Filled, value_of}
use Rattle.proto_meaning.specs.Sight.{Sight, Look, Names, and_see}
use Rattle.proto_meaning.specs.Flat.{Walk, Does, ◌>>=◌, comes, pure, Node, Stated, given_sees, leave_out, put_in, in_body, put_default, default, statement_step}
use Rattle.proto_meaning.specs.Flat.{node as node_part}
use Rattle.proto_meaning.proofs.Trees.{statement-node}
use Rattle.proto_meaning.proofs.SightLaw.{Seen, bared, Free, Follows, Any, GoodStated, then_still, each_free}
use Rattle.proto_meaning.proofs.SightWhole.{every_good}
use Rattle.laws_documents.proofs.Same.{Alike, Steady, same_then}
use Rattle.laws_documents.proofs.UntakenGiven.{SameGiven, seen_given, free_given, left_same, left_follows}

-- ---- any two walks

pub everywhere : {A B : Type 0} (m n : Does A) (f g : A → Does B) → ((w : Walk) → n w ≡ m w) → ((a : A) (w : Walk) → g a w ≡ f a w) → (w : Walk) → (n >>= g) w ≡ (m >>= f) w
everywhere {A} {B} m n f g same next w = ap (λ o. and_then o (λ q. g q.0 q.1)) (same w) ∙ on (m w).met (m w).comes where
  on : (met : List Met) (c : Result (A × Walk) ExpandFault) → follow met c (λ q. g q.0 q.1) ≡ follow met c (λ q. f q.0 q.1)
  on met (Ok q) = ap (behind met) (next q.0 q.1)
  on met (Err x) = refl

if_walk : {A : Type 0} (c : Bool) (m n p q : Does A) (w : Walk) → m w ≡ p w → n w ≡ q w → (if c then m else n) w ≡ (if c then p else q) w
if_walk true m n p q w e f = e
if_walk false m n p q w e f = f

-- ---- what a text declares hangs on no IS

free_node : (n : NodeText) → Free (node_part n).sees
unfolding statement_step
free_node n = subst (λ (x : Stated). Free x.1.sees) (statement-node n {p = node_part n} refl) (every_good (statement_text.Node n)).free

nodes_free : (ns : List NodeText) → AllByRecursion (λ (n : Node). Free n.sees) (map node_part ns)
nodes_free [] = tt
nodes_free (n ∷ ns) = (free_node n, nodes_free ns)

pub free_text : (g : Given NodeText) → Free (given_sees (given_mapped node_part g))
free_text given.Nothing s = refl
free_text (given.Is name) s = refl
free_text (given.Value value.Null) s = refl
free_text (given.Value (value.Truth truth)) s = refl
free_text (given.Value (value.String text)) s = refl
free_text (given.Value (value.Numbers numbers)) s = refl
free_text (given.Value (value.Node n)) s = each_free (λ (n : Node). n.sees) (node_part n ∷ []) (free_node n, tt) s
free_text (given.Value value.EmptyList) s = refl
free_text (given.Value (value.TruthList truths)) s = refl
free_text (given.Value (value.StringList texts)) s = refl
free_text (given.Value (value.NumberList numbers)) s = refl
free_text (given.Value (value.NodeList ns)) s = each_free (λ (n : Node). n.sees) (map node_part ns) (nodes_free ns) s

pub aside_bared : (r q : Seen) (names : Names) → bared r ≡ bared q → and_see {Y = Sight} r (λ u. Ok (record u { taken = names })) ≡ and_see q (λ u. Ok (record u { taken = names }))
aside_bared r q names e = again r ∙ ap (λ x. and_see {Y = Sight} x (λ u. Ok (record u { taken = names }))) e ∙ sym (again q) where
  again : (r : Seen) → and_see {Y = Sight} r (λ u. Ok (record u { taken = names })) ≡ and_see (bared r) (λ u. Ok (record u { taken = names }))
  again (Ok u) = refl
  again (Err x) = refl

-- ---- statements

pub record SameStatement (s : Sight) (m n : Stated) : Type 0 where
  pub kind : n.0 ≡ m.0
  pub finds : (own : Name) → node_type_named own ≡ None → (hidden : Bool) → n.1.finds own hidden ≡ m.1.finds own hidden
  pub seen : (t : Sight) → Alike s t → n.1.sees t ≡ m.1.sees t
  pub done : (w : Walk) → Alike s w.sight → n.1.does w ≡ m.1.does w

abbrev pub stated_sees : Stated → Look
stated_sees x = x.1.sees

body_follows : (m : Stated) → GoodStated m → (ns : List ℕ) → Follows Any (in_body m ns) m.1.sees
body_follows m good [] = good.follows
body_follows m good (k ∷ ks) = then_still Any Any m.1.does (λ ns. (λ w. comes (Ok (k ∷ ks, record w { put = record w.put { helpers = w.put.helpers ++ ns } })))) m.1.sees good.follows (λ ns _ w. (tt, refl))

body_same : (s : Sight) (m n : Stated) → SameStatement s m n → (ns : List ℕ) (w : Walk) → Alike s w.sight → in_body n ns w ≡ in_body m ns w
body_same s m n h [] w e = h.done w e
body_same s m n h (k ∷ ks) w e = same_then m.1.does n.1.does (λ ns. (λ v. comes (Ok (k ∷ ks, record v { put = record v.put { helpers = v.put.helpers ++ ns } })))) w (h.done w e)

pub steady_stated : (s : Sight) (m n : Stated) → GoodStated m → SameStatement s m n → Steady stated_sees in_body Any s m n
steady_stated s m n good h = record { free = good.free; follows = λ ns _. body_follows m good ns; seen = h.seen; done = λ ns _ w e. body_same s m n h ns w e }

-- ---- the interface

abbrev pub parts : Declaration NodeText → Declaration Node
parts d = interface_mapped node_part d

abbrev pub default_sees : Declaration Node → Look
default_sees d = given_sees d.given

abbrev as_default : Declaration Node → Given Node → Declaration Node
as_default d g = record d { given = g }

put_follows : (d : Declaration Node) (filled : List Filled) (s : Sight) (g h : Given Node) → SameGiven s g h → Follows Any (put_default d filled g) (given_sees g)
put_follows d filled s given.Nothing h same w = (tt, refl)
put_follows d filled s (given.Is a) h same w = (tt, refl)
put_follows d filled s (given.Value v) given.Nothing same w = absurd same
put_follows d filled s (given.Value v) (given.Is b) same w = absurd same
put_follows d filled s (given.Value v) (given.Value u) same w =
    then_still Any Any (put_in v) (λ r. pure (filled ++ record { line = d.line; name = d.name; number = 0; value = Some r } ∷ [])) (given_sees (given.Value v)) same.follows (λ r _ x. (tt, refl)) w

if_follows : {A : Type 0} (c : Bool) (m n : Does A) (p : Look) → Follows Any m p → Follows Any n p → Follows Any (if c then m else n) p
if_follows true m n p h k = h
if_follows false m n p h k = k

put_same : (d : Declaration Node) (filled : List Filled) (s : Sight) (g h : Given Node) → SameGiven s g h → (w : Walk) → Alike s w.sight → put_default (as_default d h) filled h w ≡ put_default (as_default d g) filled g w
put_same d filled s given.Nothing given.Nothing same w e = refl
put_same d filled s given.Nothing (given.Value u) same w e = absurd same
put_same d filled s given.Nothing (given.Is b) same w e = absurd same
put_same d filled s (given.Value v) given.Nothing same w e = absurd same
put_same d filled s (given.Value v) (given.Is b) same w e = absurd same
put_same d filled s (given.Value v) (given.Value u) same w e = same_then (put_in v) (put_in u) (λ r. pure (filled ++ record { line = d.line; name = d.name; number = 0; value = Some r } ∷ [])) w (same.put w e)
put_same d filled s (given.Is a) given.Nothing same w e = absurd same
put_same d filled s (given.Is a) (given.Value u) same w e = absurd same
put_same d filled s (given.Is a) (given.Is b) same w e = refl

pub steady_default : (takes : Names) (d : Declaration Node) (s : Sight) (h : Given Node) → SameGiven s d.given h → Steady default_sees (default takes) Any s d (as_default d h)
steady_default takes d s h same =
    record {
      free = free_given s d.given h same;
      follows = λ filled _. if_follows (takes d.name && is_none (value_of d.name filled)) (put_default d filled d.given) (leave_out d.given >>= λ _. pure filled) (given_sees d.given)
          (put_follows d filled s d.given h same)
          (then_still Any Any (leave_out d.given) (λ _. pure filled) (given_sees d.given) (left_follows d.given (free_given s d.given h same)) (λ _ _ x. (tt, refl)));
      seen = seen_given s d.given h same;
      done = λ filled _ w e. if_walk (takes d.name && is_none (value_of d.name filled))
          (put_default (as_default d h) filled h) (leave_out h >>= λ _. pure filled)
          (put_default d filled d.given) (leave_out d.given >>= λ _. pure filled) w
          (put_same d filled s d.given h same w e)
          (same_then (leave_out d.given) (leave_out h) (λ _. pure filled) w (left_same s d.given h same w e));
    }

abbrev pub is_ok : Seen → Bool
is_ok (Ok s) = true
is_ok (Err e) = false
