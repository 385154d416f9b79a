-- The nodes of a flat form hold what the text may give them, and there are few of them.
use Rattle.std.proofs.Common.{◌≡◌, ℕ, ◌≤◌, Bool, true, false, if◌then◌else◌, nat_lt, List, [], ◌++◌, length, Result, Ok, Err, map, refl, ap, subst, arith}
use Rattle.std.specs.Prelude.{◌&&◌, not}
use Rattle.std.specs.List.{AllByRecursion, list_all, sum_by}
use Rattle.std.proofs.lemmas.List.{append-nil}
use Rattle.std.proofs.lemmas.Bool.{ltb-false}
use Rattle.classic_tree.specs.declared.tree.Document.{Document}
use Rattle.proto_flat.specs.Fault.{fault}
use Rattle.proto_flat.specs.declared.fault.ExpandFault.{ExpandFault}
use Rattle.proto_flat.specs.declared.fault.ExpandFaultKind.TheVariants.{TooLarge}
use Rattle.proto_flat.specs.declared.flat.Flat.{Flat}
use Rattle.proto_meaning.specs.Limits.{Met, all_met, follow, has_room, instances_met, is_within, items_met, limited, nodes_met}
use Rattle.proto_meaning.specs.Flat.{Walk, ◌>>=◌, Stated, begin, comes, flat, header_of, pure, through}
use Rattle.proto_meaning.specs.Flat.{statement as stated}
use Rattle.laws_documents.proofs.HeldGood.{Any, Asked, Comes, Ends, IsGoodWalk, IsHeld, count, done, ends_then, ends_through}
use Rattle.laws_documents.proofs.HeldParts.{GoodStated}
use Rattle.laws_documents.proofs.HeldProtos.{begin_good}
use Rattle.laws_documents.proofs.Limited.{limited_is, refused}

-- ---- within the limits

within_is : (b c : Bool) (f g : Flat) → (if b then (if c then Err (fault TooLarge 0) else Ok g) else Err (fault TooLarge 0)) ≡ Ok f → b ≡ true
within_is true c f g e = refl
within_is false c f g e = absurd cc

few_is : (b c : Bool) (f g : Flat) → (if b then (if c then Err (fault TooLarge 0) else Ok g) else Err (fault TooLarge 0)) ≡ Ok f → c ≡ false
few_is true true f g e = absurd cc
few_is true false f g e = refl
few_is false c f g e = absurd cc

not_false : (b : Bool) → not b ≡ true → b ≡ false
not_false true e = absurd cc
not_false false e = refl

first_true : (a b c d e : Bool) → a && b && c && d && e ≡ true → a ≡ true
first_true true b c d e h = refl
first_true false b c d e h = absurd cc

few_nodes : (met : List Met) → is_within met ≡ true → sum_by nodes_met met ≤ 65536
few_nodes met e =
    ltb-false 65536 (sum_by nodes_met met)
    (not_false (nat_lt 65536 (sum_by nodes_met met))
    (first_true (not (nat_lt 65536 (sum_by nodes_met met))) (not (nat_lt 8388608 (sum_by instances_met met))) (not (nat_lt 8388608 (sum_by items_met met))) (not (nat_lt 4194304 (sum_by all_met met))) (list_all has_room met) e))

-- ---- a document

module _ (asked : Asked) where
  pub record FlatHolds (f : Flat) : Type 0 where
    pub nodes : AllByRecursion (IsHeld asked) f.nodes
    pub count : length f.nodes ≤ 65536
    pub routes : length f.routes ≤ 65536

  root_does : (s : Stated) (roots : List ℕ) (w : Walk) → GoodStated asked s → IsGoodWalk asked w → Any asked roots → Ends asked (Any asked {A = List ℕ}) (count asked w) ((s.1.does >>= λ ns. pure (roots ++ ns)) w)
  root_does s roots w h g k = ends_then asked (Any asked) (Any asked) (λ ns. pure (roots ++ ns)) (count asked w) (s.1.does w) (h.does w g) (λ ns u i p. done asked (Any asked) (roots ++ ns) [] u i tt)

  abbrev flat_of : Document → List ℕ → Walk → Flat
  flat_of d roots w =
      record {
        header = header_of d;
        nodes = w.put.nodes;
        roots = roots;
        helpers = w.put.helpers;
        routes = w.scope.routes w.scope.braces;
      }

  flat_holds : (d : Document) (f : Flat) (met : List Met) (c : Result (List ℕ × Walk) ExpandFault) → Comes asked (Any asked) 0 met c → limited (follow met c (λ p. comes (Ok (flat_of d p.0 p.1)))) ≡ Ok f → FlatHolds f
  flat_holds d f met (Ok p) h e =
      let g = flat_of d p.0 p.1 in
      let b = is_within (met ++ []) in
      let c = nat_lt 65536 (length g.routes) in
      let few = few_nodes (met ++ []) (within_is b c f g e) in
      let same = ap (sum_by nodes_met) (append-nil met) in
      subst FlatHolds (limited_is b c g f e) (record {
        nodes = h.good.put;
        count = omega (arith, h.grown, few, same);
        routes = ltb-false 65536 (length g.routes) (few_is b c f g e);
      })
  flat_holds d f met (Err x) h e = absurd (refused (is_within met) x f e)

  pub flat_is_held : (d : Document) (f : Flat) → AllByRecursion (GoodStated asked) (map stated d.statements) → flat d ≡ Ok f → FlatHolds f
  unfolding flat
  flat_is_held d f h e =
      let start = begin [] (record { nodes = []; helpers = [] }) in
      let o = through (λ (s : Stated) (roots : List ℕ). s.1.does >>= λ ns. pure (roots ++ ns)) (map stated d.statements) [] start in
      flat_holds d f o.met o.comes
      (ends_through asked (GoodStated asked) (Any asked) (λ (s : Stated) (roots : List ℕ). s.1.does >>= λ ns. pure (roots ++ ns)) root_does (map stated d.statements) [] start h
      (begin_good asked [] (record { nodes = []; helpers = [] }) tt tt) tt) e
