-- The label of a node that is an end of a route is the name of its braces, and of no others.
use Rattle.std.proofs.Common.{◌≡◌, ℕ, zero, suc, ◌+◌, ◌||◌, ◌<◌, ◌≤◌, Bool, true, false, if◌then◌else◌, List, [], ◌∷◌, ◌++◌, length, map, nat_le, nat_lt, Some, None, refl, sym, subst, ap, ◌∙◌, arith}
use Rattle.std.specs.Prelude.{is_some}
use Rattle.std.specs.List.{AllByRecursion, flat_map, range_with_len}
use Rattle.std.proofs.lemmas.Bool.{le-leb, ltb-false, ltb-true}
use Rattle.std.proofs.lemmas.Slice.Eq.{bytes_eq-Decides}
use Rattle.classic_tree.specs.declared.tree.Document.{Document}
use Rattle.laws_documents.specs.Closings.{Braces, Shown, closings, expected}
use Rattle.laws_documents.specs.Uses.{has_name}
use Rattle.laws_documents.specs.Readings.{read_document}
use Rattle.laws_documents.specs.Routes.{last_from, node_at, nothing_read, steps}
use Rattle.scene_core.specs.declared.scene.Route.{Route}
use Rattle.scene_core.specs.Scene.{SceneView, label_of, name_at}
use Rattle.scene_text.specs.Places.{ends_of, is_named, places, times}
use Rattle.laws_written.proofs.Lists.{all_weaker}
use Rattle.laws_written.specs.Braces.{as_switch, written_as, written_braces, written_name}
use Rattle.laws_written.proofs.Counts.{hits, hits_are, hits_less, hits_own}
use Rattle.laws_written.proofs.Links.{AreOnly, if_one, name_stands, names_in}

-- ---- the ends of routes are named

abbrev pub AreHit : List ℕ → Route → Type 0
AreHit ns r = (1 ≤ hits r.source.node ns) × (1 ≤ hits r.target.node ns)

hit_more : (a b : ℕ) (ns : List ℕ) (r : Route) → AreHit ns r → AreHit (a ∷ b ∷ ns) r
hit_more a b ns r h =
    let s = hits_less r.source.node b ns in
    let t = hits_less r.source.node a (b ∷ ns) in
    let u = hits_less r.target.node b ns in
    let v = hits_less r.target.node a (b ∷ ns) in
    (omega (arith, s, t, h.0), omega (arith, u, v, h.1))

pub all_hit : (routes : List Route) → AllByRecursion (AreHit (flat_map ends_of routes)) routes
all_hit [] = tt
all_hit (r ∷ rs) =
    let rest = flat_map ends_of rs in
    let source = hits_own r.source.node (r.target.node ∷ rest) in
    let target = hits_own r.target.node rest in
    let more = hits_less r.target.node r.source.node (r.target.node ∷ rest) in (
      (omega (arith, source), omega (arith, target, more)),
      all_weaker (AreHit rest) (AreHit (r.source.node ∷ r.target.node ∷ rest)) (λ x h. hit_more r.source.node r.target.node rest x h) rs (all_hit rs),
    )

or_middle : (a b c : Bool) → b ≡ true → (a || (b || c)) ≡ true
or_middle true b c e = refl
or_middle false true c e = refl
or_middle false false c e = absurd cc

pub hit_named : (s : SceneView) (routes : List Route) (n : ℕ) → 1 ≤ hits n (flat_map ends_of routes) → is_named s routes n ≡ true
hit_named s routes n h =
    or_middle (is_some (name_at s n)) (nat_le 1 (times n (flat_map ends_of routes))) (nat_le 2 (times n (places s)))
    (le-leb 1 (times n (flat_map ends_of routes)) (subst (λ (k : ℕ). 1 ≤ k) (hits_are n (flat_map ends_of routes)) h))

-- ---- the braces of a written scene

module _ (s : SceneView) (routes : List Route) (n : ℕ) where
  abbrev name : List ℕ
  name = label_of s n

  abbrev OnlyShown : ℕ → List Shown → Type 0
  OnlyShown at [] = Unit {0}
  OnlyShown at (x ∷ xs) = (has_name name x.1 ≡ true → at ≡ n) × OnlyShown (at + 1) xs

  abbrev names_shown : List Shown → ℕ
  names_shown [] = 0
  names_shown (x ∷ xs) = if_one (has_name name x.1) + names_shown xs

  only_from : (at : ℕ) (bs : List Braces) → OnlyShown at (map expected bs) → AreOnly name n at bs
  only_from at [] h = tt
  only_from at (b ∷ bs) h = (h.0, only_from (at + 1) bs h.1)

  names_from : (bs : List Braces) → names_in name n bs ≡ names_shown (map expected bs)
  names_from [] = refl
  names_from (b ∷ bs) = ap (λ (k : ℕ). if_one (has_name name b.name) + k) (names_from bs)

  only_both : (at : ℕ) (xs ys : List Shown) → OnlyShown at xs → OnlyShown (at + length xs) ys → OnlyShown at (xs ++ ys)
  only_both at [] ys h k = let e : at + 0 ≡ at = omega arith in subst (λ (i : ℕ). OnlyShown i ys) e k
  only_both at (x ∷ xs) ys h k =
      let e : at + length (x ∷ xs) ≡ at + 1 + length xs = omega arith in
      (h.0, only_both (at + 1) xs ys h.1 (subst (λ (i : ℕ). OnlyShown i ys) e k))

  first_there : (xs ys : List Shown) → 1 ≤ names_shown xs → 1 ≤ names_shown (xs ++ ys)
  first_there [] ys h = absurd omega (arith, h)
  first_there (x ∷ xs) ys h = by_first (has_name name x.1) h (λ k. first_there xs ys k) where
    by_first : (b : Bool) → 1 ≤ if_one b + names_shown xs → (1 ≤ names_shown xs → 1 ≤ names_shown (xs ++ ys)) → 1 ≤ if_one b + names_shown (xs ++ ys)
    by_first true l k = omega arith
    by_first false l k = let rest : 1 ≤ names_shown xs = omega (arith, l) in let all = k rest in omega (arith, all)

  switch_only : (at : ℕ) (helpers : List ℕ) → OnlyShown at (as_switch helpers)
  switch_only at [] = tt
  switch_only at (h ∷ hs) = ((λ e. absurd cc), tt)

  module _ (distinct : (m : ℕ) → m < length s.nodes → label_of s m ≡ name → m ≡ n) where
    one_only : (m : ℕ) → m < length s.nodes → (b : Bool) → has_name name (if b then Some (label_of s m) else None) ≡ true → m ≡ n
    one_only m l true e = distinct m l ((bytes_eq-Decides (label_of s m) name).0 e)
    one_only m l false e = absurd cc

    range_only : (from many : ℕ) → from + many ≡ length s.nodes → OnlyShown from (map (written_as s routes) (range_with_len from many))
    range_only from zero e = tt
    range_only from (suc many) e = (one_only from (omega (arith, e)) (is_named s routes from), range_only (from + 1) many (omega (arith, e)))

    written_only : OnlyShown 0 (written_braces s routes)
    written_only =
        only_both 0 (map (written_as s routes) (range_with_len 0 (length s.nodes))) (as_switch s.helpers)
        (range_only 0 (length s.nodes) (omega arith)) (switch_only (0 + length (map (written_as s routes) (range_with_len 0 (length s.nodes)))) s.helpers)

    module _ (named : is_named s routes n ≡ true) where
      own_name : (m : ℕ) → m ≡ n → if_one (has_name name (written_name s routes m)) ≡ 1
      own_name m e =
          ap (λ (k : ℕ). if_one (has_name name (written_name s routes k))) e
          ∙ ap (λ (b : Bool). if_one (has_name name (if b then Some name else None))) named
          ∙ ap if_one ((bytes_eq-Decides name name).1 refl)

      range_there : (from many : ℕ) → from ≤ n → n < from + many → 1 ≤ names_shown (map (written_as s routes) (range_with_len from many))
      range_there from zero l k = absurd (omega (arith, l, k))
      range_there from (suc many) l k = by_place (nat_lt from n) refl (λ h. range_there (from + 1) many h (omega (arith, k))) where
        by_place : (b : Bool) → nat_lt from n ≡ b → (from + 1 ≤ n → 1 ≤ names_shown (map (written_as s routes) (range_with_len (from + 1) many)))
            → 1 ≤ if_one (has_name name (written_name s routes from)) + names_shown (map (written_as s routes) (range_with_len (from + 1) many))
        by_place true e rest =
            let less = ltb-true from n e in
            let next : from + 1 ≤ n = omega (arith, less) in
            let there = rest next in
            omega (arith, there)
        by_place false e rest =
            let past = ltb-false from n e in
            let same : from ≡ n = omega (arith, past, l) in
            let one = own_name from same in
            omega (arith, one)

      pub label_stands : (d : Document) → map expected (closings d) ≡ written_braces s routes → n < length s.nodes → node_at (read_document steps d nothing_read).opened (last_from 0 name (read_document steps d nothing_read).opened) ≡ Some n
      label_stands d closes l =
          let low : 0 ≤ n = omega arith in
          let high : n < 0 + length s.nodes = omega (arith, l) in
          let there = first_there (map (written_as s routes) (range_with_len 0 (length s.nodes))) (as_switch s.helpers) (range_there 0 (length s.nodes) low high) in
          name_stands name n d (only_from 0 (closings d) (subst (OnlyShown 0) (sym closes) written_only))
          (subst (λ (k : ℕ). 1 ≤ k) (sym (names_from (closings d) ∙ ap names_shown closes)) there)
