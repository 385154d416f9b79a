-- Counts that stop at a bound are those that don't, up to there; and the last ones are the same from wherever the first
-- came, where no chain is too long.
use Rattle.std.proofs.Common.{◌≡◌, ℕ, ◌+◌, ◌-◌, ◌<◌, Bool, true, false, List, [], ◌∷◌, ◌∙◌, ap, sym, zero, suc, refl, arith, map, length, get_or, subst}
use Rattle.std.specs.Prelude.{min, nat_lt, ◌||◌, codes, Option, Some, None, slice_get}
use Rattle.std.specs.List.{list_any, sum_by}
use Rattle.std.specs.Option.{option_and_then}
use Rattle.std.proofs.lemmas.Bool.{true≢false}
use Rattle.std.proofs.lemmas.List.Sums.{sum_by-cons}
use Rattle.x3d_values.specs.declared.table.FieldRow.{FieldRow}
use Rattle.x3d_values.specs.declared.value.Value.{Value}
use Rattle.x3d_values.specs.declared.value.Value.TheVariants.{MFNode}
use Rattle.x3d_values.specs.Tables.{rows, row_named}
use Rattle.scene_core.specs.declared.scene.SceneNode.{SceneNode}
use Rattle.scene_core.specs.Deep.{linked, leads_to, deeper_than, too_deep}
use Rattle.scene_core.specs.Places.{places_below, counted, own_children, children_at, enough}
use Rattle.scene_core.specs.Scene.{nodes_in}

abbrev cap : ℕ → ℕ → ℕ
cap e k = min k e

min-plus : (e a b x : ℕ) → min b e ≡ min x e → min (min a e + b) e ≡ min (a + x) e
min-plus e a b x h = omega arith

capped-sum : (e : ℕ) (f : ℕ → ℕ) (ns : List ℕ) → min (sum_by (λ n. cap e (f n)) ns) e ≡ min (sum_by f ns) e
capped-sum e f [] = refl
capped-sum e f (n ∷ ns) =
    rw (sum_by-cons (λ m. cap e (f m)) n ns, sum_by-cons f n ns) (min-plus e (f n) (sum_by (λ m. cap e (f m)) ns) (sum_by f ns) (capped-sum e f ns))

one-more : (e a b : ℕ) → min a e ≡ min b e → min (1 + min a e) e ≡ min (1 + b) e
one-more e a b h = omega arith

below-enough : (k j : ℕ) → min k 65537 ≡ min j 65537 → nat_lt 65536 (min k 65537) ≡ nat_lt 65536 j
below-enough k j h = rw h (grind arith)

-- ---- of nodes whose chains are not too long

or-left : (a b : Bool) → (a || b) ≡ false → a ≡ false
or-left true b h = h
or-left false b h = refl

or-right : (a b : Bool) → (a || b) ≡ false → b ≡ false
or-right true b h = absurd (true≢false h)
or-right false b h = h

-- the children are among the nodes in the fields
in-value : (p : ℕ → Bool) (value : Option Value) → list_any p (linked value) ≡ false → list_any p (nodes_in value) ≡ false
in-value p None h = refl
in-value p (Some (MFNode ns)) h = h
in-value p (Some _) h = refl

in-values : (p : ℕ → Bool) (values : List (Option Value)) (number : ℕ) → list_any (λ value. list_any p (linked value)) values ≡ false →
    list_any p (nodes_in (option_and_then (λ v. v) (slice_get values number))) ≡ false
in-values p [] number h = refl
in-values p (value ∷ values) zero h = in-value p value (or-left (list_any p (linked value)) _ h)
in-values p (value ∷ values) (suc number) h = in-values p values number (or-right (list_any p (linked value)) _ h)

in-row : (p : ℕ → Bool) (node : SceneNode) (row : Option FieldRow) → list_any (λ value. list_any p (linked value)) node.values ≡ false → list_any p (children_at node row) ≡ false
in-row p node None h = refl
in-row p node (Some row) h = in-values p node.values row.number h

in-children : (p : ℕ → Bool) (node : SceneNode) → list_any (λ value. list_any p (linked value)) node.values ≡ false → list_any p (own_children node) ≡ false
in-children p node h = in-row p node (row_named 0 (codes "children") (rows node.node_type)) h

-- two functions that agree where a flag is not set
same-sums : (these : List Bool) (f g : ℕ → ℕ) → ((n : ℕ) → get_or these n false ≡ false → f n ≡ g n) →
    (ns : List ℕ) → list_any (λ n. get_or these n false) ns ≡ false → sum_by f ns ≡ sum_by g ns
same-sums these f g same [] h = refl
same-sums these f g same (n ∷ ns) h =
    rw (sum_by-cons f n ns, sum_by-cons g n ns, same n (or-left (get_or these n false) _ h), same-sums these f g same ns (or-right (get_or these n false) _ h)) refl

same-maps : {A : Type 0} (b : A → Bool) (f g : A → ℕ) → ((a : A) → b a ≡ false → f a ≡ g a) →
    (items : List A) (n : ℕ) → get_or (map b items) n false ≡ false → get_or (map f items) n 0 ≡ get_or (map g items) n 0
same-maps b f g same [] n h = refl
same-maps b f g same (a ∷ items) zero h = same a h
same-maps b f g same (a ∷ items) (suc n) h = same-maps b f g same items n h

-- the places of a node, by those of the nodes below it
abbrev below : List ℕ → SceneNode → ℕ
below ks node = 1 + sum_by (λ n. get_or ks n 0) (own_children node)

capped-below : (ks : List ℕ) (node : SceneNode) → min (1 + min (sum_by (λ n. cap enough (get_or ks n 0)) (own_children node)) enough) enough ≡ cap enough (below ks node)
capped-below ks node =
    one-more enough (sum_by (λ n. cap enough (get_or ks n 0)) (own_children node)) (sum_by (λ n. get_or ks n 0) (own_children node))
    (capped-sum enough (λ n. get_or ks n 0) (own_children node))

capped-get : (f : SceneNode → ℕ) (nodes : List SceneNode) (n : ℕ) → get_or (map (λ node. cap enough (f node)) nodes) n 0 ≡ cap enough (get_or (map f nodes) n 0)
capped-get f [] n = refl
capped-get f (node ∷ nodes) zero = refl
capped-get f (node ∷ nodes) (suc n) = capped-get f nodes n

-- counts that are right for the nodes that begin no chain of more than d nodes
abbrev pub Count : List SceneNode → List ℕ → ℕ → Type 0
Count nodes counts d = (n : ℕ) → get_or (deeper_than nodes d) n false ≡ false → get_or counts n 0 ≡ cap enough (get_or (places_below nodes d) n 0)

past-none : (nodes : List SceneNode) (counts : List ℕ) → length counts ≡ length nodes → (n : ℕ) → get_or (map (λ (node : SceneNode). true) nodes) n false ≡ false →
    get_or counts n 0 ≡ cap enough (get_or (map (λ (node : SceneNode). 0) nodes) n 0)
past-none [] [] e n h = refl
past-none [] (count ∷ counts) e n h = absurd (omega (arith, e))
past-none (node ∷ nodes) [] e n h = absurd (omega (arith, e))
past-none (node ∷ nodes) (count ∷ counts) e zero h = absurd (true≢false h)
past-none (node ∷ nodes) (count ∷ counts) e (suc n) h = past-none nodes counts (omega (arith, e)) n h

pub count-none : (nodes : List SceneNode) (counts : List ℕ) → length counts ≡ length nodes → Count nodes counts 0
unfolding places_below deeper_than
count-none nodes counts e n h = past-none nodes counts e n h

one-node : (these : List Bool) (counts places : List ℕ) → ((n : ℕ) → get_or these n false ≡ false → get_or counts n 0 ≡ cap enough (get_or places n 0)) →
    (node : SceneNode) → leads_to these node ≡ false → counted counts node ≡ cap enough (below places node)
one-node these counts places right node h =
    let sums : sum_by (λ n. get_or counts n 0) (own_children node) ≡ sum_by (λ n. cap enough (get_or places n 0)) (own_children node) =
    same-sums these (λ n. get_or counts n 0) (λ n. cap enough (get_or places n 0)) right (own_children node) (in-children (λ n. get_or these n false) node h) in
    rw sums (capped-below places node)

count-next : (nodes : List SceneNode) (counts : List ℕ) (d : ℕ) → Count nodes counts d → Count nodes (map (counted counts) nodes) (suc d)
unfolding places_below deeper_than
count-next nodes counts d right n h =
    same-maps (leads_to (deeper_than nodes d)) (counted counts) (λ node. cap enough (below (places_below nodes d) node))
    (one-node (deeper_than nodes d) counts (places_below nodes d) right) nodes n h ∙ capped-get (below (places_below nodes d)) nodes n

pub count-more : (nodes : List SceneNode) (counts given more : List ℕ) (d : ℕ) → Count nodes counts d → given ≡ counts → more ≡ map (counted given) nodes → Count nodes more (d + 1)
count-more nodes counts given more d right is next =
    let level : suc d ≡ d + 1 = omega arith in
    let made : map (counted counts) nodes ≡ more = ap (λ (these : List ℕ). map (counted these) nodes) (sym is) ∙ sym next in
    subst (Count nodes more) level (subst (λ (these : List ℕ). Count nodes these (suc d)) made (count-next nodes counts d right))

count-fixed : (nodes : List SceneNode) (counts : List ℕ) (d : ℕ) → map (counted counts) nodes ≡ counts → Count nodes counts d → (k : ℕ) → Count nodes counts (k + d)
count-fixed nodes counts d same right zero =
    let none : d ≡ 0 + d = omega arith in
    subst (Count nodes counts) none right
count-fixed nodes counts d same right (suc k) =
    let more : suc (k + d) ≡ suc k + d = omega arith in
    subst (Count nodes counts) more
    (subst (λ (these : List ℕ). Count nodes these (suc (k + d))) same (count-next nodes counts (k + d) (count-fixed nodes counts d same right k)))

-- the last counts are right for each node where no chain is too long
none-set : (these : List Bool) → list_any (λ b. b) these ≡ false → (n : ℕ) → get_or these n false ≡ false
none-set [] h n = refl
none-set (b ∷ these) h zero = or-left b _ h
none-set (b ∷ these) h (suc n) = none-set these (or-right b _ h) n

pub count-all : (nodes : List SceneNode) (counts : List ℕ) → too_deep nodes ≡ false → Count nodes counts 64 → (n : ℕ) → get_or counts n 0 ≡ min (get_or (places_below nodes 64) n 0) 65537
count-all nodes counts short right n = right n (none-set (deeper_than nodes 64) short n)

pub count-done : (nodes : List SceneNode) (counts given more : List ℕ) (d : ℕ) → too_deep nodes ≡ false → Count nodes counts d → given ≡ counts →
    more ≡ map (counted given) nodes → more ≡ counts → d < 64 → (n : ℕ) → get_or counts n 0 ≡ min (get_or (places_below nodes 64) n 0) 65537
count-done nodes counts given more d short right is next same few n =
    let made : map (counted counts) nodes ≡ counts = ap (λ (these : List ℕ). map (counted these) nodes) (sym is) ∙ sym next ∙ same in
    let level : 64 - d + d ≡ 64 = omega (arith, few) in
    count-all nodes counts short (subst (Count nodes counts) level (count-fixed nodes counts d made right (64 - d))) n

same-counts : (f g : ℕ → ℕ) → ((n : ℕ) → f n ≡ g n) → (ns : List ℕ) → sum_by f ns ≡ sum_by g ns
same-counts f g same [] = refl
same-counts f g same (n ∷ ns) = rw (sum_by-cons f n ns, sum_by-cons g n ns, same n, same-counts f g same ns) refl

-- the places of a list of nodes, by the counts of each
pub counted-together : (counts places roots : List ℕ) → ((n : ℕ) → get_or counts n 0 ≡ min (get_or places n 0) 65537) →
    nat_lt 65536 (min (sum_by (λ n. get_or counts n 0) roots) 65537) ≡ nat_lt 65536 (sum_by (λ n. get_or places n 0) roots)
counted-together counts places roots right =
    let sums = same-counts (λ n. get_or counts n 0) (λ n. cap 65537 (get_or places n 0)) right roots in
    rw sums (below-enough _ _ (capped-sum 65537 (λ n. get_or places n 0) roots))
