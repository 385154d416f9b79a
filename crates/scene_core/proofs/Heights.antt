-- Chains by heights: a chain of more than d nodes begins where the height is more than d.
use Rattle.std.proofs.Common.{◌≡◌, ℕ, ◌+◌, ◌<◌, ◌≤◌, Bool, true, false, List, [], ◌∷◌, ◌∙◌, ap, sym, zero, suc, refl, arith, map, get_or, subst}
use Rattle.std.specs.Prelude.{min, max, nat_lt, ◌||◌, Option}
use Rattle.std.specs.List.{fold, list_any}
use Rattle.std.proofs.Math.Bool.{or-false, or_assoc}
use Rattle.x3d_values.specs.declared.value.Value.{Value}
use Rattle.scene_core.specs.declared.scene.SceneNode.{SceneNode}
use Rattle.scene_core.specs.Deep.{linked, leads_to, deeper_than, raised, height}

lt-zero : (d : ℕ) → nat_lt d 0 ≡ false
lt-zero d = grind arith

lt-max : (d a b : ℕ) → nat_lt d (max a b) ≡ (nat_lt d a || nat_lt d b)
lt-max d a b = grind arith

-- the flags that heights give
flag : (d : ℕ) (hs : List ℕ) (n : ℕ) → get_or (map (nat_lt d) hs) n false ≡ nat_lt d (get_or hs n 0)
flag d [] n = sym (lt-zero d)
flag d (h ∷ hs) zero = refl
flag d (h ∷ hs) (suc n) = flag d hs n

any-fold : {A : Type 0} (d : ℕ) (f : ℕ → A → ℕ) (p : A → Bool) → ((h : ℕ) (a : A) → nat_lt d (f h a) ≡ (nat_lt d h || p a)) →
    (h : ℕ) (items : List A) → nat_lt d (fold f h items) ≡ (nat_lt d h || list_any p items)
any-fold d f p one h [] = sym (or-false (nat_lt d h))
any-fold d f p one h (a ∷ items) =
    any-fold d f p one (f h a) items ∙ ap (λ b. b || list_any p items) (one h a) ∙ or_assoc (nat_lt d h) (p a) (list_any p items)

-- a node of these flags is in the field
abbrev in_field : List Bool → Option Value → Bool
in_field these value = list_any (λ n. get_or these n false) (linked value)

higher-than : (d : ℕ) (hs : List ℕ) (h n : ℕ) → nat_lt d (max h (get_or hs n 0)) ≡ (nat_lt d h || get_or (map (nat_lt d) hs) n false)
higher-than d hs h n = lt-max d h (get_or hs n 0) ∙ ap (λ b. nat_lt d h || b) (sym (flag d hs n))

raised-over : (d : ℕ) (hs : List ℕ) (h : ℕ) (value : Option Value) → nat_lt d (raised hs h value) ≡ (nat_lt d h || in_field (map (nat_lt d) hs) value)
raised-over d hs h value =
    any-fold d (λ h n. max h (get_or hs n 0)) (λ n. get_or (map (nat_lt d) hs) n false) (higher-than d hs) h (linked value)

one-up : (d g : ℕ) → d < 64 → nat_lt (suc d) (min (g + 1) 65) ≡ nat_lt d g
one-up d g few = grind arith

height-over : (d : ℕ) (hs : List ℕ) (node : SceneNode) → d < 64 → nat_lt (suc d) (height hs node) ≡ leads_to (map (nat_lt d) hs) node
height-over d hs node few =
    one-up d (fold (raised hs) 0 node.values) few ∙ any-fold d (raised hs) (in_field (map (nat_lt d) hs)) (raised-over d hs) 0 node.values ∙
    ap (λ b. b || leads_to (map (nat_lt d) hs) node) (lt-zero d)

some-height : (g : ℕ) → nat_lt 0 (min (g + 1) 65) ≡ true
some-height g = grind arith

over-none : (hs : List ℕ) (nodes : List SceneNode) → map (nat_lt 0) (map (height hs) nodes) ≡ deeper_than nodes 0
unfolding deeper_than
over-none hs [] = refl
over-none hs (node ∷ nodes) = rw (some-height (fold (raised hs) 0 node.values)) (ap (λ (bs : List Bool). true ∷ bs) (over-none hs nodes))

over-more : (d : ℕ) (hs : List ℕ) (nodes : List SceneNode) → d < 64 →
    map (nat_lt (suc d)) (map (height hs) nodes) ≡ map (leads_to (map (nat_lt d) hs)) nodes
over-more d hs [] few = refl
over-more d hs (node ∷ nodes) few = rw (height-over d hs node few, over-more d hs nodes few) refl

-- heights that tell chains apart up to k nodes
abbrev pub Tell : List SceneNode → List ℕ → ℕ → Type 0
Tell nodes hs k = (d : ℕ) → d < k → map (nat_lt d) hs ≡ deeper_than nodes d

pub tell-none : (nodes : List SceneNode) (hs : List ℕ) → Tell nodes hs 0
tell-none nodes hs d few = absurd (omega (arith, few))

tell-next : (nodes : List SceneNode) (hs : List ℕ) (k : ℕ) → Tell nodes hs k → k ≤ 64 → Tell nodes (map (height hs) nodes) (suc k)
unfolding deeper_than
tell-next nodes hs k told most zero few = over-none hs nodes
tell-next nodes hs k told most (suc d) few =
    over-more d hs nodes (omega (arith, few, most)) ∙ ap (λ (bs : List Bool). map (leads_to bs) nodes) (told d (omega (arith, few)))

pub tell-more : (nodes : List SceneNode) (hs given higher : List ℕ) (k : ℕ) → Tell nodes hs k → given ≡ hs → higher ≡ map (height given) nodes → k < 65 → Tell nodes higher (k + 1)
tell-more nodes hs given higher k told is next few =
    let more : suc k ≡ k + 1 = omega arith in
    let made : map (height hs) nodes ≡ higher = ap (λ (these : List ℕ). map (height these) nodes) (sym is) ∙ sym next in
    subst (Tell nodes higher) more
    (subst (λ (these : List ℕ). Tell nodes these (suc k)) made (tell-next nodes hs k told (omega (arith, few))))

-- heights that tell themselves again tell all chains
tell-fixed : (nodes : List SceneNode) (hs : List ℕ) → map (height hs) nodes ≡ hs → (k : ℕ) → k ≤ 65 → Tell nodes hs k
tell-fixed nodes hs same zero few = tell-none nodes hs
tell-fixed nodes hs same (suc k) few =
    subst (λ (these : List ℕ). Tell nodes these (suc k)) same
    (tell-next nodes hs k (tell-fixed nodes hs same k (omega (arith, few))) (omega (arith, few)))

pub tell-all : (nodes : List SceneNode) (hs : List ℕ) (k : ℕ) → Tell nodes hs k → 65 ≤ k → map (nat_lt 64) hs ≡ deeper_than nodes 64
tell-all nodes hs k told end = told 64 (omega (arith, end))

pub tell-done : (nodes : List SceneNode) (hs given higher : List ℕ) → given ≡ hs → higher ≡ map (height given) nodes → higher ≡ hs → map (nat_lt 64) hs ≡ deeper_than nodes 64
tell-done nodes hs given higher is next same =
    let made : map (height hs) nodes ≡ hs = ap (λ (these : List ℕ). map (height these) nodes) (sym is) ∙ sym next ∙ same in
    tell-all nodes hs 65 (tell-fixed nodes hs made 65 (omega arith)) (omega arith)

-- a chain is too long where a height is
any-mapped : (hs : List ℕ) → list_any (λ b. b) (map (nat_lt 64) hs) ≡ list_any (nat_lt 64) hs
any-mapped [] = refl
any-mapped (h ∷ hs) = ap (λ b. nat_lt 64 h || b) (any-mapped hs)

pub too-deep : (hs : List ℕ) (these : List Bool) → map (nat_lt 64) hs ≡ these → list_any (nat_lt 64) hs ≡ list_any (λ b. b) these
too-deep hs these told = sym (any-mapped hs) ∙ ap (list_any (λ b. b)) told
