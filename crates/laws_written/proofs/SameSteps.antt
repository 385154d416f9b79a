-- Trees that are made side by side in two ways, where the trees of nodes are the same.
use Rattle.std.proofs.Common.{◌≡◌, ℕ, zero, suc, ◌<◌, Bool, true, List, [], ◌∷◌, ◌++◌, Option, Some, None, get_or, slice_set, refl, sym, ap, ◌∙◌, ◌⊎◌, inl, inr, arith}
use Rattle.std.specs.List.{AllByRecursion, flat_map, fold}
use Rattle.x3d_values.specs.declared.value.Value.{Value}
use Rattle.x3d_values.specs.declared.value.Value.TheVariants.{SFNode, MFNode}
use Rattle.x3d_values.specs.Values.{nodes_of}
use Rattle.classic_tree.specs.declared.tree.BodyItem.TheVariants as item
use Rattle.classic_tree.specs.declared.tree.Given.TheVariants as given
use Rattle.classic_tree.specs.declared.tree.NodeText.{NodeText}
use Rattle.classic_tree.specs.declared.tree.RawValue.TheVariants as raw
use Rattle.classic_tree.specs.declared.tree.Statement.TheVariants as statement
use Rattle.scene_core.specs.Deep.{linked}
use Rattle.scene_text.specs.Statements.{root_tree}
use Rattle.scene_text.specs.Tree.{Declared, Makes, Plain, Shown, Grows, declaration, each, field_tree, given_tree, one_more, value_tree}
use Rattle.laws_written.proofs.NumbersInOrder.{equal}
use Rattle.laws_written.proofs.OrderShown.{links}
use Rattle.laws_written.proofs.Plans.{all_split}

-- ---- nodes that have appeared

set_other : (bs : List Bool) (n m : ℕ) → (m ≡ n → ⊥) → get_or (slice_set bs n true) m true ≡ get_or bs m true
set_other [] n m k = refl
set_other (b ∷ bs) zero zero k = absurd (k refl)
set_other (b ∷ bs) zero (suc m) k = refl
set_other (b ∷ bs) (suc n) zero k = refl
set_other (b ∷ bs) (suc n) (suc m) k = set_other bs n m (λ e. k (ap suc e))

set_own : (bs : List Bool) (n : ℕ) → get_or (slice_set bs n true) n true ≡ true
set_own [] n = refl
set_own (b ∷ bs) zero = refl
set_own (b ∷ bs) (suc n) = set_own bs n

-- the same have appeared of the first so many, and whether the next one has is said
pub record AreAlike (count : ℕ) (last : Bool) (seen other : List Bool) : Type 0 where
  pub nodes : (n : ℕ) → n < count → get_or other n true ≡ get_or seen n true
  pub more : get_or other count true ≡ last

-- what was made is the same
pub record Alike {B : Type 0} (count : ℕ) (last : Bool) (m k : Grows B) : Type 0 where
  pub made : k.made ≡ m.made
  pub seen : AreAlike count last m.seen k.seen

pub set_alike : (count : ℕ) (last : Bool) (seen other : List Bool) (n : ℕ) → n < count → AreAlike count last seen other
    → AreAlike count last (slice_set seen n true) (slice_set other n true)
set_alike count last seen other n low a = record {
  nodes = λ m l. by_place m l (equal m n);
  more = set_other other n count (λ e. omega (arith, e, low)) ∙ a.more;
} where
  by_place : (m : ℕ) → m < count → (m ≡ n) ⊎ (m ≡ n → ⊥) → get_or (slice_set other n true) m true ≡ get_or (slice_set seen n true) m true
  by_place m l (inl e) =
      ap (λ k. get_or (slice_set other n true) k true) e
      ∙ (set_own other n ∙ (sym (set_own seen n) ∙ ap (λ k. get_or (slice_set seen n true) k true) (sym e)))
  by_place m l (inr d) = set_other other n m d ∙ (a.nodes m l ∙ sym (set_other seen n m d))

-- the next one appears
pub last_alike : (count : ℕ) (last : Bool) (seen other : List Bool) → AreAlike count last seen other → AreAlike count true seen (slice_set other count true)
last_alike count last seen other a = record {
  nodes = λ m l. set_other other count m (λ e. omega (arith, e, l)) ∙ a.nodes m l;
  more = set_own other count;
}

-- ---- something of each in turn

module _ (count : ℕ) (last : Bool) where
  module _ {A B : Type 0} (make other : Makes A B) (P : A → Type 0)
      (f : (seen more : List Bool) → AreAlike count last seen more → (x : A) → P x → Alike count last (make seen x) (other more x)) where
    fold_alike : (xs : List A) → AllByRecursion P xs → (s t : Grows (List B)) → Alike count last s t → Alike count last (fold (one_more make) s xs) (fold (one_more other) t xs)
    fold_alike [] h s t a = a
    fold_alike (x ∷ xs) h s t a =
        let b = f s.seen t.seen a.seen x h.0 in
        let both : t.made ++ (other t.seen x).made ∷ [] ≡ s.made ++ (make s.seen x).made ∷ [] =
        ap (λ l. l ++ (other t.seen x).made ∷ []) a.made ∙ ap (λ y. s.made ++ y ∷ []) b.made in
        fold_alike xs h.1 (one_more make s x) (one_more other t x) (record { made = both; seen = b.seen })

    pub each_alike : (xs : List A) → AllByRecursion P xs → (seen more : List Bool) → AreAlike count last seen more → Alike count last (each make seen xs) (each other more xs)
    each_alike xs h seen more a =
        fold_alike xs h (record { seen = seen; made = [] }) (record { seen = more; made = [] }) (record { made = refl; seen = a })

  -- ---- values and fields

  module _ (tree other : Makes ℕ NodeText) (P : ℕ → Type 0)
      (f : (seen more : List Bool) → AreAlike count last seen more → (n : ℕ) → P n → Alike count last (tree seen n) (other more n)) where
    value_alike : (v : Value) → AllByRecursion P (nodes_of v) → (seen more : List Bool) → AreAlike count last seen more
        → Alike count last (value_tree tree seen v) (value_tree other more v)
    value_alike (SFNode (Some n)) h seen more a = let b = f seen more a n h.0 in record { made = ap (λ t. raw.Node t) b.made; seen = b.seen }
    value_alike (MFNode []) h seen more a = record { made = refl; seen = a }
    value_alike (MFNode (n ∷ ns)) h seen more a =
        let b = each_alike tree other P f (n ∷ ns) h seen more a in record { made = ap (λ ts. raw.NodeList ts) b.made; seen = b.seen }
    value_alike v h seen more a = record { made = refl; seen = a }

    given_alike : (o : Option Value) → AllByRecursion P (linked o) → (seen more : List Bool) → AreAlike count last seen more
        → Alike count last (given_tree tree seen o) (given_tree other more o)
    given_alike None h seen more a = record { made = refl; seen = a }
    given_alike (Some v) h seen more a = let b = value_alike v h seen more a in record { made = ap (λ r. given.Value r) b.made; seen = b.seen }

    field_alike : (x : Shown) → AllByRecursion P (links x) → (seen more : List Bool) → AreAlike count last seen more
        → Alike count last (field_tree tree seen x) (field_tree other more x)
    field_alike (Plain name v) h seen more a =
        let b = value_alike v h seen more a in record { made = ap (λ r. item.Field 0 name (given.Value r)) b.made; seen = b.seen }
    field_alike (Declared d held) h seen more a = let b = given_alike held h seen more a in record { made = ap (declaration d) b.made; seen = b.seen }

    apart : (xs : List Shown) → AllByRecursion P (flat_map links xs) → AllByRecursion (λ (x : Shown). AllByRecursion P (links x)) xs
    apart [] h = tt
    apart (x ∷ xs) h = let s = all_split P (links x) (flat_map links xs) h in (s.0, apart xs s.1)

    pub fields_alike : (xs : List Shown) → AllByRecursion P (flat_map links xs) → (seen more : List Bool) → AreAlike count last seen more
        → Alike count last (each (field_tree tree) seen xs) (each (field_tree other) more xs)
    fields_alike xs h seen more a =
        each_alike (field_tree tree) (field_tree other) (λ (x : Shown). AllByRecursion P (links x)) (λ seen more a x h. field_alike x h seen more a) xs (apart xs h) seen more a

    pub roots_alike : (ns : List ℕ) → AllByRecursion P ns → (seen more : List Bool) → AreAlike count last seen more
        → Alike count last (each (root_tree tree) seen ns) (each (root_tree other) more ns)
    roots_alike ns h seen more a =
        each_alike (root_tree tree) (root_tree other) P
        (λ seen more a n h. (let b = f seen more a n h in record { made = ap (λ t. statement.Node t) b.made; seen = b.seen })) ns h seen more a
