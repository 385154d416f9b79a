-- The laws, by what is known of a resolved text.
use Rattle.std.proofs.Common.{◌≡◌, ℕ, suc, List, [], ◌∷◌, length, Option, Some, None, refl, sym, ◌∙◌, subst, arith}
use Prim.Native.Nat.{zero}
use Rattle.std.specs.Prelude.{slice_get}
use Rattle.proto_meaning.specs.Sight.{Prototype}
use Rattle.proto_meaning.specs.declared.tree.ProtoTree.{ProtoTree}
use Rattle.proto_meaning.proofs.Whole.{texts_stand_for_the_same}
use Rattle.proto_resolver.specs.Standing.{IsOf, TreesStand}
use Rattle.proto_resolver.specs.Laws.{IsTreeOf, NumbersMeanTheirTrees, ResolvedTextsStandForTheSame}
use Rattle.proto_resolver.proofs.Standing.{extends_none}
use Rattle.proto_resolver.proofs.Declared.{none_some, same_some}

pub resolved_texts_stand_for_the_same : ResolvedTextsStandForTheSame
resolved_texts_stand_for_the_same text protos trees r header = texts_stand_for_the_same r.prototypes header text trees r.seen r.are

suc≢zero : {n : ℕ} → suc n ≡ zero → ⊥
suc≢zero {n} e = omega (arith, e)

one_less : {n m : ℕ} → suc n ≡ suc m → n ≡ m
one_less {n} {m} e = omega (arith, e)

-- what lies in the one list lies in the other
there : {X Y : Type 0} (xs : List X) (ys : List Y) (n : ℕ) (x : X) → slice_get xs n ≡ Some x → length xs ≡ length ys → slice_get ys n ≡ None → ⊥
there [] ys n x e same none = none_some x e
there (z ∷ zs) [] n x e same none = suc≢zero same
there (z ∷ zs) (y ∷ ys) zero x e same none = none_some y (sym none)
there (z ∷ zs) (y ∷ ys) (suc n) x e same none = there zs ys n x e (one_less same) none

tree_of : (ps : List Prototype) (protos : List ProtoTree) (n : ℕ) (t : Option ProtoTree) (p : Option Prototype) → TreesStand ps protos → slice_get protos n ≡ t → slice_get ps n ≡ p → IsTreeOf ps t p
tree_of ps protos n None None h e f = tt
tree_of ps protos n None (Some p) h e f = absurd (there ps protos n p f h.count e)
tree_of ps protos n (Some t) None h e f = absurd (none_some (h.each n t e).0 (sym f ∙ (h.each n t e).1))
tree_of ps protos n (Some t) (Some p) h e f =
    let same : (h.each n t e).0 ≡ p = same_some (h.each n t e).0 p (sym (h.each n t e).1 ∙ f) in
    let is = subst (IsOf ps t) same (h.each n t e).2 in
    (is.name, is.interface, λ given put. is.instance ps (extends_none ps) given put)

pub numbers_mean_their_trees : NumbersMeanTheirTrees
numbers_mean_their_trees text protos trees r n = tree_of r.prototypes protos n (slice_get protos n) (slice_get r.prototypes n) r.stand refl refl
