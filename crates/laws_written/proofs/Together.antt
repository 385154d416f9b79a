-- A text up to some place and the numbering there: what of both goes together, and what is read of each in turn.
use Rattle.std.proofs.Common.{◌≡◌, ℕ, zero, suc, ◌+◌, ◌<◌, ◌≤◌, Bool, true, false, cond, if◌then◌else◌, List, [], ◌∷◌, ◌++◌, length, map, Option, Some, slice_get, refl, sym, ap, subst, ◌∙◌, ◌⊎◌, append_assoc, append-nil}
use Rattle.std.specs.List.{AllByRecursion, flat_map, fold}
use Rattle.std.proofs.lemmas.List.{map-append}
use Rattle.std.proofs.lemmas.List.Sums.{fold-append}
use Rattle.proto_flat.specs.declared.flat.FlatNode.{FlatNode}
use Rattle.laws_documents.specs.Readings.{each as each_read}
use Rattle.laws_documents.specs.Uses.{OpenBraces, Reading, some}
use Rattle.scene_core.specs.declared.numbering.Numbering.{Numbering}
use Rattle.scene_core.specs.declared.scene.SceneNode.{SceneNode}
use Rattle.scene_core.specs.Numbers.{appear, close, is_new, visit}
use Rattle.scene_core.specs.Parts.{parts_of}
use Rattle.scene_text.specs.Places.{places}
use Rattle.scene_text.specs.Tree.{Makes, PlanView, Grows, each, one_more}
use Rattle.laws_written.proofs.NumberedLists.{In, push_keeps}
use Rattle.laws_written.proofs.Visits.{Seen, full}
use Rattle.laws_written.proofs.Counts.{hits, unwritten}
use Rattle.laws_written.proofs.Plans.{Stand, all_split, begins, one, ones_are}
use Rattle.laws_written.proofs.Names.{AreApart, NamesAre, count, is_named}

-- ---- visits keep which nodes are closed

module _ (nodes : List FlatNode) where
  abbrev Later : Numbering → Numbering → Type 0
  Later s t = (i x : ℕ) → slice_get s.order i ≡ Some x → slice_get t.order i ≡ Some x

  fold_later : (f : Numbering → ℕ → Numbering) → ((s : Numbering) (n : ℕ) → Later s (f s n)) → (s : Numbering) (ns : List ℕ) → Later s (fold f s ns)
  fold_later f k s [] i x at = at
  fold_later f k s (n ∷ ns) i x at = fold_later f k (f s n) ns i x (k s n i x at)

  visit_later : (fuel : ℕ) (s : Numbering) (n : ℕ) → Later s (visit fuel nodes s n)
  unfolding visit
  visit_later zero s n i x at = at
  visit_later (suc fuel) s n i x at = by_new (visit_later fuel) (is_new s n) where
    by_new : ((t : Numbering) (m : ℕ) → Later t (visit fuel nodes t m)) → (b : Bool)
        → slice_get (if b then close (fold (visit fuel nodes) (appear s n) (parts_of nodes n)) n else s).order i ≡ Some x
    by_new k true =
        push_keeps (fold (visit fuel nodes) (appear s n) (parts_of nodes n)).order n i x
        (fold_later (visit fuel nodes) k (appear s n) (parts_of nodes n) i x at)
    by_new k false = at

-- ---- what goes together

module _ (p : PlanView) (nodes : List FlatNode) where
  abbrev pub F : Numbering → ℕ → Numbering
  F = full nodes

  abbrev pub inside : ℕ → List (Option ℕ)
  inside n = map some (parts_of nodes n)

  -- what is known of the nodes that are written
  pub record Rules : Type 0 where
    pub stand : Stand p nodes
    pub lower : (n : ℕ) (node : SceneNode) → slice_get p.scene.nodes n ≡ Some node → AllByRecursion (λ m. m < n) (parts_of nodes n)
    pub apart : AreApart p
    pub named : (n : ℕ) → n < count p → 2 ≤ hits n (places p.scene) → is_named p n ≡ true

  -- each node that is closed has its own place
  abbrev pub InPlace : Numbering → Type 0
  InPlace s = (i x : ℕ) → slice_get s.order i ≡ Some x → x ≡ i

  -- a text up to some place and the numbering there, where the braces of these nodes are open and
  -- those are still to come
  pub record Ready (begun coming : List ℕ) (r : Reading) (s : Numbering) : Type 0 where
    pub sized : length s.opened ≡ length nodes
    pub closed : r.closed ≡ map inside s.order
    pub names : NamesAre p (length s.order) r.opened
    pub listed : (x : ℕ) → Seen s x → x < count p → In x begun ⊎ (x < length s.order)
    pub budget : (x : ℕ) → x < count p → cond (is_new s x) 0 1 + hits x coming + unwritten nodes x 0 s.opened ≤ hits x (places p.scene)

  -- these nodes were read
  pub record After (begun coming : List ℕ) (r t : Reading) (s : Numbering) (ns : List ℕ) : Type 0 where
    pub here : t.here ≡ r.here ++ map some ns
    pub kept : (k : ℕ) (o : OpenBraces) → slice_get r.opened k ≡ Some o → slice_get t.opened k ≡ Some o
    pub ready : Ready begun coming t s

  pub after_none : (begun coming : List ℕ) (r t : Reading) (s : Numbering) → t ≡ r → Ready begun coming r s → After begun coming r t s []
  after_none begun coming r t s e h =
      subst (λ (u : Reading). After begun coming r u s []) (sym e)
      (record { here = sym (append-nil r.here); kept = λ k o at. at; ready = h })

  after_more : (begun middle coming : List ℕ) (r t u : Reading) (s v : Numbering) (ns ms : List ℕ) → After begun middle r t s ns → After begun coming t u v ms
      → After begun coming r u v (ns ++ ms)
  after_more begun middle coming r t u s v ns ms a b = record {
    here = b.here
        ∙ (ap (λ (l : List (Option ℕ)). l ++ map some ms) a.here
        ∙ (append_assoc r.here (map some ns) (map some ms)
        ∙ ap (λ (l : List (Option ℕ)). r.here ++ l) (sym (map-append some ns ms))));
    kept = λ k o at. b.kept k o (a.kept k o at);
    ready = b.ready;
  }

  -- ---- what is written of each in turn

  -- what is made of an item is read as these nodes
  abbrev pub Does : {A B : Type 0} → List ℕ → (ℕ → Type 0) → (A → List ℕ) → (B → Reading → Reading) → Makes A B → Type 0
  Does {A} {B} begun Q nodes_in read make =
      (coming : List ℕ) (r : Reading) (s : Numbering) (x : A) → AllByRecursion Q (nodes_in x) → Ready begun (nodes_in x ++ coming) r s
      → InPlace (fold F s (nodes_in x))
      → ((make s.opened x).seen ≡ (fold F s (nodes_in x)).opened) × After begun coming r (read (make s.opened x).made r) (fold F s (nodes_in x)) (nodes_in x)

  pub earlier : (s : Numbering) (ns : List ℕ) → InPlace (fold F s ns) → InPlace s
  earlier s ns h i x at = h i x (fold_later nodes F (visit_later nodes (length nodes + 1)) s ns i x at)

  module _ {A B : Type 0} (begun : List ℕ) (Q : ℕ → Type 0) (nodes_in : A → List ℕ) (read : B → Reading → Reading) (make : Makes A B)
      (does : Does begun Q nodes_in read make) where
    abbrev IsDone : List ℕ → Reading → Grows (List B) → Reading → Numbering → List ℕ → Type 0
    IsDone coming r0 m r s ns = (m.seen ≡ s.opened) × After begun coming r (each_read read m.made r0) s ns

    pub in_turn : (coming : List ℕ) (r0 : Reading) (made : List B) (s : Numbering) (xs : List A) → AllByRecursion Q (flat_map nodes_in xs)
        → Ready begun (flat_map nodes_in xs ++ coming) (each_read read made r0) s → InPlace (fold F s (flat_map nodes_in xs))
        → IsDone coming r0 (fold (one_more make) (begins s.opened made) xs) (each_read read made r0) (fold F s (flat_map nodes_in xs)) (flat_map nodes_in xs)
    in_turn coming r0 made s [] q h i = (refl, after_none begun coming (each_read read made r0) (each_read read made r0) s refl h)
    in_turn coming r0 made s (x ∷ xs) q h i =
        let now : List ℕ = nodes_in x in
        let others : List ℕ = flat_map nodes_in xs in
        let r1 : Reading = each_read read made r0 in
        let s1 : Numbering = fold F s now in
        let b : B = (make s.opened x).made in
        let split = all_split Q now others q in
        let apart : fold F s (now ++ others) ≡ fold F s1 others = fold-append F s now others in
        let later : InPlace (fold F s1 others) = subst InPlace apart i in
        let first = does (others ++ coming) r1 s x split.0
        (subst (λ (l : List ℕ). Ready begun l r1 s) (append_assoc now others coming) h) (earlier s1 others later) in
        let one_read : each_read read (made ++ b ∷ []) r0 ≡ read b r1 = fold-append (λ (t : Reading) (part : B). read part t) r0 made (b ∷ []) in
        let after : After begun (others ++ coming) r1 (each_read read (made ++ b ∷ []) r0) s1 now =
        subst (λ (t : Reading). After begun (others ++ coming) r1 t s1 now) (sym one_read) first.1 in
        let rest = in_turn coming r0 (made ++ b ∷ []) s1 xs split.1 after.ready later in
        let joined : IsDone coming r0 (fold (one_more make) (begins s1.opened (made ++ b ∷ [])) xs) r1 (fold F s1 others) (now ++ others) = (
          rest.0,
          after_more begun (others ++ coming) coming r1 (each_read read (made ++ b ∷ []) r0)
              (each_read read (fold (one_more make) (begins s1.opened (made ++ b ∷ [])) xs).made r0) s1 (fold F s1 others) now others after rest.1,
        ) in
        subst (λ (v : Numbering). IsDone coming r0 (fold (one_more make) (begins (make s.opened x).seen (made ++ b ∷ [])) xs) r1 v (now ++ others)) (sym apart)
        (subst (λ (seen : List Bool). IsDone coming r0 (fold (one_more make) (begins seen (made ++ b ∷ [])) xs) r1 (fold F s1 others) (now ++ others)) (sym first.0) joined)

  -- of nodes
  module _ {B : Type 0} (begun : List ℕ) (Q : ℕ → Type 0) (read : B → Reading → Reading) (make : Makes ℕ B) (does : Does begun Q one read make) where
    pub nodes_in_turn : (coming : List ℕ) (r : Reading) (s : Numbering) (ns : List ℕ) → AllByRecursion Q ns → Ready begun (ns ++ coming) r s
        → InPlace (fold F s ns)
        → ((each make s.opened ns).seen ≡ (fold F s ns).opened) × After begun coming r (each_read read (each make s.opened ns).made r) (fold F s ns) ns
    nodes_in_turn coming r s ns q h i =
        let same : flat_map one ns ≡ ns = ones_are ns in
        let all = in_turn begun Q one read make does coming r [] s ns
        (subst (AllByRecursion Q) (sym same) q)
        (subst (λ (l : List ℕ). Ready begun (l ++ coming) r s) (sym same) h)
        (subst (λ (l : List ℕ). InPlace (fold F s l)) (sym same) i) in
        subst (λ (l : List ℕ). ((each make s.opened ns).seen ≡ (fold F s l).opened) × After begun coming r (each_read read (each make s.opened ns).made r) (fold F s l) l) same all
