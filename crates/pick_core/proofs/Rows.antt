-- The rows of a cache.
use Rattle.std.proofs.Common.{◌≡◌, ℕ, ◌+◌, ◌<◌, List, [], ◌∷◌, ◌++◌, ◌∙◌, map, Bool, true, false, ◌&&◌, ◌||◌, eq-eqb, if◌then◌else◌, refl, sym, ap, arith, take, drop, set, get_or, length, ◌≤◌, zero, suc, add-one, take_all}
use Rattle.std.specs.Prelude.{◌==◌}
use Rattle.std.proofs.Math.Seq.{take-suc-set}
use Rattle.std.proofs.lemmas.List.{take_more, get_or-drop, drop-set-lt, map-append}
use Rattle.x3d_values.specs.declared.fields.Fields.{Fields}
use Rattle.x3d_values.specs.declared.vector.Vec3.{Vec3}
use Rattle.scene_core.specs.Scene.{SceneView}
use Rattle.pick_core.specs.Looks.{kind_of, choice_of}
use Rattle.pick_core.specs.Motion.{box_of, moved_at, moved_by}
use Rattle.pick_rules.specs.declared.bounds.Bounds.{Bounds}
use Rattle.pick_core.specs.Trail.{carried}
use Rattle.pick_core.specs.Sites.{Site, row_of, rows_of, placed_row, shown_rows, fresh, is_shown, is_shown_from_roots, allows, allows_as, touches, renewed, sites, IsSameBut}
use Rattle.pick_core.specs.declared.row.BoxRow.{BoxRow}
use Rattle.pick_core.specs.declared.trail.Place.{Place}

pub shown_rows-on : (r : BoxRow) → r.shown ≡ true → shown_rows (r ∷ []) ≡ placed_row r ∷ []
unfolding shown_rows
shown_rows-on r h = ap (λ b. if b then placed_row r ∷ [] else []) h

pub shown_rows-off : (r : BoxRow) → r.shown ≡ false → shown_rows (r ∷ []) ≡ []
unfolding shown_rows
shown_rows-off r h = ap (λ b. if b then placed_row r ∷ [] else []) h

shown_rows-append : (xs ys : List BoxRow) → shown_rows (xs ++ ys) ≡ shown_rows xs ++ shown_rows ys
unfolding shown_rows
shown_rows-append [] ys = refl
shown_rows-append (r ∷ xs) ys = cases r.shown (shown_rows-append xs ys)
  where
    cases : (b : Bool) → shown_rows (xs ++ ys) ≡ shown_rows xs ++ shown_rows ys → (if b then placed_row r ∷ shown_rows (xs ++ ys) else shown_rows (xs ++ ys)) ≡ (if b then placed_row r ∷ shown_rows xs else shown_rows xs) ++ shown_rows ys
    cases true rest = ap (λ ps. placed_row r ∷ ps) rest
    cases false rest = rest

pub shown_rows-nil : shown_rows [] ≡ []
unfolding shown_rows
shown_rows-nil = refl

pub shown_rows-more : (rs : List BoxRow) (i : ℕ) (d : BoxRow) → i < length rs → shown_rows (take (i + 1) rs) ≡ shown_rows (take i rs) ++ shown_rows (get_or rs i d ∷ [])
shown_rows-more rs i d h = ap shown_rows (take_more rs i d h) ∙ shown_rows-append (take i rs) (get_or rs i d ∷ [])

-- one element more is mapped in place
pub mapped-more : (f : BoxRow → BoxRow) (old now : List BoxRow) (i : ℕ) (r new : BoxRow) → i < length now → take i now ≡ map f (take i old) → drop i now ≡ drop i old → length now ≡ length old → r ≡ get_or now i r → new ≡ f r → take (i + 1) (set now i new) ≡ map f (take (i + 1) old)
mapped-more f old now i r new h done left long is made =
    let zero-on : i + 0 ≡ i = omega arith in
    let here : get_or now i r ≡ get_or old i r = ap (λ k. get_or now k r) (sym zero-on) ∙ (sym (get_or-drop i now 0 r) ∙ (ap (λ xs. get_or xs 0 r) left ∙ (get_or-drop i old 0 r ∙ ap (λ k. get_or old k r) zero-on))) in
    let in-old : i < length old = omega arith in
    let step : take (i + 1) (set now i new) ≡ take i now ++ new ∷ [] = rw add-one (take-suc-set now i new h) in
    step ∙ (ap (λ xs. xs ++ new ∷ []) done ∙ (ap (λ x. map f (take i old) ++ x ∷ []) (made ∙ ap f (is ∙ here))
    ∙ (sym (map-append f (take i old) (get_or old i r ∷ [])) ∙ ap (map f) (sym (take_more old i r in-old)))))

drop-one : (i : ℕ) (xs : List BoxRow) → drop 1 (drop i xs) ≡ drop (suc i) xs
drop-one zero xs = refl
drop-one (suc i) [] = refl
drop-one (suc i) (x ∷ xs) = drop-one i xs

pub left-more : (old now : List BoxRow) (i : ℕ) (new : BoxRow) → drop i now ≡ drop i old → drop (i + 1) (set now i new) ≡ drop (i + 1) old
left-more old now i new left =
    let lt : i < i + 1 = omega arith in
    drop-set-lt (i + 1) now i new lt ∙ rw add-one (sym (drop-one i now) ∙ (ap (drop 1) left ∙ drop-one i old))

pub all-mapped : (f : BoxRow → BoxRow) (old now : List BoxRow) (i : ℕ) → length now ≤ i → take i now ≡ map f (take i old) → length now ≡ length old → now ≡ map f old
all-mapped f old now i h done long =
    let long-old : length old ≤ i = omega arith in
    sym (take_all i now h) ∙ (done ∙ ap (map f) (take_all i old long-old))

-- ---- rows of another state

map-same : {A B C : Type 0} (f : A → B) (g : A → C) (h : B → C) → ((x : A) → h (f x) ≡ g x) → (xs : List A) → map h (map f xs) ≡ map g xs
map-same f g h same [] = refl
map-same f g h same (x ∷ xs) = ap (λ y. y ∷ map h (map f xs)) (same x) ∙ ap (λ ys. g x ∷ ys) (map-same f g h same xs)

-- rows made new are those of the state
pub fresh-rows : (scene : SceneView) (before after : List Fields) (rs : List BoxRow) → rs ≡ rows_of scene before → map (fresh scene after) rs ≡ rows_of scene after
unfolding rows_of
fresh-rows scene before after rs e =
    ap (map (fresh scene after)) e ∙ map-same (λ (s : Site). row_of scene before s.trail s.size) (λ (s : Site). row_of scene after s.trail s.size) (fresh scene after) (λ s. refl) (sites scene)

untouched-head : (node : ℕ) (p : Place) (b : Bool) → ((p.node == node) || b) ≡ false → (p.node ≡ node → ⊥) × (b ≡ false)
untouched-head node p b h = cases (p.node == node) refl h
  where
    cases : (t : Bool) → (p.node == node) ≡ t → (t || b) ≡ false → (p.node ≡ node → ⊥) × (b ≡ false)
    cases true e k = cc
    cases false e k = (λ q. let on = eq-eqb p.node node q in cc, k)

module _ (scene : SceneView) (before after : List Fields) (node : ℕ) (same : IsSameBut node before after) where
  moved-same : (k : ℕ) (b : Bounds) → (k ≡ node → ⊥) → moved_at scene before k b ≡ moved_at scene after k b
  unfolding moved_at
  moved-same k b off = ap (λ own. moved_by (kind_of scene k) own b) (same k off)

  allows-same : (k position : ℕ) → (k ≡ node → ⊥) → allows scene before k position ≡ allows scene after k position
  unfolding allows
  allows-same k position off = ap (λ own. allows_as (choice_of own) (kind_of scene k) position) (same k off)

  carried-same : (ps : List Place) (b : Bounds) → touches node ps ≡ false → carried scene before ps b ≡ carried scene after ps b
  unfolding carried
  carried-same [] b h = refl
  carried-same (p ∷ ps) b h =
      let (off, rest) = untouched-head node p (touches node ps) h in
      moved-same p.node (carried scene before ps b) off ∙ ap (moved_at scene after p.node) (carried-same ps b rest)

  shown-same : (ps : List Place) (n : ℕ) → (n ≡ node → ⊥) → touches node ps ≡ false → is_shown scene before n ps ≡ is_shown scene after n ps
  unfolding is_shown
  shown-same [] n off h = refl
  shown-same (p ∷ ps) n off h =
      let (on, rest) = untouched-head node p (touches node ps) h in
      ap (λ b. b && is_shown scene before p.node ps) (allows-same n p.position off) ∙ ap (λ b. allows scene after n p.position && b) (shown-same ps p.node on rest)

  shown-same-roots : (ps : List Place) → touches node ps ≡ false → is_shown_from_roots scene before ps ≡ is_shown_from_roots scene after ps
  shown-same-roots [] h = refl
  shown-same-roots (p ∷ ps) h =
      let (on, rest) = untouched-head node p (touches node ps) h in shown-same ps p.node on rest

  renewed-row : (trail : List Place) (size : Vec3) → renewed scene after node (row_of scene before trail size) ≡ row_of scene after trail size
  renewed-row trail size = cases (touches node trail) refl
    where
      make : Bounds → Bool → BoxRow
      make b s = record { trail = trail; size = size; bounds = b; shown = s }

      cases : (t : Bool) → touches node trail ≡ t → (if t then row_of scene after trail size else row_of scene before trail size) ≡ row_of scene after trail size
      cases true e = refl
      cases false e = ap (λ b. make b (is_shown_from_roots scene before trail)) (carried-same trail (box_of size) e) ∙ ap (λ s. make (carried scene after trail (box_of size)) s) (shown-same-roots trail e)

  pub renewed-rows : (rs : List BoxRow) → rs ≡ rows_of scene before → map (renewed scene after node) rs ≡ rows_of scene after
  unfolding rows_of
  renewed-rows rs e =
      ap (map (renewed scene after node)) e ∙ map-same (λ (s : Site). row_of scene before s.trail s.size) (λ (s : Site). row_of scene after s.trail s.size) (renewed scene after node) (λ s. renewed-row s.trail s.size) (sites scene)
