-- Rows that a ray enters too late to win are passed.
use Rattle.std.proofs.Common.{◌≡◌, ◌∙◌, ℕ, zero, suc, ◌+◌, ◌-◌, ◌<◌, ◌≤◌, inl, inr, List, [], ◌∷◌, ◌++◌, take, get_or, Bool, true, false, Option, Some, None, length, refl, sym, ap, subst, arith, take_all, if◌then◌else◌}
use Rattle.std.specs.Prelude.{slice_get}
use Rattle.std.specs.List.{fold}
use Rattle.std.specs.Option.{option_map}
use Rattle.std.proofs.lemmas.Bool.{cases_lt}
use Rattle.std.proofs.lemmas.List.Sums.{fold-append}
use Rattle.std.proofs.lemmas.List.{length-map}
use Rattle.std.proofs.lemmas.Option.{same_Some, none-some, slice_get-map}
use Rattle.x3d_values.specs.Pointing.{RayView}
use Rattle.pick_rules.specs.Entry.{entry_of}
use Rattle.pick_rules.specs.declared.bounds.Fraction.{Fraction}
use Rattle.pick_core.specs.Passed.{enters_before, enters_as, is_before}
use Rattle.pick_core.specs.Tree.{ArePassed, IsTreeOf, IsTreeBut}
use Rattle.pick_core.specs.declared.tree.Tree.{Tree}
use Rattle.pick_core.proofs.TreeRuns.{tree-but}
use Rattle.pick_core.specs.Ranges.{IsInRange}
use Rattle.pick_core.specs.declared.ranges.RowRange.{RowRange}
use Rattle.pick_core.specs.Boxes.{Placed}
use Rattle.pick_core.specs.Picked.{closer, nearer, is_nearer, fraction_of, hit_at}
use Rattle.pick_core.specs.Runs.{seen, seen_in}
use Rattle.pick_core.specs.Sites.{placed_row, shown_rows}
use Rattle.pick_core.specs.declared.hit.Hit.{Hit}
use Rattle.pick_core.specs.declared.row.BoxRow.{BoxRow}
use Rattle.pick_core.proofs.Rows.{shown_rows-on, shown_rows-off, shown_rows-more}

-- ties are told alike
pub before-nearer : (at : Fraction) (best : Option Hit) → is_before at (fraction_of best) ≡ is_nearer at best
before-nearer at None = refl
before-nearer at (Some hit) = refl

module _ (ray : RayView) (best : Option Hit) where
  closer-late : (p : Placed) (at : Option Fraction) → enters_as at (fraction_of best) ≡ false → closer p best at ≡ best
  closer-late p None e = refl
  closer-late p (Some at) e = ap (λ (t : Bool). if t then Some (hit_at p at) else best) (sym (before-nearer at best) ∙ e)

  nearer-late : (p : Placed) → enters_before (Some p.bounds) ray (fraction_of best) ≡ false → nearer ray best p ≡ best
  unfolding nearer enters_before
  nearer-late p e = closer-late p (entry_of p.bounds ray) e

  row-late : (r : BoxRow) → enters_before (seen r) ray (fraction_of best) ≡ false → fold (nearer ray) best (shown_rows (r ∷ [])) ≡ best
  row-late r e = cases r.shown refl
    where
      cases : (t : Bool) → r.shown ≡ t → fold (nearer ray) best (shown_rows (r ∷ [])) ≡ best
      cases true h =
          let there : seen r ≡ Some r.bounds = ap (λ (b : Bool). if b then Some r.bounds else None) h in
          let late : enters_before (Some r.bounds) ray (fraction_of best) ≡ false = subst (λ b. enters_before b ray (fraction_of best) ≡ false) there e in
          ap (fold (nearer ray) best) (shown_rows-on r h) ∙ nearer-late (placed_row r) late
      cases false h = ap (fold (nearer ray) best) (shown_rows-off r h)

get-there : (xs : List BoxRow) (n : ℕ) → n < length xs → (x : BoxRow) × (slice_get xs n ≡ Some x)
get-there [] n h = absurd (omega arith)
get-there (x ∷ xs) zero h = (x, refl)
get-there (x ∷ xs) (suc n) h = get-there xs n (omega arith)

get-is : (xs : List BoxRow) (n : ℕ) (x : BoxRow) → slice_get xs n ≡ Some x → get_or xs n x ≡ x
get-is [] n x e = absurd (none-some x e)
get-is (y ∷ xs) zero x e = same_Some y x e
get-is (y ∷ xs) (suc n) x e = get-is xs n x e

pub get-seen : (rows : List BoxRow) (n : ℕ) (r : BoxRow) → slice_get rows n ≡ Some r → slice_get (seen_in rows) n ≡ Some (seen r)
get-seen rows n r e = slice_get-map seen rows n ∙ ap (option_map seen) e

-- one row more
pub picked-row : (ray : RayView) (rows : List BoxRow) (at : ℕ) (r : BoxRow) (old new : Option Hit) → slice_get rows at ≡ Some r → at < length rows → old ≡ fold (nearer ray) None (shown_rows (take at rows)) → new ≡ fold (nearer ray) old (shown_rows (r ∷ [])) → new ≡ fold (nearer ray) None (shown_rows (take (at + 1) rows))
picked-row ray rows at r old new there lt was is =
    let more : shown_rows (take (at + 1) rows) ≡ shown_rows (take at rows) ++ shown_rows (r ∷ []) = shown_rows-more rows at r lt ∙ ap (λ (q : BoxRow). shown_rows (take at rows) ++ shown_rows (q ∷ [])) (get-is rows at r there) in
    is ∙ (ap (λ best. fold (nearer ray) best (shown_rows (r ∷ []))) was
    ∙ (sym (fold-append (nearer ray) None (shown_rows (take at rows)) (shown_rows (r ∷ []))) ∙ ap (fold (nearer ray) None) (sym more)))

one-more : (at many : ℕ) → (at + many) + 1 ≡ at + suc many
one-more at many = omega arith

no-more : (at : ℕ) → at ≡ at + 0
no-more at = omega arith

-- rows that are passed
pub picked-late : (ray : RayView) (rows : List BoxRow) (at many : ℕ) (best : Option Hit) → ArePassed (seen_in rows) at many ray (fraction_of best) → best ≡ fold (nearer ray) None (shown_rows (take at rows)) → best ≡ fold (nearer ray) None (shown_rows (take (at + many) rows))
picked-late ray rows at zero best late was = subst (λ n. best ≡ fold (nearer ray) None (shown_rows (take n rows))) (no-more at) was
picked-late ray rows at (suc many) best late was =
    let before : best ≡ fold (nearer ray) None (shown_rows (take (at + many) rows)) = picked-late ray rows at many best (λ n b e h l. late n b e h (omega arith)) was in
    elim (cases_lt (at + many) (length rows)) [
      | inl under ↦
          let (r, there) = get-there rows (at + many) under in
          let passed = row-late ray best r (late (at + many) (seen r) (get-seen rows (at + many) r there) (omega arith) (omega arith)) in
          subst (λ n. best ≡ fold (nearer ray) None (shown_rows (take n rows))) (one-more at many) (picked-row ray rows (at + many) r best best there under before (sym passed))
      | inr over ↦
          let short : take (at + many) rows ≡ rows = take_all (at + many) rows over in
          let far : take (at + suc many) rows ≡ rows = take_all (at + suc many) rows (omega arith) in
          before ∙ ap (λ rs. fold (nearer ray) None (shown_rows rs)) (short ∙ sym far)
    ]

-- up to a place among them
pub picked-next : (ray : RayView) (rows : List BoxRow) (at many next : ℕ) (best : Option Hit) → at ≤ next → next ≤ at + many → ArePassed (seen_in rows) at many ray (fraction_of best) → best ≡ fold (nearer ray) None (shown_rows (take at rows)) → best ≡ fold (nearer ray) None (shown_rows (take next rows))
picked-next ray rows at many next best low high late was =
    let (gap, is) = gap_of at next low in
    subst (λ n. best ≡ fold (nearer ray) None (shown_rows (take n rows))) is (picked-late ray rows at gap best (λ n b e l k. late n b e l (omega arith)) was)
  where
    gap_of : (a b : ℕ) → a ≤ b → (k : ℕ) × (a + k ≡ b)
    gap_of a b h = (b - a, omega arith)

-- ---- trees round rows

pub seen-long : (rows : List BoxRow) → length (seen_in rows) ≡ length rows
seen-long rows = simp length-map

pub seen-tree : (range : RowRange) (tree : Tree) (old new : List BoxRow) → IsTreeOf tree (seen_in old) → length new ≡ length old → ((k : ℕ) → (IsInRange range k → ⊥) → slice_get new k ≡ slice_get old k) → IsTreeBut range.first range.last tree (seen_in new)
seen-tree range tree old new is long outside =
    tree-but range.first range.last tree (seen_in old) (seen_in new) is (seen-long new ∙ (long ∙ sym (seen-long old))) (λ k off. slice_get-map seen new k ∙ (ap (option_map seen) (outside k (λ h. off h.0 h.1)) ∙ sym (slice_get-map seen old k)))
