-- What is known of a name after some names: whether it was alone among them.
use Rattle.std.proofs.Common.{◌≡◌, ℕ, ◌+◌, Bool, true, false, List, [], ◌∷◌, Option, Some, None, ◌∙◌, ap, sym, zero, suc, refl, arith}
use Rattle.std.specs.Prelude.{is_none, cond, if◌then◌else◌, ◌==◌}
use Rattle.std.specs.Str.{bytes_eq}
use Rattle.std.specs.List.{fold, count_by}
use Rattle.std.proofs.Math.Path.{fun_ext}
use Rattle.std.proofs.lemmas.List.Sums.{sum_by-cons}
use Rattle.std.proofs.lemmas.Bool.{cond-true, cond-false}
use Rattle.std.proofs.lemmas.Slice.Eq.{bytes_eq-Decides}
use Rattle.scene_core.specs.Labels.{Known, unknown, mark, marked, known_alone, is_alone}

-- after so many more of the name
abbrev after : Option Bool → ℕ → Option Bool
after None zero = None
after None (suc zero) = Some true
after None (suc (suc k)) = Some false
after (Some b) zero = Some b
after (Some b) (suc k) = Some false

alone-after : (k : ℕ) → known_alone (after None k) ≡ (k == 1)
alone-after zero = refl
alone-after (suc zero) = refl
alone-after (suc (suc k)) = grind arith

one-more : (o : Option Bool) (k : ℕ) → after (Some (is_none o)) k ≡ after o (suc k)
one-more None zero = refl
one-more None (suc k) = refl
one-more (Some b) zero = refl
one-more (Some b) (suc k) = refl

same-text : (xs ys : List ℕ) → bytes_eq xs ys ≡ true → xs ≡ ys
same-text xs ys h = grind (arith, bytes_eq-Decides)

count : List ℕ → List (List ℕ) → ℕ
count q names = count_by (λ other. bytes_eq other q) names

count-cons : (q g : List ℕ) (names : List (List ℕ)) → count q (g ∷ names) ≡ cond (bytes_eq g q) 1 0 + count q names
unfolding count
count-cons q g names = sum_by-cons (λ other. cond (bytes_eq other q) 1 0) g names

mark-yes : (f : Known) (g q : List ℕ) → bytes_eq g q ≡ true → mark f g q ≡ Some (is_none (f q))
mark-yes f g q e =
    cond-true (bytes_eq g q) (Some (is_none (f g))) (f q) e ∙ ap (λ (t : List ℕ). Some (is_none (f t))) (same-text g q e)

mark-no : (f : Known) (g q : List ℕ) → bytes_eq g q ≡ false → mark f g q ≡ f q
mark-no f g q e = cond-false (bytes_eq g q) (Some (is_none (f g))) (f q) e

suc-yes : (b : Bool) (k : ℕ) → b ≡ true → suc k ≡ cond b 1 0 + k
suc-yes true k e = omega arith
suc-yes false k e = cc

same-no : (b : Bool) (k : ℕ) → b ≡ false → k ≡ cond b 1 0 + k
same-no false k e = omega arith
same-no true k e = cc

mark-count : (f : Known) (g q : List ℕ) (k : ℕ) (b : Bool) → bytes_eq g q ≡ b → after (mark f g q) k ≡ after (f q) (cond (bytes_eq g q) 1 0 + k)
mark-count f g q k true e =
    ap (λ (o : Option Bool). after o k) (mark-yes f g q e) ∙ one-more (f q) k ∙ ap (after (f q)) (suc-yes (bytes_eq g q) k e)
mark-count f g q k false e = ap (λ (o : Option Bool). after o k) (mark-no f g q e) ∙ ap (after (f q)) (same-no (bytes_eq g q) k e)

marks-count : (f : Known) (names : List (List ℕ)) (q : List ℕ) → fold mark f names q ≡ after (f q) (count q names)
unfolding count
marks-count f [] q = ends (f q)
  where
    ends : (o : Option Bool) → o ≡ after o 0
    ends None = refl
    ends (Some b) = refl
marks-count f (g ∷ names) q =
    marks-count (mark f g) names q ∙ mark-count f g q (count q names) (bytes_eq g q) refl ∙ ap (after (f q)) (sym (count-cons q g names))

alone-is : (names : List (List ℕ)) (q : List ℕ) → known_alone (fold mark unknown names q) ≡ is_alone names q
unfolding count
alone-is names q = ap known_alone (marks-count unknown names q) ∙ alone-after (count q names)

-- the map knows which names one node alone has
pub marks-alone : (known : Known) (names : List (List ℕ)) → known ≡ fold mark unknown names → (λ q. known_alone (known q)) ≡ is_alone names
marks-alone known names e =
    let alone_by : Known → List ℕ → Bool = λ k q. known_alone (k q) in
    ap alone_by e ∙ fun_ext (λ q. alone-is names q)

-- ---- a name that is put down twice

twice : (k : Known) (given : List ℕ) → marked given false (marked given true k) ≡ marked given false k
twice k given = fun_ext (λ name. by (bytes_eq given name) (k name)) where
  by : (same : Bool) (o : Option Bool) → (if same then Some false else (if same then Some true else o)) ≡ (if same then Some false else o)
  by true o = refl
  by false o = refl

pub mark-first : (old new : Known) (given : List ℕ) (before : Option Bool) → before ≡ old given → new ≡ marked given true old → is_none before ≡ true → new ≡ mark old given
mark-first old new given before is made none = made ∙ ap (λ alone. marked given alone old) (sym none ∙ ap is_none is)

pub mark-again : (old middle new : Known) (given : List ℕ) (before : Option Bool) → before ≡ old given → middle ≡ marked given true old → new ≡ marked given false middle
    → is_none before ≡ false → new ≡ mark old given
mark-again old middle new given before is between made some =
    made ∙ (ap (marked given false) between ∙ (twice old given ∙ ap (λ alone. marked given alone old) (sym some ∙ ap is_none is)))

pub ruleset marks = (mark-first, mark-again)
