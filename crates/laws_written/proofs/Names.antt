-- Which node a name stands for, where braces open and close.
use Rattle.std.proofs.Common.{◌≡◌, ℕ, zero, suc, ◌+◌, ◌<◌, ◌≤◌, Bool, true, false, if◌then◌else◌, List, [], ◌∷◌, ◌++◌, length, get_or, Option, Some, None, bytes_eq, slice_get, slice_set, refl, sym, ap, subst, ◌∙◌, ◌⊎◌, inl, inr, arith}
use Rattle.std.specs.List.{fold}
use Rattle.std.specs.Option.{option_or}
use Rattle.std.proofs.lemmas.Bool.{cases_lt}
use Rattle.std.proofs.lemmas.List.Sums.{fold-append}
use Rattle.std.proofs.lemmas.Slice.Eq.{bytes_eq-Decides}
use Rattle.laws_documents.specs.Uses.{OpenBraces, has_name, named, named_next}
use Rattle.scene_core.specs.Scene.{label_of}
use Rattle.scene_text.specs.Tree.{PlanView, def_name}
use Rattle.laws_written.proofs.NumberedLists.{some_is}

-- ---- a list of braces

-- once a node has the name, some node has it
some_stays : (l : List ℕ) (m : ℕ) (os : List OpenBraces) → fold (named_next l) (Some m) os ≡ None → ⊥
some_stays l m [] h = absurd cc
some_stays l m (o ∷ os) h = by_name (λ k. some_stays l k os) (has_name l o.name) o.node h where
  by_name : ((k : ℕ) → fold (named_next l) (Some k) os ≡ None → ⊥) → (b : Bool) (inner : Option ℕ)
      → fold (named_next l) (if b then option_or inner (Some m) else Some m) os ≡ None → ⊥
  by_name k false inner h = k m h
  by_name k true None h = k m h
  by_name k true (Some j) h = k j h

none_first : (l : List ℕ) (b : Option ℕ) (os : List OpenBraces) → fold (named_next l) b os ≡ None → b ≡ None
none_first l None os h = refl
none_first l (Some m) os h = absurd (some_stays l m os h)

-- where no node of these has the name, it is that of the node before
over_none : (l : List ℕ) (n : ℕ) (os : List OpenBraces) → fold (named_next l) None os ≡ None → fold (named_next l) (Some n) os ≡ Some n
over_none l n [] h = refl
over_none l n (o ∷ os) h = by_name (over_none l n os) (has_name l o.name) o.node h where
  by_name : (fold (named_next l) None os ≡ None → fold (named_next l) (Some n) os ≡ Some n) → (b : Bool) (inner : Option ℕ)
      → fold (named_next l) (if b then option_or inner None else None) os ≡ None
      → fold (named_next l) (if b then option_or inner (Some n) else Some n) os ≡ Some n
  by_name k false inner h = k h
  by_name k true None h = k h
  by_name k true (Some m) h = absurd (some_stays l m os h)

-- braces that close, of another name
set_other_name : (l : List ℕ) (before : Option ℕ) (os : List OpenBraces) (k : ℕ) (o new : OpenBraces) → slice_get os k ≡ Some o
    → ((b : Option ℕ) → named_next l b new ≡ named_next l b o) → fold (named_next l) before (slice_set os k new) ≡ fold (named_next l) before os
set_other_name l before [] k o new at e = absurd cc
set_other_name l before (x ∷ os) zero o new at e =
    ap (λ (b : Option ℕ). fold (named_next l) b os) (e before ∙ ap (λ (y : OpenBraces). named_next l before y) (sym (some_is x o at)))
set_other_name l before (x ∷ os) (suc k) o new at e = set_other_name l (named_next l before x) os k o new at e

-- of that name, which no node has
set_own_name : (l : List ℕ) (n : ℕ) (os : List OpenBraces) (k : ℕ) (o new : OpenBraces) → slice_get os k ≡ Some o
    → ((b : Option ℕ) → named_next l b new ≡ Some n) → fold (named_next l) None os ≡ None → fold (named_next l) None (slice_set os k new) ≡ Some n
set_own_name l n [] k o new at e h = absurd cc
set_own_name l n (x ∷ os) zero o new at e h =
    let none : fold (named_next l) None os ≡ None =
    ap (λ (b : Option ℕ). fold (named_next l) b os) (sym (none_first l (named_next l None x) os h)) ∙ h in
    ap (λ (b : Option ℕ). fold (named_next l) b os) (e None) ∙ over_none l n os none
set_own_name l n (x ∷ os) (suc k) o new at e h =
    let first : named_next l None x ≡ None = none_first l (named_next l None x) os h in
    let none : fold (named_next l) None os ≡ None = ap (λ (b : Option ℕ). fold (named_next l) b os) (sym first) ∙ h in
    ap (λ (b : Option ℕ). fold (named_next l) b (slice_set os k new)) first ∙ set_own_name l n os k o new at e none

-- ---- one pair of braces

abbrev pub braces : Option (List ℕ) → Option ℕ → OpenBraces
braces name node = record { name = name; node = node }

if_open : (c : Bool) (b : Option ℕ) → (if c then option_or None b else b) ≡ b
if_open true b = refl
if_open false b = refl

-- as long as they are open they stand for no node
open_is : (l : List ℕ) (name : Option (List ℕ)) (b : Option ℕ) → named_next l b (braces name None) ≡ b
open_is l name b = if_open (has_name l name) b

other_is : (l : List ℕ) (name : Option (List ℕ)) (node b : Option ℕ) → has_name l name ≡ false → named_next l b (braces name node) ≡ b
other_is l name node b h = ap (λ (c : Bool). if c then option_or node b else b) h

own_is : (l : List ℕ) (name : Option (List ℕ)) (n : ℕ) (b : Option ℕ) → has_name l name ≡ true → named_next l b (braces name (Some n)) ≡ Some n
own_is l name n b h = ap (λ (c : Bool). if c then option_or (Some n) b else b) h

-- ---- the names of a scene's nodes

module _ (p : PlanView) where
  abbrev pub count : ℕ
  count = length p.scene.nodes

  abbrev pub label : ℕ → List ℕ
  label n = label_of p.scene n

  abbrev pub is_named : ℕ → Bool
  is_named n = get_or p.named n false

  abbrev pub AreApart : Type 0
  AreApart = (m n : ℕ) → m < count → n < count → label m ≡ label n → m ≡ n

  -- of so many nodes the braces are closed, and each that has a DEF is named by its label
  pub record NamesAre (done : ℕ) (os : List OpenBraces) : Type 0 where
    pub closed : (x : ℕ) → x < done → x < count → is_named x ≡ true → named (label x) os ≡ Some x
    pub coming : (x : ℕ) → done ≤ x → x < count → named (label x) os ≡ None

  pub names_begin : NamesAre 0 []
  names_begin = record { closed = λ x l m h. absurd (omega (arith, l)); coming = λ x l m. refl }

  pub names_open : (done : ℕ) (os : List OpenBraces) (name : Option (List ℕ)) → NamesAre done os → NamesAre done (os ++ braces name None ∷ [])
  names_open done os name h =
      record { closed = λ x l m k. same x ∙ h.closed x l m k; coming = λ x l m. same x ∙ h.coming x l m } where
        same : (x : ℕ) → named (label x) (os ++ braces name None ∷ []) ≡ named (label x) os
        same x =
            fold-append (named_next (label x)) None os (braces name None ∷ [])
            ∙ open_is (label x) name (named (label x) os)

  module _ (apart : AreApart) where
    unlike : (x n : ℕ) → (x ≡ n → ⊥) → x < count → n < count → bytes_eq (label n) (label x) ≡ false
    unlike x n k l m = by_equal (bytes_eq (label n) (label x)) refl where
      by_equal : (b : Bool) → bytes_eq (label n) (label x) ≡ b → bytes_eq (label n) (label x) ≡ false
      by_equal false e = e
      by_equal true e = absurd (k (sym (apart n x m l ((bytes_eq-Decides (label n) (label x)).0 e))))

    def_other : (x n : ℕ) → (x ≡ n → ⊥) → x < count → n < count → (b : Bool) → has_name (label x) (if b then Some (label n) else None) ≡ false
    def_other x n k l m true = unlike x n k l m
    def_other x n k l m false = refl

    def_own : (n : ℕ) → is_named n ≡ true → has_name (label n) (def_name p n) ≡ true
    def_own n h =
        ap (λ (b : Bool). has_name (label n) (if b then Some (label n) else None)) h
        ∙ (bytes_eq-Decides (label n) (label n)).1 refl

    -- the braces of the next node close
    module _ (n : ℕ) (os : List OpenBraces) (k : ℕ) (h : NamesAre n os) (low : n < count) (at : slice_get os k ≡ Some (braces (def_name p n) None)) where
      abbrev now : List OpenBraces
      now = slice_set os k (braces (def_name p n) (Some n))

      others : (x : ℕ) → (x ≡ n → ⊥) → x < count → named (label x) now ≡ named (label x) os
      others x e l =
          let other : has_name (label x) (def_name p n) ≡ false = def_other x n e l low (is_named n) in
          set_other_name (label x) None os k (braces (def_name p n) None) (braces (def_name p n) (Some n)) at
          (λ b. other_is (label x) (def_name p n) (Some n) b other ∙ sym (other_is (label x) (def_name p n) None b other))

      own : is_named n ≡ true → named (label n) now ≡ Some n
      own e =
          set_own_name (label n) n os k (braces (def_name p n) None) (braces (def_name p n) (Some n)) at
          (λ b. own_is (label n) (def_name p n) n b (def_own n e)) (h.coming n (omega arith) low)

      now_closed : (x : ℕ) → x < n + 1 → x < count → is_named x ≡ true → named (label x) now ≡ Some x
      now_closed x l m e = by_place (cases_lt x n) where
        by_place : (x < n) ⊎ (n ≤ x) → named (label x) now ≡ Some x
        by_place (inl below) = others x (λ f. omega (arith, f, below)) m ∙ h.closed x below m e
        by_place (inr above) =
            let same : x ≡ n = omega (arith, l, above) in
            subst (λ (y : ℕ). named (label y) now ≡ Some y) (sym same)
            (own (subst (λ (y : ℕ). is_named y ≡ true) same e))

      pub names_close : NamesAre (n + 1) now
      names_close = record {
        closed = now_closed;
        coming = λ x l m. others x (λ e. omega (arith, l, e)) m ∙ h.coming x (omega (arith, l)) m;
      }
