-- What comes of the fields that a node declares, one after the other.
use Rattle.std.proofs.Common.{◌≡◌, ◌⊎◌, inl, inr, ℕ, ◌+◌, ◌<◌, List, [], ◌∷◌, ◌++◌, Option, length, get_or, drop, map, ap, sym, subst, ◌∙◌, arith, append_assoc}
use Rattle.std.specs.Prelude.{Result, Ok, Err}
use Rattle.x3d_lists.specs.Answers.{Gives}
use Rattle.x3d_values.specs.declared.value.Value.{Value}
use Rattle.classic_tree.specs.declared.tree.Declaration.{Declaration}
use Rattle.proto_flat.specs.declared.flat.FlatNode.{FlatNode}
use Rattle.proto_flat.specs.declared.flat.FlatField.{FlatField}
use Rattle.scene_core.specs.declared.fault.SceneFault.{SceneFault}
use Rattle.scene_core.specs.Faults.{memory, ◌>>=◌, with_item}
use Rattle.scene_core.specs.Parts.{given, parts_from, parts_in}
use Rattle.scene_core.specs.Shape.{declaration_entry}
use Rattle.scene_core.specs.Typed.{declared_value, declared_from}
use Rattle.scene_core.proofs.RowLemmas.{drop-step}

-- ---- values

values-cons : (nodes : List FlatNode) (numbers : List ℕ) (fields : List FlatField) (number next : ℕ) (d : Declaration ℕ) (ds : List (Declaration ℕ)) (made : List (Option Value)) → number + 1 ≡ next
    → declared_from nodes numbers fields number (d ∷ ds) made ≡ (declared_value nodes numbers d (given fields number) >>= λ v. declared_from nodes numbers fields next ds (made ++ v ∷ []))
values-cons nodes numbers fields number next d ds made e = ap (λ k. declared_value nodes numbers d (given fields number) >>= λ v. declared_from nodes numbers fields k ds (made ++ v ∷ [])) e

values-step : (nodes : List FlatNode) (numbers : List ℕ) (fields : List FlatField) (number : ℕ) (ds : List (Declaration ℕ)) (i : ℕ) (d : Declaration ℕ) (made : List (Option Value)) → i < length ds
    → declared_from nodes numbers fields (number + i) (drop i ds) made
    ≡ (declared_value nodes numbers (get_or ds i d) (given fields (number + i)) >>= λ v. declared_from nodes numbers fields (number + (i + 1)) (drop (i + 1) ds) (made ++ v ∷ []))
values-step nodes numbers fields number ds i d made h =
    ap (λ xs. declared_from nodes numbers fields (number + i) xs made) (drop-step ds i d h)
    ∙ values-cons nodes numbers fields (number + i) (number + (i + 1)) (get_or ds i d) (drop (i + 1) ds) made (omega arith)

-- with what the next field holds
values-more : (nodes : List FlatNode) (numbers : List ℕ) (fields : List FlatField) (number : ℕ) (ds : List (Declaration ℕ)) (i : ℕ) (d x : Declaration ℕ) (g : Option FlatField)
    (made : List (Option Value)) (v : Option Value) (all : Result (List (Option Value)) SceneFault) → i < length ds → x ≡ get_or ds i d → g ≡ given fields (number + i)
    → all ≡ declared_from nodes numbers fields (number + i) (drop i ds) made → declared_value nodes numbers x g ≡ Ok v
    → all ≡ declared_from nodes numbers fields (number + (i + 1)) (drop (i + 1) ds) (made ++ v ∷ [])
values-more nodes numbers fields number ds i d x g made v all h same is so_far holds =
    let held : declared_value nodes numbers (get_or ds i d) (given fields (number + i)) ≡ Ok v =
    ap (λ w. declared_value nodes numbers w (given fields (number + i))) (sym same) ∙ ap (λ w. declared_value nodes numbers x w) (sym is) ∙ holds in
    so_far ∙ values-step nodes numbers fields number ds i d made h
    ∙ ap (λ r. r >>= λ w. declared_from nodes numbers fields (number + (i + 1)) (drop (i + 1) ds) (made ++ w ∷ [])) held

-- or with its fault
values-fault : (nodes : List FlatNode) (numbers : List ℕ) (fields : List FlatField) (number : ℕ) (ds : List (Declaration ℕ)) (i : ℕ) (d x : Declaration ℕ) (g : Option FlatField)
    (made : List (Option Value)) (e : SceneFault) (all : Result (List (Option Value)) SceneFault) → i < length ds → x ≡ get_or ds i d → g ≡ given fields (number + i)
    → all ≡ declared_from nodes numbers fields (number + i) (drop i ds) made → declared_value nodes numbers x g ≡ Err e → all ≡ Err e
values-fault nodes numbers fields number ds i d x g made e all h same is so_far holds =
    let held : declared_value nodes numbers (get_or ds i d) (given fields (number + i)) ≡ Err e =
    ap (λ w. declared_value nodes numbers w (given fields (number + i))) (sym same) ∙ ap (λ w. declared_value nodes numbers x w) (sym is) ∙ holds in
    so_far ∙ values-step nodes numbers fields number ds i d made h
    ∙ ap (λ r. r >>= λ w. declared_from nodes numbers fields (number + (i + 1)) (drop (i + 1) ds) (made ++ w ∷ [])) held

-- the same by what the calls answered
pub values-next : (nodes : List FlatNode) (numbers : List ℕ) (fields : List FlatField) (number : ℕ) (ds : List (Declaration ℕ)) (i : ℕ) (x : Declaration ℕ) (g : Option FlatField)
    (made more : List (Option Value)) (o : Result (Option Value) SceneFault) (all : Result (List (Option Value)) SceneFault) → i < length ds → x ≡ get_or ds i x → g ≡ given fields (number + i)
    → all ≡ declared_from nodes numbers fields (number + i) (drop i ds) made → Gives memory (λ v. v) o (declared_value nodes numbers x g) → with_item made o ≡ Ok more
    → all ≡ declared_from nodes numbers fields (number + (i + 1)) (drop (i + 1) ds) more
values-next nodes numbers fields number ds i x g made more (Ok v) all h same is so_far gives made_is =
    let behind : made ++ v ∷ [] ≡ more = cc made_is in
    subst (λ vs. all ≡ declared_from nodes numbers fields (number + (i + 1)) (drop (i + 1) ds) vs) behind
    (values-more nodes numbers fields number ds i x x g made v all h same is so_far gives)
values-next nodes numbers fields number ds i x g made more (Err e) all h same is so_far gives made_is = cc made_is

pub values-stop : (nodes : List FlatNode) (numbers : List ℕ) (fields : List FlatField) (number : ℕ) (ds : List (Declaration ℕ)) (i : ℕ) (x : Declaration ℕ) (g : Option FlatField)
    (made : List (Option Value)) (o : Result (Option Value) SceneFault) (f : SceneFault) (all : Result (List (Option Value)) SceneFault) → i < length ds → x ≡ get_or ds i x
    → g ≡ given fields (number + i) → all ≡ declared_from nodes numbers fields (number + i) (drop i ds) made → Gives memory (λ v. v) o (declared_value nodes numbers x g)
    → (f ≡ memory) ⊎ (with_item made o ≡ Err f) → (f ≡ memory) ⊎ (all ≡ Err f)
values-stop nodes numbers fields number ds i x g made o f all h same is so_far gives (inl m) = inl m
values-stop nodes numbers fields number ds i x g made (Ok v) f all h same is so_far gives (inr p) = cc p
values-stop nodes numbers fields number ds i x g made (Err e) f all h same is so_far (inl m) (inr p) = let one : e ≡ f = cc p in inl (sym one ∙ m)
values-stop nodes numbers fields number ds i x g made (Err e) f all h same is so_far (inr q) (inr p) =
    let one : e ≡ f = cc p in
    inr (values-fault nodes numbers fields number ds i x x g made e all h same is so_far q ∙ ap Err one)

-- ---- nodes

parts-cons : (fields : List FlatField) (number next : ℕ) (d : Declaration ℕ) (ds : List (Declaration ℕ)) → number + 1 ≡ next
    → parts_from fields number (map declaration_entry (d ∷ ds)) ≡ parts_in d.field_type (given fields number) ++ parts_from fields next (map declaration_entry ds)
parts-cons fields number next d ds e = ap (λ k. parts_in d.field_type (given fields number) ++ parts_from fields k (map declaration_entry ds)) e

parts-step : (fields : List FlatField) (number : ℕ) (ds : List (Declaration ℕ)) (i : ℕ) (d : Declaration ℕ) → i < length ds
    → parts_from fields (number + i) (map declaration_entry (drop i ds))
    ≡ parts_in (get_or ds i d).field_type (given fields (number + i)) ++ parts_from fields (number + (i + 1)) (map declaration_entry (drop (i + 1) ds))
parts-step fields number ds i d h =
    ap (λ xs. parts_from fields (number + i) (map declaration_entry xs)) (drop-step ds i d h)
    ∙ parts-cons fields (number + i) (number + (i + 1)) (get_or ds i d) (drop (i + 1) ds) (omega arith)

pub parts-next : (fields : List FlatField) (number : ℕ) (ds : List (Declaration ℕ)) (i : ℕ) (x : Declaration ℕ) (g : Option FlatField) (out more all : List ℕ) → i < length ds
    → g ≡ given fields (number + i) → more ≡ out ++ parts_in (get_or ds i x).field_type g → out ++ parts_from fields (number + i) (map declaration_entry (drop i ds)) ≡ all
    → more ++ parts_from fields (number + (i + 1)) (map declaration_entry (drop (i + 1) ds)) ≡ all
parts-next fields number ds i x g out more all h is pushed so_far =
    let rest : List ℕ = parts_from fields (number + (i + 1)) (map declaration_entry (drop (i + 1) ds)) in
    ap (λ ns. ns ++ rest) pushed ∙ append_assoc out (parts_in (get_or ds i x).field_type g) rest
    ∙ ap (λ o. out ++ (parts_in (get_or ds i x).field_type o ++ rest)) is
    ∙ ap (λ ns. out ++ ns) (sym (parts-step fields number ds i x h)) ∙ so_far
