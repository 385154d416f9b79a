-- What a node of the walk is, by what its callees returned.
use Rattle.std.proofs.Common.{◌≡◌, ℕ, List, Option, Some, Result, IfOk, ap, sym, subst, ◌∙◌}
use Rattle.classic_tree.specs.declared.tree.BodyItem.{BodyItem}
use Rattle.classic_tree.specs.declared.tree.NodeText.{NodeText}
use Rattle.classic_tree.specs.declared.tree.NodeText.TheVariants as node
use Rattle.proto_blame.specs.Blames.{blame}
use Rattle.proto_blame.specs.Blamed.{kept_in, holder, item_blamed, node_blamed}
use Rattle.proto_blame.proofs.Equations.{node_blamed-full}

abbrev full_by : ℕ → List ℕ → ℕ → List BodyItem → Option NodeText
full_by at word line items = Some (node.Full at (blame line) word items)

pub node_is : {E : Type 0} (n : NodeText) (at : ℕ) (name : Option (List ℕ)) (word own : List ℕ) (items xs kept : List BodyItem) (held line : ℕ) (r : Result (Option NodeText) E)
    → n ≡ node.Full at name word items → own ≡ word → held ≡ holder at own → xs ≡ items → kept ≡ kept_in (λ i. item_blamed i held) xs
    → IfOk r (λ x. x ≡ Some (node.Full at (blame line) word kept)) → IfOk r (λ x. x ≡ node_blamed n line)
node_is n at name word own items xs kept held line r is same by whole each h =
    subst (λ y. IfOk r (λ x. x ≡ y))
    (ap (full_by at word line) (each ∙ ap (λ ys. kept_in (λ i. item_blamed i held) ys) whole ∙ ap (λ k. kept_in (λ i. item_blamed i k) items) (by ∙ ap (holder at) same))
    ∙ sym (ap (λ w. node_blamed w line) is ∙ node_blamed-full at name word items line)) h
