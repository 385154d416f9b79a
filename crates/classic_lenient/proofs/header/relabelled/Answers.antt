use Rattle.std.proofs.Common.{◌≡◌, List, ℕ, ◌++◌, [], ap, ◌∙◌, take, drop, ◌+◌}
use Rattle.std.proofs.lemmas.List.{take_rest}
use Rattle.classic_lenient.specs.VrmlHeader.{relabelled}
use Rattle.classic_lenient.proofs.header.relabelled.Goals as goal

joined : (none a b d front head back rest : List ℕ) → none ≡ [] → a ≡ none ++ front → b ≡ a ++ head → d ≡ b ++ rest → rest ≡ back → d ≡ front ++ head ++ back
joined none a b d front head back rest n e f g r = g ∙ ap (λ x. b ++ x) r ∙ ap (λ x. x ++ back) (f ∙ ap (λ x. x ++ head) (e ∙ ap (λ x. x ++ front) n))

pub returns : goal.returns
unfolding relabelled
returns c = joined _ _ _ _ (take c.args.mark c.args.text.now) _ (drop (c.args.mark + 15) c.args.text.now) _ c.new-made.ensures.items c.in_ok-extend_from_slice.ensures.items c.in_ok-extend_from_slice-2.ensures.items c.in_ok-extend_from_slice-3.ensures.items (take_rest c.args.text.now (c.args.mark + 15))
