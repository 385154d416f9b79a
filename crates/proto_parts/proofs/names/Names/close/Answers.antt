use Rattle.std.proofs.Common.{◌≡◌, ◌++◌, ◌∷◌, None, rules, subst, sym, ap, ◌∙◌}
use Rattle.proto_parts.specs.Names.{Knows, opened, closed, is_later}
use Rattle.proto_parts.proofs.Scopes.{closes-nameless, closes-before, closes-last}
use Rattle.proto_parts.proofs.names.Names.close.Goals as goal

pub returns-in_default : goal.returns-in_default
returns-in_default c =
    let none : c.args.name.now ≡ None = search rules in
    λ before after what is same k. subst (λ n. Knows c.args.self.now (before ++ closed n what ∷ after)) (sym none)
    (closes-nameless c.args.self.now c.args.at what before after is (subst (λ n. Knows c.args.self.now (before ++ opened n ∷ after)) none k))

pub returns-then-is_later : goal.returns-then-is_later
returns-then-is_later c =
    λ before after what is same k. subst (λ n. Knows c.args.self.now (before ++ closed n what ∷ after)) (sym c.in-Some.is)
    (closes-before c.args.self.now c.in-Some.name c.args.at what before after is (ap (λ o. is_later o c.args.at) (sym c.closed.ensures) ∙ sym c.is_later.ensures ∙ c.if-is_later.true)
    (subst (λ n. Knows c.args.self.now (before ++ opened n ∷ after)) c.in-Some.is k))

pub returns : goal.returns
returns c =
    λ before after what is same k. subst (λ n. Knows c.know_closed.new.self (before ++ closed n what ∷ after)) (sym c.in-Some.is)
    (closes-last c.args.self.now c.know_closed.new.self c.in-Some.name c.args.at c.args.node what before after is same
    (ap (λ o. is_later o c.args.at) (sym c.closed.ensures) ∙ sym c.is_later.ensures ∙ c.if-is_later.false)
    c.in_ok-know_closed.ensures.begun c.in_ok-know_closed.ensures.closed
    (subst (λ n. Knows c.args.self.now (before ++ opened n ∷ after)) c.in-Some.is k))
