-- Trees in a row: what is made so far, and what is left.
use Rattle.std.proofs.Common.{◌≡◌, true, false, List, [], ◌∷◌, ◌++◌, Option, Some, None, Ok, Err, refl, ap, sym, ◌∙◌, subst, true≢false}
use Rattle.std.specs.Prelude.{is_some}
use Rattle.std.proofs.lemmas.List.{append-nil, append_assoc}
use Rattle.proto_flat.specs.declared.fault.ExpandFault.{ExpandFault}
use Rattle.proto_meaning.specs.Sight.{Prototype, Sight}
use Rattle.proto_meaning.specs.trees.Resolved.{Seen, wrong_in}
use Rattle.proto_resolver.specs.declared.resolver.Resolver.{Resolver}
use Rattle.proto_resolver.specs.Standing.{Resolves}
use Rattle.proto_resolver.specs.Parts.{Before}
use Rattle.proto_resolver.proofs.Standing.{stays, behind, weaker}

pub none_of : {X : Type 0} (o : Option X) → is_some o ≡ false → o ≡ None
none_of None e = refl
none_of (Some x) e = absurd (true≢false e)

module _ {X T : Type 0} where
  before_first : (are : List X → List T → Sight → Seen → Type 0) (xs : List X) (s : Sight) → Before are xs xs [] s (Ok s)
  before_first are xs s trees r h = h

  before_then : (are : List X → List T → Sight → Seen → Type 0) (xs mid rest : List X) (made more : List T) (s u : Sight) (r : Seen) → Before are xs mid made s (Ok u) → Before are mid rest more u r → Before are xs rest (made ++ more) s r
  before_then are xs mid rest made more s u r first second trees q h = subst (λ ts. are xs ts s q) (sym (append_assoc made more trees)) (first (more ++ trees) q (second trees q h))

  before_last : (are : List X → List T → Sight → Seen → Type 0) (xs : List X) (made : List T) (s u : Sight) → are [] [] u (Ok u) → Before are xs [] made s (Ok u) → are xs made s (Ok u)
  before_last are xs made s u none h = subst (λ ts. are xs ts s (Ok u)) (append-nil made) (h [] (Ok u) none)

  before_wrong : (are : List X → List T → Sight → Seen → Type 0) (xs rest : List X) (made : List T) (s : Sight) (e : ExpandFault) → Before are xs rest made s (Err e) → are xs made s (Err e)
  before_wrong are xs rest made s e h = subst (λ ts. are xs ts s (Err e)) (append-nil made) (h [] (Err e) (refl, refl))

  module _ (are : List Prototype → List X → List T → Sight → Seen → Type 0) where
    -- what is behind the trees that are made
    abbrev pub Made : List X → List X → List T → List Prototype → Sight → Seen → Type 0
    Made xs rest made ps s r = Before (are ps) xs rest made s r

    pub row_first : (old : Resolver) (xs : List X) → Resolves old old None (Made xs xs [])
    row_first old xs = stays old (Made xs xs []) (λ all s. before_first (are all) xs s)

    pub row_then : (old mid new : Resolver) (wrong : Option ExpandFault) (xs left rest : List X) (made more : List T) → Resolves old mid None (Made xs left made) → Resolves mid new wrong (Made left rest more) → Resolves old new wrong (Made xs rest (made ++ more))
    row_then old mid new wrong xs left rest made more =
        behind old mid new wrong (Made xs left made) (Made left rest more) (Made xs rest (made ++ more)) (λ all s u r h k. before_then (are all) xs left rest made more s u r h k)

    pub row_last : (old new : Resolver) (xs : List X) (made : List T) → ((all : List Prototype) (u : Sight) → are all [] [] u (Ok u)) → Resolves old new None (Made xs [] made) → Resolves old new None (λ ps s r. are ps xs made s r)
    row_last old new xs made none = weaker old new None (Made xs [] made) (λ ps s r. are ps xs made s r) (λ ps all s r shows x e h. by_seen all s r e h) where
      by_seen : (all : List Prototype) (s : Sight) (r : Seen) → None ≡ wrong_in r → Before (are all) xs [] made s r → are all xs made s r
      by_seen all s (Ok u) e h = before_last (are all) xs made s u (none all u) h
      by_seen all s (Err x) e h = absurd (true≢false (sym (ap is_some e)))

    pub row_wrong : (old new : Resolver) (wrong : Option ExpandFault) (xs rest : List X) (made : List T) → is_some wrong ≡ true → Resolves old new wrong (Made xs rest made) → Resolves old new wrong (λ ps s r. are ps xs made s r)
    row_wrong old new wrong xs rest made is = weaker old new wrong (Made xs rest made) (λ ps s r. are ps xs made s r) (λ ps all s r shows x e h. by_seen all s r e h) where
      by_seen : (all : List Prototype) (s : Sight) (r : Seen) → wrong ≡ wrong_in r → Before (are all) xs rest made s r → are all xs made s r
      by_seen all s (Ok u) e h = absurd (true≢false (sym is ∙ ap is_some e))
      by_seen all s (Err x) e h = before_wrong (are all) xs rest made s x h

    -- one part more
    pub row_step : (old mid new : Resolver) (wrong : Option ExpandFault) (xs left rest : List X) (x : X) (made more all : List T) → left ≡ x ∷ rest → all ≡ made ++ more
        → Resolves old mid None (Made xs left made) → Resolves mid new wrong (Made (x ∷ rest) rest more) → Resolves old new wrong (Made xs rest all)
    row_step old mid new wrong xs left rest x made more all e f first second =
        subst (λ ts. Resolves old new wrong (Made xs rest ts)) (sym f)
        (row_then old mid new wrong xs (x ∷ rest) rest made more (subst (λ ys. Resolves old mid None (Made xs ys made)) e first) second)
