-- One part of a document's text after another: the state between them, and what a part does if it
-- is added (our choice).
use Rattle.std.specs.Prelude.{ℕ, List, [], ◌∷◌, ◌++◌, Result, Ok, Err}
use Rattle.classic_tree.specs.declared.tree.Given.{Given}
use Rattle.classic_tree.specs.declared.tree.RawValue.{RawValue}
use Rattle.classic_tree.specs.declared.tree.RawValue.TheVariants as value
use Rattle.proto_flat.specs.Fault.{fault}
use Rattle.proto_flat.specs.declared.fault.ExpandFault.{ExpandFault}
use Rattle.proto_flat.specs.declared.fault.ExpandFaultKind.{ExpandFaultKind}
use Rattle.proto_meaning.specs.Limits.{Met, Outcome, follow, and_then}
use Rattle.proto_meaning.specs.Names.{Name, Scope}
use Rattle.proto_meaning.specs.Sight.{Put, Sight, Look, each, aside, nodes_in, taking, Search}

-- ---- one part after the other

-- the state between two parts: what was added, what is in sight (`taken` stays empty here), and the
-- name scope
pub record Walk : Type 0 where
  pub put : Put
  pub sight : Sight
  pub scope : Scope

-- what a part of the text does: it returns an A and the next state, or ends with a fault
abbrev pub Does : Type 0 → Type 0
Does A = Walk → Outcome (A × Walk)

-- one part after the other; the second uses what the first returns
infixl 10 ◌>>=◌
abbrev pub ◌>>=◌ : {A B : Type 0} → Does A → (A → Does B) → Does B
m >>= f = λ w. and_then (m w) (λ p. f p.0 p.1)

-- an outcome in which nothing is counted
abbrev pub comes : {A : Type 0} → Result A ExpandFault → Outcome A
comes result = record { met = []; comes = result }

-- returns `a`, and changes nothing
abbrev pub pure : {A : Type 0} → A → Does A
pure a = λ w. comes (Ok (a, w))

abbrev pub refuse : {A : Type 0} → ExpandFaultKind → ℕ → Does A
refuse kind line = λ w. comes (Err (fault kind line))

-- for each of the list in turn, from what the one before returned
abbrev pub through : {A X : Type 0} → (A → X → Does X) → List A → X → Does X
through f [] x = pure x
through f (a ∷ rest) x = f a x >>= through f rest

-- counts one thing
abbrev pub meet : Met → Does (Unit {0})
meet m = λ w. record { met = m ∷ []; comes = Ok (tt, w) }

-- changes what is in sight, and nothing else
abbrev pub see : Look → Does (Unit {0})
see step = λ w. follow [] (step w.sight) (λ s. comes (Ok (tt, record w { sight = s })))

-- changes the name scope, and returns `a`
abbrev pub note : {A : Type 0} → A → (Scope → Scope) → Does A
note a f = λ w. comes (Ok (a, record w { scope = f w.scope }))

-- ---- the parts of a tree

-- what each part of the tree has: `finds`, the search for an instance of a PROTO inside that PROTO;
-- `sees`, what the part declares and takes, added or not; and `does`, what it does if it is added
pub record Part (S D : Type 0) : Type 0 where
  pub finds : Name → Search
  pub sees : S
  pub does : D

abbrev pub part : {S D : Type 0} → (Name → Search) → S → D → Part S D
part finds sees does = record { finds = finds; sees = sees; does = does }

-- a node of the text; adding it returns its number
abbrev pub Node : Type 0
Node = Part Look (Does ℕ)

abbrev pub nothing_found : Name → Search
nothing_found own hidden = Ok hidden

abbrev pub given_finds : Given Node → Name → Search
given_finds g own = each (λ n. n.finds own) (nodes_in g)

abbrev pub given_sees : Given Node → Look
given_sees g s = each (λ n. n.sees) (nodes_in g) (record s { taken = taking g s.taken })

-- leaves out a value that no IS takes, with all that is inside; but its PROTOs come in sight
abbrev pub leave_out : Given Node → Does (Unit {0})
leave_out g = see (aside (given_sees g))

-- adds the nodes in a value; in the value returned, their numbers replace them
abbrev pub put_in : RawValue Node → Does (RawValue ℕ)
put_in value.Null = pure value.Null
put_in (value.Truth truth) = pure (value.Truth truth)
put_in (value.String text) = pure (value.String text)
put_in (value.Numbers numbers) = pure (value.Numbers numbers)
put_in (value.Node node) = node.does >>= λ n. pure (value.Node n)
put_in value.EmptyList = pure value.EmptyList
put_in (value.TruthList truths) = pure (value.TruthList truths)
put_in (value.StringList texts) = pure (value.StringList texts)
put_in (value.NumberList numbers) = pure (value.NumberList numbers)
put_in (value.NodeList nodes) =
    through (λ node ns. node.does >>= λ n. pure (ns ++ n ∷ [])) nodes []
    >>= λ ns. pure (value.NodeList ns)
