-- Default values: the tree does what the text does.
use Rattle.std.proofs.Common.{◌≡◌, ℕ, Bool, true, false, List, [], ◌∷◌, ◌++◌, Some, Result, Ok, Err, map, refl, ap, sym, ◌∙◌, subst, true≢false}
use Rattle.std.specs.Prelude.{if◌then◌else◌, ◌&&◌, is_none}
use Rattle.std.specs.Borrow.{Bor}
use Rattle.std.specs.List.{AllByRecursion}
use Rattle.classic_tree.specs.declared.tree.Declaration.{Declaration}
use Rattle.classic_tree.specs.declared.tree.Given.{Given}
use Rattle.classic_tree.specs.declared.tree.Given.TheVariants as given
use Rattle.classic_tree.specs.declared.tree.NodeText.{NodeText}
use Rattle.classic_tree.specs.declared.tree.RawValue.{RawValue}
use Rattle.classic_tree.specs.declared.tree.RawValue.TheVariants as value
use Rattle.classic_tree.proofs.Mapped.{given_mapped, interface_mapped}
use Rattle.proto_flat.specs.declared.fault.ExpandFault.{ExpandFault}
use Rattle.proto_meaning.specs.Names.{Filled, value_of}
use Rattle.proto_meaning.specs.Sight.{Sight, Names, Prototype, and_see, each, aside, nodes_in}
use Rattle.proto_meaning.specs.Sight as sight
use Rattle.proto_meaning.specs.Flat as flat
use Rattle.proto_meaning.specs.Flat.{Walk, Does, ◌>>=◌, pure, through, put_in, leave_out, Node}
use Rattle.proto_meaning.proofs.SightLaw.{Any, After, Free, Follows, GoodNode, bare, bared, each_free, then_follows, then_still, see_follows, aside_free}
use Rattle.proto_meaning.specs.declared.tree.DefaultTree.{DefaultTree}
use Rattle.proto_meaning.specs.trees.Given.{GivenTree}
use Rattle.proto_meaning.specs.declared.tree.GivenTree.TheVariants as tree
use Rattle.proto_meaning.specs.declared.tree.NodeTree.{NodeTree}
use Rattle.proto_meaning.specs.trees.Values.{plain}
use Rattle.proto_meaning.specs.trees.Meaning.{node, value_in, with_given, default}
use Rattle.proto_meaning.specs.trees.Resolved as rule
use Rattle.proto_meaning.specs.trees.Resolved.{Seen, IsGiven, AreDefaults, is_value, is_plain, given_sees}
use Rattle.proto_meaning.proofs.Same.{Same, in_bared, never, same_then, same_last, same_seen}
use Rattle.proto_meaning.proofs.Good.{every_given}
use Rattle.proto_meaning.proofs.Given.{put_next, put_next_follows, given_free, sees_given}
use Rattle.proto_meaning.proofs.Whole.{node_means, nodes_mean, given_means}

-- ---- how far a default goes

free_of : (ns : List Node) → AllByRecursion GoodNode ns → AllByRecursion (λ (n : Node). Free n.sees) ns
free_of [] h = tt
free_of (n ∷ ns) h = (h.0.free, free_of ns h.1)

after_as : {A : Type 0} (c : Result (A × Walk) ExpandFault) (x y : Seen) → bared x ≡ bared y → After Any c x → After Any c y
after_as (Ok p) x y e h = (tt, sym e ∙ h.1)
after_as (Err f) x y e h = tt

nodes_follow : (ns : List Node) (so_far : List ℕ) → AllByRecursion GoodNode ns → Follows Any (through put_next ns so_far) (each (λ (n : Node). n.sees) ns)
nodes_follow [] so_far h w = (tt, refl)
nodes_follow (n ∷ ns) so_far h w =
    then_follows Any Any (put_next n so_far) (through put_next ns) n.sees (each (λ (k : Node). k.sees) ns) (each_free (λ (k : Node). k.sees) ns (free_of ns h.1)) (put_next_follows n so_far h.0) (λ more _. nodes_follow ns more h.1) w

value_follows : (v : RawValue Node) → AllByRecursion GoodNode (nodes_in (given.Value v)) → Follows Any (put_in v) (each (λ (n : Node). n.sees) (nodes_in (given.Value v)))
value_follows value.Null h w = (tt, refl)
value_follows (value.Truth truth) h w = (tt, refl)
value_follows (value.String text) h w = (tt, refl)
value_follows (value.Numbers numbers) h w = (tt, refl)
value_follows (value.Node n) h w = then_follows Any Any n.does (λ k. pure (value.Node k)) n.sees (each (λ (k : Node). k.sees) []) (λ s. refl) h.0.follows (λ k _ v. (tt, refl)) w
value_follows value.EmptyList h w = (tt, refl)
value_follows (value.TruthList truths) h w = (tt, refl)
value_follows (value.StringList texts) h w = (tt, refl)
value_follows (value.NumberList numbers) h w = (tt, refl)
value_follows (value.NodeList ns) h w = then_still Any Any (through put_next ns []) (λ ks. pure (value.NodeList ks)) (each (λ (k : Node). k.sees) ns) (nodes_follow ns [] h) (λ ks _ v. (tt, refl)) w

put_follows : (d : Declaration Node) (filled : List Filled) (g : Given Node) → AllByRecursion GoodNode (nodes_in g) → Follows Any (flat.put_default d filled g) (each (λ (n : Node). n.sees) (nodes_in g))
put_follows d filled (given.Value v) h = then_still Any Any (put_in v) (λ r. pure (filled ++ record { line = d.line; name = d.name; number = 0; value = Some r } ∷ [])) (each (λ (n : Node). n.sees) (nodes_in (given.Value v))) (value_follows v h) (λ r _ w. (tt, refl))
put_follows d filled given.Nothing h = λ w. (tt, refl)
put_follows d filled (given.Is name) h = λ w. (tt, refl)

-- but for what is taken a default sees what its nodes do
nodes_see : (g : Given Node) (s : Sight) → AllByRecursion GoodNode (nodes_in g) → bared (each (λ (n : Node). n.sees) (nodes_in g) s) ≡ bared (flat.given_sees g s)
nodes_see g s h = each_free (λ (n : Node). n.sees) (nodes_in g) (free_of (nodes_in g) h) s ∙ sym (each_free (λ (n : Node). n.sees) (nodes_in g) (free_of (nodes_in g) h) (record s { taken = sight.taking g s.taken }))

aside_sees : (r : Seen) (s : Sight) → bared (and_see r (λ t. Ok (record t { taken = s.taken }))) ≡ bared r
aside_sees (Ok t) s = refl
aside_sees (Err e) s = refl

leaves_see : (g : Given Node) (s : Sight) → AllByRecursion GoodNode (nodes_in g) → bared (aside (flat.given_sees g) s) ≡ bared (flat.given_sees g s)
leaves_see g s h = aside_sees (flat.given_sees g (bare s)) s ∙ sym (given_free g h s)

abbrev pub one_default : Bool → Declaration Node → List Filled → Does (List Filled)
one_default free d filled = if free then flat.put_default d filled d.given else leave_out d.given >>= λ _. pure filled

pub default_follows : (free : Bool) (d : Declaration Node) (filled : List Filled) → AllByRecursion GoodNode (nodes_in d.given) → Follows Any (one_default free d filled) (flat.given_sees d.given)
default_follows true d filled h w = after_as (flat.put_default d filled d.given w).comes (each (λ (n : Node). n.sees) (nodes_in d.given) w.sight) (flat.given_sees d.given w.sight) (nodes_see d.given w.sight h) (put_follows d filled d.given h w)
default_follows false d filled h w =
    after_as ((leave_out d.given >>= λ _. pure filled) w).comes (aside (flat.given_sees d.given) w.sight) (flat.given_sees d.given w.sight) (leaves_see d.given w.sight h)
    (then_still Any Any (leave_out d.given) (λ _. pure filled) (aside (flat.given_sees d.given)) (see_follows (aside (flat.given_sees d.given))) (λ _ _ v. (tt, refl)) w)

-- ---- one default

value_same : (d : Declaration NodeText) (filled : List Filled) (s : Sight) (v u : RawValue Node) → Same s (put_in v) (put_in u)
    → Same s (flat.put_default (with_given d (given.Value v)) filled (given.Value v)) (flat.put_default (with_given d (given.Value u)) filled (given.Value u))
value_same d filled s v u h =
    same_last (put_in v) (put_in u) (λ r. pure (filled ++ record { line = d.line; name = d.name; number = 0; value = Some r } ∷ [])) (λ r. pure (filled ++ record { line = d.line; name = d.name; number = 0; value = Some r } ∷ [])) s h (λ r w. refl)

abbrev PutSame : List Prototype → Declaration NodeText → List Filled → Sight → Given NodeText → GivenTree NodeTree → Type 0
PutSame ps d filled s g t =
    Same s (flat.put_default (with_given d (given_mapped flat.node g)) filled (given_mapped flat.node g)) (flat.put_default (with_given d (value_in ps t)) filled (value_in ps t))

plain_put : (ps : List Prototype) (d : Declaration NodeText) (filled : List Filled) (s : Sight) (v : Bor (RawValue NodeText)) → is_plain v.now ≡ true → PutSame ps d filled s (given.Value v.now) (tree.Plain v)
plain_put ps d filled s v p = by_value v.now p where
  by_value : (x : RawValue NodeText) → is_plain x ≡ true
      → Same s (flat.put_default (with_given d (given_mapped flat.node (given.Value x))) filled (given_mapped flat.node (given.Value x))) (flat.put_default (with_given d (given.Value (plain x))) filled (given.Value (plain x)))
  by_value value.Null p = λ w e. refl
  by_value (value.Truth truth) p = λ w e. refl
  by_value (value.String text) p = λ w e. refl
  by_value (value.Numbers numbers) p = λ w e. refl
  by_value (value.Node n) p = absurd (true≢false (sym p))
  by_value value.EmptyList p = λ w e. refl
  by_value (value.TruthList truths) p = λ w e. refl
  by_value (value.StringList texts) p = λ w e. refl
  by_value (value.NumberList numbers) p = λ w e. refl
  by_value (value.NodeList ns) p = absurd (true≢false (sym p))

put_same : (ps : List Prototype) (d : Declaration NodeText) (filled : List Filled) (kept : Bool) (g : Given NodeText) (t : GivenTree NodeTree) (s : Sight) (r : Seen) → kept ≡ true → IsGiven ps kept g t s r → PutSame ps d filled s g t
put_same ps d filled kept g t s r k (rule.nothing _ _) = λ w e. refl
put_same ps d filled kept g t s r k (rule.is _ name _) = λ w e. refl
put_same ps d filled kept g t s r k (rule.plain v _ h) = plain_put ps d filled s v h
put_same ps d filled kept g t s r k (rule.one n x _ _ h) =
    value_same d filled s (value.Node (flat.node n)) (value.Node (node ps x)) (same_last (flat.node n).does (node ps x).does (λ m. pure (value.Node m)) (λ m. pure (value.Node m)) s (node_means ps n x s r h).does (λ m w. refl))
put_same ps d filled kept g t s r k (rule.many ns ts _ _ h) =
    value_same d filled s (value.NodeList (map flat.node ns)) (value.NodeList (map (node ps) ts))
    (same_last (through put_next (map flat.node ns) []) (through put_next (map (node ps) ts) []) (λ ms. pure (value.NodeList ms)) (λ ms. pure (value.NodeList ms)) s ((nodes_mean ps ns ts s r h).does []) (λ ms w. refl))
put_same ps d filled kept g t s r k (rule.left_out v _ _ h) = absurd (true≢false (sym k))

-- a value that is left out is right
left_right : (g : Given Node) (filled : List Filled) (s u : Sight) → AllByRecursion GoodNode (nodes_in g) → flat.given_sees g s ≡ Ok u → Same s (leave_out g >>= λ _. pure filled) (pure filled)
left_right g filled s u h e =
    same_seen (aside (flat.given_sees g)) (λ _. pure filled) (pure filled) s (Ok u) (aside_free (flat.given_sees g) (given_free g h)) (leaves_see g s h ∙ ap bared e) (λ t _ w k. refl) (λ x y v. never u x (sym y))

pub record DefaultsSame (takes : Names) (s : Sight) (ds : List (Declaration Node)) (f : List DefaultTree → List Filled → Does (List Filled)) (ts : List DefaultTree) (v : Sight) : Type 0 where
  pub sees : each (λ (d : Declaration Node). flat.given_sees d.given) ds s ≡ Ok v
  pub does : (filled : List Filled) → Same s (through (flat.default takes) ds filled) (f ts filled)

module _ (ps : List Prototype) (takes : Names) where
  abbrev pub SameDefaults : List (Declaration NodeText) → List DefaultTree → Sight → Sight → Type 0
  SameDefaults ds ts s v = DefaultsSame takes s (map (interface_mapped flat.node) ds) (through (default ps)) ts v

  kept_same : (d : Declaration NodeText) (t : GivenTree NodeTree) (s u : Sight) (filled : List Filled) (some free : Bool) → some ≡ true → IsGiven ps true d.given t s (Ok u) → flat.given_sees (given_mapped flat.node d.given) s ≡ Ok u
      → Same s (if some && free then flat.put_default (interface_mapped flat.node d) filled (given_mapped flat.node d.given) else leave_out (given_mapped flat.node d.given) >>= λ _. pure filled)
      (if free then flat.put_default (with_given d (value_in ps t)) filled (value_in ps t) else pure filled)
  kept_same d t s u filled true true k h e = put_same ps d filled true d.given t s (Ok u) refl h
  kept_same d t s u filled true false k h e = left_right (given_mapped flat.node d.given) filled s u (every_given d.given) e
  kept_same d t s u filled false free k h e = absurd (true≢false (sym k))

  kept_default : (d : Bor (Declaration NodeText)) (t : GivenTree NodeTree) (ds : List (Declaration NodeText)) (ts : List DefaultTree) (s u v : Sight) → takes d.now.name ≡ true → IsGiven ps true d.now.given t s (Ok u) → SameDefaults ds ts u v
      → SameDefaults (d.now ∷ ds) (record { declaration = d; value = t } ∷ ts) s v
  kept_default d t ds ts s u v k h rest =
      let sees = (given_means ps true d.now.given t s (Ok u) h).sees in
      record {
        sees = ap (λ r. and_see r (each (λ (x : Declaration Node). flat.given_sees x.given) (map (interface_mapped flat.node) ds))) sees ∙ rest.sees;
        does = λ filled. same_then Any (flat.default takes (interface_mapped flat.node d.now) filled) (default ps (record { declaration = d; value = t }) filled) (through (flat.default takes) (map (interface_mapped flat.node) ds)) (through (default ps) ts)
            (flat.given_sees (given_mapped flat.node d.now.given)) s (Ok u) (given_free (given_mapped flat.node d.now.given) (every_given d.now.given))
            (default_follows (takes d.now.name && is_none (value_of d.now.name filled)) (interface_mapped flat.node d.now) filled (every_given d.now.given)) (ap bared sees)
            (kept_same d.now t s u filled (takes d.now.name) (is_none (value_of d.now.name filled)) k h sees)
            (λ x e a _. subst (λ y. Same y (through (flat.default takes) (map (interface_mapped flat.node) ds) a) (through (default ps) ts a)) (in_bared u x e) (rest.does a));
      }

  -- nothing is put in
  nothing_put : (d : Declaration NodeText) (g : Given NodeText) (filled : List Filled) (s u : Sight) (some free : Bool) → (some && is_value g) ≡ false → flat.given_sees (given_mapped flat.node g) s ≡ Ok u
      → Same s (if some && free then flat.put_default (interface_mapped flat.node d) filled (given_mapped flat.node g) else leave_out (given_mapped flat.node g) >>= λ _. pure filled) (pure filled)
  nothing_put d g filled s u false free k e = left_right (given_mapped flat.node g) filled s u (every_given g) e
  nothing_put d g filled s u true false k e = left_right (given_mapped flat.node g) filled s u (every_given g) e
  nothing_put d given.Nothing filled s u true true k e = λ w i. refl
  nothing_put d (given.Is name) filled s u true true k e = λ w i. refl
  nothing_put d (given.Value v) filled s u true true k e = absurd (true≢false k)

  left_default : (d : Declaration NodeText) (ds : List (Declaration NodeText)) (ts : List DefaultTree) (s u v : Sight) → (takes d.name && is_value d.given) ≡ false → given_sees d.given s ≡ Ok u → SameDefaults ds ts u v → SameDefaults (d ∷ ds) ts s v
  left_default d ds ts s u v k h rest =
      let sees = sees_given d.given s ∙ h in
      record {
        sees = ap (λ r. and_see r (each (λ (x : Declaration Node). flat.given_sees x.given) (map (interface_mapped flat.node) ds))) sees ∙ rest.sees;
        does = λ filled. same_then Any (flat.default takes (interface_mapped flat.node d) filled) (pure filled) (through (flat.default takes) (map (interface_mapped flat.node) ds)) (through (default ps) ts)
            (flat.given_sees (given_mapped flat.node d.given)) s (Ok u) (given_free (given_mapped flat.node d.given) (every_given d.given))
            (default_follows (takes d.name && is_none (value_of d.name filled)) (interface_mapped flat.node d) filled (every_given d.given)) (ap bared sees)
            (nothing_put d d.given filled s u (takes d.name) (is_none (value_of d.name filled)) k sees)
            (λ x e a _. subst (λ y. Same y (through (flat.default takes) (map (interface_mapped flat.node) ds) a) (through (default ps) ts a)) (in_bared u x e) (rest.does a));
      }

  pub defaults_mean : (ds : List (Declaration NodeText)) (ts : List DefaultTree) (s v : Sight) → AreDefaults ps takes ds ts s v → SameDefaults ds ts s v
  defaults_mean ds ts s v (rule.no_defaults _) = record { sees = refl; does = λ filled w e. refl }
  defaults_mean ds ts s v (rule.kept d t more trees _ u _ k h rest) = kept_default d t more trees s u v k h (defaults_mean more trees u v rest)
  defaults_mean ds ts s v (rule.left d more _ _ u _ k h rest) = left_default d more ts s u v k h (defaults_mean more ts u v rest)
