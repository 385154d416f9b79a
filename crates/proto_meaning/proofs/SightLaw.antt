-- What is in sight behind a part of a text is what the text declares, whatever is put in and whatever
-- instances give: `does` of a part goes as far as its `sees`.
use Rattle.std.proofs.Common.{◌≡◌, ℕ, Bool, true, false, List, [], ◌∷◌, ◌++◌, Option, Some, None, Result, Ok, Err, refl, ap, sym, ◌∙◌, subst}
use Rattle.std.specs.Prelude.{if◌then◌else◌}
use Rattle.std.specs.List.{AllByRecursion, find}
use Rattle.std.specs.Option.{option_map_or}
use Rattle.classic_tree.specs.declared.tree.RawValue.{RawValue}
use Rattle.classic_tree.specs.declared.tree.RawValue.TheVariants as value
use Rattle.classic_tree.specs.declared.tree.Given.{Given}
use Rattle.classic_tree.specs.declared.tree.Given.TheVariants as given
use Rattle.classic_tree.specs.declared.tree.Declaration.{Declaration}
use Rattle.proto_flat.specs.declared.fault.ExpandFault.{ExpandFault}
use Rattle.std.specs.Prelude.{length, is_some}
use Rattle.classic_tree.specs.declared.tree.BodyItem.TheOpen.{BodyItem-F}
use Rattle.classic_tree.specs.declared.tree.RouteText.{RouteText}
use Rattle.proto_meaning.specs.Limits.{Met, item_count, follow}
use Rattle.proto_meaning.specs.Sight.{Sight, Look, and_see, each, aside, no_names, nodes_in, taking, Owner, taken_by, is_kept, Names}
use Rattle.std.specs.Prelude.{◌||◌}
use Rattle.std.specs.Str.{bytes_eq}
use Rattle.x3d_values.specs.Access.{is_initial}
use Rattle.proto_meaning.specs.Names.{Name, Field, value_of}
use Rattle.proto_flat.specs.declared.fault.ExpandFaultKind.{ExpandFaultKind}
use Rattle.proto_flat.specs.declared.fault.ExpandFaultKind.TheVariants.{UnknownField, BadIs, FieldTwice}
use Rattle.proto_meaning.specs.Flat.{Walk, Does, ◌>>=◌, comes, pure, refuse, through, see, Node, Item, Inside, given_sees, leave_out, put_in, met_field, is_node, fill, fits, join, give_is, give_value, give, Stated, Proto, is_filled, numbered_from, declare_field, is_script, field, item_step}

abbrev pub Seen : Type 0
Seen = Result Sight ExpandFault

-- what ISs took is left out of account
abbrev pub bare : Sight → Sight
bare s = record s { taken = no_names }

abbrev pub bared : Seen → Seen
bared (Ok s) = Ok (bare s)
bared (Err e) = Err e

-- the step declares the same, whatever ISs took before
abbrev pub Free : Look → Type 0
Free step = (s : Sight) → bared (step s) ≡ bared (step (bare s))

abbrev pub After : {A : Type 0} → (A → Type 0) → Result (A × Walk) ExpandFault → Seen → Type 0
After P (Ok p) r = P p.0 × (bared r ≡ Ok (bare p.1.sight))
After P (Err e) r = Unit {0}

abbrev pub Follows : {A : Type 0} → (A → Type 0) → Does A → Look → Type 0
Follows P m step = (w : Walk) → After P (m w).comes (step w.sight)

-- ---- one after the other

abbrev sight_in : Seen → Sight
sight_in (Ok s) = s
sight_in (Err e) = record { here = []; outside = []; taken = no_names }

abbrev is_there : Seen → Bool
is_there (Ok s) = true
is_there (Err e) = false

abbrev Only : Bool → Type 0 → Type 0
Only true G = G
Only false G = Unit {0}

same_after : {A : Type 0} (P : A → Type 0) (c : Result (A × Walk) ExpandFault) (x y : Seen) → bared x ≡ bared y → After P c x → After P c y
same_after P (Ok p) x y e h = (h.0, sym e ∙ h.1)
same_after P (Err f) x y e h = tt

then_after : {A B : Type 0} (P : A → Type 0) (Q : B → Type 0) (f : A → Does B) (q : Look) (met : List Met) (c : Result (A × Walk) ExpandFault) (r : Seen) → Free q → After P c r
    → ((a : A) → P a → Follows Q (f a) q) → After Q (follow met c (λ p. f p.0 p.1)).comes (and_see r q)
then_after P Q f q met (Err e) r free h hf = tt
then_after P Q f q met (Ok p) (Err e) free h hf = subst (λ b. Only b (After Q (f p.0 p.1).comes (Err e))) (ap is_there h.1) tt
then_after P Q f q met (Ok p) (Ok t) free h hf =
    same_after Q (f p.0 p.1).comes (q p.1.sight) (q t) (free p.1.sight ∙ ap (λ s. bared (q s)) (sym (ap sight_in h.1)) ∙ sym (free t)) (hf p.0 h.0 p.1)

pub then_follows : {A B : Type 0} (P : A → Type 0) (Q : B → Type 0) (m : Does A) (f : A → Does B) (p q : Look) → Free q → Follows P m p → ((a : A) → P a → Follows Q (f a) q) → Follows Q (m >>= f) (λ s. and_see (p s) q)
then_follows P Q m f p q free hm hf w = then_after P Q f q (m w).met (m w).comes (p w.sight) free (hm w) hf

-- what changes nothing in sight
abbrev pub still : Look
still s = Ok s

pub still_free : Free still
still_free s = refl

unstill : (r : Seen) → bared (and_see r still) ≡ bared r
unstill (Ok s) = refl
unstill (Err e) = refl

pub then_still : {A B : Type 0} (P : A → Type 0) (Q : B → Type 0) (m : Does A) (f : A → Does B) (p : Look) → Follows P m p → ((a : A) → P a → Follows Q (f a) still) → Follows Q (m >>= f) p
then_still P Q m f p hm hf w = same_after Q ((m >>= f) w).comes (and_see (p w.sight) still) (p w.sight) (unstill (p w.sight)) (then_follows P Q m f p still still_free hm hf w)

pub still_then : {A B : Type 0} (P : A → Type 0) (Q : B → Type 0) (m : Does A) (f : A → Does B) (q : Look) → Free q → Follows P m still → ((a : A) → P a → Follows Q (f a) q) → Follows Q (m >>= f) q
still_then P Q m f q free hm hf w = then_follows P Q m f still q free hm hf w

-- ---- lists

see_after : (r r' : Seen) (q : Look) → Free q → bared r ≡ bared r' → bared (and_see r q) ≡ bared (and_see r' q)
see_after (Ok s) (Ok t) q free e = free s ∙ ap (λ x. bared (q x)) (ap sight_in e) ∙ sym (free t)
see_after (Err a) (Err b) q free e = e
see_after (Ok s) (Err b) q free e = subst (λ x. Only x (bared (q s) ≡ Err b)) (sym (ap is_there e)) tt
see_after (Err a) (Ok t) q free e = subst (λ x. Only x (Err a ≡ bared (q t))) (ap is_there e) tt

pub each_free : {A : Type 0} (f : A → Look) (xs : List A) → AllByRecursion (λ x. Free (f x)) xs → Free (each f xs)
each_free f [] h s = refl
each_free f (x ∷ xs) h s = see_after (f x s) (f x (bare s)) (each f xs) (each_free f xs h.1) (h.0 s)

aside_is : (r : Seen) (s : Sight) → bared (and_see r (λ t. Ok (record t { taken = s.taken }))) ≡ bared r
aside_is (Ok t) s = refl
aside_is (Err e) s = refl

-- what a part declares aside is what it declares
aside_declares : (step : Look) → Free step → (s : Sight) → bared (aside step s) ≡ bared (step s)
aside_declares step free s = aside_is (step (bare s)) s ∙ sym (free s)

pub aside_free : (step : Look) → Free step → Free (aside step)
aside_free step free s = aside_declares step free s ∙ free s ∙ sym (aside_declares step free (bare s))

-- ---- values

abbrev pub Any : {A : Type 0} → A → Type 0
Any a = Unit {0}

pub record GoodNode (n : Node) : Type 0 where
  pub free : Free n.sees
  pub follows : Follows Any n.does n.sees

all_free : (ns : List Node) → AllByRecursion GoodNode ns → AllByRecursion (λ (n : Node). Free n.sees) ns
all_free [] h = tt
all_free (n ∷ ns) h = (h.0.free, all_free ns h.1)

abbrev sees_all : List Node → Look
sees_all ns = each (λ (n : Node). n.sees) ns

sees_free : (ns : List Node) → AllByRecursion GoodNode ns → Free (sees_all ns)
sees_free ns h = each_free (λ (n : Node). n.sees) ns (all_free ns h)

abbrev put_next : Node → List ℕ → Does (List ℕ)
put_next node ns = node.does >>= λ n. pure (ns ++ n ∷ [])

nodes_follow : (ns : List Node) (so_far : List ℕ) → AllByRecursion GoodNode ns → Follows Any (through put_next ns so_far) (sees_all ns)
nodes_follow [] so_far h w = (tt, refl)
nodes_follow (n ∷ ns) so_far h w = then_follows Any Any (put_next n so_far) (through put_next ns) n.sees (sees_all ns) (sees_free ns h.1)
    (then_still Any Any n.does (λ k. pure (so_far ++ k ∷ [])) n.sees h.0.follows (λ k _ v. (tt, refl))) (λ more _. nodes_follow ns more h.1) w

value_follows : (v : RawValue Node) → AllByRecursion GoodNode (nodes_in (given.Value v)) → Follows Any (put_in v) (sees_all (nodes_in (given.Value v)))
value_follows value.Null h w = (tt, refl)
value_follows (value.Truth truth) h w = (tt, refl)
value_follows (value.String text) h w = (tt, refl)
value_follows (value.Numbers numbers) h w = (tt, refl)
value_follows (value.Node node) h w = then_follows Any Any node.does (λ k. pure (value.Node k)) node.sees (sees_all []) (λ s. refl) h.0.follows (λ k _ v. (tt, refl)) w
value_follows value.EmptyList h w = (tt, refl)
value_follows (value.TruthList truths) h w = (tt, refl)
value_follows (value.StringList texts) h w = (tt, refl)
value_follows (value.NumberList numbers) h w = (tt, refl)
value_follows (value.NodeList nodes) h w = then_still Any Any (through put_next nodes []) (λ ns. pure (value.NodeList ns)) (sees_all nodes) (nodes_follow nodes [] h) (λ ns _ v. (tt, refl)) w

given_is : (g : Given Node) (s : Sight) → AllByRecursion GoodNode (nodes_in g) → bared (given_sees g s) ≡ bared (sees_all (nodes_in g) s)
given_is g s h = sees_free (nodes_in g) h (record s { taken = taking g s.taken }) ∙ sym (sees_free (nodes_in g) h s)

given_free : (g : Given Node) → AllByRecursion GoodNode (nodes_in g) → Free (given_sees g)
given_free g h s = given_is g s h ∙ sees_free (nodes_in g) h s ∙ sym (given_is g (bare s) h)

seen_after : (w : Walk) (r : Seen) → After Any (follow [] r (λ s. comes (Ok (tt {0}, record w { sight = s })))).comes r
seen_after w (Ok s) = (tt, refl)
seen_after w (Err e) = tt

pub see_follows : (step : Look) → Follows Any (see step) step
see_follows step w = seen_after w (step w.sight)

left_out : (g : Given Node) → AllByRecursion GoodNode (nodes_in g) → Follows Any (leave_out g) (sees_all (nodes_in g))
left_out g h w = same_after Any (leave_out g w).comes (aside (given_sees g) w.sight) (sees_all (nodes_in g) w.sight) (aside_declares (given_sees g) (given_free g h) w.sight ∙ given_is g w.sight h) (see_follows (aside (given_sees g)) w)

-- ---- fields

pub if_follows : {A : Type 0} (P : A → Type 0) (c : Bool) (m n : Does A) (p : Look) → Follows P m p → Follows P n p → Follows P (if c then m else n) p
if_follows P true m n p h k = h
if_follows P false m n p h k = k

-- the fields stay those of the same node
abbrev pub Owned : Owner → Inside → Type 0
Owned owner i = i.owner ≡ owner

met_follows : (owner : Owner) (number items : ℕ) → Follows Any (met_field owner number items) still
met_follows owner number items w = (tt, refl)

join_follows : (line : ℕ) (f : ℕ × Field) (i : Inside) (outer : Name) (v : Option (RawValue ℕ)) → Follows (Owned i.owner) (join line f i outer v) still
join_follows line f i outer v w = (refl, refl)

refuse_follows : {A : Type 0} (P : A → Type 0) (kind : ExpandFaultKind) (line : ℕ) (p : Look) → Follows P (refuse {A = A} kind line) p
refuse_follows P kind line p w = tt

is_follows : (line : ℕ) (f : ℕ × Field) (twice : Bool) (i : Inside) (outer : Option Field) → Follows (Owned i.owner) (give_is line f twice i outer) still
is_follows line f twice i None w = tt
is_follows line f twice i (Some outer) w = if_follows (Owned i.owner) (fits outer f.1) (if twice then refuse FieldTwice line else (λ w. join line f i outer.name (value_of outer.name w.scope.given) w)) (refuse BadIs line) still
    (if_follows (Owned i.owner) twice (refuse FieldTwice line) (λ w. join line f i outer.name (value_of outer.name w.scope.given) w) still (λ w. tt) (λ v. join_follows line f i outer.name (value_of outer.name v.scope.given) v)) (λ w. tt) w

value_given : (line : ℕ) (f : ℕ × Field) (i : Inside) (v : RawValue Node) → AllByRecursion GoodNode (nodes_in (given.Value v)) → Follows (Owned i.owner) (give_value line f i v) (sees_all (nodes_in (given.Value v)))
value_given line f i v h = still_then Any (Owned i.owner) (met_field i.owner f.0 (item_count v)) (λ _. if is_kept (taken_by (Some i.owner)) f.1.name then (put_in v >>= λ r. pure (fill line f i (Some r))) else leave_out (given.Value v) >>= λ _. pure (fill line f i None)) (sees_all (nodes_in (given.Value v))) (sees_free (nodes_in (given.Value v)) h) (met_follows i.owner f.0 (item_count v))
    (λ _ _. if_follows (Owned i.owner) (is_kept (taken_by (Some i.owner)) f.1.name) (put_in v >>= λ r. pure (fill line f i (Some r))) (leave_out (given.Value v) >>= λ _. pure (fill line f i None)) (sees_all (nodes_in (given.Value v)))
    (then_still Any (Owned i.owner) (put_in v) (λ r. pure (fill line f i (Some r))) (sees_all (nodes_in (given.Value v))) (value_follows v h) (λ r _ w. (refl, refl)))
    (then_still Any (Owned i.owner) (leave_out (given.Value v)) (λ _. pure (fill line f i None)) (sees_all (nodes_in (given.Value v))) (left_out (given.Value v) h) (λ r _ w. (refl, refl))))

give_follows : (line : ℕ) (f : ℕ × Field) (twice : Bool) (g : Given Node) (i : Inside) → AllByRecursion GoodNode (nodes_in g) → Follows (Owned i.owner) (give line f twice g i) (sees_all (nodes_in g))
give_follows line f twice (given.Is outer) i h w = is_follows line f twice i (find (λ o. bytes_eq o.name outer) w.scope.interface) w
give_follows line f twice (given.Value v) i h w = if_follows (Owned i.owner) (is_node i.owner || is_initial f.1.access) (if twice then refuse FieldTwice line else give_value line f i v) (refuse UnknownField line) (sees_all (nodes_in (given.Value v)))
    (if_follows (Owned i.owner) twice (refuse FieldTwice line) (give_value line f i v) (sees_all (nodes_in (given.Value v))) (λ u. tt) (value_given line f i v h)) (λ u. tt) w
give_follows line f twice given.Nothing i h w = if_follows (Owned i.owner) twice (refuse FieldTwice line) (met_field i.owner f.0 0 >>= λ _. pure (fill line f i None)) still (λ u. tt)
    (then_still Any (Owned i.owner) (met_field i.owner f.0 0) (λ _. pure (fill line f i None)) still (met_follows i.owner f.0 0) (λ _ _ u. (refl, refl))) w

-- ---- items between braces

opt_follows : {X A : Type 0} (P : A → Type 0) (o : Option X) (k : X → Does A) (m : Does A) (p : Look) → ((x : X) → Follows P (k x) p) → Follows P m p → Follows P (option_map_or k o m) p
opt_follows P None k m p h n = n
opt_follows P (Some x) k m p h n = h x

if_free : (c : Bool) (p q : Look) → Free p → Free q → Free (if c then p else q)
if_free true p q h k = h
if_free false p q h k = k

pub record GoodItem (i : Item) : Type 0 where
  pub free : (o : Option Names) → Free (i.sees o)
  pub follows : (b : Inside) → Follows (Owned b.owner) (i.does b) (i.sees (taken_by (Some b.owner)))

pub record GoodProto (p : Proto) : Type 0 where
  pub free : Free p.sees
  pub follows : Follows Any p.does p.sees

pub record GoodStated (s : Stated) : Type 0 where
  pub free : Free s.1.sees
  pub follows : Follows Any s.1.does s.1.sees

kept_is : (c : Bool) (g : Given Node) (s : Sight) → AllByRecursion GoodNode (nodes_in g) → bared (sees_all (nodes_in g) s) ≡ bared ((if c then given_sees g else aside (given_sees g)) s)
kept_is true g s h = sym (given_is g s h)
kept_is false g s h = sym (aside_declares (given_sees g) (given_free g h) s ∙ given_is g s h)

pub field_good : (line : ℕ) (name : Name) (g : Given Node) → AllByRecursion GoodNode (nodes_in g) → GoodItem (item_step (BodyItem-F.Field line name g))
unfolding item_step
field_good line name g h =
    record {
      free = λ o. if_free (is_kept o name) (given_sees g) (aside (given_sees g)) (given_free g h) (aside_free (given_sees g) (given_free g h));
      follows = λ b w. same_after (Owned b.owner) (option_map_or (λ f. give line f (is_filled name b) g b) (numbered_from 0 name b.fields) (refuse UnknownField line) w).comes (sees_all (nodes_in g) w.sight)
          ((if is_kept (taken_by (Some b.owner)) name then given_sees g else aside (given_sees g)) w.sight) (kept_is (is_kept (taken_by (Some b.owner)) name) g w.sight h)
          (opt_follows (Owned b.owner) (numbered_from 0 name b.fields) (λ f. give line f (is_filled name b) g b) (refuse UnknownField line) (sees_all (nodes_in g)) (λ f. give_follows line f (is_filled name b) g b h) (λ v. tt) w);
    }

pub declaration_good : (d : Declaration Node) → AllByRecursion GoodNode (nodes_in d.given) → GoodItem (item_step (BodyItem-F.Declaration d))
unfolding item_step
declaration_good d h =
    record {
      free = λ o. given_free d.given h;
      follows = λ b w. same_after (Owned b.owner) (declare_field d b w).comes (sees_all (nodes_in d.given) w.sight) (given_sees d.given w.sight) (sym (given_is d.given w.sight h))
          (if_follows (Owned b.owner) (is_script b.owner) (give d.line (length b.fields, field d) (is_some (numbered_from 0 d.name b.fields)) d.given (record b { fields = b.fields ++ field d ∷ [] })) (refuse UnknownField d.line) (sees_all (nodes_in d.given))
          (give_follows d.line (length b.fields, field d) (is_some (numbered_from 0 d.name b.fields)) d.given (record b { fields = b.fields ++ field d ∷ [] }) h) (λ v. tt) w);
    }

pub route_good : (r : RouteText) → GoodItem (item_step (BodyItem-F.BodyItem::Route r))
unfolding item_step
route_good r = record { free = λ o s. refl; follows = λ b w. (refl, refl) }

pub proto_item_good : (p : Proto) → GoodProto p → GoodItem (item_step (BodyItem-F.BodyItem::Proto p))
unfolding item_step
proto_item_good p h = record { free = λ o. h.free; follows = λ b. then_still Any (Owned b.owner) p.does (λ _. pure b) p.sees h.follows (λ _ _ w. (refl, refl)) }
