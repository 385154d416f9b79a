-- What a field is given, step by step.
use Rattle.std.proofs.Common.{◌≡◌, ℕ, Bool, List, [], ◌∷◌, Bor, map, Option, Some, None, Result, Ok, Err, refl, ap, sym, subst, ◌∙◌}
use Rattle.std.specs.Prelude.{◌⊎◌, IfOk}
use Rattle.std.specs.declared.alloc.AllocError.{AllocError}
use Rattle.std.specs.Option.{option_map_or}
use Rattle.classic_tree.specs.declared.tree.Declaration.{Declaration}
use Rattle.classic_tree.specs.declared.tree.NodeText.{NodeText}
use Rattle.classic_tree.specs.declared.tree.RouteText.{RouteText}
use Rattle.classic_tree.specs.declared.tree.RawValue.{RawValue}
use Rattle.classic_tree.specs.declared.tree.RawValue.TheVariants as value
use Rattle.proto_flat.specs.Fault.{fault, memory}
use Rattle.proto_flat.specs.declared.fault.ExpandFault.{ExpandFault}
use Rattle.proto_flat.specs.declared.fault.ExpandFaultKind.TheVariants.{UnknownField}
use Rattle.proto_meaning.specs.Flat as flat
use Rattle.proto_meaning.specs.Flat.{Does, ◌>>=◌, pure, fill, refuse}
use Rattle.proto_meaning.specs.Limits.{item_count}
use Rattle.proto_meaning.specs.Names.{Name, Field}
use Rattle.proto_meaning.specs.Sight.{Prototype, Owner}
use Rattle.proto_parts.specs.Given.{has_name}
use Rattle.proto_parts.specs.Fields.{numbered}
use Rattle.proto_parts.specs.declared.fields.KnownField.{KnownField}
use Rattle.proto_parts.specs.Inside as braces
use Rattle.proto_parts.specs.Inside.{fields_in, filled_in}
use Rattle.proto_meaning.specs.trees.Values as values
use Rattle.proto_parts.specs.declared.inside.Inside.{Inside}
use Rattle.proto_parts.specs.declared.inside.Owner as holder
use Rattle.proto_parts.specs.declared.inside.Owner.TheVariants as held
use Rattle.proto_parts.specs.Settled.{State, doing}
use Rattle.proto_nodes.specs.Giving as giving
use Rattle.proto_nodes.specs.Giving.{Gives, inside_of, is_type}
use Rattle.proto_nodes.specs.Scripts.{is_script, declares}
use Rattle.proto_nodes.specs.Shown.{Steps, shown}
use Rattle.proto_nodes.specs.declared.walker.Walker.{Walker}
use Rattle.proto_meaning.specs.trees.Meaning as meaning
use Rattle.proto_meaning.specs.trees.Meaning.{item, node}
use Rattle.proto_meaning.specs.trees.Given.{GivenTree}
use Rattle.proto_meaning.specs.declared.tree.GivenTree.TheVariants as tree
use Rattle.proto_meaning.specs.declared.tree.ItemTree.{ItemTree}
use Rattle.proto_meaning.specs.declared.tree.ItemTree.TheVariants as tree_item
use Rattle.proto_meaning.specs.declared.tree.NodeTree.{NodeTree}
use Rattle.proto_meaning.specs.declared.tree.Word.{Word}
use Rattle.proto_nodes.specs.declared.frames.Next.{Next}
use Rattle.proto_nodes.specs.declared.frames.Next.TheVariants as next
use Rattle.proto_nodes.specs.declared.frames.Open.{Open}
use Rattle.proto_nodes.specs.declared.frames.FieldAt.{FieldAt}
use Rattle.proto_nodes.specs.Protos.{owner_by}
use Rattle.proto_nodes.specs.Does.{Comes, after, nodes_do, given_by, field_does, route_does, items_do, closes, open_does, inside_now, with_value}
use Rattle.proto_nodes.specs.Frames.{OpenGoes, OpenSound, given_at, item_comes, open_next, on_or}
use Rattle.proto_nodes.proofs.Fillings.{put-plain}
use Rattle.proto_nodes.proofs.NodeSteps.{then-same, doing-then, doing-assoc, doing-inside, did, stopped, same-stop}

-- ---- whose braces they are

pub is-node : (ps : List Prototype) (w : Word) (o : holder.Owner) → flat.is_node (owner_by ps w o) ≡ is_type o
is-node ps w (held.Node t) = refl
is-node ps w (held.Instance interface) = refl

pub is-script : (ps : List Prototype) (w : Word) (o : holder.Owner) → flat.is_script (owner_by ps w o) ≡ is_script o
is-script ps w (held.Node t) = refl
is-script ps w (held.Instance interface) = refl

-- ---- a field is given something that puts no nodes in

-- what is left between braces goes by the owner, and not by what is given
pub open-filled : (ps : List Prototype) (o : Open) (new : Inside) (i : flat.Inside) → new.owner ≡ o.inside.owner → open_does ps o i ≡ open_does ps (record o { inside = new }) i
unfolding open_does
open-filled ps o new i is = ap (λ owner. items_do ps o.rest.now i >>= closes ps o.line o.name.now o.word owner) (sym is)

pub inside-filled : (ps : List Prototype) (o : Open) (new : Inside) → new.owner ≡ o.inside.owner → inside_of o.at (owner_by ps o.word o.inside.owner) new ≡ inside_now ps (record o { inside = new })
inside-filled ps o new is = ap (λ owner. inside_of o.at (owner_by ps o.word owner) new) (sym is)

pub open-on : (ps : List Prototype) (o : Open) (new : Inside) (s : State) → new.owner ≡ o.inside.owner →
    doing (open_does ps o (inside_of o.at (owner_by ps o.word o.inside.owner) new)) s ≡ doing (open_does ps (record o { inside = new }) (inside_now ps (record o { inside = new }))) s
open-on ps o new s is =
    ap (λ m. doing m s) (open-filled ps o new (inside_of o.at (owner_by ps o.word o.inside.owner) new) is
    ∙ ap (open_does ps (record o { inside = new })) (inside-filled ps o new is))

pub gives-on : (ps : List Prototype) (o : Open) (new : Inside) (m : Does flat.Inside) (s : State) (r : Result (Unit {0}) ExpandFault) (result : Result Next ExpandFault) (walker : Walker) →
    result ≡ on_or r → Gives o.at (owner_by ps o.word o.inside.owner) (doing m s) r walker o.inside new → OpenGoes ps (doing (m >>= open_does ps o) s) result walker (record o { inside = new })
gives-on ps o new m s (Ok u) result walker is k =
    subst (λ x. OpenGoes ps (doing (m >>= open_does ps o) s) x walker (record o { inside = new })) (sym is)
    (did m (open_does ps o) s (shown walker) (inside_of o.at (owner_by ps o.word o.inside.owner) new) k.0 ∙ open-on ps o new (shown walker) k.3)
gives-on ps o new m s (Err e) result walker is k =
    subst (λ x. OpenGoes ps (doing (m >>= open_does ps o) s) x walker (record o { inside = new })) (sym is)
    (stopped m (open_does ps o) s e k)

-- ---- values with nodes

-- what is put in, and then the field has that value
pub value-then : {A : Type 0} (p : Does A) (g : A → RawValue ℕ) (line : ℕ) (f : ℕ × Field) (i : flat.Inside) (k : flat.Inside → Does ℕ) (s : State) →
    doing (((p >>= λ a. pure (g a)) >>= λ r. pure (fill line f i (Some r))) >>= k) s ≡ after (doing p s) (λ a. doing (k (fill line f i (Some (g a)))))
value-then p g line f i k s =
    doing-inside (p >>= λ a. pure (g a)) (λ r. pure (fill line f i (Some r))) k s
    ∙ doing-assoc p (λ a. pure (g a)) (λ r. pure (fill line f i (Some r)) >>= k) s

-- a value stands, and what comes of it
pub stands-then : (o : Comes ℕ) (m rest : Does flat.Inside) (k : flat.Inside → Does ℕ) (s t : State) → doing m s ≡ doing rest t → doing (rest >>= k) t ≡ o → doing (m >>= k) s ≡ o
stands-then o m rest k s t is next =
    doing-then m k s ∙ ap (λ x. after x (λ i. doing (k i))) is ∙ sym (doing-then rest k t) ∙ next

-- ---- values between braces

abbrev value_of_place : (p : FieldAt) (twice : Bool) (items : ℕ) (i : flat.Inside) (rest : Does flat.Inside) → Does flat.Inside
value_of_place p twice items i rest = values.value_at p.line (numbered p.name.now p.field) twice items i rest

-- a value that may not stand there
pub value-stopped : (ps : List Prototype) (o q : Open) (p : FieldAt) (twice : Bool) (items : ℕ) (rest : Does flat.Inside) (s : State) (r : Result Next ExpandFault) (walker : Walker) (e : ExpandFault) → r ≡ Err e →
    (e ≡ memory) ⊎ (doing (values.value_at p.line (numbered p.name.now p.field) twice items (inside_now ps o) rest) s ≡ Err e) →
    OpenGoes ps (doing (values.value_at p.line (numbered p.name.now p.field) twice items (inside_now ps o) rest >>= open_does ps o) s) r walker q
value-stopped ps o q p twice items rest s r walker e is k =
    subst (λ x. OpenGoes ps (doing (value_of_place p twice items (inside_now ps o) rest >>= open_does ps o) s) x walker q) (sym is)
    (stopped (value_of_place p twice items (inside_now ps o) rest) (open_does ps o) s e k)

pub one-stands : (ps : List Prototype) (o : Open) (p : FieldAt) (twice : Bool) (n : Bor NodeTree) (s t : State) →
    doing (meaning.gives p.line (numbered p.name.now p.field) twice (tree.One (node ps n.now)) (inside_now ps o)) s ≡ doing (meaning.holds p.line (numbered p.name.now p.field) (inside_now ps o) (value.Node (node ps n.now))) t →
    doing (meaning.gives p.line (numbered p.name.now p.field) twice (tree.One (node ps n.now)) (inside_now ps o) >>= open_does ps o) s ≡ open_next ps o (next.One p n) t
one-stands ps o p twice n s t is =
    stands-then (open_next ps o (next.One p n) t) (meaning.gives p.line (numbered p.name.now p.field) twice (tree.One (node ps n.now)) (inside_now ps o)) (meaning.holds p.line (numbered p.name.now p.field) (inside_now ps o) (value.Node (node ps n.now))) (open_does ps o) s t is
    (value-then (node ps n.now).does (λ number. value.Node number) p.line (numbered p.name.now p.field) (inside_now ps o) (open_does ps o) t)

pub many-stand : (ps : List Prototype) (o : Open) (p : FieldAt) (twice : Bool) (count : ℕ) (ns : Bor (List NodeTree)) (s t : State) →
    doing (meaning.gives p.line (numbered p.name.now p.field) twice (tree.Many count (map (node ps) ns.now)) (inside_now ps o)) s ≡ doing (meaning.holds p.line (numbered p.name.now p.field) (inside_now ps o) (value.NodeList (map (node ps) ns.now))) t →
    doing (meaning.gives p.line (numbered p.name.now p.field) twice (tree.Many count (map (node ps) ns.now)) (inside_now ps o) >>= open_does ps o) s ≡ open_next ps o (next.List p ns) t
many-stand ps o p twice count ns s t is =
    stands-then (open_next ps o (next.List p ns) t) (meaning.gives p.line (numbered p.name.now p.field) twice (tree.Many count (map (node ps) ns.now)) (inside_now ps o)) (meaning.holds p.line (numbered p.name.now p.field) (inside_now ps o) (value.NodeList (map (node ps) ns.now))) (open_does ps o) s t is
    (value-then (nodes_do ps ns.now []) (λ numbers. value.NodeList numbers) p.line (numbered p.name.now p.field) (inside_now ps o) (open_does ps o) t)

-- so many items are met as the value has
counted : (ps : List Prototype) (o : Open) (p : FieldAt) (twice : Bool) (v : Bor (RawValue NodeText)) (n : ℕ) → n ≡ item_count v.now →
    values.value_at p.line (numbered p.name.now p.field) twice n (inside_now ps o) (meaning.holds p.line (numbered p.name.now p.field) (inside_now ps o) (values.plain v.now)) ≡ meaning.gives p.line (numbered p.name.now p.field) twice (tree.Plain v) (inside_now ps o)
counted ps o p twice v n is = ap (λ m. values.value_at p.line (numbered p.name.now p.field) twice m (inside_now ps o) (meaning.holds p.line (numbered p.name.now p.field) (inside_now ps o) (values.plain v.now))) is

pub plain-stopped : (ps : List Prototype) (o q : Open) (p : FieldAt) (twice : Bool) (v : Bor (RawValue NodeText)) (n : ℕ) (s : State) (r : Result Next ExpandFault) (walker : Walker) (e : ExpandFault) → n ≡ item_count v.now → r ≡ Err e →
    (e ≡ memory) ⊎ (doing (values.value_at p.line (numbered p.name.now p.field) twice n (inside_now ps o) (meaning.holds p.line (numbered p.name.now p.field) (inside_now ps o) (values.plain v.now))) s ≡ Err e) →
    OpenGoes ps (item_comes ps (given_at p twice (tree.Plain v)) o s) r walker q
plain-stopped ps o q p twice v n s r walker e count is k =
    subst (λ m. OpenGoes ps (doing (m >>= open_does ps o) s) r walker q) (counted ps o p twice v n count)
    (value-stopped ps o q p twice n (meaning.holds p.line (numbered p.name.now p.field) (inside_now ps o) (values.plain v.now)) s r walker e is k)

pub plain-stands : (ps : List Prototype) (o : Open) (new : Inside) (p : FieldAt) (twice : Bool) (v : Bor (RawValue NodeText)) (copy : RawValue ℕ) (n : ℕ) (s t : State) → n ≡ item_count v.now →
    doing (values.value_at p.line (numbered p.name.now p.field) twice n (inside_now ps o) (meaning.holds p.line (numbered p.name.now p.field) (inside_now ps o) (values.plain v.now))) s ≡ doing (meaning.holds p.line (numbered p.name.now p.field) (inside_now ps o) (values.plain v.now)) t →
    copy ≡ values.plain v.now → fill p.line (numbered p.name.now p.field) (inside_now ps o) (Some copy) ≡ inside_of o.at (owner_by ps o.word o.inside.owner) new → new.owner ≡ o.inside.owner →
    item_comes ps (given_at p twice (tree.Plain v)) o s ≡ open_next ps (record o { inside = new }) next.On t
plain-stands ps o new p twice v copy n s t count is same filled owner =
    did (meaning.gives p.line (numbered p.name.now p.field) twice (tree.Plain v) (inside_now ps o)) (open_does ps o) s t (fill p.line (numbered p.name.now p.field) (inside_now ps o) (Some copy))
    (ap (λ m. doing m s) (sym (counted ps o p twice v n count))
    ∙ is ∙ ap (λ m. doing (m >>= λ r. pure (fill p.line (numbered p.name.now p.field) (inside_now ps o) (Some r))) t) (put-plain v.now)
    ∙ ap (λ x. Ok (fill p.line (numbered p.name.now p.field) (inside_now ps o) (Some x), t)) (sym same))
    ∙ ap (λ i. doing (open_does ps o i) t) filled
    ∙ open-on ps o new t owner

-- ---- what each item does

pub goes-on-as : (ps : List Prototype) (o q : Comes ℕ) (r : Result Next ExpandFault) (walker : Walker) (b : Open) → o ≡ q → OpenGoes ps q r walker b → OpenGoes ps o r walker b
goes-on-as ps o q (Ok n) walker b is k = is ∙ k
goes-on-as ps o q (Err e) walker b is k = same-stop o q e is k

pub same-item : (ps : List Prototype) (m k : flat.Inside → Does flat.Inside) (o : Open) (s : State) → m ≡ k → item_comes ps m o s ≡ item_comes ps k o s
same-item ps m k o s is = ap (λ x. item_comes ps x o s) is

-- the field of that name
pub field-known : (ps : List Prototype) (line : ℕ) (name : Name) (g : GivenTree flat.Node) (o : Open) (s : State) (k : KnownField) (twice : Bool) → Some (numbered name k) ≡ flat.numbered_from 0 name (fields_in o.inside) → twice ≡ has_name name (filled_in o.inside) →
    item_comes ps (field_does line name g) o s ≡ item_comes ps (λ i. meaning.gives line (numbered name k) twice g i) o s
field-known ps line name g o s k twice is again =
    ap (λ x. doing (option_map_or (λ f. meaning.gives line f (has_name name (filled_in o.inside)) g (inside_now ps o)) x (refuse UnknownField line) >>= open_does ps o) s) (sym is)
    ∙ ap (λ b. doing (meaning.gives line (numbered name k) b g (inside_now ps o) >>= open_does ps o) s) (sym again)

pub field-unknown : (ps : List Prototype) (line : ℕ) (name : Name) (g : GivenTree flat.Node) (o : Open) (s : State) → None ≡ flat.numbered_from 0 name (fields_in o.inside) →
    item_comes ps (field_does line name g) o s ≡ Err (fault UnknownField line)
field-unknown ps line name g o s is =
    sym (ap (λ x. doing (option_map_or (λ f. meaning.gives line f (has_name name (filled_in o.inside)) g (inside_now ps o)) x (refuse UnknownField line) >>= open_does ps o) s) is)

-- a declaration, and then the field that it declares is given something
pub declared-then : (ps : List Prototype) (d : Declaration NodeText) (g : GivenTree flat.Node) (o : Open) (new : Inside) (s : State) (k j : KnownField) (twice again : Bool) → new.owner ≡ o.inside.owner → j ≡ k → again ≡ twice →
    doing (declares d (λ f again i. meaning.gives d.line f again g i) (inside_now ps o)) s ≡ doing (meaning.gives d.line (numbered d.name j) again g (inside_of o.at (owner_by ps o.word o.inside.owner) new)) s →
    item_comes ps (meaning.declares d g) o s ≡ item_comes ps (λ i. meaning.gives d.line (numbered d.name k) twice g i) (record o { inside = new }) s
declared-then ps d g o new s k j twice again owner known more is =
    doing-then (meaning.declares d g (inside_now ps o)) (open_does ps o) s
    ∙ ap (λ x. after x (λ i. doing (open_does ps o i))) (is ∙ ap (λ f. doing (meaning.gives d.line (numbered d.name f) again g (inside_of o.at (owner_by ps o.word o.inside.owner) new)) s) known
    ∙ ap (λ b. doing (meaning.gives d.line (numbered d.name k) b g (inside_of o.at (owner_by ps o.word o.inside.owner) new)) s) more
    ∙ ap (λ i. doing (meaning.gives d.line (numbered d.name k) twice g i) s) (inside-filled ps o new owner))
    ∙ then-same (doing (meaning.gives d.line (numbered d.name k) twice g (inside_now ps (record o { inside = new }))) s) (λ i. doing (open_does ps o i)) (λ i. doing (open_does ps (record o { inside = new }) i))
    (λ i t. ap (λ m. doing m t) (open-filled ps o new i owner))
    ∙ sym (doing-then (meaning.gives d.line (numbered d.name k) twice g (inside_now ps (record o { inside = new }))) (open_does ps (record o { inside = new })) s)

-- the next item
pub item-next : (ps : List Prototype) (o : Open) (i : Bor ItemTree) (rest : Bor (List ItemTree)) (s : State) → o.rest.now ≡ i.now ∷ rest.now →
    doing (open_does ps o (inside_now ps o)) s ≡ item_comes ps (item ps i.now).does (record o { rest = rest }) s
unfolding open_does
item-next ps o i rest s is =
    ap (λ items. doing (items_do ps items (inside_now ps o) >>= closes ps o.line o.name.now o.word o.inside.owner) s) is
    ∙ doing-inside ((item ps i.now).does (inside_now ps o)) (items_do ps rest.now) (closes ps o.line o.name.now o.word o.inside.owner) s

-- a ROUTE
pub route-on : (ps : List Prototype) (r : RouteText) (o : Open) (s : State) (done : Result (Unit {0}) ExpandFault) (result : Result Next ExpandFault) (walker : Walker) → result ≡ on_or done → Steps (λ (a : Unit {0}). a) (doing (flat.note_route r) s) done walker →
    OpenGoes ps (item_comes ps (route_does r) o s) result walker o
route-on ps r o s (Ok u) result walker is k =
    subst (λ x. OpenGoes ps (item_comes ps (route_does r) o s) x walker o) (sym is)
    (did (route_does r (inside_now ps o)) (open_does ps o) s (shown walker) (inside_now ps o) (did (flat.note_route r) (λ _. pure (inside_now ps o)) s (shown walker) tt k.0))
route-on ps r o s (Err e) result walker is k =
    subst (λ x. OpenGoes ps (item_comes ps (route_does r) o s) x walker o) (sym is)
    (stopped (route_does r (inside_now ps o)) (open_does ps o) s e (stopped (flat.note_route r) (λ _. pure (inside_now ps o)) s e k))

pub route-sound : (o : Open) (done : Result (Unit {0}) ExpandFault) (result : Result Next ExpandFault) (walker : Walker) (s : State) (out : Comes (Unit {0})) → result ≡ on_or done → braces.Sound o.inside → Steps (λ (a : Unit {0}). a) out done walker → OpenSound result walker o
route-sound o (Ok u) result walker s out is sound k = subst (λ x. OpenSound x walker o) (sym is) (k.1, sound, tt)
route-sound o (Err e) result walker s out is sound k = subst (λ x. OpenSound x walker o) (sym is) tt

pub gives-sound : (at : ℕ) (owner : Owner) (o : Open) (new : Inside) (r : Result (Unit {0}) ExpandFault) (result : Result Next ExpandFault) (walker : Walker) (out : Comes flat.Inside) → result ≡ on_or r → Gives at owner out r walker o.inside new → OpenSound result walker (record o { inside = new })
gives-sound at owner o new (Ok u) result walker out is k = subst (λ x. OpenSound x walker (record o { inside = new })) (sym is) (k.1, k.2, tt)
gives-sound at owner o new (Err e) result walker out is k = subst (λ x. OpenSound x walker (record o { inside = new })) (sym is) tt

-- ---- what a field is given, by its variant

pub given-as : (ps : List Prototype) (p : FieldAt) (twice : Bool) (g t : GivenTree NodeTree) (o : Open) (s : State) (r : Result Next ExpandFault) (walker : Walker) (b : Open) → g ≡ t →
    OpenGoes ps (item_comes ps (given_at p twice (given_by ps t)) o s) r walker b → OpenGoes ps (item_comes ps (given_at p twice (given_by ps g)) o s) r walker b
given-as ps p twice g t o s r walker b is k = subst (λ x. OpenGoes ps (item_comes ps (given_at p twice (given_by ps x)) o s) r walker b) (sym is) k

pub left-out : (p : FieldAt) (twice : Bool) (wrong : Option ExpandFault) (i : flat.Inside) →
    meaning.gives p.line (numbered p.name.now p.field) twice (tree.LeftOut wrong) i ≡ values.value_at p.line (numbered p.name.now p.field) twice 0 i (giving.aside p.line (numbered p.name.now p.field) i wrong)
left-out p twice wrong i = refl

pub item-as : (ps : List Prototype) (i t : ItemTree) (m : flat.Inside → Does flat.Inside) (o : Open) (s : State) (r : Result Next ExpandFault) (walker : Walker) (b : Open) → i ≡ t → (item ps t).does ≡ m →
    OpenGoes ps (item_comes ps m o s) r walker b → OpenGoes ps (item_comes ps (item ps i).does o s) r walker b
item-as ps i t m o s r walker b is does k =
    subst (λ x. OpenGoes ps (item_comes ps (item ps x).does o s) r walker b) (sym is) (subst (λ x. OpenGoes ps (item_comes ps x o s) r walker b) (sym does) k)

pub wrong-item : (ps : List Prototype) (i : ItemTree) (e : ExpandFault) (o : Open) (s : State) → i ≡ tree_item.Wrong e → (item ps (tree_item.Wrong e)).does ≡ (λ _ w. flat.comes (Err e)) → item_comes ps (item ps i).does o s ≡ Err e
wrong-item ps i e o s is does = ap (λ x. item_comes ps (item ps x).does o s) is ∙ ap (λ (x : flat.Inside → Does flat.Inside). item_comes ps x o s) does

-- the value of a field is kept
pub value-kept : (ps : List Prototype) (o : Open) (new : Inside) (p : FieldAt) (v : RawValue ℕ) (s : State) → with_value ps o p v ≡ inside_of o.at (owner_by ps o.word o.inside.owner) new → new.owner ≡ o.inside.owner →
    doing (open_does ps o (with_value ps o p v)) s ≡ doing (open_does ps (record o { inside = new }) (inside_now ps (record o { inside = new }))) s
value-kept ps o new p v s filled owner = ap (λ i. doing (open_does ps o i) s) filled ∙ open-on ps o new s owner

pub value-kept-if : (o : Open) (new : Inside) (p : FieldAt) (v : RawValue ℕ) (r : Result (Unit {0}) AllocError) →
    IfOk r (λ _. (at : ℕ) (w : Owner) → fill p.line (numbered p.name.now p.field) (inside_of at w o.inside) (Some v) ≡ inside_of at w new) → new.owner ≡ o.inside.owner →
    IfOk r (λ _. (ps : List Prototype) (s : State) → doing (open_does ps o (with_value ps o p v)) s ≡ doing (open_does ps (record o { inside = new }) (inside_now ps (record o { inside = new }))) s)
value-kept-if o new p v (Ok u) filled owner = λ ps s. value-kept ps o new p v s (filled o.at (owner_by ps o.word o.inside.owner)) owner
value-kept-if o new p v (Err e) filled owner = tt
