-- How a node or an instance begins, and how its braces close.
use Rattle.std.proofs.Common.{◌≡◌, ℕ, List, [], ◌∷◌, ◌++◌, Bor, map, drop, length, Option, Some, None, Ok, Err, refl, ap, sym, subst, ◌∙◌, inl, inr}
use Rattle.std.specs.Prelude.{◌⊎◌, option_map, slice_get}
use Rattle.std.proofs.lemmas.List.{append-nil}
use Rattle.classic_tree.specs.declared.tree.ProtoText.{out-ProtoText}
use Rattle.classic_tree.specs.declared.tree.Declaration.{Declaration}
use Rattle.x3d_values.specs.declared.node_type.NodeType.{NodeType}
use Rattle.x3d_values.specs.Tables.{rows}
use Rattle.proto_flat.specs.Fault.{memory}
use Rattle.proto_flat.specs.declared.fault.ExpandFault.{ExpandFault}
use Rattle.proto_flat.specs.declared.flat.FlatField.{FlatField}
use Rattle.proto_flat.specs.declared.flat.FlatNode.{FlatNode}
use Rattle.proto_meaning.specs.Flat as flat
use Rattle.proto_meaning.specs.Flat.{Walk, Does, ◌>>=◌, meet, unless_twice, full_node, begin, made, close, renamed, through}
use Rattle.proto_meaning.specs.Limits.{ANode, AnInstance, Outcome, and_then}
use Rattle.proto_meaning.specs.Names.{Name, Field, Filled, Scope}
use Rattle.proto_meaning.specs.Sight.{Prototype, Put, Instance, OfType, OfProto, and_see, no_names}
use Rattle.proto_parts.specs.Inside.{fields_in, filled_in, fields_of_owner, declared_fields}
use Rattle.proto_parts.specs.Closing.{flat_fields}
use Rattle.proto_parts.specs.declared.inside.Inside.{Inside}
use Rattle.proto_parts.specs.declared.inside.Owner as holder
use Rattle.proto_parts.specs.declared.inside.Owner.TheVariants as held
use Rattle.proto_parts.specs.declared.room.Room.{Room}
use Rattle.proto_parts.specs.Settled.{State, settle, onward, doing}
use Rattle.proto_parts.proofs.Settling.{settle-then, see-assoc, see-congr}
use Rattle.proto_parts.specs.Scope as scope
use Rattle.proto_parts.specs.Scope.{nothing}
use Rattle.proto_parts.specs.declared.scope.Scope as scopes
use Rattle.proto_nodes.specs.Steps.{opening}
use Rattle.proto_meaning.specs.trees.Meaning.{item, owner, default}
use Rattle.proto_meaning.specs.declared.tree.DefaultTree.{DefaultTree}
use Rattle.proto_meaning.specs.declared.tree.ItemTree.{ItemTree}
use Rattle.proto_meaning.specs.declared.tree.ProtoTree.{ProtoTree}
use Rattle.proto_meaning.specs.declared.tree.Word.{Word}
use Rattle.proto_meaning.specs.declared.tree.Word.TheVariants as word
use Rattle.proto_nodes.specs.declared.frames.Around.{Around}
use Rattle.proto_nodes.specs.declared.frames.Filling.{Filling}
use Rattle.proto_nodes.specs.declared.frames.Open.{Open}
use Rattle.proto_nodes.specs.declared.frames.Proto.{Proto}
use Rattle.proto_nodes.specs.declared.frames.NodeTask.TheVariants as task
use Rattle.proto_nodes.specs.Protos.{IsKnown, AreKnown, Knows, owner_by, proto_by, found}
use Rattle.proto_nodes.specs.Does.{Comes, after, items_do, closes, open_does, inside_now, braces_do, instance_do, leaves_by, filled_now, filling_comes, statements_do, finds}
use Rattle.proto_nodes.specs.Frames.{task_comes}
use Rattle.proto_nodes.proofs.NodeSteps.{doing-then, doing-assoc, did, stopped}

-- ---- numbers of prototypes

none-known : (ps : List Prototype) (a : Option Prototype) (b : Option Proto) → AreKnown ps a b → b ≡ None → a ≡ None
none-known ps None b k is = refl
none-known ps (Some p) None k is = absurd k
none-known ps (Some p) (Some known) k is = cc

pub no-number : (ps : List Prototype) (protos : List Proto) (number : ℕ) → Knows ps protos → slice_get protos number ≡ None → slice_get ps number ≡ None
no-number ps protos number k is = none-known ps (slice_get ps number) (slice_get protos number) (k number) is

some-known : (ps : List Prototype) (a : Option Prototype) (b : Option Proto) (known : Proto) → AreKnown ps a b → b ≡ Some known → (a ≡ Some (found a)) × IsKnown ps (found a) known
some-known ps None None known k is = cc
some-known ps None (Some b) known k is = absurd k
some-known ps (Some p) None known k is = cc
some-known ps (Some p) (Some b) known k is = let same : b ≡ known = cc in (refl, subst (IsKnown ps p) same k)

pub of-number : (ps : List Prototype) (protos : List Proto) (number : ℕ) (known : Proto) → Knows ps protos → slice_get protos number ≡ Some known →
    (slice_get ps number ≡ Some (proto_by ps (word.Instance number))) × IsKnown ps (proto_by ps (word.Instance number)) known
of-number ps protos number known k is = some-known ps (slice_get ps number) (slice_get protos number) known (k number) is

-- ---- braces open

pub braces-open : (ps : List Prototype) (line at : ℕ) (name : Bor (Option Name)) (w : Word) (o : holder.Owner) (items : Bor (List ItemTree)) (i : Inside) (s t : State) →
    doing (opening name.now) s ≡ Ok (at, t) → i.owner ≡ o → fields_in i ≡ fields_of_owner o → filled_in i ≡ [] →
    doing (braces_do ps line name.now w o items.now) s
    ≡ doing (open_does ps (record { line = line; name = name; at = at; word = w; rest = items; inside = i }) (inside_now ps (record { line = line; name = name; at = at; word = w; rest = items; inside = i }))) t
unfolding open_does
braces-open ps line at name w o items i s t opens own fields filled =
    doing-assoc (opening name.now) (λ n. items_do ps items.now (record { at = n; owner = owner_by ps w o; fields = fields_of_owner o; filled = [] })) (closes ps line name.now w o) s
    ∙ ap (λ x. after x (λ n. doing (items_do ps items.now (record { at = n; owner = owner_by ps w o; fields = fields_of_owner o; filled = [] }) >>= closes ps line name.now w o))) opens
    ∙ ap (λ fs. doing (items_do ps items.now (record { at = at; owner = owner_by ps w o; fields = fs; filled = [] }) >>= closes ps line name.now w o) t) (sym fields)
    ∙ ap (λ fs. doing (items_do ps items.now (record { at = at; owner = owner_by ps w o; fields = fields_in i; filled = fs }) >>= closes ps line name.now w o) t) (sym filled)
    ∙ ap (λ x. doing (items_do ps items.now (record { at = at; owner = owner_by ps w x; fields = fields_in i; filled = filled_in i }) >>= closes ps line name.now w x) t) (sym own)

pub braces-stop : (ps : List Prototype) (line : ℕ) (name : Option Name) (w : Word) (o : holder.Owner) (items : List ItemTree) (s : State) (e : ExpandFault) → (e ≡ memory) ⊎ (doing (opening name) s ≡ Err e) → (e ≡ memory) ⊎ (doing (braces_do ps line name w o items) s ≡ Err e)
braces-stop ps line name w o items s e k =
    stopped (flat.inside name (owner_by ps w o) (fields_of_owner o) (map (item ps) items)) (closes ps line name w o) s e
    (stopped (opening name) (λ n. items_do ps items (record { at = n; owner = owner_by ps w o; fields = fields_of_owner o; filled = [] })) s e k)

pub node-begins : (ps : List Prototype) (line : ℕ) (name : Option Name) (w : Word) (ty : NodeType) (items : List ItemTree) (s t : State) → doing (meet ANode) s ≡ Ok (tt, t) →
    doing (full_node line name (map (item ps) items) (Some (OfType ty))) s ≡ doing (braces_do ps line name w (held.Node ty) items) t
node-begins ps line name w ty items s t met = did (meet ANode) (λ _. braces_do ps line name w (held.Node ty) items) s t tt met

pub node-stops : (ps : List Prototype) (line : ℕ) (name : Option Name) (ty : NodeType) (items : List ItemTree) (s : State) (e : ExpandFault) → (e ≡ memory) ⊎ (doing (meet ANode) s ≡ Err e) →
    (e ≡ memory) ⊎ (doing (full_node line name (map (item ps) items) (Some (OfType ty))) s ≡ Err e)
node-stops ps line name ty items s e k = stopped (meet ANode) (λ _. braces_do ps line name word.Unknown (held.Node ty) items) s e k

pub instance-begins : (ps : List Prototype) (line : ℕ) (name : Option Name) (w : Word) (p : Prototype) (known : Proto) (items : List ItemTree) (s t u : State) → IsKnown ps p known → proto_by ps w ≡ p →
    doing (meet AnInstance) s ≡ Ok (tt, t) → doing (unless_twice [] known.interface) t ≡ Ok (tt, u) →
    doing (full_node line name (map (item ps) items) (Some (OfProto p))) s ≡ doing (instance_do ps name (proto_by ps w) known.interface items) u
instance-begins ps line name w p known items s t u k by met once =
    did (meet AnInstance) (λ _. unless_twice [] p.interface >>= λ _. instance_do ps name p p.interface items) s t tt met
    ∙ did (unless_twice [] p.interface) (λ _. instance_do ps name p p.interface items) t u tt (ap (λ fs. doing (unless_twice [] fs) t) k.interface ∙ once)
    ∙ ap (λ fs. doing (instance_do ps name p fs items) u) k.interface
    ∙ ap (λ q. doing (instance_do ps name q known.interface items) u) (sym by)

pub instance-stops : (ps : List Prototype) (line : ℕ) (name : Option Name) (p : Prototype) (items : List ItemTree) (s : State) (e : ExpandFault) → (e ≡ memory) ⊎ (doing (meet AnInstance) s ≡ Err e) →
    (e ≡ memory) ⊎ (doing (full_node line name (map (item ps) items) (Some (OfProto p))) s ≡ Err e)
instance-stops ps line name p items s e k = stopped (meet AnInstance) (λ _. unless_twice [] p.interface >>= λ _. instance_do ps name p p.interface items) s e k

pub instance-twice : (ps : List Prototype) (line : ℕ) (name : Option Name) (p : Prototype) (known : Proto) (items : List ItemTree) (s t : State) (e : ExpandFault) → IsKnown ps p known → doing (meet AnInstance) s ≡ Ok (tt, t) → (e ≡ memory) ⊎ (doing (unless_twice [] known.interface) t ≡ Err e) →
    (e ≡ memory) ⊎ (doing (full_node line name (map (item ps) items) (Some (OfProto p))) s ≡ Err e)
instance-twice ps line name p known items s t e k met (inl m) = inl m
instance-twice ps line name p known items s t e k met (inr twice) = inr (
    did (meet AnInstance) (λ _. unless_twice [] p.interface >>= λ _. instance_do ps name p p.interface items) s t tt met
    ∙ doing-then (unless_twice [] p.interface) (λ _. instance_do ps name p p.interface items) t
    ∙ ap (λ x. after x (λ _. doing (instance_do ps name p p.interface items))) (ap (λ fs. doing (unless_twice [] fs) t) k.interface ∙ twice))

-- what the word means
pub full-as : (ps : List Prototype) (line : ℕ) (name : Option Name) (items : List ItemTree) (w v : Word) (s : State) → w ≡ v → doing (full_node line name (map (item ps) items) (owner ps w)) s ≡ doing (full_node line name (map (item ps) items) (owner ps v)) s
full-as ps line name items w v s is = ap (λ x. doing (full_node line name (map (item ps) items) (owner ps x)) s) is

pub full-by : (ps : List Prototype) (line : ℕ) (name : Option Name) (items : List ItemTree) (number : ℕ) (o : Option Prototype) (s : State) → slice_get ps number ≡ o →
    doing (full_node line name (map (item ps) items) (owner ps (word.Instance number))) s ≡ doing (full_node line name (map (item ps) items) (option_map OfProto o)) s
full-by ps line name items number o s is = ap (λ x. doing (full_node line name (map (item ps) items) (option_map OfProto x)) s) is

-- ---- a node closes

drop-first : {A B : Type 0} (f : A → B) (xs : List A) (ys : List B) → drop (length xs) (map f xs ++ ys) ≡ ys
drop-first f [] ys = refl
drop-first f (x ∷ xs) ys = drop-first f xs ys

pub placed-flat : (line : ℕ) (name : Option Name) (ty : NodeType) (inside : Inside) (i : flat.Inside) (fields : List FlatField) (interface : List (Declaration ℕ)) → inside.owner ≡ held.Node ty → i.fields ≡ fields_in inside → i.filled ≡ filled_in inside →
    fields ≡ flat_fields (filled_in inside) → interface ≡ declared_fields inside.declared.items →
    record { line = line; name = name; node_type = ty; fields = fields; interface = interface } ≡ flat.flat_node line name ty i
placed-flat line name ty inside i fields interface own known filled given declared =
    ap (λ fs. record { line = line; name = name; node_type = ty; fields = fs; interface = interface }) (given ∙ ap flat_fields (sym filled))
    ∙ ap (λ ds. record { line = line; name = name; node_type = ty; fields = flat_fields i.filled; interface = ds })
    (declared ∙ sym (drop-first (λ row. flat.field_with 0 row.access row.field_type row.name) (rows ty) (declared_fields inside.declared.items))
    ∙ ap (λ o. drop (length (rows ty)) (fields_of_owner o ++ declared_fields inside.declared.items)) (sym own) ∙ ap (drop (length (rows ty))) (sym known))

pub closes-node : (ps : List Prototype) (o : Open) (ty : NodeType) (placed : FlatNode) (s : State) → o.inside.owner ≡ held.Node ty → placed ≡ flat.flat_node o.line o.name.now ty (inside_now ps o) →
    doing (closes ps o.line o.name.now o.word o.inside.owner (inside_now ps o)) s ≡ doing (flat.close_node o.name.now o.at placed) s
closes-node ps o ty placed s own is =
    ap (λ x. doing (closes ps o.line o.name.now o.word x (inside_now ps o)) s) own ∙ ap (λ n. doing (flat.close_node o.name.now o.at n) s) (sym is)

pub number-goes : (ps : List Prototype) (o : Comes ℕ) (n : ℕ) (s : State) → o ≡ Ok (n, s) → o ≡ task_comes ps (task.Number n) s
unfolding task_comes
number-goes ps o n s is = is

-- nothing is left between braces
pub open-closes : (ps : List Prototype) (o : Open) (s : State) → o.rest.now ≡ [] → doing (open_does ps o (inside_now ps o)) s ≡ doing (closes ps o.line o.name.now o.word o.inside.owner (inside_now ps o)) s
unfolding open_does
open-closes ps o s is = ap (λ items. doing (items_do ps items (inside_now ps o) >>= closes ps o.line o.name.now o.word o.inside.owner) s) is

-- ---- an instance closes

module _ (line : ℕ) (interface : List Field) (name : Option Name) (at : ℕ) (put : Put) (around : Scope) where
  abbrev outer : Walk
  outer = record { put = put; sight = record { here = []; outside = []; taken = no_names }; scope = around }

  abbrev stands : Instance → Outcome (ℕ × Walk)
  stands made =
      close name at (record { node = made.node; interface = Some interface; ends = made.ends })
      (record made.put { nodes = renamed name made.node made.put.nodes })
      (record outer { scope = record outer.scope { routes = λ all. outer.scope.routes all ++ made.routes } })

  stands-by : (ns : List ℕ) (w : Walk) (r : Room) → and_see (and_see (settle (made line ns w) r) (λ p. settle (stands p.0) p.1)) onward ≡ leaves_by line interface name at around ns (record { room = r; walk = w })
  stands-by [] w r = refl
  stands-by (n ∷ ns) w r = refl

  -- by what the body does in a scope of its own
  pub body-stands : (m : Does (List ℕ)) (w : Walk) (r : Room) → and_see (settle (and_then (and_then (m w) (λ q. made line q.0 q.1)) stands) r) onward ≡ after (doing m (record { room = r; walk = w })) (leaves_by line interface name at around)
  body-stands m w r =
      ap (λ x. and_see x onward) (settle-then (and_then (m w) (λ q. made line q.0 q.1)) stands r ∙ ap (λ x. and_see x (λ p. settle (stands p.0) p.1)) (settle-then (m w) (λ q. made line q.0 q.1) r))
      ∙ ap (λ x. and_see x onward) (see-assoc (settle (m w) r) (λ q. settle (made line q.0.0 q.0.1) q.1) (λ p. settle (stands p.0) p.1))
      ∙ see-assoc (settle (m w) r) (λ q. and_see (settle (made line q.0.0 q.0.1) q.1) (λ p. settle (stands p.0) p.1)) onward
      ∙ see-congr (settle (m w) r) (λ q. and_see (and_see (settle (made line q.0.0 q.0.1) q.1) (λ p. settle (stands p.0) p.1)) onward) (λ q. leaves_by line interface name at around q.0.0 (record { room = q.1; walk = q.0.1 })) (λ q. stands-by q.0.0 q.0.1 q.1)
      ∙ sym (see-assoc (settle (m w) r) onward (λ p. leaves_by line interface name at around p.0 p.1))

abbrev standing : Room → Put → Scope → State
standing room put around =
    record { room = room; walk = record { put = put; sight = record { here = []; outside = []; taken = no_names }; scope = around } }

-- the body of the tree, with the interface as it is known
abbrev body_by : List Prototype → List Field → ProtoTree → List Filled → Does (List ℕ)
body_by ps interface tree given = through (default ps) tree.defaults given >>= λ filled. finds interface filled >>= λ _. statements_do ps tree.body []

pub instance-closes : (ps : List Prototype) (p : Prototype) (known : Bor Proto) (name : Bor (Option Name)) (i : flat.Inside) (sc : scopes.Scope) (around : Scope) (room : Room) (put : Put) → IsKnown ps p known.now → scope.shown sc ≡ around →
    doing (flat.close_instance name.now p i) (standing room put around)
    ≡ filling_comes ps (record { proto = known; name = name; at = i.at; scope = sc }) known.now.tree.now.defaults i.filled (standing room put nothing)
unfolding filling_comes
instance-closes ps p known name i sc around room put k is =
    ap (λ (o : Outcome Instance). and_see (settle (and_then o (stands (out-ProtoText known.now.tree.now.text.now).line p.interface name.now i.at put around)) room) onward) (k.instance i.filled put)
    ∙ ap (λ fs. and_see (settle (and_then (and_then (body_by ps fs known.now.tree.now i.filled (begin [] put)) (λ q. made (out-ProtoText known.now.tree.now.text.now).line q.0 q.1)) (stands (out-ProtoText known.now.tree.now.text.now).line p.interface name.now i.at put around)) room) onward) (sym k.read)
    ∙ body-stands (out-ProtoText known.now.tree.now.text.now).line p.interface name.now i.at put around (body_by ps known.now.interface known.now.tree.now i.filled) (begin [] put) room
    ∙ ap (λ fs. after (doing (body_by ps known.now.interface known.now.tree.now i.filled) (standing room put nothing)) (leaves_by (out-ProtoText known.now.tree.now.text.now).line fs name.now i.at around)) k.interface
    ∙ ap (λ x. after (doing (body_by ps known.now.interface known.now.tree.now i.filled) (standing room put nothing)) (leaves_by (out-ProtoText known.now.tree.now.text.now).line known.now.interface name.now i.at x)) (sym is)

-- the default values of an instance begin
pub filling-begins : (ps : List Prototype) (a : Around) (rest : List DefaultTree) (all : List Filled) (f : Filling) (s : State) → f.around.value ≡ a → f.rest.now ≡ rest → filled_now f ≡ all →
    filling_comes ps a rest all s ≡ filling_comes ps f.around.value f.rest.now (filled_now f) s
filling-begins ps a rest all f s around left filled =
    ap (λ x. filling_comes ps x rest all s) (sym around) ∙ ap (λ x. filling_comes ps f.around.value x all s) (sym left) ∙ ap (λ x. filling_comes ps f.around.value f.rest.now x s) (sym filled)

pub none-filled : (xs ys : List Filled) → ys ≡ [] → xs ++ ys ≡ xs
none-filled xs ys is = ap (λ zs. xs ++ zs) is ∙ append-nil xs

pub closes-instance : (ps : List Prototype) (o : Open) (i : Bor (List Field)) (s : State) → o.inside.owner ≡ held.Instance i →
    doing (closes ps o.line o.name.now o.word o.inside.owner (inside_now ps o)) s ≡ doing (flat.close_instance o.name.now (proto_by ps o.word) (inside_now ps o)) s
closes-instance ps o i s is = ap (λ x. doing (closes ps o.line o.name.now o.word x (inside_now ps o)) s) is
