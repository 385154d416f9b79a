-- A whole text: statements in turn, and what is left when all is put in.
use Rattle.std.proofs.Common.{zero, suc, arith, ◌≡◌, ℕ, ◌+◌, ◌-◌, ◌*◌, ◌<◌, ◌≤◌, get_or, add-one, drop-cons, Bool, true, false, if◌then◌else◌, List, [], ◌∷◌, ◌++◌, Bor, map, drop, take, Option, Some, None, Result, Ok, Err, refl, ap, sym, subst, ◌∙◌, inl, inr}
use Rattle.std.specs.Prelude.{◌⊎◌, nat_lt, length, option_map, slice_get, IfOk}
use Rattle.std.proofs.lemmas.List.{append-nil, drop-drop, take_rest}
use Rattle.std.proofs.lemmas.Option.{slice_get-map}
use Rattle.classic_tree.specs.declared.tree.ProtoText.{out-ProtoText}
use Rattle.classic_tree.specs.declared.tree.RouteText.{RouteText}
use Rattle.std.specs.declared.alloc.AllocError.{AllocError}
use Rattle.x3d_lists.specs.Answers.{Gives}
use Rattle.proto_flat.specs.Fault.{fault, memory}
use Rattle.proto_flat.specs.declared.fault.ExpandFault.{ExpandFault}
use Rattle.proto_flat.specs.declared.fault.ExpandFaultKind.TheVariants.{TooLarge}
use Rattle.proto_flat.specs.declared.flat.Flat.{Flat}
use Rattle.proto_flat.specs.declared.flat.FlatRoute.{FlatRoute}
use Rattle.proto_flat.specs.declared.flat.Header.{Header}
use Rattle.proto_meaning.specs.Flat as flat
use Rattle.proto_meaning.specs.Flat.{Walk, ◌>>=◌, pure, comes, note_route, begin, field}
use Rattle.proto_meaning.specs.Limits.{Outcome, and_then, limited, with_few_routes}
use Rattle.proto_meaning.specs.Sight.{Prototype, Put, and_see}
use Rattle.proto_parts.specs.declared.room.Room.{Room}
use Rattle.proto_parts.specs.Settled.{State, full, settle, onward, doing}
use Rattle.proto_parts.proofs.Settling.{limits_are_settled, settle-then, see-assoc, see-congr}
use Rattle.proto_parts.specs.Ends.{few}
use Rattle.proto_nodes.specs.Shown.{Sound, Steps, shown, before}
use Rattle.proto_nodes.specs.declared.walker.Walker.{Walker}
use Rattle.proto_meaning.specs.trees.Meaning.{instance, node, stand_together}
use Rattle.proto_meaning.specs.declared.tree.BodyTree.{BodyTree}
use Rattle.proto_meaning.specs.declared.tree.BodyTree.TheVariants as body
use Rattle.proto_meaning.specs.declared.tree.NodeTree.{NodeTree}
use Rattle.proto_meaning.specs.declared.tree.ProtoTree.{ProtoTree}
use Rattle.proto_nodes.specs.declared.frames.Proto.{Proto}
use Rattle.proto_expand.specs.declared.whole.Content.{Content}
use Rattle.proto_nodes.specs.Protos.{AreKnown, Knows}
use Rattle.proto_expand.specs.Tied.{AreTied, Tied, known_of, read_of}
use Rattle.proto_nodes.specs.Does.{Comes}
use Rattle.proto_nodes.specs.Frames.{Ends}
use Rattle.proto_expand.specs.Rows.{RootsSized, look_along, row_len}
use Rattle.proto_expand.specs.Whole.{all_of, content_by, content_of, content_or, root_does, roots_do, with_content}
use Rattle.proto_nodes.proofs.NodeSteps.{did, stopped, same-stop}
use Rattle.proto_expand.proofs.Floods.{look_fails, row_floods}

-- ---- the prototypes

known-one : (ps : List Prototype) (a : Option Prototype) (b : Option Proto) (c : Option ProtoTree) → option_map known_of b ≡ option_map read_of c → AreTied ps a c → AreKnown ps a b
known-one ps None None c is k = tt
known-one ps None (Some known) None is k = cc
known-one ps None (Some known) (Some t) is k = absurd k
known-one ps (Some p) None None is k = absurd k
known-one ps (Some p) None (Some t) is k = cc
known-one ps (Some p) (Some known) None is k = absurd k
known-one ps (Some p) (Some known) (Some t) is k =
    let same : known_of known ≡ read_of t = cc in
    let tree : known.tree.now ≡ t = ap (λ x. x.0) same in
    let interface : known.interface ≡ map field (out-ProtoText t.text.now).interface = ap (λ x. x.1) same in
    record {
      interface = k.interface ∙ sym interface;
      read = interface ∙ ap (λ x. map field (out-ProtoText x.text.now).interface) (sym tree);
      instance = λ given put. k.instance given put ∙ ap (λ x. instance ps x given put) (sym tree);
    }

pub known-all : (ps : List Prototype) (protos : List Proto) (trees : List ProtoTree) → map known_of protos ≡ map read_of trees → Tied ps trees → Knows ps protos
known-all ps protos trees is tied number =
    known-one ps (slice_get ps number) (slice_get protos number) (slice_get trees number)
    (sym (slice_get-map known_of protos number) ∙ ap (λ xs. slice_get xs number) is ∙ slice_get-map read_of trees number) (tied number)

-- ---- statements

pub root-node : (ps : List Prototype) (n : NodeTree) (roots more : List ℕ) (k : ℕ) (s t : State) → doing (node ps n).does s ≡ Ok (k, t) → more ≡ roots ++ k ∷ [] → doing (root_does ps (body.Node n) roots) s ≡ Ok (more, t)
unfolding flat.statement_step
root-node ps n roots more k s t is same =
    did ((node ps n).does >>= λ j. pure (j ∷ [])) (λ ns. pure (roots ++ ns)) s t (k ∷ []) (did (node ps n).does (λ j. pure (j ∷ [])) s t k is) ∙ ap (λ x. Ok (x, t)) (sym same)

pub root-stops : (ps : List Prototype) (n : NodeTree) (roots : List ℕ) (s : State) (e : ExpandFault) → (e ≡ memory) ⊎ (doing (node ps n).does s ≡ Err e) → (e ≡ memory) ⊎ (doing (root_does ps (body.Node n) roots) s ≡ Err e)
unfolding flat.statement_step
root-stops ps n roots s e k = stopped ((node ps n).does >>= λ j. pure (j ∷ [])) (λ ns. pure (roots ++ ns)) s e (stopped (node ps n).does (λ j. pure (j ∷ [])) s e k)

pub route-ends : (ps : List Prototype) (r : Bor RouteText) (roots : List ℕ) (s : State) (d : Result (Unit {0}) ExpandFault) (walker : Walker) → Steps (λ (a : Unit {0}). a) (doing (note_route r.now) s) d walker →
    Ends (λ (_ : Unit {0}). roots) (doing (root_does ps (body.Route r) roots) s) d (shown walker)
unfolding flat.statement_step
route-ends ps r roots s (Ok u) walker k =
    did (note_route r.now >>= λ _. pure []) (λ ns. pure (roots ++ ns)) s (shown walker) [] (did (note_route r.now) (λ _. pure []) s (shown walker) tt k.0) ∙ ap (λ x. Ok (x, shown walker)) (append-nil roots)
route-ends ps r roots s (Err e) walker k = stopped (note_route r.now >>= λ _. pure []) (λ ns. pure (roots ++ ns)) s e (stopped (note_route r.now) (λ _. pure []) s e k)

pub statement-as : (ps : List Prototype) (x y : BodyTree) (roots more : List ℕ) (s t : State) (r : Result (Unit {0}) ExpandFault) → x ≡ y → Ends (λ (_ : Unit {0}). more) (doing (root_does ps y roots) s) r t → Ends (λ (_ : Unit {0}). more) (doing (root_does ps x roots) s) r t
statement-as ps x y roots more s t r is k = subst (λ z. Ends (λ (_ : Unit {0}). more) (doing (root_does ps z roots) s) r t) (sym is) k

pub wrong-root : (ps : List Prototype) (x : BodyTree) (e : ExpandFault) (roots : List ℕ) (s : State) → x ≡ body.Wrong e → doing (root_does ps x roots) s ≡ Err e
wrong-root ps x e roots s is = ap (λ z. doing (root_does ps z roots) s) is

-- the next statement, and then the others
pub roots-next : (ps : List Prototype) (all : List BodyTree) (x : BodyTree) (rest : List BodyTree) (roots more : List ℕ) (s t : State) → all ≡ x ∷ rest → doing (root_does ps x roots) s ≡ Ok (more, t) → doing (roots_do ps all roots) s ≡ doing (roots_do ps rest more) t
roots-next ps all x rest roots more s t is done =
    ap (λ xs. doing (roots_do ps xs roots) s) is ∙ did (root_does ps x roots) (roots_do ps rest) s t more done

pub roots-stop : (ps : List Prototype) (all : List BodyTree) (x : BodyTree) (rest : List BodyTree) (roots : List ℕ) (s : State) (e : ExpandFault) → all ≡ x ∷ rest → (e ≡ memory) ⊎ (doing (root_does ps x roots) s ≡ Err e) → (e ≡ memory) ⊎ (doing (roots_do ps all roots) s ≡ Err e)
roots-stop ps all x rest roots s e is k =
    same-stop (doing (roots_do ps all roots) s) (doing (roots_do ps (x ∷ rest) roots) s) e (ap (λ xs. doing (roots_do ps xs roots) s) is) (stopped (root_does ps x roots) (roots_do ps rest) s e k)

-- so many stand in a row that they can't be put in
pub roots-flooded : (ps : List Prototype) (all : List BodyTree) (x : BodyTree) (rest : List BodyTree) (roots more : List ℕ) (s t : State) (e : ExpandFault) → all ≡ x ∷ rest → RootsSized ps all → doing (root_does ps x roots) s ≡ Ok (more, t)
    → look_along all s.room.all t.room.all ≡ Err e → (e ≡ memory) ⊎ (doing (roots_do ps all roots) s ≡ Err e)
roots-flooded ps all x rest roots more s t e is sized done looked =
    let fails = look_fails all s.room.all t.room.all e looked in
    let first : RootsSized ps (x ∷ rest) = subst (λ xs. RootsSized ps xs) is sized in
    let over : nat_lt t.room.all ((s.room.all - t.room.all) * (row_len (x ∷ rest) - 1)) ≡ true = subst (λ xs. nat_lt t.room.all ((s.room.all - t.room.all) * (row_len xs - 1)) ≡ true) is fails.0 in
    inr (roots-next ps all x rest roots more s t is done ∙ row_floods ps x rest roots more s t first.0 done over ∙ ap (λ (f : ExpandFault). Err f) (sym fails.1))

pub first-of : {A : Type 0} (xs : List A) (x : A) → 1 ≤ length xs → x ≡ get_or xs 0 x → xs ≡ x ∷ drop 1 xs
first-of [] x h is = absurd (omega (arith, h))
first-of (y ∷ xs) x h is = ap (λ z. z ∷ xs) (sym is)

pub sized-left : (ps : List Prototype) (xs : List BodyTree) (i : ℕ) → RootsSized ps xs → RootsSized ps (drop i xs)
sized-left ps xs zero h = h
sized-left ps [] (suc i) h = tt
sized-left ps (x ∷ xs) (suc i) h = sized-left ps xs i h.1

-- those from one on, as a slice
pub next-root : (ps : List Prototype) (xs : List BodyTree) (i : ℕ) (roots more : List ℕ) (s t : State) → RootsSized ps xs
    → (RootsSized ps (take (length xs - i) (drop i xs)) → doing (roots_do ps (take (length xs - i) (drop i xs)) roots) s ≡ doing (roots_do ps (drop 1 (take (length xs - i) (drop i xs))) more) t)
    → doing (roots_do ps (drop i xs) roots) s ≡ doing (roots_do ps (drop (i + 1) xs) more) t
next-root ps xs i roots more s t sized h =
    subst (λ ys. RootsSized ps ys → doing (roots_do ps ys roots) s ≡ doing (roots_do ps (drop 1 ys) more) t) (take_rest xs i) h (sized-left ps xs i sized)
    ∙ ap (λ ys. doing (roots_do ps ys more) t) (drop-drop 1 i xs)

-- ---- all that was put in

abbrev Parts : Type 0
Parts = List ℕ × List FlatRoute × Put

abbrev parts_if : Bool → List ℕ → List FlatRoute → Put → Result Parts ExpandFault
parts_if b roots routes put = and_see (if b then Err (fault TooLarge 0) else Ok routes) (λ rs. Ok (roots, rs, put))

abbrev given_by : Header → Content → Result Flat ExpandFault
given_by header c = Ok (with_content header c)

abbrev content_at : Parts → Result Content ExpandFault
content_at p = Ok (content_of p.0 p.1 p.2)

few-then : (b : Bool) (header : Header) (roots : List ℕ) (routes : List FlatRoute) (put : Put) →
    (if b then Err (fault TooLarge 0) else Ok (with_content header (content_of roots routes put))) ≡ and_see (and_see (parts_if b roots routes put) content_at) (given_by header)
few-then true header roots routes put = refl
few-then false header roots routes put = refl

abbrev at_first : Walk
at_first = begin [] (record { nodes = []; helpers = [] })

abbrev last_of : Header → List ℕ × Walk → Outcome Flat
last_of header p = comes (Ok (with_content header (content_of p.0 (p.1.scope.routes p.1.scope.braces) p.1.put)))

abbrev few_of : Flat × Room → Result Flat ExpandFault
few_of p = with_few_routes (Ok p.0)

abbrev parts_at : (List ℕ × Walk) × Room → Result Parts ExpandFault
parts_at q = parts_if (nat_lt 65536 (length (q.0.1.scope.routes q.0.1.scope.braces))) q.0.0 (q.0.1.scope.routes q.0.1.scope.braces) q.0.1.put

abbrev parts_in : List ℕ × State → Result Parts ExpandFault
parts_in p = and_see (few (p.1.walk.scope.routes p.1.walk.scope.braces)) (λ routes. Ok (p.0, routes, p.1.walk.put))

module _ (header : Header) (m : flat.Does (List ℕ)) where
  abbrev settled : Result ((List ℕ × Walk) × Room) ExpandFault
  settled = settle (m at_first) full

  pub whole-comes : limited (and_then (m at_first) (last_of header)) ≡ and_see (content_by (all_of (doing m before))) (given_by header)
  whole-comes =
      limits_are_settled (and_then (m at_first) (last_of header))
      ∙ ap (λ x. and_see x few_of) (settle-then (m at_first) (last_of header) full)
      ∙ see-assoc settled (λ p. settle (last_of header p.0) p.1) few_of
      ∙ see-congr settled (λ p. and_see (settle (last_of header p.0) p.1) few_of) (λ q. and_see (and_see (parts_at q) content_at) (given_by header))
      (λ q. few-then (nat_lt 65536 (length (q.0.1.scope.routes q.0.1.scope.braces))) header q.0.0 (q.0.1.scope.routes q.0.1.scope.braces) q.0.1.put)
      ∙ sym (ap (λ x. and_see (and_see x content_at) (given_by header)) (see-assoc settled onward parts_in)
      ∙ ap (λ x. and_see x (given_by header)) (see-assoc settled parts_at content_at)
      ∙ see-assoc settled (λ q. and_see (parts_at q) content_at) (given_by header))

pub text-comes : (ps : List Prototype) (header : Header) (statements : List BodyTree) →
    limited (stand_together ps header statements) ≡ and_see (content_by (all_of (doing (roots_do ps statements []) before))) (given_by header)
text-comes ps header statements = whole-comes header (roots_do ps statements [])

pub flat-gives : (ps : List Prototype) (header : Header) (statements : List BodyTree) (c : Content) → content_by (all_of (doing (roots_do ps statements []) before)) ≡ Ok c → limited (stand_together ps header statements) ≡ Ok (with_content header c)
flat-gives ps header statements c is = text-comes ps header statements ∙ ap (λ r. and_see r (given_by header)) is

pub flat-fails : (ps : List Prototype) (header : Header) (statements : List BodyTree) (e : ExpandFault) → (e ≡ memory) ⊎ (content_by (all_of (doing (roots_do ps statements []) before)) ≡ Err e) → (e ≡ memory) ⊎ (limited (stand_together ps header statements) ≡ Err e)
flat-fails ps header statements e (inl k) = inl k
flat-fails ps header statements e (inr k) = inr (text-comes ps header statements ∙ ap (λ r. and_see r (given_by header)) k)

-- ---- what was put in, and the routes

pub all-made : (o : Comes (List ℕ)) (roots : List ℕ) (s : State) (routes : List FlatRoute) (put : Put) → o ≡ Ok (roots, s) → few (s.walk.scope.routes s.walk.scope.braces) ≡ Ok routes → s.walk.put ≡ put → all_of o ≡ Ok (roots, routes, put)
all-made o roots s routes put is few_are same = ap all_of is ∙ ap (λ r. and_see r (λ rs. Ok (roots, rs, s.walk.put))) few_are ∙ ap (λ p. Ok (roots, routes, p)) same

pub roots-fail : (o : Comes (List ℕ)) (e : ExpandFault) → (e ≡ memory) ⊎ (o ≡ Err e) → (e ≡ memory) ⊎ (all_of o ≡ Err e)
roots-fail o e (inl k) = inl k
roots-fail o e (inr k) = inr (ap all_of k)

pub routes-fail : (o : Comes (List ℕ)) (roots : List ℕ) (s : State) (e : ExpandFault) → o ≡ Ok (roots, s) → (e ≡ memory) ⊎ (few (s.walk.scope.routes s.walk.scope.braces) ≡ Err e) → (e ≡ memory) ⊎ (all_of o ≡ Err e)
routes-fail o roots s e is (inl k) = inl k
routes-fail o roots s e is (inr k) = inr (ap all_of is ∙ ap (λ r. and_see r (λ rs. Ok (roots, rs, s.walk.put))) k)

pub content-made : (r : Result Parts ExpandFault) (roots : List ℕ) (routes : List FlatRoute) (put : Put) (c : Content) → r ≡ Ok (roots, routes, put) → c ≡ content_of roots routes put → content_by r ≡ Ok c
content-made r roots routes put c is same = ap content_by is ∙ ap (λ x. Ok x) (sym same)

pub content-fails : (r : Result Parts ExpandFault) (e : ExpandFault) → (e ≡ memory) ⊎ (r ≡ Err e) → (e ≡ memory) ⊎ (content_by r ≡ Err e)
content-fails r e (inl k) = inl k
content-fails r e (inr k) = inr (ap content_by k)

pub steps-sound : (o : Comes (Unit {0})) (r : Result (Unit {0}) ExpandFault) (w : Walker) → Steps (λ (a : Unit {0}). a) o r w → IfOk r (λ _. Sound w)
steps-sound o (Ok u) w k = k.1
steps-sound o (Err e) w k = tt

pub always : {P : Type 0} (r : Result (Unit {0}) ExpandFault) → P → IfOk r (λ _. P)
always (Ok u) p = p
always (Err e) p = tt

pub next-item : {A : Type 0} (xs : List A) (i : ℕ) (x : A) → i < length xs → x ≡ get_or xs i x → drop i xs ≡ x ∷ drop (i + 1) xs
next-item xs i x within is = rw (add-one) (drop-cons xs i x within ∙ ap (λ y. y ∷ drop (suc i) xs) (sym is))

pub all-err : {X : Type 0} (view : X → Parts) (o : Comes (List ℕ)) (r : Result X ExpandFault) (e : ExpandFault) → r ≡ Err e → (e ≡ memory) ⊎ (o ≡ Err e) → Gives memory view r (all_of o)
all-err view o r e is k = subst (λ x. Gives memory view x (all_of o)) (sym is) (roots-fail o e k)

pub routes-err : {X : Type 0} (view : X → Parts) (o : Comes (List ℕ)) (r : Result X ExpandFault) (roots : List ℕ) (s : State) (e : ExpandFault) → r ≡ Err e → o ≡ Ok (roots, s) → (e ≡ memory) ⊎ (few (s.walk.scope.routes s.walk.scope.braces) ≡ Err e) → Gives memory view r (all_of o)
routes-err view o r roots s e is did_so k = subst (λ x. Gives memory view x (all_of o)) (sym is) (routes-fail o roots s e did_so k)

pub gathered : (parts : Result Parts ExpandFault) (r : Result Content AllocError) (q : Result Content ExpandFault) (roots : List ℕ) (routes : List FlatRoute) (put : Put) → q ≡ content_or r → IfOk r (λ c. c ≡ content_of roots routes put) → parts ≡ Ok (roots, routes, put) → Gives memory (λ (c : Content). c) q (content_by parts)
gathered parts (Ok c) q roots routes put is same k = subst (λ x. Gives memory (λ (c : Content). c) x (content_by parts)) (sym is) (content-made parts roots routes put c k same)
gathered parts (Err e) q roots routes put is same k = subst (λ x. Gives memory (λ (c : Content). c) x (content_by parts)) (sym is) (inl refl)

pub same-parts : (o q : Result Parts ExpandFault) (e : ExpandFault) → o ≡ q → (e ≡ memory) ⊎ (q ≡ Err e) → (e ≡ memory) ⊎ (o ≡ Err e)
same-parts o q e is (inl k) = inl k
same-parts o q e is (inr k) = inr (is ∙ k)

pub walked : (ps : List Prototype) (header : Header) (statements : List BodyTree) (r : Result Content ExpandFault) → Gives memory (λ (c : Content). c) r (content_by (all_of (doing (roots_do ps statements []) before))) → Gives memory (with_content header) r (limited (stand_together ps header statements))
walked ps header statements (Ok c) k = flat-gives ps header statements c k
walked ps header statements (Err e) k = flat-fails ps header statements e k
