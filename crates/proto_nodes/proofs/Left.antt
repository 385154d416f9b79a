-- The body of an instance, one statement after the other.
use Rattle.std.proofs.Common.{◌≡◌, ℕ, List, [], ◌∷◌, ◌++◌, Bor, Option, Some, None, Result, Ok, Err, refl, ap, sym, subst, ◌∙◌}
use Rattle.std.proofs.lemmas.List.{append-nil}
use Rattle.classic_tree.specs.declared.tree.RouteText.{RouteText}
use Rattle.proto_flat.specs.Fault.{fault}
use Rattle.proto_flat.specs.declared.fault.ExpandFault.{ExpandFault}
use Rattle.proto_flat.specs.declared.fault.ExpandFaultKind.TheVariants.{EmptyBody}
use Rattle.proto_flat.specs.declared.flat.FlatEnd.{FlatEnd}
use Rattle.proto_flat.specs.declared.flat.FlatRoute.{FlatRoute}
use Rattle.proto_parts.specs.Put as put
use Rattle.proto_parts.specs.declared.put.PutIn as puts
use Rattle.proto_parts.specs.Scope as scope
use Rattle.proto_parts.specs.declared.scope.Scope as scopes
use Rattle.proto_nodes.specs.Steps.{standing_in}
use Rattle.proto_meaning.specs.Flat as flat
use Rattle.proto_meaning.specs.Flat.{Does, pure, comes, note_route, in_body}
use Rattle.proto_meaning.specs.Names.{Name, Filled}
use Rattle.proto_meaning.specs.Sight.{Prototype}
use Rattle.proto_parts.specs.Settled.{State, doing}
use Rattle.proto_nodes.specs.Shown.{Steps, shown}
use Rattle.proto_nodes.specs.declared.walker.Walker.{Walker}
use Rattle.proto_meaning.specs.trees.Meaning.{node, statement}
use Rattle.proto_meaning.specs.declared.tree.BodyTree.{BodyTree}
use Rattle.proto_meaning.specs.declared.tree.BodyTree.TheVariants as body
use Rattle.proto_meaning.specs.declared.tree.DefaultTree.{DefaultTree}
use Rattle.proto_meaning.specs.declared.tree.NodeTree.{NodeTree}
use Rattle.proto_nodes.specs.declared.frames.Around.{Around}
use Rattle.proto_nodes.specs.declared.frames.ProtoBody.{ProtoBody}
use Rattle.proto_nodes.specs.declared.frames.Frame.TheVariants as frame
use Rattle.proto_nodes.specs.declared.frames.NodeTask.{NodeTask}
use Rattle.proto_nodes.specs.declared.frames.NodeTask.TheVariants as task
use Rattle.proto_nodes.specs.Does.{Comes, after, done, statements_do, line_of, outside, leaves, first_of, body_comes, defaults_do, filling_comes}
use Rattle.proto_nodes.specs.Frames.{Goes, body_or, held, frame_comes, task_comes}
use Rattle.proto_nodes.proofs.NodeSteps.{then-assoc, then-same, doing-then, doing-assoc, then-stop}

-- ---- statements

-- the first statement, and then the others
pub body-first : (ps : List Prototype) (a : Around) (all : List BodyTree) (x : BodyTree) (rest : List BodyTree) (first : List ℕ) (s : State) → all ≡ x ∷ rest →
    body_comes ps a all first s ≡ after (doing (in_body (statement ps x) first) s) (body_comes ps a rest)
unfolding body_comes
body-first ps a all x rest first s is =
    ap (λ xs. after (doing (statements_do ps xs first) s) (leaves a)) is
    ∙ ap (λ o. after o (leaves a)) (doing-then (in_body (statement ps x) first) (statements_do ps rest) s)
    ∙ then-assoc (doing (in_body (statement ps x) first) s) (λ ns. doing (statements_do ps rest ns)) (leaves a)

pub body-done : (ps : List Prototype) (a : Around) (all : List BodyTree) (first : List ℕ) (s : State) → all ≡ [] → body_comes ps a all first s ≡ leaves a first s
unfolding body_comes
body-done ps a all first s is = ap (λ xs. after (doing (statements_do ps xs first) s) (leaves a)) is

-- a node has its number, and then the body has it
node-held : (ps : List Prototype) (n : NodeTree) (o : Option ℕ) (s : State) → doing (in_body (statement ps (body.Node n)) (first_of o)) s ≡ after (doing (node ps n).does s) (λ k. doing (held o k))
unfolding flat.statement_step
node-held ps n None s = doing-then (node ps n).does (λ k. pure (k ∷ [])) s
node-held ps n (Some first) s = doing-assoc (node ps n).does (λ k. pure (k ∷ [])) (λ ns w. comes (Ok (first ∷ [], record w { put = record w.put { helpers = w.put.helpers ++ ns } }))) s

pub body-node : (ps : List Prototype) (a : Around) (all : List BodyTree) (n : NodeTree) (rest : List BodyTree) (first : Option ℕ) (s : State) → all ≡ body.Node n ∷ rest →
    body_comes ps a all (first_of first) s ≡ after (doing (node ps n).does s) (λ k t. after (doing (held first k) t) (body_comes ps a rest))
body-node ps a all n rest first s is =
    body-first ps a all (body.Node n) rest (first_of first) s is
    ∙ ap (λ o. after o (body_comes ps a rest)) (node-held ps n first s)
    ∙ then-assoc (doing (node ps n).does s) (λ k. doing (held first k)) (body_comes ps a rest)

-- a ROUTE gives no node
route-state : State → List ℕ → State
route-state t ns = record t { walk = record t.walk { put = record t.walk.put { helpers = t.walk.put.helpers ++ ns } } }

unhelped : (first : ℕ) (t : State) → doing (λ w. comes (Ok (first ∷ [], record w { put = record w.put { helpers = w.put.helpers ++ [] } }))) t ≡ done (first ∷ []) t
unhelped first t = ap (λ hs. Ok (first ∷ [], record t { walk = record t.walk { put = record t.walk.put { helpers = hs } } })) (append-nil t.walk.put.helpers)

route-held : (ps : List Prototype) (r : Bor RouteText) (o : Option ℕ) (s : State) → doing (in_body (statement ps (body.Route r)) (first_of o)) s ≡ after (doing (note_route r.now) s) (λ _. done (first_of o))
unfolding flat.statement_step
route-held ps r None s = doing-then (note_route r.now) (λ _. pure []) s
route-held ps r (Some first) s =
    doing-assoc (note_route r.now) (λ _. pure []) (λ ns w. comes (Ok (first ∷ [], record w { put = record w.put { helpers = w.put.helpers ++ ns } }))) s
    ∙ then-same (doing (note_route r.now) s) (λ _. doing (λ w. comes (Ok (first ∷ [], record w { put = record w.put { helpers = w.put.helpers ++ [] } })))) (λ _. done (first ∷ [])) (λ _ t. unhelped first t)

pub body-route : (ps : List Prototype) (a : Around) (all : List BodyTree) (r : Bor RouteText) (rest : List BodyTree) (first : Option ℕ) (s : State) → all ≡ body.Route r ∷ rest →
    body_comes ps a all (first_of first) s ≡ after (doing (note_route r.now) s) (λ _. body_comes ps a rest (first_of first))
body-route ps a all r rest first s is =
    body-first ps a all (body.Route r) rest (first_of first) s is
    ∙ ap (λ o. after o (body_comes ps a rest)) (route-held ps r first s)
    ∙ then-assoc (doing (note_route r.now) s) (λ _. done (first_of first)) (body_comes ps a rest)

wrong-held : (ps : List Prototype) (e : ExpandFault) (o : Option ℕ) (s : State) → doing (in_body (statement ps (body.Wrong e)) (first_of o)) s ≡ Err e
wrong-held ps e None s = refl
wrong-held ps e (Some first) s = refl

pub body-wrong : (ps : List Prototype) (a : Around) (all : List BodyTree) (e : ExpandFault) (rest : List BodyTree) (first : Option ℕ) (s : State) → all ≡ body.Wrong e ∷ rest → body_comes ps a all (first_of first) s ≡ Err e
body-wrong ps a all e rest first s is =
    body-first ps a all (body.Wrong e) rest (first_of first) s is ∙ ap (λ o. after o (body_comes ps a rest)) (wrong-held ps e first s)

-- ---- the next task of a body

pub body-goes : (ps : List Prototype) (b c : ProtoBody) (n : Bor NodeTree) (rest : Bor (List BodyTree)) (o : Comes ℕ) (s : State) → c ≡ record b { rest = rest } →
    o ≡ after (doing (node ps n.now).does s) (λ k t. after (doing (held b.first k) t) (body_comes ps b.around.value rest.now)) → o ≡ task_comes ps (task.NodeFor (frame.Body c) n) s
unfolding task_comes frame_comes
body-goes ps b c n rest o s left is = is ∙ ap (λ x. task_comes ps (task.NodeFor (frame.Body x) n) s) (sym left)

pub body-on : (ps : List Prototype) (b : ProtoBody) (o : Comes ℕ) (s : State) → o ≡ body_comes ps b.around.value b.rest.now (first_of b.first) s → o ≡ task_comes ps (task.Body b) s
unfolding task_comes
body-on ps b o s is = is

pub body-frame : (ps : List Prototype) (b : ProtoBody) (n : ℕ) (s : State) → frame_comes ps (frame.Body b) n s ≡ after (doing (held b.first n) s) (body_comes ps b.around.value b.rest.now)
unfolding frame_comes
body-frame ps b n s = refl

-- what was done before went well, and the body goes on
pub body-after : (ps : List Prototype) (b : ProtoBody) (m : Does (Unit {0})) (s : State) (d : Result (Unit {0}) ExpandFault) (result : Result NodeTask ExpandFault) (walker : Walker) → result ≡ body_or b d → Steps (λ (a : Unit {0}). a) (doing m s) d walker →
    Goes ps (after (doing m s) (λ _. body_comes ps b.around.value b.rest.now (first_of b.first))) result (shown walker)
body-after ps b m s (Ok u) result walker is k =
    subst (λ x. Goes ps (after (doing m s) (λ _. body_comes ps b.around.value b.rest.now (first_of b.first))) x (shown walker)) (sym is)
    (body-on ps b (after (doing m s) (λ _. body_comes ps b.around.value b.rest.now (first_of b.first))) (shown walker) (ap (λ o. after o (λ _. body_comes ps b.around.value b.rest.now (first_of b.first))) k.0))
body-after ps b m s (Err e) result walker is k =
    subst (λ x. Goes ps (after (doing m s) (λ _. body_comes ps b.around.value b.rest.now (first_of b.first))) x (shown walker)) (sym is)
    (then-stop (doing m s) (λ _. body_comes ps b.around.value b.rest.now (first_of b.first)) e k)

-- ---- the body begins

pub body-begins : (ps : List Prototype) (a : Around) (left : List DefaultTree) (all : List Filled) (s t : State) → left ≡ [] →
    t ≡ record s { walk = record s.walk { scope = record s.walk.scope { interface = a.proto.now.interface; given = all } } } →
    filling_comes ps a left all s ≡ body_comes ps a a.proto.now.tree.now.body [] t
unfolding body_comes filling_comes
body-begins ps a left all s t none is =
    ap (λ xs. after (doing (defaults_do ps a xs all) s) (leaves a)) none ∙ ap (λ u. after (doing (statements_do ps a.proto.now.tree.now.body []) u) (leaves a)) (sym is)

-- ---- the body begins and ends

pub begun-state : (w : Walker) (sc : scopes.Scope) (a b : Around) (all : List Filled) → scope.shown sc ≡ record (scope.shown w.scope) { interface = b.proto.now.interface; given = all } → b ≡ a →
    shown (record w { scope = sc }) ≡ record (shown w) { walk = record (shown w).walk { scope = record (shown w).walk.scope { interface = a.proto.now.interface; given = all } } }
begun-state w sc a b all is same =
    ap (λ x. record (shown w) { walk = record (shown w).walk { scope = x } }) (is ∙ ap (λ (y : Around). record (scope.shown w.scope) { interface = y.proto.now.interface; given = all }) same)

pub leave-stands : (a : Around) (o : Option ℕ) (n : ℕ) (s t : State) (ends : Name → List FlatEnd) (routes : List FlatRoute) → o ≡ Some n → ends ≡ s.walk.scope.ends s.walk.scope.braces → routes ≡ s.walk.scope.routes s.walk.scope.braces → t ≡ s →
    leaves a (first_of o) s ≡ doing (standing_in a.name.now a.at (record { node = n; interface = Some a.proto.now.interface; ends = ends }) routes) (outside (scope.shown a.scope) t)
leave-stands a o n s t ends routes is joined made same =
    ap (λ x. leaves a (first_of x) s) is
    ∙ ap (λ x. doing (standing_in a.name.now a.at (record { node = n; interface = Some a.proto.now.interface; ends = x }) (s.walk.scope.routes s.walk.scope.braces)) (outside (scope.shown a.scope) s)) (sym joined)
    ∙ ap (λ x. doing (standing_in a.name.now a.at (record { node = n; interface = Some a.proto.now.interface; ends = ends }) x) (outside (scope.shown a.scope) s)) (sym made)
    ∙ ap (λ x. doing (standing_in a.name.now a.at (record { node = n; interface = Some a.proto.now.interface; ends = ends }) routes) (outside (scope.shown a.scope) x)) (sym same)

pub leave-empty : (a : Around) (o : Option ℕ) (s : State) → o ≡ None → leaves a (first_of o) s ≡ Err (fault EmptyBody (line_of a))
leave-empty a o s is = ap (λ x. leaves a (first_of x) s) is

-- ---- a body has a node more

pub hold-first : (ps : List Prototype) (b : ProtoBody) (n : ℕ) (s : State) → b.first ≡ None → frame_comes ps (frame.Body b) n s ≡ task_comes ps (task.Body (record b { first = Some n })) s
unfolding task_comes frame_comes
hold-first ps b n s is = ap (λ o. after (doing (held o n) s) (body_comes ps b.around.value b.rest.now)) is

pub hold-more : (ps : List Prototype) (b : ProtoBody) (first n : ℕ) (s : State) → b.first ≡ Some first → frame_comes ps (frame.Body b) n s ≡ after (doing (held (Some first) n) s) (body_comes ps b.around.value b.rest.now)
unfolding frame_comes
hold-more ps b first n s is = ap (λ o. after (doing (held o n) s) (body_comes ps b.around.value b.rest.now)) is

pub help-goes : (ps : List Prototype) (b : ProtoBody) (first n : ℕ) (w : Walker) (new : puts.PutIn) → b.first ≡ Some first → put.shown new ≡ record (put.shown w.put) { helpers = (put.shown w.put).helpers ++ n ∷ [] } →
    after (doing (held (Some first) n) (shown w)) (body_comes ps b.around.value b.rest.now) ≡ task_comes ps (task.Body b) (shown (record w { put = new }))
unfolding task_comes
help-goes ps b first n w new is helped =
    ap (λ x. body_comes ps b.around.value b.rest.now (first ∷ []) (record (shown w) { walk = record (shown w).walk { put = x } })) (sym helped)
    ∙ ap (λ o. body_comes ps b.around.value b.rest.now (first_of o) (shown (record w { put = new }))) (sym is)
