-- What a step comes to, one part after the other.
use Rattle.std.proofs.Common.{◌≡◌, ℕ, Bool, true, false, true≢false, ◌||◌, if◌then◌else◌, List, [], ◌∷◌, ◌++◌, length, Option, Some, None, Result, Ok, Err, refl, ap, sym, ◌∙◌, inl, inr}
use Rattle.std.specs.Prelude.{◌⊎◌}
use Rattle.std.specs.Result.{result_map_both}
use Rattle.std.specs.Option.{option_map_or}
use Rattle.std.specs.Str.{bytes_eq}
use Rattle.std.proofs.lemmas.Slice.Eq.{bytes_eq-Decides}
use Rattle.proto_flat.specs.Fault.{fault, memory}
use Rattle.proto_flat.specs.declared.fault.ExpandFault.{ExpandFault}
use Rattle.proto_flat.specs.declared.fault.ExpandFaultKind.{ExpandFaultKind}
use Rattle.proto_flat.specs.declared.fault.ExpandFaultKind.TheVariants.{FieldTwice, UseWithoutDef}
use Rattle.proto_meaning.specs.Limits.{Met}
use Rattle.proto_meaning.specs.Names.{Name, Field, Scope, Stands, used}
use Rattle.proto_meaning.specs.Sight.{Names, Put, and_see, no_names, with_name}
use Rattle.proto_meaning.specs.Flat.{Does, ◌>>=◌, pure, refuse, meet, note, close_node, is_one, renamed, unless_twice}
use Rattle.proto_flat.specs.declared.flat.FlatEnd.TheVariants.{At}
use Rattle.proto_flat.specs.declared.flat.FlatNode.{FlatNode}
use Rattle.proto_flat.specs.declared.flat.FlatRoute.{FlatRoute}
use Rattle.proto_parts.specs.Fields.{twice_after}
use Rattle.proto_parts.specs.Names.{opened}
use Rattle.proto_parts.specs.Put as puts
use Rattle.proto_parts.specs.Scope as scopes
use Rattle.proto_parts.specs.declared.scope.Scope as held
use Rattle.proto_parts.specs.Scope.{closed_at, with_routes}
use Rattle.proto_parts.specs.declared.room.Room.{Room}
use Rattle.proto_parts.specs.Settled.{State, spend, settle, onward, doing}
use Rattle.proto_parts.proofs.Settling.{doing-meet, parts_settle_in_turn}
use Rattle.proto_nodes.specs.declared.walker.Walker.{Walker}
use Rattle.proto_nodes.specs.Shown.{shown, in_scope, Sound, Steps}
use Rattle.proto_nodes.specs.Steps.{named_node, opening, standing_in}

-- ---- single parts

pub doing-pure : {A : Type 0} (a : A) (s : State) → doing (pure a) s ≡ Ok (a, s)
doing-pure a s = refl

pub doing-refuse : {A : Type 0} (kind : ExpandFaultKind) (line : ℕ) (s : State) → doing (refuse {A = A} kind line) s ≡ Err (fault kind line)
doing-refuse kind line s = refl

pub doing-note : {A : Type 0} (a : A) (f : Scope → Scope) (s : State) → doing (note a f) s ≡ Ok (a, record s { walk = record s.walk { scope = f s.walk.scope } })
doing-note a f s = refl

-- ---- a step that meets something

met-by : (w new : Walker) (r : Result (Unit {0}) ExpandFault) (o : Result (Unit {0} × State) ExpandFault) →
    o ≡ and_see (result_map_both (λ _. new.room) (λ e. e) r) (λ left. Ok (tt, record (shown w) { room = left })) → shown new ≡ record (shown w) { room = new.room } → Sound new →
    Steps (λ (a : Unit {0}). a) o r new
met-by w new (Ok u) o is same sound = (is ∙ ap (λ s. Ok (tt, s)) (sym same), sound)
met-by w new (Err e) o is same sound = inr is

pub meets : (m : Met) (w new : Walker) (r : Result (Unit {0}) ExpandFault) → result_map_both (λ _. new.room) (λ e. e) r ≡ spend m w.room → shown new ≡ record (shown w) { room = new.room } → Sound new →
    Steps (λ (a : Unit {0}). a) (doing (meet m) (shown w)) r new
meets m w new r is same sound =
    met-by w new r (doing (meet m) (shown w)) (doing-meet m (shown w) ∙ ap (λ x. and_see x (λ left. Ok (tt, record (shown w) { room = left }))) (sym is)) same sound

-- ---- one part after the other

pub in-turn : {A X : Type 0} (m : Does A) (f : A → Does X) (s t : State) (a : A) → doing m s ≡ Ok (a, t) → doing (m >>= f) s ≡ doing (f a) t
in-turn m f s t a did = parts_settle_in_turn m f s ∙ ap (λ r. and_see r (λ p. doing (f p.0) p.1)) did

same-steps : {B X : Type 0} (view : B → X) (o q : Result (X × State) ExpandFault) (r : Result B ExpandFault) (new : Walker) → o ≡ q → Steps view q r new → Steps view o r new
same-steps view o q (Ok b) new is k = (is ∙ k.0, k.1)
same-steps view o q (Err e) new is (inl m) = inl m
same-steps view o q (Err e) new is (inr k) = inr (is ∙ k)

-- the first part did what it should, and so does the second
pub goes_on : {A B X : Type 0} (view : B → X) (m : Does A) (f : A → Does X) (old mid new : Walker) (a : A) (r : Result B ExpandFault) → doing m (shown old) ≡ Ok (a, shown mid) →
    Steps view (doing (f a) (shown mid)) r new → Steps view (doing (m >>= f) (shown old)) r new
goes_on view m f old mid new a r did k = same-steps view (doing (m >>= f) (shown old)) (doing (f a) (shown mid)) r new (in-turn m f (shown old) (shown mid) a did) k

-- the first part is refused
pub ends : {A B X : Type 0} (view : B → X) (m : Does A) (f : A → Does X) (s : State) (new : Walker) (e : ExpandFault) → (e ≡ memory) ⊎ (doing m s ≡ Err e) →
    Steps view (doing (m >>= f) s) (Err e) new
ends view m f s new e (inl k) = inl k
ends view m f s new e (inr k) = inr (parts_settle_in_turn m f s ∙ ap (λ r. and_see r (λ p. doing (f p.0) p.1)) k)

-- ---- USE

pub use-found : (line : ℕ) (name : Name) (s : State) (n : ℕ) → Some n ≡ used name s.walk.scope.braces →
    doing (named_node line name) s ≡ Ok (n, s)
use-found line name s n is = sym (ap (λ o. and_see (settle (option_map_or pure o (refuse UseWithoutDef line) s.walk) s.room) onward) is)

pub use-none : (line : ℕ) (name : Name) (s : State) → None ≡ used name s.walk.scope.braces →
    doing (named_node line name) s ≡ Err (fault UseWithoutDef line)
use-none line name s is = sym (ap (λ o. and_see (settle (option_map_or pure o (refuse UseWithoutDef line) s.walk) s.room) onward) is)

-- ---- braces

abbrev standing : Room → Put → Scope → State
standing room put scope =
    record {
      room = room;
      walk = record { put = put; sight = record { here = []; outside = []; taken = no_names }; scope = scope };
    }

-- what changes the scope alone
pub noted : {A : Type 0} (a : A) (f : Scope → Scope) (old : Walker) (scope : held.Scope) → scopes.shown scope ≡ f (scopes.shown old.scope) →
    doing (note a f) (shown old) ≡ Ok (a, shown (record old { scope = scope }))
noted a f old scope is = ap (λ sc. Ok (a, standing old.room (puts.shown old.put) sc)) (sym is)

pub opens : (name : Option Name) (old new : Walker) (at : ℕ) → at ≡ length (scopes.shown old.scope).braces →
    scopes.shown new.scope ≡ record (scopes.shown old.scope) { braces = (scopes.shown old.scope).braces ++ opened name ∷ [] } → new.room ≡ old.room → puts.shown new.put ≡ puts.shown old.put →
    doing (opening name) (shown old) ≡ Ok (at, shown new)
opens name old new at is scope room put =
    ap (λ n. Ok (n, standing old.room (puts.shown old.put) (record (scopes.shown old.scope) { braces = (scopes.shown old.scope).braces ++ opened name ∷ [] }))) (sym is)
    ∙ ap (λ sc. Ok (at, standing old.room (puts.shown old.put) sc)) (sym scope)
    ∙ ap (λ r. Ok (at, standing r (puts.shown old.put) (scopes.shown new.scope))) (sym room)
    ∙ ap (λ p. Ok (at, standing new.room p (scopes.shown new.scope))) (sym put)

abbrev node_at : ℕ → Stands
node_at n = record { node = n; interface = None; ends = λ f. At n f ∷ [] }

pub closes : (name : Option Name) (at : ℕ) (node : FlatNode) (old new : Walker) (number : ℕ) → number ≡ length (puts.shown old.put).nodes →
    puts.shown new.put ≡ record (puts.shown old.put) { nodes = (puts.shown old.put).nodes ++ node ∷ [] } → scopes.shown new.scope ≡ closed_at at name (node_at number) (scopes.shown old.scope) → new.room ≡ old.room →
    doing (close_node name at node) (shown old) ≡ Ok (number, shown new)
closes name at node old new number is put scope room =
    ap (λ n. Ok (n, standing old.room (record (puts.shown old.put) { nodes = (puts.shown old.put).nodes ++ node ∷ [] }) (closed_at at name (node_at n) (scopes.shown old.scope)))) (sym is)
    ∙ ap (λ p. Ok (number, standing old.room p (closed_at at name (node_at number) (scopes.shown old.scope)))) (sym put)
    ∙ ap (λ sc. Ok (number, standing old.room (puts.shown new.put) sc)) (sym scope)
    ∙ ap (λ r. Ok (number, standing r (puts.shown new.put) (scopes.shown new.scope))) (sym room)

-- ---- the body of an instance

-- another scope, and what was put in is the same
pub scoped : (old : Walker) (scope : held.Scope) (shown_now : Scope) → scopes.shown scope ≡ shown_now → shown (record old { scope = scope }) ≡ in_scope shown_now (shown old)
scoped old scope shown_now is = ap (λ sc. standing old.room (puts.shown old.put) sc) is

pub stands : (name : Option Name) (at : ℕ) (what : Stands) (routes : List FlatRoute) (old new : Walker) (between : held.Scope) → puts.shown new.put ≡ record (puts.shown old.put) { nodes = renamed name what.node (puts.shown old.put).nodes } →
    scopes.shown between ≡ with_routes routes (scopes.shown old.scope) → scopes.shown new.scope ≡ closed_at at name what (scopes.shown between) → new.room ≡ old.room →
    doing (standing_in name at what routes) (shown old) ≡ Ok (what.node, shown new)
stands name at what routes old new between put routed scope room =
    ap (λ sc. Ok (what.node, standing old.room (record (puts.shown old.put) { nodes = renamed name what.node (puts.shown old.put).nodes }) (closed_at at name what sc))) (sym routed)
    ∙ ap (λ p. Ok (what.node, standing old.room p (closed_at at name what (scopes.shown between)))) (sym put)
    ∙ ap (λ sc. Ok (what.node, standing old.room (puts.shown new.put) sc)) (sym scope)
    ∙ ap (λ r. Ok (what.node, standing r (puts.shown new.put) (scopes.shown new.scope))) (sym room)

-- ---- names that stand twice

abbrev twice_comes : Option ℕ → State → Result (Unit {0} × State) ExpandFault
twice_comes None s = Ok (tt, s)
twice_comes (Some line) s = Err (fault FieldTwice line)

same-bool : (p q : Bool) → (p ≡ true → q ≡ true) → (q ≡ true → p ≡ true) → p ≡ q
same-bool true q f g = sym (f refl)
same-bool false true f g = absurd (true≢false (sym (g refl)))
same-bool false false f g = refl

turned : (a b : Name) → bytes_eq a b ≡ bytes_eq b a
turned a b =
    same-bool (bytes_eq a b) (bytes_eq b a) (λ e. (bytes_eq-Decides b a).1 (sym ((bytes_eq-Decides a b).0 e)))
    (λ e. (bytes_eq-Decides a b).1 (sym ((bytes_eq-Decides b a).0 e)))

one-more : (b p q : Bool) → p ≡ q → (if b then true else p) ≡ b || q
one-more true p q is = refl
one-more false p q is = is

known-by : (seen : List Name) (names : Names) (name n : Name) → names n ≡ is_one n seen → with_name name names n ≡ is_one n (name ∷ seen)
known-by seen names name n is =
    one-more (bytes_eq name n) (names n) (is_one n seen) is ∙ ap (λ b. b || is_one n seen) (turned name n)

unless-by : (seen : List Name) (names : Names) (f : Field) (fs : List Field) (s : State) (b : Bool) → names f.name ≡ b →
    doing (unless_twice (f.name ∷ seen) fs) s ≡ twice_comes (twice_after (with_name f.name names) fs) s →
    doing (if b then refuse FieldTwice f.line else unless_twice (f.name ∷ seen) fs) s ≡ twice_comes (if names f.name then Some f.line else twice_after (with_name f.name names) fs) s
unless-by seen names f fs s true is next = sym (ap (λ b. twice_comes (if b then Some f.line else twice_after (with_name f.name names) fs) s) is)
unless-by seen names f fs s false is next = next ∙ sym (ap (λ b. twice_comes (if b then Some f.line else twice_after (with_name f.name names) fs) s) is)

unless : (seen : List Name) (names : Names) (fs : List Field) (s : State) → ((n : Name) → names n ≡ is_one n seen) → doing (unless_twice seen fs) s ≡ twice_comes (twice_after names fs) s
unless seen names [] s agree = refl
unless seen names (f ∷ fs) s agree =
    unless-by seen names f fs s (is_one f.name seen) (agree f.name) (unless (f.name ∷ seen) (with_name f.name names) fs s (λ n. known-by seen names f.name n (agree n)))

pub none-twice : (fs : List Field) (s : State) → None ≡ twice_after no_names fs → doing (unless_twice [] fs) s ≡ Ok (tt, s)
none-twice fs s is = unless [] no_names fs s (λ n. refl) ∙ sym (ap (λ o. twice_comes o s) is)

pub one-twice : (fs : List Field) (s : State) (line : ℕ) → Some line ≡ twice_after no_names fs → doing (unless_twice [] fs) s ≡ Err (fault FieldTwice line)
one-twice fs s line is = unless [] no_names fs s (λ n. refl) ∙ sym (ap (λ o. twice_comes o s) is)
