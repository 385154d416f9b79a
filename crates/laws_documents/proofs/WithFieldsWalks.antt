-- Two walks beside each other, the first with ISs that find values, the second with these values; where the
-- first goes on, so does the second.
use Rattle.std.proofs.Common.{◌≡◌, ℕ, ◌+◌, ◌≤◌, Bool, true, false, ◌&&◌, ◌||◌, if◌then◌else◌, List, [], ◌∷◌, ◌++◌, Option, Some, None, option_map, Result, Ok, Err, refl, ap, sym, ◌∙◌, subst, arith}
use Rattle.std.specs.List.{find, filter_map, cons_option, list_all, list_any, sum_by, fold}
use Rattle.std.specs.Str.{bytes_eq}
use Rattle.classic_tree.specs.declared.tree.Given.{Given}
use Rattle.classic_tree.specs.declared.tree.Given.TheVariants as given
use Rattle.classic_tree.specs.declared.tree.RawValue.{RawValue}
use Rattle.x3d_values.specs.declared.node_type.NodeType.{NodeType}
use Rattle.proto_flat.specs.declared.fault.ExpandFault.{ExpandFault}
use Rattle.proto_flat.specs.declared.fault.ExpandFaultKind.TheVariants.{FieldTwice, BadIs}
use Rattle.proto_flat.specs.declared.flat.FlatField.{FlatField}
use Rattle.proto_flat.specs.declared.flat.FlatNode.{FlatNode}
use Rattle.proto_meaning.specs.Limits.{Met, AField, Outcome, item_count, behind, follow, and_then, has_room}
use Rattle.proto_meaning.specs.Names.{Name, Field, Filled, Braces, value_of}
use Rattle.proto_meaning.specs.Sight.{Sight, OfType}
use Rattle.proto_meaning.specs.Flat.{Walk, Does, ◌>>=◌, pure, refuse, meet, Node, Inside, put_in, fill, fits, join, give_is, give_value, give}
use Rattle.laws_documents.proofs.InPlaceParts.{never, both_true}

-- ---- what is met: no more of anything

sum_from : (f : Met → ℕ) (a : ℕ) (ms : List Met) → fold (λ b m. b + f m) a ms ≡ a + sum_by f ms
sum_from f a [] = omega arith
sum_from f a (m ∷ ms) = omega (arith, sum_from f (a + f m) ms, sum_from f (0 + f m) ms)

sum_cons : (f : Met → ℕ) (m : Met) (ms : List Met) → sum_by f (m ∷ ms) ≡ f m + sum_by f ms
sum_cons f m ms = omega (arith, sum_from f (0 + f m) ms)

sum_append : (f : Met → ℕ) (ms ns : List Met) → sum_by f (ms ++ ns) ≡ sum_by f ms + sum_by f ns
sum_append f [] ns = omega arith
sum_append f (m ∷ ms) ns = omega (arith, sum_append f ms ns, sum_cons f m ms, sum_cons f m (ms ++ ns))

all_append : (ms ns : List Met) → list_all has_room (ms ++ ns) ≡ (list_all has_room ms && list_all has_room ns)
all_append [] ns = refl
all_append (m ∷ ms) ns = on (has_room m) (all_append ms ns) where
  on : (b : Bool) → list_all has_room (ms ++ ns) ≡ (list_all has_room ms && list_all has_room ns) → (b && list_all has_room (ms ++ ns)) ≡ ((b && list_all has_room ms) && list_all has_room ns)
  on true e = e
  on false e = refl

pub record Fewer (more met : List Met) : Type 0 where
  pub sums : (f : Met → ℕ) → sum_by f more ≤ sum_by f met
  pub room : list_all has_room met ≡ true → list_all has_room more ≡ true

pub fewer_same : (met : List Met) → Fewer met met
fewer_same met = record { sums = λ f. omega arith; room = λ e. e }

pub fewer_none : (met : List Met) → Fewer [] met
fewer_none met = record { sums = λ f. omega arith; room = λ e. refl }

pub fewer_append : (a b c d : List Met) → Fewer a b → Fewer c d → Fewer (a ++ c) (b ++ d)
fewer_append a b c d h k =
    record {
      sums = λ f. omega (arith, h.sums f, k.sums f, sum_append f a c, sum_append f b d);
      room = λ e. let both = both_true (list_all has_room b) (list_all has_room d) (sym (all_append b d) ∙ e) in
          all_append a c ∙ ap (λ x. x && list_all has_room c) (h.room both.0) ∙ k.room both.1;
    }

pub fewer_behind : (a b c : List Met) → Fewer a b → Fewer a (c ++ b)
fewer_behind a b c h = fewer_append [] c a b (fewer_none c) h

-- ---- fields

abbrev pub flat_field : Filled → Option FlatField
flat_field f = option_map (λ v. record { line = f.line; number = f.number; value = v }) f.value

fields_append : (fs gs : List Filled) → filter_map flat_field (fs ++ gs) ≡ filter_map flat_field fs ++ filter_map flat_field gs
fields_append [] gs = refl
fields_append (f ∷ fs) gs = on (flat_field f) (fields_append fs gs) where
  on : (o : Option FlatField) → filter_map flat_field (fs ++ gs) ≡ filter_map flat_field fs ++ filter_map flat_field gs → cons_option o (filter_map flat_field (fs ++ gs)) ≡ cons_option o (filter_map flat_field fs) ++ filter_map flat_field gs
  on None e = e
  on (Some x) e = ap (λ l. x ∷ l) e

any_append : (p : Filled → Bool) (fs gs : List Filled) → list_any p (fs ++ gs) ≡ (list_any p fs || list_any p gs)
any_append p [] gs = refl
any_append p (f ∷ fs) gs = on (p f) (any_append p fs gs) where
  on : (b : Bool) → list_any p (fs ++ gs) ≡ (list_any p fs || list_any p gs) → (b || list_any p (fs ++ gs)) ≡ ((b || list_any p fs) || list_any p gs)
  on true e = refl
  on false e = e

neither : (a b : Bool) → (a || b) ≡ false → (a ≡ false) × (b ≡ false)
neither false b e = (refl, e)
neither true b e = never (sym e)

abbrev pub has : Name → List Filled → Bool
has name fs = list_any (λ (f : Filled). bytes_eq f.name name) fs

-- the same but for fields of nothing
pub record Kept (fs gs : List Filled) : Type 0 where
  pub flat : filter_map flat_field gs ≡ filter_map flat_field fs
  pub names : (name : Name) → has name fs ≡ false → has name gs ≡ false

pub kept_same : (fs : List Filled) → Kept fs fs
kept_same fs = record { flat = refl; names = λ name e. e }

pub kept_both : (fs gs : List Filled) (f : Filled) → Kept fs gs → Kept (fs ++ f ∷ []) (gs ++ f ∷ [])
kept_both fs gs f k =
    record {
      flat = fields_append gs (f ∷ []) ∙ ap (λ l. l ++ filter_map flat_field (f ∷ [])) k.flat ∙ sym (fields_append fs (f ∷ []));
      names = λ name e.
          let both = neither (has name fs) (has name (f ∷ [])) (sym (any_append (λ (g : Filled). bytes_eq g.name name) fs (f ∷ [])) ∙ e) in
          any_append (λ (g : Filled). bytes_eq g.name name) gs (f ∷ []) ∙ ap (λ b. b || has name (f ∷ [])) (k.names name both.0) ∙ both.1;
    }

append_nil : (fs : List FlatField) → fs ++ [] ≡ fs
append_nil [] = refl
append_nil (f ∷ fs) = ap (λ l. f ∷ l) (append_nil fs)

pub kept_left : (fs gs : List Filled) (line : ℕ) (name : Name) (number : ℕ) → Kept fs gs → Kept (fs ++ record { line = line; name = name; number = number; value = None } ∷ []) gs
kept_left fs gs line name number k =
    record {
      flat = k.flat ∙ sym (append_nil (filter_map flat_field fs)) ∙ sym (fields_append fs (record { line = line; name = name; number = number; value = None } ∷ []));
      names = λ n e. k.names n (neither (has n fs) (has n (record { line = line; name = name; number = number; value = None } ∷ [])) (sym (any_append (λ (g : Filled). bytes_eq g.name n) fs (record { line = line; name = name; number = number; value = None } ∷ [])) ∙ e)).0;
    }

abbrev pub Equal : {A : Type 0} → A → A → Type 0
Equal a b = b ≡ a

-- what an IS found, and what stands in its place
abbrev pub FoundAs : Option (RawValue ℕ) → Given Node → Type 0
FoundAs None given.Nothing = Unit {0}
FoundAs (Some r) (given.Value x) = (item_count x ≡ item_count r) × ((w : Walk) → put_in x w ≡ pure r w)
FoundAs _ _ = ⊥

module _ (one two : Sight) (interface : List Field) (values : List Filled) (helpers : List ℕ) (firsts seconds : List FlatNode) where
  -- the same was put in behind those nodes, but for helpers, which the first alone has; what ISs of the
  -- first find; no ROUTE
  pub record Beside (w v : Walk) : Type 0 where
    pub tail : List FlatNode
    pub one_nodes : w.put.nodes ≡ firsts ++ tail
    pub two_nodes : v.put.nodes ≡ seconds ++ tail
    pub one_helpers : w.put.helpers ≡ helpers
    pub two_helpers : v.put.helpers ≡ []
    pub one_sight : w.sight ≡ one
    pub two_sight : v.sight ≡ two
    pub found : w.scope.interface ≡ interface
    pub found_values : w.scope.given ≡ values
    pub one_routes : (all : List Braces) → w.scope.routes all ≡ []
    pub two_routes : (all : List Braces) → v.scope.routes all ≡ []

  abbrev pub EndAlike : {A B : Type 0} → (A → B → Type 0) → List Met → Result (A × Walk) ExpandFault → List Met → Result (B × Walk) ExpandFault → Type 0
  EndAlike R met (Err e) more d = Unit {0}
  EndAlike R met (Ok p) more (Ok q) = Fewer more met × R p.0 q.0 × Beside p.1 q.1
  EndAlike R met (Ok p) more (Err f) = ⊥

  abbrev pub ComeAlike : {A B : Type 0} → (A → B → Type 0) → Outcome (A × Walk) → Outcome (B × Walk) → Type 0
  ComeAlike R o p = EndAlike R o.met o.comes p.met p.comes

  abbrev pub Alike : {A B : Type 0} → (A → B → Type 0) → Does A → Does B → Type 0
  Alike R m n = (w v : Walk) → Beside w v → ComeAlike R (m w) (n v)

  pub behind_alike : {A B : Type 0} (R : A → B → Type 0) (met more : List Met) (o : Outcome (A × Walk)) (p : Outcome (B × Walk)) → Fewer more met → ComeAlike R o p → ComeAlike R (behind met o) (behind more p)
  behind_alike {A} {B} R met more o p e h = on o.met o.comes p.met p.comes h where
    on : (ms : List Met) (c : Result (A × Walk) ExpandFault) (ns : List Met) (d : Result (B × Walk) ExpandFault) → EndAlike R ms c ns d → EndAlike R (met ++ ms) c (more ++ ns) d
    on ms (Err x) ns d k = tt
    on ms (Ok a) ns (Ok b) k = (fewer_append more met ns ms e k.0, k.1, k.2)
    on ms (Ok a) ns (Err y) k = absurd k

  follow_alike : {A B C D : Type 0} (R : A → B → Type 0) (Q : C → D → Type 0) (f : A → Does C) (g : B → Does D) (met more : List Met) (c : Result (A × Walk) ExpandFault) (d : Result (B × Walk) ExpandFault)
      → EndAlike R met c more d → ((a : A) (b : B) → R a b → Alike Q (f a) (g b)) → ComeAlike Q (follow met c (λ p. f p.0 p.1)) (follow more d (λ p. g p.0 p.1))
  follow_alike R Q f g met more (Err x) d h k = tt
  follow_alike R Q f g met more (Ok p) (Ok q) h k = behind_alike Q met more (f p.0 p.1) (g q.0 q.1) h.0 (k p.0 q.0 h.1 p.1 q.1 h.2)
  follow_alike R Q f g met more (Ok p) (Err y) h k = absurd h

  pub then_alike : {A B C D : Type 0} (R : A → B → Type 0) (Q : C → D → Type 0) (m : Does A) (n : Does B) (f : A → Does C) (g : B → Does D) → Alike R m n → ((a : A) (b : B) → R a b → Alike Q (f a) (g b)) → Alike Q (m >>= f) (n >>= g)
  then_alike R Q m n f g h k w v b = follow_alike R Q f g (m w).met (n v).met (m w).comes (n v).comes (h w v b) k

  pub pure_alike : {A B : Type 0} (R : A → B → Type 0) (a : A) (b : B) → R a b → Alike R (pure a) (pure b)
  pure_alike R a b r w v h = (fewer_same [], r, h)

  -- ---- values and fields

  abbrev pub inside_of : ℕ → NodeType → List Field → List Filled → Inside
  inside_of at t fields filled = record { at = at; owner = OfType t; fields = fields; filled = filled }

  -- the same between both pairs of braces, but for their places and fields of nothing
  pub record InsideAlike (at to : ℕ) (t : NodeType) (i j : Inside) : Type 0 where
    pub fields : List Field
    pub filled : List Filled
    pub others : List Filled
    pub first : i ≡ inside_of at t fields filled
    pub second : j ≡ inside_of to t fields others
    pub kept : Kept filled others

  abbrev pub GivenAs : Given Node → Given Node → Type 0
  GivenAs given.Nothing given.Nothing = Unit {0}
  GivenAs (given.Is x) h = (o : Field) → find (λ (f : Field). bytes_eq f.name x) interface ≡ Some o → FoundAs (value_of o.name values) h
  GivenAs (given.Value v) (given.Value u) = (item_count u ≡ item_count v) × Alike Equal (put_in v) (put_in u)
  GivenAs _ _ = ⊥

  unless_alike : {A B : Type 0} (R : A → B → Type 0) (twice twin : Bool) (line : ℕ) (m : Does A) (n : Does B) → (twice ≡ false → twin ≡ false) → Alike R m n → Alike R (if twice then refuse FieldTwice line else m) (if twin then refuse FieldTwice line else n)
  unless_alike R true twin line m n e h = λ w v b. tt
  unless_alike R false false line m n e h = h
  unless_alike R false true line m n e h = never (sym (e refl))

  field_met : {A B : Type 0} (R : A → B → Type 0) (number n k : ℕ) (m : Does A) (o : Does B) → k ≡ n → Alike R m o → Alike R (meet (AField number n) >>= λ _. m) (meet (AField number k) >>= λ _. o)
  field_met R number n k m o e h w v b =
      behind_alike R (AField number n ∷ []) (AField number k ∷ []) (m w) (o v) (subst (λ x. Fewer (AField number x ∷ []) (AField number n ∷ [])) (sym e) (fewer_same (AField number n ∷ []))) (h w v b)

  abbrev entry : ℕ → ℕ × Field → Option (RawValue ℕ) → Filled
  entry line f r = record { line = line; name = f.1.name; number = f.0; value = r }

  filled_alike : (line : ℕ) (f : ℕ × Field) (at to : ℕ) (t : NodeType) (fields : List Field) (filled others : List Filled) (r : Option (RawValue ℕ)) → Kept filled others → InsideAlike at to t (fill line f (inside_of at t fields filled) r) (fill line f (inside_of to t fields others) r)
  filled_alike line f at to t fields filled others r k = record { fields = fields; filled = filled ++ entry line f r ∷ []; others = others ++ entry line f r ∷ []; first = refl; second = refl; kept = kept_both filled others (entry line f r) k }

  left_alike : (line : ℕ) (f : ℕ × Field) (at to : ℕ) (t : NodeType) (fields : List Field) (filled others : List Filled) → Kept filled others → InsideAlike at to t (fill line f (inside_of at t fields filled) None) (inside_of to t fields others)
  left_alike line f at to t fields filled others k = record { fields = fields; filled = filled ++ entry line f None ∷ []; others = others; first = refl; second = refl; kept = kept_left filled others line f.1.name f.0 k }

  joined_alike : (line : ℕ) (f : ℕ × Field) (at to : ℕ) (t : NodeType) (fields : List Field) (filled others : List Filled) (outer : Name) (r : Option (RawValue ℕ)) (h : Given Node) → FoundAs r h → Kept filled others
      → Alike (InsideAlike at to t) (join line f (inside_of at t fields filled) outer r) (give line f false h (inside_of to t fields others))
  joined_alike line f at to t fields filled others outer None given.Nothing k kept w v b = (
    fewer_same (AField f.0 0 ∷ []),
    filled_alike line f at to t fields filled others None kept,
    record { tail = b.tail; one_nodes = b.one_nodes; two_nodes = b.two_nodes; one_helpers = b.one_helpers; two_helpers = b.two_helpers; one_sight = b.one_sight; two_sight = b.two_sight; found = b.found; found_values = b.found_values; one_routes = b.one_routes; two_routes = b.two_routes },
  )
  joined_alike line f at to t fields filled others outer (Some r) (given.Value x) k kept w v b =
      subst (λ (o : Outcome (RawValue ℕ × Walk)). ComeAlike (InsideAlike at to t) (join line f (inside_of at t fields filled) outer (Some r) w) (behind (AField f.0 (item_count x) ∷ []) (and_then o (λ q. pure (fill line f (inside_of to t fields others) (Some q.0)) q.1)))) (sym (k.1 v))
      (subst (λ n. ComeAlike (InsideAlike at to t) (join line f (inside_of at t fields filled) outer (Some r) w) (behind (AField f.0 n ∷ []) (pure (fill line f (inside_of to t fields others) (Some r)) v))) (sym k.0) (
        fewer_same (AField f.0 (item_count r) ∷ []),
        filled_alike line f at to t fields filled others (Some r) kept,
        record { tail = b.tail; one_nodes = b.one_nodes; two_nodes = b.two_nodes; one_helpers = b.one_helpers; two_helpers = b.two_helpers; one_sight = b.one_sight; two_sight = b.two_sight; found = b.found; found_values = b.found_values; one_routes = b.one_routes; two_routes = b.two_routes },
      ))
  joined_alike line f at to t fields filled others outer None (given.Value x) k kept w v b = absurd k
  joined_alike line f at to t fields filled others outer None (given.Is x) k kept w v b = absurd k
  joined_alike line f at to t fields filled others outer (Some r) given.Nothing k kept w v b = absurd k
  joined_alike line f at to t fields filled others outer (Some r) (given.Is x) k kept w v b = absurd k

  dropped_alike : (line : ℕ) (f : ℕ × Field) (at to : ℕ) (t : NodeType) (fields : List Field) (filled others : List Filled) (outer : Name) (r : Option (RawValue ℕ)) → FoundAs r given.Nothing → Kept filled others
      → Alike (InsideAlike at to t) (join line f (inside_of at t fields filled) outer r) (pure (inside_of to t fields others))
  dropped_alike line f at to t fields filled others outer None k kept w v b = (
    fewer_none (AField f.0 0 ∷ []),
    left_alike line f at to t fields filled others kept,
    record { tail = b.tail; one_nodes = b.one_nodes; two_nodes = b.two_nodes; one_helpers = b.one_helpers; two_helpers = b.two_helpers; one_sight = b.one_sight; two_sight = b.two_sight; found = b.found; found_values = b.found_values; one_routes = b.one_routes; two_routes = b.two_routes },
  )
  dropped_alike line f at to t fields filled others outer (Some r) k kept w v b = absurd k

  -- an IS, whatever comes in its place where it found something
  is_alike : {A : Type 0} (R : Inside → A → Type 0) (line : ℕ) (f : ℕ × Field) (twice : Bool) (i : Inside) (n : Does A) (o : Option Field)
      → (twice ≡ false → (x : Field) → o ≡ Some x → Alike R (join line f i x.name (value_of x.name values)) n)
      → Alike R (λ w. give_is line f twice i o w) n
  is_alike R line f twice i n None k w v b = tt
  is_alike {A} R line f twice i n (Some x) k w v b = on (fits x f.1) twice (λ e. k e x refl) where
    on : (c d : Bool) → (d ≡ false → Alike R (join line f i x.name (value_of x.name values)) n)
        → ComeAlike R ((if c then (if d then refuse FieldTwice line else (λ (u : Walk). join line f i x.name (value_of x.name u.scope.given) u)) else refuse BadIs line) w) (n v)
    on false d h = tt
    on true true h = tt
    on true false h = subst (λ (vs : List Filled). ComeAlike R (join line f i x.name (value_of x.name vs) w) (n v)) (sym b.found_values) (h refl w v b)

  pub give_alike : (line : ℕ) (f : ℕ × Field) (twice twin : Bool) (g h : Given Node) (at to : ℕ) (t : NodeType) (fields : List Field) (filled others : List Filled) → (twice ≡ false → twin ≡ false) → GivenAs g h → Kept filled others
      → Alike (InsideAlike at to t) (give line f twice g (inside_of at t fields filled)) (give line f twin h (inside_of to t fields others))
  give_alike line f twice twin given.Nothing given.Nothing at to t fields filled others e k kept =
      unless_alike (InsideAlike at to t) twice twin line (meet (AField f.0 0) >>= λ _. pure (fill line f (inside_of at t fields filled) None)) (meet (AField f.0 0) >>= λ _. pure (fill line f (inside_of to t fields others) None)) e
      (field_met (InsideAlike at to t) f.0 0 0 (pure (fill line f (inside_of at t fields filled) None)) (pure (fill line f (inside_of to t fields others) None)) refl
      (pure_alike (InsideAlike at to t) (fill line f (inside_of at t fields filled) None) (fill line f (inside_of to t fields others) None) (filled_alike line f at to t fields filled others None kept)))
  give_alike line f twice twin given.Nothing (given.Is b) at to t fields filled others e k kept = absurd k
  give_alike line f twice twin given.Nothing (given.Value u) at to t fields filled others e k kept = absurd k
  give_alike line f twice twin (given.Is a) h at to t fields filled others e k kept = λ w v b.
      subst (λ (fs : List Field). ComeAlike (InsideAlike at to t) (give_is line f twice (inside_of at t fields filled) (find (λ (o : Field). bytes_eq o.name a) fs) w) (give line f twin h (inside_of to t fields others) v)) (sym b.found)
      (is_alike (InsideAlike at to t) line f twice (inside_of at t fields filled) (give line f twin h (inside_of to t fields others)) (find (λ (o : Field). bytes_eq o.name a) interface)
      (λ once x is. subst (λ c. Alike (InsideAlike at to t) (join line f (inside_of at t fields filled) x.name (value_of x.name values)) (give line f c h (inside_of to t fields others))) (sym (e once))
      (joined_alike line f at to t fields filled others x.name (value_of x.name values) h (k x is) kept)) w v b)
  give_alike line f twice twin (given.Value v) given.Nothing at to t fields filled others e k kept = absurd k
  give_alike line f twice twin (given.Value v) (given.Is b) at to t fields filled others e k kept = absurd k
  give_alike line f twice twin (given.Value v) (given.Value u) at to t fields filled others e k kept =
      unless_alike (InsideAlike at to t) twice twin line (give_value line f (inside_of at t fields filled) v) (give_value line f (inside_of to t fields others) u) e
      (field_met (InsideAlike at to t) f.0 (item_count v) (item_count u) (put_in v >>= λ r. pure (fill line f (inside_of at t fields filled) (Some r))) (put_in u >>= λ r. pure (fill line f (inside_of to t fields others) (Some r))) k.0
      (then_alike Equal (InsideAlike at to t) (put_in v) (put_in u) (λ r. pure (fill line f (inside_of at t fields filled) (Some r))) (λ r. pure (fill line f (inside_of to t fields others) (Some r))) k.1
      (λ a b r. pure_alike (InsideAlike at to t) (fill line f (inside_of at t fields filled) (Some a)) (fill line f (inside_of to t fields others) (Some b))
      (subst (λ x. InsideAlike at to t (fill line f (inside_of at t fields filled) (Some a)) (fill line f (inside_of to t fields others) (Some x))) (sym r) (filled_alike line f at to t fields filled others (Some a) kept)))))

  -- a field of nothing isn't there
  pub nothing_alike : (line : ℕ) (f : ℕ × Field) (twice : Bool) (g : Given Node) (at to : ℕ) (t : NodeType) (fields : List Field) (filled others : List Filled) → GivenAs g given.Nothing → Kept filled others
      → Alike (InsideAlike at to t) (give line f twice g (inside_of at t fields filled)) (pure (inside_of to t fields others))
  nothing_alike line f twice given.Nothing at to t fields filled others k kept w v b = on twice where
    on : (c : Bool) → ComeAlike (InsideAlike at to t) ((if c then refuse FieldTwice line else (meet (AField f.0 0) >>= λ _. pure (fill line f (inside_of at t fields filled) None))) w) (pure (inside_of to t fields others) v)
    on true = tt
    on false = (fewer_none (AField f.0 0 ∷ []), left_alike line f at to t fields filled others kept, b)
  nothing_alike line f twice (given.Is a) at to t fields filled others k kept w v b =
      subst (λ (fs : List Field). ComeAlike (InsideAlike at to t) (give_is line f twice (inside_of at t fields filled) (find (λ (o : Field). bytes_eq o.name a) fs) w) (pure (inside_of to t fields others) v)) (sym b.found)
      (is_alike (InsideAlike at to t) line f twice (inside_of at t fields filled) (pure (inside_of to t fields others)) (find (λ (o : Field). bytes_eq o.name a) interface)
      (λ once x is. dropped_alike line f at to t fields filled others x.name (value_of x.name values) (k x is) kept) w v b)
  nothing_alike line f twice (given.Value u) at to t fields filled others k kept w v b = absurd k
