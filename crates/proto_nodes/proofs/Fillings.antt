-- The default values of an instance, one after the other, where it gives none.
use Rattle.std.proofs.Common.{◌≡◌, ℕ, Bool, true, false, not, true≢false, if◌then◌else◌, List, [], ◌∷◌, ◌++◌, Bor, Option, Some, None, Result, Ok, Err, refl, ap, sym, subst, ◌∙◌}
use Rattle.std.specs.Prelude.{is_none, is_some, option_map, IfOk}
use Rattle.std.specs.declared.alloc.AllocError.{AllocError}
use Rattle.proto_parts.specs.declared.given.Given as tables
use Rattle.std.specs.Option.{option_or}
use Rattle.std.specs.Str.{bytes_eq}
use Rattle.std.proofs.lemmas.List.{append_assoc}
use Rattle.classic_tree.specs.declared.tree.Given.TheVariants as given
use Rattle.classic_tree.specs.declared.tree.NodeText.{NodeText}
use Rattle.classic_tree.specs.declared.tree.RawValue.{RawValue}
use Rattle.classic_tree.specs.declared.tree.RawValue.TheVariants as value
use Rattle.proto_meaning.specs.Flat as flat
use Rattle.proto_meaning.specs.Flat.{Does, ◌>>=◌, pure, put_in, put_default}
use Rattle.proto_meaning.specs.Names.{Name, Filled, value_of}
use Rattle.proto_meaning.specs.Sight.{Prototype}
use Rattle.proto_parts.specs.Given as table
use Rattle.proto_meaning.specs.trees.Values as values
use Rattle.proto_parts.specs.Settled.{State, doing}
use Rattle.proto_meaning.specs.trees.Meaning.{node, default, value_in, with_given}
use Rattle.proto_meaning.specs.declared.tree.DefaultTree.{DefaultTree}
use Rattle.proto_meaning.specs.trees.Given.{GivenTree}
use Rattle.proto_meaning.specs.declared.tree.GivenTree.TheVariants as tree
use Rattle.proto_meaning.specs.declared.tree.NodeTree.{NodeTree}
use Rattle.proto_nodes.specs.declared.frames.Around.{Around}
use Rattle.proto_nodes.specs.declared.frames.Filling.{Filling}
use Rattle.proto_nodes.specs.declared.frames.Next.{Next}
use Rattle.proto_nodes.specs.declared.frames.Next.TheVariants as next
use Rattle.proto_nodes.specs.declared.frames.FieldAt.{FieldAt}
use Rattle.proto_nodes.specs.Does.{Comes, after, done, nodes_do, statements_do, leaves, finds, defaults_do, filling_comes, filled_now, default_value, default_comes}
use Rattle.proto_nodes.specs.Frames.{AllValued, DefaultGoes, DefaultSound, FillingFits, FillingSound, HasFilled, filling_next}
use Rattle.proto_nodes.proofs.NodeSteps.{then-assoc, then-same, doing-assoc}

-- ---- default values

pub filling-first : (ps : List Prototype) (a : Around) (left : List DefaultTree) (d : DefaultTree) (rest : List DefaultTree) (all : List Filled) (s : State) → left ≡ d ∷ rest →
    filling_comes ps a left all s ≡ after (doing (default ps d all) s) (filling_comes ps a rest)
unfolding filling_comes
filling-first ps a left d rest all s is =
    ap (λ xs. after (doing (defaults_do ps a xs all) s) (leaves a)) is
    ∙ ap (λ o. after o (leaves a)) (doing-assoc (default ps d all) (λ filled. flat.through (default ps) rest filled) (λ filled. finds a.proto.now.interface filled >>= λ _. statements_do ps a.proto.now.tree.now.body []) s)
    ∙ then-assoc (doing (default ps d all) s) (λ filled. doing (defaults_do ps a rest filled)) (leaves a)

abbrev free_default : List Prototype → DefaultTree → List Filled → Does (List Filled)
free_default ps d all = put_default (with_given d.declaration.now (value_in ps d.value)) all (value_in ps d.value)

pub default-taken : (ps : List Prototype) (a : Around) (left : List DefaultTree) (d : DefaultTree) (rest : List DefaultTree) (all : List Filled) (s : State) → left ≡ d ∷ rest → is_none (value_of d.declaration.now.name all) ≡ false →
    filling_comes ps a left all s ≡ filling_comes ps a rest all s
default-taken ps a left d rest all s is taken =
    filling-first ps a left d rest all s is ∙ ap (λ b. after (doing (if b then free_default ps d all else pure all) s) (filling_comes ps a rest)) taken

pub default-free : (ps : List Prototype) (a : Around) (left : List DefaultTree) (d : DefaultTree) (rest : List DefaultTree) (all : List Filled) (s : State) → left ≡ d ∷ rest → is_none (value_of d.declaration.now.name all) ≡ true →
    filling_comes ps a left all s ≡ after (doing (free_default ps d all) s) (filling_comes ps a rest)
default-free ps a left d rest all s is free =
    filling-first ps a left d rest all s is ∙ ap (λ b. after (doing (if b then free_default ps d all else pure all) s) (filling_comes ps a rest)) free

-- a default value by what it is
default-as : (ps : List Prototype) (d : DefaultTree) (t : GivenTree NodeTree) (f : Filling) (s : State) → d.value ≡ t →
    default_comes ps d f s ≡ after (doing (put_default (with_given d.declaration.now (value_in ps t)) (filled_now f) (value_in ps t)) s) (filling_comes ps f.around.value f.rest.now)
default-as ps d t f s is = ap (λ x. after (doing (put_default (with_given d.declaration.now (value_in ps x)) (filled_now f) (value_in ps x)) s) (filling_comes ps f.around.value f.rest.now)) is

pub default-none : (ps : List Prototype) (d : DefaultTree) (t : GivenTree NodeTree) (f : Filling) (s : State) → d.value ≡ t → value_in ps t ≡ given.Nothing → default_comes ps d f s ≡ filling_next ps f next.On s
default-none ps d t f s is nothing =
    default-as ps d t f s is ∙ ap (λ x. after (doing (put_default (with_given d.declaration.now x) (filled_now f) x) s) (filling_comes ps f.around.value f.rest.now)) nothing

-- the line and the name are those of the declaration, and the number is none
pub record IsPlace (d : DefaultTree) (p : FieldAt) : Type 0 where
  pub line : p.line ≡ d.declaration.now.line
  pub name : p.name.now ≡ d.declaration.now.name
  pub number : p.field.number ≡ 0

stands-there : (d : DefaultTree) (p : FieldAt) (v : RawValue ℕ) → IsPlace d p → record { line = d.declaration.now.line; name = d.declaration.now.name; number = 0; value = Some v } ≡ default_value p v
stands-there d p v is =
    ap (λ n. record { line = n; name = d.declaration.now.name; number = 0; value = Some v }) (sym is.line)
    ∙ ap (λ n. record { line = p.line; name = n; number = 0; value = Some v }) (sym is.name)
    ∙ ap (λ n. record { line = p.line; name = p.name.now; number = n; value = Some v }) (sym is.number)

pub put-plain : (v : RawValue NodeText) → put_in (values.plain v) ≡ pure (values.plain v)
put-plain value.Null = refl
put-plain (value.Truth truth) = refl
put-plain (value.String text) = refl
put-plain (value.Numbers numbers) = refl
put-plain (value.Node n) = refl
put-plain value.EmptyList = refl
put-plain (value.TruthList truths) = refl
put-plain (value.StringList texts) = refl
put-plain (value.NumberList numbers) = refl
put-plain (value.NodeList ns) = refl

pub default-plain : (ps : List Prototype) (d : DefaultTree) (v : Bor (RawValue NodeText)) (p : FieldAt) (f g : Filling) (s : State) → d.value ≡ tree.Plain v → IsPlace d p → HasFilled f (default_value p (values.plain v.now)) g →
    default_comes ps d f s ≡ filling_next ps g next.On s
default-plain ps d v p f g s is place filled =
    default-as ps d (tree.Plain v) f s is
    ∙ ap (λ (m : Does (RawValue ℕ)). after (doing (m >>= λ r. pure (filled_now f ++ record { line = d.declaration.now.line; name = d.declaration.now.name; number = 0; value = Some r } ∷ [])) s) (filling_comes ps f.around.value f.rest.now)) (put-plain v.now)
    ∙ ap (λ x. filling_comes ps f.around.value f.rest.now (filled_now f ++ x ∷ []) s) (stands-there d p (values.plain v.now) place)
    ∙ ap (λ all. filling_comes ps f.around.value f.rest.now all s) (sym filled.filled)
    ∙ ap (λ xs. filling_comes ps f.around.value xs.now (filled_now g) s) (sym filled.rest)
    ∙ ap (λ a. filling_comes ps a.value g.rest.now (filled_now g) s) (sym filled.around)

-- a value that is put in, and then the default value
value-filled : {A : Type 0} (ps : List Prototype) (d : DefaultTree) (p : FieldAt) (f : Filling) (m : Does A) (g : A → RawValue ℕ) (s : State) → IsPlace d p →
    after (doing ((m >>= λ a. pure (g a)) >>= λ r. pure (filled_now f ++ record { line = d.declaration.now.line; name = d.declaration.now.name; number = 0; value = Some r } ∷ [])) s) (filling_comes ps f.around.value f.rest.now)
    ≡ after (doing m s) (λ a. filling_comes ps f.around.value f.rest.now (filled_now f ++ default_value p (g a) ∷ []))
value-filled ps d p f m g s place =
    ap (λ o. after o (filling_comes ps f.around.value f.rest.now)) (doing-assoc m (λ a. pure (g a)) (λ r. pure (filled_now f ++ record { line = d.declaration.now.line; name = d.declaration.now.name; number = 0; value = Some r } ∷ [])) s)
    ∙ then-assoc (doing m s) (λ a. done (filled_now f ++ record { line = d.declaration.now.line; name = d.declaration.now.name; number = 0; value = Some (g a) } ∷ [])) (filling_comes ps f.around.value f.rest.now)
    ∙ then-same (doing m s) (λ a. filling_comes ps f.around.value f.rest.now (filled_now f ++ record { line = d.declaration.now.line; name = d.declaration.now.name; number = 0; value = Some (g a) } ∷ [])) (λ a. filling_comes ps f.around.value f.rest.now (filled_now f ++ default_value p (g a) ∷ []))
    (λ a t. ap (λ x. filling_comes ps f.around.value f.rest.now (filled_now f ++ x ∷ []) t) (stands-there d p (g a) place))

pub default-one : (ps : List Prototype) (d : DefaultTree) (n : Bor NodeTree) (p : FieldAt) (f : Filling) (s : State) → d.value ≡ tree.One n.now → IsPlace d p → default_comes ps d f s ≡ filling_next ps f (next.One p n) s
default-one ps d n p f s is place =
    default-as ps d (tree.One n.now) f s is ∙ value-filled ps d p f (node ps n.now).does (λ k. value.Node k) s place

pub default-many : (ps : List Prototype) (d : DefaultTree) (count : ℕ) (ns : Bor (List NodeTree)) (p : FieldAt) (f : Filling) (s : State) → d.value ≡ tree.Many count ns.now → IsPlace d p → default_comes ps d f s ≡ filling_next ps f (next.List p ns) s
default-many ps d count ns p f s is place =
    default-as ps d (tree.Many count ns.now) f s is ∙ value-filled ps d p f (nodes_do ps ns.now []) (λ ks. value.NodeList ks) s place

-- ---- names that have no value

pub valued-more : (xs : List Filled) (f : Filled) → is_some f.value ≡ true → AllValued xs → AllValued (xs ++ f ∷ [])
valued-more [] f is k = (is, tt)
valued-more (x ∷ xs) f is k = (k.0, valued-more xs f is k.1)

has-none : (b : Bool) (v : Option (RawValue ℕ)) (rest : Option (RawValue ℕ)) → is_some v ≡ true → option_or (if b then v else None) rest ≡ None → (b ≡ false) × (rest ≡ None)
has-none true None rest is none = absurd (true≢false (sym is))
has-none true (Some x) rest is none = cc
has-none false v rest is none = (refl, none)

pub unnamed : (name : Name) (xs : List Filled) → AllValued xs → value_of name xs ≡ None → table.has_name name xs ≡ false
unnamed name [] k none = refl
unnamed name (x ∷ xs) k none =
    let parts = has-none (bytes_eq x.name name) x.value (value_of name xs) k.0 none in
    rw (parts.0) (unnamed name xs k.1 parts.1)

-- nothing is given by the second where nothing is by both
pub none-then : (name : Name) (xs ys : List Filled) → value_of name (xs ++ ys) ≡ None → value_of name ys ≡ None
none-then name [] ys none = none
none-then name (x ∷ xs) ys none = none-then name xs ys (rest-none (if bytes_eq x.name name then x.value else None) (value_of name (xs ++ ys)) none) where
  rest-none : (a b : Option (RawValue ℕ)) → option_or a b ≡ None → b ≡ None
  rest-none None b is = is
  rest-none (Some a) b is = cc

pub free-none : {A : Type 0} (o : Option A) → is_none o ≡ true → o ≡ None
free-none None is = refl
free-none (Some a) is = absurd (true≢false (sym is))

-- ---- the next default value

or-assoc : {A : Type 0} (a b c : Option A) → option_or a (option_or b c) ≡ option_or (option_or a b) c
or-assoc None b c = refl
or-assoc (Some x) b c = refl

value-append : (name : Name) (xs ys : List Filled) → value_of name (xs ++ ys) ≡ option_or (value_of name xs) (value_of name ys)
value-append name [] ys = refl
value-append name (x ∷ xs) ys =
    ap (option_or (if bytes_eq x.name name then x.value else None)) (value-append name xs ys) ∙ or-assoc (if bytes_eq x.name name then x.value else None) (value_of name xs) (value_of name ys)

first-some : {A B : Type 0} (f : A → B) (o : Option A) (p q : Option B) → option_map f o ≡ p → is_some o ≡ true → false ≡ is_none (option_or p q)
first-some f None p q is some = absurd (true≢false (sym some))
first-some f (Some a) p q is some = ap (λ x. is_none (option_or x q)) is

pub given-some : {A : Type 0} (f : A → RawValue ℕ) (o : Option A) (name : Name) (xs ys : List Filled) → option_map f o ≡ value_of name xs → is_some o ≡ true → false ≡ is_none (value_of name (xs ++ ys))
given-some f o name xs ys is some = first-some f o (value_of name xs) (value_of name ys) is some ∙ ap is_none (sym (value-append name xs ys))

none-same : {A B : Type 0} (g : A → B) (o : Option A) (q : Option B) → option_map g o ≡ q → is_none o ≡ is_none q
none-same g None q is = ap is_none is
none-same g (Some a) q is = ap is_none is

second-none : {A C B : Type 0} (f : A → B) (g : C → B) (o : Option A) (c : Option C) (p q : Option B) → option_map f o ≡ p → is_some o ≡ false → option_map g c ≡ q → is_none c ≡ is_none (option_or p q)
second-none f g None c p q is none other = none-same g c q other ∙ ap (λ x. is_none (option_or x q)) is
second-none f g (Some a) c p q is none other = absurd (true≢false none)

pub given-none : {A C : Type 0} (f : A → RawValue ℕ) (g : C → RawValue ℕ) (o : Option A) (c : Option C) (name : Name) (xs ys : List Filled) → option_map f o ≡ value_of name xs → is_some o ≡ false → option_map g c ≡ value_of name ys → is_none c ≡ is_none (value_of name (xs ++ ys))
given-none f g o c name xs ys is none other = second-none f g o c (value_of name xs) (value_of name ys) is none other ∙ ap is_none (sym (value-append name xs ys))

-- a value more
pub fills : (f : Filling) (new : tables.Given) (v w : Filled) → v ≡ w → is_some w.value ≡ true → FillingSound f → table.Holds new (table.shown f.defaults ++ v ∷ []) → HasFilled f w (record f { defaults = new })
fills f new v w same some sound holds =
    let list : table.shown new ≡ table.shown f.defaults ++ w ∷ [] = holds.list ∙ ap (λ x. table.shown f.defaults ++ x ∷ []) same in
    record {
      filled = ap (λ xs. table.shown f.given ++ xs) list ∙ sym (append_assoc (table.shown f.given) (table.shown f.defaults) (w ∷ []));
      rest = refl;
      around = refl;
      sound = record {
        given = sound.given;
        defaults = subst (λ xs. table.Holds new xs) (sym holds.list) holds;
        valued = subst AllValued (sym list) (valued-more (table.shown f.defaults) w some sound.valued);
        around = sound.around;
      };
    }

pub fills-if : (r : Result (Unit {0}) AllocError) (f : Filling) (new : tables.Given) (v w : Filled) → v ≡ w → is_some w.value ≡ true → FillingSound f → IfOk r (λ _. table.Holds new (table.shown f.defaults ++ v ∷ [])) → IfOk r (λ _. HasFilled f w (record f { defaults = new }))
fills-if (Ok u) f new v w same some sound holds = fills f new v w same some sound holds
fills-if (Err e) f new v w same some sound holds = tt

pub plain-goes : (ps : List Prototype) (d : DefaultTree) (v : Bor (RawValue NodeText)) (p : FieldAt) (f g : Filling) (r : Result Next AllocError) (s : State) → d.value ≡ tree.Plain v → IsPlace d p →
    IfOk r (λ n. (n ≡ next.On) × HasFilled f (default_value p (values.plain v.now)) g) → DefaultGoes ps (default_comes ps d f s) r g s
plain-goes ps d v p f g (Ok n) s is place k = default-plain ps d v p f g s is place k.1 ∙ ap (λ x. filling_next ps g x s) (sym k.0)
plain-goes ps d v p f g (Err e) s is place k = tt

pub plain-sound : (f g : Filling) (w : Filled) (r : Result Next AllocError) → IfOk r (λ n. (n ≡ next.On) × HasFilled f w g) → DefaultSound r g
plain-sound f g w (Ok n) k = (k.1.sound, subst (λ x. FillingFits g x) (sym k.0) tt)
plain-sound f g w (Err e) k = tt

pub default-goes-as : (ps : List Prototype) (o q : Comes ℕ) (r : Result Next AllocError) (f : Filling) (s : State) → o ≡ q → DefaultGoes ps q r f s → DefaultGoes ps o r f s
default-goes-as ps o q (Ok n) f s is k = is ∙ k
default-goes-as ps o q (Err e) f s is k = tt

-- the next default value, where the rest is set
pub taken-next : (ps : List Prototype) (f g : Filling) (d : Bor DefaultTree) (rest : Bor (List DefaultTree)) (b : Bool) (s : State) → f.rest.now ≡ d.now ∷ rest.now → g ≡ record f { rest = rest } → b ≡ is_none (value_of d.now.declaration.now.name (table.shown g.given ++ table.shown g.defaults)) → b ≡ false →
    filling_comes ps f.around.value f.rest.now (filled_now f) s ≡ filling_comes ps g.around.value g.rest.now (filled_now g) s
taken-next ps f g d rest b s split same asked is =
    default-taken ps f.around.value f.rest.now d.now rest.now (filled_now f) s split (ap (λ (x : Filling). is_none (value_of d.now.declaration.now.name (filled_now x))) (sym same) ∙ sym asked ∙ is)
    ∙ ap (λ (x : Filling). filling_comes ps x.around.value x.rest.now (filled_now x) s) (sym same)

pub free-next : (ps : List Prototype) (f g : Filling) (d : Bor DefaultTree) (rest : Bor (List DefaultTree)) (b : Bool) (s : State) → f.rest.now ≡ d.now ∷ rest.now → g ≡ record f { rest = rest } → b ≡ is_none (value_of d.now.declaration.now.name (table.shown g.given ++ table.shown g.defaults)) → b ≡ true →
    filling_comes ps f.around.value f.rest.now (filled_now f) s ≡ default_comes ps d.now g s
free-next ps f g d rest b s split same asked is =
    default-free ps f.around.value f.rest.now d.now rest.now (filled_now f) s split (ap (λ (x : Filling). is_none (value_of d.now.declaration.now.name (filled_now x))) (sym same) ∙ sym asked ∙ is)
    ∙ ap (λ (x : Filling). default_comes ps d.now x s) (sym same)

pub free-name : (g : Filling) (name : Name) (b : Bool) → FillingSound g → b ≡ is_none (value_of name (table.shown g.given ++ table.shown g.defaults)) → b ≡ true → table.has_name name (table.shown g.defaults) ≡ false
free-name g name b sound asked is =
    unnamed name (table.shown g.defaults) sound.valued (none-then name (table.shown g.given) (table.shown g.defaults) (free-none (value_of name (table.shown g.given ++ table.shown g.defaults)) (sym asked ∙ is)))

pub sound-rest : (f g : Filling) (rest : Bor (List DefaultTree)) → g ≡ record f { rest = rest } → FillingSound f → FillingSound g
sound-rest f g rest same k =
    let set : FillingSound (record f { rest = rest }) = record { given = k.given; defaults = k.defaults; valued = k.valued; around = k.around } in subst FillingSound (sym same) set

pub is-none : {A : Type 0} (o : Option A) (b : Bool) → is_some o ≡ not b → b ≡ is_none o
is-none None true is = refl
is-none None false is = cc
is-none (Some a) true is = cc
is-none (Some a) false is = refl
