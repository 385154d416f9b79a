-- One IS more.
use Rattle.std.proofs.Common.{◌≡◌, ℕ, ◌+◌, Bool, true, false, if◌then◌else◌, List, [], ◌∷◌, ◌++◌, length, map, Option, None, Some, Result, Ok, Err, refl, ap, sym, ◌∙◌}
use Rattle.std.specs.Prelude.{◌<◌, IfOk, get_or, take}
use Rattle.std.specs.Str.{bytes_eq}
use Rattle.std.specs.declared.rc.Rc.{Rc}
use Rattle.std.proofs.Math.Path.{fun_ext}
use Rattle.std.proofs.lemmas.Grind.{flat_map-append}
use Rattle.std.proofs.lemmas.List.{append-nil, map-append, take_more}
use Rattle.std.proofs.lemmas.Slice.Eq.{bytes_eq-Decides}
use Rattle.x3d_values.specs.declared.field_type.Access.{Access}
use Rattle.proto_flat.specs.declared.flat.FlatEnd.{FlatEnd}
use Rattle.proto_flat.specs.declared.flat.FlatEnd.TheVariants.{NoField, WrongWay}
use Rattle.proto_meaning.specs.Names as meaning
use Rattle.proto_meaning.specs.Names.{Name, ends_by}
use Rattle.proto_parts.specs.declared.ends.Ends.{Ends}
use Rattle.proto_parts.specs.Ends.{end, list}
use Rattle.proto_parts.specs.declared.joins.Join.{Join}
use Rattle.proto_parts.specs.Joined.{meant, owned, with_ends, with_more}
use Rattle.proto_parts.specs.Joins.{ends_behind, joins_ends}

pub owned-if : {A : Type 0} (b : Bool) (ends : Rc Ends A) (o : Option (Rc Ends A)) → owned (if b then Some ends else o) ≡ (if b then meant ends.value else owned o)
owned-if true ends o = refl
owned-if false ends o = refl

-- what holds of a good answer, by what it was made of
pub if-ok : {X E : Type 0} (r : Result X E) (p q : X → Type 0) → ((x : X) → p x → q x) → IfOk r p → IfOk r q
if-ok (Ok x) p q k h = k x h
if-ok (Err e) p q k h = h

pub of-both : (made first second : Ends) (ends : List FlatEnd) → list made ≡ list first ++ list second → meant first ≡ ends → meant made ≡ ends ++ meant second
of-both made first second ends is same = ap (map end) is ∙ map-append end (list first) (list second) ∙ ap (λ es. es ++ meant second) same

grow-by : (b : Bool) (made more before : List FlatEnd) → (b ≡ true → made ≡ before ++ more) → (if b then made else before) ≡ before ++ (if b then more else [])
grow-by true made more before k = k refl
grow-by false made more before k = sym (append-nil before)

pub grows : (given : Name) (made more : List FlatEnd) (old new : Name → List FlatEnd) → new ≡ with_ends given made old → made ≡ old given ++ more → new ≡ with_more given more old
grows given made more old new is longer =
    is ∙ fun_ext (λ name. grow-by (bytes_eq given name) made more (old name) (λ h. longer ∙ ap (λ n. old n ++ more) ((bytes_eq-Decides given name).0 h)))

none-more : (b : Bool) (before : List FlatEnd) → before ≡ before ++ (if b then [] else [])
none-more true before = sym (append-nil before)
none-more false before = sym (append-nil before)

pub joins-none : (given : Name) (ends : Name → List FlatEnd) → ends ≡ with_more given [] ends
joins-none given ends = fun_ext (λ name. none-more (bytes_eq given name) (ends name))

-- an IS behind the others
pub one-more : (joins : List Join) (j : Join) (all : List meaning.Braces) → with_more j.outer.now (ends_behind all j) (joins_ends joins all) ≡ joins_ends (joins ++ j ∷ []) all
one-more joins j all =
    fun_ext (λ name. sym (flat_map-append (λ (k : Join). if bytes_eq k.outer.now name then ends_behind all k else []) joins (j ∷ [])
    ∙ ap (λ es. joins_ends joins all name ++ es) (append-nil (if bytes_eq j.outer.now name then ends_behind all j else []))))

-- the next IS of a list
pub joined-next : (js : List Join) (i : ℕ) (j : Join) (all : List meaning.Braces) (old new : Name → List FlatEnd) (more : List FlatEnd) → i < length js → j ≡ get_or js i j →
    old ≡ joins_ends (take i js) all → more ≡ ends_behind all j → new ≡ with_more j.outer.now more old → new ≡ joins_ends (take (i + 1) js) all
joined-next js i j all old new more within at was found is =
    is ∙ ap (λ es. with_more j.outer.now es old) found ∙ ap (with_more j.outer.now (ends_behind all j)) was ∙ one-more (take i js) j all
    ∙ ap (λ ks. joins_ends ks all) (sym (take_more js i j within ∙ ap (λ k. take i js ++ k ∷ []) (sym at)))

-- ---- ends of a ROUTE

-- a good answer by another that is the same
pub owned-same : {A E : Type 0} (r : Result (Option (Rc Ends A)) E) (x y : List FlatEnd) → x ≡ y → IfOk r (λ e. owned e ≡ x) → IfOk r (λ e. owned e ≡ y)
owned-same (Ok e) x y is h = h ∙ is
owned-same (Err e) x y is h = h

pub named-none : (allowed : Access → Bool) (s : meaning.Stands) (o : Option meaning.Field) → None ≡ o → NoField ∷ [] ≡ ends_by allowed s o
named-none allowed s o is = ap (ends_by allowed s) is

pub named-way : (allowed : Access → Bool) (s : meaning.Stands) (f : meaning.Field) (o : Option meaning.Field) → Some f ≡ o → allowed f.access ≡ true → s.ends f.name ≡ ends_by allowed s o
named-way allowed s f o is way = ap (λ b. if b then s.ends f.name else WrongWay ∷ []) (sym way) ∙ ap (ends_by allowed s) is

pub named-wrong : (allowed : Access → Bool) (s : meaning.Stands) (f : meaning.Field) (o : Option meaning.Field) → Some f ≡ o → allowed f.access ≡ false → WrongWay ∷ [] ≡ ends_by allowed s o
named-wrong allowed s f o is way = ap (λ b. if b then s.ends f.name else WrongWay ∷ []) (sym way) ∙ ap (ends_by allowed s) is
