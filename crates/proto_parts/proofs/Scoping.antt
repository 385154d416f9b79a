-- Braces of a scope that open and close, and what stands in it.
use Rattle.std.proofs.Common.{◌≡◌, ℕ, suc, zero, false, true≢false, if◌then◌else◌, List, [], ◌∷◌, ◌++◌, length, map, Option, Some, None, refl, ap, sym, subst, ◌∙◌, arith}
use Rattle.std.specs.Prelude.{slice_get, slice_set, option_map, is_some}
use Rattle.std.specs.Option.{option_or}
use Rattle.std.specs.Str.{bytes_eq}
use Rattle.std.proofs.Math.Path.{fun_ext}
use Rattle.std.proofs.lemmas.Grind.{flat_map-append}
use Rattle.std.proofs.lemmas.List.{append-nil, map-append, map-set, length-map}
use Rattle.std.proofs.lemmas.Option.{none-some}
use Rattle.std.specs.declared.rc.Rc.{Rc}
use Rattle.classic_tree.specs.declared.tree.RawValue.{RawValue}
use Rattle.classic_tree.specs.declared.tree.RouteText.{RouteText}
use Rattle.proto_flat.specs.declared.flat.FlatRoute.{FlatRoute}
use Rattle.proto_meaning.specs.Names as meaning
use Rattle.proto_meaning.specs.Names.{Filled, last_from, stands_at, pairs, source_ends, sources, target_ends, targets, value_of}
use Rattle.proto_parts.specs.declared.names.Names.{Names}
use Rattle.proto_parts.specs.Names.{Knows, opened, closed}
use Rattle.proto_parts.specs.declared.joins.Braces.{Braces}
use Rattle.proto_parts.specs.declared.joins.InstanceEnds.{InstanceEnds}
use Rattle.proto_parts.specs.declared.sides.Pending.{Pending}
use Rattle.proto_parts.specs.declared.sides.RoutePart.{RoutePart}
use Rattle.proto_parts.specs.declared.sides.RoutePart.TheVariants as part
use Rattle.proto_parts.specs.Joins.{braces_of, stands_by, stands_of}
use Rattle.proto_parts.specs.Sides.{pending_routes, part_routes, parts_routes}
use Rattle.proto_parts.specs.Scope.{with_route, with_routes}

-- ---- braces that open

pub more-braces : (old new : List Braces) (b : Braces) → new ≡ old ++ b ∷ [] → map braces_of new ≡ map braces_of old ++ braces_of b ∷ []
more-braces old new b is = ap (map braces_of) is ∙ map-append braces_of old (b ∷ [])

pub so-many : (bs : List Braces) (at : ℕ) → at ≡ length bs → at ≡ length (map braces_of bs)
so-many bs at is = is ∙ sym (length-map bs braces_of)

-- ---- braces that close

abbrev or-else : {A : Type 0} → A → Option A → A
or-else d None = d
or-else d (Some a) = a

-- an item of a list, and what stands before and behind it
split : {A : Type 0} (xs : List A) (i : ℕ) (b c : A) → slice_get xs i ≡ Some b →
    (before : List A) × (after : List A) × (xs ≡ before ++ b ∷ after) × (i ≡ length before) × (slice_set xs i c ≡ before ++ c ∷ after)
split [] zero b c is = absurd (none-some b is)
split [] (suc i) b c is = absurd (none-some b is)
split (x ∷ xs) zero b c is = ([], xs, ap (λ y. y ∷ xs) (ap (or-else b) is), refl, refl)
split (x ∷ xs) (suc i) b c is =
    let r = split xs i b c is in
    (x ∷ r.0, r.1, ap (λ ys. x ∷ ys) r.2, omega (arith, r.3), ap (λ ys. x ∷ ys) r.4)

pub closes : (old new : Names) (bs : List meaning.Braces) (at : ℕ) (name : Option meaning.Name) (what : meaning.Stands) → slice_get bs at ≡ Some (opened name) → Knows old bs →
    ((before after : List meaning.Braces) → at ≡ length before → Knows old (before ++ opened name ∷ after) → Knows new (before ++ closed name what ∷ after)) →
    Knows new (slice_set bs at (closed name what))
closes old new bs at name what there k next =
    let r = split bs at (opened name) (closed name what) there in
    subst (λ xs. Knows new xs) (sym r.4) (next r.0 r.1 r.3 (subst (λ xs. Knows old xs) r.2 k))

pub known-braces : (new names : Names) (bs cs : List meaning.Braces) → new ≡ names → bs ≡ cs → Knows names cs → Knows new bs
known-braces new names bs cs same is k = subst (λ n. Knows n bs) (sym same) (subst (λ xs. Knows names xs) (sym is) k)

none-of : {A : Type 0} (o : Option A) → is_some o ≡ false → o ≡ None
none-of None e = refl
none-of (Some a) e = absurd (true≢false e)

-- braces that are open, with that name
same-braces : (b : Braces) (name : Option meaning.Name) → is_some b.stands ≡ false → b.name.now ≡ name → Some (braces_of b) ≡ Some (opened name)
same-braces b name open_yet same =
    ap (λ o. Some (record { name = b.name.now; stands = option_map stands_of o })) (none-of b.stands open_yet) ∙ ap (λ n. Some (opened n)) same

pub open-there : (bs : List Braces) (at : ℕ) (b : Braces) (name : Option meaning.Name) → slice_get bs at ≡ Some b → is_some b.stands ≡ false → b.name.now ≡ name →
    slice_get (map braces_of bs) at ≡ Some (opened name)
open-there [] zero b name is open_yet same = absurd (none-some b is)
open-there [] (suc at) b name is open_yet same = absurd (none-some b is)
open-there (x ∷ bs) zero b name is open_yet same = ap (λ y. Some (braces_of y)) (ap (or-else b) is) ∙ same-braces b name open_yet same
open-there (x ∷ bs) (suc at) b name is open_yet same = open-there bs at b name is open_yet same

pub node-is : {A : Type 0} (node : ℕ) (instance : Option (Rc InstanceEnds A)) → (stands_by node instance).node ≡ node
node-is node None = refl
node-is node (Some i) = refl

-- ---- ROUTEs and ISs

pending-is : (r : RouteText) (bs : List meaning.Braces) (p : Pending) → p.line ≡ r.line → p.source.at ≡ last_from 0 r.source.node bs → p.source.field.now ≡ r.source.field →
    p.target.at ≡ last_from 0 r.target.node bs → p.target.field.now ≡ r.target.field → (all : List meaning.Braces) → pending_routes p all ≡ pairs r.line (sources bs all r.source) (targets bs all r.target)
pending-is r bs p line sat sfield tat tfield all =
    ap (λ n. pairs n (source_ends p.source.field.now (stands_at all p.source.at)) (target_ends p.target.field.now (stands_at all p.target.at))) line
    ∙ ap (λ at. pairs r.line (source_ends p.source.field.now (stands_at all at)) (target_ends p.target.field.now (stands_at all p.target.at))) sat
    ∙ ap (λ f. pairs r.line (source_ends f (stands_at all (last_from 0 r.source.node bs))) (target_ends p.target.field.now (stands_at all p.target.at))) sfield
    ∙ ap (λ at. pairs r.line (sources bs all r.source) (target_ends p.target.field.now (stands_at all at))) tat
    ∙ ap (λ f. pairs r.line (sources bs all r.source) (target_ends f (stands_at all (last_from 0 r.target.node bs)))) tfield

pub routes-more : (old new : List RoutePart) (p : RoutePart) → new ≡ old ++ p ∷ [] → parts_routes new ≡ (λ all. parts_routes old all ++ part_routes p all)
routes-more old new p is =
    ap (λ ps. parts_routes ps) is
    ∙ fun_ext (λ all. flat_map-append (λ (q : RoutePart). part_routes q all) old (p ∷ [])
    ∙ ap (λ rs. parts_routes old all ++ rs) (append-nil (part_routes p all)))

pub route-noted : (r : RouteText) (s : meaning.Scope) (old new : List RoutePart) (p : Pending) → s.routes ≡ parts_routes old → new ≡ old ++ part.Pending p ∷ [] →
    p.line ≡ r.line → p.source.at ≡ last_from 0 r.source.node s.braces → p.source.field.now ≡ r.source.field → p.target.at ≡ last_from 0 r.target.node s.braces → p.target.field.now ≡ r.target.field →
    record s { routes = parts_routes new } ≡ with_route r s
route-noted r s old new p was is line sat sfield tat tfield =
    ap (λ rs. record s { routes = rs })
    (routes-more old new (part.Pending p) is
    ∙ fun_ext (λ all. ap (λ rs. parts_routes old all ++ rs) (pending-is r s.braces p line sat sfield tat tfield all)
    ∙ ap (λ (f : List meaning.Braces → List FlatRoute). f all ++ pairs r.line (sources s.braces all r.source) (targets s.braces all r.target)) (sym was)))

pub routes-added : (made : List FlatRoute) (s : meaning.Scope) (old new : List RoutePart) (p : RoutePart) → s.routes ≡ parts_routes old → new ≡ old ++ p ∷ [] →
    ((all : List meaning.Braces) → part_routes p all ≡ made) → record s { routes = parts_routes new } ≡ with_routes made s
routes-added made s old new p was is same =
    ap (λ rs. record s { routes = rs })
    (routes-more old new p is
    ∙ fun_ext (λ all. ap (λ rs. parts_routes old all ++ rs) (same all)
    ∙ ap (λ (f : List meaning.Braces → List FlatRoute). f all ++ made) (sym was)))

pub set-shown : (s : meaning.Scope) (items : List Braces) (at : ℕ) (b : Braces) → s.braces ≡ map braces_of items →
    record s { braces = map braces_of (slice_set items at b) } ≡ record s { braces = slice_set s.braces at (braces_of b) }
set-shown s items at b is =
    ap (λ bs. record s { braces = bs }) (map-set braces_of items at b ∙ ap (λ bs. slice_set bs at (braces_of b)) (sym is))

-- ---- what an IS finds

or-assoc : (o p q : Option (RawValue ℕ)) → option_or (option_or o p) q ≡ option_or o (option_or p q)
or-assoc None p q = refl
or-assoc (Some a) p q = refl

-- what is given, and then the default values
value-behind : (name : meaning.Name) (xs ys : List Filled) → value_of name (xs ++ ys) ≡ option_or (value_of name xs) (value_of name ys)
value-behind name [] ys = refl
value-behind name (f ∷ fs) ys =
    ap (λ o. option_or (if bytes_eq f.name name then f.value else None) o) (value-behind name fs ys)
    ∙ sym (or-assoc (if bytes_eq f.name name then f.value else None) (value_of name fs) (value_of name ys))

pub given-first : (name : meaning.Name) (xs ys : List Filled) (v : RawValue ℕ) → Some v ≡ value_of name xs → Some v ≡ value_of name (xs ++ ys)
given-first name xs ys v is = ap (λ o. option_or o (value_of name ys)) is ∙ sym (value-behind name xs ys)

pub given-then : (name : meaning.Name) (xs ys : List Filled) (o : Option (RawValue ℕ)) → None ≡ value_of name xs → o ≡ value_of name ys → o ≡ value_of name (xs ++ ys)
given-then name xs ys o none is = is ∙ ap (λ p. option_or p (value_of name ys)) none ∙ sym (value-behind name xs ys)
