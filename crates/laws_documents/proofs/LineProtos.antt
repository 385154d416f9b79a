-- Prototypes without lines.
use Rattle.std.proofs.Common.{◌≡◌, ℕ, Bool, true, false, if◌then◌else◌, List, [], ◌∷◌, ◌++◌, Option, Some, None, Result, Ok, Err, map, bytes_eq, refl, ap, sym, ◌∙◌, subst}
use Rattle.std.specs.Prelude.{◌&&◌, ◌||◌, is_none, is_some}
use Rattle.std.specs.List.{list_any}
use Rattle.std.proofs.Math.Path.{fun_ext}
use Rattle.std.proofs.lemmas.List.{map-append}
use Rattle.x3d_values.specs.Names.{node_type_named}
use Rattle.classic_tree.specs.declared.tree.Declaration.{Declaration}
use Rattle.classic_tree.specs.declared.tree.Given.{Given}
use Rattle.classic_tree.specs.declared.tree.Given.TheVariants as given
use Rattle.classic_tree.specs.declared.tree.RawValue.{RawValue}
use Rattle.proto_flat.specs.Fault.{fault}
use Rattle.proto_flat.specs.declared.fault.ExpandFault.{ExpandFault}
use Rattle.proto_flat.specs.declared.fault.ExpandFaultKind.TheVariants.{EmptyBody, ProtoTwice}
use Rattle.proto_flat.specs.declared.flat.FlatRoute.{FlatRoute}
use Rattle.proto_meaning.specs.Limits.{Met, behind, follow}
use Rattle.proto_meaning.specs.Names.{Name, Filled, value_of}
use Rattle.proto_meaning.specs.Sight.{Put, Instance, Prototype, Sight, Names, and_see, aside, declared, each, no_names}
use Rattle.proto_meaning.specs.Flat.{Walk, Does, ◌>>=◌, Node, Stated, begin, body_finds, body_sees, declare, declare_body, default, field, given_finds, given_sees, in_body, instance_of, leave_out, made, note, proto_step, prototype, pure, put_default, put_in, through}
use Rattle.proto_meaning.proofs.Trees.{proto_of}
use Rattle.laws_documents.specs.Lines.{unlined_flat_route}
use Rattle.laws_documents.proofs.LineWalks.{Both, ComesAlike, DoesAlike, Equal, PrototypeAlike, PrototypesAlike, Seen, SeenAlike, SeesAlike, SightAlike, WalkAlike, aside_alike, bare_field, bare_fields, bare_filled, bare_made, bare_put, both_append, each_alike, if_alike, pure_alike, see_alike, sees_then, then_alike, through_alike}
use Rattle.laws_documents.proofs.LineSteps.{value_bare}
use Rattle.laws_documents.proofs.LineParts.{FindsAlike, GivenAlike, ProtoAlike, StatedAlike, bare_found, each_found, found_then, given_found, given_saw, left_out}
use Rattle.laws_documents.proofs.LineNodes.{FoundAlike, declared_alike}

-- ---- defaults

pub record DefaultAlike (c d : Declaration Node) : Type 0 where
  pub same : d ≡ record c { line = 0; given = d.given }
  pub given : GivenAlike c.given d.given

abbrev FilledAlike : List Filled → List Filled → Type 0
FilledAlike fs gs = gs ≡ map bare_filled fs

abbrev bare_declaration : Declaration Node → Given Node → Declaration Node
bare_declaration c g = record c { line = 0; given = g }

module _ (c : Declaration Node) (x : Given Node) (fs gs : List Filled) (e : gs ≡ map bare_filled fs) where
  abbrev filled_with : ℕ → List Filled → RawValue ℕ → List Filled
  filled_with line all v = all ++ record { line = line; name = c.name; number = 0; value = Some v } ∷ []

  filled_next : (u v : RawValue ℕ) → v ≡ u → filled_with 0 gs v ≡ map bare_filled (filled_with c.line fs u)
  filled_next u v i = ap (filled_with 0 gs) i ∙ ap (λ all. filled_with 0 all u) e ∙ sym (map-append bare_filled fs (record { line = c.line; name = c.name; number = 0; value = Some u } ∷ []))

  put_alike : (g h : Given Node) → GivenAlike g h → DoesAlike FilledAlike (put_default c fs g) (put_default (bare_declaration c x) gs h)
  put_alike given.Nothing given.Nothing k = pure_alike FilledAlike fs gs e
  put_alike given.Nothing (given.Is b) k = absurd k.kind
  put_alike given.Nothing (given.Value v) k = absurd k.kind
  put_alike (given.Is a) given.Nothing k = absurd k.kind
  put_alike (given.Is a) (given.Is b) k = pure_alike FilledAlike fs gs e
  put_alike (given.Is a) (given.Value v) k = absurd k.kind
  put_alike (given.Value u) given.Nothing k = absurd k.kind
  put_alike (given.Value u) (given.Is b) k = absurd k.kind
  put_alike (given.Value u) (given.Value v) k =
      then_alike Equal FilledAlike (put_in u) (put_in v) (λ r. pure (filled_with c.line fs r)) (λ r. pure (filled_with 0 gs r)) k.kind.1
      (λ a b i. pure_alike FilledAlike (filled_with c.line fs a) (filled_with 0 gs b) (filled_next a b i))

default_alike : (takes : Names) (c d : Declaration Node) → DefaultAlike c d → (fs gs : List Filled) → gs ≡ map bare_filled fs → DoesAlike FilledAlike (default takes c fs) (default takes d gs)
default_alike takes c d h fs gs e =
    subst (λ (x : Declaration Node). DoesAlike FilledAlike (default takes c fs) (default takes x gs)) (sym h.same)
    (subst (λ o. DoesAlike FilledAlike (default takes c fs) (if takes c.name && is_none o then put_default (bare_declaration c d.given) gs d.given else leave_out d.given >>= λ _. pure gs)) (sym (ap (value_of c.name) e ∙ value_bare c.name fs))
    (if_alike FilledAlike (takes c.name && is_none (value_of c.name fs)) (put_default c fs c.given) (leave_out c.given >>= λ _. pure fs) (put_default (bare_declaration c d.given) gs d.given) (leave_out d.given >>= λ _. pure gs)
    (put_alike c d.given fs gs e c.given d.given h.given)
    (then_alike Equal FilledAlike (leave_out c.given) (leave_out d.given) (λ _. pure fs) (λ _. pure gs) (left_out c.given d.given h.given) (λ _ _ _. pure_alike FilledAlike fs gs e))))

fields_bare : (cs ds : List (Declaration Node)) → Both DefaultAlike cs ds → map field ds ≡ bare_fields (map field cs)
fields_bare [] [] h = refl
fields_bare [] (d ∷ ds) h = absurd h
fields_bare (c ∷ cs) [] h = absurd h
fields_bare (c ∷ cs) (d ∷ ds) h = ap (λ (x : Declaration Node). field x ∷ map field ds) h.0.same ∙ ap (λ fs. bare_field (field c) ∷ fs) (fields_bare cs ds h.1)

-- ---- bodies

helped : (first : List ℕ) → List ℕ → Does (List ℕ)
helped first ns w = record { met = []; comes = Ok (first, record w { put = record w.put { helpers = w.put.helpers ++ ns } }) }

helped_alike : (first other ns ms : List ℕ) → other ≡ first → ms ≡ ns → DoesAlike (Equal {A = List ℕ}) (helped first ns) (helped other ms)
unfolding helped
helped_alike first other ns ms e f w v k = record {
  met = refl;
  comes_to = (
    e,
    record {
      put = ap (λ (p : Put). record p { helpers = p.helpers ++ ms }) k.put ∙ ap (λ xs. record (bare_put w.put) { helpers = w.put.helpers ++ xs }) f;
      sight = k.sight;
      scope = k.scope;
    },
  );
}

body_by : (m n : Stated) → StatedAlike m n → (ks : List ℕ) → DoesAlike (Equal {A = List ℕ}) (in_body m ks) (in_body n ks)
unfolding helped
body_by m n h [] = h.does
body_by m n h (k ∷ ks) = then_alike Equal Equal m.1.does n.1.does (helped (k ∷ ks)) (helped (k ∷ ks)) h.does (λ a b e. helped_alike (k ∷ ks) (k ∷ ks) a b refl e)

in_body_alike : (m n : Stated) → StatedAlike m n → (ks ls : List ℕ) → ls ≡ ks → DoesAlike (Equal {A = List ℕ}) (in_body m ks) (in_body n ls)
in_body_alike m n h ks ls e = subst (λ xs. DoesAlike Equal (in_body m ks) (in_body n xs)) (sym e) (body_by m n h ks)

pub begin_alike : (ps qs : List Prototype) (put : Put) → PrototypesAlike ps qs → WalkAlike (begin ps put) (begin qs (bare_put put))
begin_alike ps qs put h = record {
  put = refl;
  sight = record { here = tt; outside = h; taken = refl };
  scope = record { braces = refl; routes = λ all. refl; ends = λ all name. refl; interface = refl; given = refl };
}

-- ---- what an instance is

abbrev instance_with : ℕ → Walk → List FlatRoute → Put → Instance
instance_with n w routes put = record { node = n; ends = w.scope.ends w.scope.braces; routes = routes; put = put }

made_same : (line : ℕ) (m n : List Met) → n ≡ m → (ns : List ℕ) (w v : Walk) → WalkAlike w v → behind n (made 0 ns v) ≡ bare_made (behind m (made line ns w))
made_same line m n e [] w v k = ap (λ x. record { met = x ++ []; comes = Err (fault EmptyBody 0) }) e
made_same line m n e (i ∷ is) w v k =
    let routes = ap (λ bs. v.scope.routes bs) k.scope.braces ∙ k.scope.routes w.scope.braces in
    let ends = ap (λ bs. v.scope.ends bs) k.scope.braces ∙ fun_ext (λ name. k.scope.ends w.scope.braces name) in
    ap (λ x. record { met = x ++ []; comes = Ok (record { node = i; ends = v.scope.ends v.scope.braces; routes = v.scope.routes v.scope.braces; put = v.put }) }) e
    ∙ ap (λ f. record { met = m ++ []; comes = Ok (record { node = i; ends = f; routes = v.scope.routes v.scope.braces; put = v.put }) }) ends
    ∙ ap (λ rs. record { met = m ++ []; comes = Ok (instance_with i w rs v.put) }) routes
    ∙ ap (λ p. record { met = m ++ []; comes = Ok (instance_with i w (map unlined_flat_route (w.scope.routes w.scope.braces)) p) }) k.put

made_of : (line : ℕ) (m n : List Met) (c d : Result (List ℕ × Walk) ExpandFault) → n ≡ m → ComesAlike (Equal {A = List ℕ}) c d → follow n d (λ p. made 0 p.0 p.1) ≡ bare_made (follow m c (λ p. made line p.0 p.1))
made_of line m n (Ok p) (Ok q) e h = ap (λ ns. behind n (made 0 ns q.1)) h.0 ∙ made_same line m n e p.0 p.1 q.1 h.1
made_of line m n (Err x) (Err y) e h = ap (λ z. record { met = z; comes = Err y }) e ∙ ap (λ z. record { met = m; comes = Err z }) h
made_of line m n (Ok p) (Err y) e h = absurd h
made_of line m n (Err x) (Ok q) e h = absurd h

kinds_same : (ms ns : List Stated) → Both StatedAlike ms ns → list_any (λ (x : Stated). x.0) ns ≡ list_any (λ (x : Stated). x.0) ms
kinds_same [] [] h = refl
kinds_same [] (n ∷ ns) h = absurd h
kinds_same (m ∷ ms) [] h = absurd h
kinds_same (m ∷ ms) (n ∷ ns) h = ap (λ b. b || list_any (λ (x : Stated). x.0) ns) h.0.kind ∙ ap (λ b. m.0 || b) (kinds_same ms ns h.1)

some_found : (o r : Option Prototype) → FoundAlike o r → is_some r ≡ is_some o
some_found None None h = refl
some_found (Some p) (Some q) h = refl
some_found None (Some q) h = absurd h
some_found (Some p) None h = absurd h

seen_if : (b : Bool) (x y u v : Seen) → SeenAlike x u → SeenAlike y v → SeenAlike (if b then x else y) (if b then u else v)
seen_if true x y u v h k = h
seen_if false x y u v h k = k

-- ---- a prototype

module _ (line : ℕ) (name : Name) (cs ds : List (Declaration Node)) (ms ns : List Stated) (interface : Both DefaultAlike cs ds) (body : Both StatedAlike ms ns) where
  abbrev whole : Names → List (Declaration Node) → List Stated → List Filled → Does (List ℕ)
  whole takes xs ys given = through (default takes) xs given >>= λ all. note (tt {0}) (λ s. record s { interface = map field xs; given = all }) >>= λ _. through in_body ys []

  whole_alike : (takes : Names) (given : List Filled) → DoesAlike (Equal {A = List ℕ}) (whole takes cs ms given) (whole takes ds ns (map bare_filled given))
  whole_alike takes given =
      then_alike FilledAlike Equal (through (default takes) cs given) (through (default takes) ds (map bare_filled given))
      (λ all. note (tt {0}) (λ s. record s { interface = map field cs; given = all }) >>= λ _. through in_body ms []) (λ all. note (tt {0}) (λ s. record s { interface = map field ds; given = all }) >>= λ _. through in_body ns [])
      (through_alike DefaultAlike FilledAlike (default takes) (default takes) (default_alike takes) cs ds interface given (map bare_filled given) refl)
      (λ a b e. then_alike Equal Equal (note (tt {0}) (λ s. record s { interface = map field cs; given = a })) (note (tt {0}) (λ s. record s { interface = map field ds; given = b })) (λ _. through in_body ms []) (λ _. through in_body ns [])
      (λ w v k. record {
        met = refl;
        comes_to = (
          refl,
          record {
            put = k.put;
            sight = k.sight;
            scope = record { braces = k.scope.braces; routes = k.scope.routes; ends = k.scope.ends; interface = fields_bare cs ds interface; given = e };
          },
        );
      })
      (λ _ _ _. through_alike StatedAlike Equal in_body in_body in_body_alike ms ns body [] [] refl))

  prototype_alike : (ps qs : List Prototype) (takes names : Names) → PrototypesAlike ps qs → names ≡ takes → PrototypeAlike (prototype line name cs ms ps takes) (prototype 0 name ds ns qs names)
  prototype_alike ps qs takes names h e = record {
    name = refl;
    interface = fields_bare cs ds interface;
    takes = e;
    instance = λ given put.
        let o = whole takes cs ms given (begin ps put) in
        let q = whole takes ds ns (map bare_filled given) (begin qs (bare_put put)) in
        let both = whole_alike takes given (begin ps put) (begin qs (bare_put put)) (begin_alike ps qs put h) in
        ap (λ t. instance_of 0 name ds ns qs t (map bare_filled given) (bare_put put)) e ∙ made_of line o.met q.met o.comes q.comes both.met both.comes_to;
  }

  body_found : FindsAlike (body_finds line name cs ms) (body_finds 0 name ds ns)
  body_found own hidden =
      found_then (each (λ (d : Declaration Node). given_finds d.given own) cs hidden) (each (λ (d : Declaration Node). given_finds d.given own) ds hidden) (each (λ (s : Stated). s.1.finds own) ms) (each (λ (s : Stated). s.1.finds own) ns)
      (each_found DefaultAlike (λ (d : Declaration Node). given_finds d.given own) (λ (d : Declaration Node). given_finds d.given own) (λ c d k b. given_found c.given d.given k.given own b) cs ds interface hidden)
      (λ b. each_found StatedAlike (λ (s : Stated). s.1.finds own) (λ (s : Stated). s.1.finds own) (λ m n k b. k.finds own b) ms ns body b)

  body_saw : SeesAlike (body_sees line name cs ms) (body_sees 0 name ds ns)
  body_saw s t k =
      sees_then (aside (each (λ (d : Declaration Node). given_sees d.given) cs) s) (aside (each (λ (d : Declaration Node). given_sees d.given) ds) t) (each (λ (s : Stated). s.1.sees) ms) (each (λ (s : Stated). s.1.sees) ns)
      (aside_alike (each (λ (d : Declaration Node). given_sees d.given) cs) (each (λ (d : Declaration Node). given_sees d.given) ds)
      (each_alike DefaultAlike (λ (d : Declaration Node). given_sees d.given) (λ (d : Declaration Node). given_sees d.given) (λ c d i. given_saw c.given d.given i.given) cs ds interface) s t k)
      (each_alike StatedAlike (λ (s : Stated). s.1.sees) (λ (s : Stated). s.1.sees) (λ m n i. i.sees) ms ns body)

  around : (s t : Sight) → SightAlike s t → PrototypesAlike (s.here ++ s.outside) (t.here ++ t.outside)
  around s t k = both_append PrototypeAlike s.here s.outside t.here t.outside k.here k.outside

  with_new : (s t : Sight) → SightAlike s t → (r q : Seen) → SeenAlike r q
      → SeenAlike (and_see r (λ u. Ok (record s { here = s.here ++ prototype line name cs ms (s.here ++ s.outside) u.taken ∷ [] }))) (and_see q (λ u. Ok (record t { here = t.here ++ prototype 0 name ds ns (t.here ++ t.outside) u.taken ∷ [] })))
  with_new s t k (Ok x) (Ok y) h =
      record {
        here = both_append PrototypeAlike s.here (prototype line name cs ms (s.here ++ s.outside) x.taken ∷ []) t.here (prototype 0 name ds ns (t.here ++ t.outside) y.taken ∷ []) k.here
            (prototype_alike (s.here ++ s.outside) (t.here ++ t.outside) x.taken y.taken (around s t k) h.taken, tt);
        outside = k.outside;
        taken = k.taken;
      }
  with_new s t k (Err x) (Err y) h = h
  with_new s t k (Ok x) (Err y) h = absurd h
  with_new s t k (Err x) (Ok y) h = absurd h

  body_declared : (r : Result Bool ℕ) → SeesAlike (declare_body line name cs ms r) (declare_body 0 name ds ns (bare_found r))
  body_declared (Err itself) s t k = refl
  body_declared (Ok hidden) s t k =
      subst (λ b. SeenAlike (declare_body line name cs ms (Ok hidden) s) (if b then and_see (body_sees 0 name ds ns (record { here = []; outside = t.here ++ t.outside; taken = no_names })) (λ u. Ok (record t { here = t.here ++ prototype 0 name ds ns (t.here ++ t.outside) u.taken ∷ [] })) else Err (fault EmptyBody 0)))
      (sym (kinds_same ms ns body))
      (seen_if (list_any (λ (x : Stated). x.0) ms) _ (Err (fault EmptyBody line)) _ (Err (fault EmptyBody 0))
      (with_new s t k (body_sees line name cs ms (record { here = []; outside = s.here ++ s.outside; taken = no_names })) (body_sees 0 name ds ns (record { here = []; outside = t.here ++ t.outside; taken = no_names }))
      (body_saw (record { here = []; outside = s.here ++ s.outside; taken = no_names }) (record { here = []; outside = t.here ++ t.outside; taken = no_names }) (record { here = tt; outside = around s t k; taken = refl }))) refl)

  pub declare_alike : SeesAlike (declare line name cs ms) (declare 0 name ds ns)
  declare_alike s t k =
      subst (λ b. SeenAlike (declare line name cs ms s) (if is_some (node_type_named name) || b then Err (fault ProtoTwice 0) else declare_body 0 name ds ns (body_finds 0 name ds ns name false) t))
      (sym (some_found (declared name s.here) (declared name t.here) (declared_alike name s.here t.here k.here)))
      (seen_if (is_some (node_type_named name) || is_some (declared name s.here)) (Err (fault ProtoTwice line)) _ (Err (fault ProtoTwice 0)) _ refl
      (subst (λ r. SeenAlike (declare_body line name cs ms (body_finds line name cs ms name false) s) (declare_body 0 name ds ns r t)) (sym (body_found name false)) (body_declared (body_finds line name cs ms name false) s t k)))

  pub proto_alike : ProtoAlike (proto_of line name cs ms) (proto_of 0 name ds ns)
  unfolding proto_step
  proto_alike = record {
    finds = λ own hidden. found_then (body_finds line name cs ms own hidden) (body_finds 0 name ds ns own hidden) (λ _. Ok (bytes_eq name own || hidden)) (λ _. Ok (bytes_eq name own || hidden)) (body_found own hidden) (λ b. refl);
    sees = declare_alike;
    does = see_alike (declare line name cs ms) (declare 0 name ds ns) declare_alike;
  }
