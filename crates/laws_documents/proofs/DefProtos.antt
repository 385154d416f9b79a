-- Prototypes whose bodies have other DEF names.
use Rattle.std.proofs.Common.{◌≡◌, ℕ, Bool, true, false, if◌then◌else◌, List, [], ◌∷◌, ◌++◌, Option, Some, None, Result, Ok, Err, map, bytes_eq, refl, ap, sym, ◌∙◌, subst}
use Rattle.std.specs.Prelude.{◌&&◌, ◌||◌, is_none, is_some}
use Rattle.std.specs.List.{list_any}
use Rattle.std.proofs.Math.Path.{fun_ext}
use Rattle.x3d_values.specs.Names.{node_type_named}
use Rattle.classic_tree.specs.declared.tree.Declaration.{Declaration}
use Rattle.classic_tree.specs.declared.tree.Given.{Given}
use Rattle.classic_tree.specs.declared.tree.Given.TheVariants as given
use Rattle.classic_tree.specs.declared.tree.RawValue.{RawValue}
use Rattle.proto_flat.specs.Fault.{fault}
use Rattle.proto_flat.specs.declared.fault.ExpandFault.{ExpandFault}
use Rattle.proto_flat.specs.declared.fault.ExpandFaultKind.TheVariants.{EmptyBody, ProtoTwice}
use Rattle.proto_meaning.specs.Limits.{Met, behind, follow}
use Rattle.proto_meaning.specs.Names.{Name, Filled, value_of}
use Rattle.proto_meaning.specs.Sight.{Put, Prototype, Sight, Names, and_see, aside, declared, each, no_names}
use Rattle.proto_meaning.specs.Flat.{Walk, Does, ◌>>=◌, Node, Stated, begin, body_finds, body_sees, declare, declare_body, default, field, given_finds, given_sees, in_body, leave_out, made, note, proto_step, prototype, pure, put_default, put_in, through}
use Rattle.proto_meaning.proofs.Trees.{proto_of}
use Rattle.laws_documents.proofs.LineWalks.{Both, Equal, both_append}
use Rattle.laws_documents.proofs.DefWalks.{Apart, ComesAlike, DoesAlike, OutcomeAlike, PrototypeAlike, PrototypesAlike, PutAlike, Seen, SeenAlike, SeesAlike, SightAlike, WalkAlike, aside_alike, each_alike, if_alike, pure_alike, see_alike, sees_then, then_alike, through_alike}
use Rattle.laws_documents.proofs.DefParts.{FindsAlike, GivenAlike, ProtoAlike, StatedAlike, each_found, found_then, given_found, given_saw, left_out}
use Rattle.laws_documents.proofs.DefNodes.{FoundAlike, declared_alike}

pub begin_alike : (r : Name → Name) (ps qs : List Prototype) (put other : Put) → PrototypesAlike ps qs → PutAlike put other → WalkAlike r (begin ps put) (begin qs other)
begin_alike r ps qs put other h k = record {
  put = k;
  sight = record { here = tt; outside = h; taken = refl };
  scope = record { braces = refl; routes = λ all. refl; ends = λ all name. refl; interface = refl; given = refl };
}

some_found : (o x : Option Prototype) → FoundAlike o x → is_some x ≡ is_some o
some_found None None h = refl
some_found (Some p) (Some q) h = refl
some_found None (Some q) h = absurd h
some_found (Some p) None h = absurd h

seen_if : (b : Bool) (x y u v : Seen) → SeenAlike x u → SeenAlike y v → SeenAlike (if b then x else y) (if b then u else v)
seen_if true x y u v h k = h
seen_if false x y u v h k = k

-- ---- in the scope of a body

pub record DefaultAlike (r : Name → Name) (c d : Declaration Node) : Type 0 where
  pub same : d ≡ record c { given = d.given }
  pub given : GivenAlike r c.given d.given

module _ (r : Name → Name) (good : Apart r) where
  -- ---- defaults

  abbrev FilledAlike : List Filled → List Filled → Type 0
  FilledAlike fs gs = gs ≡ fs

  module _ (c : Declaration Node) (x : Given Node) (fs gs : List Filled) (e : gs ≡ fs) where
    abbrev filled_with : List Filled → RawValue ℕ → List Filled
    filled_with all v = all ++ record { line = c.line; name = c.name; number = 0; value = Some v } ∷ []

    put_alike : (g h : Given Node) → GivenAlike r g h → DoesAlike r FilledAlike (put_default c fs g) (put_default (record c { given = x }) gs h)
    put_alike given.Nothing given.Nothing k = pure_alike r FilledAlike fs gs e
    put_alike given.Nothing (given.Is b) k = absurd k.kind
    put_alike given.Nothing (given.Value v) k = absurd k.kind
    put_alike (given.Is a) given.Nothing k = absurd k.kind
    put_alike (given.Is a) (given.Is b) k = pure_alike r FilledAlike fs gs e
    put_alike (given.Is a) (given.Value v) k = absurd k.kind
    put_alike (given.Value u) given.Nothing k = absurd k.kind
    put_alike (given.Value u) (given.Is b) k = absurd k.kind
    put_alike (given.Value u) (given.Value v) k =
        then_alike r Equal FilledAlike (put_in u) (put_in v) (λ y. pure (filled_with fs y)) (λ y. pure (filled_with gs y)) k.kind.1
        (λ a b i. pure_alike r FilledAlike (filled_with fs a) (filled_with gs b) (ap (λ all. filled_with all b) e ∙ ap (filled_with fs) i))

  default_alike : (takes : Names) (c d : Declaration Node) → DefaultAlike r c d → (fs gs : List Filled) → gs ≡ fs → DoesAlike r FilledAlike (default takes c fs) (default takes d gs)
  default_alike takes c d h fs gs e =
      let x : Declaration Node = record c { given = d.given } in
      subst (λ (y : Declaration Node). DoesAlike r FilledAlike (default takes c fs) (default takes y gs)) (sym h.same)
      (subst (λ o. DoesAlike r FilledAlike (default takes c fs) (if takes c.name && is_none o then put_default x gs d.given else leave_out d.given >>= λ _. pure gs)) (sym (ap (value_of c.name) e))
      (if_alike r FilledAlike (takes c.name && is_none (value_of c.name fs)) (put_default c fs c.given) (leave_out c.given >>= λ _. pure fs) (put_default x gs d.given) (leave_out d.given >>= λ _. pure gs)
      (put_alike c d.given fs gs e c.given d.given h.given)
      (then_alike r Equal FilledAlike (leave_out c.given) (leave_out d.given) (λ _. pure fs) (λ _. pure gs) (left_out r c.given d.given h.given) (λ _ _ _. pure_alike r FilledAlike fs gs e))))

  fields_same : (cs ds : List (Declaration Node)) → Both (DefaultAlike r) cs ds → map field ds ≡ map field cs
  fields_same [] [] h = refl
  fields_same [] (d ∷ ds) h = absurd h
  fields_same (c ∷ cs) [] h = absurd h
  fields_same (c ∷ cs) (d ∷ ds) h = ap (λ (x : Declaration Node). field x ∷ map field ds) h.0.same ∙ ap (λ fs. field c ∷ fs) (fields_same cs ds h.1)

  -- ---- bodies

  helped : (first : List ℕ) → List ℕ → Does (List ℕ)
  helped first ns w = record { met = []; comes = Ok (first, record w { put = record w.put { helpers = w.put.helpers ++ ns } }) }

  helped_alike : (first ns ms : List ℕ) → ms ≡ ns → DoesAlike r (Equal {A = List ℕ}) (helped first ns) (helped first ms)
  unfolding helped
  helped_alike first ns ms f w v k = record {
    met = refl;
    comes_to = (
      refl,
      record {
        put = record { nodes = k.put.nodes; helpers = ap (λ xs. xs ++ ms) k.put.helpers ∙ ap (λ xs. w.put.helpers ++ xs) f };
        sight = k.sight;
        scope = k.scope;
      },
    );
  }

  body_by : (m n : Stated) → StatedAlike r m n → (ks : List ℕ) → DoesAlike r (Equal {A = List ℕ}) (in_body m ks) (in_body n ks)
  unfolding helped
  body_by m n h [] = h.does
  body_by m n h (k ∷ ks) = then_alike r Equal Equal m.1.does n.1.does (helped (k ∷ ks)) (helped (k ∷ ks)) h.does (λ a b e. helped_alike (k ∷ ks) a b e)

  in_body_alike : (m n : Stated) → StatedAlike r m n → (ks ls : List ℕ) → ls ≡ ks → DoesAlike r (Equal {A = List ℕ}) (in_body m ks) (in_body n ls)
  in_body_alike m n h ks ls e = subst (λ xs. DoesAlike r Equal (in_body m ks) (in_body n xs)) (sym e) (body_by m n h ks)

  -- ---- what an instance is

  made_same : (line : ℕ) (m n : List Met) → n ≡ m → (ns : List ℕ) (w v : Walk) → WalkAlike r w v → OutcomeAlike (behind m (made line ns w)) (behind n (made line ns v))
  made_same line m n e [] w v k = record { met = ap (λ x. x ++ []) e; comes_to = refl }
  made_same line m n e (i ∷ is) w v k = record {
    met = ap (λ x. x ++ []) e;
    comes_to = record {
      node = refl;
      ends = ap (λ bs. v.scope.ends bs) k.scope.braces ∙ fun_ext (λ name. k.scope.ends w.scope.braces name);
      routes = ap (λ bs. v.scope.routes bs) k.scope.braces ∙ k.scope.routes w.scope.braces;
      put = k.put;
    };
  }

  made_of : (line : ℕ) (m n : List Met) (c d : Result (List ℕ × Walk) ExpandFault) → n ≡ m → ComesAlike r (Equal {A = List ℕ}) c d → OutcomeAlike (follow m c (λ p. made line p.0 p.1)) (follow n d (λ p. made line p.0 p.1))
  made_of line m n (Ok p) (Ok q) e h = subst (λ ns. OutcomeAlike (behind m (made line p.0 p.1)) (behind n (made line ns q.1))) (sym h.0) (made_same line m n e p.0 p.1 q.1 h.1)
  made_of line m n (Err x) (Err y) e h = record { met = e; comes_to = h }
  made_of line m n (Ok p) (Err y) e h = absurd h
  made_of line m n (Err x) (Ok q) e h = absurd h

  kinds_same : (ms ns : List Stated) → Both (StatedAlike r) ms ns → list_any (λ (x : Stated). x.0) ns ≡ list_any (λ (x : Stated). x.0) ms
  kinds_same [] [] h = refl
  kinds_same [] (n ∷ ns) h = absurd h
  kinds_same (m ∷ ms) [] h = absurd h
  kinds_same (m ∷ ms) (n ∷ ns) h = ap (λ b. b || list_any (λ (x : Stated). x.0) ns) h.0.kind ∙ ap (λ b. m.0 || b) (kinds_same ms ns h.1)

  -- ---- a prototype

  module _ (line : ℕ) (name : Name) (cs ds : List (Declaration Node)) (ms ns : List Stated) (interface : Both (DefaultAlike r) cs ds) (body : Both (StatedAlike r) ms ns) where
    abbrev whole : Names → List (Declaration Node) → List Stated → List Filled → Does (List ℕ)
    whole takes xs ys given = through (default takes) xs given >>= λ all. note (tt {0}) (λ s. record s { interface = map field xs; given = all }) >>= λ _. through in_body ys []

    whole_alike : (takes : Names) (given : List Filled) → DoesAlike r (Equal {A = List ℕ}) (whole takes cs ms given) (whole takes ds ns given)
    whole_alike takes given =
        then_alike r FilledAlike Equal (through (default takes) cs given) (through (default takes) ds given)
        (λ all. note (tt {0}) (λ s. record s { interface = map field cs; given = all }) >>= λ _. through in_body ms []) (λ all. note (tt {0}) (λ s. record s { interface = map field ds; given = all }) >>= λ _. through in_body ns [])
        (through_alike r (DefaultAlike r) FilledAlike (default takes) (default takes) (default_alike takes) cs ds interface given given refl)
        (λ a b e. then_alike r Equal Equal (note (tt {0}) (λ s. record s { interface = map field cs; given = a })) (note (tt {0}) (λ s. record s { interface = map field ds; given = b })) (λ _. through in_body ms []) (λ _. through in_body ns [])
        (λ w v k. record {
          met = refl;
          comes_to = (
            refl,
            record {
              put = k.put;
              sight = k.sight;
              scope = record { braces = k.scope.braces; routes = k.scope.routes; ends = k.scope.ends; interface = fields_same cs ds interface; given = e };
            },
          );
        })
        (λ _ _ _. through_alike r (StatedAlike r) Equal in_body in_body in_body_alike ms ns body [] [] refl))

    prototype_alike : (ps qs : List Prototype) (takes : Names) → PrototypesAlike ps qs → PrototypeAlike (prototype line name cs ms ps takes) (prototype line name ds ns qs takes)
    prototype_alike ps qs takes h = record {
      name = refl;
      interface = fields_same cs ds interface;
      takes = refl;
      instance = λ given put other k.
          let o = whole takes cs ms given (begin ps put) in
          let q = whole takes ds ns given (begin qs other) in
          let both = whole_alike takes given (begin ps put) (begin qs other) (begin_alike r ps qs put other h k) in
          made_of line o.met q.met o.comes q.comes both.met both.comes_to;
    }

    body_found : FindsAlike (body_finds line name cs ms) (body_finds line name ds ns)
    body_found own hidden =
        found_then (each (λ (d : Declaration Node). given_finds d.given own) cs hidden) (each (λ (d : Declaration Node). given_finds d.given own) ds hidden) (each (λ (s : Stated). s.1.finds own) ms) (each (λ (s : Stated). s.1.finds own) ns)
        (each_found (DefaultAlike r) (λ (d : Declaration Node). given_finds d.given own) (λ (d : Declaration Node). given_finds d.given own) (λ c d k b. given_found r c.given d.given k.given own b) cs ds interface hidden)
        (λ b. each_found (StatedAlike r) (λ (s : Stated). s.1.finds own) (λ (s : Stated). s.1.finds own) (λ m n k b. k.finds own b) ms ns body b)

    body_saw : SeesAlike (body_sees line name cs ms) (body_sees line name ds ns)
    body_saw s t k =
        sees_then (aside (each (λ (d : Declaration Node). given_sees d.given) cs) s) (aside (each (λ (d : Declaration Node). given_sees d.given) ds) t) (each (λ (s : Stated). s.1.sees) ms) (each (λ (s : Stated). s.1.sees) ns)
        (aside_alike (each (λ (d : Declaration Node). given_sees d.given) cs) (each (λ (d : Declaration Node). given_sees d.given) ds)
        (each_alike (DefaultAlike r) (λ (d : Declaration Node). given_sees d.given) (λ (d : Declaration Node). given_sees d.given) (λ c d i. given_saw r c.given d.given i.given) cs ds interface) s t k)
        (each_alike (StatedAlike r) (λ (s : Stated). s.1.sees) (λ (s : Stated). s.1.sees) (λ m n i. i.sees) ms ns body)

    around : (s t : Sight) → SightAlike s t → PrototypesAlike (s.here ++ s.outside) (t.here ++ t.outside)
    around s t k = both_append PrototypeAlike s.here s.outside t.here t.outside k.here k.outside

    new_alike : (s t : Sight) → SightAlike s t → (taken names : Names) → names ≡ taken → PrototypeAlike (prototype line name cs ms (s.here ++ s.outside) taken) (prototype line name ds ns (t.here ++ t.outside) names)
    new_alike s t k taken names e =
        subst (λ (x : Names). PrototypeAlike (prototype line name cs ms (s.here ++ s.outside) taken) (prototype line name ds ns (t.here ++ t.outside) x)) (sym e)
        (prototype_alike (s.here ++ s.outside) (t.here ++ t.outside) taken (around s t k))

    with_new : (s t : Sight) → SightAlike s t → (x y : Seen) → SeenAlike x y
        → SeenAlike (and_see x (λ u. Ok (record s { here = s.here ++ prototype line name cs ms (s.here ++ s.outside) u.taken ∷ [] }))) (and_see y (λ u. Ok (record t { here = t.here ++ prototype line name ds ns (t.here ++ t.outside) u.taken ∷ [] })))
    with_new s t k (Ok x) (Ok y) h =
        record {
          here = both_append PrototypeAlike s.here (prototype line name cs ms (s.here ++ s.outside) x.taken ∷ []) t.here (prototype line name ds ns (t.here ++ t.outside) y.taken ∷ []) k.here
              (new_alike s t k x.taken y.taken h.taken, tt);
          outside = k.outside;
          taken = k.taken;
        }
    with_new s t k (Err x) (Err y) h = h
    with_new s t k (Ok x) (Err y) h = absurd h
    with_new s t k (Err x) (Ok y) h = absurd h

    body_declared : (x : Result Bool ℕ) → SeesAlike (declare_body line name cs ms x) (declare_body line name ds ns x)
    body_declared (Err itself) s t k = refl
    body_declared (Ok hidden) s t k =
        subst (λ b. SeenAlike (declare_body line name cs ms (Ok hidden) s) (if b then and_see (body_sees line name ds ns (record { here = []; outside = t.here ++ t.outside; taken = no_names })) (λ u. Ok (record t { here = t.here ++ prototype line name ds ns (t.here ++ t.outside) u.taken ∷ [] })) else Err (fault EmptyBody line)))
        (sym (kinds_same ms ns body))
        (seen_if (list_any (λ (x : Stated). x.0) ms) _ (Err (fault EmptyBody line)) _ (Err (fault EmptyBody line))
        (with_new s t k (body_sees line name cs ms (record { here = []; outside = s.here ++ s.outside; taken = no_names })) (body_sees line name ds ns (record { here = []; outside = t.here ++ t.outside; taken = no_names }))
        (body_saw (record { here = []; outside = s.here ++ s.outside; taken = no_names }) (record { here = []; outside = t.here ++ t.outside; taken = no_names }) (record { here = tt; outside = around s t k; taken = refl }))) refl)

    pub declare_alike : SeesAlike (declare line name cs ms) (declare line name ds ns)
    declare_alike s t k =
        subst (λ b. SeenAlike (declare line name cs ms s) (if is_some (node_type_named name) || b then Err (fault ProtoTwice line) else declare_body line name ds ns (body_finds line name ds ns name false) t))
        (sym (some_found (declared name s.here) (declared name t.here) (declared_alike name s.here t.here k.here)))
        (seen_if (is_some (node_type_named name) || is_some (declared name s.here)) (Err (fault ProtoTwice line)) _ (Err (fault ProtoTwice line)) _ refl
        (subst (λ x. SeenAlike (declare_body line name cs ms (body_finds line name cs ms name false) s) (declare_body line name ds ns x t)) (sym (body_found name false)) (body_declared (body_finds line name cs ms name false) s t k)))

    -- wherever the PROTO is
    pub proto_alike : (around_it : Name → Name) → ProtoAlike around_it (proto_of line name cs ms) (proto_of line name ds ns)
    unfolding proto_step
    proto_alike around_it = record {
      finds = λ own hidden. found_then (body_finds line name cs ms own hidden) (body_finds line name ds ns own hidden) (λ _. Ok (bytes_eq name own || hidden)) (λ _. Ok (bytes_eq name own || hidden)) (body_found own hidden) (λ b. refl);
      sees = declare_alike;
      does = see_alike around_it (declare line name cs ms) (declare line name ds ns) declare_alike;
    }
