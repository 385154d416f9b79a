-- Prototypes are sized: their bodies do alike from walks that differ in numbers alone.
use Rattle.std.proofs.Common.{◌≡◌, ℕ, Bool, true, false, if◌then◌else◌, List, [], ◌∷◌, ◌++◌, length, Some, Result, Ok, Err, map, suc, refl, ap, sym, ◌∙◌, subst, arith}
use Rattle.std.specs.Prelude.{◌&&◌, ◌||◌, is_none, is_some}
use Rattle.std.specs.List.{AllByRecursion, list_any}
use Rattle.x3d_values.specs.Names.{node_type_named}
use Rattle.classic_tree.specs.declared.tree.BodyItem.TheOpen.{ProtoText-F}
use Rattle.classic_tree.specs.declared.tree.Declaration.{Declaration}
use Rattle.classic_tree.specs.declared.tree.Given.{Given}
use Rattle.classic_tree.specs.declared.tree.Given.TheVariants as given
use Rattle.classic_tree.specs.declared.tree.RawValue.{RawValue}
use Rattle.proto_flat.specs.Fault.{fault}
use Rattle.proto_flat.specs.declared.fault.ExpandFault.{ExpandFault}
use Rattle.proto_flat.specs.declared.fault.ExpandFaultKind.TheVariants.{EmptyBody, ProtoTwice}
use Rattle.proto_meaning.specs.Limits.{Met, follow}
use Rattle.proto_meaning.specs.Names.{Name, Filled, Scope, value_of}
use Rattle.proto_meaning.specs.Sight.{Put, Prototype, Sight, Names, and_see, declared, no_names}
use Rattle.proto_meaning.specs.Flat.{Walk, Does, ◌>>=◌, Item, Node, Stated, Proto, begin, body_finds, body_sees, declare, declare_body, default, field, in_body, leave_out, made, note, proto_step, prototype, pure, put_default, put_in, through}
use Rattle.proto_meaning.specs.Sizes.{Alike, AreSized, ComeAlike, EachSized, IsSized}
use Rattle.proto_meaning.proofs.SizeWalks.{Any, AsLarge, AsMany, DoAlike, GoesAlike, LastSized, SameSizes, SeenSized, SeesSized, each_of_both, if_alike, none_sized, one_sized, pure_alike, see_alike, then_alike, through_alike}
use Rattle.proto_meaning.proofs.SizeParts.{GivenSized, ProtoSized, StatedSized, left_out, none_same, size_same, sizes_more, value_alike}

-- ---- defaults

abbrev pub filled_with : Declaration Node → List Filled → RawValue ℕ → List Filled
filled_with d all v = all ++ record { line = d.line; name = d.name; number = 0; value = Some v } ∷ []

pub put_alike : (d : Declaration Node) (fs gs : List Filled) → SameSizes fs gs → (g : Given Node) → GivenSized g → DoAlike SameSizes (put_default d fs g) (put_default d gs g)
put_alike d fs gs e given.Nothing h = pure_alike SameSizes fs gs e
put_alike d fs gs e (given.Is name) h = pure_alike SameSizes fs gs e
put_alike d fs gs e (given.Value v) h =
    then_alike AsLarge SameSizes (put_in v) (put_in v) (λ r. pure (filled_with d fs r)) (λ r. pure (filled_with d gs r)) (value_alike v h)
    (λ a b i. pure_alike SameSizes (filled_with d fs a) (filled_with d gs b)
    (sizes_more fs gs (record { line = d.line; name = d.name; number = 0; value = Some a }) (record { line = d.line; name = d.name; number = 0; value = Some b }) e (ap (λ (n : ℕ). (d.name, Some n)) i)))

default_alike : (takes : Names) (d : Declaration Node) → GivenSized d.given → (fs gs : List Filled) → SameSizes fs gs → DoAlike SameSizes (default takes d fs) (default takes d gs)
default_alike takes d h fs gs e =
    subst (λ b. DoAlike SameSizes (default takes d fs) (if takes d.name && b then put_default d gs d.given else leave_out d.given >>= λ _. pure gs)) (sym (none_same (value_of d.name fs) (value_of d.name gs) (size_same d.name fs gs e)))
    (if_alike SameSizes (takes d.name && is_none (value_of d.name fs)) (put_default d fs d.given) (leave_out d.given >>= λ _. pure fs) (put_default d gs d.given) (leave_out d.given >>= λ _. pure gs)
    (put_alike d fs gs e d.given h)
    (then_alike Any SameSizes (leave_out d.given) (leave_out d.given) (λ _. pure fs) (λ _. pure gs) (left_out d.given h) (λ _ _ _. pure_alike SameSizes fs gs e)))

abbrev pub DeclarationSized : Declaration Node → Type 0
DeclarationSized d = GivenSized d.given

all_defaults : (takes : Names) (ds : List (Declaration Node)) → AllByRecursion DeclarationSized ds → AllByRecursion (λ (d : Declaration Node). (fs gs : List Filled) → SameSizes fs gs → DoAlike SameSizes (default takes d fs) (default takes d gs)) ds
all_defaults takes [] h = tt
all_defaults takes (d ∷ ds) h = (default_alike takes d h.0, all_defaults takes ds h.1)

-- ---- bodies

helped : List ℕ → List ℕ → Does (List ℕ)
helped first ns w = record { met = []; comes = Ok (first, record w { put = record w.put { helpers = w.put.helpers ++ ns } }) }

helped_alike : (first other ns ms : List ℕ) → AsMany first other → DoAlike AsMany (helped first ns) (helped other ms)
unfolding helped
helped_alike first other ns ms e w v k = record { met = refl; goes = (e, record { sight = k.sight; sized = k.sized; braces = k.braces; interface = k.interface; given = k.given }) }

abbrev IsEmpty : {A : Type 0} → List A → Type 0
IsEmpty [] = Unit {0}
IsEmpty (a ∷ as') = ⊥

empty_as_many : (ks : List ℕ) → AsMany [] ks → IsEmpty ks
empty_as_many [] e = tt
empty_as_many (k ∷ ks) e = absurd (by_zero (length ks) e) where
  by_zero : (n : ℕ) → suc n ≡ 0 → ⊥
  by_zero n e = omega (arith, e)

pub in_body_alike : (s : Stated) → StatedSized s → (ks ls : List ℕ) → AsMany ks ls → DoAlike AsMany (in_body s ks) (in_body s ls)
unfolding helped
in_body_alike s h [] [] e = h.does
in_body_alike s h [] (l ∷ ls) e = absurd (empty_as_many (l ∷ ls) e)
in_body_alike s h (k ∷ ks) [] e = absurd (empty_as_many (k ∷ ks) (sym e))
in_body_alike s h (k ∷ ks) (l ∷ ls) e = then_alike AsMany AsMany s.1.does s.1.does (helped (k ∷ ks)) (helped (l ∷ ls)) h.does (λ a b i. helped_alike (k ∷ ks) (l ∷ ls) a b e)

all_in_body : (ss : List Stated) → AllByRecursion StatedSized ss → AllByRecursion (λ (s : Stated). (ks ls : List ℕ) → AsMany ks ls → DoAlike AsMany (in_body s ks) (in_body s ls)) ss
all_in_body [] h = tt
all_in_body (s ∷ ss) h = (in_body_alike s h.0, all_in_body ss h.1)

pub begin_alike : (ps : List Prototype) (put other : Put) → EachSized ps → Alike (begin ps put) (begin ps other)
begin_alike ps put other h = record { sight = refl; sized = record { here = none_sized; outside = h }; braces = refl; interface = refl; given = refl }

made_by : (line : ℕ) (ks ls : List ℕ) (w v : Walk) → AsMany ks ls → ComeAlike (made line ks w) (made line ls v)
made_by line [] [] w v e = record { met = refl; ends = refl }
made_by line (k ∷ ks) (l ∷ ls) w v e = record { met = refl; ends = tt }
made_by line [] (l ∷ ls) w v e = absurd (empty_as_many (l ∷ ls) e)
made_by line (k ∷ ks) [] w v e = absurd (empty_as_many (k ∷ ks) (sym e))

made_of : (line : ℕ) (m n : List Met) (c d : Result (List ℕ × Walk) ExpandFault) → n ≡ m → GoesAlike AsMany c d → ComeAlike (follow m c (λ p. made line p.0 p.1)) (follow n d (λ p. made line p.0 p.1))
made_of line m n (Ok p) (Ok q) e h =
    let c = made_by line p.0 q.0 p.1 q.1 h.0 in
    record { met = ap (λ x. x ++ (made line q.0 q.1).met) e ∙ ap (λ x. m ++ x) c.met; ends = c.ends }
made_of line m n (Err x) (Err y) e h = record { met = e; ends = h }
made_of line m n (Ok p) (Err y) e h = absurd h
made_of line m n (Err x) (Ok q) e h = absurd h

-- ---- prototypes

abbrev last_or : Prototype → List Prototype → Prototype
last_or p [] = p
last_or p (q ∷ qs) = last_or q qs

last_of : (p : Prototype) (qs : List Prototype) (q : Prototype) → last_or p (qs ++ q ∷ []) ≡ q
last_of p [] q = refl
last_of p (r ∷ qs) q = last_of r qs q

same_last : (ps : List Prototype) (p q : Prototype) → ps ++ p ∷ [] ≡ ps ++ q ∷ [] → p ≡ q
same_last ps p q e = sym (last_of p ps p) ∙ ap (last_or p) e ∙ last_of p ps q

module _ (line : ℕ) (name : Name) (interface : List (Declaration Node)) (body : List Stated) (ds : AllByRecursion DeclarationSized interface) (ss : AllByRecursion StatedSized body) where
  abbrev found : List Filled → Scope → Scope
  found all s = record s { interface = map field interface; given = all }

  abbrev all_does : Names → List Filled → Does (List ℕ)
  all_does takes given = through (default takes) interface given >>= λ all. note (tt {0}) (found all) >>= λ _. through in_body body []

  found_alike : (fs gs : List Filled) → SameSizes fs gs → DoAlike (Any {A = Unit {0}}) (note (tt {0}) (found fs)) (note (tt {0}) (found gs))
  found_alike fs gs e w v k = record { met = refl; goes = (tt, record { sight = k.sight; sized = k.sized; braces = k.braces; interface = refl; given = e }) }

  all_alike : (takes : Names) (fs gs : List Filled) → SameSizes fs gs → DoAlike AsMany (all_does takes fs) (all_does takes gs)
  all_alike takes fs gs e =
      then_alike SameSizes AsMany (through (default takes) interface fs) (through (default takes) interface gs) (λ all. note (tt {0}) (found all) >>= λ _. through in_body body []) (λ all. note (tt {0}) (found all) >>= λ _. through in_body body [])
      (through_alike SameSizes (default takes) interface (all_defaults takes interface ds) fs gs e)
      (λ a b i. then_alike Any AsMany (note (tt {0}) (found a)) (note (tt {0}) (found b)) (λ _. through in_body body []) (λ _. through in_body body []) (found_alike a b i)
      (λ _ _ _. through_alike AsMany in_body body (all_in_body body ss) [] [] refl))

  prototype_sized : (outside : List Prototype) (takes : Names) → EachSized outside → IsSized (prototype line name interface body outside takes)
  prototype_sized outside takes h fs gs before behind e =
      let g = all_alike takes fs gs e (begin outside before) (begin outside behind) (begin_alike outside before behind h) in
      made_of line (all_does takes fs (begin outside before)).met (all_does takes gs (begin outside behind)).met (all_does takes fs (begin outside before)).comes (all_does takes gs (begin outside behind)).comes g.met g.goes

  abbrev declared_here : Sight → Names → Prototype
  declared_here s taken = prototype line name interface body (s.here ++ s.outside) taken

  here_sized : (s : Sight) (taken : Names) → AreSized s → IsSized (declared_here s taken)
  here_sized s taken h = prototype_sized (s.here ++ s.outside) taken (each_of_both s.here s.outside h.here h.outside)

  last_prototype : (s : Sight) → AreSized s → (r : Result Sight ExpandFault) → LastSized s (and_see r (λ t. Ok (record s { here = s.here ++ declared_here s t.taken ∷ [] })))
  last_prototype s h (Ok t) = λ p e. subst IsSized (same_last s.here (declared_here s t.taken) p e) (here_sized s t.taken h)
  last_prototype s h (Err x) = tt

  with_prototype : (s : Sight) → AreSized s → (r : Result Sight ExpandFault) → SeenSized (and_see r (λ t. Ok (record s { here = s.here ++ prototype line name interface body (s.here ++ s.outside) t.taken ∷ [] })))
  with_prototype s h (Ok t) = record {
    here = each_of_both s.here (prototype line name interface body (s.here ++ s.outside) t.taken ∷ []) h.here
        (one_sized (declared_here s t.taken) (here_sized s t.taken h));
    outside = h.outside;
  }
  with_prototype s h (Err e) = tt

  seen_if : (b : Bool) (r q : Result Sight ExpandFault) → SeenSized r → SeenSized q → SeenSized (if b then r else q)
  seen_if true r q h k = h
  seen_if false r q h k = k

  last_if : (s : Sight) (b : Bool) (r q : Result Sight ExpandFault) → LastSized s r → LastSized s q → LastSized s (if b then r else q)
  last_if s true r q h k = h
  last_if s false r q h k = k

  abbrev behind_body : Sight → Result Sight ExpandFault
  behind_body s = body_sees line name interface body (record { here = []; outside = s.here ++ s.outside; taken = no_names })

  last_declared : (found : Result Bool ℕ) (s : Sight) → AreSized s → LastSized s (declare_body line name interface body found s)
  last_declared (Err itself) s h = tt
  last_declared (Ok hidden) s h = last_if s (list_any (λ (x : Stated). x.0) body) _ (Err (fault EmptyBody line)) (last_prototype s h (behind_body s)) tt

  declare_last : (s : Sight) → AreSized s → LastSized s (declare line name interface body s)
  declare_last s h =
      last_if s (is_some (node_type_named name) || is_some (declared name s.here)) (Err (fault ProtoTwice line)) _ tt
      (last_declared (body_finds line name interface body name false) s h)

  body_declared : (found : Result Bool ℕ) (s : Sight) → AreSized s → SeenSized (declare_body line name interface body found s)
  body_declared (Err itself) s h = tt
  body_declared (Ok hidden) s h =
      seen_if (list_any (λ (x : Stated). x.0) body) _ (Err (fault EmptyBody line))
      (with_prototype s h (behind_body s)) tt

  declare_sized : SeesSized (declare line name interface body)
  declare_sized s h =
      seen_if (is_some (node_type_named name) || is_some (declared name s.here)) (Err (fault ProtoTwice line)) _ tt
      (body_declared (body_finds line name interface body name false) s h)

pub proto_sized : (p : ProtoText-F Item Node Stated Proto) → AllByRecursion DeclarationSized p.interface → AllByRecursion StatedSized p.body → ProtoSized (proto_step p)
unfolding proto_step
proto_sized p ds ss = record {
  sees = declare_sized p.line p.name p.interface p.body ds ss;
  declares = declare_last p.line p.name p.interface p.body ds ss;
  does = see_alike (declare p.line p.name p.interface p.body) (declare_sized p.line p.name p.interface p.body ds ss);
}
