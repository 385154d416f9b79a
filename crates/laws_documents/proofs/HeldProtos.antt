-- Instances give nodes what they may hold, where the parts of their prototypes do.
use Rattle.std.proofs.Common.{ℕ, Bool, false, List, [], ◌∷◌, ◌++◌, length, map, Some, Result, Ok, Err, ap, arith}
use Rattle.std.specs.Prelude.{◌&&◌, ◌||◌, is_none, is_some}
use Rattle.std.specs.List.{AllByRecursion, list_any, sum_by}
use Rattle.std.proofs.lemmas.List.{append-nil}
use Rattle.x3d_values.specs.Names.{node_type_named}
use Rattle.classic_tree.specs.declared.tree.BodyItem.TheOpen.{ProtoText-F}
use Rattle.classic_tree.specs.declared.tree.Declaration.{Declaration}
use Rattle.classic_tree.specs.declared.tree.Given.{Given}
use Rattle.classic_tree.specs.declared.tree.Given.TheVariants as given
use Rattle.proto_flat.specs.Fault.{fault}
use Rattle.proto_flat.specs.declared.fault.ExpandFault.{ExpandFault}
use Rattle.proto_flat.specs.declared.fault.ExpandFaultKind.TheVariants.{EmptyBody, ProtoTwice}
use Rattle.proto_meaning.specs.Limits.{Met, follow, nodes_met}
use Rattle.proto_meaning.specs.Names.{Name, Filled, value_of}
use Rattle.proto_meaning.specs.Sight.{Put, Prototype, Sight, Names, and_see, declared, no_names}
use Rattle.proto_meaning.specs.Flat.{Walk, Does, ◌>>=◌, Item, Node, Stated, Proto, begin, body_finds, body_sees, declare, declare_body, default, field, in_body, leave_out, made, note, proto_step, prototype, pure, put_default, put_in, through}
use Rattle.laws_documents.proofs.Lists.{all_append, all_push}
use Rattle.laws_documents.proofs.HeldGood.{Any, AreFilled, AreHeld, Asked, Comes, DoesWell, Ends, IsDone, IsFilled, IsGoodPrototype, IsGoodWalk, MakesBy, count, done, ends_if, ends_then, ends_through}
use Rattle.laws_documents.proofs.HeldParts.{GoodGiven, GoodProto, GoodStated, Keeps, left_out, put_in_does, see_keeps}
use Rattle.laws_documents.proofs.Sights.{IsGoodSight, Sees, if_sees}

module _ (asked : Asked) where
  abbrev pub GoodDeclaration : Declaration Node → Type 0
  GoodDeclaration d = GoodGiven asked d.given

  -- ---- defaults

  put_default_does : (d : Declaration Node) (x : Given Node) → GoodGiven asked x → (filled : List Filled) → AreFilled asked filled → DoesWell asked (AreFilled asked) (put_default d filled x)
  put_default_does d given.Nothing h filled k w g = done asked (AreFilled asked) filled [] w g k
  put_default_does d (given.Is name) h filled k w g = done asked (AreFilled asked) filled [] w g k
  put_default_does d (given.Value v) h filled k w g =
      ends_then asked asked.value (AreFilled asked) (λ r. pure (filled ++ record { line = d.line; name = d.name; number = 0; value = Some r } ∷ [])) (count asked w) (put_in v w) (put_in_does asked v h w g)
      (λ r u i p. done asked (AreFilled asked) (filled ++ record { line = d.line; name = d.name; number = 0; value = Some r } ∷ []) [] u i (all_push (IsFilled asked) filled (record { line = d.line; name = d.name; number = 0; value = Some r }) k p))

  default_does : (takes : Names) (d : Declaration Node) (filled : List Filled) (w : Walk) → GoodDeclaration d → IsGoodWalk asked w → AreFilled asked filled → Ends asked (AreFilled asked) (count asked w) (default takes d filled w)
  default_does takes d filled w h g k =
      ends_if asked (AreFilled asked) (count asked w) (takes d.name && is_none (value_of d.name filled)) (put_default d filled d.given) (leave_out d.given >>= λ _. pure filled) w (put_default_does d d.given h filled k w g)
      (ends_then asked (Any asked) (AreFilled asked) (λ _. pure filled) (count asked w) (leave_out d.given w) (left_out asked d.given h w g) (λ _ u i p. done asked (AreFilled asked) filled [] u i k))

  -- ---- bodies

  in_body_does : (s : Stated) (first : List ℕ) (w : Walk) → GoodStated asked s → IsGoodWalk asked w → Any asked first → Ends asked (Any asked {A = List ℕ}) (count asked w) (in_body s first w)
  in_body_does s [] w h g k = h.does w g
  in_body_does s (n ∷ first) w h g k =
      ends_then asked (Any asked) (Any asked) next (count asked w) (s.1.does w) (h.does w g)
      (λ ns u i p. done asked (Any asked) (n ∷ first) [] (record u { put = record u.put { helpers = u.put.helpers ++ ns } }) (record { put = i.put; given = i.given; sight = i.sight }) tt) where
        next : List ℕ → Does (List ℕ)
        next ns u = record { met = []; comes = Ok (n ∷ first, record u { put = record u.put { helpers = u.put.helpers ++ ns } }) }

  pub begin_good : (outside : List Prototype) (put : Put) → AllByRecursion (IsGoodPrototype asked) outside → AreHeld asked put → IsGoodWalk asked (begin outside put)
  begin_good outside put h p = record { put = p; given = tt; sight = record { here = tt; outside = h } }

  made_makes : (line least : ℕ) (met : List Met) (ns : List ℕ) (w : Walk) → IsDone asked (Any asked) least met ns w → MakesBy asked least (met ++ (made line ns w).met) (made line ns w).comes
  made_makes line least met [] w h = tt
  made_makes line least met (n ∷ ns) w h =
      let same = ap (sum_by nodes_met) (append-nil met) in
      (h.good.put, omega (arith, h.grown, same))

  body_makes : (line least : ℕ) (met : List Met) (c : Result (List ℕ × Walk) ExpandFault) → Comes asked (Any asked) least met c → MakesBy asked least (follow met c (λ p. made line p.0 p.1)).met (follow met c (λ p. made line p.0 p.1)).comes
  body_makes line least met (Ok p) h = made_makes line least met p.0 p.1 h
  body_makes line least met (Err e) h = tt

  module _ (line : ℕ) (name : Name) (interface : List (Declaration Node)) (body : List Stated) (ds : AllByRecursion GoodDeclaration interface) (ss : AllByRecursion (GoodStated asked) body) where
    abbrev body_does : List Filled → Does (List ℕ)
    body_does all = note (tt {0}) (λ s. record s { interface = map field interface; given = all }) >>= λ _. through in_body body []

    whole_does : (takes : Names) (given : List Filled) → AreFilled asked given → DoesWell asked (Any asked {A = List ℕ}) (λ w. (through (default takes) interface given >>= body_does) w)
    whole_does takes given k w g =
        ends_then asked (AreFilled asked) (Any asked) body_does (count asked w) (through (default takes) interface given w)
        (ends_through asked GoodDeclaration (AreFilled asked) (default takes) (λ d filled u h i l. default_does takes d filled u h i l) interface given w ds g k)
        (λ all u i p. ends_then asked (Any asked) (Any asked) (λ _. through in_body body []) (count asked u) (note (tt {0}) (λ s. record s { interface = map field interface; given = all }) u)
        (done asked (Any asked) tt [] (record u { scope = record u.scope { interface = map field interface; given = all } }) (record { put = i.put; given = p; sight = i.sight }) tt)
        (λ _ v j q. ends_through asked (GoodStated asked) (Any asked) in_body (λ s first x h a b. in_body_does s first x h a b) body [] v ss j tt))

    prototype_good : (outside : List Prototype) (takes : Names) → AllByRecursion (IsGoodPrototype asked) outside → IsGoodPrototype asked (prototype line name interface body outside takes)
    prototype_good outside takes h given put p k =
        let q = (through (default takes) interface given >>= body_does) (begin outside put) in
        body_makes line (length put.nodes) q.met q.comes (whole_does takes given k (begin outside put) (begin_good outside put h p))

    with_prototype : (s : Sight) → IsGoodSight (IsGoodPrototype asked) s → (r : Result Sight ExpandFault)
        → Sees (IsGoodPrototype asked) (and_see r (λ t. Ok (record s { here = s.here ++ prototype line name interface body (s.here ++ s.outside) t.taken ∷ [] })))
    with_prototype s g (Ok t) = record {
      here = all_push (IsGoodPrototype asked) s.here (prototype line name interface body (s.here ++ s.outside) t.taken) g.here
          (prototype_good (s.here ++ s.outside) t.taken (all_append (IsGoodPrototype asked) s.here s.outside g.here g.outside));
      outside = g.outside;
    }
    with_prototype s g (Err e) = tt

    body_declared : (r : Result Bool ℕ) → Keeps asked (declare_body line name interface body r)
    body_declared (Err itself) s g = tt
    body_declared (Ok hidden) s g =
        if_sees (IsGoodPrototype asked) (list_any (λ (x : Stated). x.0) body) _ (Err (fault EmptyBody line)) (with_prototype s g (body_sees line name interface body (record { here = []; outside = s.here ++ s.outside; taken = no_names }))) tt

    declare_keeps : Keeps asked (declare line name interface body)
    declare_keeps s g =
        if_sees (IsGoodPrototype asked) (is_some (node_type_named name) || is_some (declared name s.here)) (Err (fault ProtoTwice line)) (declare_body line name interface body (body_finds line name interface body name false) s) tt
        (body_declared (body_finds line name interface body name false) s g)

  pub proto_good : (p : ProtoText-F Item Node Stated Proto) → AllByRecursion GoodDeclaration p.interface → AllByRecursion (GoodStated asked) p.body → GoodProto asked (proto_step p)
  unfolding proto_step
  proto_good p ds ss = record {
    sees = declare_keeps p.line p.name p.interface p.body ds ss;
    does = see_keeps asked (declare p.line p.name p.interface p.body) (declare_keeps p.line p.name p.interface p.body ds ss);
  }
