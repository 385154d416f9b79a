-- Instances keep the order, where the parts of their prototypes do.
use Rattle.std.proofs.Common.{ℕ, Bool, false, List, [], ◌∷◌, ◌++◌, length, map, Some, Result, Ok, Err}
use Rattle.std.specs.Prelude.{◌&&◌, ◌||◌, is_none, is_some}
use Rattle.std.specs.List.{AllByRecursion, list_any}
use Rattle.x3d_values.specs.Names.{node_type_named}
use Rattle.classic_tree.specs.declared.tree.BodyItem.TheOpen.{ProtoText-F}
use Rattle.classic_tree.specs.declared.tree.Declaration.{Declaration}
use Rattle.classic_tree.specs.declared.tree.Given.{Given}
use Rattle.classic_tree.specs.declared.tree.Given.TheVariants as given
use Rattle.proto_flat.specs.Fault.{fault}
use Rattle.proto_flat.specs.declared.fault.ExpandFault.{ExpandFault}
use Rattle.proto_flat.specs.declared.fault.ExpandFaultKind.TheVariants.{EmptyBody, ProtoTwice}
use Rattle.proto_meaning.specs.Limits.{Met, follow}
use Rattle.proto_meaning.specs.Names.{Name, Filled, value_of}
use Rattle.proto_meaning.specs.Sight.{Put, Prototype, Sight, Names, and_see, declared, no_names}
use Rattle.proto_meaning.specs.Flat.{Walk, Does, ◌>>=◌, Item, Node, Stated, Proto, begin, body_finds, body_sees, declare, declare_body, default, field, in_body, leave_out, made, note, proto_step, prototype, pure, put_default, put_in, through}
use Rattle.laws_documents.specs.Order.{AreBelow, IsValueBelow}
use Rattle.laws_documents.proofs.Lists.{all_append, all_push}
use Rattle.laws_documents.proofs.OrderGood.{Any, AreFilledBelow, Comes, Ends, IsBelow, IsDone, IsFilledBelow, IsGoodPrototype, IsGoodPut, IsGoodSight, IsGoodWalk, KeepsSight, Makes, Sees, count, done, ends_if, ends_then, ends_through, raise_all, raise_filled, same}
use Rattle.laws_documents.proofs.OrderSteps.{note_does, see_keeps}
use Rattle.laws_documents.proofs.OrderParts.{GoodGiven, GoodProto, GoodStated, leave_out_keeps, put_in_does}
use Rattle.laws_documents.proofs.Sights.{if_sees}

abbrev pub GoodDeclaration : Declaration Node → Type 0
GoodDeclaration d = GoodGiven d.given

-- ---- defaults

put_default_does : (d : Declaration Node) (x : Given Node) → GoodGiven x → (filled : List Filled) (w : Walk) → IsGoodWalk w → AreFilledBelow (count w) filled → Ends AreFilledBelow (count w) (put_default d filled x w)
put_default_does d given.Nothing h filled w g k = done AreFilledBelow filled w g k
put_default_does d (given.Is name) h filled w g k = done AreFilledBelow filled w g k
put_default_does d (given.Value v) h filled w g k =
    ends_then IsValueBelow AreFilledBelow (λ r. pure (filled ++ record { line = d.line; name = d.name; number = 0; value = Some r } ∷ [])) (count w) (put_in v w) (put_in_does v h w g)
    (λ r u i l p. done AreFilledBelow (filled ++ record { line = d.line; name = d.name; number = 0; value = Some r } ∷ []) u i
    (all_push (IsFilledBelow (count u)) filled (record { line = d.line; name = d.name; number = 0; value = Some r }) (raise_filled (count w) (count u) l filled k) p))

default_does : (takes : Names) (d : Declaration Node) (filled : List Filled) (w : Walk) → GoodDeclaration d → IsGoodWalk w → AreFilledBelow (count w) filled → Ends AreFilledBelow (count w) (default takes d filled w)
default_does takes d filled w h g k =
    ends_if AreFilledBelow (count w) (takes d.name && is_none (value_of d.name filled)) (put_default d filled d.given) (leave_out d.given >>= λ _. pure filled) w (put_default_does d d.given h filled w g k)
    (ends_then Any AreFilledBelow (λ _. pure filled) (count w) (leave_out d.given w) (leave_out_keeps d.given h w g) (λ _ u i l p. done AreFilledBelow filled u i (raise_filled (count w) (count u) l filled k)))

-- ---- bodies

helped : (first ns : List ℕ) (w : Walk) → IsGoodWalk w → AreBelow (count w) first → AreBelow (count w) ns → IsDone AreBelow (count w) first (record w { put = record w.put { helpers = w.put.helpers ++ ns } })
helped first ns w g h k =
    record {
      told = h;
      good = record {
        put = record { nodes = g.put.nodes; helpers = all_append (IsBelow (count w)) w.put.helpers ns g.put.helpers k };
        scope = record { braces = g.scope.braces; routes = g.scope.routes; ends = g.scope.ends; given = g.scope.given };
        sight = g.sight;
      };
      grown = same (count w);
    }

in_body_does : (s : Stated) (first : List ℕ) (w : Walk) → GoodStated s → IsGoodWalk w → AreBelow (count w) first → Ends AreBelow (count w) (in_body s first w)
in_body_does s [] w h g k = h.does w g
in_body_does s (n ∷ first) w h g k =
    ends_then AreBelow AreBelow next (count w) (s.1.does w) (h.does w g) (λ ns u i l p. helped (n ∷ first) ns u i (raise_all (count w) (count u) l (n ∷ first) k) p) where
      next : List ℕ → Does (List ℕ)
      next ns u = record { met = []; comes = Ok (n ∷ first, record u { put = record u.put { helpers = u.put.helpers ++ ns } }) }

pub begin_good : (outside : List Prototype) (put : Put) → AllByRecursion IsGoodPrototype outside → IsGoodPut put → IsGoodWalk (begin outside put)
begin_good outside put h p = record {
  put = p;
  scope = record { braces = tt; routes = λ bound l all k. tt; ends = λ bound l all k name. tt; given = tt };
  sight = record { here = tt; outside = h };
}

made_makes : (line least : ℕ) (ns : List ℕ) (w : Walk) → IsDone AreBelow least ns w → Makes least (made line ns w).comes
made_makes line least [] w h = tt
made_makes line least (n ∷ ns) w h =
    record {
      put = h.good.put;
      grown = h.grown;
      node = h.told.0;
      ends = λ name. h.good.scope.ends (count w) (same (count w)) w.scope.braces h.good.scope.braces name;
      routes = h.good.scope.routes (count w) (same (count w)) w.scope.braces h.good.scope.braces;
    }

body_makes : (line least : ℕ) (met : List Met) (c : Result (List ℕ × Walk) ExpandFault) → Comes AreBelow least c → Makes least (follow met c (λ p. made line p.0 p.1)).comes
body_makes line least met (Ok p) h = made_makes line least p.0 p.1 h
body_makes line least met (Err e) h = tt

module _ (line : ℕ) (name : Name) (interface : List (Declaration Node)) (body : List Stated) (ds : AllByRecursion GoodDeclaration interface) (ss : AllByRecursion GoodStated body) where
  abbrev body_does : List Filled → Does (List ℕ)
  body_does all = note (tt {0}) (λ s. record s { interface = map field interface; given = all }) >>= λ _. through in_body body []

  whole_does : (takes : Names) (given : List Filled) (w : Walk) → IsGoodWalk w → AreFilledBelow (count w) given → Ends AreBelow (count w) ((through (default takes) interface given >>= body_does) w)
  whole_does takes given w g k =
      ends_then AreFilledBelow AreBelow body_does (count w) (through (default takes) interface given w)
      (ends_through GoodDeclaration AreFilledBelow (default takes) (λ d filled u h i l. default_does takes d filled u h i l) interface given w ds g k)
      (λ all u i l p. ends_then Any AreBelow (λ _. through in_body body []) (count u) (note (tt {0}) (λ s. record s { interface = map field interface; given = all }) u)
      (note_does Any tt (λ s. record s { interface = map field interface; given = all }) u i (record { braces = i.scope.braces; routes = i.scope.routes; ends = i.scope.ends; given = p }) tt)
      (λ _ v j m q. ends_through GoodStated AreBelow in_body (λ s first x h a b. in_body_does s first x h a b) body [] v ss j tt))

  prototype_good : (outside : List Prototype) (takes : Names) → AllByRecursion IsGoodPrototype outside → IsGoodPrototype (prototype line name interface body outside takes)
  prototype_good outside takes h given put p k =
      let q = (through (default takes) interface given >>= body_does) (begin outside put) in
      body_makes line (length put.nodes) q.met q.comes (whole_does takes given (begin outside put) (begin_good outside put h p) k)

  with_prototype : (s : Sight) → IsGoodSight s → (r : Result Sight ExpandFault) → Sees (and_see r (λ t. Ok (record s { here = s.here ++ prototype line name interface body (s.here ++ s.outside) t.taken ∷ [] })))
  with_prototype s g (Ok t) = record {
    here = all_push IsGoodPrototype s.here (prototype line name interface body (s.here ++ s.outside) t.taken) g.here (prototype_good (s.here ++ s.outside) t.taken (all_append IsGoodPrototype s.here s.outside g.here g.outside));
    outside = g.outside;
  }
  with_prototype s g (Err e) = tt

  body_declared : (r : Result Bool ℕ) → KeepsSight (declare_body line name interface body r)
  body_declared (Err itself) s g = tt
  body_declared (Ok hidden) s g =
      if_sees IsGoodPrototype (list_any (λ (x : Stated). x.0) body) _ (Err (fault EmptyBody line)) (with_prototype s g (body_sees line name interface body (record { here = []; outside = s.here ++ s.outside; taken = no_names }))) tt

  pub declare_keeps : KeepsSight (declare line name interface body)
  declare_keeps s g =
      if_sees IsGoodPrototype (is_some (node_type_named name) || is_some (declared name s.here)) (Err (fault ProtoTwice line)) (declare_body line name interface body (body_finds line name interface body name false) s) tt
      (body_declared (body_finds line name interface body name false) s g)

pub proto_good : (p : ProtoText-F Item Node Stated Proto) → AllByRecursion GoodDeclaration p.interface → AllByRecursion GoodStated p.body → GoodProto (proto_step p)
unfolding proto_step
proto_good p ds ss = record {
  sees = declare_keeps p.line p.name p.interface p.body ds ss;
  does = see_keeps (declare p.line p.name p.interface p.body) (declare_keeps p.line p.name p.interface p.body ds ss);
}
