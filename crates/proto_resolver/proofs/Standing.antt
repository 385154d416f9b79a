-- Prototypes by number, as they become more; and what calls resolve, one after the other.
use Rattle.std.proofs.Common.{◌≡◌, ℕ, suc, List, [], ◌∷◌, ◌++◌, cond, Option, Some, None, Ok, Err, refl, ap, sym, ◌∙◌, subst}
use Rattle.std.specs.Prelude.{is_some, slice_get}
use Prim.Native.Nat.{zero}
use Rattle.proto_flat.specs.declared.fault.ExpandFault.{ExpandFault}
use Rattle.proto_meaning.specs.Sight.{Names, Prototype, Sight, declared}
use Rattle.proto_meaning.specs.declared.tree.ProtoTree.{ProtoTree}
use Rattle.proto_meaning.specs.trees.Resolved.{Seen, wrong_in}
use Rattle.proto_resolver.specs.declared.scopes.KnownProto.{KnownProto}
use Rattle.proto_resolver.specs.declared.scopes.Scopes.{Scopes}
use Rattle.proto_resolver.specs.declared.scopes.Table.{Table}
use Rattle.proto_resolver.specs.declared.resolver.Resolver.{Resolver}
use Rattle.proto_resolver.specs.Held.{Entries, names_of, found, seen}
use Rattle.proto_resolver.specs.Standing.{Extends, TreesStand, Means, Shows, Ends, LeadsTo, Resolves}

-- ---- more prototypes

pub extends_none : (ps : List Prototype) → Extends ps ps
extends_none ps n p e = e

pub extends_then : (a b c : List Prototype) → Extends a b → Extends b c → Extends a c
extends_then a b c x y n p e = y n p (x n p e)

pub extends_one : {X : Type 0} (ps : List X) (more : X) (n : ℕ) (p : X) → slice_get ps n ≡ Some p → slice_get (ps ++ more ∷ []) n ≡ Some p
extends_one {X} [] more n p e = absurd (subst (λ (o : Option X). cond (is_some o) ⊥ (Unit {0})) e tt)
extends_one (x ∷ ps) more zero p e = e
extends_one (x ∷ ps) more (suc n) p e = extends_one ps more n p e

pub means_more : (ps all : List Prototype) (e : Option KnownProto) (p : Option Prototype) → Extends ps all → Means ps e p → Means all e p
means_more ps all None None x h = tt
means_more ps all None (Some p) x h = absurd h
means_more ps all (Some e) None x h = absurd h
means_more ps all (Some e) (Some p) x h = (x e.number p h.0, h.1)

pub shows_more : (ps all : List Prototype) (scopes : Scopes) (s : Sight) → Extends ps all → Shows ps scopes s → Shows all scopes s
shows_more ps all scopes s x h = record {
  here = λ name. means_more ps all (found scopes.here name) (declared name s.here) x (h.here name);
  outside = λ name. means_more ps all (seen scopes.outside.items name) (declared name s.outside) x (h.outside name);
  taken = h.taken;
}

-- the same prototypes, where something else is taken
pub shows_moved : (ps : List Prototype) (old new : Scopes) (s : Sight) (taken : Names) → found new.here ≡ found old.here → new.outside.items ≡ old.outside.items → names_of new.takes ≡ taken
    → Shows ps old s → Shows ps new (record s { taken = taken })
shows_moved ps old new s taken here outside takes h = record {
  here = λ name. subst (λ (f : Entries). Means ps (f name) (declared name s.here)) (sym here) (h.here name);
  outside = λ name. subst (λ (ts : List Table). Means ps (seen ts name) (declared name s.outside)) (sym outside) (h.outside name);
  taken = takes;
}

pub stands_moved : (ps : List Prototype) (old new : List ProtoTree) → new ≡ old → TreesStand ps old → TreesStand ps new
stands_moved ps old new e h = subst (TreesStand ps) (sym e) h

-- ---- ends

pub wrong_is : (ps : List Prototype) (old new : Resolver) (wrong : Option ExpandFault) (r : Seen) → Ends ps old new wrong r → wrong ≡ wrong_in r
wrong_is ps old new None (Ok u) h = refl
wrong_is ps old new None (Err e) h = absurd h
wrong_is ps old new (Some x) (Ok u) h = absurd h
wrong_is ps old new (Some x) (Err e) h = ap Some h

ends_behind : (ps : List Prototype) (old mid new : Resolver) (wrong : Option ExpandFault) (r : Seen) → mid.scopes.outside.items ≡ old.scopes.outside.items → Ends ps mid new wrong r → Ends ps old new wrong r
ends_behind ps old mid new None (Ok u) e h = (h.0, h.1 ∙ e)
ends_behind ps old mid new None (Err x) e h = absurd h
ends_behind ps old mid new (Some x) (Ok u) e h = absurd h
ends_behind ps old mid new (Some x) (Err y) e h = h

-- ---- calls

pub weaker : (old new : Resolver) (wrong : Option ExpandFault) (h k : List Prototype → Sight → Seen → Type 0)
    → ((ps all : List Prototype) (s : Sight) (r : Seen) → Shows ps old.scopes s → Extends ps all → wrong ≡ wrong_in r → h all s r → k all s r)
    → Resolves old new wrong h → Resolves old new wrong k
weaker old new wrong h k w does ps s stands shows =
    let d = does ps s stands shows in
    record {
      more = d.more;
      seen = d.seen;
      extends = d.extends;
      stands = d.stands;
      ends = d.ends;
      is = λ all x. w ps all s d.seen shows (extends_then ps d.more all d.extends x) (wrong_is d.more old new wrong d.seen d.ends) (d.is all x);
    }

-- nothing is done
pub stays : (old : Resolver) (k : List Prototype → Sight → Seen → Type 0) → ((all : List Prototype) (s : Sight) → k all s (Ok s)) → Resolves old old None k
stays old k w ps s stands shows =
    record { more = ps; seen = Ok s; extends = extends_none ps; stands = stands; ends = (shows, refl); is = λ all x. w all s }

-- something is wrong
pub fails : (old : Resolver) (e : ExpandFault) (k : List Prototype → Sight → Seen → Type 0) → ((ps all : List Prototype) (s : Sight) → Shows ps old.scopes s → k all s (Err e)) → Resolves old old (Some e) k
fails old e k w ps s stands shows =
    record { more = ps; seen = Err e; extends = extends_none ps; stands = stands; ends = refl; is = λ all x. w ps all s shows }

-- one behind the other
pub behind : (old mid new : Resolver) (wrong : Option ExpandFault) (h k l : List Prototype → Sight → Seen → Type 0)
    → ((all : List Prototype) (s u : Sight) (r : Seen) → h all s (Ok u) → k all u r → l all s r)
    → Resolves old mid None h → Resolves mid new wrong k → Resolves old new wrong l
behind old mid new wrong h k l w first second ps s stands shows = by_seen (first ps s stands shows).seen refl where
  by_seen : (q : Seen) → (first ps s stands shows).seen ≡ q → LeadsTo ps s old new wrong l
  by_seen (Err e) is = absurd (subst (Ends (first ps s stands shows).more old mid None) is (first ps s stands shows).ends)
  by_seen (Ok u) is =
      let d = first ps s stands shows in
      let ends = subst (Ends d.more old mid None) is d.ends in
      let f = second d.more u d.stands ends.0 in
      record {
        more = f.more;
        seen = f.seen;
        extends = extends_then ps d.more f.more d.extends f.extends;
        stands = f.stands;
        ends = ends_behind f.more old mid new wrong f.seen ends.1 f.ends;
        is = λ all x. w all s u f.seen (subst (h all s) is (d.is all (extends_then d.more f.more all f.extends x))) (f.is all x);
      }
