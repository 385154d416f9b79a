-- A declaration that is entered: what stands inside, and then the prototype.
use Rattle.std.proofs.Common.{◌≡◌, List, [], ◌∷◌, ◌++◌, length, map, Option, Some, None, Ok, Err, refl, ap, sym, ◌∙◌, subst, true, true≢false}
use Rattle.std.specs.Borrow.{Bor}
use Rattle.std.specs.Prelude.{is_some, slice_get}
use Rattle.std.proofs.lemmas.List.{same_from_push}
use Rattle.classic_tree.specs.declared.tree.ProtoText.{ProtoText, out-ProtoText}
use Rattle.proto_flat.specs.declared.fault.ExpandFault.{ExpandFault}
use Rattle.proto_meaning.specs.Names.{Name, Filled}
use Rattle.proto_meaning.specs.Sight.{Names, Put, Prototype, Sight, declared, no_names, opened}
use Rattle.proto_meaning.specs.Flat as flat
use Rattle.proto_meaning.specs.Texts.{prototype_of, closed, checked}
use Rattle.proto_meaning.specs.declared.tree.BodyTree.{BodyTree}
use Rattle.proto_meaning.specs.declared.tree.DefaultTree.{DefaultTree}
use Rattle.proto_meaning.specs.declared.tree.ProtoTree.{ProtoTree}
use Rattle.proto_meaning.specs.trees.Meaning.{instance}
use Rattle.proto_meaning.specs.trees.Resolved.{Seen, AreDefaults, IsProto}
use Rattle.proto_meaning.proofs.Prototypes.{prototypes_are_the_same}
use Rattle.proto_resolver.specs.declared.scopes.KnownProto.{KnownProto}
use Rattle.proto_resolver.specs.declared.scopes.Scopes.{Scopes}
use Rattle.proto_resolver.specs.declared.scopes.Table.{Table}
use Rattle.proto_resolver.specs.declared.scopes.TakenNames.{TakenNames}
use Rattle.proto_resolver.specs.declared.resolver.Resolver.{Resolver}
use Rattle.proto_resolver.specs.Held.{Entries, with_entry, names_of, takes_of, found, seen}
use Rattle.proto_resolver.specs.Standing.{Extends, IsOf, TreesStand, Means, Shows, Ends, LeadsTo, Resolves}
use Rattle.proto_resolver.specs.Steps.{IsScopeOpen, IsClosed, IsDeclared, defaults_taken}
use Rattle.proto_resolver.specs.Parts.{IsInterior}
use Rattle.proto_resolver.proofs.Standing.{extends_none, extends_then, extends_one, means_more, shows_more, stands_moved}
use Rattle.proto_resolver.proofs.Declared.{last_one, stands_one, means_one, shows_opened, sees_right, unknown}

-- ---- something inside is wrong

wrong_entered : (p : ProtoText) (old start new : Resolver) (before : TakenNames) (x : ExpandFault) (defaults : List DefaultTree) (body : List BodyTree)
    → ((ps : List Prototype) (s : Sight) → Shows ps old.scopes s → checked p s ≡ Ok tt) → IsScopeOpen old before start
    → Resolves start new (Some x) (λ ps s r. IsInterior ps p defaults body s r) → Resolves old new (Some x) (λ ps s r. (flat.proto p).sees s ≡ r)
wrong_entered p old start new before x defaults body right o does ps s stands shows =
    let e = does ps (opened s) (stands_moved ps old.protos start.protos o.protos stands) (shows_opened ps old before start s o shows) in
    by_seen e.more e.extends e.stands e.seen e.ends e.is where
      by_seen : (more : List Prototype) → Extends ps more → TreesStand more new.protos → (r : Seen) → Ends more start new (Some x) r
          → ((all : List Prototype) → Extends more all → IsInterior all p defaults body (opened s) r)
          → LeadsTo ps s old new (Some x) (λ ps s r. (flat.proto p).sees s ≡ r)
      by_seen more y f (Ok u) e inside = absurd e
      by_seen more y f (Err z) e inside = record {
        more = more;
        seen = Err z;
        extends = y;
        stands = f;
        ends = e;
        is = λ all k. sees_right p s (Err z) (right ps s shows) (inside all k).sees;
      }

pub stopped : (p : ProtoText) (old start new : Resolver) (before : TakenNames) (wrong : Option ExpandFault) (defaults : List DefaultTree) (body : List BodyTree) → is_some wrong ≡ true
    → ((ps : List Prototype) (s : Sight) → Shows ps old.scopes s → checked p s ≡ Ok tt) → IsScopeOpen old before start
    → Resolves start new wrong (λ ps s r. IsInterior ps p defaults body s r) → Resolves old new wrong (λ ps s r. (flat.proto p).sees s ≡ r)
stopped p old start new before None defaults body e right o does = absurd (true≢false (sym e))
stopped p old start new before (Some x) defaults body e right o does = wrong_entered p old start new before x defaults body right o does

-- ---- the prototype

-- its tree
abbrev tree_of : Bor ProtoText → List DefaultTree → List BodyTree → Names → ProtoTree
tree_of p defaults body takes = record { text = p; defaults = defaults_taken takes defaults; body = body }

is_proto : (ps : List Prototype) (p : Bor ProtoText) (defaults : List DefaultTree) (body : List BodyTree) (s u : Sight) (takes : Names) → takes ≡ u.taken → IsInterior ps p.now defaults body (opened s) (Ok u)
    → IsProto ps (tree_of p defaults body takes) s u
is_proto ps p defaults body s u takes e h =
    let inside = h.are u refl in
    record {
      behind = inside.0;
      defaults = subst (λ names. AreDefaults ps u.taken (out-ProtoText p.now).interface (defaults_taken names defaults) (record { here = []; outside = s.here ++ s.outside; taken = no_names }) inside.0) (sym e) inside.1;
      body = inside.2;
    }

abbrev proto_of : ProtoText → Sight → Sight → Prototype
proto_of p s u = prototype_of (out-ProtoText p).name p (s.here ++ s.outside) u.taken

-- what the law says of it, in sight of more prototypes
record Says (all : List Prototype) (t : ProtoTree) (q : Prototype) (taken : Names) : Type 0 where
  name : q.name ≡ (out-ProtoText t.text.now).name
  interface : q.interface ≡ map flat.field (out-ProtoText t.text.now).interface
  takes : q.takes ≡ taken
  instance : (given : List Filled) (put : Put) → q.instance given put ≡ instance all t given put

says : (all : List Prototype) (p : Bor ProtoText) (defaults : List DefaultTree) (body : List BodyTree) (s u : Sight) (takes : Names) → takes ≡ u.taken → checked p.now s ≡ Ok tt → IsInterior all p.now defaults body (opened s) (Ok u)
    → Says all (tree_of p defaults body takes) (proto_of p.now s u) takes
says all p defaults body s u takes e right h =
    let law = prototypes_are_the_same all (tree_of p defaults body takes) s u (closed p.now s u) (is_proto all p defaults body s u takes e h) (sees_right p.now s (Ok u) right h.sees) in
    let same : proto_of p.now s u ≡ law.0 = (same_from_push s.here s.here (proto_of p.now s u) law.0 (ap (λ (x : Sight). x.here) law.1)).1 in
    record {
      name = ap (λ (x : Prototype). x.name) same ∙ law.2;
      interface = ap (λ (x : Prototype). x.interface) same ∙ law.3;
      takes = ap (λ (x : Prototype). x.takes) same ∙ law.4 ∙ sym e;
      instance = λ given put. ap (λ (x : Prototype). x.instance given put) same ∙ law.5 given put;
    }

-- where one prototype more is declared
shows_one : (ps : List Prototype) (own : Name) (entry : KnownProto) (old new : Scopes) (s : Sight) (q : Prototype) → q.name ≡ own → declared own s.here ≡ None → entry.number ≡ length ps → q.takes ≡ takes_of entry
    → found new.here ≡ with_entry own entry (found old.here) → new.outside.items ≡ old.outside.items → names_of new.takes ≡ s.taken → Shows ps old s
    → Shows (ps ++ q ∷ []) new (record s { here = s.here ++ q ∷ [] })
shows_one ps own entry old new s q named fresh number takes here outside taken h = record {
  here = λ name. subst (λ (f : Entries). Means (ps ++ q ∷ []) (f name) (declared name (s.here ++ q ∷ []))) (sym here)
      (means_one (ps ++ q ∷ []) own name entry (found old.here) s.here q named fresh
      (means_more ps (ps ++ q ∷ []) (found old.here name) (declared name s.here) (λ n x. extends_one ps q n x) (h.here name))
      (ap (slice_get (ps ++ q ∷ [])) number ∙ last_one ps q, takes));
  outside = λ name. subst (λ (ts : List Table). Means (ps ++ q ∷ []) (seen ts name) (declared name s.outside)) (sym outside)
      (means_more ps (ps ++ q ∷ []) (seen old.outside.items name) (declared name s.outside) (λ n x. extends_one ps q n x) (h.outside name));
  taken = taken;
}

module _ (p : Bor ProtoText) (old start inner mid new : Resolver) (before taken : TakenNames) (defaults : List DefaultTree) (body : List BodyTree) where
  declared_one : (ps more : List Prototype) (s u : Sight) → Shows ps old.scopes s → Extends ps more → TreesStand more inner.protos → checked p.now s ≡ Ok tt
      → IsScopeOpen old before start → IsClosed old.scopes.outside.items old.scopes.here before taken inner mid → IsDeclared p defaults body (names_of taken) mid new
      → names_of inner.scopes.takes ≡ u.taken
      → ((all : List Prototype) → Extends more all → IsInterior all p.now defaults body (opened s) (Ok u))
      → LeadsTo ps s old new None (λ ps s r. (flat.proto p.now).sees s ≡ r)
  declared_one ps more s u shows x stands right o k d taken_is inside =
      let q = proto_of p.now s u in
      let t = tree_of p defaults body (names_of taken) in
      let those : names_of taken ≡ u.taken = k.took ∙ taken_is in
      let says_more = says more p defaults body s u (names_of taken) those right (inside more (extends_none more)) in
      let is_of : IsOf (more ++ q ∷ []) t q = record {
        name = says_more.name;
        interface = says_more.interface;
        instance = λ all y given put. (says all p defaults body s u (names_of taken) those right (inside all (extends_then more (more ++ q ∷ []) all (λ n z. extends_one more q n z) y))).instance given put;
      } in
      record {
        more = more ++ q ∷ [];
        seen = Ok (closed p.now s u);
        extends = extends_then ps more (more ++ q ∷ []) x (λ n z. extends_one more q n z);
        stands = stands_moved (more ++ q ∷ []) (inner.protos ++ t ∷ []) new.protos (d.protos ∙ ap (λ ts. ts ++ t ∷ []) k.protos) (stands_one more inner.protos q t stands is_of);
        ends = (
          shows_one more (out-ProtoText p.now).name d.entry old.scopes new.scopes s q says_more.name (unknown p.now s right) (d.number ∙ ap length k.protos ∙ sym stands.count) (says_more.takes ∙ sym d.takes_those)
              (d.here ∙ ap (with_entry (out-ProtoText p.now).name d.entry) k.here) (d.outside ∙ k.outside) (d.takes ∙ k.takes ∙ o.kept ∙ shows.taken) (shows_more ps more old.scopes s x shows),
          d.outside ∙ k.outside,
        );
        is = λ all y. sees_right p.now s (Ok u) right (inside all (extends_then more (more ++ q ∷ []) all (λ n z. extends_one more q n z) y)).sees;
      }

  pub entered : ((ps : List Prototype) (s : Sight) → Shows ps old.scopes s → checked p.now s ≡ Ok tt) → IsScopeOpen old before start
      → Resolves start inner None (λ ps s r. IsInterior ps p.now defaults body s r)
      → ((outer : List Table) (around : Table) → inner.scopes.outside.items ≡ outer ++ around ∷ [] → IsClosed outer around before taken inner mid)
      → IsDeclared p defaults body (names_of taken) mid new
      → Resolves old new None (λ ps s r. (flat.proto p.now).sees s ≡ r)
  entered right o does closes d ps s stands shows =
      let e = does ps (opened s) (stands_moved ps old.protos start.protos o.protos stands) (shows_opened ps old before start s o shows) in
      by_seen e.more e.extends e.stands e.seen e.ends e.is where
        by_seen : (more : List Prototype) → Extends ps more → TreesStand more inner.protos → (r : Seen) → Ends more start inner None r
            → ((all : List Prototype) → Extends more all → IsInterior all p.now defaults body (opened s) r)
            → LeadsTo ps s old new None (λ ps s r. (flat.proto p.now).sees s ≡ r)
        by_seen more x f (Err y) e inside = absurd e
        by_seen more x f (Ok u) e inside =
            declared_one ps more s u shows x f (right ps s shows) o (closes old.scopes.outside.items old.scopes.here (e.1 ∙ o.outside)) d e.0.taken inside
