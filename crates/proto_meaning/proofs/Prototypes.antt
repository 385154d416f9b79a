-- What an instance of a prototype is, by the text and by the tree.
use Rattle.std.proofs.Common.{◌≡◌, ℕ, Bool, true, false, List, [], ◌∷◌, ◌++◌, Result, Ok, Err, map, refl, ap, sym, ◌∙◌, subst, ◌||◌}
use Rattle.std.specs.Prelude.{if◌then◌else◌, ◌&&◌, is_none, is_some}
use Rattle.std.specs.List.{AllByRecursion, list_any}
use Rattle.classic_tree.specs.declared.tree.Declaration.{Declaration}
use Rattle.classic_tree.specs.declared.tree.NodeText.{NodeText}
use Rattle.classic_tree.specs.declared.tree.ProtoText.{ProtoText, out-ProtoText, fold_out-ProtoText}
use Rattle.classic_tree.proofs.Mapped.{interface_mapped}
use Rattle.x3d_values.specs.Names.{node_type_named}
use Rattle.proto_flat.specs.Fault.{fault}
use Rattle.proto_flat.specs.declared.fault.ExpandFault.{ExpandFault}
use Rattle.proto_flat.specs.declared.fault.ExpandFaultKind.TheVariants.{ProtoTwice, ProtoItself, EmptyBody}
use Rattle.proto_meaning.specs.Limits.{Met, follow, and_then}
use Rattle.proto_meaning.specs.Names.{Name, Field, Filled, value_of}
use Rattle.proto_meaning.specs.Sight.{Put, Sight, Look, Names, Prototype, and_see, each, declared, no_names, opened}
use Rattle.proto_meaning.specs.Flat as flat
use Rattle.proto_meaning.specs.Flat.{Walk, Does, ◌>>=◌, note, through, begin, made, field, in_body, Item, Node, Stated, Proto, item_step, node_step, statement_step, proto_step, declare, declare_body, body_sees, body_finds, prototype}
use Rattle.proto_meaning.proofs.SightLaw.{Any, Free, Follows, bared, each_free, then_follows}
use Rattle.proto_meaning.specs.declared.tree.ProtoTree.{ProtoTree}
use Rattle.proto_meaning.specs.trees.Meaning.{statement, default}
use Rattle.proto_meaning.specs.trees.Resolved.{Seen, IsProto}
use Rattle.proto_meaning.specs.trees.TreeLaws.{PrototypesAreTheSame}
use Rattle.proto_meaning.proofs.Same.{Same, hide, hid, ok, in_bared, never, same_then, same_first}
use Rattle.proto_meaning.proofs.Good.{every_given}
use Rattle.proto_meaning.proofs.Given.{given_free}
use Rattle.proto_meaning.proofs.Statements.{puts_in_body}
use Rattle.proto_meaning.proofs.Whole.{statements_mean}
use Rattle.proto_meaning.proofs.Defaults.{default_follows, defaults_mean}

abbrev defaults_of : List (Declaration NodeText) → List (Declaration Node)
defaults_of ds = map (interface_mapped flat.node) ds

abbrev default_sees : Declaration Node → Look
default_sees d = flat.given_sees d.given

all_free : (ds : List (Declaration NodeText)) → AllByRecursion (λ (d : Declaration Node). Free (default_sees d)) (defaults_of ds)
all_free [] = tt
all_free (d ∷ ds) = (given_free (interface_mapped flat.node d).given (every_given d.given), all_free ds)

defaults_follow : (takes : Names) (ds : List (Declaration NodeText)) (filled : List Filled) → Follows Any (through (flat.default takes) (defaults_of ds) filled) (each default_sees (defaults_of ds))
defaults_follow takes [] filled = λ w. (tt, refl)
defaults_follow takes (d ∷ ds) filled =
    then_follows Any Any (flat.default takes (interface_mapped flat.node d) filled) (through (flat.default takes) (defaults_of ds)) (default_sees (interface_mapped flat.node d)) (each default_sees (defaults_of ds))
    (each_free default_sees (defaults_of ds) (all_free ds)) (default_follows (takes d.name && is_none (value_of d.name filled)) (interface_mapped flat.node d) filled (every_given d.given)) (λ more _. defaults_follow takes ds more)

same_fields : (ds : List (Declaration NodeText)) → map field (defaults_of ds) ≡ map field ds
same_fields [] = refl
same_fields (d ∷ ds) = ap (λ fs. field d ∷ fs) (same_fields ds)

-- the interface is known, and then the body is put in
abbrev begun : List Field → Does (List ℕ) → List Filled → Does (List ℕ)
begun fields rest all = note (tt {0}) (λ s. record s { interface = fields; given = all }) >>= λ _. rest

begun_same : (s : Sight) (fields : List Field) (m n : Does (List ℕ)) (all : List Filled) → Same s m n → Same s (begun fields m all) (begun fields n all)
begun_same s fields m n all h =
    same_first Any (note (tt {0}) (λ c. record c { interface = fields; given = all })) (note (tt {0}) (λ c. record c { interface = fields; given = all })) (λ _. m) (λ _. n) s (λ w. (tt, refl)) (λ w e. refl) (λ _ _. h)

made_after : (line : ℕ) (ns : List ℕ) (w : Walk) → made line ns (hide w) ≡ made line ns w
made_after line [] w = refl
made_after line (n ∷ ns) w = refl

made_of : (line : ℕ) (met : List Met) (c : Result (List ℕ × Walk) ExpandFault) → follow met (hid c) (λ p. made line p.0 p.1) ≡ follow met c (λ p. made line p.0 p.1)
made_of line met (Ok p) = ap (λ o. follow met (Ok tt) (λ (_ : Unit {0}). o)) (made_after line p.0 p.1)
made_of line met (Err e) = refl

abbrev whole : (List Filled → Does (List Filled)) → List Field → Does (List ℕ) → List Filled → Does (List ℕ)
whole defaults fields rest given = defaults given >>= begun fields rest

instance_same : (ps : List Prototype) (t : ProtoTree) (s u : Sight) → IsProto ps t s u → (line : ℕ) (fields : List Field) → map field (out-ProtoText t.text.now).interface ≡ fields → (given : List Filled) (put : Put)
    → and_then (whole (through (flat.default u.taken) (defaults_of (out-ProtoText t.text.now).interface)) fields (through in_body (map flat.statement (out-ProtoText t.text.now).body) []) given (begin (s.here ++ s.outside) put)) (λ p. made line p.0 p.1)
    ≡ and_then (whole (through (default ps) t.defaults) (map field (out-ProtoText t.text.now).interface) (through in_body (map (statement ps) t.body) []) given (begin [] put)) (λ p. made line p.0 p.1)
instance_same ps t s u h line fields e given put =
    let ds = (out-ProtoText t.text.now).interface in
    let xs = through in_body (map flat.statement (out-ProtoText t.text.now).body) [] in
    let ys = through in_body (map (statement ps) t.body) [] in
    let defaults = defaults_mean ps u.taken ds t.defaults (opened s) h.behind h.defaults in
    let body = statements_mean in_body puts_in_body ps (out-ProtoText t.text.now).body t.body (record h.behind { taken = no_names }) (Ok u) h.body in
    let same : Same (opened s) (whole (through (flat.default u.taken) (defaults_of ds)) (map field ds) xs given) (whole (through (default ps) t.defaults) (map field ds) ys given) =
    same_then Any (through (flat.default u.taken) (defaults_of ds) given) (through (default ps) t.defaults given) (begun (map field ds) xs) (begun (map field ds) ys) (each default_sees (defaults_of ds)) (opened s) (Ok h.behind)
    (each_free default_sees (defaults_of ds) (all_free ds)) (defaults_follow u.taken ds given) (ap bared defaults.sees) (defaults.does given)
    (λ x k all _. begun_same x (map field ds) xs ys all (subst (λ y. Same y xs ys) (in_bared h.behind x k) (body.does []))) in
    let w = begin (s.here ++ s.outside) put in
    ap (λ fs. and_then (whole (through (flat.default u.taken) (defaults_of ds)) fs xs given w) (λ p. made line p.0 p.1)) (sym e)
    ∙ sym (ap (λ o. and_then o (λ p. made line p.0 p.1)) (same w refl)
    ∙ made_of line (whole (through (flat.default u.taken) (defaults_of ds)) (map field ds) xs given w).met (whole (through (flat.default u.taken) (defaults_of ds)) (map field ds) xs given w).comes)

-- ---- what a declaration comes to

module _ (line : ℕ) (name : Name) (interface : List (Declaration Node)) (body : List Stated) where
  body_declared : (s u v : Sight) (any : Bool) (r : Seen) → r ≡ Ok u
      → (if any then and_see r (λ t. Ok (record s { here = s.here ++ prototype line name interface body (s.here ++ s.outside) t.taken ∷ [] })) else Err (fault EmptyBody line)) ≡ Ok v
      → v ≡ record s { here = s.here ++ prototype line name interface body (s.here ++ s.outside) u.taken ∷ [] }
  body_declared s u v false r e h = never v (fault EmptyBody line) h
  body_declared s u v true r e h =
      sym (in_bared (record s { here = s.here ++ prototype line name interface body (s.here ++ s.outside) u.taken ∷ [] }) v
      (sym (ap (λ x. and_see x (λ t. ok (record s { here = s.here ++ prototype line name interface body (s.here ++ s.outside) t.taken ∷ [] }))) e) ∙ h))

  found_declared : (s u v : Sight) (found : Result Bool ℕ) → body_sees line name interface body (opened s) ≡ Ok u → declare_body line name interface body found s ≡ Ok v
      → v ≡ record s { here = s.here ++ prototype line name interface body (s.here ++ s.outside) u.taken ∷ [] }
  found_declared s u v (Err itself) e h = never v (fault ProtoItself itself) h
  found_declared s u v (Ok hides) e h = body_declared s u v (list_any (λ (x : Stated). x.0) body) (body_sees line name interface body (opened s)) e h

  known_declared : (s u v : Sight) (known : Bool) (found : Result Bool ℕ) → body_sees line name interface body (opened s) ≡ Ok u → (if known then Err (fault ProtoTwice line) else declare_body line name interface body found s) ≡ Ok v
      → v ≡ record s { here = s.here ++ prototype line name interface body (s.here ++ s.outside) u.taken ∷ [] }
  known_declared s u v true found e h = never v (fault ProtoTwice line) h
  known_declared s u v false found e h = found_declared s u v found e h

  is_declared : (s u v : Sight) → body_sees line name interface body (opened s) ≡ Ok u → declare line name interface body s ≡ Ok v
      → v ≡ record s { here = s.here ++ prototype line name interface body (s.here ++ s.outside) u.taken ∷ [] }
  is_declared s u v e h = known_declared s u v (is_some (node_type_named name) || is_some (declared name s.here)) (body_finds line name interface body name false) e h

proto_sees : (p : ProtoText) (s : Sight) → (flat.proto p).sees s
    ≡ declare (out-ProtoText p).line (out-ProtoText p).name (defaults_of (out-ProtoText p).interface) (map flat.statement (out-ProtoText p).body) s
unfolding proto_step
proto_sees p s = ap (λ (q : Proto). q.sees s) (fold_out-ProtoText Item Node Stated Proto item_step node_step statement_step proto_step p)

body_seen : (ps : List Prototype) (t : ProtoTree) (s u : Sight) → IsProto ps t s u
    → body_sees (out-ProtoText t.text.now).line (out-ProtoText t.text.now).name (defaults_of (out-ProtoText t.text.now).interface) (map flat.statement (out-ProtoText t.text.now).body) (opened s) ≡ Ok u
body_seen ps t s u h =
    ap (λ r. and_see (and_see r (λ (x : Sight). Ok (record x { taken = no_names }))) (each (λ (x : Stated). x.1.sees) (map flat.statement (out-ProtoText t.text.now).body)))
    (defaults_mean ps u.taken (out-ProtoText t.text.now).interface t.defaults (opened s) h.behind h.defaults).sees
    ∙ (statements_mean in_body puts_in_body ps (out-ProtoText t.text.now).body t.body (record h.behind { taken = no_names }) (Ok u) h.body).sees

pub prototypes_are_the_same : PrototypesAreTheSame
prototypes_are_the_same ps t s u v h e =
    let p = out-ProtoText t.text.now in (
      prototype p.line p.name (defaults_of p.interface) (map flat.statement p.body) (s.here ++ s.outside) u.taken,
      is_declared p.line p.name (defaults_of p.interface) (map flat.statement p.body) s u v (body_seen ps t s u h) (sym (proto_sees t.text.now s) ∙ e),
      refl,
      same_fields p.interface,
      refl,
      λ given put. instance_same ps t s u h p.line (map field (defaults_of p.interface)) (sym (same_fields p.interface)) given put,
    )
