-- A walk with some prototypes in sight, beside a plain reading: where the walk comes to its end, the
-- reading comes to the same.
use Rattle.std.proofs.Common.{◌≡◌, ℕ, [], Bool, true, false, if◌then◌else◌, List, ◌++◌, Result, Ok, Err, map, refl, ap, sym, subst}
use Rattle.proto_flat.specs.declared.fault.ExpandFault.{ExpandFault}
use Rattle.proto_flat.specs.declared.fault.ExpandFaultKind.{ExpandFaultKind}
use Rattle.proto_meaning.specs.Limits.{Met, Outcome, behind, follow, and_then}
use Rattle.proto_meaning.specs.Sight.{Sight, Look}
use Rattle.proto_meaning.specs.Flat.{Walk, Does, refuse, see}
use Rattle.proto_meaning.specs.Flat as walk
use Rattle.laws_documents.specs.Plain.{Reading, PlainRead, pure}
use Rattle.laws_documents.proofs.Maps.{mapped}
use Rattle.laws_documents.proofs.PlainRoutes.{braces_of, wired}

abbrev pub same : {A : Type 0} → A → A
same a = a

-- what was read, with that in sight
abbrev pub walk_at : Sight → Reading → Walk
walk_at s r =
    record {
      put = record { nodes = r.nodes; helpers = [] };
      sight = s;
      scope = record {
        braces = map braces_of r.pairs;
        routes = λ all. wired all r.wires;
        ends = λ all name. [];
        interface = [];
        given = [];
      };
    }

-- the walk ends in b, and the reading, which met as much, in what is b by a
pub record Ends {A B : Type 0} (a : A → B) (o : Outcome (A × Reading)) (met : List Met) (b : B) (v : Walk) : Type 0 where
  pub what : A
  pub after : Reading
  pub sight : Sight
  pub read : o ≡ record { met = met; comes = Ok (what, after) }
  pub given : b ≡ a what
  pub walked : v ≡ walk_at sight after

abbrev pub Comes : {A B : Type 0} → (A → B) → Outcome (A × Reading) → List Met → Result (B × Walk) ExpandFault → Type 0
Comes a o met (Ok p) = Ends a o met p.0 p.1
Comes a o met (Err e) = Unit {0}

abbrev pub Beside : {A B : Type 0} → (A → B) → Outcome (A × Reading) → Outcome (B × Walk) → Type 0
Beside a o q = Comes a o q.met q.comes

abbrev pub Follows : {A B : Type 0} → (A → B) → PlainRead A → Does B → Type 0
Follows a m n = (s : Sight) (r : Reading) → Beside a (m r) (n (walk_at s r))

module _ {A B : Type 0} (a : A → B) where
  comes_behind : (before : List Met) (o : Outcome (A × Reading)) (met : List Met) (c : Result (B × Walk) ExpandFault) → Comes a o met c → Comes a (behind before o) (before ++ met) c
  comes_behind before o met (Ok p) h = record { what = h.what; after = h.after; sight = h.sight; read = ap (behind before) h.read; given = h.given; walked = h.walked }
  comes_behind before o met (Err e) h = tt

  pub beside_behind : (before : List Met) (o : Outcome (A × Reading)) (q : Outcome (B × Walk)) → Beside a o q → Beside a (behind before o) (behind before q)
  beside_behind before o q h = comes_behind before o q.met q.comes h

  comes_mapped : (s : Sight) (met : List Met) (r : Result (A × Reading) ExpandFault) → Beside a (record { met = met; comes = r }) (mapped (walk_at s) a (record { met = met; comes = r }))
  comes_mapped s met (Ok p) = record { what = p.0; after = p.1; sight = s; read = refl; given = refl; walked = refl }
  comes_mapped s met (Err e) = tt

  -- the walk is made of the reading, where that is in sight
  pub follows_mapped : (m : PlainRead A) (n : Does B) → ((s : Sight) (r : Reading) → n (walk_at s r) ≡ mapped (walk_at s) a (m r)) → Follows a m n
  follows_mapped m n e s r = subst (λ (q : Outcome (B × Walk)). Beside a (m r) q) (sym (e s r)) (comes_mapped s (m r).met (m r).comes)

  pub follows_pure : (x : A) → Follows a (pure x) (walk.pure (a x))
  follows_pure x s r = record { what = x; after = r; sight = s; read = refl; given = refl; walked = refl }

  pub follows_refuse : (m : PlainRead A) (kind : ExpandFaultKind) (line : ℕ) → Follows a m (refuse kind line)
  follows_refuse m kind line s r = tt

  pub follows_if : (b : Bool) (m k : PlainRead A) (n l : Does B) → Follows a m n → Follows a k l → Follows a (if b then m else k) (if b then n else l)
  follows_if true m k n l h g = h
  follows_if false m k n l h g = g

module _ {A B C D : Type 0} (a : A → B) (c : C → D) where
  then_comes : (f : A → PlainRead C) (g : B → Does D) (o : Outcome (A × Reading)) (met : List Met) (r : Result (B × Walk) ExpandFault) → ((x : A) → Follows c (f x) (g (a x))) → Comes a o met r
      → Beside c (and_then o (λ p. f p.0 p.1)) (follow met r (λ p. g p.0 p.1))
  then_comes f g o met (Ok p) k h =
      subst (λ (x : Outcome (A × Reading)). Beside c (and_then x (λ p. f p.0 p.1)) (behind met (g p.0 p.1))) (sym h.read)
      (subst (λ b. Beside c (behind met (f h.what h.after)) (behind met (g b p.1))) (sym h.given)
      (subst (λ v. Beside c (behind met (f h.what h.after)) (behind met (g (a h.what) v))) (sym h.walked)
      (beside_behind c met (f h.what h.after) (g (a h.what) (walk_at h.sight h.after)) (k h.what h.sight h.after))))
  then_comes f g o met (Err e) k h = tt

  pub follows_then : (m : PlainRead A) (n : Does B) (f : A → PlainRead C) (g : B → Does D) → Follows a m n → ((x : A) → Follows c (f x) (g (a x)))
      → Follows c (λ r. and_then (m r) (λ p. f p.0 p.1)) (λ w. and_then (n w) (λ p. g p.0 p.1))
  follows_then m n f g h k s r = then_comes f g (m r) (n (walk_at s r)).met (n (walk_at s r)).comes k (h s r)

-- a PROTO changes what is in sight, and the reading passes over it
seen : (r : Reading) (s : Sight) (x : Result Sight ExpandFault) → Beside same (pure (tt {0}) r) (follow [] x (λ t. record { met = []; comes = Ok (tt, record (walk_at s r) { sight = t }) }))
seen r s (Ok t) = record { what = tt; after = r; sight = t; read = refl; given = refl; walked = refl }
seen r s (Err e) = tt

pub follows_see : (step : Look) → Follows same (pure (tt {0})) (see step)
follows_see step s r = seen r s (step s)
