-- The head of a flat form, and its helpers.
use Rattle.std.proofs.Common.{◌≡◌, ℕ, nat_lt, List, [], ◌++◌, length, Result, Ok, Err, map, ap, sym}
use Rattle.classic_tree.specs.declared.tree.Document.{Document}
use Rattle.proto_flat.specs.declared.fault.ExpandFault.{ExpandFault}
use Rattle.proto_flat.specs.declared.flat.Flat.{Flat}
use Rattle.proto_meaning.specs.Limits.{Met, follow, is_within, limited}
use Rattle.proto_meaning.specs.Flat.{Walk, Stated, ◌>>=◌, begin, comes, flat, header_of, pure, through}
use Rattle.proto_meaning.specs.Flat.{statement as stated}
use Rattle.laws_documents.specs.Plain.{Reading, read_all, read_statement}
use Rattle.laws_documents.specs.PlainLaws.{HeadersStay, HelpersAreOfInstances}
use Rattle.laws_documents.proofs.Limited.{limited_is, refused}
use Rattle.laws_documents.proofs.ReadWhole.{flat_is_read}
use Rattle.laws_documents.proofs.Reading.{Ends}

abbrev flat_of : Document → List ℕ → Walk → Flat
flat_of d roots w =
    record {
      header = header_of d;
      nodes = w.put.nodes;
      roots = roots;
      helpers = w.put.helpers;
      routes = w.scope.routes w.scope.braces;
    }

header_is : (d : Document) (f : Flat) (met : List Met) (c : Result (List ℕ × Walk) ExpandFault) → limited (follow met c (λ p. comes (Ok (flat_of d p.0 p.1)))) ≡ Ok f → f.header ≡ header_of d
header_is d f met (Ok p) e = ap (λ (g : Flat). g.header) (sym (limited_is (is_within (met ++ [])) (nat_lt 65536 (length (flat_of d p.0 p.1).routes)) (flat_of d p.0 p.1) f e))
header_is d f met (Err x) e = absurd (refused (is_within met) x f e)

pub headers_stay : HeadersStay
unfolding flat
headers_stay d f e =
    let o = through (λ (s : Stated) (roots : List ℕ). s.1.does >>= λ ns. pure (roots ++ ns)) (map stated d.statements) [] (begin [] (record { nodes = []; helpers = [] })) in
    header_is d f o.met o.comes e

any_end : (c : Result (List ℕ × Reading) ExpandFault) → Ends (λ roots r. Unit {0}) (record { met = []; comes = c })
any_end (Ok p) = tt
any_end (Err e) = tt

pub helpers_are_of_instances : HelpersAreOfInstances
helpers_are_of_instances d f k e =
    let told = flat_is_read (λ roots r. Unit {0}) d f k e (any_end (read_all (map read_statement d.statements)).comes) in
    ap (λ (g : Flat). g.helpers) (sym told.is)
