-- The flat form of a document without instances, by what its plain reading comes to.
use Rattle.std.proofs.Common.{◌≡◌, ℕ, nat_lt, List, [], ◌++◌, length, Result, Ok, Err, map}
use Rattle.classic_tree.specs.declared.tree.Document.{Document}
use Rattle.proto_flat.specs.declared.fault.ExpandFault.{ExpandFault}
use Rattle.proto_flat.specs.declared.flat.Flat.{Flat}
use Rattle.proto_meaning.specs.Limits.{Met, follow, is_within, limited}
use Rattle.proto_meaning.specs.Flat.{flat, header_of, comes}
use Rattle.laws_documents.specs.Plain.{Reading, read_all, read_statement, route_of}
use Rattle.laws_documents.proofs.Limited.{limited_is, refused}
use Rattle.laws_documents.specs.PlainLaws.{HasNoInstances}
use Rattle.laws_documents.proofs.BesideWhole.{documents_are_read_plainly}
use Rattle.laws_documents.proofs.Reading.{Ends}

abbrev flat_of : Document → List ℕ → Reading → Flat
flat_of d roots r =
    record {
      header = header_of d;
      nodes = r.nodes;
      roots = roots;
      helpers = [];
      routes = map (route_of r.pairs) r.wires;
    }

-- the flat form is what the reading came to
pub record IsRead (P : List ℕ → Reading → Type 0) (d : Document) (f : Flat) : Type 0 where
  pub roots : List ℕ
  pub reading : Reading
  pub told : P roots reading
  pub is : flat_of d roots reading ≡ f

read_to : (P : List ℕ → Reading → Type 0) (d : Document) (f : Flat) (met : List Met) (c : Result (List ℕ × Reading) ExpandFault) → Ends P (record { met = met; comes = c })
    → limited (follow met c (λ p. comes (Ok (flat_of d p.0 p.1)))) ≡ Ok f → IsRead P d f
read_to P d f met (Ok p) h e =
    record {
      roots = p.0;
      reading = p.1;
      told = h;
      is = limited_is (is_within (met ++ [])) (nat_lt 65536 (length (flat_of d p.0 p.1).routes)) (flat_of d p.0 p.1) f e;
    }
read_to P d f met (Err x) h e = absurd (refused (is_within met) x f e)

pub flat_is_read : (P : List ℕ → Reading → Type 0) (d : Document) (f : Flat) → HasNoInstances d → flat d ≡ Ok f → Ends P (read_all (map read_statement d.statements)) → IsRead P d f
flat_is_read P d f k e h =
    let o = read_all (map read_statement d.statements) in
    read_to P d f o.met o.comes h (documents_are_read_plainly d f k e)
