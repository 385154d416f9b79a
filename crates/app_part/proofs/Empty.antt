-- A document all of whose statements go is a scene without nodes.
use Rattle.std.proofs.Common.{◌≡◌, ℕ, zero, suc, List, [], ◌∷◌, ◌++◌, Bool, true, false, ◌||◌, ◌==◌, Option, Some, None, Result, Ok, Err, map, refl, ap, sym, ◌∙◌, ◌⊎◌, inl, inr, append_assoc, eq-eqb, if◌then◌else◌}
use Rattle.std.specs.Prelude.{option_map}
use Rattle.std.specs.List.{AllByRecursion}
use Rattle.std.specs.Option.{option_to_list}
use Rattle.classic_tree.specs.declared.tree.BodyItem.{BodyItem}
use Rattle.classic_tree.specs.declared.tree.Document.{Document}
use Rattle.classic_tree.specs.declared.tree.NodeText.{NodeText}
use Rattle.classic_tree.specs.declared.tree.NodeText.TheVariants as node
use Rattle.classic_tree.specs.declared.tree.ProtoText.{ProtoText, out-ProtoText}
use Rattle.classic_tree.specs.declared.tree.Statement.{Statement}
use Rattle.classic_tree.specs.declared.tree.Statement.TheVariants as statement
use Rattle.classic_part.specs.declared.knowing.Known.{Known}
use Rattle.classic_part.specs.Notes.{refuses, refused_in}
use Rattle.classic_part.specs.Part.{Part, kept_in, node_part, statement_part, proto_part}
use Rattle.classic_part.specs.Rounds.{after}
use Rattle.classic_part.proofs.Equations.{node_part-use, node_part-full, statement_part-node, statement_part-route, statement_part-proto, proto_part_is}
use Rattle.classic_part.proofs.Trees.{Layers, every}
use Rattle.proto_meaning.specs.Flat.{flat}
use Rattle.scene_core.specs.Building.{limits, nodes_by, scene_of}
use Rattle.scene_core.specs.Deep.{deeper_than}
use Rattle.scene_core.specs.Numbers.{numbering}
use Rattle.app_jobs.specs.declared.fault.JobFault.{JobFault}
use Rattle.app_jobs.specs.declared.fault.JobFault.TheVariants.{Memory}
use Rattle.app_program.specs.Opening.{opened_document}
use Rattle.scene_faults.specs.declared.blame.Blame.{Blame}
use Rattle.app_part.specs.Mends.{places}
use Rattle.app_part.specs.Parts.{IsTurnedDown}
use Rattle.app_part.specs.Statements.{all_statements, of_statement, node_line, statement_line}
use Rattle.app_part.specs.Whole.{IsBare}
use Rattle.app_part.specs.declared.part.Mends.{Mends}
use Rattle.app_part.proofs.Lines.{node_line-use, node_line-full, statement_line-node, statement_line-route, statement_line-proto}

-- ---- what begins on a line that is refused goes

first_gone : {A : Type 0} (b : Bool) (p q : Part A) → p.kept ≡ None → b ≡ true → (if b then p else q).kept ≡ None
first_gone true p q none on = none
first_gone false p q none on = absurd (differ on)
  where
    differ : false ≡ true → ⊥
    differ e = cc

module _ (known : Known) where
  abbrev OfItem : BodyItem → Type 0
  OfItem i = Unit {0}

  abbrev OfNode : NodeText → Type 0
  OfNode n = refuses known (node_line n) ≡ true → (field : List ℕ) → (node_part known n field).kept ≡ None

  abbrev OfStatement : Statement → Type 0
  OfStatement s = refuses known (statement_line s) ≡ true → (statement_part known s).kept ≡ None

  abbrev OfProto : ProtoText → Type 0
  OfProto p = refuses known (out-ProtoText p).line ≡ true → (proto_part known p).kept ≡ None

  on_line : (line own : ℕ) → own ≡ line → refuses known own ≡ true → refuses known line ≡ true
  on_line line own is on = sym (ap (refuses known) is) ∙ on

  layers : Layers OfItem OfNode OfStatement OfProto
  layers = record {
    field = λ line name g h. tt;
    declaration = λ d h. tt;
    item_route = λ r. tt;
    item_proto = λ p h. tt;
    used = λ line name on field. ap (λ (p : Part NodeText). p.kept) (node_part-use known line name field)
        ∙ first_gone (refuses known line) _ _ refl (on_line line (node_line (node.Use line name)) (node_line-use line name) on);
    full = λ line name word items h on field. ap (λ (p : Part NodeText). p.kept) (node_part-full known line name word items field)
        ∙ first_gone (refuses known line) _ _ refl (on_line line (node_line (node.Full line name word items)) (node_line-full line name word items) on);
    node = λ n h on. ap (λ (p : Part Statement). p.kept) (statement_part-node known n)
        ∙ ap (option_map statement.Node) (h (on_line (node_line n) (statement_line (statement.Node n)) (statement_line-node n) on) []);
    route = λ r on. ap (λ (p : Part Statement). p.kept) (statement_part-route known r)
        ∙ ap (option_map statement.Route) (first_gone (refuses known r.line) _ _ refl (on_line r.line (statement_line (statement.Route r)) (statement_line-route r) on));
    proto = λ p h on. ap (λ (q : Part Statement). q.kept) (statement_part-proto known p)
        ∙ ap (option_map statement.Proto) (h (on_line (out-ProtoText p).line (statement_line (statement.Proto p)) (statement_line-proto p) on));
    prototype = λ p d s on. ap (λ (q : Part ProtoText). q.kept) (proto_part_is known p) ∙ first_gone (refuses known (out-ProtoText p).line) _ _ refl on;
  }

  all_gone : (ss : List Statement) → AllByRecursion OfStatement ss → AllByRecursion (λ s. refuses known (statement_line s) ≡ true) ss
      → kept_in (statement_part known) ss ≡ []
  all_gone [] h on = refl
  all_gone (s ∷ ss) h on =
      ap (λ (k : Option Statement). option_to_list k ++ kept_in (statement_part known) ss) (h.0 on.0) ∙ all_gone ss h.1 on.1

  pub nothing_kept : (ss : List Statement) → AllByRecursion (λ s. refuses known (statement_line s) ≡ true) ss → kept_in (statement_part known) ss ≡ []
  nothing_kept ss on = all_gone ss (every OfItem OfNode OfStatement OfProto layers ss) on

-- ---- all statements are refused

same_number : (n : ℕ) → (n == n) ≡ true
same_number n = eq-eqb n n refl

or_true : (b : Bool) → (b || true) ≡ true
or_true true = refl
or_true false = refl

here : (old : List ℕ) (line : ℕ) (rest : List ℕ) → refused_in (old ++ line ∷ rest) line ≡ true
here [] line rest = ap (λ b. b || refused_in rest line) (same_number line)
here (o ∷ old) line rest = ap (λ b. (o == line) || b) (here old line rest) ∙ or_true (o == line)

all_refused : (refused old : List ℕ) (ss : List Statement) → refused ≡ old ++ places (map of_statement ss)
    → AllByRecursion (λ s. refused_in refused (statement_line s) ≡ true) ss
all_refused refused old [] is = tt
all_refused refused old (s ∷ ss) is = (
  ap (λ r. refused_in r (statement_line s)) is ∙ here old (statement_line s) (places (map of_statement ss)),
  all_refused refused (old ++ statement_line s ∷ []) ss
      (is ∙ sym (append_assoc old (statement_line s ∷ []) (places (map of_statement ss)))),
)

none_left : (n : ℕ) (refused : List ℕ) (d : Document) → AllByRecursion (λ s. refused_in refused (statement_line s) ≡ true) d.statements
    → (after n refused d).document.statements ≡ []
none_left zero refused d on = nothing_kept (record { notes = None; refused = refused }) d.statements on
none_left (suc n) refused d on =
    ap (λ ss. kept_in (statement_part (record { notes = Some (after n refused d).notes; refused = refused })) ss) (none_left n refused d on)

-- ---- without statements a document is a scene

abbrev is_made : {A E : Type 0} → Result A E → Bool
is_made (Ok a) = true
is_made (Err e) = false

abbrev emptied : Document → List Statement → Document
emptied d ss = record d { statements = ss }

empty_scene : (d : Document) → is_made (opened_document (emptied d [])) ≡ true
unfolding opened_document flat scene_of numbering nodes_by limits deeper_than
empty_scene d = refl

not_made : (d : Document) (f : JobFault) → d.statements ≡ [] → opened_document d ≡ Err f → ⊥
not_made d f none bad = differ (sym (ap is_made bad) ∙ ap (λ ss. is_made (opened_document (emptied d ss))) none ∙ empty_scene d)
  where
    differ : false ≡ true → ⊥
    differ e = cc

-- without its statements a document is not turned down
bare_scene : (d : Document) (old refused : List ℕ) (fault : JobFault) (blames : List Blame) → refused ≡ old ++ places (all_statements d)
    → IsTurnedDown d refused fault blames → ⊥
bare_scene d old refused fault blames is down =
    not_made down.part fault
    (ap (λ (p : Document). p.statements) (down.settled.is ∙ ap (λ r. r.document) down.settled.settled.made)
    ∙ none_left down.settled.settled.rounds refused d (all_refused refused old d.statements is))
    down.bad.opened

pub bare_fails : (d : Document) (old new : Mends) (seen : List ℕ) (fault : JobFault) (blames : List Blame) → IsBare d old new → seen ≡ new.refused
    → (fault ≡ Memory) ⊎ IsTurnedDown d seen fault blames → fault ≡ Memory
bare_fails d old new seen fault blames bare same (inl is) = is
bare_fails d old new seen fault blames bare same (inr down) = absurd (bare_scene d old.refused seen fault blames (same ∙ bare.gone) down)
