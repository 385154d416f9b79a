-- Which node a USE gives in a document without instances (ISO/IEC 19775-1, DEF and USE): the
-- nearest DEF before it of that name whose braces are closed.
use Rattle.std.specs.Prelude.{ℕ, Bool, false, if◌then◌else◌, List, [], ◌∷◌, ◌++◌, length, map, Option, Some, None, slice_set}
use Rattle.std.specs.List.{flat_map, fold}
use Rattle.std.specs.Option.{option_or}
use Rattle.std.specs.Str.{bytes_eq}
use Rattle.classic_tree.specs.declared.tree.Document.{Document}
use Rattle.proto_flat.specs.declared.flat.FlatNode.{FlatNode}
use Rattle.laws_documents.specs.Order.{nodes_in}
use Rattle.laws_documents.specs.Readings.{StateChange, Steps, read_document, same}

-- braces that opened: the name that DEF gives, and the number of the node once they are closed
pub record OpenBraces : Type 0 where
  pub name : Option (List ℕ)
  pub node : Option ℕ

-- a text up to some place: all braces that opened, in that order; for each node whose braces are
-- closed, in the order in which they close, the nodes between them; and the nodes so far between
-- the braces that are open, or as statements. A node is its number, and a USE is the number of the
-- node that it names, or None if it names none
pub record Reading : Type 0 where
  pub opened : List OpenBraces
  pub closed : List (List (Option ℕ))
  pub here : List (Option ℕ)

abbrev pub nothing_read : Reading
nothing_read = record { opened = []; closed = []; here = [] }

-- ---- names

abbrev pub has_name : List ℕ → Option (List ℕ) → Bool
has_name name None = false
has_name name (Some given) = bytes_eq given name

abbrev pub named_next : List ℕ → Option ℕ → OpenBraces → Option ℕ
named_next name before o = if has_name name o.name then option_or o.node before else before

-- the node of the last closed braces of that name
abbrev pub named : List ℕ → List OpenBraces → Option ℕ
named name opened = fold (named_next name) None opened

-- ---- what a part of the text does

abbrev pub stands : Option ℕ → StateChange Reading
stands what r = record r { here = r.here ++ what ∷ [] }

abbrev pub opens : Option (List ℕ) → StateChange Reading
opens name r =
    record r { opened = r.opened ++ record { name = name; node = None } ∷ []; here = [] }

-- the braces that opened after `before` close: their node gets the next number
abbrev pub closes : Option (List ℕ) → Reading → StateChange Reading
closes name before r =
    record {
      opened = slice_set r.opened (length before.opened)
          (record { name = name; node = Some (length r.closed) });
      closed = r.closed ++ r.here ∷ [];
      here = before.here ++ Some (length r.closed) ∷ [];
    }

-- a USE adds the node that it names; a ROUTE changes nothing
abbrev pub steps : Steps Reading
steps =
    record {
      uses = λ name r. stands (named name r.opened) r;
      routes = λ route. same;
      opens = opens;
      closes = closes;
    }

abbrev pub read : Document → Reading
read document = read_document steps document nothing_read

-- ---- nodes

abbrev pub some : ℕ → Option ℕ
some node = Some node

-- the nodes in the fields of a node
abbrev pub held : FlatNode → List (Option ℕ)
held node = map some (flat_map (λ field. nodes_in field.value) node.fields)
