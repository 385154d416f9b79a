-- Whether a text has no PROTO, for each part.
use Rattle.std.specs.Prelude.{Bool, true, false}
use Rattle.std.specs.List.{list_all}
use Rattle.classic_tree.specs.declared.tree.BodyItem.TheOpen.{BodyItem-F, Statement-F, ProtoText-F}
use Rattle.classic_tree.specs.declared.tree.Given.{Given}
use Rattle.classic_tree.specs.declared.tree.Given.TheVariants as given
use Rattle.classic_tree.specs.declared.tree.RawValue.TheVariants as value

abbrev pub is_true : Bool → Bool
is_true b = b

-- whether it holds for all nodes in a value
abbrev pub all_in : Given Bool → Bool
all_in (given.Value (value.Node b)) = b
all_in (given.Value (value.NodeList bs)) = list_all is_true bs
all_in _ = true

unfoldable pub plain_item_step : BodyItem-F Bool Bool Bool Bool → Bool
plain_item_step (BodyItem-F.Field line name g) = all_in g
plain_item_step (BodyItem-F.Declaration d) = all_in d.given
plain_item_step (BodyItem-F.BodyItem::Route route) = true
plain_item_step (BodyItem-F.BodyItem::Proto b) = false

unfoldable pub plain_statement_step : Statement-F Bool Bool Bool Bool → Bool
plain_statement_step (Statement-F.Node b) = b
plain_statement_step (Statement-F.Statement::Route route) = true
plain_statement_step (Statement-F.Statement::Proto b) = false

unfoldable pub plain_proto_step : ProtoText-F Bool Bool Bool Bool → Bool
plain_proto_step p = false
