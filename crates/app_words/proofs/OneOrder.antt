-- Words mean one order at most: the name of the command tells which, and each of its options has one number.
use Rattle.std.specs.Prelude.{Option, Some, None, IsSomeAnd}
use Rattle.std.proofs.Common.{◌≡◌, ◌∙◌, ℕ, Bool, List, ap, arith, slice_index, sym}
use Rattle.clap.specs.Words.{Row, Text, subcommand_of}
use Rattle.app_words.specs.Commands.{program}
use Rattle.app_words.specs.declared.order.HostOrder.{HostOrder}
use Rattle.app_words.specs.declared.order.Order.{Order}
use Rattle.app_words.specs.declared.order.Order.TheVariants.{Run, Format, Check, Rehearse, Agree, Host, View, Serve, Recall, Part, Key}
use Rattle.app_words.specs.declared.order.ServeOrder.{ServeOrder}
use Rattle.app_words.specs.declared.order.ViewOrder.{ViewOrder}
use Rattle.app_words.specs.Words.{Asks, Means}
use Rattle.app_words.proofs.OneNumber.{one, one_or_none, one_host, one_serve, one_view}
use Rattle.app_words.proofs.OneLocal.{run_alone, format_alone, check_alone, rehearse_alone, agree_alone}

host_alone : (asked : HostOrder) (o : Order) (p : Text × List Row) → Asks (Host asked) p → Asks o p → Host asked ≡ o
host_alone asked (Run no_trace2) p h g =
    let x : slice_index p.0 0 ≡ 104 = ap (λ t. slice_index t 0) h.0 in
    let y : slice_index p.0 0 ≡ 114 = ap (λ t. slice_index t 0) g.0 in
    absurd (omega (arith, x, y))
host_alone asked Format p h g =
    let x : slice_index p.0 0 ≡ 104 = ap (λ t. slice_index t 0) h.0 in
    let y : slice_index p.0 0 ≡ 102 = ap (λ t. slice_index t 0) g in
    absurd (omega (arith, x, y))
host_alone asked Check p h g =
    let x : slice_index p.0 0 ≡ 104 = ap (λ t. slice_index t 0) h.0 in
    let y : slice_index p.0 0 ≡ 99 = ap (λ t. slice_index t 0) g in
    absurd (omega (arith, x, y))
host_alone asked (Rehearse viewers2) p h g =
    let x : slice_index p.0 0 ≡ 104 = ap (λ t. slice_index t 0) h.0 in
    let y : slice_index p.0 0 ≡ 114 = ap (λ t. slice_index t 0) g.0 in
    absurd (omega (arith, x, y))
host_alone asked (Agree viewers2 turns2) p h g =
    let x : slice_index p.0 0 ≡ 104 = ap (λ t. slice_index t 0) h.0 in
    let y : slice_index p.0 0 ≡ 97 = ap (λ t. slice_index t 0) g.0 in
    absurd (omega (arith, x, y))
host_alone asked (Host asked2) p h g = ap (λ x. Host x) (one_host p.1 asked asked2 h.1 g.1)
host_alone asked (View asked2) p h g =
    let x : slice_index p.0 0 ≡ 104 = ap (λ t. slice_index t 0) h.0 in
    let y : slice_index p.0 0 ≡ 118 = ap (λ t. slice_index t 0) g.0 in
    absurd (omega (arith, x, y))
host_alone asked (Serve asked2) p h g =
    let x : slice_index p.0 0 ≡ 104 = ap (λ t. slice_index t 0) h.0 in
    let y : slice_index p.0 0 ≡ 115 = ap (λ t. slice_index t 0) g.0 in
    absurd (omega (arith, x, y))
host_alone asked (Recall until2 info2 makes2) p h g =
    let x : slice_index p.0 0 ≡ 104 = ap (λ t. slice_index t 0) h.0 in
    let y : slice_index p.0 0 ≡ 114 = ap (λ t. slice_index t 0) g.0 in
    absurd (omega (arith, x, y))
host_alone asked (Part list2) p h g =
    let x : slice_index p.0 0 ≡ 104 = ap (λ t. slice_index t 0) h.0 in
    let y : slice_index p.0 0 ≡ 112 = ap (λ t. slice_index t 0) g.0 in
    absurd (omega (arith, x, y))
host_alone asked (Key viewers2) p h g =
    let x : slice_index p.0 0 ≡ 104 = ap (λ t. slice_index t 0) h.0 in
    let y : slice_index p.0 0 ≡ 107 = ap (λ t. slice_index t 0) g.0 in
    absurd (omega (arith, x, y))

view_alone : (asked : ViewOrder) (o : Order) (p : Text × List Row) → Asks (View asked) p → Asks o p → View asked ≡ o
view_alone asked (Run no_trace2) p h g =
    let x : slice_index p.0 0 ≡ 118 = ap (λ t. slice_index t 0) h.0 in
    let y : slice_index p.0 0 ≡ 114 = ap (λ t. slice_index t 0) g.0 in
    absurd (omega (arith, x, y))
view_alone asked Format p h g =
    let x : slice_index p.0 0 ≡ 118 = ap (λ t. slice_index t 0) h.0 in
    let y : slice_index p.0 0 ≡ 102 = ap (λ t. slice_index t 0) g in
    absurd (omega (arith, x, y))
view_alone asked Check p h g =
    let x : slice_index p.0 0 ≡ 118 = ap (λ t. slice_index t 0) h.0 in
    let y : slice_index p.0 0 ≡ 99 = ap (λ t. slice_index t 0) g in
    absurd (omega (arith, x, y))
view_alone asked (Rehearse viewers2) p h g =
    let x : slice_index p.0 0 ≡ 118 = ap (λ t. slice_index t 0) h.0 in
    let y : slice_index p.0 0 ≡ 114 = ap (λ t. slice_index t 0) g.0 in
    absurd (omega (arith, x, y))
view_alone asked (Agree viewers2 turns2) p h g =
    let x : slice_index p.0 0 ≡ 118 = ap (λ t. slice_index t 0) h.0 in
    let y : slice_index p.0 0 ≡ 97 = ap (λ t. slice_index t 0) g.0 in
    absurd (omega (arith, x, y))
view_alone asked (Host asked2) p h g =
    let x : slice_index p.0 0 ≡ 118 = ap (λ t. slice_index t 0) h.0 in
    let y : slice_index p.0 0 ≡ 104 = ap (λ t. slice_index t 0) g.0 in
    absurd (omega (arith, x, y))
view_alone asked (View asked2) p h g = ap (λ x. View x) (one_view p.1 asked asked2 h.1 g.1)
view_alone asked (Serve asked2) p h g =
    let x : slice_index p.0 0 ≡ 118 = ap (λ t. slice_index t 0) h.0 in
    let y : slice_index p.0 0 ≡ 115 = ap (λ t. slice_index t 0) g.0 in
    absurd (omega (arith, x, y))
view_alone asked (Recall until2 info2 makes2) p h g =
    let x : slice_index p.0 0 ≡ 118 = ap (λ t. slice_index t 0) h.0 in
    let y : slice_index p.0 0 ≡ 114 = ap (λ t. slice_index t 0) g.0 in
    absurd (omega (arith, x, y))
view_alone asked (Part list2) p h g =
    let x : slice_index p.0 0 ≡ 118 = ap (λ t. slice_index t 0) h.0 in
    let y : slice_index p.0 0 ≡ 112 = ap (λ t. slice_index t 0) g.0 in
    absurd (omega (arith, x, y))
view_alone asked (Key viewers2) p h g =
    let x : slice_index p.0 0 ≡ 118 = ap (λ t. slice_index t 0) h.0 in
    let y : slice_index p.0 0 ≡ 107 = ap (λ t. slice_index t 0) g.0 in
    absurd (omega (arith, x, y))

serve_alone : (asked : ServeOrder) (o : Order) (p : Text × List Row) → Asks (Serve asked) p → Asks o p → Serve asked ≡ o
serve_alone asked (Run no_trace2) p h g =
    let x : slice_index p.0 0 ≡ 115 = ap (λ t. slice_index t 0) h.0 in
    let y : slice_index p.0 0 ≡ 114 = ap (λ t. slice_index t 0) g.0 in
    absurd (omega (arith, x, y))
serve_alone asked Format p h g =
    let x : slice_index p.0 0 ≡ 115 = ap (λ t. slice_index t 0) h.0 in
    let y : slice_index p.0 0 ≡ 102 = ap (λ t. slice_index t 0) g in
    absurd (omega (arith, x, y))
serve_alone asked Check p h g =
    let x : slice_index p.0 0 ≡ 115 = ap (λ t. slice_index t 0) h.0 in
    let y : slice_index p.0 0 ≡ 99 = ap (λ t. slice_index t 0) g in
    absurd (omega (arith, x, y))
serve_alone asked (Rehearse viewers2) p h g =
    let x : slice_index p.0 0 ≡ 115 = ap (λ t. slice_index t 0) h.0 in
    let y : slice_index p.0 0 ≡ 114 = ap (λ t. slice_index t 0) g.0 in
    absurd (omega (arith, x, y))
serve_alone asked (Agree viewers2 turns2) p h g =
    let x : slice_index p.0 0 ≡ 115 = ap (λ t. slice_index t 0) h.0 in
    let y : slice_index p.0 0 ≡ 97 = ap (λ t. slice_index t 0) g.0 in
    absurd (omega (arith, x, y))
serve_alone asked (Host asked2) p h g =
    let x : slice_index p.0 0 ≡ 115 = ap (λ t. slice_index t 0) h.0 in
    let y : slice_index p.0 0 ≡ 104 = ap (λ t. slice_index t 0) g.0 in
    absurd (omega (arith, x, y))
serve_alone asked (View asked2) p h g =
    let x : slice_index p.0 0 ≡ 115 = ap (λ t. slice_index t 0) h.0 in
    let y : slice_index p.0 0 ≡ 118 = ap (λ t. slice_index t 0) g.0 in
    absurd (omega (arith, x, y))
serve_alone asked (Serve asked2) p h g = ap (λ x. Serve x) (one_serve p.1 asked asked2 h.1 g.1)
serve_alone asked (Recall until2 info2 makes2) p h g =
    let x : slice_index p.0 0 ≡ 115 = ap (λ t. slice_index t 0) h.0 in
    let y : slice_index p.0 0 ≡ 114 = ap (λ t. slice_index t 0) g.0 in
    absurd (omega (arith, x, y))
serve_alone asked (Part list2) p h g =
    let x : slice_index p.0 0 ≡ 115 = ap (λ t. slice_index t 0) h.0 in
    let y : slice_index p.0 0 ≡ 112 = ap (λ t. slice_index t 0) g.0 in
    absurd (omega (arith, x, y))
serve_alone asked (Key viewers2) p h g =
    let x : slice_index p.0 0 ≡ 115 = ap (λ t. slice_index t 0) h.0 in
    let y : slice_index p.0 0 ≡ 107 = ap (λ t. slice_index t 0) g.0 in
    absurd (omega (arith, x, y))

recall_alone : (until : Option ℕ) (info makes : Bool) (o : Order) (p : Text × List Row) → Asks (Recall until info makes) p → Asks o p → Recall until info makes ≡ o
recall_alone until info makes (Run no_trace2) p h g =
    let x : slice_index p.0 1 ≡ 101 = ap (λ t. slice_index t 1) h.0 in
    let y : slice_index p.0 1 ≡ 117 = ap (λ t. slice_index t 1) g.0 in
    absurd (omega (arith, x, y))
recall_alone until info makes Format p h g =
    let x : slice_index p.0 0 ≡ 114 = ap (λ t. slice_index t 0) h.0 in
    let y : slice_index p.0 0 ≡ 102 = ap (λ t. slice_index t 0) g in
    absurd (omega (arith, x, y))
recall_alone until info makes Check p h g =
    let x : slice_index p.0 0 ≡ 114 = ap (λ t. slice_index t 0) h.0 in
    let y : slice_index p.0 0 ≡ 99 = ap (λ t. slice_index t 0) g in
    absurd (omega (arith, x, y))
recall_alone until info makes (Rehearse viewers2) p h g =
    let x : slice_index p.0 2 ≡ 99 = ap (λ t. slice_index t 2) h.0 in
    let y : slice_index p.0 2 ≡ 104 = ap (λ t. slice_index t 2) g.0 in
    absurd (omega (arith, x, y))
recall_alone until info makes (Agree viewers2 turns2) p h g =
    let x : slice_index p.0 0 ≡ 114 = ap (λ t. slice_index t 0) h.0 in
    let y : slice_index p.0 0 ≡ 97 = ap (λ t. slice_index t 0) g.0 in
    absurd (omega (arith, x, y))
recall_alone until info makes (Host asked2) p h g =
    let x : slice_index p.0 0 ≡ 114 = ap (λ t. slice_index t 0) h.0 in
    let y : slice_index p.0 0 ≡ 104 = ap (λ t. slice_index t 0) g.0 in
    absurd (omega (arith, x, y))
recall_alone until info makes (View asked2) p h g =
    let x : slice_index p.0 0 ≡ 114 = ap (λ t. slice_index t 0) h.0 in
    let y : slice_index p.0 0 ≡ 118 = ap (λ t. slice_index t 0) g.0 in
    absurd (omega (arith, x, y))
recall_alone until info makes (Serve asked2) p h g =
    let x : slice_index p.0 0 ≡ 114 = ap (λ t. slice_index t 0) h.0 in
    let y : slice_index p.0 0 ≡ 115 = ap (λ t. slice_index t 0) g.0 in
    absurd (omega (arith, x, y))
recall_alone until info makes (Recall until2 info2 makes2) p h g = ap (λ o. Recall o info makes) (one_or_none _ p.1 _ _ until until2 h.1 g.1) ∙ ap (λ b. Recall until2 b makes) (h.2 ∙ sym g.2) ∙ ap (λ b. Recall until2 info2 b) (h.3 ∙ sym g.3)
recall_alone until info makes (Part list2) p h g =
    let x : slice_index p.0 0 ≡ 114 = ap (λ t. slice_index t 0) h.0 in
    let y : slice_index p.0 0 ≡ 112 = ap (λ t. slice_index t 0) g.0 in
    absurd (omega (arith, x, y))
recall_alone until info makes (Key viewers2) p h g =
    let x : slice_index p.0 0 ≡ 114 = ap (λ t. slice_index t 0) h.0 in
    let y : slice_index p.0 0 ≡ 107 = ap (λ t. slice_index t 0) g.0 in
    absurd (omega (arith, x, y))

part_alone : (list : Bool) (o : Order) (p : Text × List Row) → Asks (Part list) p → Asks o p → Part list ≡ o
part_alone list (Run no_trace2) p h g =
    let x : slice_index p.0 0 ≡ 112 = ap (λ t. slice_index t 0) h.0 in
    let y : slice_index p.0 0 ≡ 114 = ap (λ t. slice_index t 0) g.0 in
    absurd (omega (arith, x, y))
part_alone list Format p h g =
    let x : slice_index p.0 0 ≡ 112 = ap (λ t. slice_index t 0) h.0 in
    let y : slice_index p.0 0 ≡ 102 = ap (λ t. slice_index t 0) g in
    absurd (omega (arith, x, y))
part_alone list Check p h g =
    let x : slice_index p.0 0 ≡ 112 = ap (λ t. slice_index t 0) h.0 in
    let y : slice_index p.0 0 ≡ 99 = ap (λ t. slice_index t 0) g in
    absurd (omega (arith, x, y))
part_alone list (Rehearse viewers2) p h g =
    let x : slice_index p.0 0 ≡ 112 = ap (λ t. slice_index t 0) h.0 in
    let y : slice_index p.0 0 ≡ 114 = ap (λ t. slice_index t 0) g.0 in
    absurd (omega (arith, x, y))
part_alone list (Agree viewers2 turns2) p h g =
    let x : slice_index p.0 0 ≡ 112 = ap (λ t. slice_index t 0) h.0 in
    let y : slice_index p.0 0 ≡ 97 = ap (λ t. slice_index t 0) g.0 in
    absurd (omega (arith, x, y))
part_alone list (Host asked2) p h g =
    let x : slice_index p.0 0 ≡ 112 = ap (λ t. slice_index t 0) h.0 in
    let y : slice_index p.0 0 ≡ 104 = ap (λ t. slice_index t 0) g.0 in
    absurd (omega (arith, x, y))
part_alone list (View asked2) p h g =
    let x : slice_index p.0 0 ≡ 112 = ap (λ t. slice_index t 0) h.0 in
    let y : slice_index p.0 0 ≡ 118 = ap (λ t. slice_index t 0) g.0 in
    absurd (omega (arith, x, y))
part_alone list (Serve asked2) p h g =
    let x : slice_index p.0 0 ≡ 112 = ap (λ t. slice_index t 0) h.0 in
    let y : slice_index p.0 0 ≡ 115 = ap (λ t. slice_index t 0) g.0 in
    absurd (omega (arith, x, y))
part_alone list (Recall until2 info2 makes2) p h g =
    let x : slice_index p.0 0 ≡ 112 = ap (λ t. slice_index t 0) h.0 in
    let y : slice_index p.0 0 ≡ 114 = ap (λ t. slice_index t 0) g.0 in
    absurd (omega (arith, x, y))
part_alone list (Part list2) p h g = ap (λ b. Part b) (h.1 ∙ sym g.1)
part_alone list (Key viewers2) p h g =
    let x : slice_index p.0 0 ≡ 112 = ap (λ t. slice_index t 0) h.0 in
    let y : slice_index p.0 0 ≡ 107 = ap (λ t. slice_index t 0) g.0 in
    absurd (omega (arith, x, y))

key_alone : (viewers : ℕ) (o : Order) (p : Text × List Row) → Asks (Key viewers) p → Asks o p → Key viewers ≡ o
key_alone viewers (Run no_trace2) p h g =
    let x : slice_index p.0 0 ≡ 107 = ap (λ t. slice_index t 0) h.0 in
    let y : slice_index p.0 0 ≡ 114 = ap (λ t. slice_index t 0) g.0 in
    absurd (omega (arith, x, y))
key_alone viewers Format p h g =
    let x : slice_index p.0 0 ≡ 107 = ap (λ t. slice_index t 0) h.0 in
    let y : slice_index p.0 0 ≡ 102 = ap (λ t. slice_index t 0) g in
    absurd (omega (arith, x, y))
key_alone viewers Check p h g =
    let x : slice_index p.0 0 ≡ 107 = ap (λ t. slice_index t 0) h.0 in
    let y : slice_index p.0 0 ≡ 99 = ap (λ t. slice_index t 0) g in
    absurd (omega (arith, x, y))
key_alone viewers (Rehearse viewers2) p h g =
    let x : slice_index p.0 0 ≡ 107 = ap (λ t. slice_index t 0) h.0 in
    let y : slice_index p.0 0 ≡ 114 = ap (λ t. slice_index t 0) g.0 in
    absurd (omega (arith, x, y))
key_alone viewers (Agree viewers2 turns2) p h g =
    let x : slice_index p.0 0 ≡ 107 = ap (λ t. slice_index t 0) h.0 in
    let y : slice_index p.0 0 ≡ 97 = ap (λ t. slice_index t 0) g.0 in
    absurd (omega (arith, x, y))
key_alone viewers (Host asked2) p h g =
    let x : slice_index p.0 0 ≡ 107 = ap (λ t. slice_index t 0) h.0 in
    let y : slice_index p.0 0 ≡ 104 = ap (λ t. slice_index t 0) g.0 in
    absurd (omega (arith, x, y))
key_alone viewers (View asked2) p h g =
    let x : slice_index p.0 0 ≡ 107 = ap (λ t. slice_index t 0) h.0 in
    let y : slice_index p.0 0 ≡ 118 = ap (λ t. slice_index t 0) g.0 in
    absurd (omega (arith, x, y))
key_alone viewers (Serve asked2) p h g =
    let x : slice_index p.0 0 ≡ 107 = ap (λ t. slice_index t 0) h.0 in
    let y : slice_index p.0 0 ≡ 115 = ap (λ t. slice_index t 0) g.0 in
    absurd (omega (arith, x, y))
key_alone viewers (Recall until2 info2 makes2) p h g =
    let x : slice_index p.0 0 ≡ 107 = ap (λ t. slice_index t 0) h.0 in
    let y : slice_index p.0 0 ≡ 114 = ap (λ t. slice_index t 0) g.0 in
    absurd (omega (arith, x, y))
key_alone viewers (Part list2) p h g =
    let x : slice_index p.0 0 ≡ 107 = ap (λ t. slice_index t 0) h.0 in
    let y : slice_index p.0 0 ≡ 112 = ap (λ t. slice_index t 0) g.0 in
    absurd (omega (arith, x, y))
key_alone viewers (Key viewers2) p h g = ap (λ n. Key n) (one h.1 g.1)

asks_one : (a b : Order) (p : Text × List Row) → Asks a p → Asks b p → a ≡ b
asks_one (Run no_trace) b p h g = run_alone no_trace b p h g
asks_one Format b p h g = format_alone b p h g
asks_one Check b p h g = check_alone b p h g
asks_one (Rehearse viewers) b p h g = rehearse_alone viewers b p h g
asks_one (Agree viewers turns) b p h g = agree_alone viewers turns b p h g
asks_one (Host asked) b p h g = host_alone asked b p h g
asks_one (View asked) b p h g = view_alone asked b p h g
asks_one (Serve asked) b p h g = serve_alone asked b p h g
asks_one (Recall until info makes) b p h g = recall_alone until info makes b p h g
asks_one (Part list) b p h g = part_alone list b p h g
asks_one (Key viewers) b p h g = key_alone viewers b p h g

some_one : (x : Option (Text × List Row)) (a b : Order) → IsSomeAnd x (Asks a) → IsSomeAnd x (Asks b) → a ≡ b
some_one (Some p) a b h g = asks_one a b p h g
some_one None a b h g = absurd h

pub means_one : (words : List Text) (a b : Order) → Means words a → Means words b → a ≡ b
means_one words a b h g = some_one (subcommand_of program words) a b h.asks g.asks
