-- Words that ask for a command without datagrams mean it alone: its name tells which, and each of its options has one
-- number.
use Rattle.std.proofs.Common.{◌≡◌, ◌∙◌, ℕ, Bool, List, ap, arith, refl, slice_index, sym}
use Rattle.clap.specs.Words.{Row, Text}
use Rattle.app_words.specs.declared.order.Order.{Order}
use Rattle.app_words.specs.declared.order.Order.TheVariants.{Run, Format, Check, Rehearse, Agree, Host, View, Serve, Recall, Part, Key}
use Rattle.app_words.specs.Words.{Asks}
use Rattle.app_words.proofs.OneNumber.{one}

pub run_alone : (no_trace : Bool) (o : Order) (p : Text × List Row) → Asks (Run no_trace) p → Asks o p → Run no_trace ≡ o
run_alone no_trace (Run no_trace2) p h g = ap (λ b. Run b) (h.1 ∙ sym g.1)
run_alone no_trace Format p h g =
    let x : slice_index p.0 0 ≡ 114 = ap (λ t. slice_index t 0) h.0 in
    let y : slice_index p.0 0 ≡ 102 = ap (λ t. slice_index t 0) g in
    absurd (omega (arith, x, y))
run_alone no_trace Check p h g =
    let x : slice_index p.0 0 ≡ 114 = ap (λ t. slice_index t 0) h.0 in
    let y : slice_index p.0 0 ≡ 99 = ap (λ t. slice_index t 0) g in
    absurd (omega (arith, x, y))
run_alone no_trace (Rehearse viewers2) p h g =
    let x : slice_index p.0 1 ≡ 117 = ap (λ t. slice_index t 1) h.0 in
    let y : slice_index p.0 1 ≡ 101 = ap (λ t. slice_index t 1) g.0 in
    absurd (omega (arith, x, y))
run_alone no_trace (Agree viewers2 turns2) p h g =
    let x : slice_index p.0 0 ≡ 114 = ap (λ t. slice_index t 0) h.0 in
    let y : slice_index p.0 0 ≡ 97 = ap (λ t. slice_index t 0) g.0 in
    absurd (omega (arith, x, y))
run_alone no_trace (Host asked2) p h g =
    let x : slice_index p.0 0 ≡ 114 = ap (λ t. slice_index t 0) h.0 in
    let y : slice_index p.0 0 ≡ 104 = ap (λ t. slice_index t 0) g.0 in
    absurd (omega (arith, x, y))
run_alone no_trace (View asked2) p h g =
    let x : slice_index p.0 0 ≡ 114 = ap (λ t. slice_index t 0) h.0 in
    let y : slice_index p.0 0 ≡ 118 = ap (λ t. slice_index t 0) g.0 in
    absurd (omega (arith, x, y))
run_alone no_trace (Serve asked2) p h g =
    let x : slice_index p.0 0 ≡ 114 = ap (λ t. slice_index t 0) h.0 in
    let y : slice_index p.0 0 ≡ 115 = ap (λ t. slice_index t 0) g.0 in
    absurd (omega (arith, x, y))
run_alone no_trace (Recall until2 info2 makes2) p h g =
    let x : slice_index p.0 1 ≡ 117 = ap (λ t. slice_index t 1) h.0 in
    let y : slice_index p.0 1 ≡ 101 = ap (λ t. slice_index t 1) g.0 in
    absurd (omega (arith, x, y))
run_alone no_trace (Part list2) p h g =
    let x : slice_index p.0 0 ≡ 114 = ap (λ t. slice_index t 0) h.0 in
    let y : slice_index p.0 0 ≡ 112 = ap (λ t. slice_index t 0) g.0 in
    absurd (omega (arith, x, y))
run_alone no_trace (Key viewers2) p h g =
    let x : slice_index p.0 0 ≡ 114 = ap (λ t. slice_index t 0) h.0 in
    let y : slice_index p.0 0 ≡ 107 = ap (λ t. slice_index t 0) g.0 in
    absurd (omega (arith, x, y))

pub format_alone : (o : Order) (p : Text × List Row) → Asks Format p → Asks o p → Format ≡ o
format_alone (Run no_trace2) p h g =
    let x : slice_index p.0 0 ≡ 102 = ap (λ t. slice_index t 0) h in
    let y : slice_index p.0 0 ≡ 114 = ap (λ t. slice_index t 0) g.0 in
    absurd (omega (arith, x, y))
format_alone Format p h g = refl
format_alone Check p h g =
    let x : slice_index p.0 0 ≡ 102 = ap (λ t. slice_index t 0) h in
    let y : slice_index p.0 0 ≡ 99 = ap (λ t. slice_index t 0) g in
    absurd (omega (arith, x, y))
format_alone (Rehearse viewers2) p h g =
    let x : slice_index p.0 0 ≡ 102 = ap (λ t. slice_index t 0) h in
    let y : slice_index p.0 0 ≡ 114 = ap (λ t. slice_index t 0) g.0 in
    absurd (omega (arith, x, y))
format_alone (Agree viewers2 turns2) p h g =
    let x : slice_index p.0 0 ≡ 102 = ap (λ t. slice_index t 0) h in
    let y : slice_index p.0 0 ≡ 97 = ap (λ t. slice_index t 0) g.0 in
    absurd (omega (arith, x, y))
format_alone (Host asked2) p h g =
    let x : slice_index p.0 0 ≡ 102 = ap (λ t. slice_index t 0) h in
    let y : slice_index p.0 0 ≡ 104 = ap (λ t. slice_index t 0) g.0 in
    absurd (omega (arith, x, y))
format_alone (View asked2) p h g =
    let x : slice_index p.0 0 ≡ 102 = ap (λ t. slice_index t 0) h in
    let y : slice_index p.0 0 ≡ 118 = ap (λ t. slice_index t 0) g.0 in
    absurd (omega (arith, x, y))
format_alone (Serve asked2) p h g =
    let x : slice_index p.0 0 ≡ 102 = ap (λ t. slice_index t 0) h in
    let y : slice_index p.0 0 ≡ 115 = ap (λ t. slice_index t 0) g.0 in
    absurd (omega (arith, x, y))
format_alone (Recall until2 info2 makes2) p h g =
    let x : slice_index p.0 0 ≡ 102 = ap (λ t. slice_index t 0) h in
    let y : slice_index p.0 0 ≡ 114 = ap (λ t. slice_index t 0) g.0 in
    absurd (omega (arith, x, y))
format_alone (Part list2) p h g =
    let x : slice_index p.0 0 ≡ 102 = ap (λ t. slice_index t 0) h in
    let y : slice_index p.0 0 ≡ 112 = ap (λ t. slice_index t 0) g.0 in
    absurd (omega (arith, x, y))
format_alone (Key viewers2) p h g =
    let x : slice_index p.0 0 ≡ 102 = ap (λ t. slice_index t 0) h in
    let y : slice_index p.0 0 ≡ 107 = ap (λ t. slice_index t 0) g.0 in
    absurd (omega (arith, x, y))

pub check_alone : (o : Order) (p : Text × List Row) → Asks Check p → Asks o p → Check ≡ o
check_alone (Run no_trace2) p h g =
    let x : slice_index p.0 0 ≡ 99 = ap (λ t. slice_index t 0) h in
    let y : slice_index p.0 0 ≡ 114 = ap (λ t. slice_index t 0) g.0 in
    absurd (omega (arith, x, y))
check_alone Format p h g =
    let x : slice_index p.0 0 ≡ 99 = ap (λ t. slice_index t 0) h in
    let y : slice_index p.0 0 ≡ 102 = ap (λ t. slice_index t 0) g in
    absurd (omega (arith, x, y))
check_alone Check p h g = refl
check_alone (Rehearse viewers2) p h g =
    let x : slice_index p.0 0 ≡ 99 = ap (λ t. slice_index t 0) h in
    let y : slice_index p.0 0 ≡ 114 = ap (λ t. slice_index t 0) g.0 in
    absurd (omega (arith, x, y))
check_alone (Agree viewers2 turns2) p h g =
    let x : slice_index p.0 0 ≡ 99 = ap (λ t. slice_index t 0) h in
    let y : slice_index p.0 0 ≡ 97 = ap (λ t. slice_index t 0) g.0 in
    absurd (omega (arith, x, y))
check_alone (Host asked2) p h g =
    let x : slice_index p.0 0 ≡ 99 = ap (λ t. slice_index t 0) h in
    let y : slice_index p.0 0 ≡ 104 = ap (λ t. slice_index t 0) g.0 in
    absurd (omega (arith, x, y))
check_alone (View asked2) p h g =
    let x : slice_index p.0 0 ≡ 99 = ap (λ t. slice_index t 0) h in
    let y : slice_index p.0 0 ≡ 118 = ap (λ t. slice_index t 0) g.0 in
    absurd (omega (arith, x, y))
check_alone (Serve asked2) p h g =
    let x : slice_index p.0 0 ≡ 99 = ap (λ t. slice_index t 0) h in
    let y : slice_index p.0 0 ≡ 115 = ap (λ t. slice_index t 0) g.0 in
    absurd (omega (arith, x, y))
check_alone (Recall until2 info2 makes2) p h g =
    let x : slice_index p.0 0 ≡ 99 = ap (λ t. slice_index t 0) h in
    let y : slice_index p.0 0 ≡ 114 = ap (λ t. slice_index t 0) g.0 in
    absurd (omega (arith, x, y))
check_alone (Part list2) p h g =
    let x : slice_index p.0 0 ≡ 99 = ap (λ t. slice_index t 0) h in
    let y : slice_index p.0 0 ≡ 112 = ap (λ t. slice_index t 0) g.0 in
    absurd (omega (arith, x, y))
check_alone (Key viewers2) p h g =
    let x : slice_index p.0 0 ≡ 99 = ap (λ t. slice_index t 0) h in
    let y : slice_index p.0 0 ≡ 107 = ap (λ t. slice_index t 0) g.0 in
    absurd (omega (arith, x, y))

pub rehearse_alone : (viewers : ℕ) (o : Order) (p : Text × List Row) → Asks (Rehearse viewers) p → Asks o p → Rehearse viewers ≡ o
rehearse_alone viewers (Run no_trace2) p h g =
    let x : slice_index p.0 1 ≡ 101 = ap (λ t. slice_index t 1) h.0 in
    let y : slice_index p.0 1 ≡ 117 = ap (λ t. slice_index t 1) g.0 in
    absurd (omega (arith, x, y))
rehearse_alone viewers Format p h g =
    let x : slice_index p.0 0 ≡ 114 = ap (λ t. slice_index t 0) h.0 in
    let y : slice_index p.0 0 ≡ 102 = ap (λ t. slice_index t 0) g in
    absurd (omega (arith, x, y))
rehearse_alone viewers Check p h g =
    let x : slice_index p.0 0 ≡ 114 = ap (λ t. slice_index t 0) h.0 in
    let y : slice_index p.0 0 ≡ 99 = ap (λ t. slice_index t 0) g in
    absurd (omega (arith, x, y))
rehearse_alone viewers (Rehearse viewers2) p h g = ap (λ n. Rehearse n) (one h.1 g.1)
rehearse_alone viewers (Agree viewers2 turns2) p h g =
    let x : slice_index p.0 0 ≡ 114 = ap (λ t. slice_index t 0) h.0 in
    let y : slice_index p.0 0 ≡ 97 = ap (λ t. slice_index t 0) g.0 in
    absurd (omega (arith, x, y))
rehearse_alone viewers (Host asked2) p h g =
    let x : slice_index p.0 0 ≡ 114 = ap (λ t. slice_index t 0) h.0 in
    let y : slice_index p.0 0 ≡ 104 = ap (λ t. slice_index t 0) g.0 in
    absurd (omega (arith, x, y))
rehearse_alone viewers (View asked2) p h g =
    let x : slice_index p.0 0 ≡ 114 = ap (λ t. slice_index t 0) h.0 in
    let y : slice_index p.0 0 ≡ 118 = ap (λ t. slice_index t 0) g.0 in
    absurd (omega (arith, x, y))
rehearse_alone viewers (Serve asked2) p h g =
    let x : slice_index p.0 0 ≡ 114 = ap (λ t. slice_index t 0) h.0 in
    let y : slice_index p.0 0 ≡ 115 = ap (λ t. slice_index t 0) g.0 in
    absurd (omega (arith, x, y))
rehearse_alone viewers (Recall until2 info2 makes2) p h g =
    let x : slice_index p.0 2 ≡ 104 = ap (λ t. slice_index t 2) h.0 in
    let y : slice_index p.0 2 ≡ 99 = ap (λ t. slice_index t 2) g.0 in
    absurd (omega (arith, x, y))
rehearse_alone viewers (Part list2) p h g =
    let x : slice_index p.0 0 ≡ 114 = ap (λ t. slice_index t 0) h.0 in
    let y : slice_index p.0 0 ≡ 112 = ap (λ t. slice_index t 0) g.0 in
    absurd (omega (arith, x, y))
rehearse_alone viewers (Key viewers2) p h g =
    let x : slice_index p.0 0 ≡ 114 = ap (λ t. slice_index t 0) h.0 in
    let y : slice_index p.0 0 ≡ 107 = ap (λ t. slice_index t 0) g.0 in
    absurd (omega (arith, x, y))

pub agree_alone : (viewers : ℕ) (turns : ℕ) (o : Order) (p : Text × List Row) → Asks (Agree viewers turns) p → Asks o p → Agree viewers turns ≡ o
agree_alone viewers turns (Run no_trace2) p h g =
    let x : slice_index p.0 0 ≡ 97 = ap (λ t. slice_index t 0) h.0 in
    let y : slice_index p.0 0 ≡ 114 = ap (λ t. slice_index t 0) g.0 in
    absurd (omega (arith, x, y))
agree_alone viewers turns Format p h g =
    let x : slice_index p.0 0 ≡ 97 = ap (λ t. slice_index t 0) h.0 in
    let y : slice_index p.0 0 ≡ 102 = ap (λ t. slice_index t 0) g in
    absurd (omega (arith, x, y))
agree_alone viewers turns Check p h g =
    let x : slice_index p.0 0 ≡ 97 = ap (λ t. slice_index t 0) h.0 in
    let y : slice_index p.0 0 ≡ 99 = ap (λ t. slice_index t 0) g in
    absurd (omega (arith, x, y))
agree_alone viewers turns (Rehearse viewers2) p h g =
    let x : slice_index p.0 0 ≡ 97 = ap (λ t. slice_index t 0) h.0 in
    let y : slice_index p.0 0 ≡ 114 = ap (λ t. slice_index t 0) g.0 in
    absurd (omega (arith, x, y))
agree_alone viewers turns (Agree viewers2 turns2) p h g = ap (λ n. Agree n turns) (one h.1 g.1) ∙ ap (λ n. Agree viewers2 n) (one h.2 g.2)
agree_alone viewers turns (Host asked2) p h g =
    let x : slice_index p.0 0 ≡ 97 = ap (λ t. slice_index t 0) h.0 in
    let y : slice_index p.0 0 ≡ 104 = ap (λ t. slice_index t 0) g.0 in
    absurd (omega (arith, x, y))
agree_alone viewers turns (View asked2) p h g =
    let x : slice_index p.0 0 ≡ 97 = ap (λ t. slice_index t 0) h.0 in
    let y : slice_index p.0 0 ≡ 118 = ap (λ t. slice_index t 0) g.0 in
    absurd (omega (arith, x, y))
agree_alone viewers turns (Serve asked2) p h g =
    let x : slice_index p.0 0 ≡ 97 = ap (λ t. slice_index t 0) h.0 in
    let y : slice_index p.0 0 ≡ 115 = ap (λ t. slice_index t 0) g.0 in
    absurd (omega (arith, x, y))
agree_alone viewers turns (Recall until2 info2 makes2) p h g =
    let x : slice_index p.0 0 ≡ 97 = ap (λ t. slice_index t 0) h.0 in
    let y : slice_index p.0 0 ≡ 114 = ap (λ t. slice_index t 0) g.0 in
    absurd (omega (arith, x, y))
agree_alone viewers turns (Part list2) p h g =
    let x : slice_index p.0 0 ≡ 97 = ap (λ t. slice_index t 0) h.0 in
    let y : slice_index p.0 0 ≡ 112 = ap (λ t. slice_index t 0) g.0 in
    absurd (omega (arith, x, y))
agree_alone viewers turns (Key viewers2) p h g =
    let x : slice_index p.0 0 ≡ 97 = ap (λ t. slice_index t 0) h.0 in
    let y : slice_index p.0 0 ≡ 107 = ap (λ t. slice_index t 0) g.0 in
    absurd (omega (arith, x, y))
