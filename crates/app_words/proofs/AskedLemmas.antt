-- What the options of a command must have for its order.
use Rattle.std.proofs.Common.{◌≡◌, ◌≤◌, ℕ, List, codes, Option, Some, None, IfSome, IfNone, IsSomeAnd, ◌∙◌, Bool, ap, arith, slice_index, sym}
use Rattle.clap.specs.Words.{Row, Text}
use Rattle.app_words.specs.declared.order.HostOrder.{HostOrder}
use Rattle.app_words.specs.declared.order.Order.{Order}
use Rattle.app_words.specs.declared.order.Order.TheVariants.{Run, Format, Check, Rehearse, Agree, Host, View, Serve, Recall, Part, Key}
use Rattle.app_words.specs.declared.order.ServeOrder.{ServeOrder}
use Rattle.app_words.specs.declared.order.ViewEnd.{ViewEnd}
use Rattle.app_words.specs.declared.order.ViewEnd.TheVariants.{Until, Exactly}
use Rattle.app_words.specs.declared.order.ViewOrder.{ViewOrder}
use Rattle.app_words.specs.Misfits.{host_misfit, misfit_of, recall_misfit, serve_misfit}
use Rattle.app_words.specs.declared.misfit.Misfit.{Misfit}
use Rattle.app_words.specs.Words.{Asks, AsksHost, AsksServe, AsksView, IsEnd, IsInRange, IsViewers, IsTurns, MayHaveExactly, MayHaveNumberIn, MayHaveUntil, end_count, end_of, is_given, is_text_given}
use Rattle.app_words.proofs.OneNumber.{one_host, one_serve, one_view, without}

pub agree_needs : (rows : List Row) (o : Order) → Asks o (codes "agree", rows)
    → (viewers : ℕ) × (turns : ℕ) × IsViewers rows viewers × IsTurns rows turns
agree_needs rows (Run no_trace) h =
    let bad : 97 ≡ 114 = ap (λ t. slice_index t 0) h.0 in absurd (omega (arith, bad))
agree_needs rows Format h =
    let bad : 97 ≡ 102 = ap (λ t. slice_index t 0) h in absurd (omega (arith, bad))
agree_needs rows Check h =
    let bad : 97 ≡ 99 = ap (λ t. slice_index t 0) h in absurd (omega (arith, bad))
agree_needs rows (Rehearse viewers) h =
    let bad : 97 ≡ 114 = ap (λ t. slice_index t 0) h.0 in absurd (omega (arith, bad))
agree_needs rows (Agree viewers turns) h = (viewers, turns, h.1, h.2)
agree_needs rows (Host asked) h =
    let bad : 97 ≡ 104 = ap (λ t. slice_index t 0) h.0 in absurd (omega (arith, bad))
agree_needs rows (View asked) h =
    let bad : 97 ≡ 118 = ap (λ t. slice_index t 0) h.0 in absurd (omega (arith, bad))
agree_needs rows (Serve asked) h =
    let bad : 97 ≡ 115 = ap (λ t. slice_index t 0) h.0 in absurd (omega (arith, bad))
agree_needs rows (Recall until info makes) h =
    let bad : 97 ≡ 114 = ap (λ t. slice_index t 0) h.0 in absurd (omega (arith, bad))
agree_needs rows (Part list) h =
    let bad : 97 ≡ 112 = ap (λ t. slice_index t 0) h.0 in absurd (omega (arith, bad))
agree_needs rows (Key viewers) h =
    let bad : 97 ≡ 107 = ap (λ t. slice_index t 0) h.0 in absurd (omega (arith, bad))

pub host_needs : (rows : List Row) (o : Order) → Asks o (codes "host", rows)
    → (asked : HostOrder) × AsksHost rows asked × (host_misfit asked ≡ None)
host_needs rows (Run no_trace) h =
    let bad : 104 ≡ 114 = ap (λ t. slice_index t 0) h.0 in absurd (omega (arith, bad))
host_needs rows Format h =
    let bad : 104 ≡ 102 = ap (λ t. slice_index t 0) h in absurd (omega (arith, bad))
host_needs rows Check h =
    let bad : 104 ≡ 99 = ap (λ t. slice_index t 0) h in absurd (omega (arith, bad))
host_needs rows (Rehearse viewers) h =
    let bad : 104 ≡ 114 = ap (λ t. slice_index t 0) h.0 in absurd (omega (arith, bad))
host_needs rows (Agree viewers turns) h =
    let bad : 104 ≡ 97 = ap (λ t. slice_index t 0) h.0 in absurd (omega (arith, bad))
host_needs rows (Host asked) h = (asked, h.1, h.2)
host_needs rows (View asked) h =
    let bad : 104 ≡ 118 = ap (λ t. slice_index t 0) h.0 in absurd (omega (arith, bad))
host_needs rows (Serve asked) h =
    let bad : 104 ≡ 115 = ap (λ t. slice_index t 0) h.0 in absurd (omega (arith, bad))
host_needs rows (Recall until info makes) h =
    let bad : 104 ≡ 114 = ap (λ t. slice_index t 0) h.0 in absurd (omega (arith, bad))
host_needs rows (Part list) h =
    let bad : 104 ≡ 112 = ap (λ t. slice_index t 0) h.0 in absurd (omega (arith, bad))
host_needs rows (Key viewers) h =
    let bad : 104 ≡ 107 = ap (λ t. slice_index t 0) h.0 in absurd (omega (arith, bad))

pub view_needs : (rows : List Row) (o : Order) → Asks o (codes "view", rows)
    → (asked : ViewOrder) × AsksView rows asked × (misfit_of asked ≡ None)
view_needs rows (Run no_trace) h =
    let bad : 118 ≡ 114 = ap (λ t. slice_index t 0) h.0 in absurd (omega (arith, bad))
view_needs rows Format h =
    let bad : 118 ≡ 102 = ap (λ t. slice_index t 0) h in absurd (omega (arith, bad))
view_needs rows Check h =
    let bad : 118 ≡ 99 = ap (λ t. slice_index t 0) h in absurd (omega (arith, bad))
view_needs rows (Rehearse viewers) h =
    let bad : 118 ≡ 114 = ap (λ t. slice_index t 0) h.0 in absurd (omega (arith, bad))
view_needs rows (Agree viewers turns) h =
    let bad : 118 ≡ 97 = ap (λ t. slice_index t 0) h.0 in absurd (omega (arith, bad))
view_needs rows (Host asked) h =
    let bad : 118 ≡ 104 = ap (λ t. slice_index t 0) h.0 in absurd (omega (arith, bad))
view_needs rows (View asked) h = (asked, h.1, h.2)
view_needs rows (Serve asked) h =
    let bad : 118 ≡ 115 = ap (λ t. slice_index t 0) h.0 in absurd (omega (arith, bad))
view_needs rows (Recall until info makes) h =
    let bad : 118 ≡ 114 = ap (λ t. slice_index t 0) h.0 in absurd (omega (arith, bad))
view_needs rows (Part list) h =
    let bad : 118 ≡ 112 = ap (λ t. slice_index t 0) h.0 in absurd (omega (arith, bad))
view_needs rows (Key viewers) h =
    let bad : 118 ≡ 107 = ap (λ t. slice_index t 0) h.0 in absurd (omega (arith, bad))

pub serve_needs : (rows : List Row) (o : Order) → Asks o (codes "serve", rows)
    → (asked : ServeOrder) × AsksServe rows asked × (serve_misfit asked ≡ None)
serve_needs rows (Run no_trace) h =
    let bad : 115 ≡ 114 = ap (λ t. slice_index t 0) h.0 in absurd (omega (arith, bad))
serve_needs rows Format h =
    let bad : 115 ≡ 102 = ap (λ t. slice_index t 0) h in absurd (omega (arith, bad))
serve_needs rows Check h =
    let bad : 115 ≡ 99 = ap (λ t. slice_index t 0) h in absurd (omega (arith, bad))
serve_needs rows (Rehearse viewers) h =
    let bad : 115 ≡ 114 = ap (λ t. slice_index t 0) h.0 in absurd (omega (arith, bad))
serve_needs rows (Agree viewers turns) h =
    let bad : 115 ≡ 97 = ap (λ t. slice_index t 0) h.0 in absurd (omega (arith, bad))
serve_needs rows (Host asked) h =
    let bad : 115 ≡ 104 = ap (λ t. slice_index t 0) h.0 in absurd (omega (arith, bad))
serve_needs rows (View asked) h =
    let bad : 115 ≡ 118 = ap (λ t. slice_index t 0) h.0 in absurd (omega (arith, bad))
serve_needs rows (Serve asked) h = (asked, h.1, h.2)
serve_needs rows (Recall until info makes) h =
    let bad : 115 ≡ 114 = ap (λ t. slice_index t 0) h.0 in absurd (omega (arith, bad))
serve_needs rows (Part list) h =
    let bad : 115 ≡ 112 = ap (λ t. slice_index t 0) h.0 in absurd (omega (arith, bad))
serve_needs rows (Key viewers) h =
    let bad : 115 ≡ 107 = ap (λ t. slice_index t 0) h.0 in absurd (omega (arith, bad))

pub recall_needs : (rows : List Row) (o : Order) → Asks o (codes "recall", rows)
    → (until : Option ℕ) × MayHaveUntil rows until
    × (recall_misfit (is_given (codes "info") rows) (is_text_given (codes "new-log") rows) ≡ None)
recall_needs rows (Run no_trace) h =
    let bad : 101 ≡ 117 = ap (λ t. slice_index t 1) h.0 in absurd (omega (arith, bad))
recall_needs rows Format h =
    let bad : 114 ≡ 102 = ap (λ t. slice_index t 0) h in absurd (omega (arith, bad))
recall_needs rows Check h =
    let bad : 114 ≡ 99 = ap (λ t. slice_index t 0) h in absurd (omega (arith, bad))
recall_needs rows (Rehearse viewers) h =
    let bad : 99 ≡ 104 = ap (λ t. slice_index t 2) h.0 in absurd (omega (arith, bad))
recall_needs rows (Agree viewers turns) h =
    let bad : 114 ≡ 97 = ap (λ t. slice_index t 0) h.0 in absurd (omega (arith, bad))
recall_needs rows (Host asked) h =
    let bad : 114 ≡ 104 = ap (λ t. slice_index t 0) h.0 in absurd (omega (arith, bad))
recall_needs rows (View asked) h =
    let bad : 114 ≡ 118 = ap (λ t. slice_index t 0) h.0 in absurd (omega (arith, bad))
recall_needs rows (Serve asked) h =
    let bad : 114 ≡ 115 = ap (λ t. slice_index t 0) h.0 in absurd (omega (arith, bad))
recall_needs rows (Recall until info makes) h = (
  until,
  h.1,
  ap (λ i. recall_misfit i (is_text_given (codes "new-log") rows)) (sym h.2)
      ∙ ap (λ m. recall_misfit info m) (sym h.3) ∙ h.4,
)
recall_needs rows (Part list) h =
    let bad : 114 ≡ 112 = ap (λ t. slice_index t 0) h.0 in absurd (omega (arith, bad))
recall_needs rows (Key viewers) h =
    let bad : 114 ≡ 107 = ap (λ t. slice_index t 0) h.0 in absurd (omega (arith, bad))

-- `recall` asks for nothing where its options don't go together
pub no_recall_of_misfit : (rows : List Row) (info makes : Bool) (why : Misfit) → info ≡ is_given (codes "info") rows → makes ≡ is_text_given (codes "new-log") rows
    → Some why ≡ recall_misfit info makes → (o : Order) → ¬ Asks o (codes "recall", rows)
no_recall_of_misfit rows info makes why is_info is_makes misfit o h =
    let given = recall_needs rows o h in
    let bad : Some why ≡ None = misfit ∙ ap (λ i. recall_misfit i makes) is_info ∙ ap (λ m. recall_misfit (is_given (codes "info") rows) m) is_makes ∙ given.2 in
    (cc)

-- options that don't go together ask for nothing
pub no_view_of_misfit : (rows : List Row) (asked : ViewOrder) (why : Misfit) → AsksView rows asked → Some why ≡ misfit_of asked
    → (o : Order) → ¬ Asks o (codes "view", rows)
no_view_of_misfit rows asked why read misfit o h =
    let given = view_needs rows o h in
    let same : asked ≡ given.0 = one_view rows asked given.0 read given.1 in
    let bad : Some why ≡ None = misfit ∙ ap (λ v. misfit_of v) same ∙ given.2 in
    (cc)

pub no_host_of_misfit : (rows : List Row) (asked : HostOrder) (why : Misfit) → AsksHost rows asked → Some why ≡ host_misfit asked
    → (o : Order) → ¬ Asks o (codes "host", rows)
no_host_of_misfit rows asked why read misfit o h =
    let given = host_needs rows o h in
    let same : asked ≡ given.0 = one_host rows asked given.0 read given.1 in
    let bad : Some why ≡ None = misfit ∙ ap (λ v. host_misfit v) same ∙ given.2 in
    (cc)

pub no_serve_of_misfit : (rows : List Row) (asked : ServeOrder) (why : Misfit) → AsksServe rows asked → Some why ≡ serve_misfit asked
    → (o : Order) → ¬ Asks o (codes "serve", rows)
no_serve_of_misfit rows asked why read misfit o h =
    let given = serve_needs rows o h in
    let same : asked ≡ given.0 = one_serve rows asked given.0 read given.1 in
    let bad : Some why ≡ None = misfit ∙ ap (λ v. serve_misfit v) same ∙ given.2 in
    (cc)

-- an end takes what both options may have
pub end_needs_until : (rows : List Row) → ((o : Option ℕ) → ¬ MayHaveUntil rows o) → (e : ViewEnd) → ¬ IsEnd rows e
end_needs_until rows none (Until n) h = none (Some n) h.0
end_needs_until rows none (Exactly n) h = none None h.0

pub end_needs_exactly : (rows : List Row) → ((o : Option ℕ) → ¬ MayHaveExactly rows o) → (e : ViewEnd) → ¬ IsEnd rows e
end_needs_exactly rows none (Until n) h = none None h.1
end_needs_exactly rows none (Exactly n) h = none (Some n) h.1

pub end_some : (rows : List Row) (until exactly : Option ℕ) (r : Option ViewEnd) → r ≡ end_of until exactly → MayHaveUntil rows until
    → MayHaveExactly rows exactly → IfSome r (λ e. IsEnd rows e)
end_some rows (Some n) None r is a b = rw is (a, b)
end_some rows None (Some n) r is a b = rw is (a, b)
end_some rows (Some n) (Some m) r is a b = rw is tt
end_some rows None None r is a b = rw is tt

no_end_of_both : (rows : List Row) (n m : ℕ) → MayHaveUntil rows (Some n) → MayHaveExactly rows (Some m) → (e : ViewEnd) → ¬ IsEnd rows e
no_end_of_both rows n m a b (Until k) h = without b h.1
no_end_of_both rows n m a b (Exactly k) h = without a h.0

no_end_of_none : (rows : List Row) → MayHaveUntil rows None → MayHaveExactly rows None → (e : ViewEnd) → ¬ IsEnd rows e
no_end_of_none rows a b (Until k) h = without h.0 a
no_end_of_none rows a b (Exactly k) h = without h.1 b

pub end_none : (rows : List Row) (until exactly : Option ℕ) (r : Option ViewEnd) → r ≡ end_of until exactly → MayHaveUntil rows until
    → MayHaveExactly rows exactly → IfNone r ((e : ViewEnd) → ¬ IsEnd rows e)
end_none rows (Some n) None r is a b = rw is tt
end_none rows None (Some n) r is a b = rw is tt
end_none rows (Some n) (Some m) r is a b = rw is (no_end_of_both rows n m a b)
end_none rows None None r is a b = rw is (no_end_of_none rows a b)

pub ruleset ends = (end_some, end_none)

-- ---- ranges

at_most : (id : Text) (rows : List Row) (low high : ℕ) (o : Option ℕ) → MayHaveNumberIn id rows low high o → IfSome o (λ n. n ≤ high)
at_most id rows low high (Some n) h = h.high_end
at_most id rows low high None h = tt

at_least : (id : Text) (rows : List Row) (low high : ℕ) (o : Option ℕ) → MayHaveNumberIn id rows low high o → IfSome o (λ n. low ≤ n)
at_least id rows low high (Some n) h = h.low_end
at_least id rows low high None h = tt

end_range : (rows : List Row) (e : ViewEnd) → IsEnd rows e → end_count e ≤ 281474976710655
end_range rows (Until n) h = h.0.high_end
end_range rows (Exactly n) h = h.1.high_end

asked_range : (o : Order) (p : Text × List Row) → Asks o p → IsInRange o
asked_range (Run no_trace) p h = tt
asked_range Format p h = tt
asked_range Check p h = tt
asked_range (Rehearse viewers) p h = (h.1.low_end, h.1.high_end)
asked_range (Agree viewers turns) p h = (h.1.low_end, h.1.high_end)
asked_range (Host asked) p h = record {
  port_low = at_least (codes "port") p.1 1 65535 asked.port h.1.port;
  viewers_low = at_least (codes "viewers") p.1 1 64 asked.viewers h.1.viewers;
  viewers_high = at_most (codes "viewers") p.1 1 64 asked.viewers h.1.viewers;
  until_high = at_most (codes "until") p.1 0 281474976710655 asked.until h.1.until;
  keep_high = at_most (codes "keep") p.1 0 281474976710655 asked.keep h.1.keep;
  forget_high = at_most (codes "forget") p.1 0 281474976710655 asked.forget h.1.forget;
  every_low = at_least (codes "every") p.1 1 3600000 asked.every h.1.every;
  every_high = at_most (codes "every") p.1 1 3600000 asked.every h.1.every;
  standby_low = at_least (codes "standby") p.1 1 3600 asked.standby h.1.standby;
  standby_high = at_most (codes "standby") p.1 1 3600 asked.standby h.1.standby;
  turns_low = at_least (codes "turns") p.1 1 10000000 asked.turns h.1.turns;
  turns_high = at_most (codes "turns") p.1 1 10000000 asked.turns h.1.turns;
  together = h.2;
}
asked_range (View asked) p h = record {
  port_low = at_least (codes "port") p.1 1 65535 asked.port h.1.port;
  who_high = omega (arith, h.1.who.high_end);
  boot_low = at_least (codes "boot") p.1 1 4294967295 asked.boot h.1.boot;
  end_high = end_range p.1 asked.end h.1.end;
  turns_low = h.1.turns.low_end;
  turns_high = h.1.turns.high_end;
  at_low = at_least (codes "at") p.1 1 65535 asked.at h.1.at;
  give_low = at_least (codes "give") p.1 1 65535 asked.give h.1.give;
  give_turns_low = h.1.give_turns.low_end;
  wire_low = at_least (codes "wire") p.1 1 2 asked.wire h.1.wire;
  wire_high = at_most (codes "wire") p.1 1 2 asked.wire h.1.wire;
  forget_high = at_most (codes "forget") p.1 0 281474976710655 asked.forget h.1.forget;
  together = h.2;
}
asked_range (Serve asked) p h = record {
  port_low = at_least (codes "port") p.1 1 65535 asked.port h.1.port;
  viewers_low = at_least (codes "viewers") p.1 1 64 asked.viewers h.1.viewers;
  viewers_high = at_most (codes "viewers") p.1 1 64 asked.viewers h.1.viewers;
  keep_high = at_most (codes "keep") p.1 0 281474976710655 asked.keep h.1.keep;
  forget_high = at_most (codes "forget") p.1 0 281474976710655 asked.forget h.1.forget;
  base_low = at_least (codes "base") p.1 100 281474976710655 asked.base h.1.base;
  base_high = at_most (codes "base") p.1 100 281474976710655 asked.base h.1.base;
  every_low = at_least (codes "every") p.1 1 3600000 asked.every h.1.every;
  every_high = at_most (codes "every") p.1 1 3600000 asked.every h.1.every;
  together = h.2;
}
asked_range (Recall until info makes) p h = at_most (codes "until") p.1 0 281474976710655 until h.1
asked_range (Part list) p h = tt
asked_range (Key viewers) p h = (h.1.low_end, h.1.high_end)

pub some_range : (o : Order) (x : Option (Text × List Row)) → IsSomeAnd x (Asks o) → IsInRange o
some_range o (Some p) h = asked_range o p h
some_range o None h = absurd h
