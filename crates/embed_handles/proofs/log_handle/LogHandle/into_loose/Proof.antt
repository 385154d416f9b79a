-- A handle that is null has nothing, and another gives back its box.
use Rattle.std.proofs.Common.{ℕ, [], ◌∷◌, refl, sym, subst, lit<}
use Rattle.std.proofs.raw_atomic.Walks.{proved}
use seplogic.Ra.Ura.{Ura}
use base.Logic.{SProp, ent, sep, via, snd∗, guard, guard_i, fst∗, never}
use base.Fml.{Fml, ftrue, feq}
use base.Fraction.{full_share}
use mir.Val.{Val, vptr, of_list, has_ty, WT}
use mir.Raw.{raw as bare}
use prog.Memory.{Memory}
use prog.Routine.{Routine}
use prog.Wp.{Calls, Loops, WpFn}
use types.Logic.{Logic, sem}
use types.Match.{live}
use contract.Monad.{Fun, fact_use}
use contract.Running.{tables}
use types.Kit.{‵, ◌⊛◌, given, at_ret, ◌$◌, ◌∵◌, !, qed, done, by, drop, keep, move, split, fjoin, learn, feq_i, feq_l, use0, use1, suffices}
use types.Run.{enter, of_opd, lit, bin, stop, fld, no_more, and_then, first, branches, exec, returns}
use types.ByLocal.{alloc_all, pass_all, free_all, look_at, get, get_in, sets, sets_last, env}
use types.Part.{agg, sub, whole}
use denote.Exit.{yes}
use denote.Memory.{lone}
use denote.RawPtr.{Ptr, block_ptr, null_ptr, in_a_block, Testable, tests_null, lies_at}
use denote.Signature.{plain}
use denote.Steps.{nothing}
use denote.Triple.Walked.{Stays, walk_of, says, stay_dropped, Goes-dropped, ends_at}
use Rattle.std.proofs.option.Made.{Some-of, none_of}
use Rattle.std.proofs.GlobalToken.{dealloc_token-Testable}
use Rattle.std.proofs.Handle.{heap_val, heap_Tells}
use Rattle.std.specs.Prelude.{Option, None, Some}
use Rattle.std.specs.contracts.option.Option as option
use Rattle.std.specs.contracts.alloc.Global.{the_row as Z}
use Rattle.std.proofs.alloc.Global.TheLaws.{mir as layout, the_row_laws as LZ}
use Rattle.std.specs.Box.Ownership.{box_owns}
use lib.Dec.{T}
use Rattle.std.specs.contracts.impls.GlobalAllocator.TheImpl.{ghosts as g}
use Rattle.embed_handles.proofs.Values.{both, loose_good, loose_in}
use Rattle.embed_handles.specs.contracts.loose.Loose.{the_row as Loose}
use Rattle.embed_logs.specs.declared.files.LogFile.{LogFile}
use Rattle.embed_logs.specs.contracts.files.LogFile.{the_row as R}
use Rattle.embed_handles.specs.LogHeld.{held}
use Rattle.embed_handles.specs.contracts.log_handle.LogHandle.{the_row as Handle}
use Rattle.embed_handles.proofs.log_handle.LogHandle.TheLaws.{lowers}
use Rattle.embed_handles.proofs.LogHandles.{word, handled, handle_out}
use Rattle.embed_handles.specs.contracts.log_handle.LogHandle.into_loose as f
use Rattle.embed_handles.proofs.log_handle.LogHandle.into_loose.Statement.{statement}
use Rattle.embed_handles.proofs.log_handle.LogHandle.into_loose.Code as code

heap_good : T (has_ty layout heap_val) × WT heap_val
heap_good = (tt, ((tt, tt), tt))

abbrev stayed : Stays f.ended.signature.params f.ended.kept
stayed = (stay_dropped _ yes, (stay_dropped _ yes, tt))

module _ {M : Type 1} {𝓤 : Ura M} (𝓛 : Logic 𝓤) (at_mem : Memory → SProp 𝓤) (run : Routine → Fun 𝓤) (C : Calls 𝓤 𝓛.H) (Λ : Loops 𝓤 𝓛.H) (a : Z.Denot) where
  abbrev y : Ptr → Option LogFile → (walk_of 𝓛 f.ended stayed (f.clauses 𝓛 at_mem run)).Ghost
  y p c = ((tt, tt, tt, (handled p c, (a, tt)), (word p ∷ [], (heap_val ∷ [], tt))), tt)

  abbrev Post : Ptr → Option LogFile → Val → SProp 𝓤
  Post p c = (walk_of 𝓛 f.ended stayed (f.clauses 𝓛 at_mem run)).post (y p c)

  abbrev Runs : Ptr → Option LogFile → SProp 𝓤
  Runs p c = WpFn 𝓤 𝓛.H C Λ code.function (word p ∷ heap_val ∷ []) (Post p c)

  abbrev Goes : Ptr → Option LogFile → Type 1
  Goes p c = ent 𝓤 (sep 𝓤 (sem 𝓛 (held p c)) (sem 𝓛 (Z.own_val a (heap_val ∷ [])))) (Runs p c)

  at_null : Goes null_ptr None
  at_null =
      qed 𝓛 (‵ (held null_ptr None) ∷ ‵ (Z.own_val a (heap_val ∷ [])) ∷ []) ∵ drop ! $ drop ! $
      enter ! C Λ code.function (word null_ptr ∷ heap_val ∷ []) _ $ alloc_all ! (λ l. pass_all ! refl ((tt, (record { fits = lit< tt }, tt)), (heap_good, tt)) $
      sets ! (of_opd ! (get_in ! (fld ! refl (stop !)) (sub ! 0 refl (whole !)))) refl (tt, record { fits = lit< tt }) $
      sets ! (bin ! (get ! refl) (lit ! tt) (tests_null null_ptr (lit< tt))) refl (tt, tt) $
      first ! $ branches ! (get ! refl)
      (λ _. sets_last ! (agg ! (and_then ! (lit ! tt) (no_more !))) refl (tt, (record { fits = lit< tt }, tt)) $
      exec ! C Λ (env code.function.locals l) code.Mir.t-4 (at_ret _ (Post null_ptr None)) $
      sets ! (of_opd ! (get ! refl)) refl (tt, (record { fits = lit< tt }, tt)) $
      returns ! (look_at ! 0 refl) $ free_all ! refl $
      use0 𝓛 (‵ ((option.the_row (Loose R Z g)).own_val None (live 0 (of_list []) ∷ []))) (none_of 𝓛 (Loose R Z g)) $
      suffices ! _ (ends_at 𝓛 f.ended stayed (f.clauses 𝓛 at_mem run) (y null_ptr None) (live 0 (of_list [])) None (tt, (tt, tt)) (tt, (tt, tt))) $ says ! refl $
      nothing ! $ nothing ! $ fjoin ! $ nothing ! $ fjoin ! $ nothing ! $ done !)
      (λ t. absurd t))

  at_block : (b o : ℕ) (x : LogFile) → Testable (block_ptr b o) → Goes (block_ptr b o) (Some x)
  at_block b o x may =
      let p = block_ptr b o in let w = both (vptr b o) heap_val in let whole_good = loose_good R Z LZ g b o heap_val heap_good in
      let r : (Loose R Z g).Denot = record { at = p; alloc = a; value = x } in
      qed 𝓛 (‵ (held p (Some x)) ∷ ‵ (Z.own_val a (heap_val ∷ [])) ∷ []) ∵
      loose_in R Z LZ g ! b o heap_val a x $
      use1 𝓛 (‵ ((option.the_row (Loose R Z g)).own_val (Some r) (live 1 (of_list (w ∷ [])) ∷ []))) (Some-of 𝓛 (Loose R Z g) r w) $
      enter ! C Λ code.function (word p ∷ heap_val ∷ []) _ $ alloc_all ! (λ l. pass_all ! refl ((tt, (tt, tt)), (heap_good, tt)) $
      sets ! (of_opd ! (get_in ! (fld ! refl (stop !)) (sub ! 0 refl (whole !)))) refl (tt, tt) $
      sets ! (bin ! (get ! refl) (lit ! tt) (tests_null p may)) refl (tt, tt) $
      first ! $ branches ! (get ! refl) (λ t. absurd t)
      (λ _. sets ! (of_opd ! (get ! refl)) refl (tt, tt) $
      sets ! (agg ! (and_then ! (get ! refl) (and_then ! (get ! refl) (no_more !)))) refl whole_good $
      sets_last ! (agg ! (and_then ! (lit ! tt) (and_then ! (get ! refl) (no_more !)))) refl (tt, (record { fits = lit< tt }, (whole_good.1, tt))) $
      exec ! C Λ (env code.function.locals l) code.Mir.t-4 (at_ret _ (Post p (Some x))) $
      sets ! (of_opd ! (get ! refl)) refl (tt, (record { fits = lit< tt }, (whole_good.1, tt))) $
      returns ! (look_at ! 0 refl) $ free_all ! refl $
      suffices ! _ (ends_at 𝓛 f.ended stayed (f.clauses 𝓛 at_mem run) (y p (Some x)) (live 1 (of_list (w ∷ []))) (Some r) (tt, (tt, tt)) (tt, (tt, tt))) $ says ! refl $
      nothing ! $ nothing ! $ fjoin ! $ nothing ! $ fjoin ! $ nothing ! $ done !))

  abbrev Boxed : Ptr → LogFile → Fml
  Boxed p x = box_owns (g.dealloc_token a) R p x

  tested : (p : Ptr) (x : LogFile) → ent 𝓤 (sem 𝓛 (Boxed p x)) (guard 𝓤 (Testable p) (sem 𝓛 (Boxed p x)))
  tested p x =
      fact_use 𝓤 (Testable p) (via 𝓤 _ (snd∗ 𝓤 (sem 𝓛 (lies_at R full_share p x)) (sem 𝓛 (g.dealloc_token a (bare (lone R.mir)) p))) (dealloc_token-Testable 𝓛 a (bare (lone R.mir)) p))
      (guard_i 𝓤 (Testable p) (sem 𝓛 (Boxed p x)))

  goes : (p : Ptr) (c : Option LogFile) → Goes p c
  goes p None =
      qed 𝓛 (‵ (feq Ptr p null_ptr) ∷ ‵ (Z.own_val a (heap_val ∷ [])) ∷ []) ∵ feq_l ! (λ e. feq_i ! Ptr null_ptr null_ptr refl $
      by ! (subst (λ (s : Ptr). ent 𝓤 (sep 𝓤 (sem 𝓛 (held null_ptr None)) (sem 𝓛 (Z.own_val a (heap_val ∷ [])))) (Runs s None)) (sym e) at_null))
  goes p (Some x) =
      qed 𝓛 (‵ (Boxed p x) ∷ ‵ (Z.own_val a (heap_val ∷ [])) ∷ []) ∵
      in_a_block ! p (λ q. Boxed q x) (fst∗ 𝓤 (never 𝓤) (sem 𝓛 (g.dealloc_token a (bare (lone R.mir)) null_ptr))) (λ b o e.
      use1 𝓛 (given (Testable (block_ptr b o)) (‵ (Boxed (block_ptr b o) x))) (tested (block_ptr b o) x) $ learn ! (λ may.
      by ! (subst (λ (s : Ptr). ent 𝓤 (sep 𝓤 (sem 𝓛 (Boxed (block_ptr b o) x)) (sem 𝓛 (Z.own_val a (heap_val ∷ [])))) (Runs s (Some x))) (sym e) (at_block b o x may))))

pub into_loose_spec : {M : Type 1} → statement M
into_loose_spec 𝓤 𝓛 𝓜 𝓡 wired =
    let c = f.clauses 𝓛 𝓜.mem 𝓡.returns in let 𝓣 = tables 𝓤 𝓛.H 𝓜 𝓡 𝓡.env in
    proved 𝓛 f.ended stayed c 𝓜 𝓡
    (Goes-dropped 𝓛 0 (plain (λ _. Handle)) yes (λ κs x w. refl), (Goes-dropped 𝓛 0 (plain (λ _. Z)) yes (λ κs x w. refl), tt))
    f.Key.name code.function (code.unfolded 𝓤 𝓛.H 𝓜 𝓡 wired)
    (λ κs. ((λ d. word d.at ∷ []), ((λ _. heap_val ∷ []), tt))) (λ κs. (lowers.val_is, (heap_Tells, tt))) (λ κs qs bounds a _ are.
    qed 𝓛 ((‵ ftrue ⊛ ‵ (Handle.own_val a.0 (word a.0.at ∷ [])) ⊛ ‵ (Z.own_val a.1.0 (heap_val ∷ [])) ⊛ ‵ ftrue) ∷ ‵ ftrue ∷ []) ∵
    split ! $ drop ! $ split ! $ handle_out ! a.0 _ $ move ! (1 ∷ []) $ split ! $ keep ! (2 ∷ 0 ∷ []) $
    by ! (goes 𝓛 𝓜.mem 𝓡.returns 𝓣.C 𝓣.Λ a.1.0 a.0.at a.0.log))
