-- Stages of one text.
use Rattle.std.proofs.Common.{◌≡◌, ◌⊎◌, inl, inr, ℕ, zero, suc, ◌+◌, ◌++◌, List, [], ◌∷◌, replicate, length, refl, sym, ◌∙◌, ap, subst}
use Rattle.std.specs.Prelude.{Option, None, Result, Ok, Err}
use Rattle.std.proofs.lemmas.List.{length-replicate, replicate_more}
use Rattle.cascade_core.specs.Held.{StageView}
use Rattle.app_jobs.specs.declared.fault.JobFault.{JobFault}
use Rattle.app_jobs.specs.declared.fault.JobFault.TheVariants.{Memory}
use Rattle.app_program.specs.Opening.{next, opened, same}
use Rattle.app_program.specs.declared.open.OpenedScene.{OpenedScene}
use Rattle.share_rehearsal.specs.Calls.{viewers_from}
use Rattle.share_rehearsal.specs.Loaded.{AreFresh, AreOf}
use Rattle.app_program.specs.Stages.{staged_scene}
use Rattle.app_commands.specs.Stages.{AreStages, IsStage, fresh, scripted, scripts_refusal, unless_refused}

pub same_ok : {A E : Type 0} (x y : A) → ◌≡◌ {A = Result A E} (Ok x) (Ok y) → x ≡ y
same_ok x y e = cc

-- a scene whose scripts are taken is that of its text
pub is_staged_scene : (text : List ℕ) (o : OpenedScene) → opened text ≡ Ok o → scripts_refusal o.scene ≡ None → staged_scene text ≡ Ok o
unfolding staged_scene
is_staged_scene text o is taken =
    ap (λ (r : Result OpenedScene JobFault). next same r scripted) is
    ∙ ap (λ (f : Option JobFault). unless_refused o f) taken

-- the first stage
pub is_stage : (text : List ℕ) (o : OpenedScene) (stage : StageView) → opened text ≡ Ok o → scripts_refusal o.scene ≡ None
    → stage ≡ fresh o → IsStage text stage
is_stage text o stage is taken made = record { scene = o; is_scene = is_staged_scene text o is taken; is = made }

-- two stages of a text are equal
same_stage : (text : List ℕ) (a b : StageView) → IsStage text a → IsStage text b → a ≡ b
same_stage text a b p q =
    p.is ∙ ap fresh (same_ok {E = JobFault} p.scene q.scene (sym p.is_scene ∙ q.is_scene)) ∙ sym q.is

-- a text that has a stage is refused for memory alone
pub for_memory : (text : List ℕ) (stage : StageView) (f : JobFault) → IsStage text stage
    → (f ≡ Memory) ⊎ (staged_scene text ≡ Err f) → f ≡ Memory
for_memory text stage f s (inl is) = is
for_memory text stage f s (inr is) = let no = sym s.is_scene ∙ is in absurd (cc)

-- one stage more
pub one_more : (text : List ℕ) (n : ℕ) (first next : StageView) (before after : List StageView)
    → IsStage text first → IsStage text next → before ≡ replicate n first → after ≡ before ++ next ∷ []
    → after ≡ replicate (n + 1) first
one_more text n first next before after p q are more =
    more ∙ ap (λ (l : List StageView). l ++ next ∷ []) are
    ∙ ap (λ (s : StageView). replicate n first ++ s ∷ []) (same_stage text next first q p) ∙ replicate_more n first

are_fresh : (n : ℕ) (o : OpenedScene) → AreFresh (replicate n (fresh o))
are_fresh zero o = tt
are_fresh (suc n) o = (refl, are_fresh n o)

pub are_of : (n : ℕ) (o : OpenedScene) → AreOf o.scene o.routes (replicate n (fresh o))
are_of zero o = tt
are_of (suc n) o = (refl, refl, are_of n o)

-- stages of which the first is one of the text
pub are_stages : (text : List ℕ) (n : ℕ) (first : StageView) (stages : List StageView)
    → IsStage text first → stages ≡ replicate n first → AreStages n text stages
are_stages text n first stages p are =
    record { scene = p.scene; is_scene = p.is_scene; are = are ∙ ap (replicate n) p.is }

pub fresh_stages : (text : List ℕ) (n : ℕ) (stages : List StageView) → AreStages n text stages → AreFresh stages
fresh_stages text n stages s = subst AreFresh (sym s.are) (are_fresh n s.scene)

pub stage_count : (text : List ℕ) (n : ℕ) (stages : List StageView) → AreStages n text stages → length stages ≡ n
stage_count text n stages s = ap length s.are ∙ length-replicate n (fresh s.scene)

pub viewer_count : (mark : List ℕ) (n : ℕ) (stages : List StageView) → length (viewers_from mark n stages) ≡ length stages
viewer_count mark n [] = refl
viewer_count mark n (stage ∷ stages) = ap suc (viewer_count mark (suc n) stages)
