-- A run's answers tell of memory, and so do the lines of a log.
use Rattle.std.proofs.Common.{◌≡◌, ℕ, Bool, true, false, inl, inr, List, [], ◌∷◌, refl, ap, sym, ◌∙◌, subst}
use Rattle.std.specs.Prelude.{codes, Some, None, Result, Ok, Err, ◌==◌}
use Rattle.std.proofs.lemmas.Bool.{false≢true}
use Rattle.share_wire.specs.declared.fault.WireFault.{WireFault}
use Rattle.share_wire.specs.declared.fault.WireFault.TheVariants as wire
use Rattle.share_wire.specs.Faults.{fault_name}
use Rattle.snapshot_core.specs.declared.fault.SaveFault.{SaveFault}
use Rattle.snapshot_core.specs.declared.fault.SaveFault.TheVariants as save
use Rattle.snapshot_core.specs.declared.fault.SnapFault.{SnapFault}
use Rattle.snapshot_core.specs.declared.fault.SnapFault.TheVariants as snap
use Rattle.share_law.specs.declared.fault.FloorFault.{FloorFault}
use Rattle.share_law.specs.declared.fault.FloorFault.TheVariants as floor
use Rattle.share_law.specs.declared.fault.GatherFault.{GatherFault}
use Rattle.share_law.specs.declared.fault.GatherFault.TheVariants as gather
use Rattle.share_law.specs.declared.fault.JoinFault.{JoinFault}
use Rattle.share_law.specs.declared.fault.JoinFault.TheVariants as join
use Rattle.share_law.specs.declared.fault.HostFault.{HostFault}
use Rattle.share_law.specs.declared.fault.HostFault.TheVariants as host
use Rattle.share_law.specs.declared.fault.NumberFault.{NumberFault}
use Rattle.share_law.specs.declared.fault.NumberFault.TheVariants as number
use Rattle.share_law.specs.declared.fault.OfferFault.{OfferFault}
use Rattle.share_law.specs.declared.fault.OfferFault.TheVariants as offer
use Rattle.share_law.specs.declared.fault.TakeFault.{TakeFault}
use Rattle.share_law.specs.declared.fault.TakeFault.TheVariants as take
use Rattle.share_law.specs.declared.reply.Gathered.{Gathered}
use Rattle.share_law.specs.declared.reply.Gathered.TheVariants as gathered
use Rattle.share_law.specs.declared.reply.HostReply.{HostReply}
use Rattle.share_law.specs.declared.reply.HostReply.TheVariants.{Asked, Numbered, Repeat, Ahead, OldBoot, Below, NothingToDo}
use Rattle.share_law.specs.declared.reply.Taken.{Taken}
use Rattle.share_law.specs.declared.reply.Taken.TheVariants as taken
use Rattle.share_law.specs.declared.step.Step.{Step}
use Rattle.share_law.specs.Machine.{Machine}
use Rattle.share_law.specs.Network as law
use Rattle.share_law.specs.Network.{Network, IsStep, Run}
use Rattle.share_law.specs.Steps.{says_memory}
use Rattle.share_law.proofs.Steps.{memory_is_told}
use Rattle.share_rehearsal.specs.declared.answer.Answer.{Answer}
use Rattle.share_rehearsal.specs.declared.answer.Answer.TheVariants.{Clocked, HostTook, ViewerTook, Offered, Sent, Saved, Rewound, Dropped, Collected, Joined, Forgot, NoSuch}
use Rattle.share_rehearsal.specs.Laws.{MemoryIsLogged}
use Rattle.share_rehearsal.specs.Log.{answer_text, gather_text, host_text, take_text}
use Rattle.share_rehearsal.specs.Names.{floor_name, join_name, number_name, offer_name, save_name, snap_name}
use Rattle.share_rehearsal.specs.Stands.{law_answer}
use Rattle.share_rehearsal.specs.Told.{IsToldStep, ToldRun}

-- ---- runs

told_step : {W : Type 0} (m : Machine W) (old : Network W) (s : Step) (a : law.Answer) (new : Network W) → IsStep m old s a new → IsToldStep m old s a new
told_step {W} m old s a new (inl is) = inl (subst (λ (r : law.Answer × Network W). says_memory r.0 ≡ false) is (memory_is_told m old s).0, is)
told_step m old s a new (inr is) = inr ((memory_is_told m old s).1 is.0 a new is.1, is)

pub told_run : {W : Type 0} (m : Machine W) (old : Network W) (steps : List Step) (answers : List law.Answer) (new : Network W) → Run m old steps answers new → ToldRun m old steps answers new
told_run m old [] [] new run = run
told_run m old (s ∷ steps) (a ∷ answers) new run = (run.0, told_step m old s a run.0 run.1, told_run m run.0 steps answers new run.2)
told_run m old [] (a ∷ answers) new run = absurd run
told_run m old (s ∷ steps) [] new run = absurd run

-- ---- lines

-- no other text of an answer begins with an M
abbrev begins_so : List ℕ → Bool
begins_so [] = false
begins_so (c ∷ text) = c == 77

record Logs (text : List ℕ) (said : Bool) : Type 0 where
  begins : begins_so text ≡ said
  is : said ≡ true → text ≡ codes "Memory"

other : (text : List ℕ) → begins_so text ≡ false → Logs text false
other text e = record { begins = e; is = λ said. absurd (false≢true said) }

memory : Logs (codes "Memory") true
memory = record { begins = refl; is = λ said. refl }

clocked : (f : NumberFault) → Logs (number_name f) (says_memory (law.Clocked (Err f)))
clocked number.WorldFull = other _ refl
clocked number.TimeNotLater = other _ refl
clocked number.TimeRange = other _ refl
clocked number.Memory = memory

no_wire : (f : WireFault) → Logs (fault_name f) false
no_wire wire.BadPacket = other _ refl
no_wire wire.BadVersion = other _ refl
no_wire wire.BadTag = other _ refl
no_wire wire.BadRange = other _ refl
no_wire wire.ZeroRay = other _ refl

hosted : (r : Result HostReply HostFault) → Logs (host_text r) (says_memory (law.HostTook r))
hosted (Ok (Asked first count)) = other _ refl
hosted (Ok (Numbered n)) = other _ refl
hosted (Ok Repeat) = other _ refl
hosted (Ok Ahead) = other _ refl
hosted (Ok OldBoot) = other _ refl
hosted (Ok (Below n)) = other _ refl
hosted (Ok NothingToDo) = other _ refl
hosted (Err (host.Wire f)) = no_wire f
hosted (Err host.WrongScene) = other _ refl
hosted (Err host.BadViewer) = other _ refl
hosted (Err (host.Number number.WorldFull)) = other _ refl
hosted (Err (host.Number number.TimeNotLater)) = other _ refl
hosted (Err (host.Number number.TimeRange)) = other _ refl
hosted (Err (host.Number number.Memory)) = memory

took : (r : Result Taken TakeFault) → Logs (take_text r) (says_memory (law.ViewerTook r))
took (Ok taken.Old) = other _ refl
took (Ok taken.Beyond) = other _ refl
took (Ok taken.Held) = other _ refl
took (Ok (taken.Applied n)) = other _ refl
took (Ok taken.Noted) = other _ refl
took (Ok taken.Behind) = other _ refl
took (Err take.Spoiled) = other _ refl
took (Err (take.Wire f)) = no_wire f
took (Err take.WrongScene) = other _ refl
took (Err take.NotForMe) = other _ refl
took (Err take.TimeNotLater) = other _ refl
took (Err take.Memory) = memory

no_offer : (f : OfferFault) → Logs (offer_name f) false
no_offer offer.Spoiled = other _ refl
no_offer offer.ZeroRay = other _ refl
no_offer offer.PointRange = other _ refl
no_offer offer.OfferFull = other _ refl
no_offer offer.OffersSpent = other _ refl

saved : (f : SaveFault) → Logs (save_name f) (says_memory (law.Saved (Err f)))
saved save.Spoiled = other _ refl
saved save.Memory = memory

rewound : (f : SnapFault) → Logs (snap_name f) (says_memory (law.Rewound (Err f)))
rewound snap.Short = other _ refl
rewound snap.BadMagic = other _ refl
rewound snap.BadVersion = other _ refl
rewound snap.WrongScene = other _ refl
rewound snap.BadDigest = other _ refl
rewound snap.NotCanonical = other _ refl
rewound snap.BootNotNew = other _ refl
rewound snap.ScriptState = other _ refl
rewound snap.Memory = memory

no_drop : (f : FloorFault) → Logs (floor_name f) false
no_drop floor.FloorBack = other _ refl
no_drop floor.FloorAhead = other _ refl

collected : (r : Result Gathered GatherFault) → Logs (gather_text r) (says_memory (law.Collected r))
collected (Ok gathered.New) = other _ refl
collected (Ok gathered.Again) = other _ refl
collected (Ok gathered.Whole) = other _ refl
collected (Ok gathered.Other) = other _ refl
collected (Err (gather.Wire f)) = no_wire f
collected (Err gather.WrongScene) = other _ refl
collected (Err gather.NotPiece) = other _ refl
collected (Err gather.Memory) = memory

no_join : (f : JoinFault) → Logs (join_name f) (says_memory (law.Joined (Err f)))
no_join join.NotWhole = other _ refl
no_join (join.Snap snap.Short) = other _ refl
no_join (join.Snap snap.BadMagic) = other _ refl
no_join (join.Snap snap.BadVersion) = other _ refl
no_join (join.Snap snap.WrongScene) = other _ refl
no_join (join.Snap snap.BadDigest) = other _ refl
no_join (join.Snap snap.NotCanonical) = other _ refl
no_join (join.Snap snap.BootNotNew) = other _ refl
no_join (join.Snap snap.ScriptState) = other _ refl
no_join (join.Snap snap.Memory) = memory

logged : (a : Answer) → Logs (answer_text a) (says_memory (law_answer a))
logged (Clocked (Ok n)) = other _ refl
logged (Clocked (Err f)) = clocked f
logged (HostTook r) = hosted r
logged (ViewerTook r) = took r
logged (Offered (Ok n)) = other _ refl
logged (Offered (Err f)) = no_offer f
logged (Sent (Some p)) = other _ refl
logged (Sent None) = other _ refl
logged (Saved (Ok n)) = other _ refl
logged (Saved (Err f)) = saved f
logged (Rewound (Ok n)) = other _ refl
logged (Rewound (Err f)) = rewound f
logged (Dropped (Ok n)) = other _ refl
logged (Dropped (Err f)) = no_drop f
logged (Collected r) = collected r
logged (Joined (Ok n)) = other _ refl
logged (Joined (Err f)) = no_join f
logged Forgot = other _ refl
logged NoSuch = other _ refl

pub memory_is_logged : MemoryIsLogged
memory_is_logged a = (λ text. sym (logged a).begins ∙ ap begins_so text, (logged a).is)
