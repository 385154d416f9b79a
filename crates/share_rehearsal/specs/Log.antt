-- The log of a rehearsal: a line for each step, with its number and its answer (our choice).
use Rattle.std.specs.Prelude.{ℕ, suc, ◌++◌, List, [], ◌∷◌, codes, decimal, Some, None}
use Rattle.std.specs.Prelude.{Result, Ok, Err}
use Rattle.share_law.specs.declared.fault.HostFault.{HostFault}
use Rattle.share_law.specs.declared.fault.TakeFault.{TakeFault}
use Rattle.share_law.specs.declared.reply.HostReply.{HostReply}
use Rattle.share_law.specs.declared.reply.HostReply.TheVariants.{Asked, Numbered, Repeat, Ahead}
use Rattle.share_law.specs.declared.reply.HostReply.TheVariants.{OldBoot, Below, NothingToDo}
use Rattle.share_law.specs.declared.reply.Taken.{Taken}
use Rattle.share_law.specs.declared.reply.Taken.TheVariants as taken
use Rattle.share_law.specs.declared.fault.GatherFault.{GatherFault}
use Rattle.share_law.specs.declared.reply.Gathered.{Gathered}
use Rattle.share_law.specs.declared.reply.Gathered.TheVariants as gathered
use Rattle.share_law.specs.Viewer.{ViewerWorld, Spoiled, Running}
use Rattle.cascade_core.specs.Texts.{texts}
use Rattle.cascade_core.specs.Course.{Scripted}
use Rattle.share_core.specs.Viewer.{ViewerView}
use Rattle.share_rehearsal.specs.declared.answer.Answer.{Answer}
use Rattle.share_rehearsal.specs.declared.answer.Answer.TheVariants as answer
use Rattle.share_rehearsal.specs.Names.{number_name, host_name, take_name, offer_name, save_name}
use Rattle.share_rehearsal.specs.Names.{snap_name, floor_name, gather_name, join_name}

abbrev pub reply_text : HostReply → List ℕ
reply_text (Asked first count) = codes "Asked " ++ decimal first ++ 32 ∷ decimal count
reply_text (Numbered n) = codes "Numbered " ++ decimal n
reply_text Repeat = codes "Repeat"
reply_text Ahead = codes "Ahead"
reply_text OldBoot = codes "OldBoot"
reply_text (Below floor) = codes "Below " ++ decimal floor
reply_text NothingToDo = codes "NothingToDo"

abbrev pub taken_text : Taken → List ℕ
taken_text taken.Old = codes "Old"
taken_text taken.Beyond = codes "Beyond"
taken_text taken.Held = codes "Kept"
taken_text (taken.Applied count) = codes "Applied " ++ decimal count
taken_text taken.Noted = codes "Noted"
taken_text taken.Behind = codes "Behind"

abbrev pub gathered_text : Gathered → List ℕ
gathered_text gathered.New = codes "New"
gathered_text gathered.Again = codes "Again"
gathered_text gathered.Whole = codes "Whole"
gathered_text gathered.Other = codes "Other"

abbrev pub host_text : Result HostReply HostFault → List ℕ
host_text (Ok reply) = reply_text reply
host_text (Err fault) = host_name fault

abbrev pub take_text : Result Taken TakeFault → List ℕ
take_text (Ok reply) = taken_text reply
take_text (Err fault) = take_name fault

abbrev pub gather_text : Result Gathered GatherFault → List ℕ
gather_text (Ok reply) = gathered_text reply
gather_text (Err fault) = gather_name fault

-- the text of an answer; packets and snapshots are shown by their numbers, faults by their names
abbrev pub answer_text : Answer → List ℕ
answer_text (answer.Clocked (Ok n)) = codes "Numbered " ++ decimal n
answer_text (answer.Clocked (Err fault)) = number_name fault
answer_text (answer.HostTook result) = host_text result
answer_text (answer.ViewerTook result) = take_text result
answer_text (answer.Offered (Ok n)) = codes "Offered " ++ decimal n
answer_text (answer.Offered (Err fault)) = offer_name fault
answer_text (answer.Sent (Some p)) = codes "Packet " ++ decimal p
answer_text (answer.Sent None) = codes "None"
answer_text (answer.Saved (Ok s)) = codes "Saved " ++ decimal s
answer_text (answer.Saved (Err fault)) = save_name fault
answer_text (answer.Rewound (Ok n)) = codes "Rewound " ++ decimal n
answer_text (answer.Rewound (Err fault)) = snap_name fault
answer_text (answer.Dropped (Ok n)) = codes "Floor " ++ decimal n
answer_text (answer.Dropped (Err fault)) = floor_name fault
answer_text (answer.Collected result) = gather_text result
answer_text (answer.Joined (Ok n)) = codes "Joined " ++ decimal n
answer_text (answer.Joined (Err fault)) = join_name fault
answer_text answer.Forgot = codes "Forgot"
answer_text answer.NoSuch = codes "NoSuch"

-- `<number> <answer>` and a line feed
unfoldable pub line_text : ℕ → Answer → List ℕ
line_text n a = decimal n ++ 32 ∷ answer_text a ++ 10 ∷ []

-- the lines of these answers, numbered from this number on
abbrev pub lines_from : ℕ → List Answer → List ℕ
lines_from n [] = []
lines_from n (a ∷ answers) = line_text n a ++ lines_from (suc n) answers

-- ---- the ending

-- the text of a viewer that runs, with its trace and its scene, or of one that is spoiled
abbrev pub ending_in : (number : ℕ) → ViewerView → ViewerWorld Scripted → List ℕ
ending_in number v (Running w window) =
    codes "viewer " ++ decimal number ++ codes " at " ++ decimal w.world.applied
    ++ codes " boot " ++ decimal v.state.boot ++ 10 ∷ texts v.scene v.routes w
ending_in number v (Spoiled count) =
    codes "viewer " ++ decimal number ++ codes " spoiled" ++ 10 ∷ []

unfoldable pub ending_text : (number : ℕ) → ViewerView → List ℕ
ending_text number v = ending_in number v v.state.view

-- the texts of all viewers, numbered from this number on
abbrev pub endings_from : ℕ → List ViewerView → List ℕ
endings_from n [] = []
endings_from n (v ∷ viewers) = ending_text n v ++ endings_from (suc n) viewers

-- the log of these answers, when these viewers are left
abbrev pub log_text : List Answer → List ViewerView → List ℕ
log_text answers viewers = lines_from 1 answers ++ endings_from 0 viewers
