use Rattle.std.proofs.Common.{Result, Ok, Err, IfErr, inr}
use Rattle.share_file.proofs.making.create.Goals as goal

if_err : {T E : Type 0} (r : Result T E) (A C : E → Type 0) → ((e : E) → A e → C e) → IfErr r A → IfErr r C
if_err (Ok x) A C f a = a
if_err (Err e) A C f a = f e a

pub returns-in-Ok-clause-crash : goal.returns-in-Ok-clause-crash
returns-in-Ok-clause-crash g c = if_err c.begin.result _ _ (λ f begun clean file left. inr (begun clean file left)) c.begin.ensures.crash
