-- What an export did with the host of a handle is what its clause says.
use Rattle.std.proofs.Common.{◌≡◌, ℕ, Bool, List, Option, Some, Result, subst}
use Rattle.share_pending.specs.declared.answer.AppendAnswer.{AppendAnswer}
use Rattle.embed_world.specs.Lasting as lasting
use Rattle.embed_world.specs.LogStatus.{status_of_append}
use Rattle.embed_world.specs.PeerStatus.{status_by}
use Rattle.embed_world.specs.declared.host.EmbeddedHost.{EmbeddedHost}
use Rattle.embed_world.specs.declared.lasting.Append.{Append}
use Rattle.embed_world.specs.declared.lasting.AppendFault.{AppendFault}
use Rattle.embed_c.specs.LogAnswers.{AnswersHost, AnswersIf, Appends, AppendsAt, left_by}

pub appended : (before after : Option EmbeddedHost) (status token_old token : ℕ) (old : List ℕ) (wanted_old wanted : ℕ) (new : List ℕ) (h next : EmbeddedHost) (answer : Result Append AppendFault)
    → Some h ≡ before → lasting.Begins h answer next → after ≡ Some next → AppendsAt answer token_old token status old wanted_old wanted new
    → Appends lasting.Begins before status after token_old token old wanted_old wanted new
appended before after status token_old token old wanted_old wanted new h next answer is done left copied =
    subst (λ (o : Option EmbeddedHost). Appends lasting.Begins o status after token_old token old wanted_old wanted new) is (answer, next, done, left, copied)

answered : (given : AppendAnswer) (token : ℕ) (before after : Option EmbeddedHost) (status : ℕ) (h next : EmbeddedHost) (answer : Result Bool AppendFault)
    → Some h ≡ before → lasting.Answers token given h answer next → status ≡ status_by status_of_append answer → after ≡ left_by answer next → AnswersHost token given before status after
answered given token before after status h next answer is done says left =
    subst (λ (o : Option EmbeddedHost). AnswersHost token given o status after) is (answer, next, done, says, left)

pub answered_by : (asked : Option AppendAnswer) (given : AppendAnswer) (token : ℕ) (before after : Option EmbeddedHost) (status : ℕ) (h next : EmbeddedHost) (answer : Result Bool AppendFault)
    → Some given ≡ asked → Some h ≡ before → lasting.Answers token given h answer next → status ≡ status_by status_of_append answer → after ≡ left_by answer next → AnswersIf asked token before status after
answered_by asked given token before after status h next answer of is done says left =
    subst (λ (o : Option AppendAnswer). AnswersIf o token before status after) of (answered given token before after status h next answer is done says left)
