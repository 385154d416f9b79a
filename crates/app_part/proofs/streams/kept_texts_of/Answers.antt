use Rattle.app_part.proofs.Parting.{kept_texts}
use Rattle.app_part.proofs.streams.kept_texts_of.Goals as goal

pub returns-in-Ok : goal.returns-in-Ok
returns-in-Ok c = record {
  texts =
      kept_texts c.args.bytes.now c.args.names.now c.in_ok-part.part _ c.with_lost.result c.in_ok-part.ensures.part c.in-Ok.ensures.told
      c.with_lost.ensures.texts c.with_lost.ensures.lost;
}
