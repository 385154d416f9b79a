use Rattle.app_words.proofs.OneOrder.{means_one}
use Rattle.app_words.proofs.laws.words_mean_one_order.Goals as goal

pub returns : goal.returns
returns c = means_one
