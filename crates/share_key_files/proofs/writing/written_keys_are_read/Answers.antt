use Rattle.share_key_files.proofs.Written.{lines_are_read}
use Rattle.share_key_files.proofs.writing.written_keys_are_read.Goals as goal

pub returns : goal.returns
returns c = lines_are_read
