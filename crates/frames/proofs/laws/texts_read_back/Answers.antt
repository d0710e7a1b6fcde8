use Rattle.frames.proofs.Texts.{texts_read_back_lem}
use Rattle.frames.proofs.laws.texts_read_back.Goals as goal

pub returns : goal.returns
returns c = texts_read_back_lem
