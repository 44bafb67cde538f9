-- The table knows that the name is defined above.
use Rattle.assembler.proofs.Sayings.{label_again}
use Rattle.assembler.proofs.reader.enter_label.Goals as goal

pub returns-in-Here : goal.returns-in-Here
returns-in-Here c =
    let put = c.define.ensures in (label_again c.requires.known c.requires.named put.0 c.in-Here.is, put.1)
