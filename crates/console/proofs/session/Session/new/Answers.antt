use Rattle.console.proofs.Dialogues.{started}
use Rattle.console.proofs.session.Session.new.Goals as goal

pub returns : goal.returns
returns c = started _ c.new.ensures c.new-2.ensures
