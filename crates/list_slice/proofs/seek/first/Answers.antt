-- `list_slice::first` tests refusals 1 to 5 and then answers the first child. Assumes nothing.
use Rattle.list_slice.proofs.FirstSought.{sought_first}
use Rattle.list_slice.proofs.seek.first.Goals as goal

pub returns : goal.returns
returns c = sought_first _ _ _ _ _ c.admit_node.ensures c.in_ok-admit_node.was c.first_child.ensures
