use Rattle.nfs_pace.proofs.InTurn as in_turn
use Rattle.nfs_pace.proofs.laws.take_turns.Goals as goal

pub returns-clause-next : goal.returns-clause-next
returns-clause-next c = in_turn.take_turns

pub returns-clause-wrong : goal.returns-clause-wrong
returns-clause-wrong c = in_turn.starves
