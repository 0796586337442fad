use Rattle.service_board.proofs.board.Board.device.Goals as goal

pub returns-in-Add-clause-does : goal.returns-in-Add-clause-does
returns-in-Add-clause-does g c = rw c.in-Add.is (rw c.as_slice.ensures at c.add.ensures.does)

pub returns-in-SetState-clause-does : goal.returns-in-SetState-clause-does
returns-in-SetState-clause-does g c = rw c.in-SetState.is c.set_state.ensures.does

pub returns-in-Remove-clause-does : goal.returns-in-Remove-clause-does
returns-in-Remove-clause-does g c = rw c.in-Remove.is c.remove.ensures.does

pub returns-in-SetFormat-clause-does : goal.returns-in-SetFormat-clause-does
returns-in-SetFormat-clause-does g c =
    rw c.in-SetFormat.is (rw c.as_slice-in-SetFormat.ensures at c.set_format.ensures.does)

pub returns-in-SetDefault-clause-does : goal.returns-in-SetDefault-clause-does
returns-in-SetDefault-clause-does g c = rw c.in-SetDefault.is c.set_default.ensures.does

pub returns-in-SetExclusive-clause-does : goal.returns-in-SetExclusive-clause-does
returns-in-SetExclusive-clause-does g c = rw c.in-SetExclusive.is c.set_exclusive.ensures.does

pub returns-in-SetName-clause-does : goal.returns-in-SetName-clause-does
returns-in-SetName-clause-does g c = rw c.in-SetName.is c.set_name.ensures.does

pub returns-in-Other-clause-does : goal.returns-in-Other-clause-does
returns-in-Other-clause-does g c = rw c.in-Other.is c.unlisted_event.ensures
