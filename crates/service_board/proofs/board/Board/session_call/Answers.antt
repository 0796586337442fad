use Rattle.service_board.proofs.board.Board.session_call.Goals as goal

pub returns-in-SetMaster-clause-does : goal.returns-in-SetMaster-clause-does
returns-in-SetMaster-clause-does g c = rw c.in-SetMaster.is c.set_session.ensures.does

pub returns-in-SetMute-clause-does : goal.returns-in-SetMute-clause-does
returns-in-SetMute-clause-does g c = rw c.in-SetMute.is c.set_session-in-SetMute.ensures.does

pub returns-in-SetChannel-clause-does : goal.returns-in-SetChannel-clause-does
returns-in-SetChannel-clause-does g c = rw c.in-SetChannel.is c.set_session-in-SetChannel.ensures.does

pub returns-in-SetDisplayName-clause-does : goal.returns-in-SetDisplayName-clause-does
returns-in-SetDisplayName-clause-does g c = rw c.in-SetDisplayName.is c.set_session-in-SetDisplayName.ensures.does

pub returns-in-SetIconPath-clause-does : goal.returns-in-SetIconPath-clause-does
returns-in-SetIconPath-clause-does g c = rw c.in-SetIconPath.is c.set_session-in-SetIconPath.ensures.does

pub returns-in-SetGrouping-clause-does : goal.returns-in-SetGrouping-clause-does
returns-in-SetGrouping-clause-does g c = rw c.in-SetGrouping.is c.set_session-in-SetGrouping.ensures.does
