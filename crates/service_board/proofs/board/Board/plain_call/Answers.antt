use Rattle.service_board.proofs.board.Board.plain_call.Goals as goal

pub returns-in-GetDefault-clause-does : goal.returns-in-GetDefault-clause-does
returns-in-GetDefault-clause-does g c = rw c.in-GetDefault.is c.get_default.ensures.does

pub returns-in-GetDevice-clause-does : goal.returns-in-GetDevice-clause-does
returns-in-GetDevice-clause-does g c = rw c.in-GetDevice.is c.get_device.ensures.does

pub returns-in-Activate-clause-does : goal.returns-in-Activate-clause-does
returns-in-Activate-clause-does g c = rw c.in-Activate.is c.activate.ensures.does

pub returns-in-GetBufferSize-clause-does : goal.returns-in-GetBufferSize-clause-does
returns-in-GetBufferSize-clause-does g c = rw c.in-GetBufferSize.is c.get_buffer_size.ensures.does

pub returns-in-GetStreamLatency-clause-does : goal.returns-in-GetStreamLatency-clause-does
returns-in-GetStreamLatency-clause-does g c = rw c.in-GetStreamLatency.is c.get_stream_latency.ensures.does

pub returns-in-IsFormatSupported-clause-does : goal.returns-in-IsFormatSupported-clause-does
returns-in-IsFormatSupported-clause-does g c =
    rw c.in-IsFormatSupported.is (rw c.as_slice.ensures at c.is_format_supported.ensures.does)

pub returns-in-GetMixFormat-clause-does : goal.returns-in-GetMixFormat-clause-does
returns-in-GetMixFormat-clause-does g c = rw c.in-GetMixFormat.is c.get_mix_format.ensures.does

pub returns-in-GetDevicePeriod-clause-does : goal.returns-in-GetDevicePeriod-clause-does
returns-in-GetDevicePeriod-clause-does g c = rw c.in-GetDevicePeriod.is c.get_device_period.ensures.does

pub returns-in-Start-clause-does : goal.returns-in-Start-clause-does
returns-in-Start-clause-does g c = rw c.in-Start.is c.start.ensures.does

pub returns-in-Stop-clause-does : goal.returns-in-Stop-clause-does
returns-in-Stop-clause-does g c = rw c.in-Stop.is c.stop.ensures.does

pub returns-in-SetEventHandle-clause-does : goal.returns-in-SetEventHandle-clause-does
returns-in-SetEventHandle-clause-does g c = rw c.in-SetEventHandle.is c.set_event_handle.ensures.does

pub returns-in-GetService-clause-does : goal.returns-in-GetService-clause-does
returns-in-GetService-clause-does g c = rw c.in-GetService.is c.get_service.ensures.does

pub returns-in-GetPosition-clause-does : goal.returns-in-GetPosition-clause-does
returns-in-GetPosition-clause-does g c = rw c.in-GetPosition.is c.get_position.ensures.does

pub returns-in-GetStreamLevel-clause-does : goal.returns-in-GetStreamLevel-clause-does
returns-in-GetStreamLevel-clause-does g c = rw c.in-GetStreamLevel.is c.get_stream_level.ensures.does

pub returns-in-SetStreamLevel-clause-does : goal.returns-in-SetStreamLevel-clause-does
returns-in-SetStreamLevel-clause-does g c = rw c.in-SetStreamLevel.is c.set_stream_level.ensures.does

pub returns-in-Register-clause-does : goal.returns-in-Register-clause-does
returns-in-Register-clause-does g c = rw c.in-Register.is c.register.ensures.does

pub returns-in-Unregister-clause-does : goal.returns-in-Unregister-clause-does
returns-in-Unregister-clause-does g c = rw c.in-Unregister.is c.unregister.ensures.does

pub returns-in-Other-clause-does : goal.returns-in-Other-clause-does
returns-in-Other-clause-does g c = rw c.in-Other.is c.unlisted_call.ensures
