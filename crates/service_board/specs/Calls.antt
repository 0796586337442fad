-- Groups of calls, by what else they touch than the board (this project's own).
use Rattle.ca_model.specs.declared.event.Call.{Call}
use Rattle.ca_model.specs.declared.event.Call.TheVariants as call

-- a call that opens no stream, needs nothing of the client's side, gives no frame a fate, and answers a few bytes
abbrev pub IsPlainCall : Call → Type 0
IsPlainCall (call.Release c) = ⊥
IsPlainCall (call.Initialize c share flags duration period format session) = ⊥
IsPlainCall (call.GetCurrentPadding c) = ⊥
IsPlainCall (call.Reset c) = ⊥
IsPlainCall (call.GetBuffer c frames) = ⊥
IsPlainCall (call.ReleaseBuffer c frames flags bytes) = ⊥
IsPlainCall (call.GetNextPacketSize c) = ⊥
IsPlainCall (call.CaptureGetBuffer c) = ⊥
IsPlainCall (call.CaptureReleaseBuffer c frames) = ⊥
IsPlainCall (call.EnumSessions e) = ⊥
IsPlainCall (call.EnumEndpoints flow mask) = ⊥
IsPlainCall (call.DeviceInfo e) = ⊥
IsPlainCall (call.TakeNotices max) = ⊥
IsPlainCall (call.AwaitNotices max) = ⊥
IsPlainCall (call.GetSession s) = ⊥
IsPlainCall _ = Unit {0}

-- a call whose payload is a few bytes
abbrev pub IsSmallCall : Call → Type 0
IsSmallCall (call.CaptureGetBuffer c) = ⊥
IsSmallCall (call.EnumSessions e) = ⊥
IsSmallCall (call.GetSession s) = ⊥
IsSmallCall (call.EnumEndpoints flow mask) = ⊥
IsSmallCall (call.DeviceInfo e) = ⊥
IsSmallCall (call.TakeNotices max) = ⊥
IsSmallCall (call.AwaitNotices max) = ⊥
IsSmallCall _ = Unit {0}

-- a call that changes a session
abbrev pub IsSessionCall : Call → Type 0
IsSessionCall (call.SetMaster s level context) = Unit {0}
IsSessionCall (call.SetMute s mute context) = Unit {0}
IsSessionCall (call.SetChannel s channel level context) = Unit {0}
IsSessionCall (call.SetDisplayName s context text) = Unit {0}
IsSessionCall (call.SetIconPath s context text) = Unit {0}
IsSessionCall (call.SetGrouping s grouping context) = Unit {0}
IsSessionCall _ = ⊥
