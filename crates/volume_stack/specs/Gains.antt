-- The gains of a stream's channel and of an endpoint's channel: products of levels, rounded down (this project's own).
use Rattle.std.specs.Prelude.{ℕ, ◌*◌, ◌/◌, ◌^◌, ◌≤◌, if◌then◌else◌}
use Rattle.volume_stack.specs.declared.gains.Gains.{Gains}
use Rattle.volume_stack.specs.declared.gains.EndGains.{EndGains}
use Rattle.volume_stack.specs.Scaling.{unit_gain}

-- each level is from 0 to the one that changes nothing (this project's own)
pub record AreLevels (g : Gains) : Type 0 where
  pub stream : g.stream ≤ unit_gain
  pub session : g.session ≤ unit_gain
  pub master : g.master ≤ unit_gain
  pub duck : g.duck ≤ unit_gain

-- the gain of a stream's channel: its stream, session, master and duck level, or 0 if the session is muted (this
-- project's own)
abbrev pub gain_of_stream : Gains → ℕ
gain_of_stream g = if g.mute then 0 else (g.stream * g.session * g.master * g.duck) / unit_gain ^ 3

-- the gain of an endpoint's channel: its master, channel and part level, or 0 if the endpoint or its mute part is muted
-- (this project's own)
abbrev pub gain_of_endpoint : EndGains → ℕ
gain_of_endpoint g = if g.mute then 0 else (g.master * g.channel * g.part) / unit_gain ^ 2
