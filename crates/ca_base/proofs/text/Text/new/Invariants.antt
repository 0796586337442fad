use Rattle.std.proofs.Common.{◌≡◌, ◌-◌, length, take, drop, replicate}
use Rattle.ca_base.proofs.text.Text.new.Given as goal

-- the bytes so far, and zeros behind them
abbrev pub invariant-loop-i : goal.invariant-loop-i
invariant-loop-i l = record {
  whole : length l.padded ≡ 256;
  front : take l.i l.padded ≡ take l.i l.bytes;
  zeros : drop l.i l.padded ≡ replicate (256 - l.i) 0;
}
