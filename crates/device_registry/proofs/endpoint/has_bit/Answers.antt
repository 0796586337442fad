use Rattle.device_registry.proofs.Bits.{tests_bit}
use Rattle.device_registry.proofs.endpoint.has_bit.Goals as goal

pub returns : goal.returns
returns c = tests_bit c.args.mask c.args.state c.requires
