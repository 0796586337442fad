use borrow.Author.Tests.{le-leb, lt-leb}
use Rattle.service_book.proofs.Supporting.{admits_fault, admits_format, admits_none, is_no_format}
use Rattle.service_book.proofs.formats.admitted.Goals as goal

pub returns-then-admits : goal.returns-then-admits
returns-then-admits c =
    admits_format c.args.share c.args.mix.now c.args.bytes.now c.in-Ok.format c.in-Ok.ensures c.if-admits.ensures

pub returns-else-admits : goal.returns-else-admits
returns-else-admits c =
    admits_none c.args.share c.args.mix.now c.args.bytes.now c.in-Ok.format c.in-Ok.ensures c.if-admits.ensures

pub returns-then-fault-le2 : goal.returns-then-fault-le2
returns-then-fault-le2 c =
    is_no_format c.args.share c.args.mix.now c.args.bytes.now c.in-Err.fault c.in-Err.ensures
    (le-leb c.in-Err.fault.0 2 c.if-fault-le2.true)

pub returns-else-fault-le2 : goal.returns-else-fault-le2
returns-else-fault-le2 c =
    admits_fault c.args.share c.args.mix.now c.args.bytes.now c.in-Err.fault c.in-Err.ensures
    (lt-leb c.in-Err.fault.0 2 c.if-fault-le2.false)
