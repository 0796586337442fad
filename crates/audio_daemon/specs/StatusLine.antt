-- What a user is told at the end of the program (this project's own).
use Rattle.std.specs.Prelude.{◌≡◌, ℕ, List, [], ◌++◌, codes, ◌⊎◌}
use Rattle.std.specs.Fmt.{decimal}
use Rattle.ca_base.specs.Faults.{Rose}
use Rattle.ca_base.specs.Standard.{WriterState}
use Rattle.audio_daemon.specs.declared.run.Status.{Status}
use Rattle.audio_daemon.specs.declared.run.Status.TheVariants as status
use Rattle.audio_daemon.specs.declared.status_line.TheConstants.{USAGE}

-- the line of a status on standard error: none if the run is done
abbrev pub line_of : Status → List ℕ
line_of status.Done = []
line_of status.Usage = USAGE.now
line_of (status.Malformed place) = codes "malformed at " ++ decimal place
line_of status.ReadFault = codes "read fault"
line_of status.WriteFault = codes "write fault"
line_of status.NoMemory = codes "no memory"
line_of status.TooLong = codes "input too long"

-- the program ends as its run did, once nothing waits in the output; it ends by a write fault if that fails
abbrev pub Finishes : Status → Status → WriterState → WriterState → Type 0
Finishes ran ended old new =
    ((ended ≡ ran) × (new.waiting ≡ []) × (new.faults ≡ old.faults))
    ⊎ ((ended ≡ status.WriteFault) × Rose old.faults new.faults)
