-- how a disk stands, as the program keeps it while it replays the record
use Rattle.rep_disk.specs.Record.{State}
use Rattle.rep_disk.specs.declared.standing.Standing.{Standing}

abbrev pub state_of : Standing → State
state_of s = record { seen = s.seen.items; settled = s.settled.items; cells = s.cells.items; least = s.least }
