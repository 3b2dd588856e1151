-- The parts of a console.
use Rattle.std.specs.Prelude.{Bool}
use Rattle.intcalc_core.specs.declared.sink.Console.{Console}

-- A console writes to the writer below it.
-- Examples: new over w: w.
abbrev pub writer_of : {W : Type 0} → Console W → W
writer_of console = console.out

-- A console has failed if its writer has.
-- Examples: new: false; after a `put` at which its writer failed: true.
abbrev pub has_failed : {W : Type 0} → Console W → Bool
has_failed console = console.failed

-- A console is finished if `finish` was called, with nothing put since.
-- Examples: new: false; after `put`: false; after `finish`: true.
abbrev pub is_finished : {W : Type 0} → Console W → Bool
is_finished console = console.finished
