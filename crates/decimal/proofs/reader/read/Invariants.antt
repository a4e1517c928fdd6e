-- The reader has read the bytes that the loop has passed.
use lib.ListN.{take}
use Rattle.decimal.specs.Reading.{Took}
use Rattle.decimal.proofs.reader.read.Given as goal

abbrev pub invariant-loop-byte : goal.invariant-loop-byte
invariant-loop-byte l = Took (take l.byte-index l.text) l.reader
