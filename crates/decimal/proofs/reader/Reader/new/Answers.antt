-- A new reader has taken nothing.
use Rattle.decimal.proofs.Reading.{took_none}
use Rattle.decimal.proofs.reader.Reader.new.Goals as goal

pub returns : goal.returns
returns c = took_none
