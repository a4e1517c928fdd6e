-- The wanted bytes behind the place of the first quote, then the two quotes.
use Rattle.keys.proofs.Writing.{written-script}
use Rattle.keys.proofs.write_script.Goals as goal

pub returns : goal.returns
returns c =
    written-script c.args.table.now c.args.wanted.now c.args.output.now c.requires c.copy_bytes.ensures c.byte_of.ensures c.write_byte.ensures c.byte_of-2.ensures c.write_byte-2.ensures
